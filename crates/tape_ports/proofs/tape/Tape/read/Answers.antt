-- Each line's meaning takes the definition one line on, or ends it.
use Rattle.std.proofs.Common.{◌≡◌, ◌<◌, Ok, length, subst, arith}
use Rattle.std.proofs.lemmas.Grind.{common_steps}
use Rattle.std.proofs.lemmas.List.{nil_from_length}
use Rattle.tape_ports.specs.declared.line.Line.{Line}
use Rattle.tape_ports.specs.declared.line.Line.TheVariants.{Entry, End}
use Rattle.plain_text.specs.Lines.{words_of}
use Rattle.tape_ports.specs.Grammar.{ComesAfter, tape_line_of}
use Rattle.tape_ports.proofs.Reading.{ReadSoFar-entry, tape_of-end, tape_of-after_end, tape_of-bad, tape_of-no_end}
use Rattle.tape_ports.proofs.tape.Tape.read.Goals as goal

pub returns-in-Ok-End : goal.returns-in-Ok-End
returns-in-Ok-End c =
    let said : Ok (End c.in-Ok-End.end) ≡ tape_line_of c.lines.before (words_of c.read_line.result.0.now) = cc in
    let none : length c.read_line.result.1.now ≡ 0 = grind (arith, common_steps) in
    (omega arith, tape_of-end _ _ _ _ _ _ _ c.lines.invariant c.read_line.ensures.lines c.read_line.ensures.shorter _ said (nil_from_length _ none))

pub returns-in-Ok-End-2 : goal.returns-in-Ok-End-2
returns-in-Ok-End-2 c =
    let said : Ok (End c.in-Ok-End.end) ≡ tape_line_of c.lines.before (words_of c.read_line.result.0.now) = cc in
    let some : 0 < length c.read_line.result.1.now = grind (arith, common_steps) in
    (omega arith, tape_of-after_end _ _ _ _ _ _ _ c.lines.invariant c.read_line.ensures.lines c.read_line.ensures.shorter _ said some)

pub returns-in-Err : goal.returns-in-Err
returns-in-Err c =
    (omega arith, tape_of-bad _ _ _ _ _ _ _ c.lines.invariant c.read_line.ensures.lines c.read_line.ensures.shorter _ c.in-Err.ensures.line)

pub lines-preserved : goal.lines-preserved
lines-preserved c =
    let said : Ok (Entry c.in-Ok-Entry.entry) ≡ tape_line_of c.lines.before (words_of c.read_line.result.0.now) = cc in
    let good : ComesAfter c.lines.before (Entry c.in-Ok-Entry.entry) =
    let P : Line → Type 0 = λ line. ComesAfter c.lines.before line in subst P c.in-Ok-Entry.field-0-is c.in-Ok-Entry.ensures.after in
    ReadSoFar-entry _ _ _ _ _ _ _ c.lines.invariant c.read_line.ensures.lines c.read_line.ensures.shorter _ _ said good (grind (arith, common_steps))

pub returns : goal.returns
returns c =
    let none : length c.lines.rest.now ≡ 0 = grind (arith, common_steps) in
    (omega arith, tape_of-no_end _ _ _ _ _ c.lines.invariant none)
