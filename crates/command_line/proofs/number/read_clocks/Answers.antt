use Rattle.std.proofs.Common.{lit<, refl, sym, ap, ◌∙◌, arith}
use Rattle.std.proofs.lemmas.Grind.{common_steps}
use Rattle.std.proofs.lemmas.Iterator.Consumers.{YieldsList-turn, YieldsList-end}
use Rattle.std.proofs.lemmas.Iterator.Splits.{YieldsList-from_str_split}
use Rattle.std.proofs.lemmas.List.{length_push}
use Rattle.command_line.specs.Numbers.{number_of}
use Rattle.command_line.proofs.ClockLaws.{clocks_are_listed}
use Rattle.command_line.proofs.Listed.{all_taken, refused, taken, too_many}
use Rattle.command_line.proofs.number.read_clocks.Goals as goal

pub returns-in_err-clock-clause-clocks : goal.returns-in_err-clock-clause-clocks
returns-in_err-clock-clause-clocks c =
    let unread = ap number_of (sym c.as_bytes.ensures.value) ∙ sym c.read_number.ensures ∙ c.in_err-clock.was in
    let turn = YieldsList-turn (YieldsList-from_str_split 44 c.args.word.now (lit< tt) (cc) (cc) (cc)) _ _ c.loop-part.yielded_by _ _ _ c.in-Some.is c.next.ensures.steps in
    let none = refused c.args.word.now c.loop-part.clocks.items _ _ turn unread c.loop-part.invariant.all in
    rw (c.from_residual.ensures, none) refl

pub returns-then-is_full-clause-clocks : goal.returns-then-is_full-clause-clocks
returns-then-is_full-clause-clocks c =
    let read = ap number_of (sym c.as_bytes.ensures.value) ∙ sym c.read_number.ensures ∙ c.in_ok-clock.was in
    let turn = YieldsList-turn (YieldsList-from_str_split 44 c.args.word.now (lit< tt) (cc) (cc) (cc)) _ _ c.loop-part.yielded_by _ _ _ c.in-Some.is c.next.ensures.steps in
    sym (too_many c.args.word.now c.loop-part.clocks.items c.in_ok-clock.clock _ _ turn read (grind (arith, common_steps)) c.loop-part.invariant.all)

pub loop-part-preserved : goal.loop-part-preserved
loop-part-preserved c =
    let read = ap number_of (sym c.as_bytes.ensures.value) ∙ sym c.read_number.ensures ∙ c.in_ok-clock.was in
    let turn = YieldsList-turn (YieldsList-from_str_split 44 c.args.word.now (lit< tt) (cc) (cc) (cc)) _ _ c.loop-part.yielded_by _ _ _ c.in-Some.is c.next.ensures.steps in
    let more = taken c.loop-part.clocks.items c.in_ok-clock.clock _ _ _ turn read in
    record {
      all = rw (c.push.ensures.items, length_push c.loop-part.yielded c.in-Some.part) (sym more ∙ c.loop-part.invariant.all);
      fits = grind (arith, common_steps);
    }

pub returns-clause-clocks : goal.returns-clause-clocks
returns-clause-clocks c =
    let end = YieldsList-end (YieldsList-from_str_split 44 c.args.word.now (lit< tt) (cc) (cc) (cc)) c.loop-part.yielded _ c.loop-part.yielded_by _ _ c.in-None.is c.next.ensures.steps in
    all_taken c.args.word.now c.loop-part.clocks.items _ end.1 c.loop-part.invariant.fits c.loop-part.invariant.all

pub returns-clause-listed : goal.returns-clause-listed
returns-clause-listed c =
    clocks_are_listed c.args.word.now c.loop-part.clocks.items (sym (returns-clause-clocks c))
