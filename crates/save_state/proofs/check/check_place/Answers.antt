use Rattle.std.proofs.Common.{◌==◌, [], false, take, drop, refl, arith, slice_index}
use Rattle.std.proofs.lemmas.List.Elements.{All-nil, All-cons, All-append}
use Rattle.save_state.specs.Reading.{Holds}
use Rattle.save_state.specs.StateBytes.{processor_of, middle_rows}
use Rattle.save_state.proofs.Tables.{Rows, no_row, done_most, early, sooner, later}
use Rattle.save_state.proofs.check.check_place.Goals as goal

abbrev start : Rows
start = take 2 (middle_rows false)

abbrev end : Rows
end = drop 2 (middle_rows false)

pub returns-in_err-check : goal.returns-in_err-check
returns-in_err-check c = early c.from_residual.result _ _ _ c.from_residual.ensures.1 (sooner c.args.version c.args.file.now start end _ (c.in_err-check.ensures start refl))

pub is_place-requires-clause-count : goal.is_place-requires-clause-count
is_place-requires-clause-count c =
    done_most (processor_of c.args.file.now) (slice_index c.args.file.now 30 == 0) c.args.file.now (c.in_ok-check.ensures start refl 1 no_row (omega arith))

pub returns-then-not-is_place : goal.returns-then-not-is_place
returns-then-not-is_place c =
    let P = Holds c.args.version c.args.file.now in
    later c.args.version c.args.file.now start end 32 (c.in_ok-check.ensures start refl)
    (record { before = []; broken = _; after = []; order = refl; good = All-nil P; bad = λ h. let e = c.is_place.ensures.1 h in absurd cc; here = refl })

pub returns : goal.returns
returns c =
    let P = Holds c.args.version c.args.file.now in
    All-append P start end (c.in_ok-check.ensures start refl) (All-cons P _ [] (c.is_place.ensures.0 c.if-not-is_place.false) (All-nil P))
