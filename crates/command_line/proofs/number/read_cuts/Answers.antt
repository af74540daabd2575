use Rattle.std.proofs.Common.{sym}
use Rattle.std.proofs.lemmas.List.Sorted.{non_decreasing_from_is_sorted}
use Rattle.command_line.proofs.Listed.{cuts_refused, cuts_taken}
use Rattle.command_line.proofs.number.read_cuts.Goals as goal

pub returns-then-not-is_sorted : goal.returns-then-not-is_sorted
returns-then-not-is_sorted c =
    cuts_refused c.args.word.now _ c.is_sorted.result (sym c.in_ok-cuts.ensures.clocks) (rw (← c.as_slice.ensures.value) (non_decreasing_from_is_sorted _ _ c.is_sorted.ensures.cases)) (cc)

pub returns : goal.returns
returns c =
    cuts_taken c.args.word.now _ c.is_sorted.result (sym c.in_ok-cuts.ensures.clocks) (rw (← c.as_slice.ensures.value) (non_decreasing_from_is_sorted _ _ c.is_sorted.ensures.cases)) (cc)
