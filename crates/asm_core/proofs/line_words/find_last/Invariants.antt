use Rattle.std.proofs.Common.{◌≡◌, ◌≤◌, true, not, eqb, drop, length}
use Rattle.std.specs.List.{list_all}
use Rattle.asm_core.proofs.line_words.find_last.Given as goal

abbrev pub invariant-bytes : goal.invariant-bytes
invariant-bytes l = record {
  within : l.end ≤ length l.code;
  none : list_all (λ byte. not (eqb byte l.mark)) (drop l.end l.code) ≡ true;
}

abbrev pub decreases-bytes : goal.decreases-bytes
decreases-bytes l = l.end
