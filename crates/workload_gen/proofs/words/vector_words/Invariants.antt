use Rattle.std.proofs.Common.{◌≡◌, ◌∷◌, length}
use Rattle.workload_gen.specs.Draws.{number_after}
use Rattle.workload_gen.specs.Words.{choices_before, drawn_words}
use Rattle.workload_gen.proofs.words.vector_words.Given as goal

abbrev pub invariant-vectors : goal.invariant-vectors
invariant-vectors l = record {
  words : l.words.items ≡ 0x8000 ∷ drawn_words l.fn.draws (choices_before l.k);
  number : l.draws ≡ number_after l.fn.draws (length (choices_before l.k));
}
