use Rattle.std.proofs.Common.{refl}
use Rattle.run_windows.proofs.synced.load_synced.Goals as goal

pub returns-clause-synced : goal.returns-clause-synced
returns-clause-synced g c = record {
  placed = c.lemma_range.ensures.placed;
  phase = c.lemma_range.ensures.phase;
  empty = rw c.load.ensures.value (record { strokes = refl; levels1 = refl; levels2 = refl; written = refl });
  settled = rw c.load.ensures.value c.requires.synced.settled;
}
