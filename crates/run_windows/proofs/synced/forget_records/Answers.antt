use Rattle.std.proofs.Common.{refl}
use Rattle.run_windows.proofs.synced.forget_records.Goals as goal

pub returns-clause-synced : goal.returns-clause-synced
returns-clause-synced g c = record {
  placed = c.lemma_range.ensures.placed;
  phase = c.lemma_range.ensures.phase;
  empty = rw c.clear_trails.ensures (record { strokes = refl; levels1 = refl; levels2 = refl; written = refl });
  settled = rw c.clear_trails.ensures c.requires.settled;
}
