use Rattle.std.proofs.Common.{◌≡◌, ◌≤◌, vec_len, vec_capacity}
use Rattle.keyframes.specs.Store.{AreRows}
use Rattle.keyframes.proofs.store.empty_rows.Given as goal

-- the rows that were made, with the memory for all
abbrev pub invariant-loop : goal.invariant-loop
invariant-loop l = AreRows l.rows.items × (vec_len l.rows ≡ l.counter) × (l.fn.count ≤ vec_capacity l.rows)
