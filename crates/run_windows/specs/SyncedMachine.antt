-- What clauses see of a lent machine that is synchronised.
use Rattle.std.specs.Prelude.{ℕ}
use Rattle.catchup_engine.specs.EngineValue.{EngineValue}
use Rattle.catchup_engine.specs.declared.machine.Machine as machine
use Rattle.run_windows.specs.declared.synced.SyncedMachine.{SyncedMachine}

module _ {M : Type 0} {m : machine.Ghosts M} where
  -- what it is to its callers
  abbrev pub value_of : SyncedMachine M m → EngineValue
  value_of s = m.value s.machine.now

  -- the name of the loan, which stays the same
  abbrev pub loan_of : SyncedMachine M m → ℕ
  loan_of s = s.machine.ghost_name
