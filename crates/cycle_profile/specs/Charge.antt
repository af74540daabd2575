-- What a sequence is charged. It is this project's own.
use Rattle.std.specs.Prelude.{ℕ, take}
use Rattle.std.specs.List.{count_by}
use Rattle.lockstep_board.specs.Budget.{reaches_device}
use Rattle.catchup_engine.specs.Trace.{TraceValue, made_of}

-- the accesses of a trace that reach a device
abbrev pub device_accesses : TraceValue → ℕ
device_accesses trace = count_by (λ access. reaches_device (made_of access)) (take trace.count trace.accesses)
