-- Why a request isn't read. This project's own.
use Rattle.std.specs.Prelude.{◌≡◌, ℕ, Result, Err}
use Rattle.command_calls.specs.declared.reading.RequestFault.{RequestFault}
use Rattle.command_calls.specs.declared.reading.RequestFault.TheVariants.{Malformed, NoMemory}

-- a malformed request is one that reads so, and memory may run out
abbrev pub Answers : {A : Type 0} → RequestFault → Result A ℕ → Type 0
Answers (Malformed left) read = read ≡ Err left
Answers NoMemory read = Unit {0}
