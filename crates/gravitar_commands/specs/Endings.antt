-- How a run ends, and its status.
use Rattle.std.specs.Prelude.{ℕ, Option, Some, None}
use Rattle.gravitar_commands.specs.declared.failure.Ending.{Ending}
use Rattle.gravitar_commands.specs.declared.failure.Ending.TheVariants.{Done, Jammed}

-- by the opcode that jammed its last board
abbrev pub ending_by : Option ℕ → Ending
ending_by (Some opcode) = Jammed
ending_by None = Done

-- the status of a run that ended
abbrev pub status_of_ending : Ending → ℕ
status_of_ending Done = 0
status_of_ending Jammed = 3
