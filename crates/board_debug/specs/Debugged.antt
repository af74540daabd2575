-- What running a script does. This project's own choice.
use Rattle.std.specs.Prelude.{◌≡◌, ℕ, List, Option, Result, Ok, Err, take}
use Rattle.outside_io.specs.Causes.{Raised}
use Rattle.outside_io.specs.Known.{grown}
use Rattle.tape_ports.specs.Tape.{TapeValue}
use Rattle.catchup_engine.specs.EngineValue.{EngineValue}
use Rattle.debug_script.specs.declared.command.Command.{Command}
use Rattle.debug_script.specs.Script.{script_of}
use Rattle.debug_script.specs.Breakpoints.{no_stops}
use Rattle.board_debug.specs.declared.fault.DebugFault.{DebugFault}
use Rattle.board_debug.specs.declared.fault.DebugFault.TheVariants.{BadCommand, SinkFault, OutOfMemory}
use Rattle.run_windows.specs.Synced.{IsSynced}
use Rattle.board_debug.specs.Session.{session_board, session_text}

-- the whole text of these commands was written, and the engine represents the board that they leave
pub record RanWhole (tape : TapeValue) (commands : List Command) (before now : EngineValue) (out0 out1 : Option (List ℕ)) (faults0 faults1 : ℕ) : Type 0 where
  pub text : out1 ≡ grown out0 (session_text tape no_stops commands before.board)
  pub faults : faults1 ≡ faults0
  pub board : now.board ≡ session_board tape no_stops commands before.board
  pub rest : IsSynced now

-- a first part of it was written, before a fault of the output
pub record RanPart (tape : TapeValue) (commands : List Command) (before : EngineValue) (out0 out1 : Option (List ℕ)) (faults0 faults1 : ℕ) : Type 0 where
  pub text : (k : ℕ) × (out1 ≡ grown out0 (take k (session_text tape no_stops commands before.board)))
  pub faults : Raised faults0 faults1

-- nothing was run or written
pub record RanNothing (before now : EngineValue) (out0 out1 : Option (List ℕ)) (faults0 faults1 : ℕ) : Type 0 where
  pub engine : now ≡ before
  pub text : out1 ≡ out0
  pub faults : faults1 ≡ faults0

-- A script whose lines all have a form is run; else its first malformed line is reported, before
-- anything is run.
abbrev pub Debugs : TapeValue → List ℕ → EngineValue → EngineValue → Option (List ℕ) → Option (List ℕ) → ℕ → ℕ → Result (Unit {0}) DebugFault → Type 0
Debugs tape script before now out0 out1 faults0 faults1 (Ok _) =
    (commands : List Command) × (script_of script ≡ Ok commands) × RanWhole tape commands before now out0 out1 faults0 faults1
Debugs tape script before now out0 out1 faults0 faults1 (Err (BadCommand number)) =
    (script_of script ≡ Err number) × RanNothing before now out0 out1 faults0 faults1
Debugs tape script before now out0 out1 faults0 faults1 (Err SinkFault) =
    (commands : List Command) × (script_of script ≡ Ok commands) × RanPart tape commands before out0 out1 faults0 faults1
Debugs tape script before now out0 out1 faults0 faults1 (Err OutOfMemory) = RanNothing before now out0 out1 faults0 faults1
