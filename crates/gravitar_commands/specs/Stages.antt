-- What the stages of a command promise.
use Rattle.std.specs.Prelude.{◌≡◌, ℕ, ◌≤◌, Bool, List, [], Option, Some, Result, Ok, Err, IfSome, IfOk, IfErr, take, string_bytes}
use Rattle.outside_io.specs.Causes.{Rose, Raised}
use Rattle.outside_io.specs.Known.{grown}
use Rattle.outside_io.specs.declared.answers.SinkFault.{SinkFault}
use Rattle.outside_io.specs.Seen.{Seen, SameLoans, HostDid, HostDidFirst, HostDidNothing, NoFault, Faulted}
use Rattle.outside_io.specs.Shelf.{Files}
use Rattle.tape_ports.specs.declared.entry.TapeEntry.{TapeEntry}
use Rattle.lockstep_board.specs.Lockstep.{Board}
use Rattle.command_line.specs.CommandValue.{CommandValue, RunValue}
use Rattle.command_line.specs.SettingsValue.{SettingsValue}
use Rattle.gravitar_commands.specs.declared.parts.Parts.{Parts}
use Rattle.gravitar_commands.specs.declared.failure.Failure.{Failure}
use Rattle.gravitar_commands.specs.declared.failure.Failure.TheVariants.{Bad, Absent, Outside, NoMemory}
use Rattle.gravitar_commands.specs.declared.failure.Ending.{Ending}
use Rattle.gravitar_commands.specs.declared.failure.Ending.TheVariants.{Done}
use Rattle.gravitar_commands.specs.Endings.{status_of_ending}
use Rattle.gravitar_commands.specs.Outcome.{ComesOf, ForReading, Outcome, RunWithinBudget, debug_outcome, outside_text, finished, memory_text, read_as, refused, run_files}
use Rattle.gravitar_commands.specs.Outcome.{run_outcome, script_file, script_read, report_outcome}

-- the status of a command that stopped
abbrev pub status_of : Failure → ℕ
status_of (Bad note) = 4
status_of (Absent note) = 5
status_of Outside = 6
status_of NoMemory = 7

-- its note
abbrev pub note_of : Failure → List ℕ
note_of (Bad note) = string_bytes note
note_of (Absent note) = string_bytes note
note_of Outside = outside_text
note_of NoMemory = memory_text

-- a stage that writes nothing: its answer is the one that is defined over the files, or a fault or
-- lack of memory
abbrev pub Refuses : {B : Type 0} → Result B Outcome → Failure → Type 0
Refuses defined Outside = Unit {0}
Refuses defined NoMemory = Unit {0}
Refuses defined failure = defined ≡ Err (refused (status_of failure) (note_of failure))

abbrev pub Gives : {A B : Type 0} → (A → B) → Result B Outcome → Result A Failure → Type 0
Gives view defined (Ok a) = defined ≡ Ok (view a)
Gives view defined (Err failure) = Refuses defined failure

-- a script's bytes, which are still to be read, or what stopped them
abbrev pub GivesScript : {V : Type 0} → (V → List ℕ) → Files → List ℕ → Result V Failure → Type 0
GivesScript view files name (Ok bytes) = script_file files name ≡ read_as name (script_read (view bytes))
GivesScript view files name (Err failure) = Refuses (script_file files name) failure

-- what a script's bytes come to in a session
abbrev pub session_outcome : Bool → List ℕ → Parts → List ℕ → Outcome
session_outcome wired name parts bytes = finished (read_as name (script_read bytes)) (debug_outcome wired parts)

-- only an I/O fault has raised the count, and it always has
abbrev pub FailureFaults : ℕ → ℕ → Failure → Type 0
FailureFaults before now Outside = Raised before now
FailureFaults before now _ = now ≡ before

abbrev pub StageFaults : {A : Type 0} → ℕ → ℕ → Result A Failure → Type 0
StageFaults before now (Ok _) = now ≡ before
StageFaults before now (Err failure) = FailureFaults before now failure

-- absent comes only where the count of absences rose
abbrev pub FailureAbsences : ℕ → ℕ → Failure → Type 0
FailureAbsences before now (Absent _) = Raised before now
FailureAbsences before now _ = before ≤ now

abbrev pub StageAbsences : {A : Type 0} → ℕ → ℕ → Result A Failure → Type 0
StageAbsences before now (Ok _) = before ≤ now
StageAbsences before now (Err failure) = FailureAbsences before now failure

-- what comes of an outcome by a failure: a first part of it was done before an I/O fault
abbrev pub FailureEnds : Outcome → Seen → Seen → Failure → Type 0
FailureEnds outcome before now Outside = HostDidFirst outcome.events before now
FailureEnds outcome before now NoMemory = Unit {0}
FailureEnds outcome before now failure = outcome ≡ refused (status_of failure) (note_of failure)

-- all that is defined was done, or it failed
pub record HostEnds (outcome : Outcome) (before now : Seen) (result : Result Ending Failure) : Type 0 where
  pub done : IfOk result (λ ending. (outcome.status ≡ status_of_ending ending) × (outcome.note ≡ []) × HostDid outcome.events before now)
  pub failed : IfErr result (λ failure. FailureEnds outcome before now failure)

-- the same of a command, whose outcome its words and files fix
abbrev pub Performs : CommandValue → Seen → Seen → Result Ending Failure → Type 0
Performs command before now result = ComesOf (Some command) before.files (λ outcome. HostEnds outcome before now result)

-- the same of a run that is reported in another way
abbrev pub Reports : RunValue → (List TapeEntry → ℕ → Board → List ℕ) → Seen → Seen → Result Ending Failure → Type 0
Reports run text before now result =
    IfSome before.files (λ files. ForReading run.settings.state files (λ reading.
    HostEnds (finished (run_files files run reading) (report_outcome run.settings text)) before now result))

-- the result of a command whose text was written, or wasn't
abbrev pub written_as : Result (Unit {0}) SinkFault → Result Ending Failure
written_as (Ok _) = Ok Done
written_as (Err _) = Err Outside

-- a text was written, or a first part of it before an I/O fault, or nothing for lack of memory
abbrev pub Wrote : Option (List ℕ) → Option (List ℕ) → List ℕ → Result Ending Failure → Type 0
Wrote out0 out1 text (Ok ending) = (ending ≡ Done) × (out1 ≡ grown out0 text)
Wrote out0 out1 text (Err Outside) = (k : ℕ) × (out1 ≡ grown out0 (take k text))
Wrote out0 out1 text (Err NoMemory) = out1 ≡ out0
Wrote out0 out1 text (Err _) = ⊥

-- nothing was written or stored, except after a success or an I/O fault
abbrev pub WroteNothing : Seen → Seen → Result Ending Failure → Type 0
WroteNothing before now (Ok _) = Unit {0}
WroteNothing before now (Err Outside) = Unit {0}
WroteNothing before now (Err failure) = HostDidNothing before now

-- an I/O fault is one of the shelf or of the output, and nothing else has raised their counts
abbrev pub HostFaults : Seen → Seen → Result Ending Failure → Type 0
HostFaults before now (Ok _) = NoFault before now
HostFaults before now (Err Outside) = Faulted before now
HostFaults before now (Err _) = NoFault before now

-- what holds of a host after a command, whatever its files are
pub record Keeps (before now : Seen) (result : Result Ending Failure) : Type 0 where
  pub loans : SameLoans before now
  pub wrote_nothing : WroteNothing before now result
  pub faults : HostFaults before now result
  pub absences : StageAbsences before.absences now.absences result

-- the notes took all of a text, or a prefix of it where a write failed
pub record Noted (notes0 notes1 : Option (List ℕ)) (faults0 faults1 : ℕ) (text : List ℕ) : Type 0 where
  pub later : faults0 ≤ faults1
  pub part : (k : ℕ) × (notes1 ≡ grown notes0 (take k text))
  pub whole : ¬ Rose faults0 faults1 → notes1 ≡ grown notes0 text

-- a bad file with this note, or lack of memory for the note
abbrev pub IsBadOrMemory : List ℕ → Failure → Type 0
IsBadOrMemory text (Bad note) = string_bytes note ≡ text
IsBadOrMemory text NoMemory = Unit {0}
IsBadOrMemory text _ = ⊥

-- what comes of a run of these parts, with some number of device calls within the budget
pub record RunEnds (said : SettingsValue) (parts : Parts) (before now : Seen) (result : Result Ending Failure) : Type 0 where
  pub calls : ℕ
  pub within_budget : RunWithinBudget said parts calls
  pub ends : HostEnds (run_outcome said parts calls) before now result
