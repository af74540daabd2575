-- What comes of the bytes of a file that is read as a board.
use Rattle.std.proofs.Common.{◌≡◌, ℕ, ◌+◌, ◌≤◌, List, take, Option, Some, None, Result, Ok, Err, IfSome, sym, ap, arith}
use Rattle.board_base.specs.Board.{BoardValue}
use Rattle.outside_io.specs.Shelf.{Files}
use Rattle.save_state.specs.declared.TheConstants.{STATE_LEN}
use Rattle.save_state.specs.declared.fault.StateFault.{StateFault}
use Rattle.save_state.specs.Reading.{ReadsState}
use Rattle.gravitar_commands.specs.declared.cause.Cause.{Cause}
use Rattle.gravitar_commands.specs.declared.failure.Failure.{Failure}
use Rattle.gravitar_commands.specs.declared.failure.Failure.TheVariants.{Bad, Absent, Outside, NoMemory}
use Rattle.gravitar_commands.specs.Causes.{cause_text}
use Rattle.gravitar_commands.specs.Outcome.{ForReading, first_bytes, note_text, read_as, refused, state_file, state_read}
use Rattle.gravitar_commands.specs.Stages.{Gives, IsBadOrMemory, Refuses, StageAbsences, FailureAbsences}

-- a file that came with these bytes
abbrev Came : Option Files → List ℕ → ℕ → List ℕ → Type 0
Came known name limit bytes = IfSome known (λ files. first_bytes name limit (files name) ≡ Ok bytes)

came-reads : (whole : Option (List ℕ)) (name bytes : List ℕ) (reading : Result BoardValue StateFault) → first_bytes name STATE_LEN whole ≡ Ok bytes
    → IfSome whole (λ w. ReadsState (take (STATE_LEN + 1) w) reading) → ReadsState bytes reading
came-reads None name bytes reading came reads = absurd (not_err came)
  where
    not_err : {A E : Type 0} {e : E} {a : A} → (let r : Result A E = Err e in r) ≡ Ok a → ⊥
    not_err h = cc
came-reads (Some whole) name bytes reading came reads =
    let same : take (STATE_LEN + 1) whole ≡ bytes = cc in
    rw (sym same) reads

-- what comes of a state file is what comes of its bytes
pub state-came : (known : Option Files) (name bytes held : List ℕ) (result : Result BoardValue Failure) → Came known name STATE_LEN bytes → held ≡ bytes
    → ((reading : Result BoardValue StateFault) → ReadsState held reading → Gives (λ board. board) (read_as name (state_read reading)) result)
    → IfSome known (λ files. ForReading (Some name) files (λ reading. Gives (λ board. board) (state_file files name reading) result))
unfolding state_file
state-came None name bytes held result came same reads = tt
state-came (Some files) name bytes held result came same reads = λ reading is.
    rw came (reads reading (rw same (came-reads (files name) name bytes reading came is)))

-- a file that is bad, or out of memory for the note on it
pub refused-as : (name : List ℕ) (cause : Cause) (failure : Failure) → IsBadOrMemory (note_text name (cause_text cause)) failure
    → Refuses {B = BoardValue} (read_as name (Err cause)) failure
refused-as name cause (Bad note) is = ap (λ text. Err (refused 4 text)) (sym is)
refused-as name cause (Absent note) is = absurd is
refused-as name cause Outside is = absurd is
refused-as name cause NoMemory is = tt

pub bad-absences : (text : List ℕ) (n : ℕ) (failure : Failure) → IsBadOrMemory text failure → FailureAbsences n n failure
bad-absences text n (Bad note) is = omega arith
bad-absences text n (Absent note) is = absurd is
bad-absences text n Outside is = absurd is
bad-absences text n NoMemory is = omega arith

-- a stage that raised no count of absences, after one that may have raised it
pub absences-after : {A : Type 0} (before now : ℕ) (result : Result A Failure) → before ≤ now → StageAbsences now now result → StageAbsences before now result
absences-after before now (Ok a) later same = later
absences-after before now (Err (Bad note)) later same = later
absences-after before now (Err (Absent note)) later same = (let rose = same.rose in record { later = later; rose = omega arith; fits = same.fits })
absences-after before now (Err Outside) later same = later
absences-after before now (Err NoMemory) later same = later
