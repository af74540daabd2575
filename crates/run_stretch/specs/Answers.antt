-- What a call answers. This project's own.
use Rattle.std.specs.Prelude.{◌≡◌, ◌≤◌, ◌<◌, ◌⊎◌, ℕ, Bool, List, ◌++◌, length, take, drop, nat_lt, Result, Ok, Err, if◌then◌else◌}
use Rattle.run_windows.specs.declared.until.Until.{Until}
use Rattle.run_windows.specs.declared.until.Until.TheVariants.{Boundary, Clock}
use Rattle.rom_image.specs.declared.image.TheConstants.{IMAGE_LEN}
use Rattle.run_stretch.specs.declared.assembling.AssemblyFault.{AssemblyFault}
use Rattle.run_stretch.specs.declared.ended.Stretch.{Stretch}
use Rattle.run_stretch.specs.declared.fault.StretchFault.{StretchFault}
use Rattle.run_stretch.specs.declared.parts.Parts.{Parts}
use Rattle.run_stretch.specs.Assembling.{Assembles}
use Rattle.run_stretch.specs.Stretches.{Comes}
use Rattle.run_stretch.specs.Texts.{assembly_fault_text, stretch_fault_text}
use Rattle.run_stretch.specs.declared.calls.report.GravitarReport.{GravitarReport}
use Rattle.run_stretch.specs.declared.calls.report.Status.{Status}
use Rattle.run_stretch.specs.declared.calls.report.Status.TheVariants.{Done, Jammed, NoMemory, NoRoom}
use Rattle.run_stretch.specs.Places.{place_of_assembly, place_of_stretch}
use Rattle.run_stretch.specs.Statuses.{number_of, status_of_assembly, status_of_stretch}

-- a call as its caller sees it: what stood at a place and in a buffer before, what stands there
-- after, and the answer
pub record Call : Type 0 where
  pub before : List ℕ
  pub after : List ℕ
  pub buffer : List ℕ
  pub filled : List ℕ
  pub report : GravitarReport
  pub number : ℕ

abbrev pub report_of : ℕ → ℕ → ℕ → GravitarReport
report_of clock used place = record { clock = clock; used = used; place = place }

-- these bytes lie in front of a buffer, and after them it is as before
abbrev pub put_in : List ℕ → List ℕ → List ℕ
put_in bytes buffer = bytes ++ drop (length bytes) buffer

-- as many of the first bytes as there is room for
abbrev pub noted_in : List ℕ → List ℕ → List ℕ
noted_in words buffer = put_in (take (length buffer) words) buffer

-- nothing changed but the report
pub record Refuses (ended : Status) (numbers : GravitarReport) (c : Call) : Type 0 where
  pub status : c.number ≡ number_of ended
  pub report : c.report ≡ numbers
  pub place : c.after ≡ c.before
  pub buffer : c.filled ≡ c.buffer

-- nothing changed but the report, and the buffer, which has the first of these words
pub record States (words : List ℕ) (spot : ℕ) (ended : Status) (c : Call) : Type 0 where
  pub status : c.number ≡ number_of ended
  pub report : c.report ≡ report_of 0 (length words) spot
  pub place : c.after ≡ c.before
  pub buffer : c.filled ≡ noted_in words c.buffer

-- lack of memory, or these words
abbrev pub StatesOrNot : List ℕ → ℕ → Status → Call → Type 0
StatesOrNot words spot ended c = States words spot ended c ⊎ Refuses NoMemory (report_of 0 0 0) c

-- the board stands at the end of a stretch, and the buffer, which has room for all of it, has what
-- the stretch returns
pub record Gives (s : Stretch) (c : Call) : Type 0 where
  pub status : c.number ≡ number_of (if s.jammed then Jammed else Done)
  pub report : c.report ≡ report_of s.clock s.wanted 0
  pub place : c.after ≡ s.board
  pub buffer : c.filled ≡ put_in s.output.items c.buffer
  pub room : s.wanted ≤ length c.buffer

-- the buffer is too short for it
pub record WantsRoom (s : Stretch) (c : Call) : Type 0 where
  pub refused : Refuses NoRoom (report_of 0 s.wanted 0) c
  pub short : length c.buffer < s.wanted

-- what comes of a stretch
abbrev pub AnswersStretch : Result Stretch StretchFault → Call → Type 0
AnswersStretch (Ok s) c = Gives s c ⊎ WantsRoom s c
AnswersStretch (Err fault) c = StatesOrNot (stretch_fault_text fault) (place_of_stretch fault) (status_of_stretch fault) c

abbrev pub call_of : List ℕ → List ℕ → List ℕ → List ℕ → GravitarReport → ℕ → Call
call_of before after buffer filled report number =
    record { before = before; after = after; buffer = buffer; filled = filled; report = report; number = number }

-- a call answers what comes of the bytes of an image, a board and a tape: a stretch of this kind
-- over their parts, or their refusal
pub record AnswersOver (image board tape : List ℕ) (holds : Parts → Stretch → Type 0) (c : Call) : Type 0 where
  pub came : Result Stretch StretchFault
  pub comes : Comes image board tape holds came
  pub answers : AnswersStretch came c

-- the image of two sources lies in front of its place
pub record Makes (image : List ℕ) (c : Call) : Type 0 where
  pub status : c.number ≡ number_of Done
  pub report : c.report ≡ report_of 0 IMAGE_LEN 0
  pub place : c.after ≡ put_in image c.before
  pub buffer : c.filled ≡ c.buffer

-- what comes of two sources
abbrev pub AnswersAssembly : Result (List ℕ) AssemblyFault → Call → Type 0
AnswersAssembly (Ok image) c = Makes image c
AnswersAssembly (Err fault) c = StatesOrNot (assembly_fault_text fault) (place_of_assembly fault) (status_of_assembly fault) c

-- a call answers what comes of two sources
pub record AnswersSources (processor generator : List ℕ) (c : Call) : Type 0 where
  pub came : Result (List ℕ) AssemblyFault
  pub comes : Assembles processor generator came
  pub answers : AnswersAssembly came c

-- what is no number of 0 is asked for
abbrev pub is_asked : ℕ → Bool
is_asked n = nat_lt 0 n

-- how far a stretch goes
abbrev pub end_asked : ℕ → ℕ → Until
end_asked boundary clock = if is_asked boundary then Boundary clock else Clock clock
