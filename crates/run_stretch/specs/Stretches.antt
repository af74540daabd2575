-- A stretch of a run, from a saved board to another. This project's own.
use Rattle.std.specs.Prelude.{◌≡◌, ℕ, Bool, List, length, Result, Ok, Err}
use Rattle.std.specs.Option.{is_some}
use Rattle.run_windows.specs.declared.until.Until.{Until}
use Rattle.run_windows.specs.declared.until.Until.TheVariants.{Boundary}
use Rattle.run_windows.specs.Windows.{end_of}
use Rattle.lockstep_board.specs.Lockstep.{Board}
use Rattle.lockstep_board.specs.Peripherals.{board_of, peripherals_of}
use Rattle.save_state.specs.Reading.{IsWhole}
use Rattle.run_samples.specs.BoardSamples.{sampled_bytes}
use Rattle.run_log.specs.Slice.{slice_records, slice_text}
use Rattle.run_log.specs.Slices.{saved_bytes}
use Rattle.run_stretch.specs.declared.ended.Stretch.{Stretch}
use Rattle.run_stretch.specs.declared.fault.StretchFault.{StretchFault}
use Rattle.run_stretch.specs.declared.parts.Parts.{Parts}
use Rattle.run_stretch.specs.Kept.{kept}
use Rattle.run_stretch.specs.Reading.{ReadsParts}

-- the board with which a stretch begins, without records
abbrev pub first_board : Bool → Parts → Board
first_board timers parts = record { cpu = parts.board.cpu; peripherals = peripherals_of parts.image timers parts.board }

-- a stretch that returns these bytes, where there is room for so many, and ended at this board,
-- each of whose fields is in its range
pub record EndsAt (room : ℕ) (text : List ℕ) (last : Board) (s : Stretch) : Type 0 where
  pub bytes : s.output.items ≡ kept room text
  pub wanted : s.wanted ≡ length text
  pub board : s.board ≡ saved_bytes last
  pub whole : IsWhole (board_of last.cpu last.peripherals)
  pub clock : s.clock ≡ last.peripherals.clock
  pub jammed : s.jammed ≡ is_some last.cpu.jam

-- a stretch that returns the lines of its records: those of a log without its last line
abbrev pub IsAdvanced : ℕ → Bool → Until → Parts → Stretch → Type 0
IsAdvanced room timers until parts s =
    let first = first_board timers parts in
    EndsAt room (slice_text parts.tape.entries until first) (end_of parts.tape.entries until first) s

-- a stretch that returns its records as bytes, 40 of each
abbrev pub IsRecorded : ℕ → Bool → Until → Parts → Stretch → Type 0
IsRecorded room timers until parts s =
    let first = first_board timers parts in
    EndsAt room (slice_records parts.tape.entries until first) (end_of parts.tape.entries until first) s

-- a stretch to a boundary that returns the samples of the sound
abbrev pub IsSampled : ℕ → Bool → ℕ → ℕ → Parts → Stretch → Type 0
IsSampled room timers limit per parts s =
    let first = first_board timers parts in
    EndsAt room (sampled_bytes parts.tape.entries limit per first) (end_of parts.tape.entries (Boundary limit) first) s

-- what comes of the bytes of an image, a board and a tape: this stretch over their parts, or their
-- refusal
abbrev pub Comes : List ℕ → List ℕ → List ℕ → (Parts → Stretch → Type 0) → Result Stretch StretchFault → Type 0
Comes image board tape holds (Ok s) = (parts : Parts) × ReadsParts image board tape (Ok parts) × holds parts s
Comes image board tape holds (Err fault) = ReadsParts image board tape (Err fault)
