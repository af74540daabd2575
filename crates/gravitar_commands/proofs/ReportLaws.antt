-- The outcome of a command that reports a run otherwise than by its log.
use Rattle.std.proofs.Common.{◌≡◌, ℕ, ◌+◌, ◌≤◌, [], ◌∷◌, ◌++◌, map, min, Bool, List, Option, Some, None, Result, Ok}
use Rattle.std.proofs.Common.{Err, take, refl, sym, ap, subst, ◌∙◌, inr, arith}
use Rattle.std.proofs.lemmas.List.Elements.{All-nil, All-cons}
use Rattle.std.specs.Prelude.{All, IfSome, IfOk}
use Rattle.board_base.specs.Board.{BoardValue, IsBoard}
use Rattle.command_line.specs.CommandValue.{PcmValue, RunValue, SeekValue, frames_of, pcm_of, profile_of, seek_of}
use Rattle.command_line.specs.SettingsValue.{SettingsValue}
use Rattle.outside_io.specs.declared.answers.SinkFault.{SinkFault}
use Rattle.outside_io.specs.Causes.{HasCause}
use Rattle.outside_io.specs.Seen.{Seen, SameLoans, HostDidNothing}
use Rattle.outside_io.specs.Shelf.{Files}
use Rattle.outside_io.specs.Sink.{Takes}
use Rattle.tape_ports.specs.declared.entry.TapeEntry.{TapeEntry}
use Rattle.lockstep_board.specs.Lockstep.{Board}
use Rattle.lockstep_board.specs.Peripherals.{peripherals_of}
use Rattle.keyframes.specs.Seeking.{over_image}
use Rattle.keyframes.proofs.AlongLaws.{rom-after}
use Rattle.board_base.specs.declared.vector_memory.TheConstants.{VECTOR_RAM_LEN, VECTOR_ROM_LEN}
use Rattle.outside_io.proofs.EventLaws.{did-first-sending, did-sending}
use Rattle.gravitar_commands.specs.declared.failure.Failure.{Failure}
use Rattle.gravitar_commands.specs.declared.failure.Failure.TheVariants.{Absent, Bad, NoMemory, Outside}
use Rattle.gravitar_commands.specs.declared.failure.Ending.{Ending}
use Rattle.gravitar_commands.specs.declared.failure.Ending.TheVariants.{Done}
use Rattle.gravitar_commands.specs.declared.parts.Parts.{Parts}
use Rattle.gravitar_commands.specs.declared.reporting.RunReport.TheVariants.{Frames, Profile, Samples}
use Rattle.gravitar_commands.specs.Endings.{status_of_ending}
use Rattle.gravitar_commands.specs.Outcome.{ComesOver, ForReading, Outcome, command_outcome, finished, first_board, limit_of, run_files, report_outcome, text_outcome}
use Rattle.gravitar_commands.specs.Stages.{HostEnds, Keeps, Refuses, Reports, StageFaults, Wrote, written_as}
use Rattle.board_debug.specs.BoardsText.{boards_text}
use Rattle.gravitar_commands.specs.RunReport.{sought_text, report_text}
use Rattle.gravitar_commands.proofs.StageLaws.{failure-ends}

-- a text that was written, or not
pub written-reported : (out0 out1 : Option (List ℕ)) (text : List ℕ) (took : Result (Unit {0}) SinkFault) → Takes out0 out1 text took → Wrote out0 out1 text (written_as took)
written-reported out0 out1 text (Ok _) took = (refl, took)
written-reported out0 out1 text (Err _) took = took

pub written-faults : (before now : ℕ) (took : Result (Unit {0}) SinkFault) → HasCause before now took → StageFaults before now (written_as took)
written-faults before now (Ok _) cause = cause
written-faults before now (Err _) cause = cause

-- what it comes to on a host, of whose shelf it knows nothing
module _ (before now : Seen) (idle : now.stores ≡ before.stores) where
  pub report-ends : (wired : Bool) (limit : ℕ) (text : List TapeEntry → ℕ → Board → List ℕ) (parts : Parts) (result : Result Ending Failure)
      → Wrote before.taken now.taken (text parts.tape.entries limit (first_board wired parts)) result → HostEnds (text_outcome wired limit text parts) before now result
  report-ends wired limit text parts (Ok ending) wrote =
      record { done = (ap status_of_ending (sym wrote.0), refl, did-sending _ _ _ _ _ wrote.1 idle); failed = tt }
  report-ends wired limit text parts (Err Outside) wrote = record { done = tt; failed = did-first-sending _ _ _ _ _ wrote idle }
  report-ends wired limit text parts (Err NoMemory) wrote = record { done = tt; failed = tt }
  report-ends wired limit text parts (Err (Bad note)) wrote = absurd wrote
  report-ends wired limit text parts (Err (Absent note)) wrote = absurd wrote

  pub report-keeps : (text : List ℕ) (result : Result Ending Failure) → SameLoans before now → now.shelf_faults ≡ before.shelf_faults
      → before.absences ≤ now.absences → Wrote before.taken now.taken text result → StageFaults before.out_faults now.out_faults result → Keeps before now result
  report-keeps text (Ok ending) loans shelf later wrote faults = record { loans = loans; wrote_nothing = tt; faults = (shelf, faults); absences = later }
  report-keeps text (Err Outside) loans shelf later wrote faults =
      record { loans = loans; wrote_nothing = tt; faults = (omega (arith, shelf), faults.later, inr faults.rose); absences = later }
  report-keeps text (Err NoMemory) loans shelf later wrote faults = record { loans = loans; wrote_nothing = (wrote, idle); faults = (shelf, faults); absences = later }
  report-keeps text (Err (Bad note)) loans shelf later wrote faults = absurd wrote
  report-keeps text (Err (Absent note)) loans shelf later wrote faults = absurd wrote

pub report-done : (out0 out1 : Option (List ℕ)) (text : List ℕ) (result : Result Ending Failure) → Wrote out0 out1 text result → IfOk result (λ ending. ending ≡ Done)
report-done out0 out1 text (Ok ending) wrote = wrote.0
report-done out0 out1 text (Err failure) wrote = tt

-- by the settings of a run
pub report-asked : (said : SettingsValue) (wired : Bool) (limit end : ℕ) (text : List TapeEntry → ℕ → Board → List ℕ) (parts : Parts) → wired ≡ said.timers → limit ≡ limit_of said.until end
    → end ≡ parts.tape.end → text_outcome wired limit text parts ≡ report_outcome said text parts
report-asked said wired limit end text parts asked lowered ends =
    ap (λ (w : Bool). text_outcome w limit text parts) asked
    ∙ ap (λ (n : ℕ). text_outcome said.timers n text parts) (lowered ∙ ap (limit_of said.until) ends)

-- it stopped at its files
pub report-stopped : (run : RunValue) (text : List TapeEntry → ℕ → Board → List ℕ) (failure : Failure) (before now : Seen) → HostDidNothing before now
    → IfSome before.files (λ files. ForReading run.settings.state files (λ reading. Refuses (run_files files run reading) failure))
    → Reports run text before now (Err failure)
report-stopped run text failure before now nothing refuses = of before.files refuses
  where
    of : (known : Option Files) → IfSome known (λ files. ForReading run.settings.state files (λ reading. Refuses (run_files files run reading) failure))
        → IfSome known (λ files. ForReading run.settings.state files (λ reading.
        HostEnds (finished (run_files files run reading) (report_outcome run.settings text)) before now (Err failure)))
    of None refuses = tt
    of (Some files) refuses = λ reading is.
        failure-ends (run_files files run reading) (report_outcome run.settings text) failure before now nothing (refuses reading is)

-- its files were good
pub report-comes : (run : RunValue) (text : List TapeEntry → ℕ → Board → List ℕ) (parts : Parts) (before now : Seen) (result : Result Ending Failure)
    → IfSome before.files (λ files. ForReading run.settings.state files (λ reading. run_files files run reading ≡ Ok parts))
    → HostEnds (report_outcome run.settings text parts) before now result → Reports run text before now result
report-comes run text parts before now result good ends = of before.files good
  where
    of : (known : Option Files) → IfSome known (λ files. ForReading run.settings.state files (λ reading. run_files files run reading ≡ Ok parts))
        → IfSome known (λ files. ForReading run.settings.state files (λ reading.
        HostEnds (finished (run_files files run reading) (report_outcome run.settings text)) before now result))
    of None good = tt
    of (Some files) good = λ reading is. rw (good reading is) ends

-- each of the three commands comes to that
pub pcm-reported : (known : Option Files) (holds : Outcome → Type 0) (pcm : PcmValue)
    → IfSome known (λ files. ForReading pcm.run.settings.state files (λ reading. holds (finished (run_files files pcm.run reading) (report_outcome pcm.run.settings (report_text (Samples pcm.per))))))
    → ComesOver (pcm_of pcm) known holds
unfolding command_outcome
pcm-reported None holds pcm comes = tt
pcm-reported (Some files) holds pcm comes = λ reading is. record { calls = 0; within_budget = tt; of_outcome = comes reading is }

pub frames-reported : (known : Option Files) (holds : Outcome → Type 0) (run : RunValue)
    → IfSome known (λ files. ForReading run.settings.state files (λ reading. holds (finished (run_files files run reading) (report_outcome run.settings (report_text Frames)))))
    → ComesOver (frames_of run) known holds
unfolding command_outcome
frames-reported None holds run comes = tt
frames-reported (Some files) holds run comes = λ reading is. record { calls = 0; within_budget = tt; of_outcome = comes reading is }

pub profile-reported : (known : Option Files) (holds : Outcome → Type 0) (run : RunValue)
    → IfSome known (λ files. ForReading run.settings.state files (λ reading. holds (finished (run_files files run reading) (report_outcome run.settings (report_text Profile)))))
    → ComesOver (profile_of run) known holds
unfolding command_outcome
profile-reported None holds run comes = tt
profile-reported (Some files) holds run comes = λ reading is. record { calls = 0; within_budget = tt; of_outcome = comes reading is }

pub seek-reported : (known : Option Files) (holds : Outcome → Type 0) (seek : SeekValue)
    → IfSome known (λ files. ForReading seek.run.settings.state files (λ reading. holds (finished (run_files files seek.run reading) (report_outcome seek.run.settings (sought_text seek.clocks)))))
    → ComesOver (seek_of seek) known holds
unfolding command_outcome
seek-reported None holds seek comes = tt
seek-reported (Some files) holds seek comes = λ reading is. record { calls = 0; within_budget = tt; of_outcome = comes reading is }

-- a new engine has the board that was kept first
pub start-is : (image : List ℕ) (wired : Bool) (state : BoardValue) (e s : Board) → IsBoard state → e
    ≡ (let b : Board = record { cpu = state.cpu; peripherals = peripherals_of image wired state } in b)
    → s ≡ over_image e state → s ≡ e
start-is image wired state e s board made start =
    start
    ∙ ap (λ (b : Board). over_image b state) made
    ∙ ap (λ (rom : List ℕ). let b : Board = record { cpu = state.cpu; peripherals = record (peripherals_of image wired state) { memory = state.vram ++ rom } } in b)
    (rom-after VECTOR_RAM_LEN state.vram (take VECTOR_ROM_LEN image) board.vram)
    ∙ sym made

-- none of them is past the limit
pub lowered-few : (limit most : ℕ) (clocks : List ℕ) → limit ≤ most → All (λ clock. clock ≤ most) (map (min limit) clocks)
lowered-few limit most [] low = All-nil (λ clock. clock ≤ most)
lowered-few limit most (clock ∷ clocks) low =
    All-cons (λ c. c ≤ most) (min limit clock) (map (min limit) clocks) (omega (arith, low)) (lowered-few limit most clocks low)

-- the words as they lie in their type
pub pcm-reported-as : (known : Option Files) (holds : Outcome → Type 0) (pcm inner : PcmValue) → inner ≡ pcm
    → IfSome known (λ files. ForReading inner.run.settings.state files
    (λ reading. holds (finished (run_files files inner.run reading) (report_outcome inner.run.settings (report_text (Samples inner.per))))))
    → ComesOver (pcm_of pcm) known holds
pcm-reported-as known holds pcm inner is comes =
    subst (λ (w : PcmValue). ComesOver (pcm_of w) known holds) is
    (pcm-reported known holds inner comes)

pub seek-reported-as : (known : Option Files) (holds : Outcome → Type 0) (seek inner : SeekValue) → inner ≡ seek
    → IfSome known (λ files. ForReading inner.run.settings.state files (λ reading. holds (finished (run_files files inner.run reading) (report_outcome inner.run.settings (sought_text inner.clocks)))))
    → ComesOver (seek_of seek) known holds
seek-reported-as known holds seek inner is comes =
    subst (λ (w : SeekValue). ComesOver (seek_of w) known holds) is
    (seek-reported known holds inner comes)

-- the boards were written, or a part of them, of a run that begins at the engine's board
pub sought-reported : (entries : List TapeEntry) (limit : ℕ) (clocks asked : List ℕ) (e s : Board) (out0 out1 : Option (List ℕ)) (took : Result (Unit {0}) SinkFault) (result : Result Ending Failure)
    → asked ≡ map (min limit) clocks → s ≡ e → Takes out0 out1 (boards_text entries asked s) took → result ≡ written_as took
    → Wrote out0 out1 (sought_text clocks entries limit e) result
sought-reported entries limit clocks asked e s out0 out1 took result is start takes written =
    subst (λ (r : Result Ending Failure). Wrote out0 out1 (boards_text entries (map (min limit) clocks) e) r) (sym written)
    (written-reported out0 out1 (boards_text entries (map (min limit) clocks) e) took
    (subst (λ (b : Board). Takes out0 out1 (boards_text entries (map (min limit) clocks) b) took) start
    (subst (λ (l : List ℕ). Takes out0 out1 (boards_text entries l s) took) is takes)))
