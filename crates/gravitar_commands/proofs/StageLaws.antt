-- Laws of the answers of a command.
use Rattle.std.proofs.Common.{◌≡◌, ◌≢◌, ℕ, ◌*◌, ◌≤◌, Bool, false, nat_lt, List, [], ◌∷◌, length, take, Option, Some, None, Result, Ok, Err, IfSome, IfOk, Contains, ◌⊎◌, inl, inr}
use Rattle.std.proofs.Common.{refl, sym, ap, ◌∙◌, subst, arith}
use Rattle.std.proofs.Math.Seq.{take-length}
use Rattle.board_base.specs.Board.{BoardValue, board_at_power_on}
use Rattle.board_base.specs.Cpu.{CpuValue}
use Rattle.save_state.specs.declared.fault.StateFault.{StateFault}
use Rattle.command_line.specs.CommandLine.{command_of}
use Rattle.command_line.specs.CommandValue.{AsmValue, CommandValue, DebugValue, RunValue, asm_of, debug_of, frames_of, pcm_of, profile_of, run_of, seek_of, show_of, soak_of}
use Rattle.command_line.specs.SettingsValue.{SettingsValue}
use Rattle.outside_io.specs.Causes.{HasCause, Rose}
use Rattle.outside_io.specs.Known.{grown}
use Rattle.outside_io.specs.Shelf.{Files, Kept}
use Rattle.outside_io.specs.Sink.{Takes}
use Rattle.outside_io.proofs.KnownLaws.{grown-nothing}
use Rattle.std.proofs.lemmas.Bool.Decides.{nat_tests}
use Rattle.board_debug.specs.Debugged.{Debugs}
use Rattle.board_debug.specs.Session.{session_text}
use Rattle.board_debug.specs.declared.fault.DebugFault.{DebugFault}
use Rattle.debug_script.specs.declared.command.Command.{Command}
use Rattle.debug_script.specs.declared.fault.ScriptFault.TheVariants as script
use Rattle.debug_script.specs.declared.script.TheConstants.{SCRIPT_LIMIT}
use Rattle.debug_script.specs.Script.{script_of}
use Rattle.debug_script.specs.Breakpoints.{no_stops}
use Rattle.run_summary.specs.SoakText.{run_text}
use Rattle.tape_ports.specs.Tape.{TapeValue}
use Rattle.workload_gen.specs.Roms.{image_of}
use Rattle.workload_gen.specs.Tape.{tape_of}
use Rattle.gravitar_commands.specs.declared.cause.Cause.TheVariants.{Script}
use Rattle.gravitar_commands.specs.Causes.{cause_text}
use Rattle.catchup_engine.specs.EngineValue.{EngineValue, counted_on}
use Rattle.lockstep_board.specs.Order.{cleared}
use Rattle.lockstep_board.specs.Lockstep.{Board}
use Rattle.gravitar_commands.specs.declared.assembled.Assembled.{Assembled}
use Rattle.gravitar_commands.specs.declared.parts.Parts.{Parts}
use Rattle.gravitar_commands.specs.declared.failure.Ending.{Ending}
use Rattle.gravitar_commands.specs.declared.failure.Ending.TheVariants.{Done, Jammed}
use Rattle.gravitar_commands.specs.declared.failure.Failure.{Failure}
use Rattle.gravitar_commands.specs.declared.failure.Failure.TheVariants.{Bad, Absent, Outside, NoMemory}
use Rattle.outside_io.specs.Events.{Did, DidFirst, Event, sending, stored, storing, text_of, stores_of}
use Rattle.outside_io.specs.Seen.{Seen, SameLoans, HostDid, HostDidFirst, HostDidNothing, HostStores, HostWrites, NoFault}
use Rattle.gravitar_commands.specs.Endings.{ending_by, status_of_ending}
use Rattle.gravitar_commands.specs.Outcome.{Comes, ComesOf, ComesOver, asm_files, asm_outcome, RunWithinBudget, ForReading, Outcome, and_then, command_outcome, debug_files}
use Rattle.gravitar_commands.specs.Outcome.{debug_outcome, outside_text, finished, first_board, limit_of, memory_text, refused, read_as, run_files, run_outcome, script_file}
use Rattle.gravitar_commands.specs.Outcome.{script_read, show_outcome, soak_outcome, state_file, usage_text, wanted_by, note_text, workload_of}
use Rattle.run_log.specs.Slices.{WithinBudget, StopsIn, Wanted, last_board, run_events}
use Rattle.gravitar_commands.specs.Sources.{both_listings}
use Rattle.gravitar_commands.specs.Stages.{status_of, note_of, HostEnds, HostFaults, WroteNothing, IsBadOrMemory, Keeps, Noted, Performs, Refuses, RunEnds, StageAbsences, session_outcome}
use Rattle.run_log.proofs.CutLaws.{budget-least}
use Rattle.outside_io.proofs.EventLaws.{did-first-of, did-first-sending, did-nothing, did-sending, did-then, did-then-first}

-- one write of a note
pub noted : {T E : Type 0} (notes0 notes1 : Option (List ℕ)) (faults0 faults1 : ℕ) (text : List ℕ) (result : Result T E)
    → Takes notes0 notes1 text result → HasCause faults0 faults1 result → Noted notes0 notes1 faults0 faults1 text
noted notes0 notes1 faults0 faults1 text (Ok a) took same = record {
  later = omega arith;
  part = (length text, took ∙ ap (grown notes0) (sym (take-length text)));
  whole = λ _. took;
}
noted notes0 notes1 faults0 faults1 text (Err a) cut raised = record {
  later = raised.later;
  part = cut;
  whole = λ not_risen. absurd (not_risen raised.rose);
}

did-idle : (out0 out1 : Option (List ℕ)) (stores0 stores1 : Option (List Kept)) → out1 ≡ out0 → stores1 ≡ stores0
    → Did [] out0 out1 stores0 stores1
unfolding text_of stores_of
did-idle out0 out1 stores0 stores1 took same = record { text = took ∙ sym (grown-nothing out0); stores = same ∙ sym (grown-nothing stores0) }

-- what comes of an outcome comes of that of a command
comes-over : (first second : Outcome → Type 0) (command : CommandValue) (known : Option Files) → ((outcome : Outcome) → first outcome → second outcome)
    → ComesOver command known first → ComesOver command known second
comes-over first second command None so comes = tt
comes-over first second command (Some files) so comes = λ reading is.
    (let c = comes reading is in record { calls = c.calls; within_budget = c.within_budget; of_outcome = so (command_outcome command files reading c.calls) c.of_outcome })

pub comes-map : (first second : Outcome → Type 0) (command : Option CommandValue) (known : Option Files)
    → ((outcome : Outcome) → first outcome → second outcome) → ComesOf command known first → ComesOf command known second
comes-map first second None known so comes = so (refused 2 usage_text) comes
comes-map first second (Some (run_of run)) known so comes = comes-over first second (run_of run) known so comes
comes-map first second (Some (asm_of asm)) known so comes = comes-over first second (asm_of asm) known so comes
comes-map first second (Some (debug_of debug)) known so comes = comes-over first second (debug_of debug) known so comes
comes-map first second (Some (show_of name)) known so comes = comes-over first second (show_of name) known so comes
comes-map first second (Some (soak_of seed)) known so comes = so (soak_outcome seed) comes
comes-map first second (Some (pcm_of pcm)) known so comes = comes-over first second (pcm_of pcm) known so comes
comes-map first second (Some (frames_of run)) known so comes = comes-over first second (frames_of run) known so comes
comes-map first second (Some (seek_of seek)) known so comes = comes-over first second (seek_of seek) known so comes
comes-map first second (Some (profile_of run)) known so comes = comes-over first second (profile_of run) known so comes

-- of words that are those of this command
of-command : (first second : Outcome → Type 0) (words : List (List ℕ)) (command : CommandValue) (known : Option Files) → Some command ≡ command_of words
    → ((outcome : Outcome) → first outcome → second outcome)
    → ComesOf (Some command) known first → Comes words known second
of-command first second words command known some so comes =
    subst (λ c. ComesOf c known second) some (comes-map first second (Some command) known so comes)

-- of a command that is this one
pub of-same : (holds : Outcome → Type 0) (known : Option Files) (command other : CommandValue) → other ≡ command
    → ComesOf (Some command) known holds → ComesOf (Some other) known holds
of-same holds known command other same comes = rw same comes

-- of malformed words
of-usage : (holds : Outcome → Type 0) (words : List (List ℕ)) (known : Option Files) → None ≡ command_of words → holds (refused 2 usage_text)
    → Comes words known holds
of-usage holds words known none h = subst (λ c. ComesOf c known holds) none h

pub usage-outcome : (known : Option Files) (words : List (List ℕ)) (out0 out1 : Option (List ℕ)) (stores0 stores1 : Option (List Kept))
    → None ≡ command_of words → out1 ≡ out0 → stores1 ≡ stores0
    → Comes words known (λ outcome. (2 ≡ outcome.status) × Did outcome.events out0 out1 stores0 stores1)
usage-outcome known words out0 out1 stores0 stores1 none took same =
    of-usage (λ outcome. (2 ≡ outcome.status) × Did outcome.events out0 out1 stores0 stores1) words known none
    (refl, did-idle out0 out1 stores0 stores1 took same)

pub usage-note : (known : Option Files) (words : List (List ℕ)) (notes0 notes1 : Option (List ℕ)) (faults0 faults1 : ℕ)
    → None ≡ command_of words → Noted notes0 notes1 faults0 faults1 usage_text
    → Comes words known (λ outcome. Noted notes0 notes1 faults0 faults1 outcome.note)
usage-note known words notes0 notes1 faults0 faults1 none h =
    of-usage (λ outcome. Noted notes0 notes1 faults0 faults1 outcome.note) words known none h

-- a refusal that is the outcome
refusal : (outcome : Outcome) (failure : Failure) (status : ℕ) (before now : Seen) → status ≡ status_of failure
    → HostEnds outcome before now (Err failure) → status ≢ 6 → status ≢ 7 → outcome ≡ refused (status_of failure) (note_of failure)
refusal outcome (Bad note) status before now is ends not6 not7 = ends.failed
refusal outcome (Absent note) status before now is ends not6 not7 = ends.failed
refusal outcome Outside status before now is ends not6 not7 = absurd (not6 is)
refusal outcome NoMemory status before now is ends not6 not7 = absurd (not7 is)

nothing-of : (failure : Failure) (status : ℕ) (before now : Seen) → status ≡ status_of failure → WroteNothing before now (Err failure)
    → status ≢ 6 → HostDidNothing before now
nothing-of (Bad note) status before now is wrote_nothing not6 = wrote_nothing
nothing-of (Absent note) status before now is wrote_nothing not6 = wrote_nothing
nothing-of Outside status before now is wrote_nothing not6 = absurd (not6 is)
nothing-of NoMemory status before now is wrote_nothing not6 = wrote_nothing

module _ (words : List (List ℕ)) (command : CommandValue) (failure : Failure) (status : ℕ) (before now : Seen)
    (some : Some command ≡ command_of words) (is : status ≡ status_of failure) (performs : Performs command before now (Err failure)) where
  pub failure-outcome : WroteNothing before now (Err failure) → status ≢ 6 → status ≢ 7
      → Comes words before.files (λ outcome. (status ≡ outcome.status) × HostDid outcome.events before now)
  failure-outcome wrote_nothing not6 not7 =
      let nothing = nothing-of failure status before now is wrote_nothing not6 in
      of-command (λ outcome. HostEnds outcome before now (Err failure)) (λ outcome. (status ≡ outcome.status) × HostDid outcome.events before now)
      words command before.files some
      (λ outcome ends.
      rw (refusal outcome failure status before now is ends not6 not7) (is, did-idle _ _ _ _ nothing.0 nothing.1)) performs

  pub failure-note : (notes0 notes1 : Option (List ℕ)) (faults0 faults1 : ℕ) → Noted notes0 notes1 faults0 faults1 (note_of failure) → status ≢ 6 → status ≢ 7
      → Comes words before.files (λ outcome. Noted notes0 notes1 faults0 faults1 outcome.note)
  failure-note notes0 notes1 faults0 faults1 h not6 not7 =
      of-command (λ outcome. HostEnds outcome before now (Err failure)) (λ outcome. Noted notes0 notes1 faults0 faults1 outcome.note) words command
      before.files some (λ outcome ends. rw (refusal outcome failure status before now is ends not6 not7) h) performs

-- a command that was done
pub done-outcome : (words : List (List ℕ)) (command : CommandValue) (ending : Ending) (status : ℕ) (before now : Seen)
    → Some command ≡ command_of words → status ≡ status_of_ending ending → Performs command before now (Ok ending)
    → Comes words before.files (λ outcome. (status ≡ outcome.status) × HostDid outcome.events before now)
done-outcome words command ending status before now some is performs =
    of-command (λ outcome. HostEnds outcome before now (Ok ending)) (λ outcome. (status ≡ outcome.status) × HostDid outcome.events before now)
    words command before.files some (λ outcome ends. (is ∙ sym ends.done.0, ends.done.2)) performs

-- nothing was noted
noted-nothing : (notes : Option (List ℕ)) (faults : ℕ) → Noted notes notes faults faults []
noted-nothing notes faults = record {
  later = omega arith;
  part = (0, sym (grown-nothing notes));
  whole = λ _. sym (grown-nothing notes);
}

pub done-note : (words : List (List ℕ)) (command : CommandValue) (ending : Ending) (before now : Seen) (notes : Option (List ℕ)) (faults : ℕ)
    → Some command ≡ command_of words → Performs command before now (Ok ending)
    → Comes words before.files (λ outcome. Noted notes notes faults faults outcome.note)
done-note words command ending before now notes faults some performs =
    of-command (λ outcome. HostEnds outcome before now (Ok ending)) (λ outcome. Noted notes notes faults faults outcome.note) words command
    before.files some (λ outcome ends. subst (λ text. Noted notes notes faults faults text) (sym ends.done.1) (noted-nothing notes faults)) performs

-- before an I/O fault the first part of what is defined was done
pub failure-stopped : (words : List (List ℕ)) (command : CommandValue) (failure : Failure) (status : ℕ) (before now : Seen)
    → Some command ≡ command_of words → status ≡ status_of failure → Performs command before now (Err failure) → status ≡ 6
    → Comes words before.files (λ outcome. HostDidFirst outcome.events before now)
failure-stopped words command (Bad note) status before now some is performs six = absurd (omega arith)
failure-stopped words command (Absent note) status before now some is performs six = absurd (omega arith)
failure-stopped words command Outside status before now some is performs six =
    of-command (λ outcome. HostEnds outcome before now (Err Outside)) (λ outcome. HostDidFirst outcome.events before now)
    words command before.files some (λ outcome ends. ends.failed) performs
failure-stopped words command NoMemory status before now some is performs six = absurd (omega arith)

-- what a host did is what was done to the shelf and the output that it lends
module _ (words : List (List ℕ)) (before first : Seen) (is : before ≡ first) where
  pub note-lent : (holds : Outcome → Type 0) → Comes words before.files holds → Comes words first.files holds
  note-lent holds comes = subst (λ (s : Seen). Comes words s.files holds) is comes

  module _ (now : Seen) (out1 : Option (List ℕ)) (stores1 : Option (List Kept)) (took : out1 ≡ now.taken) (kept : stores1 ≡ now.stores) where
    pub outcome-lent : (status : ℕ) → Comes words before.files (λ outcome. (status ≡ outcome.status) × HostDid outcome.events before now)
        → Comes words first.files (λ outcome. (status ≡ outcome.status) × Did outcome.events first.taken out1 first.stores stores1)
    outcome-lent status comes =
        rw (took, kept)
        (subst (λ (s : Seen). Comes words s.files (λ outcome. (status ≡ outcome.status) × HostDid outcome.events s now)) is comes)

    pub stopped-lent : Comes words before.files (λ outcome. HostDidFirst outcome.events before now)
        → Comes words first.files (λ outcome. DidFirst outcome.events first.taken out1 first.stores stores1)
    stopped-lent comes = rw (took, kept) (subst (λ (s : Seen). Comes words s.files (λ outcome. HostDidFirst outcome.events s now)) is comes)

pub fault-note : (failure : Failure) (status : ℕ) (notes0 notes1 : Option (List ℕ)) (faults0 faults1 : ℕ) → status ≡ status_of failure
    → Noted notes0 notes1 faults0 faults1 (note_of failure) → status ≡ 6 → Noted notes0 notes1 faults0 faults1 outside_text
fault-note (Bad note) status notes0 notes1 faults0 faults1 is h six = absurd (omega arith)
fault-note (Absent note) status notes0 notes1 faults0 faults1 is h six = absurd (omega arith)
fault-note Outside status notes0 notes1 faults0 faults1 is h six = h
fault-note NoMemory status notes0 notes1 faults0 faults1 is h six = absurd (omega arith)

pub memory-note : (failure : Failure) (status : ℕ) (notes0 notes1 : Option (List ℕ)) (faults0 faults1 : ℕ) → status ≡ status_of failure
    → Noted notes0 notes1 faults0 faults1 (note_of failure) → status ≡ 7 → Noted notes0 notes1 faults0 faults1 memory_text
memory-note (Bad note) status notes0 notes1 faults0 faults1 is h seven = absurd (omega arith)
memory-note (Absent note) status notes0 notes1 faults0 faults1 is h seven = absurd (omega arith)
memory-note Outside status notes0 notes1 faults0 faults1 is h seven = absurd (omega arith)
memory-note NoMemory status notes0 notes1 faults0 faults1 is h seven = h

-- the statuses that there are
pub usage-status : Contains {X = ℕ} (0 ∷ 2 ∷ 3 ∷ 4 ∷ 5 ∷ 6 ∷ 7 ∷ []) 2
usage-status = (1, omega arith, refl)

pub failure-status : (failure : Failure) (status : ℕ) → status ≡ status_of failure → Contains {X = ℕ} (0 ∷ 2 ∷ 3 ∷ 4 ∷ 5 ∷ 6 ∷ 7 ∷ []) status
failure-status (Bad note) status is = rw is (3, omega arith, refl)
failure-status (Absent note) status is = rw is (4, omega arith, refl)
failure-status Outside status is = rw is (5, omega arith, refl)
failure-status NoMemory status is = rw is (6, omega arith, refl)

pub ending-contained : (ending : Ending) (status : ℕ) → status ≡ status_of_ending ending → Contains {X = ℕ} (0 ∷ 2 ∷ 3 ∷ 4 ∷ 5 ∷ 6 ∷ 7 ∷ []) status
ending-contained Done status is = rw is (0, omega arith, refl)
ending-contained Jammed status is = rw is (2, omega arith, refl)

-- the status of a jam is that of a run alone
pub not-jammed : (result : Result Ending Failure) → IfOk result (λ ending. ending ≡ Done) → result ≡ Ok Jammed → ⊥
not-jammed (Ok Done) done is = cc
not-jammed (Ok Jammed) done is = cc
not-jammed (Err failure) done is = cc

pub jam-ending : (ending : Ending) (status : ℕ) → status ≡ status_of_ending ending → status ≡ 3 → ending ≡ Jammed
jam-ending Done status is three = absurd (omega arith)
jam-ending Jammed status is three = refl

pub jam-failure : (failure : Failure) (status : ℕ) → status ≡ status_of failure → status ≡ 3 → ⊥
jam-failure (Bad note) status is three = omega arith
jam-failure (Absent note) status is three = omega arith
jam-failure Outside status is three = omega arith
jam-failure NoMemory status is three = omega arith

-- some number is within the budget of a run that hasn't started
some-calls : (said : SettingsValue) (files : Result Parts Outcome) → (calls : ℕ) × IfOk files (λ parts. RunWithinBudget said parts calls)
some-calls said (Ok parts) =
    let limit = limit_of said.until parts.tape.end in (
      counted_on 5 (5 * length said.cuts),
      budget-least parts.tape.entries limit (length said.cuts) (first_board said.timers parts) 5,
    )
some-calls said (Err refusal) = (0, tt)

-- files were read, and nothing was done
pub record Loaded (before now : Seen) : Type 0 where
  pub loans : SameLoans before now
  pub nothing : HostDidNothing before now
  pub faults : NoFault before now
  pub absences : before.absences ≤ now.absences

-- what was done after that was done from the beginning
did-after : (events : List Event) (a b c : Seen) → HostDidNothing a b → HostDid events b c → HostDid events a c
did-after events a b c nothing did = record {
  text = did.text ∙ ap (λ (o : Option (List ℕ)). grown o (text_of events)) nothing.0;
  stores = did.stores ∙ ap (λ (o : Option (List Kept)). grown o (stores_of events)) nothing.1;
}

first-after : (events : List Event) (a b c : Seen) → HostDidNothing a b → HostDidFirst events b c → HostDidFirst events a c
first-after events a b c nothing part = record {
  count = part.count;
  did = did-after (take part.count events) a b c nothing part.did;
}

pub ends-after : (outcome : Outcome) (a b c : Seen) (result : Result Ending Failure) → HostDidNothing a b → HostEnds outcome b c result
    → HostEnds outcome a c result
ends-after outcome a b c (Ok ending) nothing ends =
    record { done = (ends.done.0, ends.done.1, did-after outcome.events a b c nothing ends.done.2); failed = tt }
ends-after outcome a b c (Err Outside) nothing ends = record { done = tt; failed = first-after outcome.events a b c nothing ends.failed }
ends-after outcome a b c (Err NoMemory) nothing ends = record { done = tt; failed = tt }
ends-after outcome a b c (Err (Bad note)) nothing ends = record { done = tt; failed = ends.failed }
ends-after outcome a b c (Err (Absent note)) nothing ends = record { done = tt; failed = ends.failed }

nothing-then : (a b c : Seen) → HostDidNothing a b → HostDidNothing b c → HostDidNothing a c
nothing-then a b c first rest = (rest.0 ∙ first.0, rest.1 ∙ first.1)

nothing-after : (a b c : Seen) (result : Result Ending Failure) → HostDidNothing a b → WroteNothing b c result → WroteNothing a c result
nothing-after a b c (Ok ending) nothing wrote_nothing = tt
nothing-after a b c (Err Outside) nothing wrote_nothing = tt
nothing-after a b c (Err NoMemory) nothing wrote_nothing = nothing-then a b c nothing wrote_nothing
nothing-after a b c (Err (Bad note)) nothing wrote_nothing = nothing-then a b c nothing wrote_nothing
nothing-after a b c (Err (Absent note)) nothing wrote_nothing = nothing-then a b c nothing wrote_nothing

rose-after : (a b c : Seen) → NoFault a b → Rose b.shelf_faults c.shelf_faults ⊎ Rose b.out_faults c.out_faults
    → Rose a.shelf_faults c.shelf_faults ⊎ Rose a.out_faults c.out_faults
rose-after a b c none (inl rose) = inl (subst (λ n. Rose n c.shelf_faults) none.0 rose)
rose-after a b c none (inr rose) = inr (subst (λ n. Rose n c.out_faults) none.1 rose)

no-fault-then : (a b c : Seen) → NoFault a b → NoFault b c → NoFault a c
no-fault-then a b c first rest = (rest.0 ∙ first.0, rest.1 ∙ first.1)

faults-after : (a b c : Seen) (result : Result Ending Failure) → NoFault a b → HostFaults b c result → HostFaults a c result
faults-after a b c (Ok ending) none faults = no-fault-then a b c none faults
faults-after a b c (Err Outside) none faults =
    (omega (arith, none.0, faults.0), omega (arith, none.1, faults.1), rose-after a b c none faults.2)
faults-after a b c (Err NoMemory) none faults = no-fault-then a b c none faults
faults-after a b c (Err (Bad note)) none faults = no-fault-then a b c none faults
faults-after a b c (Err (Absent note)) none faults = no-fault-then a b c none faults

absences-then : (a b c : ℕ) (result : Result Ending Failure) → a ≤ b → StageAbsences b c result → StageAbsences a c result
absences-then a b c (Ok ending) first rest = omega (arith, first, rest)
absences-then a b c (Err (Bad note)) first rest = omega (arith, first, rest)
absences-then a b c (Err (Absent note)) first rest =
    (let later = rest.later in let rose = rest.rose in record { later = omega (arith, first, later); rose = omega (arith, first, rose); fits = rest.fits })
absences-then a b c (Err Outside) first rest = omega (arith, first, rest)
absences-then a b c (Err NoMemory) first rest = omega (arith, first, rest)

pub keeps-after : (a b c : Seen) (result : Result Ending Failure) → Loaded a b → Keeps b c result → Keeps a c result
keeps-after a b c result loaded keeps = record {
  loans = record { shelf = keeps.loans.shelf ∙ loaded.loans.shelf; out = keeps.loans.out ∙ loaded.loans.out };
  wrote_nothing = nothing-after a b c result loaded.nothing keeps.wrote_nothing;
  faults = faults-after a b c result loaded.faults keeps.faults;
  absences = absences-then a.absences b.absences c.absences result loaded.absences keeps.absences;
}

-- a stage that stopped before anything was done
pub failure-ends : {A : Type 0} (files : Result A Outcome) (outcome : A → Outcome) (failure : Failure) (before now : Seen) → HostDidNothing before now
    → Refuses files failure → HostEnds (finished files outcome) before now (Err failure)
failure-ends files outcome (Bad note) before now nothing refuses = record { done = tt; failed = ap (λ r. finished r outcome) refuses }
failure-ends files outcome (Absent note) before now nothing refuses = record { done = tt; failed = ap (λ r. finished r outcome) refuses }
failure-ends files outcome Outside before now nothing refuses = record { done = tt; failed = did-nothing _ _ _ _ _ nothing.0 nothing.1 }
failure-ends files outcome NoMemory before now nothing refuses = record { done = tt; failed = tt }

-- a run that stopped at its files
pub run-stopped : (run : RunValue) (failure : Failure) (before now : Seen) → HostDidNothing before now
    → IfSome before.files (λ files. ForReading run.settings.state files (λ reading. Refuses (run_files files run reading) failure))
    → Performs (run_of run) before now (Err failure)
unfolding command_outcome
run-stopped run failure before now nothing refuses = of before.files refuses
  where
    of : (known : Option Files) → IfSome known (λ files. ForReading run.settings.state files (λ reading. Refuses (run_files files run reading) failure))
        → ComesOver (run_of run) known (λ outcome. HostEnds outcome before now (Err failure))
    of None refuses = tt
    of (Some files) refuses = λ reading is.
        (let (calls, within_budget) = some-calls run.settings (run_files files run reading) in record {
          calls = calls;
          within_budget = within_budget;
          of_outcome = failure-ends (run_files files run reading) (λ parts. run_outcome run.settings parts calls) failure before now nothing (refuses reading is);
        })

-- a run whose files were good
pub run-comes : (run : RunValue) (said : SettingsValue) (parts : Parts) (before read now : Seen) (result : Result Ending Failure) → said ≡ run.settings
    → HostDidNothing before read
    → IfSome before.files (λ files. ForReading run.settings.state files (λ reading. run_files files run reading ≡ Ok parts))
    → RunEnds said parts read now result → Performs (run_of run) before now result
unfolding command_outcome
run-comes run said parts before read now result same nothing good comes = of before.files good
  where
    of : (known : Option Files) → IfSome known (λ files. ForReading run.settings.state files (λ reading. run_files files run reading ≡ Ok parts))
        → ComesOver (run_of run) known (λ outcome. HostEnds outcome before now result)
    of None good = tt
    of (Some files) good = λ reading is. record {
      calls = comes.calls;
      within_budget = rw (good reading is, sym same) comes.within_budget;
      of_outcome = rw (good reading is, sym same) (ends-after (run_outcome said parts comes.calls) before read now result nothing comes.ends);
    }

-- all of an outcome was done, or a first part of it
pub done-ends : (outcome : Outcome) (before now : Seen) → outcome.status ≡ 0 → outcome.note ≡ [] → HostDid outcome.events before now
    → HostEnds outcome before now (Ok Done)
done-ends outcome before now status note did = record { done = (status, note, did); failed = tt }

pub stopped-ends : (outcome : Outcome) (before now : Seen) → HostDidFirst outcome.events before now → HostEnds outcome before now (Err Outside)
stopped-ends outcome before now part = record { done = tt; failed = part }

-- sources that couldn't be had
pub asm-stopped : (known : Option Files) (words : AsmValue) (failure : Failure) (before now : Seen) → HostDidNothing before now
    → IfSome known (λ files. Refuses (asm_files files words) failure)
    → ComesOver (asm_of words) known (λ outcome. HostEnds outcome before now (Err failure))
unfolding command_outcome
asm-stopped None words failure before now nothing refuses = tt
asm-stopped (Some files) words failure before now nothing refuses = λ reading is. record {
  calls = 0;
  within_budget = tt;
  of_outcome = failure-ends (asm_files files words) (asm_outcome words.image) failure before now nothing refuses;
}

-- sources that are good
pub asm-comes : (known : Option Files) (words : AsmValue) (made : Assembled) (holds : Outcome → Type 0)
    → IfSome known (λ files. asm_files files words ≡ Ok made) → holds (asm_outcome words.image made) → ComesOver (asm_of words) known holds
unfolding command_outcome
asm-comes None words made holds good comes = tt
asm-comes (Some files) words made holds good comes = λ reading is. record { calls = 0; within_budget = tt; of_outcome = rw good comes }

-- what was done of good sources: both listings and the store, the listings alone, or a first part
-- of them
module _ (words : AsmValue) (made : Assembled) (before read now : Seen) (good : IfSome before.files (λ files. asm_files files words ≡ Ok made))
    (nothing : HostDidNothing before read) (text : List ℕ) (listed : text ≡ both_listings made) where
  pub asm-unwritten : {E : Type 0} (e : E) → HostWrites {T = Unit {0}} read now text (Err e) → Performs (asm_of words) before now (Err Outside)
  unfolding asm_outcome
  asm-unwritten e writes =
      asm-comes before.files words made (λ outcome. HostEnds outcome before now (Err Outside)) good
      (stopped-ends _ before now (did-first-of (sending (both_listings made)) (storing (Some words.image) made.image) _ _ _ _
      (first-after (sending (both_listings made)) before read now nothing (subst (λ (t : List ℕ). HostDidFirst (sending t) read now) listed writes.part))))

  module _ {E : Type 0} (u : Unit {0}) (writes : HostWrites {E = E} read now text (Ok u)) (last : Seen) (name bytes : List ℕ) where
    wrote : HostDid (sending (both_listings made)) before now
    wrote = did-after (sending (both_listings made)) before read now nothing (subst (λ (t : List ℕ). HostDid (sending t) read now) listed writes.did)

    pub asm-unstored : {F : Type 0} (f : F) → HostStores {T = Unit {0}} now last name bytes (Err f) → Performs (asm_of words) before last (Err Outside)
    unfolding asm_outcome
    asm-unstored f stores =
        asm-comes before.files words made (λ outcome. HostEnds outcome before last (Err Outside)) good
        (stopped-ends _ before last (did-then-first (sending (both_listings made)) (storing (Some words.image) made.image) _ _ _ _ _ _ wrote
        (did-nothing (storing (Some words.image) made.image) _ _ _ _ stores.nothing.0 stores.nothing.1)))

    pub asm-done : {F : Type 0} (v : Unit {0}) → name ≡ words.image → bytes ≡ made.image → HostStores {E = F} now last name bytes (Ok v)
        → Performs (asm_of words) before last (Ok Done)
    unfolding asm_outcome
    asm-done v named whole stores =
        asm-comes before.files words made (λ outcome. HostEnds outcome before last (Ok Done)) good
        (done-ends _ before last refl refl
        (did-then (sending (both_listings made)) (storing (Some words.image) made.image) _ _ _ _ _ _ wrote
        (subst (λ (n : List ℕ). HostDid (stored n made.image ∷ []) now last) named
        (subst (λ (b : List ℕ). HostDid (stored name b ∷ []) now last) whole stores.did))))

-- a session whose files couldn't be had
refused-first : {A B : Type 0} (given : Result A Outcome) (next : A → Result B Outcome) (failure : Failure) → Refuses given failure → Refuses (and_then given next) failure
refused-first given next (Bad note) refuses = ap (λ r. and_then r next) refuses
refused-first given next (Absent note) refuses = ap (λ r. and_then r next) refuses
refused-first given next Outside refuses = tt
refused-first given next NoMemory refuses = tt

refused-then : {A B : Type 0} (given : Result A Outcome) (a : A) (next : A → Result B Outcome) (failure : Failure) → given ≡ Ok a → Refuses (next a) failure
    → Refuses (and_then given next) failure
refused-then given a next (Bad note) is refuses = ap (λ r. and_then r next) is ∙ refuses
refused-then given a next (Absent note) is refuses = ap (λ r. and_then r next) is ∙ refuses
refused-then given a next Outside is refuses = tt
refused-then given a next NoMemory is refuses = tt

debug-refused : (known : Option Files) (words : DebugValue) (failure : Failure) (before now : Seen) → HostDidNothing before now
    → IfSome known (λ files. ForReading words.run.settings.state files (λ reading. Refuses (debug_files files words reading) failure))
    → ComesOver (debug_of words) known (λ outcome. HostEnds outcome before now (Err failure))
unfolding command_outcome
debug-refused None words failure before now nothing refuses = tt
debug-refused (Some files) words failure before now nothing refuses = λ reading is. record {
  calls = 0;
  within_budget = tt;
  of_outcome =
      failure-ends (debug_files files words reading) (λ session. debug_outcome words.run.settings.timers session.0 session.1) failure before now nothing
      (refuses reading is);
}

pub debug-stopped : (known : Option Files) (words : DebugValue) (run : RunValue) (failure : Failure) (before now : Seen) → run ≡ words.run
    → HostDidNothing before now
    → IfSome known (λ files. ForReading run.settings.state files (λ reading. Refuses (run_files files run reading) failure))
    → ComesOver (debug_of words) known (λ outcome. HostEnds outcome before now (Err failure))
unfolding debug_files
debug-stopped known words run failure before now same nothing refuses =
    debug-refused known words failure before now nothing (by_known known (rw (← same) refuses))
  where
    first : (files : Files) (reading : Result BoardValue StateFault) → Refuses (run_files files words.run reading) failure → Refuses (debug_files files words reading) failure
    first files reading r = refused-first (run_files files words.run reading) _ failure r

    by_known : (known : Option Files) → IfSome known (λ files. ForReading words.run.settings.state files (λ reading. Refuses (run_files files words.run reading) failure))
        → IfSome known (λ files. ForReading words.run.settings.state files (λ reading. Refuses (debug_files files words reading) failure))
    by_known None r = tt
    by_known (Some files) r = λ reading is. first files reading (r reading is)

-- a session whose script couldn't be had
pub debug-unread : (known again : Option Files) (words : DebugValue) (run : RunValue) (name : List ℕ) (parts : Parts) (failure : Failure) (before now : Seen)
    → run ≡ words.run → name ≡ words.script → again ≡ known → HostDidNothing before now
    → IfSome known (λ files. ForReading run.settings.state files (λ reading. run_files files run reading ≡ Ok parts))
    → IfSome again (λ files. Refuses (script_file files name) failure)
    → ComesOver (debug_of words) known (λ outcome. HostEnds outcome before now (Err failure))
unfolding debug_files
debug-unread known again words run name parts failure before now same named kept nothing good refuses =
    debug-refused known words failure before now nothing (by_known known (rw (← same) good) (rw (← kept, ← named) refuses))
  where
    then_ : (files : Files) (reading : Result BoardValue StateFault) → run_files files words.run reading ≡ Ok parts → Refuses (script_file files words.script) failure
        → Refuses (debug_files files words reading) failure
    then_ files reading g r =
        refused-then (run_files files words.run reading) parts _ failure g (refused-first (script_file files words.script) (λ commands. Ok (parts, commands)) failure r)

    by_known : (known : Option Files) → IfSome known (λ files. ForReading words.run.settings.state files (λ reading. run_files files words.run reading ≡ Ok parts))
        → IfSome known (λ files. Refuses (script_file files words.script) failure)
        → IfSome known (λ files. ForReading words.run.settings.state files (λ reading. Refuses (debug_files files words reading) failure))
    by_known None g r = tt
    by_known (Some files) g r = λ reading is. then_ files reading (g reading is) r

-- the words as they lie in their type
pub debug-same : (words inner : DebugValue) (before now : Seen) (result : Result Ending Failure) → inner ≡ words
    → Performs (debug_of inner) before now result → Performs (debug_of words) before now result
debug-same words inner before now result is performs = subst (λ (w : DebugValue). Performs (debug_of w) before now result) is performs

finished-session : (wired : Bool) (parts : Parts) (read : Result (List Command) Outcome)
    → finished {A = Parts × List Command} (and_then read (λ commands. Ok (parts, commands))) (λ session. debug_outcome wired session.0 session.1)
    ≡ finished read (debug_outcome wired parts)
finished-session wired parts (Ok commands) = refl
finished-session wired parts (Err refusal) = refl

session-outcome : (files : Files) (reading : Result BoardValue StateFault) (words : DebugValue) (bytes : List ℕ) (parts : Parts)
    → run_files files words.run reading ≡ Ok parts → script_file files words.script ≡ read_as words.script (script_read bytes)
    → command_outcome (debug_of words) files reading 0 ≡ session_outcome words.run.settings.timers words.script parts bytes
unfolding command_outcome debug_files
session-outcome files reading words bytes parts good read =
    rw good (rw read (finished-session words.run.settings.timers parts (read_as words.script (script_read bytes))))

-- a session whose files are there
session-reported : (known : Option Files) (words : DebugValue) (bytes : List ℕ) (parts : Parts) (holds : Outcome → Type 0)
    → IfSome known (λ files. ForReading words.run.settings.state files (λ reading. run_files files words.run reading ≡ Ok parts))
    → IfSome known (λ files. script_file files words.script ≡ read_as words.script (script_read bytes))
    → holds (session_outcome words.run.settings.timers words.script parts bytes)
    → ComesOver (debug_of words) known holds
session-reported None words bytes parts holds good read comes = tt
session-reported (Some files) words bytes parts holds good read comes = λ reading is. record {
  calls = 0;
  within_budget = tt;
  of_outcome = subst holds (sym (session-outcome files reading words bytes parts (good reading is) read)) comes;
}

pub debug-comes : (known again : Option Files) (words : DebugValue) (wired : Bool) (run : RunValue) (name bytes : List ℕ) (parts : Parts) (holds : Outcome → Type 0)
    → wired ≡ words.run.settings.timers → run ≡ words.run → name ≡ words.script → again ≡ known
    → IfSome known (λ files. ForReading run.settings.state files (λ reading. run_files files run reading ≡ Ok parts))
    → IfSome again (λ files. script_file files name ≡ read_as name (script_read bytes))
    → holds (session_outcome wired name parts bytes)
    → ComesOver (debug_of words) known holds
debug-comes known again words wired run name bytes parts holds asked same named kept good read comes =
    session-reported known words bytes parts holds (rw (← same) good) (rw (← kept, ← named) read) (rw (← asked, ← named) comes)

script-good : (bytes : List ℕ) (commands : List Command) → length bytes ≤ SCRIPT_LIMIT → script_of bytes ≡ Ok commands → script_read bytes ≡ Ok commands
unfolding script_read
script-good bytes commands short is =
    let fits : nat_lt SCRIPT_LIMIT (length bytes) ≡ false = grind (arith, nat_tests) in
    rw (fits, is) refl

script-bad : (bytes : List ℕ) (number : ℕ) → length bytes ≤ SCRIPT_LIMIT → script_of bytes ≡ Err number
    → script_read bytes ≡ Err (Script (script.BadCommand number))
unfolding script_read
script-bad bytes number short is =
    let fits : nat_lt SCRIPT_LIMIT (length bytes) ≡ false = grind (arith, nat_tests) in
    rw (fits, is) refl

-- what a session comes to, over the engine that was made for its parts
module _ (wired : Bool) (name bytes : List ℕ) (parts : Parts) (before now : Seen) (short : length bytes ≤ SCRIPT_LIMIT) (idle : now.stores ≡ before.stores) where
  pub session-done : (commands : List Command) (first : Board) → first ≡ first_board wired parts → script_of bytes ≡ Ok commands
      → now.taken ≡ grown before.taken (session_text parts.tape no_stops commands first)
      → HostEnds (session_outcome wired name parts bytes) before now (Ok Done)
  unfolding debug_outcome
  session-done commands first made is took =
      rw (script-good bytes commands short is) (done-ends _ before now refl refl (did-sending _ _ _ _ _ (rw (← made) took) idle))

  pub session-cut : (commands : List Command) (first : Board) → first ≡ first_board wired parts → script_of bytes ≡ Ok commands
      → (k : ℕ) × (now.taken ≡ grown before.taken (take k (session_text parts.tape no_stops commands first)))
      → HostEnds (session_outcome wired name parts bytes) before now (Err Outside)
  unfolding debug_outcome
  session-cut commands first made is cut =
      rw (script-good bytes commands short is) (stopped-ends _ before now (did-first-sending _ _ _ _ _ (rw (← made) cut) idle))

  pub session-bad : (number : ℕ) (failure : Failure) → script_of bytes ≡ Err number
      → IsBadOrMemory (note_text name (cause_text (Script (script.BadCommand number)))) failure
      → HostEnds (session_outcome wired name parts bytes) before now (Err failure)
  session-bad number (Bad note) is noted = rw (script-bad bytes number short is) (record { done = tt; failed = ap (refused 4) (sym noted) })
  session-bad number (Absent note) is noted = absurd noted
  session-bad number Outside is noted = absurd noted
  session-bad number NoMemory is noted = record { done = tt; failed = tt }

-- what a script did, by its fault under its name
pub debugs-as : (tape : TapeValue) (script : List ℕ) (before now : EngineValue) (out0 out1 : Option (List ℕ)) (faults0 faults1 : ℕ) (fault named : DebugFault)
    → fault ≡ named → Debugs tape script before now out0 out1 faults0 faults1 (Err fault) → Debugs tape script before now out0 out1 faults0 faults1 (Err named)
debugs-as tape script before now out0 out1 faults0 faults1 fault named is ran =
    subst (λ (f : DebugFault). Debugs tape script before now out0 out1 faults0 faults1 (Err f)) is ran

-- a script with a malformed line
pub bad-keeps : (text : List ℕ) (before now : Seen) (failure : Failure) → IsBadOrMemory text failure → SameLoans before now → HostDidNothing before now
    → NoFault before now → before.absences ≤ now.absences → Keeps before now (Err failure)
bad-keeps text before now (Bad note) is loans nothing none later = record { loans = loans; wrote_nothing = nothing; faults = none; absences = later }
bad-keeps text before now (Absent note) is loans nothing none later = absurd is
bad-keeps text before now Outside is loans nothing none later = absurd is
bad-keeps text before now NoMemory is loans nothing none later = record { loans = loans; wrote_nothing = nothing; faults = none; absences = later }

-- a state that couldn't be had
pub show-stopped : (known : Option Files) (name : List ℕ) (failure : Failure) (before now : Seen) → HostDidNothing before now
    → IfSome known (λ files. ForReading (Some name) files (λ reading. Refuses (state_file files name reading) failure))
    → ComesOver (show_of name) known (λ outcome. HostEnds outcome before now (Err failure))
unfolding command_outcome
show-stopped None name failure before now nothing refuses = tt
show-stopped (Some files) name failure before now nothing refuses = λ reading is. record {
  calls = 0;
  within_budget = tt;
  of_outcome = failure-ends (state_file files name reading) show_outcome failure before now nothing (refuses reading is);
}

-- a state that is there
pub show-comes : (known : Option Files) (name : List ℕ) (board : BoardValue) (holds : Outcome → Type 0)
    → IfSome known (λ files. ForReading (Some name) files (λ reading. state_file files name reading ≡ Ok board)) → holds (show_outcome board)
    → ComesOver (show_of name) known holds
unfolding command_outcome
show-comes None name board holds good comes = tt
show-comes (Some files) name board holds good comes = λ reading is. record { calls = 0; within_budget = tt; of_outcome = rw (good reading is) comes }

-- what a large run comes to, over the engine that was made for its workload
module _ (seed : ℕ) (image : List ℕ) (tape : TapeValue) (end : ℕ) (start : BoardValue) (first : Board) (is_image : image ≡ image_of seed)
    (is_tape : tape ≡ tape_of seed) (ends : end ≡ tape.end) (started : start ≡ board_at_power_on)
    (made : first ≡ first_board false (record { image = image; tape = tape; board = start })) (before now : Seen) (idle : now.stores ≡ before.stores) where
  same-text : run_text tape.entries end first ≡ (let parts = workload_of seed in run_text parts.tape.entries parts.tape.end (first_board false parts))
  same-text =
      ap (λ e. run_text tape.entries e first) ends
      ∙ ap (run_text tape.entries tape.end) made
      ∙ ap (λ b. run_text tape.entries tape.end (first_board false (record { image = image; tape = tape; board = b }))) started
      ∙ ap (λ i. run_text tape.entries tape.end (first_board false (record { image = i; tape = tape; board = board_at_power_on }))) is_image
      ∙ ap (λ (t : TapeValue). run_text t.entries t.end (first_board false (record { image = image_of seed; tape = t; board = board_at_power_on }))) is_tape

  pub soak-done : now.taken ≡ grown before.taken (run_text tape.entries end first) → HostEnds (soak_outcome seed) before now (Ok Done)
  unfolding soak_outcome
  soak-done took = done-ends _ before now refl refl (did-sending _ _ _ _ _ (took ∙ ap (grown before.taken) same-text) idle)

  pub soak-cut : (k : ℕ) × (now.taken ≡ grown before.taken (take k (run_text tape.entries end first))) → HostEnds (soak_outcome seed) before now (Err Outside)
  unfolding soak_outcome
  soak-cut (k, cut) = stopped-ends _ before now (did-first-sending _ _ _ _ _ (k, cut ∙ ap (λ text. grown before.taken (take k text)) same-text) idle)

-- an engine that is made for the parts of a run, with what the settings ask of it
pub record IsMadeFor (said : SettingsValue) (parts : Parts) (limit : ℕ) (wanted : Wanted) (cuts : List ℕ) (before : ℕ) (first : Board) : Type 0 where
  pub same_limit : limit ≡ limit_of said.until parts.tape.end
  pub same_wanted : wanted ≡ wanted_by said
  pub same_cuts : cuts ≡ said.cuts
  pub five : before ≡ 5
  pub same_first : first ≡ first_board said.timers parts

-- the same from the settings as they are kept
pub made-for : (kept said : SettingsValue) (parts : Parts) (end limit : ℕ) (cuts : List ℕ) (unused before : ℕ) (first : Board) → kept ≡ said
    → end ≡ parts.tape.end → limit ≡ limit_of kept.until end → cuts ≡ kept.cuts → unused ≡ 0 → before ≡ counted_on unused 5
    → first ≡ first_board kept.timers parts → IsMadeFor said parts limit (wanted_by kept) cuts before first
made-for kept said parts end limit cuts unused before first same last is listed none counted started =
    rw (sym same) (record {
      same_limit = is ∙ ap (limit_of kept.until) last;
      same_wanted = refl;
      same_cuts = listed;
      five = omega arith;
      same_first = started;
    })

-- the run of an engine is that of its parts
module _ (said : SettingsValue) (parts : Parts) (limit : ℕ) (wanted : Wanted) (cuts : List ℕ) (calls0 : ℕ) (first : Board)
    (made : IsMadeFor said parts limit wanted cuts calls0 first) (before now : Seen) where
  pub run-done : (calls : ℕ) (ending : Ending) (cpu : CpuValue) (last : Board) → HostDid (run_events parts.tape.entries limit wanted calls cuts first) before now
      → WithinBudget parts.tape.entries limit (length cuts) first calls0 calls
      → ending ≡ ending_by cpu.jam → cpu ≡ last.cpu → last ≡ cleared (last_board parts.tape.entries limit cuts first)
      → RunEnds said parts before now (Ok ending)
  unfolding run_outcome
  run-done calls ending cpu last did within_budget by here there =
      let is = by ∙ ap (λ (c : CpuValue). ending_by c.jam) here ∙ ap (λ (b : Board). ending_by b.cpu.jam) there in
      record {
        calls = calls;
        within_budget = rw (sym made.same_limit, sym made.same_cuts, sym made.same_first, sym made.five) within_budget;
        ends =
            rw (sym made.same_limit, sym made.same_cuts, sym made.same_first, sym made.same_wanted)
            (record { done = (sym (ap status_of_ending is), refl, did); failed = tt });
      }

  pub run-cut : StopsIn parts.tape.entries limit wanted calls0 cuts first before.taken now.taken before.stores now.stores
      → RunEnds said parts before now (Err Outside)
  unfolding run_outcome
  run-cut stopped = record {
    calls = stopped.calls;
    within_budget = rw (sym made.same_limit, sym made.same_cuts, sym made.same_first, sym made.five) stopped.within_budget;
    ends = rw (sym made.same_limit, sym made.same_cuts, sym made.same_first, sym made.same_wanted) (record { done = tt; failed = stopped.did });
  }

-- a run that has no memory
pub run-unstarted : (said : SettingsValue) (parts : Parts) (before now : Seen) → RunEnds said parts before now (Err NoMemory)
run-unstarted said parts before now =
    let some = some-calls said (Ok parts) in record { calls = some.0; within_budget = some.1; ends = record { done = tt; failed = tt } }
