-- The two clauses of `gravitar`, that on what is done and that on the note, as one.
use Rattle.std.proofs.Common.{◌≡◌, ℕ, List, [], Some, None, Option, Result, Ok, Err, refl, ◌∙◌, arith, rules}
use Rattle.command_line.specs.CommandValue.{CommandValue, asm_of, debug_of, frames_of, pcm_of, profile_of, run_of, seek_of, show_of, soak_of}
use Rattle.command_line.specs.SettingsValue.{SettingsValue}
use Rattle.outside_io.specs.Causes.{Rose}
use Rattle.outside_io.specs.Events.{Did}
use Rattle.outside_io.specs.Shelf.{Files, Kept}
use Rattle.save_state.specs.declared.fault.StateFault.{StateFault}
use Rattle.board_base.specs.Board.{BoardValue}
use Rattle.gravitar_commands.specs.Outcome.{ComesOf, ComesOver, Outcome, command_outcome, finished, run_files, run_outcome}
use Rattle.gravitar_commands.specs.Stages.{Noted}
use Rattle.gravitar_commands.specs.declared.parts.Parts.{Parts}
use Rattle.command_calls.specs.Performed.{Performed}

-- a count that is always 0 doesn't rise
pub no_rise : ¬ Rose 0 0
no_rise rose = omega arith

-- the note of a run says nothing of its device calls
run_note : (r : Result Parts Outcome) (said : SettingsValue) (m n : ℕ)
    → (finished r (λ parts. run_outcome said parts m)).note ≡ (finished r (λ parts. run_outcome said parts n)).note
unfolding run_outcome
run_note (Ok parts) said m n = refl
run_note (Err refusal) said m n = refl

same_note : (command : CommandValue) (files : Files) (reading : Result BoardValue StateFault) (m n : ℕ)
    → (command_outcome command files reading m).note ≡ (command_outcome command files reading n).note
unfolding command_outcome
same_note (run_of run) files reading m n = run_note (run_files files run reading) run.settings m n
same_note (asm_of asm) files reading m n = refl
same_note (debug_of debug) files reading m n = refl
same_note (show_of name) files reading m n = refl
same_note (soak_of seed) files reading m n = refl
same_note (pcm_of pcm) files reading m n = refl
same_note (frames_of run) files reading m n = refl
same_note (seek_of seek) files reading m n = refl
same_note (profile_of run) files reading m n = refl

-- what was done of an outcome, and its note, make an answer
answer : (outcome : Outcome) (status : ℕ) (text note : List ℕ) (stores : List Kept)
    → (status ≡ outcome.status) × Did outcome.events (Some []) (Some text) (Some []) (Some stores)
    → note ≡ outcome.note → Performed outcome status text note stores
answer outcome status text note stores did said = record {
  of_status = did.0;
  of_text = search rules;
  of_note = said;
  of_stores = search rules;
}

noted : (note wanted : List ℕ) → Noted (Some []) (Some note) 0 0 wanted → note ≡ wanted
noted note wanted h = let whole = h.whole no_rise in search rules

over : (command : CommandValue) (files : Files) (status : ℕ) (text note : List ℕ) (stores : List Kept)
    → ComesOver command (Some files) (λ outcome. (status ≡ outcome.status) × Did outcome.events (Some []) (Some text) (Some []) (Some stores))
    → ComesOver command (Some files) (λ outcome. Noted (Some []) (Some note) 0 0 outcome.note)
    → ComesOver command (Some files) (λ outcome. Performed outcome status text note stores)
over command files status text note stores did said = λ reading is.
    let first = did reading is in
    let second = said reading is in
    record {
      calls = first.calls;
      within_budget = first.within_budget;
      of_outcome = answer _ status text note stores first.of_outcome
          (noted note _ second.of_outcome ∙ same_note command files reading second.calls first.calls);
    }

pub joined : (command : Option CommandValue) (files : Files) (status : ℕ) (text note : List ℕ) (stores : List Kept)
    → ComesOf command (Some files) (λ outcome. (status ≡ outcome.status) × Did outcome.events (Some []) (Some text) (Some []) (Some stores))
    → ComesOf command (Some files) (λ outcome. Noted (Some []) (Some note) 0 0 outcome.note)
    → ComesOf command (Some files) (λ outcome. Performed outcome status text note stores)
joined None files status text note stores did said = answer _ status text note stores did (noted note _ said)
joined (Some (run_of run)) files status text note stores did said = over (run_of run) files status text note stores did said
joined (Some (asm_of asm)) files status text note stores did said = over (asm_of asm) files status text note stores did said
joined (Some (debug_of debug)) files status text note stores did said = over (debug_of debug) files status text note stores did said
joined (Some (show_of name)) files status text note stores did said = over (show_of name) files status text note stores did said
joined (Some (soak_of seed)) files status text note stores did said = answer _ status text note stores did (noted note _ said)
joined (Some (pcm_of pcm)) files status text note stores did said = over (pcm_of pcm) files status text note stores did said
joined (Some (frames_of run)) files status text note stores did said = over (frames_of run) files status text note stores did said
joined (Some (seek_of seek)) files status text note stores did said = over (seek_of seek) files status text note stores did said
joined (Some (profile_of run)) files status text note stores did said = over (profile_of run) files status text note stores did said
