-- The answer to a request. This project's own.
use Rattle.std.specs.Prelude.{◌≡◌, ◌≢◌, ◌≤◌, ◌<◌, ◌⊎◌, ℕ, List, ◌++◌, length}
use Rattle.outside_io.specs.Events.{stores_of, text_of}
use Rattle.outside_io.specs.Shelf.{Kept}
use Rattle.gravitar_commands.specs.Outcome.{Outcome}
use Rattle.run_stretch.specs.Answers.{Call, Refuses, put_in, report_of}
use Rattle.run_stretch.specs.Statuses.{number_of}
use Rattle.run_stretch.specs.declared.calls.report.Status.TheVariants.{Done, NoRoom}
use Rattle.command_calls.specs.Bytes.{all_named, number_bytes}
use Rattle.command_calls.specs.Counted.{counted}

-- a status and three lengths, and then a text, a note and stores
abbrev pub laid_out : ℕ → List ℕ → List ℕ → List ℕ → List ℕ
laid_out status text note stores =
    number_bytes status ++ (number_bytes (length text) ++ (number_bytes (length note) ++ (number_bytes (length stores) ++ (text ++ (note ++ stores)))))

abbrev pub answer_of : ℕ → List ℕ → List ℕ → List Kept → List ℕ
answer_of status text note stores = laid_out status text note (all_named stores)

-- the answer that has what comes of a command line
unfoldable pub answer_bytes : Outcome → List ℕ
answer_bytes outcome = answer_of outcome.status (text_of outcome.events) outcome.note (stores_of outcome.events)

-- these bytes were put in front of a buffer, up to a place
pub record IsFilled (before : List ℕ) (at : ℕ) (whole buffer : List ℕ) : Type 0 where
  pub until : length before ≡ at
  pub is : buffer ≡ put_in before whole

-- the answer lies in front of the buffer, which has room for all of it
pub record GivesAnswer (answer : List ℕ) (c : Call) : Type 0 where
  pub status : c.number ≡ number_of Done
  pub report : c.report ≡ report_of 0 (length answer) 0
  pub buffer : c.filled ≡ put_in answer c.buffer
  pub room : length answer ≤ length c.buffer

-- the buffer is too short for it
pub record WantsRoom (answer : List ℕ) (c : Call) : Type 0 where
  pub refused : Refuses NoRoom (report_of 0 (counted (length answer)) 0) c
  pub short : length c.buffer < length answer

-- all of it, or what it takes
abbrev pub AnswersWith : List ℕ → Call → Type 0
AnswersWith answer c = GivesAnswer answer c ⊎ WantsRoom answer c

-- what a call answers, whose status inside is never that of a fault outside
pub record AnswersCommand (outcome : Outcome) (c : Call) : Type 0 where
  pub no_fault : outcome.status ≢ 6
  pub answers : AnswersWith (answer_bytes outcome) c
