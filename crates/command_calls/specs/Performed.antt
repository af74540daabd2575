-- What a command line has done over files in memory. This project's own.
use Rattle.std.specs.Prelude.{◌≡◌, ℕ, List}
use Rattle.outside_io.specs.Events.{stores_of, text_of}
use Rattle.outside_io.specs.Shelf.{Kept}
use Rattle.gravitar_commands.specs.Outcome.{Outcome}

-- the status, the text, the note and the stores are those of an outcome
pub record Performed (outcome : Outcome) (status : ℕ) (text note : List ℕ) (stores : List Kept) : Type 0 where
  pub of_status : status ≡ outcome.status
  pub of_text : text ≡ text_of outcome.events
  pub of_note : note ≡ outcome.note
  pub of_stores : stores ≡ stores_of outcome.events
