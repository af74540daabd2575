-- The I/O of a command, one byte or one store at a time, in order.
use Rattle.std.specs.Prelude.{◌≡◌, ℕ, List, [], ◌∷◌, Option, Some, None, take}
use Rattle.outside_io.specs.Known.{grown}
use Rattle.outside_io.specs.Shelf.{Kept}

pub data Event : Type 0 where
  sent : ℕ → Event
  stored : List ℕ → List ℕ → Event

-- the bytes that were sent
unfoldable pub text_of : List Event → List ℕ
text_of [] = []
text_of (sent b ∷ events) = b ∷ text_of events
text_of (stored name bytes ∷ events) = text_of events

-- the stores that were made
unfoldable pub stores_of : List Event → List Kept
stores_of [] = []
stores_of (sent b ∷ events) = stores_of events
stores_of (stored name bytes ∷ events) = (name, bytes) ∷ stores_of events

-- each byte of a text
unfoldable pub sending : List ℕ → List Event
sending [] = []
sending (b ∷ text) = sent b ∷ sending text

-- a store under a name, where one is given
abbrev pub storing : Option (List ℕ) → List ℕ → List Event
storing None bytes = []
storing (Some name) bytes = stored name bytes ∷ []

-- what the output took and the stores that were made are these, where they are known
pub record Did (events : List Event) (out0 out1 : Option (List ℕ)) (stores0 stores1 : Option (List Kept)) : Type 0 where
  pub text : out1 ≡ grown out0 (text_of events)
  pub stores : stores1 ≡ grown stores0 (stores_of events)

-- The first of them were done and the others not. So the output holds a first part of the text, and
-- the stores are the first of the stores; and no store was made while text that stands in front of
-- it was still missing.
pub record DidFirst (events : List Event) (out0 out1 : Option (List ℕ)) (stores0 stores1 : Option (List Kept)) : Type 0 where
  pub count : ℕ
  pub did : Did (take count events) out0 out1 stores0 stores1
