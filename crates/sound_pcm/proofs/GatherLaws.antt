-- The bytes of samples, while the rest of them waits.
use Rattle.std.proofs.Common.{◌≡◌, ℕ, List, [], ◌∷◌, ◌++◌, Option, take, refl}
use Rattle.std.specs.Int.{w32, to_le_bytes}
use Rattle.std.proofs.lemmas.Grind.{flat_map-append}
use Rattle.std.proofs.lemmas.List.Concat.{flat_map-cons}
use Rattle.outside_io.specs.Gathering.{IsGathered}
use Rattle.outside_io.specs.Known.{grown}
use Rattle.outside_io.proofs.GatherLaws.{gathered-piece, gathered-piece-cut}
use Rattle.sound_pcm.specs.Samples.{bytes_of}

-- the bytes of samples and of more samples
pub bytes-append : (xs ys : List ℕ) → bytes_of (xs ++ ys) ≡ bytes_of xs ++ bytes_of ys
unfolding bytes_of
bytes-append xs ys = flat_map-append (to_le_bytes w32) xs ys

-- the bytes of a sample and of those after it
pub bytes-first : (x : ℕ) (xs : List ℕ) → bytes_of (x ∷ xs) ≡ to_le_bytes w32 x ++ bytes_of xs
unfolding bytes_of
bytes-first x xs = flat_map-cons (to_le_bytes w32) x xs

-- no sample has no bytes
pub bytes-none : bytes_of [] ≡ []
unfolding bytes_of
bytes-none = refl

-- the first piece of the rest is put behind the bytes that wait, or a fault comes at it
module _ (out0 out1 out2 : Option (List ℕ)) (text block rest piece more : List ℕ) (is : rest ≡ piece ++ more) (first : IsGathered out0 out1 text (block ++ rest)) where
  pub next-gathered : (now : List ℕ) → IsGathered out1 out2 (block ++ piece) now → IsGathered out0 out2 text (now ++ more)
  next-gathered now second = gathered-piece out0 out1 out2 text block piece more now (rw is at first) second

  pub next-cut : (k : ℕ) × (out2 ≡ grown out1 (take k (block ++ piece))) → (k : ℕ) × (out2 ≡ grown out0 (take k text))
  next-cut cut = gathered-piece-cut out0 out1 out2 text block piece more (rw is at first) cut
