-- A text that a sink takes in first parts, while the rest of it waits.
use Rattle.std.proofs.Common.{◌≡◌, ℕ, List, [], ◌++◌, Option, Result, Ok, Err, take, ap, sym, ◌∙◌, append_assoc}
use Rattle.std.specs.Prelude.{IsErr}
use Rattle.outside_io.specs.Known.{grown}
use Rattle.outside_io.specs.Sink.{Takes}
use Rattle.outside_io.proofs.KnownLaws.{grown-nothing, grown-twice}
use Rattle.outside_io.proofs.TakesLaws.{took_first, took_then}
use Rattle.outside_io.specs.Gathering.{IsGathered, Gathers}

-- a piece more waits
pub gathered-longer : (out0 out1 : Option (List ℕ)) (text rest piece : List ℕ) → IsGathered out0 out1 text rest
    → IsGathered out0 out1 (text ++ piece) (rest ++ piece)
gathered-longer out0 out1 text rest piece first = record {
  sent = first.sent;
  taken = first.taken;
  parts = ap (λ l. l ++ piece) first.parts ∙ append_assoc first.sent rest piece;
}

-- a first part of what waited was taken, and the rest waits on
pub gathered-then : (out0 out1 out2 : Option (List ℕ)) (text rest more : List ℕ) → IsGathered out0 out1 text rest → IsGathered out1 out2 rest more
    → IsGathered out0 out2 text more
gathered-then out0 out1 out2 text rest more first second = record {
  sent = first.sent ++ second.sent;
  taken = second.taken ∙ ap (λ out. grown out second.sent) first.taken ∙ grown-twice out0 first.sent second.sent;
  parts = first.parts ∙ ap (λ l. first.sent ++ l) second.parts ∙ sym (append_assoc first.sent second.sent more);
}

-- what waited was taken up to a fault
pub gathered-cut : (out0 out1 out2 : Option (List ℕ)) (text rest : List ℕ) → IsGathered out0 out1 text rest
    → (k : ℕ) × (out2 ≡ grown out1 (take k rest)) → (k : ℕ) × (out2 ≡ grown out0 (take k text))
gathered-cut out0 out1 out2 text rest first cut = rw first.parts (took_then out0 out1 out2 first.sent rest first.taken cut)

-- what waited was taken, whole or up to a fault
pub gathered-end : {T E : Type 0} (out0 out1 out2 : Option (List ℕ)) (text rest : List ℕ) (result : Result T E) → IsGathered out0 out1 text rest
    → Takes out1 out2 rest result → Takes out0 out2 text result
gathered-end out0 out1 out2 text rest (Ok v) first whole =
    whole ∙ ap (λ out. grown out rest) first.taken ∙ grown-twice out0 first.sent rest ∙ ap (grown out0) (sym first.parts)
gathered-end out0 out1 out2 text rest (Err e) first cut = gathered-cut out0 out1 out2 text rest first cut

-- a fault came before the last piece
pub gathers-cut : {T E : Type 0} (out0 out1 : Option (List ℕ)) (text piece rest : List ℕ) (result : Result T E) → IsErr result
    → (k : ℕ) × (out1 ≡ grown out0 (take k text)) → Gathers out0 out1 (text ++ piece) rest result
gathers-cut out0 out1 text piece rest (Ok v) fault cut = cc
gathers-cut out0 out1 text piece rest (Err e) fault cut = took_first out0 out1 text piece cut

-- a fault came in a first part of a text
pub takes-cut : {T E : Type 0} (out0 out1 : Option (List ℕ)) (text : List ℕ) (result : Result T E) → IsErr result
    → (k : ℕ) × (out1 ≡ grown out0 (take k text)) → Takes out0 out1 text result
takes-cut out0 out1 text (Ok v) fault cut = cc
takes-cut out0 out1 text (Err e) fault cut = cut

-- what was taken before a fault
pub gathers-err : {T E : Type 0} (out0 out1 : Option (List ℕ)) (text rest : List ℕ) (result : Result T E) → IsErr result
    → (k : ℕ) × (out1 ≡ grown out0 (take k text)) → Gathers out0 out1 text rest result
gathers-err out0 out1 text rest (Ok v) fault cut = cc
gathers-err out0 out1 text rest (Err e) fault cut = cut

-- nothing was taken yet
pub none-gathered : (out : Option (List ℕ)) (text rest : List ℕ) → text ≡ rest → IsGathered out out text rest
none-gathered out text rest same = record { sent = []; taken = sym (grown-nothing out); parts = same }

-- the same bytes wait
pub gathered-as : (out0 out1 : Option (List ℕ)) (text rest same : List ℕ) → IsGathered out0 out1 text rest → rest ≡ same
    → IsGathered out0 out1 text same
gathered-as out0 out1 text rest same first is =
    record { sent = first.sent; taken = first.taken; parts = first.parts ∙ ap (λ l. first.sent ++ l) is }

-- the first piece of what is left was put behind the bytes that wait
pub gathered-piece : (out0 out1 out2 : Option (List ℕ)) (text waiting piece rest now : List ℕ) → IsGathered out0 out1 text (waiting ++ (piece ++ rest))
    → IsGathered out1 out2 (waiting ++ piece) now → IsGathered out0 out2 text (now ++ rest)
gathered-piece out0 out1 out2 text waiting piece rest now first second =
    gathered-then out0 out1 out2 text ((waiting ++ piece) ++ rest) (now ++ rest)
    (gathered-as out0 out1 text (waiting ++ (piece ++ rest)) ((waiting ++ piece) ++ rest) first (sym (append_assoc waiting piece rest)))
    (gathered-longer out1 out2 (waiting ++ piece) now rest second)

-- a fault came at it
pub gathered-piece-cut : (out0 out1 out2 : Option (List ℕ)) (text waiting piece rest : List ℕ) → IsGathered out0 out1 text (waiting ++ (piece ++ rest))
    → (k : ℕ) × (out2 ≡ grown out1 (take k (waiting ++ piece))) → (k : ℕ) × (out2 ≡ grown out0 (take k text))
gathered-piece-cut out0 out1 out2 text waiting piece rest first cut =
    gathered-cut out0 out1 out2 text ((waiting ++ piece) ++ rest)
    (gathered-as out0 out1 text (waiting ++ (piece ++ rest)) ((waiting ++ piece) ++ rest) first (sym (append_assoc waiting piece rest)))
    (took_first out1 out2 (waiting ++ piece) rest cut)
