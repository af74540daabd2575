-- Laws of pieces that a sink took one after another, the last of them perhaps in part.
use Rattle.std.proofs.Common.{◌≡◌, ℕ, ◌+◌, Result, Ok, Err, List, [], ◌∷◌, ◌++◌, Option, length, take, suc, zero, ap, sym, ◌∙◌, refl}
use Rattle.std.proofs.Math.Seq.{take-append-add}
use Rattle.outside_io.specs.Known.{grown}
use Rattle.outside_io.specs.Sink.{Takes}
use Rattle.outside_io.proofs.KnownLaws.{grown-twice}

-- a first part of the first piece is a first part of both
pub take-longer : {A : Type 0} (first rest : List A) (k : ℕ) → (j : ℕ) × (take j (first ++ rest) ≡ take k first)
take-longer first rest zero = (0, refl)
take-longer [] rest (suc k) = (0, refl)
take-longer (x ∷ first) rest (suc k) = let (j, same) = take-longer first rest k in (suc j, ap (λ l. x ∷ l) same)

-- what was taken of the first piece is a part of both
pub took_first : (out0 out1 : Option (List ℕ)) (first rest : List ℕ) → (k : ℕ) × (out1 ≡ grown out0 (take k first))
    → (k : ℕ) × (out1 ≡ grown out0 (take k (first ++ rest)))
took_first out0 out1 first rest (k, took) = let (j, same) = take-longer first rest k in (j, took ∙ ap (grown out0) (sym same))

-- what was taken of the second piece, after the whole of the first, is a part of both
pub took_then : (out0 out1 out2 : Option (List ℕ)) (first rest : List ℕ) → out1 ≡ grown out0 first → (k : ℕ) × (out2 ≡ grown out1 (take k rest))
    → (k : ℕ) × (out2 ≡ grown out0 (take k (first ++ rest)))
took_then out0 out1 out2 first rest whole (k, took) = (
  length first + k,
  took ∙ ap (λ out. grown out (take k rest)) whole ∙ grown-twice out0 first (take k rest) ∙ ap (grown out0) (sym (take-append-add first rest k)),
)

-- a second text was taken, whole or up to a fault
pub takes-then : {T E : Type 0} (out0 out1 out2 : Option (List ℕ)) (first second : List ℕ) (result : Result T E) → out1 ≡ grown out0 first
    → Takes out1 out2 second result → Takes out0 out2 (first ++ second) result
takes-then out0 out1 out2 first second (Ok v) whole took = took ∙ ap (λ out. grown out second) whole ∙ grown-twice out0 first second
takes-then out0 out1 out2 first second (Err e) whole took = took_then out0 out1 out2 first second whole took
