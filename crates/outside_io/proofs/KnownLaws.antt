-- Laws of content that is known or not.
use Rattle.std.proofs.Common.{◌≡◌, List, [], ◌++◌, Some, None, Option, refl, ap, append_assoc, append-nil}
use Rattle.outside_io.specs.Known.{grown}

-- growing by nothing
pub grown-nothing : {A : Type 0} (known : Option (List A)) → grown known [] ≡ known
grown-nothing None = refl
grown-nothing (Some xs) = ap Some (append-nil xs)

-- growing twice
pub grown-twice : {A : Type 0} (known : Option (List A)) (xs ys : List A) → grown (grown known xs) ys ≡ grown known (xs ++ ys)
grown-twice None xs ys = refl
grown-twice (Some zs) xs ys = ap Some (append_assoc zs xs ys)
