-- What one more file does to the content of a list of files.
use Rattle.std.proofs.Common.{◌≡◌, ◌≢◌, ℕ, List, [], ◌∷◌, ◌++◌, Some, refl, sym}
use Rattle.std.specs.Prelude.{bytes_eq}
use Rattle.std.proofs.lemmas.Bool.{false_from_ne_true}
use Rattle.std.proofs.lemmas.List.{reverse-append}
use Rattle.std.proofs.lemmas.Slice.Eq.{bytes_eq-Decides}
use Rattle.outside_io.specs.Content.{content_of}
use Rattle.outside_io.specs.Shelf.{Kept}

-- the last file of a name is the one that is there
pub content_kept : (files : List Kept) (name bytes : List ℕ) → content_of (files ++ (name, bytes) ∷ []) name ≡ Some bytes
unfolding content_of
content_kept files name bytes = rw (reverse-append, (bytes_eq-Decides name name).1 refl) refl

-- a file of another name changes nothing
pub content_other : (files : List Kept) (name bytes other : List ℕ) → other ≢ name
    → content_of (files ++ (name, bytes) ∷ []) other ≡ content_of files other
unfolding content_of
content_other files name bytes other differ =
    rw (reverse-append, false_from_ne_true (bytes_eq name other) (λ same. differ (sym ((bytes_eq-Decides name other).0 same)))) refl
