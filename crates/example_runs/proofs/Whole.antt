-- A file of which no more bytes came than were asked for is whole.
use Rattle.std.proofs.Common.{◌≡◌, ℕ, ◌+◌, ◌≤◌, min, List, length, take, Option, Some, None, Ok, IfSome, IsSomeAnd, sym, ap, subst, ◌∙◌, arith}
use Rattle.std.proofs.lemmas.List.{length-take, take_all}
use Rattle.outside_io.specs.declared.answers.Loaded.{Loaded}
use Rattle.outside_io.specs.declared.answers.Loaded.TheVariants.{Found}
use Rattle.outside_io.specs.Shelf.{Files, Loads}

-- the content that these first bytes are of
content_whole : (limit : ℕ) (content : Option (List ℕ)) (bytes : List ℕ)
    → IsSomeAnd content (λ whole. bytes ≡ take (limit + 1) whole) → length bytes ≤ limit → content ≡ Some bytes
content_whole limit None bytes first few = absurd first
content_whole limit (Some whole) bytes first few =
    let count : length bytes ≡ min (limit + 1) (length whole) = ap length first ∙ length-take (limit + 1) whole in
    let short : length whole ≤ limit + 1 = omega (arith, count, few) in
    ap Some (sym (first ∙ take_all (limit + 1) whole short))

came_whole : (stated : Option Files) (name : List ℕ) (limit : ℕ) (bytes : List ℕ)
    → Loads stated name limit (Ok Found) bytes → length bytes ≤ limit → IfSome stated (λ files. files name ≡ Some bytes)
came_whole None name limit bytes loads few = tt
came_whole (Some files) name limit bytes loads few = content_whole limit (files name) bytes loads.1 few

pub found_whole : (stated : Option Files) (name : List ℕ) (limit : ℕ) (answer : Loaded) (bytes : List ℕ)
    → answer ≡ Found → Loads stated name limit (Ok answer) bytes → length bytes ≤ limit → IfSome stated (λ files. files name ≡ Some bytes)
found_whole stated name limit answer bytes found loads few = came_whole stated name limit bytes (subst (λ a. Loads stated name limit (Ok a) bytes) found loads) few
