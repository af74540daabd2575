use Rattle.std.proofs.Common.{◌≡◌, ℕ, List, [], ◌∷◌, ◌++◌, ◌∙◌, ap, refl, replicate}
use Rattle.cycle_profile.specs.declared.counts.Counts.{Counts}
use Rattle.cycle_profile.specs.declared.profile.TheConstants.{ADDRESSES}
use Rattle.cycle_profile.specs.Profile.{ProfileValue}
use Rattle.cycle_profile.proofs.profile.Profile.new.Goals as goal

-- profiles of the same list and the same counts
same : (first second : List ℕ) (counts1 counts2 : List Counts) → first ≡ second → counts1 ≡ counts2
    → ◌≡◌ {A = ProfileValue} (record { routines = first; counts = counts1; clocks = 0 }) (record { routines = second; counts = counts2; clocks = 0 })
same first second counts1 counts2 lists tables = rw (lists, tables) refl

pub returns : goal.returns
returns c =
    same _ _ _ _ (c.push.ensures.items ∙ ap (λ l. l ++ c.args.pc ∷ []) c.new-routines.ensures)
    (c.in_ok-counts.ensures.items_if_clones_equal (λ y is. is) ∙ ap (λ counts. replicate ADDRESSES counts) c.none.ensures)
