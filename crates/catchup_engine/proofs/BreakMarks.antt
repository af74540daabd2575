-- Marks of addresses, one address at a time.
use Rattle.std.proofs.Common.{◌≡◌, ℕ, ◌+◌, ◌<◌, ◌%◌, ◌==◌, ◌||◌, Bool, true, false, List, length, take, get_or, slice_index_or, slice_set, refl, sym, ◌∙◌, ap, arith}
use Rattle.std.proofs.lemmas.Grind.{common_steps}
use Rattle.std.proofs.lemmas.Bool.Decides.{nat_tests}
use Rattle.std.proofs.lemmas.List.Folds.{list_any_more}
use Rattle.std.specs.List.{list_any}
use Rattle.catchup_engine.specs.BreakMarks.{AreMarked}

-- a mark of this number or an earlier one
set-or : (marks : List Bool) (n k : ℕ) (earlier here : Bool) → n < length marks → (earlier ≡ true → slice_index_or marks k false ≡ true)
    → (here ≡ true → k ≡ n) → earlier || here ≡ true → slice_index_or (slice_set marks n true) k false ≡ true
set-or marks n k true here inside before now e = let was = before refl in grind (arith, common_steps, nat_tests)
set-or marks n k false true inside before now e = let is = now refl in rw is (grind (arith, common_steps, nat_tests))
set-or marks n k false false inside before now e = cc

pub marked-more : (marks : List Bool) (addresses : List ℕ) (i n : ℕ) → length marks ≡ 256 → i < length addresses → n ≡ get_or addresses i 0 % 256
    → AreMarked marks (take i addresses) → AreMarked (slice_set marks n true) (take (i + 1) addresses)
marked-more marks addresses i n whole inside is are = record {
  marked = λ pc e.
      set-or marks n (pc % 256) (list_any (λ address. address == pc) (take i addresses)) (get_or addresses i 0 == pc) (omega arith) (are.marked pc)
      (λ same. (let at : get_or addresses i 0 ≡ pc = grind (arith, nat_tests) in sym (ap (λ a. a % 256) at) ∙ sym is))
      (sym (list_any_more (λ address. address == pc) addresses i 0 inside) ∙ e);
}
