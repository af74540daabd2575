use Rattle.std.proofs.Common.{◌≡◌, List, ◌∷◌, length, ap, arith}
use Rattle.std.specs.Prelude.{Some}
use Rattle.std.specs.Iterator.{MakesProgress, item_count}
use Rattle.log_text.proofs.NextLaws.{next_generator, next_pokey1, next_pokey2, next_board, next_none}
use Rattle.log_text.proofs.merged.MergeIterator.next.Goals as goal

-- one record less is left
progress : {S A : Type 0} (can : S → Type 0) (rest : S → List A) (s : S) (x : A) (t : S) → rest s ≡ x ∷ rest t → can t
    → MakesProgress can (item_count rest) s (Some x) t
progress can rest s x t steps ready = record { on = λ _. (ready, tt, (let less = ap length steps in omega arith)); keeps = ready; rests = λ _. tt }

pub returns-in_default-clause-steps : goal.returns-in_default-clause-steps
returns-in_default-clause-steps c = let none = next_none _ _ _ _ c.in_default.ensures in (none, none)

pub returns-in-Some-take_at : goal.returns-in-Some-take_at
returns-in-Some-take_at c =
    let next = next_generator _ _ _ _ _ _ _ c.requires c.in-Some.ensures c.in-Some-take_at.ensures in
    record { steps = next.0; goes = progress _ _ _ _ _ next.0 next.1 }

pub returns-in-Some-take_at-2 : goal.returns-in-Some-take_at-2
returns-in-Some-take_at-2 c =
    let next = next_pokey1 _ _ _ _ _ _ _ _ c.requires c.in-Some.ensures c.in_default-take_at.ensures c.in-Some-take_at-2.ensures in
    record { steps = next.0; goes = progress _ _ _ _ _ next.0 next.1 }

pub returns-in-Some-take_at-3 : goal.returns-in-Some-take_at-3
returns-in-Some-take_at-3 c =
    let next = next_pokey2 _ _ _ _ _ _ _ _ _ c.requires c.in-Some.ensures c.in_default-take_at.ensures c.in_default-take_at-2.ensures c.in-Some-take_at-3.ensures in
    record { steps = next.0; goes = progress _ _ _ _ _ next.0 next.1 }

pub returns : goal.returns
returns c =
    let next = next_board _ _ _ _ _ _ _ _ _ _ c.requires c.in-Some.ensures c.in_default-take_at.ensures c.in_default-take_at-2.ensures c.in_default-take_at-3.ensures c.in_ok-record.ensures in
    record { steps = next.0; goes = progress _ _ _ _ _ next.0 next.1 }
