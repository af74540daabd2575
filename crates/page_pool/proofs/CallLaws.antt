-- What a call leaves at a place, and what calls leave one after another.
use Rattle.std.proofs.Common.{◌≡◌, ℕ, ◌+◌, ◌<◌, ◌≤◌, List, [], ◌∷◌, Option, Some, None, IsSome, cond, option_map, option_and_then, length, take, replicate, zero, suc, refl, ◌∙◌, ap, arith, inl, inr}
use Rattle.std.specs.Prelude.{IfSome, unwrap_or, ◌↔◌}
use Rattle.std.proofs.lemmas.Bool.Decides.{eqb_tells, nat_tests}
use Rattle.std.proofs.lemmas.Grind.{common_steps}
use Rattle.std.proofs.lemmas.List.{get_or-set_same}
use Rattle.page_pool.specs.Pool.{Holding, held_at, IsLive, held_more, held_less}
use Rattle.page_pool.specs.Calls.{Call, take_at, share_at, give_at, IsDue, called, all_called, StaysLive, LivePagesStay}
use Rattle.page_pool.specs.Holders.{holders_at, HasHolders, AreDue, is_gain, is_loss, gains, losses, HoldersAreCounted, OutnumberedPagesStay}
use Rattle.page_pool.proofs.FreeLaws.{live-within}

-- the bytes and the holders of what lies at a place
abbrev bytes_of : Option Holding → Option (List ℕ)
bytes_of o = option_map (λ page. page.bytes) o

abbrev holders_of : Option Holding → ℕ
holders_of o = unwrap_or (option_map (λ page. page.holders) o) 0

abbrev HasHolder : Option Holding → Type 0
HasHolder o = IfSome o (λ page. 1 ≤ page.holders)

-- a place before and after a call that gains and loses so many holders there
record IsStep (gain loss : ℕ) (before after : Option Holding) : Type 0 where
  bytes : IsSome before → IsSome after → bytes_of after ≡ bytes_of before
  held : HasHolder before → HasHolder after
  counted : HasHolder before → holders_of after + loss ≡ holders_of before + gain

unchanged : (o : Option Holding) → IsStep 0 0 o o
unchanged o = record { bytes = λ _ _. refl; held = λ held. held; counted = λ _. refl }

taken : (bytes : List ℕ) (o : Option Holding) → o ≡ None → IsStep 1 0 o (Some (record { bytes = bytes; holders = 1 }))
taken bytes None none = record { bytes = λ no _. cc; held = λ _. omega arith; counted = λ _. refl }
taken bytes (Some page) none = cc

shared : (o : Option Holding) → IsSome o → IsStep 1 0 o (option_map held_more o)
shared None live = cc
shared (Some page) live = record { bytes = λ _ _. refl; held = λ held. omega arith; counted = λ _. omega arith }

given : (o : Option Holding) → IsSome o → IsStep 0 1 o (option_and_then held_less o)
given None live = cc
given (Some page) live = elim (eqb_tells page.holders 1) [
  | inl (test, one) ↦ rw test record { bytes = λ _ no. cc; held = λ _. tt; counted = λ _. omega arith }
  | inr (test, other) ↦ rw test record { bytes = λ _ _. refl; held = λ held. omega arith; counted = λ held. omega arith }
]

step : (pool : List (Option Holding)) (call : Call) (place : ℕ) → IsDue pool call
    → IsStep (cond (is_gain place call) 1 0) (cond (is_loss place call) 1 0) (held_at pool place) (held_at (called pool call) place)
step pool (take_at at bytes) place due = grind (arith, nat_tests, common_steps, taken, unchanged)
step pool (share_at at) place due = grind (arith, nat_tests, common_steps, live-within, shared, unchanged)
step pool (give_at at) place due = grind (arith, nat_tests, common_steps, live-within, given, unchanged)

-- whatever is called, a live place keeps its bytes
stays-live : (pool : List (Option Holding)) (calls : List Call) (place : ℕ) → StaysLive pool calls place → IsLive pool place
stays-live pool [] place stays = stays
stays-live pool (call ∷ calls) place stays = stays.1

pub live_pages_stay : LivePagesStay
live_pages_stay pool [] place stays = refl
live_pages_stay pool (call ∷ calls) place stays =
    live_pages_stay (called pool call) calls place stays.2
    ∙ (step pool call place stays.0).bytes stays.1 (stays-live (called pool call) calls place stays.2)

-- holders, after a call and after all
record AreCounted (pool : List (Option Holding)) (calls : List Call) (place : ℕ) : Type 0 where
  held : HasHolder (held_at (all_called pool calls) place)
  counted : HoldersAreCounted pool calls place

all-counted : (pool : List (Option Holding)) (calls : List Call) (place : ℕ) → HasHolder (held_at pool place) → AreDue pool calls → AreCounted pool calls place
all-counted pool [] place held due = record { held = held; counted = refl }
all-counted pool (call ∷ calls) place held due =
    let first = step pool call place due.0 in
    let rest = all-counted (called pool call) calls place (first.held held) due.1 in
    let one = first.counted held in
    record { held = rest.held; counted = grind (arith, common_steps, one, rest.counted) }

pub new_holders : (capacity : ℕ) → HasHolders (replicate capacity None)
new_holders zero place = tt
new_holders (suc n) zero = tt
new_holders (suc n) (suc place) = new_holders n place

pub calls_holders : (pool : List (Option Holding)) (calls : List Call) → HasHolders pool → AreDue pool calls → HasHolders (all_called pool calls)
calls_holders pool calls held due place = (all-counted pool calls place (held place) due).held

pub holders_are_counted : (pool : List (Option Holding)) (calls : List Call) (place : ℕ) → HasHolders pool → AreDue pool calls → HoldersAreCounted pool calls place
holders_are_counted pool calls place held due = (all-counted pool calls place (held place) due).counted

-- a place is live where it has a holder
live-held : (o : Option Holding) → HasHolder o → (IsSome o ↔ (1 ≤ holders_of o))
live-held None held = (λ no. cc, λ some. absurd (omega arith))
live-held (Some page) held = (λ _. held, λ _. refl)

pub live_holders : (pool : List (Option Holding)) (place : ℕ) → HasHolders pool → (IsLive pool place ↔ (1 ≤ holders_at pool place))
live_holders pool place held = live-held (held_at pool place) (held place)

-- for as long as the holders and the gains outnumber the losses, a place stays live
outnumbered : (pool : List (Option Holding)) (call : Call) (calls : List Call) (place : ℕ) → HasHolder (held_at pool place) → AreDue pool (call ∷ calls)
    → ((n : ℕ) → 1 ≤ n → n ≤ suc (length calls) → losses place (take n (call ∷ calls)) < holders_at pool place + gains place (take n (call ∷ calls)))
    → StaysLive (called pool call) calls place
outnumbered pool call [] place held due more =
    let first = step pool call place due.0 in
    let one = first.counted held in
    (live-held _ (first.held held)).1 (grind (arith, common_steps, one, more 1 (omega arith) (omega arith)))
outnumbered pool call (next ∷ calls) place held due more =
    let first = step pool call place due.0 in
    let one = first.counted held in (
      due.1.0,
      (live-held _ (first.held held)).1 (grind (arith, common_steps, one, more 1 (omega arith) (omega arith))),
      outnumbered (called pool call) next calls place (first.held held) due.1 (λ n some within. grind (arith, common_steps, one, more (suc n) (omega arith) (omega arith))),
    )

pub outnumbered_pages_stay : OutnumberedPagesStay
outnumbered_pages_stay pool place bytes calls due outnumber =
    live_pages_stay (called pool (take_at place bytes)) calls place (outnumbered pool (take_at place bytes) calls place (rw due.0.1 tt) due (λ n some within.
    grind (arith, outnumber n some within)))
    ∙ ap bytes_of (get_or-set_same pool place _ None due.0.0)
