-- A replay ends with the access that comes next.
use Rattle.std.proofs.Common.{◌≡◌, ℕ, List, [], ◌∷◌, Option, Some, None, sym, ap, subst, ◌∙◌}
use Rattle.board_base.specs.Cpu.{CpuValue}
use Rattle.board_base.specs.declared.cpu.Sequence.{Sequence}
use Rattle.cpu_core.specs.declared.replay.Next.{Next}
use Rattle.cpu_core.specs.declared.replay.Next.TheVariants.{Read, Write, End}
use Rattle.cpu_core.specs.Registers.{RegistersValue}
use Rattle.cpu_core.specs.BusCycles.{BusCycles, finish, read, write, Performs}
use Rattle.cpu_core.specs.Sequences.{cycles_of, after, head_of, next_of, IsEnd}
use Rattle.cpu_core.specs.Replays.{ReplayValue, Takes, Replays, due_or_end, IfEnd}
use Rattle.cpu_core.proofs.BusCycleLemmas.{after-finish}

kept_once : (due : Option Next) (given : List ℕ) (access : Next) (v : ℕ) (t : ReplayValue) (d : Next) → due ≡ Some d → Takes due given access v t → t.due ≡ Some d
kept_once None given access v t d h p = cc
kept_once (Some d') given access v t d h p = cc

-- the access due stays
kept : (c : BusCycles) (s t : ReplayValue) (e : CpuValue) (d : Next) → s.due ≡ Some d → Performs Replays c s t e → t.due ≡ Some d
kept (finish f) s t e d h p = ap (λ (x : ReplayValue). x.due) p.0 ∙ h
kept (read a k) s t e d h p = kept (k p.0) p.1 t e d (kept_once s.due s.given (Read a) p.0 p.1 d h p.2) p.3
kept (write a v c) s t e d h p = kept c p.0 t e d (kept_once s.due s.given (Write a v) p.1.0 p.0 d h p.1.1) p.2

-- with no byte left, the first of the bus cycles is the one due
due_first : (c : BusCycles) (x : Next) (m t : ReplayValue) (e : CpuValue) → m.due ≡ Some x → Performs Replays c m t e → x ≡ due_or_end t.due e
due_first c x m t e h p = ap (λ (d : Option Next). due_or_end d e) (sym (kept c m t e x h p))

-- what is performed over the bytes given ends with what comes after them
replayed : (c : BusCycles) (given : List ℕ) (t : ReplayValue) (e : CpuValue) → Performs Replays c (record { given = given; due = None }) t e → head_of (after c given) ≡ due_or_end t.due e
replayed (finish f) given t e p =
    ap head_of (after-finish f given) ∙ ap End (sym p.1)
    ∙ ap (λ (x : ReplayValue). due_or_end x.due e) (sym p.0)
replayed (read a k) [] t e p = due_first (k p.0) (Read a) p.1 t e p.2 p.3
replayed (read a k) (b ∷ given) t e p =
    replayed (k b) given t e
    (subst (λ (m : ReplayValue). Performs Replays (k b) m t e) p.2.1
    (subst (λ v. Performs Replays (k v) p.1 t e) p.2.0 p.3))
replayed (write a v c) [] t e p = due_first c (Write a v) p.0 t e p.1.1 p.2
replayed (write a v c) (b ∷ given) t e p =
    replayed c given t e (subst (λ (m : ReplayValue). Performs Replays c m t e) p.1.1.1 p.2)

-- the access due is none that ends a sequence
due_is_access : (c : BusCycles) (given : List ℕ) (t : ReplayValue) (e : CpuValue) (d : Next) → Performs Replays c (record { given = given; due = None }) t e → t.due ≡ Some d → ¬ IsEnd d
due_is_access (finish f) given t e d p h =
    let none : t.due ≡ None = ap (λ (x : ReplayValue). x.due) p.0 in absurd (cc)
due_is_access (read a k) [] t e d p h =
    let same : Read a ≡ d = cc (kept (k p.0) p.1 t e (Read a) p.2 p.3) in
    subst (λ (n : Next). ¬ IsEnd n) same (λ x. x)
due_is_access (read a k) (b ∷ given) t e d p h =
    due_is_access (k b) given t e d
    (subst (λ (m : ReplayValue). Performs Replays (k b) m t e) p.2.1
    (subst (λ v. Performs Replays (k v) p.1 t e) p.2.0 p.3)) h
due_is_access (write a v c) [] t e d p h =
    let same : Write a v ≡ d = cc (kept c p.0 t e (Write a v) p.1.1 p.2) in
    subst (λ (n : Next). ¬ IsEnd n) same (λ x. x)
due_is_access (write a v c) (b ∷ given) t e d p h =
    due_is_access c given t e d (subst (λ (m : ReplayValue). Performs Replays c m t e) p.1.1.1 p.2) h

from_start : (r : RegistersValue) (q : Sequence) (given : List ℕ) (s t : ReplayValue) (e : CpuValue)
    → s ≡ record { given = given; due = None } → Performs Replays (cycles_of r q) s t e
    → Performs Replays (cycles_of r q) (record { given = given; due = None }) t e
from_start r q given s t e h p = subst (λ (m : ReplayValue). Performs Replays (cycles_of r q) m t e) h p

-- where an access is due, it is what comes next
pub next_is_due : (r : RegistersValue) (q : Sequence) (given : List ℕ) (s t : ReplayValue) (e : CpuValue) (d : Next)
    → s ≡ record { given = given; due = None } → Performs Replays (cycles_of r q) s t e → t.due ≡ Some d → d ≡ next_of r q given
unfolding next_of
next_is_due r q given s t e d h p k =
    sym (replayed (cycles_of r q) given t e (from_start r q given s t e h p) ∙ ap (λ (x : Option Next). due_or_end x e) k)

-- and no end
pub next_is_access : (r : RegistersValue) (q : Sequence) (given : List ℕ) (s t : ReplayValue) (e : CpuValue) (d : Next)
    → s ≡ record { given = given; due = None } → Performs Replays (cycles_of r q) s t e → t.due ≡ Some d → ¬ IsEnd d
next_is_access r q given s t e d h p k = due_is_access (cycles_of r q) given t e d (from_start r q given s t e h p) k

-- where none is due, the sequence has ended
pub next_is_end : (r : RegistersValue) (q : Sequence) (given : List ℕ) (s t : ReplayValue) (e : CpuValue)
    → s ≡ record { given = given; due = None } → Performs Replays (cycles_of r q) s t e → t.due ≡ None → End e ≡ next_of r q given
unfolding next_of
next_is_end r q given s t e h p k =
    sym (replayed (cycles_of r q) given t e (from_start r q given s t e h p) ∙ ap (λ (x : Option Next). due_or_end x e) k)

-- a fact about an end holds where there is none
pub if_no_end : (n : Next) (P : CpuValue → Type 0) → ¬ IsEnd n → IfEnd n P
if_no_end (Read a) P h = tt
if_no_end (Write a v) P h = tt
if_no_end (End e) P h = absurd (h tt)
