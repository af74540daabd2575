-- The bus cycles that are left after some of their bytes.
use Rattle.std.proofs.Common.{◌≡◌, ℕ, List, [], ◌∷◌, ◌++◌, refl, sym, ap, subst, ◌∙◌, append_assoc}
use Rattle.std.proofs.lemmas.List.{append-nil}
use Rattle.board_base.specs.Cpu.{CpuValue}
use Rattle.board_base.specs.declared.cpu.Sequence.{Sequence}
use Rattle.cpu_core.specs.declared.replay.Next.TheVariants.{End}
use Rattle.cpu_core.specs.Registers.{RegistersValue}
use Rattle.cpu_core.specs.BusCycles.{Access, read_of, write_of, BusCycles, finish, read, write, Performs}
use Rattle.cpu_core.specs.Sequences.{cycles_of, after, head_of, next_of, IsAccess, Moves, Runs}

-- nothing comes after the end
pub after-finish : (e : CpuValue) (bytes : List ℕ) → after (finish e) bytes ≡ finish e
after-finish e [] = refl
after-finish e (b ∷ bytes) = refl

-- what is left after some bytes and then others
pub after-append : (c : BusCycles) (xs ys : List ℕ) → after c (xs ++ ys) ≡ after (after c xs) ys
after-append c [] ys = refl
after-append (finish e) (x ∷ xs) ys = sym (after-finish e ys)
after-append (read a k) (x ∷ xs) ys = after-append (k x) xs ys
after-append (write a v c) (x ∷ xs) ys = after-append c xs ys

-- the rest of a sequence, started at s after these bytes
pub record Rest {S : Type 0} (step : Access → S → S → Type 0) (r : RegistersValue) (q : Sequence) (bytes : List ℕ) (s t : S) (e : CpuValue) : Type 0 where
  pub more : List ℕ
  pub moves : Moves step r q bytes more s t
  pub ends : next_of r q (bytes ++ more) ≡ End e

-- one byte more is one access less to do
one_more : (r : RegistersValue) (q : Sequence) (bytes : List ℕ) (c d : BusCycles) (v : ℕ) → after (cycles_of r q) bytes ≡ c → after c (v ∷ []) ≡ d → after (cycles_of r q) (bytes ++ v ∷ []) ≡ d
one_more r q bytes c d v h k =
    after-append (cycles_of r q) bytes (v ∷ []) ∙ ap (λ x. after x (v ∷ [])) h ∙ k

next_is : (r : RegistersValue) (q : Sequence) (bytes : List ℕ) (c : BusCycles) → after (cycles_of r q) bytes ≡ c → next_of r q bytes ≡ head_of c
unfolding next_of
next_is r q bytes c h = ap head_of h

longer : {S : Type 0} (step : Access → S → S → Type 0) (r : RegistersValue) (q : Sequence) (bytes : List ℕ) (v : ℕ) (x : Access) (s m t : S) (e : CpuValue)
    → IsAccess (next_of r q bytes) v x → step x s m → Rest step r q (bytes ++ v ∷ []) m t e → Rest step r q bytes s t e
longer step r q bytes v x s m t e a st rest =
    record {
      more = v ∷ rest.more;
      moves = (x, m, a, st, rest.moves);
      ends = ap (next_of r q) (sym (append_assoc bytes (v ∷ []) rest.more)) ∙ rest.ends;
    }

-- what is performed after these bytes is the rest of the sequence
pub rest_of : {S : Type 0} (step : Access → S → S → Type 0) (r : RegistersValue) (q : Sequence) (bytes : List ℕ) (c : BusCycles) (s t : S) (e : CpuValue)
    → after (cycles_of r q) bytes ≡ c → Performs step c s t e → Rest step r q bytes s t e
rest_of step r q bytes (finish d) s t e h p =
    record {
      more = [];
      moves = p.0;
      ends = ap (next_of r q) (append-nil bytes) ∙ next_is r q bytes (finish d) h ∙ ap End (sym p.1);
    }
rest_of step r q bytes (read a k) s t e h p =
    longer step r q bytes p.0 (read_of a p.0) s p.1 t e
    (subst (λ n. IsAccess n p.0 (read_of a p.0)) (sym (next_is r q bytes (read a k) h)) refl)
    p.2
    (rest_of step r q (bytes ++ p.0 ∷ []) (k p.0) p.1 t e (one_more r q bytes (read a k) (k p.0) p.0 h refl) p.3)
rest_of step r q bytes (write a v c) s t e h p =
    longer step r q bytes v (write_of a v) s p.0 t e
    (subst (λ n. IsAccess n v (write_of a v)) (sym (next_is r q bytes (write a v c) h)) (refl, refl))
    p.1
    (rest_of step r q (bytes ++ v ∷ []) c p.0 t e (one_more r q bytes (write a v c) c v h refl) p.2)

-- what performs the bus cycles of a sequence runs the sequence
pub runs_of : {S : Type 0} (step : Access → S → S → Type 0) (r : RegistersValue) (q : Sequence) (s t : S) (e : CpuValue)
    → Performs step (cycles_of r q) s t e → Runs step r q s t e
runs_of step r q s t e p =
    let rest = rest_of step r q [] (cycles_of r q) s t e refl p in
    record { bytes = rest.more; moves = rest.moves; ends = rest.ends }
