-- The accesses of a bus are those of what is seen of it, and its name stays.
use Rattle.std.proofs.Common.{◌≡◌, ℕ, List, [], ◌∷◌, ◌++◌, Option, Some, None, IfSome, IsSome, ap, ◌∙◌}
use Rattle.board_base.specs.declared.cpu.Sequence.{Sequence}
use Rattle.board_base.specs.Cpu.{CpuValue}
use Rattle.board_base.specs.Mid.{MidValue}
use Rattle.cpu_core.specs.BusCycles.{Access}
use Rattle.cpu_core.specs.Registers.{RegistersValue, registers_of}
use Rattle.cpu_core.specs.Sequences.{Moves, Runs}
use Rattle.cpu_core.specs.Places.{Advances, given_by}

module _ {S R : Type 0} {T : Access → S → S → Type 0} (U : Access → R → R → Type 0) (seen : S → R) (name : S → ℕ)
    (lift : (x : Access) (a b : S) → T x a b → (name b ≡ name a) × U x (seen a) (seen b)) where
  pub moves-seen : (r : RegistersValue) (q : Sequence) (bytes more : List ℕ) (s t : S) → Moves T r q bytes more s t
      → (name t ≡ name s) × Moves U r q bytes more (seen s) (seen t)
  moves-seen r q bytes [] s t same = (ap name same, ap seen same)
  moves-seen r q bytes (v ∷ more) s t (x, m, is, did, rest) =
      let one = lift x s m did in
      let others = moves-seen r q (bytes ++ v ∷ []) more m t rest in
      (others.0 ∙ one.0, (x, seen m, is, one.1, others.1))

  pub runs-seen : (r : RegistersValue) (q : Sequence) (s t : S) (e : CpuValue) → Runs T r q s t e
      → (name t ≡ name s) × Runs U r q (seen s) (seen t) e
  runs-seen r q s t e runs =
      let moved = moves-seen r q [] runs.bytes s t runs.moves in
      (moved.0, record { bytes = runs.bytes; moves = moved.1; ends = runs.ends })

  pub advances-seen : (r : RegistersValue) (q : Sequence) (given : List ℕ) (clocks made : ℕ) (s t : S) (e : CpuValue) → Advances T r q given clocks made s t e
      → (name t ≡ name s) × Advances U r q given clocks made (seen s) (seen t) e
  advances-seen r q given clocks made s t e a =
      let moved = moves-seen r q given a.more s t a.moves in
      (moved.0, record { more = a.more; moves = moved.1; count = a.count; few = a.few; full = a.full; stands = a.stands; complete = a.complete })

  pub rest-seen : (c : CpuValue) (clocks made : ℕ) (s t : S) (e : CpuValue) → IsSome c.mid
      → IfSome c.mid (λ m. Advances T (registers_of c) m.sequence (given_by m) clocks made s t e)
      → (name t ≡ name s) × IfSome c.mid (λ m. (made : ℕ) × Advances U (registers_of c) m.sequence (given_by m) clocks made (seen s) (seen t) e)
  rest-seen c clocks made s t e some advances = of c.mid some advances
    where
      of : (mid : Option MidValue) → IsSome mid → IfSome mid (λ m. Advances T (registers_of c) m.sequence (given_by m) clocks made s t e)
          → (name t ≡ name s) × IfSome mid (λ m. (made : ℕ) × Advances U (registers_of c) m.sequence (given_by m) clocks made (seen s) (seen t) e)
      of None some a = cc
      of (Some m) some a =
          let h = advances-seen (registers_of c) m.sequence (given_by m) clocks made s t e a in
          (h.0, (made, h.1))
