-- Where a processor stands inside a sequence, and how far some clocks bring it.
use Rattle.std.specs.Prelude.{◌≡◌, ◌≢◌, ◌≤◌, ◌↔◌, ◌++◌, ℕ, List, [], ◌∷◌, length, take, drop, slice_index, All, true, Option, Some, None, IfSome, IsSomeAnd, MatchOption}
use Rattle.board_base.specs.Cpu.{CpuValue}
use Rattle.board_base.specs.Mid.{MidValue}
use Rattle.board_base.specs.declared.cpu.Sequence.{Sequence}
use Rattle.board_base.specs.declared.cpu.Sequence.TheVariants.{Opcode, Reset}
use Rattle.cpu_table.specs.Opcodes.{row_of}
use Rattle.cpu_core.specs.declared.fetched.Fetched.{Fetched}
use Rattle.cpu_core.specs.declared.fetched.Fetched.TheVariants.{Done, Jammed}
use Rattle.cpu_core.specs.declared.replay.Next.{Next}
use Rattle.cpu_core.specs.declared.replay.Next.TheVariants.{End}
use Rattle.cpu_alu.specs.Flags.{is_masked}
use Rattle.cpu_core.specs.Registers.{RegistersValue, registers_of, at_boundary}
use Rattle.cpu_core.specs.BusCycles.{Access, read_of}
use Rattle.cpu_core.specs.Sequences.{next_of, IsEnd, Moves}

-- the bytes of the accesses so far
abbrev pub given_by : MidValue → List ℕ
given_by m = take m.count m.bytes

-- a place inside a sequence that began with the registers r: some accesses are made, the bytes past
-- them are 0, and none of their first bytes complete the sequence
pub record IsPlace (r : RegistersValue) (m : MidValue) : Type 0 where
  pub started : 1 ≤ m.count
  pub short : m.count ≤ 6
  pub zeros : All (λ b. b ≡ 0) (drop m.count m.bytes)
  pub documented : m.sequence ≡ Opcode → row_of (slice_index m.bytes 0) ≢ None
  pub masked : m.sequence ≡ Reset → is_masked r.p ≡ true
  pub unended : (n : ℕ) → 1 ≤ n → n ≤ m.count → ¬ IsEnd (next_of r m.sequence (take n m.bytes))

-- a processor that stands inside a sequence
abbrev pub IsMiddle : CpuValue → Type 0
IsMiddle c = (c.jam ≡ None) × IsSomeAnd c.mid (IsPlace (registers_of c))

-- a processor that an undocumented opcode has stopped, that stands inside a sequence, or between
-- two
pub record IsProcessor (c : CpuValue) : Type 0 where
  pub undocumented : IfSome c.jam (λ o. row_of o ≡ None)
  pub place : IfSome c.mid (λ _. IsMiddle c)

-- the six bytes that a place keeps: those of the accesses so far, and then 0
abbrev pub padded : List ℕ → List ℕ
padded bytes = bytes ++ drop (length bytes) (0 ∷ 0 ∷ 0 ∷ 0 ∷ 0 ∷ 0 ∷ [])

-- a processor that stands inside a sequence, which it began with the registers r, after these bytes
abbrev pub paused : RegistersValue → Sequence → List ℕ → CpuValue
paused r q bytes =
    record (at_boundary r) { mid = Some (record { sequence = q; count = length bytes; bytes = padded bytes }) }

-- the processor after these bytes of a sequence, inside it or at its end
abbrev pub stopped : RegistersValue → Sequence → List ℕ → Next → CpuValue
stopped r q bytes (End e) = e
stopped r q bytes next = paused r q bytes

abbrev pub standing : RegistersValue → Sequence → List ℕ → CpuValue
standing r q bytes = stopped r q bytes (next_of r q bytes)

-- from s to t a bus makes the next accesses of a sequence, here made, after which the bytes given
-- have become now
pub record Gone {S : Type 0} (step : Access → S → S → Type 0) (r : RegistersValue) (q : Sequence) (given now : List ℕ) (made : ℕ) (s t : S) : Type 0 where
  pub more : List ℕ
  pub moves : Moves step r q given more s t
  pub count : length more ≡ made
  pub seen : now ≡ given ++ more

-- from s to t a bus makes the next accesses of a sequence, as many as clocks are given or all that
-- are left, and leaves the processor e after them; given are the bytes of the accesses before
pub record Advances {S : Type 0} (step : Access → S → S → Type 0) (r : RegistersValue) (q : Sequence) (given : List ℕ) (clocks made : ℕ) (s t : S) (e : CpuValue) : Type 0 where
  pub more : List ℕ
  pub moves : Moves step r q given more s t
  pub count : length more ≡ made
  pub few : made ≤ clocks
  pub full : ¬ IsEnd (next_of r q (given ++ more)) → made ≡ clocks
  pub stands : e ≡ standing r q (given ++ more)
  pub complete : (e.mid ≡ None) ↔ IsEnd (next_of r q (given ++ more))

-- whether an instruction was done, or jammed the processor
abbrev pub fetched_of : Option ℕ → Fetched
fetched_of None = Done
fetched_of (Some o) = Jammed o

-- from s to t a bus first reads an opcode at pc; where it is undocumented, this is the only access
-- and the processor e is c but for the jam, and else e isn't jammed
pub record Fetches {S : Type 0} (step : Access → S → S → Type 0) (c : CpuValue) (s t : S) (e : CpuValue) : Type 0 where
  pub opcode : ℕ
  pub next : S
  pub access : step (read_of c.pc opcode) s next
  pub outcome : MatchOption (row_of opcode) ((t ≡ next) × (e ≡ record c { jam = Some opcode })) (λ _. e.jam ≡ None)

-- an instruction begins so, and no other sequence jams the processor
abbrev pub BeginsWith : {S : Type 0} → (Access → S → S → Type 0) → Sequence → CpuValue → S → S → CpuValue → Type 0
BeginsWith step Opcode c s t e = Fetches step c s t e
BeginsWith step _ c s t e = e.jam ≡ None
