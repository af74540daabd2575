-- Going on inside a sequence, and the places in it.
use Rattle.std.proofs.Common.{rules, ◌⊎◌, inl, inr, ◌-◌, IfSome, slice_index, Option, ◌≢◌, ◌≡◌, ◌<◌, ◌≤◌, ◌+◌, ◌++◌, ℕ, List, []}
use Rattle.std.proofs.Common.{◌∷◌, length, take, drop, All, true, Some, None, refl, sym, ap, subst, ◌∙◌, append_assoc, arith}
use Rattle.std.proofs.lemmas.List.{append-nil, take-append-drop, length-append, length-take-le, take-append-le}
use Rattle.std.proofs.lemmas.List.Elements.{All-drop}
use Rattle.std.proofs.Math.Seq.{take-append_seam, drop-append_seam}
use Rattle.board_base.specs.Cpu.{CpuValue}
use Rattle.board_base.specs.Mid.{MidValue}
use Rattle.board_base.specs.declared.cpu.Sequence.{Sequence}
use Rattle.board_base.specs.declared.cpu.Sequence.TheVariants.{Opcode, Interrupt, Reset}
use Rattle.cpu_core.specs.declared.replay.Next.{Next}
use Rattle.cpu_core.specs.declared.replay.Next.TheVariants.{Read, Write, End}
use Rattle.cpu_table.specs.declared.instruction.Op.{Op}
use Rattle.cpu_table.specs.declared.instruction.Mode.{Mode}
use Rattle.cpu_table.specs.Opcodes.{row_of}
use Rattle.cpu_alu.specs.Flags.{is_masked}
use Rattle.cpu_core.specs.Registers.{RegistersValue, registers_of, jammed_on}
use Rattle.cpu_core.specs.Patterns.{row_cycles}
use Rattle.cpu_core.specs.BusCycles.{Access, BusCycles, finish, read, write}
use Rattle.cpu_core.specs.Sequences.{cycles_of, after, head_of, next_of, IsEnd, IsAccess, Moves, Runs}
use Rattle.cpu_core.specs.Places.{Gone, IsPlace, IsProcessor, padded, given_by, paused, stopped, Advances}
use Rattle.cpu_core.proofs.BusCycleLemmas.{after-append, after-finish}
use Rattle.cpu_core.proofs.LengthLemmas.{six_before_end}

-- one access after others
moves-one : {S : Type 0} (step : Access → S → S → Type 0) (r : RegistersValue) (q : Sequence) (given more : List ℕ) (v : ℕ) (x : Access) (s m t : S)
    → Moves step r q given more s m → IsAccess (next_of r q (given ++ more)) v x → step x m t → Moves step r q given (more ++ v ∷ []) s t
moves-one step r q given [] v x s m t p a st = (
  x,
  t,
  subst (λ bytes. IsAccess (next_of r q bytes) v x) (append-nil given) a,
  subst (λ m. step x m t) p st,
  refl,
)
moves-one step r q given (w ∷ more) v x s m t p a st = (
  p.0,
  p.1,
  p.2,
  p.3,
  moves-one step r q (given ++ w ∷ []) more v x p.1 m t p.4
      (subst (λ bytes. IsAccess (next_of r q bytes) v x) (sym (append_assoc given (w ∷ []) more)) a) st,
)

-- before the first access
pub gone_none : {S : Type 0} (step : Access → S → S → Type 0) (r : RegistersValue) (q : Sequence) (given : List ℕ) (s : S) → Gone step r q given given 0 s s
gone_none step r q given s = record { more = []; moves = refl; count = refl; seen = sym (append-nil given) }

-- one access more
pub gone_on : {S : Type 0} (step : Access → S → S → Type 0) (r : RegistersValue) (q : Sequence) (given seen : List ℕ) (made : ℕ) (v : ℕ) (s m t : S)
    → Gone step r q given seen made s m → ((x : Access) × IsAccess (next_of r q seen) v x × step x m t)
    → Gone step r q given (seen ++ v ∷ []) (made + 1) s t
gone_on step r q given seen made v s m t g a =
    record {
      more = g.more ++ v ∷ [];
      moves = moves-one step r q given g.more v a.0 s m t g.moves (subst (λ bytes. IsAccess (next_of r q bytes) v a.0) g.seen a.1) a.2;
      count = length-append g.more (v ∷ []) ∙ ap (λ n. n + 1) g.count;
      seen = ap (λ bytes. bytes ++ v ∷ []) g.seen ∙ append_assoc given g.more (v ∷ []);
    }

-- before its first access a sequence isn't complete
pub begins : (r : RegistersValue) (q : Sequence) → ¬ IsEnd (next_of r q [])
unfolding next_of
begins r Opcode = λ h. h
begins r Interrupt = λ h. h
begins r Reset = λ h. h

-- at its end some access has been made
pub ended_started : (r : RegistersValue) (q : Sequence) (now : List ℕ) (e : CpuValue) → End e ≡ next_of r q now → 1 ≤ length now
ended_started r q [] e h = absurd (begins r q (subst IsEnd h tt))
ended_started r q (v ∷ now) e h = omega arith

-- where a clock is given, some access has been made
pub gone_started : {S : Type 0} (step : Access → S → S → Type 0) (r : RegistersValue) (q : Sequence) (given now : List ℕ) (clocks made : ℕ) (s t : S)
    → Gone step r q given now made s t → (¬ IsEnd (next_of r q now) → made ≡ clocks) → 1 ≤ clocks → 1 ≤ length now
gone_started step r q given [] clocks made s t g full some =
    let all : made ≡ clocks = full (begins r q) in
    let none : length given + length g.more ≡ 0 = sym (length-append given g.more) ∙ sym (ap length g.seen) in
    let count : length g.more ≡ made = g.count in
    omega arith
gone_started step r q given (v ∷ now) clocks made s t g full some = omega arith

pub ruleset gone = (gone_none, gone_on, gone_started, ended_started)

-- what has ended has ended
ended_stays : (c : BusCycles) (xs ys : List ℕ) → IsEnd (head_of (after c xs)) → IsEnd (head_of (after c (xs ++ ys)))
ended_stays c xs ys h =
    subst (λ (d : BusCycles). IsEnd (head_of d)) (sym (after-append c xs ys)) (end_stays (after c xs) ys h)
  where
    end_stays : (d : BusCycles) (ys : List ℕ) → IsEnd (head_of d) → IsEnd (head_of (after d ys))
    end_stays (finish e) ys h = subst (λ (d : BusCycles). IsEnd (head_of d)) (sym (after-finish e ys)) tt
    end_stays (read a k) ys h = absurd h
    end_stays (write a v c) ys h = absurd h

-- an end after some of the first bytes is an end after all of them
ended_early : (r : RegistersValue) (q : Sequence) (bytes : List ℕ) (n : ℕ) → IsEnd (next_of r q (take n bytes)) → IsEnd (next_of r q bytes)
unfolding next_of
ended_early r q bytes n h =
    subst (λ (xs : List ℕ). IsEnd (next_of r q xs)) (take-append-drop n bytes)
    (ended_stays (cycles_of r q) (take n bytes) (drop n bytes) h)

-- an undocumented opcode is an end
jam_ends : (r : RegistersValue) (row : Option (Op × Mode)) (o : ℕ) (bytes : List ℕ) → row ≡ None → IsEnd (head_of (after (row_cycles r o row) bytes))
jam_ends r None o bytes h = subst (λ (d : BusCycles). IsEnd (head_of d)) (sym (after-finish (jammed_on r o) bytes)) tt
jam_ends r (Some row) o bytes h = absurd (cc)

documented_first : (r : RegistersValue) (q : Sequence) (bytes : List ℕ) (rest : List ℕ) → q ≡ Opcode → 1 ≤ length bytes
    → ¬ IsEnd (next_of r q bytes) → row_of (slice_index (bytes ++ rest) 0) ≢ None
unfolding next_of
documented_first r Opcode [] rest e h due none = absurd (omega arith)
documented_first r Opcode (o ∷ bytes) rest e h due none = due (jam_ends r (row_of o) o bytes none)
documented_first r Interrupt bytes rest e h due none = absurd (cc)
documented_first r Reset bytes rest e h due none = absurd (cc)

zeros : List ℕ
zeros = 0 ∷ 0 ∷ 0 ∷ 0 ∷ 0 ∷ 0 ∷ []

-- the bytes of a place that has seen these bytes
pub given_paused : (bytes : List ℕ) → take (length bytes) (padded bytes) ≡ bytes
given_paused bytes = take-append_seam bytes _

-- where an access is due after some bytes, there is a place after them
pub paused_place : (r : RegistersValue) (q : Sequence) (bytes : List ℕ) → 1 ≤ length bytes → (q ≡ Reset → is_masked r.p ≡ true)
    → ¬ IsEnd (next_of r q bytes) → IsPlace r (record { sequence = q; count = length bytes; bytes = padded bytes })
paused_place r q bytes started masked due =
    record {
      started = started;
      short = let six : length bytes < 7 = six_before_end r q bytes due in omega arith;
      zeros = rw drop-append_seam (All-drop (λ b. b ≡ 0) (length bytes) (0 ∷ 0 ∷ 0 ∷ 0 ∷ 0 ∷ 0 ∷ []) (search rules));
      documented = λ e. documented_first r q bytes _ e started due;
      masked = masked;
      unended = λ n low high over.
          due (ended_early r q bytes n (subst (λ (xs : List ℕ). IsEnd (next_of r q xs)) (take-append-le n bytes _ high) over));
    }

pub paused_processor : (r : RegistersValue) (q : Sequence) (bytes : List ℕ) → 1 ≤ length bytes → (q ≡ Reset → is_masked r.p ≡ true)
    → ¬ IsEnd (next_of r q bytes) → IsProcessor (paused r q bytes)
paused_processor r q bytes started masked due =
    record { undocumented = tt; place = (refl, paused_place r q bytes started masked due) }

-- the conditions of a place; of its first bytes only all together have to be looked at
pub is_place : (r : RegistersValue) (m : MidValue) → 1 ≤ m.count → m.count ≤ 6 → length m.bytes ≡ 6 → All (λ b. b ≡ 0) (drop m.count m.bytes)
    → (m.sequence ≡ Reset → is_masked r.p ≡ true) → ¬ IsEnd (next_of r m.sequence (given_by m)) → IsPlace r m
is_place r m started short six zeros masked due =
    let long : m.count ≤ length m.bytes = omega arith in
    let same : length (given_by m) ≡ m.count = length-take-le m.count m.bytes long in
    let whole : given_by m ++ drop m.count m.bytes ≡ m.bytes = take-append-drop m.count m.bytes in
    record {
      started = started;
      short = short;
      zeros = zeros;
      documented = λ e.
          subst (λ (xs : List ℕ). row_of (slice_index xs 0) ≢ None) whole
          (documented_first r m.sequence (given_by m) (drop m.count m.bytes) e (omega arith) due);
      masked = masked;
      unended = λ n low high over.
          let within : n ≤ length (given_by m) = omega arith in
          due (ended_early r m.sequence (given_by m) n
          (subst (λ (xs : List ℕ). IsEnd (next_of r m.sequence xs))
          (sym (ap (take n) whole) ∙ take-append-le n (given_by m) (drop m.count m.bytes) within) over));
    }

-- at a place an access is due
pub place_due : (r : RegistersValue) (m : MidValue) → IsPlace r m → ¬ IsEnd (next_of r m.sequence (given_by m))
place_due r m place = place.unended m.count place.started (omega arith)

pub ruleset places = (is_place, place_due)

-- accesses after accesses
pub moves-join : {S : Type 0} (step : Access → S → S → Type 0) (r : RegistersValue) (q : Sequence) (given more last : List ℕ) (s m t : S)
    → Moves step r q given more s m → Moves step r q (given ++ more) last m t → Moves step r q given (more ++ last) s t
moves-join step r q given [] last s m t p n =
    subst (λ (bytes : List ℕ). Moves step r q bytes last s t) (append-nil given)
    (subst (λ u. Moves step r q (given ++ []) last u t) p n)
moves-join step r q given (v ∷ more) last s m t p n = (
  p.0,
  p.1,
  p.2,
  p.3,
  moves-join step r q (given ++ v ∷ []) more last p.1 m t p.4
      (subst (λ (bytes : List ℕ). Moves step r q bytes last m t) (sym (append_assoc given (v ∷ []) more)) n),
)

-- accesses that are parted
pub moves-part : {S : Type 0} (step : Access → S → S → Type 0) (r : RegistersValue) (q : Sequence) (given more last : List ℕ) (s t : S)
    → Moves step r q given (more ++ last) s t → (m : S) × Moves step r q given more s m × Moves step r q (given ++ more) last m t
moves-part step r q given [] last s t p = (s, refl, subst (λ (bytes : List ℕ). Moves step r q bytes last s t) (sym (append-nil given)) p)
moves-part step r q given (v ∷ more) last s t p =
    let rest = moves-part step r q (given ++ v ∷ []) more last p.1 t p.4 in (
      rest.0,
      (p.0, p.1, p.2, p.3, rest.1),
      subst (λ (bytes : List ℕ). Moves step r q bytes last rest.0 t) (append_assoc given (v ∷ []) more) rest.2,
    )

-- a sequence is complete or it isn't
ends_or_not : (n : Next) → IsEnd n ⊎ (¬ IsEnd n)
ends_or_not (Read a) = inr (λ h. h)
ends_or_not (Write a v) = inr (λ h. h)
ends_or_not (End e) = inl tt

-- after seven accesses every sequence is complete
complete_at_seven : (r : RegistersValue) (q : Sequence) (bytes : List ℕ) → 7 ≤ length bytes → IsEnd (next_of r q bytes)
complete_at_seven r q bytes h =
    elim (ends_or_not (next_of r q bytes)) [
      | inl over ↦ over
      | inr due ↦ let six : length bytes < 7 = six_before_end r q bytes due in absurd (omega arith)
    ]

stopped_due : (r : RegistersValue) (q : Sequence) (bytes : List ℕ) (n : Next) → ¬ IsEnd n → stopped r q bytes n ≡ paused r q bytes
stopped_due r q bytes (Read a) due = refl
stopped_due r q bytes (Write a v) due = refl
stopped_due r q bytes (End e) due = absurd (due tt)

stopped_end : (r : RegistersValue) (q : Sequence) (bytes : List ℕ) (n : Next) (e : CpuValue) → IsEnd n → e ≡ stopped r q bytes n → n ≡ End e
stopped_end r q bytes (Read a) e over h = absurd over
stopped_end r q bytes (Write a v) e over h = absurd over
stopped_end r q bytes (End f) e over h = ap End (sym h)

-- the rest of a sequence, after its first accesses
pub record EndsAfter {S : Type 0} (step : Access → S → S → Type 0) (r : RegistersValue) (q : Sequence) (s t : S) (e : CpuValue) : Type 0 where
  pub runs : Runs step r q s t e
  pub boundary : e.mid ≡ None

parts_join : {S : Type 0} (step : Access → S → S → Type 0) (r : RegistersValue) (q : Sequence) (clocks made made2 : ℕ) (s m t : S) (e1 e2 : CpuValue)
    → (a : Advances step r q [] clocks made s m e1) → ¬ IsEnd (next_of r q a.more) → clocks ≤ 7
    → Advances step r q a.more (7 - clocks) made2 m t e2 → EndsAfter step r q s t e2
parts_join step r q clocks made made2 s m t e1 e2 a due few b =
    let first : made ≡ clocks = a.full due in
    let over : IsEnd (next_of r q (a.more ++ b.more)) =
    elim (ends_or_not (next_of r q (a.more ++ b.more))) [
      | inl over ↦ over
      | inr later ↦
          let second : made2 ≡ 7 - clocks = b.full later in
          let one : length a.more ≡ made = a.count in
          let two : length b.more ≡ made2 = b.count in
          complete_at_seven r q (a.more ++ b.more) (rw length-append (omega arith))
    ] in
    record {
      runs = record {
        bytes = a.more ++ b.more;
        moves = moves-join step r q [] a.more b.more s m t a.moves b.moves;
        ends = stopped_end r q (a.more ++ b.more) (next_of r q (a.more ++ b.more)) e2 over b.stands;
      };
      boundary = b.complete.1 over;
    }

-- a sequence that is started and then gone on with has run as a whole
pub two_parts : {S : Type 0} (step : Access → S → S → Type 0) (r : RegistersValue) (q : Sequence) (clocks made2 : ℕ) (s m t : S) (e1 e2 : CpuValue)
    → ((made : ℕ) × Advances step r q [] clocks made s m e1) → clocks ≤ 7 → e1.mid ≢ None
    → IfSome e1.mid (λ p. Advances step (registers_of e1) p.sequence (given_by p) (7 - clocks) made2 m t e2)
    → EndsAfter step r q s t e2
two_parts {S} step r q clocks made2 s m t e1 e2 a few inside b =
    let due : ¬ IsEnd (next_of r q a.1.more) = λ over. inside (a.1.complete.1 over) in
    let at : e1 ≡ paused r q a.1.more = a.1.stands ∙ stopped_due r q a.1.more (next_of r q a.1.more) due in
    let Goes : CpuValue → Type 0 = λ e. IfSome e.mid (λ p. Advances step (registers_of e) p.sequence (given_by p) (7 - clocks) made2 m t e2) in
    let c : Goes (paused r q a.1.more) = subst Goes at b in
    let Given : List ℕ → Type 0 = λ bytes. Advances step r q bytes (7 - clocks) made2 m t e2 in
    parts_join step r q clocks a.0 made2 s m t e1 e2 a.1 due few (subst Given (given_paused a.1.more) c)
