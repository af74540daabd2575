-- A board in range and the bytes that spell it, which spell no other board.
use Rattle.std.proofs.Common.{zero, suc, ◌≢◌, ◌≡◌, ℕ, ℤ, ◌≤◌, ◌^◌, sym, subst, arith, ◌+◌, ◌==◌, ◌<◌, Bool, true, false, cond, List, [], ◌∷◌, ◌++◌, All, length, Option, Some, None}
use Rattle.std.proofs.Common.{refl, ◌&&◌, take, drop, map, ap, ◌∙◌, append_assoc, get_or, inl, inr, ◌⊎◌, w32, w16, w64, IfSome, IsSome, is_some, slice_index, eqb-true}
use Rattle.std.proofs.Common.{◌-◌, length-take-le, length-drop, take_at, drop_at, take-append-drop, drop-drop, append-nil}
use Rattle.std.specs.Int.{cast_signed, cast_unsigned, from_le_bytes, from_bool}
use Rattle.std.proofs.lemmas.Int.{ints}
use Rattle.board_base.specs.Ranges.{IsWithin}
use Rattle.std.specs.List.{concat, range_with_len}
use Rattle.std.proofs.lemmas.List.Elements.{All-cons, All-nil, All-head, All-tail, All-append}
use Rattle.std.proofs.lemmas.Bool.{and_parts}
use Rattle.std.proofs.lemmas.Bool.Decides.{Decides-eqb, nat_tests, not_from_Decides}
use Rattle.std.proofs.lemmas.Nat.{from_le_bytes-to_le_bytes_2, from_le_bytes-to_le_bytes_4, from_le_bytes-to_le_bytes_8}
use Rattle.board_base.specs.Cpu.{CpuValue}
use Rattle.board_base.specs.Mid.{MidValue, IsMid}
use Rattle.board_base.specs.Board.{BoardValue}
use Rattle.board_base.specs.Divider.{DividerValue, IsDivider, reset_number}
use Rattle.board_base.specs.Earom.{EaromValue, IsEarom}
use Rattle.board_base.specs.Pokey.{PokeyValue, IsPokey}
use Rattle.board_base.specs.Vg.{VgValue, IsVg}
use Rattle.board_base.specs.declared.cpu.Sequence.{Sequence}
use Rattle.board_base.specs.declared.cpu.Sequence.TheVariants.{Opcode, Interrupt, Reset}
use Rattle.board_base.specs.declared.divider.Pending.{Pending}
use Rattle.board_base.specs.declared.divider.Pending.TheVariants.{Nothing, Power, Watchdog}
use Rattle.cpu_table.specs.Opcodes.{row_of}
use Rattle.cpu_core.specs.Places.{IsMiddle}
use Rattle.save_state.specs.Fields.{Facts, IsInFieldRange, Row, u16_bytes, u32_bytes, i32_bytes, pieces_of, rows_of, rows_at, letters}
use Rattle.save_state.specs.StateBytes.{head_rows, clock_rows, register_rows, jam_rows, port_rows, divider_rows, sequence_rows, place_rows, zero_rows, eight_rows, zero_at}
use Rattle.save_state.specs.StateBytes.{vg_rows, pokey_rows, earom_rows, memory_rows, left_range, number_of, sequence_number, table, front_rows, middle_rows, back_rows, processor_of, facts_of}
use Rattle.save_state.specs.StateBytes.{sequence_of, last_clock, middle_at, state_bytes, first_state_bytes, count_range, bytes_range}
use Rattle.std.proofs.lemmas.List.{drop_all}
use Rattle.save_state.specs.Reading.{Holds, HasFields, IsWhole, Spells}
use Rattle.save_state.specs.Check.{pieces_in, IsDecoded}
use Rattle.std.proofs.lemmas.List.Folds.{concat-append}
use Rattle.std.proofs.lemmas.List.FromFn.{fill_by_all}
use Rattle.save_state.proofs.Tables.{no_row, byte_is, not_equal, Rows, parts, sections_of, signed_back}

signed_again : (n : ℕ) (z : ℤ) → n ≤ 2 ^ 30 → IsWithin n z → cast_signed w32 (from_le_bytes w32 (i32_bytes z)) ≡ z
signed_again n z small h = ap (λ (m : ℕ). cast_signed w32 m) (from_le_bytes-to_le_bytes_4 (cast_unsigned w32 z) (omega (arith, ints))) ∙ signed_back n z small h

signed_fits : (n : ℕ) (z : ℤ) → n ≤ 2 ^ 30 → IsWithin n z → IsWithin n (cast_signed w32 (from_le_bytes w32 (i32_bytes z)))
signed_fits n z small h = subst (IsWithin n) (sym (signed_again n z small h)) h

-- each field of a table has its length, and is in its range, as a value has it
abbrev pub AreSpelled : {V : Type 0} → CpuValue → Facts → List (Row V) → V → Type 0
AreSpelled cpu facts [] v = Unit {0}
AreSpelled cpu facts (r ∷ rs) v = ((length (r.spelled v) ≡ r.width) × IsInFieldRange cpu (r.range facts) (r.spelled v)) × AreSpelled cpu facts rs v

-- the fields of each part of a board
flag_most : (b : Bool) → from_bool b ≤ 1
flag_most b = grind arith

pokey_spelled : (cpu : CpuValue) (facts : Facts) (p : PokeyValue) → IsPokey p → AreSpelled cpu facts pokey_rows p
pokey_spelled cpu facts p h = search (arith, from_le_bytes-to_le_bytes_2, from_le_bytes-to_le_bytes_4, h.pulses, h.levels, h)

left_by : (cpu : CpuValue) (b : Bool) (n : ℕ) → (b ≡ true → 1 ≤ n) → n ≤ 8192 → (b ≡ false → n ≡ 0) → IsInFieldRange cpu (left_range b) (u16_bytes n)
left_by cpu true n least most none = let some = least refl in (omega (arith, from_le_bytes-to_le_bytes_2), omega (arith, from_le_bytes-to_le_bytes_2))
left_by cpu false n least most none = omega (arith, from_le_bytes-to_le_bytes_2, none refl)

vg_spelled : (cpu : CpuValue) (facts : Facts) (v : VgValue) → IsVg v → facts.drawing ≡ (v.phase == 5) → AreSpelled cpu facts vg_rows v
vg_spelled cpu facts v h e =
    let left : IsInFieldRange cpu (left_range facts.drawing) (u16_bytes v.left) = rw e
    (left_by cpu (v.phase == 5) v.left (λ e. h.drawing (eqb-true _ _ e)) h.longest
    (λ e. h.resting (not_from_Decides (v.phase == 5) (Decides-eqb v.phase 5) e))) in
    let x : IsWithin 1073741824 (cast_signed w32 (from_le_bytes w32 (i32_bytes v.x))) = signed_fits (2 ^ 30) v.x (omega arith) h.x in
    let y : IsWithin 1073741824 (cast_signed w32 (from_le_bytes w32 (i32_bytes v.y))) = signed_fits (2 ^ 30) v.y (omega arith) h.y in
    let dx : IsWithin 134217728 (cast_signed w32 (from_le_bytes w32 (i32_bytes v.dx))) = signed_fits (2 ^ 27) v.dx (omega arith) h.dx in
    let dy : IsWithin 134217728 (cast_signed w32 (from_le_bytes w32 (i32_bytes v.dy))) = signed_fits (2 ^ 27) v.dy (omega arith) h.dy in
    search (arith, flag_most, from_le_bytes-to_le_bytes_2, h.words, h, left, x, y, dx, dy)

jam_spelled : (cpu : CpuValue) (facts : Facts) (jam : Option ℕ) → facts.jammed ≡ is_some jam → IfSome jam (λ o. row_of o ≡ None) → AreSpelled cpu facts jam_rows jam
jam_spelled cpu facts None e h = rw e (search arith)
jam_spelled cpu facts (Some o) e h = rw e (search (arith, h))

not_zero : (q : Sequence) → (sequence_number q == 0) ≡ false
not_zero q = elim q as (λ (q : Sequence). (sequence_number q == 0) ≡ false) [ Opcode ↦ refl | Interrupt ↦ refl | Reset ↦ refl ]

last_by : (mid : Option MidValue) (clock : ℕ) → clock ≤ 2 ^ 48 + 16 → (IsSome mid → clock ≤ 2 ^ 48) → clock ≤ last_clock 2 (number_of mid)
last_by None clock most inside = most
last_by (Some m) clock most inside = rw (not_zero m.sequence) (inside refl)

zeros_spelled : (cpu : CpuValue) (facts : Facts) → AreSpelled cpu facts zero_rows tt × AreSpelled cpu facts eight_rows tt
zeros_spelled cpu facts = search arith

-- the place of a processor that stands inside no sequence, or inside one, where the file's
-- processor does so too
middle_by : (c cpu : CpuValue) (facts : Facts) (mid : Option MidValue) → c.mid ≡ mid → facts.jammed ≡ is_some c.jam → facts.idle
    ≡ (number_of mid == 0) → IfSome mid IsMid → IfSome mid (λ _. IsMiddle c) → IfSome mid (λ _. IsMiddle cpu) → AreSpelled cpu facts (sequence_rows ++ place_rows) mid
middle_by c cpu facts None s e f range place stated = rw f (search arith)
middle_by c cpu facts (Some m) s e f range place stated =
    let here : IsMiddle (record c { mid = Some m }) = subst (λ (x : Option MidValue). IsMiddle (record c { mid = x })) s place in
    rw (e, here.0, f, not_zero m.sequence) ((refl, grind arith), ((refl, (here.1.started, here.1.short)), ((range.bytes, stated), tt)))

-- rows after others
spelled_append : (cpu : CpuValue) (facts : Facts) (b : BoardValue) (xs ys : Rows) → AreSpelled cpu facts xs b → AreSpelled cpu facts ys b → AreSpelled cpu facts (xs ++ ys) b
spelled_append cpu facts b [] ys h k = k
spelled_append cpu facts b (x ∷ xs) ys h k = (h.0, spelled_append cpu facts b xs ys h.1 k)

front_spelled : (version : ℕ) (cpu : CpuValue) (facts : Facts) (b : BoardValue) → IsWhole b → b.clock ≤ facts.last → facts.jammed ≡ is_some b.cpu.jam → AreSpelled cpu facts (front_rows version) b
front_spelled version cpu facts b h clock jammed =
    let jam = jam_spelled cpu facts b.cpu.jam jammed h.cpu.stands.undocumented in
    search (arith, from_le_bytes-to_le_bytes_2, from_le_bytes-to_le_bytes_8, h.board, h.cpu.registers, h.divider, clock, jam.0.1, jam.1.0.1)

back_spelled : (cpu : CpuValue) (facts : Facts) (b : BoardValue) → IsWhole b → facts.drawing ≡ (b.vg.phase == 5) → AreSpelled cpu facts back_rows b
back_spelled cpu facts b h drawing =
    let end : Rows = rows_of (λ b. b.earom) earom_rows ++ memory_rows in
    let ends : AreSpelled cpu facts end b = search (arith, from_le_bytes-to_le_bytes_2, h.earom, h.board) in
    let first : Rows = rows_at 84 (rows_of (λ b. b.sound1) pokey_rows) in
    let second : Rows = rows_at 137 (rows_of (λ b. b.sound2) pokey_rows) in
    spelled_append cpu facts b (rows_of (λ b. tt) zero_rows ++ rows_of (λ b. b.vg) vg_rows) (first ++ (second ++ end))
    (spelled_append cpu facts b (rows_of (λ b. tt) zero_rows) (rows_of (λ b. b.vg) vg_rows) (zeros_spelled cpu facts).0 (vg_spelled cpu facts b.vg h.vg drawing))
    (spelled_append cpu facts b first (second ++ end) (pokey_spelled cpu facts b.sound1 h.sound1)
    (spelled_append cpu facts b second end (pokey_spelled cpu facts b.sound2 h.sound2) ends))

whole_spelled : (version : ℕ) (cpu : CpuValue) (facts : Facts) (b : BoardValue) → IsWhole b → b.clock ≤ facts.last → facts.jammed ≡ is_some b.cpu.jam
    → facts.drawing ≡ (b.vg.phase == 5) → AreSpelled cpu facts (middle_rows (version == 1)) b → AreSpelled cpu facts (table version) b
whole_spelled version cpu facts b h clock jammed drawing middle =
    spelled_append cpu facts b (front_rows version ++ middle_rows (version == 1)) back_rows
    (spelled_append cpu facts b (front_rows version) (middle_rows (version == 1)) (front_spelled version cpu facts b h clock jammed) middle)
    (back_spelled cpu facts b h drawing)

-- rows stand one after another, from this offset to that
abbrev are_in_order : ℕ → ℕ → Rows → Bool
are_in_order from to [] = from == to
are_in_order from to (r ∷ rs) = r.at == from && are_in_order (from + r.width) to rs

-- the offset of each row is the sum of the widths before it, and all have 4356 bytes
offsets : (version : ℕ) → are_in_order 0 4356 (table version) ≡ true
offsets version = elim (version == 1) as (λ (one : Bool). are_in_order 0 4356 (front_rows version ++ middle_rows one ++ back_rows) ≡ true) [ true ↦ refl | false ↦ refl ]

-- a row's field has the bytes of a board's, and they are in its range
abbrev Has : List ℕ → BoardValue → Row BoardValue → Type 0
Has file b r = take r.width (drop r.at file) ≡ r.spelled b

abbrev HasInRange : CpuValue → Facts → List ℕ → BoardValue → Row BoardValue → Type 0
HasInRange cpu facts file b r = IsInFieldRange cpu (r.range facts) (take r.width (drop r.at file)) × Has file b r

-- the bytes of a board stand at the offsets of its rows
stand : (cpu : CpuValue) (facts : Facts) (file : List ℕ) (b : BoardValue) (rs : Rows) (from : ℕ) → drop from file ≡ concat (pieces_of rs b)
    → are_in_order from 4356 rs ≡ true → AreSpelled cpu facts rs b → All (HasInRange cpu facts file b) rs
stand cpu facts file b [] from e h spelled = All-nil (HasInRange cpu facts file b)
stand cpu facts file b (r ∷ rs) from e h spelled =
    let two = and_parts (r.at == from) (are_in_order (from + r.width) 4356 rs) h in
    let here : Has file b r = rw (eqb-true r.at from two.0, e) (take_at (r.spelled b) (concat (pieces_of rs b)) r.width spelled.0.0) in
    let rest : drop (from + r.width) file ≡ concat (pieces_of rs b) =
    sym (drop-drop r.width from file) ∙ ap (drop r.width) e ∙ drop_at (r.spelled b) (concat (pieces_of rs b)) r.width spelled.0.0 in
    All-cons (HasInRange cpu facts file b) r rs (rw here spelled.0.1, here) (stand cpu facts file b rs (from + r.width) rest two.1 spelled.1)

-- the bytes of a file by the offsets of its rows
abbrev pieces_from : List ℕ → Rows → List (List ℕ)
pieces_from file rs = map (λ r. take r.width (drop r.at file)) rs

joined : (file : List ℕ) (rs : Rows) (from : ℕ) → length file ≡ 4356 → are_in_order from 4356 rs ≡ true → drop from file ≡ concat (pieces_from file rs)
joined file [] from len h = drop_all from file (omega (arith, len, eqb-true from 4356 h))
joined file (r ∷ rs) from len h =
    let two = and_parts (r.at == from) (are_in_order (from + r.width) 4356 rs) h in
    let rest : drop r.width (drop from file) ≡ concat (pieces_from file rs) = drop-drop r.width from file ∙ joined file rs (from + r.width) len two.1 in
    rw (eqb-true r.at from two.0) (sym (take-append-drop r.width (drop from file)) ∙ ap (λ (l : List ℕ). take r.width (drop from file) ++ l) rest)

-- the pieces of a file are those of a board whose fields stand in it
pieces_are : (b : BoardValue) (file : List ℕ) (rs : Rows) → All (Has file b) rs → pieces_from file rs ≡ pieces_of rs b
pieces_are b file [] has = refl
pieces_are b file (r ∷ rs) has = rw (All-head (Has file b) r rs has, pieces_are b file rs (All-tail (Has file b) r rs has)) refl

has_from : (b : BoardValue) (file : List ℕ) (rs : Rows) → pieces_of rs b ≡ pieces_from file rs → All (Has file b) rs
has_from b file [] e = All-nil (Has file b)
has_from b file (r ∷ rs) e =
    let one : take r.width (drop r.at file) ≡ r.spelled b = cc in
    let more : pieces_of rs b ≡ pieces_from file rs = cc in
    All-cons (Has file b) r rs one (has_from b file rs more)

-- a value from its pieces
abbrev piece : List (List ℕ) → ℕ → List ℕ
piece ps k = get_or ps k []

abbrev one : List (List ℕ) → ℕ → ℕ
one ps k = slice_index (piece ps k) 0

flag_back : (b : Bool) → (from_bool b == 1) ≡ b
flag_back b = elim b as (λ (b : Bool). (from_bool b == 1) ≡ b) [ true ↦ refl | false ↦ refl ]

abbrev u16_in : List (List ℕ) → ℕ → ℕ
u16_in ps k = from_le_bytes w16 (piece ps k)

abbrev u32_in : List (List ℕ) → ℕ → ℕ
u32_in ps k = from_le_bytes w32 (piece ps k)

abbrev signed_in : List (List ℕ) → ℕ → ℤ
signed_in ps k = cast_signed w32 (u32_in ps k)

-- a list of so many numbers, one by one
items_all : (n : ℕ) (xs : List ℕ) → length xs ≡ n → map (slice_index xs) (range_with_len 0 n) ≡ xs
items_all n xs e = sym (fill_by_all (slice_index xs) xs n 0 e (λ k small. refl))

abbrev vg_of : List (List ℕ) → VgValue
vg_of ps = record {
  halted = one ps 0 == 1;
  phase = one ps 1;
  pc = u16_in ps 2;
  sp = one ps 3;
  colour = one ps 4;
  intensity = one ps 5;
  lin = one ps 6;
  bin = one ps 7;
  pen = one ps 8;
  bytes = piece ps 9;
  stack = u16_in ps 10 ∷ u16_in ps 11 ∷ u16_in ps 12 ∷ u16_in ps 13 ∷ [];
  x = signed_in ps 14;
  y = signed_in ps 15;
  dx = signed_in ps 16;
  dy = signed_in ps 17;
  left = u16_in ps 18;
}

-- four numbers that come back
four_back : (back : ℕ → ℕ) (xs : List ℕ) → length xs ≡ 4 → All (λ x. back x ≡ x) xs → map (λ k. back (slice_index xs k)) (range_with_len 0 4) ≡ xs
four_back back xs len same = sym (fill_by_all (λ k. back (slice_index xs k)) xs 4 0 len (λ k small. sym (same k 0 (omega (arith, len)))))

vg_back : (v : VgValue) → IsVg v → vg_of (pieces_of vg_rows v) ≡ v
vg_back v h =
    let stack = four_back (λ n. from_le_bytes w16 (u16_bytes n)) v.stack h.stack (λ k d lt. from_le_bytes-to_le_bytes_2 (get_or v.stack k d) (omega (arith, h.words k d lt))) in
    rw (flag_back v.halted, from_le_bytes-to_le_bytes_2 v.pc (omega (arith, h.pc)), stack, from_le_bytes-to_le_bytes_2 v.left (omega (arith, h.longest)))
    (rw (signed_again (2 ^ 30) v.x (omega arith) h.x, signed_again (2 ^ 30) v.y (omega arith) h.y, signed_again (2 ^ 27) v.dx (omega arith) h.dx, signed_again (2 ^ 27) v.dy (omega arith) h.dy) refl)

abbrev pokey_of : List (List ℕ) → PokeyValue
pokey_of ps = record {
  audf = piece ps 0;
  audc = piece ps 1;
  audctl = one ps 2;
  skctl = one ps 3;
  irqen = one ps 4;
  irqst = one ps 5;
  poly4 = one ps 6;
  poly5 = one ps 7;
  poly9 = u16_in ps 8;
  poly17 = u32_in ps 9;
  pre28 = one ps 10;
  pre114 = one ps 11;
  left = u32_in ps 12
      ∷ u32_in ps 13 ∷ u32_in ps 14 ∷ u32_in ps 15 ∷ [];
  tone = one ps 16;
  pass = one ps 17;
  pot = one ps 18;
  targets = piece ps 19;
  last = one ps 20
      ∷ one ps 21 ∷ one ps 22 ∷ one ps 23 ∷ [];
}

pokey_back : (p : PokeyValue) → IsPokey p → pokey_of (pieces_of pokey_rows p) ≡ p
pokey_back p h =
    let left = four_back (λ n. from_le_bytes w32 (u32_bytes n)) p.left h.left (λ k d lt. from_le_bytes-to_le_bytes_4 (get_or p.left k d) (omega (arith, (h.pulses k d lt).1))) in
    rw (from_le_bytes-to_le_bytes_2 p.poly9 (omega (arith, h.poly9)), from_le_bytes-to_le_bytes_4 p.poly17 (omega (arith, h.poly17)), left, items_all 4 p.last h.last) refl

abbrev earom_of : List (List ℕ) → EaromValue
earom_of ps = record { addr = one ps 0; value = one ps 1; control = one ps 2; hold = u16_in ps 3; out = one ps 4; cells = piece ps 5 }

earom_back : (e : EaromValue) → IsEarom e → earom_of (pieces_of earom_rows e) ≡ e
earom_back e h = rw (from_le_bytes-to_le_bytes_2 e.hold (omega (arith, h.hold))) refl

pending_back : (p : Pending) → cond (reset_number p == 0) Nothing (cond (reset_number p == 1) Power Watchdog) ≡ p
pending_back p = elim p as (λ (p : Pending). cond (reset_number p == 0) Nothing (cond (reset_number p == 1) Power Watchdog) ≡ p) [ Nothing ↦ refl | Power ↦ refl | Watchdog ↦ refl ]

abbrev divider_of : List (List ℕ) → DividerValue
divider_of ps = record { phase = u16_in ps 0; irq = one ps 1 == 1; dog = one ps 2; pending = cond (one ps 3 == 0) Nothing (cond (one ps 3 == 1) Power Watchdog) }

divider_back : (d : DividerValue) → IsDivider d → divider_of (pieces_of divider_rows d) ≡ d
divider_back d h = rw (from_le_bytes-to_le_bytes_2 d.phase (omega (arith, h.phase)), flag_back d.irq, pending_back d.pending) refl

-- the jam, and the place
abbrev jam_of : List (List ℕ) → Option ℕ
jam_of ps = cond (one ps 0 == 1) (Some (one ps 1)) None

jam_back : (jam : Option ℕ) → jam_of (pieces_of jam_rows jam) ≡ jam
jam_back jam = elim jam as (λ (jam : Option ℕ). jam_of (pieces_of jam_rows jam) ≡ jam) [ None ↦ refl | Some o ↦ refl ]

abbrev mid_of : List (List ℕ) → Option MidValue
mid_of ps = cond (one ps 0 == 0) None (Some (record { sequence = sequence_of (one ps 0); count = one ps 1; bytes = piece ps 2 }))

sequence_back : (q : Sequence) → sequence_of (sequence_number q) ≡ q
sequence_back q = elim q as (λ (q : Sequence). sequence_of (sequence_number q) ≡ q) [ Opcode ↦ refl | Interrupt ↦ refl | Reset ↦ refl ]

mid_back : (mid : Option MidValue) → mid_of (pieces_of (sequence_rows ++ place_rows) mid) ≡ mid
mid_back None = refl
mid_back (Some m) = rw (not_zero m.sequence, sequence_back m.sequence) refl

abbrev registers_of : List (List ℕ) → Option ℕ → Option MidValue → CpuValue
registers_of ps jam mid = record { pc = u16_in ps 0; a = one ps 1; x = one ps 2; y = one ps 3; s = one ps 4; p = one ps 5; jam = jam; mid = mid }

-- the board of which a table has these pieces up to the sequence and from the generator on
abbrev board_of : List (List ℕ) → Option MidValue → List (List ℕ) → BoardValue
board_of ps mid back = record {
  clock = from_le_bytes w64 (piece ps 2);
  cpu = registers_of (drop 3 ps) (jam_of (drop 9 ps)) mid;
  out = one ps 11;
  in0 = one ps 12;
  in3 = one ps 13;
  in4 = one ps 14;
  divider = divider_of (drop (length (front_rows 2) - length divider_rows) ps);
  vg = vg_of (drop 6 back);
  sound1 = pokey_of (drop (6 + length vg_rows) back);
  sound2 = pokey_of (drop (6 + length vg_rows + length pokey_rows) back);
  earom = earom_of (drop (length back_rows - 8) back);
  ram = piece (drop (length back_rows - 2) back) 0;
  vram = piece (drop (length back_rows - 2) back) 1;
}

board_back : (version : ℕ) (b : BoardValue) (mid : Option MidValue) → IsWhole b → mid ≡ b.cpu.mid → board_of (pieces_of (front_rows version) b) mid (pieces_of back_rows b) ≡ b
board_back version b mid h e =
    rw (from_le_bytes-to_le_bytes_8 b.clock (omega (arith, h.board.clock)), from_le_bytes-to_le_bytes_2 b.cpu.pc h.cpu.pc, jam_back b.cpu.jam, e, divider_back b.divider h.divider)
    (rw (vg_back b.vg h.vg, pokey_back b.sound1 h.sound1, pokey_back b.sound2 h.sound2, earom_back b.earom h.earom) refl)

abbrev board_in : ℕ → List (List ℕ) → BoardValue
board_in version ps =
    cond (version == 1) (board_of ps None (drop (length (front_rows 1) + 8) ps)) (board_of ps (mid_of (take 3 (drop (length (front_rows 2)) ps))) (drop (length (front_rows 2) + 3) ps))

-- what the bytes of a processor inside a sequence state of it
abbrev with_mid : BoardValue → MidValue → BoardValue
with_mid b m = record b { cpu = record b.cpu { mid = Some m } }

processor_told : (b : BoardValue) (m : MidValue) → b.cpu.pc < 2 ^ 16 → length m.bytes ≡ 6 → processor_of (state_bytes (with_mid b m)) ≡ record b.cpu { mid = Some m }
processor_told b m small len =
    let file : List ℕ = state_bytes (with_mid b m) in
    let bytes : take 6 (drop 32 file) ≡ m.bytes = take_at m.bytes _ 6 len in
    let mid : middle_at file ≡ m = λ i. record m { sequence = sequence_back m.sequence i; bytes = bytes i } in
    λ i. record b.cpu { pc = from_le_bytes-to_le_bytes_2 b.cpu.pc small i; jam = jam_back b.cpu.jam i; mid = Some (mid i) }

middle_told : (b : BoardValue) (mid : Option MidValue) → b.cpu.mid ≡ mid → IsWhole b → IfSome mid (λ _. IsMiddle (processor_of (state_bytes b)))
middle_told b None e h = tt
middle_told b (Some m) e h =
    let here : IsMiddle (record b.cpu { mid = Some m }) = subst (λ (x : Option MidValue). IfSome x (λ _. IsMiddle (record b.cpu { mid = x }))) e h.cpu.stands.place in
    let range : IsMid m = subst (λ (x : Option MidValue). IfSome x IsMid) e h.cpu.mid in
    subst (λ (x : Option MidValue). IsMiddle (processor_of (state_bytes (record b { cpu = record b.cpu { mid = x } })))) (sym e)
    (subst (λ (c : CpuValue). IsMiddle c) (sym (processor_told b m h.cpu.pc range.bytes)) here)

-- what spells a board in range has its fields: version 2
pub second_has : (b : BoardValue) → IsWhole b → HasFields 2 (state_bytes b) b
unfolding HasFields
second_has b h =
    let file : List ℕ = state_bytes b in
    let most : b.clock ≤ last_clock 2 (number_of b.cpu.mid) = last_by b.cpu.mid b.clock h.board.clock h.board.middle in
    let facts : Facts = record { last = last_clock 2 (number_of b.cpu.mid); jammed = is_some b.cpu.jam; idle = number_of b.cpu.mid == 0; drawing = b.vg.phase == 5 } in
    let has : All (HasInRange b.cpu facts file b) (table 2) = stand b.cpu facts file b (table 2) 0 refl (offsets 2) (whole_spelled 2 b.cpu facts b h most refl refl
    (middle_by b.cpu b.cpu facts b.cpu.mid refl refl refl h.cpu.mid h.cpu.stands.place h.cpu.stands.place)) in
    let phase : slice_index file 45 ≡ b.vg.phase = sym (byte_is file 45) ∙ ap (λ (x : List ℕ). slice_index x 0) (has (suc (length (front_rows 2) + 9)) no_row (omega arith)).1 in
    stand (processor_of file) (facts_of 2 file) file b (table 2) 0 refl (offsets 2)
    (whole_spelled 2 (processor_of file) (facts_of 2 file) b h most (flag_back (is_some b.cpu.jam)) (ap (λ (n : ℕ). n == 5) phase)
    (middle_by b.cpu (processor_of file) (facts_of 2 file) b.cpu.mid refl (flag_back (is_some b.cpu.jam)) refl h.cpu.mid h.cpu.stands.place (middle_told b b.cpu.mid refl h)))

-- version 1
first_has : (b : BoardValue) → IsWhole b → HasFields 1 (first_state_bytes b) b
unfolding HasFields
first_has b h =
    let file : List ℕ = first_state_bytes b in
    stand (processor_of file) (facts_of 1 file) file b (table 1) 0 refl (offsets 1)
    (whole_spelled 1 (processor_of file) (facts_of 1 file) b h h.board.clock (flag_back (is_some b.cpu.jam)) refl (zeros_spelled (processor_of file) (facts_of 1 file)).1)

pub second_version : (file : List ℕ) (b : BoardValue) → file ≡ state_bytes b → slice_index file 0 ≡ 2
second_version file b e = ap (λ (x : List ℕ). slice_index x 0) e

pub first_version : (file : List ℕ) (b : BoardValue) → file ≡ first_state_bytes b → slice_index file 0 ≡ 1
first_version file b e = ap (λ (x : List ℕ). slice_index x 0) e

-- what spells a board in range has its fields
pub spelled_has : (file : List ℕ) (b : BoardValue) → IsWhole b → Spells file b → HasFields (slice_index file 0) file b
spelled_has file b h (inl e) = subst (λ (v : ℕ). HasFields v file b) (sym (second_version file b e)) (subst (λ (x : List ℕ). HasFields 2 x b) (sym e) (second_has b h))
spelled_has file b h (inr e) = subst (λ (v : ℕ). HasFields v file b) (sym (first_version file b e.0)) (subst (λ (x : List ℕ). HasFields 1 x b) (sym e.0) (first_has b h))

-- and what has the fields of a board spells it
has_pieces : (version : ℕ) (file : List ℕ) (b : BoardValue) → HasFields version file b → pieces_from file (table version) ≡ pieces_of (table version) b
unfolding HasFields
has_pieces version file b has = pieces_are b file (table version) (λ k d lt. (has k d lt).1)

has_bytes : (version : ℕ) (file : List ℕ) (b : BoardValue) → length file ≡ 4356 → HasFields version file b → file ≡ concat (pieces_of (table version) b)
has_bytes version file b len has = joined file (table version) 0 len (offsets version) ∙ ap concat (has_pieces version file b has)

-- one board at most is spelled by these bytes
board_is : (file : List ℕ) (b : BoardValue) → IsWhole b → Spells file b
    → board_in (slice_index file 0) (pieces_from file (table (slice_index file 0))) ≡ b
board_is file b h spells = ap (board_in (slice_index file 0)) (has_pieces (slice_index file 0) file b (spelled_has file b h spells)) ∙ by_version spells
  where
    by_version : Spells file b → board_in (slice_index file 0) (pieces_of (table (slice_index file 0)) b) ≡ b
    by_version (inl e) = subst (λ (v : ℕ). board_in v (pieces_of (table v) b) ≡ b) (sym (second_version file b e)) (board_back 2 b _ h (mid_back b.cpu.mid))
    by_version (inr e) = subst (λ (v : ℕ). board_in v (pieces_of (table v) b) ≡ b) (sym (first_version file b e.0)) (board_back 1 b None h (sym e.1))

pub one_board : (file : List ℕ) (b c : BoardValue) → IsWhole b → IsWhole c → Spells file b → Spells file c → b ≡ c
one_board file b c g h e f = sym (board_is file b g e) ∙ board_is file c h f

-- A board that was decoded has the fields of its file.
piece_length : (file : List ℕ) (at n : ℕ) → at + n ≤ length file → length (take n (drop at file)) ≡ n
piece_length file at n h = length-take-le n (drop at file) (omega (arith, h, length-drop at file))

byte_piece : (file : List ℕ) (at n : ℕ) → at + 1 ≤ length file → slice_index (take 1 (drop at file)) 0 ≡ n → n ∷ [] ≡ take 1 (drop at file)
byte_piece file at n h e = subst (λ (m : ℕ). m ∷ [] ≡ take 1 (drop at file)) e (items_all 1 (take 1 (drop at file)) (piece_length file at 1 h))

-- zeros in a file
abbrev zeros : ℕ → ℕ → List (Row (Unit {0}))
zeros from zero = []
zeros from (suc n) = zero_at from ∷ zeros (suc from) n

zeros_are : (version : ℕ) (file : List ℕ) (from n : ℕ) → from + n ≤ length file → All (Holds version file) (rows_of (λ b. tt) (zeros from n))
    → pieces_of (zeros from n) tt ≡ map (λ r. take r.width (drop r.at file)) (zeros from n)
zeros_are version file from zero h held = refl
zeros_are version file from (suc n) h held =
    let least : slice_index (take 1 (drop from file)) 0 ≤ 0 = All-head (Holds version file) _ _ held in
    let here : 0 ∷ [] ≡ take 1 (drop from file) = byte_piece file from 0 (omega (arith, h)) (omega (arith, least)) in
    let more = zeros_are version file (suc from) n (omega (arith, h)) (All-tail (Holds version file) _ _ held) in
    λ i. here i ∷ more i

-- the place inside a sequence
sequence_at : (n : ℕ) → n ≢ 0 → n ≤ 3 → sequence_number (sequence_of n) ≡ n
sequence_at n h most = grind (arith, nat_tests)

most_three : (jammed : Bool) (n : ℕ) → n ≤ cond jammed 0 3 → n ≤ 3
most_three jammed n h = grind (arith, nat_tests)

place_by : (file : List ℕ) (mid : Option MidValue) (jammed idle : Bool) → length file ≡ 4356 → (slice_index file 30 == 0) ≡ idle
    → slice_index (take 1 (drop 30 file)) 0 ≤ cond jammed 0 3 → IsInFieldRange (processor_of file) (count_range idle) (take 1 (drop 31 file))
    → IsInFieldRange (processor_of file) (bytes_range idle) (take 6 (drop 32 file))
    → (slice_index file 30 ≡ 0 → mid ≡ None) → (slice_index file 30 ≢ 0 → mid ≡ Some (middle_at file)) → pieces_of (sequence_rows ++ place_rows) mid ≡ pieces_in 0 file (sequence_rows ++ place_rows)
place_by file mid jammed true len e number count six outside inside =
    let zero : slice_index file 30 ≡ 0 = eqb-true (slice_index file 30) 0 e in
    let bytes : take 6 (drop 32 file) ≡ 0 ∷ 0 ∷ 0 ∷ 0 ∷ 0 ∷ 0 ∷ [] = sym
    (items_all 6 (take 6 (drop 32 file)) (piece_length file 32 6 (omega (arith, len)))) ∙ rw (six.0, six.1, six.2, six.3, six.4, six.5) refl in
    let sequence : 0 ∷ [] ≡ take 1 (drop 30 file) = byte_piece file 30 0 (omega (arith, len)) (byte_is file 30 ∙ zero) in
    let clocks : 0 ∷ [] ≡ take 1 (drop 31 file) = byte_piece file 31 0 (omega (arith, len)) (omega (arith, count)) in
    rw (outside zero) (λ i. sequence i ∷ clocks i ∷ sym bytes i ∷ [])
place_by file mid jammed false len e number count six outside inside =
    let other : slice_index file 30 ≢ 0 = not_from_Decides (slice_index file 30 == 0) (Decides-eqb (slice_index file 30) 0) e in
    let most : slice_index file 30 ≤ 3 = subst (λ (k : ℕ). k ≤ 3) (byte_is file 30) (most_three jammed _ number) in
    let sequence : sequence_number (sequence_of (slice_index file 30)) ∷ [] ≡ take 1 (drop 30 file) =
    byte_piece file 30 (sequence_number (sequence_of (slice_index file 30))) (omega (arith, len)) (byte_is file 30 ∙ sym (sequence_at (slice_index file 30) other most)) in
    let clocks : slice_index file 31 ∷ [] ≡ take 1 (drop 31 file) = byte_piece file 31 (slice_index file 31) (omega (arith, len)) (byte_is file 31) in
    rw (inside other) (λ i. sequence i ∷ clocks i ∷ take 6 (drop 32 file) ∷ [])

head_told : (version : ℕ) (file : List ℕ) → length file ≡ 4356 → slice_index file 0 ≡ version
    → IsInFieldRange (processor_of file) letters (take 3 (drop 1 file)) → pieces_of head_rows version ≡ pieces_in 0 file head_rows
head_told version file len first h =
    let one : version ∷ [] ≡ take 1 (drop 0 file) = byte_piece file 0 version (omega (arith, len)) (byte_is file 0 ∙ first) in
    let three : take 3 (drop 1 file) ≡ 0x47 ∷ 0x56 ∷ 0x53 ∷ [] = sym (items_all 3 (take 3 (drop 1 file)) (piece_length file 1 3 (omega (arith, len)))) ∙ rw (h.0, h.1, h.2) refl in
    cc

appended : {ps qs rs ss : List (List ℕ)} → ps ≡ qs → rs ≡ ss → ps ++ rs ≡ qs ++ ss
appended e f = λ i. e i ++ f i

-- where the sequence and the place are decoded, all is
decoded_by : (version : ℕ) (file : List ℕ) (b : BoardValue) → length file ≡ 4356 → slice_index file 0 ≡ version → All (Holds version file) (table version) → IsDecoded file b
    → pieces_of (middle_rows (version == 1)) b ≡ pieces_from file (middle_rows (version == 1)) → HasFields version file b
unfolding HasFields
decoded_by version file b len first held d middle =
    let head = head_told version file len first ((sections_of version file held).0 1 no_row (omega arith)) in
    let six = zeros_are version file 38 6 (omega (arith, len)) (parts (Holds version file) (rows_of (λ b. tt) zero_rows) (drop 6 back_rows) (sections_of version file held).2).0 in
    let front = appended head (appended d.clock (appended d.registers (appended d.jam (appended d.ports d.divider)))) in
    let back = appended six (appended d.vg (appended d.sound1 (appended d.sound2 (appended d.earom d.memory)))) in
    let all : All (Has file b) (table version) = All-append (Has file b) (front_rows version ++ middle_rows (version == 1)) back_rows (All-append (Has file b) (front_rows version)
    (middle_rows (version == 1)) (has_from b file (front_rows version) front) (has_from b file (middle_rows (version == 1)) middle)) (has_from b file back_rows back) in
    λ k e lt. (held k e lt, all k e lt)

decoded_mid : (file : List ℕ) (b : BoardValue) → All (Holds 1 file) (table 1) → IsDecoded file b → b.cpu.mid ≡ None
decoded_mid file b held d = d.outside (omega (arith, byte_is file 30, (sections_of 1 file held).1 0 no_row (omega arith)))

-- and spells the file
pub decoded_has : (file : List ℕ) (b : BoardValue) → length file ≡ 4356 → (slice_index file 0 ≡ 1) ⊎ (slice_index file 0 ≡ 2)
    → All (Holds (slice_index file 0) file) (table (slice_index file 0)) → IsDecoded file b → HasFields (slice_index file 0) file b × Spells file b
decoded_has file b len (inl one) held d =
    let first : All (Holds 1 file) (table 1) = subst (λ (v : ℕ). All (Holds v file) (table v)) one held in
    let has : HasFields 1 file b = decoded_by 1 file b len one first d (zeros_are 1 file 30 8 (omega (arith, len)) (sections_of 1 file first).1) in
    (subst (λ (v : ℕ). HasFields v file b) (sym one) has, inr (has_bytes 1 file b len has, decoded_mid file b first d))
decoded_has file b len (inr two) held d =
    let second : All (Holds 2 file) (table 2) = subst (λ (v : ℕ). All (Holds v file) (table v)) two held in
    let middle : All (Holds 2 file) (middle_rows false) = (sections_of 2 file second).1 in
    let has : HasFields 2 file b = decoded_by 2 file b len two second d (place_by file b.cpu.mid (slice_index file 19 == 1) (slice_index file 30 == 0) len refl (middle 0 no_row (omega arith))
    (middle 1 no_row (omega arith)) (middle 2 no_row (omega arith)) d.outside (λ h. ap (λ (c : CpuValue). c.mid) (d.inside h))) in
    (subst (λ (v : ℕ). HasFields v file b) (sym two) has, inl (has_bytes 2 file b len has))

-- its processor stands inside a sequence where the file's does
pub decoded_place : (file : List ℕ) (b : BoardValue) (mid : Option MidValue) → b.cpu.mid ≡ mid → (slice_index file 0 ≡ 1) ⊎ (slice_index file 0 ≡ 2)
    → All (Holds (slice_index file 0) file) (table (slice_index file 0)) → IsDecoded file b → IfSome mid (λ _. IsMiddle b.cpu)
decoded_place file b None e two held d = tt
decoded_place file b (Some m) e (inl one) held d =
    let none : b.cpu.mid ≡ None = decoded_mid file b (subst (λ (v : ℕ). All (Holds v file) (table v)) one held) d in
    absurd cc
decoded_place file b (Some m) e (inr two) held d =
    let all : All (Holds 2 file) (table 2) = subst (λ (v : ℕ). All (Holds v file) (table v)) two held in
    let other : slice_index file 30 ≢ 0 = λ zero. let none : b.cpu.mid ≡ None = d.outside zero in absurd cc in
    subst (λ (c : CpuValue). IsMiddle c) (sym (d.inside other)) (subst (λ (idle
    : Bool). IsInFieldRange (processor_of file) (bytes_range idle) (take 6 (drop 32 file))) (not_equal (slice_index file 30) 0 other) ((sections_of 2 file all).1 2 no_row (omega arith)))

-- one of the two versions, as the code's tests leave them
pub one_of_two : (version : ℕ) → ((version ≡ 1 → ⊥) × (version ≡ 2)) ⊎ (version ≡ 1) → (version ≡ 1) ⊎ (version ≡ 2)
one_of_two version (inl h) = inr h.1
one_of_two version (inr h) = inl h

-- and the pieces of a board
all_parts : (p o d i z v k l e : List (List ℕ)) (r s : List ℕ) → (((((((((concat p ++ concat o) ++ concat d) ++ concat i) ++ concat z) ++ concat v) ++ concat k) ++ concat l) ++ concat e) ++ r) ++ s
    ≡ concat (p ++ ((((o ++ d) ++ i) ++ z) ++ ((((v ++ k) ++ l) ++ e) ++ (r ∷ s ∷ []))))
all_parts p o d i z v k l e r s = simp (concat-append, append_assoc, append-nil)

pub board_parts : (b : BoardValue) → (((((((((concat (pieces_of head_rows 2 ++ (pieces_of clock_rows b.clock ++ pieces_of register_rows b.cpu)
    ++ pieces_of jam_rows b.cpu.jam) ++ concat (pieces_of port_rows b)) ++ concat (pieces_of divider_rows b.divider))
    ++ concat (pieces_of (sequence_rows ++ place_rows) b.cpu.mid)) ++ (0 ∷ 0 ∷ 0 ∷ 0 ∷ 0 ∷ 0 ∷ []))
    ++ concat (pieces_of vg_rows b.vg)) ++ concat (pieces_of pokey_rows b.sound1)) ++ concat (pieces_of pokey_rows b.sound2))
    ++ concat (pieces_of earom_rows b.earom)) ++ b.ram) ++ b.vram ≡ state_bytes b
board_parts b =
    all_parts (pieces_of head_rows 2 ++ (pieces_of clock_rows b.clock ++ pieces_of register_rows b.cpu)
    ++ pieces_of jam_rows b.cpu.jam) (pieces_of port_rows b)
    (pieces_of divider_rows b.divider) (pieces_of (sequence_rows ++ place_rows) b.cpu.mid) (pieces_of zero_rows tt)
    (pieces_of vg_rows b.vg) (pieces_of pokey_rows b.sound1) (pieces_of pokey_rows b.sound2) (pieces_of earom_rows b.earom) b.ram b.vram
