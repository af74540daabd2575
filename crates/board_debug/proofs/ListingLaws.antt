-- A text that a sink takes piece by piece, and the lines of a listing.
use Rattle.std.proofs.Common.{◌≡◌, ℕ, ◌+◌, ◌-◌, ◌*◌, ◌/◌, ◌%◌, ◌≤◌, ◌<◌, List, [], ◌∷◌, ◌++◌, Option, Some, None, take, min, suc, sym, ap, ◌∙◌, append_assoc, append-nil, arith}
use Rattle.std.specs.List.{flat_map, range_with_len}
use Rattle.std.specs.Option.{option_map_or}
use Rattle.outside_io.specs.Known.{grown}
use Rattle.outside_io.proofs.KnownLaws.{grown-nothing, grown-twice}
use Rattle.outside_io.proofs.TakesLaws.{took_first, took_then}
use Rattle.board_debug.specs.Bytes.{Seen, bytes_from, further, mem_line, mem_text}
use Rattle.board_debug.specs.Instructions.{dis_line, dis_size, dis_text, readable}
use Rattle.board_debug.specs.Statements.{vdis_line, vdis_text, vg_further, word_seen}
use Rattle.board_debug.specs.declared.mem.TheConstants.{ROW}

-- a text of no line more
pub not-less : (n : ℕ) → n ≡ n - 0
not-less n = omega arith

-- a first part of a text was taken, and this rest of it is left
pub record TakenUpTo (whole rest : List ℕ) (out0 out1 : Option (List ℕ)) : Type 0 where
  pub done : List ℕ
  pub text : whole ≡ done ++ rest
  pub taken : out1 ≡ grown out0 done

-- nothing of it was taken yet
pub none-taken : (whole rest : List ℕ) (out : Option (List ℕ)) → whole ≡ rest → TakenUpTo whole rest out out
none-taken whole rest out is = record { done = []; text = is; taken = sym (grown-nothing out) }

-- one piece more was taken
pub piece-taken : (whole rest piece next : List ℕ) (out0 out1 out2 : Option (List ℕ)) → rest ≡ piece ++ next → out2 ≡ grown out1 piece
    → TakenUpTo whole rest out0 out1 → TakenUpTo whole next out0 out2
piece-taken whole rest piece next out0 out1 out2 is after before = record {
  done = before.done ++ piece;
  text = before.text ∙ ap (λ (l : List ℕ). before.done ++ l) is ∙ sym (append_assoc before.done piece next);
  taken = after ∙ ap (λ out. grown out piece) before.taken ∙ grown-twice out0 before.done piece;
}

-- a part of it was taken
pub piece-cut : (whole rest piece next : List ℕ) (out0 out1 out2 : Option (List ℕ)) → rest ≡ piece ++ next
    → (k : ℕ) × (out2 ≡ grown out1 (take k piece)) → TakenUpTo whole rest out0 out1 → (k : ℕ) × (out2 ≡ grown out0 (take k whole))
piece-cut whole rest piece next out0 out1 out2 is cut before =
    let (k, took) = took_then out0 out1 out2 before.done (piece ++ next) before.taken (took_first out1 out2 piece next cut) in
    (k, took ∙ ap (λ (text : List ℕ). grown out0 (take k text)) (sym (before.text ∙ ap (λ (l : List ℕ). before.done ++ l) is)))

-- all of it was taken
pub whole-taken : (whole rest : List ℕ) (out0 out1 : Option (List ℕ)) → rest ≡ [] → TakenUpTo whole rest out0 out1 → out1 ≡ grown out0 whole
whole-taken whole rest out0 out1 none before =
    before.taken ∙ ap (grown out0) (sym (before.text ∙ ap (λ (l : List ℕ). before.done ++ l) none ∙ append-nil before.done))

-- the lines of sixteen bytes, and the one with this number
abbrev pub rows_of : ℕ → ℕ
rows_of count = (count + (ROW - 1)) / ROW

abbrev pub row_line : Seen → ℕ → ℕ → ℕ → List ℕ
row_line seen address count k = mem_line (further address (ROW * k)) (bytes_from seen (further address (ROW * k)) (min ROW (count - ROW * k)))

-- those from one on
abbrev pub mem_rest : Seen → ℕ → ℕ → ℕ → List ℕ
mem_rest seen address count k = flat_map (row_line seen address count) (range_with_len k (rows_of count - k))

pub mem-first : (seen : Seen) (address count : ℕ) → mem_text seen address count ≡ mem_rest seen address count 0
mem-first seen address count =
    let e : rows_of count ≡ rows_of count - 0 = omega arith in ap (λ n. flat_map (row_line seen address count) (range_with_len 0 n)) e

pub mem-more : (seen : Seen) (address count k : ℕ) → k < rows_of count
    → mem_rest seen address count k ≡ row_line seen address count k ++ mem_rest seen address count (k + 1)
mem-more seen address count k inside =
    let e : rows_of count - k ≡ suc (rows_of count - (k + 1)) = omega arith in
    ap (λ n. flat_map (row_line seen address count) (range_with_len k n)) e

pub mem-last : (seen : Seen) (address count k : ℕ) → rows_of count ≤ k → mem_rest seen address count k ≡ []
mem-last seen address count k all =
    let e : rows_of count - k ≡ 0 = omega arith in
    ap (λ n. flat_map (row_line seen address count) (range_with_len k n)) e

-- their number, and the bytes of the last, as the code comes to them
pub rows-ceil : (count : ℕ) → count / 16 + min 1 (count % 16) ≡ rows_of count
rows-ceil count = omega arith

-- a row and those after it, with the numbers as the code comes to them
pub row-is : (seen : Seen) (from count k rows left address : ℕ) (text : List ℕ) (bytes : List (Option ℕ)) → rows ≡ count / 16 + min 1 (count % 16)
    → k < rows → left ≡ min (count - 16 * k) 16 → address ≡ further from (16 * k) → bytes ≡ bytes_from seen address left
    → text ≡ mem_line address bytes → mem_rest seen from count k ≡ text ++ mem_rest seen from count (k + 1)
row-is seen from count k rows left address text bytes ceil inside few at are is =
    let within : k < rows_of count = (let e = rows-ceil count in omega arith) in
    let short : left ≡ min ROW (count - ROW * k) = omega arith in
    let more = mem-more seen from count k within in
    cc

pub rows-last : (seen : Seen) (from count k rows : ℕ) → rows ≡ count / 16 + min 1 (count % 16) → rows ≤ k → mem_rest seen from count k ≡ []
rows-last seen from count k rows ceil all = mem-last seen from count k (let e = rows-ceil count in omega arith)

-- the bytes of an instruction: one more, where it can be seen
pub readable-more : (seen : Seen) (address i byte : ℕ) → i < 3 → seen (further address i) ≡ Some byte
    → readable seen (further address i) (3 - i) ≡ byte ∷ readable seen (further address (i + 1)) (3 - (i + 1))
unfolding readable
readable-more seen address i byte inside is =
    let e : 3 - i ≡ suc (3 - (i + 1)) = omega arith in
    let next : further (further address i) 1 ≡ further address (i + 1) = omega arith in
    ap (readable seen (further address i)) e
    ∙ ap (λ (o : Option ℕ). option_map_or (λ b. b ∷ readable seen (further (further address i) 1) (3 - (i + 1))) o []) is
    ∙ ap (λ a. byte ∷ readable seen a (3 - (i + 1))) next

-- none, where it can't
pub readable-none : (seen : Seen) (address i : ℕ) → i < 3 → seen (further address i) ≡ None → readable seen (further address i) (3 - i) ≡ []
unfolding readable
readable-none seen address i inside is =
    let e : 3 - i ≡ suc (3 - (i + 1)) = omega arith in
    ap (readable seen (further address i)) e
    ∙ ap (λ (o : Option ℕ). option_map_or (λ b. b ∷ readable seen (further (further address i) 1) (3 - (i + 1))) o []) is

-- after three there are no more
pub readable-last : (seen : Seen) (address i : ℕ) → 3 ≤ i → readable seen (further address i) (3 - i) ≡ []
unfolding readable
readable-last seen address i all = let e : 3 - i ≡ 0 = omega arith in ap (readable seen (further address i)) e

-- one more is left than after it
pub one-less : (i count : ℕ) → i < count → count - i ≡ suc (count - (i + 1))
one-less i count inside = omega arith

-- an instruction, and those after it
pub dis-more : (seen : Seen) (address i count : ℕ) → i < count
    → dis_text seen address (count - i)
    ≡ dis_line address (readable seen address 3) ++ dis_text seen (further address (dis_size (readable seen address 3))) (count - (i + 1))
unfolding dis_text
dis-more seen address i count inside = let e : count - i ≡ suc (count - (i + 1)) = omega arith in ap (dis_text seen address) e

pub dis-is : (seen : Seen) (address i count size next : ℕ) (text bytes : List ℕ) → i < count → bytes ≡ readable seen address 3
    → text ≡ dis_line address bytes → size ≡ dis_size bytes → next ≡ further address size
    → dis_text seen address (count - i) ≡ text ++ dis_text seen next (count - (i + 1))
dis-is seen address i count size next text bytes inside are is big at = let more = dis-more seen address i count inside in cc

pub dis-last : (seen : Seen) (address i count : ℕ) → count ≤ i → dis_text seen address (count - i) ≡ []
unfolding dis_text
dis-last seen address i count all = let e : count - i ≡ 0 = omega arith in ap (dis_text seen address) e

pub vdis-is : (seen : Seen) (address n word second size more next : ℕ) (text : List ℕ) → word ≡ word_seen seen address
    → second ≡ word_seen seen (vg_further address 2) → text ≡ vdis_line address word second → size ≡ more → next ≡ vg_further address size
    → vdis_line address (word_seen seen address) (word_seen seen (vg_further address 2)) ++ vdis_text seen (vg_further address more) n
    ≡ text ++ vdis_text seen next n
vdis-is seen address n word second size more next text first then is big at = cc

pub vdis-last : (seen : Seen) (address i count : ℕ) → count ≤ i → vdis_text seen address (count - i) ≡ []
unfolding vdis_text
vdis-last seen address i count all = let e : count - i ≡ 0 = omega arith in ap (vdis_text seen address) e
