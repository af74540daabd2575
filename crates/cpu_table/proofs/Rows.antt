use denote.Enum.Bare.{sameb, same_true, true_same}
use Rattle.std.proofs.Common.{◌≡◌, ◌≢◌, ◌↔◌, ℕ, ◌<◌, ◌≤◌, below_more, ◌==◌, nat_lt, Bool, true, false, ◌&&◌, cond, List, [], ◌∷◌, Option, Some}
use Rattle.std.proofs.Common.{None, map, get_or, refl, ap, sym, ◌∙◌, zero-add, eqb→eq, IfSome, MatchBool, T, subst, unwrap_or, rules, arith}
use borrow.Author.Tests.{ltb-true}
use Rattle.std.proofs.lemmas.List.FromFn.{get_or-map-range_with_len}
use Rattle.std.specs.List.{range_with_len}
use Rattle.std.specs.Option.{option_eq}
use mathlib.Core.Bool.{true≢false}
use Rattle.cpu_table.specs.Opcodes.{opcode_table, row_in, row_of, opcode_in, opcode_of}
use Rattle.cpu_table.specs.contracts.instruction.Op as op_contracts
use Rattle.cpu_table.specs.contracts.instruction.Mode as mode_contracts
use Rattle.cpu_table.specs.declared.instruction.Op.{Op}
use Rattle.cpu_table.specs.declared.instruction.Mode.{Mode}
use Rattle.cpu_table.specs.declared.table.TheConstants.{ENTRIES}

-- the code's array has each opcode's row of the table
entries_are_rows : ENTRIES ≡ map (row_in opcode_table) (range_with_len 0 256)
entries_are_rows = refl

pub entry_is_row : (opcode : ℕ) (d : Option (Op × Mode)) → opcode < 256 → get_or ENTRIES opcode d ≡ row_of opcode
unfolding row_of
entry_is_row opcode d h =
    ap (λ (es : List (Option (Op × Mode))). get_or es opcode d) entries_are_rows
    ∙ get_or-map-range_with_len (row_in opcode_table) 0 256 opcode opcode d h (zero-add opcode)

abbrev Row : Type 0
Row = ℕ × Op × Mode

-- each opcode stands in one row
opcodes_stand_once : map (λ (row : Row). row_in opcode_table row.0) opcode_table ≡ map (λ (row : Row). Some (row.1, row.2)) opcode_table
opcodes_stand_once = refl

-- each pair of an operation and a mode stands in one row
pairs_stand_once : map (λ (row : Row). opcode_in opcode_table row.1 row.2) opcode_table ≡ map (λ (row : Row). Some row.0) opcode_table
pairs_stand_once = refl

opcodes_are_bytes : map (λ (row : Row). nat_lt row.0 256) opcode_table ≡ map (λ (row : Row). true) opcode_table
opcodes_are_bytes = refl

at_row : {A : Type 0} (f g : Row → A) (row : Row) (rows : List Row) → map f (row ∷ rows) ≡ map g (row ∷ rows) → f row ≡ g row
at_row f g row rows all = cc

at_rest : {A : Type 0} (f g : Row → A) (row : Row) (rows : List Row) → map f (row ∷ rows) ≡ map g (row ∷ rows) → map f rows ≡ map g rows
at_rest f g row rows all = cc

op_of_some : (a b : Op × Mode) → Some a ≡ Some b → a.0 ≡ b.0
op_of_some a b e = ap (λ (x : Option (Op × Mode)). (unwrap_or x a).0) e

mode_of_some : (a b : Op × Mode) → Some a ≡ Some b → a.1 ≡ b.1
mode_of_some a b e = ap (λ (x : Option (Op × Mode)). (unwrap_or x a).1) e

same_number : (m n : ℕ) → (m == n) ≡ true → m ≡ n
same_number m n e = eqb→eq m n (subst T (sym e) tt)

-- what holds of each row holds of the one that a look-up by opcode gives
holds_of_row : {A : Type 0} (f g : Row → A) (rows : List Row) (o : ℕ) (op : Op) (mode : Mode)
    → map f rows ≡ map g rows → row_in rows o ≡ Some (op, mode) → f (o, op, mode) ≡ g (o, op, mode)
holds_of_row f g [] o op mode all found = cc
holds_of_row {A} f g (row ∷ rows) o op mode all found =
    let pair : Op × Mode = (op, mode) in
    let own : Op × Mode = (row.1, row.2) in
    elim (row.0 == o) as (λ b. row.0 == o ≡ b → cond b (Some own) (row_in rows o) ≡ Some pair → f (o, op, mode) ≡ g (o, op, mode)) [
      | true ↦ λ same hit.
          let at_o : row.0 ≡ o = same_number row.0 o same in
          let at_op : row.1 ≡ op = op_of_some own pair hit in
          let at_mode : row.2 ≡ mode = mode_of_some own pair hit in
          subst (λ (n : ℕ). f (n, op, mode) ≡ g (n, op, mode)) at_o
          (subst (λ (p : Op). f (row.0, p, mode) ≡ g (row.0, p, mode)) at_op
          (subst (λ (m : Mode). f (row.0, row.1, m) ≡ g (row.0, row.1, m)) at_mode (at_row f g row rows all)))
      | false ↦ λ other miss. holds_of_row f g rows o op mode (at_rest f g row rows all) miss
    ] refl found

both_true : (a b : Bool) → (a && b) ≡ true → (a ≡ true) × (b ≡ true)
both_true true b e = (refl, e)
both_true false b e = (e, cc)

-- what holds of each row holds of the one that a look-up by operation and mode gives
holds_of_opcode : {A : Type 0} (f g : Row → A) (rows : List Row) (o : ℕ) (op : Op) (mode : Mode)
    → map f rows ≡ map g rows → opcode_in rows op mode ≡ Some o → f (o, op, mode) ≡ g (o, op, mode)
holds_of_opcode f g [] o op mode all found = cc
holds_of_opcode {A} f g (row ∷ rows) o op mode all found =
    elim (sameb op_contracts.the_type row.1 op && sameb mode_contracts.the_type row.2 mode)
    as (λ b. (sameb op_contracts.the_type row.1 op && sameb mode_contracts.the_type row.2 mode) ≡ b → cond b (Some row.0) (opcode_in rows op mode) ≡ Some o → f (o, op, mode) ≡ g (o, op, mode)) [
      | true ↦ λ same hit.
          let tests = both_true (sameb op_contracts.the_type row.1 op) (sameb mode_contracts.the_type row.2 mode) same in
          let at_o : row.0 ≡ o = cc in
          let at_op : row.1 ≡ op = same_true op_contracts.the_type (search rules) row.1 op tests.0 in
          let at_mode : row.2 ≡ mode = same_true mode_contracts.the_type (search rules) row.2 mode tests.1 in
          subst (λ (n : ℕ). f (n, op, mode) ≡ g (n, op, mode)) at_o
          (subst (λ (p : Op). f (row.0, p, mode) ≡ g (row.0, p, mode)) at_op
          (subst (λ (m : Mode). f (row.0, row.1, m) ≡ g (row.0, row.1, m)) at_mode (at_row f g row rows all)))
      | false ↦ λ other miss. holds_of_opcode f g rows o op mode (at_rest f g row rows all) miss
    ] refl found

-- a row that is found by its opcode is found by its operation and mode, and the other way round
pub opcode_of_row : (o : ℕ) (op : Op) (mode : Mode) → row_of o ≡ Some (op, mode) → opcode_of op mode ≡ Some o
unfolding row_of opcode_of
opcode_of_row o op mode found =
    holds_of_row (λ (row : Row). opcode_in opcode_table row.1 row.2) (λ (row : Row). Some row.0) opcode_table o op mode pairs_stand_once found

pub row_of_opcode : (o : ℕ) (op : Op) (mode : Mode) → opcode_of op mode ≡ Some o → row_of o ≡ Some (op, mode)
unfolding row_of opcode_of
row_of_opcode o op mode found =
    holds_of_opcode (λ (row : Row). row_in opcode_table row.0) (λ (row : Row). Some (row.1, row.2)) opcode_table o op mode opcodes_stand_once found

below_of : (m n : ℕ) → nat_lt m n ≡ true → m < n
below_of m n e = ltb-true m n e

pub opcode_is_byte : (o : ℕ) (op : Op) (mode : Mode) → opcode_of op mode ≡ Some o → o < 256
unfolding opcode_of
opcode_is_byte o op mode found =
    below_of o 256 (holds_of_opcode (λ (row : Row). nat_lt row.0 256) (λ (row : Row). true) opcode_table o op mode opcodes_are_bytes found)

-- an entry of the array is found again by its operation and mode
pub entry_encoded : (opcode : ℕ) (entry : Option (Op × Mode)) → entry ≡ row_of opcode → IfSome entry (λ row. opcode_of row.0 row.1 ≡ Some opcode)
entry_encoded opcode None is = tt
entry_encoded opcode (Some row) is = opcode_of_row opcode row.0 row.1 (sym is)

no_opcode_in : (op : Op) (mode : Mode) (found : Option ℕ) → opcode_of op mode ≡ found → ((o : ℕ) → o < 256 → row_of o ≢ Some (op, mode)) → None ≡ found
no_opcode_in op mode None is absent = refl
no_opcode_in op mode (Some o) is absent = absurd (absent o (opcode_is_byte o op mode is) (row_of_opcode o op mode is))

-- an operation and mode of no opcode's row have no opcode
pub no_opcode : (op : Op) (mode : Mode) → ((o : ℕ) → o < 256 → row_of o ≢ Some (op, mode)) → None ≡ opcode_of op mode
no_opcode op mode absent = no_opcode_in op mode (opcode_of op mode) refl absent

pub encoded_back : (op : Op) (mode : Mode) (found : Option ℕ) → found ≡ opcode_of op mode → (o : ℕ) → (found ≡ Some o) ↔ (row_of o ≡ Some (op, mode))
encoded_back op mode found is o = (λ e. row_of_opcode o op mode (sym is ∙ e), λ e. is ∙ opcode_of_row o op mode e)

-- the test by which the code compares two entries
abbrev same_entry : Option (Op × Mode) → Option (Op × Mode) → Bool
same_entry a b = option_eq (λ (x y : Op × Mode). sameb op_contracts.the_type x.0 y.0 && sameb mode_contracts.the_type x.1 y.1) a b

same_pair : (row : Op × Mode) (op : Op) (mode : Mode) → same_entry (Some row) (Some (op, mode)) ≡ true → Some row ≡ Some (op, mode)
same_pair row op mode same =
    let tests = both_true (sameb op_contracts.the_type row.0 op) (sameb mode_contracts.the_type row.1 mode) same in
    let at_op : row.0 ≡ op = same_true op_contracts.the_type (search rules) row.0 op tests.0 in
    let at_mode : row.1 ≡ mode = same_true mode_contracts.the_type (search rules) row.1 mode tests.1 in
    subst (λ (p : Op). Some row ≡ Some (p, mode)) at_op (subst (λ (m : Mode). Some row ≡ Some (row.0, m)) at_mode refl)

equal_entry : (entry : Option (Op × Mode)) (op : Op) (mode : Mode) → same_entry entry (Some (op, mode)) ≡ true → entry ≡ Some (op, mode)
equal_entry None op mode same = cc
equal_entry (Some row) op mode same = same_pair row op mode same

row_found : (o : ℕ) (entry : Option (Op × Mode)) (op : Op) (mode : Mode) → entry ≡ row_of o
    → same_entry entry (Some (op, mode)) ≡ true → row_of o ≡ Some (op, mode)
row_found o entry op mode is passed = sym is ∙ equal_entry entry op mode passed

same_self : (op : Op) (mode : Mode) → same_entry (Some (op, mode)) (Some (op, mode)) ≡ true
same_self op mode =
    let at_op : sameb op_contracts.the_type op op ≡ true = true_same op_contracts.the_type op op refl in
    let at_mode : sameb mode_contracts.the_type mode mode ≡ true = true_same mode_contracts.the_type mode mode refl in
    rw (at_op, at_mode)

row_missed : (o : ℕ) (entry : Option (Op × Mode)) (op : Op) (mode : Mode) → entry ≡ row_of o
    → same_entry entry (Some (op, mode)) ≡ false → row_of o ≢ Some (op, mode)
row_missed o entry op mode is failed found =
    true≢false (sym (same_self op mode) ∙ sym (ap (λ (e : Option (Op × Mode)). same_entry e (Some (op, mode))) (is ∙ found)) ∙ failed)

row_tested : (o : ℕ) (entry : Option (Op × Mode)) (op : Op) (mode : Mode) (test : Bool) → entry ≡ row_of o
    → same_entry entry (Some (op, mode)) ≡ test → MatchBool test (row_of o ≡ Some (op, mode)) (row_of o ≢ Some (op, mode))
row_tested o entry op mode true is e = row_found o entry op mode is e
row_tested o entry op mode false is e = row_missed o entry op mode is e

-- the test of an entry says whether the opcode has this row
pub has_row_is : (o : ℕ) (entry : Option (Op × Mode)) (op : Op) (mode : Mode) (test : Bool) → entry ≡ row_of o
    → test ≡ same_entry entry (Some (op, mode)) → MatchBool test (row_of o ≡ Some (op, mode)) (row_of o ≢ Some (op, mode))
has_row_is o entry op mode test is tested = row_tested o entry op mode test is (sym tested)

-- what the search for an opcode knows where it ends with the opcode o, or with none
pub found_opcode : (o : ℕ) (op : Op) (mode : Mode) → row_of o ≡ Some (op, mode) → Some o ≡ opcode_of op mode
found_opcode o op mode found = sym (opcode_of_row o op mode found)

pub found_back : (o : ℕ) (op : Op) (mode : Mode) → row_of o ≡ Some (op, mode) → (n : ℕ) → (Some o ≡ Some n) ↔ (row_of n ≡ Some (op, mode))
found_back o op mode found = encoded_back op mode (Some o) (found_opcode o op mode found)

pub missed_opcode : (o : ℕ) (op : Op) (mode : Mode) → 255 ≤ o → ((n : ℕ) → n < o → row_of n ≢ Some (op, mode)) → row_of o ≢ Some (op, mode) → None ≡ opcode_of op mode
missed_opcode o op mode last before here = no_opcode op mode (λ n below. below_more _ _ before here n (omega arith))

pub missed_back : (o : ℕ) (op : Op) (mode : Mode) → 255 ≤ o → ((n : ℕ) → n < o → row_of n ≢ Some (op, mode)) → row_of o ≢ Some (op, mode) → (n : ℕ) → (None ≡ Some n) ↔ (row_of n ≡ Some (op, mode))
missed_back o op mode last before here = encoded_back op mode None (missed_opcode o op mode last before here)
