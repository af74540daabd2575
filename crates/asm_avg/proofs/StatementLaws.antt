-- A statement's values and its bytes.
use Rattle.std.proofs.Common.{◌≡◌, ◌∙◌, true, List, [], ◌∷◌, map, ◌+◌, Some, sym, ap, append-nil, ℤ, arith}
use Rattle.std.specs.List.{list_all}
use Rattle.std.proofs.Math.Bool.{and-true}
use Rattle.asm_core.specs.declared.cell.Cell.{Cell}
use Rattle.asm_core.specs.declared.cell.Field.{Field}
use Rattle.asm_core.specs.declared.dialect.Form.TheVariants as form
use Rattle.asm_core.specs.declared.word.Word.{Word}
use Rattle.asm_core.specs.Cells.{all_fine, all_known, cell_bytes, cells_bytes, is_fine, is_known, low_bytes}
use Rattle.asm_core.specs.Expressions.{NameValues}
use Rattle.asm_core.proofs.Covering.{both_pass}
use Rattle.asm_avg.specs.declared.mnemonic.Mnemonic.{Mnemonic}
use Rattle.asm_avg.specs.Language.{cell_of, statement_of}
use Rattle.asm_avg.specs.Operands.{fields_of, operands_of}
use Rattle.asm_avg.specs.ReadBack.{FitsWords, IsReadBack, Said, said_by, values_of}
use Rattle.asm_avg.specs.Statements.{base_of, mnemonic_origin, places_of, mnemonic_size}
use Rattle.asm_avg.proofs.Accepted.{accepted}
use Rattle.asm_avg.proofs.ReadBackLaws.{read_back}
use Rattle.asm_avg.proofs.Values.{added, taken, valued}

-- the fields of a statement that gives bytes
fields_in : (mnemonic : Mnemonic) (rest : List Word) (cells : List Cell) → statement_of mnemonic rest ≡ form.Gives cells
    → (fields : List Field) × (fields_of (mnemonic_origin mnemonic) (places_of mnemonic) (operands_of rest) ≡ Some fields) × (cells ≡ cell_of mnemonic fields ∷ [])
fields_in mnemonic rest cells gives = grind arith

-- the values of a statement that gives bytes
pub record Worth (names : NameValues) (mnemonic : Mnemonic) (rest : List Word) (cells : List Cell) : Type 0 where
  pub values : List ℤ
  pub values_are : values_of names rest ≡ map (λ v. Some v) values
  pub fine : all_fine names cells ≡ taken (mnemonic_origin mnemonic) (places_of mnemonic) values
  pub bytes : cells_bytes names cells ≡ low_bytes (mnemonic_size mnemonic) (base_of mnemonic + added (mnemonic_origin mnemonic) (places_of mnemonic) values)

worth_of : (names : NameValues) (mnemonic : Mnemonic) (rest : List Word) (cells : List Cell) → statement_of mnemonic rest ≡ form.Gives cells → all_known names cells ≡ true
    → Worth names mnemonic rest cells
worth_of names mnemonic rest cells gives known =
    let (fields, are, cells_are) = fields_in mnemonic rest cells gives in
    let (each, _) = both_pass (list_all (λ field. is_known names field) fields) true (rw cells_are at known) in
    let v = valued names (mnemonic_origin mnemonic) (places_of mnemonic) (operands_of rest) fields are each in
    record {
      values = v.values;
      values_are = v.items_are;
      fine = ap (λ cs. all_fine names cs) cells_are ∙ and-true (list_all (λ field. is_fine names field) fields) ∙ v.fine;
      bytes = ap (λ cs. cells_bytes names cs) cells_are ∙ append-nil (cell_bytes names (cell_of mnemonic fields)) ∙ ap (λ n. low_bytes (mnemonic_size mnemonic) (base_of mnemonic + n)) v.number;
    }

pub statement_back : (names : NameValues) (mnemonic : Mnemonic) (rest : List Word) (cells : List Cell)
    → statement_of mnemonic rest ≡ form.Gives cells → all_known names cells ≡ true → all_fine names cells ≡ true
    → IsReadBack mnemonic (values_of names rest) (cells_bytes names cells)
statement_back names mnemonic rest cells gives known fine =
    let w = worth_of names mnemonic rest cells gives known in
    rw (w.values_are, w.bytes) (read_back mnemonic w.values (sym w.fine ∙ fine))

pub statement_fine : (names : NameValues) (mnemonic : Mnemonic) (rest : List Word) (cells : List Cell) (said : Said)
    → statement_of mnemonic rest ≡ form.Gives cells → all_known names cells ≡ true → said_by mnemonic (values_of names rest) ≡ Some said → FitsWords said
    → all_fine names cells ≡ true
statement_fine names mnemonic rest cells said gives known says fits =
    let w = worth_of names mnemonic rest cells gives known in
    w.fine ∙ accepted mnemonic w.values said (rw w.values_are at says) fits

pub ruleset statements = (statement_back, statement_fine)
