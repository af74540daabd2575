-- Expressions, and the values of names. This project's own choice.
use Rattle.std.specs.Prelude.{ℕ, ◌==◌, ◌%◌, ◌/◌, Bool, true, false, List, [], ◌∷◌, drop, Option, Some, None, bytes_eq, if◌then◌else◌, ℤ, pos, ◌+ℤ◌, ◌-ℤ◌, unsigned_abs}
use Rattle.std.specs.Int.{int_rem_euclid}
use Rattle.std.specs.Option.{option_and_then, option_map}
use Rattle.std.specs.Map.{lookup}
use Rattle.asm_core.specs.declared.word.Word.{Word}
use Rattle.asm_core.specs.declared.word.Word.TheVariants as word
use Rattle.asm_core.specs.declared.expression.Operand.{Operand}
use Rattle.asm_core.specs.declared.expression.Operand.TheVariants as operand
use Rattle.asm_core.specs.declared.expression.Term.{Term}
use Rattle.asm_core.specs.declared.expression.Part.{Part}
use Rattle.asm_core.specs.declared.expression.Part.TheVariants.{Whole, Low, High}
use Rattle.asm_core.specs.declared.expression.Expression.{Expression}
use Rattle.asm_core.specs.Words.{begins_with, is_plain}

-- the names that have a value, in the order of the source
abbrev pub NameValues : Type 0
NameValues = List (List ℕ × ℤ)

-- the value of a name, where it has one
abbrev pub value_of_name : NameValues → List ℕ → Option ℤ
value_of_name names name = lookup (λ known. bytes_eq name known) names

-- the number or the plain name that a word is
abbrev pub operand_of : Word → Option Operand
operand_of (word.Name name) = if is_plain name then Some (operand.Name name) else None
operand_of (word.Number n) = Some (operand.Number n)
operand_of (word.Mark byte) = None

-- whether a sign is a minus, where the word is a sign
abbrev pub minus_of : Word → Option Bool
minus_of (word.Name name) = None
minus_of (word.Number n) = None
minus_of (word.Mark byte) = if byte == 43 then Some false else (if byte == 45 then Some true else None)

-- a term before others
abbrev pub term_before : Bool → Option Operand → Option (List Term) → Option (List Term)
term_before negative first rest = option_and_then (λ operand. option_map (λ terms. record { negative = negative; operand = operand } ∷ terms) rest) first

-- the terms of a sum, which has one or more, with signs between them; the sign of the first is
-- given
unfoldable pub terms_of : Bool → List Word → Option (List Term)
terms_of negative [] = None
terms_of negative (w ∷ []) = term_before negative (operand_of w) (Some [])
terms_of negative (w ∷ sign ∷ ws) = term_before negative (operand_of w) (option_and_then (λ next. terms_of next ws) (minus_of sign))

-- the terms of a sum, of which the first may have a minus
abbrev pub sum_of : List Word → Option (List Term)
sum_of ws = if begins_with 45 ws then terms_of true (drop 1 ws) else terms_of false ws

-- a part of a sum
abbrev pub part_of_sum : Part → List Word → Option Expression
part_of_sum part ws = option_map (λ terms. record { part = part; terms = terms }) (sum_of ws)

-- the expression that these words are: `<` or `>` takes the low or the high byte of the whole sum
-- behind it
abbrev pub expression_of : List Word → Option Expression
expression_of ws =
    if begins_with 60 ws then part_of_sum Low (drop 1 ws) else (if begins_with 62 ws then part_of_sum High (drop 1 ws) else part_of_sum Whole ws)

-- the value of an operand, where it has one
abbrev pub operand_value : NameValues → Operand → Option ℤ
operand_value names (operand.Name name) = value_of_name names name
operand_value names (operand.Number n) = Some (pos n)

-- a value before, and a term's
abbrev pub summed : Bool → ℤ → ℤ → ℤ
summed negative before value = if negative then before -ℤ value else before +ℤ value

-- the sum of a value and of terms, where all have a value
unfoldable pub sum_value : NameValues → ℤ → List Term → Option ℤ
sum_value names before [] = Some before
sum_value names before (term ∷ terms) =
    option_and_then (λ value. sum_value names (summed term.negative before value) terms) (operand_value names term.operand)

-- the remainder from 0 up by 65,536
abbrev pub word_of : ℤ → ℕ
word_of value = unsigned_abs (int_rem_euclid value (pos 65536))

-- what a part of a sum is worth
unfoldable pub part_of : Part → ℤ → ℤ
part_of Whole value = value
part_of Low value = pos (word_of value % 256)
part_of High value = pos (word_of value / 256)

-- the value of an expression, where all its names have one
unfoldable pub value_of : NameValues → Expression → Option ℤ
value_of names e = option_map (λ value. part_of e.part value) (sum_value names (pos 0) e.terms)
