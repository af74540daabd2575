-- The forms of a line that both languages have. This project's own choice.
use Rattle.std.specs.Prelude.{ℕ, ◌&&◌, List, [], ◌∷◌, Option, Some, None, is_some, drop, codes, if◌then◌else◌}
use Rattle.std.specs.Str.{str_eq_ignore_ascii_case}
use Rattle.std.specs.Option.{option_map}
use Rattle.asm_core.specs.declared.word.Word.{Word}
use Rattle.asm_core.specs.declared.word.Word.TheVariants as word
use Rattle.asm_core.specs.declared.cell.TheConstants.{WORD}
use Rattle.asm_core.specs.declared.dialect.Form.{Form}
use Rattle.asm_core.specs.declared.dialect.Form.TheVariants as form
use Rattle.asm_core.specs.declared.line.Body.{Body}
use Rattle.asm_core.specs.declared.line.Body.TheVariants as body
use Rattle.asm_core.specs.declared.line.Line.{Line}
use Rattle.asm_core.specs.Expressions.{NameValues, expression_of}
use Rattle.asm_core.specs.Lists.{cells_of}
use Rattle.asm_core.specs.Words.{begins_with, is_mark, is_plain, items_of, plain_name}

-- what a language makes of a statement, under the names of earlier lines and at its address: of its
-- first word, and of the words behind that
abbrev pub Language : Type 0
Language = NameValues → ℕ → List ℕ → List Word → Form

-- the label of a line: a plain name with a colon behind it
abbrev pub label_of : List Word → Option (List ℕ)
label_of (first ∷ second ∷ ws) = if is_mark 58 second then plain_name first else None
label_of ws = None

-- the words of a line that stand behind its label
abbrev pub after_label : List Word → List Word
after_label ws = if is_some (label_of ws) then drop 2 ws else ws

-- a name is given a value
abbrev pub equals_of : List ℕ → List Word → Option Body
equals_of name ws = if begins_with 61 ws && is_plain name then option_map (λ e. body.Equals name e) (expression_of (drop 1 ws)) else None

-- a statement that is none of both languages: the language's own, or a name is given a value
abbrev pub body_of_form : List ℕ → List Word → Form → Option Body
body_of_form name ws form.NotReserved = equals_of name ws
body_of_form name ws form.NoSuchForm = None
body_of_form name ws (form.Gives cells) = Some (body.Gives cells)

-- a statement that begins with a word
unfoldable pub named_body_of : (List ℕ → List Word → Form) → List ℕ → List Word → Option Body
named_body_of form_of name ws =
    if str_eq_ignore_ascii_case name (codes ".org") then option_map (λ e. body.Origin e) (expression_of ws)
    else (if str_eq_ignore_ascii_case name (codes ".word") then option_map (λ cells. body.Gives cells) (cells_of WORD 2 (items_of ws))
    else body_of_form name ws (form_of name ws))

-- a statement
abbrev pub body_of : (List ℕ → List Word → Form) → List Word → Option Body
body_of form_of [] = Some body.Nothing
body_of form_of (word.Name name ∷ ws) = named_body_of form_of name ws
body_of form_of ws = None

-- a line: a label, which may be missing, and a statement
abbrev pub line_of_words : (List ℕ → List Word → Form) → List Word → Option Line
line_of_words form_of ws = option_map (λ body. record { label = label_of ws; body = body }) (body_of form_of (after_label ws))
