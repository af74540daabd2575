-- The commands of a debugger's script, as their lines give them. This project's own choice.
use Rattle.std.specs.Prelude.{ℕ, ◌+◌, ◌*◌, ◌%◌, ◌==◌, Bool, true, false, ◌&&◌, List, [], ◌∷◌, nat_le, Option, Some, None, option_and_then, option_map, bytes_eq, codes, if◌then◌else◌}
use Rattle.board_map.specs.declared.map.Reads.{Reads}
use Rattle.board_map.specs.declared.map.Reads.TheVariants.{Ram, VectorRam, VectorRom}
use Rattle.board_map.specs.Map.{row_of}
use Rattle.command_line.specs.Numbers.{number_of}
use Rattle.plain_text.specs.Numbers.{value_of}
use Rattle.debug_script.specs.declared.command.Command.{Command}
use Rattle.debug_script.specs.declared.command.Command.TheVariants.{Break, Watch, StopVg, Clear, Go, Step, Until, Regs, Dev, Mem, Dis, Vdis}
use Rattle.debug_script.specs.declared.command.Span.{Span}
use Rattle.debug_script.specs.declared.script.TheConstants.{MOST_TURNS, MOST_BYTES, MOST_INSTRUCTIONS}

-- an address is four hexadecimal digits of either case
abbrev pub address_of : List ℕ → Option ℕ
address_of (a ∷ b ∷ c ∷ d ∷ []) = option_and_then (λ high. option_map (λ low. 256 * high + low) (value_of (c ∷ d ∷ []))) (value_of (a ∷ b ∷ []))
address_of _ = None

-- what a reading gives, where it passes a test
abbrev pub where_it : {A : Type 0} → (A → Bool) → Option A → Option A
where_it test given = option_and_then (λ x. if test x then Some x else None) given

-- a count is a number from 1 to a greatest one
abbrev pub count_up_to : ℕ → List ℕ → Option ℕ
count_up_to most word = where_it (λ n. nat_le 1 n && nat_le n most) (number_of word)

-- so many items from an address on
abbrev pub span_of : ℕ → List ℕ → List ℕ → Option Span
span_of most from count = option_and_then (λ address. option_map (λ n. record { from = address; count = n }) (count_up_to most count)) (address_of from)

-- a byte of the RAM or of the vector RAM
abbrev pub is_ram : Reads → Bool
is_ram Ram = true
is_ram VectorRam = true
is_ram _ = false

-- may be watched
abbrev pub is_watchable : ℕ → Bool
is_watchable address = is_ram (row_of address).reads

-- a byte of the generator's memory
abbrev pub is_vector_byte : Reads → Bool
is_vector_byte VectorRam = true
is_vector_byte VectorRom = true
is_vector_byte _ = false

-- its words stand at the even addresses
abbrev pub is_word_address : ℕ → Bool
is_word_address address = is_vector_byte (row_of address).reads && address % 2 == 0

-- the commands of one word
abbrev pub plain_command : List ℕ → Option Command
plain_command word =
    if bytes_eq word (codes "stopvg") then Some StopVg else (
    if bytes_eq word (codes "clear") then Some Clear else (
    if bytes_eq word (codes "go") then Some Go else (
    if bytes_eq word (codes "regs") then Some Regs else (
    if bytes_eq word (codes "dev") then Some Dev else None))))

-- those with an address or a number
abbrev pub argument_command : List ℕ → List ℕ → Option Command
argument_command verb argument =
    if bytes_eq verb (codes "break") then option_map Break (address_of argument) else (
    if bytes_eq verb (codes "watch") then option_map Watch (where_it is_watchable (address_of argument)) else (
    if bytes_eq verb (codes "step") then option_map Step (count_up_to MOST_TURNS argument) else (
    if bytes_eq verb (codes "until") then option_map Until (number_of argument) else None)))

-- those with an address and a count
abbrev pub span_command : List ℕ → List ℕ → List ℕ → Option Command
span_command verb from count =
    if bytes_eq verb (codes "mem") then option_map Mem (span_of MOST_BYTES from count) else (
    if bytes_eq verb (codes "dis") then option_map Dis (span_of MOST_INSTRUCTIONS from count) else (
    if bytes_eq verb (codes "vdis") then option_map Vdis (where_it (λ span. is_word_address span.from) (span_of MOST_INSTRUCTIONS from count)) else None))

-- the command of a line, by its words
abbrev pub command_of : List (List ℕ) → Option Command
command_of (word ∷ []) = plain_command word
command_of (verb ∷ argument ∷ []) = argument_command verb argument
command_of (verb ∷ from ∷ count ∷ []) = span_command verb from count
command_of _ = None
