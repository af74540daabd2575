-- The numbers of the command line. This project's own choice.
use Rattle.std.specs.Prelude.{ℕ, Bool, true, ◌==◌, ◌&&◌, List, [], ◌∷◌, length, nat_le, Option, Some, None, option_and_then, option_map, if◌then◌else◌}
use Rattle.std.specs.List.{slice_split}
use Rattle.board_base.specs.declared.board.TheConstants.{CLOCK_LIMIT}
use Rattle.plain_text.specs.Numbers.{decimal_of}
use Rattle.command_line.specs.declared.number.TheConstants.{CUTS, PER_LIMIT}

-- a number is one or more decimal digits, not too many, and at most the limit of the clocks
abbrev pub number_of : List ℕ → Option ℕ
number_of word = option_and_then (λ number. if nat_le number CLOCK_LIMIT then Some number else None) (decimal_of word)

-- the clocks of a sample: one at least, and not too many
abbrev pub per_of : List ℕ → Option ℕ
per_of word = option_and_then (λ per. if nat_le 1 per && nat_le per PER_LIMIT then Some per else None) (number_of word)

-- the numbers of these words
unfoldable pub numbers_of : List (List ℕ) → Option (List ℕ)
numbers_of [] = Some []
numbers_of (word ∷ words) = option_and_then (λ number. option_map (λ more. number ∷ more) (numbers_of words)) (number_of word)

-- a list of clocks is numbers between commas, and not too many
abbrev pub clocks_of : List ℕ → Option (List ℕ)
clocks_of word =
    option_and_then (λ clocks. if nat_le (length clocks) CUTS then Some clocks else None) (numbers_of (slice_split (λ byte. byte == 44) word))

-- whether each clock is at least the one before it, and the first at least this one
unfoldable pub rises_from : ℕ → List ℕ → Bool
rises_from least [] = true
rises_from least (clock ∷ clocks) = nat_le least clock && rises_from clock clocks

-- cuts are such a list that doesn't fall
abbrev pub cuts_of : List ℕ → Option (List ℕ)
cuts_of word = option_and_then (λ cuts. if rises_from 0 cuts then Some cuts else None) (clocks_of word)
