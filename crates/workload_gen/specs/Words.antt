-- The words of the vector ROM. This project's own choice.
use Rattle.std.specs.Prelude.{ℕ, ◌+◌, ◌%◌, ◌==◌, if◌then◌else◌, List, [], ◌∷◌, ◌++◌, length, map}
use Rattle.std.specs.List.{flat_map, range_with_len, zip}
use Rattle.workload_gen.specs.declared.words.Choice.{Choice}
use Rattle.workload_gen.specs.Draws.{draws_of}

-- the word that a draw chooses
abbrev pub drawn_word : Choice → ℕ → ℕ
drawn_word choice draw = choice.least + draw % choice.count

-- a scale: the draw is the linear one, and the binary one is 1
abbrev pub scale : Choice
scale = record { least = 0x7100; count = 128 }

-- a colour with an intensity
abbrev pub colour : Choice
colour = record { least = 0x6000; count = 256 }

-- a short vector
abbrev pub vector : Choice
vector = record { least = 0x4000; count = 8192 }

-- vector k of the picture; each thirtieth, from the first on, has a colour before it
abbrev pub choices_at : ℕ → List Choice
choices_at k = if k % 30 == 0 then colour ∷ vector ∷ [] else vector ∷ []

-- what is drawn before vector k: a scale, and then the vectors from 0 on
unfoldable pub choices_before : ℕ → List Choice
choices_before k = scale ∷ flat_map choices_at (range_with_len 0 k)

-- what is drawn in all, for 300 vectors
unfoldable pub choices : List Choice
choices = choices_before 300

-- the words that are drawn, each by the next draw of a seed
unfoldable pub drawn_words : ℕ → List Choice → List ℕ
drawn_words seed these = map (λ (choice, draw). drawn_word choice draw) (zip these (draws_of seed (length these)))

-- the words: the beam goes to the centre, the picture is drawn, and the generator halts
unfoldable pub words_of : ℕ → List ℕ
words_of seed = 0x8000 ∷ drawn_words seed choices ++ 0x2000 ∷ []
