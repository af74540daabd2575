-- Samples of the sound: the levels of both POKEYs, summed over groups of clocks. They are this
-- project's own.
use Rattle.std.specs.Prelude.{ℕ, ◌+◌, List, [], ◌∷◌, map, sum, flat_map, nat_le, ◌==◌, if◌then◌else◌}
use Rattle.std.specs.Int.{w32, to_le_bytes}
use Rattle.std.specs.List.{range_with_len}
use Rattle.board_base.specs.declared.record.Record.{Record}
use Rattle.board_base.specs.declared.record.Record.TheVariants.{Levels}
use Rattle.board_base.specs.Records.{clock_of}

-- the four levels of a POKEY after a record: those that it states, and else those before it
abbrev pub levels_of : List ℕ → Record → List ℕ
levels_of before (Levels clock l1 l2 l3 l4) = l1 ∷ l2 ∷ l3 ∷ l4 ∷ []
levels_of before _ = before

-- the four levels of a POKEY after all of its records
unfoldable pub levels_after : List ℕ → List Record → List ℕ
levels_after before [] = before
levels_after before (made ∷ others) = levels_after (levels_of before made) others

-- the four levels of a POKEY after those of its records that came in this clock or before it
unfoldable pub levels_at : List ℕ → List Record → ℕ → List ℕ
levels_at before [] clock = before
levels_at before (made ∷ others) clock =
    levels_at (if nat_le (clock_of made) clock then levels_of before made else before) others clock

-- the weight of a clock: the sum of the eight levels after the records of that clock
unfoldable pub weight : List ℕ → List ℕ → List Record → List Record → ℕ → ℕ
weight before1 before2 sound1 sound2 clock = sum (levels_at before1 sound1 clock) + sum (levels_at before2 sound2 clock)

-- the weights of n clocks, from one on
abbrev pub weights : List ℕ → List ℕ → List Record → List Record → ℕ → ℕ → List ℕ
weights before1 before2 sound1 sound2 from n = map (weight before1 before2 sound1 sound2) (range_with_len from n)

-- The samples that become whole over the weights of further clocks, where the group under way has
-- this sum and this number of clocks: each clock goes into the group, and the group that has its
-- number of clocks is a sample.
unfoldable pub samples : ℕ → ℕ → ℕ → List ℕ → List ℕ
samples per so_far count [] = []
samples per so_far count (first ∷ others) =
    if count + 1 == per then (so_far + first) ∷ samples per 0 0 others else samples per (so_far + first) (count + 1) others

-- the group that is then under way: its sum and its number of clocks
unfoldable pub group_after : ℕ → ℕ → ℕ → List ℕ → ℕ × ℕ
group_after per so_far count [] = (so_far, count)
group_after per so_far count (first ∷ others) =
    if count + 1 == per then group_after per 0 0 others else group_after per (so_far + first) (count + 1) others

-- the bytes of samples: four each, the lowest first
unfoldable pub bytes_of : List ℕ → List ℕ
bytes_of made = flat_map (to_le_bytes w32) made
