-- How the next record of two lists is found.
use Rattle.std.specs.Prelude.{◌≡◌, List, [], ◌∷◌, Bool, true, false, nat_le}
use Rattle.std.specs.Prelude.{Option, Some, None}
use Rattle.board_base.specs.declared.part.Part.{Part}
use Rattle.board_base.specs.declared.part.Part.TheVariants.{Pokey1, Pokey2}
use Rattle.board_base.specs.declared.record.Record.{Record}
use Rattle.board_base.specs.declared.record.Record.TheVariants.{Levels}

-- a record may be taken before another: those of levels go by their clocks, and any other record
-- goes before them
abbrev pub comes_first : Record → Record → Bool
comes_first (Levels clock1 a1 a2 a3 a4) (Levels clock2 b1 b2 b3 b4) = nat_le clock1 clock2
comes_first (Levels clock1 a1 a2 a3 a4) _ = false
comes_first _ _ = true

-- a record may be taken before the first of some records, where there is one
abbrev pub MayPrecede : Record → List Record → Type 0
MayPrecede made [] = Unit {0}
MayPrecede made (first ∷ others) = comes_first made first ≡ true

-- the first record of one list is taken away, which may be taken before that of the other; none is
-- left where both are empty
abbrev pub TakesSooner : List Record → List Record → List Record → List Record → Option (Part × Record) → Type 0
TakesSooner sound1 sound2 left1 left2 None = (sound1 ≡ []) × (sound2 ≡ [])
TakesSooner sound1 sound2 left1 left2 (Some (Pokey1, made)) = (sound1 ≡ made ∷ left1) × (left2 ≡ sound2) × MayPrecede made sound2
TakesSooner sound1 sound2 left1 left2 (Some (Pokey2, made)) = (sound2 ≡ made ∷ left2) × (left1 ≡ sound1) × MayPrecede made sound1
TakesSooner sound1 sound2 left1 left2 (Some (_, made)) = ⊥
