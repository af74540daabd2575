-- Observers of the records of a run, and what the law of an observer says. This project's own.
use Rattle.std.specs.Prelude.{◌≡◌, ℕ, List, ◌++◌}
use Rattle.board_base.specs.declared.record.Record.{Record}
use Rattle.lockstep_board.specs.Order.{Recorded, AreMadeBetween}

-- the records of four trails
abbrev pub recorded : List Record → List Record → List Record → List Record → Recorded
recorded strokes levels1 levels2 written = record { strokes = strokes; levels1 = levels1; levels2 = levels2; written = written }

-- records and then later ones, part by part
abbrev pub joined : Recorded → Recorded → Recorded
joined l m = recorded (l.strokes ++ m.strokes) (l.levels1 ++ m.levels1) (l.levels2 ++ m.levels2) (l.written ++ m.written)

-- the records of the clocks up to one, and those of the clocks from it up to a later one
pub record AreParts (from : ℕ) (first : Recorded) (at : ℕ) (rest : Recorded) (upto : ℕ) : Type 0 where
  pub sooner : AreMadeBetween from first at
  pub later : AreMadeBetween at rest upto

module _ {W : Type 0} (can_take : W → ℕ → Recorded → ℕ → Type 0) (writes : W → Recorded → ℕ → List ℕ) (next : W → Recorded → ℕ → W) where
  -- to take a first part, and then the rest, is to take the whole
  pub record IsTakenInParts (w : W) (from : ℕ) (first : Recorded) (at : ℕ) (rest : Recorded) (upto : ℕ) : Type 0 where
    pub room_first : can_take w from first at
    pub room_rest : can_take (next w first at) at rest upto
    pub text : writes w (joined first rest) upto ≡ writes w first at ++ writes (next w first at) rest upto
    pub state : next w (joined first rest) upto ≡ next (next w first at) rest upto

  abbrev pub TakesInParts : Type 0
  TakesInParts =
      (w : W) (from : ℕ) (first : Recorded) (at : ℕ) (rest : Recorded) (upto : ℕ) → AreParts from first at rest upto
      → can_take w from (joined first rest) upto → IsTakenInParts w from first at rest upto
