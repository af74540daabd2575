-- The bounds of some strokes, by their ends. This project's own.
use Rattle.std.specs.Prelude.{◌≡◌, ℕ, ℤ, ◌≤ℤ◌, List, [], ◌∷◌, All, Contains, Option, Some, None, length, map}
use Rattle.std.specs.List.{flat_map}
use Rattle.board_base.specs.declared.part.Part.TheVariants.{Generator}
use Rattle.board_base.specs.declared.record.Record.{Record}
use Rattle.board_base.specs.declared.record.Record.TheVariants.{Stroke}
use Rattle.board_base.specs.Records.{Makes}
use Rattle.frame_list.specs.declared.frame.Bounds.{Bounds}
use Rattle.frame_list.specs.declared.frame.Point.{Point}
use Rattle.frame_list.specs.Events.{stroke_of}
use Rattle.frame_list.specs.Frames.{FrameValue, started, under_way}

-- both ends of a stroke
abbrev pub ends_of : Record → List Point
ends_of (Stroke clock x0 y0 x1 y1 colour intensity) = record { x = x0; y = y0 } ∷ record { x = x1; y = y1 } ∷ []
ends_of _ = []

-- one of some numbers, below which none of them is, and one above which none is
abbrev pub IsLeast : ℤ → List ℤ → Type 0
IsLeast n xs = All (λ x. n ≤ℤ x) xs × Contains xs n

abbrev pub IsGreatest : ℤ → List ℤ → Type 0
IsGreatest n xs = All (λ x. x ≤ℤ n) xs × Contains xs n

-- the least and the greatest x and y of some ends
pub record AreBounds (bounds : Bounds) (ends : List Point) : Type 0 where
  pub least_x : IsLeast bounds.least.x (map (λ end. end.x) ends)
  pub least_y : IsLeast bounds.least.y (map (λ end. end.y) ends)
  pub greatest_x : IsGreatest bounds.greatest.x (map (λ end. end.x) ends)
  pub greatest_y : IsGreatest bounds.greatest.y (map (λ end. end.y) ends)

-- bounds where there are ends, and none where there is no end
abbrev pub HasBounds : Option Bounds → List Point → Type 0
HasBounds None ends = ends ≡ []
HasBounds (Some bounds) ends = AreBounds bounds ends

-- a frame that counts some strokes has their number, and bounds over all their ends
pub record CountsStrokes (frame : FrameValue) (strokes : List Record) : Type 0 where
  pub count : frame.strokes ≡ length strokes
  pub bounds : HasBounds frame.bounds (flat_map ends_of strokes)

abbrev pub FramesCountStrokes : ℕ → ℕ → List Record → Type 0
FramesCountStrokes number mark strokes =
    All (Makes Generator) strokes → CountsStrokes (under_way (started number mark) (map stroke_of strokes)) strokes
