-- The bounds of strokes. They are this project's own.
use Rattle.std.specs.Prelude.{Option, Some, None}
use Rattle.std.specs.Int.{int_min, int_max}
use Rattle.frame_list.specs.declared.frame.Bounds.{Bounds}
use Rattle.frame_list.specs.declared.frame.Point.{Point}

-- the least x and the least y of two places
abbrev pub least_of : Point → Point → Point
least_of a b = record { x = int_min a.x b.x; y = int_min a.y b.y }

-- the greatest x and the greatest y of two places
abbrev pub greatest_of : Point → Point → Point
greatest_of a b = record { x = int_max a.x b.x; y = int_max a.y b.y }

-- the bounds of one stroke, over both of its ends
abbrev pub of_ends : Point → Point → Bounds
of_ends from to = record { least = least_of from to; greatest = greatest_of from to }

-- the bounds of two groups of strokes together
abbrev pub joined : Bounds → Bounds → Bounds
joined a b = record { least = least_of a.least b.least; greatest = greatest_of a.greatest b.greatest }

-- the bounds with those of one stroke more
abbrev pub widened : Option Bounds → Bounds → Option Bounds
widened None ends = Some ends
widened (Some bounds) ends = Some (joined bounds ends)
