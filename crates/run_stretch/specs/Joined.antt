-- A stretch after another. This project's own.
use Rattle.std.specs.Prelude.{◌≡◌, ◌≤◌, ◌+◌, ◌++◌, length}
use Rattle.run_windows.specs.declared.until.Until.{Until}
use Rattle.run_windows.specs.declared.until.Until.TheVariants.{Boundary, Clock}
use Rattle.run_windows.specs.Windows.{clock_in}
use Rattle.run_stretch.specs.declared.ended.Stretch.{Stretch}

-- a run to the one end may be done on the way to the other: to a clock on any way that goes as far,
-- to a boundary on one to a boundary
abbrev pub IsOnTheWay : Until → Until → Type 0
IsOnTheWay (Clock c) until = c ≤ clock_in until
IsOnTheWay (Boundary c) (Boundary d) = c ≤ d
IsOnTheWay (Boundary c) (Clock d) = ⊥

-- there was room for all that a stretch returns
abbrev pub HasAll : Stretch → Type 0
HasAll s = length s.output.items ≡ s.wanted

-- two stretches, the second from the board of the first on, return and come to what the whole does
pub record AreOne (first second whole : Stretch) : Type 0 where
  pub output : HasAll first → HasAll second → HasAll whole → whole.output.items ≡ first.output.items ++ second.output.items
  pub wanted : whole.wanted ≡ first.wanted + second.wanted
  pub board : whole.board ≡ second.board
  pub clock : whole.clock ≡ second.clock
  pub jammed : whole.jammed ≡ second.jammed
