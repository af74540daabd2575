-- Where a debugger's session stops. This project's own choice.
use Rattle.std.specs.Prelude.{◌≡◌, ℕ, Bool, true, false, ◌&&◌, List, [], ◌∷◌, ◌++◌, length, nat_le}
use Rattle.debug_script.specs.declared.command.Command.{Command}
use Rattle.debug_script.specs.declared.command.Command.TheVariants.{Break, Watch, StopVg, Clear}
use Rattle.debug_script.specs.declared.stops.TheConstants.{STOPS}

-- the addresses to stop at and the bytes to watch, each in the order in which they were given, and
-- whether to stop where the vector generator halts
pub record StopsValue : Type 0 where
  pub breaks : List ℕ
  pub watches : List ℕ
  pub vg : Bool

-- before the first command nothing stops
abbrev pub no_stops : StopsValue
no_stops = record { breaks = []; watches = []; vg = false }

-- the stops that a command leaves
abbrev pub stops_after : Command → StopsValue → StopsValue
stops_after (Break address) stops = record stops { breaks = stops.breaks ++ address ∷ [] }
stops_after (Watch address) stops = record stops { watches = stops.watches ++ address ∷ [] }
stops_after StopVg stops = record stops { vg = true }
stops_after Clear stops = no_stops
stops_after _ stops = stops

-- no more of a kind than may stand at one time
abbrev pub are_few : StopsValue → Bool
are_few stops = nat_le (length stops.breaks) STOPS && nat_le (length stops.watches) STOPS

-- each command of a script leaves so few
abbrev pub Fit : StopsValue → List Command → Type 0
Fit stops [] = Unit {0}
Fit stops (command ∷ commands) = (are_few (stops_after command stops) ≡ true) × Fit (stops_after command stops) commands
