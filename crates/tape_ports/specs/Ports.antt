-- The ports that a tape sets, and their names. This project's own choice.
use Rattle.std.specs.Prelude.{ℕ, ◌+◌, ◌<◌, List, [], ◌∷◌, ◌++◌, map, Option, bytes_eq, codes, find}
use Rattle.std.specs.List.{range_with_len}
use Rattle.tape_ports.specs.declared.entry.Port.{Port}
use Rattle.tape_ports.specs.declared.entry.Port.TheVariants.{In0, In3, In4, Pot1, Pot2}

-- the ports in their order: three inputs, then the eight pots of each POKEY
abbrev pub ports : List Port
ports = In0 ∷ In3 ∷ In4 ∷ [] ++ map Pot1 (range_with_len 0 8) ++ map Pot2 (range_with_len 0 8)

-- a port's name on a tape: a pot is P or Q with its digit
abbrev pub name_of : Port → List ℕ
name_of In0 = codes "IN0"
name_of In3 = codes "IN3"
name_of In4 = codes "IN4"
name_of (Pot1 pot) = 80 ∷ (48 + pot) ∷ []
name_of (Pot2 pot) = 81 ∷ (48 + pot) ∷ []

-- the port of a name
abbrev pub port_of : List ℕ → Option Port
port_of name = find (λ port. bytes_eq (name_of port) name) ports

-- a POKEY has eight pots
abbrev pub IsPort : Port → Type 0
IsPort In0 = Unit {0}
IsPort In3 = Unit {0}
IsPort In4 = Unit {0}
IsPort (Pot1 pot) = pot < 8
IsPort (Pot2 pot) = pot < 8
