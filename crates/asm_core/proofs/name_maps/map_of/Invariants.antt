use Rattle.std.proofs.Common.{◌≡◌, ◌<◌, take}
use Rattle.asm_core.specs.NameMaps.{map_of}
use Rattle.asm_core.specs.declared.name_maps.TheConstants.{MAPS}
use Rattle.asm_core.proofs.name_maps.map_of.Given as goal

abbrev pub invariant-loop-byte : goal.invariant-loop-byte
invariant-loop-byte l = record {
  sum : l.sum ≡ map_of (take l.byte-index l.name);
  small : l.sum < MAPS;
}
