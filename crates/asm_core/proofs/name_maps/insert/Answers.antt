use Rattle.std.proofs.Common.{◌<◌, length, sym, w32, arith}
use Rattle.std.proofs.Math.Facts.{to_z-of_z}
use Rattle.std.proofs.lemmas.Option.{slice_get_read}
use Rattle.asm_core.proofs.FindingNames.{value-after}
use Rattle.asm_core.specs.declared.name_maps.TheConstants.{MAPS}
use Rattle.asm_core.proofs.name_maps.insert.Goals as goal

pub returns-clause-ok : goal.returns-clause-ok
returns-clause-ok c = λ other.
    let maps = c.args.maps.now.items in
    let within : c.map_of.result < length maps = omega (arith, c.requires, c.map_of.ensures.within) in
    let found = slice_get_read maps MAPS c.map_of.result c.index_mut.result.now (sym c.requires) c.map_of.ensures.within c.index_mut.ensures.value in
    rw c.map_of.ensures.value
    (value-after maps c.args.name c.args.value c.index_mut.result.now c.insert.new.self other
    (rw c.map_of.ensures.value at within) (rw c.map_of.ensures.value at found) (rw (to_z-of_z {w = w32} {z = c.args.value} (omega (arith, c.ranges.value.sfits))) at c.in_ok-insert.ensures.updates))
