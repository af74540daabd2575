use Rattle.std.proofs.Common.{◌≡◌, drop, map, take}
use Rattle.asm_core.specs.Images.{listed, pass_two}
use Rattle.asm_core.proofs.pass_two.write_lines.Given as goal

abbrev pub invariant-lines : goal.invariant-lines
invariant-lines l = record {
  image : pass_two l.names l.image (drop l.placed-index l.lines) ≡ pass_two l.names l.fn.image l.lines;
  listing : l.listing ≡ map (λ placed. listed placed) (take l.placed-index l.lines);
}
