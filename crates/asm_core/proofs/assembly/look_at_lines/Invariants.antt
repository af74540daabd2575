use Rattle.std.proofs.Common.{◌≡◌, ◌+◌, ◌≤◌, length}
use Rattle.asm_text.specs.Lines.{lines_with_ends}
use Rattle.asm_core.specs.PassOne.{IsPassOne, known_of}
use Rattle.asm_core.specs.Images.{at_the_start}
use Rattle.asm_core.specs.Passes.{pass_one}
use Rattle.asm_core.proofs.assembly.look_at_lines.Given as goal

abbrev pub invariant-lines : goal.invariant-lines
invariant-lines g l = record {
  known : pass_one g.D.Dialect.language l.rom l.number (known_of l.pass) (lines_with_ends l.rest) ≡ pass_one g.D.Dialect.language l.rom 1 at_the_start (lines_with_ends l.text);
  pass : IsPassOne l.rom l.pass;
  number : l.number + length l.rest ≤ 1 + length l.text;
}

abbrev pub decreases-lines : goal.decreases-lines
decreases-lines g l = length l.rest
