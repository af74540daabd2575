use Rattle.std.proofs.Common.{◌≡◌, ◌+◌, ◌*◌, ◌≤◌, sum_by, take}
use Rattle.asm_core.specs.Cells.{field_number}
use Rattle.asm_core.proofs.pass_two.cell_number.Given as goal

abbrev pub invariant-loop-field : goal.invariant-loop-field
invariant-loop-field l = record {
  number : l.number ≡ l.cell.base + sum_by (λ field. field_number l.names field) (take l.field-index l.fields);
  small : l.number ≤ l.cell.base + l.field-index * 4294967296;
}
