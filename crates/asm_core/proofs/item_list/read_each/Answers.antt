use Rattle.std.proofs.Common.{◌++◌, ◌∷◌, [], ◌∙◌, sym, ap, arith}
use Rattle.std.specs.Option.{option_map, option_map_or}
use Rattle.std.proofs.lemmas.List.Elements.{All-push}
use Rattle.asm_core.specs.Cells.{IsCell}
use Rattle.asm_core.specs.Lists.{cells_of, value_cell}
use Rattle.asm_core.specs.Words.{items_of}
use Rattle.asm_core.proofs.Lists.{onto-over, steps}
use Rattle.asm_core.proofs.item_list.read_each.Goals as goal

pub items-preserved : goal.items-preserved
unfolding cells_of
items-preserved c =
    let rest = cells_of c.args.place c.args.size (option_map_or (λ rest. items_of rest) c.split_item-item.result.1 []) in
    record {
      list =
          ap (λ all. option_map (λ cells. all ++ cells) rest) (c.in_ok-push.ensures.ok ∙ ap (λ cell. c.items.cells ++ cell ∷ []) c.in_ok-cell.ensures.value)
          ∙ sym (onto-over c.items.cells (value_cell c.args.place c.args.size c.in-Some-2.expression) rest)
          ∙ (rw (c.in-Some.is, c.split_item-item.ensures.items, ← c.in_ok-expression.ensures, c.in-Some-2.is) at c.items.invariant.list);
      each = rw c.in_ok-push.ensures.ok (All-push IsCell c.items.cells c.in_ok-cell.cell c.items.invariant.each c.in_ok-cell.ensures.cell);
      some = grind (arith, steps);
    }
