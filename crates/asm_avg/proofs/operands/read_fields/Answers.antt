use Rattle.std.proofs.Common.{◌+◌, ◌++◌, [], ◌∙◌, sym, ap, drop, arith}
use Rattle.std.proofs.lemmas.Grind.{common_steps}
use Rattle.std.specs.Option.{option_map, option_map_or}
use Rattle.asm_core.specs.Words.{items_of}
use Rattle.asm_core.proofs.Lists.{onto-over}
use Rattle.asm_avg.specs.Operands.{fields_of}
use Rattle.asm_avg.proofs.Fields.{fields-next}
use Rattle.asm_avg.proofs.operands.read_fields.Goals as goal

pub places-preserved : goal.places-preserved
places-preserved c =
    let rest = option_map_or (λ rest. items_of rest) c.split_item-item.result.1 [] in
    let after = fields_of c.args.origin (drop (c.places.place-index + 1) c.args.places.now) rest in
    let good = sym c.in-Some-2.is ∙ c.in_ok-expression.ensures in
    let next = fields-next c.args.origin c.args.places.now c.places.place-index _ c.split_item-item.result.0 rest c.in-Some-2.expression c.places-test.true good in
    record {
      fields =
          ap (λ all. option_map (λ more. all ++ more) after) c.in_ok-push.ensures.ok
          ∙ sym (onto-over c.places.fields _ after)
          ∙ ap (λ fields. option_map (λ more. c.places.fields ++ more) fields) (sym next)
          ∙ (rw (c.in-Some.is, c.split_item-item.ensures.items) at c.places.invariant.fields);
      places = rw c.in_ok-push.ensures.ok (grind (arith, common_steps, c.places.invariant.places));
    }
