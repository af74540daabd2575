use Rattle.std.proofs.Common.{◌≡◌, None, List, ℕ, [], ◌∷◌, ◌++◌, ◌∙◌, ℤ, ap, map, w32, to_z, of_z, arith}
use Rattle.std.proofs.Math.Facts.{to_z-of_z}
use Rattle.asm_core.specs.Expressions.{value_of_name}
use Rattle.asm_core.proofs.FindingNames.{names-pushed, values-after}
use Rattle.asm_core.proofs.names.Names.define.Goals as goal

pub invariant_of-self-2 : goal.invariant_of-self-2
invariant_of-self-2 c =
    let names : List (List ℕ × ℤ) = map (λ entry. (entry.0.now, entry.1)) c.self.inside.entries.items in
    let same : to_z w32 (of_z w32 c.args.value) ≡ c.args.value = to_z-of_z {w = w32} {z = c.args.value} (omega (arith, c.ranges.value.sfits)) in
    let absent : value_of_name names c.args.name.now ≡ None = ap (λ names. value_of_name names c.args.name.now) c.self.view_is ∙ c.requires in
    let items : c.push.new.self.items ≡ c.self.inside.entries.items ++ (c.args.name, c.args.value) ∷ [] =
    c.in_ok-push.ensures.items ∙ ap (λ items. items ++ (c.args.name, to_z w32 (of_z w32 c.args.value)) ∷ []) c.reserve.ensures.items
    ∙ ap (λ value. c.self.inside.entries.items ++ (c.args.name, value) ∷ []) same in
    rw (names-pushed c.self.inside.entries.items c.push.new.self.items (c.args.name, c.args.value) items)
    (values-after c.self.inside.maps.items c.make_maps.new.maps.items c.insert.new.maps.items names c.args.name.now c.args.value c.self.invariant absent
    c.make_maps.ensures.values c.insert.ensures.count (rw same at c.in_ok-insert.ensures.ok))
