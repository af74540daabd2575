use Rattle.std.proofs.Common.{◌≡◌, [], ◌++◌, map, take, drop}
use Rattle.std.specs.Option.{option_map, option_map_or}
use Rattle.asm_core.specs.Words.{items_of}
use Rattle.asm_avg.specs.Operands.{fields_of, operands_of}
use Rattle.asm_avg.proofs.operands.read_fields.Given as goal

abbrev pub invariant-places : goal.invariant-places
invariant-places l = record {
  fields : option_map (λ more. l.fields ++ more) (fields_of l.origin (drop l.place-index l.places) (option_map_or (λ rest. items_of rest) l.list []))
      ≡ fields_of l.origin l.places (operands_of l.words);
  places : map (λ field. field.place) l.fields ≡ take l.place-index l.places;
}
