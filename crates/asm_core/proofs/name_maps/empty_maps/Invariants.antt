use Rattle.std.proofs.Common.{◌≡◌, [], length}
use Rattle.std.specs.List.{All}
use Rattle.asm_core.proofs.name_maps.empty_maps.Given as goal

abbrev pub invariant-loop : goal.invariant-loop
invariant-loop l = record {
  count : length l.maps.items ≡ l.counter;
  empty : All (λ map. map.entries ≡ []) l.maps.items;
}
