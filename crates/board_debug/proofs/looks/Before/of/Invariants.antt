use Rattle.std.proofs.Common.{◌≡◌, length, map, take}
use Rattle.board_debug.specs.Looks.{watched}
use Rattle.board_debug.proofs.looks.Before.of.Given as goal

abbrev pub invariant-watches : goal.invariant-watches
invariant-watches g l = record {
  bytes : l.bytes.items ≡ map (watched (g.M.Machine.value l.synced.machine.now).board) (take l.address-index l.stops.watches);
  len : length l.bytes.items ≡ l.address-index;
}
