use Rattle.std.proofs.Common.{◌≡◌, ◌++◌, length, drop, map, min}
use Rattle.gravitar_commands.proofs.seeking.lowered.Given as goal

-- the clocks lowered so far and those that are left are all
abbrev pub invariant-loop-clock : goal.invariant-loop-clock
invariant-loop-clock l = record {
  all : map (min l.fn.limit) l.fn.clocks ≡ l.lowered.items ++ map (min l.fn.limit) (drop l.clock-index l.fn.clocks);
  len : length l.lowered.items ≡ l.clock-index;
}
