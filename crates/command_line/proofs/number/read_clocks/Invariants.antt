use Rattle.std.proofs.Common.{◌≡◌, ◌≤◌, ◌==◌, ◌++◌, drop, length}
use Rattle.std.specs.List.{slice_split}
use Rattle.std.specs.Option.{option_map}
use Rattle.command_line.specs.declared.number.TheConstants.{CUTS}
use Rattle.command_line.specs.Numbers.{numbers_of}
use Rattle.command_line.proofs.number.read_clocks.Given as goal

-- the clocks so far and those of the parts that are left are all
abbrev pub invariant-loop-part : goal.invariant-loop-part
invariant-loop-part l = let parts = slice_split (λ byte. byte == 44) l.word in record {
  all : option_map (λ more. l.clocks.items ++ more) (numbers_of (drop (length l.yielded) parts)) ≡ numbers_of parts;
  fits : length l.clocks.items ≤ CUTS;
}
