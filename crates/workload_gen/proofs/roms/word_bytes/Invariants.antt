use Rattle.std.proofs.Common.{◌≡◌, take}
use Rattle.std.specs.List.{flat_map}
use Rattle.workload_gen.specs.Roms.{bytes_of}
use Rattle.workload_gen.proofs.roms.word_bytes.Given as goal

abbrev pub invariant-words : goal.invariant-words
invariant-words l = l.bytes.items ≡ flat_map bytes_of (take l.word-index l.words)
