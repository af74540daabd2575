use Rattle.std.proofs.Common.{List, ℕ, ◌++◌, ap, take}
use Rattle.board_base.specs.declared.vector_memory.TheConstants.{VECTOR_RAM_LEN, VECTOR_ROM_LEN}
use Rattle.lockstep_board.specs.Lockstep.{Board}
use Rattle.lockstep_board.specs.Peripherals.{peripherals_of}
use Rattle.keyframes.proofs.AlongLaws.{rom-after}
use Rattle.keyframes.proofs.laws.engines_begin_at_their_board.Goals as goal

pub returns : goal.returns
returns c = record {
  new = λ image wired state is.
      ap (λ (rom : List ℕ). let b : Board = record { cpu = state.cpu; peripherals = record (peripherals_of image wired state) { memory = state.vram ++ rom } } in b)
      (rom-after VECTOR_RAM_LEN state.vram (take VECTOR_ROM_LEN image) is.vram);
}
