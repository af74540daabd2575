use Rattle.std.proofs.Common.{◌++◌, ◌∙◌, ap}
use Rattle.board_base.proofs.vector_memory.VectorMemory.new.Goals as goal

-- the RAM is 2,048 zeros, and the ROM follows it
pub returns : goal.returns
returns c =
    c.in_ok-extend_from_slice.ensures.items
    ∙ ap (λ ram. ram ++ c.args.rom.now) (c.in_ok-bytes.ensures.items_if_clones_equal (λ y e. e))
