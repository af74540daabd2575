use Rattle.std.proofs.Common.{◌≡◌, ◌++◌, ◌∙◌, sym, length, drop}
use Rattle.std.proofs.Math.Seq.{take-append_seam}
use Rattle.board_base.proofs.vector_memory.VectorMemory.load_ram.Goals as goal

-- the slice goes back whole, and it is the RAM with what stood after it
pub returns : goal.returns
returns c =
    let whole : c.self.inside.bytes.len ≡ length c.write_front.new.bytes = sym (c.write_front.auto.bytes ∙ c.deref_mut.ensures.len) in
    let written : c.write_front.new.bytes ≡ c.args.ram.now ++ drop 2048 c.args.self.now = cc in
    rw whole (take-append_seam _ _ ∙ written)
