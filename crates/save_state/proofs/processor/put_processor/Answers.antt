use Rattle.std.proofs.Common.{◌≡◌, ◌++◌, take, subst, append_assoc}
use Rattle.std.specs.List.{concat}
use Rattle.board_base.specs.Cpu.{CpuValue}
use Rattle.save_state.specs.Fields.{pieces_of}
use Rattle.save_state.specs.StateBytes.{head_rows, clock_rows, register_rows, jam_rows}
use Rattle.save_state.proofs.Tables.{opcode_is}
use Rattle.save_state.proofs.processor.put_processor.Goals as goal

pub returns-clause-bytes : goal.returns-clause-bytes
returns-clause-bytes c =
    subst (λ (v : CpuValue). take c.put.result c.put.new.out ≡ take c.args.at c.args.out.now
    ++ concat (pieces_of head_rows 2 ++ (pieces_of clock_rows c.args.clock ++ pieces_of register_rows v) ++ pieces_of jam_rows v.jam)) c.cpu.view_is
    (rw (c.put.ensures.bytes, c.put-at-4.ensures.bytes, c.put-at-3.ensures.bytes, c.to_le_bytes-2.ensures, c.put-at-2.ensures.bytes, c.to_le_bytes.ensures, c.put-at.ensures.bytes)
    (simp (append_assoc, c.from.ensures, c.is_some.ensures, c.unwrap_or.ensures, opcode_is c.cpu.inside.jam)))
