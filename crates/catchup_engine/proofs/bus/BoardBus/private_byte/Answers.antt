use Rattle.std.proofs.Common.{◌-◌, ap, sym, ◌∙◌, slice_index}
use Rattle.catchup_engine.proofs.MapLaws.{private-ram, program-byte, ram-byte}
use Rattle.catchup_engine.proofs.bus.BoardBus.private_byte.Goals as goal

pub returns-then-addr-ge-PROGRAM_START : goal.returns-then-addr-ge-PROGRAM_START
returns-then-addr-ge-PROGRAM_START g c w ram program =
    c.program_at.ensures
    ∙ ap (λ l. slice_index l (c.args.addr - 36864)) (sym program)
    ∙ sym (program-byte c.args.addr w c.if-addr-ge-PROGRAM_START.true c.ranges.addr.fits)

pub returns-else-addr-ge-PROGRAM_START : goal.returns-else-addr-ge-PROGRAM_START
returns-else-addr-ge-PROGRAM_START g c w ram program =
    c.ram_byte.ensures
    ∙ ap (λ l. slice_index l c.args.addr) (sym ram)
    ∙ sym (ram-byte c.args.addr w (private-ram c.args.addr c.requires c.if-addr-ge-PROGRAM_START.false))
