-- Which operations use the bus alike (MCS6500 Hardware Manual, appendix A).
use Rattle.cpu_table.specs.declared.instruction.Op.{Op}
use Rattle.cpu_table.specs.declared.instruction.Op.TheVariants.{Adc, And, Asl, Bcc, Bcs, Beq, Bit, Bmi, Bne, Bpl, Brk, Bvc, Bvs, Clc, Cld}
use Rattle.cpu_table.specs.declared.instruction.Op.TheVariants.{Cli, Clv, Cmp, Cpx, Cpy, Dec, Dex, Dey, Eor, Inc, Inx, Iny, Jmp, Jsr}
use Rattle.cpu_table.specs.declared.instruction.Op.TheVariants.{Lda, Ldx, Ldy, Lsr, Nop, Ora, Pha, Php, Pla, Plp, Rol, Ror, Rti, Rts, Sbc, Sec, Sed, Sei, Sta, Stx, Sty, Tax, Tay, Tsx, Txa, Txs, Tya}
use Rattle.cpu_core.specs.declared.operations.Kind.{Kind}
use Rattle.cpu_core.specs.declared.operations.Kind.TheVariants.{Load, Store, ReadModifyWrite, Implied, Branch, Jump, Call, Return, ReturnFromInterrupt, Push, Pull, Break}

-- the pattern of accesses that an operation follows
unfoldable pub kind_of : Op → Kind
kind_of Adc = Load
kind_of And = Load
kind_of Bit = Load
kind_of Cmp = Load
kind_of Cpx = Load
kind_of Cpy = Load
kind_of Eor = Load
kind_of Lda = Load
kind_of Ldx = Load
kind_of Ldy = Load
kind_of Ora = Load
kind_of Sbc = Load
kind_of Sta = Store
kind_of Stx = Store
kind_of Sty = Store
kind_of Asl = ReadModifyWrite
kind_of Dec = ReadModifyWrite
kind_of Inc = ReadModifyWrite
kind_of Lsr = ReadModifyWrite
kind_of Rol = ReadModifyWrite
kind_of Ror = ReadModifyWrite
kind_of Bcc = Branch
kind_of Bcs = Branch
kind_of Beq = Branch
kind_of Bmi = Branch
kind_of Bne = Branch
kind_of Bpl = Branch
kind_of Bvc = Branch
kind_of Bvs = Branch
kind_of Jmp = Jump
kind_of Jsr = Call
kind_of Rts = Return
kind_of Rti = ReturnFromInterrupt
kind_of Pha = Push
kind_of Php = Push
kind_of Pla = Pull
kind_of Plp = Pull
kind_of Brk = Break
kind_of Clc = Implied
kind_of Cld = Implied
kind_of Cli = Implied
kind_of Clv = Implied
kind_of Dex = Implied
kind_of Dey = Implied
kind_of Inx = Implied
kind_of Iny = Implied
kind_of Nop = Implied
kind_of Sec = Implied
kind_of Sed = Implied
kind_of Sei = Implied
kind_of Tax = Implied
kind_of Tay = Implied
kind_of Tsx = Implied
kind_of Txa = Implied
kind_of Txs = Implied
kind_of Tya = Implied
