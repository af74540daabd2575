use Rattle.std.proofs.Common.{rules, tests, ◌∙◌}
use Rattle.std.specs.Str.{str_eq_ignore_ascii_case}
use Rattle.std.proofs.lemmas.Iterator.{YieldsList-from_slice}
use Rattle.std.proofs.lemmas.Iterator.Search.{find_from_yields_List}
use Rattle.asm_cpu.specs.Mnemonics.{name_of, operations, op_of}
use Rattle.asm_cpu.proofs.mnemonics.read_op.Goals as goal

pub returns : goal.returns
unfolding op_of
returns c =
    c.copied.ensures
    ∙ find_from_yields_List (λ op. str_eq_ignore_ascii_case c.args.word.now (name_of op)) _ _ c.find.result c.find.ensures.ran (YieldsList-from_slice operations cc) (λ x b q k. search (rules, tests))
