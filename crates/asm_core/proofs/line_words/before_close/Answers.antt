use Rattle.std.proofs.Common.{◌≡◌, sym}
use Rattle.asm_core.specs.Words.{words_in}
use Rattle.asm_core.proofs.Items.{close-before}
use Rattle.asm_core.proofs.line_words.before_close.Goals as goal

pub returns-else-is_empty : goal.returns-else-is_empty
returns-else-is_empty c =
    let code = c.words.inside.code.now in
    let there = c.in_ok-end.ensures.some in
    let whole : c.args.words.now ≡ words_in code = cc in
    rw whole (sym (close-before code c.in_ok-end.end c.is_empty.result there.0 there.1 there.2 (rw c.new-behind.ensures at c.is_empty.ensures) c.if-is_empty.false))
