use Rattle.std.proofs.Common.{◌≡◌, ◌&&◌, eqb, not, true, get_or, sym, ◌∙◌}
use Rattle.asm_text.specs.Pieces.{takes_word}
use Rattle.asm_core.specs.Words.{words_in}
use Rattle.asm_core.proofs.WordPieces.{words-behind}
use Rattle.asm_core.proofs.line_words.after_mark.Goals as goal

pub returns-in-len1-up : goal.returns-in-len1-up
returns-in-len1-up c =
    let code = c.after_blanks.result.now in
    let is : (eqb (get_or code 0 0) c.args.mark && not (takes_word (get_or code 0 0))) ≡ true = sym c.is_mark_byte.ensures ∙ c.if-is_mark_byte.true in
    let whole : words_in code ≡ c.args.words.now = cc in
    words-behind c.args.mark code c.args.words.now c.new.result c.in-len1-up.len_at_least c.after_blanks.ensures.front is whole c.new.ensures
