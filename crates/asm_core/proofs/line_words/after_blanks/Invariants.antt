use Rattle.std.proofs.Common.{◌≡◌, length}
use Rattle.asm_core.specs.Words.{words_in}
use Rattle.asm_core.proofs.line_words.after_blanks.Given as goal

abbrev pub invariant-blanks : goal.invariant-blanks
invariant-blanks l = words_in l.rest ≡ words_in l.code

abbrev pub decreases-blanks : goal.decreases-blanks
decreases-blanks l = length l.rest
