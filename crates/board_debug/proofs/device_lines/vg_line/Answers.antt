use Rattle.std.proofs.Common.{◌++◌, ◌∷◌, decimal, ap, ◌∙◌}
use Rattle.board_debug.specs.BoardText.{vg_text}
use Rattle.board_debug.proofs.TextLaws.{first-said, line-said, said}
use Rattle.board_debug.proofs.device_lines.vg_line.Goals as goal

pub returns : goal.returns
unfolding vg_text
returns c =
    let w0 = first-said _ _ c.of.ensures.text in
    let w2 = said _ _ _ (c.small.ensures.text ∙ ap (λ n. c.word.result ++ 32 ∷ decimal n) c.into.ensures) (said _ _ _ c.word.ensures.text w0) in
    let w6 = said _ _ _ c.hex_word.ensures.text (said _ _ _ c.word-3.ensures.text (said _ _ _ c.small-2.ensures.text (said _ _ _ c.word-2.ensures.text w2))) in
    let w10 = said _ _ _ c.small-4.ensures.text (said _ _ _ c.word-5.ensures.text (said _ _ _ c.small-3.ensures.text (said _ _ _ c.word-4.ensures.text w6))) in
    let w14 = said _ _ _ c.small-6.ensures.text (said _ _ _ c.word-7.ensures.text (said _ _ _ c.small-5.ensures.text (said _ _ _ c.word-6.ensures.text w10))) in
    let w16 = said _ _ _ c.small-7.ensures.text (said _ _ _ c.word-8.ensures.text w14) in
    rw (← c.vg.view_is) (line-said _ _ _ _ c.end.ensures w16)
