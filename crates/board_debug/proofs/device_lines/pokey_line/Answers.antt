use Rattle.std.proofs.Common.{◌++◌, ◌∷◌, ap, sym, ◌∙◌}
use Rattle.board_base.specs.Pokey.{PokeyValue}
use Rattle.pokey_chip.specs.declared.registers.TheConstants.{RANDOM}
use Rattle.pokey_chip.specs.Registers.{register_read}
use Rattle.text_line.specs.Words.{hex_byte}
use Rattle.board_debug.specs.BoardText.{pokey_text}
use Rattle.board_debug.proofs.TextLaws.{first-said, line-said, said}
use Rattle.board_debug.proofs.device_lines.pokey_line.Goals as goal

pub returns : goal.returns
unfolding pokey_text
returns c =
    let w0 = first-said _ _ c.of.ensures.text in
    let w4 = said _ _ _ c.hex_byte-3.ensures.text (said _ _ _ c.hex_byte-2.ensures.text (said _ _ _ c.hex_byte.ensures.text (said _ _ _ c.word.ensures.text w0))) in
    let w8 = said _ _ _ c.hex_byte-6.ensures.text (said _ _ _ c.hex_byte-5.ensures.text (said _ _ _ c.word-2.ensures.text (said _ _ _ c.hex_byte-4.ensures.text w4))) in
    let w12 = said _ _ _ c.hex_byte-9.ensures.text (said _ _ _ c.word-3.ensures.text (said _ _ _ c.hex_byte-8.ensures.text (said _ _ _ c.hex_byte-7.ensures.text w8))) in
    let w16 = said _ _ _ c.small.ensures.text (said _ _ _ c.word-5.ensures.text (said _ _ _ c.hex_byte-10.ensures.text (said _ _ _ c.word-4.ensures.text w12))) in
    let w19 = said _ _ _ c.word-7.ensures.text (said _ _ _ c.small-2.ensures.text (said _ _ _ c.word-6.ensures.text w16)) in
    let w20 = said _ _ _ (c.hex_byte-11.ensures.text ∙ ap (λ n. c.word-7.result ++ 32 ∷ hex_byte n)
    (c.random.ensures ∙ ap (λ (p : PokeyValue). register_read RANDOM p) (sym c.pokey.view_is))) w19 in
    rw (← c.pokey.view_is) (line-said _ _ _ _ c.end.ensures w20)
