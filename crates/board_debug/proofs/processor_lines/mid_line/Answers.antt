use Rattle.std.proofs.Common.{◌++◌, ◌∷◌, take, map, arith, ap, ◌∙◌}
use Rattle.std.specs.Prelude.{codes}
use Rattle.std.proofs.lemmas.List.{length-take-le}
use Rattle.text_line.specs.Words.{hex_byte, line}
use Rattle.board_debug.specs.BoardText.{mid_text, sequence_name}
use Rattle.board_debug.proofs.TextLaws.{spaced, spaced-line, spaced-more, spaced-none}
use Rattle.board_debug.proofs.processor_lines.mid_line.Goals as goal

pub loop-byte-init : goal.loop-byte-init
loop-byte-init c = record { text = spaced-none (take c.from.result c.mid.inside.bytes) c.word-line.result; len = omega arith }

pub hex_byte-line-requires : goal.hex_byte-line-requires
hex_byte-line-requires c =
    let i = c.loop-byte.invariant.len in
    let before = c.loop-byte-test.true in
    let short = c.word-line.ensures.len in
    let first = c.of.ensures.len in
    let name = c.name_of.ensures.len in
    let count = c.mid.invariant.count in
    let from = c.from.ensures in
    let taken = length-take-le c.from.result c.mid.inside.bytes (let six = c.mid.invariant.bytes in omega arith) in
    omega arith

pub loop-byte-preserved : goal.loop-byte-preserved
loop-byte-preserved c = record {
  text = spaced-more _ c.loop-byte.byte-index _ _ c.loop-byte.line _ c.loop-byte-test.true c.loop-byte.invariant.text c.hex_byte-line.ensures.text;
  len = (let i = c.loop-byte.invariant.len in let more = c.hex_byte-line.ensures.len in omega arith);
}

pub returns : goal.returns
unfolding mid_text
returns c =
    let bytes = take c.from.result c.mid.inside.bytes in
    c.end.ensures
    ∙ spaced-line c.of.result c.name_of.result.now bytes c.loop-byte.byte-index c.loop-byte.line c.loop-byte.auto.byte-index-end c.loop-byte-test.false
    (c.loop-byte.invariant.text ∙ ap (λ l. l ++ spaced (take c.loop-byte.byte-index bytes)) c.word-line.ensures.text)
    ∙ ap (λ first. line (first ∷ c.name_of.result.now ∷ map hex_byte bytes)) c.of.ensures.text
    ∙ ap (λ name. line (codes "mid" ∷ name ∷ map hex_byte bytes)) c.name_of.ensures.name
    ∙ ap (λ n. line (codes "mid" ∷ sequence_name c.mid.inside.sequence ∷ map hex_byte (take n c.mid.inside.bytes))) c.from.ensures
    ∙ ap mid_text c.mid.view_is
