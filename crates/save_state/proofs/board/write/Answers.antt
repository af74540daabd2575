use Rattle.std.proofs.Common.{◌≡◌, ℕ, List, length, take, ◌≤◌, sym, ap, subst, ◌∙◌, arith, take_all}
use Rattle.save_state.specs.StateBytes.{state_bytes}
use Rattle.save_state.specs.Reading.{HasFields}
use Rattle.save_state.proofs.OneBoard.{second_has, board_parts}
use Rattle.save_state.proofs.board.write.Goals as goal

whole : (n : ℕ) (out bytes : List ℕ) → length out ≤ n → take n out ≡ bytes → out ≡ bytes
whole n out bytes long e = sym (take_all n out long) ∙ e

pub returns-clause-bytes : goal.returns-clause-bytes
returns-clause-bytes c =
    let e : take c.put.result c.put.new.out ≡ state_bytes c.state.inside =
    rw (c.put.ensures.bytes, c.put-at-3.ensures.bytes, c.put_earom-at.ensures.bytes, c.put_pokey-at-2.ensures.bytes, c.put_pokey-at.ensures.bytes)
    (rw (c.put_vg-at.ensures.bytes, c.put-at-2.ensures.bytes, c.put_place-at.ensures.bytes, c.put_divider-at.ensures.bytes, c.put-at.ensures.bytes, c.put_processor-at.ensures.bytes)
    (board_parts c.state.inside)) in
    whole c.put.result c.put.new.out _ (omega arith) (e ∙ ap state_bytes c.state.view_is)

pub returns-clause-fields : goal.returns-clause-fields
returns-clause-fields c = subst (λ (out : List ℕ). HasFields 2 out c.args.state.now) (sym (returns-clause-bytes c)) (second_has c.args.state.now c.lemma_ranges.ensures)
