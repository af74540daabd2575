use Rattle.std.proofs.Common.{◌≡◌, ℕ, [], ◌∷◌, ap, ◌∙◌, arith}
use Rattle.board_base.specs.Divider.{reset_number}
use Rattle.save_state.proofs.Tables.{no_row, flag_told}
use Rattle.save_state.proofs.divider.decode_divider.Goals as goal
use Rattle.save_state.proofs.divider.decode_divider.Goals.{in-0, in-1, in_default}

pub invariant_of-result : goal.invariant_of-result
invariant_of-result c = record {
  phase = omega (arith, c.u16_at.ensures.number, c.requires.1 0 no_row (omega arith));
  dog = omega (arith, c.byte_at-2.ensures.number, c.requires.1 2 no_row (omega arith));
}

pub returns : goal.returns
returns c =
    let pending : reset_number c.match-byte_at.result ≡ c.byte_at-3.result =
    elim c.match-byte_at.branch [
      | in-0 w ↦ rw w.result-is (omega (arith, w.in-0))
      | in-1 w ↦ rw w.result-is (omega (arith, w.in-1))
      | in_default w ↦ rw w.result-is (omega (arith, w.in_default, c.byte_at-3.ensures.number, c.requires.1 3 no_row (omega arith)))
    ] in
    let irq = flag_told c.byte_at.result _ c.byte_at.ensures.bytes (c.requires.1 1 no_row (omega arith)) in
    λ i. c.u16_at.ensures.bytes i ∷ irq i ∷ c.byte_at-2.ensures.bytes i ∷ (ap (λ (n : ℕ). n ∷ []) pending ∙ c.byte_at-3.ensures.bytes) i ∷ []
