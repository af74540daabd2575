use Rattle.std.proofs.Common.{rules, ◌≡◌, ◌≤◌, ◌<◌, ◌^◌, ℕ, ℤ, List, w32, ◌∷◌, [], ap, sym, subst, ◌∙◌, arith}
use Rattle.std.specs.Int.{cast_signed, cast_unsigned, from_le_bytes}
use Rattle.board_base.specs.Ranges.{IsWithin}
use Rattle.save_state.specs.Fields.{i32_bytes}
use Rattle.save_state.proofs.Tables.{signed_back, no_row, all_four, left_told, flag_told}
use Rattle.save_state.proofs.vg.decode_vg.Goals as goal

-- a signed number of a file, in two's complement and back
signed_told : (n : ℕ) (z : ℤ) (piece : List ℕ) → n ≤ 2 ^ 30 → z ≡ cast_signed w32 (from_le_bytes w32 piece) → i32_bytes z ≡ piece
    → IsWithin n (cast_signed w32 (from_le_bytes w32 piece)) → IsWithin n (cast_signed w32 (cast_unsigned w32 z)) × (i32_bytes (cast_signed w32 (cast_unsigned w32 z)) ≡ piece)
signed_told n z piece small e f h =
    let within : IsWithin n z = subst (IsWithin n) (sym e) h in
    let back = signed_back n z small within in
    (subst (IsWithin n) (sym back) within, ap i32_bytes back ∙ f)

pub invariant_of-result : goal.invariant_of-result
invariant_of-result c =
    let left = left_told c.args.file.now c.byte_at-2.result c.u16_at-6.result c.byte_at-2.ensures.number c.u16_at-6.ensures.number (c.requires.1 18 no_row (omega arith)) in
    record {
      phase = omega (arith, c.byte_at-2.ensures.number, c.requires.1 1 no_row (omega arith));
      pc = omega (arith, c.u16_at.ensures.number, c.requires.1 2 no_row (omega arith));
      sp = omega (arith, c.byte_at-3.ensures.number, c.requires.1 3 no_row (omega arith));
      colour = omega (arith, c.byte_at-4.ensures.number, c.requires.1 4 no_row (omega arith));
      intensity = omega (arith, c.byte_at-5.ensures.number, c.requires.1 5 no_row (omega arith));
      bin = omega (arith, c.byte_at-7.ensures.number, c.requires.1 7 no_row (omega arith));
      pen = omega (arith, c.byte_at-8.ensures.number, c.requires.1 8 no_row (omega arith));
      bytes = search rules;
      stack = search rules;
      words =
          all_four (λ (to : ℕ). to < 8192) _ _ _ _ (omega (arith, c.u16_at-2.ensures.number, c.requires.1 10 no_row (omega arith)))
          (omega (arith, c.u16_at-3.ensures.number, c.requires.1 11 no_row (omega arith)))
          (omega (arith, c.u16_at-4.ensures.number, c.requires.1 12 no_row (omega arith))) (omega (arith, c.u16_at-5.ensures.number, c.requires.1 13 no_row (omega arith)));
      x = (signed_told (2 ^ 30) _ _ (omega arith) c.i32_at.ensures.number c.i32_at.ensures.bytes (c.requires.1 14 no_row (omega arith))).0;
      y = (signed_told (2 ^ 30) _ _ (omega arith) c.i32_at-2.ensures.number c.i32_at-2.ensures.bytes (c.requires.1 15 no_row (omega arith))).0;
      dx = (signed_told (2 ^ 27) _ _ (omega arith) c.i32_at-3.ensures.number c.i32_at-3.ensures.bytes (c.requires.1 16 no_row (omega arith))).0;
      dy = (signed_told (2 ^ 27) _ _ (omega arith) c.i32_at-4.ensures.number c.i32_at-4.ensures.bytes (c.requires.1 17 no_row (omega arith))).0;
      drawing = left.0;
      longest = left.1;
      resting = left.2;
    }

pub returns : goal.returns
returns c =
    let halted = flag_told c.byte_at.result _ c.byte_at.ensures.bytes (c.requires.1 0 no_row (omega arith)) in
    let x = signed_told (2 ^ 30) _ _ (omega arith) c.i32_at.ensures.number c.i32_at.ensures.bytes (c.requires.1 14 no_row (omega arith)) in
    let y = signed_told (2 ^ 30) _ _ (omega arith) c.i32_at-2.ensures.number c.i32_at-2.ensures.bytes (c.requires.1 15 no_row (omega arith)) in
    let dx = signed_told (2 ^ 27) _ _ (omega arith) c.i32_at-3.ensures.number c.i32_at-3.ensures.bytes (c.requires.1 16 no_row (omega arith)) in
    let dy = signed_told (2 ^ 27) _ _ (omega arith) c.i32_at-4.ensures.number c.i32_at-4.ensures.bytes (c.requires.1 17 no_row (omega arith)) in
    λ i. halted i ∷ c.byte_at-2.ensures.bytes i ∷ c.u16_at.ensures.bytes i ∷ c.byte_at-3.ensures.bytes i ∷ c.byte_at-4.ensures.bytes i ∷ c.byte_at-5.ensures.bytes i
    ∷ c.byte_at-6.ensures.bytes i ∷ c.byte_at-7.ensures.bytes i ∷ c.byte_at-8.ensures.bytes i ∷ c.array_at.ensures i ∷ c.u16_at-2.ensures.bytes i ∷ c.u16_at-3.ensures.bytes i
    ∷ c.u16_at-4.ensures.bytes i ∷ c.u16_at-5.ensures.bytes i ∷ x.1 i ∷ y.1 i ∷ dx.1 i ∷ dy.1 i ∷ c.u16_at-6.ensures.bytes i ∷ []
