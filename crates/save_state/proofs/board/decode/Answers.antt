use Rattle.std.proofs.Common.{rules, List, ℕ, ◌∷◌, [], All, ap, arith, take, drop, length, ◌+◌, ◌-◌}
use Rattle.std.proofs.lemmas.List.Elements.{All-take, All-drop, All-from_recursion, recursion_from_All}
use Rattle.save_state.specs.Fields.{rows_of, rows_at}
use Rattle.save_state.specs.Reading.{Holds}
use Rattle.save_state.specs.StateBytes.{table, front_rows, divider_rows, back_rows, pokey_rows, vg_rows, earom_rows}
use Rattle.save_state.proofs.Tables.{Rows, no_row, sections_of, count_of, clock_told}
use Rattle.save_state.proofs.board.decode.Goals as goal

-- rows after the place
part : (version : ℕ) (file : List ℕ) (from n : ℕ) → All (Holds version file) (table version) → All (Holds version file) (take n (drop from back_rows))
part version file from n h = All-take (Holds version file) n (drop from back_rows) (All-drop (Holds version file) from back_rows (sections_of version file h).2)

pub decode_processor-requires-clause-front : goal.decode_processor-requires-clause-front
decode_processor-requires-clause-front c = (c.requires.0, (sections_of c.requires.0 c.args.file.now c.requires.1).0)

pub decode_processor-requires-clause-count : goal.decode_processor-requires-clause-count
decode_processor-requires-clause-count c = count_of c.requires.0 c.args.file.now c.requires.1

pub decode_divider-requires : goal.decode_divider-requires
decode_divider-requires c =
    (c.requires.0, All-drop (Holds c.requires.0 c.args.file.now) (length (front_rows 1) - length divider_rows) (front_rows c.requires.0) (sections_of c.requires.0 c.args.file.now c.requires.1).0)

pub decode_vg-requires : goal.decode_vg-requires
decode_vg-requires c = (c.requires.0, part c.requires.0 c.args.file.now 6 (length vg_rows) c.requires.1)

pub decode_pokey-requires-clause-range : goal.decode_pokey-requires-clause-range
decode_pokey-requires-clause-range c = (c.requires.0, part c.requires.0 c.args.file.now (6 + length vg_rows) (length pokey_rows) c.requires.1)

-- ranges go by no value
pub decode_pokey-requires-2-clause-range : goal.decode_pokey-requires-2-clause-range
decode_pokey-requires-2-clause-range c =
    let P = Holds c.requires.0 c.args.file.now in
    let second : Rows = rows_at 137 (rows_of (λ b. b.sound2) pokey_rows) in (
      c.requires.0,
      All-from_recursion P (rows_at 137 (rows_of (λ b. b.sound1) pokey_rows))
          (recursion_from_All P second (part c.requires.0 c.args.file.now (6 + length vg_rows + length pokey_rows) (length pokey_rows) c.requires.1)),
    )

pub decode_earom-requires : goal.decode_earom-requires
decode_earom-requires c = (c.requires.0, part c.requires.0 c.args.file.now (6 + length vg_rows + length pokey_rows + length pokey_rows) (length earom_rows) c.requires.1)

pub invariant_of-result : goal.invariant_of-result
invariant_of-result c =
    let clock = clock_told c.requires.0 c.args.file.now c.u64_at.result c.decode_processor.result.mid c.requires.1 c.u64_at.ensures.number c.decode_processor.ensures.outside in
    record {
      clock = clock.0;
      middle = clock.1;
      in0 = omega (arith, c.byte_at-2.ensures.number, (sections_of c.requires.0 c.args.file.now c.requires.1).0 12 no_row (omega arith));
      ram = search rules;
      vram = search rules;
    }

pub returns-clause-decoded : goal.returns-clause-decoded
returns-clause-decoded c = record {
  clock = ap (λ (x : List ℕ). x ∷ []) c.u64_at.ensures.bytes;
  registers = c.decode_processor.ensures.pieces;
  jam = c.decode_processor.ensures.jam;
  ports = cc;
  divider = c.decode_divider.ensures;
  outside = c.decode_processor.ensures.outside;
  inside = c.decode_processor.ensures.inside;
  vg = c.decode_vg.ensures;
  sound1 = c.decode_pokey.ensures;
  sound2 = c.decode_pokey-2.ensures;
  earom = c.decode_earom.ensures;
  memory = λ i. c.array_at.ensures i ∷ c.array_at-2.ensures i ∷ [];
}
