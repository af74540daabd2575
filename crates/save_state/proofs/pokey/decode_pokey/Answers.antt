use Rattle.std.proofs.Common.{rules, ℕ, arith, drop}
use Rattle.std.proofs.lemmas.List.Elements.{All-drop, recursion_from_All}
use Rattle.save_state.specs.Fields.{rows_of, rows_at}
use Rattle.save_state.specs.Reading.{Holds}
use Rattle.save_state.specs.StateBytes.{pokey_rows}
use Rattle.save_state.proofs.Tables.{Rows, all_four}
use Rattle.save_state.proofs.pokey.decode_pokey.Goals as goal

pub invariant_of-result : goal.invariant_of-result
invariant_of-result c =
    let P = Holds c.requires.range.0 c.args.file.now in
    let rows : Rows = rows_at c.args.at (rows_of (λ b. b.sound1) pokey_rows) in
    let fields = λ (n : ℕ). recursion_from_All P (drop n rows) (All-drop P n rows c.requires.range.1) in
    record {
      audf = search rules;
      audc = search rules;
      irqen = omega (arith, fields 0);
      irqst = omega (arith, fields 0);
      poly4 = omega (arith, fields 0);
      poly5 = omega (arith, fields 0);
      poly9 = omega (arith, fields 6);
      poly17 = omega (arith, fields 6);
      pre28 = omega (arith, fields 6);
      pre114 = omega (arith, fields 6);
      left = search rules;
      pulses = search (arith, all_four, fields 12);
      tone = omega (arith, fields 12);
      pass = omega (arith, fields 12);
      pot = omega (arith, fields 12);
      targets = search rules;
      last = search rules;
      levels = search (arith, all_four, fields 18);
    }
