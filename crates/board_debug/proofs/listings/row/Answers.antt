use Rattle.std.proofs.Common.{◌++◌, ◌∷◌, [], ℕ, List, Option, ap, sym, ◌∙◌, arith}
use Rattle.std.proofs.lemmas.List.FromFn.{map-range_with_len_more}
use Rattle.board_debug.specs.Bytes.{bytes_from, further}
use Rattle.board_debug.specs.Session.{seen_in}
use Rattle.board_debug.proofs.listings.row.Goals as goal

pub loop-i-preserved : goal.loop-i-preserved
loop-i-preserved g c =
    let seen = seen_in (g.M.Machine.value c.args.machine.now).board in
    record {
      items = c.push.ensures.items
          ∙ ap (λ (l : List (Option ℕ)). l ++ c.byte_at.result ∷ []) c.loop-i.invariant.items
          ∙ ap (λ (b : Option ℕ). bytes_from seen c.args.address c.loop-i.i ++ b ∷ []) c.byte_at.ensures
          ∙ sym (map-range_with_len_more (λ i. seen (further c.args.address i)) 0 c.loop-i.i c.loop-i.i (omega arith));
      len = (let before = c.loop-i.invariant.len in let more = c.push.ensures.len in omega arith);
    }
