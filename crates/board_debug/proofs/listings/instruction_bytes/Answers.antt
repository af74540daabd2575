use Rattle.std.proofs.Common.{◌++◌, ◌∷◌, [], ◌-◌, ◌+◌, ℕ, List, ap, sym, ◌∙◌, append_assoc, append-nil, arith}
use Rattle.board_debug.specs.Bytes.{further}
use Rattle.board_debug.specs.Instructions.{readable}
use Rattle.board_debug.specs.Session.{seen_in}
use Rattle.board_debug.proofs.ListingLaws.{readable-last, readable-more, readable-none}
use Rattle.board_debug.proofs.listings.instruction_bytes.Goals as goal

pub returns-in-None : goal.returns-in-None
returns-in-None g c =
    sym (
    c.loop-i.invariant.items
    ∙ ap (λ (l : List ℕ). c.loop-i.bytes.items ++ l)
    (readable-none (seen_in (g.M.Machine.value c.args.machine.now).board) c.args.address c.loop-i.i c.loop-i-test.true (sym c.byte_at.ensures ∙ c.in-None.is))
    ∙ append-nil c.loop-i.bytes.items
    )

pub loop-i-preserved : goal.loop-i-preserved
loop-i-preserved g c =
    let rest = readable (seen_in (g.M.Machine.value c.args.machine.now).board) (further c.args.address (c.loop-i.i + 1)) (3 - (c.loop-i.i + 1)) in
    record {
      items = c.loop-i.invariant.items
          ∙ ap (λ (l : List ℕ). c.loop-i.bytes.items ++ l)
          (readable-more (seen_in (g.M.Machine.value c.args.machine.now).board) c.args.address c.loop-i.i c.in-Some.byte c.loop-i-test.true (sym c.byte_at.ensures ∙ c.in-Some.is))
          ∙ sym (append_assoc c.loop-i.bytes.items (c.in-Some.byte ∷ []) rest)
          ∙ ap (λ (l : List ℕ). l ++ rest) (sym c.push.ensures.items);
      len = (let before = c.loop-i.invariant.len in let more = c.push.ensures.len in omega arith);
    }

pub returns : goal.returns
returns g c =
    sym (
    c.loop-i.invariant.items
    ∙ ap (λ (l : List ℕ). c.loop-i.bytes.items ++ l)
    (readable-last (seen_in (g.M.Machine.value c.args.machine.now).board) c.args.address c.loop-i.i c.loop-i-test.false)
    ∙ append-nil c.loop-i.bytes.items
    )
