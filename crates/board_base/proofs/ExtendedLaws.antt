-- Laws of trails that grow.
use Rattle.std.proofs.Common.{List, [], ◌++◌, arith, add-zero, append-nil, append_assoc, length-append, refl, sym, ◌∙◌, ap}
use Rattle.board_base.specs.declared.record.Record.{Record}
use Rattle.board_base.specs.Trail.{TrailValue, Extended}

-- a trail that stays has grown by nothing
pub Extended-none : (t : TrailValue) → Extended t t []
Extended-none t = record { joined = sym (append-nil t.records); spare = add-zero t.spare; room = refl }

-- what came first and what came then
pub Extended-more : {a b c : TrailValue} {first then : List Record} → Extended a b first → Extended b c then → Extended a c (first ++ then)
Extended-more {a} {b} {c} {first} {then} f t = record {
  joined = t.joined ∙ ap (λ old. old ++ then) f.joined ∙ append_assoc a.records first then;
  spare = omega (arith, length-append first then, f.spare, t.spare);
  room = t.room ∙ f.room;
}
