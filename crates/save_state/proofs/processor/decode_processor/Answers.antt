use Rattle.std.proofs.Common.{rules, ◌≡◌, ◌≤◌, ◌/◌, ◌%◌, ℕ, [], ◌∷◌, take, drop, refl, subst, arith, slice_index}
use Rattle.save_state.specs.StateBytes.{processor_of}
use Rattle.save_state.proofs.Tables.{no_row, byte_is, jam_told}
use Rattle.save_state.proofs.processor.decode_processor.Goals as goal

pub invariant_of-result : goal.invariant_of-result
invariant_of-result c = record { flags = subst (λ (n : ℕ). n / 16 % 4 ≡ 0) (byte_is c.args.file.now 18) (c.requires.front.1 8 no_row (omega arith)) }

pub returns-clause-jam : goal.returns-clause-jam
returns-clause-jam c =
    let flag : slice_index c.args.file.now 19 ∷ [] ≡ take 1 (drop 19 c.args.file.now) = search rules in
    let opcode : slice_index c.args.file.now 20 ∷ [] ≡ take 1 (drop 20 c.args.file.now) = search rules in
    let most : slice_index c.args.file.now 19 ≤ 1 = subst (λ (n : ℕ). n ≤ 1) (byte_is c.args.file.now 19) (c.requires.front.1 9 no_row (omega arith)) in
    rw c.then_some.ensures (jam_told (processor_of c.args.file.now) _ _ _ _ flag opcode most (c.requires.front.1 10 no_row (omega arith))).0

pub returns-clause-undocumented : goal.returns-clause-undocumented
returns-clause-undocumented c =
    let opcode : slice_index c.args.file.now 20 ∷ [] ≡ take 1 (drop 20 c.args.file.now) = search rules in
    let most : slice_index c.args.file.now 19 ≤ 1 = subst (λ (n : ℕ). n ≤ 1) (byte_is c.args.file.now 19) (c.requires.front.1 9 no_row (omega arith)) in
    rw c.then_some.ensures (jam_told (processor_of c.args.file.now) _ _ (_ ∷ []) _ refl opcode most (c.requires.front.1 10 no_row (omega arith))).1
