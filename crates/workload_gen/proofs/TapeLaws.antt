-- The entries of the tape, one after another, and what makes them a tape.
use Rattle.std.proofs.Common.{◌≡◌, ℕ, ◌+◌, ◌-◌, ◌*◌, ◌%◌, ◌<◌, ◌≤◌, zero, Bool, true, ltb, List, [], ◌∷◌, length, refl, ◌/◌, get_or, ap, lit≤, append-nil, append_assoc, arith}
use Rattle.std.proofs.lemmas.Bool.Decides.{nat_tests}
use Rattle.std.proofs.lemmas.List.Sums.{AllPass-from_list_all}
use Rattle.tape_ports.specs.declared.entry.Port.{Port}
use Rattle.tape_ports.specs.declared.entry.Port.TheVariants.{In0, Pot1, Pot2}
use Rattle.tape_ports.specs.declared.entry.TapeEntry.{TapeEntry}
use Rattle.tape_ports.specs.Ports.{IsPort, ports}
use Rattle.tape_ports.specs.Tape.{IsTape}
use Rattle.workload_gen.specs.Draws.{draw_of, draws_of, next_of}
use Rattle.workload_gen.specs.Tape.{drawn_port, entries_from}

-- the first of the entries from entry k on, and those behind it
pub entries_from-next : (k number : ℕ) → k ≤ 200
    → entries_from k (draws_of number (2 * (201 - k)))
    ≡ record { clock = 100000 * k; port = drawn_port (draw_of (next_of number)); value = draw_of (next_of (next_of number)) % 256 }
    ∷ entries_from (k + 1) (draws_of (next_of (next_of number)) (2 * (201 - (k + 1))))
unfolding entries_from draws_of
entries_from-next k number last =
    let more : 2 * (201 - k) ≡ Prim.Native.Nat.suc (Prim.Native.Nat.suc (2 * (201 - (k + 1)))) = omega arith in
    ap (λ count. entries_from k (draws_of number count)) more

-- behind the last entry there is none
pub entries_from-none : (k number : ℕ) → 200 < k → entries_from k (draws_of number (2 * (201 - k))) ≡ []
unfolding entries_from draws_of
entries_from-none k number over =
    let none : 2 * (201 - k) ≡ 0 = omega arith in
    ap (λ count. entries_from k (draws_of number count)) none

-- there are half as many entries as draws
pub entries_from-count : (draws : List ℕ) (k : ℕ) → length (entries_from k draws) ≡ length draws / 2
unfolding entries_from
entries_from-count [] k = refl
entries_from-count (port ∷ []) k = refl
entries_from-count (port ∷ value ∷ draws) k = let rest = entries_from-count draws (k + 1) in omega arith

-- each port that a draw chooses is one
abbrev is_port : Port → Bool
is_port (Pot1 pot) = ltb pot 8
is_port (Pot2 pot) = ltb pot 8
is_port port = true

are-ports : (port : Port) → is_port port ≡ true → IsPort port
are-ports port is = grind (arith, nat_tests)

drawn_port-is : (draw : ℕ) → IsPort (drawn_port draw)
drawn_port-is draw = are-ports (drawn_port draw) (AllPass-from_list_all is_port ports refl (draw % 19) In0 (omega arith))

-- each entry comes so many clocks after the one before, and has a port
entries_from-item : (draws : List ℕ) (k i : ℕ) (d : TapeEntry) → i < length (entries_from k draws)
    → ((get_or (entries_from k draws) i d).clock ≡ 100000 * (k + i)) × IsPort (get_or (entries_from k draws) i d).port
unfolding entries_from
entries_from-item [] k i d within = absurd (omega arith)
entries_from-item (port ∷ []) k i d within = absurd (omega arith)
entries_from-item (port ∷ value ∷ draws) k zero d within = (omega arith, drawn_port-is port)
entries_from-item (port ∷ value ∷ draws) k (Prim.Native.Nat.suc i) d within =
    let same : k + Prim.Native.Nat.suc i ≡ k + 1 + i = omega arith in rw same (entries_from-item draws (k + 1) i d (omega arith))

-- the entries of 400 draws are a tape
pub entries_from-tape : (draws : List ℕ) → length draws ≤ 400 → IsTape (record { entries = entries_from 1 draws; end = 20000000 })
entries_from-tape draws few =
    let few_entries : length (entries_from 1 draws) ≤ 200 = omega (arith, entries_from-count draws 1) in
    let item = λ (i : ℕ) (d : TapeEntry) (within : i < length (entries_from 1 draws)). entries_from-item draws 1 i d within in
    record {
      rising = λ i j d before within. omega (arith, (item i d (omega arith)).0, (item j d within).0);
      within = λ i d within. omega (arith, (item i d within).0);
      range = lit≤ tt;
      ports = λ i d within. (item i d within).1;
    }

pub ruleset steps = (append_assoc, append-nil, entries_from-next, entries_from-none)
