-- What the note of a trace charges is what the trace charges.
use Rattle.std.proofs.Common.{◌≡◌, ℕ, ◌+◌, ◌-◌, ◌==◌, ◌≤◌, true, List, [], ◌∷◌, zero, suc, sym, ap, ◌∙◌, refl, arith, if◌then◌else◌}
use Rattle.std.proofs.lemmas.Bool.{eq-eqb, ne_eqb}
use Rattle.board_base.specs.declared.cpu.Sequence.{Sequence}
use Rattle.board_base.specs.declared.cpu.Sequence.TheVariants.{Opcode}
use Rattle.catchup_engine.specs.Notes.{NoteValue, note_of}
use Rattle.catchup_engine.specs.Together.{IsPlain}
use Rattle.catchup_engine.specs.Trace.{TraceValue}
use Rattle.cycle_profile.specs.declared.counts.Counts.{Counts}
use Rattle.cycle_profile.specs.declared.turn.Turn.{Turn}
use Rattle.cycle_profile.specs.declared.turn.Turn.TheVariants.{Call, Restart, Return, Stay}
use Rattle.cycle_profile.specs.Charge.{device_accesses}
use Rattle.cycle_profile.specs.Counts.{more_taken, raised}
use Rattle.cycle_profile.specs.Profile.{ProfileValue, after, after_turn, changed, charged, last_of}
use Rattle.cycle_profile.specs.Turns.{is_stay, stays, turn_of}

pub noted-none : (p : ProfileValue) (note : NoteValue) (trace : TraceValue) (pc : ℕ) → note ≡ note_of trace → note.clocks ≡ 0 → p ≡ after p trace pc
unfolding after
noted-none p note trace pc is none =
    sym (ap (λ t. if t then p else after_turn (turn_of trace.sequence trace.opcode) pc (charged p trace.count (device_accesses trace)))
    (sym (ap (λ (n : NoteValue). n.clocks == 0) is) ∙ eq-eqb note.clocks 0 none))

pub noted-some : (p q r : ProfileValue) (note : NoteValue) (trace : TraceValue) (pc : ℕ) → note ≡ note_of trace → (note.clocks ≡ 0 → ⊥)
    → q ≡ charged p note.clocks note.reached.accesses → r ≡ after_turn (turn_of note.sequence note.opcode) pc q → r ≡ after p trace pc
unfolding after
noted-some p q r note trace pc is some charge turn =
    turn
    ∙ ap (after_turn (turn_of note.sequence note.opcode) pc) charge
    ∙ ap (λ (n : NoteValue). after_turn (turn_of n.sequence n.opcode) pc (charged p n.clocks n.reached.accesses)) is
    ∙ sym (ap (λ t. if t then p else after_turn (turn_of trace.sequence trace.opcode) pc (charged p trace.count (device_accesses trace)))
    (sym (ap (λ (n : NoteValue). n.clocks == 0) is) ∙ ne_eqb note.clocks 0 some))

-- a count that rose twice rose by the sum
raised-twice : (count m n : ℕ) → raised (raised count m) n ≡ raised count (m + n)
raised-twice count m n = omega arith

taken-twice : (c : Counts) (clocks accesses clocks_then accesses_then : ℕ)
    → more_taken (more_taken c clocks accesses) clocks_then accesses_then ≡ more_taken c (clocks + clocks_then) (accesses + accesses_then)
taken-twice c clocks accesses clocks_then accesses_then =
    rw (raised-twice c.clocks clocks clocks_then, raised-twice c.accesses accesses accesses_then) refl

-- an address whose counts changed twice
changed-twice : (f g h : Counts → Counts) → ((c : Counts) → g (f c) ≡ h c) → (address : ℕ) (counts : List Counts) → changed g address (changed f address counts) ≡ changed h address counts
changed-twice f g h both address [] = refl
changed-twice f g h both zero (c ∷ counts) = ap (λ k. k ∷ counts) (both c)
changed-twice f g h both (suc address) (c ∷ counts) = ap (λ l. c ∷ l) (changed-twice f g h both address counts)

-- to charge twice is to charge the sums
pub charged-twice : (p : ProfileValue) (clocks accesses clocks_then accesses_then : ℕ)
    → charged (charged p clocks accesses) clocks_then accesses_then ≡ charged p (clocks + clocks_then) (accesses + accesses_then)
charged-twice p clocks accesses clocks_then accesses_then =
    let counts = changed-twice (λ c. more_taken c clocks accesses) (λ c. more_taken c clocks_then accesses_then) (λ c. more_taken c (clocks + clocks_then) (accesses + accesses_then))
    (λ c. taken-twice c clocks accesses clocks_then accesses_then) (last_of p.routines) p.counts in
    rw (counts, raised-twice p.clocks clocks clocks_then) refl

-- an instruction that leaves the list as it is only charges its clocks and its accesses
pub plain-charged : (p : ProfileValue) (trace : TraceValue) (pc : ℕ) → IsPlain stays trace → after p trace pc ≡ charged p trace.count (note_of trace).reached.accesses
unfolding after
plain-charged p trace pc is =
    let some = is.some in
    let turn : turn_of trace.sequence trace.opcode ≡ Stay = ap (λ (q : Sequence). turn_of q trace.opcode) is.sequence ∙ stay (turn_of Opcode trace.opcode) is.opcode in
    rw (ne_eqb trace.count 0 (λ e. absurd (omega (arith, e, some))), turn) refl
  where
    stay : (t : Turn) → is_stay t ≡ true → t ≡ Stay
    stay Stay e = refl
    stay Call e = cc
    stay Return e = cc
    stay Restart e = cc
