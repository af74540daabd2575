-- The levels that a POKEY puts out are those of its last record.
use Rattle.std.proofs.Common.{◌≡◌, ℕ, Bool, true, false, nat_eq, if◌then◌else◌, List, [], ◌∷◌, ◌++◌, Option, Some, None, zero, suc, refl, sym, subst, ap, ◌∙◌}
use Rattle.std.specs.Cmp.Lexicographic.{pointwise, same_text}
use Rattle.board_base.specs.declared.cpu.Sequence.{Sequence}
use Rattle.board_base.specs.declared.cpu.Sequence.TheVariants.{Reset}
use Rattle.board_base.specs.declared.divider.Pending.{Pending}
use Rattle.board_base.specs.declared.divider.Pending.TheVariants.{Nothing}
use Rattle.board_base.specs.declared.record.Record.{Record}
use Rattle.board_base.specs.declared.record.Record.TheVariants.{Levels}
use Rattle.board_base.specs.Cpu.{CpuValue}
use Rattle.board_base.specs.Mid.{MidValue}
use Rattle.board_base.specs.Pokey.{PokeyValue}
use Rattle.board_map.specs.declared.map.Writes.{Writes}
use Rattle.board_map.specs.declared.map.Writes.TheVariants as writes
use Rattle.board_map.specs.Map.{row_of}
use Rattle.pokey_chip.specs.Tick.{change, level, levels_of, channels_ticked, base_pulses, pot_counted, pots_rise, clocked, pokey_gives, pokey_tick}
use Rattle.pokey_chip.specs.declared.channel.Channel.TheVariants.{First, Second, Third, Fourth}
use Rattle.pokey_chip.proofs.LastLevels.{written-last}
use Rattle.cpu_core.specs.declared.replay.Next.{Next}
use Rattle.cpu_core.specs.declared.replay.Next.TheVariants.{Write}
use Rattle.cpu_core.specs.Registers.{RegistersValue, registers_of}
use Rattle.cpu_core.specs.Sequences.{next_of, start_of}
use Rattle.cpu_core.specs.Places.{given_by}
use Rattle.tape_ports.specs.declared.entry.Port.{Port}
use Rattle.tape_ports.specs.declared.entry.Port.TheVariants as port
use Rattle.tape_ports.specs.declared.entry.TapeEntry.{TapeEntry}
use Rattle.tape_ports.specs.Due.{due_at}
use Rattle.lockstep_board.specs.Peripherals.{Peripherals, applied, port_set, devices_ticked, ticked, put_in, byte_put, reset_by, reset_started}
use Rattle.lockstep_board.specs.Lockstep.{Board, accessed, accessed_by, sequence_due, started, at_fetch, after_access, step}
use Rattle.lockstep_board.specs.Run.{stepped}
use Rattle.lockstep_board.specs.Order.{HasNoRecords}
use Rattle.sound_pcm.specs.Samples as samples
use Rattle.sound_pcm.proofs.LevelLaws.{after-append}

-- the levels that both POKEYs put out, and the records of their changes
abbrev Heard : Type 0
Heard = List ℕ × List ℕ × List Record × List Record

abbrev heard : Peripherals → Heard
heard w = (w.sound1.last, w.sound2.last, w.levels1, w.levels2)

-- all but a tick leaves them
port_set-heard : (p : Port) (value : ℕ) (w : Peripherals) → heard (port_set p value w) ≡ heard w
port_set-heard port.In0 value w = refl
port_set-heard _ value w = refl

applied-heard : (entries : List TapeEntry) (w : Peripherals) → heard (applied entries w) ≡ heard w
unfolding applied
applied-heard [] w = refl
applied-heard (entry ∷ entries) w = applied-heard entries (port_set entry.port entry.value w) ∙ port_set-heard entry.port entry.value w

put_in-heard : (put : Writes) (k value : ℕ) (w : Peripherals) → heard (put_in put k value w) ≡ heard w
put_in-heard writes.Sound1 reg value w = ap (λ (last : List ℕ). (last, w.sound2.last, w.levels1, w.levels2)) (written-last reg value w.sound1)
put_in-heard writes.Sound2 reg value w = ap (λ (last : List ℕ). (w.sound1.last, last, w.levels1, w.levels2)) (written-last reg value w.sound2)
put_in-heard _ k value w = refl

accessed_by-heard : (next : Next) (r : RegistersValue) (q : Sequence) (bytes : List ℕ) (w : Peripherals) → heard (accessed_by next r q bytes w).peripherals ≡ heard w
unfolding byte_put
accessed_by-heard (Write a v) r q bytes w = put_in-heard (row_of a).writes (row_of a).offset v w
accessed_by-heard _ r q bytes w = refl

accessed-heard : (r : RegistersValue) (q : Sequence) (bytes : List ℕ) (w : Peripherals) → heard (accessed r q bytes w).peripherals ≡ heard w
unfolding accessed
accessed-heard r q bytes w = accessed_by-heard (next_of r q bytes) r q bytes w

reset_by-heard : (p : Pending) (w : Peripherals) → heard (reset_by p w) ≡ heard w
reset_by-heard Nothing w = refl
reset_by-heard _ w = refl

started-heard : (q : Sequence) (b : Board) → heard (started q b).peripherals ≡ heard b.peripherals
unfolding reset_started
started-heard Reset b = reset_by-heard b.peripherals.divider.pending b.peripherals
started-heard _ b = refl

after_access-heard : (mid : Option MidValue) (c : CpuValue) (w : Peripherals) → heard (after_access mid c w).peripherals ≡ heard w
unfolding at_fetch
after_access-heard None c w =
    let q = sequence_due c w in started-heard q (accessed (start_of q c) q [] w) ∙ accessed-heard (start_of q c) q [] w
after_access-heard (Some mid) c w = accessed-heard (registers_of c) mid.sequence (given_by mid) w

-- the levels after a record of a change are those in it
change-after : (clock a b c d : ℕ) (before : List ℕ) → samples.levels_after before (change clock before (a ∷ b ∷ c ∷ d ∷ [])) ≡ a ∷ b ∷ c ∷ d ∷ []
unfolding change samples.levels_after
change-after clock a b c d before = by_test (pointwise nat_eq (a ∷ b ∷ c ∷ d ∷ []) before) refl
  where
    by_test : (test : Bool) → pointwise nat_eq (a ∷ b ∷ c ∷ d ∷ []) before ≡ test
        → samples.levels_after before (if test then [] else (Levels clock a b c d ∷ [])) ≡ a ∷ b ∷ c ∷ d ∷ []
    by_test true e = sym (same_text (a ∷ b ∷ c ∷ d ∷ []) before (sym e))
    by_test false e = refl

gives-after : (clock : ℕ) (p : PokeyValue) → samples.levels_after p.last (pokey_gives clock p) ≡ (pokey_tick p).last
unfolding pokey_gives pokey_tick levels_of
gives-after clock p =
    let q = channels_ticked (base_pulses p) (pot_counted (pots_rise p) (clocked p)) in
    change-after clock (level q First) (level q Second) (level q Third) (level q Fourth) p.last

-- a tick's records follow its levels
last-on : (before : List ℕ) (records : List Record) (clock : ℕ) (p : PokeyValue) → samples.levels_after before records ≡ p.last
    → samples.levels_after before (records ++ pokey_gives clock p) ≡ (pokey_tick p).last
last-on before records clock p is =
    after-append before records (pokey_gives clock p) ∙ ap (λ l. samples.levels_after l (pokey_gives clock p)) is ∙ gives-after clock p

-- the levels that both POKEYs put out are those after their records
abbrev AreLast : List ℕ → List ℕ → Heard → Type 0
AreLast before1 before2 h = (samples.levels_after before1 h.2 ≡ h.0) × (samples.levels_after before2 h.3 ≡ h.1)

module _ (entries : List TapeEntry) where
  last-step : (before1 before2 : List ℕ) (b : Board) → AreLast before1 before2 (heard b.peripherals) → AreLast before1 before2 (heard (step entries b).peripherals)
  unfolding step ticked devices_ticked
  last-step before1 before2 b t =
      let w = applied (due_at b.peripherals.clock entries) b.peripherals in
      let is = subst (AreLast before1 before2) (sym (applied-heard (due_at b.peripherals.clock entries) b.peripherals)) t in
      subst (AreLast before1 before2) (sym (after_access-heard b.cpu.mid b.cpu (devices_ticked w)))
      (last-on before1 w.levels1 w.clock w.sound1 is.0, last-on before2 w.levels2 w.clock w.sound2 is.1)

  last-stepped : (n : ℕ) (before1 before2 : List ℕ) (b : Board) → AreLast before1 before2 (heard b.peripherals)
      → AreLast before1 before2 (heard (stepped entries n b).peripherals)
  unfolding stepped
  last-stepped zero before1 before2 b t = t
  last-stepped (suc n) before1 before2 b t = last-stepped n before1 before2 (step entries b) (last-step before1 before2 b t)

  -- from a board without records
  pub last-run : (n : ℕ) (b : Board) → HasNoRecords b
      → (samples.levels_after b.peripherals.sound1.last (stepped entries n b).peripherals.levels1 ≡ (stepped entries n b).peripherals.sound1.last)
      × (samples.levels_after b.peripherals.sound2.last (stepped entries n b).peripherals.levels2 ≡ (stepped entries n b).peripherals.sound2.last)
  unfolding samples.levels_after
  last-run n b none =
      last-stepped n b.peripherals.sound1.last b.peripherals.sound2.last b
      (ap (samples.levels_after b.peripherals.sound1.last) none.levels1, ap (samples.levels_after b.peripherals.sound2.last) none.levels2)
