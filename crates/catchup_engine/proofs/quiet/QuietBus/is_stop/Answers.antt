use Rattle.std.proofs.Common.{◌≡◌, false, is_some, ap, sym, ◌∙◌}
use Rattle.catchup_engine.specs.StopConditions.{asks_generator}
use Rattle.catchup_engine.proofs.QuietLaws.{passed-zero}
use Rattle.catchup_engine.proofs.StopLaws.{counted-looked, looked-none, none-is, stops-passed}
use Rattle.catchup_engine.proofs.quiet.QuietBus.is_stop.Given
use Rattle.catchup_engine.proofs.quiet.QuietBus.is_stop.Goals as goal
use Rattle.catchup_engine.proofs.quiet.QuietBus.is_stop.Goals.{then-is_some, else-is_some}

-- the generator isn't asked
unasked : (g : Given.Over) (c : goal.After-is_stop g) → c.is_some.result ≡ false → is_some (g.B.Breaks.conditions c.args.breaks.now).halted ≡ false
unasked g c none = ap is_some (sym c.halted.ensures) ∙ sym c.is_some.ensures ∙ none

pub returns-clause-value : goal.returns-clause-value
returns-clause-value g c =
    let stops = g.B.Breaks.conditions c.args.breaks.now in
    elim c.if-is_some.branch [
      | then-is_some w ↦ rw (w.self-is, w.flush.ensures.flushed) at c.is_stop.ensures.value
      | else-is_some w ↦
          rw w.self-is at c.is_stop.ensures.value
          ∙ sym (stops-passed stops c.args.self.now.elapsed c.args.cpu.now c.args.self.now.bus.now (none-is stops.halted (unasked g c w.if-is_some.false)))
    ]

pub returns-clause-looked : goal.returns-clause-looked
returns-clause-looked g c =
    elim c.if-is_some.branch [
      | then-is_some w ↦
          rw (w.self-is, w.flush.ensures.none, passed-zero c.is_stop.new.bus) (rw (w.self-is, w.flush.ensures.flushed) at c.is_stop.ensures.looked)
      | else-is_some w ↦ rw (w.self-is, (rw w.self-is at c.is_stop.ensures.looked).same (unasked g c w.if-is_some.false)) (looked-none _ _)
    ]

pub returns-clause-counted : goal.returns-clause-counted
returns-clause-counted g c = λ tape counted.
    elim c.if-is_some.branch [
      | then-is_some w ↦
          rw (w.self-is, w.flush.ensures.none)
          (counted-looked (asks_generator (g.B.Breaks.conditions c.args.breaks.now)) tape c.args.self.now.elapsed c.args.self.now.bus.now c.is_stop.new.bus
          (rw (w.self-is, w.flush.ensures.flushed) at c.is_stop.ensures.looked) counted)
      | else-is_some w ↦ rw (w.self-is, (rw w.self-is at c.is_stop.ensures.looked).same (unasked g c w.if-is_some.false)) counted
    ]
