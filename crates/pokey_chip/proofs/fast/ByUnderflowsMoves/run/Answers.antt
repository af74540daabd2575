use Rattle.std.proofs.Common.{◌≡◌, ◌+◌, ◌<◌, ◌≤◌, ◌==◌, if◌then◌else◌, Some, ap, sym, ◌∙◌, arith}
use Rattle.board_base.proofs.TickLaws.{times-still}
use Rattle.board_base.specs.Pokey.{PokeyValue}
use Rattle.pokey_chip.specs.declared.channel.Channel.{Channel}
use Rattle.pokey_chip.specs.declared.channel.Channel.TheVariants.{First, Second, Third, Fourth}
use Rattle.pokey_chip.specs.Moves.{IsLeft}
use Rattle.pokey_chip.specs.Tick.{pokey_tick}
use Rattle.pokey_chip.specs.Tones.{levels_on}
use Rattle.pokey_chip.proofs.TickLaws.{IsSmall}
use Rattle.pokey_chip.proofs.RecordLemmas.{started-records}
use Rattle.pokey_chip.proofs.MovedLaws.{HasMoved, started, is-left-end, is-timed, moved, moved-records, moved-state}
use Rattle.pokey_chip.proofs.PlanLaws.{voice_of}
use Rattle.pokey_chip.proofs.fast.ByUnderflowsMoves.run.Goals as goal

pub returns-then-n-eq0-clause-state : goal.returns-then-n-eq0-clause-state
returns-then-n-eq0-clause-state c = sym (times-still pokey_tick c.args.n c.args.state.now (omega arith))

pub returns-then-n-eq0-clause-records : goal.returns-then-n-eq0-clause-records
returns-then-n-eq0-clause-records c =
    let none : c.args.n ≡ 0 = omega arith in
    rw none (started-records c.args.from c.args.state.now c.args.trail.now)

pub loop-at-init : goal.loop-at-init
loop-at-init c =
    let small : IsSmall c.args.state.now = record {
      tone = omega (arith, ap (λ (q : PokeyValue). q.tone) c.start.view_is, c.start.invariant.tone);
      pass = omega (arith, ap (λ (q : PokeyValue). q.pass) c.start.view_is, c.start.invariant.pass);
      irqst = omega (arith, ap (λ (q : PokeyValue). q.irqst) c.start.view_is, c.start.invariant.irqst);
    } in
    started c.args.state.now c.args.from c.args.n c.args.trail.now c.of.result c.skipping-voices.result c.of-noise.result c.of-tones.result c.start.inside.last
    (omega arith) (omega arith) c.requires.room small
    c.of-noise.ensures.noise c.of-noise.ensures.since
    c.of-tones.ensures.tone c.of-tones.ensures.pass c.of-tones.ensures.underflowed
    (ap (λ (q : PokeyValue). q.last) c.start.view_is) c.start.invariant.levels
    c.of.ensures.first c.of.ensures.second c.of.ensures.third c.of.ensures.fourth c.skipping-voices.ensures

pub after-voices-requires : goal.after-voices-requires
after-voices-requires c = record {
  first = is-timed c.loop-at.invariant First;
  second = is-timed c.loop-at.invariant Second;
  third = is-timed c.loop-at.invariant Third;
  fourth = is-timed c.loop-at.invariant Fourth;
  at = omega arith;
}

each : (c : goal.After-soonest-at) (ch : Channel) → voice_of c.after-voices.result ch ≡ record (voice_of c.loop-at.voices ch) {
  due = if (voice_of c.loop-at.voices ch).due == c.loop-at.at then (voice_of c.loop-at.voices ch).due + (voice_of c.loop-at.voices ch).step else (voice_of c.loop-at.voices ch).due;
}
each c First = c.after-voices.ensures.first
each c Second = c.after-voices.ensures.second
each c Third = c.after-voices.ensures.third
each c Fourth = c.after-voices.ensures.fourth

-- once the underflows of a clock are done, the next comes later, and the move has come so far
done : (c : goal.After-soonest-at) → (c.loop-at.at < c.soonest-at.result)
    × HasMoved c.args.state.now c.args.from c.args.n c.soonest-at.result c.args.trail.now c.record_levels.new.trail c.after-voices.result
    c.reaching-noise.result c.after-tones.result (Some c.on-on.result) c.record_levels.new.last
done c =
    moved c.loop-at.invariant
    (omega arith) c.of-tuning.result c.outputs.result c.due.result c.on-on.result c.soonest-at.result c.record_levels.new.trail c.after-voices.result
    c.reaching-noise.result c.after-tones.result c.record_levels.new.last
    c.of-tuning.ensures c.reaching-noise.ensures.noise c.reaching-noise.ensures.since
    c.outputs.ensures.four c.outputs.ensures.five c.outputs.ensures.long
    c.due.ensures.bits c.after-tones.ensures.tone c.after-tones.ensures.pass c.after-tones.ensures.underflowed c.on-on.ensures
    (c.record_levels.ensures.last ∙ ap (λ (q : PokeyValue). levels_on c.on-on.result q.audc) c.start.view_is)
    (rw (ap (λ (q : PokeyValue). q.audc) c.start.view_is) at c.record_levels.ensures.records) c.record_levels.ensures.few
    (each c) c.soonest-at.ensures

pub loop-at-smaller : goal.loop-at-smaller
loop-at-smaller c = omega (arith, (done c).0)

pub loop-at-preserved : goal.loop-at-preserved
loop-at-preserved c = (done c).1

pub put_counts-requires : goal.put_counts-requires
put_counts-requires c =
    let left : (ch : Channel) → IsLeft (voice_of c.loop-at.voices ch) c.args.n = is-left-end c.loop-at.invariant (omega arith) (omega arith) in
    record { some = omega arith; n = omega arith; first = left First; second = left Second; third = left Third; fourth = left Fourth }

pub returns-clause-records : goal.returns-clause-records
returns-clause-records c = moved-records c.loop-at.invariant (omega arith) (omega arith)

small-pot : (c : goal.After-put_counts) → c.args.state.now.pot ≤ 228
small-pot c = omega (arith, ap (λ (q : PokeyValue). q.pot) c.start.view_is, c.start.invariant.pot)

pub returns-clause-state : goal.returns-clause-state
returns-clause-state c =
    moved-state c.loop-at.invariant (omega arith) (omega arith) c.put_tones.new.state c.put_counts.new.state (small-pot c)
    (rw c.put.ensures at c.put_tones.ensures) c.put_counts.ensures
