use Rattle.std.proofs.Common.{◌≡◌, ◌<◌, false, ap, arith, sym, ◌∙◌}
use Rattle.catchup_engine.specs.Bus.{BusValue}
use Rattle.catchup_engine.proofs.QuietLaws.{entered-quiet}
use Rattle.catchup_engine.proofs.bus.BoardBus.enter.Goals as goal

pub returns-then-self-2 : goal.returns-then-self-2
returns-then-self-2 g c =
    let clock : c.self.inside.clock ≡ c.args.self.now.peripherals.clock = ap (λ (b : BusValue). b.peripherals.clock) c.self.view_is in
    let event : c.self.inside.event_at ≡ c.args.self.now.event_at = ap (λ (b : BusValue). b.event_at) c.self.view_is in
    let between : c.args.self.now.clock_open ≡ false = sym (ap (λ (b : BusValue). b.clock_open) c.self.view_is) ∙ c.if-self.false in
    let before : c.args.self.now.peripherals.clock < c.args.self.now.event_at = (let h = c.if-self-2.true in omega arith) in
    let is = entered-quiet c.args.tape.now c.args.self.now c.pass.new.self c.requires.accepts before between c.pass.ensures.value in
    record { value = is.value; accepts = is.accepts; until = is.until; calls = is.calls; more = is.more; clock_done = is.clock_done }
