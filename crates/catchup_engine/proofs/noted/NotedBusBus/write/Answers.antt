use Rattle.std.proofs.Common.{◌+◌, ◌-◌, length, ap, refl, arith}
use Rattle.cpu_core.specs.BusCycles.{write_of}
use Rattle.catchup_engine.specs.Bus.{BusValue}
use Rattle.catchup_engine.specs.Notes.{ReachedValue}
use Rattle.catchup_engine.specs.Quiet.{passed}
use Rattle.catchup_engine.specs.Trace.{access_at}
use Rattle.catchup_engine.proofs.HorizonLaws.{ram-keeps}
use Rattle.catchup_engine.proofs.NotedSteps.{plain-reached, ram-put-plain, ram-still, one-more}
use Rattle.catchup_engine.proofs.QuietLaws.{ram-writes}
use Rattle.catchup_engine.proofs.noted.NotedBusBus.write.Goals as goal

pub returns-then-addr : goal.returns-then-addr
returns-then-addr g c =
    let q = c.args.self.now.quiet in
    let room = c.requires.room in
    let so_far = c.requires.accepts.1 in
    let few = c.requires.accepts.2 in
    let t = c.put_ram.new.self in
    let is =
    ram-writes c.args.tape.now q.elapsed c.args.addr c.args.value q.bus.now t c.requires.accepts.0 (omega (arith, room)) c.if-addr.true c.put_ram.ensures in
    let left = is.room in
    let same = ap (λ (b : BusValue). b.peripherals.clock) c.put_ram.ensures in
    let reached =
    plain-reached c.args.self.now.reached.now ((passed (q.elapsed + 1) t).peripherals.clock - 1) (write_of c.args.addr c.args.value)
    (ram-put-plain c.args.addr c.args.value c.if-addr.true)
    (ram-still c.args.addr c.args.value ((passed (q.elapsed + 1) t).peripherals.clock - 1) c.if-addr.true) in
    record {
      step = (refl, refl, ram-keeps q.bus.now t c.args.addr c.args.value c.put_ram.ensures, record { step = is.step; reached = reached });
      accepts = (is.accepts, omega (arith, so_far, same), few);
      room = omega (arith, left);
    }

pub returns-else-addr-clause-room : goal.returns-else-addr-clause-room
returns-else-addr-clause-room g c =
    let most = (one-more c.args.self.now.reached.now (access_at ((passed 0 c.write_noted.new.bus).peripherals.clock - 1) (write_of c.args.addr c.args.value))).starts in
    let same = ap (λ (r : ReachedValue). length r.starts) c.write_noted.ensures.noted.reached in
    let room = c.write_noted.ensures.room in
    omega (arith, most, same, room)

pub returns-else-addr-clause-accepts : goal.returns-else-addr-clause-accepts
returns-else-addr-clause-accepts g c =
    let most = (one-more c.args.self.now.reached.now (access_at ((passed 0 c.write_noted.new.bus).peripherals.clock - 1) (write_of c.args.addr c.args.value))).starts in
    let same = ap (λ (r : ReachedValue). length r.starts) c.write_noted.ensures.noted.reached in
    let few = c.requires.room in
    let accesses = c.write_noted.ensures.accesses in
    (c.write_noted.ensures.accepts, omega (arith, accesses), omega (arith, most, same, few))
