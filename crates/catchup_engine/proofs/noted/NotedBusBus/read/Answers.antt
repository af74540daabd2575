use Rattle.std.proofs.Common.{◌+◌, ◌-◌, length, ap, refl, arith}
use Rattle.cpu_core.specs.BusCycles.{read_of}
use Rattle.catchup_engine.specs.Notes.{ReachedValue}
use Rattle.catchup_engine.specs.Quiet.{passed}
use Rattle.catchup_engine.specs.Trace.{access_at}
use Rattle.catchup_engine.proofs.HorizonLaws.{keeps-refl}
use Rattle.catchup_engine.proofs.NotedSteps.{plain-reached, program-plain, ram-plain, one-more}
use Rattle.catchup_engine.proofs.QuietLaws.{program-reads, ram-reads}
use Rattle.catchup_engine.proofs.noted.NotedBusBus.read.Goals as goal

pub returns-then-addr-ge-PROGRAM_START : goal.returns-then-addr-ge-PROGRAM_START
returns-then-addr-ge-PROGRAM_START g c =
    let q = c.args.self.now.quiet in
    let room = c.requires.room in
    let so_far = c.requires.accepts.1 in
    let few = c.requires.accepts.2 in
    let is =
    program-reads c.args.tape.now q.elapsed c.args.addr c.program_at.result q.bus.now c.requires.accepts.0 (omega (arith, room)) c.if-addr-ge-PROGRAM_START.true
    c.ranges.addr.fits c.program_at.ensures in
    let left = is.room in
    let reached =
    plain-reached c.args.self.now.reached.now ((passed (q.elapsed + 1) q.bus.now).peripherals.clock - 1) (read_of c.args.addr c.program_at.result)
    (program-plain c.args.addr c.program_at.result c.if-addr-ge-PROGRAM_START.true c.ranges.addr.fits) refl in
    record {
      step = (refl, refl, keeps-refl q.bus.now, record { step = is.step; reached = reached });
      accepts = (is.accepts, omega (arith, so_far), few);
      room = omega (arith, left);
    }

pub returns-then-addr : goal.returns-then-addr
returns-then-addr g c =
    let q = c.args.self.now.quiet in
    let room = c.requires.room in
    let so_far = c.requires.accepts.1 in
    let few = c.requires.accepts.2 in
    let is =
    ram-reads c.args.tape.now q.elapsed c.args.addr c.ram_byte.result q.bus.now c.requires.accepts.0 (omega (arith, room)) c.if-addr.true c.ram_byte.ensures in
    let left = is.room in
    let reached =
    plain-reached c.args.self.now.reached.now ((passed (q.elapsed + 1) q.bus.now).peripherals.clock - 1) (read_of c.args.addr c.ram_byte.result)
    (ram-plain c.args.addr c.ram_byte.result c.if-addr.true) refl in
    record {
      step = (refl, refl, keeps-refl q.bus.now, record { step = is.step; reached = reached });
      accepts = (is.accepts, omega (arith, so_far), few);
      room = omega (arith, left);
    }

pub returns-else-addr-clause-room : goal.returns-else-addr-clause-room
returns-else-addr-clause-room g c =
    let most = (one-more c.args.self.now.reached.now (access_at ((passed 0 c.read_noted.new.bus).peripherals.clock - 1) (read_of c.args.addr c.read_noted.result))).starts in
    let same = ap (λ (r : ReachedValue). length r.starts) c.read_noted.ensures.noted.reached in
    let room = c.read_noted.ensures.room in
    omega (arith, most, same, room)

pub returns-else-addr-clause-accepts : goal.returns-else-addr-clause-accepts
returns-else-addr-clause-accepts g c =
    let most = (one-more c.args.self.now.reached.now (access_at ((passed 0 c.read_noted.new.bus).peripherals.clock - 1) (read_of c.args.addr c.read_noted.result))).starts in
    let same = ap (λ (r : ReachedValue). length r.starts) c.read_noted.ensures.noted.reached in
    let few = c.requires.room in
    let accesses = c.read_noted.ensures.accesses in
    (c.read_noted.ensures.accepts, omega (arith, accesses), omega (arith, most, same, few))
