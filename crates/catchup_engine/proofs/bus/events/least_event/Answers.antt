use Rattle.catchup_engine.proofs.QueueLaws.{sooner-found, sooner-none}
use Rattle.catchup_engine.proofs.bus.events.least_event.Goals as goal

pub returns-in-Some : goal.returns-in-Some
returns-in-Some c =
    sooner-found c.args.wrap c.args.entry c.deadlines_of-deadlines.result c.in-Some.field-0-0 c.in-Some.at c.deadlines_of-deadlines.ensures c.in-Some.ensures

pub returns-in-None : goal.returns-in-None
returns-in-None c =
    absurd (sooner-none c.args.wrap c.args.entry c.deadlines_of-deadlines.result c.deadlines_of-deadlines.ensures c.in-None.ensures)
