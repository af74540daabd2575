use Rattle.std.proofs.Common.{rules, ◌≤◌}
use Rattle.catchup_engine.proofs.TapeLaws.{place-rises}
use Rattle.catchup_engine.proofs.bus.events.due_entries.Goals as goal

pub slice_bounds-result-count : goal.slice_bounds-result-count
slice_bounds-result-count c = place-rises c.args.tape.now c.args.clock c.args.tape_pos c.args.after c.requires.tape_pos c.requires.after

pub slice_bounds-result-start : goal.slice_bounds-result-start
slice_bounds-result-start c =
    let order : c.args.tape_pos ≤ c.args.after = place-rises c.args.tape.now c.args.clock c.args.tape_pos c.args.after c.requires.tape_pos c.requires.after in
    let within = c.requires.after.within in
    search rules
