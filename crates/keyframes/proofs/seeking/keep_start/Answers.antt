use Rattle.std.proofs.Common.{subst}
use Rattle.board_base.specs.Board.{IsBoard}
use Rattle.keyframes.specs.Keys.{Keyframe}
use Rattle.keyframes.proofs.SeekLaws.{along-start, kept-alone, start-alone}
use Rattle.keyframes.proofs.seeking.keep_start.Goals as goal

pub returns-clause-start : goal.returns-clause-start
returns-clause-start c =
    let kept = c.keep.ensures in
    let keyframe : Keyframe = record { board = c.args.state.now; pages = kept.2.pages } in
    start-alone c.keep.new.self.kept keyframe
    (kept-alone c.args.keys.now kept.0 c.keep.new.self c.args.state.now kept.1 kept.2 c.requires.none)

pub returns-clause-along : goal.returns-clause-along
returns-clause-along c =
    let kept = c.keep.ensures in
    let keyframe : Keyframe = record { board = c.args.state.now; pages = kept.2.pages } in
    along-start c.keep.new.self.kept keyframe
    (kept-alone c.args.keys.now kept.0 c.keep.new.self c.args.state.now kept.1 kept.2 c.requires.none)
    (subst IsBoard c.state.view_is c.state.invariant)
    (record { undocumented = c.requires.undocumented; place = c.requires.place })
