use Rattle.keyframes.proofs.SeekLaws.{can_load}
use Rattle.keyframes.proofs.seeking.load_kept.Goals as goal

pub load-requires-clause-undocumented : goal.load-requires-clause-undocumented
load-requires-clause-undocumented g c =
    (can_load c.args.keys.now.kept c.args.index c.board.new.into c.requires.loadable c.requires.within c.board.ensures).undocumented

pub load-requires-clause-place : goal.load-requires-clause-place
load-requires-clause-place g c =
    (can_load c.args.keys.now.kept c.args.index c.board.new.into c.requires.loadable c.requires.within c.board.ensures).place
