use Rattle.std.proofs.Common.{◌<◌, arith}
use Rattle.pokey_poly.specs.declared.poly.Poly.TheVariants.{Four, Five, Nine, Seventeen}
use Rattle.pokey_poly.proofs.LeapLaws.{ahead-start}
use Rattle.pokey_poly.proofs.TableLaws.{five-ahead, four-ahead}
use Rattle.pokey_poly.proofs.poly.Poly.ahead.Goals as goal

pub returns-in-Four : goal.returns-in-Four
returns-in-Four c =
    let small : c.args.r < 16 = rw c.in-Four.is at c.requires.in_range in
    rw c.in-Four.is (record { ahead = four-ahead c.args.r 51 small (omega arith); start = ahead-start Four c.args.r _ 51 small (omega arith) (four-ahead c.args.r 51 small (omega arith)) })

pub returns-in-Five : goal.returns-in-Five
returns-in-Five c =
    let small : c.args.r < 32 = rw c.in-Five.is at c.requires.in_range in
    rw c.in-Five.is (record { ahead = five-ahead c.args.r 52 small (omega arith); start = ahead-start Five c.args.r _ 52 small (omega arith) (five-ahead c.args.r 52 small (omega arith)) })

pub returns-in-Nine-clause-start : goal.returns-in-Nine-clause-start
returns-in-Nine-clause-start c = rw c.in-Nine.is (ahead-start Nine c.args.r c.nine_on.result 59 (rw c.in-Nine.is at c.requires.in_range) (omega arith) c.nine_on.ensures.ahead)

pub returns-in-Seventeen-clause-start : goal.returns-in-Seventeen-clause-start
returns-in-Seventeen-clause-start c =
    rw c.in-Seventeen.is (ahead-start Seventeen c.args.r c.seventeen_on.result 64 (rw c.in-Seventeen.is at c.requires.in_range) (omega arith) c.seventeen_on.ensures.ahead)
