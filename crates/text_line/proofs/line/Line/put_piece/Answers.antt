use Rattle.std.proofs.Common.{arith}
use Rattle.text_line.proofs.PieceLaws.{piece_put}
use Rattle.text_line.proofs.line.Line.put_piece.Goals as goal

pub returns-clause-text : goal.returns-clause-text
returns-clause-text c =
    piece_put c.self.inside.len c.piece.inside.len 24 c.self.inside.bytes c.copy_from_slice.new.self c.piece.inside.bytes _ c.args.self.now c.args.piece.now
    c.self.view_is (omega arith) c.piece.view_is (omega arith) c.requires.short (omega arith) c.copy_from_slice.ensures.after
