use Rattle.board_base.proofs.board.BoardState.power_on.Goals as goal

pub returns : goal.returns
returns c = cc
