use Rattle.piece_check.proofs.module_piece.ModulePiece.judge.Goals as goal

pub returns-in-Error : goal.returns-in-Error
returns-in-Error c = rw c.in-Error.is (c.judge_error.ensures c.args.self.now c.args.ordered.now.core)
