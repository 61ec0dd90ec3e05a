use Rattle.sq_token.proofs.Steps.{piece_cut, piece_steps}
use Rattle.sq_token.proofs.lexer.step.Goals as goal

pub split_at-requires : goal.split_at-requires
split_at-requires c = piece_cut c.args.text.now c.in_ok-piece.piece.len c.in_ok-piece.piece.kind c.utf8.text c.in_ok-piece.ensures

pub returns-clause-ok : goal.returns-clause-ok
returns-clause-ok c =
    piece_steps c.args.at c.args.text.now c.in_ok-piece.piece.len c.in_ok-piece.piece.kind c.args.found.now.items c.put.new.found.items c.split_at.result.1.now c.in_ok-piece.ensures c.in_ok-put.ensures.ok c.split_at.ensures.back
