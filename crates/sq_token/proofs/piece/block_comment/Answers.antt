use Rattle.std.proofs.Common.{codes, take, drop, arith}
use Rattle.sq_token.proofs.Comments.{not_found, found_first, block_piece, comment_open}
use Rattle.sq_token.proofs.piece.block_comment.Goals as goal

pub returns-in-None : goal.returns-in-None
returns-in-None c = comment_open c.args.at c.args.text.now c.args.comment.now c.requires.opens (not_found (codes "*/") c.args.comment.now c.in-None.ensures.cases)

pub returns-in-Some : goal.returns-in-Some
returns-in-Some c =
    let found = c.in-Some.ensures.cases in
    let comment = c.args.comment.now in
    rw found.4 (block_piece c.args.text.now comment (take found.0 comment) (drop found.1 comment) c.requires.opens (found_first (codes "*/") comment found.0 found.1 (omega (arith, found.5, found.7)) found.2))
