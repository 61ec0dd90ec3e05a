use Rattle.std.proofs.Common.{Some, None, arith}
use Rattle.std.proofs.lemmas.Str.Pattern.{split_parts}
use Rattle.sq_token.proofs.Comments.{line_piece, last_line_piece}
use Rattle.sq_token.proofs.piece.line_comment.Goals as goal
use Rattle.sq_token.proofs.piece.line_comment.Goals.{in-None, in-Some}

pub returns : goal.returns
returns c =
    elim c.match-split_once.branch [
      | in-None w ↦ rw w.left-is (last_line_piece c.args.text.now c.args.comment.now c.requires.opens (split_parts 10 c.args.comment.now None w.in-None.ensures.cases (omega arith)))
      | in-Some w ↦
          let parts = split_parts 10 c.args.comment.now (Some (w.in-Some.field-0-0, w.in-Some.rest)) w.in-Some.ensures.cases (omega arith) in
          rw w.left-is (line_piece c.args.text.now c.args.comment.now w.in-Some.field-0-0.now w.in-Some.rest.now c.requires.opens parts.0 parts.1)
    ]
