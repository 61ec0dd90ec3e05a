use Rattle.std.proofs.Common.{sym, ap, ◌∙◌, arith}
use Rattle.sq_claims.specs.Claims.{Place, Turn}
use Rattle.sq_claims.proofs.Moves.{gathers_move}
use Rattle.sq_claims.proofs.board.Board.join.Goals as goal

pub join_seat-requires : goal.join_seat-requires
join_seat-requires c =
    let id = ap (λ (p : Place). p.id) c.self.view_is in
    let board = ap (λ (t : Turn). t.board) c.pass.view_is ∙ (c.requires.pass ∙ sym c.self.view_is) in (
      c.requires.seat ∙ sym id,
      ap (λ (p : Place). p.id) board,
      c.pass.invariant.0,
      omega (arith, c.self.invariant.2),
      gathers_move c.self.inside.table.shared.key _ c.args.seat.now.me.0 _ c.pass.inside.seat.me.0 c.requires.share,
    )
