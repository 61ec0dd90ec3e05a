use Rattle.std.proofs.Common.{ℕ, sym, ap, ◌∙◌, arith}
use Rattle.sq_claims.specs.Claims.{Place}
use Rattle.atomic_table.specs.Table.{Me}
use Rattle.sq_claims.specs.declared.rule.Hand.{Hand}
use Rattle.sq_claims.proofs.Moves.{deals_move}
use Rattle.sq_claims.proofs.board.Board.dealt.Goals as goal

pub split_seat-seat-requires : goal.split_seat-seat-requires
split_seat-seat-requires c = (
  c.requires.seat.id_is ∙ sym (ap (λ (p : Place). p.id) c.self.view_is),
  omega (arith, c.self.invariant.2),
  deals_move c.self.inside.table.shared.key _ c.args.seat.now.me.0 c.requires.share (ap (λ (m : Me ℕ Hand). m.0.claims) c.requires.seat.me_is) (ap (λ (m : Me ℕ Hand). m.0.late) c.requires.seat.me_is),
)
