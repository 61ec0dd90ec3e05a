use Rattle.std.proofs.Common.{sym, ap, ◌∙◌, arith}
use Rattle.sq_claims.specs.Claims.{Place}
use mathlib.Core.Option.{none}
use Rattle.atomic_table.specs.Table.{step}
use Rattle.sq_claims.proofs.Moves.{looks_move}
use Rattle.sq_claims.proofs.board.Board.read.Goals as goal

pub load-count-requires : goal.load-count-requires
load-count-requires c =
    let passes = ap (λ (p : Place). p.passes) c.self.view_is in
    let share = c.requires.share_is in (
      c.requires.id_is ∙ sym (ap (λ (p : Place). p.id) c.self.view_is),
      omega (arith, c.self.invariant.2),
      looks_move c.self.inside.table.shared.key _ _ c.args.seat.me (step c.self.inside.table.shared.table_id.slots 0 0 0 none) (omega (arith, share, passes, c.self.invariant.1)),
    )
