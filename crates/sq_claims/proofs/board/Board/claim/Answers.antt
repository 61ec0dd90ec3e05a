use Rattle.std.proofs.Common.{◌≡◌, ℕ, ◌≤◌, Bool, List, if◌then◌else◌, sym, ap, ◌∙◌, subst, arith}
use Rattle.sq_claims.specs.Claims.{Place, Turn, ends_at}
use mathlib.Core.Option.{none}
use Rattle.atomic_table.specs.Table.{step}
use Rattle.sq_claims.proofs.Moves.{claims_move}
use Rattle.sq_claims.proofs.Totals.{one_late, none_late}
use Rattle.sq_claims.proofs.board.Board.claim.Goals as goal

pub returns-then-pass-clause-none : goal.returns-then-pass-clause-none
returns-then-pass-clause-none c =
    let board = ap (λ (t : Turn). t.board) c.pass.view_is ∙ c.requires.board in
    let hand = c.pass.inside.seat.me.0 in
    let one = one_late (λ word. hand.plan.tasks ≤ word) hand.late (c.pass.invariant.2 ∙ ap (λ (b : Bool). if b then 1 else 0) c.if-pass.true) c.pass.invariant.3 in
    let turn : Turn = record { board = record { tasks = hand.plan.tasks; passes = hand.plan.passes; id = c.pass.inside.seat.table_id }; claims = hand.claims; late = hand.late } in (
      one.0,
      subst (λ (p : Place). p.tasks ≤ one.0) board one.1,
      subst (λ (t : Turn). t ≡ ends_at t one.0) c.pass.view_is (ap (λ (l : List ℕ). record { board = turn.board; claims = turn.claims; late = l }) one.2),
    )

pub fetch_add-word-requires : goal.fetch_add-word-requires
fetch_add-word-requires c =
    let board = ap (λ (t : Turn). t.board) c.pass.view_is ∙ (c.requires.board ∙ sym c.self.view_is) in
    let i = c.pass.invariant in (
      ap (λ (p : Place). p.id) board,
      omega (arith, c.self.invariant.2),
      claims_move c.self.inside.table.shared.key _ _ c.pass.inside.seat.me (step c.self.inside.table.shared.table_id.slots 0 1 0 none) (omega (arith, i.1)) (none_late c.pass.inside.seat.me.0.late (i.2 ∙ ap (λ (b : Bool). if b then 1 else 0) c.if-pass.false)),
    )
