use Rattle.std.proofs.Common.{rules, ◌≡◌, ℕ, ◌+◌, ◌-◌, ◌<◌, ◌≤◌, List, [], ◌∷◌, ◌++◌, replicate, ap, ◌∙◌, subst, arith}
use Rattle.std.proofs.lemmas.List.{replicate_more}
use Rattle.atomic_table.specs.Table.{Me}
use Rattle.atomic_table.specs.Seated.{TableId}
use Rattle.sq_claims.specs.declared.rule.Hand.{Hand}
use Rattle.sq_claims.specs.Claims.{Place, Turn, fresh}
use Rattle.sq_claims.specs.Hands.{IsNewSeat}
use Rattle.sq_claims.proofs.board.Board.passes.Goals as goal

more : (n m : ℕ) (items next : List Turn) (p t : Turn) → items ≡ replicate n t → next ≡ items ++ p ∷ [] → p ≡ t → n + 1 ≡ m → next ≡ replicate m t
more n m items next p t is new same count =
    new ∙ (ap (λ (l : List Turn). l ++ p ∷ []) is ∙ (ap (λ (q : Turn). replicate n t ++ q ∷ []) same ∙ (replicate_more n t ∙ ap (λ (k : ℕ). replicate k t) count)))

seen : (board : Place) (share : ℕ) (id : TableId) (me : Me ℕ Hand) → IsNewSeat board share id me
    → record { board = record { tasks = me.0.plan.tasks; passes = me.0.plan.passes; id = id }; claims = me.0.claims; late = me.0.late } ≡ fresh board
seen board share id me new j = let i = new.id_is j in let m = new.me_is j in record { board = record { tasks = m.0.plan.tasks; passes = m.0.plan.passes; id = i }; claims = m.0.claims; late = m.0.late }

pub loop-left-preserved : goal.loop-left-preserved
loop-left-preserved c =
    let i = c.loop-left.invariant in
    let one = i.0 in
    let most = i.1 in
    let two : 1 < c.loop-left.left = search rules in
    let share = ap (λ (m : Me ℕ Hand). m.0.share) i.2.me_is in (
      omega (arith, two),
      omega (arith, most),
      subst (λ (n : ℕ). IsNewSeat c.args.self.now (n - 1) c.dealt-pass.new.seat.table_id c.dealt-pass.new.seat.me) share c.dealt-pass.ensures.seat,
      more (c.args.count - c.loop-left.left) (c.args.count - (c.loop-left.left - 1)) _ _ _ _ i.3 c.in_ok-push.ensures.items c.dealt-pass.ensures.pass (omega (arith, two, most)),
    )

pub returns : goal.returns
returns c =
    let i = c.loop-left.invariant in
    let one = i.0 in
    let most = i.1 in
    let last : c.loop-left.left ≤ 1 = search rules in more (c.args.count - c.loop-left.left) c.args.count _ _ _ _ i.3 c.in_ok-push-2.ensures.items (seen c.args.self.now c.loop-left.left c.loop-left.seat.table_id c.loop-left.seat.me i.2) (omega (arith, one, most, last))
