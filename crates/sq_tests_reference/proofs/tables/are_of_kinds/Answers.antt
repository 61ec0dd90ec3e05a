use Rattle.std.proofs.Common.{rules, ◌≡◌, ◌+◌, ◌-◌, ◌<◌, drop, suc, ap, subst, sym, ◌∙◌, arith}
use Rattle.sq_typed.specs.Fit.{AreAllOfKinds, TablesAreOfKinds, kinds_of}
use Rattle.sq_typed.specs.Laws.{rows_in}
use Rattle.sq_tests_reference.proofs.KindsLemmas.{kinds_of_table, kinds_of_view}
use Rattle.sq_tests_reference.proofs.tables.are_of_kinds.Goals.{then-is_table+else-left-eq0+in_ok-fits+else-not-branch, else-is_table}
use Rattle.sq_tests_reference.proofs.tables.are_of_kinds.Goals as goal

pub loop-done-preserved : goal.loop-done-preserved
loop-done-preserved c =
    let low : c.loop-done.done < c.len-count.result = search rules in
    let last : c.len-count.result - c.loop-done.done ≡ suc (c.len-count.result - 1 - c.loop-done.done) = omega (arith, low) in
    let next : c.len-count.result - 1 - c.loop-done.done ≡ c.len-count.result - (c.loop-done.done + 1) = omega (arith, low) in
    elim c.if-is_table.branch [
      | then-is_table+else-left-eq0+in_ok-fits+else-not-branch w ↦
          let some : 0 < c.loop-done.left = search rules in
          let is = w.left-is in
          let more : c.loop-done.left ≡ suc c.if-is_table.left = omega (arith, some, is) in
          let there : w.rows_in.result.now ≡ rows_in c.args.tables.now c.if-is_table.left = w.rows_in.ensures ∙ ap (rows_in c.args.tables.now) (sym is) in
          let fit : AreAllOfKinds w.rows_in.result.now (kinds_of c.at-relation.result.now) = w.in_ok-fits.ensures w.if-not-branch.false in
          subst (λ i. TablesAreOfKinds (drop c.if-is_table.left c.args.tables.now) (drop i c.args.catalog.now)) next
          (kinds_of_table c.args.tables.now c.args.catalog.now c.loop-done.left c.if-is_table.left (c.len-count.result - c.loop-done.done)
          (c.len-count.result - 1 - c.loop-done.done) c.at-relation.result.now more last c.at-relation.ensures (sym c.is_table.ensures ∙ w.if-is_table.true)
          (subst (λ rows. AreAllOfKinds rows (kinds_of c.at-relation.result.now)) there fit) c.loop-done.invariant)
      | else-is_table w ↦
          let same = sym w.left-is in
          subst (λ left. TablesAreOfKinds (drop left c.args.tables.now) (drop (c.len-count.result - (c.loop-done.done + 1)) c.args.catalog.now)) same
          (subst (λ i. TablesAreOfKinds (drop c.loop-done.left c.args.tables.now) (drop i c.args.catalog.now)) next
          (kinds_of_view (drop c.loop-done.left c.args.tables.now) c.args.catalog.now (c.len-count.result - c.loop-done.done)
          (c.len-count.result - 1 - c.loop-done.done) c.at-relation.result.now last c.at-relation.ensures (sym c.is_table.ensures ∙ w.if-is_table.false) c.loop-done.invariant))
    ]
