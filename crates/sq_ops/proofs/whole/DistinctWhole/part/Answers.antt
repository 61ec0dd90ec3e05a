use Rattle.std.proofs.Common.{rules, ◌≡◌, ◌∙◌, [], ◌∷◌, ap, sym, cond, pos, true}
use Rattle.std.specs.Prelude.{int_lt}
use Rattle.sq_algebra.specs.ZSet.{of_list, single, weight, zero}
use Rattle.sq_algebra.proofs.OperatorLemmas.{of_list-one}
use Rattle.sq_value.specs.Order.{row_cmp}
use Rattle.sq_zset.specs.Range.{first_outside}
use Rattle.sq_zset.specs.GroupLaws.{no_rows_are_in_range}
use Rattle.sq_ops.proofs.whole.DistinctWhole.part.Goals as goal

pub returns-then-weight_of-le0-clause-in_range : goal.returns-then-weight_of-le0-clause-in_range
returns-then-weight_of-le0-clause-in_range c = ap first_outside c.empty.ensures ∙ no_rows_are_in_range

pub returns-clause-ok : goal.returns-clause-ok
returns-clause-ok c =
    let above : int_lt (pos 0) (weight c.args.key.now c.args.z.now) ≡ true = search rules in
    c.in_ok-of_row.ensures.ok ∙ ap (λ row. of_list row_cmp (row ∷ [])) c.in_ok-clone_row.ensures.equal ∙ of_list-one row_cmp c.args.key.now
    ∙ sym (ap (λ b. cond b (single row_cmp c.args.key.now) (zero row_cmp)) above)
