use Rattle.std.proofs.Common.{◌∙◌, ◌++◌, ◌∷◌, [], ap, sym, cond, pos}
use Rattle.std.specs.Prelude.{int_lt}
use Rattle.sq_algebra.specs.ZSet.{entries}
use Rattle.sq_zset.proofs.Entries.{kept}
use Rattle.sq_distinct.proofs.Above.{one_more}
use Rattle.sq_distinct.proofs.whole.rows_above_zero.Goals as goal

pub loop-i-preserved : goal.loop-i-preserved
loop-i-preserved c =
    c.in_ok-push_above_zero.ensures
    ∙ ap (λ w. c.loop-i.rows.items ++ cond (int_lt (pos 0) w) (c.at-weight.result.0.now ∷ []) []) (kept c.at-weight.result.1 c.at-weight.ensures.in_range)
    ∙ ap (λ rows. rows ++ cond (int_lt (pos 0) c.at-weight.result.1) (c.at-weight.result.0.now ∷ []) []) c.loop-i.invariant
    ∙ sym (one_more (entries c.args.z.now) c.loop-i.i c.at-weight.result.0.now c.at-weight.result.1 c.at-weight.ensures.entry)
