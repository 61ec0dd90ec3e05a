use Rattle.std.proofs.Common.{◌≡◌, ◌≤◌, ◌++◌, ◌∙◌, ap, subst, length, Err}
use Rattle.std.proofs.lemmas.Result.{err_from_is_err_and}
use Rattle.sq_algebra.specs.Operators.{weighing}
use Rattle.sq_algebra.specs.ZSet.{entries}
use Rattle.sq_ops.specs.declared.fault.OpFault.TheVariants.{Value}
use Rattle.sq_zset.specs.Pairs.{weighted_rows}
use Rattle.sq_zset.proofs.Entries.{kept}
use Rattle.sq_linear.proofs.Images.{all_moved, mass_bound, one_moved, one_outside}
use Rattle.sq_linear.proofs.apply.image_pairs.Goals as goal

pub returns-in_err-image-clause-value : goal.returns-in_err-image-clause-value
returns-in_err-image-clause-value g c value e =
    let (fault, is, same) = err_from_is_err_and c.from_residual.result c.from_residual.ensures.1 in
    let failed : c.image.result ≡ Err (Value value) = cc (c.in_err-image.was, is, same, e) in
    one_outside (g.O.Linear.images c.args.op.now) (g.O.Linear.tested c.args.op.now) c.args.z.now c.loop-i.i c.at-weight.result.0.now c.at-weight.result.1 c.loop-i.images.items c.loop-i.pairs.items
    c.at-weight.ensures.entry c.loop-i.invariant value (c.image.ensures.outside value failed)

pub loop-i-preserved : goal.loop-i-preserved
loop-i-preserved g c =
    one_moved (g.O.Linear.images c.args.op.now) (g.O.Linear.tested c.args.op.now) c.args.z.now c.loop-i.i c.at-weight.result.0.now c.at-weight.result.1 c.loop-i.images.items c.loop-i.pairs.items
    c.at-weight.ensures.entry c.loop-i.invariant c.image.new.to.items c.move_weighed.new.rows.items c.move_weighed.new.pairs.items c.in_ok-image.ensures.ok c.in_ok-image.ensures.in_range (c.in_ok-move_weighed.ensures.moved
    ∙ ap (λ w. weighted_rows c.loop-i.pairs.items ++ weighing w c.image.new.to.items) (kept c.at-weight.result.1 c.at-weight.ensures.in_range)) c.in_ok-move_weighed.ensures.emptied

pub returns-clause-mass : goal.returns-clause-mass
returns-clause-mass g c =
    let past : length (entries c.args.z.now) ≤ c.loop-i.i = subst (λ n. n ≤ c.loop-i.i) c.len-i-end.ensures.len c.loop-i-test.false in
    mass_bound (g.O.Linear.images c.args.op.now) c.args.z.now c.loop-i.pairs.items c.len-i-end.ensures.in_range
    (all_moved (g.O.Linear.images c.args.op.now) (g.O.Linear.tested c.args.op.now) c.args.z.now c.loop-i.i c.loop-i.images.items c.loop-i.pairs.items past c.loop-i.invariant)
