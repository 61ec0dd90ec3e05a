use Rattle.std.proofs.Common.{◌≡◌, ◌∙◌, ◌≤◌, ◌^◌, ◌+ℤ◌, ◌*ℤ◌, ap, sym, subst, lit≤, length, rules, take_all, to_z, of_z}
use mir.Syntax.{w128}
use Rattle.std.specs.Prelude.{FitsSigned}
use Rattle.sq_algebra.specs.ZSet.{entries}
use Rattle.sq_ops.specs.Measures.{factor_of}
use Rattle.sq_zset.proofs.Entries.{kept, kept_128}
use Rattle.sq_ops.proofs.Measuring.{fits_128, measure, measure-lin, one_measured, sum_bound}
use Rattle.sq_ops.proofs.measure.measured.Goals as goal

pub overflow_add-sum : goal.overflow_add-sum
overflow_add-sum c =
    let back : to_z w128 (of_z w128 c.product-sum.result) ≡ c.product-sum.result = kept_128 c.product-sum.result (2 ^ 125) c.product-sum.ensures.bound (lit≤ tt) in
    let value : c.product-sum.result ≡ c.at-weight.result.1 *ℤ factor_of c.args.measure c.args.column c.at-weight.result.0.now =
    c.product-sum.ensures.value ∙ ap (λ w. w *ℤ factor_of c.args.measure c.args.column c.at-weight.result.0.now) (kept c.at-weight.result.1 c.at-weight.ensures.in_range) in
    subst (λ x. FitsSigned w128 (to_z w128 c.loop-i.sum-bits +ℤ x)) (sym back)
    (fits_128 _ (sum_bound c.args.z.now c.requires c.args.measure c.args.column c.loop-i.i c.at-weight.result.0.now c.at-weight.result.1 (to_z w128 c.loop-i.sum-bits) c.product-sum.result c.at-weight.ensures.entry c.loop-i.invariant value))

pub loop-i-preserved : goal.loop-i-preserved
loop-i-preserved c =
    let back : to_z w128 (of_z w128 c.product-sum.result) ≡ c.product-sum.result = kept_128 c.product-sum.result (2 ^ 125) c.product-sum.ensures.bound (lit≤ tt) in
    let value : c.product-sum.result ≡ c.at-weight.result.1 *ℤ factor_of c.args.measure c.args.column c.at-weight.result.0.now =
    c.product-sum.ensures.value ∙ ap (λ w. w *ℤ factor_of c.args.measure c.args.column c.at-weight.result.0.now) (kept c.at-weight.result.1 c.at-weight.ensures.in_range) in
    ap (λ x. to_z w128 (of_z w128 (to_z w128 c.loop-i.sum-bits +ℤ x))) back
    ∙ kept_128 _ (2 ^ 126) (sum_bound c.args.z.now c.requires c.args.measure c.args.column c.loop-i.i c.at-weight.result.0.now c.at-weight.result.1 (to_z w128 c.loop-i.sum-bits) c.product-sum.result c.at-weight.ensures.entry c.loop-i.invariant value) (lit≤ tt)
    ∙ one_measured c.args.z.now c.requires c.args.measure c.args.column c.loop-i.i c.at-weight.result.0.now c.at-weight.result.1 (to_z w128 c.loop-i.sum-bits) c.product-sum.result c.at-weight.ensures.entry c.loop-i.invariant value

pub returns : goal.returns
returns c =
    let past : length (entries c.args.z.now) ≤ c.loop-i.i = search rules in
    c.loop-i.invariant ∙ ap (measure (factor_of c.args.measure c.args.column)) (take_all c.loop-i.i (entries c.args.z.now) past) ∙ measure-lin (factor_of c.args.measure c.args.column) c.args.z.now
