use Rattle.std.proofs.Common.{◌≤◌, ◌≤ℤ◌, ◌^◌, ℤ, List, ◌∷◌, [], length, pos, rules, subst, sym, take, take_all}
use Rattle.std.specs.List.{AllByRecursion}
use Rattle.sq_algebra.specs.ZSet.{entries, total}
use Rattle.sq_expr.proofs.Lists.{all_append, take_more}
use Rattle.sq_value.specs.declared.value.Value.{Value}
use Rattle.sq_good.proofs.Tables.{listed}
use Rattle.sq_good.proofs.good.is_listed.Goals as goal

pub loop-i-preserved : goal.loop-i-preserved
loop-i-preserved c =
    let above : pos 0 ≤ℤ c.at-weight.result.1 = search rules in
    let one : List Value × ℤ = (c.at-weight.result.0.now, c.at-weight.result.1) in
    subst (AllByRecursion (λ e. pos 0 ≤ℤ e.1)) (sym (take_more (entries c.args.z.now) c.loop-i.i one c.at-weight.ensures.entry))
    (all_append (λ (e : List Value × ℤ). pos 0 ≤ℤ e.1) (take c.loop-i.i (entries c.args.z.now)) (one ∷ []) c.loop-i.invariant (above, tt))

pub returns : goal.returns
returns c t =
    let past : length (entries c.args.z.now) ≤ c.loop-i.i = subst (λ n. n ≤ c.loop-i.i) c.len-i-end.ensures.len c.loop-i-test.false in
    let few : total c.args.z.now ≤ℤ pos (2 ^ 61) = search rules in
    listed c.args.z.now (subst (AllByRecursion (λ e. pos 0 ≤ℤ e.1)) (take_all c.loop-i.i (entries c.args.z.now) past) c.loop-i.invariant) few
