use Rattle.std.proofs.Common.{◌≤◌, ◌≤ℤ◌, ℤ, List, ◌∷◌, [], length, pos, rules, subst, sym, take, take_all}
use Rattle.std.specs.List.{AllByRecursion}
use Rattle.std.proofs.lemmas.List.Elements.{All-from_recursion}
use Rattle.sq_algebra.specs.ZSet.{entries}
use Rattle.sq_expr.proofs.Lists.{all_append, take_more}
use Rattle.sq_value.specs.declared.value.Value.{Value}
use Rattle.sq_tests_circuits.proofs.circuits.has_no_weight_below_zero.Goals as goal

pub loop-i-preserved : goal.loop-i-preserved
loop-i-preserved c =
    let above : pos 0 ≤ℤ c.at-weight.result.1 = search rules in
    let one : List Value × ℤ = (c.at-weight.result.0.now, c.at-weight.result.1) in
    subst (AllByRecursion (λ e. pos 0 ≤ℤ e.1)) (sym (take_more (entries c.args.z.now) c.loop-i.i one c.at-weight.ensures.entry))
    (all_append (λ (e : List Value × ℤ). pos 0 ≤ℤ e.1) (take c.loop-i.i (entries c.args.z.now)) (one ∷ []) c.loop-i.invariant (above, tt))

pub returns : goal.returns
returns c _ =
    let past : length (entries c.args.z.now) ≤ c.loop-i.i = subst (λ n. n ≤ c.loop-i.i) c.len-i-end.ensures.len c.loop-i-test.false in
    All-from_recursion (λ (e : List Value × ℤ). pos 0 ≤ℤ e.1) (entries c.args.z.now)
    (subst (AllByRecursion (λ e. pos 0 ≤ℤ e.1)) (take_all c.loop-i.i (entries c.args.z.now) past) c.loop-i.invariant)
