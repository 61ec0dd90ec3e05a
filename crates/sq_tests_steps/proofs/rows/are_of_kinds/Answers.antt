use Rattle.std.proofs.Common.{◌≤◌, ℤ, List, ◌∷◌, [], length, rules, subst, sym, take, take_all}
use Rattle.std.specs.List.{AllByRecursion}
use Rattle.std.proofs.lemmas.List.Elements.{All-from_recursion}
use Rattle.sq_algebra.specs.ZSet.{entries}
use Rattle.sq_expr.specs.Kinds.{AreOfKinds}
use Rattle.sq_expr.proofs.Lists.{all_append, take_more}
use Rattle.sq_value.specs.declared.value.Value.{Value}
use Rattle.sq_tests_steps.proofs.rows.are_of_kinds.Goals as goal

pub loop-i-preserved : goal.loop-i-preserved
loop-i-preserved c =
    let of_kinds : AreOfKinds c.at.result.0.now c.args.kinds.now = search rules in
    let one : List Value × ℤ = (c.at.result.0.now, c.at.result.1) in
    subst (AllByRecursion (λ e. AreOfKinds e.0 c.args.kinds.now)) (sym (take_more (entries c.args.z.now) c.loop-i.i one c.at.ensures.entry))
    (all_append (λ (e : List Value × ℤ). AreOfKinds e.0 c.args.kinds.now) (take c.loop-i.i (entries c.args.z.now)) (one ∷ []) c.loop-i.invariant (of_kinds, tt))

pub returns : goal.returns
returns c _ =
    let past : length (entries c.args.z.now) ≤ c.loop-i.i = subst (λ n. n ≤ c.loop-i.i) c.len-i-end.ensures.len c.loop-i-test.false in
    All-from_recursion (λ (e : List Value × ℤ). AreOfKinds e.0 c.args.kinds.now) (entries c.args.z.now)
    (subst (AllByRecursion (λ e. AreOfKinds e.0 c.args.kinds.now)) (take_all c.loop-i.i (entries c.args.z.now) past) c.loop-i.invariant)
