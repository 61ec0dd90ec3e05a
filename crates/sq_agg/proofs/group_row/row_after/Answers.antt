use Rattle.std.proofs.Common.{rules, ◌≡◌, ◌∙◌, ◌++◌, true, false, ℤ, Some, None, Err, refl, sym, ap, to_z, of_z}
use mir.Syntax.{w128}
use Rattle.sq_algebra.specs.ZSet.{weight}
use Rattle.sq_ops.specs.declared.fault.OpFault.TheVariants.{Value}
use Rattle.sq_ops.specs.declared.whole.WholeFault.TheVariants.{Sum}
use Rattle.sq_agg.specs.Kept.{Row}
use Rattle.sq_agg.specs.Shifts.{is_hidden}
use Rattle.sq_agg.proofs.GroupRows.{hidden_row, hidden_sums, seen_row}
use Rattle.sq_agg.proofs.group_row.row_after.Goals as goal

same_key : (k l : Row) (m n : ℤ) → Sum k m ≡ Sum l n → k ≡ l
same_key k l m n e = cc e

same_sum : (k l : Row) (m n : ℤ) → Sum k m ≡ Sum l n → m ≡ n
same_sum k l m n e = cc e

pub returns-then-is_hidden-clause-ok : goal.returns-then-is_hidden-clause-ok
returns-then-is_hidden-clause-ok g c a =
    let hidden : is_hidden c.args.spec.now.global c.args.key.now (weight 0 c.args.acc.now) ≡ true = search rules in
    hidden_row c.args.spec.now c.args.ordered.now c.args.key.now c.args.changed.now c.args.acc.now a None refl hidden

pub returns-then-is_hidden-clause-all_sums : goal.returns-then-is_hidden-clause-all_sums
returns-then-is_hidden-clause-all_sums g c a =
    let hidden : is_hidden c.args.spec.now.global c.args.key.now (weight 0 c.args.acc.now) ≡ true = search rules in
    hidden_sums c.args.spec.now c.args.ordered.now c.args.key.now c.args.changed.now c.args.acc.now a hidden

pub returns-in_ok-keyed_row-in-Ok-clause-ok : goal.returns-in_ok-keyed_row-in-Ok-clause-ok
returns-in_ok-keyed_row-in-Ok-clause-ok g c a =
    let seen : is_hidden c.args.spec.now.global c.args.key.now (weight 0 c.args.acc.now) ≡ false = search rules in
    seen_row c.args.spec.now c.args.ordered.now c.args.key.now c.args.changed.now c.args.acc.now a (Some c.in_ok-keyed_row-in-Ok.field-0)
    (ap Some (c.in_ok-keyed_row-in-Ok.ensures ∙ ap (λ vs. c.args.key.now ++ vs) (c.in-Ok.ensures.ok a))) seen

pub returns-in_ok-clone_row-in-Err-Value-clause-outside :
    goal.returns-in_ok-clone_row-in-Err-Value-clause-outside
returns-in_ok-clone_row-in-Err-Value-clause-outside g c group sum e =
    let failed : c.values_after.result ≡ Err (Value c.in-Err-Value.value) = c.in-Err-Value.is ∙ ap Err c.in-Err-Value.field-0-is in
    let fits : to_z w128 (of_z w128 c.in-Err-Value.value) ≡ c.in-Err-Value.value = search rules in
    let told : Sum c.in_ok-clone_row-in-Err-Value.field-0 (to_z w128 (of_z w128 c.in-Err-Value.value)) ≡ Sum group sum = cc e in
    let is : c.in-Err-Value.value ≡ sum = sym fits ∙ same_sum _ _ _ _ told in
    (sym (same_key _ _ _ _ told) ∙ c.in_ok-clone_row-in-Err-Value.ensures.equal, λ a. c.values_after.ensures.outside c.in-Err-Value.value failed a ∙ ap Some is)
