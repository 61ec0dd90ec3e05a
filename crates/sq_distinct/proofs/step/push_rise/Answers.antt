use Rattle.std.proofs.Common.{rules, ◌≡◌, ◌++◌, ◌∷◌, [], ◌∙◌, ap, sym, append-nil, Some, None, to_z, of_z}
use mir.Syntax.{w128}
use Rattle.sq_zset.specs.Pairs.{weighted_rows}
use Rattle.sq_distinct.specs.Stepping.{held_weight, rise_of, unless_zero}
use Rattle.sq_distinct.proofs.Rising.{none_risen, one_risen}
use Rattle.sq_distinct.proofs.step.push_rise.Goals as goal

pub returns-in_ok-push_copy-clause-ok : goal.returns-in_ok-push_copy-clause-ok
returns-in_ok-push_copy-clause-ok g c =
    let is : unless_zero (rise_of (held_weight c.args.old.now c.args.row.now) c.args.weight) ≡ Some c.in-Some.weight = search rules in
    let kept : to_z w128 (of_z w128 c.in-Some.weight) ≡ c.in-Some.weight = search rules in
    c.in_ok-push_copy.ensures ∙ ap (λ w. weighted_rows c.args.pairs.now.items ++ (c.args.row.now, w) ∷ []) kept
    ∙ ap (λ ps. weighted_rows c.args.pairs.now.items ++ ps) (sym (one_risen c.args.row.now (rise_of (held_weight c.args.old.now c.args.row.now) c.args.weight) c.in-Some.weight is))

pub returns-in_default-clause-ok : goal.returns-in_default-clause-ok
returns-in_default-clause-ok g c =
    let is : unless_zero (rise_of (held_weight c.args.old.now c.args.row.now) c.args.weight) ≡ None = search rules in
    sym (ap (λ ps. weighted_rows c.args.pairs.now.items ++ ps) (none_risen c.args.row.now (rise_of (held_weight c.args.old.now c.args.row.now) c.args.weight) is) ∙ append-nil (weighted_rows c.args.pairs.now.items))
