use Rattle.std.proofs.Common.{◌≤◌, length, refl, ap, subst, ◌∙◌}
use Rattle.sq_lists.proofs.ViewWalk.{walk_starts, walk_ends}
use Rattle.sq_lists.proofs.views.list_views.Goals as goal

pub loop-i-init : goal.loop-i-init
loop-i-init c = walk_starts c.args.program.now c.args.tables.now c.catalog-relations.ensures.checked c.requires _ c.new.ensures.items c.new-2.ensures.items refl refl

pub returns-clause-ok : goal.returns-clause-ok
returns-clause-ok c =
    (walk_ends c.args.program.now c.args.tables.now c.loop-i.i c.loop-i.so_far c.loop-i.invariant
    (subst (λ n. n ≤ c.loop-i.i) (c.len-i-end.ensures.len ∙ ap length c.catalog-relations.ensures.relations) c.loop-i-test.false)).0

pub returns-clause-inside : goal.returns-clause-inside
returns-clause-inside c =
    (walk_ends c.args.program.now c.args.tables.now c.loop-i.i c.loop-i.so_far c.loop-i.invariant
    (subst (λ n. n ≤ c.loop-i.i) (c.len-i-end.ensures.len ∙ ap length c.catalog-relations.ensures.relations) c.loop-i-test.false)).1
