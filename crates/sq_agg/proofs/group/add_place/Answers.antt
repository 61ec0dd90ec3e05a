use Rattle.std.proofs.Common.{rules, ◌++◌, ◌∷◌, [], cond, is_eq, IsSome, ap, ◌∙◌}
use Rattle.std.specs.BTreeMap.{get, keys}
use Rattle.std.specs.Map.{keys_of}
use Rattle.sq_value.specs.Order.{row_cmp}
use Rattle.sq_algebra.specs.Listed.{place}
use Rattle.sq_ops.proofs.Indexing.{one_place_more}
use Rattle.sq_agg.specs.ByKey.{places_of}
use Rattle.sq_agg.proofs.Placing.{keys_stay, keys_with}
use Rattle.sq_agg.proofs.group.add_place.Goals as goal

pub returns-in-Some-clause-keys : goal.returns-in-Some-clause-keys
returns-in-Some-clause-keys c =
    let there : IsSome (get row_cmp c.args.groups.now c.args.key) = search rules in
    (c.get_mut.follows.holds c.push.new.self).1 ∙ keys_stay c.args.groups.now.entries c.args.key c.get_mut.ensures.ordered there

pub returns-in-Some-clause-places : goal.returns-in-Some-clause-places
returns-in-Some-clause-places c =
    let there : IsSome (get row_cmp c.args.groups.now c.args.key) = search rules in
    one_place_more (get row_cmp c.args.groups.now) (get row_cmp (c.get_mut.follows.lender c.push.new.self)) c.args.key c.args.i c.push.new.self (search rules)
    ((c.get_mut.follows.holds c.push.new.self).3 there).0

pub returns-clause-keys : goal.returns-clause-keys
returns-clause-keys c =
    ap keys_of c.in_ok-insert.ensures.entries ∙ keys_with c.get_mut.follows.lender-at-none.entries c.args.key c.push-2.new.self
    ∙ ap (λ m. place row_cmp c.args.key (keys m)) c.get_mut.follows.holds-at-none

pub returns-clause-places : goal.returns-clause-places
returns-clause-places c k =
    one_place_more (get row_cmp c.get_mut.follows.lender-at-none) (get row_cmp c.insert.new.self) c.args.key c.args.i c.push-2.new.self (search rules) c.in_ok-insert.ensures.updates.0 k
    ∙ ap (λ m. places_of m k ++ cond (is_eq (row_cmp k c.args.key)) (c.args.i ∷ []) []) c.get_mut.follows.holds-at-none
