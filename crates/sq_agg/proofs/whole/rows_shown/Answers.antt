use Rattle.std.proofs.Common.{rules, ◌≡◌, ◌∙◌, ◌<◌, length, map, sym, ap, subst, Err}
use Rattle.std.specs.List.{All, flat_map}
use Rattle.std.specs.BTreeMap.{keys}
use Rattle.std.specs.Map.{keys_of}
use Rattle.std.specs.Map.Iter.{deref_pair}
use Rattle.std.proofs.lemmas.Map.Iter.{btree_map_turn, rest_all, rest_more}
use Rattle.std.proofs.lemmas.Result.{err_from_is_err_and}
use Rattle.sq_algebra.specs.ZSet.{entries}
use Rattle.sq_ops.specs.declared.whole.WholeFault.TheVariants.{Sum}
use Rattle.sq_ops.specs.Indexes.{entries_at, places_in}
use Rattle.sq_value.specs.OrderLaws.{row_cmp-total}
use Rattle.sq_agg.proofs.Shown.{all_shown, first_keyed, none_outside, one_outside, one_shown, tested, shown}
use Rattle.sq_agg.proofs.whole.rows_shown.Goals as goal

pub row_of_key-requires-clause-in_range : goal.row_of_key-requires-clause-in_range
row_of_key-requires-clause-in_range c =
    let turn = btree_map_turn deref_pair c.loop-key.yielded c.into_iter-key-iterator.result c.loop-key.key-iterator c.next.new.self c.next.result (c.in-Some.key, c.in-Some.places) c.loop-key.yielded_by c.in-Some.is c.next.ensures.steps row_cmp-total c.args.groups.now c.into_iter-key-iterator.ensures.into_iter_gives.0 c.into_iter-key-iterator.ensures.into_iter_gives.5 in
    let lent : c.in-Some.places.now.items ≡ c.deref.result.now = search rules in
    subst (λ is. All (λ i. i < length (entries c.args.z.now)) is) (ap places_in turn.1 ∙ lent) (c.requires.in_range c.in-Some.key.now)

pub row_of_key-requires-clause-rows : goal.row_of_key-requires-clause-rows
row_of_key-requires-clause-rows c =
    let turn = btree_map_turn deref_pair c.loop-key.yielded c.into_iter-key-iterator.result c.loop-key.key-iterator c.next.new.self c.next.result (c.in-Some.key, c.in-Some.places) c.loop-key.yielded_by c.in-Some.is c.next.ensures.steps row_cmp-total c.args.groups.now c.into_iter-key-iterator.ensures.into_iter_gives.0 c.into_iter-key-iterator.ensures.into_iter_gives.5 in
    let lent : c.in-Some.places.now.items ≡ c.deref.result.now = search rules in
    sym (ap (entries_at (entries c.args.z.now)) (ap places_in turn.1 ∙ lent)) ∙ c.requires.rows c.in-Some.key.now

pub returns-in_err-row-clause-outside : goal.returns-in_err-row-clause-outside
returns-in_err-row-clause-outside c group sum e =
    let (fault, is, same) = err_from_is_err_and c.from_residual-in_err-row.result c.from_residual-in_err-row.ensures.1 in
    let failed : c.row_of_key.result ≡ Err (Sum group sum) = cc (c.in_err-row.was, is, same, e) in
    let next = rest_more deref_pair c.loop-key.key-iterator c.next.new.self c.next.result (c.in-Some.key, c.in-Some.places) c.in-Some.is c.next.ensures.steps in
    let out = c.row_of_key.ensures.outside group sum failed in
    sym (ap (λ ks. first_keyed (flat_map (tested c.args.spec.now c.args.z.now) ks)) c.requires.keys)
    ∙ one_outside c.args.spec.now c.args.z.now (keys c.args.groups.now) (keys_of c.loop-key.key-iterator) c.loop-key.rows.items c.loop-key.invariant c.in-Some.key.now (keys_of c.next.new.self) (ap keys_of next) group sum out.0 out.1

pub loop-key-preserved : goal.loop-key-preserved
loop-key-preserved c =
    let next = rest_more deref_pair c.loop-key.key-iterator c.next.new.self c.next.result (c.in-Some.key, c.in-Some.places) c.in-Some.is c.next.ensures.steps in
    one_shown c.args.spec.now c.args.z.now (keys c.args.groups.now) (keys_of c.loop-key.key-iterator) c.loop-key.rows.items c.loop-key.invariant c.in-Some.key.now (keys_of c.next.new.self) (ap keys_of next) c.push.new.self.items c.in_ok-row.row c.in_ok-push.ensures.items c.in_ok-row.ensures.ok c.in_ok-row.ensures.all_sums

pub returns-clause-ok : goal.returns-clause-ok
returns-clause-ok c =
    let done = rest_all deref_pair c.loop-key.key-iterator c.next.new.self c.next.result c.in-None.is c.next.ensures.steps in
    all_shown c.args.spec.now c.args.z.now (keys c.args.groups.now) (keys_of c.loop-key.key-iterator) c.loop-key.rows.items c.loop-key.invariant (ap keys_of done) ∙ ap (map (shown c.args.spec.now c.args.z.now)) c.requires.keys

pub returns-clause-all_sums : goal.returns-clause-all_sums
returns-clause-all_sums c =
    let done = rest_all deref_pair c.loop-key.key-iterator c.next.new.self c.next.result c.in-None.is c.next.ensures.steps in
    sym (ap (λ ks. first_keyed (flat_map (tested c.args.spec.now c.args.z.now) ks)) c.requires.keys)
    ∙ none_outside c.args.spec.now c.args.z.now (keys c.args.groups.now) (keys_of c.loop-key.key-iterator) c.loop-key.rows.items c.loop-key.invariant (ap keys_of done)
