use Rattle.std.proofs.Common.{rules, ◌≡◌, ◌∙◌, ◌<◌, length, refl, sym, ap, subst, Err}
use Rattle.std.specs.List.{All}
use Rattle.std.specs.Map.{keys_of}
use Rattle.std.specs.Map.Iter.{deref_pair}
use Rattle.std.proofs.lemmas.Map.Iter.{btree_map_turn, rest_all, rest_more}
use Rattle.std.proofs.lemmas.Result.{err_from_is_err_and}
use Rattle.sq_algebra.specs.ZSet.{entries}
use Rattle.sq_ops.specs.declared.whole.WholeFault.TheVariants.{Sum}
use Rattle.sq_ops.specs.Indexes.{entries_at, places_in}
use Rattle.sq_value.specs.OrderLaws.{row_cmp-total}
use Rattle.sq_agg.proofs.Going.{going_count, going_on, going_outside, went_accumulators, went_arguments, went_count, went_moves, went_sums}
use Rattle.sq_agg.proofs.Touching.{few, group_state}
use Rattle.sq_agg.proofs.step.all_entries.Goals as goal

pub push_group-requires-clause-state : goal.push_group-requires-clause-state
push_group-requires-clause-state g c = group_state c.args.spec.now c.args.acc.now c.args.ordered.now c.args.shown.now c.args.d.now c.args.first c.requires.state c.in-Some.key.now

pub push_group-requires-clause-fits : goal.push_group-requires-clause-fits
push_group-requires-clause-fits g c = c.requires.state.change_fits

pub push_group-requires-clause-few : goal.push_group-requires-clause-few
push_group-requires-clause-few g c = few c.args.spec.now c.args.acc.now c.args.ordered.now c.args.shown.now c.args.d.now c.args.first c.requires.state

pub push_group-requires-clause-in_range : goal.push_group-requires-clause-in_range
push_group-requires-clause-in_range g c =
    let turn = btree_map_turn deref_pair c.loop-key.yielded c.into_iter-key-iterator.result c.loop-key.key-iterator c.next.new.self c.next.result (c.in-Some.key, c.in-Some.places) c.loop-key.yielded_by c.in-Some.is c.next.ensures.steps row_cmp-total c.args.groups.now c.into_iter-key-iterator.ensures.into_iter_gives.0 c.into_iter-key-iterator.ensures.into_iter_gives.5 in
    let lent : c.in-Some.places.now.items ≡ c.deref.result.now = search rules in
    subst (λ is. All (λ i. i < length (entries c.args.d.now)) is) (ap places_in turn.1 ∙ lent) (c.requires.in_range c.in-Some.key.now)

pub push_group-requires-clause-rows : goal.push_group-requires-clause-rows
push_group-requires-clause-rows g c =
    let turn = btree_map_turn deref_pair c.loop-key.yielded c.into_iter-key-iterator.result c.loop-key.key-iterator c.next.new.self c.next.result (c.in-Some.key, c.in-Some.places) c.loop-key.yielded_by c.in-Some.is c.next.ensures.steps row_cmp-total c.args.groups.now c.into_iter-key-iterator.ensures.into_iter_gives.0 c.into_iter-key-iterator.ensures.into_iter_gives.5 in
    let lent : c.in-Some.places.now.items ≡ c.deref.result.now = search rules in
    sym (ap (entries_at (entries c.args.d.now)) (ap places_in turn.1 ∙ lent)) ∙ c.requires.rows c.in-Some.key.now

pub loop-key-preserved : goal.loop-key-preserved
loop-key-preserved g c =
    let next = rest_more deref_pair c.loop-key.key-iterator c.next.new.self c.next.result (c.in-Some.key, c.in-Some.places) c.in-Some.is c.next.ensures.steps in (
      going_on c.args.spec.now c.args.acc.now c.args.ordered.now c.args.shown.now c.args.d.now c.args.first c.args.steps.now.count (keys_of c.loop-key.key-iterator)
          c.loop-key.entered.accs.items c.loop-key.entered.ordered.items c.loop-key.entered.shown.items c.loop-key.steps.count c.loop-key.invariant.0
          c.in-Some.key.now (keys_of c.next.new.self) (ap keys_of next) c.in-Some.key.now refl
          c.push_group.new.entered.accs.items c.push_group.new.entered.ordered.items c.push_group.new.entered.shown.items c.push_group.new.steps.count
          c.in_ok-push_group.ensures.accs c.in_ok-push_group.ensures.ordered c.in_ok-push_group.ensures.shown c.in_ok-push_group.ensures.all_sums c.push_group.ensures.count,
      c.push_group.ensures.ledger ∙ c.loop-key.invariant.1,
    )

pub returns-in_err-push_group-clause-outside : goal.returns-in_err-push_group-clause-outside
returns-in_err-push_group-clause-outside g c group sum e =
    let (fault, is, same) = err_from_is_err_and c.from_residual.result c.from_residual.ensures.1 in
    let failed : c.push_group.result ≡ Err (Sum group sum) = cc (c.in_err-push_group.was, is, same, e) in
    let next = rest_more deref_pair c.loop-key.key-iterator c.next.new.self c.next.result (c.in-Some.key, c.in-Some.places) c.in-Some.is c.next.ensures.steps in
    let out = c.push_group.ensures.outside group sum failed in
    going_outside c.args.spec.now c.args.acc.now c.args.ordered.now c.args.shown.now c.args.d.now c.args.first c.args.steps.now.count (keys_of c.loop-key.key-iterator)
    c.loop-key.entered.accs.items c.loop-key.entered.ordered.items c.loop-key.entered.shown.items c.loop-key.steps.count c.loop-key.invariant.0
    c.in-Some.key.now (keys_of c.next.new.self) (ap keys_of next) c.in-Some.key.now refl group sum out.0 out.1

pub returns-in_err-push_group-clause-count : goal.returns-in_err-push_group-clause-count
returns-in_err-push_group-clause-count g c =
    let next = rest_more deref_pair c.loop-key.key-iterator c.next.new.self c.next.result (c.in-Some.key, c.in-Some.places) c.in-Some.is c.next.ensures.steps in
    going_count c.args.spec.now c.args.acc.now c.args.ordered.now c.args.shown.now c.args.d.now c.args.first c.args.steps.now.count (keys_of c.loop-key.key-iterator)
    c.loop-key.entered.accs.items c.loop-key.entered.ordered.items c.loop-key.entered.shown.items c.loop-key.steps.count c.loop-key.invariant.0
    c.in-Some.key.now (keys_of c.next.new.self) (ap keys_of next) c.in-Some.key.now refl c.push_group.new.steps.count c.push_group.ensures.count

pub returns-clause-accs : goal.returns-clause-accs
returns-clause-accs g c =
    let done = rest_all deref_pair c.loop-key.key-iterator c.next.new.self c.next.result c.in-None.is c.next.ensures.steps in
    went_accumulators c.args.spec.now c.args.acc.now c.args.ordered.now c.args.shown.now c.args.d.now c.args.first c.args.steps.now.count (keys_of c.loop-key.key-iterator)
    c.loop-key.entered.accs.items c.loop-key.entered.ordered.items c.loop-key.entered.shown.items c.loop-key.steps.count c.loop-key.invariant.0 (ap keys_of done)

pub returns-clause-ordered : goal.returns-clause-ordered
returns-clause-ordered g c =
    let done = rest_all deref_pair c.loop-key.key-iterator c.next.new.self c.next.result c.in-None.is c.next.ensures.steps in
    went_arguments c.args.spec.now c.args.acc.now c.args.ordered.now c.args.shown.now c.args.d.now c.args.first c.args.steps.now.count (keys_of c.loop-key.key-iterator)
    c.loop-key.entered.accs.items c.loop-key.entered.ordered.items c.loop-key.entered.shown.items c.loop-key.steps.count c.loop-key.invariant.0 (ap keys_of done)

pub returns-clause-shown : goal.returns-clause-shown
returns-clause-shown g c =
    let done = rest_all deref_pair c.loop-key.key-iterator c.next.new.self c.next.result c.in-None.is c.next.ensures.steps in
    went_moves c.args.spec.now c.args.acc.now c.args.ordered.now c.args.shown.now c.args.d.now c.args.first c.args.steps.now.count (keys_of c.loop-key.key-iterator)
    c.loop-key.entered.accs.items c.loop-key.entered.ordered.items c.loop-key.entered.shown.items c.loop-key.steps.count c.loop-key.invariant.0 (ap keys_of done)

pub returns-clause-all_sums : goal.returns-clause-all_sums
returns-clause-all_sums g c =
    let done = rest_all deref_pair c.loop-key.key-iterator c.next.new.self c.next.result c.in-None.is c.next.ensures.steps in
    went_sums c.args.spec.now c.args.acc.now c.args.ordered.now c.args.shown.now c.args.d.now c.args.first c.args.steps.now.count (keys_of c.loop-key.key-iterator)
    c.loop-key.entered.accs.items c.loop-key.entered.ordered.items c.loop-key.entered.shown.items c.loop-key.steps.count c.loop-key.invariant.0 (ap keys_of done)

pub returns-clause-count : goal.returns-clause-count
returns-clause-count g c =
    went_count c.args.spec.now c.args.acc.now c.args.ordered.now c.args.shown.now c.args.d.now c.args.first c.args.steps.now.count (keys_of c.loop-key.key-iterator)
    c.loop-key.entered.accs.items c.loop-key.entered.ordered.items c.loop-key.entered.shown.items c.loop-key.steps.count c.loop-key.invariant.0
