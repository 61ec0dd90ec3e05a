-- The first update that lacks its row.
use Rattle.std.proofs.Common.{rules, ◌≡◌, ◌<◌, ◌^◌, List, ℤ, length, refl, subst, sym, ap, ◌∙◌, arith}
use Rattle.std.specs.BTreeMap.{BTreeMap}
use Rattle.std.specs.declared.result.Result.TheVariants.{Err}
use Rattle.sq_value.specs.declared.value.Value.{Value}
use Rattle.sq_tables.specs.Tables.{tables_in}
use Rattle.sq_engine.specs.Admitting.{is_gone}
use Rattle.sq_engine.proofs.Absent.{begun, in_counts, in_states, next, not_often, one_step, stopped, tables_there}
use Rattle.sq_engine.proofs.admit.first_absent.Goals as goal

pub loop-update-init : goal.loop-update-init
loop-update-init g c = (
  begun (tables_in c.args.circuit.now c.args.states.now) c.args.updates.now c.in_ok-counts.counts.items
      (c.in_ok-counts.ensures.many ∙ c.table_count.ensures.count ∙ sym (tables_there c.args.circuit.now c.args.states.now)) c.in_ok-counts.ensures.none,
  omega arith,
  refl,
)

pub is_absent-requires-clause-counted : goal.is_absent-requires-clause-counted
is_absent-requires-clause-counted g c =
    subst (λ (counts : List (BTreeMap (List Value) ℤ)). c.update-item.result.table < length counts) (sym c.deref.ensures.value)
    (in_counts c.args.circuit.now c.args.states.now c.args.updates.now c.requires.inside c.loop-update.update-index c.loop-update.counts.items c.loop-update.invariant.0 c.update-item.result c.loop-update-test.true c.update-item.is)

pub returns-then-branch-clause-some : goal.returns-then-branch-clause-some
returns-then-branch-clause-some g c line e =
    let there = in_states c.args.circuit.now c.args.states.now c.args.updates.now c.requires.inside c.loop-update.update-index c.loop-update.counts.items c.loop-update.invariant.0 c.update-item.result c.loop-update-test.true c.update-item.is in
    let told : c.in_ok-is_absent.field-0 ≡ is_gone (tables_in c.args.circuit.now c.args.states.now) c.loop-update.counts.items c.update-item.result =
    c.in_ok-is_absent.ensures.ok ∙ ap (λ counts. is_gone (tables_in c.args.circuit.now c.args.states.now) counts c.update-item.result) c.deref.ensures.value in
    let same : c.update-item.result.line ≡ line = cc e in
    stopped (tables_in c.args.circuit.now c.args.states.now) c.args.updates.now c.loop-update.update-index c.loop-update.counts.items c.loop-update.invariant.0 c.update-item.result c.loop-update-test.true c.update-item.is there
    c.in_ok-is_absent.field-0 told c.if-branch.true ∙ ap Err same

pub count-requires-clause-inside : goal.count-requires-clause-inside
count-requires-clause-inside g c =
    in_counts c.args.circuit.now c.args.states.now c.args.updates.now c.requires.inside c.loop-update.update-index c.loop-update.counts.items c.loop-update.invariant.0 c.update-item.result c.loop-update-test.true c.update-item.is

pub count-requires-clause-small : goal.count-requires-clause-small
count-requires-clause-small g c =
    let short : length c.args.updates.now < 2 ^ 62 = search rules in
    not_often c.args.circuit.now c.args.states.now c.args.updates.now c.requires.inside c.loop-update.update-index c.loop-update.counts.items c.loop-update.invariant.0 c.update-item.result c.loop-update-test.true c.update-item.is short

pub loop-update-preserved : goal.loop-update-preserved
loop-update-preserved g c =
    let there = in_states c.args.circuit.now c.args.states.now c.args.updates.now c.requires.inside c.loop-update.update-index c.loop-update.counts.items c.loop-update.invariant.0 c.update-item.result c.loop-update-test.true c.update-item.is in
    let told : c.in_ok-is_absent.field-0 ≡ is_gone (tables_in c.args.circuit.now c.args.states.now) c.loop-update.counts.items c.update-item.result =
    c.in_ok-is_absent.ensures.ok ∙ ap (λ counts. is_gone (tables_in c.args.circuit.now c.args.states.now) counts c.update-item.result) c.deref.ensures.value in (
      next (tables_in c.args.circuit.now c.args.states.now) c.args.updates.now c.loop-update.update-index c.loop-update.counts.items c.loop-update.invariant.0 c.update-item.result c.loop-update-test.true c.update-item.is there
          c.in_ok-is_absent.field-0 told c.if-branch.false c.count.new.counts.items c.in_ok-count.ensures.many c.in_ok-count.ensures.more,
      one_step c.args.steps.now.count c.loop-update.steps.count c.is_absent.new.steps.count c.loop-update.update-index c.loop-update.invariant.1 c.is_absent.ensures.cost,
      c.is_absent.ensures.ledger ∙ c.loop-update.invariant.2,
    )
