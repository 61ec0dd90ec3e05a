use Rattle.std.proofs.Common.{◌∙◌}
use Rattle.std.proofs.lemmas.Result.{err_from_is_err_and}
use Rattle.sq_typed.specs.declared.query.Block.{out-Block}
use Rattle.sq_lists.specs.Stages.{sources_with}
use Rattle.sq_lists.specs.declared.stop.Stop.TheVariants.{Range}
use Rattle.sq_lists.proofs.Blocks.{calls_outside, can_go_on, can_group, items_fit, items_outside, nothing_own, rows_given}
use Rattle.sq_lists.proofs.Loops.{same_fault}
use Rattle.sq_lists.proofs.block.clause_rows.Goals as goal

pub where_rows-requires-clause-suits : goal.where_rows-requires-clause-suits
where_rows-requires-clause-suits c = can_go_on (sources_with c.args.sources.now c.args.listings.now) (out-Block c.args.block.now).filter (out-Block c.args.block.now).grouping c.args.items.now c.requires.suits

pub item_rows-requires : goal.item_rows-requires
item_rows-requires c =
    can_group (sources_with c.args.sources.now c.args.listings.now) (out-Block c.args.block.now).filter (out-Block c.args.block.now).grouping c.args.items.now c.requires.suits
    c.deref.result.now (c.deref.ensures.value ∙ c.in_ok-kept.ensures.ok) c.in_ok-kept.ensures.few

pub returns-in_err-rows-clause-range : goal.returns-in_err-rows-clause-range
returns-in_err-rows-clause-range c e =
    let p = err_from_is_err_and c.from_residual-in_err-rows.result c.from_residual-in_err-rows.ensures.1 in
    calls_outside (sources_with c.args.sources.now c.args.listings.now) (out-Block c.args.block.now).filter (out-Block c.args.block.now).grouping c.args.items.now c.requires.suits
    c.deref.result.now (c.deref.ensures.value ∙ c.in_ok-kept.ensures.ok)
    (c.in_err-rows.ensures.range (same_fault c.from_residual-in_err-rows.result p.0 c.in_err-rows.field-0.0 Range p.1 p.2 e))

pub selected-requires : goal.selected-requires
selected-requires c =
    items_fit (sources_with c.args.sources.now c.args.listings.now) (out-Block c.args.block.now).filter (out-Block c.args.block.now).grouping c.args.items.now c.requires.suits
    c.deref.result.now c.deref-2.result.now (c.deref.ensures.value ∙ c.in_ok-kept.ensures.ok) c.in_ok-kept.ensures.few (c.deref-2.ensures.value ∙ c.in_ok-rows.ensures.ok) c.in_ok-rows.ensures.inside

pub returns-in_err-selected-clause-range : goal.returns-in_err-selected-clause-range
returns-in_err-selected-clause-range c e =
    let p = err_from_is_err_and c.from_residual-in_err-selected.result c.from_residual-in_err-selected.ensures.1 in
    items_outside (sources_with c.args.sources.now c.args.listings.now) (out-Block c.args.block.now).filter (out-Block c.args.block.now).grouping c.args.items.now c.requires.suits
    c.deref.result.now (c.deref.ensures.value ∙ c.in_ok-kept.ensures.ok) c.deref-2.result.now (c.deref-2.ensures.value ∙ c.in_ok-rows.ensures.ok)
    (c.in_err-selected.ensures.range (same_fault c.from_residual-in_err-selected.result p.0 c.in_err-selected.field-0.0 Range p.1 p.2 e))

pub returns-clause-ok : goal.returns-clause-ok
returns-clause-ok c =
    c.in_ok-rows-2.ensures
    ∙ rows_given (sources_with c.args.sources.now c.args.listings.now) (out-Block c.args.block.now).filter (out-Block c.args.block.now).grouping c.args.items.now c.requires.suits
    c.deref.result.now (c.deref.ensures.value ∙ c.in_ok-kept.ensures.ok) (out-Block c.args.block.now).distinct c.deref-2.result.now c.in_ok-selected.selected.items (c.deref-2.ensures.value ∙ c.in_ok-rows.ensures.ok) c.in_ok-selected.ensures.ok

pub returns-clause-inside : goal.returns-clause-inside
returns-clause-inside c =
    nothing_own (sources_with c.args.sources.now c.args.listings.now) (out-Block c.args.block.now).filter (out-Block c.args.block.now).grouping c.args.items.now c.requires.suits
    c.deref.result.now (c.deref.ensures.value ∙ c.in_ok-kept.ensures.ok) c.deref-2.result.now (c.deref-2.ensures.value ∙ c.in_ok-rows.ensures.ok)
    c.in_ok-kept.ensures.few c.in_ok-rows.ensures.inside c.in_ok-selected.ensures.inside
