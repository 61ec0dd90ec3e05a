use Rattle.std.proofs.Common.{map, ap, ◌∙◌}
use Rattle.std.specs.List.{flat_map}
use Rattle.sq_typed.specs.Selected.{written_out}
use Rattle.sq_typed.specs.declared.query.Query.TheVariants as query
use Rattle.sq_check.specs.TypesBlockForms.{grouping_of}
use Rattle.sq_check.specs.TypesFrames.{frame_item}
use Rattle.sq_check.proofs.TypesBlockLemmas.{block_is}
use Rattle.sq_check.proofs.typed_block.typed_block.Goals as goal

pub returns : goal.returns
returns c =
    ap query.Block c.in_ok-new.ensures
    ∙ block_is c.args.scope.now c.args.block.now c.in_ok-frame.frame c.args.sources c.in_ok-filter.filter c.grouping_of-grouping.result c.in_ok-items.items
    c.in_ok-frame.ensures
    c.in_ok-filter.ensures
    (c.grouping_of-grouping.ensures
    ∙ (ap (λ ns. grouping_of c.in_ok-frame.frame.grouped ns c.into_groups.result.calls c.in_ok-having.having) c.into_groups.ensures.numbers
    ∙ (ap (λ cs. grouping_of c.in_ok-frame.frame.grouped c.in_ok-frame.frame.groups.keys.numbers cs c.in_ok-having.having) c.into_groups.ensures.calls
    ∙ ap (grouping_of c.in_ok-frame.frame.grouped c.in_ok-frame.frame.groups.keys.numbers c.in_ok-frame.frame.groups.calls) c.in_ok-having.ensures)))
    (c.in_ok-items.ensures ∙ ap (λ is. map (frame_item c.in_ok-frame.frame) (flat_map (written_out c.args.scope.now) is)) c.as_slice.ensures)
