use Rattle.std.proofs.Common.{◌*◌, length, subst}
use Rattle.std.specs.List.{flat_map}
use Rattle.sq_typed.specs.declared.query.Block.{out-Block}
use Rattle.sq_plan.specs.Drafts.{kinds_of}
use Rattle.sq_plan.specs.Steps.{Becomes, block_of}
use Rattle.sq_plan.proofs.BlockSteps.{block_is}
use Rattle.sq_plan.proofs.Primitives.{if_ok}
use Rattle.sq_plan.proofs.KeyedSteps.{joins_before}
use Rattle.sq_plan.specs.Keyed.{IsJoinOfSource, NewJoins, widths_of}
use Rattle.sq_plan.proofs.draft.Draft.block.Goals as goal

pub returns-clause-adds : goal.returns-clause-adds
returns-clause-adds c = if_ok c.once_if.result _ _ (λ i b. block_is (8 * length (out-Block c.args.block.now).sources) c.args.self.now (block_of c.args.self.now c.args.sources.now (out-Block c.args.block.now).sources (out-Block c.args.block.now).filter)
    (flat_map (kinds_of c.args.self.now) c.args.sources.now) (out-Block c.args.block.now).grouping (out-Block c.args.block.now).items (out-Block c.args.block.now).distinct c.joined.new.self c.in_ok-joined.joined
    (subst (λ its. Becomes (8 * length its) c.args.self.now c.joined.new.self c.in_ok-joined.joined (flat_map (kinds_of c.args.self.now) c.args.sources.now) (block_of c.args.self.now c.args.sources.now its (out-Block c.args.block.now).filter)) c.as_slice.ensures c.in_ok-joined.ensures.adds)
    c.item_rows.new.self c.in_ok-rows.rows c.in_ok-rows.ensures.adds c.selected.new.self c.once_if.new.self c.in_ok-chosen.chosen i c.in_ok-chosen.ensures.adds b) c.once_if.ensures.adds

pub returns-clause-keyed : goal.returns-clause-keyed
returns-clause-keyed c = if_ok c.once_if.result _ _ (λ i h. joins_before c.args.self.now c.selected.new.self c.once_if.new.self (IsJoinOfSource (widths_of c.args.self.now c.args.sources.now) (out-Block c.args.block.now).sources (out-Block c.args.block.now).filter)
    (joins_before c.args.self.now c.item_rows.new.self c.selected.new.self (IsJoinOfSource (widths_of c.args.self.now c.args.sources.now) (out-Block c.args.block.now).sources (out-Block c.args.block.now).filter)
    (joins_before c.args.self.now c.joined.new.self c.item_rows.new.self (IsJoinOfSource (widths_of c.args.self.now c.args.sources.now) (out-Block c.args.block.now).sources (out-Block c.args.block.now).filter)
    (subst (λ its. NewJoins c.args.self.now c.joined.new.self (IsJoinOfSource (widths_of c.args.self.now c.args.sources.now) its (out-Block c.args.block.now).filter)) c.as_slice.ensures c.in_ok-joined.ensures.keyed) c.in_ok-rows.ensures.keyed) c.in_ok-chosen.ensures.keyed) h) c.once_if.ensures.keyed
