use Rattle.std.proofs.Common.{length, ap, ◌∙◌}
use Rattle.std.specs.Prelude.{slice_set}
use Rattle.sq_zset.proofs.Collecting.{no_items}
use Rattle.sq_engine.specs.Ticking.{ArePut}
use Rattle.sq_engine.proofs.Putting.{found, going_end, going_start, shard_can, shard_inside, shard_turn}
use Rattle.sq_engine.proofs.ready.commit_all.Goals as goal

pub loop-shard-init : goal.loop-shard-init
loop-shard-init c = going_start ArePut c.args.states.now.items c.args.ready.items

pub commit_shard-requires : goal.commit_shard-requires
commit_shard-requires c =
    shard_can c.args.states.now.items c.args.ready.items c.loop-shard.ready.items c.pop.new.self.items c.in-Some.shard c.loop-shard.states.items c.requires c.loop-shard.invariant c.in-Some.ensures.items
    c.index_mut.result.now
    (found c.loop-shard.states.items c.len-place.result (length c.pop.new.self.items) c.index_mut.result.now (c.len-place.ensures ∙ c.pop.new.self.ok.0)
    (shard_inside c.args.states.now.items c.args.ready.items c.loop-shard.ready.items c.pop.new.self.items c.in-Some.shard c.loop-shard.states.items c.requires c.loop-shard.invariant c.in-Some.ensures.items) c.index_mut.ensures.value)

pub loop-shard-preserved : goal.loop-shard-preserved
loop-shard-preserved c =
    shard_turn c.args.states.now.items c.args.ready.items c.loop-shard.ready.items c.pop.new.self.items c.in-Some.shard c.loop-shard.states.items c.requires c.loop-shard.invariant c.in-Some.ensures.items
    c.index_mut.result.now c.commit_shard.new.states _
    (found c.loop-shard.states.items c.len-place.result (length c.pop.new.self.items) c.index_mut.result.now (c.len-place.ensures ∙ c.pop.new.self.ok.0)
    (shard_inside c.args.states.now.items c.args.ready.items c.loop-shard.ready.items c.pop.new.self.items c.in-Some.shard c.loop-shard.states.items c.requires c.loop-shard.invariant c.in-Some.ensures.items) c.index_mut.ensures.value)
    c.commit_shard.ensures (ap (λ k. slice_set c.loop-shard.states.items k c.commit_shard.new.states) (c.len-place.ensures ∙ c.pop.new.self.ok.0))

pub returns : goal.returns
returns c =
    going_end ArePut c.args.states.now.items c.args.ready.items c.loop-shard.ready.items c.loop-shard.states.items c.loop-shard.invariant
    (no_items c.loop-shard.ready.items _ c.loop-shard.ready.ok.0 c.in_default.ensures.cases.0)
