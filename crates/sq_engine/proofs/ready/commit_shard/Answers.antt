use Rattle.sq_engine.specs.Ticking.{CanPutShard, IsPut}
use Rattle.std.proofs.Common.{subst, sym}
use Rattle.sq_engine.proofs.Putting.{going_start, put_can, put_inside, put_turn}
use Rattle.sq_engine.proofs.ready.commit_shard.Goals as goal

pub loop-node-init : goal.loop-node-init
loop-node-init c = going_start IsPut c.args.states.now c.ready.inside.nodes.items

pub commit-requires-clause-inside : goal.commit-requires-clause-inside
commit-requires-clause-inside c =
    put_inside c.args.states.now c.ready.inside.nodes.items c.loop-node.nodes.items c.pop.new.self.items c.in-Some.node c.loop-node.states (subst (CanPutShard c.args.states.now) (sym c.ready.view_is) c.requires) c.loop-node.invariant c.in-Some.ensures.items

pub commit-requires-clause-can : goal.commit-requires-clause-can
commit-requires-clause-can c =
    put_can c.args.states.now c.ready.inside.nodes.items c.loop-node.nodes.items c.pop.new.self.items c.in-Some.node c.loop-node.states (subst (CanPutShard c.args.states.now) (sym c.ready.view_is) c.requires) c.loop-node.invariant c.in-Some.ensures.items

pub loop-node-preserved : goal.loop-node-preserved
loop-node-preserved c =
    put_turn c.args.states.now c.ready.inside.nodes.items c.loop-node.nodes.items c.pop.new.self.items c.in-Some.node c.loop-node.states (subst (CanPutShard c.args.states.now) (sym c.ready.view_is) c.requires) c.loop-node.invariant c.in-Some.ensures.items
    c.commit.new.self c.commit.ensures
