use Rattle.std.proofs.Common.{◌≡◌, List, length, subst, sym, ◌∙◌, arith}
use Rattle.std.proofs.lemmas.Option.{same_Some}
use Rattle.sq_states.specs.declared.kept.NodeState.{NodeState}
use Rattle.sq_incr.proofs.Noting.{got_at}
use Rattle.sq_engine.specs.Ticking.{EachAt, IsReadyNode}
use Rattle.sq_engine.proofs.Putting.{each_as, more_each}
use Rattle.sq_engine.proofs.Readied.{node_ready}
use Rattle.sq_engine.proofs.ready.prepare_shard.Goals as goal

pub prepare-requires-clause-in_range : goal.prepare-requires-clause-in_range
prepare-requires-clause-in_range c kept e =
    c.requires.all.stays c.loop-node.node c.args.shard c.at.result.now kept c.at.ensures
    (record { shard = c.index-states-shard.result; of_shard = got_at c.args.states.now c.args.shard c.index-states-shard.result c.requires.inside c.index-states-shard.is; of_node = e })

pub loop-node-preserved : goal.loop-node-preserved
loop-node-preserved c =
    more_each (IsReadyNode c.args.pieces.now c.args.shard c.index-states-shard.result) c.loop-node.ready.items c.push.new.self.items c.loop-node.node c.in_ok-one.one c.loop-node.invariant
    (node_ready c.args.pieces.now c.args.shard c.index-states-shard.result c.loop-node.node c.in_ok-one.one c.at.result.now c.at.ensures c.in_ok-one.ensures.number c.in_ok-one.ensures.ready) c.in_ok-push.ensures.items

pub returns : goal.returns
returns c shard e =
    let is : c.index-states-shard.result ≡ shard = same_Some c.index-states-shard.result shard (sym (got_at c.args.states.now c.args.shard c.index-states-shard.result c.requires.inside c.index-states-shard.is) ∙ e) in
    let long = c.requires.all.long c.args.shard shard e in
    let past = c.loop-node-test.false in
    let within = c.loop-node.auto.node-end in
    each_as (IsReadyNode c.args.pieces.now c.args.shard shard) c.loop-node.ready.items c.loop-node.node (length shard)
    (subst (λ (k : List NodeState). EachAt (IsReadyNode c.args.pieces.now c.args.shard k) c.loop-node.ready.items c.loop-node.node) is c.loop-node.invariant) (omega (arith, past, within, long))
