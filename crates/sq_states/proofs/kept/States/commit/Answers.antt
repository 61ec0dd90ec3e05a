use Rattle.std.proofs.Common.{◌∙◌}
use Rattle.sq_states.specs.Committing.{state_after}
use Rattle.sq_states.proofs.Prepared.{put_back}
use Rattle.sq_states.proofs.kept.States.commit.Goals as goal

pub returns : goal.returns
returns c kept at =
    put_back state_after c.self.inside.nodes.items c.args.self.now c.args.ready.node _ c.replace-kept.result c.replace-kept.new.dest c.committed.result kept c.args.ready.traces
    c.self.view_is (c.replace-kept.ensures.value ∙ c.index_mut.ensures.value) c.committed.ensures at
