-- The updates may be asked for, and the engine stays ready.
use Rattle.std.proofs.Common.{length}
use Rattle.sq_tests_engine.proofs.Ready.{always, may, ready_played}
use Rattle.sq_tests_engine.proofs.bench.play.Goals as goal

pub admit-admitted-requires-clause-fits : goal.admit-admitted-requires-clause-fits
admit-admitted-requires-clause-fits c = may c.args.engine.now c.args.updates.now c.args.rows c.requires.ready c.requires.updates c.requires.few c.requires.more

pub returns-in-Ok : goal.returns-in-Ok
returns-in-Ok c = always c.play_delta.result _ (ready_played c.args.engine.now c.play_delta.new.engine c.args.updates.now c.in-Ok.delta c.args.rows c.requires.ready c.in-Ok.ensures.ok c.play_delta.ensures)
