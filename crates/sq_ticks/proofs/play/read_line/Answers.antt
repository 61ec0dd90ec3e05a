use Rattle.std.proofs.lemmas.Result.{IfOk-weaker}
use Rattle.sq_ticks.proofs.TableLemmas.{line_fits}
use Rattle.sq_ticks.proofs.play.read_line.Goals as goal

pub returns-clause-fits : goal.returns-clause-fits
returns-clause-fits c = IfOk-weaker c.decode.result _ _ (λ l e. line_fits c.args.catalog.now c.args.raw.now.number c.args.raw.now.bytes l e) c.decode.ensures
