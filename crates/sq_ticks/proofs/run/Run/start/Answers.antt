use Rattle.std.proofs.Common.{rules, refl, subst, sym}
use Rattle.std.specs.List.{AllByRecursion}
use Rattle.std.specs.Io.KnownBytes.{Appends}
use Rattle.sq_ticks.specs.Fits.{Fits}
use Rattle.sq_ticks.specs.Judgements.{first_text}
use Rattle.sq_ticks.specs.Over.{HasRoom}
use Rattle.sq_compile.specs.Relations.{empty_tables}
use Rattle.sq_ticks.specs.Updates.{updates_of}
use Rattle.sq_ticks.proofs.Playing.{first_told}
use Rattle.sq_ticks.proofs.Reports.{stopped_same}
use Rattle.sq_ticks.proofs.TickLemmas.{room_begun}
use Rattle.sq_ticks.proofs.run.Run.start.Goals as goal

pub returns-in_err-put_all-clause-stopped : goal.returns-in_err-put_all-clause-stopped
returns-in_err-put_all-clause-stopped g c =
    stopped_same _ _ _ _ c.in_ok-text.text.items (first_text c.args.program.now) c.from_residual-in_err-put_all.result
    (first_told c.args.program.now c.args.engine.circuit _ _ _ c.requires.over.plan c.catalog.ensures.relations c.requires.changes c.in_ok-text.ensures) (search rules)

pub returns-clause-start : goal.returns-clause-start
returns-clause-start g c = record {
  stands = record {
    over = c.requires.over;
    fit = subst (AllByRecursion (Fits c.args.program.now.catalog)) (sym c.new.ensures.items) tt;
    room = subst (λ ls. HasRoom (empty_tables c.args.program.now.catalog) (updates_of ls) 0) (sym c.new.ensures.items) (room_begun c.args.program.now 0);
  };
  shards = refl;
  lines = c.new.ensures.items;
  read = refl;
  tick = refl;
  refused = refl;
}

pub returns-clause-told : goal.returns-clause-told
returns-clause-told g c =
    subst (Appends (g.K.Sink.taken c.args.out.now) (g.K.Sink.taken c.put_all.new.sink))
    (first_told c.args.program.now c.args.engine.circuit _ _ _ c.requires.over.plan c.catalog.ensures.relations c.requires.changes c.in_ok-text.ensures) (search rules)
