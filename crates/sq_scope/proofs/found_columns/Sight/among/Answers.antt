use Rattle.std.proofs.Common.{◌<◌, length, arith}
use Rattle.sq_scope.proofs.NamesPlaces.{seen_more}
use Rattle.sq_scope.proofs.found_columns.Sight.among.Goals as goal

pub loop-source-preserved : goal.loop-source-preserved
loop-source-preserved c =
    let within : c.loop-source.source-index < length c.args.named.now = omega arith in
    seen_more c.loop-source.sight c.with-sight.result c.args.sources c.args.places.now c.args.named.now c.loop-source.source-index 0 c.number_before.result within c.loop-source.invariant c.number_before.ensures c.with-sight.ensures
