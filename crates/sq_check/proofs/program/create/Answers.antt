use Rattle.sq_check.proofs.QueriesSmall.{view_typable}
use Rattle.sq_check.proofs.program.create.Goals as goal

pub typed_query-requires : goal.typed_query-requires
typed_query-requires c = view_typable c.args.catalog.now c.args.body.now c.in-View.name c.in-View.flavour c.in-View.query c.in-View.is c.requires.small c.requires.apart
