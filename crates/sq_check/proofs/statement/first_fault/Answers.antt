use Rattle.sq_check.proofs.QueriesSmall.{view_small}
use Rattle.sq_check.proofs.statement.first_fault.Goals as goal

pub view_fault-requires : goal.view_fault-requires
view_fault-requires c = view_small c.args.catalog.now c.args.body.now c.in-View.name c.in-View.flavour c.in-View.query c.in-View.is c.requires
