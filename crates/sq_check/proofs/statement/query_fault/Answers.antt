use Rattle.std.proofs.Common.{subst, ◌∙◌}
use Rattle.sq_check.specs.QueriesFound.{Gives}
use Rattle.sq_check.specs.declared.resolve.Wanted.TheVariants.{Distinct}
use Rattle.sq_typed.specs.Resolved.{resolved}
use Rattle.sq_check.proofs.QueriesKinds.{noted_kind, repeated_kind}
use Rattle.sq_check.proofs.statement.query_fault.Goals as goal

pub returns-in-Ok : goal.returns-in-Ok
returns-in-Ok c =
    c.first.ensures
    ∙ noted_kind c.args.catalog.now c.args.before c.args.query.now c.resolve.new.findings c.in-Ok.shape c.is_too_much.result c.is_too_much.ensures
    (subst (λ f. Gives Distinct (resolved c.args.catalog.now c.args.query.now) f c.resolve.new.findings c.in-Ok.shape) c.nothing-findings.ensures c.in-Ok.ensures)

pub returns-in-Err-Repeated : goal.returns-in-Err-Repeated
returns-in-Err-Repeated c = repeated_kind c.args.catalog.now c.args.before c.args.query.now (c.in-Err-Repeated.ensures c.in-Err-Repeated.field-0-is)
