use Rattle.std.proofs.Common.{sym, ap, ◌∙◌}
use Rattle.sq_catalog.specs.Names.{is_named}
use Rattle.sq_check.proofs.QueriesKinds.{named_view, view_with_name_fault, view_answers}
use Rattle.sq_check.proofs.statement.view_fault.Goals as goal

pub returns-then-is_some : goal.returns-then-is_some
returns-then-is_some c =
    named_view c.args.catalog.now c.args.before c.args.name.now c.args.query.now
    (ap (λ n. is_named n c.args.catalog.now) (sym c.as_str.ensures) ∙ (sym c.find.ensures.found ∙ (sym c.is_some.ensures ∙ c.if-is_some.true)))

pub returns-in-Some : goal.returns-in-Some
returns-in-Some c =
    view_with_name_fault c.args.catalog.now c.args.before c.args.name.now c.args.query.now c.in-Some.kind
    (ap (λ n. is_named n c.args.catalog.now) (sym c.as_str.ensures) ∙ (sym c.find.ensures.found ∙ (sym c.is_some.ensures ∙ c.if-is_some.false)))
    (sym c.in_ok-kind.ensures ∙ c.in-Some.is)

pub returns : goal.returns
returns c =
    view_answers c.args.catalog.now c.args.before c.args.name.now c.args.query.now c.query_fault.result
    (ap (λ n. is_named n c.args.catalog.now) (sym c.as_str.ensures) ∙ (sym c.find.ensures.found ∙ (sym c.is_some.ensures ∙ c.if-is_some.false)))
    (sym c.in_ok-kind.ensures ∙ c.in_default.is) c.query_fault.ensures
