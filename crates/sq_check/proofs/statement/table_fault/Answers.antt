use Rattle.std.proofs.Common.{length, refl, sym, ap, ◌∙◌}
use Rattle.sq_catalog.specs.Names.{is_named}
use Rattle.sq_check.proofs.QueriesKinds.{named_table, repeated_table, too_much_table, good_table}
use Rattle.sq_check.proofs.statement.table_fault.Goals as goal

pub returns-then-is_some : goal.returns-then-is_some
returns-then-is_some c =
    named_table c.args.catalog.now c.args.before c.args.name.now c.args.columns.now
    (ap (λ n. is_named n c.args.catalog.now) (sym c.as_str.ensures) ∙ (sym c.find.ensures.found ∙ (sym c.is_some.ensures ∙ c.if-is_some.true)))

pub returns-then-branch : goal.returns-then-branch
returns-then-branch c =
    repeated_table c.args.catalog.now c.args.before c.args.name.now c.args.columns.now
    (ap (λ n. is_named n c.args.catalog.now) (sym c.as_str.ensures) ∙ (sym c.find.ensures.found ∙ (sym c.is_some.ensures ∙ c.if-is_some.false)))
    (sym c.in_ok-has_same_columns.ensures ∙ c.if-branch.true)

pub returns-then-is_too_much : goal.returns-then-is_too_much
returns-then-is_too_much c =
    too_much_table
    c.args.catalog.now c.args.before c.args.name.now c.args.columns.now (length c.args.columns.now) refl
    (ap (λ n. is_named n c.args.catalog.now) (sym c.as_str.ensures) ∙ (sym c.find.ensures.found ∙ (sym c.is_some.ensures ∙ c.if-is_some.false)))
    (sym c.in_ok-has_same_columns.ensures ∙ c.if-branch.false)
    (sym c.is_too_much.ensures ∙ c.if-is_too_much.true)

pub returns : goal.returns
returns c =
    good_table
    c.args.catalog.now c.args.before c.args.name.now c.args.columns.now (length c.args.columns.now) refl
    (ap (λ n. is_named n c.args.catalog.now) (sym c.as_str.ensures) ∙ (sym c.find.ensures.found ∙ (sym c.is_some.ensures ∙ c.if-is_some.false)))
    (sym c.in_ok-has_same_columns.ensures ∙ c.if-branch.false)
    (sym c.is_too_much.ensures ∙ c.if-is_too_much.false)
