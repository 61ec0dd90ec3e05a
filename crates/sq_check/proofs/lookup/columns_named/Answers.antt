use Rattle.std.proofs.Common.{sym, ap, ◌∙◌}
use Rattle.std.specs.Prelude.{is_some}
use Rattle.sq_catalog.specs.Names.{is_named, place_of}
use Rattle.sq_check.proofs.QueriesPlaces.{named_at, unnamed}
use Rattle.sq_check.proofs.lookup.columns_named.Goals as goal

pub returns-in_default : goal.returns-in_default
returns-in_default c = unnamed c.args.name.now c.args.catalog.now (ap (λ n. is_named n c.args.catalog.now) (sym c.as_str.ensures) ∙ (sym c.find.ensures.found ∙ ap is_some c.in_default.is))

pub returns : goal.returns
returns c =
    c.as_slice.ensures ∙ named_at c.args.name.now c.args.catalog.now c.in-Some.place c.at.result.now (ap (λ n. place_of n c.args.catalog.now) (sym c.as_str.ensures) ∙ (sym c.find.ensures.place ∙ c.in-Some.is)) c.at.ensures
