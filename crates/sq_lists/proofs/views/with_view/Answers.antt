use Rattle.std.proofs.Common.{◌≡◌, ◌∷◌, [], ◌++◌, map, refl, sym, ap, subst, ◌∙◌, arith}
use Rattle.std.proofs.lemmas.Result.{err_from_is_err_and}
use Rattle.std.specs.Prelude.{Some, true}
use Rattle.sq_typed.specs.Queries.{answer, has_range_fault}
use Rattle.sq_lists.specs.Answers.{CanAnswer, Lists}
use Rattle.sq_lists.specs.Listings.{contents_of}
use Rattle.sq_lists.specs.declared.refusal.ViewsFault.TheVariants.{Range}
use Rattle.sq_lists.proofs.Loops.{same_fault}
use Rattle.sq_lists.proofs.ViewWalk.{view_can, view_goes, view_out, view_there}
use Rattle.sq_lists.proofs.views.with_view.Goals as goal

pub query-query-requires : goal.query-query-requires
query-query-requires c = view_there c.args.program.now c.args.tables.now c.args.i c.args.so_far c.requires.walk c.args.relation.now c.requires.at c.requires.kind

pub list_view-requires : goal.list_view-requires
list_view-requires c =
    subst (λ ls. CanAnswer (map contents_of ls) c.query-query.result.now) (sym c.as_slice.ensures.value)
    (view_can c.args.program.now c.args.tables.now c.args.i c.args.so_far c.requires.walk c.args.relation.now c.requires.at c.requires.kind c.query-query.result.now c.query-query.ensures.query)

pub returns-in_err-listing-clause-range : goal.returns-in_err-listing-clause-range
returns-in_err-listing-clause-range c view e =
    let p = err_from_is_err_and c.from_residual.result c.from_residual.ensures.1 in
    view_out c.args.program.now c.args.tables.now c.args.i c.args.so_far c.requires.walk c.args.relation.now c.requires.at c.requires.kind c.query-query.result.now c.query-query.ensures.query
    (subst (λ ls. has_range_fault (answer (map contents_of ls) c.query-query.result.now) ≡ true) c.as_slice.ensures.value (c.in_err-listing.ensures.range view (same_fault c.from_residual.result p.0 c.in_err-listing.field-0.0 (Range view) p.1 p.2 e)))
    ∙ ap Some (sym (c.in_err-listing.ensures.number view (same_fault c.from_residual.result p.0 c.in_err-listing.field-0.0 (Range view) p.1 p.2 e)))

pub overflow_add-so_far : goal.overflow_add-so_far
overflow_add-so_far c = omega (arith, c.requires.few, c.requires.walk.few_views)

pub returns-clause-ok : goal.returns-clause-ok
returns-clause-ok c =
    view_goes c.args.program.now c.args.tables.now c.args.i c.args.so_far c.requires.walk c.args.relation.now c.requires.at c.requires.kind c.query-query.result.now c.query-query.ensures.query
    c.in_ok-listing.listing (subst (λ ls. Lists c.in_ok-listing.listing (answer (map contents_of ls) c.query-query.result.now)) c.as_slice.ensures.value c.in_ok-listing.ensures.ok)
    _ c.in_ok-push-2.ensures.items (c.in_ok-push.ensures.items ∙ ap (λ rows. c.args.so_far.shown.items ++ rows ∷ []) (c.from_vec.ensures ∙ c.in_ok-rows.ensures ∙ c.as_slice-2.ensures)) refl refl
