use Rattle.std.proofs.Common.{◌≡◌, take, sym, ap, subst, ◌∙◌}
use Rattle.std.specs.List.{flat_map}
use Rattle.sq_scope.specs.NamesFound.{Sees}
use Rattle.sq_scope.specs.NamesIndex.{IsRising, found_in, named_from, numbers_before, spots_from}
use Rattle.sq_scope.proofs.NamesBuilt.{rising}
use Rattle.sq_scope.proofs.NamesPlaces.{plain_places, qualified_places}
use Rattle.sq_typed.specs.Scopes.{places}
use Rattle.sq_scope.proofs.scope.Scope.sight.Goals as goal

pub of-requires : goal.of-requires
of-requires c =
    let are : c.places_of-places.result.now ≡ spots_from 0 0 c.self.inside.sources.items c.args.r.now.name =
    c.places_of-places.ensures ∙ (c.self.invariant.1.columns c.as_str.result.now ∙ ap (spots_from 0 0 c.self.inside.sources.items) c.as_str.ensures) in
    subst IsRising (sym are) (rising 0 0 c.self.inside.sources.items c.args.r.now.name)

pub among-requires : goal.among-requires
among-requires c =
    let are : c.places_of-places.result.now ≡ spots_from 0 0 c.self.inside.sources.items c.args.r.now.name =
    c.places_of-places.ensures ∙ (c.self.invariant.1.columns c.as_str.result.now ∙ ap (spots_from 0 0 c.self.inside.sources.items) c.as_str.ensures) in
    subst IsRising (sym are) (rising 0 0 c.self.inside.sources.items c.args.r.now.name)

pub returns-in-None : goal.returns-in-None
returns-in-None c =
    let are : c.places_of-places.result.now ≡ spots_from 0 0 c.self.inside.sources.items c.args.r.now.name =
    c.places_of-places.ensures ∙ (c.self.invariant.1.columns c.as_str.result.now ∙ ap (spots_from 0 0 c.self.inside.sources.items) c.as_str.ensures) in
    subst (Sees c.of.result) (ap (numbers_before c.args.sources) are ∙ (plain_places c.args.sources c.self.inside.sources.items c.args.r.now c.in-None.is ∙ ap (λ ss. places (take c.args.sources ss) c.args.r.now) c.self.view_is)) c.of.ensures

pub returns-in-Some : goal.returns-in-Some
returns-in-Some c =
    let are : c.places_of-places.result.now ≡ spots_from 0 0 c.self.inside.sources.items c.args.r.now.name =
    c.places_of-places.ensures ∙ (c.self.invariant.1.columns c.as_str.result.now ∙ ap (spots_from 0 0 c.self.inside.sources.items) c.as_str.ensures) in
    let named : c.sources_of.result.now ≡ named_from 0 c.self.inside.sources.items c.in-Some.name =
    c.sources_of.ensures ∙ (c.self.invariant.1.names c.as_str-in-Some.result.now ∙ ap (named_from 0 c.self.inside.sources.items) c.as_str-in-Some.ensures) in
    subst (Sees c.among.result) ((λ i. flat_map (found_in c.args.sources (are i)) (named i)) ∙ (qualified_places c.args.sources c.self.inside.sources.items c.args.r.now c.in-Some.name c.in-Some.is ∙ ap (λ ss. places (take c.args.sources ss) c.args.r.now) c.self.view_is)) c.among.ensures
