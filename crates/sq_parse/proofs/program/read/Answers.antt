use Rattle.std.proofs.Common.{◌≡◌, ◌+◌, suc, ap, sym, ◌∙◌, arith}
use Rattle.sq_ast.specs.Spelling.{kinds}
use Rattle.sq_ast.specs.Reading as r
use Rattle.sq_parse.specs.Causes.{adds}
use Rattle.sq_parse.proofs.Places.{pass_on, places_start, program_is, place_on, place_last, place_faults, last_faults}
use Rattle.sq_parse.proofs.program.read.Goals as goal

pub places-init : goal.places-init
places-init c =
    let all = r.places 1 (r.pieces (kinds c.args.tokens.now)) in
    (omega arith, ap (λ front. adds front all) c.new-found.ensures.items ∙ (places_start all ∙ sym (program_is (kinds c.args.tokens.now))))

pub returns-in_err-read_place : goal.returns-in_err-read_place
returns-in_err-read_place c =
    let refused = place_faults c.in_err-read_place.field-0.0 c.places.number c.places.found.items (kinds c.places.rest.now) (kinds c.in-Some.piece.now) (kinds c.in-Some.behind.now) _
    c.in-Some.ensures.parts c.places.invariant.1 c.in_err-read_place.ensures in
    pass_on c.from_residual.result _ _ c.in_err-read_place.field-0.0 _ c.from_residual.ensures.1 (λ y same. same) refused

pub places-preserved : goal.places-preserved
places-preserved c =
    let l = c.places in
    let lengths = c.in-Some.ensures.lengths in
    let next : c.places.number + 1 ≡ suc c.places.number = omega arith in (
      omega (arith, l.invariant.0, lengths),
      ap (λ k. adds c.read_place.new.found.items (r.places k (r.pieces (kinds c.in-Some.behind.now)))) next
          ∙ place_on l.number l.found.items c.read_place.new.found.items (kinds l.rest.now) (kinds c.in-Some.piece.now) (kinds c.in-Some.behind.now) _
          c.in-Some.ensures.parts l.invariant.1 c.in_ok-read_place.ensures,
    )

pub returns-in_err-read_place-2 : goal.returns-in_err-read_place-2
returns-in_err-read_place-2 c =
    let refused = last_faults c.in_err-read_place-2.field-0.0 c.places.number c.places.found.items (kinds c.places.rest.now) _
    c.in_default.ensures.parts c.places.invariant.1 c.in_err-read_place-2.ensures in
    pass_on c.from_residual-in_err-read_place-2.result _ _ c.in_err-read_place-2.field-0.0 _ c.from_residual-in_err-read_place-2.ensures.1 (λ y same. same) refused

pub returns : goal.returns
returns c =
    place_last c.places.number c.places.found.items c.read_place-2.new.found.items (kinds c.places.rest.now) _ c.in_default.ensures.parts c.places.invariant.1 c.in_ok-read_place-2.ensures
