use Rattle.std.proofs.Common.{◌≡◌, ◌≤◌, length, take, min, ap, sym, ◌∙◌, arith, length-take-le}
use Rattle.sq_typed.specs.Scopes.{kinds_in}
use Rattle.sq_scope.proofs.NamesScopes.{front}
use Rattle.sq_scope.proofs.scope.Scope.kinds.Goals as goal

pub slice_bounds-result-end : goal.slice_bounds-result-end
slice_bounds-result-end c =
    let least : c.min.result ≡ min c.args.sources (length c.self.inside.sources.items) = c.min.ensures ∙ ap (min c.args.sources) (let e : c.len.result ≡ length c.self.inside.sources.items = omega arith in e) in
    let e = front c.self.inside.sources.items c.self.inside.layout c.args.sources c.min.result c.index-end.result.now c.self.invariant.0 least c.index-end.ensures in
    let within : c.index-end.result.now ≤ length c.deref.result.now = omega (arith, e.0, ap length c.deref.ensures.value) in
    sym (length-take-le c.index-end.result.now c.deref.result.now within)

pub returns : goal.returns
returns c =
    let least : c.min.result ≡ min c.args.sources (length c.self.inside.sources.items) = c.min.ensures ∙ ap (min c.args.sources) (let e : c.len.result ≡ length c.self.inside.sources.items = omega arith in e) in
    let e = front c.self.inside.sources.items c.self.inside.layout c.args.sources c.min.result c.index-end.result.now c.self.invariant.0 least c.index-end.ensures in
    ap (take c.index-end.result.now) c.deref.ensures.value ∙ (e.1 ∙ ap (λ l. kinds_in (take c.args.sources l)) c.self.view_is)
