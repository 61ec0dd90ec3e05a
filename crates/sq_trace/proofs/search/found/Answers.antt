use Rattle.std.proofs.Common.{◌<◌, ◌≤◌, ◌∙◌, sym, length, inl, inr, arith}
use Rattle.sq_trace.proofs.Searching.{none_behind, other_there, found_there}
use Rattle.sq_trace.proofs.search.found.Goals as goal

pub returns-in_err-entry-clause-none : goal.returns-in_err-entry-clause-none
returns-in_err-entry-clause-none g c =
    let none : length c.args.entries.now ≤ c.bound.result = grind (arith, c.in_err-entry.ensures) in
    rw c.from_residual.ensures (none_behind g.P.Group.addition g.met.P.Group.laws g.P.Group.first_outside (c.args.key.now, c.args.row.now) c.args.entries.now c.bound.result c.bound.ensures none)

pub returns-in-Equal-clause-some : goal.returns-in-Equal-clause-some
returns-in-Equal-clause-some g c =
    let low : c.bound.result < length c.args.entries.now = grind (arith, c.in_ok-entry.ensures) in
    found_there g.P.Group.addition g.met.P.Group.laws g.P.Group.first_outside (c.args.key.now, c.args.row.now) c.args.entries.now c.bound.result c.in_ok-entry.entry.now c.requires c.bound.ensures low c.in_ok-entry.ensures.lookup.1
    (sym c.compare_place.ensures ∙ c.in-Equal.is)

pub returns-in-Less : goal.returns-in-Less
returns-in-Less g c =
    let low : c.bound.result < length c.args.entries.now = grind (arith, c.in_ok-entry.ensures) in
    record {
      none = other_there g.P.Group.addition g.met.P.Group.laws g.P.Group.first_outside (c.args.key.now, c.args.row.now) c.args.entries.now c.bound.result c.in_ok-entry.entry.now c.requires c.bound.ensures low c.in_ok-entry.ensures.lookup.1
          (λ same. elim c.in-Less.is [ inl less ↦ cc (less, c.compare_place.ensures, same) | inr greater ↦ cc (greater, c.compare_place.ensures, same) ]);
      some = tt;
    }
