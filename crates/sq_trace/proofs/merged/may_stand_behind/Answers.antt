use Rattle.std.proofs.Common.{◌<◌, ◌≤◌, ◌/◌, length, subst, leb-true, arith}
use Rattle.sq_trace.proofs.Commits.{behind_older}
use Rattle.sq_trace.proofs.merged.may_stand_behind.Goals as goal

pub returns-then-older-gt0-clause-fits : goal.returns-then-older-gt0-clause-fits
returns-then-older-gt0-clause-fits g c half =
    let same = c.entries-older.ensures.entries in
    let fits : length c.args.run.now ≤ length c.entries-older.result.now / 2 = leb-true _ _ half in
    behind_older c.args.parts.now c.args.stay c.args.run.now c.index-parts-stay.result (grind (arith, c.if-stay-eq0)) c.requires c.index-parts-stay.is
    (subst (λ es. 0 < length es) same c.if-older-gt0.true) (subst (λ es. length c.args.run.now ≤ length es / 2) same fits)
