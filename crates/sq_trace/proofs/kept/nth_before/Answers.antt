use Rattle.std.proofs.Common.{◌<◌, length, sym, ◌∙◌, arith}
use Rattle.std.specs.Prelude.{option_copied}
use Rattle.sq_algebra.specs.ZSet.{entries}
use Rattle.sq_trace.proofs.Firsts.{nth_at, ends_here}
use Rattle.sq_trace.proofs.kept.nth_before.Goals as goal

pub returns-then-is_before-clause-some : goal.returns-then-is_before-clause-some
returns-then-is_before-clause-some c =
    let low : c.args.n < length (entries c.args.change.now) = grind (arith, c.if-n-len.false, c.len.ensures.len) in
    record {
      weight = c.at.result.1;
      nth = nth_at c.args.side c.args.change.now c.args.n c.len-2.result c.place.result (c.at.result.0.now, c.at.result.1) low c.len-2.ensures.len c.place.ensures c.at.ensures.entry;
      before = sym c.is_before.ensures ∙ c.if-is_before.true;
    }

pub returns-else-is_before-clause-none : goal.returns-else-is_before-clause-none
returns-else-is_before-clause-none c =
    let low : c.args.n < length (entries c.args.change.now) = grind (arith, c.if-n-len.false, c.len.ensures.len) in
    let nth = nth_at c.args.side c.args.change.now c.args.n c.len-2.result c.place.result (c.at.result.0.now, c.at.result.1) low c.len-2.ensures.len c.place.ensures c.at.ensures.entry in
    ends_here c.args.side c.args.change.now c.args.n (option_copied c.args.other) (c.at.result.0.now, c.at.result.1) c.is_before.result nth c.is_before.ensures c.if-is_before.false
