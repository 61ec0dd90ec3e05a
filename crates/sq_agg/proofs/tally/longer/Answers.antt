use Rattle.std.proofs.Common.{rules, ◌≤◌, length}
use Rattle.sq_agg.proofs.Summing.{left_longer, right_longer}
use Rattle.sq_agg.proofs.tally.longer.Goals as goal

pub returns-then-a-b : goal.returns-then-a-b
returns-then-a-b c =
    let less : length c.args.a.now ≤ length c.args.b.now = search rules in
    right_longer c.args.a.now c.args.b.now less

pub returns-else-a-b : goal.returns-else-a-b
returns-else-a-b c =
    let less : length c.args.b.now ≤ length c.args.a.now = search rules in
    left_longer c.args.a.now c.args.b.now less
