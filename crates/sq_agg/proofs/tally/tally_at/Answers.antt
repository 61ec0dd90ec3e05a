use Rattle.std.proofs.Common.{rules, ◌≤◌, length}
use Rattle.sq_agg.proofs.Summing.{none_behind, read_or_none}
use Rattle.sq_agg.proofs.tally.tally_at.Goals as goal

pub returns-then-i-tallies-clause-tally : goal.returns-then-i-tallies-clause-tally
returns-then-i-tallies-clause-tally c = read_or_none c.args.tallies.now c.args.i

pub returns-clause-tally : goal.returns-clause-tally
returns-clause-tally c =
    let past : length c.args.tallies.now ≤ c.args.i = search rules in
    none_behind c.args.tallies.now c.args.i past
