use Rattle.std.proofs.Common.{◌≡◌, ◌≤◌, length, rules, subst}
use Rattle.sq_circuit.specs.Invariant.{table_count}
use Rattle.sq_good.proofs.Tables.{good}
use Rattle.sq_good.proofs.good.are_good.Goals as goal

pub returns : goal.returns
returns c _ =
    let count : length c.args.tables.now ≡ table_count c.args.circuit.now = search rules in
    let past : length c.args.circuit.now ≤ c.loop-i.i = subst (λ n. n ≤ c.loop-i.i) c.len-i-end.ensures.len c.loop-i-test.false in
    good c.args.circuit.now c.args.tables.now c.loop-i.i count (c.are_listed.ensures c.if-not-are_listed.false) past c.loop-i.invariant
