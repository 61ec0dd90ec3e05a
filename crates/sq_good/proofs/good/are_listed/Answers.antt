use Rattle.std.proofs.Common.{◌≤◌, length, rules, subst, take_all}
use Rattle.std.specs.List.{AllByRecursion}
use Rattle.sq_circuit.specs.Invariant.{IsListed}
use Rattle.sq_good.proofs.Tables.{all_listed, next_listed}
use Rattle.sq_good.proofs.good.are_listed.Goals as goal

pub loop-i-preserved : goal.loop-i-preserved
loop-i-preserved c =
    next_listed c.args.tables.now c.loop-i.i c.index-tables-i.result (search rules) c.index-tables-i.is (c.is_listed.ensures c.if-not-is_listed.false) c.loop-i.invariant

pub returns : goal.returns
returns c _ =
    let past : length c.args.tables.now ≤ c.loop-i.i = search rules in
    all_listed c.args.tables.now (subst (AllByRecursion IsListed) (take_all c.loop-i.i c.args.tables.now past) c.loop-i.invariant)
