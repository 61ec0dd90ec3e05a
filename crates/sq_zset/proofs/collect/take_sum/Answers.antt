use Rattle.std.proofs.Common.{rules, ◌∙◌, SFits, to_z-of_z}
use mir.Syntax.{w128}
use Rattle.sq_zset.proofs.Collecting.{takes_same, takes_none}
use Rattle.sq_zset.proofs.collect.take_sum.Goals as goal

pub returns-in_default-clause-sum : goal.returns-in_default-clause-sum
returns-in_default-clause-sum c =
    (takes_none c.deref.result.now c.args.sums.now.items c.args.row.now c.in-Some.last.now c.eq.result c.deref.ensures.value c.in-Some.ensures.value c.eq.ensures c.if-eq.false).sum_is

pub returns-in_default-clause-rest : goal.returns-in_default-clause-rest
returns-in_default-clause-rest c =
    (takes_none c.deref.result.now c.args.sums.now.items c.args.row.now c.in-Some.last.now c.eq.result c.deref.ensures.value c.in-Some.ensures.value c.eq.ensures c.if-eq.false).rest_is

pub returns-clause-sum : goal.returns-clause-sum
returns-clause-sum c =
    let fits : SFits w128 c.in-Some.last.now.1 = search rules in
    to_z-of_z fits
    ∙ (takes_same c.deref.result.now c.args.sums.now.items c.truncate.new.self.items c.len.result c.args.row.now c.in-Some.last.now c.eq.result c.deref.ensures.value c.in-Some.ensures.value c.eq.ensures c.if-eq.true
    (c.len.ensures ∙ c.args.sums.now.ok.0) c.truncate.ensures.items).sum_is

pub returns-clause-rest : goal.returns-clause-rest
returns-clause-rest c =
    (takes_same c.deref.result.now c.args.sums.now.items c.truncate.new.self.items c.len.result c.args.row.now c.in-Some.last.now c.eq.result c.deref.ensures.value c.in-Some.ensures.value c.eq.ensures c.if-eq.true
    (c.len.ensures ∙ c.args.sums.now.ok.0) c.truncate.ensures.items).rest_is
