use Rattle.std.proofs.Common.{◌≡◌, ◌≤◌, ◌%◌, length, ◌∙◌, ap, sym, fold, subst, take_all}
use Rattle.sq_shard.specs.Shards.{onto}
use Rattle.sq_shard.proofs.Hashing.{row_hash, row_more}
use Rattle.sq_shard.proofs.key.shard_of.Goals as goal

pub loop-i-preserved : goal.loop-i-preserved
loop-i-preserved c =
    c.mix_value-h.ensures
    ∙ ap (λ h. onto h c.at.result.now) c.loop-i.invariant
    ∙ row_more c.args.key.now c.loop-i.i c.at.result.now c.at.ensures

pub returns-clause-number : goal.returns-clause-number
returns-clause-number c =
    let past : length c.args.key.now ≤ c.loop-i.i = subst (λ n. n ≤ c.loop-i.i) c.len-i-end.ensures c.loop-i-test.false in
    c.number_of.ensures.number
    ∙ ap (λ h. h % c.args.shards) (c.loop-i.invariant ∙ ap (fold onto 0) (take_all c.loop-i.i c.args.key.now past) ∙ row_hash c.args.key.now)
