use Rattle.std.proofs.Common.{◌≡◌, ◌≤◌, ◌%◌, length, ◌∙◌, ap, fold, take_all}
use Rattle.sq_expr.specs.Meaning.{columns_of}
use Rattle.sq_shard.specs.Shards.{onto}
use Rattle.sq_shard.proofs.Hashing.{row_hash}
use Rattle.sq_shard.proofs.key.shard_at.Goals as goal

pub returns-clause-number : goal.returns-clause-number
returns-clause-number c =
    let past : length c.args.columns.now ≤ c.loop-column.column-index = c.loop-column-test.false in
    c.number_of.ensures.number
    ∙ ap (λ h. h % c.args.shards) (c.loop-column.invariant
    ∙ ap (λ cs. fold onto 0 (columns_of cs c.args.row.now)) (take_all c.loop-column.column-index c.args.columns.now past)
    ∙ row_hash (columns_of c.args.columns.now c.args.row.now))
