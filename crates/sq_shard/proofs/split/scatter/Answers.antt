use Rattle.std.proofs.Common.{◌≡◌, sym, subst}
use Rattle.std.specs.List.{All}
use Rattle.sq_algebra.specs.ZSet.{entries}
use Rattle.sq_shard.specs.Shards.{HasColumns}
use Rattle.sq_shard.proofs.split.scatter.Goals as goal

pub scatter_owned-requires-clause-columns : goal.scatter_owned-requires-clause-columns
scatter_owned-requires-clause-columns c = subst (λ z. All (λ e. HasColumns c.args.columns.now e.0) (entries z)) (sym c.in_ok-clone_group.ensures.ok) c.requires.columns
