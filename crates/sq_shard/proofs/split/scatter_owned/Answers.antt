use Rattle.std.proofs.Common.{◌≡◌, ◌≤◌, ◌∙◌, ◌∷◌, ◌++◌, [], ℕ, suc, ap, sym, subst, map, vec_items, arith}
use Rattle.std.specs.Prelude.{pred}
use Rattle.std.specs.List.{AllByRecursion}
use Rattle.sq_algebra.specs.ZSet.{entries}
use Rattle.sq_shard.specs.Pairs.{AreShares, IsReady, sums}
use Rattle.sq_shard.specs.Shards.{parts}
use Rattle.sq_shard.proofs.Parting.{only_part, parts_are, ready}
use Rattle.sq_shard.proofs.split.scatter_owned.Goals as goal

pub returns-then-shards-eq1 : goal.returns-then-shards-eq1
returns-then-shards-eq1 c = record {
  parts =
      c.in_ok-push.ensures.items
      ∙ ap (λ xs. xs ++ c.args.z ∷ []) c.in_ok-parts.ensures.items
      ∙ only_part c.args.columns.now c.args.z
      ∙ ap (λ n. parts n c.args.columns.now c.args.z) (sym c.if-shards-eq1.true);
}

pub parts_of-requires : goal.parts_of-requires
parts_of-requires c =
    let some : c.args.shards ≡ suc (pred c.args.shards) = let above = c.requires.shards.0 in omega (arith, above) in
    ready (pred c.args.shards) c.args.columns.now c.args.z (map vec_items c.in_ok-lists.lists.items) c.in_ok-lists.ensures.in_range
    (subst (λ n. AreShares n c.args.columns.now (entries c.args.z) (map vec_items c.in_ok-lists.lists.items)) some c.in_ok-lists.ensures.shares)

pub returns : goal.returns
returns c = record {
  parts =
      let some : c.args.shards ≡ suc (pred c.args.shards) = let above = c.requires.shards.0 in omega (arith, above) in
      c.in_ok-parts-2.ensures
      ∙ parts_are (pred c.args.shards) c.args.columns.now c.args.z (map vec_items c.in_ok-lists.lists.items)
      (subst (λ n. AreShares n c.args.columns.now (entries c.args.z) (map vec_items c.in_ok-lists.lists.items)) some c.in_ok-lists.ensures.shares)
      ∙ ap (λ n. parts n c.args.columns.now c.args.z) (sym some);
}
