use Rattle.std.proofs.Common.{arith, ◌≡◌, ◌<◌, ◌∙◌, ◌++◌, ◌∷◌, [], ap, sym, subst, map, get_or, vec_items}
use Rattle.std.specs.List.{AllByRecursion}
use Rattle.std.specs.Vec.Iter.{into_iter_items}
use Rattle.std.proofs.lemmas.List.{get_or-map, length-map, map-set, nil_from_length}
use Rattle.std.proofs.lemmas.List.Elements.{recursion_from_All}
use Rattle.sq_algebra.specs.ZSet.{entries}
use Rattle.sq_zset.specs.Pairs.{weighted_rows}
use Rattle.sq_shard.specs.Pairs.{IsLight}
use Rattle.sq_shard.specs.Shards.{HasColumns}
use Rattle.sq_shard.proofs.Sharing.{Sharing, begun, ended, taken}
use Rattle.sq_shard.proofs.split.shares.Goals as goal

pub loop-entry-init : goal.loop-entry-init
loop-entry-init c =
    let gives : into_iter_items c.into_iter-entry-iterator.result ≡ c.into_entries-entry-items.result.items = c.into_iter-entry-iterator.ensures.into_iter_gives.0 in
    subst (Sharing c.args.shards c.args.columns.now (entries c.args.z) (map vec_items c.in_ok-lists.lists.items)) (sym (gives ∙ c.into_entries-entry-items.ensures.entries))
    (begun c.args.shards c.args.columns.now (entries c.args.z) (map vec_items c.in_ok-lists.lists.items) c.in_ok-lists.ensures c.into_entries-entry-items.ensures.in_range
    (recursion_from_All (λ e. HasColumns c.args.columns.now e.0) (entries c.args.z) c.requires.columns))

pub loop-entry-preserved : goal.loop-entry-preserved
loop-entry-preserved c =
    let at = subst (Sharing c.args.shards c.args.columns.now (entries c.args.z) (map vec_items c.loop-entry.lists.items)) c.in-Some.ensures.steps.0 c.loop-entry.invariant in
    let old : c.index_mut.result.now.items ≡ get_or (map vec_items c.loop-entry.lists.items) c.shard_at-shard.result [] =
    ap vec_items c.index_mut.ensures.value
    ∙ sym (get_or-map vec_items c.loop-entry.lists.items c.shard_at-shard.result c.index_mut.result.now [] (subst (λ n. c.shard_at-shard.result < n) (sym c.loop-entry.invariant.count ∙ length-map c.loop-entry.lists.items vec_items) c.shard_at-shard.ensures.inside)) in
    subst (λ ls. Sharing c.args.shards c.args.columns.now (entries c.args.z) ls (into_iter_items c.next.new.self)) (sym (map-set vec_items c.loop-entry.lists.items c.shard_at-shard.result c.push_pair.new.pairs))
    (taken c.args.shards c.args.columns.now (entries c.args.z) c.in-Some.entry (into_iter_items c.next.new.self) c.shard_at-shard.result c.shard_at-shard.ensures.number (map vec_items c.loop-entry.lists.items) c.push_pair.new.pairs.items at c.shard_at-shard.ensures.inside (c.in_ok-push_pair.ensures.pairs ∙ ap (λ ps. weighted_rows ps ++ c.in-Some.entry ∷ []) old) (λ light. c.in_ok-push_pair.ensures.light (subst IsLight (sym old) light)))

pub returns-clause-shares : goal.returns-clause-shares
returns-clause-shares c =
    let none : into_iter_items c.loop-entry.entry-iterator ≡ [] = nil_from_length (into_iter_items c.loop-entry.entry-iterator) (let ends = c.in-None.ensures.steps.0 in let fits = c.loop-entry.entry-iterator.rest.ok in omega (arith, ends, fits)) in
    ended c.args.shards c.args.columns.now (entries c.args.z) (map vec_items c.loop-entry.lists.items) (subst (Sharing c.args.shards c.args.columns.now (entries c.args.z) (map vec_items c.loop-entry.lists.items)) none c.loop-entry.invariant)
