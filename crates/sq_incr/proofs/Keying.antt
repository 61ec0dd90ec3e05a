-- The part of a Z-set in a shard, by whole rows.
use Rattle.std.proofs.Common.{◌≡◌, ℕ, suc, ◌<◌, false, cond, [], get_or, filter, length, List, Some, arith, sym, ap, subst, ◌∙◌}
use Rattle.std.specs.Prelude.{option_map, slice_get}
use Rattle.std.proofs.lemmas.List.{length-map}
use Rattle.std.proofs.lemmas.Option.{same_Some, slice_get-map}
use Rattle.sq_expr.specs.Meaning.{columns_of}
use Rattle.sq_value.specs.Order.{row_cmp}
use Rattle.sq_value.specs.OrderLaws.{row_cmp-total, row_cmp-antisymmetric}
use Rattle.sq_algebra.specs.Keyed.{cut, numbers_below}
use Rattle.sq_algebra.specs.ZSet.{entries, from_pairs}
use Rattle.sq_algebra.specs.Groups.{z_sets}
use Rattle.sq_algebra.proofs.AbelianLemmas.{neutral_right}
use Rattle.sq_algebra.proofs.ShardLemmas.{cuts_add_up}
use Rattle.sq_zset.specs.GroupLaws.{rows_are_abelian}
use Rattle.sq_algebra.proofs.EntryLemmas.{entries-cut}
use Rattle.sq_algebra.specs.Groups.{z_sets}
use Rattle.sq_algebra.proofs.AbelianLemmas.{neutral_right}
use Rattle.sq_algebra.proofs.ShardLemmas.{cuts_add_up}
use Rattle.sq_zset.specs.GroupLaws.{rows_are_abelian}
use Rattle.sq_algebra.proofs.EntryLemmas.{from_pairs-entries}
use Rattle.sq_circuit.specs.Nodes.{Rows}
use Rattle.sq_ops.specs.Aggregates.{group_columns}
use Rattle.sq_ops.specs.declared.aggregate.AggSpec.{AggSpec}
use Rattle.sq_shard.specs.Pairs.{IsLight, IsReady, sums}
use Rattle.sq_shard.specs.Shards.{part, parts, shards}
use Rattle.sq_zset.specs.Pairs.{weighted_rows}
use Rattle.sq_zset.specs.Range.{IsInRange}
use Rattle.sq_zset.specs.declared.pair.Pair.{Pair}
use Rattle.sq_incr.specs.Inputs.{HaveColumns, is_own}
use Rattle.sq_incr.proofs.Noting.{got_at}
use Rattle.sq_incr.proofs.Ordering.{got_number, length-numbers}
use Rattle.sq_incr.proofs.Fitting.{cut_fits}

module _ (n m : ℕ) (some : n ≡ suc m) (s : ℕ) (z : Rows) (pairs : List Pair) (own : weighted_rows pairs ≡ filter (is_own n s) (entries z)) where
  pub own_sums : sums pairs ≡ cut (shards n) (λ row. row) s z
  own_sums =
      ap (from_pairs row_cmp) (own ∙ ap (λ k. filter (is_own k s) (entries z)) some ∙ sym (entries-cut row_cmp row_cmp-total (shards (suc m)) (λ row. row) s z))
      ∙ from_pairs-entries row_cmp row_cmp-total (cut (shards (suc m)) (λ row. row) s z)
      ∙ sym (ap (λ k. cut (shards k) (λ row. row) s z) some)

  pub own_ready : IsInRange z → IsLight pairs → IsReady pairs
  own_ready fits light = record { light = light; in_range = subst IsInRange (sym own_sums) (cut_fits (shards n) (λ row. row) s z fits) }

-- with one shard all rows are there
pub only_shard : (n s : ℕ) (z : Rows) → n ≡ 1 → s < n → z ≡ cut (shards n) (λ row. row) s z
only_shard n s z one low =
    let first : s ≡ 0 = omega (arith, one, low) in
    sym (subst (λ k. cut (shards k) (λ row. row) 0 z ≡ z) (sym one) alone)
    ∙ sym (ap (λ k. cut (shards n) (λ row. row) k z) first)
  where
    alone : cut (shards 1) (λ row. row) 0 z ≡ z
    alone = sym (neutral_right (z_sets row_cmp) rows_are_abelian (cut (shards 1) (λ row. row) 0 z)) ∙ cuts_add_up (shards 1) row_cmp (λ row. row) row_cmp-total row_cmp-antisymmetric z

-- ---- parts by columns
part_is : (n : ℕ) (columns : List ℕ) (z : Rows) (s : ℕ) → s < n → slice_get (parts n columns z) s ≡ Some (cut (shards n) (columns_of columns) s z)
part_is n columns z s low = slice_get-map (λ k. part n columns k z) (numbers_below n) s ∙ ap (option_map (λ k. part n columns k z)) (got_number n s low)

pub parts_count : (n : ℕ) (columns : List ℕ) (z : Rows) (items : List Rows) → items ≡ parts n columns z → length items ≡ n
parts_count n columns z items is = ap length is ∙ length-map (numbers_below n) (λ k. part n columns k z) ∙ length-numbers n

pub part_at : (n : ℕ) (columns : List ℕ) (z : Rows) (items : List Rows) (s : ℕ) (x : Rows) → items ≡ parts n columns z → s < n → x ≡ get_or items s x → x ≡ cut (shards n) (columns_of columns) s z
part_at n columns z items s x is low got =
    same_Some x (cut (shards n) (columns_of columns) s z)
    (sym (got_at items s x (let many = parts_count n columns z items is in omega (arith, many, low)) got) ∙ ap (λ xs. slice_get xs s) is ∙ part_is n columns z s low)

pub group_keys : (spec : AggSpec) (columns : List ℕ) (z : Rows) → spec.global ≡ false → columns ≡ spec.group → HaveColumns (group_columns spec) z → HaveColumns columns z
group_keys spec columns z own is have = subst (λ cs. HaveColumns cs z) (ap (λ b. cond b [] spec.group) own ∙ sym is) have
