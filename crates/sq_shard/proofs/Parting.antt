-- The sums of the lists of the shards are the parts of the Z-set.
use Rattle.std.proofs.Common.{◌≡◌, ℕ, zero, suc, ◌+◌, ◌≤◌, ◌<◌, ◌%◌, Bool, true, false, cond, not, ◌==◌, ℤ, List, [], ◌∷◌, ◌++◌, length, map, filter, get_or, None, Some, refl, sym, ap, subst, ◌∙◌, arith}
use Rattle.std.specs.Prelude.{pred}
use Rattle.std.specs.List.{All, AllByRecursion}
use Rattle.std.proofs.Math.Nat.{mod-one, zero-mod}
use Rattle.std.proofs.Math.Seq.{get_or-append_seam}
use Rattle.std.proofs.lemmas.Bool.Decides.{nat_tests}
use Rattle.std.proofs.lemmas.List.{get_or_append_left, get_or-map, length-append, same_lists, get_or_default}
use Rattle.std.proofs.lemmas.List.Elements.{recursion_from_All}
use Rattle.sq_value.specs.KeyBytes.{row_key}
use Rattle.sq_value.specs.Order.{row_cmp}
use Rattle.sq_value.specs.OrderLaws.{row_cmp-total, row_cmp-antisymmetric}
use Rattle.sq_value.specs.declared.value.Value.{Value}
use Rattle.sq_expr.specs.Meaning.{columns_of}
use Rattle.sq_algebra.specs.Groups.{sum_over, z_sets}
use Rattle.sq_algebra.specs.Keyed.{numbers_below}
use Rattle.sq_algebra.specs.ZSet.{ZSet, entries, from_pairs}
use Rattle.sq_algebra.proofs.EntryLemmas.{entries-cut, from_pairs-entries}
use Rattle.sq_algebra.proofs.ShardLemmas.{parts_gathered}
use Rattle.sq_zset.specs.Pairs.{weighted_rows}
use Rattle.sq_zset.specs.Range.{IsInRange, first_outside_in}
use Rattle.sq_zset.specs.declared.pair.Pair.{Pair}
use Rattle.sq_zset.proofs.Entries.{none_first}
use Rattle.sq_shard.specs.Pairs.{AreShares, IsReady, IsShare, in_shard, sums}
use Rattle.sq_shard.specs.Shards.{hash, part, parts, shard_number, shards}

abbrev Rows : Type 0
Rows = ZSet (List Value) row_cmp

length-map-lists : {A B : Type 0} (f : A → B) (xs : List A) → length (map f xs) ≡ length xs
length-map-lists f [] = refl
length-map-lists f (x ∷ xs) = ap suc (length-map-lists f xs)

-- ---- the numbers below n
length-numbers : (n : ℕ) → length (numbers_below n) ≡ n
length-numbers zero = refl
length-numbers (suc n) = let both = length-append (numbers_below n) (n ∷ []) in let rest = length-numbers n in omega arith

number_at : (n k d : ℕ) → k < n → get_or (numbers_below n) k d ≡ k
number_at zero k d below = absurd (omega arith)
number_at (suc n) k d below =
    elim (k == n) as (λ b. (k == n) ≡ b → get_or (numbers_below n ++ n ∷ []) k d ≡ k) [
      | true ↦ λ same.
          let equal : k ≡ n = grind (arith, nat_tests) in
          ap (λ i. get_or (numbers_below n ++ n ∷ []) i d) (equal ∙ sym (length-numbers n)) ∙ get_or-append_seam (numbers_below n) n [] d ∙ sym equal
      | false ↦ λ apart.
          let less : k < n = grind (arith, nat_tests) in
          get_or_append_left (numbers_below n) (n ∷ []) d k (subst (λ m. k < m) (sym (length-numbers n)) less) ∙ number_at n k d less
    ] refl

-- ---- entries that pass a test
still_inside : (p : List Value × ℤ → Bool) (es : List (List Value × ℤ)) → first_outside_in es ≡ None → first_outside_in (filter p es) ≡ None
still_inside p [] h = refl
still_inside p (e ∷ es) h =
    let ends = none_first e es h in
    elim (p e) as (λ b. first_outside_in (cond b (e ∷ filter p es) (filter p es)) ≡ None) [
      | true ↦ ap (λ b. cond (not b) (Some e.1) (first_outside_in (filter p es))) ends.0 ∙ still_inside p es ends.1
      | false ↦ still_inside p es ends.1
    ]

all_pass : (p : List Value × ℤ → Bool) → ((e : List Value × ℤ) → p e ≡ true) → (es : List (List Value × ℤ)) → filter p es ≡ es
all_pass p each [] = refl
all_pass p each (e ∷ es) = ap (λ b. cond b (e ∷ filter p es) (filter p es)) (each e) ∙ ap (λ xs. e ∷ xs) (all_pass p each es)

-- ---- parts, if there is a shard
module _ (m : ℕ) (columns : List ℕ) (z : Rows) where
  entries_of_part : (s : ℕ) → entries (part (suc m) columns s z) ≡ filter (in_shard (suc m) columns s) (entries z)
  entries_of_part s = entries-cut row_cmp row_cmp-total (shards (suc m)) (columns_of columns) s z

  sums_are : (s : ℕ) (pairs : List Pair) → IsShare (suc m) columns (entries z) s pairs → sums pairs ≡ part (suc m) columns s z
  sums_are s pairs share = ap (from_pairs row_cmp) (share.holds ∙ sym (entries_of_part s)) ∙ from_pairs-entries row_cmp row_cmp-total (part (suc m) columns s z)

  part_in_range : IsInRange z → (s : ℕ) → IsInRange (part (suc m) columns s z)
  part_in_range h s = ap first_outside_in (entries_of_part s) ∙ still_inside (in_shard (suc m) columns s) (entries z) h

  pub parts_are : (lists : List (List Pair)) → AreShares (suc m) columns (entries z) lists → map sums lists ≡ parts (suc m) columns z
  parts_are lists at = same_lists (map sums lists) (parts (suc m) columns z) (length-map-lists sums lists ∙ at.count ∙ sym (length-map-lists (λ s. part (suc m) columns s z) (numbers_below (suc m)) ∙ length-numbers (suc m))) (λ k d below.
      let inside : k < length lists = subst (λ n. k < n) (length-map-lists sums lists) below in
      let less : k < suc m = subst (λ n. k < n) at.count inside in
      get_or-map sums lists k [] d inside
      ∙ sums_are k (get_or lists k []) (at.each k less)
      ∙ sym (get_or-map (λ s. part (suc m) columns s z) (numbers_below (suc m)) k 0 d (subst (λ n. k < n) (sym (length-numbers (suc m))) less) ∙ ap (λ s. part (suc m) columns s z) (number_at (suc m) k 0 less)))

  pub ready : (lists : List (List Pair)) → IsInRange z → AreShares (suc m) columns (entries z) lists → AllByRecursion IsReady lists
  ready lists h at = recursion_from_All IsReady lists (λ k d inside.
      let less : k < suc m = subst (λ n. k < n) at.count inside in
      let share = at.each k less in
      subst IsReady (same_default k inside d) (record { light = share.light; in_range = subst IsInRange (sym (sums_are k (get_or lists k []) share)) (part_in_range h k) }))
    where
      same_default : (k : ℕ) → k < length lists → (d : List Pair) → get_or lists k [] ≡ get_or lists k d
      same_default k inside d = get_or_default lists k [] d inside

-- ---- a single shard
pub only_part : (columns : List ℕ) (z : Rows) → z ∷ [] ≡ parts 1 columns z
only_part columns z = ap (λ y. y ∷ []) (sym (sym (from_pairs-entries row_cmp row_cmp-total (part 1 columns 0 z)) ∙ ap (from_pairs row_cmp) (entries_of_part 0 columns z 0 ∙ all_pass (in_shard 1 columns 0) zeroth (entries z)) ∙ from_pairs-entries row_cmp row_cmp-total z))
  where
    zeroth : (e : List Value × ℤ) → in_shard 1 columns 0 e ≡ true
    zeroth e = ap (λ n. 0 == n) (mod-one (hash (row_key (columns_of columns e.0))))

-- ---- laws
some : (n : ℕ) → 0 < n → suc (pred n) ≡ n
some n above = omega (arith, above)

pub numbers_are : (n : ℕ) → 0 < n → (shards n).numbers ≡ numbers_below n
numbers_are n above = ap numbers_below (some n above)

pub shard_is : (n : ℕ) (key : List Value) → 0 < n → (shards n).shard key ≡ shard_number n key
shard_is n key above = ap (λ m. shard_number m key) (some n above)

pub empty_key : (n : ℕ) → shard_number n [] ≡ 0
empty_key n = zero-mod n

pub gathered : (n : ℕ) (columns : List ℕ) (z : Rows) → 0 < n → sum_over (z_sets row_cmp) (λ y. y) (parts n columns z) ≡ z
gathered n columns z above =
    ap (λ ns. sum_over (z_sets row_cmp) (λ y. y) (map (λ s. part n columns s z) ns)) (sym (numbers_are n above))
    ∙ parts_gathered (shards n) row_cmp (columns_of columns) row_cmp-total row_cmp-antisymmetric z
