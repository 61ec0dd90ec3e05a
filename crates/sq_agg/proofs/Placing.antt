-- The map from the keys of the groups to the places of their rows, row after row.
use Rattle.std.proofs.Common.{◌≡◌, ℕ, ◌+◌, ◌<◌, ◌≤◌, List, [], ◌∷◌, ◌++◌, map, Bool, true, false, cond, take, length, ℤ, pos, Some, IsSome, refl, sym, ap, ap₂, subst, ◌∙◌, Less, Equal, Greater, is_eq, take_all, arith}
use Rattle.std.specs.Prelude.{slice_get}
use Rattle.std.specs.BTreeMap as tree
use Rattle.std.specs.BTreeMap.{BTreeMap, insert_entry, is_at}
use Rattle.std.specs.Global.{Vec}
use Rattle.std.specs.List.{All}
use Rattle.std.specs.List.Sorted.{IsStrictlySortedBy}
use Rattle.std.specs.Map as std_map
use Rattle.std.specs.Ordering.{match_ordering}
use Rattle.std.proofs.lemmas.List.{map-append}
use Rattle.std.proofs.lemmas.Map.{lookup-none}
use Rattle.std.proofs.lemmas.Map.Entries.{none_below_head}
use Rattle.std.proofs.lemmas.Map.Keys.{sorted_tail}
use Rattle.sq_expr.proofs.Lists.{take_more}
use Rattle.sq_value.specs.declared.value.Value.{Value}
use Rattle.sq_value.specs.Order.{row_cmp}
use Rattle.sq_value.specs.OrderLaws.{row_cmp-total, row_cmp-antisymmetric}
use Rattle.sq_algebra.specs.Keyed.{keys_of}
use Rattle.sq_algebra.specs.Listed.{count, in_order, place}
use Rattle.sq_algebra.specs.ZSet.{ZSet, entries, keys, of_list}
use Rattle.sq_algebra.proofs.Lists.{count-append}
use Rattle.sq_algebra.proofs.MemberLemmas.{entries-of_list}
use Rattle.sq_algebra.proofs.Weights.{same_weights, weight-of_list}
use Rattle.sq_ops.specs.declared.aggregate.AggSpec.{AggSpec}
use Rattle.sq_ops.specs.Aggregates.{group_of, groups_of}
use Rattle.sq_ops.specs.Indexes.{entries_at, with_key}
use Rattle.sq_expr.specs.Meaning.{columns_of}
use Rattle.sq_ops.proofs.Indexed.{Indexed, all_rows, none_indexed, one_indexed, places_in_range}
use Rattle.sq_agg.specs.ByKey.{places_of}

-- ---- the keys of an entry that is put in its place
module _ {X : Type 0} where
  pub keys_with : (es : List (List Value × X)) (k : List Value) (v : X) → std_map.keys_of (insert_entry row_cmp es k v) ≡ place row_cmp k (std_map.keys_of es)
  keys_with [] k v = refl
  keys_with (e ∷ es) k v =
      elim (row_cmp k e.0) as (λ r. std_map.keys_of (match_ordering r ((k, v) ∷ e ∷ es) ((e.0, v) ∷ es) (e ∷ insert_entry row_cmp es k v)) ≡ match_ordering r (k ∷ e.0 ∷ std_map.keys_of es) (e.0 ∷ std_map.keys_of es) (e.0 ∷ place row_cmp k (std_map.keys_of es))) [
        | Less ↦ refl
        | Equal ↦ refl
        | Greater ↦ ap (λ ks. e.0 ∷ ks) (keys_with es k v)
      ]

  -- a key that is there has its place
  pub keys_stay : (es : List (List Value × X)) (k : List Value) → IsStrictlySortedBy row_cmp (std_map.keys_of es) → IsSome (std_map.lookup (is_at (row_cmp k)) es) → std_map.keys_of es ≡ place row_cmp k (std_map.keys_of es)
  keys_stay [] k sorted there = absurd (cc there)
  keys_stay (e ∷ es) k sorted there =
      elim (row_cmp k e.0) as (λ r. row_cmp k e.0 ≡ r → e.0 ∷ std_map.keys_of es ≡ match_ordering r (k ∷ e.0 ∷ std_map.keys_of es) (e.0 ∷ std_map.keys_of es) (e.0 ∷ place row_cmp k (std_map.keys_of es))) [
        | Less ↦ λ p. absurd (cc (subst (λ o. IsSome o) (lookup-none (is_at (row_cmp k)) (e ∷ es) (none_below_head row_cmp-total k e es sorted p)) there))
        | Equal ↦ λ p. refl
        | Greater ↦ λ p. ap (λ ks. e.0 ∷ ks) (keys_stay es k (sorted_tail row_cmp e.0 (std_map.keys_of es) sorted) (subst (λ r. IsSome (cond (is_eq r) (Some e.1) (std_map.lookup (is_at (row_cmp k)) es))) p there))
      ] refl

-- ---- keys in order, one more at the end
same_keys : (n : List Value → ℤ) (cs : List (List Value)) → keys (map (λ c. (c, n c)) cs) ≡ cs
same_keys n [] = refl
same_keys n (c ∷ cs) = ap (λ xs. c ∷ xs) (same_keys n cs)

keys_listed : (xs : List (List Value)) → keys (entries (of_list row_cmp xs)) ≡ in_order row_cmp xs
keys_listed xs = ap keys (entries-of_list row_cmp row_cmp-total row_cmp-antisymmetric xs) ∙ same_keys (λ c. pos (count row_cmp c xs)) (in_order row_cmp xs)

-- the order in which keys come is no matter
in_order_last : (xs : List (List Value)) (x : List Value) → in_order row_cmp (x ∷ xs) ≡ in_order row_cmp (xs ++ x ∷ [])
in_order_last xs x =
    sym (keys_listed (x ∷ xs))
    ∙ ap (λ z. keys (entries z)) (same_weights row_cmp row_cmp-total row_cmp-antisymmetric (of_list row_cmp (x ∷ xs)) (of_list row_cmp (xs ++ x ∷ [])) (λ k.
    weight-of_list row_cmp row_cmp-total k (x ∷ xs) ∙ ap (λ (n : ℕ). pos n) (turned k) ∙ sym (weight-of_list row_cmp row_cmp-total k (xs ++ x ∷ []))))
    ∙ keys_listed (xs ++ x ∷ [])
  where
    turned : (k : List Value) → count row_cmp k (x ∷ xs) ≡ count row_cmp k (xs ++ x ∷ [])
    turned k = let first = count-append row_cmp k (x ∷ []) xs in let last = count-append row_cmp k xs (x ∷ []) in omega arith

-- ---- the first n rows
module _ (spec : AggSpec) (es : List (List Value × ℤ)) where
  abbrev keys_if : Bool → ℕ → List (List Value)
  keys_if b n = cond b ([] ∷ []) (in_order row_cmp (map (λ e. columns_of (cond b [] spec.group) e.0) (take n es)))

  abbrev keys_to : ℕ → List (List Value)
  keys_to n = keys_if spec.global n

  -- the places of the first n rows stand in the map, at the keys of their groups
  pub record Placed (n : ℕ) (groups : BTreeMap (List Value) (Vec ℕ)) : Type 0 where
    pub keys : tree.keys groups ≡ keys_to n
    pub rows : Indexed (λ row. Some (group_of spec row)) es n (record { places = groups })

  pub none_placed : (groups : BTreeMap (List Value) (Vec ℕ)) → tree.keys groups ≡ cond spec.global ([] ∷ []) [] → ((key : List Value) → places_of groups key ≡ []) → Placed 0 groups
  none_placed groups keys none = record { keys = keys; rows = none_indexed (λ row. Some (group_of spec row)) es (record { places = groups }) none }

  module _ (n : ℕ) (row : List Value) (w : ℤ) (found : slice_get es n ≡ Some (row, w)) where
    keys_more : place row_cmp (group_of spec row) (keys_to n) ≡ keys_to (n + 1)
    keys_more =
        elim spec.global as (λ b. place row_cmp (columns_of (cond b [] spec.group) row) (keys_if b n) ≡ keys_if b (n + 1)) [
          | true ↦ refl
          | false ↦
              in_order_last (map (λ e. columns_of spec.group e.0) (take n es)) (columns_of spec.group row)
              ∙ ap (in_order row_cmp) (sym (ap (map (λ e. columns_of spec.group e.0)) (take_more es n (row, w) found) ∙ map-append (λ e. columns_of spec.group e.0) (take n es) ((row, w) ∷ [])))
        ]

    pub one_placed : (key : List Value) → key ≡ group_of spec row → (old new : BTreeMap (List Value) (Vec ℕ)) → Placed n old → tree.keys new ≡ place row_cmp key (tree.keys old) → ((k : List Value) → places_of new k ≡ places_of old k ++ cond (is_eq (row_cmp k key)) (n ∷ []) []) → Placed (n + 1) new
    one_placed key is old new so_far keys places = record {
      keys = keys ∙ ap₂ (place row_cmp) is so_far.keys ∙ keys_more;
      rows =
          one_indexed (λ row. Some (group_of spec row)) es n row w found (record { places = old }) (record { places = new }) so_far.rows
          (λ k. places k ∙ ap (λ d. places_of old k ++ cond (is_eq (row_cmp k d)) (n ∷ []) []) is);
    }

  module _ (n : ℕ) (groups : BTreeMap (List Value) (Vec ℕ)) (placed : Placed n groups) where
    pub within_placed : n ≤ length es → (key : List Value) → All (λ i. i < length es) (places_of groups key)
    within_placed low = places_in_range (λ row. Some (group_of spec row)) es n (record { places = groups }) placed.rows low

    pub all_placed : length es ≤ n → (key : List Value) → entries_at es (places_of groups key) ≡ with_key (λ row. Some (group_of spec row)) key es
    all_placed past = all_rows (λ row. Some (group_of spec row)) es n (record { places = groups }) placed.rows past

pub keys_placed : (spec : AggSpec) (z : ZSet (List Value) row_cmp) (n : ℕ) (groups : BTreeMap (List Value) (Vec ℕ)) → Placed spec (entries z) n groups → length (entries z) ≤ n → tree.keys groups ≡ groups_of spec z
unfolding keys_of
keys_placed spec z n groups placed past = placed.keys ∙ ap (λ es. cond spec.global ([] ∷ []) (in_order row_cmp (map (λ e. group_of spec e.0) es))) (take_all n (entries z) past)
