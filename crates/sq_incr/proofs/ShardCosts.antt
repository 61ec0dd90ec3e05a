-- The costs of a node over the parts of all shards add up to its cost over the whole.
use Rattle.std.proofs.Common.{◌≡◌, ℕ, suc, ◌+◌, ◌*◌, ◌==◌, Bool, true, false, cond, ◌&&◌, if◌then◌else◌, List, [], ◌∷◌, ◌++◌, map, length, ℤ, pos, ◌+ℤ◌, refl, sym, ap, ap₂, subst, ◌∙◌, arith, Ordering, Equal, Less, Greater, is_eq}
use Rattle.std.specs.Prelude.{Option, Some, None}
use Rattle.std.specs.List.{AllByRecursion, cons_option, filter, filter_map, sum_by}
use Rattle.std.proofs.lemmas.List.Elements.{All-from_recursion}
use Rattle.std.proofs.lemmas.List.Sums.{sum_by-cons}
use borrow.Author.Differences.{ints}
use mathlib.Core.Logic.{◌⊎◌, inl, inr}
use Rattle.sq_value.specs.Order.{row_cmp}
use Rattle.sq_value.specs.OrderLaws.{row_cmp-antisymmetric, row_cmp-total}
use Rattle.sq_value.specs.declared.value.Value.{Value}
use Rattle.sq_algebra.specs.Groups.{integers, sum_over}
use Rattle.sq_algebra.specs.Keyed.{Shards, at_key, at_some_key, cut, is_key}
use Rattle.sq_algebra.specs.Listed.{count, in_order}
use Rattle.sq_algebra.specs.ZSet.{entries}
use Rattle.sq_algebra.proofs.EachLemmas.{each-in_order}
use Rattle.sq_algebra.proofs.EntryLemmas.{entries-at_key, entries-cut, entries-keep}
use Rattle.sq_algebra.proofs.GroupLemmas.{integers-IsAbelian, sum_over-filter, sum_over-swap, sum_over_agree, sum_over_agree_at}
use Rattle.sq_algebra.proofs.KeyedLemmas.{sums_agree}
use Rattle.sq_algebra.proofs.Lists.{count-append, count-cons, count-in_order}
use Rattle.sq_algebra.proofs.ShardLemmas.{at_one_shard}
use Rattle.sq_circuit.specs.Costs.{aggregate_cost, changed_groups, changed_keys, first_group, group_cost, join_cost, left_rows, node_cost, right_rows, rows_in}
use Rattle.sq_circuit.specs.Nodes.{Rows, left_key, right_key}
use Rattle.sq_circuit.specs.declared.node.Node.{Node}
use Rattle.sq_circuit.specs.declared.node.Node.TheVariants.{Table, Linear, Join, Distinct, Aggregate, Plus, Minus, View}
use Rattle.sq_expr.specs.Meaning.{columns_of}
use Rattle.sq_ops.specs.Aggregates.{group_of}
use Rattle.sq_ops.specs.Joins.{key_in}
use Rattle.sq_ops.specs.declared.aggregate.AggSpec.{AggSpec}
use Rattle.sq_ops.specs.declared.bilinear.Pairing.{Pairing}

-- ---- sums of whole numbers that are counts
pub counted : {X : Type 0} (f : X → ℕ) (xs : List X) → sum_over integers (λ x. pos (f x)) xs ≡ pos (sum_by f xs)
counted f [] = refl
counted f (x ∷ xs) = ap (λ n. pos (f x) +ℤ n) (counted f xs) ∙ added (f x) (sum_by f xs) ∙ ap pos (sym (sum_by-cons f x xs))
  where
    added : (m n : ℕ) → pos m +ℤ pos n ≡ pos (m + n)
    added m n = omega (arith, ints)

pub same_counts : (m n : ℕ) → pos m ≡ pos n → m ≡ n
same_counts m n e = omega (arith, ints)

pub no_costs : {X : Type 0} (xs : List X) → sum_by (λ x. 0) xs ≡ 0
no_costs [] = refl
no_costs {X} (x ∷ xs) = let here = sum_by-cons {X = X} (λ x. 0) x xs in let rest = no_costs xs in omega (arith, here, rest)

-- ---- keys
abbrev Key : Type 0
Key = List Value

ties : (o : Ordering) → is_eq o ≡ true → o ≡ Equal
ties Less e = absurd (cc e)
ties Equal e = refl
ties Greater e = absurd (cc e)

same_key : (c d : Key) → is_eq (row_cmp c d) ≡ true → c ≡ d
same_key c d e = row_cmp-antisymmetric c d (ties (row_cmp c d) e)

filter_twice : {X : Type 0} (p q : X → Bool) → ((x : X) → p x ≡ true → q x ≡ true) → (xs : List X) → filter p (filter q xs) ≡ filter p xs
filter_twice p q h [] = refl
filter_twice p q h (x ∷ xs) = by (q x) (p x) refl refl (filter_twice p q h xs)
  where
    by : (b a : Bool) → q x ≡ b → p x ≡ a → filter p (filter q xs) ≡ filter p xs → filter p (cond b (x ∷ filter q xs) (filter q xs)) ≡ cond (p x) (x ∷ filter p xs) (filter p xs)
    by true a e f rest = ap (λ ys. cond (p x) (x ∷ ys) ys) rest
    by false true e f rest = let t : false ≡ true = sym e ∙ h x f in absurd (cc t)
    by false false e f rest = rest ∙ ap (λ b. cond b (x ∷ filter p xs) (filter p xs)) (sym f)

module _ (S : Shards Key) where
  abbrev IsIn : ℕ → Key → Type 0
  IsIn s c = (s == S.shard c) ≡ true

  -- ---- what each shard costs for its own keys
  module _ (part : ℕ → Key → ℕ) (keys : ℕ → List Key) (f : Key → ℕ) (all : List Key) (here : (s : ℕ) → AllByRecursion (IsIn s) (keys s)) (same : (s : ℕ) (c : Key) → IsIn s c → part s c ≡ f c)
      (counts : (s : ℕ) (c : Key) → IsIn s c → count row_cmp c (keys s) ≡ count row_cmp c all) where
    own : ℕ → Key → ℤ
    own s c = cond (s == S.shard c) (pos (f c)) (pos 0)

    owned : (s : ℕ) (cs : List Key) → AllByRecursion (IsIn s) cs → AllByRecursion (λ c. pos (part s c) ≡ own s c) cs
    unfolding own
    owned s [] h = tt
    owned s (c ∷ cs) h = (ap pos (same s c h.0) ∙ ap (λ b. cond b (pos (f c)) (pos 0)) (sym h.0), owned s cs h.1)

    of_shard : (s : ℕ) → pos (sum_by (part s) (keys s)) ≡ sum_over integers (own s) all
    unfolding own
    of_shard s =
        sym (counted (part s) (keys s))
        ∙ sum_over_agree_at integers (λ c. pos (part s c)) (own s) (keys s) (All-from_recursion (λ c. pos (part s c) ≡ own s c) (keys s) (owned s (keys s) (here s)))
        ∙ sums_agree row_cmp row_cmp-total row_cmp-antisymmetric integers integers-IsAbelian (own s) (keys s) all (λ c. by c (s == S.shard c) refl)
      where
        by : (c : Key) (b : Bool) → (s == S.shard c) ≡ b → (own s c ≡ pos 0) ⊎ (count row_cmp c (keys s) ≡ count row_cmp c all)
        by c true e = inr (counts s c e)
        by c false e = inl (ap (λ b. cond b (pos (f c)) (pos 0)) e)

    pub shards_cost : sum_by (λ s. sum_by (part s) (keys s)) S.numbers ≡ sum_by f all
    unfolding own
    shards_cost = same_counts (sum_by (λ s. sum_by (part s) (keys s)) S.numbers) (sum_by f all)
        (sym (counted (λ s. sum_by (part s) (keys s)) S.numbers)
        ∙ sum_over_agree integers (λ s. pos (sum_by (part s) (keys s))) (λ s. sum_over integers (own s) all) of_shard S.numbers
        ∙ sum_over-swap integers integers-IsAbelian own S.numbers all
        ∙ sum_over_agree integers (λ c. sum_over integers (λ s. own s c) S.numbers) (λ c. pos (f c)) (λ c. at_one_shard S integers integers-IsAbelian c (pos (f c))) all
        ∙ counted f all)

  -- ---- the keys of the rows of a shard
  module _ {X : Type 0} (key : X → Option Key) (place : X → Key) (tells : (x : X) (c : Key) → key x ≡ Some c → place x ≡ c) (s : ℕ) where
    abbrev mine : List X → List X
    mine xs = filter (λ x. s == S.shard (place x)) xs

    keys_here : (xs : List X) → AllByRecursion (IsIn s) (filter_map key (mine xs))
    keys_here [] = tt
    keys_here (x ∷ xs) = by (s == S.shard (place x)) (key x) refl refl (keys_here xs)
      where
        by : (b : Bool) (k : Option Key) → (s == S.shard (place x)) ≡ b → key x ≡ k → AllByRecursion (IsIn s) (filter_map key (mine xs)) → AllByRecursion (IsIn s) (filter_map key (cond b (x ∷ mine xs) (mine xs)))
        by false k e f rest = rest
        by true None e f rest = subst (λ k. AllByRecursion (IsIn s) (cons_option k (filter_map key (mine xs)))) (sym f) rest
        by true (Some c) e f rest = subst (λ k. AllByRecursion (IsIn s) (cons_option k (filter_map key (mine xs)))) (sym f) (subst (IsIn s) (tells x c f) e, rest)

    keys_counted : (c : Key) → IsIn s c → (xs : List X) → count row_cmp c (filter_map key (mine xs)) ≡ count row_cmp c (filter_map key xs)
    keys_counted c h [] = refl
    keys_counted c h (x ∷ xs) = by (s == S.shard (place x)) (key x) refl refl (keys_counted c h xs)
      where
        other : (d : Key) → key x ≡ Some d → (s == S.shard (place x)) ≡ false → (b : Bool) → is_eq (row_cmp c d) ≡ b → count row_cmp c (filter_map key xs) ≡ cond b 1 0 + count row_cmp c (filter_map key xs)
        other d f e true t = let wrong : true ≡ false = sym h ∙ ap (λ k. s == S.shard k) (same_key c d t ∙ sym (tells x d f)) ∙ e in absurd (cc wrong)
        other d f e false t = omega arith

        by : (b : Bool) (k : Option Key) → (s == S.shard (place x)) ≡ b → key x ≡ k → count row_cmp c (filter_map key (mine xs)) ≡ count row_cmp c (filter_map key xs)
            → count row_cmp c (filter_map key (cond b (x ∷ mine xs) (mine xs))) ≡ count row_cmp c (cons_option (key x) (filter_map key xs))
        by true None e f rest = ap (λ k. count row_cmp c (cons_option k (filter_map key (mine xs)))) f ∙ rest ∙ ap (λ k. count row_cmp c (cons_option k (filter_map key xs))) (sym f)
        by true (Some d) e f rest =
            ap (λ k. count row_cmp c (cons_option k (filter_map key (mine xs)))) f
            ∙ count-cons row_cmp c d (filter_map key (mine xs)) ∙ ap (λ n. cond (is_eq (row_cmp c d)) 1 0 + n) rest ∙ sym (count-cons row_cmp c d (filter_map key xs))
            ∙ ap (λ k. count row_cmp c (cons_option k (filter_map key xs))) (sym f)
        by false None e f rest = rest ∙ ap (λ k. count row_cmp c (cons_option k (filter_map key xs))) (sym f)
        by false (Some d) e f rest =
            rest ∙ other d f e (is_eq (row_cmp c d)) refl ∙ sym (count-cons row_cmp c d (filter_map key xs))
            ∙ ap (λ k. count row_cmp c (cons_option k (filter_map key xs))) (sym f)

  each_of_two : (P : Key → Type 0) (xs ys : List Key) → AllByRecursion P xs → AllByRecursion P ys → AllByRecursion P (xs ++ ys)
  each_of_two P [] ys g h = h
  each_of_two P (x ∷ xs) ys g h = (g.0, each_of_two P xs ys g.1 h)

  -- two lists in order hold a key equally often if the lists do
  ordered_counts : (c : Key) (xs ys xs' ys' : List Key) → count row_cmp c xs ≡ count row_cmp c xs' → count row_cmp c ys ≡ count row_cmp c ys' → count row_cmp c (in_order row_cmp (xs ++ ys)) ≡ count row_cmp c (in_order row_cmp (xs' ++ ys'))
  ordered_counts c xs ys xs' ys' e f =
      count-in_order row_cmp row_cmp-total c (xs ++ ys)
      ∙ ap (λ (n : ℕ). cond (n == 0) 0 1) (count-append row_cmp c xs ys ∙ ap₂ (λ m n. m + n) e f ∙ sym (count-append row_cmp c xs' ys'))
      ∙ sym (count-in_order row_cmp row_cmp-total c (xs' ++ ys'))

  -- ---- a join
  module _ (columns : List ℕ) (nulls : Bool) (s : ℕ) where
    abbrev key_of : List Value × ℤ → Option Key
    key_of e = key_in columns nulls e.0

    told : (e : List Value × ℤ) (c : Key) → key_of e ≡ Some c → columns_of columns e.0 ≡ c
    told e c is = by _ is
      where
        by : (b : Bool) → (if b then Some (columns_of columns e.0) else None) ≡ Some c → columns_of columns e.0 ≡ c
        by true t = cc t
        by false t = absurd (cc t)

    is_mine : (c : Key) → IsIn s c → (e : List Value × ℤ) → is_key row_cmp c (key_of e) ≡ true → (s == S.shard (columns_of columns e.0)) ≡ true
    is_mine c h e t = by (key_of e) refl t
      where
        by : (k : Option Key) → key_of e ≡ k → is_key row_cmp c k ≡ true → (s == S.shard (columns_of columns e.0)) ≡ true
        by None f t = absurd (cc t)
        by (Some d) f t = ap (λ k. s == S.shard k) (told e d f ∙ sym (same_key c d t)) ∙ h

    -- the rows of a key stand in its shard
    rows_of_key : (c : Key) → IsIn s c → (z : Rows) → rows_in (at_some_key row_cmp (key_in columns nulls) c (cut S (columns_of columns) s z)) ≡ rows_in (at_some_key row_cmp (key_in columns nulls) c z)
    unfolding at_some_key
    rows_of_key c h z = ap length
        (entries-keep row_cmp row_cmp-total (λ row. is_key row_cmp c (key_in columns nulls row)) (cut S (columns_of columns) s z)
        ∙ ap (filter (λ e. is_key row_cmp c (key_of e))) (entries-cut row_cmp row_cmp-total S (columns_of columns) s z)
        ∙ filter_twice (λ e. is_key row_cmp c (key_of e)) (λ e. s == S.shard (columns_of columns e.0)) (is_mine c h) (entries z)
        ∙ sym (entries-keep row_cmp row_cmp-total (λ row. is_key row_cmp c (key_in columns nulls row)) z))

    keys_mine : (d : Rows) → filter_map key_of (entries (cut S (columns_of columns) s d)) ≡ filter_map key_of (mine key_of (λ e. columns_of columns e.0) told s (entries d))
    keys_mine d = ap (filter_map key_of) (entries-cut row_cmp row_cmp-total S (columns_of columns) s d)

  module _ (op : Pairing) (y dy z dz : Rows) where
    abbrev left_part : ℕ → Rows → Rows
    left_part s x = cut S (columns_of op.left) s x

    abbrev right_part : ℕ → Rows → Rows
    right_part s x = cut S (columns_of op.right) s x

    abbrev left_keys : Rows → List Key
    left_keys x = filter_map (key_of op.left op.nulls_match 0) (entries x)

    abbrev right_keys : Rows → List Key
    right_keys x = filter_map (key_of op.right op.nulls_match 0) (entries x)

    join_costs : sum_by (λ s. join_cost op (left_part s y) (left_part s dy) (right_part s z) (right_part s dz)) S.numbers ≡ join_cost op y dy z dz
    join_costs = shards_cost
        (λ s c. 2 + (rows_in (left_rows op c (left_part s y)) + rows_in (right_rows op c (right_part s z))))
        (λ s. changed_keys op (left_part s dy) (right_part s dz))
        (λ c. 2 + (rows_in (left_rows op c y) + rows_in (right_rows op c z)))
        (changed_keys op dy dz)
        (λ s. each-in_order (IsIn s) row_cmp (left_keys (left_part s dy) ++ right_keys (right_part s dz)) (each_of_two (IsIn s) (left_keys (left_part s dy)) (right_keys (right_part s dz)) (left_here s) (right_here s)))
        (λ s c h. ap₂ (λ m n. 2 + (m + n)) (rows_of_key op.left op.nulls_match s c h y) (rows_of_key op.right op.nulls_match s c h z))
        (λ s c h. ordered_counts c (left_keys (left_part s dy)) (right_keys (right_part s dz)) (left_keys dy) (right_keys dz) (left_counted s c h) (right_counted s c h))
      where
        left_here : (s : ℕ) → AllByRecursion (IsIn s) (left_keys (left_part s dy))
        left_here s = subst (AllByRecursion (IsIn s)) (sym (keys_mine op.left op.nulls_match s dy)) (keys_here (key_of op.left op.nulls_match s) (λ e. columns_of op.left e.0) (told op.left op.nulls_match s) s (entries dy))

        right_here : (s : ℕ) → AllByRecursion (IsIn s) (right_keys (right_part s dz))
        right_here s = subst (AllByRecursion (IsIn s)) (sym (keys_mine op.right op.nulls_match s dz)) (keys_here (key_of op.right op.nulls_match s) (λ e. columns_of op.right e.0) (told op.right op.nulls_match s) s (entries dz))

        left_counted : (s : ℕ) (c : Key) → IsIn s c → count row_cmp c (left_keys (left_part s dy)) ≡ count row_cmp c (left_keys dy)
        left_counted s c h = ap (count row_cmp c) (keys_mine op.left op.nulls_match s dy) ∙ keys_counted (key_of op.left op.nulls_match s) (λ e. columns_of op.left e.0) (told op.left op.nulls_match s) s c h (entries dy)

        right_counted : (s : ℕ) (c : Key) → IsIn s c → count row_cmp c (right_keys (right_part s dz)) ≡ count row_cmp c (right_keys dz)
        right_counted s c h = ap (count row_cmp c) (keys_mine op.right op.nulls_match s dz) ∙ keys_counted (key_of op.right op.nulls_match s) (λ e. columns_of op.right e.0) (told op.right op.nulls_match s) s c h (entries dz)

  -- ---- a distinct
  ones : {X : Type 0} (xs : List X) → sum_over integers (λ x. pos 1) xs ≡ pos (length xs)
  ones [] = refl
  ones (x ∷ xs) = ap (λ n. pos 1 +ℤ n) (ones xs) ∙ one_more (length xs)
    where
      one_more : (n : ℕ) → pos 1 +ℤ pos n ≡ pos (suc n)
      one_more n = omega (arith, ints)

  rows_add_up : (key : List Value → Key) (z : Rows) → sum_by (λ s. rows_in (cut S key s z)) S.numbers ≡ rows_in z
  rows_add_up key z = same_counts (sum_by (λ s. rows_in (cut S key s z)) S.numbers) (rows_in z)
      (sym (counted (λ s. rows_in (cut S key s z)) S.numbers)
      ∙ sum_over_agree integers (λ s. pos (rows_in (cut S key s z))) (λ s. sum_over integers (λ e. cond (s == S.shard (key e.0)) (pos 1) (pos 0)) (entries z)) of_shard S.numbers
      ∙ sum_over-swap integers integers-IsAbelian (λ s e. cond (s == S.shard (key e.0)) (pos 1) (pos 0)) S.numbers (entries z)
      ∙ sum_over_agree integers (λ e. sum_over integers (λ s. cond (s == S.shard (key e.0)) (pos 1) (pos 0)) S.numbers) (λ e. pos 1) (λ e. at_one_shard S integers integers-IsAbelian (key e.0) (pos 1)) (entries z)
      ∙ ones (entries z))
    where
      of_shard : (s : ℕ) → pos (rows_in (cut S key s z)) ≡ sum_over integers (λ (e : List Value × ℤ). cond (s == S.shard (key e.0)) (pos 1) (pos 0)) (entries z)
      of_shard s =
          ap (λ es. pos (length es)) (entries-cut row_cmp row_cmp-total S key s z)
          ∙ sym (ones (filter (λ e. s == S.shard (key e.0)) (entries z)))
          ∙ sum_over-filter integers integers-IsAbelian (λ e. pos 1) (λ e. s == S.shard (key e.0)) (entries z)

  -- ---- an aggregate
  module _ (zero_shard : S.shard [] ≡ 0) (first : Bool) (spec : AggSpec) (d : Rows) where
    abbrev part : ℕ → Rows
    part s = cut S (group_of spec) s d

    abbrev groups : Rows → List Key
    groups x = map (λ e. group_of spec e.0) (entries x)

    group_at : List Value × ℤ → Option Key
    group_at e = Some (group_of spec e.0)

    as_some : (es : List (List Value × ℤ)) → map (λ e. group_of spec e.0) es ≡ filter_map group_at es
    unfolding group_at
    as_some [] = refl
    as_some (e ∷ es) = ap (λ ks. group_of spec e.0 ∷ ks) (as_some es)

    group_told : (e : List Value × ℤ) (c : Key) → group_at e ≡ Some c → group_of spec e.0 ≡ c
    unfolding group_at
    group_told e c is = cc is

    groups_mine : (s : ℕ) → groups (part s) ≡ filter_map group_at (mine group_at (λ e. group_of spec e.0) group_told s (entries d))
    groups_mine s = ap (map (λ e. group_of spec e.0)) (entries-cut row_cmp row_cmp-total S (group_of spec) s d) ∙ as_some (filter (λ e. s == S.shard (group_of spec e.0)) (entries d))

    groups_here : (s : ℕ) → AllByRecursion (IsIn s) (groups (part s))
    groups_here s = subst (AllByRecursion (IsIn s)) (sym (groups_mine s)) (keys_here group_at (λ e. group_of spec e.0) group_told s (entries d))

    groups_counted : (s : ℕ) (c : Key) → IsIn s c → count row_cmp c (groups (part s)) ≡ count row_cmp c (groups d)
    groups_counted s c h = ap (count row_cmp c) (groups_mine s) ∙ keys_counted group_at (λ e. group_of spec e.0) group_told s c h (entries d) ∙ sym (ap (count row_cmp c) (as_some (entries d)))

    -- the group of all rows stands in the shard 0
    in_zero : (s : ℕ) → (s == 0) ≡ (s == S.shard [])
    in_zero s = ap (λ k. s == k) (sym zero_shard)

    first_here : (s : ℕ) → AllByRecursion (IsIn s) (first_group (first && s == 0) spec)
    first_here s = by (s == 0) refl first
      where
        by : (b : Bool) → (s == 0) ≡ b → (a : Bool) → AllByRecursion (IsIn s) (cond ((a && s == 0) && spec.global) ([] ∷ []) [])
        by true e true = subst (λ b. AllByRecursion (IsIn s) (cond (b && spec.global) ([] ∷ []) [])) (sym e) (elim spec.global as (λ g. AllByRecursion (IsIn s) (cond g ([] ∷ []) [])) [ true ↦ (sym (in_zero s) ∙ e, tt) | false ↦ tt ])
        by false e true = subst (λ b. AllByRecursion (IsIn s) (cond (b && spec.global) ([] ∷ []) [])) (sym e) tt
        by b e false = tt

    first_counted : (s : ℕ) (c : Key) → IsIn s c → count row_cmp c (first_group (first && s == 0) spec) ≡ count row_cmp c (first_group first spec)
    first_counted s c h = by (s == 0) refl first
      where
        none : (s == 0) ≡ false → (b : Bool) → is_eq (row_cmp c []) ≡ b → count row_cmp c ([] ∷ []) ≡ 0
        none e true t = let wrong : true ≡ false = sym h ∙ ap (λ k. s == S.shard k) (same_key c [] t) ∙ sym (in_zero s) ∙ e in absurd (cc wrong)
        none e false t = count-cons row_cmp c [] [] ∙ ap (λ b. cond b 1 0 + 0) t

        by : (b : Bool) → (s == 0) ≡ b → (a : Bool) → count row_cmp c (cond ((a && s == 0) && spec.global) ([] ∷ []) []) ≡ count row_cmp c (cond (a && spec.global) ([] ∷ []) [])
        by true e true = ap (λ b. count row_cmp c (cond (b && spec.global) ([] ∷ []) [])) e
        by false e true =
            ap (λ b. count row_cmp c (cond (b && spec.global) ([] ∷ []) [])) e
            ∙ elim spec.global as (λ g. 0 ≡ count row_cmp c (cond g ([] ∷ []) [])) [ true ↦ sym (none e (is_eq (row_cmp c [])) refl) | false ↦ refl ]
        by b e false = refl

    -- the rows of a group stand in its shard
    rows_of_group : (s : ℕ) (c : Key) → IsIn s c → rows_in (at_key row_cmp (group_of spec) c (part s)) ≡ rows_in (at_key row_cmp (group_of spec) c d)
    rows_of_group s c h = ap length
        (entries-at_key row_cmp row_cmp-total row_cmp (group_of spec) c (part s)
        ∙ ap (filter (λ e. is_eq (row_cmp c (group_of spec e.0)))) (entries-cut row_cmp row_cmp-total S (group_of spec) s d)
        ∙ filter_twice (λ e. is_eq (row_cmp c (group_of spec e.0))) (λ e. s == S.shard (group_of spec e.0)) (λ e t. ap (λ k. s == S.shard k) (sym (same_key c (group_of spec e.0) t)) ∙ h) (entries d)
        ∙ sym (entries-at_key row_cmp row_cmp-total row_cmp (group_of spec) c d))

    aggregate_costs : sum_by (λ s. aggregate_cost (first && s == 0) spec (part s)) S.numbers ≡ aggregate_cost first spec d
    aggregate_costs = shards_cost
        (λ s. group_cost spec (part s))
        (λ s. changed_groups (first && s == 0) spec (part s))
        (group_cost spec d)
        (changed_groups first spec d)
        (λ s. each-in_order (IsIn s) row_cmp (first_group (first && s == 0) spec ++ groups (part s)) (each_of_two (IsIn s) (first_group (first && s == 0) spec) (groups (part s)) (first_here s) (groups_here s)))
        (λ s c h. ap (λ n. 3 + length spec.calls * (n + 1)) (rows_of_group s c h))
        (λ s c h. ordered_counts c (first_group (first && s == 0) spec) (groups (part s)) (first_group first spec) (groups d) (first_counted s c h) (groups_counted s c h))

  -- ---- a node
  abbrev pub part_of_cost : Bool → Node → Rows → Rows → Rows → Rows → ℕ → ℕ
  part_of_cost first node y dy z dz s = node_cost (first && s == 0) node (cut S (left_key node) s y) (cut S (left_key node) s dy) (cut S (right_key node) s z) (cut S (right_key node) s dz)

  pub node_costs : S.shard [] ≡ 0 → (first : Bool) (node : Node) (y dy z dz : Rows) → sum_by (part_of_cost first node y dy z dz) S.numbers ≡ node_cost first node y dy z dz
  node_costs zero_shard first (Table t) y dy z dz = no_costs S.numbers
  node_costs zero_shard first (Linear i op) y dy z dz = no_costs S.numbers
  node_costs zero_shard first (Join l r op) y dy z dz = join_costs op y dy z dz
  node_costs zero_shard first (Distinct i) y dy z dz = rows_add_up (λ row. row) dy
  node_costs zero_shard first (Aggregate i spec) y dy z dz = aggregate_costs zero_shard first spec dy
  node_costs zero_shard first (Plus l r) y dy z dz = no_costs S.numbers
  node_costs zero_shard first (Minus l r) y dy z dz = no_costs S.numbers
  node_costs zero_shard first (View i v) y dy z dz = no_costs S.numbers
