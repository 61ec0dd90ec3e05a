-- The shares of a node in the shards: of some kinds of nodes, each row of the whole stands in one of them alone; those of others have no
-- weight below 0, if what is read has none, so that they are never above the whole.
use Rattle.std.proofs.Common.{◌≡◌, ℕ, ◌+◌, ◌-◌, ◌==◌, ℤ, pos, ◌+ℤ◌, ◌-ℤ◌, ◌≤ℤ◌, List, [], ◌∷◌, length, take, replicate, Bool, true, false, cond, refl, sym, ap, ap₂, subst, ◌∙◌, arith, is_eq, length-append, Ordering, Less, Equal, Greater}
use Rattle.std.proofs.lemmas.List.{length-replicate}
use Rattle.std.specs.List.{All}
use Rattle.std.specs.Ordering.{nat_cmp}
use Rattle.std.specs.Cmp.{nat_cmp_total}
use Rattle.std.specs.FinMap.{nat_cmp-IsAntisymmetric}
use Rattle.std.proofs.Math.Seq.{take-append_seam}
use Rattle.std.proofs.lemmas.List.Elements.{All-cons, All-nil, All-weaker}
use mathlib.Core.Logic.{◌⊎◌, inl, inr}
use borrow.Author.Differences.{ints}
use Rattle.sq_value.specs.declared.value.Value.{Value}
use Rattle.sq_value.specs.declared.value.Value.TheVariants.{Null}
use Rattle.sq_value.specs.Order.{row_cmp}
use Rattle.sq_value.specs.OrderLaws.{row_cmp-total, row_cmp-antisymmetric}
use Rattle.sq_algebra.specs.Groups.{integers, sum_over, z_sets}
use Rattle.sq_algebra.specs.Keyed.{Shards, cut}
use Rattle.sq_algebra.specs.Listed.{count}
use Rattle.sq_algebra.specs.Operators.{IsNonNegative, distinct, image, lin, pairs_where}
use Rattle.sq_algebra.specs.ZSet.{minus, plus, weight}
use Rattle.sq_algebra.proofs.AbelianLemmas.{additive-sum_over, minus-self, minus-zero, plus-minus_back}
use Rattle.sq_algebra.proofs.KeyedLemmas.{lin-at_key}
use Rattle.sq_algebra.proofs.ListLemmas.{sign_up}
use Rattle.sq_algebra.proofs.Lists.{count-cons}
use Rattle.sq_algebra.proofs.NonNegativeLemmas.{nonnegative-image, nonnegative-product}
use Rattle.sq_algebra.proofs.OperatorLemmas.{weight-image}
use Rattle.sq_algebra.proofs.ShardLemmas.{same_number, weight-cut}
use Rattle.sq_zset.proofs.RowOperators.{lin_agree, lin_of_zero, weight-IsAdditive, weight-distinct}
use Rattle.sq_zset.proofs.Rows.{nonnegative-of_list, same_weights, weight-minus, weight-plus, weight-zero}
use Rattle.sq_zset.specs.GroupLaws.{integers_are_abelian, rows_are_abelian}
use Rattle.sq_expr.specs.Meaning.{columns_of}
use Rattle.sq_expr.specs.declared.cond.Cond.{Cond}
use Rattle.sq_ops.specs.Aggregates.{aggregated, group_of, part_of, shown_rows}
use Rattle.sq_ops.specs.Joins.{chosen, key_in}
use Rattle.sq_ops.specs.Rows.{holds, kept, padded}
use Rattle.sq_ops.specs.WholeLaws.{aggregates_add_up}
use Rattle.sq_ops.specs.declared.aggregate.AggSpec.{AggSpec}
use Rattle.sq_ops.proofs.Parting.{over_nothing}
use Rattle.sq_circuit.specs.Invariant.{NeedsListed}
use Rattle.sq_circuit.specs.LinearOps.{images_of}
use Rattle.sq_circuit.specs.NodeLaws.{share}
use Rattle.sq_circuit.specs.Nodes.{Rows, core, left_key, left_source, none, operator, paired, right_key, right_source, shown_for_none, standing}
use Rattle.sq_circuit.specs.declared.node.LinearOp.TheVariants.{Keep, Project, Pad}
use Rattle.sq_circuit.specs.declared.node.Node.{Node}
use Rattle.sq_circuit.specs.declared.node.Node.TheVariants.{Table, Linear, Join, Distinct, Aggregate, Plus, Minus, View}
use Rattle.sq_circuit.proofs.Lawful.{lawful}
use Rattle.sq_incr.specs.Orders.{IsOfNode}

equal : (r : Ordering) → is_eq r ≡ true → r ≡ Equal
equal Less e = absurd (cc e)
equal Equal e = refl
equal Greater e = absurd (cc e)

module _ (S : Shards (List Value)) where
  cut_weight : (key : List Value → List Value) (row : List Value) (s : ℕ) (z : Rows) → weight row (cut S key s z) ≡ cond (s == S.shard (key row)) (weight row z) (pos 0)
  cut_weight key row s z = weight-cut S row_cmp key row_cmp-total row_cmp-antisymmetric row s z

  -- ---- each row in one shard
  -- the shares of a node have each row of the whole in one shard alone
  pub record StandsIn (node : Node) (row : List Value) : Type 0 where
    pub place : ℕ
    pub weighs : (s : ℕ) (y z : Rows) → weight row (share node S s y z) ≡ cond (s == place) (weight row (operator node y z)) (pos 0)

  nothing_stands : (b : Bool) (x : Rows) → plus (cond b none none) x ≡ x
  nothing_stands true x = rows_are_abelian.neutral x
  nothing_stands false x = rows_are_abelian.neutral x

  both_weigh : (b : Bool) (m n : ℤ) → cond b m (pos 0) +ℤ cond b n (pos 0) ≡ cond b (m +ℤ n) (pos 0)
  both_weigh true m n = refl
  both_weigh false m n = refl

  both_differ : (b : Bool) (m n : ℤ) → cond b m (pos 0) -ℤ cond b n (pos 0) ≡ cond b (m -ℤ n) (pos 0)
  both_differ true m n = refl
  both_differ false m n = refl

  -- images that tell the row that they are of
  module _ (f : List Value → List (List Value)) (back : List Value → List Value) (tells : (row other : List Value) → (count row_cmp other (f row) ≡ 0) ⊎ (back other ≡ row)) where
    images_weigh : (row : List Value) (s : ℕ) (z : Rows) → weight row (image row_cmp f (cut S (λ r. r) s z)) ≡ cond (s == S.shard (back row)) (weight row (image row_cmp f z)) (pos 0)
    images_weigh row s z =
        weight-image row_cmp row_cmp-total row_cmp-antisymmetric row_cmp row_cmp-total row_cmp-antisymmetric f row (cut S (λ r. r) s z)
        ∙ lin-at_key nat_cmp nat_cmp_total nat_cmp-IsAntisymmetric row_cmp row_cmp-total row_cmp-antisymmetric (λ r. S.shard r) integers integers_are_abelian (λ r. pos (count row_cmp row (f r))) s z
        ∙ lin_agree integers integers_are_abelian (λ r. cond (is_eq (nat_cmp s (S.shard r))) (pos (count row_cmp row (f r))) (pos 0)) (λ r. cond (s == S.shard (back row)) (pos (count row_cmp row (f r))) (pos 0)) (λ r. same r (tells r row)) z
        ∙ out (s == S.shard (back row))
      where
        same : (r : List Value) → (count row_cmp row (f r) ≡ 0) ⊎ (back row ≡ r) → cond (is_eq (nat_cmp s (S.shard r))) (pos (count row_cmp row (f r))) (pos 0) ≡ cond (s == S.shard (back row)) (pos (count row_cmp row (f r))) (pos 0)
        same r (inl never) = ap (λ n. cond (is_eq (nat_cmp s (S.shard r))) (pos n) (pos 0)) never ∙ either (is_eq (nat_cmp s (S.shard r))) (s == S.shard (back row)) ∙ sym (ap (λ n. cond (s == S.shard (back row)) (pos n) (pos 0)) never)
          where
            either : (a b : Bool) → cond a (pos 0) (pos 0) ≡ cond b (pos 0) (pos 0)
            either true true = refl
            either true false = refl
            either false true = refl
            either false false = refl
        same r (inr is) = ap (λ b. cond b (pos (count row_cmp row (f r))) (pos 0)) (same_number s (S.shard r) ∙ ap (λ k. s == S.shard k) (sym is))

        out : (b : Bool) → lin integers (λ r. cond b (pos (count row_cmp row (f r))) (pos 0)) z ≡ cond b (weight row (image row_cmp f z)) (pos 0)
        out true = sym (weight-image row_cmp row_cmp-total row_cmp-antisymmetric row_cmp row_cmp-total row_cmp-antisymmetric f row z)
        out false = lin_of_zero integers integers_are_abelian z

  -- one image alone
  only_image : (other row : List Value) → (count row_cmp other (row ∷ []) ≡ 0) ⊎ (other ≡ row)
  only_image other row = at (is_eq (row_cmp other row)) refl
    where
      at : (b : Bool) → is_eq (row_cmp other row) ≡ b → (count row_cmp other (row ∷ []) ≡ 0) ⊎ (other ≡ row)
      at true e = inr (row_cmp-antisymmetric other row (equal (row_cmp other row) e))
      at false e = inl (count-cons row_cmp other row [] ∙ ap (λ b. cond b 1 0 + 0) e)

  kept_tells : (c : Cond) (row other : List Value) → (count row_cmp other (kept c row) ≡ 0) ⊎ (other ≡ row)
  kept_tells c row other = elim (holds c row) as (λ b. (count row_cmp other (cond b (row ∷ []) []) ≡ 0) ⊎ (other ≡ row)) [ true ↦ only_image other row | false ↦ inl refl ]

  abbrev front : ℕ → List Value → List Value
  front n other = take (length other - n) other

  padded_tells : (n : ℕ) (row other : List Value) → (count row_cmp other (padded n row ∷ []) ≡ 0) ⊎ (front n other ≡ row)
  padded_tells n row other = at (only_image other (padded n row))
    where
      long : length (padded n row) - n ≡ length row
      long = let both = length-append row (replicate n Null) in let nulls = length-replicate n Null in omega arith

      at : (count row_cmp other (padded n row ∷ []) ≡ 0) ⊎ (other ≡ padded n row) → (count row_cmp other (padded n row ∷ []) ≡ 0) ⊎ (front n other ≡ row)
      at (inl never) = inl never
      at (inr is) = inr (ap (front n) is ∙ ap (λ k. take k (padded n row)) long ∙ take-append_seam row (replicate n Null))

  -- a node without standing rows, by its core
  by_core : (node : Node) (row : List Value) → standing node ≡ none → (place : ℕ)
      → ((s : ℕ) (y z : Rows) → weight row (core node (cut S (left_key node) s y) (cut S (right_key node) s z)) ≡ cond (s == place) (weight row (operator node y z)) (pos 0)) → StandsIn node row
  by_core node row bare place weighs = record {
    place = place;
    weighs = λ s y z.
        ap (λ x. weight row (plus (cond (s == S.shard []) x none) (core node (cut S (left_key node) s y) (cut S (right_key node) s z)))) bare
        ∙ ap (weight row) (nothing_stands (s == S.shard []) (core node (cut S (left_key node) s y) (cut S (right_key node) s z)))
        ∙ weighs s y z;
  }

  itself : (row : List Value) (s : ℕ) (y : Rows) → weight row (cut S (λ r. r) s y) ≡ cond (s == S.shard row) (weight row y) (pos 0)
  itself row s y = cut_weight (λ r. r) row s y

  added : (row : List Value) (s : ℕ) (y z : Rows) → weight row (plus (cut S (λ r. r) s y) (cut S (λ r. r) s z)) ≡ cond (s == S.shard row) (weight row (plus y z)) (pos 0)
  added row s y z =
      weight-plus row (cut S (λ r. r) s y) (cut S (λ r. r) s z)
      ∙ ap₂ (λ m n. m +ℤ n) (itself row s y) (itself row s z)
      ∙ both_weigh (s == S.shard row) (weight row y) (weight row z)
      ∙ ap (λ n. cond (s == S.shard row) n (pos 0)) (sym (weight-plus row y z))

  taken : (row : List Value) (s : ℕ) (y z : Rows) → weight row (minus (cut S (λ r. r) s y) (cut S (λ r. r) s z)) ≡ cond (s == S.shard row) (weight row (minus y z)) (pos 0)
  taken row s y z =
      weight-minus row (cut S (λ r. r) s y) (cut S (λ r. r) s z)
      ∙ ap₂ (λ m n. m -ℤ n) (itself row s y) (itself row s z)
      ∙ both_differ (s == S.shard row) (weight row y) (weight row z)
      ∙ ap (λ n. cond (s == S.shard row) n (pos 0)) (sym (weight-minus row y z))

  once : (row : List Value) (s : ℕ) (y : Rows) → weight row (distinct (cut S (λ r. r) s y)) ≡ cond (s == S.shard row) (weight row (distinct y)) (pos 0)
  once row s y =
      weight-distinct row (cut S (λ r. r) s y)
      ∙ ap sign_up (itself row s y)
      ∙ either (s == S.shard row)
      ∙ ap (λ n. cond (s == S.shard row) n (pos 0)) (sym (weight-distinct row y))
    where
      either : (b : Bool) → sign_up (cond b (weight row y) (pos 0)) ≡ cond b (sign_up (weight row y)) (pos 0)
      either true = refl
      either false = refl

  -- ---- shares with no weight below 0
  nonnegative_cut : (key : List Value → List Value) (s : ℕ) (z : Rows) → IsNonNegative z → IsNonNegative (cut S key s z)
  nonnegative_cut key s z above row = subst (λ n. pos 0 ≤ℤ n) (sym (cut_weight key row s z)) (either (s == S.shard (key row)))
    where
      either : (b : Bool) → pos 0 ≤ℤ cond b (weight row z) (pos 0)
      either true = above row
      either false = omega (arith, ints)

  -- a node that takes lists, and of which the shares have no weight below 0 over them
  pub record IsProper (node : Node) : Type 0 where
    pub above : (s : ℕ) (y z : Rows) → IsNonNegative y → IsNonNegative z → IsNonNegative (share node S s y z)
    pub left : (j : ℕ) → IsOfNode j (left_source node) → NeedsListed node j
    pub right : (j : ℕ) → IsOfNode j (right_source node) → NeedsListed node j

  bare_above : (b : Bool) (x : Rows) → IsNonNegative x → IsNonNegative (plus (cond b none none) x)
  bare_above b x above = subst IsNonNegative (sym (nothing_stands b x)) above

  -- ---- groups
  module _ (spec : AggSpec) where
    -- a global aggregate has all rows in one shard
    one_shard : (s : ℕ) (y : Rows) → spec.global ≡ true → (s == S.shard []) ≡ false → cut S (group_of spec) s y ≡ none
    one_shard s y all elsewhere = same_weights (cut S (group_of spec) s y) none (λ row.
        cut_weight (group_of spec) row s y
        ∙ ap (λ b. cond (s == S.shard (columns_of (cond b [] spec.group) row)) (weight row y) (pos 0)) all
        ∙ ap (λ b. cond b (weight row y) (pos 0)) elsewhere
        ∙ sym (weight-zero row))

    shown_above : (y : Rows) → IsNonNegative (aggregated spec y)
    shown_above y = nonnegative-of_list (shown_rows spec y)

    -- in a shard that does not have the group of all rows
    elsewhere_above : (s : ℕ) (y : Rows) → (s == S.shard []) ≡ false → (b : Bool) → spec.global ≡ b → IsNonNegative (minus (aggregated spec (cut S (group_of spec) s y)) (shown_for_none spec))
    elsewhere_above s y elsewhere true all = subst IsNonNegative (sym (
        ap (λ x. minus x (shown_for_none spec)) (ap (aggregated spec) (one_shard s y all elsewhere)
        ∙ over_nothing (part_of spec.global spec.calls) spec.global (group_of spec) (aggregated spec) (aggregates_add_up spec))
        ∙ minus-self (z_sets row_cmp) rows_are_abelian (shown_for_none spec))) (λ row. subst (λ n. pos 0 ≤ℤ n) (sym (weight-zero row)) (omega (arith, ints)))
    elsewhere_above s y elsewhere false some = subst IsNonNegative (sym (
        ap (λ b. minus (aggregated spec (cut S (group_of spec) s y)) (cond b (part_of spec.global spec.calls [] none) none)) some
        ∙ minus-zero (z_sets row_cmp) rows_are_abelian (aggregated spec (cut S (group_of spec) s y)))) (shown_above (cut S (group_of spec) s y))

    groups_above : (s : ℕ) (y : Rows) (b : Bool) → (s == S.shard []) ≡ b → IsNonNegative (plus (cond b (shown_for_none spec) none) (minus (aggregated spec (cut S (group_of spec) s y)) (shown_for_none spec)))
    groups_above s y true here = subst IsNonNegative (sym (plus-minus_back (z_sets row_cmp) rows_are_abelian (shown_for_none spec) (aggregated spec (cut S (group_of spec) s y)))) (shown_above (cut S (group_of spec) s y))
    groups_above s y false elsewhere = subst IsNonNegative (sym (rows_are_abelian.neutral (minus (aggregated spec (cut S (group_of spec) s y)) (shown_for_none spec)))) (elsewhere_above s y elsewhere spec.global refl)

  -- ---- the kinds of nodes
  pub data Shown (node : Node) : Type 0 where
    Apart : ((row : List Value) → StandsIn node row) → Shown node
    Proper : IsProper node → Shown node

  pub shown : (node : Node) → Shown node
  shown (Table t) = Apart (λ row. by_core (Table t) row refl (S.shard row) (λ s y z. itself row s y))
  shown (Linear i (Keep op)) = Apart (λ row. by_core (Linear i (Keep op)) row refl (S.shard row) (λ s y z. images_weigh (images_of (Keep op)) (λ r. r) (kept_tells op.cond) row s y))
  shown (Linear i (Project op)) = Proper (record {
    above = λ s y z left right. bare_above (s == S.shard []) (image row_cmp (images_of (Project op)) (cut S (λ r. r) s y))
        (nonnegative-image row_cmp row_cmp-total row_cmp-antisymmetric row_cmp row_cmp-total row_cmp-antisymmetric (images_of (Project op)) (cut S (λ r. r) s y) (nonnegative_cut (λ r. r) s y left));
    left = λ j is. is;
    right = λ j is. absurd is;
  })
  shown (Linear i (Pad op)) = Apart (λ row. by_core (Linear i (Pad op)) row refl (S.shard (front op.nulls row)) (λ s y z. images_weigh (images_of (Pad op)) (front op.nulls) (padded_tells op.nulls) row s y))
  shown (Join l r op) = Proper (record {
    above = λ s y z left right. bare_above (s == S.shard []) (paired op (cut S (columns_of op.left) s y) (cut S (columns_of op.right) s z))
        (nonnegative-product row_cmp row_cmp-total row_cmp-antisymmetric row_cmp row_cmp-total row_cmp-antisymmetric row_cmp row_cmp-total row_cmp-antisymmetric
        (pairs_where row_cmp (key_in op.left op.nulls_match) (key_in op.right op.nulls_match) (chosen op.keep op.items))
        (cut S (columns_of op.left) s y) (cut S (columns_of op.right) s z) (nonnegative_cut (columns_of op.left) s y left) (nonnegative_cut (columns_of op.right) s z right));
    left = λ j is. inl is;
    right = λ j is. inr is;
  })
  shown (Distinct i) = Apart (λ row. by_core (Distinct i) row refl (S.shard row) (λ s y z. once row s y))
  shown (Aggregate i spec) = Proper (record {
    above = λ s y z left right. groups_above spec s y (s == S.shard []) refl;
    left = λ j is. is;
    right = λ j is. absurd is;
  })
  shown (Plus l r) = Apart (λ row. by_core (Plus l r) row refl (S.shard row) (λ s y z. added row s y z))
  shown (Minus l r) = Apart (λ row. by_core (Minus l r) row refl (S.shard row) (λ s y z. taken row s y z))
  shown (View i v) = Apart (λ row. by_core (View i v) row refl (S.shard row) (λ s y z. itself row s y))

-- ---- a share is not above the whole
at_most_sum : (g : ℕ → ℤ) → ((s : ℕ) → pos 0 ≤ℤ g s) → (ns : List ℕ) → (pos 0 ≤ℤ sum_over integers g ns) × All (λ s. g s ≤ℤ sum_over integers g ns) ns
at_most_sum g above [] = (omega (arith, ints), All-nil (λ s. g s ≤ℤ pos 0))
at_most_sum g above (n ∷ ns) =
    let rest = at_most_sum g above ns in
    let total = rest.0 in
    let here = above n in
    (omega (arith, ints), All-cons (λ s. g s ≤ℤ sum_over integers g (n ∷ ns)) n ns (omega (arith, ints)) (All-weaker (λ s. g s ≤ℤ sum_over integers g ns) (λ s. g s ≤ℤ sum_over integers g (n ∷ ns)) (λ s low. omega (arith, ints)) ns rest.1))

pub share_at_most : (S : Shards (List Value)) (node : Node) (y z : Rows) (row : List Value) → ((s : ℕ) → pos 0 ≤ℤ weight row (share node S s y z)) → All (λ s. weight row (share node S s y z) ≤ℤ weight row (operator node y z)) S.numbers
share_at_most S node y z row above = subst (λ n. All (λ s. weight row (share node S s y z) ≤ℤ n) S.numbers)
    (sym (additive-sum_over (z_sets row_cmp) integers rows_are_abelian integers_are_abelian (weight row) (weight-IsAdditive row) (λ s. share node S s y z) S.numbers)
    ∙ ap (weight row) ((lawful node).shares S y z))
    (at_most_sum (λ s. weight row (share node S s y z)) above S.numbers).1
