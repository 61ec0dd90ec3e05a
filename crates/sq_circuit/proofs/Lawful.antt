-- Every kind of node adds up over shards, and changes by its keys.
use Rattle.std.proofs.Common.{◌≡◌, ◌==◌, false, cond, List, [], refl, sym, ap, ap₂, ◌∙◌}
use Rattle.std.specs.Ordering.{is_eq}
use Rattle.sq_value.specs.declared.value.Value.{Value}
use Rattle.sq_value.specs.Order.{row_cmp}
use Rattle.sq_value.specs.OrderLaws.{row_cmp-total, row_cmp-antisymmetric}
use Rattle.sq_expr.specs.Meaning.{columns_of}
use Rattle.sq_algebra.specs.Groups.{IsAdditive, sum_over, z_sets}
use Rattle.sq_algebra.specs.Keyed.{CoversOnce, Shards, at_key, by_key, cut, over_shards}
use Rattle.sq_algebra.specs.Operators.{distinct, image, pairs_where}
use Rattle.sq_algebra.specs.ZSet.{minus, negate, plus}
use Rattle.sq_algebra.proofs.AbelianLemmas.{IsAdditive-identity, additive-zero, bilinear_change, minus-plus, negate-IsAdditive, minus-self, plus-minus_left, plus-minus_back, sum_over-plus, sum_over_agree}
use Rattle.sq_algebra.proofs.JoinLemmas.{product_parts_right}
use Rattle.sq_algebra.proofs.KeyedLemmas.{additive_parts, at_key-plus, by_key-change, by_key-zero, by_key_at_key, distinct_by_key, distinct_part, distinct_part-zero, pairs_where_apart, product_parts}
use Rattle.sq_algebra.proofs.OperatorLemmas.{image-IsAdditive, product-left, product-right, product-zero_left}
use Rattle.sq_algebra.proofs.ShardLemmas.{additive_cuts, at_one_shard, by_key_cuts, product_some_cuts}
use Rattle.sq_zset.specs.GroupLaws.{rows_are_abelian}
use Rattle.sq_ops.specs.Aggregates.{aggregated, group_of, part_of}
use Rattle.sq_ops.specs.Joins.{chosen, key_in}
use Rattle.sq_ops.specs.WholeLaws.{aggregates_add_up}
use Rattle.sq_ops.specs.Wholes.{beyond_none}
use Rattle.sq_ops.specs.declared.aggregate.AggSpec.{AggSpec}
use Rattle.sq_ops.specs.declared.bilinear.Pairing.{Pairing}
use Rattle.sq_ops.proofs.RowColumns.{key_tells}
use Rattle.sq_circuit.specs.LinearOps.{images_of}
use Rattle.sq_circuit.specs.NodeLaws.{AddsOverShards, ChangesByKeys, IsLawful, rise_at, share}
use Rattle.sq_circuit.specs.Nodes.{Rows, core, left_key, none, operator, paired, right_key, shown_for_none, standing}
use Rattle.sq_circuit.specs.declared.node.Node.{Node}
use Rattle.sq_circuit.specs.declared.node.Node.TheVariants.{Table, Linear, Join, Distinct, Aggregate, Plus, Minus, View}

-- ---- one additive side
module _ (f : Rows → Rows) (additive : IsAdditive (z_sets row_cmp) (z_sets row_cmp) f) where
  one_adds : (left right : List Value → List Value) → AddsOverShards (λ y z. f y) left right
  one_adds left right S y z = additive_cuts S row_cmp left row_cmp-total row_cmp-antisymmetric (z_sets row_cmp) rows_are_abelian f additive y

  rise : (y dy : Rows) → minus (f (plus y dy)) (f y) ≡ f dy
  rise y dy = ap (λ x. minus x (f y)) (additive.of_plus y dy) ∙ plus-minus_left (z_sets row_cmp) rows_are_abelian (f y) (f dy)

  rise_of_part : (key : List Value → List Value) (y dy : Rows) (c : List Value) → minus (f (at_key row_cmp key c (plus y dy))) (f (at_key row_cmp key c y)) ≡ f (at_key row_cmp key c dy)
  rise_of_part key y dy c =
      ap (λ x. minus (f x) (f (at_key row_cmp key c y))) (at_key-plus row_cmp row_cmp-total row_cmp-antisymmetric row_cmp row_cmp-total row_cmp-antisymmetric key c y dy)
      ∙ rise (at_key row_cmp key c y) (at_key row_cmp key c dy)

  one_changes : (left right : List Value → List Value) → ChangesByKeys (λ y z. f y) left right
  one_changes left right cs y dy z dz covers also =
      rise y dy
      ∙ sym (sum_over_agree (z_sets row_cmp) (λ c. minus (f (at_key row_cmp left c (plus y dy))) (f (at_key row_cmp left c y))) (λ c. f (at_key row_cmp left c dy)) (rise_of_part left y dy) cs
      ∙ additive_parts row_cmp row_cmp-total row_cmp-antisymmetric row_cmp row_cmp-total row_cmp-antisymmetric left (z_sets row_cmp) rows_are_abelian f additive cs dy covers)

-- ---- both sides additive, added up
module _ (g h : Rows → Rows) (left_additive : IsAdditive (z_sets row_cmp) (z_sets row_cmp) g) (right_additive : IsAdditive (z_sets row_cmp) (z_sets row_cmp) h) where
  both_add : (left right : List Value → List Value) → AddsOverShards (λ y z. plus (g y) (h z)) left right
  both_add left right S y z =
      sum_over-plus (z_sets row_cmp) rows_are_abelian (λ s. g (cut S left s y)) (λ s. h (cut S right s z)) S.numbers
      ∙ ap₂ plus
      (additive_cuts S row_cmp left row_cmp-total row_cmp-antisymmetric (z_sets row_cmp) rows_are_abelian g left_additive y)
      (additive_cuts S row_cmp right row_cmp-total row_cmp-antisymmetric (z_sets row_cmp) rows_are_abelian h right_additive z)

  both_change : (left right : List Value → List Value) → ChangesByKeys (λ y z. plus (g y) (h z)) left right
  both_change left right cs y dy z dz covers also =
      minus-plus (z_sets row_cmp) rows_are_abelian (g (plus y dy)) (h (plus z dz)) (g y) (h z)
      ∙ ap₂ plus (one_changes g left_additive left right cs y dy z dz covers also) (one_changes h right_additive right left cs z dz y dy also covers)
      ∙ sym (sum_over-plus (z_sets row_cmp) rows_are_abelian
      (λ c. minus (g (at_key row_cmp left c (plus y dy))) (g (at_key row_cmp left c y)))
      (λ c. minus (h (at_key row_cmp right c (plus z dz))) (h (at_key row_cmp right c z))) cs)
      ∙ sum_over_agree (z_sets row_cmp)
      (λ c. plus (minus (g (at_key row_cmp left c (plus y dy))) (g (at_key row_cmp left c y))) (minus (h (at_key row_cmp right c (plus z dz))) (h (at_key row_cmp right c z))))
      (rise_at (λ a b. plus (g a) (h b)) left right y dy z dz)
      (λ c. sym (minus-plus (z_sets row_cmp) rows_are_abelian (g (at_key row_cmp left c (plus y dy))) (h (at_key row_cmp right c (plus z dz))) (g (at_key row_cmp left c y)) (h (at_key row_cmp right c z)))) cs

-- ---- a sum over keys
module _ (f : Rows → Rows) (key : List Value → List Value) (part : List Value → Rows → Rows) (nothing : (c : List Value) → part c none ≡ none) (is : (y : Rows) → f y ≡ by_key row_cmp key (z_sets row_cmp) part y) where
  keyed_adds : (right : List Value → List Value) → AddsOverShards (λ y z. f y) key right
  keyed_adds right S y z =
      sum_over_agree (z_sets row_cmp) (λ s. f (cut S key s y)) (λ s. by_key row_cmp key (z_sets row_cmp) part (cut S key s y)) (λ s. is (cut S key s y)) S.numbers
      ∙ by_key_cuts S row_cmp key row_cmp-total row_cmp-antisymmetric row_cmp row_cmp-total row_cmp-antisymmetric key (λ c. c) (λ k. refl) (z_sets row_cmp) rows_are_abelian part nothing y
      ∙ sym (is y)

  keyed_none : f none ≡ none
  keyed_none = is none ∙ by_key-zero row_cmp row_cmp-total row_cmp-antisymmetric row_cmp row_cmp-total row_cmp-antisymmetric key (z_sets row_cmp) rows_are_abelian part nothing

  part_is : (c : List Value) (y : Rows) → part c (at_key row_cmp key c y) ≡ f (at_key row_cmp key c y)
  part_is c y = sym (is (at_key row_cmp key c y) ∙ by_key_at_key row_cmp row_cmp-total row_cmp-antisymmetric row_cmp row_cmp-total row_cmp-antisymmetric key (z_sets row_cmp) rows_are_abelian part nothing c y)

  keyed_changes : (right : List Value → List Value) → ChangesByKeys (λ y z. f y) key right
  keyed_changes right cs y dy z dz covers also =
      ap₂ minus (is (plus y dy)) (is y)
      ∙ by_key-change row_cmp row_cmp-total row_cmp-antisymmetric row_cmp row_cmp-total row_cmp-antisymmetric key (z_sets row_cmp) rows_are_abelian part nothing cs y dy covers
      ∙ sum_over_agree (z_sets row_cmp)
      (λ c. minus (part c (at_key row_cmp key c (plus y dy))) (part c (at_key row_cmp key c y)))
      (λ c. minus (f (at_key row_cmp key c (plus y dy))) (f (at_key row_cmp key c y)))
      (λ c. ap₂ minus (part_is c (plus y dy)) (part_is c y)) cs

-- ---- a join
module _ (op : Pairing) where
  abbrev images : List Value → List Value → List (List Value)
  images = pairs_where row_cmp (key_in op.left op.nulls_match) (key_in op.right op.nulls_match) (chosen op.keep op.items)

  join_adds : AddsOverShards (paired op) (columns_of op.left) (columns_of op.right)
  join_adds S y z =
      product_some_cuts row_cmp row_cmp-total row_cmp-antisymmetric S row_cmp row_cmp-total row_cmp-antisymmetric row_cmp row_cmp-total row_cmp-antisymmetric row_cmp row_cmp-total row_cmp-antisymmetric
      (key_in op.left op.nulls_match) (key_in op.right op.nulls_match) (chosen op.keep op.items) (columns_of op.left) (columns_of op.right) (λ row c. key_tells op.left op.nulls_match row c) (λ row c. key_tells op.right op.nulls_match row c) y z

  change : (y dy z dz : Rows) → minus (paired op (plus y dy) (plus z dz)) (paired op y z) ≡ plus (plus (paired op y dz) (paired op dy z)) (paired op dy dz)
  change y dy z dz =
      bilinear_change (z_sets row_cmp) (z_sets row_cmp) (z_sets row_cmp) rows_are_abelian (paired op)
      (λ b. product-left row_cmp row_cmp-total row_cmp-antisymmetric row_cmp row_cmp-total row_cmp-antisymmetric row_cmp row_cmp-total row_cmp-antisymmetric images b)
      (λ a. product-right row_cmp row_cmp-total row_cmp-antisymmetric row_cmp row_cmp-total row_cmp-antisymmetric row_cmp row_cmp-total row_cmp-antisymmetric images a)
      y dy z dz

  apart_pairs : (row other : List Value) → is_eq (row_cmp (columns_of op.left row) (columns_of op.right other)) ≡ false → images row other ≡ []
  apart_pairs = pairs_where_apart row_cmp row_cmp-total row_cmp-antisymmetric row_cmp row_cmp-total row_cmp-antisymmetric row_cmp row_cmp-total row_cmp-antisymmetric row_cmp row_cmp-total row_cmp-antisymmetric
      (key_in op.left op.nulls_match) (key_in op.right op.nulls_match) (chosen op.keep op.items) (columns_of op.left) (columns_of op.right) (λ row c. key_tells op.left op.nulls_match row c) (λ row c. key_tells op.right op.nulls_match row c)

  abbrev on_left : List Value → Rows → Rows
  on_left c y = at_key row_cmp (columns_of op.left) c y

  abbrev on_right : List Value → Rows → Rows
  on_right c z = at_key row_cmp (columns_of op.right) c z

  left_parts : (cs : List (List Value)) (y z : Rows) → CoversOnce row_cmp (columns_of op.left) cs y → sum_over (z_sets row_cmp) (λ c. paired op (on_left c y) (on_right c z)) cs ≡ paired op y z
  left_parts cs y z covers =
      product_parts row_cmp row_cmp-total row_cmp-antisymmetric row_cmp row_cmp-total row_cmp-antisymmetric row_cmp row_cmp-total row_cmp-antisymmetric row_cmp row_cmp-total row_cmp-antisymmetric
      (columns_of op.left) (columns_of op.right) images apart_pairs cs y z covers

  right_parts : (cs : List (List Value)) (y z : Rows) → CoversOnce row_cmp (columns_of op.right) cs z → sum_over (z_sets row_cmp) (λ c. paired op (on_left c y) (on_right c z)) cs ≡ paired op y z
  right_parts cs y z covers =
      product_parts_right row_cmp row_cmp-total row_cmp-antisymmetric row_cmp row_cmp-total row_cmp-antisymmetric row_cmp row_cmp-total row_cmp-antisymmetric row_cmp row_cmp-total row_cmp-antisymmetric
      (columns_of op.left) (columns_of op.right) images apart_pairs cs y z covers

  abbrev crossed : Rows → Rows → Rows → Rows → Rows
  crossed y dy z dz = plus (plus (paired op y dz) (paired op dy z)) (paired op dy dz)

  change_at : (y dy z dz : Rows) (c : List Value) → rise_at (paired op) (columns_of op.left) (columns_of op.right) y dy z dz c ≡ crossed (on_left c y) (on_left c dy) (on_right c z) (on_right c dz)
  change_at y dy z dz c =
      ap₂ (λ a b. minus (paired op a b) (paired op (on_left c y) (on_right c z)))
      (at_key-plus row_cmp row_cmp-total row_cmp-antisymmetric row_cmp row_cmp-total row_cmp-antisymmetric (columns_of op.left) c y dy)
      (at_key-plus row_cmp row_cmp-total row_cmp-antisymmetric row_cmp row_cmp-total row_cmp-antisymmetric (columns_of op.right) c z dz)
      ∙ change (on_left c y) (on_left c dy) (on_right c z) (on_right c dz)

  join_changes : ChangesByKeys (paired op) (columns_of op.left) (columns_of op.right)
  join_changes cs y dy z dz covers also =
      change y dy z dz
      ∙ sym (sum_over_agree (z_sets row_cmp) (rise_at (paired op) (columns_of op.left) (columns_of op.right) y dy z dz) (λ c. crossed (on_left c y) (on_left c dy) (on_right c z) (on_right c dz)) (change_at y dy z dz) cs
      ∙ sum_over-plus (z_sets row_cmp) rows_are_abelian (λ c. plus (paired op (on_left c y) (on_right c dz)) (paired op (on_left c dy) (on_right c z))) (λ c. paired op (on_left c dy) (on_right c dz)) cs
      ∙ ap₂ plus
      (sum_over-plus (z_sets row_cmp) rows_are_abelian (λ c. paired op (on_left c y) (on_right c dz)) (λ c. paired op (on_left c dy) (on_right c z)) cs
      ∙ ap₂ plus (right_parts cs y dz also) (left_parts cs dy z covers))
      (left_parts cs dy dz covers))

-- ---- all kinds
module _ (n : Node) (splits : (y z : Rows) → operator n y z ≡ plus (standing n) (core n y z)) (adds : AddsOverShards (core n) (left_key n) (right_key n)) where
  shares : (S : Shards (List Value)) (y z : Rows) → over_shards (z_sets row_cmp) S (λ s. share n S s y z) ≡ operator n y z
  shares S y z =
      sum_over-plus (z_sets row_cmp) rows_are_abelian (λ s. cond (s == S.shard []) (standing n) none) (λ s. core n (cut S (left_key n) s y) (cut S (right_key n) s z)) S.numbers
      ∙ ap₂ plus (at_one_shard S (z_sets row_cmp) rows_are_abelian [] (standing n)) (adds S y z)
      ∙ sym (splits y z)

  made : core n none none ≡ none → ChangesByKeys (core n) (left_key n) (right_key n) → IsLawful n
  made nothing changes = record { splits = splits; none = nothing; adds = adds; changes = changes; shares = shares }

no_standing : (y : Rows) → y ≡ plus none y
no_standing y = sym (rows_are_abelian.neutral y)

identity : IsAdditive (z_sets row_cmp) (z_sets row_cmp) (λ y. y)
identity = IsAdditive-identity (z_sets row_cmp)

negation : IsAdditive (z_sets row_cmp) (z_sets row_cmp) (λ y. negate y)
negation = negate-IsAdditive (z_sets row_cmp) rows_are_abelian

imaging : (f : List Value → List (List Value)) → IsAdditive (z_sets row_cmp) (z_sets row_cmp) (image row_cmp f)
imaging f = image-IsAdditive row_cmp row_cmp-total row_cmp-antisymmetric row_cmp row_cmp-total row_cmp-antisymmetric f

module _ (spec : AggSpec) where
  abbrev shown : Rows → Rows
  shown y = minus (aggregated spec y) (shown_for_none spec)

  shown_is : (y : Rows) → shown y ≡ by_key row_cmp (group_of spec) (z_sets row_cmp) (beyond_none (part_of spec.global spec.calls)) y
  shown_is y =
      ap (λ a. minus a (shown_for_none spec)) (aggregates_add_up spec y)
      ∙ plus-minus_left (z_sets row_cmp) rows_are_abelian (shown_for_none spec) (by_key row_cmp (group_of spec) (z_sets row_cmp) (beyond_none (part_of spec.global spec.calls)) y)

  nothing_shown : (c : List Value) → beyond_none (part_of spec.global spec.calls) c none ≡ none
  nothing_shown c = minus-self (z_sets row_cmp) rows_are_abelian (part_of spec.global spec.calls c none)

abbrev distinct_parts : List Value → Rows → Rows
distinct_parts c y = distinct_part row_cmp row_cmp-total row_cmp-antisymmetric c y

pub lawful : (n : Node) → IsLawful n
lawful (Table t) = made (Table t) (λ y z. no_standing y) (one_adds (λ y. y) identity (λ row. row) (λ row. row)) refl (one_changes (λ y. y) identity (λ row. row) (λ row. row))
lawful (Linear i op) =
    made (Linear i op) (λ y z. no_standing (image row_cmp (images_of op) y)) (one_adds (image row_cmp (images_of op)) (imaging (images_of op)) (λ row. row) (λ row. row))
    (additive-zero (z_sets row_cmp) (z_sets row_cmp) rows_are_abelian rows_are_abelian (image row_cmp (images_of op)) (imaging (images_of op)))
    (one_changes (image row_cmp (images_of op)) (imaging (images_of op)) (λ row. row) (λ row. row))
lawful (Join l r op) =
    made (Join l r op) (λ y z. no_standing (paired op y z)) (join_adds op)
    (product-zero_left row_cmp row_cmp-total row_cmp-antisymmetric row_cmp row_cmp-total row_cmp-antisymmetric row_cmp row_cmp-total row_cmp-antisymmetric (images op) none) (join_changes op)
lawful (Distinct i) =
    made (Distinct i) (λ y z. no_standing (distinct y))
    (keyed_adds (λ y. distinct y) (λ row. row) distinct_parts (distinct_part-zero row_cmp row_cmp-total row_cmp-antisymmetric) (distinct_by_key row_cmp row_cmp-total row_cmp-antisymmetric) (λ row. row))
    (keyed_none (λ y. distinct y) (λ row. row) distinct_parts (distinct_part-zero row_cmp row_cmp-total row_cmp-antisymmetric) (distinct_by_key row_cmp row_cmp-total row_cmp-antisymmetric))
    (keyed_changes (λ y. distinct y) (λ row. row) distinct_parts (distinct_part-zero row_cmp row_cmp-total row_cmp-antisymmetric) (distinct_by_key row_cmp row_cmp-total row_cmp-antisymmetric) (λ row. row))
lawful (Aggregate i spec) =
    made (Aggregate i spec) (λ y z. sym (plus-minus_back (z_sets row_cmp) rows_are_abelian (shown_for_none spec) (aggregated spec y)))
    (keyed_adds (shown spec) (group_of spec) (beyond_none (part_of spec.global spec.calls)) (nothing_shown spec) (shown_is spec) (λ row. row))
    (keyed_none (shown spec) (group_of spec) (beyond_none (part_of spec.global spec.calls)) (nothing_shown spec) (shown_is spec))
    (keyed_changes (shown spec) (group_of spec) (beyond_none (part_of spec.global spec.calls)) (nothing_shown spec) (shown_is spec) (λ row. row))
lawful (Plus l r) =
    made (Plus l r) (λ y z. no_standing (plus y z)) (both_add (λ y. y) (λ z. z) identity identity (λ row. row) (λ row. row)) (rows_are_abelian.neutral none)
    (both_change (λ y. y) (λ z. z) identity identity (λ row. row) (λ row. row))
lawful (Minus l r) =
    made (Minus l r) (λ y z. no_standing (minus y z)) (both_add (λ y. y) (λ z. negate z) identity negation (λ row. row) (λ row. row)) (minus-self (z_sets row_cmp) rows_are_abelian none)
    (both_change (λ y. y) (λ z. negate z) identity negation (λ row. row) (λ row. row))
lawful (View i v) = made (View i v) (λ y z. no_standing y) (one_adds (λ y. y) identity (λ row. row) (λ row. row)) refl (one_changes (λ y. y) identity (λ row. row) (λ row. row))
