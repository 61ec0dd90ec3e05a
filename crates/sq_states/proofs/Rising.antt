-- What a node's share of the new rows has more than that of the old ones, from the parts of the shard alone.
use Rattle.std.proofs.Common.{◌≡◌, ℕ, Bool, true, false, cond, ◌==◌, List, [], refl, sym, ap, ap₂, ◌∙◌}
use Rattle.sq_value.specs.declared.value.Value.{Value}
use Rattle.sq_value.specs.Order.{row_cmp}
use Rattle.sq_algebra.specs.Groups.{z_sets}
use Rattle.sq_algebra.specs.Keyed.{Shards, cut}
use Rattle.sq_algebra.specs.Operators.{image}
use Rattle.sq_algebra.specs.ZSet.{minus, negate, plus}
use Rattle.sq_algebra.proofs.AbelianLemmas.{minus-plus, minus-self, minus-zero, negate-plus, plus-minus_left}
use Rattle.sq_ops.specs.Extensions.{images_are_additive}
use Rattle.sq_zset.specs.GroupLaws.{rows_are_abelian}
use Rattle.sq_zset.proofs.RowKeys.{cut-IsAdditive, cut-zero}
use Rattle.sq_circuit.specs.Costs.{before}
use Rattle.sq_circuit.specs.NodeLaws.{share}
use Rattle.sq_circuit.specs.Nodes.{Rows, core, left_key, none, right_key, standing}
use Rattle.sq_circuit.specs.declared.node.Node.{Node}
use Rattle.sq_circuit.proofs.Lawful.{lawful}

pub cut_plus : (S : Shards (List Value)) (key : List Value → List Value) (s : ℕ) (y d : Rows) → cut S key s (plus y d) ≡ plus (cut S key s y) (cut S key s d)
cut_plus S key s y d = (cut-IsAdditive S key s).of_plus y d

-- ---- the parts of a shard
module _ (n : Node) (S : Shards (List Value)) (s : ℕ) (y dy z dz : Rows) where
  abbrev pub stands : Rows
  stands = cond (s == S.shard []) (standing n) none

  abbrev pub core_before : Rows
  core_before = core n (cut S (left_key n) s y) (cut S (right_key n) s z)

  abbrev pub core_after : Rows
  core_after = core n (plus (cut S (left_key n) s y) (cut S (left_key n) s dy)) (plus (cut S (right_key n) s z) (cut S (right_key n) s dz))

  after_is : share n S s (plus y dy) (plus z dz) ≡ plus stands core_after
  after_is = ap₂ (λ a b. plus stands (core n a b)) (cut_plus S (left_key n) s y dy) (cut_plus S (right_key n) s z dz)

  pub later : minus (share n S s (plus y dy) (plus z dz)) (share n S s y z) ≡ minus core_after core_before
  later =
      ap (λ x. minus x (share n S s y z)) after_is
      ∙ minus-plus (z_sets row_cmp) rows_are_abelian stands core_after stands core_before
      ∙ ap (λ x. plus x (minus core_after core_before)) (minus-self (z_sets row_cmp) rows_are_abelian stands)
      ∙ rows_are_abelian.neutral (minus core_after core_before)

  module _ (no_left : y ≡ none) (no_right : z ≡ none) where
    pub nothing_before : core_before ≡ none
    nothing_before =
        ap₂ (λ a b. core n a b) (ap (cut S (left_key n) s) no_left ∙ cut-zero S (left_key n) s) (ap (cut S (right_key n) s) no_right ∙ cut-zero S (right_key n) s)
        ∙ (lawful n).none

    pub begun : minus (share n S s (plus y dy) (plus z dz)) none ≡ plus stands (minus core_after core_before)
    begun =
        minus-zero (z_sets row_cmp) rows_are_abelian (share n S s (plus y dy) (plus z dz))
        ∙ after_is
        ∙ ap (plus stands) (sym (ap (minus core_after) nothing_before ∙ minus-zero (z_sets row_cmp) rows_are_abelian core_after))

  pub no_stands : standing n ≡ none → stands ≡ none
  no_stands e = elim (s == S.shard []) as (λ b. cond b (standing n) none ≡ none) [ true ↦ e | false ↦ refl ]

  -- the piece of a node that shows nothing over no rows
  pub rise : (start : Bool) → standing n ≡ none → (start ≡ true → y ≡ none) → (start ≡ true → z ≡ none) → minus (share n S s (plus y dy) (plus z dz)) (before start (share n S s y z)) ≡ minus core_after core_before
  rise true e no_left no_right = begun (no_left refl) (no_right refl) ∙ ap (λ x. plus x (minus core_after core_before)) (no_stands e) ∙ rows_are_abelian.neutral (minus core_after core_before)
  rise false e no_left no_right = later

-- ---- what each kind of node makes of changes
pub row_rise : (a b : Rows) → minus (plus a b) a ≡ b
row_rise a b = plus-minus_left (z_sets row_cmp) rows_are_abelian a b

pub image_rise : (images : List Value → List (List Value)) (a b : Rows) → minus (image row_cmp images (plus a b)) (image row_cmp images a) ≡ image row_cmp images b
image_rise images a b = ap (λ x. minus x (image row_cmp images a)) ((images_are_additive images).of_plus a b) ∙ row_rise (image row_cmp images a) (image row_cmp images b)

pub sum_rise : (a b c d : Rows) → minus (plus (plus a b) (plus c d)) (plus a c) ≡ plus b d
sum_rise a b c d = minus-plus (z_sets row_cmp) rows_are_abelian (plus a b) (plus c d) a c ∙ ap₂ plus (row_rise a b) (row_rise c d)

pub difference_rise : (a b c d : Rows) → minus (minus (plus a b) (plus c d)) (minus a c) ≡ minus b d
difference_rise a b c d =
    ap (λ x. minus (plus (plus a b) x) (minus a c)) (negate-plus (z_sets row_cmp) rows_are_abelian c d)
    ∙ sum_rise a b (negate c) (negate d)
