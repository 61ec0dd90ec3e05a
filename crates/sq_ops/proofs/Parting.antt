-- What an operator that works key by key answers over nothing, over a change, and over the shards.
use Rattle.std.proofs.Common.{◌≡◌, ℕ, Bool, List, refl, sym, ap, ap₂, ◌∙◌}
use Rattle.sq_value.specs.declared.value.Value.{Value}
use Rattle.sq_value.specs.Order.{row_cmp}
use Rattle.sq_value.specs.OrderLaws.{row_cmp-total, row_cmp-antisymmetric}
use Rattle.sq_algebra.specs.Groups.{sum_over, z_sets}
use Rattle.sq_algebra.specs.Keyed.{CoversOnce, Shards, at_key, by_key, cut, over_shards}
use Rattle.sq_algebra.specs.ZSet.{ZSet, minus, negate, plus, zero}
use Rattle.sq_algebra.proofs.AbelianLemmas.{minus-plus, minus-plus_same, minus-self, neutral_right, plus-minus_left, sum_over_agree}
use Rattle.sq_algebra.proofs.KeyedLemmas.{by_key-change, by_key-zero}
use Rattle.sq_algebra.proofs.ShardLemmas.{by_key_cuts}
use Rattle.sq_zset.specs.GroupLaws.{rows_are_abelian}
use Rattle.sq_ops.specs.Wholes.{beyond_none, standing_rows, sum_of_parts}

-- ---- differences in which the same part falls away
same_front : (s a b : ZSet (List Value) row_cmp) → minus (plus s a) (plus s b) ≡ minus a b
same_front s a b =
    minus-plus (z_sets row_cmp) rows_are_abelian s a s b
    ∙ ap (λ n. plus n (minus a b)) (minus-self (z_sets row_cmp) rows_are_abelian s)
    ∙ rows_are_abelian.neutral (minus a b)

less_same : (a b n : ZSet (List Value) row_cmp) → minus (minus a n) (minus b n) ≡ minus a b
less_same a b n = minus-plus_same (z_sets row_cmp) rows_are_abelian a b (negate n)

-- ---- the sum of the parts
module _ (part : List Value → ZSet (List Value) row_cmp → ZSet (List Value) row_cmp) (stands : Bool) (key : List Value → List Value)
    (answer : ZSet (List Value) row_cmp → ZSet (List Value) row_cmp) (adds_up : (z : ZSet (List Value) row_cmp) → answer z ≡ sum_of_parts part stands key z) where
  none : (c : List Value) → beyond_none part c (zero row_cmp) ≡ zero row_cmp
  none c = minus-self (z_sets row_cmp) rows_are_abelian (part c (zero row_cmp))

  pub over_nothing : answer (zero row_cmp) ≡ standing_rows part stands
  over_nothing =
      adds_up (zero row_cmp)
      ∙ ap (plus (standing_rows part stands)) (by_key-zero row_cmp row_cmp-total row_cmp-antisymmetric row_cmp row_cmp-total row_cmp-antisymmetric key (z_sets row_cmp) rows_are_abelian (beyond_none part) none)
      ∙ neutral_right (z_sets row_cmp) rows_are_abelian (standing_rows part stands)

  pub over_change : (cs : List (List Value)) (z d : ZSet (List Value) row_cmp) → CoversOnce row_cmp key cs d →
      minus (answer (plus z d)) (answer z) ≡ sum_over (z_sets row_cmp) (λ c. minus (part c (at_key row_cmp key c (plus z d))) (part c (at_key row_cmp key c z))) cs
  over_change cs z d covers =
      ap₂ minus (adds_up (plus z d)) (adds_up z)
      ∙ same_front (standing_rows part stands) (by_key row_cmp key (z_sets row_cmp) (beyond_none part) (plus z d)) (by_key row_cmp key (z_sets row_cmp) (beyond_none part) z)
      ∙ by_key-change row_cmp row_cmp-total row_cmp-antisymmetric row_cmp row_cmp-total row_cmp-antisymmetric key (z_sets row_cmp) rows_are_abelian (beyond_none part) none cs z d covers
      ∙ sum_over_agree (z_sets row_cmp) (λ c. minus (beyond_none part c (at_key row_cmp key c (plus z d))) (beyond_none part c (at_key row_cmp key c z)))
      (λ c. minus (part c (at_key row_cmp key c (plus z d))) (part c (at_key row_cmp key c z)))
      (λ c. less_same (part c (at_key row_cmp key c (plus z d))) (part c (at_key row_cmp key c z)) (part c (zero row_cmp))) cs

  pub over_all_shards : (S : Shards (List Value)) (coarse : List Value → List Value) (z : ZSet (List Value) row_cmp) →
      answer z ≡ plus (standing_rows part stands) (over_shards (z_sets row_cmp) S (λ s. minus (answer (cut S (λ row. coarse (key row)) s z)) (standing_rows part stands)))
  over_all_shards S coarse z =
      adds_up z
      ∙ ap (plus (standing_rows part stands)) (sym (
      sum_over_agree (z_sets row_cmp) (λ s. minus (answer (cut S (λ row. coarse (key row)) s z)) (standing_rows part stands))
      (λ s. by_key row_cmp key (z_sets row_cmp) (beyond_none part) (cut S (λ row. coarse (key row)) s z)) (one_shard S coarse z) S.numbers
      ∙ by_key_cuts S row_cmp (λ row. coarse (key row)) row_cmp-total row_cmp-antisymmetric row_cmp row_cmp-total row_cmp-antisymmetric key coarse (λ k. refl) (z_sets row_cmp) rows_are_abelian (beyond_none part) none z))
    where
      one_shard : (S : Shards (List Value)) (coarse : List Value → List Value) (z : ZSet (List Value) row_cmp) (s : ℕ) →
          minus (answer (cut S (λ row. coarse (key row)) s z)) (standing_rows part stands) ≡ by_key row_cmp key (z_sets row_cmp) (beyond_none part) (cut S (λ row. coarse (key row)) s z)
      one_shard S coarse z s =
          ap (λ y. minus y (standing_rows part stands)) (adds_up (cut S (λ row. coarse (key row)) s z))
          ∙ plus-minus_left (z_sets row_cmp) rows_are_abelian (standing_rows part stands) (by_key row_cmp key (z_sets row_cmp) (beyond_none part) (cut S (λ row. coarse (key row)) s z))
