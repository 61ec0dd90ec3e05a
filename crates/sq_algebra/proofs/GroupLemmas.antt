-- The Z-sets as an abelian group, and the laws of abelian groups.
use Rattle.std.proofs.Common.{◌≡◌, arith, Ordering}
use Rattle.std.specs.Cmp.{IsTotalOrder}
use Rattle.std.specs.FinMap.{IsAntisymmetric}
use borrow.Author.Differences.{ints}
use Rattle.sq_algebra.specs.ZSet.{ZSet, zero as no_keys, plus as plus_keys, negate as negate_keys}
use Rattle.sq_algebra.specs.Groups.{IsAbelian, z_sets}
use Rattle.sq_algebra.proofs.Weights.{weight-zero, weight-plus, weight-negate, same_weights}
pub use Rattle.sq_algebra.proofs.AbelianLemmas.{integers-IsAbelian, pairs_of-IsAbelian, functions_to-IsAbelian, zero-times, times-unit, suc-times, negsuc-times, neutral_right, inverse_left, interchange, plus_swap, plus_back, plus-minus_left, plus-minus_right, plus-minus_back, cancel, negate_from, negate-zero, negate-negate, negate-plus, minus-self, minus-zero, minus-plus, minus-chain, minus-plus_same, same_minus, same_from_minus, multiple-plus, times-zero, times-one, times-sum, times-negation, times_of_zero, times-plus, times-IsAdditive, negate-IsAdditive, times-times, additive-zero, additive-negate, additive-minus, additive-times, additive-sum_over, IsAdditive-identity, IsAdditive_same, IsAdditive-compose, IsAdditive-zero, IsAdditive-plus, IsAdditive-negate, bilinear_change, sum_over_agree, sum_over_agree_at, sum_over-map, sum_over-append, sum_over-flat_map, sum_over-filter, sum_over-zero, sum_over_zero_at, sum_over-plus, sum_over-negate, sum_over-minus, sum_over-times, sum_over-swap}

module _ {K : Type 0} (R : K → K → Ordering) (o : IsTotalOrder R) (identical : IsAntisymmetric R) where
  z_sets_associative : (a b c : ZSet K R) → plus_keys (plus_keys a b) c ≡ plus_keys a (plus_keys b c)
  z_sets_associative a b c = same_weights R o identical _ _ (λ k.
      let left = weight-plus R o k (plus_keys a b) c in
      let inner = weight-plus R o k a b in
      let right = weight-plus R o k a (plus_keys b c) in
      let other = weight-plus R o k b c in
      omega (arith, ints))

  z_sets_commutative : (a b : ZSet K R) → plus_keys a b ≡ plus_keys b a
  z_sets_commutative a b = same_weights R o identical _ _ (λ k.
      let left = weight-plus R o k a b in
      let right = weight-plus R o k b a in
      omega (arith, ints))

  z_sets_neutral : (a : ZSet K R) → plus_keys (no_keys R) a ≡ a
  z_sets_neutral a = same_weights R o identical _ _ (λ k.
      let sum = weight-plus R o k (no_keys R) a in
      let none = weight-zero R k in
      omega (arith, ints))

  z_sets_inverse : (a : ZSet K R) → plus_keys a (negate_keys a) ≡ no_keys R
  z_sets_inverse a = same_weights R o identical _ _ (λ k.
      let sum = weight-plus R o k a (negate_keys a) in
      let other = weight-negate R o k a in
      let none = weight-zero R k in
      omega (arith, ints))

  pub z_sets-IsAbelian : IsAbelian (z_sets R)
  z_sets-IsAbelian = record { associative = z_sets_associative; commutative = z_sets_commutative; neutral = z_sets_neutral; inverse = z_sets_inverse }
