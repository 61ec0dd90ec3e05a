-- Sums over lists of pairs, which stay the same where the pairs are collected.
use Rattle.std.proofs.Common.{◌≡◌, ℕ, zero, suc, List, [], ◌∷◌, Bool, true, false, cond, not, T, ℤ, pos, negsuc, ◌+ℤ◌, ◌*ℤ◌, neg_ℤ, refl, sym, ap, subst, ◌∙◌, int_eq, Ordering, Less, Equal, Greater, is_eq}
use Rattle.std.specs.Ordering.{match_ordering}
use Rattle.std.proofs.lemmas.Bool.Decides.{Decides-int_eq}
use Rattle.sq_algebra.specs.ZSet.{int_sum_by, is_nonzero, weight_in, in_front, add, collect}
use Rattle.sq_algebra.specs.Groups.{AbelianGroup, IsAbelian, integers, multiple, times, sum_over}
use Rattle.sq_algebra.proofs.AbelianLemmas.{zero-times, times-unit, suc-times, negsuc-times, integers-IsAbelian, plus_swap, times-sum, times_of_zero, sum_over_agree}

pub zero_from : (n : ℤ) → int_eq n (pos 0) ≡ true → n ≡ pos 0
zero_from n e = (Decides-int_eq n (pos 0)).0 e

pub nonzero_from : (n : ℤ) → T (is_nonzero n) → n ≡ pos 0 → ⊥
nonzero_from n h e = subst (λ b. T (not b)) ((Decides-int_eq n (pos 0)).1 e) h

pub nonzero_T : (n : ℤ) → (n ≡ pos 0 → ⊥) → T (is_nonzero n)
nonzero_T n h = elim (int_eq n (pos 0)) as (λ b. int_eq n (pos 0) ≡ b → T (not b)) [ true ↦ λ e. absurd (h (zero_from n e)) | false ↦ λ e. tt ] refl

-- the sum over a list of pairs
abbrev pub lin_of : {K A : Type 0} → AbelianGroup A → (K → A) → List (K × ℤ) → A
lin_of G h ps = sum_over G (λ p. times G p.1 (h p.0)) ps

module _ {K : Type 0} (R : K → K → Ordering) {A : Type 0} (G : AbelianGroup A) (laws : IsAbelian G) (h : K → A) where
  lin_of-in_front : (k : K) (n : ℤ) (ps : List (K × ℤ)) → lin_of G h (in_front k n ps) ≡ G.plus (times G n (h k)) (lin_of G h ps)
  lin_of-in_front k n ps =
      elim (int_eq n (pos 0)) as (λ b. int_eq n (pos 0) ≡ b → lin_of G h (cond b ps ((k, n) ∷ ps)) ≡ G.plus (times G n (h k)) (lin_of G h ps)) [
        | true ↦ λ e. sym (laws.neutral (lin_of G h ps)) ∙ ap (λ m. G.plus (times G m (h k)) (lin_of G h ps)) (sym (zero_from n e))
        | false ↦ λ e. refl
      ] refl

  module _ (tied : (j k : K) → R j k ≡ Equal → h j ≡ h k) where
    -- the one induction on which the laws of the linear extension rest
    lin_of-add : (k : K) (n : ℤ) (ps : List (K × ℤ)) → lin_of G h (add R k n ps) ≡ G.plus (times G n (h k)) (lin_of G h ps)
    lin_of-add k n [] = lin_of-in_front k n []
    lin_of-add k n (p ∷ ps) =
        elim (R k p.0) as (λ r. R k p.0 ≡ r → lin_of G h (match_ordering r (in_front k n (p ∷ ps)) (in_front p.0 (n +ℤ p.1) ps) (p ∷ add R k n ps)) ≡ G.plus (times G n (h k)) (lin_of G h (p ∷ ps))) [
          | Less ↦ λ e. lin_of-in_front k n (p ∷ ps)
          | Equal ↦ λ e.
              lin_of-in_front p.0 (n +ℤ p.1) ps
              ∙ ap (λ a. G.plus a (lin_of G h ps)) (times-sum G laws n p.1 (h p.0))
              ∙ laws.associative (times G n (h p.0)) (times G p.1 (h p.0)) (lin_of G h ps)
              ∙ ap (λ a. G.plus (times G n a) (lin_of G h (p ∷ ps))) (sym (tied k p.0 e))
          | Greater ↦ λ e. ap (G.plus (times G p.1 (h p.0))) (lin_of-add k n ps) ∙ plus_swap G laws (times G p.1 (h p.0)) (times G n (h k)) (lin_of G h ps)
        ] refl

    pub lin_of-collect : (ps : List (K × ℤ)) → lin_of G h (collect R ps) ≡ lin_of G h ps
    lin_of-collect [] = refl
    lin_of-collect (p ∷ ps) = lin_of-add p.0 p.1 (collect R ps) ∙ ap (G.plus (times G p.1 (h p.0))) (lin_of-collect ps)

-- ---- sums and multiples of whole numbers
int_sum_is : {X : Type 0} (f : X → ℤ) (xs : List X) → sum_over integers f xs ≡ int_sum_by f xs
int_sum_is f [] = refl
int_sum_is f (x ∷ xs) = ap (λ n. f x +ℤ n) (int_sum_is f xs)

whole_multiple : (m : ℕ) (n : ℤ) → multiple integers m n ≡ pos m *ℤ n
whole_multiple zero n = sym (zero-times n)
whole_multiple (suc m) n = ap (λ k. n +ℤ k) (whole_multiple m n) ∙ suc-times m n

-- the multiple of a whole number is the product
pub times_whole : (m n : ℤ) → times integers m n ≡ m *ℤ n
times_whole (pos m) n = whole_multiple m n
times_whole (negsuc m) n = ap neg_ℤ (whole_multiple (suc m) n) ∙ negsuc-times m n

pub times_mark : (b : Bool) (n : ℤ) → times integers n (cond b (pos 1) (pos 0)) ≡ cond b n (pos 0)
times_mark true n = times_whole n (pos 1) ∙ times-unit n
times_mark false n = times_of_zero integers integers-IsAbelian n

-- the weight of a key and the total are sums over the pairs
pub weight_in_is : {K : Type 0} (R : K → K → Ordering) (k : K) (ps : List (K × ℤ)) → weight_in R k ps ≡ lin_of integers (λ j. cond (is_eq (R k j)) (pos 1) (pos 0)) ps
weight_in_is R k ps =
    sym (sum_over_agree integers (λ p. times integers p.1 (cond (is_eq (R k p.0)) (pos 1) (pos 0))) (λ p. cond (is_eq (R k p.0)) p.1 (pos 0)) (λ p. times_mark (is_eq (R k p.0)) p.1) ps
    ∙ int_sum_is (λ p. cond (is_eq (R k p.0)) p.1 (pos 0)) ps)

pub total_in_is : {K : Type 0} (ps : List (K × ℤ)) → int_sum_by (λ p. p.1) ps ≡ lin_of integers (λ (_ : K). pos 1) ps
total_in_is ps = sym (sum_over_agree integers (λ p. times integers p.1 (pos 1)) (λ p. p.1) (λ p. times_mark true p.1) ps ∙ int_sum_is (λ p. p.1) ps)
