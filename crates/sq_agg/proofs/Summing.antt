-- The sums of two lists of counts and sums, call after call.
use Rattle.std.proofs.Common.{◌≡◌, ℕ, zero, suc, ◌+◌, ◌<◌, ◌≤◌, List, [], ◌∷◌, ◌++◌, map, take, length, get_or, ℤ, Some, ◌^◌, unsigned_abs, neg_ℤ, refl, sym, ap, ap₂, subst, ◌∙◌, arith}
use Rattle.std.specs.List.{AllByRecursion}
use Rattle.std.specs.Option.{option_or}
use Rattle.std.specs.Prelude.{slice_get}
use borrow.Author.Differences.{ints}
use Rattle.sq_expr.proofs.Lists.{all_append, take_more}
use Rattle.sq_ops.proofs.Lists.{split_here}
use Rattle.sq_agg.specs.declared.tally.Tally.{Tally}
use Rattle.sq_agg.specs.Tallies.{IsWithin, both, first_of_tallies, first_of_tally, no_tally, summed, tally_or_none, turned}
use Rattle.sq_agg.proofs.Bounding.{none_of_tally}

-- ---- lengths
pub left_longer : (ss ts : List Tally) → length ts ≤ length ss → length ss ≡ length (summed ss ts)
left_longer [] [] h = refl
left_longer [] (t ∷ ts) h = absurd (omega arith)
left_longer (s ∷ ss) [] h = ap suc (left_longer ss [] (omega arith))
left_longer (s ∷ ss) (t ∷ ts) h = ap suc (left_longer ss ts (omega arith))

pub right_longer : (ss ts : List Tally) → length ss ≤ length ts → length ts ≡ length (summed ss ts)
right_longer [] [] h = refl
right_longer (s ∷ ss) [] h = absurd (omega arith)
right_longer [] (t ∷ ts) h = ap suc (right_longer [] ts (omega arith))
right_longer (s ∷ ss) (t ∷ ts) h = ap suc (right_longer ss ts (omega arith))

-- ---- one call
pub summed_at : (ss ts : List Tally) (i : ℕ) → i < length (summed ss ts) → slice_get (summed ss ts) i ≡ Some (both (tally_or_none i ss) (tally_or_none i ts))
summed_at [] [] i h = absurd (omega arith)
summed_at [] (t ∷ ts) zero h = refl
summed_at [] (t ∷ ts) (suc i) h = summed_at [] ts i (omega arith)
summed_at (s ∷ ss) [] zero h = refl
summed_at (s ∷ ss) [] (suc i) h = summed_at ss [] i (omega arith)
summed_at (s ∷ ss) (t ∷ ts) zero h = refl
summed_at (s ∷ ss) (t ∷ ts) (suc i) h = summed_at ss ts i (omega arith)

pub none_behind : (ts : List Tally) (i : ℕ) → length ts ≤ i → no_tally ≡ tally_or_none i ts
none_behind [] i h = refl
none_behind (t ∷ ts) zero h = absurd (omega arith)
none_behind (t ∷ ts) (suc i) h = none_behind ts i (omega arith)

pub read_or_none : (ts : List Tally) (i : ℕ) → get_or ts i no_tally ≡ tally_or_none i ts
read_or_none [] i = refl
read_or_none (t ∷ ts) zero = refl
read_or_none (t ∷ ts) (suc i) = read_or_none ts i

-- ---- so far
module _ (ss ts : List Tally) where
  pub record Summed (i : ℕ) (list : List Tally) : Type 0 where
    pub made : list ≡ take i (summed ss ts)
    pub within : AllByRecursion IsWithin list

  pub one_summed : (i : ℕ) (olds news : List Tally) (t : Tally) → i < length (summed ss ts) → Summed i olds → news ≡ olds ++ t ∷ [] → t ≡ both (tally_or_none i ss) (tally_or_none i ts) → IsWithin t → Summed (i + 1) news
  one_summed i olds news t low so_far made is within = record {
    made = made ∙ ap₂ (λ xs x. xs ++ x ∷ []) so_far.made is ∙ sym (take_more (summed ss ts) i (both (tally_or_none i ss) (tally_or_none i ts)) (summed_at ss ts i low));
    within = subst (AllByRecursion IsWithin) (sym made) (all_append IsWithin olds (t ∷ []) so_far.within (within, tt));
  }

  pub one_outside : (i : ℕ) (olds : List Tally) (n : ℤ) → i < length (summed ss ts) → Summed i olds → first_of_tally (both (tally_or_none i ss) (tally_or_none i ts)) ≡ Some n → first_of_tallies (summed ss ts) ≡ Some n
  one_outside i olds n low so_far out =
      ap first_of_tallies (split_here (summed ss ts) i (both (tally_or_none i ss) (tally_or_none i ts)) (summed_at ss ts i low))
      ∙ behind (take i (summed ss ts)) (both (tally_or_none i ss) (tally_or_none i ts)) _ n (subst (AllByRecursion IsWithin) so_far.made so_far.within) out
    where
      behind : (front : List Tally) (t : Tally) (rest : List Tally) (n : ℤ) → AllByRecursion IsWithin front → first_of_tally t ≡ Some n → first_of_tallies (front ++ t ∷ rest) ≡ Some n
      behind [] t rest n h e = ap (λ o. option_or o (first_of_tallies rest)) e
      behind (s ∷ front) t rest n h e = ap₂ option_or (none_of_tally s h.0) (behind front t rest n h.1 e)

-- ---- negated, call after call
pub turned_within : (t : Tally) → IsWithin t → IsWithin (turned t)
turned_within t h = record { count = subst (λ n. n ≤ 2 ^ 62) (same_abs t.count) h.count; sum = subst (λ n. n < 2 ^ 126) (same_abs t.sum) h.sum }
  where
    same_abs : (n : ℤ) → unsigned_abs n ≡ unsigned_abs (neg_ℤ n)
    same_abs n = omega (arith, ints)

pub all_turned : (ts : List Tally) → AllByRecursion IsWithin ts → AllByRecursion IsWithin (map turned ts)
all_turned [] h = tt
all_turned (t ∷ ts) h = (turned_within t h.0, all_turned ts h.1)
