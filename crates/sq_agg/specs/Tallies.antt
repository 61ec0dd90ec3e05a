-- Counts and sums of calls, in private contracts.
use Rattle.std.specs.Prelude.{ℕ, zero, suc, ◌^◌, ◌<◌, ◌≤◌, Bool, ◌&&◌, if◌then◌else◌, List, [], ◌∷◌, ℤ, pos, ◌+ℤ◌, neg_ℤ, unsigned_abs, Option, Some, None}
use Rattle.std.specs.List.{AllByRecursion}
use Rattle.std.specs.Option.{option_or}
use Rattle.std.specs.Ordering.{int_eq}
use Rattle.sq_agg.specs.declared.tally.Tally.{Tally}
use Rattle.sq_agg.specs.Accumulators.{is_count_in_range, is_sum_in_range}

abbrev pub no_tally : Tally
no_tally = record { count = pos 0; sum = pos 0 }

abbrev pub is_no_tally : Tally → Bool
is_no_tally t = int_eq t.count (pos 0) && int_eq t.sum (pos 0)

abbrev pub both : Tally → Tally → Tally
both s t = record { count = s.count +ℤ t.count; sum = s.sum +ℤ t.sum }

abbrev pub turned : Tally → Tally
turned t = record { count = neg_ℤ t.count; sum = neg_ℤ t.sum }

-- the sums of two lists, the shorter one with nothing behind it
abbrev pub summed : List Tally → List Tally → List Tally
summed [] [] = []
summed [] (t ∷ ts) = both no_tally t ∷ summed [] ts
summed (s ∷ ss) [] = both s no_tally ∷ summed ss []
summed (s ∷ ss) (t ∷ ts) = both s t ∷ summed ss ts

-- the first number outside its range
abbrev pub first_of_tally : Tally → Option ℤ
first_of_tally t = if is_count_in_range t.count then (if is_sum_in_range t.sum then None else Some t.sum) else Some t.count

abbrev pub first_of_tallies : List Tally → Option ℤ
first_of_tallies [] = None
first_of_tallies (t ∷ ts) = option_or (first_of_tally t) (first_of_tallies ts)

-- the counts and sums at a place of a list, nothing behind its end
abbrev pub tally_or_none : ℕ → List Tally → Tally
tally_or_none i [] = no_tally
tally_or_none zero (t ∷ ts) = t
tally_or_none (suc i) (t ∷ ts) = tally_or_none i ts

pub record IsWithin (t : Tally) : Type 0 where
  pub count : unsigned_abs t.count ≤ 2 ^ 62
  pub sum : unsigned_abs t.sum < 2 ^ 126

-- the number of rows, and the counts and sums
pub record AreWithin (n : ℤ) (ts : List Tally) : Type 0 where
  pub rows : unsigned_abs n ≤ 2 ^ 62
  pub tallies : AllByRecursion IsWithin ts
