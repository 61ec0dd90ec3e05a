-- Z-sets (DBSP, PVLDB 16(7), 2023, on Z-sets): finite maps from keys in the order R to whole numbers other than 0, the weights.
--     ZSet K R          a Z-set.                       code            its code, from that of the keys
--     entries z         its keys with their weights, ascending.        from_entries R es      the Z-set with these entries
--     zero R, single R k      the empty Z-set, and the one that gives k the weight 1
--     from_pairs R ps, of_list R xs      each key with the sum of its weights, and each key with its count
--     plus, negate, minus     key by key.              weight k z, total z     the weight of a key, 0 if it has none, and the sum of all weights
use Rattle.std.specs.Prelude.{◌≡◌, List, [], ◌∷◌, ◌++◌, map, Bool, true, false, cond, not, ◌&&◌, T, ℤ, pos, ◌+ℤ◌, neg_ℤ}
use Rattle.std.specs.List.{list_all}
use Rattle.std.specs.declared.cmp.Ordering.{Ordering}
use Rattle.std.specs.Ordering.{is_eq, int_eq, match_ordering}
use mathlib.Core.Path.{refl, sym, subst}
use mathlib.Core.HLevel.{Σ_prop_path}
use lib.Dec.{T_prop}
use base.Stored.{Coded, coded×, coded_list, coded_via, coded_ℤ}
use Rattle.sq_algebra.specs.Listed.{is_ascending}

-- the sum of the whole numbers that f gives for the members of a list
abbrev pub int_sum_by : {X : Type 0} → (X → ℤ) → List X → ℤ
int_sum_by f [] = pos 0
int_sum_by f (x ∷ xs) = f x +ℤ int_sum_by f xs

-- the keys of a list of pairs
abbrev pub keys : {K : Type 0} → List (K × ℤ) → List K
keys ps = map (λ p. p.0) ps

-- the pairs with the other sign
abbrev pub negated : {K : Type 0} → List (K × ℤ) → List (K × ℤ)
negated ps = map (λ p. (p.0, neg_ℤ p.1)) ps

abbrev pub is_nonzero : ℤ → Bool
is_nonzero n = not (int_eq n (pos 0))

-- k with the weight n in front, unless n is 0
abbrev pub in_front : {K : Type 0} → K → ℤ → List (K × ℤ) → List (K × ℤ)
in_front k n ps = cond (int_eq n (pos 0)) ps ((k, n) ∷ ps)

module _ {K : Type 0} (R : K → K → Ordering) where
  -- the sum of the weights that a list of pairs gives to a key
  abbrev pub weight_in : K → List (K × ℤ) → ℤ
  weight_in k ps = int_sum_by (λ p. cond (is_eq (R k p.0)) p.1 (pos 0)) ps

  -- whether the keys ascend and no weight is 0
  abbrev pub is_canonical : List (K × ℤ) → Bool
  is_canonical ps = is_ascending R (keys ps) && list_all (λ p. is_nonzero p.1) ps

  -- a canonical list, with n added to the weight of k
  abbrev pub add : K → ℤ → List (K × ℤ) → List (K × ℤ)
  add k n [] = in_front k n []
  add k n (p ∷ ps) = match_ordering (R k p.0) (in_front k n (p ∷ ps)) (in_front p.0 (n +ℤ p.1) ps) (p ∷ add k n ps)

  -- the canonical list in which each key has the sum of its weights
  abbrev pub collect : List (K × ℤ) → List (K × ℤ)
  collect [] = []
  collect (p ∷ ps) = add p.0 p.1 (collect ps)

  -- the canonical list in which each key has the difference of its weights in two lists
  abbrev pub difference : List (K × ℤ) → List (K × ℤ) → List (K × ℤ)
  difference ps qs = collect (ps ++ negated qs)

pub record ZSet (K : Type 0) (R : K → K → Ordering) : Type 0 where
  list : List (K × ℤ)
  canonical : T (is_canonical R list)

module _ {K : Type 0} {R : K → K → Ordering} where
  -- the keys with their weights, ascending
  pub entries : ZSet K R → List (K × ℤ)
  entries z = z.list

  pub entries_canonical : (z : ZSet K R) → T (is_canonical R (entries z))
  unfolding entries
  entries_canonical z = z.canonical

  pub same_entries : (y z : ZSet K R) → entries y ≡ entries z → y ≡ z
  unfolding entries
  same_entries y z e =
      let pairs : ◌≡◌ {A = (es : List (K × ℤ)) × T (is_canonical R es)} (y.list, y.canonical) (z.list, z.canonical) = Σ_prop_path (λ es. T_prop _) e in
      λ i. record { list = (pairs i).0; canonical = (pairs i).1 }

  abbrev pub code : Coded K → Coded (ZSet K R)
  code k = coded_via (coded_list (coded× k coded_ℤ)) entries same_entries

module _ {K : Type 0} (R : K → K → Ordering) where
  -- the Z-set in which no key has a weight
  pub zero : ZSet K R
  zero = record { list = []; canonical = tt }

  checked : (es : List (K × ℤ)) (b : Bool) → is_canonical R es ≡ b → ZSet K R
  checked es true e = record { list = es; canonical = subst T (sym e) tt }
  checked es false e = zero

  -- the Z-set with these entries, which are to be canonical: of others it is the empty one
  pub from_entries : List (K × ℤ) → ZSet K R
  from_entries es = checked es (is_canonical R es) refl

  entries-checked : (es : List (K × ℤ)) (b : Bool) (e : is_canonical R es ≡ b) → T b → entries (checked es b e) ≡ es
  unfolding entries checked
  entries-checked es true e h = refl
  entries-checked es false e h = absurd h

  pub entries-from_entries : (es : List (K × ℤ)) → T (is_canonical R es) → entries (from_entries es) ≡ es
  unfolding from_entries
  entries-from_entries es h = entries-checked es (is_canonical R es) refl h

  pub entries-zero : entries zero ≡ []
  unfolding entries zero
  entries-zero = refl

  -- each key with the sum of its weights
  unfoldable pub from_pairs : List (K × ℤ) → ZSet K R
  from_pairs ps = from_entries (collect R ps)

  -- the key k with the weight 1
  unfoldable pub single : K → ZSet K R
  single k = from_pairs ((k, pos 1) ∷ [])

  -- each member of a list with its count
  unfoldable pub of_list : List K → ZSet K R
  of_list xs = from_pairs (map (λ x. (x, pos 1)) xs)

module _ {K : Type 0} {R : K → K → Ordering} where
  -- the weight of a key, 0 if it has none
  unfoldable pub weight : K → ZSet K R → ℤ
  weight k z = weight_in R k (entries z)

  -- the sum of all weights
  unfoldable pub total : ZSet K R → ℤ
  total z = int_sum_by (λ e. e.1) (entries z)

  -- the sum, key by key
  unfoldable pub plus : ZSet K R → ZSet K R → ZSet K R
  plus y z = from_pairs R (entries y ++ entries z)

  -- each weight with the other sign
  unfoldable pub negate : ZSet K R → ZSet K R
  negate z = from_pairs R (negated (entries z))

  -- the difference, key by key
  abbrev pub minus : ZSet K R → ZSet K R → ZSet K R
  minus y z = plus y (negate z)
