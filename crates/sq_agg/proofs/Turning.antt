-- One turn of the loops that make entries.
use Rattle.std.proofs.Common.{◌≡◌, ℕ, suc, ◌+◌, ◌^◌, ◌≤◌, List, [], ◌∷◌, ◌++◌, length, take, drop, ℤ, Some, None, unsigned_abs, refl, sym, ap, ap₂, ◌∙◌, append_assoc, append-nil, arith, take_all}
use Rattle.std.specs.Prelude.{slice_get}
use Rattle.std.specs.List.{AllByRecursion}
use Rattle.std.proofs.lemmas.List.Sums.{sum_by-cons}
use Rattle.sq_expr.proofs.Lists.{take_more}
use Rattle.sq_value.specs.Order.{row_cmp}
use Rattle.sq_algebra.specs.ZSet.{from_pairs}
use Rattle.sq_zset.specs.Collecting.{mass_of}
use Rattle.sq_zset.specs.Range.{first_outside}
use Rattle.sq_zset.proofs.Masses.{mass-from_pairs, mass-in_range}
use Rattle.sq_agg.proofs.Keys.{masses}
use Rattle.sq_ops.specs.declared.aggregate.Call.{Call}
use Rattle.sq_trace.specs.declared.entry.Entry.{Entry}
use Rattle.sq_trace.proofs.Searching.{drop_none}
use Rattle.sq_zset.specs.Pairs.{mass, weighted_rows}
use Rattle.sq_zset.specs.declared.pair.Pair.{Pair}
use Rattle.sq_agg.specs.Entering.{argument_entries, as_pairs, call_entries, entry, kept_entries}
use Rattle.sq_agg.specs.Kept.{Row, Rows, argument_key}

-- ---- the arguments of one call
kept-append : (c : Row) (i : ℕ) (es fs : List (Row × ℤ)) → kept_entries c i (es ++ fs) ≡ kept_entries c i es ++ kept_entries c i fs
kept-append c i [] fs = refl
kept-append c i (e ∷ es) fs = ap (λ xs. entry (argument_key c i) e.0 e.1 ∷ xs) (kept-append c i es fs)

pub one_kept : (c : Row) (number : ℕ) (es : List (Row × ℤ)) (i : ℕ) (row : Row) (n : ℤ) → slice_get es i ≡ Some (row, n) → (key : Row) (m : ℤ) (start olds news : List (Entry ℤ))
    → key ≡ argument_key c number → m ≡ n → olds ≡ start ++ kept_entries c number (take i es) → news ≡ olds ++ entry key row m ∷ [] → news ≡ start ++ kept_entries c number (take (i + 1) es)
one_kept c number es i row n found key m start olds news is same so_far made =
    made
    ∙ ap₂ (λ k w. olds ++ entry k row w ∷ []) is same
    ∙ ap (λ xs. xs ++ entry (argument_key c number) row n ∷ []) so_far
    ∙ append_assoc start (kept_entries c number (take i es)) (entry (argument_key c number) row n ∷ [])
    ∙ ap (λ xs. start ++ xs) (sym (ap (kept_entries c number) (take_more es i (row, n) found) ∙ kept-append c number (take i es) ((row, n) ∷ [])))

pub all_kept : (c : Row) (number : ℕ) (es : List (Row × ℤ)) (i : ℕ) (start olds : List (Entry ℤ)) → length es ≤ i → olds ≡ start ++ kept_entries c number (take i es) → olds ≡ start ++ kept_entries c number es
all_kept c number es i start olds past so_far = so_far ∙ ap (λ xs. start ++ kept_entries c number xs) (take_all i es past)

-- ---- the calls
module _ (c : Row) (z : Rows) (calls : List Call) (i : ℕ) (olds total : List (Entry ℤ)) (so_far : olds ++ argument_entries c i (drop i calls) z ≡ total) where
  pub one_call : (call : Call) → drop i calls ≡ call ∷ drop (suc i) calls → (news : List (Entry ℤ)) → news ≡ olds ++ call_entries c i call z → news ++ argument_entries c (i + 1) (drop (i + 1) calls) z ≡ total
  one_call call next news made =
      ap (λ xs. xs ++ argument_entries c (i + 1) (drop (i + 1) calls) z) made
      ∙ append_assoc olds (call_entries c i call z) (argument_entries c (i + 1) (drop (i + 1) calls) z)
      ∙ ap (λ k. olds ++ (call_entries c i call z ++ argument_entries c k (drop k calls) z)) is_suc
      ∙ ap (λ fs. olds ++ argument_entries c i fs z) (sym next) ∙ so_far
    where
      is_suc : i + 1 ≡ suc i
      is_suc = omega arith

  pub all_calls : length calls ≤ i → olds ≡ total
  all_calls past = sym (append-nil olds) ∙ ap (λ fs. olds ++ argument_entries c i fs z) (sym (drop_none calls i past)) ∙ so_far

-- ---- rows of entries
pairs-more : (es fs : List (Entry ℤ)) → as_pairs (es ++ fs) ≡ as_pairs es ++ as_pairs fs
pairs-more [] fs = refl
pairs-more (e ∷ es) fs = ap (λ ps. (e.row, e.payload) ∷ ps) (pairs-more es fs)

pub one_pair : (es : List (Entry ℤ)) (i : ℕ) (e : Entry ℤ) → slice_get es i ≡ Some e → (m : ℤ) → m ≡ e.payload → (olds news : List Pair)
    → weighted_rows olds ≡ as_pairs (take i es) → weighted_rows news ≡ weighted_rows olds ++ (e.row, m) ∷ [] → weighted_rows news ≡ as_pairs (take (i + 1) es)
one_pair es i e found m same olds news so_far made =
    made ∙ ap₂ (λ xs n. xs ++ (e.row, n) ∷ []) so_far same
    ∙ sym (ap as_pairs (take_more es i e found) ∙ pairs-more (take i es) (e ∷ []))

-- ---- entries of 1 and -1
units_mass : (es : List (Entry ℤ)) → AllByRecursion (λ (e : Entry ℤ). unsigned_abs e.payload ≤ 1) es → mass_of (as_pairs es) ≤ length es
units_mass [] h = omega arith
units_mass (e ∷ es) h =
    let rest = units_mass es h.1 in
    let one : unsigned_abs e.payload ≤ 1 = h.0 in
    let whole = sum_by-cons (λ (p : Row × ℤ). unsigned_abs p.1) (e.row, e.payload) (as_pairs es) in
    omega arith

module _ (es : List (Entry ℤ)) (pairs : List Pair) (made : weighted_rows pairs ≡ as_pairs es) (units : AllByRecursion (λ (e : Entry ℤ). unsigned_abs e.payload ≤ 1) es) (short : length es ≤ 2 ^ 62) where
  pub units_weigh : mass pairs ≤ 2 ^ 126
  units_weigh = let weighs = masses pairs ∙ ap mass_of made in let most = units_mass es units in omega arith

  pub units_inside : (sum : ℤ) → first_outside (from_pairs row_cmp (weighted_rows pairs)) ≡ Some sum → ⊥
  units_inside sum outside =
      let most = units_mass es units in
      let less = mass-from_pairs (as_pairs es) in
      let inside : first_outside (from_pairs row_cmp (as_pairs es)) ≡ None = mass-in_range (from_pairs row_cmp (as_pairs es)) (omega arith) in
      let both = ap (λ ps. first_outside (from_pairs row_cmp ps)) made ∙ inside in
      absurd (cc (both, outside))
