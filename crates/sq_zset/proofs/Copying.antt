-- What copies of entries, with a sign in front of each weight, keep from turn to turn, and what the Z-set says that holds them.
use Rattle.std.proofs.Common.{◌≡◌, ℕ, ◌+◌, ◌<◌, ◌≤◌, ◌^◌, List, [], ◌∷◌, ◌++◌, length, get_or, take, add-one, ℤ, unsigned_abs, None, sym, ap, subst, ◌∙◌, to_z, of_z, w64}
use Rattle.std.proofs.lemmas.List.{map-append}
use Rattle.std.proofs.Math.Seq.{take-suc}
use Rattle.sq_value.specs.declared.value.Value.{Value}
use Rattle.sq_value.specs.Order.{row_cmp}
use Rattle.sq_algebra.specs.ZSet.{ZSet, entries, from_entries, negate}
use Rattle.sq_zset.specs.declared.merge.Sign.{Sign}
use Rattle.sq_zset.specs.declared.merge.Sign.TheVariants.{Plus, Minus}
use Rattle.sq_zset.specs.Inside.{IsSound}
use Rattle.sq_zset.specs.Merge.{signed, signed_entries}
use Rattle.sq_zset.specs.Range.{first_outside_in}
use Rattle.sq_zset.proofs.Entries.{in_range_at, kept, entries_shown}
use Rattle.sq_zset.proofs.Merging.{signed_bound, signed_plus, entries-negate, first_outside-negated}

weight_bound : (es : List (List Value × ℤ)) (i : ℕ) (e : List Value × ℤ) → first_outside_in es ≡ None → i < length es → e ≡ get_or es i e → unsigned_abs e.1 ≤ 2 ^ 62
weight_bound es i e within low read = subst (λ (x : List Value × ℤ). unsigned_abs x.1 ≤ 2 ^ 62) (sym read) (in_range_at es i e within low)

-- the weight of an entry, as it is read
pub read_bound : (es : List (List Value × ℤ)) (i : ℕ) (e : List Value × ℤ) → first_outside_in es ≡ None → i < length es → e ≡ get_or es i e → unsigned_abs (to_z w64 (of_z w64 e.1)) ≤ 2 ^ 62
read_bound es i e within low read = let bound = weight_bound es i e within low read in subst (λ w. unsigned_abs w ≤ 2 ^ 62) (sym (kept e.1 bound)) bound

-- one entry more
pub copied_more : (sign : Sign) (es list made : List (List Value × ℤ)) (i : ℕ) (e : List Value × ℤ) (row : List Value) (x : ℤ) → first_outside_in es ≡ None → i < length es → e ≡ get_or es i e → list ≡ signed_entries sign (take i es) → row ≡ e.0 → x ≡ signed sign (to_z w64 (of_z w64 e.1)) → made ≡ list ++ (row, to_z w64 (of_z w64 x)) ∷ []
    → made ≡ signed_entries sign (take (i + 1) es)
copied_more sign es list made i e row x within low read told row_is weight_is pushed =
    let bound : unsigned_abs e.1 ≤ 2 ^ 62 = weight_bound es i e within low read in
    let same : to_z w64 (of_z w64 x) ≡ signed sign e.1 = ap (λ w. to_z w64 (of_z w64 w)) (weight_is ∙ ap (signed sign) (kept e.1 bound)) ∙ kept (signed sign e.1) (signed_bound sign e.1 (2 ^ 62) bound) in
    pushed
    ∙ (λ n. told n ++ (row_is n, same n) ∷ [])
    ∙ ap (λ (x : List Value × ℤ). signed_entries sign (take i es) ++ (x.0, signed sign x.1) ∷ []) read
    ∙ sym (map-append (λ (x : List Value × ℤ). (x.0, signed sign x.1)) (take i es) (get_or es i e ∷ []))
    ∙ ap (signed_entries sign) (sym (take-suc es i e low) ∙ ap (λ n. take n es) (sym (add-one i)))

-- the negated entries of a Z-set
pub negation_shown : (es xs made : List (List Value × ℤ)) (z : ZSet (List Value) row_cmp) → IsSound es → from_entries row_cmp es ≡ z → xs ≡ es → made ≡ signed_entries Minus xs → made ≡ entries (negate z)
negation_shown es xs made z sound shown items copied =
    copied ∙ ap (signed_entries Minus) (items ∙ sym (entries_shown es z sound shown)) ∙ sym (entries-negate z)

pub negation_in_range : (es xs made : List (List Value × ℤ)) → IsSound es → xs ≡ es → made ≡ signed_entries Minus xs → first_outside_in made ≡ None
negation_in_range es xs made sound items copied = ap first_outside_in (copied ∙ ap (signed_entries Minus) items) ∙ first_outside-negated es sound.in_range

-- the entries of a Z-set, copied
pub copy_shown : (es xs made : List (List Value × ℤ)) (z : ZSet (List Value) row_cmp) → IsSound es → from_entries row_cmp es ≡ z → xs ≡ es → made ≡ signed_entries Plus xs → made ≡ entries z
copy_shown es xs made z sound shown items copied = copied ∙ signed_plus xs ∙ items ∙ sym (entries_shown es z sound shown)

pub copy_in_range : (es xs made : List (List Value × ℤ)) → IsSound es → xs ≡ es → made ≡ signed_entries Plus xs → first_outside_in made ≡ None
copy_in_range es xs made sound items copied = ap first_outside_in (copied ∙ signed_plus xs ∙ items) ∙ sound.in_range
