-- Equal key bytes come from equal rows.
use Rattle.std.proofs.Common.{◌≡◌, ℕ, ℤ, ◌<◌, ◌^◌, List, [], ◌∷◌, ◌++◌, length, take, drop, get_or, arith, refl, sym, ap, ◌∙◌, append_assoc}
use Rattle.std.proofs.Math.Seq.{take-append_seam, drop-append_seam}
use Rattle.std.proofs.lemmas.Int.{to_z-of_z}
use Rattle.std.proofs.Math.Facts.{Fits-of_z, Fits-lt-pow}
use Rattle.std.proofs.lemmas.Nat.{from_be_bytes-to_be_bytes_8}
use Rattle.std.specs.Int.{w64, to_be_bytes, from_be_bytes, cast_unsigned, cast_signed}
use Rattle.std.specs.Int.RustNames.{FitsSigned}
use Rattle.std.specs.List.{AllByRecursion}
use Rattle.sq_value.specs.declared.value.Value.{Value}
use Rattle.sq_value.specs.declared.value.Value.TheVariants.{Null, Int, Text}
use Rattle.sq_value.specs.KeyBytes.{value_key, row_key, IsKept}

-- two lists are cut alike where their fronts are as long
parts_same : (xs ys more others : List ℕ) → length xs ≡ length ys → xs ++ more ≡ ys ++ others → (xs ≡ ys) × (more ≡ others)
parts_same xs ys more others len same = (
  sym (take-append_seam xs more) ∙ ap (λ n. take n (xs ++ more)) len ∙ ap (take (length ys)) same ∙ take-append_seam ys others,
  sym (drop-append_seam xs more) ∙ ap (λ n. drop n (xs ++ more)) len ∙ ap (drop (length ys)) same ∙ drop-append_seam ys others,
)

bytes_same : (m n : ℕ) → m < 2 ^ 64 → n < 2 ^ 64 → to_be_bytes w64 m ≡ to_be_bytes w64 n → m ≡ n
bytes_same m n small short same = sym (from_be_bytes-to_be_bytes_8 m small) ∙ ap (from_be_bytes w64) same ∙ from_be_bytes-to_be_bytes_8 n short

numbers_same : (x y : ℤ) → FitsSigned w64 x → FitsSigned w64 y → to_be_bytes w64 (cast_unsigned w64 x) ≡ to_be_bytes w64 (cast_unsigned w64 y) → x ≡ y
numbers_same x y fits fit same =
    sym (to_z-of_z w64 x fits) ∙ ap (cast_signed w64) (bytes_same (cast_unsigned w64 x) (cast_unsigned w64 y) (Fits-lt-pow {w = w64} (Fits-of_z fits)) (Fits-lt-pow {w = w64} (Fits-of_z fit)) same) ∙ to_z-of_z w64 y fit

-- a text is told by its length and its bytes, whatever follows it
texts_same : (t u more others : List ℕ) → length t < 2 ^ 64 → length u < 2 ^ 64
    → (to_be_bytes w64 (length t) ++ t) ++ more ≡ (to_be_bytes w64 (length u) ++ u) ++ others → (t ≡ u) × (more ≡ others)
texts_same t u more others short small same =
    let parts = parts_same (to_be_bytes w64 (length t)) (to_be_bytes w64 (length u)) (t ++ more) (u ++ others) refl
    (sym (append_assoc (to_be_bytes w64 (length t)) t more) ∙ same ∙ append_assoc (to_be_bytes w64 (length u)) u others) in
    parts_same t u more others (bytes_same (length t) (length u) short small parts.0) parts.1

differ : (m n : ℕ) → m < n → m ≡ n → ⊥
differ m n less same = omega arith

values_same : (x y : Value) (more others : List ℕ) → IsKept x → IsKept y → value_key x ++ more ≡ value_key y ++ others → (x ≡ y) × (more ≡ others)
values_same Null Null more others kept held same = (refl, ap (drop 1) same)
values_same Null (Int y) more others kept held same = absurd (differ 0 1 (omega arith) (ap (λ l. get_or l 0 9) same))
values_same Null (Text u) more others kept held same = absurd (differ 0 2 (omega arith) (ap (λ l. get_or l 0 9) same))
values_same (Int x) Null more others kept held same = absurd (differ 0 1 (omega arith) (sym (ap (λ l. get_or l 0 9) same)))
values_same (Int x) (Int y) more others kept held same =
    let parts = parts_same (to_be_bytes w64 (cast_unsigned w64 x)) (to_be_bytes w64 (cast_unsigned w64 y)) more others refl (ap (drop 1) same) in
    (ap Int (numbers_same x y kept held parts.0), parts.1)
values_same (Int x) (Text u) more others kept held same = absurd (differ 1 2 (omega arith) (ap (λ l. get_or l 0 9) same))
values_same (Text t) Null more others kept held same = absurd (differ 0 2 (omega arith) (sym (ap (λ l. get_or l 0 9) same)))
values_same (Text t) (Int y) more others kept held same = absurd (differ 1 2 (omega arith) (sym (ap (λ l. get_or l 0 9) same)))
values_same (Text t) (Text u) more others kept held same =
    let parts = texts_same t u more others kept held (ap (drop 1) same) in
    (ap Text parts.0, parts.1)

-- no value has no key bytes
has_mark : (x : Value) (more : List ℕ) → [] ≡ value_key x ++ more → ⊥
has_mark Null more none = differ 0 9 (omega arith) (sym (ap (λ l. get_or l 0 9) none))
has_mark (Int x) more none = differ 1 9 (omega arith) (sym (ap (λ l. get_or l 0 9) none))
has_mark (Text t) more none = differ 2 9 (omega arith) (sym (ap (λ l. get_or l 0 9) none))

pub rows_same : (r s : List Value) → AllByRecursion IsKept r → AllByRecursion IsKept s → row_key r ≡ row_key s → r ≡ s
rows_same [] [] kept held same = refl
rows_same [] (y ∷ ys) kept held same = absurd (has_mark y (row_key ys) same)
rows_same (x ∷ xs) [] kept held same = absurd (has_mark x (row_key xs) (sym same))
rows_same (x ∷ xs) (y ∷ ys) kept held same =
    let parts = values_same x y (row_key xs) (row_key ys) kept.0 held.0 same in
    ap (λ z. z ∷ xs) parts.0 ∙ ap (λ zs. y ∷ zs) (rows_same xs ys kept.1 held.1 parts.1)
