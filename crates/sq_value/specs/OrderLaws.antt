-- The orders of texts, values and rows are total, and only what is the same compares as Equal.
use Rattle.std.specs.Prelude.{◌≡◌, ◌↔◌, ℕ, ℤ, pos, List, [], Bool, true, IsTrue, nat_eq, refl}
use Rattle.std.proofs.Common.{sym, ap, subst, ◌∙◌}
use Rattle.std.specs.declared.cmp.Ordering.{Ordering}
use Rattle.std.specs.declared.cmp.Ordering.TheVariants.{Less, Equal, Greater}
use Rattle.std.specs.Ordering.{nat_cmp, int_cmp, is_eq, is_lt, is_gt, eq_by_cmp, ordering_then, on, then_cmp}
use Rattle.std.specs.Cmp.{IsTotalOrder, Equal-is, on_total, then_total, tied_itself, nat_cmp_total, int_cmp_total}
use Rattle.std.specs.Cmp.Lexicographic.{pointwise, lists_total, lists_ties, nat_list_cmp_total, texts_ties}
use Rattle.std.specs.FinMap.{IsAntisymmetric, nat_cmp-IsAntisymmetric, int_cmp-IsAntisymmetric, slice_cmp-IsAntisymmetric}
use mathlib.Core.Bool.{true≢false}
use Rattle.sq_value.specs.declared.value.Value.{Value}
use Rattle.sq_value.specs.declared.value.Value.TheVariants.{Null, Int, Text}
use Rattle.sq_value.specs.Order.{text_cmp, value_cmp, row_cmp}

-- ---- texts

pub text_cmp-total : IsTotalOrder text_cmp
text_cmp-total = nat_list_cmp_total

pub text_cmp-antisymmetric : IsAntisymmetric text_cmp
text_cmp-antisymmetric = slice_cmp-IsAntisymmetric nat_cmp-IsAntisymmetric

-- texts are equal byte by byte exactly where their order ties
pub text_ties : (s t : List ℕ) → pointwise nat_eq s t ≡ eq_by_cmp text_cmp s t
text_ties = texts_ties

-- ---- values: their kinds in order, then their numbers, then their texts

abbrev kind : Value → ℕ
kind Null = 0
kind (Int x) = 1
kind (Text t) = 2

abbrev number : Value → ℤ
number Null = pos 0
number (Int x) = x
number (Text t) = pos 0

abbrev text : Value → List ℕ
text Null = []
text (Int x) = []
text (Text t) = t

abbrev by_parts : Value → Value → Ordering
by_parts = then_cmp (on kind nat_cmp) (then_cmp (on number int_cmp) (on text text_cmp))

then_Equal : (o : Ordering) → ordering_then o Equal ≡ o
then_Equal Less = refl
then_Equal Equal = refl
then_Equal Greater = refl

value_cmp-parts : (x y : Value) → by_parts x y ≡ value_cmp x y
value_cmp-parts Null Null = refl
value_cmp-parts Null (Int y) = refl
value_cmp-parts Null (Text t) = refl
value_cmp-parts (Int x) Null = refl
value_cmp-parts (Int x) (Int y) = then_Equal (int_cmp x y)
value_cmp-parts (Int x) (Text t) = refl
value_cmp-parts (Text s) Null = refl
value_cmp-parts (Text s) (Int y) = refl
value_cmp-parts (Text s) (Text t) = refl

pub value_cmp-total : IsTotalOrder value_cmp
value_cmp-total =
    subst IsTotalOrder (λ i x y. value_cmp-parts x y i) (then_total (on_total kind nat_cmp_total) (then_total (on_total number int_cmp_total) (on_total text text_cmp-total)))

pub value_cmp-antisymmetric : IsAntisymmetric value_cmp
value_cmp-antisymmetric Null Null e = refl
value_cmp-antisymmetric Null (Int y) e = absurd (true≢false (ap is_lt e))
value_cmp-antisymmetric Null (Text t) e = absurd (true≢false (ap is_lt e))
value_cmp-antisymmetric (Int x) Null e = absurd (true≢false (ap is_gt e))
value_cmp-antisymmetric (Int x) (Int y) e = ap Int (int_cmp-IsAntisymmetric x y e)
value_cmp-antisymmetric (Int x) (Text t) e = absurd (true≢false (ap is_lt e))
value_cmp-antisymmetric (Text s) Null e = absurd (true≢false (ap is_gt e))
value_cmp-antisymmetric (Text s) (Int y) e = absurd (true≢false (ap is_gt e))
value_cmp-antisymmetric (Text s) (Text t) e = ap Text (text_cmp-antisymmetric s t e)

-- ---- rows

pub row_cmp-total : IsTotalOrder row_cmp
row_cmp-total = lists_total value_cmp-total

pub row_cmp-antisymmetric : IsAntisymmetric row_cmp
row_cmp-antisymmetric = slice_cmp-IsAntisymmetric value_cmp-antisymmetric

-- rows are equal value by value exactly where their order ties
pub row_ties : (r s : List Value) → pointwise (eq_by_cmp value_cmp) r s ≡ eq_by_cmp row_cmp r s
row_ties = lists_ties value_cmp (λ _ _. refl)

-- ---- what compares as Equal is the same

-- in a total order where only the same ties, the test of a tie is the test of being the same
pub eq_by_cmp-same : {K : Type 0} (R : K → K → Ordering) → IsTotalOrder R → IsAntisymmetric R → (x y : K) → (eq_by_cmp R x y ≡ true) ↔ (x ≡ y)
eq_by_cmp-same R total same x y = (λ e. same x y ((Equal-is (R x y)).0 e), λ e. ap (λ z. eq_by_cmp R x z) (sym e) ∙ ap is_eq (tied_itself total x))

-- the same, of the order's own answer
pub cmp-same : {K : Type 0} (R : K → K → Ordering) → IsTotalOrder R → IsAntisymmetric R → (x y : K) → (R x y ≡ Equal) ↔ (x ≡ y)
cmp-same R total same x y = (same x y, λ e. ap (λ z. R x z) (sym e) ∙ tied_itself total x)

pub text_eq-same : (s t : List ℕ) → (eq_by_cmp text_cmp s t ≡ true) ↔ (s ≡ t)
text_eq-same = eq_by_cmp-same text_cmp text_cmp-total text_cmp-antisymmetric

pub value_eq-same : (x y : Value) → (eq_by_cmp value_cmp x y ≡ true) ↔ (x ≡ y)
value_eq-same = eq_by_cmp-same value_cmp value_cmp-total value_cmp-antisymmetric

pub row_eq-same : (r s : List Value) → (eq_by_cmp row_cmp r s ≡ true) ↔ (r ≡ s)
row_eq-same = eq_by_cmp-same row_cmp row_cmp-total row_cmp-antisymmetric

-- the same, of what `==` answered
told : {P : Type 0} (e b : Bool) → b ≡ e → (e ≡ true) ↔ P → IsTrue b ↔ P
told e b is same = (λ h. same.0 (sym is ∙ h), λ p. is ∙ same.1 p)

pub same_texts : (s t : List ℕ) (b : Bool) → b ≡ eq_by_cmp text_cmp s t → IsTrue b ↔ (s ≡ t)
same_texts s t b is = told (eq_by_cmp text_cmp s t) b is (text_eq-same s t)

pub same_values : (x y : Value) (b : Bool) → b ≡ eq_by_cmp value_cmp x y → IsTrue b ↔ (x ≡ y)
same_values x y b is = told (eq_by_cmp value_cmp x y) b is (value_eq-same x y)

pub same_rows : (r s : List Value) (b : Bool) → b ≡ eq_by_cmp row_cmp r s → IsTrue b ↔ (r ≡ s)
same_rows r s b is = told (eq_by_cmp row_cmp r s) b is (row_eq-same r s)

pub ruleset order_laws = (text_cmp-total, text_cmp-antisymmetric, value_cmp-total, value_cmp-antisymmetric, row_cmp-total, row_cmp-antisymmetric)
