-- The first fault of a statement, and the first statement that has one.
use Rattle.std.proofs.Common.{◌≡◌, ℕ, Bool, true, false, cond, List, [], ◌∷◌, ◌++◌, ap, sym, ◌∙◌, refl, subst, find, Option, Some, None}
use Rattle.std.specs.Prelude.{◌⊎◌}
use mathlib.Core.Logic.{inl, inr}
use Rattle.std.proofs.lemmas.List.{append_assoc, append-nil}
use Rattle.std.proofs.lemmas.Option.{same_Some}
use Rattle.sq_ast.specs.declared.statement.Statement.{Statement}
use Rattle.sq_typed.specs.Faults.{first_kind, first_fault, HasFault, has_kind, kinds_in_order, or_later, refused_from, refused}
use Rattle.sq_typed.specs.FaultsOf.{IsFirst, HaveNoFault, FirstFault}
use Rattle.sq_typed.specs.Programs.{Typed}
use Rattle.sq_typed.specs.Views.{Meant}
use Rattle.sq_typed.specs.declared.check_kind.CheckKind.{CheckKind}

pub one_kind : (before : List Statement) (s : Statement) (kind other : CheckKind) → HasFault before s kind → HasFault before s other → kind ≡ other
one_kind before s kind other h k = same_Some kind other (sym h ∙ k)

pub one_meaning : (statements : List Statement) (p q : Meant) → Typed statements p → Typed statements q → p ≡ q
one_meaning statements p q h k = h ∙ sym k

-- ---- the first kind

module _ {A : Type 0} (test : A → Bool) where
  chosen : (x y : A) (b : Bool) (later : Option A) → cond b (Some y) later ≡ Some x → ((b ≡ true) × (y ≡ x)) ⊎ ((b ≡ false) × (later ≡ Some x))
  chosen x y true later h = inl (refl, same_Some y x h)
  chosen x y false later h = inr (refl, h)

  at_head : (y : A) (ys : List A) (x : A) → ((test y ≡ true) × (y ≡ x)) ⊎ ((test y ≡ false) × (find test ys ≡ Some x)) → (find test ys ≡ Some x → IsFirst test ys x) → IsFirst test (y ∷ ys) x
  at_head y ys x (inl h) behind = record { before = []; after = ys; split = ap (λ z. z ∷ ys) h.1; fail = tt; passes = subst (λ z. test z ≡ true) h.1 h.0 }
  at_head y ys x (inr h) behind =
      let later = behind h.1 in
      record { before = y ∷ later.before; after = later.after; split = ap (λ zs. y ∷ zs) later.split; fail = (h.0, later.fail); passes = later.passes }

  find_first : (xs : List A) (x : A) → find test xs ≡ Some x → IsFirst test xs x
  find_first [] x h = absurd (cc h)
  find_first (y ∷ ys) x h = at_head y ys x (chosen x y (test y) (find test ys) h) (find_first ys x)

pub first_kind_is : (before : List Statement) (s : Statement) (kind : CheckKind) → HasFault before s kind → IsFirst (has_kind before s) kinds_in_order kind
unfolding first_kind
first_kind_is before s kind h = find_first (has_kind before s) kinds_in_order kind h

-- ---- the first statement

or_none : {K : Type 0} (number : ℕ) (o : Option K) (later : Option (ℕ × K)) → or_later number o later ≡ None → (o ≡ None) × (later ≡ None)
or_none number None later h = (refl, h)
or_none number (Some kind) later h = absurd (cc h)

behind : (done : List Statement) (s : Statement) (before : List Statement) → (done ++ s ∷ []) ++ before ≡ done ++ s ∷ before
behind done s before = append_assoc done (s ∷ []) before

-- no statement has a fault, where others stand before them
NoneFrom : List Statement → List Statement → Type 0
NoneFrom done rest = (before after : List Statement) (s : Statement) → rest ≡ before ++ s ∷ after → first_fault (done ++ before) s ≡ None

abbrev head_of : {A : Type 0} → A → List A → A
head_of x [] = x
head_of x (y ∷ ys) = y

abbrev tail_of : {A : Type 0} → List A → List A
tail_of [] = []
tail_of (x ∷ xs) = xs

none_from : (done rest : List Statement) → refused_from done rest ≡ None → NoneFrom done rest
unfolding NoneFrom
none_from done [] h [] after s is = absurd (cc is)
none_from done [] h (b ∷ bs) after s is = absurd (cc is)
none_from done (x ∷ xs) h [] after s is =
    ap (λ before. first_fault before s) (append-nil done) ∙ (ap (first_fault done) (sym (ap (head_of x) is)) ∙ (or_none x.number (first_fault done x) (refused_from (done ++ x ∷ []) xs) h).0)
none_from done (x ∷ xs) h (b ∷ bs) after s is =
    ap (λ before. first_fault before s) (ap (λ y. done ++ y ∷ bs) (sym (ap (head_of x) is)) ∙ sym (behind done x bs)) ∙
    none_from (done ++ x ∷ []) xs (or_none x.number (first_fault done x) (refused_from (done ++ x ∷ []) xs) h).1 bs after s (ap tail_of is)

-- where the first statement and those behind it have none, it and they have none
pub accepted : (statements : List Statement) → refused statements ≡ None → HaveNoFault statements
unfolding NoneFrom
accepted statements h = none_from [] statements h

from_none : (done rest : List Statement) → NoneFrom done rest → refused_from done rest ≡ None
unfolding NoneFrom
from_none done [] h = refl
from_none done (x ∷ xs) h =
    ap (λ o. or_later x.number o (refused_from (done ++ x ∷ []) xs)) (ap (λ before. first_fault before x) (sym (append-nil done)) ∙ h [] xs x refl) ∙
    from_none (done ++ x ∷ []) xs (λ bs after s is. ap (λ before. first_fault before s) (behind done x bs) ∙ h (x ∷ bs) after s (ap (λ zs. x ∷ zs) is))

pub not_refused : (statements : List Statement) → HaveNoFault statements → refused statements ≡ None
unfolding NoneFrom
not_refused statements h = from_none [] statements h

-- ---- the first refused statement

-- the first statement with a fault, where others stand before them
record Found (done rest : List Statement) (number : ℕ) (kind : CheckKind) : Type 0 where
  before : List Statement
  after : List Statement
  statement : Statement
  split : rest ≡ before ++ statement ∷ after
  numbered : statement.number ≡ number
  fault : first_fault (done ++ before) statement ≡ Some kind
  none : NoneFrom done before

or_some : {K : Type 0} (n number : ℕ) (kind : K) (o : Option K) (later : Option (ℕ × K)) → or_later n o later ≡ Some (number, kind) → ((n ≡ number) × (o ≡ Some kind)) ⊎ ((o ≡ None) × (later ≡ Some (number, kind)))
or_some n number kind None later h = inr (refl, h)
or_some n number kind (Some k) later h =
    let same = same_Some (n, k) (number, kind) h in
    inl (ap (λ p. p.0) same, ap (λ p. Some p.1) same)

nothing_none : (done : List Statement) → NoneFrom done []
unfolding NoneFrom
nothing_none done [] after s is = absurd (cc is)
nothing_none done (b ∷ bs) after s is = absurd (cc is)

one_more_none : (done : List Statement) (x : Statement) (xs : List Statement) → first_fault done x ≡ None → NoneFrom (done ++ x ∷ []) xs → NoneFrom done (x ∷ xs)
unfolding NoneFrom
one_more_none done x xs h k [] after s is =
    ap (λ before. first_fault before s) (append-nil done) ∙ (ap (first_fault done) (sym (ap (head_of x) is)) ∙ h)
one_more_none done x xs h k (b ∷ bs) after s is =
    ap (λ before. first_fault before s) (ap (λ y. done ++ y ∷ bs) (sym (ap (head_of x) is)) ∙ sym (behind done x bs)) ∙ k bs after s (ap tail_of is)

found_here : (done : List Statement) (x : Statement) (xs : List Statement) (number : ℕ) (kind : CheckKind) →
    ((x.number ≡ number) × (first_fault done x ≡ Some kind)) ⊎ ((first_fault done x ≡ None) × (refused_from (done ++ x ∷ []) xs ≡ Some (number, kind))) →
    (refused_from (done ++ x ∷ []) xs ≡ Some (number, kind) → Found (done ++ x ∷ []) xs number kind) → Found done (x ∷ xs) number kind
found_here done x xs number kind (inl h) later = record {
  before = [];
  after = xs;
  statement = x;
  split = refl;
  numbered = h.0;
  fault = ap (λ before. first_fault before x) (append-nil done) ∙ h.1;
  none = nothing_none done;
}
found_here done x xs number kind (inr h) later =
    let found = later h.1 in
    record {
      before = x ∷ found.before;
      after = found.after;
      statement = found.statement;
      split = ap (λ zs. x ∷ zs) found.split;
      numbered = found.numbered;
      fault = ap (λ before. first_fault before found.statement) (sym (behind done x found.before)) ∙ found.fault;
      none = one_more_none done x found.before h.0 found.none;
    }

found_from : (done rest : List Statement) (number : ℕ) (kind : CheckKind) → refused_from done rest ≡ Some (number, kind) → Found done rest number kind
found_from done [] number kind h = absurd (cc h)
found_from done (x ∷ xs) number kind h =
    found_here done x xs number kind (or_some x.number number kind (first_fault done x) (refused_from (done ++ x ∷ []) xs) h) (found_from (done ++ x ∷ []) xs number kind)

pub first_refused : (statements : List Statement) (number : ℕ) (kind : CheckKind) → refused statements ≡ Some (number, kind) → FirstFault statements number kind
unfolding NoneFrom
first_refused statements number kind h =
    let found = found_from [] statements number kind h in
    record { before = found.before; after = found.after; statement = found.statement; split = found.split; numbered = found.numbered; fault = found.fault; none = found.none }

pub ruleset faults = (one_kind, first_kind_is, accepted, not_refused, first_refused)
