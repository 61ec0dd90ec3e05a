-- The tests of what is typed and bounded, form by form.
use Rattle.std.proofs.Common.{◌≡◌, ◌≢◌, ℕ, zero, suc, ◌+◌, ◌≤◌, Bool, true, false, List, [], ◌∷◌, ◌++◌, take, drop, length, ap, sym, ◌∙◌, subst, arith}
use Rattle.std.specs.Prelude.{◌↔◌, IsTrue, Option, Some, slice_get}
use Rattle.std.specs.List.{AllByRecursion, flat_map, list_all}
use Rattle.std.proofs.lemmas.List.{take_all}
use Rattle.std.proofs.lemmas.Option.{same_Some}
use Rattle.std.proofs.lemmas.List.Folds.{list_all-map}
use Rattle.sq_value.specs.declared.value.Value.{Value}
use Rattle.sq_expr.specs.declared.cond.Cmp.{Cmp}
use Rattle.sq_expr.specs.declared.cond.Cond.{Cond}
use Rattle.sq_expr.specs.declared.cond.Cond.TheVariants as cond
use Rattle.sq_expr.specs.declared.expr.Expr.{Expr}
use Rattle.sq_expr.specs.declared.expr.Expr.TheVariants as expr
use Rattle.sq_expr.specs.declared.expr.Kind.{Kind}
use Rattle.sq_expr.specs.declared.expr.Term.{Term}
use Rattle.sq_expr.specs.Bounds.{parts, cond_parts, IsBounded, IsBoundedCond}
use Rattle.sq_expr.specs.Kinds.{IsOfKind, AreOfKinds}
use Rattle.sq_expr.specs.Typing.{Sort, is_numeric, arithmetic, sort_of, is_typed_cond}
use Rattle.sq_expr.proofs.Equations.{sort_of-Sum, sort_of-Product, is_typed_cond-All, is_typed_cond-Any, cond_parts-Compare, cond_parts-Null, cond_parts-Not, cond_parts-All, cond_parts-Any}
use Rattle.sq_expr.proofs.Lists.{all_front, all_back, all_append, all_flat, all_flattened}
use Rattle.sq_expr.proofs.Parts.{IsSmall}
use Rattle.sq_expr.proofs.Rows.{length_of_kinds}

module _ (kinds : List Kind) where
  -- ---- sorts

  pub sorted_sum : (e : Expr) (ts given : List Term) (i : ℕ) (numbers : Bool) (r : Option Sort) → e ≡ expr.Sum ts → given ≡ ts → length given ≤ i → numbers ≡ list_all (λ t. is_numeric (sort_of kinds t.expr)) (take i given) → r ≡ arithmetic numbers → r ≡ sort_of kinds e
  sorted_sum e ts given i numbers r is same all so_far er =
      er ∙ ap arithmetic (so_far ∙ ap (list_all (λ t. is_numeric (sort_of kinds t.expr))) (take_all i given all) ∙ sym (list_all-map is_numeric (λ t. sort_of kinds t.expr) given)) ∙
      sym (sort_of-Sum kinds given) ∙ ap (sort_of kinds) (ap expr.Sum same ∙ sym is)

  pub sorted_product : (e : Expr) (es given : List Expr) (i : ℕ) (numbers : Bool) (r : Option Sort) → e ≡ expr.Product es → given ≡ es → length given ≤ i → numbers ≡ list_all (λ e. is_numeric (sort_of kinds e)) (take i given) → r ≡ arithmetic numbers → r ≡ sort_of kinds e
  sorted_product e es given i numbers r is same all so_far er =
      er ∙ ap arithmetic (so_far ∙ ap (list_all (λ e. is_numeric (sort_of kinds e))) (take_all i given all) ∙ sym (list_all-map is_numeric (sort_of kinds) given)) ∙
      sym (sort_of-Product kinds given) ∙ ap (sort_of kinds) (ap expr.Product same ∙ sym is)

  pub typed_all : (c : Cond) (cs : List Cond) → c ≡ cond.All cs → list_all (is_typed_cond kinds) cs ≡ is_typed_cond kinds c
  typed_all c cs is = sym (list_all-map (λ b. b) (is_typed_cond kinds) cs) ∙ sym (is_typed_cond-All kinds cs) ∙ ap (is_typed_cond kinds) (sym is)

  pub typed_any : (c : Cond) (cs : List Cond) → c ≡ cond.Any cs → list_all (is_typed_cond kinds) cs ≡ is_typed_cond kinds c
  typed_any c cs is = sym (list_all-map (λ b. b) (is_typed_cond kinds) cs) ∙ sym (is_typed_cond-Any kinds cs) ∙ ap (is_typed_cond kinds) (sym is)

  -- ---- bounds of conditions

  same_parts : (c : Cond) (ps : List Expr) → cond_parts c ≡ ps → IsBoundedCond kinds c ↔ AllByRecursion (IsSmall kinds) ps
  same_parts c ps is = (subst (AllByRecursion (IsSmall kinds)) is, subst (AllByRecursion (IsSmall kinds)) (sym is))

  pub bounded_compare : (c : Cond) (cmp : Cmp) (left right : Expr) → c ≡ cond.Compare cmp left right → IsBoundedCond kinds c ↔ (IsBounded kinds left × IsBounded kinds right)
  bounded_compare c cmp left right is =
      let e = same_parts c (parts left ++ parts right) (ap cond_parts is ∙ cond_parts-Compare cmp left right) in (
        λ h. (all_front (IsSmall kinds) (parts left) (parts right) (e.0 h), all_back (IsSmall kinds) (parts left) (parts right) (e.0 h)),
        λ h. e.1 (all_append (IsSmall kinds) (parts left) (parts right) h.0 h.1),
      )

  pub bounded_null : (c : Cond) (e : Expr) (negated : Bool) → c ≡ cond.Null e negated → IsBoundedCond kinds c ↔ IsBounded kinds e
  bounded_null c e negated is = same_parts c (parts e) (ap cond_parts is ∙ cond_parts-Null e negated)

  pub bounded_not : (c operand given : Cond) → c ≡ cond.Not operand → given ≡ operand → IsBoundedCond kinds c ↔ IsBoundedCond kinds given
  bounded_not c operand given is same = same_parts c (cond_parts given) (ap cond_parts (is ∙ ap cond.Not (sym same)) ∙ cond_parts-Not given)

  of_members : (c : Cond) (cs : List Cond) → cond_parts c ≡ flat_map cond_parts cs → IsBoundedCond kinds c ↔ AllByRecursion (IsBoundedCond kinds) cs
  of_members c cs is =
      let e = same_parts c (flat_map cond_parts cs) is in
      (λ h. all_flat (IsSmall kinds) cond_parts cs (e.0 h), λ h. e.1 (all_flattened (IsSmall kinds) cond_parts cs h))

  pub bounded_all : (c : Cond) (cs : List Cond) → c ≡ cond.All cs → IsBoundedCond kinds c ↔ AllByRecursion (IsBoundedCond kinds) cs
  bounded_all c cs is = of_members c cs (ap cond_parts is ∙ cond_parts-All cs)

  pub bounded_any : (c : Cond) (cs : List Cond) → c ≡ cond.Any cs → IsBoundedCond kinds c ↔ AllByRecursion (IsBoundedCond kinds) cs
  bounded_any c cs is = of_members c cs (ap cond_parts is ∙ cond_parts-Any cs)

-- ---- what a test that answers this decides

pub same_answer : {P Q : Type 0} (r : Bool) → (P ↔ Q) → (IsTrue r ↔ Q) → IsTrue r ↔ P
same_answer r e f = (λ h. e.1 (f.0 h), λ p. f.1 (e.0 p))

-- both of two tests, where the first one is passed
pub second_answer : {P Q R : Type 0} (a b : Bool) → (P ↔ (Q × R)) → (IsTrue a ↔ Q) → (IsTrue b ↔ R) → a ≡ true → IsTrue b ↔ P
second_answer a b e f g passed = (λ h. e.1 (f.0 passed, g.0 h), λ p. g.1 (e.0 p).1)

-- and where it is not
pub first_answer : {P Q R : Type 0} (a : Bool) → (P ↔ (Q × R)) → (IsTrue a ↔ Q) → a ≡ false → IsTrue a ↔ P
first_answer a e f failed = (λ h. absurd (cc (h, failed)), λ p. f.1 (e.0 p).0)

-- ---- rows

pub other_length : (row : List Value) (kinds : List Kind) → length row ≢ length kinds → IsTrue false ↔ AreOfKinds row kinds
other_length row kinds differs = (λ h. absurd (cc h), λ h. absurd (differs (length_of_kinds row kinds h)))

-- the values from place i on, one by one
kinds_from : (row : List Value) (kinds : List Kind) (i : ℕ) (x : Value) (k : Kind) → slice_get row i ≡ Some x → slice_get kinds i ≡ Some k → AreOfKinds (drop i row) (drop i kinds) ↔ (IsOfKind x k × AreOfKinds (drop (i + 1) row) (drop (i + 1) kinds))
kinds_from [] kinds i x k ex ek = absurd (cc ex)
kinds_from (y ∷ row) [] i x k ex ek = absurd (cc ek)
kinds_from (y ∷ row) (l ∷ kinds) zero x k ex ek =
    let value = same_Some y x ex in
    let kind = same_Some l k ek in
    (λ h. (subst (IsOfKind x) kind (subst (λ x. IsOfKind x l) value h.0), h.1), λ h. (subst (λ x. IsOfKind x l) (sym value) (subst (IsOfKind x) (sym kind) h.0), h.1))
kinds_from (y ∷ row) (l ∷ kinds) (suc i) x k ex ek = let next : suc i + 1 ≡ suc (i + 1) = omega arith in rw next (kinds_from row kinds i x k ex ek)

-- one place on, where the value has its kind, and the end of the search, where it has not
pub kinds_more : (row : List Value) (kinds : List Kind) (i : ℕ) (x : Value) (k : Kind) → slice_get row i ≡ Some x → slice_get kinds i ≡ Some k → IsOfKind x k → (AreOfKinds (drop i row) (drop i kinds) ↔ AreOfKinds row kinds) → AreOfKinds (drop (i + 1) row) (drop (i + 1) kinds) ↔ AreOfKinds row kinds
kinds_more row kinds i x k ex ek here e =
    let f = kinds_from row kinds i x k ex ek in
    (λ h. e.0 (f.1 (here, h)), λ h. (f.0 (e.1 h)).1)

pub kinds_stop : (row : List Value) (kinds : List Kind) (i : ℕ) (x : Value) (k : Kind) → slice_get row i ≡ Some x → slice_get kinds i ≡ Some k → (IsOfKind x k → ⊥) → (AreOfKinds (drop i row) (drop i kinds) ↔ AreOfKinds row kinds) → IsTrue false ↔ AreOfKinds row kinds
kinds_stop row kinds i x k ex ek other e = (λ h. absurd (cc h), λ h. absurd (other ((kinds_from row kinds i x k ex ek).0 (e.1 h)).0))
