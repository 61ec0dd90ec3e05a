-- Select lists with each star once.
use Rattle.std.proofs.Common.{◌≡◌, ◌<◌, ℕ, ◌+◌, Bool, true, false, not, ◌||◌, List, [], ◌∷◌, ◌++◌, length, get_or, take, refl, ap, sym, ◌∙◌}
use Rattle.std.specs.Prelude.{Option, bytes_eq}
use Rattle.std.specs.BTreeSet.{insert_key}
use Rattle.std.specs.Borrow.{Bor}
use Rattle.std.specs.List.{list_any}
use Rattle.std.proofs.lemmas.List.{take_more}
use Rattle.std.proofs.lemmas.List.Folds.{list_any-append}
use Rattle.std.proofs.lemmas.Slice.Eq.{bytes_eq-Decides}
use Rattle.sq_ast.specs.declared.expr.ExprTree.{ExprTree}
use Rattle.sq_ast.specs.declared.query.ItemTree.{ItemTree}
use Rattle.sq_ast.specs.declared.query.ItemTree.TheVariants as item
use Rattle.sq_typed.specs.Scopes.{Text}
use Rattle.sq_scope.specs.TypesItems.{is_same_star, is_seen, is_star, is_star_of}
use Rattle.sq_scope.specs.declared.stars.Stars.{Stars}
use Rattle.sq_scope.proofs.NamesTexts.{by_bytes, inserted}
use Rattle.sq_scope.proofs.TypesTrees.{or_false}

any_more : {A : Type 0} (p : A → Bool) (xs : List A) (x : A) → list_any p (xs ++ x ∷ []) ≡ (list_any p xs || p x)
any_more p xs x = list_any-append p xs (x ∷ []) ∙ ap (λ b. list_any p xs || b) (or_false (p x))

pub any_next : {A : Type 0} (p : A → Bool) (xs : List A) (i : ℕ) (x : A) → i < length xs → x ≡ get_or xs i x → list_any p (take (i + 1) xs) ≡ (list_any p (take i xs) || p x)
any_next p xs i x below is = ap (list_any p) (take_more xs i x below) ∙ (any_more p (take i xs) (get_or xs i x) ∙ ap (λ y. list_any p (take i xs) || p y) (sym is))

same_is : (i j : ItemTree) → is_same_star i j ≡ true → i ≡ j
same_is item.Star item.Star e = refl
same_is item.Star (item.StarOf q) e = absurd (cc e)
same_is item.Star (item.Expr f alias) e = absurd (cc e)
same_is (item.StarOf p) item.Star e = absurd (cc e)
same_is (item.StarOf p) (item.StarOf q) e = ap item.StarOf ((bytes_eq-Decides p q).0 e)
same_is (item.StarOf p) (item.Expr f alias) e = absurd (cc e)
same_is (item.Expr f alias) j e = absurd (cc e)

again : (a b : Bool) → ((a || b) || a) ≡ (a || b)
again true b = refl
again false true = refl
again false false = refl

behind : (a b c : Bool) → (b || c) ≡ b → ((a || b) || c) ≡ (a || b)
behind true b c e = refl
behind false b c e = e

by_first : (test : ItemTree → Bool) (i x : ItemTree) (xs : List ItemTree) (b : Bool) → is_same_star i x ≡ b → (b || list_any (is_same_star i) xs) ≡ true → (list_any (is_same_star i) xs ≡ true → (list_any test xs || test i) ≡ list_any test xs) → ((test x || list_any test xs) || test i) ≡ (test x || list_any test xs)
by_first test i x xs true same e later = ap (λ j. (test x || list_any test xs) || test j) (same_is i x same) ∙ again (test x) (list_any test xs)
by_first test i x xs false same e later = behind (test x) (list_any test xs) (test i) (later e)

-- a star that is there already makes no test pass that fails
was_there : (test : ItemTree → Bool) (i : ItemTree) (xs : List ItemTree) → list_any (is_same_star i) xs ≡ true → (list_any test xs || test i) ≡ list_any test xs
was_there test i [] e = absurd (cc e)
was_there test i (x ∷ xs) e = by_first test i x xs (is_same_star i x) refl e (was_there test i xs)

-- what a loop over the items has kept and seen
pub record Told (kept : List (Bor ItemTree)) (seen : Stars) (items : List ItemTree) : Type 0 where
  pub tested : (test : ItemTree → Bool) → list_any (λ i. test i.now) kept ≡ list_any test items
  pub stars : (i : ItemTree) → is_seen seen i ≡ list_any (is_same_star i) items

not_true : (b : Bool) → not b ≡ false → b ≡ true
not_true true e = refl
not_true false e = absurd (cc e)

module _ (kept : List (Bor ItemTree)) (seen now : Stars) (items : List ItemTree) (k : ℕ) (item : Bor ItemTree) (before : Told kept seen (take k items)) (below : k < length items) (is : item.now ≡ get_or items k item.now) (more : (i : ItemTree) → is_seen now i ≡ (is_seen seen i || is_same_star i item.now)) where
  next_stars : (i : ItemTree) → is_seen now i ≡ list_any (is_same_star i) (take (k + 1) items)
  next_stars i = more i ∙ (ap (λ b. b || is_same_star i item.now) (before.stars i) ∙ sym (any_next (is_same_star i) items k item.now below is))

  pub with_item : (after : List (Bor ItemTree)) → after ≡ kept ++ item ∷ [] → Told after now (take (k + 1) items)
  with_item after pushing = record {
    tested = λ test. ap (list_any (λ i. test i.now)) pushing ∙ (any_more (λ (i : Bor ItemTree). test i.now) kept item ∙ (ap (λ b. b || test item.now) (before.tested test) ∙ sym (any_next test items k item.now below is)));
    stars = next_stars;
  }

  pub without_item : (new : Bool) → new ≡ not (is_seen seen item.now) → new ≡ false → Told kept now (take (k + 1) items)
  without_item new told old = record {
    tested = λ test. before.tested test ∙ (sym (was_there test item.now (take k items) (sym (before.stars item.now) ∙ not_true (is_seen seen item.now) (sym told ∙ old))) ∙ sym (any_next test items k item.now below is));
    stars = next_stars;
  }

-- a test of these items is a test of all
pub of_all : (test : ItemTree → Bool) (lent kept : List (Bor ItemTree)) (items : List ItemTree) (found : Bool) → found ≡ list_any (λ i. test i.now) lent → lent ≡ kept → ((test : ItemTree → Bool) → list_any (λ i. test i.now) kept ≡ list_any test items) → found ≡ list_any test items
of_all test lent kept items found is all same = is ∙ (ap (list_any (λ i. test i.now)) all ∙ same test)

-- what was seen, and one more item
pub seen_expr : (seen : Stars) (i x : ItemTree) (e : ExprTree) (alias : Option Text) → x ≡ item.Expr e alias → is_seen seen i ≡ (is_seen seen i || is_same_star i x)
seen_expr seen i x e alias is = sym (ap (λ y. is_seen seen i || is_same_star i y) is ∙ (ap (λ b. is_seen seen i || b) (never i) ∙ or_false (is_seen seen i)))
  where
    never : (i : ItemTree) → is_same_star i (item.Expr e alias) ≡ false
    never item.Star = refl
    never (item.StarOf of) = refl
    never (item.Expr f other) = refl

or_true : (b : Bool) → true ≡ (b || true)
or_true true = refl
or_true false = refl

pub seen_star : (seen now : Stars) (i x : ItemTree) → x ≡ item.Star → now.plain ≡ true → now.named ≡ seen.named → is_seen now i ≡ (is_seen seen i || is_same_star i x)
seen_star seen now item.Star x is plain named = plain ∙ (or_true seen.plain ∙ ap (λ y. seen.plain || is_star y) (sym is))
seen_star seen now (item.StarOf of) x is plain named = ap (λ n. list_any (λ k. bytes_eq of k.now) n.keys) named ∙ (sym (or_false (list_any (λ k. bytes_eq of k.now) seen.named.keys)) ∙ ap (λ y. list_any (λ k. bytes_eq of k.now) seen.named.keys || is_star_of of y) (sym is))
seen_star seen now (item.Expr e alias) x is plain named = refl

or_swapped : (a b : Bool) → (a || b) ≡ (b || a)
or_swapped true true = refl
or_swapped true false = refl
or_swapped false true = refl
or_swapped false false = refl

pub seen_star_of : (seen now : Stars) (i x : ItemTree) (k : Bor (List ℕ)) → x ≡ item.StarOf k.now → now.plain ≡ seen.plain → now.named.keys ≡ insert_key by_bytes seen.named.keys k → is_seen now i ≡ (is_seen seen i || is_same_star i x)
seen_star_of seen now item.Star x k is plain named = plain ∙ (sym (or_false seen.plain) ∙ ap (λ y. seen.plain || is_star y) (sym is))
seen_star_of seen now (item.StarOf of) x k is plain named = ap (list_any (λ k. bytes_eq of k.now)) named ∙ (inserted of seen.named.keys k ∙ (or_swapped (bytes_eq of k.now) (list_any (λ k. bytes_eq of k.now) seen.named.keys) ∙ ap (λ y. list_any (λ k. bytes_eq of k.now) seen.named.keys || is_star_of of y) (sym is)))
seen_star_of seen now (item.Expr e alias) x k is plain named = refl
