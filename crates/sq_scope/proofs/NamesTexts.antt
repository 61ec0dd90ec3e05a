-- Names of which none was seen twice.
use Rattle.std.proofs.Common.{◌≡◌, ℕ, ◌+◌, ◌<◌, Bool, true, false, not, ◌||◌, List, [], ◌∷◌, ◌++◌, map, length, take, drop, get_or, refl, sym, ap, ◌∙◌}
use Rattle.std.specs.Prelude.{bytes_eq}
use Rattle.std.specs.Borrow.{Bor}
use Rattle.std.specs.BTreeSet.{BTreeSet, contains, insert_key}
use Rattle.std.specs.Cmp.Lexicographic.{slice_cmp, nat_list_eq_equiv}
use Rattle.std.specs.List.{list_any}
use Rattle.std.proofs.Common.{Ordering}
use Rattle.std.specs.Ordering.{is_eq, match_ordering, nat_cmp}
use Rattle.std.proofs.Common.{Less, Equal, Greater}
use Rattle.std.proofs.lemmas.Map.Text.{is_eq-slice_cmp}
use Rattle.std.proofs.lemmas.Slice.Eq.{bytes_eq-Decides}
use Rattle.std.proofs.lemmas.List.{take_more, take-append-drop, map-append}
use Rattle.std.proofs.lemmas.List.Folds.{list_any-append}
use Rattle.sq_typed.specs.Scopes.{Text, repeats}

-- no name of a list stands in it twice, and a set holds just these
pub record SeenOnce (set : BTreeSet (Bor (List ℕ))) (names : List Text) : Type 0 where
  pub once : repeats names ≡ false
  pub held : (q : Text) → list_any (λ k. bytes_eq q k.now) set.keys ≡ list_any (bytes_eq q) names

or_false : (b : Bool) → (b || false) ≡ b
or_false true = refl
or_false false = refl

or_swap : (a b c d : Bool) → ((a || b) || (c || d)) ≡ ((a || c) || (b || d))
or_swap true b c d = refl
or_swap false true true d = refl
or_swap false true false d = refl
or_swap false false c d = refl

pub repeats-push : (names : List Text) (name : Text) → repeats (names ++ name ∷ []) ≡ (repeats names || list_any (bytes_eq name) names)
repeats-push [] name = refl
repeats-push (n ∷ ns) name =
    (λ i. list_any-append (bytes_eq n) ns (name ∷ []) i || repeats-push ns name i) ∙
    ((λ i. (list_any (bytes_eq n) ns || or_false (nat_list_eq_equiv.symm n name i) i) || (repeats ns || list_any (bytes_eq name) ns)) ∙
    or_swap (list_any (bytes_eq n) ns) (bytes_eq name n) (repeats ns) (list_any (bytes_eq name) ns))

-- a name that stands twice in a front stands twice
either : (a b c d : Bool) → (b ≡ true → d ≡ true) → (a || b) ≡ true → ((a || c) || d) ≡ true
either true b c d later is = refl
either false b true d later is = refl
either false b false d later is = later is

pub repeats-front : (names more : List Text) → repeats names ≡ true → repeats (names ++ more) ≡ true
repeats-front [] more twice = cc
repeats-front (n ∷ ns) more twice =
    ap (λ b. b || repeats (ns ++ more)) (list_any-append (bytes_eq n) ns more) ∙ either (list_any (bytes_eq n) ns) (repeats ns) (list_any (bytes_eq n) more) (repeats (ns ++ more)) (repeats-front ns more) twice

not_false : (b : Bool) → not b ≡ false → b ≡ true
not_false true e = refl
not_false false e = cc

not_true : (b : Bool) → not b ≡ true → b ≡ false
not_true true e = cc
not_true false e = refl

-- ---- the set

abbrev pub by_bytes : Bor (List ℕ) → Bor (List ℕ) → Ordering
by_bytes k x = slice_cmp nat_cmp k.now x.now

-- whether a set has a name
pub has_name : (keys : List (Bor (List ℕ))) (k : Bor (List ℕ)) → list_any (λ x. is_eq (by_bytes k x)) keys ≡ list_any (λ x. bytes_eq k.now x.now) keys
has_name [] k = refl
has_name (x ∷ xs) k = λ i. is_eq-slice_cmp k.now x.now i || has_name xs k i

or_again : (a b : Bool) → (a || b) ≡ (a || (a || b))
or_again true b = refl
or_again false b = refl

or_behind : (a b c : Bool) → (b || (a || c)) ≡ (a || (b || c))
or_behind true true c = refl
or_behind true false c = refl
or_behind false b c = refl

-- what a set has with one more name
placed : (q : Text) (k x : Bor (List ℕ)) (xs rest : List (Bor (List ℕ))) (o : Ordering) → by_bytes k x ≡ o →
    list_any (λ y. bytes_eq q y.now) rest ≡ (bytes_eq q k.now || list_any (λ y. bytes_eq q y.now) xs) →
    list_any (λ y. bytes_eq q y.now) (match_ordering o (k ∷ x ∷ xs) (x ∷ xs) (x ∷ rest)) ≡ (bytes_eq q k.now || list_any (λ y. bytes_eq q y.now) (x ∷ xs))
placed q k x xs rest Less is more = refl
placed q k x xs rest Equal is more =
    let same : k.now ≡ x.now = (bytes_eq-Decides k.now x.now).0 (sym (is_eq-slice_cmp k.now x.now) ∙ ap is_eq is) in
    or_again (bytes_eq q x.now) (list_any (λ y. bytes_eq q y.now) xs) ∙ ap (λ t. bytes_eq q t || (bytes_eq q x.now || list_any (λ y. bytes_eq q y.now) xs)) (sym same)
placed q k x xs rest Greater is more = ap (λ b. bytes_eq q x.now || b) more ∙ or_behind (bytes_eq q k.now) (bytes_eq q x.now) (list_any (λ y. bytes_eq q y.now) xs)

pub inserted : (q : Text) (keys : List (Bor (List ℕ))) (k : Bor (List ℕ)) → list_any (λ x. bytes_eq q x.now) (insert_key by_bytes keys k) ≡ (bytes_eq q k.now || list_any (λ x. bytes_eq q x.now) keys)
inserted q [] k = refl
inserted q (x ∷ xs) k = placed q k x xs (insert_key by_bytes xs k) (by_bytes k x) refl (inserted q xs k)

or_turned : (a b : Bool) → (a || b) ≡ (b || (a || false))
or_turned true true = refl
or_turned true false = refl
or_turned false true = refl
or_turned false false = refl

module _ (names : List (Bor (List ℕ))) (i : ℕ) (d k : Bor (List ℕ)) (within : i < length names) (is : k ≡ get_or names i d) where
  abbrev texts : List (Bor (List ℕ)) → List Text
  texts ns = map (λ n. n.now) ns

  one_more : texts (take (i + 1) names) ≡ texts (take i names) ++ k.now ∷ []
  one_more = ap texts (take_more names i d within) ∙ (map-append (λ n. n.now) (take i names) (get_or names i d ∷ []) ∙ ap (λ n. texts (take i names) ++ n.now ∷ []) (sym is))

  module _ (set : BTreeSet (Bor (List ℕ))) (before : SeenOnce set (texts (take i names))) (added : Bool) (told : added ≡ not (contains by_bytes set k)) where
    seen_before : contains by_bytes set k ≡ list_any (bytes_eq k.now) (texts (take i names))
    seen_before = has_name set.keys k ∙ before.held k.now

    -- a name that is not new stands twice
    pub twice : added ≡ false → true ≡ repeats (texts names)
    twice old =
        let there : list_any (bytes_eq k.now) (texts (take i names)) ≡ true = sym seen_before ∙ not_false (contains by_bytes set k) (sym told ∙ old) in
        let so_far : repeats (texts (take (i + 1) names)) ≡ true = ap repeats one_more ∙ (repeats-push (texts (take i names)) k.now ∙ ((λ j. before.once j || there j))) in
        let all : texts names ≡ texts (take (i + 1) names) ++ texts (drop (i + 1) names) = ap texts (sym (take-append-drop (i + 1) names)) ∙ map-append (λ n. n.now) (take (i + 1) names) (drop (i + 1) names) in
        sym (ap repeats all ∙ repeats-front (texts (take (i + 1) names)) (texts (drop (i + 1) names)) so_far)

    -- a new name is one more
    pub once_more : (now : BTreeSet (Bor (List ℕ))) → added ≡ true → now.keys ≡ insert_key by_bytes set.keys k → SeenOnce now (texts (take (i + 1) names))
    once_more now new keys = record {
      once = let none : list_any (bytes_eq k.now) (texts (take i names)) ≡ false = sym seen_before ∙ not_true (contains by_bytes set k) (sym told ∙ new) in
          ap repeats one_more ∙ (repeats-push (texts (take i names)) k.now ∙ (λ j. before.once j || none j));
      held = λ q. ap (list_any (λ x. bytes_eq q x.now)) keys ∙ (inserted q set.keys k ∙ (ap (λ b. bytes_eq q k.now || b) (before.held q) ∙
          (or_turned (bytes_eq q k.now) (list_any (bytes_eq q) (texts (take i names))) ∙ sym (ap (list_any (bytes_eq q)) one_more ∙ list_any-append (bytes_eq q) (texts (take i names)) (k.now ∷ [])))));
    }
