-- Counts and fronts of lists of columns.
use Rattle.std.proofs.Common.{◌≡◌, ◌<◌, ◌≤◌, ℕ, zero, suc, ◌+◌, ◌-◌, Bool, true, false, ◌||◌, List, [], ◌∷◌, ◌++◌, map, length, get_or, take, drop, refl, ap, sym, ◌∙◌, length-append, arith}
use Rattle.std.specs.Prelude.{bytes_eq, if◌then◌else◌}
use Rattle.std.specs.List.{flat_map, list_any}
use Rattle.std.proofs.lemmas.List.{map-append}
use Rattle.std.proofs.lemmas.List.Folds.{list_any-append}
use Rattle.std.proofs.lemmas.Grind.{flat_map-append}
use Rattle.sq_ast.specs.declared.query.ItemTree.{ItemTree}
use Rattle.sq_catalog.specs.declared.relation.Column.{Column}
use Rattle.sq_typed.specs.Faults.{names}
use Rattle.sq_typed.specs.Scopes.{Named, Scope, Text, columns_in, repeats}
use Rattle.sq_typed.specs.Selected.{Chosen, starred, starred_from, written_out}
use Rattle.sq_check.specs.TypesColumns.{up_to}
use Rattle.sq_scope.specs.TypesItems.{starred_at}
use Rattle.sq_scope.proofs.TypesLists.{flat_more}
use Rattle.sq_scope.proofs.TypesStars.{columns_here}
use Rattle.sq_check.proofs.TypesBlockLemmas.{more_items}

-- ---- counts

length_from : (n : ℕ) (cs : List Column) → length (starred_from n cs) ≡ length cs
length_from n [] = refl
length_from n (c ∷ cs) = ap suc (length_from (suc n) cs)

-- a plain star stands for all columns
pub length_all : (begin : ℕ) (ss : Scope) → length (starred (λ name. true) begin ss) ≡ length (columns_in ss)
length_all begin [] = refl
length_all begin (s ∷ ss) =
    length-append (starred_from begin s.columns) (starred (λ name. true) (begin + length s.columns) ss)
    ∙ ((λ i. length_from begin s.columns i + length_all (begin + length s.columns) ss i)
    ∙ sym (length-append s.columns (columns_in ss)))

some_of : (begin : ℕ) (cs : List Column) (b : Bool) → length (if b then starred_from begin cs else []) ≤ length cs
some_of begin cs true = omega (arith, length_from begin cs)
some_of begin cs false = omega arith

-- some sources have no more columns than all
pub some_columns : (test : Text → Bool) (begin : ℕ) (ss : Scope) → length (starred test begin ss) ≤ length (columns_in ss)
some_columns test begin [] = omega arith
some_columns test begin (s ∷ ss) =
    omega (
      arith,
      some_of begin s.columns (test s.name),
      some_columns test (begin + length s.columns) ss,
      length-append (if test s.name then starred_from begin s.columns else []) (starred test (begin + length s.columns) ss),
      length-append s.columns (columns_in ss),
    )

pub count_at : (ss : Scope) (i : ℕ) (s : Named) → i < length ss → s ≡ get_or ss i s → length s.columns ≡ length (starred_at ss i)
count_at ss i s below is = sym (length_from (length (columns_in (take i ss))) (get_or (map (λ s. s.columns) ss) i []) ∙ ap length (columns_here ss i s below is))

-- ---- fronts

same_less : (n : ℕ) → n - 0 ≡ n
same_less n = omega arith

both_less : (n m : ℕ) → suc n - suc m ≡ n - m
both_less n m = omega arith

both_parts : {A : Type 0} (n : ℕ) (xs : List A) → take n xs ++ drop n xs ≡ xs
both_parts zero [] = refl
both_parts (suc n) [] = refl
both_parts zero (x ∷ xs) = refl
both_parts (suc n) (x ∷ xs) = ap (λ ys. x ∷ ys) (both_parts n xs)

front : {A : Type 0} (n : ℕ) (xs ys : List A) → up_to n (take n xs) ys ≡ take n (xs ++ ys)
front zero [] ys = refl
front (suc n) [] ys = ap (λ m. take m ys) (same_less (suc n))
front zero (x ∷ xs) ys = refl
front (suc n) (x ∷ xs) ys = ap (λ zs. x ∷ zs) (ap (λ m. take n xs ++ take m ys) (both_less n (length (take n xs))) ∙ front n xs ys)

pub more_front : {A : Type 0} (f : Chosen → A) (scope : Scope) (limit : ℕ) (items : List ItemTree) (i : ℕ) (item : ItemTree) (before after : List A) → i < length items → item ≡ get_or items i item → before ≡ take limit (map f (flat_map (written_out scope) (take i items))) → after ≡ up_to limit before (map f (written_out scope item)) → after ≡ take limit (map f (flat_map (written_out scope) (take (i + 1) items)))
more_front f scope limit items i item before after below is was done =
    done ∙ (ap (λ b. up_to limit b (map f (written_out scope item))) was
    ∙ (front limit (map f (flat_map (written_out scope) (take i items))) (map f (written_out scope item))
    ∙ ap (take limit) (sym (map-append f (flat_map (written_out scope) (take i items)) (written_out scope item))
    ∙ ap (map f) (ap (λ j. flat_map (written_out scope) (take i items) ++ written_out scope j) is ∙ sym (flat_more (written_out scope) items i item below)))))

-- ---- names that stand twice

any_front : {A : Type 0} (p : A → Bool) (xs ys : List A) → list_any p xs ≡ true → list_any p (xs ++ ys) ≡ true
any_front p xs ys e = list_any-append p xs ys ∙ ap (λ b. b || list_any p ys) e

either : (a b c d : Bool) → (a || b) ≡ true → (a ≡ true → c ≡ true) → (b ≡ true → d ≡ true) → (c || d) ≡ true
either true b c d e f g = ap (λ t. t || d) (f refl)
either false b true d e f g = refl
either false b false d e f g = g e

repeats_front : (xs ys : List Text) → repeats xs ≡ true → repeats (xs ++ ys) ≡ true
repeats_front [] ys e = absurd (cc (e))
repeats_front (x ∷ xs) ys e = either (list_any (bytes_eq x) xs) (repeats xs) (list_any (bytes_eq x) (xs ++ ys)) (repeats (xs ++ ys)) e (any_front (bytes_eq x) xs ys) (repeats_front xs ys)

-- where the columns of the first items have a name twice, those of all have
pub repeats_soon : (f : Chosen → Column) (scope : Scope) (items : List ItemTree) (i : ℕ) (item : ItemTree) (before after : List Column) (found : Bool) → i < length items → item ≡ get_or items i item → before ≡ map f (flat_map (written_out scope) (take i items)) → after ≡ before ++ map f (written_out scope item) → found ≡ repeats (names after) → found ≡ true → repeats (names (map f (flat_map (written_out scope) items))) ≡ true
repeats_soon f scope items i item before after found below is was done tested holds =
    let rest : List Column = map f (flat_map (written_out scope) (drop (i + 1) items)) in
    let whole : after ++ rest ≡ map f (flat_map (written_out scope) items) =
    ap (λ b. b ++ rest) (more_items f scope items i item before after below is was done)
    ∙ (sym (map-append f (flat_map (written_out scope) (take (i + 1) items)) (flat_map (written_out scope) (drop (i + 1) items)))
    ∙ ap (map f) (sym (flat_map-append (written_out scope) (take (i + 1) items) (drop (i + 1) items)) ∙ ap (flat_map (written_out scope)) (both_parts (i + 1) items))) in
    ap (λ cs. repeats (names cs)) (sym whole)
    ∙ (ap repeats (map-append (λ (c : Column). c.name) after rest)
    ∙ repeats_front (names after) (names rest) (sym tested ∙ holds))
