-- What is noted of several parts, one after the other.
use Rattle.std.proofs.Common.{◌≡◌, List, [], ◌∷◌, ◌++◌, map, Bool, true, false, ◌||◌, refl, sym, ap, ◌∙◌}
use Rattle.std.specs.Prelude.{⊤}
use Rattle.std.specs.List.{flat_map, list_any}
use Rattle.std.proofs.lemmas.List.Folds.{list_any-append}
use Rattle.sq_expr.proofs.Lists.{any_flat}
use Rattle.sq_typed.specs.Faults.{has_unknown_column, has_ambiguous_column, has_nested_aggregate, has_bare_column, has_mixed_types, has_wide_expr, has_long_list, differ_in_count, mixes_sorts}
use Rattle.sq_typed.specs.Resolved.{Parts, Joined, together, no_parts}
use Rattle.sq_typed.specs.Selected.{Scoped}
use Rattle.sq_typed.specs.declared.check_kind.CheckKind.{CheckKind}
use Rattle.sq_typed.specs.declared.check_kind.CheckKind.TheVariants.{DuplicateName, UnknownRelation, UnnamedColumn, DuplicateColumn, UnknownColumn, AmbiguousColumn, NestedAggregate, NotGrouped, ColumnCount, TypeMismatch, TooWide, Limit}
use Rattle.sq_check.specs.declared.findings.Findings.{Findings}
use Rattle.sq_check.specs.QueriesFound.{noted, stands, one_block, Adds, has_same_columns, joined_repeats}

-- ---- tests

pub or_assoc : (a b c : Bool) → ((a || b) || c) ≡ (a || (b || c))
or_assoc true b c = refl
or_assoc false b c = refl

pub or_comm : (a b : Bool) → (a || b) ≡ (b || a)
or_comm true true = refl
or_comm true false = refl
or_comm false true = refl
or_comm false false = refl

pub or_false : (a : Bool) → (a || false) ≡ a
or_false true = refl
or_false false = refl

pub or_left : (a b : Bool) → (a || b) ≡ false → a ≡ false
or_left true b h = h
or_left false b h = refl

pub or_right : (a b : Bool) → (a || b) ≡ false → b ≡ false
or_right true b h = absurd (cc h)
or_right false b h = h

pub any_map : {A B : Type 0} (test : B → Bool) (f : A → B) (xs : List A) → list_any test (map f xs) ≡ list_any (λ x. test (f x)) xs
any_map test f [] = refl
any_map test f (x ∷ xs) = ap (λ b. test (f x) || b) (any_map test f xs)

none : {A : Type 0} (xs : List A) → false ≡ list_any (λ (x : A). false) xs
none [] = refl
none (x ∷ xs) = none xs

-- ---- parts together

pub stands_together : (kind : CheckKind) (ps : List Parts) → stands kind (together ps) ≡ list_any (stands kind) ps
stands_together DuplicateName ps = none ps
stands_together UnknownRelation ps = none ps
stands_together UnnamedColumn ps = none ps
stands_together DuplicateColumn ps = none ps
stands_together UnknownColumn ps = any_flat has_unknown_column (λ (p : Parts). p.blocks) ps
stands_together AmbiguousColumn ps = any_flat has_ambiguous_column (λ (p : Parts). p.blocks) ps
stands_together NestedAggregate ps = any_flat has_nested_aggregate (λ (p : Parts). p.blocks) ps
stands_together NotGrouped ps = any_flat has_bare_column (λ (p : Parts). p.blocks) ps
stands_together ColumnCount ps = any_flat differ_in_count (λ (p : Parts). p.operations) ps
stands_together TypeMismatch ps = any_flat has_mixed_types (λ (p : Parts). p.blocks) ps
stands_together TooWide ps = any_flat has_wide_expr (λ (p : Parts). p.blocks) ps
stands_together Limit ps = any_flat has_long_list (λ (p : Parts). p.blocks) ps

pub stands_nowhere : (kind : CheckKind) → stands kind no_parts ≡ false
stands_nowhere DuplicateName = refl
stands_nowhere UnknownRelation = refl
stands_nowhere UnnamedColumn = refl
stands_nowhere DuplicateColumn = refl
stands_nowhere UnknownColumn = refl
stands_nowhere AmbiguousColumn = refl
stands_nowhere NestedAggregate = refl
stands_nowhere NotGrouped = refl
stands_nowhere ColumnCount = refl
stands_nowhere TypeMismatch = refl
stands_nowhere TooWide = refl
stands_nowhere Limit = refl

abbrev pub mixes : Parts → Bool
mixes p = list_any mixes_sorts p.operations

pub mixes_together : (ps : List Parts) → mixes (together ps) ≡ list_any mixes ps
mixes_together ps = any_flat mixes_sorts (λ (p : Parts). p.operations) ps

-- ---- one after the other

-- what stands in two parts
pub record AreBoth (all p q : Parts) : Type 0 where
  pub kinds : (kind : CheckKind) → stands kind all ≡ (stands kind p || stands kind q)
  pub sorts : mixes all ≡ (mixes p || mixes q)

pub adds_both : (M N K : Type 0) (a b c : Findings) (all p q : Parts) → AreBoth all p q → (K → M) → (K → N) → Adds M a b p → Adds N b c q → Adds K a c all
adds_both M N K a b c all p q both left right h k = record {
  kinds = λ kind. k.kinds kind ∙ (ap (λ x. x || stands kind q) (h.kinds kind) ∙ (or_assoc (noted kind a) (stands kind p) (stands kind q) ∙ ap (λ x. noted kind a || x) (sym (both.kinds kind))));
  sorts = λ met same.
      let before : b.column_count ≡ false = or_left b.column_count (stands ColumnCount q) (sym (k.kinds ColumnCount) ∙ same) in
      k.sorts (right met) same ∙ (ap (λ x. x || mixes q) (h.sorts (left met) before) ∙ (or_assoc a.sort_mismatch (mixes p) (mixes q) ∙ ap (λ x. a.sort_mismatch || x) (sym both.sorts)));
}

any_more : {A : Type 0} (test : A → Bool) (xs : List A) (x : A) → list_any test (xs ++ x ∷ []) ≡ (list_any test xs || test x)
any_more test xs x = list_any-append test xs (x ∷ []) ∙ ap (λ b. list_any test xs || b) (or_false (test x))

one_more : (ps : List Parts) (p : Parts) → AreBoth (together (ps ++ p ∷ [])) (together ps) p
one_more ps p = record {
  kinds = λ kind. stands_together kind (ps ++ p ∷ []) ∙ (any_more (stands kind) ps p ∙ ap (λ b. b || stands kind p) (sym (stands_together kind ps)));
  sorts = mixes_together (ps ++ p ∷ []) ∙ (any_more mixes ps p ∙ ap (λ b. b || mixes p) (sym (mixes_together ps)));
}

one_before : (ps : List Parts) (p : Parts) → AreBoth (together (p ∷ ps)) (together ps) p
one_before ps p = record {
  kinds = λ kind. stands_together kind (p ∷ ps) ∙ (or_comm (stands kind p) (list_any (stands kind) ps) ∙ ap (λ b. b || stands kind p) (sym (stands_together kind ps)));
  sorts = mixes_together (p ∷ ps) ∙ (or_comm (mixes p) (list_any mixes ps) ∙ ap (λ b. b || mixes p) (sym (mixes_together ps)));
}

pub adds_more : (a b c : Findings) (ps : List Parts) (p : Parts) → Adds ⊤ a b (together ps) → Adds ⊤ b c p → Adds ⊤ a c (together (ps ++ p ∷ []))
adds_more a b c ps p h k = adds_both ⊤ ⊤ ⊤ a b c (together (ps ++ p ∷ [])) (together ps) p (one_more ps p) (λ x. x) (λ x. x) h k

pub adds_before : (a b c : Findings) (ps : List Parts) (p : Parts) → Adds ⊤ a b (together ps) → Adds ⊤ b c p → Adds ⊤ a c (together (p ∷ ps))
adds_before a b c ps p h k = adds_both ⊤ ⊤ ⊤ a b c (together (p ∷ ps)) (together ps) p (one_before ps p) (λ x. x) (λ x. x) h k

pub adds_nothing : (M : Type 0) (a : Findings) → Adds M a a no_parts
adds_nothing M a = record {
  kinds = λ kind. sym (ap (λ b. noted kind a || b) (stands_nowhere kind) ∙ or_false (noted kind a));
  sorts = λ met same. sym (or_false a.sort_mismatch);
}

pub adds_weaker : (M K : Type 0) (a b : Findings) (p : Parts) → (K → M) → Adds M a b p → Adds K a b p
adds_weaker M K a b p f h = record { kinds = h.kinds; sorts = λ met. h.sorts (f met) }

-- ---- names of columns

pub heads_together : (ps : List Parts) → list_any has_same_columns (together ps).heads ≡ list_any (λ p. list_any has_same_columns p.heads) ps
heads_together ps = any_flat has_same_columns (λ (p : Parts). p.heads) ps

pub heads_of : (js : List Joined) → list_any has_same_columns (together (map (λ j. j.source.parts) js)).heads ≡ list_any joined_repeats js
heads_of js = heads_together (map (λ j. j.source.parts) js) ∙ any_map (λ p. list_any has_same_columns p.heads) (λ (j : Joined). j.source.parts) js

-- ---- one block

-- what the tests of a block answered
pub adds_block : (f : Findings) (s : Scoped) (unknown ambiguous nested bare mixed wide long : Bool) → unknown ≡ has_unknown_column s → ambiguous ≡ has_ambiguous_column s → nested ≡ has_nested_aggregate s → bare ≡ has_bare_column s → mixed ≡ has_mixed_types s → wide ≡ has_wide_expr s → long ≡ has_long_list s →
    Adds ⊤ f (record { unknown_column = f.unknown_column || unknown; ambiguous_column = f.ambiguous_column || ambiguous; nested_aggregate = f.nested_aggregate || nested; not_grouped = f.not_grouped || bare; column_count = f.column_count; type_mismatch = f.type_mismatch || mixed; sort_mismatch = f.sort_mismatch; too_wide = f.too_wide || wide; limit = f.limit || long }) (one_block s)
adds_block f s unknown ambiguous nested bare mixed wide long u a n b m w l = record { kinds = by_kind; sorts = λ met same. sym (or_false f.sort_mismatch) }
  where
    one : (a b c : Bool) → b ≡ c → (a || b) ≡ (a || (c || false))
    one a b c is = ap (λ x. a || x) (is ∙ sym (or_false c))

    by_kind : (kind : CheckKind) → noted kind (record { unknown_column = f.unknown_column || unknown; ambiguous_column = f.ambiguous_column || ambiguous; nested_aggregate = f.nested_aggregate || nested; not_grouped = f.not_grouped || bare; column_count = f.column_count; type_mismatch = f.type_mismatch || mixed; sort_mismatch = f.sort_mismatch; too_wide = f.too_wide || wide; limit = f.limit || long }) ≡ (noted kind f || stands kind (one_block s))
    by_kind DuplicateName = refl
    by_kind UnknownRelation = refl
    by_kind UnnamedColumn = refl
    by_kind DuplicateColumn = refl
    by_kind UnknownColumn = one f.unknown_column unknown (has_unknown_column s) u
    by_kind AmbiguousColumn = one f.ambiguous_column ambiguous (has_ambiguous_column s) a
    by_kind NestedAggregate = one f.nested_aggregate nested (has_nested_aggregate s) n
    by_kind NotGrouped = one f.not_grouped bare (has_bare_column s) b
    by_kind ColumnCount = sym (or_false f.column_count)
    by_kind TypeMismatch = one f.type_mismatch mixed (has_mixed_types s) m
    by_kind TooWide = one f.too_wide wide (has_wide_expr s) w
    by_kind Limit = one f.limit long (has_long_list s) l
