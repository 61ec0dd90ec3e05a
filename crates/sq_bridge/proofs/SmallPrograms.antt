-- A checked program is small: its blocks, its relations, and how many of these there are.
use mathlib.Core.Logic.{◌⊎◌, inl, inr}
use Rattle.std.proofs.Common.{◌≡◌, ℕ, ◌+◌, ◌<◌, ◌≤◌, ◌^◌, nat_lt, nat_le, List, [], ◌∷◌, ◌++◌, length, Bool, true, false, cond, find, ◌||◌, refl, sym, ap, subst, ◌∙◌, arith, append_assoc}
use Rattle.std.specs.Prelude.{Some, None}
use Rattle.std.specs.List.{AllByRecursion, list_any}
use Rattle.std.proofs.lemmas.Bool.Decides.{leb_tells}
use Rattle.std.proofs.lemmas.List.{append-nil, length-append}
use Rattle.std.proofs.lemmas.List.Sums.{fold-append}
use Rattle.sq_ast.specs.Spelling as by
use Rattle.sq_ast.specs.Spelling.{SpellsBody}
use Rattle.sq_ast.specs.Words.{Tokens}
use Rattle.sq_ast.specs.declared.statement.Body.{Body}
use Rattle.sq_ast.specs.declared.statement.Statement.{Statement}
use Rattle.sq_ast.proofs.Taken.{flavour_taken, shorter}
use Rattle.sq_catalog.specs.declared.relation.Relation.{Relation}
use Rattle.sq_expr.proofs.Lists.{all_append, all_weaker}
use Rattle.sq_typed.specs.Checked.{IsChecked, Spelling}
use Rattle.sq_typed.specs.Faults.{Described, described, first_fault, first_kind, has, has_long_list, kinds_in_order, refused}
use Rattle.sq_typed.specs.Programs.{catalog_of, program_of, with_body}
use Rattle.sq_typed.specs.Sizes.{AreNarrow}
use Rattle.sq_typed.specs.Views.{Meant}
use Rattle.sq_typed.specs.declared.check_kind.CheckKind.TheVariants.{Limit}
use Rattle.sq_typed.specs.declared.limits.TheConstants.{MOST_COLUMNS, MOST_STATEMENTS}
use Rattle.sq_typed.specs.declared.query.Query.{Query}
use Rattle.sq_typed.proofs.FaultLaws.{accepted}
use Rattle.sq_typed.proofs.FitQueries.{or_left, or_right}
use Rattle.sq_typed.proofs.SizeLemmas.{query_few}
use Rattle.sq_bridge.specs.Small.{HasSmallBlocks, are_small}
use Rattle.sq_bridge.proofs.Smallness.{at_most, passing_small, tree_small}

-- ---- a statement without a fault

find_none : {A : Type 0} (p : A → Bool) (xs : List A) → find p xs ≡ None → AllByRecursion (λ x. p x ≡ false) xs
find_none p [] e = tt
find_none p (x ∷ xs) e =
    elim (p x) as (λ b. p x ≡ b → cond b (Some x) (find p xs) ≡ None → AllByRecursion (λ x. p x ≡ false) (x ∷ xs)) [
      | true ↦ λ is e. absurd (cc e)
      | false ↦ λ is e. (is, find_none p xs e)
    ] refl e

no_kind : (before : List Statement) (s : Statement) → first_fault before s ≡ None → AllByRecursion (λ kind. has (catalog_of before) (length before) (described (catalog_of before) s.body) kind ≡ false) kinds_in_order
unfolding first_kind
no_kind before s e = find_none (has (catalog_of before) (length before) (described (catalog_of before) s.body)) kinds_in_order e

record IsWithin (before : ℕ) (d : Described) : Type 0 where
  early : nat_le MOST_STATEMENTS before ≡ false
  columns : length d.columns ≤ MOST_COLUMNS
  blocks : list_any has_long_list d.parts.blocks ≡ false

within : (before : List Statement) (s : Statement) → first_fault before s ≡ None → IsWithin (length before) (described (catalog_of before) s.body)
within before s e =
    let d = described (catalog_of before) s.body in
    let limit : has (catalog_of before) (length before) d Limit ≡ false = (no_kind before s e).1.1.1.1.1.1.1.1.1.1.1.0 in
    let front = or_left (nat_le MOST_STATEMENTS (length before) || nat_lt MOST_COLUMNS (length d.columns)) (list_any has_long_list d.parts.blocks) limit in
    record {
      early = or_left (nat_le MOST_STATEMENTS (length before)) (nat_lt MOST_COLUMNS (length d.columns)) front;
      columns = at_most MOST_COLUMNS (length d.columns) (or_right (nat_le MOST_STATEMENTS (length before)) (nat_lt MOST_COLUMNS (length d.columns)) front);
      blocks = or_right (nat_le MOST_STATEMENTS (length before) || nat_lt MOST_COLUMNS (length d.columns)) (list_any has_long_list d.parts.blocks) limit;
    }

-- ---- a program so far

record SmallSoFar (p : Meant) (n : ℕ) : Type 0 where
  blocks : AllByRecursion (λ q. are_small q ≡ true) p.queries
  relations : AreNarrow p.catalog
  many : length p.catalog ≡ n
  few : n ≤ MOST_STATEMENTS

one_more : (n : ℕ) → nat_le MOST_STATEMENTS n ≡ false → n + 1 ≤ MOST_STATEMENTS
one_more n e = by_case (leb_tells MOST_STATEMENTS n)
  where
    by_case : ((nat_le MOST_STATEMENTS n ≡ true) × (MOST_STATEMENTS ≤ n)) ⊎ ((nat_le MOST_STATEMENTS n ≡ false) × (n < MOST_STATEMENTS)) → n + 1 ≤ MOST_STATEMENTS
    by_case (inl h) = absurd (let both = sym h.0 ∙ e in cc)
    by_case (inr h) = omega (arith, h.1)

body_small : {ts : Tokens} {b : Body} (p : Meant) (n : ℕ) → SpellsBody ts b [] → length ts < 2 ^ 27 → IsWithin n (described p.catalog b) → SmallSoFar p n → SmallSoFar (with_body p b) (n + 1)
body_small p n (by.table a c t) less w h = record {
  blocks = h.blocks;
  relations = all_append (λ (r : Relation). length r.columns ≤ MOST_COLUMNS) p.catalog _ h.relations (w.columns, tt);
  many = length-append p.catalog _ ∙ ap (λ m. m + 1) h.many;
  few = one_more n w.early;
}
body_small p n (by.view {q = q} f a spelled) less w h = record {
  blocks = all_append (λ (q : Query). are_small q ≡ true) p.queries _ h.blocks (tree_small p.catalog q (omega (arith, query_few spelled, shorter (flavour_taken f), less)) w.blocks, tt);
  relations = all_append (λ (r : Relation). length r.columns ≤ MOST_COLUMNS) p.catalog _ h.relations (w.columns, tt);
  many = length-append p.catalog _ ∙ ap (λ m. m + 1) h.many;
  few = one_more n w.early;
}

after_one : (done : List Statement) (s : Statement) → program_of (done ++ s ∷ []) ≡ with_body (program_of done) s.body
after_one done s = fold-append (λ p s. with_body p s.body) (record { catalog = []; queries = [] }) done (s ∷ [])

all_small : (statements done rest : List Statement) → statements ≡ done ++ rest → AllByRecursion Spelling rest → refused statements ≡ None → SmallSoFar (program_of done) (length done) → SmallSoFar (program_of statements) (length statements)
all_small statements done [] is hs e h = subst (λ ss. SmallSoFar (program_of ss) (length ss)) (sym (is ∙ append-nil done)) h
all_small statements done (s ∷ rest) is hs e h =
    all_small statements (done ++ s ∷ []) rest (is ∙ sym (append_assoc done (s ∷ []) rest)) hs.1 e
    (subst (λ p. SmallSoFar p (length (done ++ s ∷ []))) (sym (after_one done s))
    (subst (SmallSoFar (with_body (program_of done) s.body)) (sym (length-append done (s ∷ [])))
    (body_small (program_of done) (length done) hs.0.spelled hs.0.few (within done s (accepted statements e done rest s is)) h)))

checked_small : (p : Meant) → IsChecked p → (n : ℕ) × SmallSoFar p n
checked_small p c =
    let all = all_small c.statements [] c.statements refl c.spelled c.without_fault (record { blocks = tt; relations = tt; many = refl; few = omega arith }) in
    (length c.statements, subst (λ p. SmallSoFar p (length c.statements)) (sym c.typed) all)

pub checked_blocks_small : (p : Meant) → IsChecked p → AllByRecursion HasSmallBlocks p.queries
checked_blocks_small p c = all_weaker (λ q. are_small q ≡ true) HasSmallBlocks p.queries (λ q e b within. passing_small q b within e) (checked_small p c).1.blocks

pub checked_relations_narrow : (p : Meant) → IsChecked p → AreNarrow p.catalog
checked_relations_narrow p c = (checked_small p c).1.relations

pub checked_relations_few : (p : Meant) → IsChecked p → length p.catalog ≤ MOST_STATEMENTS
checked_relations_few p c = let small = (checked_small p c).1 in omega (arith, small.many, small.few)
