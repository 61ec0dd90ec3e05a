-- Statements one after the other: the program so far, and that none of them has a fault.
use Rattle.std.proofs.Common.{◌≡◌, ℕ, zero, suc, ◌+◌, ◌-◌, ◌^◌, ◌<◌, ◌≤◌, List, [], ◌∷◌, ◌++◌, fold, find, length, take, drop, get_or, nat_le, nat_lt, Bool, true, false, cond, ◌||◌, refl, sym, ap, subst, ◌∙◌, arith, leb-false}
use Rattle.std.specs.Prelude.{Option, Some, None, Result, Ok, Err, IfOk}
use Rattle.std.specs.List.{AllByRecursion, list_any}
use Rattle.std.specs.Result.{IsErrAnd}
use Rattle.std.proofs.lemmas.List.Sums.{fold-append}
use Rattle.sq_ast.specs.declared.statement.Body.{Body}
use Rattle.sq_ast.specs.declared.statement.Body.TheVariants as body
use Rattle.sq_ast.specs.declared.statement.Statement.{Statement}
use Rattle.sq_catalog.specs.Names.{is_named}
use Rattle.sq_catalog.specs.declared.relation.Relation.{Relation}
use Rattle.sq_typed.specs.Checked.{Spelling, IsChecked}
use Rattle.sq_typed.specs.Faults.{Described, described, has, has_same_sources, kinds_in_order, names, first_kind, first_fault, or_later, refused_from, refused, has_long_list}
use Rattle.sq_typed.specs.Programs.{with_body, program_of, Typed}
use Rattle.sq_typed.specs.Scopes.{repeats}
use Rattle.sq_typed.specs.Sizes.{AreNarrow}
use Rattle.sq_typed.specs.Views.{Meant}
use Rattle.sq_typed.specs.declared.check_kind.CheckKind.{CheckKind}
use Rattle.sq_typed.specs.declared.limits.TheConstants.{MOST_COLUMNS, MOST_STATEMENTS}
use Rattle.sq_typed.specs.declared.check_kind.CheckKind.TheVariants as kind
use Rattle.sq_expr.proofs.Lists.{all_append}
use Rattle.std.proofs.lemmas.Bool.{ltb-false}
use Rattle.sq_check.specs.QueriesFound.{has_same_columns}
use Rattle.sq_check.proofs.QueriesAdded.{or_left, or_right}
use Rattle.sq_check.proofs.QueriesGiven.{whole}

abbrev start : Meant
start = record { catalog = []; queries = [] }

-- so many statements mean this program, and the first fault is that of those behind them
pub record ProgramSoFar (statements : List Statement) (i : ℕ) (program : Meant) : Type 0 where
  pub made : program ≡ program_of (take i statements)
  pub later : refused_from (take i statements) (drop i statements) ≡ refused statements
  pub few : i ≤ length statements
  pub narrow : AreNarrow program.catalog

pub nothing_yet : (statements : List Statement) (program : Meant) → program ≡ record { catalog = []; queries = [] } → ProgramSoFar statements 0 program
nothing_yet statements program is = record { made = is; later = refl; few = omega arith; narrow = subst (λ (p : Meant). AreNarrow p.catalog) (sym is) tt }

drop_at : {A : Type 0} (xs : List A) (i : ℕ) (x : A) → i < length xs → x ≡ get_or xs i x → drop i xs ≡ x ∷ drop (suc i) xs
drop_at [] i x below at = absurd (omega (arith, below))
drop_at (y ∷ ys) zero x below at = ap (λ z. z ∷ ys) (sym at)
drop_at (y ∷ ys) (suc i) x below at = drop_at ys i x (omega (arith, below)) at

take_at : {A : Type 0} (xs : List A) (i : ℕ) (x : A) → i < length xs → x ≡ get_or xs i x → take (suc i) xs ≡ take i xs ++ x ∷ []
take_at [] i x below at = absurd (omega (arith, below))
take_at (y ∷ ys) zero x below at = ap (λ z. z ∷ []) (sym at)
take_at (y ∷ ys) (suc i) x below at = ap (λ zs. y ∷ zs) (take_at ys i x (omega (arith, below)) at)

taken : {A : Type 0} (xs : List A) (i : ℕ) → i ≤ length xs → length (take i xs) ≡ i
taken xs zero h = refl
taken [] (suc i) h = absurd (omega (arith, h))
taken (x ∷ xs) (suc i) h = ap suc (taken xs i (omega (arith, h)))

-- ---- what no fault tells

none_found : {A : Type 0} (p : A → Bool) (xs : List A) → find p xs ≡ None → AllByRecursion (λ x. p x ≡ false) xs
none_found p [] h = tt
none_found p (x ∷ xs) h = let both = split (p x) (find p xs) x h in (both.0, none_found p xs both.1)
  where
    split : {A : Type 0} (b : Bool) (rest : Option A) (x : A) → cond b (Some x) rest ≡ None → (b ≡ false) × (rest ≡ None)
    split true rest x h = absurd (cc h)
    split false rest x h = (refl, h)

-- no query in FROM has two columns of one name
pub heads_apart : (i : ℕ) (relations : List Relation) (d : Described) → first_kind relations i d ≡ None → list_any has_same_columns d.parts.heads ≡ false
unfolding first_kind
heads_apart i relations d h = or_right (repeats (names d.columns)) (list_any has_same_columns d.parts.heads) (none_found (has relations i d) kinds_in_order h).1.1.1.0

-- and there are no more columns than a relation may have
few_columns : (i : ℕ) (relations : List Relation) (d : Described) → first_kind relations i d ≡ None → length d.columns ≤ MOST_COLUMNS
unfolding first_kind
few_columns i relations d h =
    let limit = (none_found (has relations i d) kinds_in_order h).1.1.1.1.1.1.1.1.1.1.1.0 in
    let few = or_right (nat_le MOST_STATEMENTS i) (nat_lt MOST_COLUMNS (length d.columns)) (or_left (nat_le MOST_STATEMENTS i || nat_lt MOST_COLUMNS (length d.columns)) (list_any has_long_list d.parts.blocks) limit) in
    ltb-false MOST_COLUMNS (length d.columns) few

narrow_more : (p : Meant) (b : Body) → AreNarrow p.catalog → length (described p.catalog b).columns ≤ MOST_COLUMNS → AreNarrow (with_body p b).catalog
narrow_more p (body.Table name columns) narrow few = all_append (λ (r : Relation). length r.columns ≤ MOST_COLUMNS) p.catalog _ narrow (few, tt)
narrow_more p (body.View name flavour q) narrow few = all_append (λ (r : Relation). length r.columns ≤ MOST_COLUMNS) p.catalog _ narrow (few, tt)

module _ (statements : List Statement) (i : ℕ) (s : Statement) (below : i < length statements) (at : s ≡ get_or statements i s) (program : Meant) (so : ProgramSoFar statements i program) where
  -- the fault that is asked for is that behind the statements so far
  fault_is : first_kind program.catalog i (described program.catalog s.body) ≡ first_fault (take i statements) s
  fault_is = (λ k. first_kind (so.made k).catalog (sym (taken statements i so.few) k) (described (so.made k).catalog s.body))

  refused_is : refused statements ≡ or_later s.number (first_fault (take i statements) s) (refused_from (take i statements ++ s ∷ []) (drop (suc i) statements))
  refused_is = sym so.later ∙ ap (refused_from (take i statements)) (drop_at statements i s below at)

  pub refused_here : (number : ℕ) (k : CheckKind) → number ≡ s.number → first_kind program.catalog i (described program.catalog s.body) ≡ Some k → refused statements ≡ Some (number, k)
  refused_here number k same some = refused_is ∙ (ap (λ o. or_later s.number o (refused_from (take i statements ++ s ∷ []) (drop (suc i) statements))) (sym fault_is ∙ some) ∙ ap (λ n. Some (n, k)) (sym same))

  pub one_more : (after : Meant) → first_kind program.catalog i (described program.catalog s.body) ≡ None → after ≡ with_body program s.body → ProgramSoFar statements (i + 1) after
  one_more after none made =
      let next : i + 1 ≡ suc i = omega arith in
      subst (λ n. ProgramSoFar statements n after) (sym next)
      (record {
        made = made ∙ (ap (λ p. with_body p s.body) so.made ∙ (sym (fold-append (λ p s. with_body p s.body) start (take i statements) (s ∷ [])) ∙ ap program_of (sym (take_at statements i s below at))));
        later = ap (λ before. refused_from before (drop (suc i) statements)) (take_at statements i s below at)
            ∙ sym (refused_is ∙ ap (λ o. or_later s.number o (refused_from (take i statements ++ s ∷ []) (drop (suc i) statements))) (sym fault_is ∙ none));
        few = omega (arith, below);
        narrow = subst (λ (p : Meant). AreNarrow p.catalog) (sym made) (narrow_more program s.body so.narrow (few_columns i program.catalog (described program.catalog s.body) none));
      })

-- ---- as many relations as statements

longer : {A : Type 0} (xs : List A) (x : A) → length (xs ++ x ∷ []) ≡ length xs + 1
longer [] x = refl
longer (y ∷ ys) x = omega (arith, longer ys x)

one_each : (p : Meant) (b : Body) → length (with_body p b).catalog ≡ length p.catalog + 1
one_each p (body.Table name columns) = longer p.catalog _
one_each p (body.View name flavour q) = longer p.catalog _

as_many : (p : Meant) (ss : List Statement) → length (fold (λ p s. with_body p s.body) p ss).catalog ≡ length p.catalog + length ss
as_many p [] = omega arith
as_many p (t ∷ ss) = omega (arith, as_many (with_body p t.body) ss, one_each p t.body)

pub counted : (statements : List Statement) (i : ℕ) (program : Meant) → ProgramSoFar statements i program → length program.catalog ≡ i
counted statements i program so = omega (arith, ap (λ (p : Meant). length p.catalog) so.made, as_many start (take i statements), taken statements i so.few)

-- ---- no more relations than there may be

find_last : {A : Type 0} (p : A → Bool) (xs : List A) (x : A) → find p (xs ++ x ∷ []) ≡ None → p x ≡ false
find_last p [] x h = no_first (p x) h
  where
    no_first : (b : Bool) → cond b (Some x) None ≡ None → b ≡ false
    no_first true h = absurd (cc h)
    no_first false h = refl
find_last p (y ∷ ys) x h = find_last p ys x (behind (p y) h)
  where
    behind : (b : Bool) → cond b (Some y) (find p (ys ++ x ∷ [])) ≡ None → find p (ys ++ x ∷ []) ≡ None
    behind true h = absurd (cc h)
    behind false h = h

not_late : (i : ℕ) (relations : List Relation) (d : Described) → first_kind relations i d ≡ None → nat_le MOST_STATEMENTS i ≡ false
unfolding first_kind
not_late i relations d h =
    let limit : has relations i d kind.Limit ≡ false = find_last (has relations i d) (kind.DuplicateName ∷ kind.UnknownRelation ∷ kind.UnnamedColumn ∷ kind.DuplicateColumn ∷ kind.UnknownColumn ∷ kind.AmbiguousColumn ∷ kind.NestedAggregate ∷ kind.NotGrouped ∷ kind.ColumnCount ∷ kind.TypeMismatch ∷ kind.TooWide ∷ []) kind.Limit h in
    or_left (nat_le MOST_STATEMENTS i) (nat_lt MOST_COLUMNS (length d.columns)) (or_left (nat_le MOST_STATEMENTS i || nat_lt MOST_COLUMNS (length d.columns)) (list_any has_long_list d.parts.blocks) limit)

pub few_relations : (i : ℕ) (relations : List Relation) (d : Described) → length relations ≡ i → first_kind relations i d ≡ None → length relations < 2 ^ 32 - 1
few_relations i relations d many none = omega (arith, many, leb-false MOST_STATEMENTS i (not_late i relations d none))

no_first : {A : Type 0} (b : Bool) (x : A) (rest : Option A) → cond b (Some x) rest ≡ None → b ≡ false
no_first true x rest h = absurd (cc h)
no_first false x rest h = refl

-- what is created has a new name
pub new_name : (i : ℕ) (relations : List Relation) (d : Described) → first_kind relations i d ≡ None → is_named d.name relations ≡ false
unfolding first_kind
new_name i relations d h = or_left (is_named d.name relations) (list_any has_same_sources d.parts.blocks) (no_first (has relations i d kind.DuplicateName) kind.DuplicateName _ h)

pub all_done : (statements : List Statement) (i : ℕ) (program : Meant) → length statements ≤ i → ProgramSoFar statements i program → (refused statements ≡ None) × Typed statements program
all_done statements i program over so =
    let all : take i statements ≡ statements = whole statements i over in
    (sym so.later ∙ nothing_left, so.made ∙ ap program_of all)
  where
    no_rest : {A : Type 0} (xs : List A) (i : ℕ) → length xs ≤ i → drop i xs ≡ []
    no_rest [] zero h = refl
    no_rest [] (suc i) h = refl
    no_rest (x ∷ xs) zero h = absurd (omega (arith, h))
    no_rest (x ∷ xs) (suc i) h = no_rest xs i (omega (arith, h))

    nothing_left : refused_from (take i statements) (drop i statements) ≡ None
    nothing_left = ap (refused_from (take i statements)) (no_rest statements i over)

pub is_checked : (statements : List Statement) (i : ℕ) (program : Meant) → AllByRecursion Spelling statements → length statements ≤ i → ProgramSoFar statements i program → IsChecked program
is_checked statements i program spelled over so =
    let done = all_done statements i program over so in
    record { statements = statements; spelled = spelled; without_fault = done.0; typed = done.1 }

-- ---- the first fault is passed on

pub passed : (statements : List Statement) {A E : Type 0} (P Q S : A → Type 0) (answer : Result A E) (fault : E) (R : E → Type 0) (Is : ℕ → CheckKind → E) → IsErrAnd answer R → ((y : E) → R y → y ≡ fault) → ((number : ℕ) (k : CheckKind) → fault ≡ Is number k → refused statements ≡ Some (number, k)) →
    (IfOk answer P) × (IfOk answer Q) × (IfOk answer S) × ((number : ℕ) (k : CheckKind) → answer ≡ Err (Is number k) → refused statements ≡ Some (number, k))
passed statements P Q S (Ok p) fault R Is h same told = absurd h
passed statements P Q S (Err y) fault R Is h same told = (tt, tt, tt, λ number k is. told number k (sym (same y h) ∙ cc is))
