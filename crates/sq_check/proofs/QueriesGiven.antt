-- What queries, sources and blocks give, each from what its parts give.
use Rattle.std.proofs.Common.{◌≡◌, ◌≢◌, ℕ, zero, suc, ◌+◌, ◌<◌, ◌≤◌, List, [], ◌∷◌, ◌++◌, map, take, length, get_or, Bool, true, false, ◌||◌, refl, sym, ap, subst, ◌∙◌, arith}
use Rattle.std.specs.Prelude.{⊤, Option, Some, None, Result, Ok, Err, MatchResult, unwrap_or}
use Rattle.std.specs.Result.{IsErrAnd}
use Rattle.std.specs.List.{list_any}
use Rattle.std.proofs.lemmas.List.{map-append, take_more}
use Rattle.std.proofs.lemmas.List.Folds.{list_any_at, list_any-append}
use Rattle.sq_ast.specs.declared.query.BlockTree.{BlockTree, out-BlockTree}
use Rattle.sq_ast.specs.declared.query.JoinedTree.{JoinedTree, out-JoinedTree}
use Rattle.sq_ast.specs.declared.query.QueryTree.{QueryTree}
use Rattle.sq_ast.specs.declared.query.QueryTree.TheOpen.{SourceTree-F}
use Rattle.sq_ast.specs.declared.query.QueryTree.TheVariants as tree
use Rattle.sq_ast.specs.declared.query.SourceTree.{SourceTree}
use Rattle.sq_ast.specs.declared.query.SourceTree.TheVariants as from
use Rattle.sq_ast.specs.declared.query.StepTree.{StepTree}
use Rattle.sq_catalog.specs.declared.relation.Relation.{Relation}
use Rattle.sq_catalog.specs.declared.relation.Column.{Column}
use Rattle.sq_typed.specs.declared.query.Query.{Query}
use Rattle.sq_typed.specs.declared.query.Query.TheVariants as query
use Rattle.sq_typed.specs.declared.query.SetStep.{roll-SetStep}
use Rattle.sq_typed.specs.Resolved.{Resolved, Joined, Parts, together, scoped, leftmost_of, operation, relation_columns, widened, of_source, of_block, resolved}
use Rattle.sq_typed.specs.Scopes.{Named, Scope, Text}
use Rattle.sq_typed.specs.Selected.{Scoped, block_columns}
use Rattle.sq_typed.specs.declared.check_kind.CheckKind.{CheckKind}
use Rattle.sq_typed.specs.declared.check_kind.CheckKind.TheVariants.{DuplicateName, UnknownRelation, UnnamedColumn, DuplicateColumn, UnknownColumn, AmbiguousColumn, NestedAggregate, NotGrouped, ColumnCount, TypeMismatch, TooWide, Limit}
use Rattle.sq_typed.proofs.QueryEquations.{resolved_source, resolved_joined, resolved_step, resolved-Chain, resolved-Intersect, source-Relation, source-Query}
use Rattle.sq_check.specs.declared.findings.Findings.{Findings}
use Rattle.sq_check.specs.declared.resolve.Shape.{Shape}
use Rattle.sq_check.specs.declared.resolve.Stop.{Stop}
use Rattle.sq_check.specs.declared.resolve.Stop.TheVariants.{Repeated}
use Rattle.sq_check.specs.declared.resolve.Wanted.{Wanted}
use Rattle.sq_check.specs.declared.resolve.Wanted.TheVariants.{Distinct, Front}
use Rattle.sq_check.specs.QueriesFound.{noted, stands, one_block, Adds, has_same_columns, IsWhole, repeats_among, repeats_in, GivesOf, Gives, operation_parts, GivesAll, SoFar, operand_repeats, block_repeats, GivesBlock, source_repeats, joined_repeats, with_operand, GivesSource, GivesScope}
use Rattle.sq_scope.specs.Scoped.{scoped_by}
use Rattle.sq_check.proofs.QueriesAdded.{or_false, any_map, mixes, adds_more, adds_before, adds_nothing, adds_weaker, stands_together, mixes_together, heads_together, heads_of}
use Rattle.sq_check.proofs.QueriesJoined.{gives_more}
use Rattle.sq_check.proofs.QueriesLoops.{StepsSoFar}
use Rattle.sq_check.proofs.QueriesScoped.{joined_at, step_at, layer, block_at, scoped_at}

-- ---- what a `?` passes on

pub stopped : {A : Type 0} (P : A → Type 0) (r : Result A Stop) (stop : Stop) (Q : Stop → Type 0) (b : Bool) → IsErrAnd r Q → ((y : Stop) → Q y → y ≡ stop) → (stop ≡ Repeated → b ≡ true) → MatchResult r P (λ s. s ≡ Repeated → b ≡ true)
stopped P (Ok x) stop Q b h same repeated = absurd h
stopped P (Err y) stop Q b h same repeated = λ is. repeated (sym (same y h) ∙ is)

pub whole : {A : Type 0} (xs : List A) (i : ℕ) → length xs ≤ i → take i xs ≡ xs
whole [] zero h = refl
whole [] (suc i) h = refl
whole (x ∷ xs) zero h = absurd (omega (arith, h))
whole (x ∷ xs) (suc i) h = ap (λ ys. x ∷ ys) (whole xs i (omega (arith, h)))

or_true : (a b : Bool) → b ≡ true → (a || b) ≡ true
or_true true b h = refl
or_true false b h = h

first_true : (a b : Bool) → a ≡ true → (a || b) ≡ true
first_true true b h = refl
first_true false b h = absurd (cc h)

-- where two columns of a query in FROM have the same name
pub heads_repeat : (wanted : Wanted) (leftmost : List Scoped) (p : Parts) → list_any has_same_columns p.heads ≡ true → repeats_among wanted leftmost p ≡ true
heads_repeat Distinct leftmost p h = or_true (list_any has_same_columns leftmost) (list_any has_same_columns p.heads) h
heads_repeat (Front n) leftmost p h = h

-- ---- set operations

abbrev head_test : Resolved → Bool
head_test m = list_any has_same_columns m.parts.heads

pub operation_heads : (ms : List Resolved) → list_any has_same_columns (operation_parts ms).heads ≡ list_any head_test ms
operation_heads ms =
    heads_together (record { blocks = []; heads = []; relations = []; operations = map (λ m. m.columns) ms ∷ [] } ∷ map (λ (m : Resolved). m.parts) ms)
    ∙ any_map (λ p. list_any has_same_columns p.heads) (λ (m : Resolved). m.parts) ms

-- a set operation whose operand at a place repeats a name in a query in FROM
pub operand_at : (wanted : Wanted) (ms : List Resolved) (i : ℕ) (d : Resolved) → i < length ms → head_test (get_or ms i d) ≡ true → repeats_among wanted (leftmost_of ms) (operation_parts ms) ≡ true
operand_at wanted ms i d below h = heads_repeat wanted (leftmost_of ms) (operation_parts ms) (operation_heads ms ∙ list_any_at head_test ms i d below h)

-- a set operation whose first operand repeats a name
pub first_operand : (wanted : Wanted) (m : Resolved) (ms : List Resolved) → repeats_in wanted m ≡ true → repeats_among wanted (leftmost_of (m ∷ ms)) (operation_parts (m ∷ ms)) ≡ true
first_operand Distinct m ms h =
    ap (λ b. list_any has_same_columns m.leftmost || b) (operation_heads (m ∷ ms)) ∙ spread (list_any has_same_columns m.leftmost) (head_test m) (list_any head_test ms) h
  where
    spread : (a b c : Bool) → (a || b) ≡ true → (a || (b || c)) ≡ true
    spread true b c h = refl
    spread false true c h = refl
    spread false false c h = absurd (cc h)
first_operand (Front n) m ms h = operation_heads (m ∷ ms) ∙ first_true (head_test m) (list_any head_test ms) h

-- one operand alone
own_alone : (kind : CheckKind) (m : Resolved) → stands kind (record { blocks = []; heads = []; relations = []; operations = (m.columns ∷ []) ∷ [] }) ≡ false
own_alone DuplicateName m = refl
own_alone UnknownRelation m = refl
own_alone UnnamedColumn m = refl
own_alone DuplicateColumn m = refl
own_alone UnknownColumn m = refl
own_alone AmbiguousColumn m = refl
own_alone NestedAggregate m = refl
own_alone NotGrouped m = refl
own_alone ColumnCount m = refl
own_alone TypeMismatch m = refl
own_alone TooWide m = refl
own_alone Limit m = refl

abbrev own_of : Resolved → Parts
own_of m = record { blocks = []; heads = []; relations = []; operations = (m.columns ∷ []) ∷ [] }

alone_kinds : (kind : CheckKind) (m : Resolved) → stands kind (operation_parts (m ∷ [])) ≡ stands kind m.parts
alone_kinds kind m = stands_together kind (own_of m ∷ m.parts ∷ []) ∙ (ap (λ b. b || (stands kind m.parts || false)) (own_alone kind m) ∙ or_false (stands kind m.parts))

alone_mixes : (m : Resolved) → mixes (operation_parts (m ∷ [])) ≡ mixes m.parts
alone_mixes m = mixes_together (own_of m ∷ m.parts ∷ []) ∙ or_false (mixes m.parts)

alone_differ : (wanted : Wanted) (m : Resolved) → repeats_among wanted (leftmost_of (m ∷ [])) (operation_parts (m ∷ [])) ≡ repeats_in wanted m
alone_differ Distinct m = ap (λ b. list_any has_same_columns m.leftmost || b) (operation_heads (m ∷ []) ∙ or_false (head_test m))
alone_differ (Front n) m = operation_heads (m ∷ []) ∙ or_false (head_test m)

pub gives_first : (wanted : Wanted) (m : Resolved) (before after : Findings) (s : Shape) → Gives wanted m before after s → GivesAll wanted (m ∷ []) before after s
gives_first wanted m before after s h = record {
  columns = h.columns;
  count = h.count;
  differ = alone_differ wanted m ∙ h.differ;
  added = record {
    kinds = λ kind. h.added.kinds kind ∙ ap (λ b. noted kind before || b) (sym (alone_kinds kind m));
    sorts = λ whole same. h.added.sorts whole same ∙ ap (λ b. before.sort_mismatch || b) (sym (alone_mixes m));
  };
}

-- no operand at all
nowhere : (kind : CheckKind) → stands kind (operation_parts []) ≡ false
nowhere DuplicateName = refl
nowhere UnknownRelation = refl
nowhere UnnamedColumn = refl
nowhere DuplicateColumn = refl
nowhere UnknownColumn = refl
nowhere AmbiguousColumn = refl
nowhere NestedAggregate = refl
nowhere NotGrouped = refl
nowhere ColumnCount = refl
nowhere TypeMismatch = refl
nowhere TooWide = refl
nowhere Limit = refl

none_added : (M : Type 0) (f : Findings) → Adds M f f (operation_parts [])
none_added M f = record { kinds = λ kind. sym (ap (λ b. noted kind f || b) (nowhere kind) ∙ or_false (noted kind f)); sorts = λ met same. sym (or_false f.sort_mismatch) }

pub gives_none : (wanted : Wanted) (f : Findings) → GivesAll wanted [] f f (record { columns = []; count = 0 })
gives_none Distinct f = record { columns = refl; count = refl; differ = refl; added = none_added (IsWhole Distinct []) f }
gives_none (Front n) f = record { columns = take_nothing n; count = refl; differ = refl; added = none_added (IsWhole (Front n) []) f }
  where
    take_nothing : (n : ℕ) → ◌≡◌ {A = List Column} [] (take n [])
    take_nothing zero = refl
    take_nothing (suc n) = refl

-- a further operand
pub gives_further : (wanted : Wanted) (members : List Resolved) (r : Resolved) (start before after : Findings) (s t : Shape) →
    ((wanted : Wanted) (first : Resolved) (rest : List Resolved) (start : Findings) → GivesAll wanted (first ∷ rest) start before s → GivesAll wanted (first ∷ (rest ++ r ∷ [])) start after t) →
    members ≢ [] → GivesAll wanted members start before s → GivesAll wanted (members ++ r ∷ []) start after t
gives_further wanted [] r start before after s t more some h = absurd (some refl)
gives_further wanted (m ∷ ms) r start before after s t more some h = more wanted m ms start h

module _ (relations : List Relation) where
  -- ---- chains

  abbrev pub chain_members : QueryTree → List StepTree → List Resolved
  chain_members first steps = resolved relations first ∷ map (λ s. resolved relations s.query) steps

  steps_are : (steps : List StepTree) → map (λ s. s.1) (map (resolved_step relations) steps) ≡ map (λ s. resolved relations s.query) steps
  steps_are [] = refl
  steps_are (s ∷ ss) = (λ i. (step_at relations s i).1 ∷ steps_are ss i)

  abbrev chain_query : QueryTree → List StepTree → Query
  chain_query first steps = query.Chain (resolved relations first).query (map (λ s. roll-SetStep (record { op = s.0; query = s.1.query })) (map (resolved_step relations) steps))

  pub chain_is : (q first : QueryTree) (steps : List StepTree) → q ≡ tree.Chain first steps → resolved relations q ≡ operation (chain_query first steps) (chain_members first steps)
  chain_is q first steps is = ap (resolved relations) is ∙ (resolved-Chain relations first steps ∙ ap (λ ms. operation (chain_query first steps) (resolved relations first ∷ ms)) (steps_are steps))

  pub intersect_is : (q : QueryTree) (members : List QueryTree) → q ≡ tree.Intersect members → resolved relations q ≡ operation (query.Intersect (map (λ m. m.query) (map (resolved relations) members))) (map (resolved relations) members)
  intersect_is q members is = ap (resolved relations) is ∙ resolved-Intersect relations members

  pub chain_repeats_first : (wanted : Wanted) (q first given_first : QueryTree) (steps : List StepTree) → q ≡ tree.Chain first steps → given_first ≡ first → repeats_in wanted (resolved relations given_first) ≡ true → repeats_in wanted (resolved relations q) ≡ true
  chain_repeats_first wanted q first given_first steps is same h =
      subst (λ r. repeats_in wanted r ≡ true) (sym (chain_is q first steps is))
      (first_operand wanted (resolved relations first) (map (λ s. resolved relations s.query) steps) (subst (λ q. repeats_in wanted (resolved relations q) ≡ true) same h))

  any_mapped : {A B : Type 0} (test : B → Bool) (f : A → B) (xs : List A) (i : ℕ) (d : A) → i < length xs → test (f (get_or xs i d)) ≡ true → list_any test (map f xs) ≡ true
  any_mapped test f xs i d below h = any_map test f xs ∙ list_any_at (λ x. test (f x)) xs i d below h

  pub chain_repeats_later : (wanted : Wanted) (q first : QueryTree) (steps : List StepTree) (i : ℕ) (s : StepTree) → q ≡ tree.Chain first steps → i < length steps → s ≡ get_or steps i s → head_test (resolved relations s.query) ≡ true → repeats_in wanted (resolved relations q) ≡ true
  chain_repeats_later wanted q first steps i s is below at h =
      subst (λ r. repeats_in wanted r ≡ true) (sym (chain_is q first steps is))
      (heads_repeat wanted (leftmost_of (chain_members first steps)) (operation_parts (chain_members first steps))
      (operation_heads (chain_members first steps)
      ∙ or_true (head_test (resolved relations first)) (list_any head_test (map (λ s. resolved relations s.query) steps)) (any_mapped head_test (λ s. resolved relations s.query) steps i s below (subst (λ (x : StepTree). head_test (resolved relations x.query) ≡ true) at h))))

  pub chain_starts : (wanted : Wanted) (q first given_first : QueryTree) (steps items : List StepTree) (start now : Findings) (s : Shape) → q ≡ tree.Chain first steps → given_first ≡ first → items ≡ steps → Gives wanted (resolved relations given_first) start now s → StepsSoFar relations q wanted items 0 start now s
  chain_starts wanted q first given_first steps items start now s is same all h = record {
    first = first;
    chain = is ∙ ap (tree.Chain first) (sym all);
    gives = gives_first wanted (resolved relations first) start now s (subst (λ q. Gives wanted (resolved relations q) start now s) same h);
  }

  map_more : {A B : Type 0} (f : A → B) (xs : List A) (i : ℕ) (x : A) → i < length xs → x ≡ get_or xs i x → map f (take (i + 1) xs) ≡ map f (take i xs) ++ f x ∷ []
  map_more f xs i x below at = ap (map f) (take_more xs i x below) ∙ (map-append f (take i xs) (get_or xs i x ∷ []) ∙ ap (λ y. map f (take i xs) ++ f y ∷ []) (sym at))

  pub chain_goes : (wanted : Wanted) (q : QueryTree) (steps : List StepTree) (i : ℕ) (x : StepTree) (start before after : Findings) (s t : Shape) →
      i < length steps → x ≡ get_or steps i x → StepsSoFar relations q wanted steps i start before s →
      ((wanted : Wanted) (first : Resolved) (rest : List Resolved) (start : Findings) → GivesAll wanted (first ∷ rest) start before s → GivesAll wanted (first ∷ (rest ++ resolved relations x.query ∷ [])) start after t) →
      StepsSoFar relations q wanted steps (i + 1) start after t
  chain_goes wanted q steps i x start before after s t below at h more = record {
    first = h.first;
    chain = h.chain;
    gives = subst (λ ms. GivesAll wanted (resolved relations h.first ∷ ms) start after t) (sym (map_more (λ s. resolved relations s.query) steps i x below at))
        (more wanted (resolved relations h.first) (map (λ s. resolved relations s.query) (take i steps)) start h.gives);
  }

  pub chain_ends : (wanted : Wanted) (q : QueryTree) (steps : List StepTree) (i : ℕ) (start now : Findings) (s : Shape) → length steps ≤ i → StepsSoFar relations q wanted steps i start now s → Gives wanted (resolved relations q) start now s
  chain_ends wanted q steps i start now s over h =
      subst (λ r. Gives wanted r start now s) (sym (chain_is q h.first steps h.chain))
      (subst (λ ss. GivesAll wanted (chain_members h.first ss) start now s) (whole steps i over) h.gives)

  -- a further operand, whose columns are asked for as far as those before it go
  pub gives_after : (q : QueryTree) (before mid after : Findings) (s other : Shape) (n : ℕ) (columns : List Column) → n ≡ length s.columns → Gives (Front n) (resolved relations q) before mid other → after ≡ with_operand mid s other → columns ≡ widened s.columns other.columns →
      (wanted : Wanted) (first : Resolved) (rest : List Resolved) (start : Findings) → GivesAll wanted (first ∷ rest) start before s → GivesAll wanted (first ∷ (rest ++ resolved relations q ∷ [])) start after (record { columns = columns; count = s.count })
  gives_after q before mid after s other n columns same k is wide wanted first rest start h =
      subst (λ f. GivesAll wanted (first ∷ (rest ++ resolved relations q ∷ [])) start f (record { columns = columns; count = s.count })) (sym is)
      (gives_more first rest (resolved relations q) wanted start before mid s other h (subst (λ m. Gives (Front m) (resolved relations q) before mid other) same k) columns wide)

  -- ---- intersections

  pub member_repeats : (wanted : Wanted) (q : QueryTree) (members items : List QueryTree) (i : ℕ) (x : QueryTree) (start now : Findings) (found : Option Shape) → q ≡ tree.Intersect members → items ≡ members → i < length items → x ≡ get_or items i x →
      SoFar wanted (map (resolved relations) (take i items)) start now found → operand_repeats wanted found (resolved relations x) ≡ true → repeats_in wanted (resolved relations q) ≡ true
  member_repeats wanted q members items i x start now found is all below at so h =
      subst (λ r. repeats_in wanted r ≡ true) (sym (intersect_is q members is))
      (subst (λ ms. repeats_among wanted (leftmost_of (map (resolved relations) ms)) (operation_parts (map (resolved relations) ms)) ≡ true) all (by_place found i items below at so h))
    where
      by_place : (found : Option Shape) (i : ℕ) (items : List QueryTree) → i < length items → x ≡ get_or items i x → SoFar wanted (map (resolved relations) (take i items)) start now found → operand_repeats wanted found (resolved relations x) ≡ true → repeats_among wanted (leftmost_of (map (resolved relations) items)) (operation_parts (map (resolved relations) items)) ≡ true
      by_place (Some s) i items below at so h =
          heads_repeat wanted (leftmost_of (map (resolved relations) items)) (operation_parts (map (resolved relations) items))
          (operation_heads (map (resolved relations) items) ∙ any_mapped head_test (resolved relations) items i x below (subst (λ y. head_test (resolved relations y) ≡ true) at h))
      by_place None i [] below at so h = absurd (omega (arith, below))
      by_place None zero (y ∷ items) below at so h = first_operand wanted (resolved relations y) (map (resolved relations) items) (subst (λ z. repeats_in wanted (resolved relations z) ≡ true) at h)
      by_place None (suc i) (y ∷ items) below at so h = absurd (cc (so.0))

  pub member_first : (wanted : Wanted) (r : Resolved) (before after : Findings) (s : Shape) → Gives wanted r before after s → (members : List Resolved) (start : Findings) → SoFar wanted members start before None → GivesAll wanted (members ++ r ∷ []) start after s
  member_first wanted r before after s h members start so =
      subst (λ ms. GivesAll wanted (ms ++ r ∷ []) start after s) (sym so.0) (subst (λ f. GivesAll wanted (r ∷ []) f after s) so.1 (gives_first wanted r before after s h))

  pub member_goes : (wanted : Wanted) (items : List QueryTree) (i : ℕ) (x : QueryTree) (start before after : Findings) (found : Option Shape) (s : Shape) → i < length items → x ≡ get_or items i x → SoFar wanted (map (resolved relations) (take i items)) start before found →
      ((members : List Resolved) (start : Findings) → SoFar wanted members start before found → GivesAll wanted (members ++ resolved relations x ∷ []) start after s) → SoFar wanted (map (resolved relations) (take (i + 1) items)) start after (Some s)
  member_goes wanted items i x start before after found s below at so more =
      subst (λ ms. SoFar wanted ms start after (Some s)) (sym (map_more (resolved relations) items i x below at))
      (not_none (map (resolved relations) (take i items)) (resolved relations x), more (map (resolved relations) (take i items)) start so)
    where
      not_none : (ms : List Resolved) (m : Resolved) → ms ++ m ∷ [] ≢ []
      not_none [] m e = absurd (cc e)
      not_none (x ∷ ms) m e = absurd (cc e)

  pub member_ends : (wanted : Wanted) (q : QueryTree) (members items : List QueryTree) (i : ℕ) (start now : Findings) (found : Option Shape) (none : Shape) → q ≡ tree.Intersect members → items ≡ members → length items ≤ i → none ≡ record { columns = []; count = 0 } →
      SoFar wanted (map (resolved relations) (take i items)) start now found → Gives wanted (resolved relations q) start now (unwrap_or found none)
  member_ends wanted q members items i start now found none is all over empty so =
      subst (λ r. Gives wanted r start now (unwrap_or found none)) (sym (intersect_is q members is))
      (subst (λ ms. GivesAll wanted (map (resolved relations) ms) start now (unwrap_or found none)) all
      (by_found found (map (resolved relations) items) (subst (λ ms. SoFar wanted (map (resolved relations) ms) start now found) (whole items i over) so)))
    where
      by_found : (found : Option Shape) (ms : List Resolved) → SoFar wanted ms start now found → GivesAll wanted ms start now (unwrap_or found none)
      by_found None ms so = subst (λ ms. GivesAll wanted ms start now none) (sym so.0) (subst (λ f. GivesAll wanted [] start f none) (sym so.1) (subst (λ s. GivesAll wanted [] start start s) (sym empty) (gives_none wanted start)))
      by_found (Some s) ms so = so.1

  -- ---- sources

  pub relation_gives : (f : SourceTree) (name : Text) (alias : Option Text) (findings : Findings) (found : Named) → f ≡ from.Relation name alias → found ≡ record { name = unwrap_or alias name; columns = relation_columns name relations } → GivesSource (resolved_source relations f) findings findings found
  relation_gives f name alias findings found is same =
      subst (λ s. GivesSource s findings findings found) (sym (ap (resolved_source relations) is ∙ source-Relation relations name alias))
      (record { named = same; differ = refl; added = adds_relation })
    where
      adds_relation : Adds ⊤ findings findings (record { blocks = []; heads = []; relations = name ∷ []; operations = [] })
      adds_relation = record { kinds = λ kind. sym (ap (λ b. noted kind findings || b) (nowhere kind) ∙ or_false (noted kind findings)); sorts = λ met same. sym (or_false findings.sort_mismatch) }
        where
          nowhere : (kind : CheckKind) → stands kind (record { blocks = []; heads = []; relations = name ∷ []; operations = [] }) ≡ false
          nowhere DuplicateName = refl
          nowhere UnknownRelation = refl
          nowhere UnnamedColumn = refl
          nowhere DuplicateColumn = refl
          nowhere UnknownColumn = refl
          nowhere AmbiguousColumn = refl
          nowhere NestedAggregate = refl
          nowhere NotGrouped = refl
          nowhere ColumnCount = refl
          nowhere TypeMismatch = refl
          nowhere TooWide = refl
          nowhere Limit = refl

  query_source : (q : QueryTree) (alias : Text) (f : SourceTree) → f ≡ from.Query q alias → resolved_source relations f ≡ of_source relations (SourceTree-F.Query (resolved relations q) alias)
  query_source q alias f is = ap (resolved_source relations) is ∙ source-Query relations q alias

  same_kinds : (kind : CheckKind) (r : Resolved) (alias : Text) → stands kind (of_source relations (SourceTree-F.Query r alias)).parts ≡ stands kind r.parts
  same_kinds DuplicateName r alias = refl
  same_kinds UnknownRelation r alias = refl
  same_kinds UnnamedColumn r alias = refl
  same_kinds DuplicateColumn r alias = refl
  same_kinds UnknownColumn r alias = refl
  same_kinds AmbiguousColumn r alias = refl
  same_kinds NestedAggregate r alias = refl
  same_kinds NotGrouped r alias = refl
  same_kinds ColumnCount r alias = refl
  same_kinds TypeMismatch r alias = refl
  same_kinds TooWide r alias = refl
  same_kinds Limit r alias = refl

  pub query_gives : (f : SourceTree) (q given_q : QueryTree) (alias : Text) (before after : Findings) (s : Shape) (found : Named) → f ≡ from.Query q alias → given_q ≡ q → Gives Distinct (resolved relations given_q) before after s → found ≡ record { name = alias; columns = s.columns } → GivesSource (resolved_source relations f) before after found
  query_gives f q given_q alias before after s found is same h named =
      let k : Gives Distinct (resolved relations q) before after s = subst (λ q. Gives Distinct (resolved relations q) before after s) same h in
      subst (λ x. GivesSource x before after found) (sym (query_source q alias f is))
      (record {
        named = named ∙ ap (λ cs. record { name = alias; columns = cs }) k.columns;
        differ = list_any-append has_same_columns (resolved relations q).leftmost (resolved relations q).parts.heads ∙ k.differ;
        added = record { kinds = λ kind. k.added.kinds kind ∙ ap (λ b. noted kind before || b) (sym (same_kinds kind (resolved relations q) alias)); sorts = k.added.sorts };
      })

  pub query_repeats : (f : SourceTree) (q given_q : QueryTree) (alias : Text) → f ≡ from.Query q alias → given_q ≡ q → repeats_in Distinct (resolved relations given_q) ≡ true → source_repeats (resolved_source relations f) ≡ true
  query_repeats f q given_q alias is same h =
      subst (λ x. source_repeats x ≡ true) (sym (query_source q alias f is))
      (list_any-append has_same_columns (resolved relations q).leftmost (resolved relations q).parts.heads ∙ subst (λ q. repeats_in Distinct (resolved relations q) ≡ true) same h)

  -- ---- all sources of a block

  pub no_sources : (findings : Findings) (found : Scope) → found ≡ [] → GivesScope [] findings findings found
  no_sources findings found is = record { scope = is; differ = refl; added = adds_nothing ⊤ findings }

  source_of : (j : JoinedTree) → (resolved_joined relations j).source ≡ resolved_source relations (out-JoinedTree j).source
  source_of j = ap (λ (x : Joined). x.source) (joined_at relations j)

  pub source_goes : (items : List JoinedTree) (i : ℕ) (x : JoinedTree) (start before after : Findings) (scope more : Scope) (found : Named) → i < length items → x ≡ get_or items i x →
      GivesScope (map (resolved_joined relations) (take i items)) start before scope → GivesSource (resolved_source relations (out-JoinedTree x).source) before after found → more ≡ scope ++ found ∷ [] → GivesScope (map (resolved_joined relations) (take (i + 1) items)) start after more
  source_goes items i x start before after scope more found below at so h is =
      let js : List Joined = map (resolved_joined relations) (take i items) in
      let k : GivesSource (resolved_joined relations x).source before after found = subst (λ s. GivesSource s before after found) (sym (source_of x)) h in
      subst (λ js. GivesScope js start after more) (sym (map_more (resolved_joined relations) items i x below at))
      (record {
        scope = is ∙ ((λ i. so.scope i ++ k.named i ∷ []) ∙ sym (map-append (λ (j : Joined). j.source.named) (map (resolved_joined relations) (take i items)) (resolved_joined relations x ∷ [])));
        differ = list_any-append joined_repeats (map (resolved_joined relations) (take i items)) (resolved_joined relations x ∷ []) ∙ both so.differ (or_false (joined_repeats (resolved_joined relations x)) ∙ k.differ);
        added = subst (λ ps. Adds ⊤ start after (together ps)) (sym (map-append (λ (j : Joined). j.source.parts) (map (resolved_joined relations) (take i items)) (resolved_joined relations x ∷ [])))
            (adds_more start before after (map (λ (j : Joined). j.source.parts) (map (resolved_joined relations) (take i items))) (resolved_joined relations x).source.parts so.added k.added);
      })
    where
      both : {a b : Bool} → a ≡ false → b ≡ false → (a || b) ≡ false
      both {a} {b} p q = ap (λ x. x || b) p ∙ q

  pub source_repeats_at : (trees items : List JoinedTree) (i : ℕ) (x : JoinedTree) → items ≡ trees → i < length items → x ≡ get_or items i x → source_repeats (resolved_source relations (out-JoinedTree x).source) ≡ true → list_any joined_repeats (map (resolved_joined relations) trees) ≡ true
  source_repeats_at trees items i x all below at h =
      subst (λ js. list_any joined_repeats (map (resolved_joined relations) js) ≡ true) all
      (any_mapped joined_repeats (resolved_joined relations) items i x below
      (subst (λ y. joined_repeats (resolved_joined relations y) ≡ true) at (subst (λ s. source_repeats s ≡ true) (sym (source_of x)) h)))

  pub sources_end : (trees items : List JoinedTree) (i : ℕ) (start now : Findings) (found scope : Scope) → items ≡ trees → length items ≤ i → GivesScope (map (resolved_joined relations) (take i items)) start now found → scope ≡ found → GivesScope (map (resolved_joined relations) trees) start now scope
  sources_end trees items i start now found scope all over h is =
      subst (λ s. GivesScope (map (resolved_joined relations) trees) start now s) (sym is)
      (subst (λ js. GivesScope (map (resolved_joined relations) js) start now found) (whole items i over ∙ all) h)

  -- ---- blocks

  block_gives : (wanted : Wanted) (s : Scoped) (js : List Joined) (before mid after : Findings) (shape : Shape) → list_any joined_repeats js ≡ false → Adds ⊤ before mid (together (map (λ j. j.source.parts) js)) → Adds ⊤ mid after (one_block s) → GivesBlock wanted s shape →
      GivesOf wanted (block_columns s) (s ∷ []) (together (one_block s ∷ map (λ j. j.source.parts) js)) before after shape
  block_gives wanted s js before mid after shape differ sources own h = record {
    columns = h.columns;
    count = h.count;
    differ = by_wanted wanted h.differ;
    added = adds_weaker ⊤ (IsWhole wanted (block_columns s)) before after (together (one_block s ∷ map (λ j. j.source.parts) js)) (λ x. tt) (adds_before before mid after (map (λ (j : Joined). j.source.parts) js) (one_block s) sources own);
  }
    where
      by_wanted : (wanted : Wanted) → block_repeats wanted s ≡ false → repeats_among wanted (s ∷ []) (together (one_block s ∷ map (λ j. j.source.parts) js)) ≡ false
      by_wanted Distinct h = (λ i. (h i || false) || heads_of js i) ∙ differ
      by_wanted (Front n) h = heads_of js ∙ differ

  pub block_is : (wanted : Wanted) (b : BlockTree) (scope : Scope) (before mid after : Findings) (shape : Shape) → GivesScope (map (resolved_joined relations) (out-BlockTree b).sources) before mid scope → Adds ⊤ mid after (one_block (scoped_by scope b)) → GivesBlock wanted (scoped_by scope b) shape →
      Gives wanted (resolved relations (tree.Block b)) before after shape
  block_is wanted b scope before mid after shape sources own h =
      let same : scoped_by scope b ≡ scoped (layer relations b) = ap (λ s. scoped_by s b) sources.scope ∙ sym (scoped_at relations b) in
      subst (λ r. Gives wanted r before after shape) (sym (block_at relations b))
      (block_gives wanted (scoped (layer relations b)) (map (resolved_joined relations) (out-BlockTree b).sources) before mid after shape sources.differ sources.added
      (subst (λ s. Adds ⊤ mid after (one_block s)) same own) (subst (λ s. GivesBlock wanted s shape) same h))

  pub sources_repeat : (wanted : Wanted) (b : BlockTree) → list_any joined_repeats (map (resolved_joined relations) (out-BlockTree b).sources) ≡ true → repeats_in wanted (resolved relations (tree.Block b)) ≡ true
  sources_repeat wanted b h =
      subst (λ r. repeats_in wanted r ≡ true) (sym (block_at relations b))
      (heads_repeat wanted (scoped (layer relations b) ∷ []) (of_block relations (layer relations b)).parts (heads_of (map (resolved_joined relations) (out-BlockTree b).sources) ∙ h))

  pub block_repeat : (wanted : Wanted) (b : BlockTree) (scope : Scope) (before mid : Findings) → GivesScope (map (resolved_joined relations) (out-BlockTree b).sources) before mid scope → block_repeats wanted (scoped_by scope b) ≡ true → repeats_in wanted (resolved relations (tree.Block b)) ≡ true
  block_repeat wanted b scope before mid sources h =
      let same : scoped_by scope b ≡ scoped (layer relations b) = ap (λ s. scoped_by s b) sources.scope ∙ sym (scoped_at relations b) in
      subst (λ r. repeats_in wanted r ≡ true) (sym (block_at relations b)) (by_wanted wanted (subst (λ s. block_repeats wanted s ≡ true) same h))
    where
      by_wanted : (wanted : Wanted) → block_repeats wanted (scoped (layer relations b)) ≡ true → repeats_in wanted (of_block relations (layer relations b)) ≡ true
      by_wanted Distinct h = first_true (has_same_columns (scoped (layer relations b)) || false) (list_any has_same_columns (of_block relations (layer relations b)).parts.heads) (or_false (has_same_columns (scoped (layer relations b))) ∙ h)
      by_wanted (Front n) h = absurd (cc h)

  -- a block whose columns are asked for
  pub block_answers : (wanted : Wanted) (b : BlockTree) (scope : Scope) (before mid after : Findings) (answer : Result Shape Stop) → GivesScope (map (resolved_joined relations) (out-BlockTree b).sources) before mid scope → Adds ⊤ mid after (one_block (scoped_by scope b)) →
      MatchResult answer (λ shape. GivesBlock wanted (scoped_by scope b) shape) (λ stop. stop ≡ Repeated → block_repeats wanted (scoped_by scope b) ≡ true) →
      MatchResult answer (λ shape. Gives wanted (resolved relations (tree.Block b)) before after shape) (λ stop. stop ≡ Repeated → repeats_in wanted (resolved relations (tree.Block b)) ≡ true)
  block_answers wanted b scope before mid after (Ok shape) sources own h = block_is wanted b scope before mid after shape sources own h
  block_answers wanted b scope before mid after (Err stop) sources own h = λ is. block_repeat wanted b scope before mid sources (h is)

  -- a further member
  pub member_answers : (wanted : Wanted) (q : QueryTree) (before after : Findings) (s : Shape) (found : Option Shape) (answer : Result Shape Stop) → found ≡ Some s →
      MatchResult answer (λ shape. (wanted : Wanted) (first : Resolved) (rest : List Resolved) (start : Findings) → GivesAll wanted (first ∷ rest) start before s → GivesAll wanted (first ∷ (rest ++ resolved relations q ∷ [])) start after shape) (λ stop. stop ≡ Repeated → list_any has_same_columns (resolved relations q).parts.heads ≡ true) →
      MatchResult answer (λ shape. (members : List Resolved) (start : Findings) → SoFar wanted members start before found → GivesAll wanted (members ++ resolved relations q ∷ []) start after shape) (λ stop. stop ≡ Repeated → operand_repeats wanted found (resolved relations q) ≡ true)
  member_answers wanted q before after s found (Ok shape) is h = λ members start so.
      let here : SoFar wanted members start before (Some s) = subst (SoFar wanted members start before) is so in
      gives_further wanted members (resolved relations q) start before after s shape h here.0 here.1
  member_answers wanted q before after s found (Err stop) is h = λ repeated. subst (λ f. operand_repeats wanted f (resolved relations q) ≡ true) (sym is) (h repeated)
