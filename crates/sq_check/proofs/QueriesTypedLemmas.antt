-- Typed queries, sources and blocks, each from its parts.
use Rattle.std.proofs.Common.{◌≡◌, ◌≢◌, ℕ, zero, suc, ◌+◌, ◌<◌, ◌≤◌, List, [], ◌∷◌, ◌++◌, map, fold, take, drop, length, get_or, refl, sym, ap, subst, ◌∙◌, append_assoc, arith}
use Rattle.std.specs.Prelude.{Option, Some, None, Result, Ok, Err, IfOk, unwrap_or, option_map, slice_get, remove}
use Rattle.std.proofs.lemmas.List.{map-append, take_more, append-nil}
use Rattle.std.proofs.lemmas.List.Sums.{fold-append}
use Rattle.std.proofs.lemmas.Option.{same_Some}
use Rattle.sq_ast.specs.declared.query.BlockTree.{BlockTree, out-BlockTree}
use Rattle.sq_ast.specs.declared.query.JoinedTree.{JoinedTree, out-JoinedTree}
use Rattle.sq_ast.specs.declared.query.QueryTree.{QueryTree}
use Rattle.sq_ast.specs.declared.query.QueryTree.TheVariants as tree
use Rattle.sq_ast.specs.declared.query.SourceTree.{SourceTree}
use Rattle.sq_ast.specs.declared.query.SourceTree.TheVariants as from
use Rattle.sq_ast.specs.declared.query.StepTree.{StepTree}
use Rattle.sq_catalog.specs.Names.{place_of}
use Rattle.sq_catalog.specs.declared.relation.Column.{Column}
use Rattle.sq_catalog.specs.declared.relation.Relation.{Relation}
use Rattle.sq_typed.specs.declared.query.Block.{roll-Block}
use Rattle.sq_typed.specs.declared.query.FromItem.{FromItem, roll-FromItem}
use Rattle.sq_typed.specs.declared.query.FromJoin.{FromJoin}
use Rattle.sq_typed.specs.declared.query.Origin.{Origin}
use Rattle.sq_typed.specs.declared.query.Origin.TheVariants as origin
use Rattle.sq_typed.specs.declared.query.Query.{Query}
use Rattle.sq_typed.specs.declared.query.Query.TheVariants as query
use Rattle.sq_typed.specs.declared.query.SetStep.{SetStep, roll-SetStep}
use Rattle.sq_typed.specs.Numbered.{row_cond}
use Rattle.sq_typed.specs.Resolved.{Resolved, Joined, relation_columns, scope_of, scoped, widened, operation_columns, operation, typed_join, each_join, typed_source, resolved}
use Rattle.sq_typed.specs.Scopes.{Named, Scope, Text}
use Rattle.sq_typed.specs.Selected.{Scoped, chosen, item_expr, grouping, block_columns}
use Rattle.sq_typed.proofs.QueryEquations.{resolved_source, resolved_joined, resolved_step, resolved-Chain, resolved-Intersect, source-Relation, source-Query}
use Rattle.sq_scope.specs.Scoped.{scoped_by}
use Rattle.sq_check.specs.QueriesTyped.{IsTyped, step_of, joined_with, HasSource, HasSources, items_from}
use Rattle.sq_check.specs.declared.typed.TypedQuery.{TypedQuery}
use Rattle.sq_check.proofs.QueriesGiven.{whole}
use Rattle.sq_check.proofs.QueriesScoped.{joined_at, step_at, layer, block_at, scoped_at, take_through, one_longer}

map_more : {A B : Type 0} (f : A → B) (xs : List A) (i : ℕ) (x : A) → i < length xs → x ≡ get_or xs i x → map f (take (i + 1) xs) ≡ map f (take i xs) ++ f x ∷ []
map_more f xs i x below at = ap (map f) (take_more xs i x below) ∙ (map-append f (take i xs) (get_or xs i x ∷ []) ∙ ap (λ y. map f (take i xs) ++ f y ∷ []) (sym at))

map_twice : {A B C : Type 0} (f : B → C) (g : A → B) (xs : List A) → map f (map g xs) ≡ map (λ x. f (g x)) xs
map_twice f g [] = refl
map_twice f g (x ∷ xs) = ap (λ ys. f (g x) ∷ ys) (map_twice f g xs)

map_length : {A B : Type 0} (f : A → B) (xs : List A) → length (map f xs) ≡ length xs
map_length f [] = refl
map_length f (x ∷ xs) = ap suc (map_length f xs)

-- the columns of the operands so far
abbrev pub ColumnsSoFar : List (List Column) → Option (List Column) → Type 0
ColumnsSoFar css None = css ≡ []
ColumnsSoFar css (Some cs) = (css ≢ []) × (cs ≡ operation_columns css)

-- ---- joins

-- those so far, and those to come
pub record JoinsSoFar (scope : Scope) (js : List JoinedTree) (all : List Origin) (i : ℕ) (items : List FromItem) (left : List Origin) : Type 0 where
  pub made : items ++ items_from i scope (drop i js) left ≡ items_from 0 scope js all
  pub as_many : i + length left ≡ length js

drop_at : {A : Type 0} (xs : List A) (i : ℕ) (x : A) → i < length xs → x ≡ get_or xs i x → drop i xs ≡ x ∷ drop (suc i) xs
drop_at [] i x below at = absurd (omega (arith, below))
drop_at (y ∷ ys) zero x below at = ap (λ z. z ∷ ys) (sym at)
drop_at (y ∷ ys) (suc i) x below at = drop_at ys i x (omega (arith, below)) at

nothing_left : {A : Type 0} (xs : List A) (i : ℕ) → length xs ≤ i → drop i xs ≡ []
nothing_left [] zero h = refl
nothing_left [] (suc i) h = refl
nothing_left (x ∷ xs) zero h = absurd (omega (arith, h))
nothing_left (x ∷ xs) (suc i) h = nothing_left xs i (omega (arith, h))

pub joins_go : (scope : Scope) (js : List JoinedTree) (all : List Origin) (i : ℕ) (j : JoinedTree) (items more : List FromItem) (os left : List Origin) (join : FromJoin) (o : Origin) → i < length js → j ≡ get_or js i j → JoinsSoFar scope js all i items os →
    join ≡ typed_join (take (i + 1) scope) (out-JoinedTree j).join → slice_get os 0 ≡ Some o → left ≡ remove os 0 → more ≡ items ++ roll-FromItem (record { join = join; source = o }) ∷ [] → JoinsSoFar scope js all (i + 1) more left
joins_go scope js all i j items more [] left join o below at so joined first rest is = absurd (cc first)
joins_go scope js all i j items more (p ∷ os) left join o below at so joined first rest is =
    let next : i + 1 ≡ suc i = omega arith in
    let item : FromItem = roll-FromItem (record { join = join; source = o }) in
    let same : roll-FromItem (record { join = join; source = o }) ≡ roll-FromItem (record { join = typed_join (take (suc i) scope) (out-JoinedTree j).join; source = p }) =
    (λ k. roll-FromItem (record { join = (joined ∙ ap (λ n. typed_join (take n scope) (out-JoinedTree j).join) next) k; source = sym (same_Some p o first) k })) in
    record {
      made =
          ap (λ n. more ++ items_from n scope (drop n js) left) next
          ∙ ((λ k. is k ++ items_from (suc i) scope (drop (suc i) js) (rest k))
          ∙ (append_assoc items (item ∷ []) (items_from (suc i) scope (drop (suc i) js) os)
          ∙ (ap (λ x. items ++ x ∷ items_from (suc i) scope (drop (suc i) js) os) same
          ∙ (ap (λ ds. items ++ items_from i scope ds (p ∷ os)) (sym (drop_at js i j below at)) ∙ so.made))));
      as_many = omega (arith, so.as_many, ap length rest);
    }

pub joins_start : (scope : Scope) (js : List JoinedTree) (all : List Origin) → length all ≡ length js → JoinsSoFar scope js all 0 [] all
joins_start scope js all h = record { made = refl; as_many = omega (arith, h) }

pub joins_end : (scope : Scope) (js : List JoinedTree) (all : List Origin) (i : ℕ) (items : List FromItem) (left : List Origin) → length js ≤ i → JoinsSoFar scope js all i items left → items ≡ items_from 0 scope js all
joins_end scope js all i items left over so = sym (append-nil items) ∙ (ap (λ ds. items ++ items_from i scope ds left) (sym (nothing_left js i over)) ∙ so.made)

module _ (relations : List Relation) where
  -- ---- chains

  abbrev step_columns : StepTree → List Column
  step_columns s = (resolved relations s.query).columns

  pub steps_go : (steps : List StepTree) (i : ℕ) (s : StepTree) (first before after : List Column) (other : TypedQuery) → i < length steps → s ≡ get_or steps i s → before ≡ fold widened first (map step_columns (take i steps)) → IsTyped (resolved relations s.query) other → after ≡ widened before other.columns →
      after ≡ fold widened first (map step_columns (take (i + 1) steps))
  steps_go steps i s first before after other below at so h is =
      is ∙ ((λ k. widened (so k) (h.columns k))
      ∙ (sym (fold-append widened first (map step_columns (take i steps)) (step_columns s ∷ [])) ∙ ap (fold widened first) (sym (map_more step_columns steps i s below at))))

  pub members_go : (steps : List StepTree) (i : ℕ) (s : StepTree) (before after : List SetStep) (other : TypedQuery) → i < length steps → s ≡ get_or steps i s → before ≡ map (step_of relations) (take i steps) → IsTyped (resolved relations s.query) other → after ≡ before ++ roll-SetStep (record { op = s.op; query = other.query }) ∷ [] →
      after ≡ map (step_of relations) (take (i + 1) steps)
  members_go steps i s before after other below at so h is =
      is ∙ ((λ k. so k ++ roll-SetStep (record { op = s.op; query = h.query k }) ∷ []) ∙ sym (map_more (step_of relations) steps i s below at))

  steps_are : (steps : List StepTree) → map (λ s. s.1) (map (resolved_step relations) steps) ≡ map (λ s. resolved relations s.query) steps
  steps_are [] = refl
  steps_are (s ∷ ss) = (λ i. (step_at relations s i).1 ∷ steps_are ss i)

  set_steps_are : (steps : List StepTree) → map (λ s. roll-SetStep (record { op = s.0; query = s.1.query })) (map (resolved_step relations) steps) ≡ map (step_of relations) steps
  set_steps_are [] = refl
  set_steps_are (s ∷ ss) = (λ i. roll-SetStep (record { op = (step_at relations s i).0; query = (step_at relations s i).1.query }) ∷ set_steps_are ss i)

  chain_at : (first : QueryTree) (steps : List StepTree) → resolved relations (tree.Chain first steps) ≡ operation (query.Chain (resolved relations first).query (map (step_of relations) steps)) (resolved relations first ∷ map (λ s. resolved relations s.query) steps)
  chain_at first steps = resolved-Chain relations first steps ∙ (λ i. operation (query.Chain (resolved relations first).query (set_steps_are steps i)) (resolved relations first ∷ steps_are steps i))

  pub chain_typed : (q given_first first : QueryTree) (steps : List StepTree) (f t : TypedQuery) → q ≡ tree.Chain first steps → given_first ≡ first → IsTyped (resolved relations given_first) f →
      t.columns ≡ fold widened f.columns (map step_columns steps) → t.query ≡ query.Chain f.query (map (step_of relations) steps) → IsTyped (resolved relations q) t
  chain_typed q given_first first steps f t is same h columns typed =
      let k : IsTyped (resolved relations first) f = subst (λ q. IsTyped (resolved relations q) f) same h in
      subst (λ r. IsTyped r t) (sym (ap (resolved relations) is ∙ chain_at first steps))
      (record {
        query = typed ∙ ap (λ q. query.Chain q (map (step_of relations) steps)) k.query;
        columns = columns ∙ ((λ i. fold widened (k.columns i) (map step_columns steps)) ∙ ap (fold widened (resolved relations first).columns) (sym (map_twice (λ (r : Resolved). r.columns) (λ s. resolved relations s.query) steps)));
      })

  -- what the typed operands behind the first one give
  pub chain_answers : (q given_first first : QueryTree) (steps : List StepTree) (f : TypedQuery) {E : Type 0} (answer : Result TypedQuery E) → q ≡ tree.Chain first steps → given_first ≡ first → IsTyped (resolved relations given_first) f →
      IfOk answer (λ t. t.columns ≡ fold widened f.columns (map step_columns steps)) → IfOk answer (λ t. t.query ≡ query.Chain f.query (map (step_of relations) steps)) → IfOk answer (λ t. IsTyped (resolved relations q) t)
  chain_answers q given_first first steps f (Ok t) is same h columns typed = chain_typed q given_first first steps f t is same h columns typed
  chain_answers q given_first first steps f (Err e) is same h columns typed = columns

  -- ---- intersections

  abbrev member_columns : QueryTree → List Column
  member_columns q = (resolved relations q).columns

  abbrev member_query : QueryTree → Query
  member_query q = (resolved relations q).query

  joined_more : (css : List (List Column)) (so : Option (List Column)) (cs : List Column) → ColumnsSoFar css so → ColumnsSoFar (css ++ cs ∷ []) (Some (joined_with so cs))
  joined_more css None cs h = ((λ e. not_none css cs e), ap (λ css. operation_columns (css ++ cs ∷ [])) (sym h))
    where
      not_none : (css : List (List Column)) (cs : List Column) → css ++ cs ∷ [] ≢ []
      not_none [] cs e = absurd (cc e)
      not_none (c ∷ css) cs e = absurd (cc e)
  joined_more [] (Some before) cs h = absurd (h.0 refl)
  joined_more (first ∷ css) (Some before) cs h = ((λ e. absurd (cc e)), ap (λ b. widened b cs) h.1 ∙ sym (fold-append widened first css (cs ∷ [])))

  pub columns_go : (members : List QueryTree) (i : ℕ) (q : QueryTree) (so : Option (List Column)) (after : List Column) (other : TypedQuery) → i < length members → q ≡ get_or members i q → ColumnsSoFar (map member_columns (take i members)) so → IsTyped (resolved relations q) other → after ≡ joined_with so other.columns →
      ColumnsSoFar (map member_columns (take (i + 1) members)) (Some after)
  columns_go members i q so after other below at h typed is =
      subst (λ cs. ColumnsSoFar (map member_columns (take (i + 1) members)) (Some cs)) (sym (is ∙ ap (joined_with so) typed.columns))
      (subst (λ css. ColumnsSoFar css (Some (joined_with so (member_columns q)))) (sym (map_more member_columns members i q below at)) (joined_more (map member_columns (take i members)) so (member_columns q) h))

  pub queries_go : (members : List QueryTree) (i : ℕ) (q : QueryTree) (before after : List Query) (other : TypedQuery) → i < length members → q ≡ get_or members i q → before ≡ map member_query (take i members) → IsTyped (resolved relations q) other → after ≡ before ++ other.query ∷ [] → after ≡ map member_query (take (i + 1) members)
  queries_go members i q before after other below at so h is = is ∙ ((λ k. so k ++ h.query k ∷ []) ∙ sym (map_more member_query members i q below at))

  columns_end : (css : List (List Column)) (so : Option (List Column)) (none : List Column) → none ≡ [] → ColumnsSoFar css so → unwrap_or so none ≡ operation_columns css
  columns_end css None none empty h = empty ∙ ap operation_columns (sym h)
  columns_end css (Some cs) none empty h = h.1

  pub members_typed : (members items : List QueryTree) (i : ℕ) (so : Option (List Column)) (none columns : List Column) (queries : List Query) → items ≡ members → length items ≤ i → none ≡ [] → columns ≡ unwrap_or so none → ColumnsSoFar (map member_columns (take i items)) so → queries ≡ map member_query (take i items) →
      IsTyped (resolved relations (tree.Intersect members)) (record { query = query.Intersect queries; columns = columns })
  members_typed members items i so none columns queries all over empty is given made =
      let here : take i items ≡ members = whole items i over ∙ all in
      subst (λ r. IsTyped r (record { query = query.Intersect queries; columns = columns })) (sym (resolved-Intersect relations members))
      (record {
        query = ap query.Intersect (made ∙ (ap (map member_query) here ∙ sym (map_twice (λ (r : Resolved). r.query) (resolved relations) members)));
        columns = is ∙ (columns_end (map member_columns (take i items)) so none empty given ∙ (ap (λ qs. operation_columns (map member_columns qs)) here ∙ ap operation_columns (sym (map_twice (λ (r : Resolved). r.columns) (resolved relations) members))));
      })

  -- ---- sources

  pub relation_typed : (f : SourceTree) (name : Text) (alias : Option Text) (found : Named) (n : ℕ) → f ≡ from.Relation name alias → found ≡ record { name = unwrap_or alias name; columns = relation_columns name relations } → n ≡ unwrap_or (place_of name relations) 0 → HasSource (resolved_source relations f) found (origin.Relation n)
  relation_typed f name alias found n is same number =
      subst (λ s. HasSource s found (origin.Relation n)) (sym (ap (resolved_source relations) is ∙ source-Relation relations name alias)) (record { named = same; origin = ap origin.Relation number })

  pub query_typed : (f : SourceTree) (q given_q : QueryTree) (alias : Text) (t : TypedQuery) (found : Named) → f ≡ from.Query q alias → given_q ≡ q → IsTyped (resolved relations given_q) t → found ≡ record { name = alias; columns = t.columns } → HasSource (resolved_source relations f) found (origin.Query t.query)
  query_typed f q given_q alias t found is same h named =
      let k : IsTyped (resolved relations q) t = subst (λ q. IsTyped (resolved relations q) t) same h in
      subst (λ s. HasSource s found (origin.Query t.query)) (sym (ap (resolved_source relations) is ∙ source-Query relations q alias))
      (record { named = named ∙ ap (λ cs. record { name = alias; columns = cs }) k.columns; origin = ap origin.Query k.query })

  pub sources_go : (items : List JoinedTree) (i : ℕ) (x : JoinedTree) (scope more : Scope) (os further : List Origin) (found : Named) (o : Origin) → i < length items → x ≡ get_or items i x → HasSources (map (resolved_joined relations) (take i items)) scope os →
      HasSource (resolved_source relations (out-JoinedTree x).source) found o → more ≡ scope ++ found ∷ [] → further ≡ os ++ o ∷ [] → HasSources (map (resolved_joined relations) (take (i + 1) items)) more further
  sources_go items i x scope more os further found o below at so h is are =
      let k : HasSource (resolved_joined relations x).source found o = subst (λ s. HasSource s found o) (sym (ap (λ (j : Joined). j.source) (joined_at relations x))) h in
      subst (λ js. HasSources js more further) (sym (map_more (resolved_joined relations) items i x below at))
      (record {
        scope = is ∙ ((λ i. so.scope i ++ k.named i ∷ []) ∙ sym (map-append (λ (j : Joined). j.source.named) (map (resolved_joined relations) (take i items)) (resolved_joined relations x ∷ [])));
        origins = are ∙ ((λ i. so.origins i ++ k.origin i ∷ []) ∙ sym (map-append (λ (j : Joined). j.source.origin) (map (resolved_joined relations) (take i items)) (resolved_joined relations x ∷ [])));
      })

  pub sources_typed : (trees items : List JoinedTree) (i : ℕ) (found scope : Scope) (os : List Origin) → items ≡ trees → length items ≤ i → HasSources (map (resolved_joined relations) (take i items)) found os → scope ≡ found → HasSources (map (resolved_joined relations) trees) scope os
  sources_typed trees items i found scope os all over h is =
      subst (λ s. HasSources (map (resolved_joined relations) trees) s os) (sym is) (subst (λ js. HasSources (map (resolved_joined relations) js) found os) (whole items i over ∙ all) h)

  -- ---- blocks

  items_are : (before : Scope) (js : List JoinedTree) → each_join typed_source before (map (resolved_joined relations) js) ≡ items_from (length before) (before ++ scope_of (map (resolved_joined relations) js)) js (map (λ j. j.source.origin) (map (resolved_joined relations) js))
  items_are before [] = refl
  items_are before (j ∷ js) =
      let named : Named = (resolved_joined relations j).source.named in
      let later : Scope = scope_of (map (resolved_joined relations) js) in
      let os : List Origin = map (λ j. j.source.origin) (map (resolved_joined relations) js) in
      let o : Origin = (resolved_joined relations j).source.origin in
      ap (λ items. typed_source (before ++ named ∷ []) (resolved_joined relations j) ∷ items) (
      items_are (before ++ named ∷ []) js
      ∙ (ap (λ n. items_from n ((before ++ named ∷ []) ++ later) js os) (one_longer before named)
      ∙ ap (λ scope. items_from (suc (length before)) scope js os) (append_assoc before (named ∷ []) later)))
      ∙ (ap (λ scope. roll-FromItem (record { join = typed_join scope (resolved_joined relations j).join; source = o }) ∷ items_from (suc (length before)) (before ++ named ∷ later) js os) (sym (take_through before named later))
      ∙ ap (λ (x : Joined). roll-FromItem (record { join = typed_join (take (suc (length before)) (before ++ named ∷ later)) x.join; source = o }) ∷ items_from (suc (length before)) (before ++ named ∷ later) js os) (joined_at relations j))

  pub as_many_sources : (trees : List JoinedTree) (scope : Scope) (os : List Origin) → HasSources (map (resolved_joined relations) trees) scope os → (length scope ≡ length trees) × (length os ≡ length trees)
  as_many_sources trees scope os h = (
    ap length h.scope ∙ (map_length (λ (j : Joined). j.source.named) (map (resolved_joined relations) trees) ∙ map_length (resolved_joined relations) trees),
    ap length h.origins ∙ (map_length (λ (j : Joined). j.source.origin) (map (resolved_joined relations) trees) ∙ map_length (resolved_joined relations) trees),
  )

  abbrev query_over : BlockTree → List FromItem → Scoped → Query
  query_over b items s = query.Block (roll-Block (record { distinct = (out-BlockTree b).distinct; sources = items; filter = option_map (row_cond s.scope) s.filter; grouping = grouping s; items = map (item_expr s) (chosen s) }))

  pub block_typed : (b : BlockTree) (scope : Scope) (os : List Origin) (items : List FromItem) (t : TypedQuery) → HasSources (map (resolved_joined relations) (out-BlockTree b).sources) scope os → items ≡ items_from 0 scope (out-BlockTree b).sources os →
      t.query ≡ query_over b items (scoped_by scope b) → t.columns ≡ block_columns (scoped_by scope b) → IsTyped (resolved relations (tree.Block b)) t
  block_typed b scope os items t h is typed columns =
      let same : scoped_by scope b ≡ scoped (layer relations b) = ap (λ s. scoped_by s b) h.scope ∙ sym (scoped_at relations b) in
      let sources : items ≡ each_join typed_source [] (map (resolved_joined relations) (out-BlockTree b).sources) = is ∙ ((λ i. items_from 0 (h.scope i) (out-BlockTree b).sources (h.origins i)) ∙ sym (items_are [] (out-BlockTree b).sources)) in
      subst (λ r. IsTyped r t) (sym (block_at relations b))
      (record { query = typed ∙ (λ i. query_over b (sources i) (same i)); columns = columns ∙ ap block_columns same })
