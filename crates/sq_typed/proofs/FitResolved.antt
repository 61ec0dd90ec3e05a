-- The typed queries of statements without faults fit.
use Rattle.std.proofs.Common.{◌≡◌, ℕ, suc, ◌+◌, ◌<◌, List, [], ◌∷◌, ◌++◌, map, fold, length, Bool, true, false, cond, not, ◌&&◌, ◌||◌, ◌==◌, if◌then◌else◌, refl, sym, ap, subst, ◌∙◌, append_assoc, arith}
use Rattle.std.specs.Prelude.{Option, Some, None, option_map, slice_get, unwrap_or, bytes_eq}
use Rattle.std.specs.List.{AllByRecursion, flat_map, list_all, position_or_len}
use Rattle.std.proofs.lemmas.Bool.{lt-ltb}
use Rattle.std.proofs.lemmas.Bool.Decides.{Decides-eqb}
use Rattle.std.proofs.lemmas.List.{map-append, append-nil}
use Rattle.sq_ast.specs.declared.cond.CondTree.{CondTree}
use Rattle.sq_ast.specs.declared.query.BlockTree.{out-BlockTree}
use Rattle.sq_ast.specs.declared.query.JoinTree.{JoinTree}
use Rattle.sq_ast.specs.declared.query.JoinTree.TheVariants as written
use Rattle.sq_ast.specs.declared.query.QueryTree.{QueryTree}
use Rattle.sq_ast.specs.declared.query.QueryTree.TheOpen.{QueryTree-F, SourceTree-F, BlockTree-F}
use Rattle.sq_ast.specs.declared.query.SetOp.{SetOp}
use Rattle.sq_ast.specs.declared.query.SourceTree.{SourceTree}
use Rattle.sq_catalog.specs.Names.{place_of, is_named}
use Rattle.sq_catalog.specs.declared.relation.Column.{Column}
use Rattle.sq_catalog.specs.declared.relation.Relation.{Relation}
use Rattle.sq_expr.specs.Typing.{sort_of_kind, are_alike}
use Rattle.sq_expr.specs.declared.expr.Kind.{Kind}
use Rattle.sq_expr.proofs.Lists.{all_back, all_from, all_front, all_over, all_weaker}
use Rattle.sq_typed.specs.declared.query.Block.{roll-Block, out-roll-Block}
use Rattle.sq_typed.specs.declared.query.FromItem.{out-roll-FromItem}
use Rattle.sq_typed.specs.declared.query.Origin.TheVariants as origin
use Rattle.sq_typed.specs.declared.query.Query.{Query}
use Rattle.sq_typed.specs.declared.query.Query.TheVariants as query
use Rattle.sq_typed.specs.declared.query.SetStep.{SetStep, roll-SetStep, out-roll-SetStep}
use Rattle.sq_typed.specs.Faults.{has_unknown_column, has_mixed_types, has_wide_expr, differ_in_count, differ_in_sort, mixes_sorts}
use Rattle.sq_typed.specs.Fit.{Kinded, KindedSource, suits_cond, on_suits, joined_kinds, sources_fit, has_some, item_row_kinds, clauses_fit, block_kinded, are_matched, wider_kinds, operation_kinded, relation_kinded, kinded, kinded_origin, kinded_source, kinds_of, Pairwise}
use Rattle.sq_typed.specs.Numbered.{row_cond, kind_of}
use Rattle.sq_typed.specs.Resolved.{Resolved, Source, Joined, Parts, together, widened, operation_columns, relation_columns, scope_of, typed_join, on_cond, each_join, typed_source, scoped, typed_block, operation, of_query, of_source, of_block, resolved, wider}
use Rattle.sq_typed.specs.Scopes.{Text, Named, Scope, kinds_in}
use Rattle.sq_typed.specs.Selected.{Scoped, chosen, item_expr, item_column, item_kinds, grouping, block_columns}
use Rattle.sq_typed.specs.Written.{has_member, IsWritten}
use Rattle.sq_typed.proofs.FitBlocks.{all_unmapped, ons_suit, kinds_of_item_row, clauses_are_fit, not_false}
use Rattle.sq_typed.proofs.FitEquations.{kinded_source-is, kinded-Relation, kinded-Query, kinded-Block, kinded-Chain, kinded-Intersect}
use Rattle.sq_typed.proofs.FitQueries.{or_left, or_right, none_pass}
use Rattle.sq_typed.proofs.FitTests.{both_true}
use Rattle.sq_typed.proofs.QueryEquations.{resolved_source, resolved_joined, resolved_step, joined_at, step_at, block_at, resolved-Chain, resolved-Intersect, source-Relation, source-Query}
use Rattle.sq_typed.proofs.QueryTrees.{QueryTreeCases, each_query_tree}

abbrev kind_in : Column → Kind
kind_in c = c.kind

-- a query or a source fits with the kinds of these columns
abbrev FitsAs : Kinded → List Column → Type 0
FitsAs k columns = (k.fits ≡ true) × (k.kinds ≡ map kind_in columns)

-- ---- what is without faults

pub record IsSound (b : Scoped) : Type 0 where
  pub known : has_unknown_column b ≡ false
  pub typed : has_mixed_types b ≡ false
  pub narrow : has_wide_expr b ≡ false
  pub written : IsWritten b

pub record IsMatched (operands : List (List Column)) : Type 0 where
  pub some : has_member operands ≡ true
  pub counts : differ_in_count operands ≡ false
  pub sorts : mixes_sorts operands ≡ false

module _ (relations : List Relation) where
  -- the blocks, names of relations and operands of a query
  pub record IsClean (p : Parts) : Type 0 where
    pub blocks : AllByRecursion IsSound p.blocks
    pub names : AllByRecursion (λ name. is_named name relations ≡ true) p.relations
    pub operations : AllByRecursion IsMatched p.operations

  clean_parts : (ps : List Parts) → IsClean (together ps) → AllByRecursion IsClean ps
  clean_parts [] c = tt
  clean_parts (p ∷ ps) c = (
    record {
      blocks = all_front IsSound p.blocks (flat_map (λ p. p.blocks) ps) c.blocks;
      names = all_front (λ name. is_named name relations ≡ true) p.relations (flat_map (λ p. p.relations) ps) c.names;
      operations = all_front IsMatched p.operations (flat_map (λ p. p.operations) ps) c.operations;
    },
    clean_parts ps (record {
      blocks = all_back IsSound p.blocks (flat_map (λ p. p.blocks) ps) c.blocks;
      names = all_back (λ name. is_named name relations ≡ true) p.relations (flat_map (λ p. p.relations) ps) c.names;
      operations = all_back IsMatched p.operations (flat_map (λ p. p.operations) ps) c.operations;
    }),
  )

-- ---- set operations

kinds_widened : (cs ds : List Column) → map kind_in (widened cs ds) ≡ wider_kinds (map kind_in cs) (map kind_in ds)
kinds_widened [] ds = refl
kinds_widened (c ∷ cs) [] = refl
kinds_widened (c ∷ cs) (d ∷ ds) = ap (λ ks. wider c.kind d.kind ∷ ks) (kinds_widened cs ds)

kinds_folded : (css : List (List Column)) (cs : List Column) → map kind_in (fold widened cs css) ≡ fold wider_kinds (map kind_in cs) (map (map kind_in) css)
kinds_folded [] cs = refl
kinds_folded (ds ∷ css) cs = kinds_folded css (widened cs ds) ∙ ap (λ ks. fold wider_kinds ks (map (map kind_in) css)) (kinds_widened cs ds)

matched : (cs ds : List Column) → length ds ≡ length cs → differ_in_sort cs ds ≡ false → are_matched (map kind_in cs) (map kind_in ds) ≡ true
matched [] [] n s = refl
matched [] (d ∷ ds) n s = absurd (omega (arith, n))
matched (c ∷ cs) [] n s = absurd (omega (arith, n))
matched (c ∷ cs) (d ∷ ds) n s =
    both_true (are_alike (Some (sort_of_kind c.kind)) (Some (sort_of_kind d.kind))) (are_matched (map kind_in cs) (map kind_in ds))
    (not_false (are_alike (Some (sort_of_kind c.kind)) (Some (sort_of_kind d.kind))) (or_left (not (are_alike (Some (sort_of_kind c.kind)) (Some (sort_of_kind d.kind)))) (differ_in_sort cs ds) s))
    (matched cs ds (omega (arith, n)) (or_right (not (are_alike (Some (sort_of_kind c.kind)) (Some (sort_of_kind d.kind)))) (differ_in_sort cs ds) s))

operands_matched : (first : List Column) (k : Kinded) → k.kinds ≡ map kind_in first → (ms : List Kinded) (css : List (List Column)) → AllByRecursion (λ ds. not (length ds == length first) ≡ false) css → AllByRecursion (λ ds. differ_in_sort first ds ≡ false) css → Pairwise FitsAs ms css →
    list_all (λ m. m.fits && are_matched k.kinds m.kinds) ms ≡ true
operands_matched first k is [] [] n s p = refl
operands_matched first k is [] (ds ∷ css) n s p = absurd p
operands_matched first k is (m ∷ ms) [] n s p = absurd p
operands_matched first k is (m ∷ ms) (ds ∷ css) n s p =
    both_true (m.fits && are_matched k.kinds m.kinds) (list_all (λ m. m.fits && are_matched k.kinds m.kinds) ms)
    (both_true m.fits (are_matched k.kinds m.kinds) p.0.0 ((λ i. are_matched (is i) (p.0.1 i)) ∙ matched first ds ((Decides-eqb (length ds) (length first)).0 (not_false (length ds == length first) n.0)) s.0))
    (operands_matched first k is ms css n.1 s.1 p.1)

all_kinds : (ms : List Kinded) (css : List (List Column)) → Pairwise FitsAs ms css → map (λ m. m.kinds) ms ≡ map (map kind_in) css
all_kinds [] [] p = refl
all_kinds [] (ds ∷ css) p = absurd p
all_kinds (m ∷ ms) [] p = absurd p
all_kinds (m ∷ ms) (ds ∷ css) p = (λ i. p.0.1 i ∷ all_kinds ms css p.1 i)

operation_fits : (ms : List Kinded) (css : List (List Column)) → IsMatched css → Pairwise FitsAs ms css → FitsAs (operation_kinded ms) (operation_columns css)
operation_fits [] [] h p = absurd (cc h.some)
operation_fits [] (cs ∷ css) h p = absurd p
operation_fits (m ∷ ms) [] h p = absurd p
operation_fits (m ∷ ms) (cs ∷ css) h p = (
  both_true m.fits (list_all (λ n. n.fits && are_matched m.kinds n.kinds) ms) p.0.0
      (operands_matched cs m p.0.1 ms css (none_pass (λ ds. not (length ds == length cs)) css h.counts) (none_pass (differ_in_sort cs) css h.sorts) p.1),
  (λ i. fold wider_kinds (p.0.1 i) (all_kinds ms css p.1 i)) ∙ sym (kinds_folded css cs),
)

-- ---- the sources of a block

kinds_more : (scope : Scope) (n : Named) → kinds_in (scope ++ n ∷ []) ≡ kinds_in scope ++ map kind_in n.columns
kinds_more [] n = ap (map kind_in) (append-nil n.columns)
kinds_more (m ∷ scope) n =
    map-append kind_in m.columns (flat_map (λ s. s.columns) (scope ++ n ∷ []))
    ∙ ap (λ ks. map kind_in m.columns ++ ks) (kinds_more scope n)
    ∙ sym (append_assoc (map kind_in m.columns) (kinds_in scope) (map kind_in n.columns))
    ∙ ap (λ ks. ks ++ map kind_in n.columns) (sym (map-append kind_in m.columns (flat_map (λ s. s.columns) scope)))

module _ (kss : List (List Kind)) where
  abbrev SourceFits : Source → Type 0
  SourceFits s = FitsAs (kinded_origin kss s.origin) s.named.columns

  typed_source-is : (scope : Scope) (s : Joined) → kinded_source kss (typed_source scope s) ≡ record { join = typed_join scope s.join; kinded = kinded_origin kss s.source.origin }
  typed_source-is scope s = kinded_source-is kss (typed_source scope s) ∙ ap (λ x. record { join = x.join; kinded = kinded_origin kss x.source }) (out-roll-FromItem (record { join = typed_join scope s.join; source = s.source.origin }))

  abbrev OnSuits : Scope × CondTree → Type 0
  OnSuits on = suits_cond (kinds_in on.0) (row_cond on.0 on.1) ≡ true

  join_suits : (scope : Scope) (j : JoinTree) → AllByRecursion OnSuits (on_cond scope j) → on_suits (kinds_in scope) (typed_join scope j) ≡ true
  join_suits scope written.Comma h = refl
  join_suits scope (written.Inner on) h = h.0
  join_suits scope (written.Left on) h = h.0

  abbrev typed : Scope → List Joined → List KindedSource
  typed before ss = map (kinded_source kss) (each_join typed_source before ss)

  all_sources_fit : (before : Scope) (ss : List Joined) → AllByRecursion (λ s. SourceFits s.source) ss → AllByRecursion OnSuits (flat_map (λ on. on) (each_join (λ scope s. on_cond scope s.join) before ss)) → sources_fit (kinds_in before) (typed before ss) ≡ true
  all_sources_fit before [] h o = refl
  all_sources_fit before (s ∷ ss) h o =
      let scope : Scope = before ++ s.source.named ∷ [] in
      let kinds : kinds_in before ++ (kinded_origin kss s.source.origin).kinds ≡ kinds_in (before ++ s.source.named ∷ []) = ap (λ ks. kinds_in before ++ ks) h.0.1 ∙ sym (kinds_more before s.source.named) in
      ap (λ (k : KindedSource). (k.kinded.fits && on_suits (kinds_in before ++ k.kinded.kinds) k.join) && sources_fit (kinds_in before ++ k.kinded.kinds) (typed scope ss)) (typed_source-is scope s)
      ∙ ap (λ ks. ((kinded_origin kss s.source.origin).fits && on_suits ks (typed_join scope s.join)) && sources_fit ks (typed scope ss)) kinds
      ∙ both_true ((kinded_origin kss s.source.origin).fits && on_suits (kinds_in scope) (typed_join scope s.join)) (sources_fit (kinds_in scope) (typed scope ss))
      (both_true (kinded_origin kss s.source.origin).fits (on_suits (kinds_in scope) (typed_join scope s.join)) h.0.0 (join_suits scope s.join (all_front OnSuits (on_cond scope s.join) (flat_map (λ on. on) (each_join (λ scope s. on_cond scope s.join) scope ss)) o)))
      (all_sources_fit scope ss h.1 (all_back OnSuits (on_cond scope s.join) (flat_map (λ on. on) (each_join (λ scope s. on_cond scope s.join) scope ss)) o))

  all_source_kinds : (before : Scope) (ss : List Joined) → AllByRecursion (λ s. SourceFits s.source) ss → joined_kinds (typed before ss) ≡ kinds_in (scope_of ss)
  all_source_kinds before [] h = refl
  all_source_kinds before (s ∷ ss) h =
      ap (λ (k : KindedSource). k.kinded.kinds ++ joined_kinds (typed (before ++ s.source.named ∷ []) ss)) (typed_source-is (before ++ s.source.named ∷ []) s)
      ∙ (λ i. h.0.1 i ++ all_source_kinds (before ++ s.source.named ∷ []) ss h.1 i)
      ∙ sym (map-append kind_in s.source.named.columns (flat_map (λ s. s.columns) (scope_of ss)))

  some_source : (before : Scope) (ss : List Joined) → has_member (scope_of ss) ≡ true → has_some (typed before ss) ≡ true
  some_source before [] e = absurd (cc e)
  some_source before (s ∷ ss) e = refl

  -- ---- the block

  map_twice : {A B C : Type 0} (f : B → C) (g : A → B) (xs : List A) → map f (map g xs) ≡ map (λ x. f (g x)) xs
  map_twice f g [] = refl
  map_twice f g (x ∷ xs) = ap (λ ys. f (g x) ∷ ys) (map_twice f g xs)

  block_fits : (b : BlockTree-F Resolved Source Resolved Joined (SetOp × Resolved)) → IsSound (scoped b) → AllByRecursion (λ s. SourceFits s.source) b.sources → FitsAs (kinded kss (typed_block b.distinct b.sources (scoped b))) (block_columns (scoped b))
  block_fits b h ss =
      let own : Scoped = scoped b in
      let ks : List KindedSource = typed [] b.sources in
      let kinds : joined_kinds (typed [] b.sources) ≡ kinds_in (scope_of b.sources) = all_source_kinds [] b.sources ss in
      let is : kinded kss (typed_block b.distinct b.sources own) ≡ block_kinded (typed [] b.sources) (option_map (row_cond own.scope) own.filter) (grouping own) (map (item_expr own) (chosen own)) =
      kinded-Block kss (roll-Block (record { distinct = b.distinct; sources = each_join typed_source [] b.sources; filter = option_map (row_cond own.scope) own.filter; grouping = grouping own; items = map (item_expr own) (chosen own) }))
      ∙ ap (λ x. block_kinded (map (kinded_source kss) x.sources) x.filter x.grouping x.items) (out-roll-Block (record { distinct = b.distinct; sources = each_join typed_source [] b.sources; filter = option_map (row_cond own.scope) own.filter; grouping = grouping own; items = map (item_expr own) (chosen own) })) in (
        ap (λ (k : Kinded). k.fits) is ∙
            both_true (has_some ks && sources_fit [] ks) (clauses_fit (joined_kinds ks) (option_map (row_cond own.scope) own.filter) (grouping own) (map (item_expr own) (chosen own)))
            (both_true (has_some ks) (sources_fit [] ks) (some_source [] b.sources h.written.sources) (all_sources_fit [] b.sources ss (ons_suit own h.known h.typed h.narrow h.written)))
            (subst (λ k. clauses_fit k (option_map (row_cond own.scope) own.filter) (grouping own) (map (item_expr own) (chosen own)) ≡ true) (sym kinds) (clauses_are_fit own h.known h.typed h.narrow h.written)),
        ap (λ (k : Kinded). k.kinds) is
            ∙ ap (λ k. map (kind_of (item_row_kinds k (grouping own))) (map (item_expr own) (chosen own))) kinds
            ∙ ap (λ k. map (kind_of k) (map (item_expr own) (chosen own))) (kinds_of_item_row own h.known h.typed h.narrow h.written)
            ∙ map_twice (kind_of (item_kinds own)) (item_expr own) (chosen own)
            ∙ sym (map_twice kind_in (item_column own) (chosen own)),
      )

-- ---- the names of relations

abbrev has_name : Text → Relation → Bool
has_name name r = bytes_eq name r.name

named_below : (name : Text) (rs : List Relation) → is_named name rs ≡ true → position_or_len (has_name name) rs < length rs
named_below name [] e = absurd (cc e)
named_below name (r ∷ rs) e =
    elim (bytes_eq name r.name) as (λ b. (b || is_named name rs) ≡ true → cond (not b) (1 + position_or_len (has_name name) rs) 0 < suc (length rs)) [
      | true ↦ λ e. omega arith
      | false ↦ λ e. omega (arith, named_below name rs e)
    ] e

named_kinds : (name : Text) (rs : List Relation) → is_named name rs ≡ true → slice_get (map kinds_of rs) (position_or_len (has_name name) rs) ≡ Some (map kind_in (relation_columns name rs))
named_kinds name [] e = absurd (cc e)
named_kinds name (r ∷ rs) e =
    elim (bytes_eq name r.name) as (λ b. (b || is_named name rs) ≡ true → slice_get (kinds_of r ∷ map kinds_of rs) (cond (not b) (1 + position_or_len (has_name name) rs) 0) ≡ Some (map kind_in (if b then r.columns else relation_columns name rs))) [
      | true ↦ λ e. refl
      | false ↦ λ e. ap (slice_get (kinds_of r ∷ map kinds_of rs)) (one_more (position_or_len (has_name name) rs)) ∙ named_kinds name rs e
    ] e
  where
    one_more : (n : ℕ) → 1 + n ≡ suc n
    one_more n = omega arith

named_place : (name : Text) (rs : List Relation) → is_named name rs ≡ true → unwrap_or (place_of name rs) 0 ≡ position_or_len (has_name name) rs
named_place name rs e = ap (λ b. unwrap_or (cond b (Some (position_or_len (has_name name) rs)) None) 0) (lt-ltb (position_or_len (has_name name) rs) (length rs) (named_below name rs e))

-- ---- queries

module _ (relations : List Relation) where
  abbrev kss : List (List Kind)
  kss = map kinds_of relations

  abbrev Ok : Resolved → Type 0
  Ok r = IsClean relations r.parts → FitsAs (kinded kss r.query) r.columns

  abbrev SourceOk : Source → Type 0
  SourceOk s = IsClean relations s.parts → SourceFits kss s

  relation_ok : (name : Text) (alias : Option Text) → SourceOk (of_source relations (SourceTree-F.Relation name alias))
  relation_ok name alias c =
      let named : is_named name relations ≡ true = c.names.0 in
      let is : kinded_origin kss (origin.Relation (unwrap_or (place_of name relations) 0)) ≡ relation_kinded (Some (map kind_in (relation_columns name relations))) =
      kinded-Relation kss (unwrap_or (place_of name relations) 0) ∙ ap (λ n. relation_kinded (slice_get kss n)) (named_place name relations named) ∙ ap relation_kinded (named_kinds name relations named) in
      (ap (λ (k : Kinded). k.fits) is, ap (λ (k : Kinded). k.kinds) is)

  query_ok : (r : Resolved) (alias : Text) → Ok r → SourceOk (of_source relations (SourceTree-F.Query r alias))
  query_ok r alias ok c =
      let fits = ok (record { blocks = c.blocks; names = c.names; operations = c.operations }) in
      (ap (λ (k : Kinded). k.fits) (kinded-Query kss r.query) ∙ fits.0, ap (λ (k : Kinded). k.kinds) (kinded-Query kss r.query) ∙ fits.1)

  block_ok : (b : BlockTree-F Resolved Source Resolved Joined (SetOp × Resolved)) → AllByRecursion (λ s. SourceOk s.source) b.sources → Ok (of_block relations b)
  block_ok b ss c =
      let own : Parts = record { blocks = scoped b ∷ []; heads = []; relations = []; operations = [] } in
      let all = clean_parts relations (own ∷ map (λ s. s.source.parts) b.sources) c in
      block_fits kss b all.0.blocks.0
      (all_from (λ s. SourceOk s.source) (λ s. IsClean relations s.source.parts) (λ s. SourceFits kss s.source) b.sources (λ s ok c. ok c) ss (all_unmapped (IsClean relations) (λ s. s.source.parts) b.sources all.1))

  members_ok : (ms : List Resolved) → AllByRecursion Ok ms → AllByRecursion (IsClean relations) (map (λ m. m.parts) ms) → Pairwise FitsAs (map (λ m. kinded kss m.query) ms) (map (λ m. m.columns) ms)
  members_ok [] h c = tt
  members_ok (m ∷ ms) h c = (h.0 c.0, members_ok ms h.1 c.1)

  operation_ok : (q : Query) (ms : List Resolved) → kinded kss q ≡ operation_kinded (map (λ m. kinded kss m.query) ms) → AllByRecursion Ok ms → Ok (operation q ms)
  operation_ok q ms is h c =
      let own : Parts = record { blocks = []; heads = []; relations = []; operations = map (λ m. m.columns) ms ∷ [] } in
      let all = clean_parts relations (own ∷ map (λ m. m.parts) ms) c in
      subst (λ k. FitsAs k (operation_columns (map (λ m. m.columns) ms))) (sym is)
      (operation_fits (map (λ m. kinded kss m.query) ms) (map (λ m. m.columns) ms) all.0.operations.0 (members_ok ms h all.1))

  abbrev set_step : SetOp × Resolved → SetStep
  set_step s = roll-SetStep (record { op = s.0; query = s.1.query })

  steps_kinded : (rest : List (SetOp × Resolved)) → map (λ s. kinded kss s.query) (map set_step rest) ≡ map (λ m. kinded kss m.query) (map (λ s. s.1) rest)
  steps_kinded [] = refl
  steps_kinded (s ∷ rest) = (λ i. kinded kss (out-roll-SetStep (record { op = s.0; query = s.1.query }) i).query ∷ steps_kinded rest i)

  chain_ok : (first : Resolved) (rest : List (SetOp × Resolved)) → Ok first → AllByRecursion (λ s. Ok s.1) rest → Ok (of_query relations (QueryTree-F.Chain first rest))
  chain_ok first rest h hs =
      operation_ok (query.Chain first.query (map set_step rest)) (first ∷ map (λ s. s.1) rest)
      (kinded-Chain kss first.query (map set_step rest) ∙ ap (λ ms. operation_kinded (kinded kss first.query ∷ ms)) (steps_kinded rest))
      (h, all_over Ok (λ s. s.1) rest hs)

  intersect_ok : (ms : List Resolved) → AllByRecursion Ok ms → Ok (of_query relations (QueryTree-F.Intersect ms))
  intersect_ok ms h = operation_ok (query.Intersect (map (λ m. m.query) ms)) ms (kinded-Intersect kss (map (λ m. m.query) ms) ∙ ap operation_kinded (map_twice kss (kinded kss) (λ m. m.query) ms)) h

  -- ---- trees

  abbrev TreeOk : QueryTree → Type 0
  TreeOk q = Ok (resolved relations q)

  abbrev SourceTreeOk : SourceTree → Type 0
  SourceTreeOk s = SourceOk (resolved_source relations s)

  tree_cases : QueryTreeCases TreeOk SourceTreeOk
  tree_cases = record {
    block = λ b ss. subst Ok (sym (block_at relations b))
        (block_ok (record { distinct = (out-BlockTree b).distinct; items = (out-BlockTree b).items; sources = map (resolved_joined relations) (out-BlockTree b).sources; filter = (out-BlockTree b).filter; group = (out-BlockTree b).group; having = (out-BlockTree b).having })
        (all_over (λ s. SourceOk s.source) (resolved_joined relations) (out-BlockTree b).sources
        (all_weaker (λ j. SourceTreeOk j.source) (λ j. SourceOk (resolved_joined relations j).source) (out-BlockTree b).sources (λ j h. subst (λ (x : Joined). SourceOk x.source) (sym (joined_at relations j)) h) ss)));
    chain = λ q rest h hs. subst Ok (sym (resolved-Chain relations q rest))
        (chain_ok (resolved relations q) (map (resolved_step relations) rest) h
        (all_over (λ s. Ok s.1) (resolved_step relations) rest
        (all_weaker (λ s. TreeOk s.query) (λ s. Ok (resolved_step relations s).1) rest (λ s h. subst (λ (x : SetOp × Resolved). Ok x.1) (sym (step_at relations s)) h) hs)));
    intersect = λ qs hs. subst Ok (sym (resolved-Intersect relations qs)) (intersect_ok (map (resolved relations) qs) (all_over Ok (resolved relations) qs hs));
    relation = λ name alias. subst SourceOk (sym (source-Relation relations name alias)) (relation_ok name alias);
    of_query = λ q alias h. subst SourceOk (sym (source-Query relations q alias)) (query_ok (resolved relations q) alias h);
  }

  -- a query without faults fits, with the kinds of its columns
  pub query_fits : (q : QueryTree) → TreeOk q
  query_fits = each_query_tree TreeOk SourceTreeOk tree_cases
