-- What the parts of a query come to, told from its tree.
use Rattle.std.proofs.Common.{◌≡◌, ℕ, suc, ◌+◌, Bool, true, false, not, ◌||◌, List, [], ◌∷◌, ◌++◌, map, length, refl, sym, ap, subst, ◌∙◌}
use Rattle.std.specs.Prelude.{Some, None, Result, IfOk, is_none, slice_get, bytes_eq, if◌then◌else◌}
use Rattle.std.proofs.lemmas.Option.{same_Some}
use Rattle.std.proofs.lemmas.List.Folds.{list_any-append}
use Rattle.std.specs.List.{flat_map, list_any}
use Rattle.sq_expr.proofs.Lists.{any_flat}
use Rattle.sq_ast.specs.declared.query.BlockTree.{BlockTree, out-BlockTree, roll-out-BlockTree}
use Rattle.sq_ast.specs.declared.query.ItemTree.{ItemTree}
use Rattle.sq_ast.specs.declared.query.ItemTree.TheVariants as item
use Rattle.sq_ast.specs.declared.query.JoinedTree.{JoinedTree, out-JoinedTree, roll-out-JoinedTree}
use Rattle.sq_ast.specs.declared.query.QueryTree.{QueryTree}
use Rattle.sq_ast.specs.declared.query.QueryTree.TheOpen.{SourceTree-F, BlockTree-F}
use Rattle.sq_ast.specs.declared.query.QueryTree.TheVariants as query
use Rattle.sq_ast.specs.declared.query.SetOp.{SetOp}
use Rattle.sq_ast.specs.declared.query.SourceTree.{SourceTree, out-SourceTree, roll-SourceTree, roll-out-SourceTree}
use Rattle.sq_ast.specs.declared.query.SourceTree.TheVariants as source
use Rattle.sq_ast.specs.declared.query.StepTree.{StepTree, out-StepTree, roll-out-StepTree}
use Rattle.sq_catalog.specs.Names.{is_named}
use Rattle.sq_catalog.specs.declared.relation.Column.{Column}
use Rattle.sq_catalog.specs.declared.relation.Relation.{Relation}
use Rattle.sq_scope.specs.NamesFaults.{has_name_fault, name_of, source_name, is_block_fault, is_relation_fault, is_head_fault, source_fault, has_source_fault, has_block_fault, is_unnamed}
use Rattle.sq_scope.specs.declared.names.NameFault.{NameFault}
use Rattle.sq_scope.specs.declared.names.NameFault.TheVariants.{SameSources, UnknownRelation, UnnamedItem}
use Rattle.sq_typed.proofs.QueryEquations.{resolved_source, resolved_joined, resolved_step, joined-is, step-is, source-Relation, source-Query, resolved-Block, resolved-Chain, resolved-Intersect}
use Rattle.sq_typed.specs.Faults.{has_same_sources, has_unnamed_item}
use Rattle.sq_typed.specs.Resolved.{Resolved, Parts, Joined, together, scope_of, scoped, of_block, of_source, resolved}
use Rattle.sq_typed.specs.Resolved as typed
use Rattle.sq_typed.specs.Scopes.{Text, Scope, repeats}
use Rattle.sq_typed.specs.Selected.{Written, starred_from, starred, written_out, item_name}

or_false : (b : Bool) → (b || false) ≡ b
or_false true = refl
or_false false = refl

-- ---- items without a name

no_star : (n : ℕ) (cs : List Column) → list_any (λ i. is_none (item_name i)) (starred_from n cs) ≡ false
no_star n [] = refl
no_star n (c ∷ cs) = no_star (suc n) cs

no_star_of : (b : Bool) (n : ℕ) (cs : List Column) → list_any (λ i. is_none (item_name i)) (if b then starred_from n cs else []) ≡ false
no_star_of true n cs = no_star n cs
no_star_of false n cs = refl

no_stars : (test : Text → Bool) (n : ℕ) (scope : Scope) → list_any (λ i. is_none (item_name i)) (starred test n scope) ≡ false
no_stars test n [] = refl
no_stars test n (s ∷ ss) =
    list_any-append (λ i. is_none (item_name i)) (if test s.name then starred_from n s.columns else []) (starred test (n + length s.columns) ss) ∙
    λ i. no_star_of (test s.name) n s.columns i || no_stars test (n + length s.columns) ss i

unnamed_out : (scope : Scope) (i : ItemTree) → list_any (λ i. is_none (item_name i)) (written_out scope i) ≡ is_unnamed i
unnamed_out scope item.Star = no_stars (λ name. true) 0 scope
unnamed_out scope (item.StarOf name) = no_stars (bytes_eq name) 0 scope
unnamed_out scope (item.Expr e alias) = or_false (is_none (item_name (Written e alias)))

pub unnamed_items : (scope : Scope) (items : List ItemTree) → list_any (λ i. is_none (item_name i)) (flat_map (written_out scope) items) ≡ list_any is_unnamed items
unnamed_items scope [] = refl
unnamed_items scope (i ∷ is) =
    list_any-append (λ i. is_none (item_name i)) (written_out scope i) (flat_map (written_out scope) is) ∙ λ j. unnamed_out scope i j || unnamed_items scope is j

-- ---- one level of a query

module _ (relations : List Relation) where
  block_is : (b : BlockTree) → resolved relations (query.Block b) ≡
      of_block relations (record { distinct = (out-BlockTree b).distinct; items = (out-BlockTree b).items; sources = map (resolved_joined relations) (out-BlockTree b).sources; filter = (out-BlockTree b).filter; group = (out-BlockTree b).group; having = (out-BlockTree b).having })
  block_is b = ap (λ b. resolved relations (query.Block b)) (sym (roll-out-BlockTree b)) ∙
      resolved-Block relations (out-BlockTree b).distinct (out-BlockTree b).items (out-BlockTree b).sources (out-BlockTree b).filter (out-BlockTree b).group (out-BlockTree b).having

  joined_of : (j : JoinedTree) → (resolved_joined relations j).source ≡ resolved_source relations (out-JoinedTree j).source
  joined_of j = ap (λ j. (resolved_joined relations j).source) (sym (roll-out-JoinedTree j)) ∙ ap (λ j. j.source) (joined-is relations (out-JoinedTree j).join (out-JoinedTree j).source)

  step_of : (s : StepTree) → (resolved_step relations s).1 ≡ resolved relations (out-StepTree s).query
  step_of s = ap (λ s. (resolved_step relations s).1) (sym (roll-out-StepTree s)) ∙ ap (λ s. s.1) (step-is relations (out-StepTree s).op (out-StepTree s).query)

  abbrev source_of : (x : SourceTree-F QueryTree SourceTree BlockTree JoinedTree StepTree) → typed.Source
  source_of (SourceTree-F.Relation name alias) = of_source relations (SourceTree-F.Relation name alias)
  source_of (SourceTree-F.Query q alias) = of_source relations (SourceTree-F.Query (resolved relations q) alias)

  rolled : (x : SourceTree-F QueryTree SourceTree BlockTree JoinedTree StepTree) → resolved_source relations (roll-SourceTree x) ≡ source_of x
  rolled (SourceTree-F.Relation name alias) = ap (resolved_source relations) (source.rolls-Relation name alias) ∙ source-Relation relations name alias
  rolled (SourceTree-F.Query q alias) = ap (resolved_source relations) (source.rolls-Query q alias) ∙ source-Query relations q alias

  source_is : (s : SourceTree) → resolved_source relations s ≡ source_of (out-SourceTree s)
  source_is s = ap (resolved_source relations) (sym (roll-out-SourceTree s)) ∙ rolled (out-SourceTree s)

  name_is : (x : SourceTree-F QueryTree SourceTree BlockTree JoinedTree StepTree) → (source_of x).named.name ≡ name_of x
  name_is (SourceTree-F.Relation name alias) = refl
  name_is (SourceTree-F.Query q alias) = refl

  names_are : (js : List JoinedTree) → map (λ s. s.name) (scope_of (map (resolved_joined relations) js)) ≡ map source_name js
  names_are [] = refl
  names_are (j ∷ js) =
      let here : (resolved_joined relations j).source.named.name ≡ source_name j = ap (λ s. s.named.name) (joined_of j ∙ source_is (out-JoinedTree j).source) ∙ name_is (out-SourceTree (out-JoinedTree j).source) in
      λ i. here i ∷ names_are js i

-- ---- faults

has_together : (fault : NameFault) (relations : List Relation) (ps : List Parts) → has_name_fault fault relations (together ps) ≡ list_any (has_name_fault fault relations) ps
has_together SameSources relations ps = any_flat has_same_sources (λ p. p.blocks) ps
has_together UnknownRelation relations ps = any_flat (λ name. not (is_named name relations)) (λ p. p.relations) ps
has_together UnnamedItem relations ps = any_flat has_unnamed_item (λ p. p.heads) ps

operation_has_none : (fault : NameFault) (relations : List Relation) (operands : List (List Column)) → has_name_fault fault relations (record { blocks = []; heads = []; relations = []; operations = operands ∷ [] }) ≡ false
operation_has_none SameSources relations operands = refl
operation_has_none UnknownRelation relations operands = refl
operation_has_none UnnamedItem relations operands = refl

block_has : (fault : NameFault) (relations : List Relation) (b : BlockTree-F Resolved typed.Source Resolved Joined (SetOp × Resolved)) (js : List JoinedTree) → b.sources ≡ map (resolved_joined relations) js →
    has_name_fault fault relations (record { blocks = scoped b ∷ []; heads = []; relations = []; operations = [] }) ≡ is_block_fault fault js
block_has SameSources relations b js is = or_false (has_same_sources (scoped b)) ∙ (ap (λ ss. repeats (map (λ s. s.name) (scope_of ss))) is ∙ ap repeats (names_are relations js))
block_has UnknownRelation relations b js is = refl
block_has UnnamedItem relations b js is = refl

relation_has : (fault : NameFault) (relations : List Relation) (name : Text) → has_name_fault fault relations (record { blocks = []; heads = []; relations = name ∷ []; operations = [] }) ≡ is_relation_fault fault relations name
relation_has SameSources relations name = refl
relation_has UnknownRelation relations name = or_false (not (is_named name relations))
relation_has UnnamedItem relations name = refl

head_has : (fault : NameFault) (relations : List Relation) (r : Resolved) →
    has_name_fault fault relations (record { blocks = r.parts.blocks; heads = r.leftmost ++ r.parts.heads; relations = r.parts.relations; operations = r.parts.operations }) ≡ (is_head_fault fault r || has_name_fault fault relations r.parts)
head_has SameSources relations r = refl
head_has UnknownRelation relations r = refl
head_has UnnamedItem relations r = list_any-append has_unnamed_item r.leftmost r.parts.heads

source_has : (fault : NameFault) (relations : List Relation) (x : SourceTree-F QueryTree SourceTree BlockTree JoinedTree StepTree) → has_name_fault fault relations (source_of relations x).parts ≡ source_fault fault relations x
source_has fault relations (SourceTree-F.Relation name alias) = relation_has fault relations name
source_has fault relations (SourceTree-F.Query q alias) = head_has fault relations (resolved relations q)

module _ (fault : NameFault) (relations : List Relation) where
  in_sources : (js : List JoinedTree) → list_any (has_name_fault fault relations) (map (λ s. s.source.parts) (map (resolved_joined relations) js)) ≡ list_any (λ j. has_source_fault fault relations (out-JoinedTree j).source) js
  in_sources [] = refl
  in_sources (j ∷ js) =
      let here : has_name_fault fault relations (resolved_joined relations j).source.parts ≡ has_source_fault fault relations (out-JoinedTree j).source =
      ap (λ s. has_name_fault fault relations s.parts) (joined_of relations j ∙ source_is relations (out-JoinedTree j).source) ∙ source_has fault relations (out-SourceTree (out-JoinedTree j).source) in
      λ i. here i || in_sources js i

  in_members : (qs : List QueryTree) → list_any (has_name_fault fault relations) (map (λ m. m.parts) (map (resolved relations) qs)) ≡ list_any (λ q. has_name_fault fault relations (resolved relations q).parts) qs
  in_members [] = refl
  in_members (q ∷ qs) = ap (λ b. has_name_fault fault relations (resolved relations q).parts || b) (in_members qs)

  in_steps : (ss : List StepTree) → list_any (has_name_fault fault relations) (map (λ m. m.parts) (map (λ s. s.1) (map (resolved_step relations) ss))) ≡ list_any (λ s. has_name_fault fault relations (resolved relations (out-StepTree s).query).parts) ss
  in_steps [] = refl
  in_steps (s ∷ ss) = λ i. has_name_fault fault relations (step_of relations s i).parts || in_steps ss i

  pub has-Block : (b : BlockTree) → has_name_fault fault relations (resolved relations (query.Block b)).parts ≡ has_block_fault fault relations b
  has-Block b =
      let layer : BlockTree-F Resolved typed.Source Resolved Joined (SetOp × Resolved) = record { distinct = (out-BlockTree b).distinct; items = (out-BlockTree b).items; sources = map (resolved_joined relations) (out-BlockTree b).sources; filter = (out-BlockTree b).filter; group = (out-BlockTree b).group; having = (out-BlockTree b).having } in
      ap (λ r. has_name_fault fault relations r.parts) (block_is relations b) ∙
      (has_together fault relations (record { blocks = scoped layer ∷ []; heads = []; relations = []; operations = [] } ∷ map (λ s. s.source.parts) layer.sources) ∙
      λ i. block_has fault relations layer (out-BlockTree b).sources refl i || in_sources (out-BlockTree b).sources i)

  pub has-Chain : (first : QueryTree) (rest : List StepTree) → has_name_fault fault relations (resolved relations (query.Chain first rest)).parts ≡
      (has_name_fault fault relations (resolved relations first).parts || list_any (λ s. has_name_fault fault relations (resolved relations (out-StepTree s).query).parts) rest)
  has-Chain first rest =
      let members : List Resolved = resolved relations first ∷ map (λ s. s.1) (map (resolved_step relations) rest) in
      ap (λ r. has_name_fault fault relations r.parts) (resolved-Chain relations first rest) ∙
      (has_together fault relations (record { blocks = []; heads = []; relations = []; operations = map (λ m. m.columns) members ∷ [] } ∷ map (λ m. m.parts) members) ∙
      λ i. operation_has_none fault relations (map (λ m. m.columns) members) i || (has_name_fault fault relations (resolved relations first).parts || in_steps rest i))

  pub has-Intersect : (qs : List QueryTree) → has_name_fault fault relations (resolved relations (query.Intersect qs)).parts ≡ list_any (λ q. has_name_fault fault relations (resolved relations q).parts) qs
  has-Intersect qs =
      ap (λ r. has_name_fault fault relations r.parts) (resolved-Intersect relations qs) ∙
      (has_together fault relations (record { blocks = []; heads = []; relations = []; operations = map (λ m. m.columns) (map (resolved relations) qs) ∷ [] } ∷ map (λ m. m.parts) (map (resolved relations) qs)) ∙
      λ i. operation_has_none fault relations (map (λ m. m.columns) (map (resolved relations) qs)) i || in_members qs i)

-- ---- leftmost blocks

module _ (relations : List Relation) where
  abbrev unnamed : QueryTree → Bool
  unnamed q = list_any has_unnamed_item (resolved relations q).leftmost

  pub left-Block : (b : BlockTree) → list_any has_unnamed_item (resolved relations (query.Block b)).leftmost ≡ list_any is_unnamed (out-BlockTree b).items
  left-Block b =
      let layer : BlockTree-F Resolved typed.Source Resolved Joined (SetOp × Resolved) = record { distinct = (out-BlockTree b).distinct; items = (out-BlockTree b).items; sources = map (resolved_joined relations) (out-BlockTree b).sources; filter = (out-BlockTree b).filter; group = (out-BlockTree b).group; having = (out-BlockTree b).having } in
      ap (λ r. list_any has_unnamed_item r.leftmost) (block_is relations b) ∙ (or_false (has_unnamed_item (scoped layer)) ∙ unnamed_items (scoped layer).scope (out-BlockTree b).items)

  pub left-Chain : (first : QueryTree) (rest : List StepTree) → list_any has_unnamed_item (resolved relations (query.Chain first rest)).leftmost ≡ list_any has_unnamed_item (resolved relations first).leftmost
  left-Chain first rest = ap (λ r. list_any has_unnamed_item r.leftmost) (resolved-Chain relations first rest)

  pub left-Intersect : (q : QueryTree) (qs : List QueryTree) → list_any has_unnamed_item (resolved relations (query.Intersect (q ∷ qs))).leftmost ≡ list_any has_unnamed_item (resolved relations q).leftmost
  left-Intersect q qs = ap (λ r. list_any has_unnamed_item r.leftmost) (resolved-Intersect relations (q ∷ qs))

  pub left-none : list_any has_unnamed_item (resolved relations (query.Intersect [])).leftmost ≡ false
  left-none = ap (λ r. list_any has_unnamed_item r.leftmost) (resolved-Intersect relations [])

-- ---- what the functions answer

module _ (fault : NameFault) (relations : List Relation) where
  abbrev of_query : QueryTree → Bool
  of_query q = has_name_fault fault relations (resolved relations q).parts

  pub block_told : {E : Type 0} (q : QueryTree) (b given : BlockTree) (r : Result Bool E) → q ≡ query.Block b → given ≡ b → IfOk r (λ any. any ≡ has_block_fault fault relations given) → IfOk r (λ any. any ≡ of_query q)
  block_told q b given r is same told =
      subst (λ v. IfOk r (λ any. any ≡ v)) (ap (has_block_fault fault relations) same ∙ (sym (has-Block fault relations b) ∙ ap of_query (sym is))) told

  pub members_told : {E : Type 0} (q : QueryTree) (qs : List QueryTree) (r : Result Bool E) → q ≡ query.Intersect qs → IfOk r (λ any. any ≡ list_any of_query qs) → IfOk r (λ any. any ≡ of_query q)
  members_told q qs r is told =
      subst (λ v. IfOk r (λ any. any ≡ v)) (sym (has-Intersect fault relations qs) ∙ ap of_query (sym is)) told

  pub chain_told : (q first given : QueryTree) (rest : List StepTree) (a b : Bool) → q ≡ query.Chain first rest → given ≡ first → a ≡ of_query given → b ≡ list_any (λ s. of_query (out-StepTree s).query) rest → (a || b) ≡ of_query q
  chain_told q first given rest a b is same in_first in_rest =
      (λ i. (in_first ∙ ap of_query same) i || in_rest i) ∙ (sym (has-Chain fault relations first rest) ∙ ap of_query (sym is))

module _ (relations : List Relation) where
  pub left_block : (q : QueryTree) (b given : BlockTree) (items : List ItemTree) (any : Bool) → q ≡ query.Block b → given ≡ b → items ≡ (out-BlockTree given).items → any ≡ list_any is_unnamed items → any ≡ list_any has_unnamed_item (resolved relations q).leftmost
  left_block q b given items any is same listed told =
      told ∙ (ap (list_any is_unnamed) (listed ∙ ap (λ b. (out-BlockTree b).items) same) ∙ (sym (left-Block relations b) ∙ ap (λ q. list_any has_unnamed_item (resolved relations q).leftmost) (sym is)))

  pub left_chain : (q first given : QueryTree) (rest : List StepTree) (any : Bool) → q ≡ query.Chain first rest → given ≡ first → any ≡ list_any has_unnamed_item (resolved relations given).leftmost → any ≡ list_any has_unnamed_item (resolved relations q).leftmost
  left_chain q first given rest any is same told =
      told ∙ (ap (λ q. list_any has_unnamed_item (resolved relations q).leftmost) same ∙ (sym (left-Chain relations first rest) ∙ ap (λ q. list_any has_unnamed_item (resolved relations q).leftmost) (sym is)))

  pub left_empty : (q : QueryTree) (qs : List QueryTree) → q ≡ query.Intersect qs → slice_get qs 0 ≡ None → false ≡ list_any has_unnamed_item (resolved relations q).leftmost
  left_empty q [] is none = sym (ap (λ q. list_any has_unnamed_item (resolved relations q).leftmost) is ∙ left-none relations)
  left_empty q (p ∷ ps) is none = cc

  pub left_first : (q first : QueryTree) (qs : List QueryTree) (any : Bool) → q ≡ query.Intersect qs → slice_get qs 0 ≡ Some first → any ≡ list_any has_unnamed_item (resolved relations first).leftmost → any ≡ list_any has_unnamed_item (resolved relations q).leftmost
  left_first q first [] any is there told = cc
  left_first q first (p ∷ ps) any is there told =
      let same : p ≡ first = same_Some p first there in
      told ∙ (ap (λ q. list_any has_unnamed_item (resolved relations q).leftmost) (sym same) ∙ (sym (left-Intersect relations p ps) ∙ ap (λ q. list_any has_unnamed_item (resolved relations q).leftmost) (sym is)))
