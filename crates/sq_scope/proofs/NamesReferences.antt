-- The references in a tree, part by part.
use Rattle.std.proofs.Common.{◌≡◌, ℕ, suc, ◌+◌, ◌<◌, ◌≤◌, Bool, true, false, ◌||◌, List, [], ◌∷◌, ◌++◌, map, length, take, get_or, refl, sym, ap, ◌∙◌, append-nil, append_assoc, length-take-le, arith}
use Rattle.std.proofs.lemmas.List.{take_all, take_more}
use Rattle.std.proofs.Math.Seq.{take-length}
use Rattle.std.proofs.lemmas.Grind.{flat_map-append}
use Rattle.std.proofs.lemmas.List.Folds.{list_any-append}
use Rattle.std.specs.List.{flat_map, list_any}
use Rattle.sq_expr.proofs.Lists.{any_flat}
use Rattle.sq_ast.specs.declared.cond.CmpTree.{CmpTree}
use Rattle.sq_ast.specs.declared.cond.CondTree.{CondTree}
use Rattle.sq_ast.specs.declared.cond.CondTree.TheVariants as condition
use Rattle.sq_ast.specs.declared.expr.ColRef.{ColRef}
use Rattle.sq_ast.specs.declared.expr.ExprTree.{ExprTree}
use Rattle.sq_ast.specs.declared.expr.ExprTree.TheVariants as tree
use Rattle.sq_ast.specs.declared.expr.TermTree.{TermTree}
use Rattle.sq_ast.specs.declared.expr.FuncTree.{FuncTree}
use Rattle.sq_ast.specs.declared.query.BlockTree.{BlockTree, out-BlockTree}
use Rattle.sq_ast.specs.declared.query.ItemTree.{ItemTree}
use Rattle.sq_ast.specs.declared.query.JoinedTree.{JoinedTree, out-JoinedTree}
use Rattle.sq_scope.specs.Scoped.{ons_from, scoped_by}
use Rattle.sq_typed.specs.Faults.{item_exprs, references}
use Rattle.sq_typed.specs.Resolved.{on_cond}
use Rattle.sq_typed.specs.Scopes.{Scope}
use Rattle.std.specs.Prelude.{Option, Some, None}
use Rattle.sq_typed.specs.Leaves.{refs, exprs_in, exprs_of}
use Rattle.sq_typed.specs.Selected.{Scoped}
use Rattle.sq_typed.proofs.TreeEquations.{refs-Sum, refs-Product, refs-Column, refs-CountAll, refs-Call, exprs-Any, exprs-All, exprs-Not, exprs-Compare, exprs-Null}

pub any_flat_map : {A B : Type 0} (p : B → Bool) (f : A → List B) (xs : List A) → list_any p (flat_map (λ ys. ys) (map f xs)) ≡ list_any (λ x. list_any p (f x)) xs
any_flat_map p f [] = refl
any_flat_map p f (x ∷ xs) = list_any-append p (f x) (flat_map (λ ys. ys) (map f xs)) ∙ ap (λ b. list_any p (f x) || b) (any_flat_map p f xs)

or_false : (b : Bool) → (b || false) ≡ b
or_false true = refl
or_false false = refl

module _ (p : ColRef → Bool) where
  -- whether some reference of an expression, and of a condition, passes
  abbrev pub any_ref : ExprTree → Bool
  any_ref e = list_any p (refs e)

  abbrev pub any_cond_ref : CondTree → Bool
  any_cond_ref c = list_any p (flat_map refs (exprs_in c))

  pub any-Sum : (ts : List TermTree) → list_any p (refs (tree.Sum ts)) ≡ list_any (λ t. any_ref t.expr) ts
  any-Sum ts = ap (list_any p) (refs-Sum ts) ∙ any_flat_map p (λ t. refs t.expr) ts

  pub any-Product : (es : List ExprTree) → list_any p (refs (tree.Product es)) ≡ list_any any_ref es
  any-Product es = ap (list_any p) (refs-Product es) ∙ any_flat_map p refs es

  any_conds : (cs : List CondTree) → list_any p (flat_map refs (flat_map (λ es. es) (map exprs_in cs))) ≡ list_any any_cond_ref cs
  any_conds [] = refl
  any_conds (c ∷ cs) =
      ap (list_any p) (flat_map-append refs (exprs_in c) (flat_map (λ es. es) (map exprs_in cs))) ∙
      (list_any-append p (flat_map refs (exprs_in c)) (flat_map refs (flat_map (λ es. es) (map exprs_in cs))) ∙ ap (λ b. any_cond_ref c || b) (any_conds cs))

  pub any-Any : (cs : List CondTree) → list_any p (flat_map refs (exprs_in (condition.Any cs))) ≡ list_any any_cond_ref cs
  any-Any cs = ap (λ es. list_any p (flat_map refs es)) (exprs-Any cs) ∙ any_conds cs

  pub any-All : (cs : List CondTree) → list_any p (flat_map refs (exprs_in (condition.All cs))) ≡ list_any any_cond_ref cs
  any-All cs = ap (λ es. list_any p (flat_map refs es)) (exprs-All cs) ∙ any_conds cs

  -- what a loop over the terms, and one over the factors, has at its end
  pub any_terms : (e : ExprTree) (ts given : List TermTree) (i : ℕ) (any : Bool) → e ≡ tree.Sum ts → given ≡ ts → length given ≤ i → any ≡ list_any (λ t. any_ref t.expr) (take i given) → any ≡ any_ref e
  any_terms e ts given i any is same all so_far =
      so_far ∙ (ap (list_any (λ t. any_ref t.expr)) (take_all i given all ∙ same) ∙ (sym (any-Sum ts) ∙ ap any_ref (sym is)))

  pub any_factors : (e : ExprTree) (es given : List ExprTree) (i : ℕ) (any : Bool) → e ≡ tree.Product es → given ≡ es → length given ≤ i → any ≡ list_any any_ref (take i given) → any ≡ any_ref e
  any_factors e es given i any is same all so_far =
      so_far ∙ (ap (list_any any_ref) (take_all i given all ∙ same) ∙ (sym (any-Product es) ∙ ap any_ref (sym is)))

  pub any-Column : (r : ColRef) → any_ref (tree.Column r) ≡ p r
  any-Column r = ap (list_any p) (refs-Column r) ∙ or_false (p r)

  pub any-Compare : (c : CmpTree) (left right : ExprTree) → any_cond_ref (condition.Compare c left right) ≡ (any_ref left || any_ref right)
  any-Compare c left right =
      ap (λ es. list_any p (flat_map refs es)) (exprs-Compare c left right) ∙
      (list_any-append p (refs left) (refs right ++ []) ∙ ap (λ rs. any_ref left || list_any p rs) (append-nil (refs right)))

  pub any-Null : (e : ExprTree) (negated : Bool) → any_cond_ref (condition.Null e negated) ≡ any_ref e
  any-Null e negated = ap (λ es. list_any p (flat_map refs es)) (exprs-Null e negated) ∙ ap (list_any p) (append-nil (refs e))

  pub any-Not : (c : CondTree) → any_cond_ref (condition.Not c) ≡ any_cond_ref c
  any-Not c = ap (λ es. list_any p (flat_map refs es)) (exprs-Not c)

  pub any_no_argument : (e : ExprTree) (f : FuncTree) (arg : Option ExprTree) → e ≡ tree.Call f arg → arg ≡ None → false ≡ any_ref e
  any_no_argument e f arg is none = sym (ap any_ref is ∙ (ap (λ a. any_ref (tree.Call f a)) none ∙ ap (list_any p) (refs-CountAll f)))

  pub any_argument : (e : ExprTree) (f : FuncTree) (arg : Option ExprTree) (inner given : ExprTree) (any : Bool) → e ≡ tree.Call f arg → arg ≡ Some inner → given ≡ inner → any ≡ any_ref given → any ≡ any_ref e
  any_argument e f arg inner given any is some same found =
      found ∙ (ap any_ref same ∙ sym (ap any_ref is ∙ (ap (λ a. any_ref (tree.Call f a)) some ∙ ap (list_any p) (refs-Call f inner))))

  pub any_left : (c : CondTree) (cmp : CmpTree) (left right : ExprTree) (found : Bool) → c ≡ condition.Compare cmp left right → found ≡ any_ref left → found ≡ true → found ≡ any_cond_ref c
  any_left c cmp left right found is first passes =
      passes ∙ sym (ap any_cond_ref is ∙ (any-Compare cmp left right ∙ ap (λ b. b || any_ref right) (sym first ∙ passes)))

  pub any_right : (c : CondTree) (cmp : CmpTree) (left right : ExprTree) (found second : Bool) → c ≡ condition.Compare cmp left right → found ≡ any_ref left → found ≡ false → second ≡ any_ref right → second ≡ any_cond_ref c
  any_right c cmp left right found second is first fails last =
      last ∙ sym (ap any_cond_ref is ∙ (any-Compare cmp left right ∙ ap (λ b. b || any_ref right) (sym first ∙ fails)))

-- ---- the parts of a block

module _ (p : ColRef → Bool) where
  -- the references of the select list
  pub any_items : (items : List ItemTree) → list_any p (flat_map refs (flat_map item_exprs items)) ≡ list_any (λ i. list_any p (flat_map refs (item_exprs i))) items
  any_items [] = refl
  any_items (i ∷ is) =
      ap (list_any p) (flat_map-append refs (item_exprs i) (flat_map item_exprs is)) ∙
      (list_any-append p (flat_map refs (item_exprs i)) (flat_map refs (flat_map item_exprs is)) ∙ ap (λ b. list_any p (flat_map refs (item_exprs i)) || b) (any_items is))

  pub any_items_done : (items : List ItemTree) (i : ℕ) (any : Bool) → length items ≤ i → any ≡ list_any (λ i. list_any p (flat_map refs (item_exprs i))) (take i items) → any ≡ list_any p (flat_map refs (flat_map item_exprs items))
  any_items_done items i any all so_far = so_far ∙ (ap (list_any (λ i. list_any p (flat_map refs (item_exprs i)))) (take_all i items all) ∙ sym (any_items items))

-- what the conditions of ON come to
ons-append : (before : ℕ) (scope : Scope) (js more : List JoinedTree) → ons_from before scope (js ++ more) ≡ ons_from before scope js ++ ons_from (before + length js) scope more
ons-append before scope [] more = ap (λ n. ons_from n scope more) (omega arith)
ons-append before scope (j ∷ js) more =
    let next : suc before + length js ≡ before + suc (length js) = omega arith in
    ap (λ l. on_cond (take (suc before) scope) (out-JoinedTree j).join ++ l) (ons-append (suc before) scope js more ∙ ap (λ n. ons_from (suc before) scope js ++ ons_from n scope more) next) ∙
    sym (append_assoc (on_cond (take (suc before) scope) (out-JoinedTree j).join) (ons_from (suc before) scope js) _)

module _ (q : Scope × CondTree → Bool) (scope : Scope) where
  pub any_joins_more : (js : List JoinedTree) (i : ℕ) (d : JoinedTree) → i < length js →
      list_any q (ons_from 0 scope (take (i + 1) js)) ≡ (list_any q (ons_from 0 scope (take i js)) || list_any q (on_cond (take (i + 1) scope) (out-JoinedTree (get_or js i d)).join))
  any_joins_more js i d within =
      let le : i ≤ length js = omega arith in
      let count : suc (0 + length (take i js)) ≡ i + 1 = omega (arith, length-take-le i js le) in
      ap (λ l. list_any q (ons_from 0 scope l)) (take_more js i d within) ∙
      (ap (list_any q) (ons-append 0 scope (take i js) (get_or js i d ∷ [])) ∙
      (list_any-append q (ons_from 0 scope (take i js)) (on_cond (take (suc (0 + length (take i js))) scope) (out-JoinedTree (get_or js i d)).join ++ []) ∙
      ap (λ b. list_any q (ons_from 0 scope (take i js)) || b) (ap (list_any q) (append-nil (on_cond (take (suc (0 + length (take i js))) scope) (out-JoinedTree (get_or js i d)).join)) ∙ ap (λ n. list_any q (on_cond (take n scope) (out-JoinedTree (get_or js i d)).join)) count)))

  pub joins_step : (js : List JoinedTree) (i : ℕ) (d : JoinedTree) (any found : Bool) → i < length js → any ≡ list_any q (ons_from 0 scope (take i js)) → d ≡ get_or js i d →
      found ≡ list_any q (on_cond (take (i + 1) scope) (out-JoinedTree d).join) → (any || found) ≡ list_any q (ons_from 0 scope (take (i + 1) js))
  joins_step js i d any found within so_far is here =
      (λ j. so_far j || (here ∙ ap (λ d. list_any q (on_cond (take (i + 1) scope) (out-JoinedTree d).join)) is) j) ∙ sym (any_joins_more js i d within)

any_pairs : (t : Scope → ColRef → Bool) (scope : Scope) (rs : List ColRef) → list_any {X = Scope × ColRef} (λ r. t r.0 r.1) (map (λ r. (scope, r)) rs) ≡ list_any (t scope) rs
any_pairs t scope [] = refl
any_pairs t scope (r ∷ rs) = ap (λ b. t scope r || b) (any_pairs t scope rs)

any_in_ons : (t : Scope → ColRef → Bool) (ons : List (Scope × CondTree)) →
    list_any {X = Scope × ColRef} (λ r. t r.0 r.1) (flat_map (λ (on : Scope × CondTree). map (λ r. (on.0, r)) (flat_map refs (exprs_in on.1))) ons) ≡ list_any {X = Scope × CondTree} (λ on. list_any (t on.0) (flat_map refs (exprs_in on.1))) ons
any_in_ons t [] = refl
any_in_ons t (on ∷ ons) =
    list_any-append (λ (r : Scope × ColRef). t r.0 r.1) (map (λ r. (on.0, r)) (flat_map refs (exprs_in on.1))) _ ∙
    λ i. any_pairs t on.0 (flat_map refs (exprs_in on.1)) i || any_in_ons t ons i

-- whether a reference of a block passes, part by part
pub any_of_block : (t : Scope → ColRef → Bool) (b : Scoped) →
    list_any {X = Scope × ColRef} (λ r. t r.0 r.1) (references b) ≡
    ((((list_any (t b.scope) (flat_map refs (flat_map item_exprs b.items)) || list_any (t b.scope) (flat_map refs (exprs_of b.filter))) || list_any (t b.scope) (flat_map refs (exprs_of b.having))) || list_any (t b.scope) b.group)
    || list_any {X = Scope × CondTree} (λ on. list_any (t on.0) (flat_map refs (exprs_in on.1))) b.ons)
any_of_block t b =
    let p : ColRef → Bool = t b.scope in
    let parts : list_any p (flat_map refs ((flat_map item_exprs b.items ++ exprs_of b.filter) ++ exprs_of b.having) ++ b.group) ≡ (((list_any p (flat_map refs (flat_map item_exprs b.items)) || list_any p (flat_map refs (exprs_of b.filter))) || list_any p (flat_map refs (exprs_of b.having))) || list_any p b.group) =
    list_any-append p (flat_map refs ((flat_map item_exprs b.items ++ exprs_of b.filter) ++ exprs_of b.having)) b.group ∙
    ap (λ a. a || list_any p b.group) (
    ap (list_any p) (flat_map-append refs (flat_map item_exprs b.items ++ exprs_of b.filter) (exprs_of b.having)) ∙
    (list_any-append p (flat_map refs (flat_map item_exprs b.items ++ exprs_of b.filter)) (flat_map refs (exprs_of b.having)) ∙
    ap (λ a. a || list_any p (flat_map refs (exprs_of b.having))) (
    ap (list_any p) (flat_map-append refs (flat_map item_exprs b.items) (exprs_of b.filter)) ∙
    list_any-append p (flat_map refs (flat_map item_exprs b.items)) (flat_map refs (exprs_of b.filter))))) in
    list_any-append (λ (r : Scope × ColRef). t r.0 r.1) (map (λ r. (b.scope, r)) (flat_map refs ((flat_map item_exprs b.items ++ exprs_of b.filter) ++ exprs_of b.having) ++ b.group)) (flat_map (λ (on : Scope × CondTree). map (λ r. (on.0, r)) (flat_map refs (exprs_in on.1))) b.ons) ∙
    λ i. (any_pairs t b.scope (flat_map refs ((flat_map item_exprs b.items ++ exprs_of b.filter) ++ exprs_of b.having) ++ b.group) ∙ parts) i || any_in_ons t b.ons i

-- what the functions of a block's parts find
pub record FoundInBlock (t : Scope → ColRef → Bool) (scope : Scope) (b : BlockTree) (in_items in_filter in_having in_group in_joins : Bool) : Type 0 where
  pub items : in_items ≡ list_any (t scope) (flat_map refs (flat_map item_exprs (out-BlockTree b).items))
  pub filter : in_filter ≡ list_any (t (take (length scope) scope)) (flat_map refs (exprs_of (out-BlockTree b).filter))
  pub having : in_having ≡ list_any (t (take (length scope) scope)) (flat_map refs (exprs_of (out-BlockTree b).having))
  pub group : in_group ≡ list_any (t scope) (out-BlockTree b).group
  pub joins : in_joins ≡ list_any {X = Scope × CondTree} (λ on. list_any (t on.0) (flat_map refs (exprs_in on.1))) (ons_from 0 scope (out-BlockTree b).sources)

pub block_done : (t : Scope → ColRef → Bool) (scope : Scope) (b : BlockTree) (items filter having group joins : Bool) → FoundInBlock t scope b items filter having group joins →
    ((((items || filter) || having) || group) || joins) ≡ list_any {X = Scope × ColRef} (λ r. t r.0 r.1) (references (scoped_by scope b))
block_done t scope b items filter having group joins found =
    let in_filter : filter ≡ list_any (t scope) (flat_map refs (exprs_of (out-BlockTree b).filter)) = found.filter ∙ ap (λ s. list_any (t s) (flat_map refs (exprs_of (out-BlockTree b).filter))) (take-length scope) in
    let in_having : having ≡ list_any (t scope) (flat_map refs (exprs_of (out-BlockTree b).having)) = found.having ∙ ap (λ s. list_any (t s) (flat_map refs (exprs_of (out-BlockTree b).having))) (take-length scope) in
    (λ i. (((found.items i || in_filter i) || in_having i) || found.group i) || found.joins i) ∙ sym (any_of_block t (scoped_by scope b))
