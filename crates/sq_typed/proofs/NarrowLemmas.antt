-- Columns in scope are few, as long as no query in FROM has two columns of one name: then a star can't make more than there are.
use Rattle.std.proofs.Common.{◌≡◌, ℕ, suc, ◌+◌, ◌≤◌, Bool, true, false, ◌||◌, if◌then◌else◌, List, [], ◌∷◌, ◌++◌, map, fold, length, refl, ap, sym, subst, ◌∙◌, arith}
use Rattle.std.specs.Prelude.{bytes_eq, unwrap_or}
use Rattle.std.specs.List.{AllByRecursion, flat_map, list_any}
use Rattle.std.proofs.lemmas.List.{length-append, length-map, map-append}
use Rattle.std.proofs.lemmas.List.Concat.{flat_map-append}
use Rattle.std.proofs.lemmas.List.Folds.{list_any-append}
use Rattle.std.proofs.lemmas.Slice.Eq.{bytes_eq-Decides}
use Rattle.sq_ast.specs.Sources.{sum}
use Rattle.sq_ast.specs.declared.query.BlockTree.{out-BlockTree}
use Rattle.sq_ast.specs.declared.query.ItemTree.{ItemTree}
use Rattle.sq_ast.specs.declared.query.ItemTree.TheVariants as item
use Rattle.sq_ast.specs.declared.query.JoinedTree.{JoinedTree}
use Rattle.sq_ast.specs.declared.query.QueryTree.{QueryTree}
use Rattle.sq_ast.specs.declared.query.QueryTree.TheOpen.{QueryTree-F}
use Rattle.sq_ast.specs.declared.query.QueryTree.TheVariants as tree
use Rattle.sq_ast.specs.declared.query.SourceTree.{SourceTree}
use Rattle.sq_catalog.specs.declared.relation.Column.{Column}
use Rattle.sq_catalog.specs.declared.relation.Relation.{Relation}
use Rattle.sq_expr.proofs.Lists.{all_append, all_weaker}
use Rattle.sq_typed.specs.Faults.{names}
use Rattle.sq_typed.specs.Resolved.{Resolved, Joined, Parts, widened, relation_columns, scope_of, operation, scoped, of_query, resolved}
use Rattle.sq_typed.specs.Scopes.{Text, Scope, columns_in, repeats}
use Rattle.sq_typed.specs.Selected.{Scoped, Chosen, Starred, Written, starred_from, starred, written_out, chosen, item_name, item_column, block_columns}
use Rattle.sq_typed.specs.Sizes.{AreNarrow, size_of, source_size, joined_size}
use Rattle.sq_typed.specs.declared.limits.TheConstants.{MOST_COLUMNS}
use Rattle.sq_typed.specs.declared.query.Query.{Query}
use Rattle.sq_typed.specs.declared.query.Query.TheVariants as query
use Rattle.sq_typed.proofs.FitQueries.{or_left, or_right}
use Rattle.sq_typed.proofs.QueryEquations.{resolved_source, resolved_joined, resolved_step, joined_at, block_at, resolved-Chain, resolved-Intersect, source-Relation, source-Query}
use Rattle.sq_typed.proofs.QueryTrees.{QueryTreeCases, each_query_tree, each_source_tree}
use Rattle.sq_typed.proofs.SizeLemmas.{size-Tree, size-Chain, size-Intersect, size-Relation, size-Query, joined_out}

-- ---- a list of names without repeats is no longer than a list that has them all

abbrev IsIn : List Text → Text → Type 0
IsIn ys x = list_any (bytes_eq x) ys ≡ true

-- a list without the first name that is the same
abbrev without : Text → List Text → List Text
without x [] = []
without x (y ∷ ys) = if bytes_eq x y then ys else y ∷ without x ys

one_less : (x : Text) (ys : List Text) → IsIn ys x → length ys ≡ suc (length (without x ys))
one_less x [] e = absurd (cc e)
one_less x (y ∷ ys) e =
    elim (bytes_eq x y) as (λ b. (b || list_any (bytes_eq x) ys) ≡ true → suc (length ys) ≡ suc (length (if b then ys else y ∷ without x ys))) [
      | true ↦ λ e. refl
      | false ↦ λ e. ap suc (one_less x ys e)
    ] e

still_at : (x z y : Text) (ys : List Text) (b c : Bool) → bytes_eq x y ≡ b → bytes_eq z y ≡ c → bytes_eq x z ≡ false → (c || list_any (bytes_eq z) ys) ≡ true →
    (IsIn ys z → IsIn (without x ys) z) → IsIn (if b then ys else y ∷ without x ys) z
still_at x z y ys true true xy zy apart e more =
    let same : x ≡ z = (bytes_eq-Decides x y).0 xy ∙ sym ((bytes_eq-Decides z y).0 zy) in
    let found : bytes_eq x z ≡ true = (bytes_eq-Decides x z).1 same in
    absurd (cc (sym apart ∙ found))
still_at x z y ys true false xy zy apart e more = e
still_at x z y ys false true xy zy apart e more = ap (λ t. t || list_any (bytes_eq z) (without x ys)) zy
still_at x z y ys false false xy zy apart e more = ap (λ t. t || list_any (bytes_eq z) (without x ys)) zy ∙ more e

still_there : (x z : Text) (ys : List Text) → bytes_eq x z ≡ false → IsIn ys z → IsIn (without x ys) z
still_there x z [] apart e = e
still_there x z (y ∷ ys) apart e = still_at x z y ys (bytes_eq x y) (bytes_eq z y) refl refl apart e (still_there x z ys apart)

all_still : (x : Text) (xs ys : List Text) → list_any (bytes_eq x) xs ≡ false → AllByRecursion (IsIn ys) xs → AllByRecursion (IsIn (without x ys)) xs
all_still x [] ys apart h = tt
all_still x (z ∷ xs) ys apart h = (still_there x z ys (or_left (bytes_eq x z) (list_any (bytes_eq x) xs) apart) h.0, all_still x xs ys (or_right (bytes_eq x z) (list_any (bytes_eq x) xs) apart) h.1)

few_names : (xs ys : List Text) → repeats xs ≡ false → AllByRecursion (IsIn ys) xs → length xs ≤ length ys
few_names [] ys apart h = omega arith
few_names (x ∷ xs) ys apart h =
    let rest = few_names xs (without x ys) (or_right (list_any (bytes_eq x) xs) (repeats xs) apart) (all_still x xs ys (or_left (list_any (bytes_eq x) xs) (repeats xs) apart) h.1) in
    omega (arith, one_less x ys h.0, rest)

-- ---- what stars stand for

abbrev star_names : Chosen → List Text
star_names (Starred n c) = c.name ∷ []
star_names (Written e alias) = []

abbrev is_one : Chosen → ℕ
is_one (Starred n c) = 0
is_one (Written e alias) = 1

abbrev name_given : Chosen → Text
name_given i = unwrap_or (item_name i) []

in_two : (is : List Chosen) → length is ≡ length (flat_map star_names is) + sum (map is_one is)
in_two [] = omega arith
in_two (Starred n c ∷ is) = omega (arith, in_two is)
in_two (Written e alias ∷ is) = omega (arith, in_two is)

none_left : (x : Text) (is : List Chosen) → list_any (bytes_eq x) (map name_given is) ≡ false → list_any (bytes_eq x) (flat_map star_names is) ≡ false
none_left x [] e = refl
none_left x (Starred n c ∷ is) e =
    ap (λ t. t || list_any (bytes_eq x) (flat_map star_names is)) (or_left (bytes_eq x c.name) (list_any (bytes_eq x) (map name_given is)) e)
    ∙ none_left x is (or_right (bytes_eq x c.name) (list_any (bytes_eq x) (map name_given is)) e)
none_left x (Written t alias ∷ is) e = none_left x is (or_right (bytes_eq x (name_given (Written t alias))) (list_any (bytes_eq x) (map name_given is)) e)

stars_apart : (is : List Chosen) → repeats (map name_given is) ≡ false → repeats (flat_map star_names is) ≡ false
stars_apart [] e = refl
stars_apart (Starred n c ∷ is) e =
    ap (λ t. t || repeats (flat_map star_names is)) (none_left c.name is (or_left (list_any (bytes_eq c.name) (map name_given is)) (repeats (map name_given is)) e))
    ∙ stars_apart is (or_right (list_any (bytes_eq c.name) (map name_given is)) (repeats (map name_given is)) e)
stars_apart (Written t alias ∷ is) e = stars_apart is (or_right (list_any (bytes_eq (name_given (Written t alias))) (map name_given is)) (repeats (map name_given is)) e)

-- ---- each of these is a column in scope

or_true : (a : Bool) → (a || true) ≡ true
or_true true = refl
or_true false = refl

in_front : (xs ys : List Text) → AllByRecursion (IsIn (xs ++ ys)) xs
in_front [] ys = tt
in_front (x ∷ xs) ys = (
  ap (λ t. t || list_any (bytes_eq x) (xs ++ ys)) ((bytes_eq-Decides x x).1 refl),
  all_weaker (IsIn (xs ++ ys)) (IsIn (x ∷ (xs ++ ys))) xs (λ z h. ap (λ t. bytes_eq z x || t) h ∙ or_true (bytes_eq z x)) (in_front xs ys),
)

in_behind : (xs ys : List Text) (z : Text) → IsIn ys z → IsIn (xs ++ ys) z
in_behind xs ys z h = list_any-append (bytes_eq z) xs ys ∙ (ap (λ t. list_any (bytes_eq z) xs || t) h ∙ or_true (list_any (bytes_eq z) xs))

from_names : (n : ℕ) (cs : List Column) → flat_map star_names (starred_from n cs) ≡ names cs
from_names n [] = refl
from_names n (c ∷ cs) = ap (λ ns. c.name ∷ ns) (from_names (suc n) cs)

stars_in : (test : Text → Bool) (begin : ℕ) (ss : Scope) → AllByRecursion (IsIn (names (columns_in ss))) (flat_map star_names (starred test begin ss))
stars_in test begin [] = tt
stars_in test begin (s ∷ ss) =
    let rest = starred test (begin + length s.columns) ss in
    let both : names (columns_in (s ∷ ss)) ≡ names s.columns ++ names (columns_in ss) = map-append (λ (c : Column). c.name) s.columns (columns_in ss) in
    let here : (b : Bool) → AllByRecursion (IsIn (names s.columns ++ names (columns_in ss))) (flat_map star_names (if b then starred_from begin s.columns else [])) =
    λ b. elim b as (λ b. AllByRecursion (IsIn (names s.columns ++ names (columns_in ss))) (flat_map star_names (if b then starred_from begin s.columns else []))) [
      | true ↦ subst (AllByRecursion (IsIn (names s.columns ++ names (columns_in ss)))) (sym (from_names begin s.columns)) (in_front (names s.columns) (names (columns_in ss)))
      | false ↦ tt
    ] in
    let there = all_weaker (IsIn (names (columns_in ss))) (IsIn (names s.columns ++ names (columns_in ss))) (flat_map star_names rest) (in_behind (names s.columns) (names (columns_in ss))) (stars_in test (begin + length s.columns) ss) in
    subst (λ ns. AllByRecursion (IsIn ns) (flat_map star_names (starred test begin (s ∷ ss)))) (sym both)
    (subst (AllByRecursion (IsIn (names s.columns ++ names (columns_in ss)))) (sym (flat_map-append star_names (if test s.name then starred_from begin s.columns else []) rest))
    (all_append (IsIn (names s.columns ++ names (columns_in ss))) (flat_map star_names (if test s.name then starred_from begin s.columns else [])) (flat_map star_names rest) (here (test s.name)) there))

item_in : (scope : Scope) (i : ItemTree) → AllByRecursion (IsIn (names (columns_in scope))) (flat_map star_names (written_out scope i))
item_in scope item.Star = stars_in (λ name. true) 0 scope
item_in scope (item.StarOf name) = stars_in (bytes_eq name) 0 scope
item_in scope (item.Expr e alias) = tt

items_in : (scope : Scope) (is : List ItemTree) → AllByRecursion (IsIn (names (columns_in scope))) (flat_map star_names (flat_map (written_out scope) is))
items_in scope [] = tt
items_in scope (i ∷ is) =
    subst (AllByRecursion (IsIn (names (columns_in scope)))) (sym (flat_map-append star_names (written_out scope i) (flat_map (written_out scope) is)))
    (all_append (IsIn (names (columns_in scope))) (flat_map star_names (written_out scope i)) (flat_map star_names (flat_map (written_out scope) is)) (item_in scope i) (items_in scope is))

-- ---- and at most one column comes from each other item

ones_append : (is js : List Chosen) → sum (map is_one (is ++ js)) ≡ sum (map is_one is) + sum (map is_one js)
ones_append [] js = omega arith
ones_append (i ∷ is) js = omega (arith, ones_append is js)

none_from : (n : ℕ) (cs : List Column) → sum (map is_one (starred_from n cs)) ≡ 0
none_from n [] = refl
none_from n (c ∷ cs) = omega (arith, none_from (suc n) cs)

none_if : (b : Bool) (n : ℕ) (cs : List Column) → sum (map is_one (if b then starred_from n cs else [])) ≡ 0
none_if true n cs = none_from n cs
none_if false n cs = refl

none_starred : (test : Text → Bool) (begin : ℕ) (ss : Scope) → sum (map is_one (starred test begin ss)) ≡ 0
none_starred test begin [] = refl
none_starred test begin (s ∷ ss) =
    omega (arith, ones_append (if test s.name then starred_from begin s.columns else []) (starred test (begin + length s.columns) ss), none_if (test s.name) begin s.columns, none_starred test (begin + length s.columns) ss)

item_ones : (scope : Scope) (i : ItemTree) → sum (map is_one (written_out scope i)) ≤ 1
item_ones scope item.Star = omega (arith, none_starred (λ name. true) 0 scope)
item_ones scope (item.StarOf name) = omega (arith, none_starred (bytes_eq name) 0 scope)
item_ones scope (item.Expr e alias) = omega arith

items_ones : (scope : Scope) (is : List ItemTree) → sum (map is_one (flat_map (written_out scope) is)) ≤ length is
items_ones scope [] = omega arith
items_ones scope (i ∷ is) = omega (arith, ones_append (written_out scope i) (flat_map (written_out scope) is), item_ones scope i, items_ones scope is)

-- ---- blocks

abbrev HasSame : Scoped → Bool
HasSame b = repeats (names (block_columns b))

given_names : (b : Scoped) (is : List Chosen) → names (map (item_column b) is) ≡ map name_given is
given_names b [] = refl
given_names b (i ∷ is) = ap (λ ns. name_given i ∷ ns) (given_names b is)

block_narrow : (b : Scoped) → HasSame b ≡ false → length (block_columns b) ≤ length b.items + length (columns_in b.scope)
block_narrow b apart =
    let stars = few_names (flat_map star_names (chosen b)) (names (columns_in b.scope)) (stars_apart (chosen b) (ap repeats (sym (given_names b (chosen b))) ∙ apart)) (items_in b.scope b.items) in
    omega (arith, stars, in_two (chosen b), items_ones b.scope b.items, length-map (chosen b) (item_column b), length-map (columns_in b.scope) (λ (c : Column). c.name))

-- ---- queries

flat_none : {A B : Type 0} (p : B → Bool) (f : A → List B) (xs : List A) → list_any p (flat_map f xs) ≡ false → AllByRecursion (λ x. list_any p (f x) ≡ false) xs
flat_none p f [] e = tt
flat_none p f (x ∷ xs) e =
    let both = sym (list_any-append p (f x) (flat_map f xs)) ∙ e in
    (or_left (list_any p (f x)) (list_any p (flat_map f xs)) both, flat_none p f xs (or_right (list_any p (f x)) (list_any p (flat_map f xs)) both))

as_many : (cs ds : List Column) → length (widened cs ds) ≡ length cs
as_many [] ds = refl
as_many (c ∷ cs) [] = refl
as_many (c ∷ cs) (d ∷ ds) = ap suc (as_many cs ds)

all_as_many : (css : List (List Column)) (cs : List Column) → length (fold widened cs css) ≡ length cs
all_as_many [] cs = refl
all_as_many (ds ∷ css) cs = all_as_many css (widened cs ds) ∙ as_many cs ds

relation_few : (name : Text) (rs : List Relation) → AreNarrow rs → length (relation_columns name rs) ≤ MOST_COLUMNS
relation_few name [] h = omega arith
relation_few name (r ∷ rs) h =
    elim (bytes_eq name r.name) as (λ b. length (if b then r.columns else relation_columns name rs) ≤ MOST_COLUMNS) [
      | true ↦ h.0
      | false ↦ relation_few name rs h.1
    ]

-- where no two columns of the leftmost block and of the queries in FROM have the same name, there are at most so many columns
abbrev Narrow : Resolved → ℕ → Type 0
Narrow r n = list_any HasSame r.leftmost ≡ false → list_any HasSame r.parts.heads ≡ false → length r.columns ≤ n

operation_narrow : (q : Query) (first : Resolved) (rest : List Resolved) (n m : ℕ) → Narrow first n → n ≤ m → Narrow (operation q (first ∷ rest)) m
operation_narrow q first rest n m h le left heads =
    let own : Parts = record { blocks = []; heads = []; relations = []; operations = map (λ m. m.columns) (first ∷ rest) ∷ [] } in
    let all = flat_none HasSame (λ (p : Parts). p.heads) (own ∷ map (λ (m : Resolved). m.parts) (first ∷ rest)) heads in
    omega (arith, h left all.1.0, le, all_as_many (map (λ (m : Resolved). m.columns) rest) first.columns)

module _ (relations : List Relation) (narrow : AreNarrow relations) where
  abbrev QueryNarrow : QueryTree → Type 0
  QueryNarrow q = Narrow (resolved relations q) (size_of q)

  abbrev SourceNarrow : SourceTree → Type 0
  SourceNarrow s = list_any HasSame (resolved_source relations s).parts.heads ≡ false → length (resolved_source relations s).named.columns ≤ source_size s

  sources_narrow : (js : List JoinedTree) → AllByRecursion (λ j. SourceNarrow j.source) js → AllByRecursion (λ (j : Joined). list_any HasSame j.source.parts.heads ≡ false) (map (resolved_joined relations) js) →
      length (columns_in (scope_of (map (resolved_joined relations) js))) ≤ sum (map joined_size js)
  sources_narrow [] h apart = omega arith
  sources_narrow (j ∷ js) h apart =
      let here = resolved_joined relations j in
      let is = joined_at relations j in
      omega (
        arith,
        h.0 (ap (λ (x : Joined). list_any HasSame x.source.parts.heads) (sym is) ∙ apart.0),
        ap (λ (x : Joined). length x.source.named.columns) is,
        joined_out j,
        length-append here.source.named.columns (columns_in (scope_of (map (resolved_joined relations) js))),
        sources_narrow js h.1 apart.1,
      )

  heads_over : (js : List Joined) → AllByRecursion (λ (p : Parts). list_any HasSame p.heads ≡ false) (map (λ j. j.source.parts) js) → AllByRecursion (λ (j : Joined). list_any HasSame j.source.parts.heads ≡ false) js
  heads_over [] h = tt
  heads_over (j ∷ js) h = (h.0, heads_over js h.1)

  members_narrow : (qs : List QueryTree) → AllByRecursion QueryNarrow qs → Narrow (of_query relations (QueryTree-F.Intersect (map (resolved relations) qs))) (size_of (tree.Intersect qs))
  members_narrow [] h = λ left heads. omega arith
  members_narrow (q ∷ qs) h = operation_narrow (query.Intersect []) (resolved relations q) (map (resolved relations) qs) (size_of q) (size_of (tree.Intersect (q ∷ qs))) h.0 (omega (arith, size-Intersect (q ∷ qs)))

  narrow_cases : QueryTreeCases QueryNarrow SourceNarrow
  narrow_cases = record {
    block = λ b ss.
        let o = out-BlockTree b in
        let sources = map (resolved_joined relations) o.sources in
        let own : Scoped = scoped (record { distinct = o.distinct; items = o.items; sources = sources; filter = o.filter; group = o.group; having = o.having }) in
        subst (λ r. Narrow r (size_of (tree.Block b))) (sym (block_at relations b)) (λ left heads.
        let parts : Parts = record { blocks = own ∷ []; heads = []; relations = []; operations = [] } in
        let all = flat_none HasSame (λ (p : Parts). p.heads) (parts ∷ map (λ (s : Joined). s.source.parts) sources) heads in
        omega (arith, size-Tree b, block_narrow own (or_left (HasSame own) false left), sources_narrow o.sources ss (heads_over sources all.1)));
    chain = λ q rest h hs.
        subst (λ r. Narrow r (size_of (tree.Chain q rest))) (sym (resolved-Chain relations q rest))
        (operation_narrow (query.Intersect []) (resolved relations q) (map (λ s. s.1) (map (resolved_step relations) rest)) (size_of q) (size_of (tree.Chain q rest)) h (omega (arith, size-Chain q rest)));
    intersect = λ qs hs. subst (λ r. Narrow r (size_of (tree.Intersect qs))) (sym (resolved-Intersect relations qs)) (members_narrow qs hs);
    relation = λ name alias apart. omega (arith, ap (λ s. length s.named.columns) (source-Relation relations name alias), size-Relation name alias, relation_few name relations narrow);
    of_query = λ q alias h apart.
        let is = source-Query relations q alias in
        let both = sym (list_any-append HasSame (resolved relations q).leftmost (resolved relations q).parts.heads) ∙ (ap (λ s. list_any HasSame s.parts.heads) (sym is) ∙ apart) in
        let few = h (or_left (list_any HasSame (resolved relations q).leftmost) (list_any HasSame (resolved relations q).parts.heads) both) (or_right (list_any HasSame (resolved relations q).leftmost) (list_any HasSame (resolved relations q).parts.heads) both) in
        omega (arith, ap (λ s. length s.named.columns) is, size-Query q alias, few);
  }

  pub source_narrow : (s : SourceTree) → SourceNarrow s
  source_narrow = each_source_tree QueryNarrow SourceNarrow narrow_cases

  pub query_narrow : (q : QueryTree) → QueryNarrow q
  query_narrow = each_query_tree QueryNarrow SourceNarrow narrow_cases

  all_narrow : (js : List JoinedTree) → AllByRecursion (λ j. SourceNarrow j.source) js
  all_narrow [] = tt
  all_narrow (j ∷ js) = (source_narrow j.source, all_narrow js)

  -- where no query in FROM has two columns of one name, a scope has at most as many columns as its trees are large
  pub scope_narrow : (js : List JoinedTree) → AllByRecursion (λ (j : Joined). list_any HasSame j.source.parts.heads ≡ false) (map (resolved_joined relations) js) →
      length (columns_in (scope_of (map (resolved_joined relations) js))) ≤ sum (map joined_size js)
  scope_narrow js apart = sources_narrow js (all_narrow js) apart
