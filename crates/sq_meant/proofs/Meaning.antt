-- The statements have no fault, and mean the program: view by view, each over the relations before it.
use Rattle.std.proofs.Common.{◌≡◌, ℕ, List, [], ◌∷◌, ◌++◌, length, take, drop, Option, Some, None, codes, slice_get, refl, sym, ap, ap₂, subst, ◌∙◌}
use Rattle.sq_ast.specs.declared.query.QueryTree.{QueryTree}
use Rattle.sq_ast.specs.declared.query.QueryTree.TheVariants as query
use Rattle.sq_ast.specs.declared.statement.Body.{Body}
use Rattle.sq_ast.specs.declared.statement.Body.TheVariants as body
use Rattle.sq_ast.specs.declared.statement.Flavour.{Flavour}
use Rattle.sq_ast.specs.declared.statement.Statement.{Statement}
use Rattle.sq_catalog.specs.declared.relation.Column.{Column}
use Rattle.sq_catalog.specs.declared.relation.Relation.{Relation}
use Rattle.sq_catalog.specs.declared.relation.RelationKind.TheVariants.{View}
use Rattle.sq_typed.specs.Faults.{described, first_fault, first_kind, or_later, refused, refused_from}
use Rattle.sq_typed.specs.Programs.{Typed, catalog_of, is_printed, program_of, with_body}
use Rattle.sq_typed.specs.Resolved.{resolved}
use Rattle.sq_typed.specs.Scopes.{Text}
use Rattle.sq_typed.specs.Views.{Meant}
use Rattle.sq_typed.specs.declared.query.Query.{Query}
use Rattle.sq_typed.proofs.FaultLemmas.{rules}
use Rattle.sq_meant.specs.Program as meant
use Rattle.sq_meant.specs.Program.{program, relations}
use Rattle.sq_meant.specs.Text.{IsTextOf, program_text}
use Rattle.sq_meant.proofs.Reading.{spelled, tokens, tokens_are, utf8}
use Rattle.sq_meant.proofs.Statements as tree
use Rattle.sq_meant.proofs.Statements.{statements}

abbrev query_tree : Body → QueryTree
query_tree (body.Table name columns) = query.Intersect []
query_tree (body.View name flavour q) = q

abbrev columns_of : Option Relation → List Column
columns_of None = []
columns_of (Some r) = r.columns

abbrev totals_tree : QueryTree
totals_tree = query_tree tree.totals.body

abbrev by_key_tree : QueryTree
by_key_tree = query_tree tree.by_key.body

abbrev by_group_tree : QueryTree
by_group_tree = query_tree tree.by_group.body

abbrev unused_tree : QueryTree
unused_tree = query_tree tree.unused.body

abbrev seen_tree : QueryTree
seen_tree = query_tree tree.seen.body

-- ---- what each view is, behind the relations before it

query_totals : (resolved (take 2 relations) totals_tree).query ≡ meant.totals
query_totals = simp rules refl

columns_totals : (resolved (take 2 relations) totals_tree).columns ≡ columns_of (slice_get relations 2)
columns_totals = simp rules refl

accepted_totals : first_kind (take 2 relations) 2 (described (take 2 relations) tree.totals.body) ≡ None
unfolding first_kind
accepted_totals = simp rules refl

query_by_key : (resolved (take 3 relations) by_key_tree).query ≡ meant.by_key
query_by_key = simp rules refl

columns_by_key : (resolved (take 3 relations) by_key_tree).columns ≡ columns_of (slice_get relations 3)
columns_by_key = simp rules refl

accepted_by_key : first_kind (take 3 relations) 3 (described (take 3 relations) tree.by_key.body) ≡ None
unfolding first_kind
accepted_by_key = simp rules refl

query_by_group : (resolved (take 4 relations) by_group_tree).query ≡ meant.by_group
query_by_group = simp rules refl

columns_by_group : (resolved (take 4 relations) by_group_tree).columns ≡ columns_of (slice_get relations 4)
columns_by_group = simp rules refl

accepted_by_group : first_kind (take 4 relations) 4 (described (take 4 relations) tree.by_group.body) ≡ None
unfolding first_kind
accepted_by_group = simp rules refl

query_unused : (resolved (take 5 relations) unused_tree).query ≡ meant.unused
query_unused = simp rules refl

columns_unused : (resolved (take 5 relations) unused_tree).columns ≡ columns_of (slice_get relations 5)
columns_unused = simp rules refl

accepted_unused : first_kind (take 5 relations) 5 (described (take 5 relations) tree.unused.body) ≡ None
unfolding first_kind
accepted_unused = simp rules refl

query_seen : (resolved (take 6 relations) seen_tree).query ≡ meant.seen
query_seen = simp rules refl

columns_seen : (resolved (take 6 relations) seen_tree).columns ≡ columns_of (slice_get relations 6)
columns_seen = simp rules refl

accepted_seen : first_kind (take 6 relations) 6 (described (take 6 relations) tree.seen.body) ≡ None
unfolding first_kind
accepted_seen = simp rules refl

-- ---- the program of the statements so far
abbrev so_far : ℕ → ℕ → Meant
so_far n views = record { catalog = take n relations; queries = take views program.queries }

-- a view behind a program, which is that of the statements before it
view_behind : (p q : Meant) (name : Text) (flavour : Option Flavour) (tree : QueryTree) (typed : Query) (columns : List Column) → p ≡ q
    → (resolved q.catalog tree).query ≡ typed → (resolved q.catalog tree).columns ≡ columns
    → with_body p (body.View name flavour tree)
    ≡ record { catalog = q.catalog ++ record { name = name; kind = View (is_printed flavour); columns = columns } ∷ []; queries = q.queries ++ typed ∷ [] }
view_behind p q name flavour tree typed columns same is_query is_columns =
    ap (λ p. with_body p (body.View name flavour tree)) same
    ∙ ap₂ (λ cs t. record { catalog = q.catalog ++ record { name = name; kind = View (is_printed flavour); columns = cs } ∷ []; queries = q.queries ++ t ∷ [] }) is_columns is_query

two : program_of (take 2 statements) ≡ so_far 2 0
two = refl

three : program_of (take 3 statements) ≡ so_far 3 1
three = view_behind (program_of (take 2 statements)) (so_far 2 0) (codes "totals") None totals_tree meant.totals _ two query_totals columns_totals

four : program_of (take 4 statements) ≡ so_far 4 2
four = view_behind (program_of (take 3 statements)) (so_far 3 1) (codes "by_key") None by_key_tree meant.by_key _ three query_by_key columns_by_key

five : program_of (take 5 statements) ≡ so_far 5 3
five = view_behind (program_of (take 4 statements)) (so_far 4 2) (codes "by_group") None by_group_tree meant.by_group _ four query_by_group columns_by_group

six : program_of (take 6 statements) ≡ so_far 6 4
six = view_behind (program_of (take 5 statements)) (so_far 5 3) (codes "unused") None unused_tree meant.unused _ five query_unused columns_unused

seven : program_of statements ≡ program
seven = view_behind (program_of (take 6 statements)) (so_far 6 4) (codes "seen") None seen_tree meant.seen _ six query_seen columns_seen

pub typed : Typed statements program
typed = sym seven

-- ---- none of them has a fault
without : (before : List Statement) (earlier : List Relation) (s : Statement) → catalog_of before ≡ earlier → first_kind earlier (length before) (described earlier s.body) ≡ None → first_fault before s ≡ None
without before earlier s same none = subst (λ rs. first_kind rs (length before) (described rs s.body) ≡ None) (sym same) none

none_behind : (before ss : List Statement) (s : Statement) → first_fault before s ≡ None → refused_from (before ++ s ∷ []) ss ≡ None → refused_from before (s ∷ ss) ≡ None
none_behind before ss s here later = ap₂ (λ k r. or_later s.number k r) here later

pub without_fault : refused statements ≡ None
unfolding first_kind
without_fault =
    none_behind [] (drop 1 statements) tree.table_d refl
    (none_behind (take 1 statements) (drop 2 statements) tree.table_e refl
    (none_behind (take 2 statements) (drop 3 statements) tree.totals (without (take 2 statements) (take 2 relations) tree.totals refl accepted_totals)
    (none_behind (take 3 statements) (drop 4 statements) tree.by_key (without (take 3 statements) (take 3 relations) tree.by_key (ap (λ p. p.catalog) three) accepted_by_key)
    (none_behind (take 4 statements) (drop 5 statements) tree.by_group (without (take 4 statements) (take 4 relations) tree.by_group (ap (λ p. p.catalog) four) accepted_by_group)
    (none_behind (take 5 statements) (drop 6 statements) tree.unused (without (take 5 statements) (take 5 relations) tree.unused (ap (λ p. p.catalog) five) accepted_unused)
    (none_behind (take 6 statements) [] tree.seen (without (take 6 statements) (take 6 relations) tree.seen (ap (λ p. p.catalog) six) accepted_seen)
    refl))))))

pub text_meant : IsTextOf program_text program
text_meant = record { tokens = tokens; statements = statements; utf8 = utf8; lexed = tokens_are; spelled = spelled; without_fault = without_fault; typed = typed }
