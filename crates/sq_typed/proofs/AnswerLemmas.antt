-- The width of the rows of an answer, and how often they stand in it.
use Rattle.std.proofs.Common.{◌≡◌, ℕ, suc, ◌+◌, List, [], ◌∷◌, ◌++◌, map, fold, length, Bool, true, false, ◌==◌, not, if◌then◌else◌, filter, refl, ap, ◌∙◌, arith}
use Rattle.std.specs.Prelude.{Option, Some}
use Rattle.std.specs.Ordering.{is_eq}
use Rattle.std.specs.List.{AllByRecursion}
use Rattle.std.proofs.lemmas.List.{length-append}
use Rattle.sq_value.specs.Count.{count}
use Rattle.sq_value.specs.Order.{row_cmp}
use Rattle.sq_value.specs.OrderLaws.{row_cmp-total}
use Rattle.sq_algebra.specs.Listed.{first_of_each}
use Rattle.sq_algebra.proofs.ListLemmas.{count-first_of_each, count-among, count-without}
use Rattle.sq_algebra.proofs.Lists.{count-append}
use Rattle.sq_ast.specs.declared.query.SetOp.{SetOp}
use Rattle.sq_ast.specs.declared.query.SetOp.TheVariants.{UnionAll, Union, Except}
use Rattle.sq_expr.specs.declared.cond.Cond.{Cond}
use Rattle.sq_expr.specs.declared.expr.Expr.{Expr}
use Rattle.sq_expr.specs.Meaning.{num, column_of, columns_of}
use Rattle.sq_expr.proofs.Lists.{all_append}
use Rattle.sq_typed.specs.declared.query.BlockCall.{BlockCall}
use Rattle.sq_typed.specs.declared.query.Grouping.{Grouping}
use Rattle.sq_typed.specs.From.{Row, Answer, Source, all_hold, members_of, kept}
use Rattle.sq_typed.specs.Blocks.{call_value, groups, group_row, item_rows, selected, without_repeats, block_answer}
use Rattle.sq_typed.specs.Queries.{set_rows, intersect_rows, chain_answer, intersect_answer}
use Rattle.sq_typed.specs.Laws.{AreOfWidth, HasItsWidth}
use Rattle.sq_typed.proofs.Tests.{every, all_filter}

-- ---- widths

length_of_map : {A B : Type 0} (f : A → B) (xs : List A) → length (map f xs) ≡ length xs
length_of_map f [] = refl
length_of_map f (x ∷ xs) = ap suc (length_of_map f xs)

all_mapped : {A B : Type 0} (P : B → Type 0) (f : A → B) (xs : List A) → ((x : A) → P (f x)) → AllByRecursion P (map f xs)
all_mapped P f [] h = tt
all_mapped P f (x ∷ xs) h = (h x, all_mapped P f xs h)

pub all_first : (P : Row → Type 0) (rows : List Row) → AllByRecursion P rows → AllByRecursion P (first_of_each row_cmp rows)
all_first P [] h = tt
all_first P (row ∷ rows) h = (h.0, all_filter P (λ r. not (is_eq (row_cmp row r))) (first_of_each row_cmp rows) (all_first P rows h.1))

selected_width : (items : List Expr) (rows : List Row) → AreOfWidth (length items) (selected items rows)
selected_width items rows = all_mapped (λ r. length r ≡ length items) (λ row. map (λ e. num e row) items) rows (λ row. length_of_map (λ e. num e row) items)

repeats_width : (distinct : Bool) (w : ℕ) (rows : List Row) → AreOfWidth w rows → AreOfWidth w (without_repeats distinct rows)
repeats_width true w rows h = all_first (λ r. length r ≡ w) rows h
repeats_width false w rows h = h

pub block_width : (distinct : Bool) (sources : List Source) (where_ : Option Cond) (grouping : Option Grouping) (items : List Expr) → HasItsWidth (block_answer distinct sources where_ grouping items)
block_width distinct sources where_ grouping items =
    repeats_width distinct (length items) (selected items (item_rows grouping (kept (members_of where_) sources))) (selected_width items (item_rows grouping (kept (members_of where_) sources)))

-- a group's row has the group columns and the values of the calls
keys_width : (columns : List ℕ) (rows : List Row) → AreOfWidth (length columns) (first_of_each row_cmp (map (columns_of columns) rows))
keys_width columns rows = all_first (λ r. length r ≡ length columns) (map (columns_of columns) rows) (all_mapped (λ r. length r ≡ length columns) (columns_of columns) rows (λ row. length_of_map (column_of row) columns))

rows_of_groups : (n : ℕ) (calls : List BlockCall) (f : Row → Row × List Row) (keys : List Row) → ((k : Row) → (f k).0 ≡ k) → AreOfWidth n keys → AreOfWidth (n + length calls) (map (group_row calls) (map f keys))
rows_of_groups n calls f [] is h = tt
rows_of_groups n calls f (k ∷ keys) is h = (
  length-append (f k).0 (map (λ c. call_value c.func c.arg (f k).1) calls) ∙ (λ i. length (is k i) + length_of_map (λ c. call_value c.func c.arg (f k).1) calls i) ∙ ap (λ m. m + length calls) h.0,
  rows_of_groups n calls f keys is h.1,
)

group_rows_width : (columns : List ℕ) (calls : List BlockCall) (rows : List Row) → AreOfWidth (length columns + length calls) (map (group_row calls) (groups columns rows))
group_rows_width [] calls rows = (length_of_map (λ c. call_value c.func c.arg rows) calls ∙ omega arith, tt)
group_rows_width (c ∷ cs) calls rows =
    rows_of_groups (length (c ∷ cs)) calls (λ k. (k, filter (λ row. is_eq (row_cmp k (columns_of (c ∷ cs) row))) rows)) (first_of_each row_cmp (map (columns_of (c ∷ cs)) rows)) (λ k. refl) (keys_width (c ∷ cs) rows)

pub grouped_width : (g : Grouping) (rows : List Row) → AreOfWidth (length g.columns + length g.calls) (item_rows (Some g) rows)
grouped_width g rows = all_filter (λ r. length r ≡ length g.columns + length g.calls) (all_hold (members_of g.having)) (map (group_row g.calls) (groups g.columns rows)) (group_rows_width g.columns g.calls rows)

pub set_rows_width : (op : SetOp) (w : ℕ) (rows more : List Row) → AreOfWidth w rows → AreOfWidth w more → AreOfWidth w (set_rows op rows more)
set_rows_width UnionAll w rows more h k = all_append (λ r. length r ≡ w) rows more h k
set_rows_width Union w rows more h k = all_first (λ r. length r ≡ w) (rows ++ more) (all_append (λ r. length r ≡ w) rows more h k)
set_rows_width Except w rows more h k = all_filter (λ r. length r ≡ w) (λ r. count r more == 0) (first_of_each row_cmp rows) (all_first (λ r. length r ≡ w) rows h)

pub intersect_rows_width : (w : ℕ) (rows more : List Row) → AreOfWidth w rows → AreOfWidth w (intersect_rows rows more)
intersect_rows_width w rows more h = all_filter (λ r. length r ≡ w) (λ r. not (count r more == 0)) (first_of_each row_cmp rows) (all_first (λ r. length r ≡ w) rows h)

folded_width : {B : Type 0} (w : ℕ) (f : List Row → B → List Row) (rest : List B) (rows : List Row) → AllByRecursion (λ b. (rows : List Row) → AreOfWidth w rows → AreOfWidth w (f rows b)) rest → AreOfWidth w rows → AreOfWidth w (fold f rows rest)
folded_width w f [] rows each h = h
folded_width w f (b ∷ rest) rows each h = folded_width w f rest (f rows b) each.1 (each.0 rows h)

pub chain_width : (first : Answer) (rest : List (SetOp × Answer)) → HasItsWidth first → AllByRecursion (λ s. AreOfWidth first.width s.1.rows) rest → HasItsWidth (chain_answer (λ rows s. set_rows s.0 rows s.1.rows) (λ s. s.1) first rest)
chain_width first rest h hs = folded_width first.width (λ rows s. set_rows s.0 rows s.1.rows) rest first.rows (steps rest hs) h
  where
    steps : (rest : List (SetOp × Answer)) → AllByRecursion (λ s. AreOfWidth first.width s.1.rows) rest → AllByRecursion (λ s. (rows : List Row) → AreOfWidth first.width rows → AreOfWidth first.width (set_rows s.0 rows s.1.rows)) rest
    steps [] hs = tt
    steps (s ∷ rest) hs = (λ rows k. set_rows_width s.0 first.width rows s.1.rows k hs.0, steps rest hs.1)

pub intersect_width : (first : Answer) (rest : List Answer) → HasItsWidth first → HasItsWidth (intersect_answer (first ∷ rest))
intersect_width first rest h =
    folded_width first.width (λ rows a. intersect_rows rows a.rows) rest first.rows
    (every (λ a. (rows : List Row) → AreOfWidth first.width rows → AreOfWidth first.width (intersect_rows rows a.rows)) rest (λ a rows k. intersect_rows_width first.width rows a.rows k)) h

-- ---- counts

module _ (r : Row) (rows more : List Row) where
  pub count-union_all : count r (set_rows UnionAll rows more) ≡ count r rows + count r more
  count-union_all = count-append row_cmp r rows more

  pub count-union : count r (set_rows Union rows more) ≡ (if count r rows + count r more == 0 then 0 else 1)
  count-union = count-first_of_each row_cmp row_cmp-total r (rows ++ more) ∙ ap (λ n. if n == 0 then 0 else 1) (count-append row_cmp r rows more)

  pub count-except : count r (set_rows Except rows more) ≡ (if count r more == 0 then (if count r rows == 0 then 0 else 1) else 0)
  count-except = count-without row_cmp row_cmp-total r (first_of_each row_cmp rows) more ∙ ap (λ n. if count r more == 0 then n else 0) (count-first_of_each row_cmp row_cmp-total r rows)

  pub count-intersect : count r (intersect_rows rows more) ≡ (if count r more == 0 then 0 else if count r rows == 0 then 0 else 1)
  count-intersect = count-among row_cmp row_cmp-total r (first_of_each row_cmp rows) more ∙ ap (λ n. if count r more == 0 then 0 else n) (count-first_of_each row_cmp row_cmp-total r rows)

pub count-distinct : (r : Row) (rows : List Row) → count r (without_repeats true rows) ≡ (if count r rows == 0 then 0 else 1)
count-distinct r rows = count-first_of_each row_cmp row_cmp-total r rows
