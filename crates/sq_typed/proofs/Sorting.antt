-- The rows of queries are of their columns' sorts.
use Rattle.std.proofs.Common.{◌≡◌, ℕ, zero, suc, pos, List, [], ◌∷◌, ◌++◌, map, fold, length, get_or, Bool, true, not, ◌&&◌, ◌==◌, filter, refl, sym, ap, subst, ◌∙◌, is_eq}
use Rattle.std.specs.Prelude.{◌+ℤ◌, ◌*ℤ◌, replicate, slice_get, Option, Some, None, option_map}
use Rattle.std.specs.List.{AllByRecursion, list_all}
use Rattle.sq_value.specs.declared.value.Value.{Value}
use Rattle.sq_value.specs.declared.value.Value.TheVariants.{Null, Int, Text}
use Rattle.sq_value.specs.Count.{count}
use Rattle.sq_value.specs.Order.{row_cmp}
use Rattle.sq_algebra.specs.Listed.{first_of_each}
use Rattle.sq_ast.specs.declared.query.SetOp.{SetOp}
use Rattle.sq_ast.specs.declared.query.SetOp.TheVariants.{UnionAll, Union, Except}
use Rattle.sq_expr.specs.declared.cond.Cond.{Cond}
use Rattle.sq_expr.specs.declared.expr.Expr.{Expr, roll-Expr, out-Expr, roll-out-Expr}
use Rattle.sq_expr.specs.declared.expr.Expr.TheOpen.{Expr-F}
use Rattle.sq_expr.specs.declared.expr.Expr.TheVariants as expr
use Rattle.sq_expr.specs.declared.expr.Func.{Func}
use Rattle.sq_expr.specs.declared.expr.Func.TheVariants.{CountAll, Count, Sum, Min, Max}
use Rattle.sq_expr.specs.declared.expr.Kind.{Kind}
use Rattle.sq_expr.specs.declared.expr.Kind.TheVariants as kind
use Rattle.sq_expr.specs.declared.expr.Term.{Term}
use Rattle.sq_expr.specs.declared.typing.Sort.TheVariants.{Numeric, Textual}
use Rattle.sq_expr.specs.Kinds.{AreOfKinds, IsOfKind}
use Rattle.sq_expr.specs.Meaning.{column_of, columns_of, is_null, num, term_num}
use Rattle.sq_expr.specs.Typing.{IsOfSort, are_alike, is_numeric, sort_of, sort_of_kind}
use Rattle.sq_expr.proofs.Equations.{num-Column, num-Neg, num-Number, num-Product, num-Sum, num-Text, sort_of-Column, sort_of-Text}
use Rattle.sq_expr.proofs.Lists.{all_append, all_weaker}
use Rattle.sq_typed.specs.declared.query.Block.{Block, out-Block}
use Rattle.sq_typed.specs.declared.query.BlockCall.{BlockCall}
use Rattle.sq_typed.specs.declared.query.FromItem.{FromItem}
use Rattle.sq_typed.specs.declared.query.Grouping.{Grouping}
use Rattle.sq_typed.specs.declared.query.Query.{Query}
use Rattle.sq_typed.specs.declared.query.Query.TheVariants as query
use Rattle.sq_typed.specs.Blocks.{arguments, block_answer, call_value, group_row, groups, item_rows, present, selected}
use Rattle.sq_typed.specs.Fit.{Fits, Kinded, KindedSource, Pairwise, are_matched, block_kinded, clauses_fit, grouped_kinds, has_some, item_row_kinds, joined_kinds, kinded_source, kinds_given, on_suits, operation_kinded, sources_fit, wider_kinds}
use Rattle.sq_typed.specs.From.{Row, Answer, Source, all_hold, kept, members_of}
use Rattle.sq_typed.specs.Laws.{HasItsWidth, width_of_all}
use Rattle.sq_typed.specs.Numbered.{call_kind, kind_of, kind_step}
use Rattle.sq_typed.specs.Queries.{Contents, answer, chain_answer, intersect_answer, intersect_rows, set_rows, source_of_item}
use Rattle.sq_typed.specs.Resolved.{wider}
use Rattle.sq_typed.proofs.AnswerLemmas.{all_first}
use Rattle.sq_typed.proofs.FitQueries.{length_widest, operands_fit}
use Rattle.sq_typed.proofs.GivenRows.{GoodParts, GoodSource, IsNumber, SourceGives, all_widths, greatest_of, its_width, least_of, number_folded, number_negative, number_sum, once_of, query_good, relation_gives, sources_good, sources_widths, where_of}
use Rattle.sq_typed.proofs.FitRows.{length_mapped}
use Rattle.sq_typed.proofs.FitTests.{sources_suit}
use Rattle.sq_typed.proofs.Tests.{all_filter, and_left, and_right}
use Rattle.sq_typed.specs.Sorts.{AreAllOfSorts, AreOfSorts, GivesSorts, HoldsSorts, SourcesHaveWidths}

-- ---- rows

pub length_of_sorts : (row : Row) (kinds : List Kind) → AreOfSorts row kinds → length row ≡ length kinds
length_of_sorts [] [] h = refl
length_of_sorts [] (k ∷ kinds) h = absurd h
length_of_sorts (x ∷ row) [] h = absurd h
length_of_sorts (x ∷ row) (k ∷ kinds) h = ap suc (length_of_sorts row kinds h.1)

kind_has_sort : (x : Value) (k : Kind) → IsOfKind x k → IsOfSort (sort_of_kind k) x
kind_has_sort Null k h = tt
kind_has_sort (Int x) kind.Integer h = tt
kind_has_sort (Int x) kind.Bigint h = tt
kind_has_sort (Int x) kind.Text h = absurd h
kind_has_sort (Text t) kind.Integer h = absurd h
kind_has_sort (Text t) kind.Bigint h = absurd h
kind_has_sort (Text t) kind.Text h = tt

pub kinds_have_sorts : (row : Row) (kinds : List Kind) → AreOfKinds row kinds → AreOfSorts row kinds
kinds_have_sorts [] [] h = tt
kinds_have_sorts [] (k ∷ kinds) h = absurd h
kinds_have_sorts (x ∷ row) [] h = absurd h
kinds_have_sorts (x ∷ row) (k ∷ kinds) h = (kind_has_sort x k h.0, kinds_have_sorts row kinds h.1)

sorts_joined : (row other : Row) (before kinds : List Kind) → AreOfSorts row before → AreOfSorts other kinds → AreOfSorts (row ++ other) (before ++ kinds)
sorts_joined [] other [] kinds h k = k
sorts_joined [] other (b ∷ before) kinds h k = absurd h
sorts_joined (x ∷ row) other [] kinds h k = absurd h
sorts_joined (x ∷ row) other (b ∷ before) kinds h k = (h.0, sorts_joined row other before kinds h.1 k)

sorts_of_nulls : (kinds : List Kind) → AreOfSorts (replicate (length kinds) Null) kinds
sorts_of_nulls [] = tt
sorts_of_nulls (k ∷ kinds) = (tt, sorts_of_nulls kinds)

column_sort : (row : Row) (kinds : List Kind) (n : ℕ) → AreOfSorts row kinds → IsOfSort (sort_of_kind (get_or kinds n kind.Bigint)) (column_of row n)
column_sort [] [] n h = tt
column_sort [] (k ∷ kinds) n h = absurd h
column_sort (x ∷ row) [] n h = absurd h
column_sort (x ∷ row) (k ∷ kinds) zero h = h.0
column_sort (x ∷ row) (k ∷ kinds) (suc n) h = column_sort row kinds n h.1

-- ---- values of expressions

module _ (kinds : List Kind) (row : Row) (h : AreOfSorts row kinds) where
  abbrev OfItsSort : Expr → Kind → Type 0
  OfItsSort e k = IsOfSort (sort_of_kind k) (num e row)

  level_sort : (x : Expr-F Expr Term) → OfItsSort (roll-Expr x) (kind_step kinds x)
  level_sort (Expr-F.Column n) = subst (λ e. OfItsSort e (get_or kinds n kind.Bigint)) (sym (expr.rolls-Column n)) (subst (IsOfSort (sort_of_kind (get_or kinds n kind.Bigint))) (sym (num-Column n row)) (column_sort row kinds n h))
  level_sort (Expr-F.Number n) = subst (λ e. OfItsSort e kind.Bigint) (sym (expr.rolls-Number n)) (subst IsNumber (sym (num-Number n row)) tt)
  level_sort (Expr-F.Text t) = subst (λ e. OfItsSort e kind.Text) (sym (expr.rolls-Text t)) (subst (IsOfSort Textual) (sym (num-Text t row)) tt)
  level_sort (Expr-F.Neg e) = subst (λ e. OfItsSort e kind.Bigint) (sym (expr.rolls-Neg e)) (subst IsNumber (sym (num-Neg e row)) (number_negative (num e row)))
  level_sort (Expr-F.Sum ts) = subst (λ e. OfItsSort e kind.Bigint) (sym (expr.rolls-Sum ts)) (subst IsNumber (sym (num-Sum ts row)) (number_folded ◌+ℤ◌ (Int (pos 0)) (map (λ t. term_num t row) ts) tt))
  level_sort (Expr-F.Product es) = subst (λ e. OfItsSort e kind.Bigint) (sym (expr.rolls-Product es)) (subst IsNumber (sym (num-Product es row)) (number_folded ◌*ℤ◌ (Int (pos 1)) (map (λ e. num e row) es) tt))

  pub value_sort : (e : Expr) → IsOfSort (sort_of_kind (kind_of kinds e)) (num e row)
  value_sort e = subst (λ x. OfItsSort x (kind_step kinds (out-Expr e))) (roll-out-Expr e) (level_sort (out-Expr e))

  item_sorts : (items : List Expr) → AreOfSorts (map (λ e. num e row) items) (map (kind_of kinds) items)
  item_sorts [] = tt
  item_sorts (e ∷ es) = (value_sort e, item_sorts es)

-- the kind of what is a number is one of numbers
numeric_column : (kinds : List Kind) (n : ℕ) → is_numeric (option_map sort_of_kind (slice_get kinds n)) ≡ true → sort_of_kind (get_or kinds n kind.Bigint) ≡ Numeric
numeric_column [] n e = refl
numeric_column (kind.Integer ∷ kinds) zero e = refl
numeric_column (kind.Bigint ∷ kinds) zero e = refl
numeric_column (kind.Text ∷ kinds) zero e = absurd (cc e)
numeric_column (k ∷ kinds) (suc n) e = numeric_column kinds n e

numeric_level : (kinds : List Kind) (x : Expr-F Expr Term) → is_numeric (sort_of kinds (roll-Expr x)) ≡ true → sort_of_kind (kind_step kinds x) ≡ Numeric
numeric_level kinds (Expr-F.Column n) e = numeric_column kinds n (sym (ap (λ a. is_numeric (sort_of kinds a)) (expr.rolls-Column n) ∙ ap is_numeric (sort_of-Column kinds n)) ∙ e)
numeric_level kinds (Expr-F.Number n) e = refl
numeric_level kinds (Expr-F.Text t) e = absurd (cc (sym (ap (λ a. is_numeric (sort_of kinds a)) (expr.rolls-Text t) ∙ ap is_numeric (sort_of-Text kinds t)) ∙ e))
numeric_level kinds (Expr-F.Neg a) e = refl
numeric_level kinds (Expr-F.Sum ts) e = refl
numeric_level kinds (Expr-F.Product es) e = refl

pub numeric_kind : (kinds : List Kind) (e : Expr) → is_numeric (sort_of kinds e) ≡ true → sort_of_kind (kind_of kinds e) ≡ Numeric
numeric_kind kinds e t = numeric_level kinds (out-Expr e) (ap (λ a. is_numeric (sort_of kinds a)) (roll-out-Expr e) ∙ t)

pub numbers_are : (kinds : List Kind) (e : Expr) → is_numeric (sort_of kinds e) ≡ true → (row : Row) → AreOfSorts row kinds → IsOfSort Numeric (num e row)
numbers_are kinds e t row h =
    subst (λ s. IsOfSort s (num e row)) (numeric_kind kinds e t) (value_sort kinds row h e)

-- ---- groups and items

values_sort : (kinds : List Kind) (e : Expr) (rows : List Row) → AreAllOfSorts rows kinds → AllByRecursion (IsOfSort (sort_of_kind (kind_of kinds e))) (map (num e) rows)
values_sort kinds e [] h = tt
values_sort kinds e (row ∷ rows) h = (value_sort kinds row h.0 e, values_sort kinds e rows h.1)

call_sort : (kinds : List Kind) (f : Func) (arg : Option Expr) (rows : List Row) → AreAllOfSorts rows kinds → IsOfSort (sort_of_kind (call_kind kinds f arg)) (call_value f arg rows)
call_sort kinds CountAll arg rows h = tt
call_sort kinds Count arg rows h = tt
call_sort kinds Sum arg rows h = number_sum (present (arguments arg rows))
call_sort kinds Min None rows h = tt
call_sort kinds Min (Some e) rows h = least_of (IsOfSort (sort_of_kind (kind_of kinds e))) tt (present (map (num e) rows)) (all_filter (IsOfSort (sort_of_kind (kind_of kinds e))) (λ x. not (is_null x)) (map (num e) rows) (values_sort kinds e rows h))
call_sort kinds Max None rows h = tt
call_sort kinds Max (Some e) rows h = greatest_of (IsOfSort (sort_of_kind (kind_of kinds e))) tt (present (map (num e) rows)) (all_filter (IsOfSort (sort_of_kind (kind_of kinds e))) (λ x. not (is_null x)) (map (num e) rows) (values_sort kinds e rows h))

calls_sorts : (kinds : List Kind) (calls : List BlockCall) (rows : List Row) → AreAllOfSorts rows kinds → AreOfSorts (map (λ c. call_value c.func c.arg rows) calls) (map (λ c. call_kind kinds c.func c.arg) calls)
calls_sorts kinds [] rows h = tt
calls_sorts kinds (c ∷ calls) rows h = (call_sort kinds c.func c.arg rows h, calls_sorts kinds calls rows h)

key_sorts : (kinds : List Kind) (columns : List ℕ) (row : Row) → AreOfSorts row kinds → AreOfSorts (columns_of columns row) (map (λ n. get_or kinds n kind.Bigint) columns)
key_sorts kinds [] row h = tt
key_sorts kinds (n ∷ ns) row h = (column_sort row kinds n h, key_sorts kinds ns row h)

all_key_sorts : (kinds : List Kind) (columns : List ℕ) (rows : List Row) → AreAllOfSorts rows kinds → AreAllOfSorts (map (columns_of columns) rows) (map (λ n. get_or kinds n kind.Bigint) columns)
all_key_sorts kinds columns [] h = tt
all_key_sorts kinds columns (row ∷ rows) h = (key_sorts kinds columns row h.0, all_key_sorts kinds columns rows h.1)

module _ (kinds : List Kind) (columns : List ℕ) (calls : List BlockCall) (rows : List Row) (h : AreAllOfSorts rows kinds) where
  abbrev OfGroup : Row → Type 0
  OfGroup row = AreOfSorts row (map (λ n. get_or kinds n kind.Bigint) columns ++ map (λ c. call_kind kinds c.func c.arg) calls)

  one_group : (key : Row) (p : Row → Bool) → AreOfSorts key (map (λ n. get_or kinds n kind.Bigint) columns) → OfGroup (group_row calls (key, filter p rows))
  one_group key p k = sorts_joined key (map (λ c. call_value c.func c.arg (filter p rows)) calls) (map (λ n. get_or kinds n kind.Bigint) columns) (map (λ c. call_kind kinds c.func c.arg) calls) k
      (calls_sorts kinds calls (filter p rows) (all_filter (λ row. AreOfSorts row kinds) p rows h))

  each_group : (p : Row → Row → Bool) (keys : List Row) → AreAllOfSorts keys (map (λ n. get_or kinds n kind.Bigint) columns) → AllByRecursion OfGroup (map (group_row calls) (map (λ k. (k, filter (p k) rows)) keys))
  each_group p [] h = tt
  each_group p (k ∷ keys) h = (one_group k (p k) h.0, each_group p keys h.1)

group_sorts : (kinds : List Kind) (columns : List ℕ) (calls : List BlockCall) (rows : List Row) → AreAllOfSorts rows kinds →
    AreAllOfSorts (map (group_row calls) (groups columns rows)) (map (λ n. get_or kinds n kind.Bigint) columns ++ map (λ c. call_kind kinds c.func c.arg) calls)
group_sorts kinds [] calls rows h = (calls_sorts kinds calls rows h, tt)
group_sorts kinds (c ∷ cs) calls rows h =
    each_group kinds (c ∷ cs) calls rows h (λ k row. is_eq (row_cmp k (columns_of (c ∷ cs) row))) (first_of_each row_cmp (map (columns_of (c ∷ cs)) rows))
    (all_first (λ row. AreOfSorts row (map (λ n. get_or kinds n kind.Bigint) (c ∷ cs))) (map (columns_of (c ∷ cs)) rows) (all_key_sorts kinds (c ∷ cs) rows h))

pub item_row_sorts : (kinds : List Kind) (grouping : Option Grouping) (rows : List Row) → AreAllOfSorts rows kinds → AreAllOfSorts (item_rows grouping rows) (item_row_kinds kinds grouping)
item_row_sorts kinds None rows h = h
item_row_sorts kinds (Some g) rows h = all_filter (λ row. AreOfSorts row (grouped_kinds kinds g)) (all_hold (members_of g.having)) (map (group_row g.calls) (groups g.columns rows)) (group_sorts kinds g.columns g.calls rows h)

selected_sorts : (kinds : List Kind) (items : List Expr) (rows : List Row) → AreAllOfSorts rows kinds → AreAllOfSorts (selected items rows) (map (kind_of kinds) items)
selected_sorts kinds items [] h = tt
selected_sorts kinds items (row ∷ rows) h = (item_sorts kinds row h.0 items, selected_sorts kinds items rows h.1)

-- ---- what has to hold of an answer

abbrev Good : Answer → Kinded → Type 0
Good a k = k.fits ≡ true → GivesSorts a k.kinds

abbrev pub SourceGivesSorts : Source → KindedSource → Type 0
SourceGivesSorts s k = SourceGives AreOfSorts s k

pub sources_give : (before : List Kind) (ss : List Source) (ks : List KindedSource) → Pairwise (GoodSource Good) ss ks → sources_fit before ks ≡ true → Pairwise SourceGivesSorts ss ks
sources_give before [] [] p e = tt
sources_give before [] (k ∷ ks) p e = absurd p
sources_give before (s ∷ ss) [] p e = absurd p
sources_give before (s ∷ ss) (k ∷ ks) p e =
    let now = and_left (k.kinded.fits && on_suits (before ++ k.kinded.kinds) k.join) (sources_fit (before ++ k.kinded.kinds) ks) e in (
      p.0 (and_left k.kinded.fits (on_suits (before ++ k.kinded.kinds) k.join) now),
      sources_give (before ++ k.kinded.kinds) ss ks p.1 (and_right (k.kinded.fits && on_suits (before ++ k.kinded.kinds) k.join) (sources_fit (before ++ k.kinded.kinds) ks) e),
    )

block_good : (is_distinct : Bool) (ss : List Source) (ks : List KindedSource) (where_ : Option Cond) (grouping : Option Grouping) (items : List Expr) → Pairwise (GoodSource Good) ss ks → Good (block_answer is_distinct ss where_ grouping items) (block_kinded ks where_ grouping items)
block_good is_distinct ss ks where_ grouping items p fits =
    let from_part = and_left (has_some ks && sources_fit [] ks) (clauses_fit (joined_kinds ks) where_ grouping items) fits in (
      sym (length_mapped (kind_of (item_row_kinds (joined_kinds ks) grouping)) items),
      once_of AreOfSorts is_distinct (map (kind_of (item_row_kinds (joined_kinds ks) grouping)) items) (selected items (item_rows grouping (kept (members_of where_) ss)))
          (selected_sorts (item_row_kinds (joined_kinds ks) grouping) items (item_rows grouping (kept (members_of where_) ss))
          (item_row_sorts (joined_kinds ks) grouping (kept (members_of where_) ss)
          (where_of AreOfSorts sorts_joined sorts_of_nulls (members_of where_) ss ks (sources_give [] ss ks p (and_right (has_some ks) (sources_fit [] ks) from_part))))),
    )

-- ---- set operations

wider_sort : (x : Value) (k l : Kind) → IsOfSort (sort_of_kind k) x → IsOfSort (sort_of_kind (wider k l)) x
wider_sort x kind.Integer kind.Integer h = h
wider_sort x kind.Integer kind.Bigint h = h
wider_sort x kind.Integer kind.Text h = h
wider_sort x kind.Bigint l h = h
wider_sort x kind.Text l h = h

alike_sort : (x : Value) (k l : Kind) → are_alike (Some (sort_of_kind k)) (Some (sort_of_kind l)) ≡ true → IsOfSort (sort_of_kind l) x → IsOfSort (sort_of_kind k) x
alike_sort x kind.Integer kind.Integer e h = h
alike_sort x kind.Integer kind.Bigint e h = h
alike_sort x kind.Integer kind.Text e h = absurd (cc e)
alike_sort x kind.Bigint kind.Integer e h = h
alike_sort x kind.Bigint kind.Bigint e h = h
alike_sort x kind.Bigint kind.Text e h = absurd (cc e)
alike_sort x kind.Text kind.Integer e h = absurd (cc e)
alike_sort x kind.Text kind.Bigint e h = absurd (cc e)
alike_sort x kind.Text kind.Text e h = h

row_wider : (row : Row) (ks ls : List Kind) → AreOfSorts row ks → AreOfSorts row (wider_kinds ks ls)
row_wider row [] ls h = h
row_wider row (k ∷ ks) [] h = h
row_wider [] (k ∷ ks) (l ∷ ls) h = absurd h
row_wider (x ∷ row) (k ∷ ks) (l ∷ ls) h = (wider_sort x k l h.0, row_wider row ks ls h.1)

row_widest : (row : Row) (kss : List (List Kind)) (ks : List Kind) → AreOfSorts row ks → AreOfSorts row (fold wider_kinds ks kss)
row_widest row [] ks h = h
row_widest row (ls ∷ kss) ks h = row_widest row kss (wider_kinds ks ls) (row_wider row ks ls h)

row_alike : (row : Row) (ks ls : List Kind) → are_matched ks ls ≡ true → AreOfSorts row ls → AreOfSorts row ks
row_alike row [] [] e h = h
row_alike row [] (l ∷ ls) e h = absurd (cc e)
row_alike row (k ∷ ks) [] e h = absurd (cc e)
row_alike [] (k ∷ ks) (l ∷ ls) e h = absurd h
row_alike (x ∷ row) (k ∷ ks) (l ∷ ls) e h = (
  alike_sort x k l (and_left (are_alike (Some (sort_of_kind k)) (Some (sort_of_kind l))) (are_matched ks ls) e) h.0,
  row_alike row ks ls (and_right (are_alike (Some (sort_of_kind k)) (Some (sort_of_kind l))) (are_matched ks ls) e) h.1,
)

set_sorts : (op : SetOp) (rows more : List Row) (ks : List Kind) → AreAllOfSorts rows ks → AreAllOfSorts more ks → AreAllOfSorts (set_rows op rows more) ks
set_sorts UnionAll rows more ks h k = all_append (λ row. AreOfSorts row ks) rows more h k
set_sorts Union rows more ks h k = all_first (λ row. AreOfSorts row ks) (rows ++ more) (all_append (λ row. AreOfSorts row ks) rows more h k)
set_sorts Except rows more ks h k = all_filter (λ row. AreOfSorts row ks) (λ r. count r more == 0) (first_of_each row_cmp rows) (all_first (λ row. AreOfSorts row ks) rows h)

common_sorts : (rows more : List Row) (ks : List Kind) → AreAllOfSorts rows ks → AreAllOfSorts (intersect_rows rows more) ks
common_sorts rows more ks h = all_filter (λ row. AreOfSorts row ks) (λ r. not (count r more == 0)) (first_of_each row_cmp rows) (all_first (λ row. AreOfSorts row ks) rows h)

module _ {B : Type 0} (f : List Row → B → List Row) (of : B → Answer) (keeps : (b : B) (ks : List Kind) (rows : List Row) → AreAllOfSorts rows ks → AreAllOfSorts (of b).rows ks → AreAllOfSorts (f rows b) ks) where
  folded_sorts : (ks : List Kind) (rows : List Row) (rest : List B) (ms : List Kinded) → AreAllOfSorts rows ks → Pairwise (λ b m. Good (of b) m) rest ms → AllByRecursion (λ m. (m.fits ≡ true) × (are_matched ks m.kinds ≡ true)) ms → AreAllOfSorts (fold f rows rest) ks
  folded_sorts ks rows [] [] h p e = h
  folded_sorts ks rows [] (m ∷ ms) h p e = absurd p
  folded_sorts ks rows (b ∷ rest) [] h p e = absurd p
  folded_sorts ks rows (b ∷ rest) (m ∷ ms) h p e =
      folded_sorts ks (f rows b) rest ms
      (keeps b ks rows h (all_weaker (λ row. AreOfSorts row m.kinds) (λ row. AreOfSorts row ks) (of b).rows (λ row r. row_alike row ks m.kinds e.0.1 r) (p.0 e.0.0).1))
      p.1 e.1

  operation_good : (first : Answer) (k : Kinded) (rest : List B) (ms : List Kinded) → Good first k → Pairwise (λ b m. Good (of b) m) rest ms → Good (chain_answer f of first rest) (operation_kinded (k ∷ ms))
  operation_good first k rest ms g p fits =
      let given : GivesSorts first k.kinds = g (and_left k.fits (list_all (λ m. m.fits && are_matched k.kinds m.kinds) ms) fits) in (
        given.0 ∙ sym (length_widest (map (λ m. m.kinds) ms) k.kinds),
        all_weaker (λ row. AreOfSorts row k.kinds) (λ row. AreOfSorts row (fold wider_kinds k.kinds (map (λ m. m.kinds) ms))) (fold f first.rows rest) (λ row r. row_widest row (map (λ m. m.kinds) ms) k.kinds r)
            (folded_sorts k.kinds first.rows rest ms given.1 p (operands_fit k.kinds ms (and_right k.fits (list_all (λ m. m.fits && are_matched k.kinds m.kinds) ms) fits))),
      )

chain_good : (first : Answer) (k : Kinded) (rest : List (SetOp × Answer)) (ms : List Kinded) → Good first k → Pairwise (λ s m. Good s.1 m) rest ms → Good (chain_answer (λ rows s. set_rows s.0 rows s.1.rows) (λ s. s.1) first rest) (operation_kinded (k ∷ ms))
chain_good first k rest ms g p = operation_good (λ rows s. set_rows s.0 rows s.1.rows) (λ s. s.1) (λ s ks rows h more. set_sorts s.0 rows s.1.rows ks h more) first k rest ms g p

intersect_good : (answers : List Answer) (ms : List Kinded) → Pairwise Good answers ms → Good (intersect_answer answers) (operation_kinded ms)
intersect_good [] [] p fits = absurd (cc fits)
intersect_good [] (m ∷ ms) p fits = absurd p
intersect_good (a ∷ answers) [] p fits = absurd p
intersect_good (a ∷ answers) (m ∷ ms) p fits = operation_good (λ rows a. intersect_rows rows a.rows) (λ a. a) (λ b ks rows h more. common_sorts rows b.rows ks h) a m answers ms p.0 p.1 fits

-- ---- queries

module _ (relations : List Contents) (kss : List (List Kind)) (holds : Pairwise HoldsSorts relations kss) where
  good_parts : GoodParts Good relations kss
  good_parts = record {
    block = block_good;
    chain = chain_good;
    intersect = intersect_good;
    relation = relation_gives AreOfSorts relations kss holds;
  }

  pub query_sorts : (q : Query) → Fits kss q → GivesSorts (answer relations q) (kinds_given kss q)
  query_sorts q fits = query_good Good relations kss good_parts q fits

  pub sources_sorts : (xs : List FromItem) → sources_fit [] (map (kinded_source kss) xs) ≡ true → Pairwise SourceGivesSorts (map (source_of_item relations) xs) (map (kinded_source kss) xs)
  sources_sorts xs fits = sources_give [] (map (source_of_item relations) xs) (map (kinded_source kss) xs) (sources_good Good relations kss good_parts xs) fits

-- ---- of a block's sources

pub kept_sorts : (conds : List Cond) (ss : List Source) (ks : List KindedSource) → Pairwise SourceGivesSorts ss ks → AreAllOfSorts (kept conds ss) (joined_kinds ks)
kept_sorts conds ss ks p = where_of AreOfSorts sorts_joined sorts_of_nulls conds ss ks p

pub sorts_width : (a : Answer) (kinds : List Kind) → GivesSorts a kinds → HasItsWidth a
sorts_width a kinds h = its_width AreOfSorts length_of_sorts a kinds h

pub source_widths : (ss : List Source) (ks : List KindedSource) → Pairwise SourceGivesSorts ss ks → AllByRecursion (λ s. HasItsWidth s.answer) ss
source_widths ss ks p = sources_widths AreOfSorts length_of_sorts ss ks p

pub width_of_sources : (ss : List Source) (ks : List KindedSource) → Pairwise SourceGivesSorts ss ks → width_of_all ss ≡ length (joined_kinds ks)
width_of_sources ss ks p = all_widths AreOfSorts ss ks p

-- over relations whose rows are of their sorts, in a block that fits
module _ (relations : List Contents) (kss : List (List Kind)) (holds : Pairwise HoldsSorts relations kss) (b : Block) (fits : Fits kss (query.Block b)) where
  given : Pairwise SourceGivesSorts (map (source_of_item relations) (out-Block b).sources) (map (kinded_source kss) (out-Block b).sources)
  given = sources_sorts relations kss holds (out-Block b).sources (sources_suit kss b fits)

  pub block_widths : SourcesHaveWidths relations kss b
  block_widths = record {
    each = source_widths (map (source_of_item relations) (out-Block b).sources) (map (kinded_source kss) (out-Block b).sources) given;
    all = width_of_sources (map (source_of_item relations) (out-Block b).sources) (map (kinded_source kss) (out-Block b).sources) given;
  }
