-- Which kinds items, columns, groups and set operations give.
use Rattle.std.proofs.Common.{◌≡◌, ℕ, zero, suc, ◌≤◌, true, false, ◌&&◌, List, [], ◌∷◌, ◌++◌, length, map, fold, take, Some, None, refl, sym, ap, ap₂, subst, ◌∙◌, append_assoc, arith}
use Rattle.std.specs.Prelude.{Bool, IsSome, Option, get_or, option_to_list, slice_get}
use Rattle.std.specs.List.{AllByRecursion, list_all}
use Rattle.std.specs.Option.{option_map}
use Rattle.std.proofs.lemmas.List.{length-append, map-append}
use Rattle.std.proofs.lemmas.Option.{slice_get-get_or}
use Rattle.sq_algebra.specs.Keyed.{numbers_below}
use Rattle.sq_expr.specs.Fits.{Suits}
use Rattle.sq_expr.specs.Typing.{are_alike, arithmetic, sort_of, sort_of_kind}
use Rattle.sq_expr.specs.declared.expr.Expr.{Expr, out-Expr, out-roll-Expr, roll-Expr, roll-out-Expr}
use Rattle.sq_expr.specs.declared.expr.Expr.TheOpen.{Expr-F}
use Rattle.sq_expr.specs.declared.expr.Expr.TheVariants as expr
use Rattle.sq_expr.specs.declared.expr.Func.{Func}
use Rattle.sq_expr.specs.declared.expr.Func.TheVariants.{CountAll, Count, Sum, Min, Max}
use Rattle.sq_expr.specs.declared.expr.Kind.{Kind}
use Rattle.sq_expr.specs.declared.expr.Kind.TheVariants.{Integer, Bigint, Text}
use Rattle.sq_expr.specs.declared.expr.Term.{Term}
use Rattle.sq_expr.specs.declared.typing.Sort.TheVariants.{Numeric}
use Rattle.sq_expr.proofs.Equations.{sort_of-Column, sort_of-Neg, sort_of-Number, sort_of-Product, sort_of-Sum, sort_of-Text}
use Rattle.sq_circuit.specs.Gives.{AreWithin, CallKind, CallKinds, ColumnKinds, GroupKinds, IsWithin, ItemKind, ItemKinds, OfColumn, OfNumber, OfText, Same, Widened}
use Rattle.sq_circuit.proofs.Alongside.{got_front}
use Rattle.sq_ops.specs.Aggregates.{group_columns}
use Rattle.sq_ops.specs.Wholes.{has_no_values}
use Rattle.sq_typed.specs.Fit.{are_matched, argument_fits, grouped_kinds, grouping_fits, is_count_all, may_suit, wider_kinds}
use Rattle.sq_typed.specs.Numbered.{call_kind, kind_of, kind_step}
use Rattle.sq_typed.specs.Resolved.{wider}
use Rattle.sq_typed.specs.declared.query.BlockCall.{BlockCall}
use Rattle.sq_typed.specs.declared.query.Grouping.{Grouping}
use Rattle.sq_typed.proofs.Tests.{and_left, and_right}
use Rattle.sq_bridge.specs.Groups.{argument_items, behind, calls_from, group_items, group_spec, slot}
use Rattle.sq_plan.proofs.Primitives.{many_mapped}
use Rattle.sq_plan.proofs.Taking.{take_none, take_whole, taken_more}

-- ---- items
column_there : (kinds : List Kind) (n : ℕ) → IsSome (option_map sort_of_kind (slice_get kinds n)) → slice_get kinds n ≡ Some (get_or kinds n Bigint)
column_there [] n t = absurd (cc t)
column_there (k ∷ kinds) zero t = refl
column_there (k ∷ kinds) (suc n) t = column_there kinds n t

one_number : (b : Bool) → IsSome (arithmetic b) → arithmetic b ≡ Some Numeric
one_number true t = refl
one_number false t = absurd (cc t)

computed : (kinds : List Kind) (e : Expr) (b : Bool) → sort_of kinds e ≡ arithmetic b → IsSome (sort_of kinds e) → ItemKind kinds e Bigint
computed kinds e b is t = OfNumber (is ∙ one_number b (subst IsSome is t)) refl

level_item : (kinds : List Kind) (x : Expr-F Expr Term) → IsSome (sort_of kinds (roll-Expr x)) → ItemKind kinds (roll-Expr x) (kind_step kinds x)
level_item kinds (Expr-F.Column n) t = OfColumn n (expr.rolls-Column n) (column_there kinds n (subst IsSome (ap (sort_of kinds) (expr.rolls-Column n) ∙ sort_of-Column kinds n) t))
level_item kinds (Expr-F.Number n) t = OfNumber (ap (sort_of kinds) (expr.rolls-Number n) ∙ sort_of-Number kinds n) refl
level_item kinds (Expr-F.Text s) t = OfText (ap (sort_of kinds) (expr.rolls-Text s) ∙ sort_of-Text kinds s) refl
level_item kinds (Expr-F.Neg e) t = computed kinds (roll-Expr (Expr-F.Neg e)) _ (ap (sort_of kinds) (expr.rolls-Neg e) ∙ sort_of-Neg kinds e) t
level_item kinds (Expr-F.Sum ts) t = computed kinds (roll-Expr (Expr-F.Sum ts)) _ (ap (sort_of kinds) (expr.rolls-Sum ts) ∙ sort_of-Sum kinds ts) t
level_item kinds (Expr-F.Product es) t = computed kinds (roll-Expr (Expr-F.Product es)) _ (ap (sort_of kinds) (expr.rolls-Product es) ∙ sort_of-Product kinds es) t

item_kind : (kinds : List Kind) (e : Expr) → IsSome (sort_of kinds e) → ItemKind kinds e (kind_of kinds e)
item_kind kinds e t = subst (λ x. ItemKind kinds x (kind_step kinds (out-Expr e))) (roll-out-Expr e) (level_item kinds (out-Expr e) (subst (λ x. IsSome (sort_of kinds x)) (sym (roll-out-Expr e)) t))

pub items_kinds : (kinds : List Kind) (es : List Expr) → AllByRecursion (Suits kinds) es → ItemKinds kinds es (map (kind_of kinds) es)
items_kinds kinds [] h = tt
items_kinds kinds (e ∷ es) h = (item_kind kinds e h.0.typed, items_kinds kinds es h.1)

-- ---- columns
pub column_items : (kinds : List Kind) (ns : List ℕ) (ks : List Kind) → ColumnKinds kinds ns ks → ItemKinds kinds (map expr.Column ns) ks
column_items kinds [] [] g = tt
column_items kinds [] (k ∷ ks) g = absurd g
column_items kinds (n ∷ ns) [] g = absurd g
column_items kinds (n ∷ ns) (k ∷ ks) g = (OfColumn n refl g.0, column_items kinds ns ks g.1)

one_column : (kinds : List Kind) (ns : List ℕ) (ks : List Kind) (n : ℕ) (k : Kind) → ColumnKinds kinds ns ks → slice_get kinds n ≡ Some k → ColumnKinds kinds (ns ++ n ∷ []) (ks ++ k ∷ [])
one_column kinds [] [] n k g at = (at, tt)
one_column kinds [] (l ∷ ks) n k g at = absurd g
one_column kinds (m ∷ ns) [] n k g at = absurd g
one_column kinds (m ∷ ns) (l ∷ ks) n k g at = (g.0, one_column kinds ns ks n k g.1 at)

columns_before : (ks ls : List Kind) (n : ℕ) → n ≤ length ks → ColumnKinds (ks ++ ls) (numbers_below n) (take n ks)
columns_before ks ls zero le = subst (ColumnKinds (ks ++ ls) []) (sym (take_none ks)) tt
columns_before ks ls (suc n) le =
    let at : slice_get ks n ≡ Some (get_or ks n Bigint) = slice_get-get_or ks n Bigint (omega arith) in
    subst (ColumnKinds (ks ++ ls) (numbers_below (suc n))) (sym (taken_more ks n (get_or ks n Bigint) at))
    (one_column (ks ++ ls) (numbers_below n) (take n ks) n (get_or ks n Bigint) (columns_before ks ls n (omega arith)) (got_front ks ls n (omega arith) ∙ at))

-- the first columns have their kinds
pub first_kinds : (ks ls : List Kind) → ColumnKinds (ks ++ ls) (numbers_below (length ks)) ks
first_kinds ks ls = subst (ColumnKinds (ks ++ ls) (numbers_below (length ks))) (take_whole (length ks) ks (omega arith)) (columns_before ks ls (length ks) (omega arith))

-- ---- groups
kind_of_column : (kinds : List Kind) (n : ℕ) → kind_of kinds (expr.Column n) ≡ get_or kinds n Bigint
kind_of_column kinds n = ap (λ e. kind_step kinds (out-Expr e)) (sym (expr.rolls-Column n)) ∙ ap (kind_step kinds) (out-roll-Expr (Expr-F.Column n))

kinds_of_columns : (kinds : List Kind) (ns : List ℕ) → map (kind_of kinds) (map expr.Column ns) ≡ map (λ n. get_or kinds n Bigint) ns
kinds_of_columns kinds [] = refl
kinds_of_columns kinds (n ∷ ns) = ap₂ (λ k ks. k ∷ ks) (kind_of_column kinds n) (kinds_of_columns kinds ns)

next_kind : (front : List Kind) (k : Kind) (rest : List Kind) → slice_get (front ++ k ∷ rest) (length front) ≡ Some k
next_kind [] k rest = refl
next_kind (l ∷ front) k rest = next_kind front k rest

module _ (kinds own : List Kind) where
  abbrev given : List Expr → List Kind
  given es = map (kind_of kinds) es

  abbrev calls_given : List BlockCall → List Kind
  calls_given calls = map (λ c. call_kind kinds c.func c.arg) calls

  unread : (f : Func) → is_count_all f ≡ true → CallKind own f 0 (call_kind kinds f None)
  unread CountAll h = refl
  unread Count h = refl
  unread Sum h = refl
  unread Min h = absurd (cc h)
  unread Max h = absurd (cc h)

  reads : (f : Func) (e : Expr) (n : ℕ) → slice_get own n ≡ Some (kind_of kinds e) → CallKind own f n (call_kind kinds f (Some e))
  reads CountAll e n at = refl
  reads Count e n at = refl
  reads Sum e n at = refl
  reads Min e n at = at
  reads Max e n at = at

  abbrev AreGiven : List BlockCall → Type 0
  AreGiven calls = (n : ℕ) (front : List Kind) → length front ≡ n → own ≡ front ++ given (argument_items calls) → CallKinds own (calls_from n calls) (calls_given calls)

  one_call : (f : Func) (arg : Option Expr) (calls : List BlockCall) → argument_fits kinds f arg ≡ true → AreGiven calls → (n : ℕ) (front : List Kind) → length front ≡ n → own ≡ front ++ given (option_to_list arg ++ argument_items calls) →
      CallKind own f (slot n arg) (call_kind kinds f arg) × CallKinds own (calls_from (behind n arg) calls) (calls_given calls)
  one_call f None calls h later n front long is = (unread f h, later n front long is)
  one_call f (Some e) calls h later n front long is = (
    reads f e n (ap₂ slice_get is (sym long) ∙ next_kind front (kind_of kinds e) (given (argument_items calls))),
    later (suc n) (front ++ kind_of kinds e ∷ []) (length-append front (kind_of kinds e ∷ []) ∙ omega (arith, long)) (is ∙ sym (append_assoc front (kind_of kinds e ∷ []) (given (argument_items calls)))),
  )

  calls_are : (calls : List BlockCall) → list_all (λ c. argument_fits kinds c.func c.arg) calls ≡ true → AreGiven calls
  calls_are [] h n front long is = tt
  calls_are (c ∷ calls) h n front long is =
      one_call c.func c.arg calls (and_left (argument_fits kinds c.func c.arg) (list_all (λ c. argument_fits kinds c.func c.arg) calls) h)
      (calls_are calls (and_right (argument_fits kinds c.func c.arg) (list_all (λ c. argument_fits kinds c.func c.arg) calls) h)) n front long is

module _ (kinds : List Kind) (g : Grouping) (fits : grouping_fits kinds g ≡ true) where
  abbrev keys : List Kind
  keys = map (λ n. get_or kinds n Bigint) g.columns

  abbrev arguments : List Kind
  arguments = map (kind_of kinds) (argument_items g.calls)

  own_is : map (kind_of kinds) (group_items g) ≡ keys ++ arguments
  own_is = map-append (kind_of kinds) (map expr.Column g.columns) (argument_items g.calls) ∙ ap (λ ks. ks ++ arguments) (kinds_of_columns kinds g.columns)

  calls_fit : list_all (λ c. argument_fits kinds c.func c.arg) g.calls ≡ true
  calls_fit = and_left (list_all (λ c. argument_fits kinds c.func c.arg) g.calls) (may_suit (grouped_kinds kinds g) g.having) (and_right _ (list_all (λ c. argument_fits kinds c.func c.arg) g.calls && may_suit (grouped_kinds kinds g) g.having) fits)

  -- a global aggregate has no group columns
  keys_given : (columns : List ℕ) (rest : List Kind) → ColumnKinds (map (λ n. get_or kinds n Bigint) columns ++ rest) (group_columns (record { group = numbers_below (length columns); calls = calls_from (length columns) g.calls; global = has_no_values columns })) (map (λ n. get_or kinds n Bigint) columns)
  keys_given [] rest = tt
  keys_given (n ∷ ns) rest =
      subst (λ m. ColumnKinds (map (λ n. get_or kinds n Bigint) (n ∷ ns) ++ rest) (numbers_below m) (map (λ n. get_or kinds n Bigint) (n ∷ ns))) (many_mapped (λ n. get_or kinds n Bigint) (n ∷ ns)) (first_kinds (map (λ n. get_or kinds n Bigint) (n ∷ ns)) rest)

  pub group_kinds : GroupKinds (map (kind_of kinds) (group_items g)) (group_spec g) (grouped_kinds kinds g)
  group_kinds = record {
    keys = keys;
    values = map (λ c. call_kind kinds c.func c.arg) g.calls;
    is = refl;
    of_keys = subst (λ own. ColumnKinds own (group_columns (group_spec g)) keys) (sym own_is) (keys_given g.columns arguments);
    of_values = calls_are kinds (map (kind_of kinds) (group_items g)) g.calls calls_fit (length g.columns) keys (many_mapped (λ n. get_or kinds n Bigint) g.columns) own_is;
  }

-- ---- set operations
pub as_they_are : (ks : List Kind) → AreWithin ks ks
as_they_are [] = tt
as_they_are (k ∷ ks) = (Same refl, as_they_are ks)

within_left : (k l : Kind) → IsWithin k (wider k l)
within_left Integer Integer = Same refl
within_left Integer Bigint = Widened refl refl
within_left Integer Text = Same refl
within_left Bigint Integer = Same refl
within_left Bigint Bigint = Same refl
within_left Bigint Text = Same refl
within_left Text Integer = Same refl
within_left Text Bigint = Same refl
within_left Text Text = Same refl

within_right : (k l : Kind) → are_alike (Some (sort_of_kind k)) (Some (sort_of_kind l)) ≡ true → IsWithin l (wider k l)
within_right Integer Integer e = Same refl
within_right Integer Bigint e = Same refl
within_right Integer Text e = absurd (cc e)
within_right Bigint Integer e = Widened refl refl
within_right Bigint Bigint e = Same refl
within_right Bigint Text e = absurd (cc e)
within_right Text Integer e = absurd (cc e)
within_right Text Bigint e = absurd (cc e)
within_right Text Text e = Same refl

-- both sides' columns stand within those of a set operation
pub left_within : (ks ls : List Kind) → AreWithin ks (wider_kinds ks ls)
left_within [] ls = tt
left_within (k ∷ ks) [] = as_they_are (k ∷ ks)
left_within (k ∷ ks) (l ∷ ls) = (within_left k l, left_within ks ls)

pub right_within : (ks ls : List Kind) → are_matched ks ls ≡ true → AreWithin ls (wider_kinds ks ls)
right_within [] [] e = tt
right_within [] (l ∷ ls) e = absurd (cc e)
right_within (k ∷ ks) [] e = absurd (cc e)
right_within (k ∷ ks) (l ∷ ls) e = (within_right k l (and_left (are_alike (Some (sort_of_kind k)) (Some (sort_of_kind l))) (are_matched ks ls) e), right_within ks ls (and_right (are_alike (Some (sort_of_kind k)) (Some (sort_of_kind l))) (are_matched ks ls) e))

pub matched_length : (ks ls : List Kind) → are_matched ks ls ≡ true → length ls ≡ length ks
matched_length [] [] e = refl
matched_length [] (l ∷ ls) e = absurd (cc e)
matched_length (k ∷ ks) [] e = absurd (cc e)
matched_length (k ∷ ks) (l ∷ ls) e = ap suc (matched_length ks ls (and_right (are_alike (Some (sort_of_kind k)) (Some (sort_of_kind l))) (are_matched ks ls) e))

sort_wider : (k l : Kind) → sort_of_kind (wider k l) ≡ sort_of_kind k
sort_wider Integer Integer = refl
sort_wider Integer Bigint = refl
sort_wider Integer Text = refl
sort_wider Bigint Integer = refl
sort_wider Bigint Bigint = refl
sort_wider Bigint Text = refl
sort_wider Text Integer = refl
sort_wider Text Bigint = refl
sort_wider Text Text = refl

-- wider columns match the same ones
matched_wider : (ks ls ms : List Kind) → are_matched (wider_kinds ks ls) ms ≡ are_matched ks ms
matched_wider [] ls ms = refl
matched_wider (k ∷ ks) [] ms = refl
matched_wider (k ∷ ks) (l ∷ ls) [] = refl
matched_wider (k ∷ ks) (l ∷ ls) (m ∷ ms) = ap₂ (λ s b. are_alike (Some s) (Some (sort_of_kind m)) && b) (sort_wider k l) (matched_wider ks ls ms)

pub matched_widest : (ks : List Kind) (others : List (List Kind)) (ms : List Kind) → are_matched (fold wider_kinds ks others) ms ≡ are_matched ks ms
matched_widest ks [] ms = refl
matched_widest ks (ls ∷ others) ms = matched_widest (wider_kinds ks ls) others ms ∙ matched_wider ks ls ms
