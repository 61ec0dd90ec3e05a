-- The columns that stars stand for.
use Rattle.std.proofs.Common.{◌≡◌, ◌<◌, ℕ, zero, suc, ◌+◌, Bool, true, false, List, [], ◌∷◌, ◌++◌, map, length, get_or, take, refl, ap, sym, ◌∙◌, append_assoc, length-append, arith}
use Rattle.std.specs.Prelude.{if◌then◌else◌, Option, bytes_eq}
use Rattle.std.specs.List.{flat_map}
use Rattle.std.proofs.lemmas.Grind.{flat_map-append}
use Rattle.std.proofs.lemmas.List.{take_more, map-append}
use Rattle.sq_ast.specs.declared.expr.ExprTree.{ExprTree}
use Rattle.sq_ast.specs.declared.query.ItemTree.{ItemTree}
use Rattle.sq_ast.specs.declared.query.ItemTree.TheVariants as item
use Rattle.sq_catalog.specs.declared.relation.Column.{Column}
use Rattle.sq_typed.specs.Scopes.{Named, Scope, Text, columns_in}
use Rattle.sq_typed.specs.Selected.{Starred, Written, starred, starred_from, written_out}
use Rattle.sq_scope.specs.NamesIndex.{named_from}
use Rattle.sq_scope.specs.TypesItems.{chosen_of, starred_at}
use Rattle.sq_scope.specs.declared.list_items.ListItem.{ListItem}
use Rattle.sq_scope.proofs.TypesTrees.{append_empty}

no_more : (n : ℕ) → n ≡ n + 0
no_more n = omega arith

none_before : (n : ℕ) → 0 + n ≡ n
none_before n = omega arith

one_on : (n m : ℕ) → suc n + m ≡ n + suc m
one_on n m = omega arith

wider : (begin n m k : ℕ) → k ≡ n + m → begin + n + m ≡ begin + k
wider begin n m k is = omega arith

-- an item that is no star
pub from_written : (scope : Scope) (i : ItemTree) (e : ExprTree) (alias : Option Text) → i ≡ item.Expr e alias → Written e alias ∷ [] ≡ written_out scope i
from_written scope i e alias is = ap (written_out scope) (sym is)

starred_append : (test : Text → Bool) (begin : ℕ) (ss ts : Scope) → starred test begin (ss ++ ts) ≡ starred test begin ss ++ starred test (begin + length (columns_in ss)) ts
starred_append test begin [] ts = ap (λ n. starred test n ts) (no_more begin)
starred_append test begin (s ∷ ss) ts =
    ap (λ is. (if test s.name then starred_from begin s.columns else []) ++ is) (starred_append test (begin + length s.columns) ss ts)
    ∙ (sym (append_assoc (if test s.name then starred_from begin s.columns else []) (starred test (begin + length s.columns) ss) (starred test (begin + length s.columns + length (columns_in ss)) ts))
    ∙ ap (λ n. (if test s.name then starred_from begin s.columns else []) ++ starred test (begin + length s.columns) ss ++ starred test n ts) (wider begin (length s.columns) (length (columns_in ss)) (length (columns_in (s ∷ ss))) (length-append s.columns (columns_in ss))))

from_append : (begin : ℕ) (cs ds : List Column) → starred_from begin (cs ++ ds) ≡ starred_from begin cs ++ starred_from (begin + length cs) ds
from_append begin [] ds = ap (λ n. starred_from n ds) (no_more begin)
from_append begin (c ∷ cs) ds = ap (λ is. Starred begin c ∷ is) (from_append (suc begin) cs ds ∙ ap (λ n. starred_from (suc begin) cs ++ starred_from n ds) (one_on begin (length cs)))

taken : {A : Type 0} (xs : List A) (i : ℕ) → i < length xs → length (take i xs) ≡ i
taken [] i below = absurd (omega arith)
taken (x ∷ xs) zero below = refl
taken (x ∷ xs) (suc i) below = ap suc (taken xs i (omega arith))

-- a further column, and a further source, as a loop takes them
pub more_from : (begin : ℕ) (cs : List Column) (i : ℕ) (c : Column) → i < length cs → c ≡ get_or cs i c → starred_from begin (take (i + 1) cs) ≡ starred_from begin (take i cs) ++ Starred (begin + i) c ∷ []
more_from begin cs i c below is =
    ap (starred_from begin) (take_more cs i c below)
    ∙ (from_append begin (take i cs) (get_or cs i c ∷ [])
    ∙ (ap (λ n. starred_from begin (take i cs) ++ Starred (begin + n) (get_or cs i c) ∷ []) (taken cs i below)
    ∙ ap (λ d. starred_from begin (take i cs) ++ Starred (begin + i) d ∷ []) (sym is)))

pub more_starred : (test : Text → Bool) (ss : Scope) (i : ℕ) (s : Named) → i < length ss → s ≡ get_or ss i s → starred test 0 (take (i + 1) ss) ≡ starred test 0 (take i ss) ++ (if test s.name then starred_from (length (columns_in (take i ss))) s.columns else [])
more_starred test ss i s below is =
    ap (starred test 0) (take_more ss i s below)
    ∙ (starred_append test 0 (take i ss) (get_or ss i s ∷ [])
    ∙ (ap (λ t. starred test 0 (take i ss) ++ starred test (0 + length (columns_in (take i ss))) (t ∷ [])) (sym is)
    ∙ (ap (λ n. starred test 0 (take i ss) ++ starred test n (s ∷ [])) (none_before (length (columns_in (take i ss))))
    ∙ ap (λ is. starred test 0 (take i ss) ++ is) (append_empty (if test s.name then starred_from (length (columns_in (take i ss))) s.columns else [])))))

-- what a loop has behind a further column
pub pushed : (begin : ℕ) (cs : List Column) (i : ℕ) (c : Column) (items after : List ListItem) (x : ListItem) → after ≡ items ++ x ∷ [] → map chosen_of items ≡ starred_from begin (take i cs) → chosen_of x ≡ Starred (begin + i) c → i < length cs → c ≡ get_or cs i c → map chosen_of after ≡ starred_from begin (take (i + 1) cs)
pushed begin cs i c items after x pushing was what below is =
    ap (map chosen_of) pushing
    ∙ (map-append chosen_of items (x ∷ [])
    ∙ (ap (λ is. is ++ chosen_of x ∷ []) was
    ∙ (ap (λ y. starred_from begin (take i cs) ++ y ∷ []) what
    ∙ sym (more_from begin cs i c below is))))

-- ---- the columns of the source at a place

pub columns_here : (ss : Scope) (i : ℕ) (s : Named) → i < length ss → s ≡ get_or ss i s → get_or (map (λ s. s.columns) ss) i [] ≡ s.columns
columns_here [] i s below is = absurd (omega arith)
columns_here (t ∷ ts) zero s below is = ap (λ s. s.columns) (sym is)
columns_here (t ∷ ts) (suc i) s below is = columns_here ts i s (omega arith) is

nobody : Named
nobody = record { name = []; columns = [] }

get_in : {A : Type 0} (xs : List A) (i : ℕ) (d e : A) → i < length xs → get_or xs i d ≡ get_or xs i e
get_in [] i d e below = absurd (omega arith)
get_in (x ∷ xs) zero d e below = refl
get_in (x ∷ xs) (suc i) d e below = get_in xs i d e (omega arith)

-- what a loop over all sources has behind those of a further one
pub appended : (ss : Scope) (i : ℕ) (items after more : List ListItem) → i < length ss → after ≡ items ++ more → map chosen_of items ≡ starred (λ name. true) 0 (take i ss) → map chosen_of more ≡ starred_at ss i → map chosen_of after ≡ starred (λ name. true) 0 (take (i + 1) ss)
appended ss i items after more below adding was what =
    ap (map chosen_of) adding
    ∙ (map-append chosen_of items more
    ∙ ((λ j. was j ++ what j)
    ∙ (ap (λ cs. starred (λ name. true) 0 (take i ss) ++ starred_from (length (columns_in (take i ss))) cs) (columns_here ss i (get_or ss i nobody) below (get_in ss i nobody (get_or ss i nobody) below))
    ∙ sym (more_starred (λ name. true) ss i (get_or ss i nobody) below (get_in ss i nobody (get_or ss i nobody) below)))))

-- ---- the sources of a name

front_of : {A : Type 0} (xs ys : List A) → take (length xs) (xs ++ ys) ≡ xs
front_of [] ys = refl
front_of (x ∷ xs) ys = ap (λ zs. x ∷ zs) (front_of xs ys)

placed_at : (pre ss : Scope) (s : Named) → get_or (map (λ s. s.columns) (pre ++ s ∷ ss)) (length pre) [] ≡ s.columns
placed_at [] ss s = refl
placed_at (p ∷ ps) ss s = placed_at ps ss s

at_its_place : (pre ss : Scope) (s : Named) → starred_at (pre ++ s ∷ ss) (length pre) ≡ starred_from (length (columns_in pre)) s.columns
at_its_place pre ss s = (λ i. starred_from (length (columns_in (front_of pre (s ∷ ss) i))) (placed_at pre ss s i))

its_columns : (pre ss : Scope) (s : Named) (b : Bool) → flat_map (starred_at (pre ++ s ∷ ss)) (if b then length pre ∷ [] else []) ≡ (if b then starred_from (length (columns_in pre)) s.columns else [])
its_columns pre ss s true = append_empty (starred_at (pre ++ s ∷ ss) (length pre)) ∙ at_its_place pre ss s
its_columns pre ss s false = refl

one_behind : (pre : Scope) (s : Named) → length (pre ++ s ∷ []) ≡ suc (length pre)
one_behind [] s = refl
one_behind (p ∷ ps) s = ap suc (one_behind ps s)

columns_behind : (pre : Scope) (s : Named) → length (columns_in (pre ++ s ∷ [])) ≡ length (columns_in pre) + length s.columns
columns_behind pre s = ap length (flat_map-append (λ s. s.columns) pre (s ∷ [])) ∙ (length-append (columns_in pre) (columns_in (s ∷ [])) ∙ ap (λ cs. length (columns_in pre) + length cs) (append_empty s.columns))

named_starred : (pre ss : Scope) (name : Text) → flat_map (starred_at (pre ++ ss)) (named_from (length pre) ss name) ≡ starred (bytes_eq name) (length (columns_in pre)) ss
named_starred pre [] name = refl
named_starred pre (s ∷ ss) name =
    let later : flat_map (starred_at (pre ++ s ∷ ss)) (named_from (suc (length pre)) ss name) ≡ starred (bytes_eq name) (length (columns_in pre) + length s.columns) ss =
    (λ i. flat_map (starred_at (sym (append_assoc pre (s ∷ []) ss) i)) (named_from (sym (one_behind pre s) i) ss name))
    ∙ (named_starred (pre ++ s ∷ []) ss name ∙ ap (λ n. starred (bytes_eq name) n ss) (columns_behind pre s)) in
    flat_map-append (starred_at (pre ++ s ∷ ss)) (if bytes_eq name s.name then length pre ∷ [] else []) (named_from (suc (length pre)) ss name)
    ∙ (λ i. its_columns pre ss s (bytes_eq name s.name) i ++ later i)

-- its columns are those of the sources of its name, one source after the other
pub of_name : (ss : Scope) (name : Text) → flat_map (starred_at ss) (named_from 0 ss name) ≡ starred (bytes_eq name) 0 ss
of_name ss name = named_starred [] ss name

-- the places of a name are places of sources
inside_with : (source i d n : ℕ) (b : Bool) (rest : List ℕ) → source < n → ((j : ℕ) → j < length rest → get_or rest j d < n) → i < length ((if b then source ∷ [] else []) ++ rest) → get_or ((if b then source ∷ [] else []) ++ rest) i d < n
inside_with source zero d n true rest here later below = here
inside_with source (suc i) d n true rest here later below = later i (omega arith)
inside_with source i d n false rest here later below = later i below

inside : (source : ℕ) (ss : Scope) (name : Text) (i d : ℕ) → i < length (named_from source ss name) → get_or (named_from source ss name) i d < source + length ss
inside source [] name i d below = absurd (omega arith)
inside source (s ∷ ss) name i d below = inside_with source i d (source + suc (length ss)) (bytes_eq name s.name) (named_from (suc source) ss name) (omega arith) (λ j within. let e : get_or (named_from (suc source) ss name) j d < suc source + length ss = inside (suc source) ss name j d within in omega arith) below

pub is_inside : (ss : Scope) (name : Text) (named : List ℕ) (i : ℕ) → named ≡ named_from 0 ss name → i < length named → get_or named i 0 < length ss
is_inside ss name named i are below =
    let within : i < length (named_from 0 ss name) = omega (arith, ap length are) in
    let e : get_or (named_from 0 ss name) i 0 < 0 + length ss = inside 0 ss name i 0 within in
    let f : get_or named i 0 ≡ get_or (named_from 0 ss name) i 0 = ap (λ ns. get_or ns i 0) are in
    omega arith
