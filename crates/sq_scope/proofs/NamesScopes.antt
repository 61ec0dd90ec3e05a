-- What references find among some of the sources.
use Rattle.std.proofs.Common.{◌≡◌, ℕ, zero, suc, ◌+◌, ◌<◌, ◌≤◌, ◌^◌, true, false, List, [], ◌∷◌, ◌++◌, map, length, take, drop, get_or, min, append_assoc, refl, sym, ap, ◌∙◌, arith, length-append, append-nil}
use Rattle.std.specs.Prelude.{Option, Some, None, nat_le}
use Rattle.std.proofs.lemmas.Grind.{flat_map-append}
use Rattle.std.proofs.lemmas.List.{take_more, take-append-drop, map-append, length-map, take_all, get_or_default, get_or_append_left}
use Rattle.std.proofs.Math.Seq.{take-append_seam, take-length, get_or-append_seam}
use Rattle.std.proofs.lemmas.Bool.Decides.{nat_tests}
use Rattle.sq_ast.specs.declared.expr.ColRef.{ColRef}
use Rattle.sq_catalog.specs.declared.relation.Column.{Column}
use Rattle.sq_expr.specs.declared.expr.Kind.{Kind}
use Rattle.sq_scope.specs.NamesFound.{IsLaidOut}
use Rattle.sq_scope.specs.declared.layout.Layout.{Layout}
use Rattle.sq_typed.specs.Scopes.{Named, Scope, columns_in, kinds_in, place_in, places, places_from, counted}

pub columns-append : (ss more : Scope) → columns_in (ss ++ more) ≡ columns_in ss ++ columns_in more
columns-append ss more = flat_map-append (λ s. s.columns) ss more

pub places_from-append : (begin : ℕ) (ss more : Scope) (r : ColRef) →
    places_from begin (ss ++ more) r ≡ places_from begin ss r ++ places_from (begin + length (columns_in ss)) more r
places_from-append begin [] more r = ap (λ n. places_from n more r) (omega arith)
places_from-append begin (s ∷ ss) more r =
    let many : begin + length s.columns + length (columns_in ss) ≡ begin + length (s.columns ++ columns_in ss) = omega (arith, length-append s.columns (columns_in ss)) in
    ap (λ ns. counted begin (place_in r s) ++ ns) (places_from-append (begin + length s.columns) ss more r ∙ ap (λ n. places_from (begin + length s.columns) ss r ++ places_from n more r) many)
    ∙ sym (append_assoc (counted begin (place_in r s)) (places_from (begin + length s.columns) ss r) _)

nothing : (n : ℕ) → 0 + n ≡ n
nothing n = omega arith

-- what one more source brings
pub places_more : (ss : Scope) (i : ℕ) (d : Named) (r : ColRef) → i < length ss →
    places (take (i + 1) ss) r ≡ places (take i ss) r ++ counted (length (columns_in (take i ss))) (place_in r (get_or ss i d))
places_more ss i d r within =
    ap (λ l. places l r) (take_more ss i d within) ∙
    (places_from-append 0 (take i ss) (get_or ss i d ∷ []) r ∙
    ap (λ ns. places_from 0 (take i ss) r ++ ns) (ap (λ n. counted n (place_in r (get_or ss i d)) ++ []) (nothing (length (columns_in (take i ss)))) ∙ append-nil (counted (length (columns_in (take i ss))) (place_in r (get_or ss i d)))))

pub width_more : (ss : Scope) (i : ℕ) (d : Named) → i < length ss →
    length (columns_in (take (i + 1) ss)) ≡ length (columns_in (take i ss)) + length (get_or ss i d).columns
width_more ss i d within =
    ap (λ l. length (columns_in l)) (take_more ss i d within) ∙
    (ap length (columns-append (take i ss) (get_or ss i d ∷ [])) ∙
    (length-append (columns_in (take i ss)) ((get_or ss i d).columns ++ []) ∙
    ap (λ l. length (columns_in (take i ss)) + length l) (append-nil (get_or ss i d).columns)))

pub kinds_more : (ss : Scope) (i : ℕ) (d : Named) → i < length ss →
    kinds_in (take (i + 1) ss) ≡ kinds_in (take i ss) ++ map (λ c. c.kind) (get_or ss i d).columns
kinds_more ss i d within =
    ap kinds_in (take_more ss i d within) ∙
    (ap (map (λ c. c.kind)) (columns-append (take i ss) (get_or ss i d ∷ [])) ∙
    (map-append (λ c. c.kind) (columns_in (take i ss)) ((get_or ss i d).columns ++ []) ∙
    ap (λ l. kinds_in (take i ss) ++ map (λ c. c.kind) l) (append-nil (get_or ss i d).columns)))

-- what was laid out so far
pub record LaidSoFar (ks : List Kind) (bs : List ℕ) (turns : ℕ) (ss : Scope) : Type 0 where
  pub kinds : ks ≡ kinds_in (take turns ss)
  pub all : length bs ≡ turns + 1
  pub begins : (i : ℕ) → i ≤ turns → get_or bs i 0 ≡ length (columns_in (take i ss))

-- a column's kind, and where the columns of some sources end
pub kinds-take : (ss : Scope) (n : ℕ) → take (length (columns_in (take n ss))) (kinds_in ss) ≡ kinds_in (take n ss)
kinds-take ss n =
    let all : columns_in ss ≡ columns_in (take n ss) ++ columns_in (drop n ss) = ap columns_in (sym (take-append-drop n ss)) ∙ columns-append (take n ss) (drop n ss) in
    let split : kinds_in ss ≡ kinds_in (take n ss) ++ kinds_in (drop n ss) = ap (map (λ c. c.kind)) all ∙ map-append (λ c. c.kind) (columns_in (take n ss)) (columns_in (drop n ss)) in
    ap (λ l. take (length (columns_in (take n ss))) l) split ∙
    (ap (λ k. take k (kinds_in (take n ss) ++ kinds_in (drop n ss))) (sym (length-map (columns_in (take n ss)) (λ c. c.kind))) ∙
    take-append_seam (kinds_in (take n ss)) (kinds_in (drop n ss)))

pub width-take : (ss : Scope) (n : ℕ) → length (columns_in (take n ss)) ≤ length (columns_in ss)
width-take ss n =
    let all : columns_in ss ≡ columns_in (take n ss) ++ columns_in (drop n ss) = ap columns_in (sym (take-append-drop n ss)) ∙ columns-append (take n ss) (drop n ss) in
    let many : length (columns_in ss) ≡ length (columns_in (take n ss)) + length (columns_in (drop n ss)) = ap length all ∙ length-append (columns_in (take n ss)) (columns_in (drop n ss)) in
    omega arith

take-min : (ss : Scope) (n : ℕ) → take (min n (length ss)) ss ≡ take n ss
take-min ss n = elim (nat_le n (length ss)) as (λ b. nat_le n (length ss) ≡ b → take (min n (length ss)) ss ≡ take n ss) [
  | true ↦ λ t. let e : min n (length ss) ≡ n = grind (arith, nat_tests) in ap (λ k. take k ss) e
  | false ↦ λ t. let e : min n (length ss) ≡ length ss = grind (arith, nat_tests) in let long : length ss ≤ n = grind (arith, nat_tests) in
      ap (λ k. take k ss) e ∙ (take-length ss ∙ sym (take_all n ss long))
] refl

read_begin : (bs : List ℕ) (i d : ℕ) → i < length bs → get_or bs i d ≡ get_or bs i 0
read_begin bs i d within = get_or_default bs i d 0 within

-- the kinds of so many sources, as a front of all
pub front : (ss : Scope) (layout : Layout) (n m end : ℕ) → IsLaidOut ss layout → m ≡ min n (length ss) → end ≡ get_or layout.begins.items m end →
    (end ≤ length layout.kinds.items) × (take end layout.kinds.items ≡ kinds_in (take n ss))
front ss layout n m end laid least is =
    let within : m ≤ length ss = omega arith in
    let ends : end ≡ length (columns_in (take m ss)) = is ∙ (read_begin layout.begins.items m end (omega (arith, laid.all)) ∙ laid.begins m within) in
    let same : take m ss ≡ take n ss = ap (λ k. take k ss) least ∙ take-min ss n in
    let whole : length layout.kinds.items ≡ length (columns_in ss) = ap length laid.kinds ∙ length-map (columns_in ss) (λ c. c.kind) in
    (omega (arith, width-take ss m), (λ i. take (ends i) (laid.kinds i)) ∙ (kinds-take ss m ∙ ap kinds_in same))

at_most_one : (begin : ℕ) (place : Option ℕ) → length (counted begin place) ≤ 1
at_most_one begin None = omega arith
at_most_one begin (Some p) = omega arith

-- one more source laid out
pub laid_more : (ks now : List Kind) (bs after : List ℕ) (ss : Scope) (i : ℕ) (d : Named) (cs : List Column) → i < length ss → LaidSoFar ks bs i ss →
    cs ≡ d.columns → d ≡ get_or ss i d → now ≡ ks ++ map (λ c. c.kind) cs → (end : ℕ) → end ≡ length now → after ≡ bs ++ end ∷ [] → LaidSoFar now after (i + 1) ss
laid_more ks now bs after ss i d cs within laid listed here grown end ends pushed_end =
    let is : cs ≡ (get_or ss i d).columns = listed ∙ ap (λ s. s.columns) here in
    let pushed : after ≡ bs ++ length now ∷ [] = pushed_end ∙ ap (λ n. bs ++ n ∷ []) ends in record {
      kinds = let e : now ≡ kinds_in (take (i + 1) ss) = grown ∙ ((λ j. laid.kinds j ++ map (λ c. c.kind) (is j)) ∙ sym (kinds_more ss i d within)) in e;
      all = ap length pushed ∙ (length-append bs (length now ∷ []) ∙ omega (arith, laid.all));
      begins = λ j le. elim (nat_le j i) as (λ b. nat_le j i ≡ b → get_or after j 0 ≡ length (columns_in (take j ss))) [
        | true ↦ λ t. let below : j ≤ i = grind (arith, nat_tests) in let in_front : j < length bs = omega (arith, laid.all) in
            ap (λ l. get_or l j 0) pushed ∙ (get_or_append_left bs (length now ∷ []) 0 j in_front ∙ laid.begins j below)
        | false ↦ λ t. let at : j ≡ length bs = grind (arith, nat_tests, laid.all) in let last : j ≡ i + 1 = grind (arith, nat_tests) in
            ap (λ l. get_or l j 0) pushed ∙ (ap (λ k. get_or (bs ++ length now ∷ []) k 0) at ∙ (get_or-append_seam bs (length now) [] 0 ∙
            (ap length (grown ∙ ((λ j. laid.kinds j ++ map (λ c. c.kind) (is j)) ∙ sym (kinds_more ss i d within))) ∙ (length-map (columns_in (take (i + 1) ss)) (λ c. c.kind) ∙ ap (λ k. length (columns_in (take k ss))) (sym last)))))
      ] refl;
    }

pub begin_is : (ss : Scope) (layout : Layout) (i begin : ℕ) → IsLaidOut ss layout → i < length ss → begin ≡ get_or layout.begins.items i begin → begin ≡ length (columns_in (take i ss))
begin_is ss layout i begin laid within is =
    let early : i ≤ length ss = omega arith in
    is ∙ (read_begin layout.begins.items i begin (omega (arith, laid.all)) ∙ laid.begins i early)

-- the numbers of the columns of a source fit 64 bits
pub columns_fit : (ss : Scope) (layout : Layout) (i begin : ℕ) (d : Named) (cs : List Column) → IsLaidOut ss layout → i < length ss → begin ≡ get_or layout.begins.items i begin →
    cs ≡ d.columns → d ≡ get_or ss i d → begin + length cs < 2 ^ 32
columns_fit ss layout i begin d cs laid within is listed here =
    let start : begin ≡ length (columns_in (take i ss)) = begin_is ss layout i begin laid within is in
    let whole : length layout.kinds.items ≡ length (columns_in ss) = ap length laid.kinds ∙ length-map (columns_in ss) (λ c. c.kind) in
    let same : length cs ≡ length (get_or ss i d).columns = ap length (listed ∙ ap (λ s. s.columns) here) in
    omega (arith, width_more ss i d within, width-take ss (i + 1), laid.few)

nobody : Named
nobody = record { name = []; columns = [] }

columns_at : (ss : Scope) (i : ℕ) (d : Named) → i < length ss → get_or (map (λ s. s.columns) ss) i [] ≡ (get_or ss i d).columns
columns_at [] i d below = absurd (omega (arith, below))
columns_at (s ∷ ss) zero d below = refl
columns_at (s ∷ ss) (suc i) d below = columns_at ss i d (omega (arith, below))

-- so do those of the source at a place
pub end_fits : (ss : Scope) (layout : Layout) (i begin : ℕ) → IsLaidOut ss layout → i < length ss → begin ≡ get_or layout.begins.items i begin →
    begin + length (get_or (map (λ s. s.columns) ss) i []) < 2 ^ 32
end_fits ss layout i begin laid within is =
    columns_fit ss layout i begin (get_or ss i nobody) (get_or (map (λ s. s.columns) ss) i []) laid within is (columns_at ss i nobody within) (get_or_default ss i nobody (get_or ss i nobody) within)

-- the number of all columns
pub width_is : (ss : Scope) (layout : Layout) → IsLaidOut ss layout → length layout.kinds.items ≡ length (columns_in ss)
width_is ss layout laid = ap length laid.kinds ∙ length-map (columns_in ss) (λ c. c.kind)
