-- Places whose sources rise, and the numbers of them that a reference finds.
use Rattle.std.proofs.Common.{◌≡◌, ℕ, zero, suc, ◌+◌, ◌<◌, ◌≤◌, Bool, true, false, not, ◌||◌, List, [], ◌∷◌, ◌++◌, map, length, take, get_or, filter, cond, refl, sym, ap, subst, ◌∙◌, arith, append-nil, length-append, ◌==◌}
use Rattle.std.specs.Prelude.{Option, Some, None, nat_lt, slice_get, bytes_eq, position, if◌then◌else◌, option_to_list}
use Rattle.std.specs.List.{AllByRecursion, flat_map, list_any}
use Rattle.std.proofs.lemmas.Bool.Decides.{nat_tests}
use Rattle.std.proofs.lemmas.List.{map-append, length-map, take_more}
use Rattle.std.proofs.lemmas.Grind.{flat_map-append}
use Rattle.std.proofs.lemmas.Option.{same_Some}
use Rattle.std.proofs.lemmas.List.Elements.{filter-append}
use Rattle.sq_scope.proofs.NamesBuilt.{all_behind}
use Rattle.sq_ast.specs.declared.expr.ColRef.{ColRef}
use Rattle.sq_scope.specs.NamesIndex.{spot_at, spots_from, named_from, IsRising, found_in, numbers_at, numbers_before, number_if_at}
use Rattle.sq_scope.specs.NamesFound.{Sees}
use Rattle.sq_scope.specs.declared.index.Place.{Place}
use Rattle.sq_scope.specs.declared.found_columns.Sight.{Sight}
use Rattle.sq_typed.specs.Scopes.{Named, Scope, counted, places, places_from, Text}

-- ---- a front of what passes a test

pub partition : {A : Type 0} (p : A → Bool) (xs : List A) (i : ℕ) → i ≤ length xs → ((k : ℕ) (d : A) → k < i → p (get_or xs k d) ≡ true) → ((k : ℕ) (d : A) → i ≤ k → k < length xs → p (get_or xs k d) ≡ false) → length (filter p xs) ≡ i
partition p [] i within pass fail = omega arith
partition p (x ∷ xs) zero within pass fail =
    let first : p x ≡ false = fail 0 x (omega arith) (omega arith) in
    ap (λ b. length (cond b (x ∷ filter p xs) (filter p xs))) first ∙ partition p xs 0 (omega arith) (λ k d below. absurd (omega arith)) (λ k d from below. fail (suc k) d (omega arith) (omega arith))
partition p (x ∷ xs) (suc i) within pass fail =
    let first : p x ≡ true = pass 0 x (omega arith) in
    ap (λ b. length (cond b (x ∷ filter p xs) (filter p xs))) first ∙
    ap suc (partition p xs i (omega arith) (λ k d below. pass (suc k) d (omega arith)) (λ k d from below. fail (suc k) d (omega arith) (omega arith)))

-- ---- rising places

abbrev Behind : ℕ → List Place → Type 0
Behind n ps = AllByRecursion (λ p. n < p.source) ps

none_at : (source n : ℕ) (ps : List Place) → source ≤ n → Behind n ps → filter (λ p. p.source == source) ps ≡ []
none_at source n [] le behind = refl
none_at source n (p ∷ ps) le behind =
    let other : (p.source == source) ≡ false = grind (arith, nat_tests, behind.0) in
    ap (λ b. cond b (p ∷ filter (λ p. p.source == source) ps) (filter (λ p. p.source == source) ps)) other ∙ none_at source n ps le behind.1

none_before : (source n : ℕ) (ps : List Place) → source ≤ n → Behind n ps → filter (λ p. nat_lt p.source source) ps ≡ []
none_before source n [] le behind = refl
none_before source n (p ∷ ps) le behind =
    let late : nat_lt p.source source ≡ false = grind (arith, nat_tests, behind.0) in
    ap (λ b. cond b (p ∷ filter (λ p. nat_lt p.source source) ps) (filter (λ p. nat_lt p.source source) ps)) late ∙ none_before source n ps le behind.1

abbrev count_before : ℕ → List Place → ℕ
count_before source ps = length (filter (λ p. nat_lt p.source source) ps)

found_at : (source : ℕ) (p : Place) (ps : List Place) (early same : Bool) → nat_lt p.source source ≡ early → (p.source == source) ≡ same → IsRising (p ∷ ps) →
    (early ≡ true → same ≡ false) → (early ≡ false → source ≤ p.source) →
    map (λ p. p.number) (filter (λ p. p.source == source) ps) ≡ number_if_at source (slice_get ps (count_before source ps)) →
    map (λ p. p.number) (cond same (p ∷ filter (λ p. p.source == source) ps) (filter (λ p. p.source == source) ps)) ≡
    number_if_at source (slice_get (p ∷ ps) (length (cond early (p ∷ filter (λ p. nat_lt p.source source) ps) (filter (λ p. nat_lt p.source source) ps))))
found_at source p ps true true e s rising apart late rest = absurd (let c : true ≡ false = apart refl in cc)
found_at source p ps true false e s rising apart late rest = rest
found_at source p ps false true e s rising apart late rest =
    let none : filter (λ p. p.source == source) ps ≡ [] = none_at source p.source ps (late refl) rising.0 in
    let zero_before : filter (λ p. nat_lt p.source source) ps ≡ [] = none_before source p.source ps (late refl) rising.0 in
    ap (λ l. map (λ p. p.number) (p ∷ l)) none ∙ sym (ap (λ l. number_if_at source (slice_get (p ∷ ps) (length l))) zero_before ∙ ap (λ b. if b then p.number ∷ [] else []) s)
found_at source p ps false false e s rising apart late rest =
    let none : filter (λ p. p.source == source) ps ≡ [] = none_at source p.source ps (late refl) rising.0 in
    let zero_before : filter (λ p. nat_lt p.source source) ps ≡ [] = none_before source p.source ps (late refl) rising.0 in
    ap (map (λ p. p.number)) none ∙ sym (ap (λ l. number_if_at source (slice_get (p ∷ ps) (length l))) zero_before ∙ ap (λ b. if b then p.number ∷ [] else []) s)

all_at : {A : Type 0} (P : A → Type 0) (xs : List A) (k : ℕ) (d : A) → AllByRecursion P xs → k < length xs → P (get_or xs k d)
all_at P [] k d all within = absurd (omega arith)
all_at P (x ∷ xs) zero d all within = all.0
all_at P (x ∷ xs) (suc k) d all within = all_at P xs k d all.1 (omega arith)

-- what is in a source stands behind what is in the sources before it
pub at_its_place : (source : ℕ) (ps : List Place) → IsRising ps → numbers_at source ps ≡ number_if_at source (slice_get ps (length (numbers_before source ps)))
at_its_place source [] rising = refl
at_its_place source (p ∷ ps) rising =
    let apart : nat_lt p.source source ≡ true → (p.source == source) ≡ false = λ e. grind (arith, nat_tests) in
    let late : nat_lt p.source source ≡ false → source ≤ p.source = λ e. grind (arith, nat_tests) in
    let rest : map (λ p. p.number) (filter (λ p. p.source == source) ps) ≡ number_if_at source (slice_get ps (count_before source ps)) =
    at_its_place source ps rising.1 ∙ ap (λ n. number_if_at source (slice_get ps n)) (length-map (filter (λ p. nat_lt p.source source) ps) (λ p. p.number)) in
    found_at source p ps (nat_lt p.source source) (p.source == source) refl refl rising apart late rest ∙
    sym (ap (λ n. number_if_at source (slice_get (p ∷ ps) n)) (length-map (filter (λ p. nat_lt p.source source) (p ∷ ps)) (λ p. p.number)))

pub rising_parted : (source : ℕ) (ps : List Place) (i j : ℕ) (d : Place) → IsRising ps → i ≤ j → j < length ps → nat_lt (get_or ps j d).source source ≡ true → nat_lt (get_or ps i d).source source ≡ true
rising_parted source [] i j d rising le within e = absurd (omega arith)
rising_parted source (p ∷ ps) zero zero d rising le within e = e
rising_parted source (p ∷ ps) zero (suc j) d rising le within e =
    let above : p.source < (get_or ps j d).source = all_at (λ q. p.source < q.source) ps j d rising.0 (omega arith) in
    grind (arith, nat_tests)
rising_parted source (p ∷ ps) (suc i) zero d rising le within e = absurd (omega arith)
rising_parted source (p ∷ ps) (suc i) (suc j) d rising le within e = rising_parted source ps i j d rising.1 (omega arith) (omega arith) e

-- ---- what a reference finds

abbrev plain : Text → ColRef
plain name = record { qualifier = None; name = name }

abbrev qualified : Text → Text → ColRef
qualified qualifier name = record { qualifier = Some qualifier; name = name }

numbers_before-append : (n : ℕ) (ps qs : List Place) → numbers_before n (ps ++ qs) ≡ numbers_before n ps ++ numbers_before n qs
numbers_before-append n ps qs = ap (map (λ p. p.number)) (filter-append (λ p. nat_lt p.source n) ps qs) ∙ map-append (λ p. p.number) (filter (λ p. nat_lt p.source n) ps) (filter (λ p. nat_lt p.source n) qs)

numbers_at-append : (n : ℕ) (ps qs : List Place) → numbers_at n (ps ++ qs) ≡ numbers_at n ps ++ numbers_at n qs
numbers_at-append n ps qs = ap (map (λ p. p.number)) (filter-append (λ p. p.source == n) ps qs) ∙ map-append (λ p. p.number) (filter (λ p. p.source == n) ps) (filter (λ p. p.source == n) qs)

spot_kept : (n source begin : ℕ) (o : Option ℕ) → source < n → numbers_before n (spot_at source begin o) ≡ counted begin o
spot_kept n source begin None below = refl
spot_kept n source begin (Some k) below = let e : nat_lt source n ≡ true = grind (arith, nat_tests) in ap (λ b. map {A = Place} (λ p. p.number) (cond b (record { source = source; number = begin + k } ∷ []) [])) e

spot_found : (source begin : ℕ) (o : Option ℕ) → numbers_at source (spot_at source begin o) ≡ counted begin o
spot_found source begin None = refl
spot_found source begin (Some k) = let e : (source == source) ≡ true = grind (arith, nat_tests) in ap (λ b. map {A = Place} (λ p. p.number) (cond b (record { source = source; number = begin + k } ∷ []) [])) e

spot_lost : (n source begin : ℕ) (o : Option ℕ) → source < n → numbers_at n (spot_at source begin o) ≡ []
spot_lost n source begin None below = refl
spot_lost n source begin (Some k) below = let e : (source == n) ≡ false = grind (arith, nat_tests) in ap (λ b. map {A = Place} (λ p. p.number) (cond b (record { source = source; number = begin + k } ∷ []) [])) e

spot_late : (n source begin : ℕ) (o : Option ℕ) → n ≤ source → numbers_before n (spot_at source begin o) ≡ []
spot_late n source begin None le = refl
spot_late n source begin (Some k) le = let e : nat_lt source n ≡ false = grind (arith, nat_tests) in ap (λ b. map {A = Place} (λ p. p.number) (cond b (record { source = source; number = begin + k } ∷ []) [])) e

-- no place is before its source
none_kept : (n source begin : ℕ) (ss : Scope) (name : Text) → n ≤ source → numbers_before n (spots_from source begin ss name) ≡ []
none_kept n source begin [] name le = refl
none_kept n source begin (s ∷ ss) name le =
    numbers_before-append n (spot_at source begin (position (λ c. bytes_eq name c.name) s.columns)) (spots_from (suc source) (begin + length s.columns) ss name) ∙
    λ i. spot_late n source begin (position (λ c. bytes_eq name c.name) s.columns) le i ++ none_kept n (suc source) (begin + length s.columns) ss name (omega arith) i

-- without a qualifier a reference finds the places of its name in the sources
pub plain_finds : (m source begin : ℕ) (ss : Scope) (name : Text) → numbers_before (source + m) (spots_from source begin ss name) ≡ places_from begin (take m ss) (plain name)
plain_finds zero source begin ss name = none_kept (source + 0) source begin ss name (omega arith)
plain_finds (suc m) source begin [] name = refl
plain_finds (suc m) source begin (s ∷ ss) name =
    let next : source + suc m ≡ suc source + m = omega arith in
    numbers_before-append (source + suc m) (spot_at source begin (position (λ c. bytes_eq name c.name) s.columns)) (spots_from (suc source) (begin + length s.columns) ss name) ∙
    λ i. spot_kept (source + suc m) source begin (position (λ c. bytes_eq name c.name) s.columns) (omega arith) i ++
    (ap (λ n. numbers_before n (spots_from (suc source) (begin + length s.columns) ss name)) next ∙ plain_finds m (suc source) (begin + length s.columns) ss name) i

abbrev Above : ℕ → List ℕ → Type 0
Above n ks = AllByRecursion (λ k. n < k) ks

above_append : (n : ℕ) (ks ls : List ℕ) → Above n ks → Above n ls → Above n (ks ++ ls)
above_append n [] ls above more = more
above_append n (k ∷ ks) ls above more = (above.0, above_append n ks ls above.1 more)

above_if : (n k : ℕ) (b : Bool) → n < k → Above n (if b then k ∷ [] else [])
above_if n k true above = (above, tt)
above_if n k false above = tt

named_above : (n source : ℕ) (ss : Scope) (q : Text) → n < source → Above n (named_from source ss q)
named_above n source [] q above = tt
named_above n source (s ∷ ss) q above =
    above_append n (if bytes_eq q s.name then source ∷ [] else []) (named_from (suc source) ss q) (above_if n source (bytes_eq q s.name) above) (named_above n (suc source) ss q (omega arith))

if_same : (b : Bool) (ks ls : List ℕ) → ks ≡ ls → (if b then ks else []) ≡ (if b then ls else [])
if_same true ks ls e = e
if_same false ks ls e = refl

-- a place of an earlier source is in none of the later ones
later_alone : (n source begin : ℕ) (o : Option ℕ) (ps : List Place) (ks : List ℕ) → Above source ks → flat_map (found_in n (spot_at source begin o ++ ps)) ks ≡ flat_map (found_in n ps) ks
later_alone n source begin o ps [] above = refl
later_alone n source begin o ps (k ∷ ks) above =
    let here : numbers_at k (spot_at source begin o ++ ps) ≡ numbers_at k ps = numbers_at-append k (spot_at source begin o) ps ∙ ap (λ l. l ++ numbers_at k ps) (spot_lost k source begin o above.0) in
    λ i. if_same (nat_lt k n) (numbers_at k (spot_at source begin o ++ ps)) (numbers_at k ps) here i ++ later_alone n source begin o ps ks above.1 i

none_named : (n source : ℕ) (ps : List Place) (ks : List ℕ) → AllByRecursion (λ k. n ≤ k) ks → flat_map (found_in n ps) ks ≡ []
none_named n source ps [] late = refl
none_named n source ps (k ∷ ks) late =
    let e : nat_lt k n ≡ false = grind (arith, nat_tests, late.0) in λ i. (if e i then numbers_at k ps else []) ++ none_named n source ps ks late.1 i

late_append : (n : ℕ) (ks ls : List ℕ) → AllByRecursion (λ k. n ≤ k) ks → AllByRecursion (λ k. n ≤ k) ls → AllByRecursion (λ k. n ≤ k) (ks ++ ls)
late_append n [] ls late more = more
late_append n (k ∷ ks) ls late more = (late.0, late_append n ks ls late.1 more)

late_if : (n k : ℕ) (b : Bool) → n ≤ k → AllByRecursion (λ k. n ≤ k) (if b then k ∷ [] else [])
late_if n k true late = (late, tt)
late_if n k false late = tt

named_late : (n source : ℕ) (ss : Scope) (q : Text) → n ≤ source → AllByRecursion (λ k. n ≤ k) (named_from source ss q)
named_late n source [] q late = tt
named_late n source (s ∷ ss) q late = late_append n (if bytes_eq q s.name then source ∷ [] else []) (named_from (suc source) ss q) (late_if n source (bytes_eq q s.name) late) (named_late n (suc source) ss q (omega arith))

-- what is found in the first source
first_found : (n source begin : ℕ) (b : Bool) (o : Option ℕ) (ps : List Place) → source < n → AllByRecursion (λ p. source < p.source) ps →
    flat_map (found_in n (spot_at source begin o ++ ps)) (if b then source ∷ [] else []) ≡ counted begin (if b then o else None)
first_found n source begin false o ps below above = refl
first_found n source begin true o ps below above =
    let e : nat_lt source n ≡ true = grind (arith, nat_tests) in
    let none : filter (λ p. p.source == source) ps ≡ [] = none_at source source ps (omega arith) above in
    append-nil (if nat_lt source n then numbers_at source (spot_at source begin o ++ ps) else []) ∙
    (ap (λ b. if b then numbers_at source (spot_at source begin o ++ ps) else []) e ∙
    (numbers_at-append source (spot_at source begin o) ps ∙ ((λ i. spot_found source begin o i ++ map (λ p. p.number) (none i)) ∙ append-nil (counted begin o))))

-- with a qualifier it finds those in the sources of that name
pub qualified_finds : (m source begin : ℕ) (ss : Scope) (q name : Text) → flat_map (found_in (source + m) (spots_from source begin ss name)) (named_from source ss q) ≡ places_from begin (take m ss) (qualified q name)
qualified_finds zero source begin ss q name = none_named (source + 0) source (spots_from source begin ss name) (named_from source ss q) (named_late (source + 0) source ss q (omega arith))
qualified_finds (suc m) source begin [] q name = refl
qualified_finds (suc m) source begin (s ∷ ss) q name =
    let next : source + suc m ≡ suc source + m = omega arith in
    flat_map-append (found_in (source + suc m) (spot_at source begin (position (λ c. bytes_eq name c.name) s.columns) ++ spots_from (suc source) (begin + length s.columns) ss name)) (if bytes_eq q s.name then source ∷ [] else []) (named_from (suc source) ss q) ∙
    λ i. first_found (source + suc m) source begin (bytes_eq q s.name) (position (λ c. bytes_eq name c.name) s.columns) (spots_from (suc source) (begin + length s.columns) ss name) (omega arith) (all_behind source (suc source) (begin + length s.columns) ss name (omega arith)) i ++
    (later_alone (source + suc m) source begin (position (λ c. bytes_eq name c.name) s.columns) (spots_from (suc source) (begin + length s.columns) ss name) (named_from (suc source) ss q) (named_above source (suc source) ss q (omega arith)) ∙
    (ap (λ n. flat_map (found_in n (spots_from (suc source) (begin + length s.columns) ss name)) (named_from (suc source) ss q)) next ∙ qualified_finds m (suc source) (begin + length s.columns) ss q name)) i

-- ---- the first number

pub first_before : (n : ℕ) (p : Place) (ps : List Place) (early : Bool) → nat_lt p.source n ≡ early → IsRising (p ∷ ps) →
    get_or (numbers_before n (p ∷ ps)) 0 0 ≡ (if early then p.number else 0)
first_before n p ps true e rising = ap (λ b. get_or (map {A = Place} (λ p. p.number) (cond b (p ∷ filter (λ p. nat_lt p.source n) ps) (filter (λ p. nat_lt p.source n) ps))) 0 0) e
first_before n p ps false e rising =
    let late : n ≤ p.source = grind (arith, nat_tests) in
    ap (λ b. get_or (map {A = Place} (λ p. p.number) (cond b (p ∷ filter (λ p. nat_lt p.source n) ps) (filter (λ p. nat_lt p.source n) ps))) 0 0) e ∙
    ap (λ l. get_or (map {A = Place} (λ p. p.number) l) 0 0) (none_before n p.source ps late rising.0)

-- ---- the sources of a name

some_named : (q : Text) (source : ℕ) (ss : Scope) (s : Named) (b : Bool) → nat_lt 0 (length (named_from (suc source) ss q)) ≡ list_any (λ s. bytes_eq q s.name) ss →
    nat_lt 0 (length ((if b then source ∷ [] else []) ++ named_from (suc source) ss q)) ≡ (b || list_any (λ s. bytes_eq q s.name) ss)
some_named q source ss s true rest = let e : nat_lt 0 (suc (length (named_from (suc source) ss q))) ≡ true = grind (arith, nat_tests) in e
some_named q source ss s false rest = rest

pub is_there : (q : Text) (source : ℕ) (ss : Scope) → nat_lt 0 (length (named_from source ss q)) ≡ list_any (λ s. bytes_eq q s.name) ss
is_there q source [] = refl
is_there q source (s ∷ ss) = some_named q source ss s (bytes_eq q s.name) (is_there q (suc source) ss)

-- ---- a loop over the sources of a name

pub record SeenSoFar (sight : Sight) (sources : ℕ) (places : List Place) (named : List ℕ) (turns : ℕ) : Type 0 where
  pub seen : Sees sight (flat_map (found_in sources places) (take turns named))
  pub few : sight.count ≤ turns

at_most_one : (o : Option ℕ) → length (option_to_list o) ≤ 1
at_most_one None = omega arith
at_most_one (Some n) = omega arith

pub seen_more : (sight after : Sight) (sources : ℕ) (places : List Place) (named : List ℕ) (i d : ℕ) (found : Option ℕ) → i < length named → SeenSoFar sight sources places named i →
    option_to_list found ≡ found_in sources places (get_or named i d) → ((ns : List ℕ) → Sees sight ns → Sees after (ns ++ option_to_list found)) → SeenSoFar after sources places named (i + 1)
seen_more sight after sources places named i d found within so_far is more =
    let brings : flat_map (found_in sources places) (take (i + 1) named) ≡ flat_map (found_in sources places) (take i named) ++ option_to_list found =
    ap (flat_map (found_in sources places)) (take_more named i d within) ∙ (flat_map-append (found_in sources places) (take i named) (get_or named i d ∷ []) ∙
    ap (λ l. flat_map (found_in sources places) (take i named) ++ l) (append-nil (found_in sources places (get_or named i d)) ∙ sym is)) in
    let told : Sees after (flat_map (found_in sources places) (take i named) ++ option_to_list found) = more (flat_map (found_in sources places) (take i named)) so_far.seen in
    record {
      seen = subst (Sees after) (sym brings) told;
      few = omega (arith, told.count, so_far.seen.count, so_far.few, length-append (flat_map (found_in sources places) (take i named)) (option_to_list found), at_most_one found);
    }

pub late_first : (n : ℕ) (ps : List Place) (p : Place) → slice_get ps 0 ≡ Some p → n ≤ p.source → IsRising ps → 0 ≡ get_or (numbers_before n ps) 0 0
late_first n [] p is late rises = cc
late_first n (q ∷ ps) p is late rises =
    let same : q.source ≡ p.source = ap (λ p. p.source) (same_Some q p is) in
    let e : nat_lt q.source n ≡ false = grind (arith, nat_tests) in sym (first_before n q ps false e rises)

pub not_empty : (k : ℕ) → not (k == 0) ≡ nat_lt 0 k
not_empty zero = refl
not_empty (suc k) = let e : (suc k == 0) ≡ false = grind (arith, nat_tests) in let f : nat_lt 0 (suc k) ≡ true = grind (arith, nat_tests) in ap not e ∙ sym f

-- ---- look-ups

from_zero : (m : ℕ) → m ≡ 0 + m
from_zero m = omega arith

pub plain_places : (m : ℕ) (ss : Scope) (r : ColRef) → r.qualifier ≡ None → numbers_before m (spots_from 0 0 ss r.name) ≡ places (take m ss) r
plain_places m ss r is =
    ap (λ n. numbers_before n (spots_from 0 0 ss r.name)) (from_zero m) ∙ (plain_finds m 0 0 ss r.name ∙ ap (λ q. places (take m ss) (record { qualifier = q; name = r.name })) (sym is))

pub qualified_places : (m : ℕ) (ss : Scope) (r : ColRef) (q : Text) → r.qualifier ≡ Some q → flat_map (found_in m (spots_from 0 0 ss r.name)) (named_from 0 ss q) ≡ places (take m ss) r
qualified_places m ss r q is =
    ap (λ n. flat_map (found_in n (spots_from 0 0 ss r.name)) (named_from 0 ss q)) (from_zero m) ∙ (qualified_finds m 0 0 ss q r.name ∙ ap (λ q. places (take m ss) (record { qualifier = q; name = r.name })) (sym is))
