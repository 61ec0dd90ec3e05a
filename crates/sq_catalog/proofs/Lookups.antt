-- The relations by name, and their names.
use Rattle.std.proofs.Common.{◌≡◌, ℕ, ◌+◌, ◌<◌, Bool, true, false, not, cond, ◌||◌, ◌&&◌, if◌then◌else◌, List, [], ◌∷◌, ◌++◌, length, position, bytes_eq, nat_lt, String, Option, Some, None, is_some, refl, sym, ap, subst, ◌∙◌, ◌-◌, ◌^◌, arith}
use Rattle.std.proofs.lemmas.List.{length-map, length-append}
use Rattle.std.specs.List.{list_any, position_or_len, AllByRecursion}
use Rattle.std.specs.Map.{keys_of, lookup}
use Rattle.std.proofs.lemmas.Map.Made.{is_some-lookup}
use Rattle.indexmap.specs.IndexMap.{insert_entry}
use Rattle.std.specs.String.{string_bytes}
use Rattle.sq_catalog.specs.declared.relation.Relation.{Relation}
use Rattle.std.proofs.lemmas.Bool.{not-true}
use Rattle.std.specs.Cmp.Lexicographic.{nat_list_eq_equiv}
use Rattle.sq_catalog.specs.Names.{place_of, is_named, names_differ, created, IsByName}

neither_first : (a b : Bool) → (a || b) ≡ false → a ≡ false
neither_first true b none = none
neither_first false b none = refl

neither_second : (a b : Bool) → (a || b) ≡ false → b ≡ false
neither_second true b none = cc
neither_second false b none = none

unnamed_more : (name : List ℕ) (rs : List Relation) (r : Relation) → is_named name rs ≡ false → bytes_eq name r.name ≡ false → is_named name (rs ++ r ∷ []) ≡ false
unnamed_more name [] r none other = ap (λ b. b || false) other
unnamed_more name (s ∷ rs) r none other =
    λ i. neither_first (bytes_eq name s.name) _ none i || unnamed_more name rs r (neither_second (bytes_eq name s.name) _ none) other i

both_first : (a b : Bool) → (a && b) ≡ true → a ≡ true
both_first true b both = refl
both_first false b both = both

both_second : (a b : Bool) → (a && b) ≡ true → b ≡ true
both_second true b both = both
both_second false b both = cc

apart : (rs : List Relation) (r : Relation) → is_named r.name rs ≡ false → names_differ rs ≡ true → names_differ (rs ++ r ∷ []) ≡ true
apart [] r new differ = refl
apart (s ∷ rs) r new differ =
    let unlike : bytes_eq s.name r.name ≡ false = nat_list_eq_equiv.symm s.name r.name ∙ neither_first (bytes_eq r.name s.name) _ new in
    let here : is_named s.name (rs ++ r ∷ []) ≡ false = unnamed_more s.name rs r (not-true _ (both_first (not (is_named s.name rs)) _ differ)) unlike in
    λ i. not (here i) && apart rs r (neither_second (bytes_eq r.name s.name) _ new) (both_second (not (is_named s.name rs)) _ differ) i

module _ {A : Type 0} where
  -- each relation stands under its own name
  abbrev pub IsOwn : List (String A × Relation) → Type 0
  IsOwn es = AllByRecursion (λ e. string_bytes e.0 ≡ e.1.name) es

  pub named : (name : List ℕ) (es : List (String A × Relation)) → IsOwn es → list_any (λ k. bytes_eq name (string_bytes k)) (keys_of es) ≡ is_named name (created es)
  named name [] own = refl
  named name (e ∷ es) own = λ i. bytes_eq name (own.0 i) || named name es own.1 i

  first : (name : List ℕ) (es : List (String A × Relation)) → IsOwn es →
      position_or_len (λ k. bytes_eq name (string_bytes k)) (keys_of es) ≡ position_or_len (λ r. bytes_eq name r.name) (created es)
  first name [] own = refl
  first name (e ∷ es) own = λ i. cond (not (bytes_eq name (own.0 i))) (1 + first name es own.1 i) 0

  pub placed : (name : List ℕ) (es : List (String A × Relation)) → IsOwn es → position (λ k. bytes_eq name (string_bytes k)) (keys_of es) ≡ place_of name (created es)
  placed name es own =
      let as_long : length (keys_of es) ≡ length (created es) = length-map es (λ e. e.0) ∙ sym (length-map es (λ e. e.1)) in
      λ i. cond (nat_lt (first name es own i) (as_long i)) (Some (first name es own i)) None

  -- what the map by name says of a name
  pub found : (name : List ℕ) (es : List (String A × Relation)) (relations : List Relation) (answer : Bool) → IsOwn es → created es ≡ relations →
      answer ≡ is_some (lookup (λ k. bytes_eq name (string_bytes k)) es) → answer ≡ is_named name relations
  found name es relations answer own seen is =
      is ∙ (is_some-lookup (λ k. bytes_eq name (string_bytes k)) es ∙ (named name es own ∙ ap (is_named name) seen))

  pub place : (name : List ℕ) (es : List (String A × Relation)) (relations : List Relation) (answer : Option ℕ) → IsOwn es → created es ≡ relations →
      answer ≡ position (λ k. bytes_eq name (string_bytes k)) (keys_of es) → answer ≡ place_of name relations
  place name es relations answer own seen is = is ∙ (placed name es own ∙ ap (place_of name) seen)

  -- a new name goes last
  pub inserted : (eq : String A → String A → Bool) (k : String A) (r : Relation) (es : List (String A × Relation)) →
      ((j : String A) → eq k j ≡ bytes_eq (string_bytes k) (string_bytes j)) → IsOwn es → string_bytes k ≡ r.name → is_named r.name (created es) ≡ false →
      insert_entry eq es k r ≡ es ++ (k, r) ∷ []
  inserted eq k r [] by_bytes own same new = refl
  inserted eq k r (e ∷ es) by_bytes own same new =
      let other : eq k e.0 ≡ false = by_bytes e.0 ∙ ((λ i. bytes_eq (same i) (own.0 i)) ∙ neither_first (bytes_eq r.name e.1.name) _ new) in
      ap (λ b. if b then (e.0, r) ∷ es else e ∷ insert_entry eq es k r) other ∙ ap (λ l. e ∷ l) (inserted eq k r es by_bytes own.1 same (neither_second (bytes_eq r.name e.1.name) _ new))

  own_more : (k : String A) (r : Relation) (es : List (String A × Relation)) → IsOwn es → string_bytes k ≡ r.name → IsOwn (es ++ (k, r) ∷ [])
  own_more k r [] own same = (same, tt)
  own_more k r (e ∷ es) own same = (own.0, own_more k r es own.1 same)

  created_more : (k : String A) (r : Relation) (es : List (String A × Relation)) → created (es ++ (k, r) ∷ []) ≡ created es ++ r ∷ []
  created_more k r [] = refl
  created_more k r (e ∷ es) = ap (λ l. e.1 ∷ l) (created_more k r es)

  -- a new relation goes last, and all stand under their own names as before
  pub added : (eq : String A → String A → Bool) (k : String A) (r : Relation) (es now : List (String A × Relation)) (old : List Relation) →
      ((j : String A) → eq k j ≡ bytes_eq (string_bytes k) (string_bytes j)) → IsByName es → created es ≡ old → string_bytes k ≡ r.name → is_named r.name old ≡ false →
      length old < 2 ^ 32 - 1 → now ≡ insert_entry eq es k r → IsByName now × (created now ≡ old ++ r ∷ [])
  added eq k r es now old by_bytes sound seen same new few is =
      let none : is_named r.name (created es) ≡ false = ap (is_named r.name) seen ∙ new in
      let last : now ≡ es ++ (k, r) ∷ [] = is ∙ inserted eq k r es by_bytes sound.own same none in
      let all : IsByName (es ++ (k, r) ∷ []) = record {
        own = own_more k r es sound.own same;
        differ = ap names_differ (created_more k r es) ∙ apart (created es) r none sound.differ;
        few = let many : length (es ++ (k, r) ∷ []) ≡ length es + 1 = length-append es ((k, r) ∷ []) in
            let as_long : length es ≡ length old = sym (length-map es (λ e. e.1)) ∙ ap length seen in omega arith;
      } in
      (subst IsByName (sym last) all, ap created last ∙ (created_more k r es ∙ ap (λ rs. rs ++ r ∷ []) seen))
