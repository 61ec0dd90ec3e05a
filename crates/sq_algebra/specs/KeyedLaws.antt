-- What the laws of parts say, each in a word.
--     Coarser key D      a key that the key `key` of a row tells.      SomeKey K C      a key that some rows do not have, and the cell that holds it
--     OnlySameKeys Q left right f       f has images only for two rows with the same key
--     IsSummable G part      what part gives can be summed over keys: G is abelian, and over no rows it gives zero
--     GroupMap C R U, GroupValue C R G      what is done to the rows of a group, once as a list and once as a Z-set
--     under f part      f after part
--     only_at Q c d z      z if the keys c and d are the same, and otherwise no keys
-- Statements on a map f, for each z and each list of keys cs that covers z:
--     AddsUpBy Q key G f             Σ_c f(z|c) = f(z)
--     SumsOverCovers Q key G part f     f(z) = Σ_c part c (z|c)
--     AgreesOnParts Q key part f     f(z|c) = part c (z|c)
--     ChangesByKey Q key G part f    f(z + d) - f(z) = Σ_c (part c ((z + d)|c) - part c (z|c)), if cs covers d
--     LeftPartsAddUp, RightPartsAddUp Q P R left right f      Σ_c f(y|c, z|c) = f(y, z), if cs covers y, and if it covers z
--     LeftSomePartsAddUp, RightSomePartsAddUp            the same, if some rows have no key
--     ChangesBySomeKey Q P R left right f    Δf(y, z) = Σ_c (f(y|c, Δz|c) + f(Δy|c, z|c) + f(Δy|c, Δz|c)), if cs covers Δy and Δz
--     AddsUpOverShards S key G f     Σ_s f(z|s) = f(z), over the shards s.      AddsUp G S part f     Σ_s f(part s b) = f(b)
--     AddUpIn S P R left right f     Σ_s f(y|s, z|s) = f(y, z)
use Rattle.std.specs.Prelude.{◌≡◌, ℕ, List, [], map, Option, Some, false, if◌then◌else◌}
use Rattle.std.specs.declared.cmp.Ordering.{Ordering}
use Rattle.std.specs.Ordering.{is_eq}
use Rattle.sq_algebra.specs.Listed.{first_of_each}
use Rattle.sq_algebra.specs.ZSet.{ZSet, zero, of_list, plus, minus}
use Rattle.sq_algebra.specs.Groups.{AbelianGroup, IsAbelian, z_sets, sum_over, change_of}
use Rattle.sq_algebra.specs.Operators.{cross_terms}
use Rattle.sq_algebra.specs.Keyed.{members_at, at_key, CoversOnce, at_some_key, CoversSomeOnce, Shards, cut, over_shards}

-- a place that the key of a row tells
pub record Coarser {K C : Type 0} (key : K → C) (D : Type 0) : Type 0 where
  pub place : K → D
  pub inner : C → D
  pub tells : (k : K) → place k ≡ inner (key k)

-- a key that some rows do not have, and the cell of a row that holds its key if it has one
pub record SomeKey (K C : Type 0) : Type 0 where
  pub key : K → Option C
  pub cell : K → C
  pub agrees : (k : K) (c : C) → key k ≡ Some c → cell k ≡ c

-- two rows have images only if they have the same key
abbrev pub OnlySameKeys : {J K C L : Type 0} → (C → C → Ordering) → (J → C) → (K → C) → (J → K → List L) → Type 0
OnlySameKeys {J} {K} Q left right f = (j : J) (k : K) → is_eq (Q (left j) (right k)) ≡ false → f j k ≡ []

-- the part over no rows is zero, in an abelian group
pub record IsSummable {C K A : Type 0} {R : K → K → Ordering} (G : AbelianGroup A) (part : C → ZSet K R → A) : Type 0 where
  pub laws : IsAbelian G
  pub none : (c : C) → part c (zero R) ≡ G.zero

-- what is done to the rows of a group as a list, and what is done to their Z-set; nothing comes of no rows
pub record GroupMap (C : Type 0) {K L : Type 0} (R : K → K → Ordering) (U : L → L → Ordering) : Type 0 where
  pub out : C → List K → List L
  pub part : C → ZSet K R → ZSet L U
  pub same : (c : C) (xs : List K) → of_list U (out c xs) ≡ part c (of_list R xs)
  pub none : (c : C) → out c [] ≡ []

-- the value of the rows of a group as a list, and that of their Z-set; the value of no rows is zero
pub record GroupValue (C : Type 0) {K A : Type 0} (R : K → K → Ordering) (G : AbelianGroup A) : Type 0 where
  pub value : C → List K → A
  pub part : C → ZSet K R → A
  pub same : (c : C) (xs : List K) → value c xs ≡ part c (of_list R xs)
  pub none : (c : C) → value c [] ≡ G.zero

-- the sum of the values of the groups of a list
abbrev pub sum_over_groups : {A : Type 0} → AbelianGroup A → {C K : Type 0} → (C → C → Ordering) → (K → C) → (C → List K → A) → List K → A
sum_over_groups G Q key value xs = sum_over G (λ c. value c (members_at Q key c xs)) (first_of_each Q (map key xs))

-- what f gives for what part gives
abbrev pub under : {A B C D : Type 0} → (A → B) → (C → D → A) → C → D → B
under f part c y = f (part c y)

-- z if two keys are the same, and otherwise no keys
abbrev pub only_at : {D K : Type 0} {R : K → K → Ordering} → (D → D → Ordering) → D → D → ZSet K R → ZSet K R
only_at {R = R} Q c d z = if is_eq (Q c d) then z else zero R

module _ {C : Type 0} (Q : C → C → Ordering) {K : Type 0} (key : K → C) {R : K → K → Ordering} where
  abbrev pub AddsUpBy : {A : Type 0} → AbelianGroup A → (ZSet K R → A) → Type 0
  AddsUpBy G f = (cs : List C) (z : ZSet K R) → CoversOnce Q key cs z → sum_over G (λ c. f (at_key Q key c z)) cs ≡ f z

  abbrev pub AgreesOnParts : {A : Type 0} → (C → ZSet K R → A) → (ZSet K R → A) → Type 0
  AgreesOnParts part f = (c : C) (z : ZSet K R) → f (at_key Q key c z) ≡ part c (at_key Q key c z)

  module _ {A : Type 0} (G : AbelianGroup A) (part : C → ZSet K R → A) (f : ZSet K R → A) where
    abbrev pub SumsOverCovers : Type 0
    SumsOverCovers = (cs : List C) (z : ZSet K R) → CoversOnce Q key cs z → f z ≡ sum_over G (λ c. part c (at_key Q key c z)) cs

    abbrev pub ChangesByKey : Type 0
    ChangesByKey = (cs : List C) (z d : ZSet K R) → CoversOnce Q key cs d
        → change_of (z_sets R) G f z d ≡ sum_over G (λ c. change_of (z_sets R) G (λ y. part c (at_key Q key c y)) z d) cs

module _ {C : Type 0} (Q : C → C → Ordering) {J K L : Type 0} (S : J → J → Ordering) (R : K → K → Ordering) {U : L → L → Ordering} where
  module _ (left : J → C) (right : K → C) (f : ZSet J S → ZSet K R → ZSet L U) where
    abbrev pub LeftPartsAddUp : Type 0
    LeftPartsAddUp = (cs : List C) (y : ZSet J S) (z : ZSet K R) → CoversOnce Q left cs y → sum_over (z_sets U) (λ c. f (at_key Q left c y) (at_key Q right c z)) cs ≡ f y z

    abbrev pub RightPartsAddUp : Type 0
    RightPartsAddUp = (cs : List C) (y : ZSet J S) (z : ZSet K R) → CoversOnce Q right cs z → sum_over (z_sets U) (λ c. f (at_key Q left c y) (at_key Q right c z)) cs ≡ f y z

  module _ (left : J → Option C) (right : K → Option C) (f : ZSet J S → ZSet K R → ZSet L U) where
    abbrev pub LeftSomePartsAddUp : Type 0
    LeftSomePartsAddUp = (cs : List C) (y : ZSet J S) (z : ZSet K R) → CoversSomeOnce Q left cs y
        → sum_over (z_sets U) (λ c. f (at_some_key Q left c y) (at_some_key Q right c z)) cs ≡ f y z

    abbrev pub RightSomePartsAddUp : Type 0
    RightSomePartsAddUp = (cs : List C) (y : ZSet J S) (z : ZSet K R) → CoversSomeOnce Q right cs z
        → sum_over (z_sets U) (λ c. f (at_some_key Q left c y) (at_some_key Q right c z)) cs ≡ f y z

    abbrev pub ChangesBySomeKey : Type 0
    ChangesBySomeKey = (cs : List C) (y dy : ZSet J S) (z dz : ZSet K R) → CoversSomeOnce Q left cs dy → CoversSomeOnce Q right cs dz
        → minus (f (plus y dy) (plus z dz)) (f y z)
        ≡ sum_over (z_sets U) (λ c. cross_terms f (at_some_key Q left c y) (at_some_key Q left c dy) (at_some_key Q right c z) (at_some_key Q right c dz)) cs

module _ {D : Type 0} (S : Shards D) where
  abbrev pub AddsUpOverShards : {K : Type 0} {R : K → K → Ordering} → (K → D) → {A : Type 0} → AbelianGroup A → (ZSet K R → A) → Type 0
  AddsUpOverShards {K} {R} key G f = (z : ZSet K R) → over_shards G S (λ s. f (cut S key s z)) ≡ f z

  abbrev pub AddUpIn : {J K L : Type 0} (P : J → J → Ordering) (R : K → K → Ordering) {U : L → L → Ordering}
      → (J → D) → (K → D) → (ZSet J P → ZSet K R → ZSet L U) → Type 0
  AddUpIn {J} {K} P R {U} left right f = (y : ZSet J P) (z : ZSet K R) → over_shards (z_sets U) S (λ s. f (cut S left s y) (cut S right s z)) ≡ f y z

-- what f gives for the parts of a value adds up over the shards to what it gives for the value
abbrev pub AddsUp : {A B D : Type 0} → AbelianGroup A → Shards D → (ℕ → B → B) → (B → A) → Type 0
AddsUp {B = B} G S part f = (b : B) → over_shards G S (λ s. f (part s b)) ≡ f b
