-- The walk over the relations that looks for a table.
use Rattle.std.proofs.Common.{◌≡◌, ℕ, suc, ◌+◌, Bool, true, false, if◌then◌else◌, List, ◌∷◌, drop, bytes_eq, Option, Some, refl, sym, ap, ◌∙◌, arith}
use Rattle.std.proofs.Math.Seq.{drop-cons}
use Rattle.std.proofs.lemmas.Option.{slice_get_within, get_or_from_slice_get}
use Rattle.std.specs.Prelude.{slice_get}
use Rattle.std.specs.List.{enumerate_from, find}
use Rattle.sq_catalog.specs.declared.relation.Relation.{Relation}
use Rattle.sq_catalog.specs.Sorts.{is_table, tables_of}
use Rattle.sq_lines.specs.Tables.{Numbered}

-- the table with this name among relations whose tables are counted from k
abbrev pub ahead : List ℕ → ℕ → List Relation → Option Numbered
ahead name k relations = find (λ t. bytes_eq name t.1.name) (enumerate_from k (tables_of relations))

at_place : {A : Type 0} (xs : List A) (i : ℕ) (x : A) → slice_get xs i ≡ Some x → drop i xs ≡ x ∷ drop (i + 1) xs
at_place xs i x is =
    let next : suc i ≡ i + 1 = omega arith in
    drop-cons xs i x (slice_get_within xs i x is) ∙ (λ j. get_or_from_slice_get xs i x x is j ∷ drop (next j) xs)

-- what is ahead of a relation that is a table or not, and has the name or not
one_ahead : (name : List ℕ) (k : ℕ) (r : Relation) (rs : List Relation) (table named : Bool) → is_table r.kind ≡ table → bytes_eq name r.name ≡ named →
    ahead name k (r ∷ rs) ≡ (if table then (if named then Some (k, r) else ahead name (k + 1) rs) else ahead name k rs)
one_ahead name k r rs table named is_one is_named =
    ap (λ b. find (λ t. bytes_eq name t.1.name) (enumerate_from k (if b then r ∷ tables_of rs else tables_of rs))) is_one ∙ by_kind table
  where
    by_kind : (b : Bool) → find (λ t. bytes_eq name t.1.name) (enumerate_from k (if b then r ∷ tables_of rs else tables_of rs)) ≡ (if b then (if named then Some (k, r) else ahead name (k + 1) rs) else ahead name k rs)
    by_kind true = ap (λ b. if b then Some (k, r) else ahead name (k + 1) rs) is_named
    by_kind false = refl

module _ (name : List ℕ) (k i : ℕ) (relations : List Relation) (r : Relation) (answer : Option Numbered) where
  turn : slice_get relations i ≡ Some r → ahead name k (drop i relations) ≡ answer → (table named : Bool) → is_table r.kind ≡ table → bytes_eq name r.name ≡ named →
      (if table then (if named then Some (k, r) else ahead name (k + 1) (drop (i + 1) relations)) else ahead name k (drop (i + 1) relations)) ≡ answer
  turn is so_far table named is_one is_named =
      sym (ap (ahead name k) (at_place relations i r is) ∙ one_ahead name k r (drop (i + 1) relations) table named is_one is_named) ∙ so_far

  pub table_met : slice_get relations i ≡ Some r → ahead name k (drop i relations) ≡ answer → is_table r.kind ≡ true → bytes_eq name r.name ≡ true → Some (k, r) ≡ answer
  table_met is so_far is_one is_named = turn is so_far true true is_one is_named

  pub table_passed : slice_get relations i ≡ Some r → ahead name k (drop i relations) ≡ answer → is_table r.kind ≡ true → bytes_eq name r.name ≡ false → ahead name (k + 1) (drop (i + 1) relations) ≡ answer
  table_passed is so_far is_one is_other = turn is so_far true false is_one is_other

  pub view_passed : slice_get relations i ≡ Some r → ahead name k (drop i relations) ≡ answer → is_table r.kind ≡ false → ahead name k (drop (i + 1) relations) ≡ answer
  view_passed is so_far is_view = turn is so_far false _ is_view refl
