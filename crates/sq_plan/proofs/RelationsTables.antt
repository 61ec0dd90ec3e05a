-- The tables of a program as nodes, one by one, and lists that are gone through.
use Rattle.std.proofs.Common.{◌≡◌, Bool, ℕ, zero, suc, ◌+◌, ◌≤◌, List, [], ◌∷◌, ◌++◌, drop, length, refl, sym, ap, ◌∙◌, append_assoc, add-one, arith}
use Rattle.std.specs.Prelude.{Some, slice_get}
use Rattle.std.specs.List.{cons_option}
use Rattle.std.proofs.lemmas.List.{append-nil, length-append}
use Rattle.std.proofs.lemmas.Option.{same_Some}
use Rattle.sq_bridge.specs.Views.{first_table}
use Rattle.sq_catalog.specs.declared.relation.Relation.{Relation}
use Rattle.sq_catalog.specs.declared.relation.RelationKind.{RelationKind}
use Rattle.sq_catalog.specs.declared.relation.RelationKind.TheVariants.{Table, View}
use Rattle.sq_circuit.specs.Circuits.{table_at}
use Rattle.sq_circuit.specs.Nodes.{Rows}
use Rattle.sq_circuit.specs.declared.circuit.Part.{Part}
use Rattle.sq_expr.specs.declared.expr.Kind.{Kind}
use Rattle.sq_typed.specs.Fit.{kinds_of}
use Rattle.sq_plan.specs.Program.{if_table, table_kinds, table_part, tables_from}

-- ---- lists
here_suc : {A : Type 0} (xs : List A) (i : ℕ) (x : A) → slice_get xs i ≡ Some x → drop i xs ≡ x ∷ drop (suc i) xs
here_suc [] i x e = absurd (cc e)
here_suc (y ∷ xs) zero x e = ap (λ z. z ∷ xs) (same_Some y x e)
here_suc (y ∷ xs) (suc i) x e = here_suc xs i x e

pub drop_here : {A : Type 0} (xs : List A) (i : ℕ) (x : A) → slice_get xs i ≡ Some x → drop i xs ≡ x ∷ drop (i + 1) xs
drop_here xs i x e = here_suc xs i x e ∙ ap (λ n. x ∷ drop n xs) (sym (add-one i))

pub drop_past : {A : Type 0} (xs : List A) (i : ℕ) → length xs ≤ i → drop i xs ≡ []
drop_past [] zero le = refl
drop_past [] (suc i) le = refl
drop_past (x ∷ xs) zero le = absurd (omega arith)
drop_past (x ∷ xs) (suc i) le = drop_past xs i (omega arith)

drop_suc : {A : Type 0} (xs : List A) (n : ℕ) → drop 1 (drop n xs) ≡ drop (suc n) xs
drop_suc [] zero = refl
drop_suc [] (suc n) = refl
drop_suc (x ∷ xs) zero = refl
drop_suc (x ∷ xs) (suc n) = drop_suc xs n

pub drop_next : {A : Type 0} (xs : List A) (n : ℕ) → drop 1 (drop n xs) ≡ drop (n + 1) xs
drop_next xs n = drop_suc xs n ∙ ap (λ m. drop m xs) (sym (add-one n))

pub first_left : {A : Type 0} (xs rest : List A) (n : ℕ) (x : A) → drop n xs ≡ x ∷ rest → slice_get xs n ≡ Some x
first_left [] rest zero x e = absurd (cc e)
first_left [] rest (suc n) x e = absurd (cc e)
first_left (y ∷ xs) rest zero x e = ap (λ (zs : List _). slice_get zs 0) e
first_left (y ∷ xs) rest (suc n) x e = first_left xs rest n x e

-- ---- the kinds of tables
pub kinds_first : (r : Relation) (rs : List Relation) → r.kind ≡ Table → table_kinds (r ∷ rs) ≡ kinds_of r ∷ table_kinds rs
kinds_first r rs is = ap (λ k. cons_option (if_table k (kinds_of r)) (table_kinds rs)) is

pub kinds_later : (r : Relation) (rs : List Relation) (printed : Bool) → r.kind ≡ View printed → table_kinds (r ∷ rs) ≡ table_kinds rs
kinds_later r rs printed is = ap (λ k. cons_option (if_table k (kinds_of r)) (table_kinds rs)) is

pub tables_few : (rs : List Relation) → length (table_kinds rs) ≤ length rs
tables_few [] = omega arith
tables_few (r ∷ rs) = omega (arith, at_most r.kind, tables_few rs)
  where
    at_most : (k : RelationKind) → length (cons_option (if_table k (kinds_of r)) (table_kinds rs)) ≤ length (table_kinds rs) + 1
    at_most Table = omega arith
    at_most (View printed) = omega arith

-- ---- their nodes
pub tables_many : (n : ℕ) (kss : List (List Kind)) → length (tables_from n kss) ≡ length kss
tables_many n [] = refl
tables_many n (ks ∷ kss) = ap suc (tables_many (suc n) kss)

pub tables_at : (kss : List (List Kind)) (n t m : ℕ) (ks : List Kind) → slice_get kss t ≡ Some ks → m ≡ n + t → slice_get (tables_from n kss) t ≡ Some (table_part m ks)
tables_at [] n t m ks e is = absurd (cc e)
tables_at (x ∷ kss) n zero m ks e is = let same : n ≡ m = omega arith in ap (λ k. Some (table_part k x)) same ∙ ap (λ k. Some (table_part m k)) (same_Some x ks e)
tables_at (x ∷ kss) n (suc t) m ks e is = tables_at kss (suc n) t m ks e (omega arith)

-- the nodes so far, and those of one more relation and the others
pub tables_more : (r : Relation) (rs : List Relation) (n : ℕ) → tables_from n (table_kinds (r ∷ rs)) ≡ tables_from n (table_kinds (r ∷ [])) ++ tables_from (n + length (table_kinds (r ∷ []))) (table_kinds rs)
tables_more r rs n = by_kind r.kind
  where
    by_kind : (k : RelationKind) → tables_from n (cons_option (if_table k (kinds_of r)) (table_kinds rs)) ≡ tables_from n (cons_option (if_table k (kinds_of r)) []) ++ tables_from (n + length (cons_option (if_table k (kinds_of r)) [])) (table_kinds rs)
    by_kind Table = ap (λ m. table_part n (kinds_of r) ∷ tables_from m (table_kinds rs)) (sym (add-one n))
    by_kind (View printed) = let same : n ≡ n + 0 = omega arith in ap (λ m. tables_from m (table_kinds rs)) same

-- one relation, a table or a view
pub one_table : (parts next : List Part) (r : Relation) (part : Part) → r.kind ≡ Table → next ≡ parts ++ part ∷ [] → part ≡ table_part (length parts) (kinds_of r) → next ≡ parts ++ tables_from (length parts) (table_kinds (r ∷ []))
one_table parts next r part kind is same = is ∙ ap (λ x. parts ++ x ∷ []) same ∙ ap (λ kss. parts ++ tables_from (length parts) kss) (sym (kinds_first r [] kind))

pub no_table : (parts : List Part) (r : Relation) (printed : Bool) → r.kind ≡ View printed → parts ≡ parts ++ tables_from (length parts) (table_kinds (r ∷ []))
no_table parts r printed kind = sym (append-nil parts) ∙ ap (λ kss. parts ++ tables_from (length parts) kss) (sym (kinds_later r [] printed kind))

-- the loop over the relations: the nodes so far and those of the relations that are left are all
pub record TablesSoFar (relations : List Relation) (i : ℕ) (parts : List Part) : Type 0 where
  pub all : parts ++ tables_from (length parts) (table_kinds (drop i relations)) ≡ tables_from 0 (table_kinds relations)
  pub few : length parts ≤ i

pub tables_begin : (relations : List Relation) → TablesSoFar relations 0 []
tables_begin relations = record { all = refl; few = omega arith }

pub tables_go_on : (relations : List Relation) (i : ℕ) (parts next : List Part) (r : Relation) → slice_get relations i ≡ Some r → TablesSoFar relations i parts →
    next ≡ parts ++ tables_from (length parts) (table_kinds (r ∷ [])) → TablesSoFar relations (i + 1) next
tables_go_on relations i parts next r at so is =
    let own = tables_from (length parts) (table_kinds (r ∷ [])) in
    let later = table_kinds (drop (i + 1) relations) in
    let many : length next ≡ length parts + length (table_kinds (r ∷ [])) = ap length is ∙ length-append parts own ∙ ap (λ n. length parts + n) (tables_many (length parts) (table_kinds (r ∷ []))) in
    record {
      all =
          (λ j. is j ++ tables_from (many j) later)
          ∙ append_assoc parts own (tables_from (length parts + length (table_kinds (r ∷ []))) later)
          ∙ ap (λ xs. parts ++ xs) (sym (tables_more r (drop (i + 1) relations) (length parts)) ∙ ap (λ rs. tables_from (length parts) (table_kinds rs)) (sym (drop_here relations i r at)))
          ∙ so.all;
      few = let one = tables_few (r ∷ []) in omega (arith, many, one, so.few);
    }

pub tables_end : (relations : List Relation) (i : ℕ) (parts : List Part) → length relations ≤ i → TablesSoFar relations i parts → parts ≡ tables_from 0 (table_kinds relations)
tables_end relations i parts past so =
    sym (append-nil parts) ∙ ap (λ rs. parts ++ tables_from (length parts) (table_kinds rs)) (sym (drop_past relations i past)) ∙ so.all

-- ---- their rows
pub first_of : (tables : List Rows) (t : ℕ) → first_table (drop t tables) ≡ table_at tables t
first_of [] zero = refl
first_of [] (suc t) = refl
first_of (z ∷ tables) zero = refl
first_of (z ∷ tables) (suc t) = first_of tables t
