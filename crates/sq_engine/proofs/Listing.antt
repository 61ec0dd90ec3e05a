-- Lists by number: parts that pass a test are not more than all; members by number; tables with their changes.
use Rattle.std.proofs.Common.{◌≡◌, ℕ, zero, suc, ◌<◌, ◌≤◌, Bool, true, false, cond, List, [], ◌∷◌, length, ◌+ℤ◌, Some, refl, ap, ap₂, ◌∙◌, arith}
use Rattle.std.specs.Prelude.{slice_get}
use Rattle.std.specs.List.{filter}
use Rattle.std.proofs.lemmas.Option.{same_Some}
use borrow.Author.Differences.{ints}
use Rattle.sq_algebra.specs.ZSet.{plus, weight}
use Rattle.sq_zset.proofs.Rows.{same_weights, weight-plus, weight-zero}
use Rattle.sq_circuit.specs.Along.{each_below}
use Rattle.sq_circuit.specs.Circuits.{table_at}
use Rattle.sq_circuit.specs.Nodes.{Rows, none}
use Rattle.sq_circuit.specs.declared.circuit.Part.{Part}
use Rattle.sq_circuit.specs.declared.node.Node.{Node}
use Rattle.sq_circuit.proofs.Alongside.{each-length, each_at}

-- ---- parts that pass a test
module _ (test : Node → Bool) where
  abbrev passing : List Part → ℕ
  passing c = length (filter (λ p. test p.node) c)

  pub none_past : (c : List Part) → passing c ≤ length c
  none_past [] = omega arith
  none_past (p ∷ c) = elim (test p.node) as (λ b. length (cond b (p ∷ filter (λ p. test p.node) c) (filter (λ p. test p.node) c)) ≤ suc (length c)) [
    | true ↦ let rest = none_past c in omega arith
    | false ↦ let rest = none_past c in omega arith
  ]

-- ---- members by number
got : (zs : List Rows) (t : ℕ) (z : Rows) → slice_get zs t ≡ Some z → table_at zs t ≡ z
got [] t z is = absurd (cc is)
got (y ∷ zs) zero z is = same_Some y z is
got (y ∷ zs) (suc t) z is = got zs t z is

pub each_got : (f : ℕ → Rows) (n t : ℕ) → t < n → table_at (each_below f n) t ≡ f t
each_got f n t low = got (each_below f n) t (f t) (each_at f n t low)

pub past_tables : (zs : List Rows) (t : ℕ) → length zs ≤ t → table_at zs t ≡ none
past_tables [] t high = refl
past_tables (z ∷ zs) zero high = absurd (omega arith)
past_tables (z ∷ zs) (suc t) high = past_tables zs t (omega arith)

pub each_past : (f : ℕ → Rows) (n t : ℕ) → n ≤ t → table_at (each_below f n) t ≡ none
each_past f n t high = past_tables (each_below f n) t (let long = each-length f n in omega arith)

-- lists of tables with the same tables
pub same_tables : (xs ys : List Rows) → length xs ≡ length ys → ((t : ℕ) → t < length xs → table_at xs t ≡ table_at ys t) → xs ≡ ys
same_tables [] [] many same = refl
same_tables [] (y ∷ ys) many same = absurd (omega arith)
same_tables (x ∷ xs) [] many same = absurd (omega arith)
same_tables (x ∷ xs) (y ∷ ys) many same = ap₂ (λ z zs. z ∷ zs) (same zero (omega arith)) (same_tables xs ys (omega arith) (λ t low. same (suc t) (omega arith)))

-- ---- a table with a change
pub plus_none : (z : Rows) → plus z none ≡ z
plus_none z = same_weights (plus z none) z (λ row. let sum = weight-plus row z none in let nothing = weight-zero row in sum ∙ ap (λ w. weight row z +ℤ w) nothing ∙ omega (arith, ints))
