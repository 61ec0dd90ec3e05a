-- The circuits of the tests are circuits.
use Rattle.std.proofs.Common.{◌≡◌, ℕ, zero, suc, ◌<◌, ◌^◌, Bool, true, false, cond, List, [], ◌∷◌, length, Some, refl, sym, ap, subst, ◌∙◌, arith}
use Rattle.std.specs.Prelude.{slice_get, ⊤}
use Rattle.std.proofs.lemmas.Option.{same_Some}
use Rattle.sq_expr.specs.Fits.{Suits, SuitsCond}
use Rattle.sq_expr.specs.Typing.{sort_of}
use Rattle.sq_expr.specs.declared.cond.Cond.{Cond}
use Rattle.sq_expr.specs.declared.expr.Expr.{Expr}
use Rattle.sq_expr.specs.declared.expr.Kind.{Kind}
use Rattle.sq_expr.specs.declared.expr.Kind.TheVariants.{Bigint, Text}
use Rattle.sq_expr.specs.declared.typing.Sort.TheVariants.{Numeric}
use Rattle.sq_expr.proofs.Kept.{conjunction_suits}
use Rattle.sq_circuit.specs.declared.node.LinearOp.TheVariants.{Keep, Project, Pad}
use Rattle.sq_circuit.specs.Circuits.{kinds_at, whole}
use Rattle.sq_circuit.specs.Gives.{AreWithin, GivesKinds, OfNumber, Same}
use Rattle.sq_circuit.specs.Invariant.{HasWidth, IsBetween, IsEarlier, IsInOrder, IsOwned, IsPart, TakesKinds, is_table, is_view, table_count, view_count}
use Rattle.sq_circuit.specs.Listed.{AsksLists, IsListedPart, IsShort}
use Rattle.sq_circuit.specs.Nodes.{Rows, left_source, right_source}
use Rattle.sq_circuit.specs.declared.circuit.Part.{Part}
use Rattle.sq_circuit.specs.declared.node.Node.{Node}
use Rattle.sq_circuit.specs.declared.node.Node.TheVariants.{Table, Linear, Join, Distinct, Aggregate, Plus, Minus}
use Rattle.sq_circuit.proofs.Listing.{listed_circuit}
use Rattle.sq_tests_circuits.specs.Small.{IsSample, by_number, inner, numbers, small, table, totals, two_sums, view}

-- what holds of each part of a list, by its number
abbrev EachPart : (ℕ → Part → Type 0) → List Part → Type 0
EachPart P [] = ⊤
EachPart P (p ∷ ps) = P 0 p × EachPart (λ i. P (suc i)) ps

each : (P : ℕ → Part → Type 0) (c : List Part) → EachPart P c → (i : ℕ) (p : Part) → slice_get c i ≡ Some p → P i p
each P [] h i p e = absurd (cc e)
each P (q ∷ c) h zero p e = subst (λ r. P 0 r) (same_Some q p e) h.0
each P (q ∷ c) h (suc i) p e = each (λ j. P (suc j)) c h.1 i p e

-- a number is as wide as it is claimed to be
as_they_are : AreWithin numbers numbers
as_they_are = (Same refl, tt)

-- a part that may stand there, asks for lists alone, and is a table of one BIGINT if it is one
record Fine (c : List Part) (i : ℕ) (p : Part) : Type 0 where
  part : IsPart c i p
  listed : IsListedPart c i p
  kinds : (t : ℕ) → p.node ≡ Table t → p.kinds ≡ numbers

sample : (c : List Part) → length c < 2 ^ 32 → table_count c ≡ 2 → EachPart (Fine c) c → IsSample c
sample c few count fine = record {
  circuit = listed_circuit c few (λ i p e. (each (Fine c) c fine i p e).part) (λ i p e. (each (Fine c) c fine i p e).listed);
  tables = record { count = count; each = λ i p t e is. (each (Fine c) c fine i p e).kinds t is };
}

-- ---- one node
-- what is left to show of the node
pub record Fits (node : Node) (own : List Kind) (place : Bool) : Type 0 where
  pub left : IsEarlier 2 (left_source node)
  pub right : IsEarlier 2 (right_source node)
  pub order : IsBetween (length (small node own place)) (view_count (small node own place)) (small node own place) 2
      → IsInOrder (length (small node own place)) (view_count (small node own place)) (small node own place) 2 node
  pub takes : TakesKinds node (kinds_at (small node own place))
  pub width : HasWidth node (kinds_at (small node own place)) (length own)
  pub owned : IsOwned (view_count (small node own place)) (small node own place) node place (Some 0)
  pub gives : GivesKinds node (kinds_at (small node own place)) own
  pub asks : AsksLists (small node own place) node place
  pub short : (z : Rows) → IsShort node place z
  pub no_table : is_table node ≡ false
  pub no_view : is_view node ≡ false

module _ (node : Node) (own : List Kind) (place : Bool) (fits : Fits node own place) where
  abbrev parts : List Part
  parts = small node own place

  tables : table_count parts ≡ 2
  tables = ap (λ b. length (table 0 ∷ table 1 ∷ cond b (inner node own place 0 ∷ []) [])) fits.no_table

  views : view_count parts ≡ 1
  views = ap (λ b. length (cond b (inner node own place 0 ∷ view 2 own 0 ∷ []) (view 2 own 0 ∷ []))) fits.no_view

  first_table : (t : ℕ) → t < 2 → Fine parts t (table t)
  first_table t low = record {
    part = record { left_earlier = tt; right_earlier = tt; in_order = (refl, let many = tables in omega arith); takes = tt; width = tt; owned = (refl, refl) };
    listed = record { gives = tt; asks = tt; short = λ _ _. tt };
    kinds = λ _ _. refl;
  }

  pub small_sample : IsSample parts
  small_sample = sample parts (omega arith) tables (
    first_table 0 (omega arith),
    (
      first_table 1 (omega arith),
      (
        record {
          part = record {
            left_earlier = fits.left;
            right_earlier = fits.right;
            in_order = fits.order (let many = tables in omega arith, let one = views in omega arith);
            takes = fits.takes;
            width = fits.width;
            owned = fits.owned;
          };
          listed = record { gives = fits.gives; asks = fits.asks; short = λ tables _. fits.short (whole parts tables 2) };
          kinds = λ t is. absurd (let never = sym fits.no_table ∙ ap is_table is in cc);
        },
        (
          record {
            part = record {
              left_earlier = omega arith;
              right_earlier = tt;
              in_order = (let one = views in omega arith, let one = views in omega arith);
              takes = tt;
              width = refl;
              owned = record { is_view = let one = views in omega arith; left = λ w e. let same : 0 ≡ w = same_Some 0 w e in omega arith; right = tt };
            };
            listed = record { gives = refl; asks = λ e. absurd (cc e); short = λ _ _. tt };
            kinds = λ t is. absurd (cc is);
          },
          tt,
        ),
      ),
    ),
  )

-- ---- the kinds of nodes
pub keeps : (cond : Cond) → SuitsCond numbers cond → IsSample (small (Linear 0 (Keep (record { cond = cond }))) numbers true)
keeps cond h = small_sample _ numbers true (record {
  left = omega arith;
  right = tt;
  order = λ b. b;
  takes = h;
  width = refl;
  owned = record { is_view = omega arith; left = λ w e. absurd (cc e); right = tt };
  gives = refl;
  asks = λ e. absurd (cc e);
  short = λ _. tt;
  no_table = refl;
  no_view = refl;
})

pub projects : (e : Expr) → Suits numbers e → sort_of numbers e ≡ Some Numeric → IsSample (small (Linear 0 (Project (record { items = e ∷ [] }))) numbers true)
projects e h sort = small_sample _ numbers true (record {
  left = omega arith;
  right = tt;
  order = λ b. b;
  takes = (h, tt);
  width = refl;
  owned = record { is_view = omega arith; left = λ w e. absurd (cc e); right = tt };
  gives = (OfNumber sort refl, tt);
  asks = λ e. absurd (cc e);
  short = λ _. tt;
  no_table = refl;
  no_view = refl;
})

pub pads : IsSample (small (Linear 0 (Pad (record { nulls = 1 }))) (Bigint ∷ Text ∷ []) true)
pads = small_sample _ (Bigint ∷ Text ∷ []) true (record {
  left = omega arith;
  right = tt;
  order = λ b. b;
  takes = tt;
  width = refl;
  owned = record { is_view = omega arith; left = λ w e. absurd (cc e); right = tt };
  gives = record { more = Text ∷ []; is = refl; many = refl };
  asks = λ e. absurd (cc e);
  short = λ _. tt;
  no_table = refl;
  no_view = refl;
})

pub joins : IsSample (small (Join 0 1 by_number) (Bigint ∷ Bigint ∷ []) true)
joins = small_sample _ (Bigint ∷ Bigint ∷ []) true (record {
  left = omega arith;
  right = omega arith;
  order = λ b. b;
  takes = record { left_in_range = refl; right_in_range = refl; items_in_range = refl; tested = conjunction_suits (Bigint ∷ Bigint ∷ []) [] tt };
  width = refl;
  owned = record { is_view = omega arith; left = λ w e. absurd (cc e); right = λ w e. absurd (cc e) };
  gives = record { exact = Bigint ∷ Bigint ∷ []; of_columns = (refl, (refl, tt)); within = (Same refl, (Same refl, tt)) };
  asks = (λ e. absurd (cc e), λ e. absurd (cc e));
  short = λ _ e. absurd (cc e);
  no_table = refl;
  no_view = refl;
})

pub distincts : IsSample (small (Distinct 0) numbers true)
distincts = small_sample _ numbers true (record {
  left = omega arith;
  right = tt;
  order = λ b. b;
  takes = tt;
  width = refl;
  owned = record { is_view = omega arith; left = λ w e. absurd (cc e); right = tt };
  gives = refl;
  asks = λ e. absurd (cc e);
  short = λ _. tt;
  no_table = refl;
  no_view = refl;
})

pub aggregates : IsSample (small (Aggregate 0 totals) (Bigint ∷ Bigint ∷ []) true)
aggregates = small_sample _ (Bigint ∷ Bigint ∷ []) true (record {
  left = omega arith;
  right = tt;
  order = λ b. b;
  takes = refl;
  width = refl;
  owned = record { is_view = omega arith; left = λ w e. absurd (cc e); right = tt };
  gives = record { keys = []; values = Bigint ∷ Bigint ∷ []; is = refl; of_keys = tt; of_values = (refl, (refl, tt)) };
  asks = λ e. absurd (cc e);
  short = λ _. tt;
  no_table = refl;
  no_view = refl;
})

pub sums : IsSample (small (Plus 0 1) numbers true)
sums = small_sample _ numbers true (record {
  left = omega arith;
  right = omega arith;
  order = λ b. b;
  takes = tt;
  width = (refl, refl);
  owned = record { is_view = omega arith; left = λ w e. absurd (cc e); right = λ w e. absurd (cc e) };
  gives = (as_they_are, as_they_are);
  asks = (λ e. absurd (cc e), λ e. absurd (cc e));
  short = λ _. tt;
  no_table = refl;
  no_view = refl;
})

pub differences : IsSample (small (Minus 0 1) numbers false)
differences = small_sample _ numbers false (record {
  left = omega arith;
  right = omega arith;
  order = λ b. b;
  takes = tt;
  width = (refl, refl);
  owned = record { is_view = omega arith; left = λ w e. absurd (cc e); right = λ w e. absurd (cc e) };
  gives = (as_they_are, as_they_are);
  asks = (λ e. absurd (cc e), λ e. absurd (cc e));
  short = λ _ e. absurd (cc e);
  no_table = refl;
  no_view = refl;
})

-- ---- two sums
two_tables : (t : ℕ) → t < 2 → Fine two_sums t (table t)
two_tables t low = record {
  part = record { left_earlier = tt; right_earlier = tt; in_order = (refl, low); takes = tt; width = tt; owned = (refl, refl) };
  listed = record { gives = tt; asks = tt; short = λ _ _. tt };
  kinds = λ _ _. refl;
}

pub two_sums_sample : IsSample two_sums
two_sums_sample = sample two_sums (omega arith) refl (
  two_tables 0 (omega arith),
  (
    two_tables 1 (omega arith),
    (
      record {
        part = record { left_earlier = omega arith; right_earlier = omega arith; in_order = (omega arith, omega arith); takes = tt; width = (refl, refl); owned = record { is_view = omega arith; left = λ w e. absurd (cc e); right = λ w e. absurd (cc e) } };
        listed = record { gives = (as_they_are, as_they_are); asks = (λ e. absurd (cc e), λ e. absurd (cc e)); short = λ _ _. tt };
        kinds = λ t is. absurd (cc is);
      },
      (
        record {
          part = record { left_earlier = omega arith; right_earlier = omega arith; in_order = (omega arith, omega arith); takes = tt; width = (refl, refl); owned = record { is_view = omega arith; left = λ w e. absurd (cc e); right = λ w e. absurd (cc e) } };
          listed = record { gives = (as_they_are, as_they_are); asks = (λ e. absurd (cc e), λ e. absurd (cc e)); short = λ _ _. tt };
          kinds = λ t is. absurd (cc is);
        },
        (
          record {
            part = record { left_earlier = omega arith; right_earlier = tt; in_order = (refl, omega arith); takes = tt; width = refl; owned = record { is_view = omega arith; left = λ w e. let same : 0 ≡ w = same_Some 0 w e in omega arith; right = tt } };
            listed = record { gives = refl; asks = λ e. absurd (cc e); short = λ _ _. tt };
            kinds = λ t is. absurd (cc is);
          },
          (
            record {
              part = record { left_earlier = omega arith; right_earlier = tt; in_order = (refl, omega arith); takes = tt; width = refl; owned = record { is_view = omega arith; left = λ w e. let same : 1 ≡ w = same_Some 1 w e in omega arith; right = tt } };
              listed = record { gives = refl; asks = λ e. absurd (cc e); short = λ _ _. tt };
              kinds = λ t is. absurd (cc is);
            },
            tt,
          ),
        ),
      ),
    ),
  ),
)
