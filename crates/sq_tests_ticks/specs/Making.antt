-- Circuits that are drawn: three tables, nodes for three views one by one, and the views.
--     pairs, triples        the kinds of two BIGINTs, and of three
--     part_of n own place v      the part of the node n, which belongs to the view v
--     IsInput own c i       the node i has rows of these kinds, and they are a list where it is sound
--     IsRead c i            it has rows of two BIGINTs, which need be no list
--     joined, grouped, totalled  the operators of the drawn joins and aggregates
--     IsShown c v i         the view v may show the node i.      view_part c v i     the part that does
use Rattle.std.specs.Prelude.{◌≡◌, ℕ, ◌<◌, ◌≤◌, Bool, true, false, List, [], ◌∷◌, length, Some, None}
use Rattle.sq_expr.specs.declared.cond.Cond.{Cond}
use Rattle.sq_expr.specs.declared.expr.Func.{Func}
use Rattle.sq_expr.specs.declared.expr.Kind.{Kind}
use Rattle.sq_expr.specs.declared.expr.Kind.TheVariants.{Bigint}
use Rattle.sq_ops.specs.declared.aggregate.AggSpec.{AggSpec}
use Rattle.sq_ops.specs.declared.bilinear.Pairing.{Pairing}
use Rattle.sq_circuit.specs.Circuits.{kinds_at, owner_at}
use Rattle.sq_circuit.specs.Listed.{HasList}
use Rattle.sq_circuit.specs.declared.circuit.Part.{Part}
use Rattle.sq_circuit.specs.declared.node.Node.{Node}
use Rattle.sq_circuit.specs.declared.node.Node.TheVariants.{Table, View}

abbrev pub pairs : List Kind
pairs = Bigint ∷ Bigint ∷ []

abbrev pub triples : List Kind
triples = Bigint ∷ Bigint ∷ Bigint ∷ []

abbrev pub part_of : Node → List Kind → Bool → ℕ → Part
part_of n own place v = record { node = n; kinds = own; place = place; owner = Some v }

pub record IsInput (own : List Kind) (c : List Part) (i : ℕ) : Type 0 where
  pub there : i < length c
  pub kinds : kinds_at c i ≡ own
  pub list : HasList c i

pub record IsRead (c : List Part) (i : ℕ) : Type 0 where
  pub there : i < length c
  pub kinds : kinds_at c i ≡ pairs

pub record IsShown (c : List Part) (v i : ℕ) : Type 0 where
  pub there : i < length c
  pub not_later : (w : ℕ) → owner_at c i ≡ Some w → w ≤ v

-- the views 0, 1 and 2 may show these nodes
pub record AreShown (c : List Part) (first second third : ℕ) : Type 0 where
  pub by_first : IsShown c 0 first
  pub by_second : IsShown c 1 second
  pub by_third : IsShown c 2 third

abbrev pub table_part : ℕ → Part
table_part t = record { node = Table t; kinds = pairs; place = false; owner = None }

abbrev pub view_part : List Part → ℕ → ℕ → Part
view_part c v i = record { node = View i v; kinds = kinds_at c i; place = false; owner = Some v }

-- the rows of both sides with the same value in a column of each
abbrev pub joined : ℕ → ℕ → ℕ → ℕ → Bool → Cond → Pairing
joined left right first second nulls_match keep = record { left = left ∷ []; right = right ∷ []; nulls_match = nulls_match; keep = keep; items = first ∷ second ∷ [] }

-- groups by one column with one call, and all rows with two calls
abbrev pub grouped : ℕ → Func → ℕ → AggSpec
grouped column func arg = record { group = column ∷ []; calls = record { func = func; arg = arg } ∷ []; global = false }

abbrev pub totalled : Func → Func → ℕ → AggSpec
totalled func other arg = record { group = []; calls = record { func = func; arg = arg } ∷ record { func = other; arg = arg } ∷ []; global = true }
