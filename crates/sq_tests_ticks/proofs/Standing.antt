-- Which nodes may stand behind the parts of a circuit that is drawn.
use Rattle.std.proofs.Common.{◌≡◌, ℕ, zero, suc, ◌<◌, ◌≤◌, Bool, true, false, ◌&&◌, List, [], ◌∷◌, ◌++◌, get_or, length, Some, refl, sym, ap, subst, ◌∙◌, arith}
use Rattle.std.specs.Prelude.{nat_lt, slice_get, IsTrue}
use Rattle.std.proofs.lemmas.Option.{slice_get-get_or, slice_get_within}
use Rattle.sq_expr.specs.Fits.{Suits, SuitsCond}
use Rattle.sq_expr.specs.Typing.{sort_of}
use Rattle.sq_expr.specs.declared.cond.Cond.{Cond}
use Rattle.sq_expr.specs.declared.expr.Expr.{Expr}
use Rattle.sq_expr.specs.declared.expr.Func.{Func}
use Rattle.sq_expr.specs.declared.expr.Func.TheVariants.{CountAll, Count, Sum, Min, Max}
use Rattle.sq_expr.specs.declared.expr.Kind.{Kind}
use Rattle.sq_expr.specs.declared.expr.Kind.TheVariants.{Bigint}
use Rattle.sq_expr.specs.declared.typing.Sort.TheVariants.{Numeric}
use Rattle.sq_ops.specs.Aggregates.{SuitsSpec}
use Rattle.sq_ops.specs.JoinLaws.{SuitsPairing}
use Rattle.sq_circuit.specs.Begun.{IsNext}
use Rattle.sq_circuit.specs.Circuits.{kinds_at, kinds_in, owner_in}
use Rattle.sq_circuit.specs.Gives.{AreWithin, CallKind, ColumnKinds, GivesKinds, GroupKinds, OfNumber, Same}
use Rattle.sq_circuit.specs.Invariant.{IsEarlier, TakesKinds, is_table, is_view}
use Rattle.sq_circuit.specs.Listed.{AsksLists, IsShort, is_loose, is_loose_in}
use Rattle.sq_circuit.specs.Nodes.{Rows, left_source, right_source}
use Rattle.sq_circuit.specs.declared.circuit.Part.{Part}
use Rattle.sq_circuit.specs.declared.node.LinearOp.TheVariants.{Keep, Project, Pad}
use Rattle.sq_circuit.specs.declared.node.Node.{Node}
use Rattle.sq_circuit.specs.declared.node.Node.TheVariants.{Linear, Join, Distinct, Aggregate, Plus, Minus}
use Rattle.sq_circuit.proofs.Alongside.{got_next}
use Rattle.sq_tests_ticks.specs.Making.{IsInput, IsRead, IsShown, grouped, joined, pairs, part_of, totalled, triples}

-- ---- columns
column_of_two : (n : ℕ) → n < 2 → slice_get pairs n ≡ Some Bigint
column_of_two zero low = refl
column_of_two (suc zero) low = refl
column_of_two (suc (suc n)) low = absurd (omega (arith, low))

column_of_four : (n : ℕ) → n < 4 → slice_get (pairs ++ pairs) n ≡ Some Bigint
column_of_four zero low = refl
column_of_four (suc zero) low = refl
column_of_four (suc (suc zero)) low = refl
column_of_four (suc (suc (suc zero))) low = refl
column_of_four (suc (suc (suc (suc n)))) low = absurd (omega (arith, low))

as_they_are : AreWithin pairs pairs
as_they_are = (Same refl, (Same refl, tt))

-- ---- a node
module _ (v : ℕ) (of_view : v < 3) (c : List Part) where
  next_if : (n : Node) (own : List Kind) (place : Bool) → is_table n ≡ false → is_view n ≡ false → IsEarlier (length c) (left_source n) → IsEarlier (length c) (right_source n) → TakesKinds n (kinds_at c) → GivesKinds n (kinds_at c) own
      → AsksLists c n place → ((z : Rows) → IsShort n place z) → IsNext 3 v c (part_of n own place v)
  next_if n own place no_table no_view left right takes gives asks short = record {
    no_table = no_table;
    no_view = no_view;
    reads = record { left = left; right = right };
    takes = takes;
    gives = gives;
    owner = refl;
    low = of_view;
    asks = asks;
    short = λ tables good sound. short _;
  }

  pub keep_next : (input : ℕ) (cond : Cond) (place : Bool) → IsInput pairs c input → SuitsCond pairs cond → IsNext 3 v c (part_of (Linear input (Keep (record { cond = cond }))) pairs place v)
  keep_next input cond place i suit = next_if (Linear input (Keep (record { cond = cond }))) pairs place refl refl i.there tt (subst (λ ks. SuitsCond ks cond) (sym i.kinds) suit) (sym i.kinds) i.list (λ _. tt)

  pub project_next : (kinds : List Kind) (input : ℕ) (e f : Expr) (place : Bool) → IsInput kinds c input → Suits kinds e → Suits kinds f → sort_of kinds e ≡ Some Numeric → sort_of kinds f ≡ Some Numeric
      → IsNext 3 v c (part_of (Linear input (Project (record { items = e ∷ f ∷ [] }))) pairs place v)
  project_next kinds input e f place i se sf ne nf = next_if (Linear input (Project (record { items = e ∷ f ∷ [] }))) pairs place refl refl i.there tt
      (subst (λ ks. Suits ks e) (sym i.kinds) se, (subst (λ ks. Suits ks f) (sym i.kinds) sf, tt))
      (OfNumber (subst (λ ks. sort_of ks e ≡ Some Numeric) (sym i.kinds) ne) refl, (OfNumber (subst (λ ks. sort_of ks f ≡ Some Numeric) (sym i.kinds) nf) refl, tt)) i.list (λ _. tt)

  pub pad_next : (input : ℕ) (place : Bool) → IsInput pairs c input → IsNext 3 v c (part_of (Linear input (Pad (record { nulls = 1 }))) triples place v)
  pad_next input place i = next_if (Linear input (Pad (record { nulls = 1 }))) triples place refl refl i.there tt tt (record { more = Bigint ∷ []; is = ap (λ ks. ks ++ Bigint ∷ []) (sym i.kinds); many = refl }) i.list (λ _. tt)

  pub distinct_next : (input : ℕ) → IsRead c input → IsNext 3 v c (part_of (Distinct input) pairs true v)
  distinct_next input i = next_if (Distinct input) pairs true refl refl i.there tt tt (sym i.kinds) (λ e. absurd (cc e)) (λ _. tt)

  pub plus_next : (left right : ℕ) → IsInput pairs c left → IsInput pairs c right → IsNext 3 v c (part_of (Plus left right) pairs true v)
  plus_next left right l r = next_if (Plus left right) pairs true refl refl l.there r.there tt
      (subst (λ ks. AreWithin ks pairs) (sym l.kinds) as_they_are, subst (λ ks. AreWithin ks pairs) (sym r.kinds) as_they_are) (l.list, r.list) (λ _. tt)

  pub minus_next : (left right : ℕ) → IsInput pairs c left → IsInput pairs c right → IsNext 3 v c (part_of (Minus left right) pairs false v)
  minus_next left right l r = next_if (Minus left right) pairs false refl refl l.there r.there tt
      (subst (λ ks. AreWithin ks pairs) (sym l.kinds) as_they_are, subst (λ ks. AreWithin ks pairs) (sym r.kinds) as_they_are) (l.list, r.list) (λ z e. absurd (cc e))

  -- ---- a join
  below_two : (n : ℕ) → n < 2 → IsTrue (nat_lt n 2)
  below_two zero low = refl
  below_two (suc zero) low = refl
  below_two (suc (suc n)) low = absurd (omega (arith, low))

  below_four : (n : ℕ) → n < 4 → IsTrue (nat_lt n 4)
  below_four zero low = refl
  below_four (suc zero) low = refl
  below_four (suc (suc zero)) low = refl
  below_four (suc (suc (suc zero))) low = refl
  below_four (suc (suc (suc (suc n)))) low = absurd (omega (arith, low))

  both_pass : (a b : Bool) → IsTrue a → IsTrue b → IsTrue (a && (b && true))
  both_pass true true s t = refl
  both_pass true false s t = absurd (cc t)
  both_pass false b s t = absurd (cc s)

  one_passes : (a : Bool) → IsTrue a → IsTrue (a && true)
  one_passes true s = refl
  one_passes false s = absurd (cc s)

  pairing_suits : (a b x y : ℕ) (m : Bool) (keep : Cond) → a < 2 → b < 2 → x < 4 → y < 4 → SuitsCond (pairs ++ pairs) keep → SuitsPairing (a ∷ []) (b ∷ []) (x ∷ y ∷ []) keep pairs pairs
  pairing_suits a b x y m keep low_a low_b low_x low_y suit = record {
    left_in_range = one_passes (nat_lt a 2) (below_two a low_a);
    right_in_range = one_passes (nat_lt b 2) (below_two b low_b);
    items_in_range = both_pass (nat_lt x 4) (nat_lt y 4) (below_four x low_x) (below_four y low_y);
    tested = suit;
  }

  pub join_next : (left right a b x y : ℕ) (m : Bool) (keep : Cond) → IsInput pairs c left → IsInput pairs c right → a < 2 → b < 2 → x < 4 → y < 4 → SuitsCond (pairs ++ pairs) keep
      → IsNext 3 v c (part_of (Join left right (joined a b x y m keep)) pairs true v)
  join_next left right a b x y m keep l r low_a low_b low_x low_y suit = next_if (Join left right (joined a b x y m keep)) pairs true refl refl l.there r.there
      (subst (λ ks. SuitsPairing (a ∷ []) (b ∷ []) (x ∷ y ∷ []) keep ks (kinds_at c right)) (sym l.kinds)
      (subst (λ ks. SuitsPairing (a ∷ []) (b ∷ []) (x ∷ y ∷ []) keep pairs ks) (sym r.kinds) (pairing_suits a b x y m keep low_a low_b low_x low_y suit)))
      (record {
        exact = pairs;
        of_columns = subst (λ ks. ColumnKinds (ks ++ kinds_at c right) (x ∷ y ∷ []) pairs) (sym l.kinds)
            (subst (λ ks. ColumnKinds (pairs ++ ks) (x ∷ y ∷ []) pairs) (sym r.kinds) (column_of_four x low_x, (column_of_four y low_y, tt)));
        within = as_they_are;
      }) (l.list, r.list) (λ z e. absurd (cc e))

  -- ---- an aggregate
  call_gives : (func : Func) (arg : ℕ) → arg < 2 → CallKind pairs func arg Bigint
  call_gives CountAll arg low = refl
  call_gives Count arg low = refl
  call_gives Sum arg low = refl
  call_gives Min arg low = column_of_two arg low
  call_gives Max arg low = column_of_two arg low

  pub groups_next : (input column : ℕ) (func : Func) (arg : ℕ) (place : Bool) → IsInput pairs c input → column < 2 → arg < 2 → SuitsSpec (grouped column func arg) pairs → IsNext 3 v c (part_of (Aggregate input (grouped column func arg)) pairs place v)
  groups_next input column func arg place i low_column low_arg suit = next_if (Aggregate input (grouped column func arg)) pairs place refl refl i.there tt (subst (SuitsSpec (grouped column func arg)) (sym i.kinds) suit)
      (subst (λ ks. GroupKinds ks (grouped column func arg) pairs) (sym i.kinds) (record {
        keys = Bigint ∷ [];
        values = Bigint ∷ [];
        is = refl;
        of_keys = (column_of_two column low_column, tt);
        of_values = (call_gives func arg low_arg, tt);
      })) i.list (λ _. tt)

  pub totals_next : (input : ℕ) (func other : Func) (arg : ℕ) (place : Bool) → IsInput pairs c input → arg < 2 → SuitsSpec (totalled func other arg) pairs → IsNext 3 v c (part_of (Aggregate input (totalled func other arg)) pairs place v)
  totals_next input func other arg place i low_arg suit = next_if (Aggregate input (totalled func other arg)) pairs place refl refl i.there tt (subst (SuitsSpec (totalled func other arg)) (sym i.kinds) suit)
      (subst (λ ks. GroupKinds ks (totalled func other arg) pairs) (sym i.kinds) (record {
        keys = [];
        values = pairs;
        is = refl;
        of_keys = tt;
        of_values = (call_gives func arg low_arg, (call_gives other arg low_arg, tt));
      })) i.list (λ _. tt)

-- ---- parts that are there
got_at : (c : List Part) (i : ℕ) (p : Part) → i < length c → p ≡ get_or c i p → slice_get c i ≡ Some p
got_at c i p low is = slice_get-get_or c i p low ∙ ap Some (sym is)

-- what tests of a place say
pub read_is : (c : List Part) (i : ℕ) (p : Part) → i < length c → p ≡ get_or c i p → p.kinds ≡ pairs → IsRead c i
read_is c i p low is kinds = record { there = low; kinds = ap kinds_in (got_at c i p low is) ∙ kinds }

pub input_is : (c : List Part) (i : ℕ) (p : Part) → i < length c → p ≡ get_or c i p → p.kinds ≡ pairs → is_loose p.node p.place ≡ false → IsInput pairs c i
input_is c i p low is kinds tight = record {
  there = low;
  kinds = ap kinds_in (got_at c i p low is) ∙ kinds;
  list = λ loose. absurd (let never : true ≡ false = sym loose ∙ ap is_loose_in (got_at c i p low is) ∙ tight in cc);
}

pub shown_is : (c : List Part) (v i : ℕ) (p : Part) → i < length c → p ≡ get_or c i p → ((w : ℕ) → p.owner ≡ Some w → w ≤ v) → IsShown c v i
shown_is c v i p low is h = record { there = low; not_later = λ w o. h w (sym (ap owner_in (got_at c i p low is)) ∙ o) }

-- a Pad at the end
pub last_padded : (c : List Part) (n : Node) (place : Bool) (v : ℕ) (d : List Part) → d ≡ c ++ part_of n triples place v ∷ [] → is_loose n place ≡ false → IsInput triples d (length c)
last_padded c n place v d is tight =
    let here : slice_get d (length c) ≡ Some (part_of n triples place v) = ap (λ ps. slice_get ps (length c)) is ∙ got_next c (part_of n triples place v) (length c) refl in
    record {
      there = slice_get_within d (length c) (part_of n triples place v) here;
      kinds = ap kinds_in here;
      list = λ loose. absurd (let never : true ≡ false = sym loose ∙ ap is_loose_in here ∙ tight in cc);
    }
