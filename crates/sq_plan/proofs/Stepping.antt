-- Steps of several nodes.
use Rattle.std.proofs.Common.{◌≡◌, ℕ, ◌+◌, ◌<◌, ◌≤◌, ◌^◌, Bool, true, false, ◌&&◌, ◌||◌, List, [], ◌∷◌, ◌++◌, length, Some, refl, sym, ap, ap₂, subst, ◌∙◌, arith}
use Rattle.sq_algebra.specs.Operators.{distinct}
use Rattle.sq_algebra.specs.ZSet.{minus, plus}
use Rattle.sq_zset.proofs.RowOperators.{distinct-distinct}
use Rattle.sq_ast.specs.declared.query.SetOp.TheVariants.{UnionAll, Union, Except}
use Rattle.sq_expr.specs.declared.cond.Cond.{Cond}
use Rattle.sq_expr.specs.declared.cond.Cond.TheVariants as cond
use Rattle.sq_expr.specs.declared.expr.Kind.{Kind}
use Rattle.sq_bridge.specs.Joins.{same_rows}
use Rattle.sq_bridge.specs.Nodes.{Node, lists_too_many}
use Rattle.sq_bridge.specs.Queries.{both_of, set_result, step_node}
use Rattle.sq_bridge.specs.Rows.{kept_on_all, padded_by}
use Rattle.sq_circuit.specs.Nodes.{Rows, paired}
use Rattle.sq_circuit.specs.declared.node.LinearOp.TheVariants.{Keep, Pad}
use Rattle.sq_circuit.specs.Gives.{AreWithin}
use Rattle.sq_circuit.specs.declared.circuit.Part.{Part}
use Rattle.sq_circuit.specs.declared.node.Node.TheVariants.{Linear, Distinct, Plus}
use Rattle.sq_typed.specs.Fit.{are_matched, wider_kinds}
use Rattle.sq_typed.proofs.FitQueries.{length_widest}
use Rattle.std.specs.Prelude.{ℤ, Option, is_some}
use Rattle.std.specs.List.{flat_map}
use Rattle.sq_algebra.specs.ZSet.{entries}
use Rattle.sq_expr.specs.Bigint.{first_not_bigint}
use Rattle.sq_ops.specs.Extensions.{first_value_outside}
use Rattle.sq_plan.specs.Drafts.{Adds, Appends, CanAdd, IsDraft, IsNext, IsNode, IsThere, faulty_behind, kinds_of, worth_behind, worth_of}
use Rattle.sq_plan.specs.Steps.{Becomes, HasEachOnce, common_of, node_of, rest_of}
use Rattle.sq_plan.specs.declared.draft.Draft.{Draft}
use Rattle.sq_plan.proofs.Adding.{adds_as, adds_beside, adds_then, appended_kinds, appended_length, appended_there, appended_worth, kinds_stay, stays_node, worth_stays}
use Rattle.sq_plan.proofs.Giving.{left_within, matched_length, right_within}
use Rattle.sq_plan.proofs.Nexts.{once_next, plus_next}
use Rattle.sq_plan.proofs.Primitives.{or_false}

pub length_wider : (ks ls : List Kind) → length (wider_kinds ks ls) ≡ length ks
length_wider ks ls = length_widest (ls ∷ []) ks

-- a further step, said over what was there before
pub adds_seq : (n m : ℕ) (d e g : Draft) (k i : ℕ) (ks ls ls2 : List Kind) (y z z2 : List Rows → Rows) (f h h2 : List Rows → Bool) →
    Adds n d e k ks y f → ls ≡ ls2 → ((tables : List Rows) → z tables ≡ z2 tables) → ((tables : List Rows) → h tables ≡ h2 tables) → Adds m e g i ls z h → Adds (n + m) d g i ls2 z2 (λ tables. f tables || h2 tables)
adds_seq n m d e g k i ks ls ls2 y z z2 f h h2 a same worth fault b = adds_then n m d e g k i ks ls2 y z2 f h2 a (adds_as m e g i ls ls2 z z2 h h2 same worth fault b)

pub becomes : (n m : ℕ) (d e : Draft) (i : ℕ) (ks ls : List Kind) (z : List Rows → Rows) (f : List Rows → Bool) (M : List Rows → Node) → n ≤ m → ks ≡ ls →
    ((tables : List Rows) → (M tables).width ≡ length ls) → ((tables : List Rows) → z tables ≡ (M tables).rows) → ((tables : List Rows) → f tables ≡ (M tables).fault) → Adds n d e i ks z f → Becomes m d e i ls M
becomes n m d e i ks ls z f M le same width rows fault a =
    let b = adds_as n d e i ks ls z (λ tables. (M tables).rows) f (λ tables. (M tables).fault) same rows fault a in
    record {
      adds = record { view = b.view; more = b.more; is = b.is; no_tables = b.no_tables; owned = b.owned; few = omega (arith, b.few, le); draft = b.draft; low = b.low; kinds_are = b.kinds_are; worth = b.worth; blame = b.blame };
      width = width;
    }

-- ---- single nodes
abbrev none_tested : List ℤ
none_tested = []

flat_none : {A : Type 0} (xs : List A) → flat_map (λ (x : A). none_tested) xs ≡ []
flat_none [] = refl
flat_none (x ∷ xs) = flat_none xs

none_outside : (z : Rows) → is_some (first_value_outside (λ row. []) z) ≡ false
none_outside z = ap (λ ns. is_some (first_not_bigint ns)) (flat_none (entries z))

pub keep_adds : (d e : Draft) (input : ℕ) (conds : List Cond) (kinds : List Kind) (place : Bool) (owner : Option ℕ) (i : ℕ) → kinds ≡ kinds_of d input →
    Adds 1 d e i kinds (worth_behind d (record { node = Linear input (Keep (record { cond = cond.All conds })); kinds = kinds; place = place; owner = owner }))
    (faulty_behind d (record { node = Linear input (Keep (record { cond = cond.All conds })); kinds = kinds; place = place; owner = owner })) →
    Adds 1 d e i (kinds_of d input) (λ tables. kept_on_all conds (worth_of d input tables)) (λ tables. place && lists_too_many (kept_on_all conds (worth_of d input tables)))
keep_adds d e input conds kinds place owner i same a =
    adds_as 1 d e i kinds (kinds_of d input) _ (λ tables. kept_on_all conds (worth_of d input tables)) _ (λ tables. place && lists_too_many (kept_on_all conds (worth_of d input tables))) same (λ tables. refl)
    (λ tables. ap (λ x. (place && lists_too_many (kept_on_all conds (worth_of d input tables))) || x) (none_outside (worth_of d input tables)) ∙ or_false (place && lists_too_many (kept_on_all conds (worth_of d input tables)))) a

pub pad_adds : (d e : Draft) (input : ℕ) (nulls : ℕ) (more kinds : List Kind) (owner : Option ℕ) (i : ℕ) → kinds ≡ kinds_of d input ++ more → nulls ≡ length more →
    Adds 1 d e i kinds (worth_behind d (record { node = Linear input (Pad (record { nulls = nulls })); kinds = kinds; place = false; owner = owner }))
    (faulty_behind d (record { node = Linear input (Pad (record { nulls = nulls })); kinds = kinds; place = false; owner = owner })) →
    Adds 1 d e i (kinds_of d input ++ more) (λ tables. padded_by (length more) (worth_of d input tables)) (λ tables. false)
pad_adds d e input nulls more kinds owner i same many a =
    adds_as 1 d e i kinds (kinds_of d input ++ more) _ (λ tables. padded_by (length more) (worth_of d input tables)) _ (λ tables. false)
    same (λ tables. ap (λ n. padded_by n (worth_of d input tables)) many) (λ tables. none_outside (worth_of d input tables)) a

-- ---- set operations
module _ (d : Draft) (left right : ℕ) (kinds : List Kind) (is : kinds ≡ wider_kinds (kinds_of d left) (kinds_of d right)) (matched : are_matched (kinds_of d left) (kinds_of d right) ≡ true) where
  abbrev own : List Kind
  own = wider_kinds (kinds_of d left) (kinds_of d right)

  as_wide : length (kinds_of d left) ≡ length own
  as_wide = sym (length_wider (kinds_of d left) (kinds_of d right))

  pub give_left : AreWithin (kinds_of d left) kinds
  give_left = subst (AreWithin (kinds_of d left)) (sym is) (left_within (kinds_of d left) (kinds_of d right))

  pub give_right : AreWithin (kinds_of d right) kinds
  give_right = subst (AreWithin (kinds_of d right)) (sym is) (right_within (kinds_of d left) (kinds_of d right) matched)

  pub union_all_is : (e : Draft) (i : ℕ) → Adds 1 d e i kinds (λ tables. plus (worth_of d left tables) (worth_of d right tables)) (λ tables. lists_too_many (plus (worth_of d left tables) (worth_of d right tables))) →
      Becomes 4 d e i own (λ tables. step_node (set_result UnionAll) (node_of d tables left) (node_of d tables right))
  union_all_is e i a = becomes 1 4 d e i kinds own _ _ (λ tables. step_node (set_result UnionAll) (node_of d tables left) (node_of d tables right)) (omega arith) is (λ tables. as_wide) (λ tables. refl) (λ tables. refl) a

  abbrev spare : List Rows → Bool
  spare tables = false

  -- the sum of a UNION is no list, and only the node behind it is one
  module _ (draft : IsDraft d) (low_left : IsNode d left) (low_right : IsNode d right) where
    abbrev sum : Part
    sum = record { node = Plus left right; kinds = kinds; place = false; owner = Some d.view }

    pub sum_next : IsNext d sum
    sum_next = plus_next d kinds false left right low_left low_right give_left give_right

    module _ (e : Draft) (all : ℕ) (g1 : Appends d e all sum) where
      pub sum_there : IsThere e all
      sum_there = appended_there d e sum all g1

      pub once_room : CanAdd 4 d → CanAdd 1 e
      once_room r = record { draft = g1.draft; room = let h = appended_length d e sum all g1 in let room = r.room in omega (arith, h, room) }

      abbrev sum_of : List Rows → Rows
      sum_of tables = plus (worth_of d left tables) (worth_of d right tables)

      module _ (copied : List Kind) (copied_is : copied ≡ kinds_of e all) where
        pub once_all_next : IsNext e (record { node = Distinct all; kinds = copied; place = true; owner = Some e.view })
        once_all_next = once_next e copied true all sum_there (λ never. absurd (cc never)) copied_is

        pub union_is : (g : Draft) (i : ℕ) → Adds 1 e g i copied (λ tables. distinct (worth_of e all tables)) (λ tables. lists_too_many (distinct (worth_of e all tables)) || false) →
            Becomes 4 d g i own (λ tables. step_node (set_result Union) (node_of d tables left) (node_of d tables right))
        union_is g i b =
            becomes 2 4 d g i own own _ _ (λ tables. step_node (set_result Union) (node_of d tables left) (node_of d tables right)) (omega arith) refl (λ tables. as_wide) (λ tables. refl) (λ tables. refl)
            (adds_seq 1 1 d e g left i (kinds_of d left) copied own _ _ (λ tables. distinct (sum_of tables)) spare _ (λ tables. lists_too_many (distinct (sum_of tables)))
            (adds_beside d e sum all g1 draft sum_next left low_left) (copied_is ∙ appended_kinds d e sum all g1 draft sum_next ∙ is)
            (λ tables. ap distinct (sum_is tables)) (λ tables. or_false _ ∙ ap (λ z. lists_too_many (distinct z)) (sum_is tables)) b)
          where
            sum_is : (tables : List Rows) → worth_of e all tables ≡ sum_of tables
            sum_is tables = appended_worth d e sum all g1 draft sum_next tables

  -- both sides, each row once
  module _ (low_left : IsNode d left) (low_right : IsNode d right) (d1 d2 : Draft) (a b : ℕ) (h1 : Adds 1 d d1 a (kinds_of d left) (λ tables. distinct (worth_of d left tables)) spare) (h2 : Adds 1 d1 d2 b (kinds_of d1 right) (λ tables. distinct (worth_of d1 right tables)) spare) where
    pub in_second : IsNode d2 a
    in_second = stays_node 1 d1 d2 b _ _ _ h2 a h1.low

    first_kinds : kinds_of d2 a ≡ kinds_of d left
    first_kinds = kinds_stay 1 d1 d2 b _ _ _ h2 a h1.low ∙ h1.kinds_are

    second_kinds : kinds_of d2 b ≡ kinds_of d right
    second_kinds = h2.kinds_are ∙ kinds_stay 1 d d1 a _ _ _ h1 right low_right

    pub sides_alike : length (kinds_of d2 b) ≡ length (kinds_of d2 a)
    sides_alike = ap length second_kinds ∙ matched_length (kinds_of d left) (kinds_of d right) matched ∙ sym (ap length first_kinds)

    pub sides_give : AreWithin (kinds_of d2 a) kinds
    sides_give = subst (λ ks. AreWithin ks kinds) (sym first_kinds) give_left

    pub sides_narrow : length (kinds_of d left) < 2 ^ 32 → length (kinds_of d2 a) < 2 ^ 32
    sides_narrow narrow = subst (λ ks. length ks < 2 ^ 32) (sym first_kinds) narrow

    second_is : (tables : List Rows) → worth_of d2 b tables ≡ distinct (worth_of d right tables)
    second_is tables = h2.worth tables ∙ ap distinct (worth_stays 1 d d1 a _ _ _ h1 right low_right tables)

    pub second_once : HasEachOnce d2 b
    second_once tables = ap distinct (second_is tables) ∙ distinct-distinct (worth_of d right tables) ∙ sym (second_is tables)

    first_is : (tables : List Rows) → worth_of d2 a tables ≡ distinct (worth_of d left tables)
    first_is tables = worth_stays 1 d1 d2 b _ _ _ h2 a h1.low tables ∙ h1.worth tables

    both_are : (tables : List Rows) → common_of d2 a b tables ≡ both_of (length (kinds_of d left)) (worth_of d left tables) (worth_of d right tables)
    both_are tables j = paired (same_rows (length (first_kinds j))) (first_is tables j) (second_is tables j)

    two : Adds 2 d d2 b (kinds_of d1 right) (λ tables. distinct (worth_of d1 right tables)) spare
    two = adds_then 1 1 d d1 d2 a b _ _ _ _ _ _ h1 h2

    pub except_is : (g : Draft) (i : ℕ) → Adds 2 d2 g i kinds (rest_of d2 a b) (λ tables. lists_too_many (rest_of d2 a b tables)) → Becomes 4 d g i own (λ tables. step_node (set_result Except) (node_of d tables left) (node_of d tables right))
    except_is g i h =
        becomes 4 4 d g i own own _ _ (λ tables. step_node (set_result Except) (node_of d tables left) (node_of d tables right)) (omega arith) refl (λ tables. as_wide) (λ tables. refl) (λ tables. refl)
        (adds_seq 2 2 d d2 g b i _ kinds own _ _ all spare _ (λ tables. lists_too_many (all tables)) two is all_are (λ tables. ap lists_too_many (all_are tables)) h)
      where
        all : List Rows → Rows
        all tables = minus (distinct (worth_of d left tables)) (both_of (length (kinds_of d left)) (worth_of d left tables) (worth_of d right tables))

        all_are : (tables : List Rows) → rest_of d2 a b tables ≡ all tables
        all_are tables = ap₂ minus (first_is tables) (both_are tables)

    pub intersect_is : (g : Draft) (i : ℕ) → Adds 1 d2 g i kinds (common_of d2 a b) (λ tables. lists_too_many (common_of d2 a b tables)) → Becomes 4 d g i own (λ tables. step_node both_of (node_of d tables left) (node_of d tables right))
    intersect_is g i h =
        becomes 3 4 d g i own own _ _ (λ tables. step_node both_of (node_of d tables left) (node_of d tables right)) (omega arith) refl (λ tables. as_wide) (λ tables. refl) (λ tables. refl)
        (adds_seq 2 1 d d2 g b i _ kinds own _ _ all spare _ (λ tables. lists_too_many (all tables)) two is both_are (λ tables. ap lists_too_many (both_are tables)) h)
      where
        all : List Rows → Rows
        all tables = both_of (length (kinds_of d left)) (worth_of d left tables) (worth_of d right tables)
