-- Parts that stand where they may, and of which each sound node is a list of rows or made of such, are a circuit.
use Rattle.std.proofs.Common.{◌≡◌, ℕ, zero, suc, ◌<◌, ◌≤◌, ◌^◌, Bool, true, false, not, ◌&&◌, ◌||◌, List, [], ◌∷◌, length, get_or, ℤ, pos, negsuc, ◌+ℤ◌, ◌-ℤ◌, ◌≤ℤ◌, unsigned_abs, Some, refl, sym, ap, ap₂, subst, ◌∙◌, arith}
use Rattle.std.specs.Prelude.{int_lt, slice_get}
use mathlib.Core.Logic.{inl, inr}
use Rattle.std.proofs.lemmas.Bool.{and_parts, ltb-false}
use Rattle.std.proofs.lemmas.Option.{slice_get_within, slice_get-get_or}
use borrow.Author.Differences.{ints}
use Rattle.sq_value.specs.declared.value.Value.{Value}
use Rattle.sq_value.specs.Order.{row_cmp}
use Rattle.sq_value.specs.OrderLaws.{row_cmp-total, row_cmp-antisymmetric}
use Rattle.sq_expr.specs.Kinds.{AreOfKinds}
use Rattle.sq_expr.specs.declared.expr.Kind.{Kind}
use Rattle.sq_algebra.specs.Operators.{IsNonNegative, distinct, image, pairs_where}
use Rattle.sq_algebra.specs.ZSet.{entries, minus, plus, total, weight}
use Rattle.sq_algebra.proofs.EachLemmas.{each-distinct, each-minus, each-plus}
use Rattle.sq_algebra.proofs.NonNegativeLemmas.{nonnegative-distinct, nonnegative-plus, nonnegative-product, weight-le-total}
use Rattle.sq_zset.specs.Collecting.{mass_of}
use Rattle.sq_zset.proofs.Masses.{mass-minus, mass-plus}
use Rattle.sq_zset.proofs.Rows.{weight-minus, weight-plus}
use Rattle.sq_ops.specs.Joins.{chosen, key_in}
use Rattle.sq_ops.specs.Rows.{items_of, kept, padded}
use Rattle.sq_ops.specs.Aggregates.{aggregated}
use Rattle.sq_ops.specs.declared.bilinear.Pairing.{Pairing}
use Rattle.sq_circuit.specs.Circuits.{has_fault, has_number_outside, is_sound, kinds_at, kinds_in, lists_too_many, table_at, whole, whole_from}
use Rattle.sq_circuit.specs.Gives.{GivesKinds}
use Rattle.sq_circuit.specs.Invariant.{AreEarlier, HasKinds, IsCircuit, IsEarlier, IsGood, IsListed, IsNear, IsPart, IsSoundAt, NeedsListed}
use Rattle.sq_circuit.specs.Listed.{AsksLists, HasList, IsListedPart, IsShort, is_loose, is_loose_in}
use Rattle.sq_circuit.specs.Nodes.{Rows, Source, left_source, operator, paired, right_source}
use Rattle.sq_circuit.specs.Verdicts.{source_sound}
use Rattle.sq_circuit.specs.declared.circuit.Part.{Part}
use Rattle.sq_circuit.specs.declared.node.LinearOp.TheVariants.{Keep, Project, Pad}
use Rattle.sq_circuit.specs.declared.node.Node.{Node}
use Rattle.sq_circuit.specs.declared.node.Node.TheVariants.{Table, Linear, Join, Distinct, Aggregate, Plus, Minus, View}
use Rattle.sq_circuit.proofs.Bounding.{listed_few}
use Rattle.sq_circuit.proofs.Evaluating.{fault_at, sound_at, whole_at}
use Rattle.sq_circuit.proofs.Fewer.{aggregated_listed, distinct_listed, image_listed, kept_few}
use Rattle.sq_circuit.proofs.Following.{join_follows, keep_follows, pad_follows, project_follows, wider_follows}
use Rattle.sq_circuit.proofs.Grouped.{aggregate_follows}
use Rattle.sq_circuit.proofs.Owning.{reads_earlier}

-- ---- weights of lists
weight_few : (z : Rows) → IsListed z → (row : List Value) → weight row z ≤ℤ pos (2 ^ 61)
weight_few z h row = let less = weight-le-total row_cmp row_cmp-total row_cmp-antisymmetric row z h.above in let few = h.few in omega (arith, ints)

apart : (a b : ℤ) → pos 0 ≤ℤ a → a ≤ℤ pos (2 ^ 61) → pos 0 ≤ℤ b → b ≤ℤ pos (2 ^ 61) → unsigned_abs (b -ℤ a) ≤ 2 ^ 62
apart a b la ua lb ub = let h = la in omega (arith, ints)

listed_near : (y z : Rows) → IsListed y → IsListed z → IsNear y z
listed_near y z a b row = apart (weight row y) (weight row z) (a.above row) (weight_few y a row) (b.above row) (weight_few z b row)

-- two sums, and two differences, of lists
sums_apart : (a b c d : ℤ) → pos 0 ≤ℤ a → a ≤ℤ pos (2 ^ 61) → pos 0 ≤ℤ b → b ≤ℤ pos (2 ^ 61) → pos 0 ≤ℤ c → c ≤ℤ pos (2 ^ 61) → pos 0 ≤ℤ d → d ≤ℤ pos (2 ^ 61)
    → unsigned_abs ((c +ℤ d) -ℤ (a +ℤ b)) ≤ 2 ^ 62
sums_apart a b c d la ua lb ub lc uc ld ud = let h = la in omega (arith, ints)

differences_apart : (a b c d : ℤ) → pos 0 ≤ℤ a → a ≤ℤ pos (2 ^ 61) → pos 0 ≤ℤ b → b ≤ℤ pos (2 ^ 61) → pos 0 ≤ℤ c → c ≤ℤ pos (2 ^ 61) → pos 0 ≤ℤ d → d ≤ℤ pos (2 ^ 61)
    → unsigned_abs ((c -ℤ d) -ℤ (a -ℤ b)) ≤ 2 ^ 62
differences_apart a b c d la ua lb ub lc uc ld ud = let h = la in omega (arith, ints)

module _ (x y u v : Rows) (hx : IsListed x) (hy : IsListed y) (hu : IsListed u) (hv : IsListed v) where
  sums_near : IsNear (plus x y) (plus u v)
  sums_near row =
      subst (λ n. unsigned_abs n ≤ 2 ^ 62) (sym (ap₂ (λ m n. m -ℤ n) (weight-plus row u v) (weight-plus row x y)))
      (sums_apart (weight row x) (weight row y) (weight row u) (weight row v) (hx.above row) (weight_few x hx row) (hy.above row) (weight_few y hy row) (hu.above row) (weight_few u hu row) (hv.above row) (weight_few v hv row))

  differences_near : IsNear (minus x y) (minus u v)
  differences_near row =
      subst (λ n. unsigned_abs n ≤ 2 ^ 62) (sym (ap₂ (λ m n. m -ℤ n) (weight-minus row u v) (weight-minus row x y)))
      (differences_apart (weight row x) (weight row y) (weight row u) (weight row v) (hx.above row) (weight_few x hx row) (hy.above row) (weight_few y hy row) (hu.above row) (weight_few u hu row) (hv.above row) (weight_few v hv row))

-- ---- tests
not_many : (n : ℤ) → int_lt (pos (2 ^ 61)) n ≡ false → n ≤ℤ pos (2 ^ 61)
not_many (pos n) e = let few = ltb-false (2 ^ 61) n e in omega (arith, ints)
not_many (negsuc n) e = omega (arith, ints)

not_true : (b : Bool) → not b ≡ true → b ≡ false
not_true true e = cc
not_true false e = refl

is_not : (b : Bool) → not b ≡ false → b ≡ true
is_not true e = refl
is_not false e = absurd (cc e)

neither : (a b : Bool) → (a || b) ≡ false → (a ≡ false) × (b ≡ false)
neither true b e = absurd (cc e)
neither false b e = (refl, e)

-- the rows of a sound node
pub record Holds (p : Part) (n : Node) (z : Rows) : Type 0 where
  pub kinds : HasKinds p.kinds z
  pub few : mass_of (entries z) ≤ 2 ^ 62
  pub listed : is_loose n p.place ≡ false → IsListed z

-- a list of rows
a_list : (p : Part) (n : Node) (z : Rows) → HasKinds p.kinds z → IsListed z → Holds p n z
a_list p n z kinds h = record { kinds = kinds; few = let few = listed_few z h in omega arith; listed = λ _. h }

-- no weight of a place is negative
tested : (p : Part) (z : Rows) → p.place ≡ true → p.place && lists_too_many z ≡ false → IsNonNegative z → IsListed z
tested p z place fine above = record { above = above; few = not_many (total z) (sym (ap (λ b. b && lists_too_many z) place) ∙ fine) }

-- rows that are listed at a place by its test, and elsewhere by what is known
either_way : (p : Part) (z : Rows) → p.place && lists_too_many z ≡ false → IsNonNegative z → (p.place ≡ false → total z ≤ℤ pos (2 ^ 61)) → IsListed z
either_way p z fine above few = step p.place refl
  where
    step : (b : Bool) → p.place ≡ b → IsListed z
    step true e = tested p z e fine above
    step false e = record { above = above; few = few e }

module _ (c : List Part) (order : AreEarlier c) (lists : (i : ℕ) (p : Part) → slice_get c i ≡ Some p → IsListedPart c i p) where
  module _ (tables : List Rows) (good : IsGood c tables) where
    abbrev HoldsAt : ℕ → Type 0
    HoldsAt i = (p : Part) → slice_get c i ≡ Some p → is_sound c tables i ≡ true → Holds p p.node (whole c tables i)

    -- what an earlier node that is read holds
    module _ (i : ℕ) (d : Part) (long : i < length c) (earlier : (j : ℕ) → j < i → HoldsAt j) (j : ℕ) (low : j < i) (sound : is_sound c tables j ≡ true) where
      abbrev other : Part
      other = get_or c j d

      at_other : slice_get c j ≡ Some other
      at_other = slice_get-get_or c j d (omega arith)

      held : Holds other other.node (whole c tables j)
      held = earlier j low other at_other sound

      read_kinds : HasKinds (kinds_at c j) (whole c tables j)
      read_kinds = subst (λ kinds. HasKinds kinds (whole c tables j)) (sym (ap kinds_in at_other)) held.kinds

      -- a loose node is listed by what is asked, and another by what it is
      read_listed : HasList c j → IsListed (whole c tables j)
      read_listed h = step (is_loose_in (slice_get c j)) refl
        where
          step : (b : Bool) → is_loose_in (slice_get c j) ≡ b → IsListed (whole c tables j)
          step true e = h e tables (record { good = good; sound = sound })
          step false e = held.listed (sym (ap is_loose_in at_other) ∙ e)

    module _ (i : ℕ) (p : Part) (at : slice_get c i ≡ Some p) (sound : is_sound c tables i ≡ true) (earlier : (j : ℕ) → j < i → HoldsAt j) where
      abbrev from : Source → Rows
      from s = whole_from c tables s

      abbrev made : Node → Rows
      made n = operator n (from (left_source n)) (from (right_source n))

      -- what is known of a node
      record Known (n : Node) : Type 0 where
        is : p.node ≡ n
        left : IsEarlier i (left_source n)
        right : IsEarlier i (right_source n)
        left_sound : source_sound c tables (left_source n) ≡ true
        right_sound : source_sound c tables (right_source n) ≡ true
        fine : p.place && lists_too_many (made n) ≡ false
        inside : has_number_outside n (from (left_source n)) ≡ false
        gives : GivesKinds n (kinds_at c) p.kinds
        asks : AsksLists c n p.place
        short : IsShort n p.place (made n)

      long : i < length c
      long = slice_get_within c i p at

      kinds_of : (j : ℕ) → j < i → is_sound c tables j ≡ true → HasKinds (kinds_at c j) (whole c tables j)
      kinds_of j low s = read_kinds i p long earlier j low s

      list_of : (j : ℕ) → j < i → is_sound c tables j ≡ true → HasList c j → IsListed (whole c tables j)
      list_of j low s h = read_listed i p long earlier j low s h

      few_of : (j : ℕ) → j < i → is_sound c tables j ≡ true → mass_of (entries (whole c tables j)) ≤ 2 ^ 62
      few_of j low s = (held i p long earlier j low s).few

      own_kinds : (kinds : List Kind) (z : Rows) → p.kinds ≡ kinds → HasKinds kinds z → HasKinds p.kinds z
      own_kinds kinds z e h = subst (λ ks. HasKinds ks z) (sym e) h

      -- a loose node that is not loose is a place
      firm : not p.place ≡ false → p.place ≡ true
      firm e = is_not p.place e

      a_sum : (a b : ℕ) → Known (Plus a b) → Holds p (Plus a b) (plus (whole c tables a) (whole c tables b))
      a_sum a b k =
          let left = list_of a k.left k.left_sound k.asks.0 in
          let right = list_of b k.right k.right_sound k.asks.1 in
          record {
            kinds = each-plus (λ row. AreOfKinds row p.kinds) row_cmp row_cmp-total (whole c tables a) (whole c tables b)
                (wider_follows (kinds_at c a) p.kinds (whole c tables a) k.gives.0 (kinds_of a k.left k.left_sound)) (wider_follows (kinds_at c b) p.kinds (whole c tables b) k.gives.1 (kinds_of b k.right k.right_sound));
            few = let l = listed_few (whole c tables a) left in let r = listed_few (whole c tables b) right in let both = mass-plus (whole c tables a) (whole c tables b) in omega arith;
            listed = λ e. tested p (plus (whole c tables a) (whole c tables b)) (firm e) k.fine (nonnegative-plus row_cmp row_cmp-total (whole c tables a) (whole c tables b) left.above right.above);
          }

      a_difference : (a b : ℕ) → Known (Minus a b) → Holds p (Minus a b) (minus (whole c tables a) (whole c tables b))
      a_difference a b k =
          let left = list_of a k.left k.left_sound k.asks.0 in
          let right = list_of b k.right k.right_sound k.asks.1 in
          record {
            kinds = each-minus (λ row. AreOfKinds row p.kinds) row_cmp row_cmp-total (whole c tables a) (whole c tables b)
                (wider_follows (kinds_at c a) p.kinds (whole c tables a) k.gives.0 (kinds_of a k.left k.left_sound)) (wider_follows (kinds_at c b) p.kinds (whole c tables b) k.gives.1 (kinds_of b k.right k.right_sound));
            few = let l = listed_few (whole c tables a) left in let r = listed_few (whole c tables b) right in let both = mass-minus (whole c tables a) (whole c tables b) in omega arith;
            listed = λ e. tested p (minus (whole c tables a) (whole c tables b)) (firm e) k.fine (k.short (firm e));
          }

      a_view : (j v : ℕ) → Known (View j v) → Holds p (View j v) (whole c tables j)
      a_view j v k = record {
        kinds = own_kinds (kinds_at c j) (whole c tables j) k.gives (kinds_of j k.left k.left_sound);
        few = few_of j k.left k.left_sound;
        listed = λ e. list_of j k.left k.left_sound (k.asks (firm e));
      }

      a_join : (a b : ℕ) (op : Pairing) → Known (Join a b op) → Holds p (Join a b op) (paired op (whole c tables a) (whole c tables b))
      a_join a b op k =
          let left = list_of a k.left k.left_sound k.asks.0 in
          let right = list_of b k.right k.right_sound k.asks.1 in
          a_list p (Join a b op) (paired op (whole c tables a) (whole c tables b))
          (join_follows op (kinds_at c a) (kinds_at c b) p.kinds k.gives (whole c tables a) (whole c tables b) (kinds_of a k.left k.left_sound) (kinds_of b k.right k.right_sound))
          (either_way p (paired op (whole c tables a) (whole c tables b)) k.fine
          (nonnegative-product row_cmp row_cmp-total row_cmp-antisymmetric row_cmp row_cmp-total row_cmp-antisymmetric row_cmp row_cmp-total row_cmp-antisymmetric
          (pairs_where row_cmp (key_in op.left op.nulls_match) (key_in op.right op.nulls_match) (chosen op.keep op.items)) (whole c tables a) (whole c tables b) left.above right.above)
          k.short)

      a_distinct : (j : ℕ) → Known (Distinct j) → Holds p (Distinct j) (distinct (whole c tables j))
      a_distinct j k =
          a_list p (Distinct j) (distinct (whole c tables j))
          (own_kinds (kinds_at c j) (distinct (whole c tables j)) k.gives (each-distinct (λ row. AreOfKinds row (kinds_at c j)) row_cmp row_cmp-total (whole c tables j) (kinds_of j k.left k.left_sound)))
          (either_way p (distinct (whole c tables j)) k.fine (nonnegative-distinct row_cmp row_cmp-total (whole c tables j))
          (λ e. (distinct_listed (whole c tables j) (list_of j k.left k.left_sound (k.asks e))).few))

      claim : (n : Node) → Known n → Holds p n (made n)
      claim (Table t) k = a_list p (Table t) (table_at tables t) (good.of_kinds i p t at k.is) (good.listed t)
      claim (Linear j (Keep op)) k =
          a_list p (Linear j (Keep op)) (image row_cmp (kept op.cond) (whole c tables j))
          (own_kinds (kinds_at c j) (image row_cmp (kept op.cond) (whole c tables j)) k.gives (keep_follows op.cond (kinds_at c j) (whole c tables j) (kinds_of j k.left k.left_sound)))
          (image_listed (kept op.cond) (kept_few op.cond) (whole c tables j) (list_of j k.left k.left_sound k.asks))
      claim (Linear j (Project op)) k =
          a_list p (Linear j (Project op)) (image row_cmp (λ row. items_of op.items row ∷ []) (whole c tables j))
          (project_follows op.items (kinds_at c j) p.kinds (whole c tables j) k.gives k.inside (kinds_of j k.left k.left_sound))
          (image_listed (λ row. items_of op.items row ∷ []) (λ row. omega arith) (whole c tables j) (list_of j k.left k.left_sound k.asks))
      claim (Linear j (Pad op)) k =
          a_list p (Linear j (Pad op)) (image row_cmp (λ row. padded op.nulls row ∷ []) (whole c tables j))
          (pad_follows op.nulls (kinds_at c j) p.kinds (whole c tables j) k.gives (kinds_of j k.left k.left_sound))
          (image_listed (λ row. padded op.nulls row ∷ []) (λ row. omega arith) (whole c tables j) (list_of j k.left k.left_sound k.asks))
      claim (Join a b op) k = a_join a b op k
      claim (Distinct j) k = a_distinct j k
      claim (Aggregate j spec) k =
          let list = list_of j k.left k.left_sound k.asks in
          a_list p (Aggregate j spec) (aggregated spec (whole c tables j))
          (aggregate_follows (kinds_at c j) spec p.kinds k.gives (whole c tables j) (kinds_of j k.left k.left_sound) list k.inside)
          (aggregated_listed spec (whole c tables j) list)
      claim (Plus a b) k = a_sum a b k
      claim (Minus a b) k = a_difference a b k
      claim (View j v) k = a_view j v k

      parts_sound : (not (has_fault c tables i) ≡ true) × ((source_sound c tables (left_source p.node) && source_sound c tables (right_source p.node)) ≡ true)
      parts_sound =
          and_parts (not (has_fault c tables i)) (source_sound c tables (left_source p.node) && source_sound c tables (right_source p.node))
          (sym (sound_at c order tables i p at) ∙ sound)

      passed : (p.place && lists_too_many (whole c tables i)) || has_number_outside p.node (from (left_source p.node)) ≡ false
      passed = sym (fault_at c order tables i p at) ∙ not_true (has_fault c tables i) parts_sound.0

      both_sound : (source_sound c tables (left_source p.node) ≡ true) × (source_sound c tables (right_source p.node) ≡ true)
      both_sound = and_parts (source_sound c tables (left_source p.node)) (source_sound c tables (right_source p.node)) parts_sound.1

      value : whole c tables i ≡ made p.node
      value = whole_at c order tables i p at

      known_here : Known p.node
      known_here =
          let both = neither (p.place && lists_too_many (whole c tables i)) (has_number_outside p.node (from (left_source p.node))) passed in
          record {
            is = refl;
            left = (order i p at).0;
            right = (order i p at).1;
            left_sound = both_sound.0;
            right_sound = both_sound.1;
            fine = sym (ap (λ z. p.place && lists_too_many z) value) ∙ both.0;
            inside = both.1;
            gives = (lists i p at).gives;
            asks = (lists i p at).asks;
            short = subst (IsShort p.node p.place) value ((lists i p at).short tables (record { good = good; sound = sound }));
          }

      pub holds_here : Holds p p.node (whole c tables i)
      holds_here = subst (Holds p p.node) (sym value) (claim p.node known_here)

    holds_below : (n i : ℕ) → i < n → HoldsAt i
    holds_below zero i low p at sound = absurd (omega arith)
    holds_below (suc n) i low p at sound = holds_here i p at sound (λ j less. holds_below n j (omega arith))

    pub holds : (i : ℕ) → HoldsAt i
    holds i = holds_below (suc i) i (omega arith)

  -- what is asked of a node is enough
  pub listed_at : (i : ℕ) (p : Part) → slice_get c i ≡ Some p → HasList c i → (tables : List Rows) → IsSoundAt c tables i → IsListed (whole c tables i)
  listed_at i p at h tables s = step (is_loose p.node p.place) refl
    where
      step : (b : Bool) → is_loose p.node p.place ≡ b → IsListed (whole c tables i)
      step true e = h (ap is_loose_in at ∙ e) tables s
      step false e = (holds tables s.good i p at s.sound).listed e

  -- a Project, a Join or an Aggregate asks for what it reads
  asked : (n : Node) (place : Bool) (i : ℕ) → AsksLists c n place → NeedsListed n i → HasList c i
  asked (Table t) place i asks needs = absurd needs
  asked (Linear j (Keep op)) place i asks needs = absurd needs
  asked (Linear j (Project op)) place i asks needs = subst (HasList c) needs asks
  asked (Linear j (Pad op)) place i asks needs = absurd needs
  asked (Join l r op) place i asks (inl needs) = subst (HasList c) needs asks.0
  asked (Join l r op) place i asks (inr needs) = subst (HasList c) needs asks.1
  asked (Distinct j) place i asks needs = absurd needs
  asked (Aggregate j spec) place i asks needs = subst (HasList c) needs asks
  asked (Plus l r) place i asks needs = absurd needs
  asked (Minus l r) place i asks needs = absurd needs
  asked (View j v) place i asks needs = absurd needs

  -- a place is not loose
  place_firm : (n : Node) (place : Bool) → place ≡ true → is_loose n place ≡ false
  place_firm (Table t) place e = refl
  place_firm (Linear i op) place e = refl
  place_firm (Join l r op) place e = refl
  place_firm (Distinct i) place e = refl
  place_firm (Aggregate i spec) place e = refl
  place_firm (Plus l r) place e = ap not e
  place_firm (Minus l r) place e = ap not e
  place_firm (View i v) place e = ap not e

  -- ---- two lists of tables
  module _ (old new : List Rows) where
    abbrev NearAt : ℕ → Type 0
    NearAt i = (p : Part) → slice_get c i ≡ Some p → IsSoundAt c old i → IsSoundAt c new i → IsNear (whole c old i) (whole c new i)

    module _ (i : ℕ) (p : Part) (at : slice_get c i ≡ Some p) (before : IsSoundAt c old i) (after : IsSoundAt c new i) (earlier : (j : ℕ) → j < i → NearAt j) where
      -- what is known of a node that is loose
      record Both (n : Node) : Type 0 where
        left : IsEarlier i (left_source n)
        right : IsEarlier i (right_source n)
        left_before : source_sound c old (left_source n) ≡ true
        left_after : source_sound c new (left_source n) ≡ true
        right_before : source_sound c old (right_source n) ≡ true
        right_after : source_sound c new (right_source n) ≡ true
        asks : AsksLists c n p.place
        loose : is_loose n p.place ≡ true

      at_source : (j : ℕ) → j < i → slice_get c j ≡ Some (get_or c j p)
      at_source j low = slice_get-get_or c j p (let long = slice_get_within c i p at in omega arith)

      was : (j : ℕ) → j < i → HasList c j → is_sound c old j ≡ true → IsListed (whole c old j)
      was j low h s = listed_at j (get_or c j p) (at_source j low) h old (record { good = before.good; sound = s })

      is_now : (j : ℕ) → j < i → HasList c j → is_sound c new j ≡ true → IsListed (whole c new j)
      is_now j low h s = listed_at j (get_or c j p) (at_source j low) h new (record { good = after.good; sound = s })

      abbrev made_of : List Rows → Node → Rows
      made_of tables n = operator n (whole_from c tables (left_source n)) (whole_from c tables (right_source n))

      near : (n : Node) → Both n → IsNear (made_of old n) (made_of new n)
      near (Table t) k = absurd (let loose = k.loose in cc)
      near (Linear j op) k = absurd (let loose = k.loose in cc)
      near (Join a b op) k = absurd (let loose = k.loose in cc)
      near (Distinct j) k = absurd (let loose = k.loose in cc)
      near (Aggregate j spec) k = absurd (let loose = k.loose in cc)
      near (Plus a b) k =
          sums_near (whole c old a) (whole c old b) (whole c new a) (whole c new b)
          (was a k.left k.asks.0 k.left_before) (was b k.right k.asks.1 k.right_before) (is_now a k.left k.asks.0 k.left_after) (is_now b k.right k.asks.1 k.right_after)
      near (Minus a b) k =
          differences_near (whole c old a) (whole c old b) (whole c new a) (whole c new b)
          (was a k.left k.asks.0 k.left_before) (was b k.right k.asks.1 k.right_before) (is_now a k.left k.asks.0 k.left_after) (is_now b k.right k.asks.1 k.right_after)
      near (View j v) k =
          earlier j k.left (get_or c j p) (at_source j k.left)
          (record { good = before.good; sound = k.left_before }) (record { good = after.good; sound = k.left_after })

      both_here : is_loose p.node p.place ≡ true → Both p.node
      both_here loose = record {
        left = (order i p at).0;
        right = (order i p at).1;
        left_before = (both_sound old before.good i p at before.sound (λ j low. holds old before.good j)).0;
        left_after = (both_sound new after.good i p at after.sound (λ j low. holds new after.good j)).0;
        right_before = (both_sound old before.good i p at before.sound (λ j low. holds old before.good j)).1;
        right_after = (both_sound new after.good i p at after.sound (λ j low. holds new after.good j)).1;
        asks = (lists i p at).asks;
        loose = loose;
      }

      pub near_here : IsNear (whole c old i) (whole c new i)
      near_here = step (is_loose p.node p.place) refl
        where
          step : (b : Bool) → is_loose p.node p.place ≡ b → IsNear (whole c old i) (whole c new i)
          step true e =
              subst (λ y. IsNear y (whole c new i)) (sym (whole_at c order old i p at))
              (subst (λ z. IsNear (made_of old p.node) z) (sym (whole_at c order new i p at)) (near p.node (both_here e)))
          step false e = listed_near (whole c old i) (whole c new i) ((holds old before.good i p at before.sound).listed e) ((holds new after.good i p at after.sound).listed e)

    near_below : (n i : ℕ) → i < n → NearAt i
    near_below zero i low p at before after = absurd (omega arith)
    near_below (suc n) i low p at before after = near_here i p at before after (λ j less. near_below n j (omega arith))

  pub steady_at : (old new : List Rows) (i : ℕ) (p : Part) → slice_get c i ≡ Some p → IsSoundAt c old i → IsSoundAt c new i → IsNear (whole c old i) (whole c new i)
  steady_at old new i p at before after = near_below old new (suc i) i (omega arith) p at before after

pub listed_circuit : (c : List Part) → length c < 2 ^ 32 → ((i : ℕ) (p : Part) → slice_get c i ≡ Some p → IsPart c i p) → ((i : ℕ) (p : Part) → slice_get c i ≡ Some p → IsListedPart c i p) → IsCircuit c
listed_circuit c few parts lists = record {
  few = few;
  parts = parts;
  bounded = λ tables i p at s.
      let held = holds c (reads_earlier c parts) lists tables s.good i p at s.sound in
      record {
        of_kinds = held.kinds;
        place = λ e. held.listed (place_firm c (reads_earlier c parts) lists p.node p.place e);
        needed = λ k q there needs. listed_at c (reads_earlier c parts) lists i p at (asked c (reads_earlier c parts) lists q.node q.place i (lists k q there).asks needs) tables s;
        few = λ _. held.few;
      };
  steady = λ old new i p at _ before after. steady_at c (reads_earlier c parts) lists old new i p at before after;
}
