-- A circuit in the making stays one while nodes are appended, and is a circuit once its views are.
use Rattle.std.proofs.Common.{◌≡◌, ℕ, suc, ◌+◌, ◌<◌, ◌≤◌, Bool, true, false, not, ◌&&◌, ◌||◌, cond, List, [], ◌∷◌, ◌++◌, length, Some, None, refl, sym, ap, ap₂, subst, ◌∙◌, arith, length-append}
use Rattle.std.specs.Prelude.{IsTrue, Option, slice_get}
use mathlib.Core.Logic.{◌⊎◌, inl, inr}
use Rattle.std.proofs.lemmas.Bool.{and_parts}
use Rattle.std.proofs.lemmas.Option.{same_Some, slice_get_within}
use Rattle.sq_expr.specs.declared.expr.Expr.{Expr}
use Rattle.sq_expr.specs.declared.expr.Kind.{Kind}
use Rattle.sq_ops.specs.Aggregates.{group_columns}
use Rattle.sq_ops.specs.Wholes.{has_no_values}
use Rattle.sq_ops.specs.declared.aggregate.Call.{Call}
use Rattle.sq_circuit.specs.Begun.{AreTables, IsBegun, IsNext, IsTablePart, ReadsThese, is_faulty, is_fine, made_of}
use Rattle.sq_circuit.specs.Circuits.{are_sound, fault_of, has_fault, is_sound, kinds_at, owner_in, whole, whole_from}
use Rattle.sq_circuit.specs.Gives.{AreWithin, CallKinds, ColumnKinds, GivesKinds, ItemKinds}
use Rattle.sq_circuit.specs.Invariant.{AreEarlier, HasKinds, HasWidth, IsEarlier, IsGood, IsInOrder, IsListed, IsOwned, IsOwnedBelow, IsPartOf, IsSoundAt, TakesKinds, is_table, table_count}
use Rattle.sq_circuit.specs.Listed.{AsksLists, HasList, IsListedPart, IsShort, is_loose_in}
use Rattle.sq_circuit.specs.Nodes.{Rows, Source, Nowhere, Outer, Inner, left_source, operator, right_source}
use Rattle.sq_circuit.specs.Verdicts.{source_sound}
use Rattle.sq_circuit.specs.declared.circuit.Part.{Part}
use Rattle.sq_circuit.specs.declared.node.LinearOp.TheVariants.{Keep, Project, Pad}
use Rattle.sq_circuit.specs.declared.node.Node.{Node}
use Rattle.sq_circuit.specs.declared.node.Node.TheVariants.{Table, Linear, Join, Distinct, Aggregate, Plus, Minus, View}
use Rattle.sq_circuit.proofs.Alongside.{got_front, got_next}
use Rattle.sq_circuit.proofs.Appending.{count_all, count_more, count_most, front_or_last, gives_same, kinds_more, order_between, order_more, owned_by, owned_more, owner_more, owner_stays, takes_same, width_same}
use Rattle.sq_circuit.proofs.Evaluating.{fault_at, sound_at, whole_at}
use Rattle.sq_circuit.proofs.Growing.{sound_more, whole_more}
use Rattle.sq_circuit.proofs.Listing.{holds, listed_at}

-- ---- a node that gives its kinds has its width
items_many : (kinds : List Kind) (es : List Expr) (ks : List Kind) → ItemKinds kinds es ks → length ks ≡ length es
items_many kinds [] [] g = refl
items_many kinds [] (k ∷ ks) g = absurd g
items_many kinds (e ∷ es) [] g = absurd g
items_many kinds (e ∷ es) (k ∷ ks) g = ap suc (items_many kinds es ks g.1)

columns_many : (kinds : List Kind) (ns : List ℕ) (ks : List Kind) → ColumnKinds kinds ns ks → length ks ≡ length ns
columns_many kinds [] [] g = refl
columns_many kinds [] (k ∷ ks) g = absurd g
columns_many kinds (n ∷ ns) [] g = absurd g
columns_many kinds (n ∷ ns) (k ∷ ks) g = ap suc (columns_many kinds ns ks g.1)

within_many : (ks ls : List Kind) → AreWithin ks ls → length ls ≡ length ks
within_many [] [] w = refl
within_many [] (l ∷ ls) w = absurd w
within_many (k ∷ ks) [] w = absurd w
within_many (k ∷ ks) (l ∷ ls) w = ap suc (within_many ks ls w.1)

calls_many : (kinds : List Kind) (calls : List Call) (ks : List Kind) → CallKinds kinds calls ks → length ks ≡ length calls
calls_many kinds [] [] g = refl
calls_many kinds [] (k ∷ ks) g = absurd g
calls_many kinds (call ∷ calls) [] g = absurd g
calls_many kinds (call ∷ calls) (k ∷ ks) g = ap suc (calls_many kinds calls ks g.1)

no_values : {A : Type 0} (xs : List A) → IsTrue (has_no_values xs) → length xs ≡ 0
no_values [] h = refl
no_values (x ∷ xs) h = absurd (cc h)

-- a global aggregate has no group columns
grouped_many : (global : Bool) (group : List ℕ) (rest : Bool) → IsTrue ((not global || has_no_values group) && rest) → length (cond global [] group) ≡ length group
grouped_many true [] rest h = refl
grouped_many true (n ∷ group) rest h = absurd (cc h)
grouped_many false group rest h = refl

pub gives_width : (n : Node) (f : ℕ → List Kind) (own : List Kind) → TakesKinds n f → GivesKinds n f own → HasWidth n f (length own)
gives_width (Table t) f own takes g = tt
gives_width (Linear j (Keep op)) f own takes g = ap length g
gives_width (Linear j (Project op)) f own takes g = items_many (f j) op.items own g
gives_width (Linear j (Pad op)) f own takes g = let is = ap length g.is in let both = length-append (f j) g.more in let many = g.many in omega arith
gives_width (Join l r op) f own takes g = within_many g.exact own g.within ∙ columns_many (f l ++ f r) op.items g.exact g.of_columns
gives_width (Distinct j) f own takes g = ap length g
gives_width (Aggregate j spec) f own takes g =
    let is = ap length g.is in
    let both = length-append g.keys g.values in
    let keys = columns_many (f j) (group_columns spec) g.keys g.of_keys in
    let values = calls_many (f j) spec.calls g.values g.of_values in
    let group = grouped_many spec.global spec.group _ takes in
    omega arith
gives_width (Plus l r) f own takes g = (within_many (f l) own g.0, within_many (f r) own g.1)
gives_width (Minus l r) f own takes g = (within_many (f l) own g.0, within_many (f r) own g.1)
gives_width (View j v) f own takes g = ap length g

-- ---- tables
pub tables_begin : (views now : ℕ) (c : List Part) → AreTables c → IsBegun views now c
tables_begin views now c tables = record {
  parts = λ i p e. table_part i p (tables i p e) (slice_get_within c i p e);
  lists = λ i p e. listed_table i p (tables i p e);
  owners = λ i v e. absurd (no_owner i v (slice_get c i) refl e);
}
  where
    all : table_count c ≡ length c
    all = count_all (λ p. is_table p.node) c (λ i p e. ap is_table (tables i p e).node)

    table_part : (i : ℕ) (p : Part) → IsTablePart i p → i < length c → IsPartOf (length c + views) views c i p
    table_part i p t low = record {
      left_earlier = subst (λ n. IsEarlier i (left_source n)) (sym t.node) tt;
      right_earlier = subst (λ n. IsEarlier i (right_source n)) (sym t.node) tt;
      in_order = subst (λ n. IsInOrder (length c + views) views c i n) (sym t.node) (refl, let many = all in omega arith);
      takes = subst (λ n. TakesKinds n (kinds_at c)) (sym t.node) tt;
      width = subst (λ n. HasWidth n (kinds_at c) (length p.kinds)) (sym t.node) tt;
      owned = subst (λ n. IsOwned views c n p.place p.owner) (sym t.node) (t.place, t.owner);
    }

    listed_table : (i : ℕ) (p : Part) → IsTablePart i p → IsListedPart c i p
    listed_table i p t = record {
      gives = subst (λ n. GivesKinds n (kinds_at c) p.kinds) (sym t.node) tt;
      asks = subst (λ n. AsksLists c n p.place) (sym t.node) tt;
      short = λ rows _. subst (λ n. IsShort n p.place (whole c rows i)) (sym t.node) tt;
    }

    no_owner : (i v : ℕ) (o : Option Part) → slice_get c i ≡ o → owner_in o ≡ Some v → ⊥
    no_owner i v None e owner = cc owner
    no_owner i v (Some p) e owner = let same = sym owner ∙ (tables i p e).owner in cc

-- ---- more parts behind, none of them a table
module _ (c more : List Part) (no_tables : table_count more ≡ 0) where
  tables_more : table_count (c ++ more) ≡ table_count c
  tables_more = let both = count_more (λ p. is_table p.node) c more in let none = no_tables in omega arith

  pub good_before : (tables : List Rows) → IsGood (c ++ more) tables → IsGood c tables
  good_before tables g = record {
    count = g.count ∙ tables_more;
    of_kinds = λ i p t e is. g.of_kinds i p t (got_front c more i (slice_get_within c i p e) ∙ e) is;
    listed = g.listed;
  }

module _ (c more : List Part) (earlier : AreEarlier c) (no_tables : table_count more ≡ 0) where
  sound_before : (tables : List Rows) (i : ℕ) → i < length c → IsSoundAt (c ++ more) tables i → IsSoundAt c tables i
  sound_before tables i low s = record { good = good_before c more no_tables tables s.good; sound = sym (sound_more c more tables earlier i low) ∙ s.sound }

  pub list_more : (i : ℕ) → i < length c → HasList c i → HasList (c ++ more) i
  list_more i low h e tables s = subst IsListed (sym (whole_more c more tables i low)) (h (sym (ap is_loose_in (got_front c more i low)) ∙ e) tables (sound_before tables i low s))

  pub asks_more : (i : ℕ) → i ≤ length c → (n : Node) (place : Bool) → IsEarlier i (left_source n) → IsEarlier i (right_source n) → AsksLists c n place → AsksLists (c ++ more) n place
  asks_more i long (Table t) place l r h = tt
  asks_more i long (Linear j op) place l r h = list_more j (omega arith) h
  asks_more i long (Join a b op) place l r h = (list_more a (omega arith) h.0, list_more b (omega arith) h.1)
  asks_more i long (Distinct j) place l r h = λ e. list_more j (omega arith) (h e)
  asks_more i long (Aggregate j spec) place l r h = list_more j (omega arith) h
  asks_more i long (Plus a b) place l r h = (list_more a (omega arith) h.0, list_more b (omega arith) h.1)
  asks_more i long (Minus a b) place l r h = (list_more a (omega arith) h.0, list_more b (omega arith) h.1)
  asks_more i long (View j v) place l r h = λ e. list_more j (omega arith) (h e)

  pub part_more : (nodes views i : ℕ) (p : Part) → length c + views ≤ nodes → slice_get c i ≡ Some p → IsPartOf (length c + views) views c i p → IsPartOf nodes views (c ++ more) i p
  part_more nodes views i p long e h =
      let low = slice_get_within c i p e in
      record {
        left_earlier = h.left_earlier;
        right_earlier = h.right_earlier;
        in_order = order_more (length c + views) nodes views c (c ++ more) i (tables_more c more no_tables) (omega arith) long p.node h.in_order;
        takes = takes_same i (kinds_at c) (kinds_at (c ++ more)) (λ j less. sym (kinds_more c more j (omega arith))) p.node h.left_earlier h.right_earlier h.takes;
        width = width_same i (kinds_at c) (kinds_at (c ++ more)) (λ j less. sym (kinds_more c more j (omega arith))) p.node (length p.kinds) h.left_earlier h.right_earlier h.width;
        owned = owned_more views c (c ++ more) p.node p.place p.owner (λ v o. owner_stays c more views i v p.node (omega arith) h.left_earlier h.right_earlier o) h.owned;
      }

  pub listed_more : (i : ℕ) (p : Part) → slice_get c i ≡ Some p → IsListedPart c i p → IsListedPart (c ++ more) i p
  listed_more i p e h =
      let low = slice_get_within c i p e in
      let reads = earlier i p e in
      record {
        gives = gives_same i (kinds_at c) (kinds_at (c ++ more)) (λ j less. sym (kinds_more c more j (omega arith))) p.node p.kinds reads.0 reads.1 h.gives;
        asks = asks_more i (omega arith) p.node p.place reads.0 reads.1 h.asks;
        short = λ tables s. subst (IsShort p.node p.place) (sym (whole_more c more tables i low)) (h.short tables (sound_before tables i low s));
      }

pub begun_earlier : (views now : ℕ) (c : List Part) → IsBegun views now c → AreEarlier c
begun_earlier views now c b i p e = ((b.parts i p e).left_earlier, (b.parts i p e).right_earlier)

-- ---- rows of sound nodes
module _ (views now : ℕ) (c : List Part) (b : IsBegun views now c) (tables : List Rows) (i : ℕ) (p : Part) (at : slice_get c i ≡ Some p) (s : IsSoundAt c tables i) where
  pub begun_kinds : HasKinds p.kinds (whole c tables i)
  begun_kinds = (holds c (begun_earlier views now c b) b.lists tables s.good i p at s.sound).kinds

  pub begun_list : HasList c i → IsListed (whole c tables i)
  begun_list h = listed_at c (begun_earlier views now c b) b.lists i p at h tables s

-- ---- a part behind others
module _ (c more : List Part) (tables : List Rows) where
  from_more : (s : Source) → IsEarlier (length c) s → whole_from (c ++ more) tables s ≡ whole_from c tables s
  from_more Nowhere low = refl
  from_more (Outer t) low = refl
  from_more (Inner j) low = whole_more c more tables j low

  sound_from : AreEarlier c → (s : Source) → IsEarlier (length c) s → source_sound (c ++ more) tables s ≡ source_sound c tables s
  sound_from earlier Nowhere low = refl
  sound_from earlier (Outer t) low = refl
  sound_from earlier (Inner j) low = sound_more c more tables earlier j low

module _ (c : List Part) (p : Part) (earlier : AreEarlier c) (reads : ReadsThese c p) where
  pub last_earlier : AreEarlier (c ++ p ∷ [])
  last_earlier i q e = step (front_or_last c p i q e)
    where
      step : (slice_get c i ≡ Some q) ⊎ ((i ≡ length c) × (p ≡ q)) → IsEarlier i (left_source q.node) × IsEarlier i (right_source q.node)
      step (inl front) = earlier i q front
      step (inr last) =
          subst (λ r. IsEarlier i (left_source r.node) × IsEarlier i (right_source r.node)) last.1
          (subst (λ k. IsEarlier k (left_source p.node) × IsEarlier k (right_source p.node)) (sym last.0) (reads.left, reads.right))

  at_last : slice_get (c ++ p ∷ []) (length c) ≡ Some p
  at_last = got_next c p (length c) refl

  module _ (tables : List Rows) where
    pub last_value : whole (c ++ p ∷ []) tables (length c) ≡ made_of c tables p
    last_value =
        whole_at (c ++ p ∷ []) last_earlier tables (length c) p at_last
        ∙ ap₂ (operator p.node) (from_more c (p ∷ []) tables (left_source p.node) reads.left) (from_more c (p ∷ []) tables (right_source p.node) reads.right)

    pub last_fault : has_fault (c ++ p ∷ []) tables (length c) ≡ is_faulty c tables p
    last_fault =
        fault_at (c ++ p ∷ []) last_earlier tables (length c) p at_last
        ∙ ap₂ (λ y z. fault_of (Some p) (λ s. y) z) (from_more c (p ∷ []) tables (left_source p.node) reads.left) last_value

    sources_sound : (source_sound (c ++ p ∷ []) tables (left_source p.node) && source_sound (c ++ p ∷ []) tables (right_source p.node)) ≡ are_sound (Some p) (source_sound c tables)
    sources_sound = ap₂ (λ a b. a && b) (sound_from c (p ∷ []) tables earlier (left_source p.node) reads.left) (sound_from c (p ∷ []) tables earlier (right_source p.node) reads.right)

    pub last_sound : is_sound (c ++ p ∷ []) tables (length c) ≡ is_fine c tables p
    last_sound = sound_at (c ++ p ∷ []) last_earlier tables (length c) p at_last ∙ ap₂ (λ a b. not a && b) last_fault sources_sound

-- ---- one more node
module _ (views now : ℕ) (c : List Part) (p : Part) (b : IsBegun views now c) (next : IsNext views now c p) where
  earlier : AreEarlier c
  earlier = begun_earlier views now c b

  abbrev more : List Part
  more = c ++ p ∷ []

  longer : length more ≡ suc (length c)
  longer = let both = length-append c (p ∷ []) in omega arith

  no_table_more : table_count (p ∷ []) ≡ 0
  no_table_more = ap (λ t. length (cond t (p ∷ []) [])) next.no_table

  below_now : (s : Source) → IsEarlier (length c) s → IsOwnedBelow more now s
  below_now Nowhere low = tt
  below_now (Outer t) low = tt
  below_now (Inner j) low = λ w e. b.owners j w (sym (owner_more c (p ∷ []) j low) ∙ e)

  new_part : IsPartOf (length more + views) views more (length c) p
  new_part =
      let takes : TakesKinds p.node (kinds_at more) = takes_same (length c) (kinds_at c) (kinds_at more) (λ j low. sym (kinds_more c (p ∷ []) j low)) p.node next.reads.left next.reads.right next.takes in
      record {
        left_earlier = next.reads.left;
        right_earlier = next.reads.right;
        in_order = order_between (length more + views) views more (length c) p.node next.no_table next.no_view
            (let few = count_most (λ q. is_table q.node) c in let same = tables_more c (p ∷ []) no_table_more in omega arith, let long = longer in omega arith);
        takes = takes;
        width = width_same (length c) (kinds_at c) (kinds_at more) (λ j low. sym (kinds_more c (p ∷ []) j low)) p.node (length p.kinds) next.reads.left next.reads.right (gives_width p.node (kinds_at c) p.kinds next.takes next.gives);
        owned = owned_by views more p.node p.place now p.owner next.no_table next.owner
            (record { is_view = next.low; left = below_now (left_source p.node) next.reads.left; right = below_now (right_source p.node) next.reads.right });
      }

  new_listed : IsListedPart more (length c) p
  new_listed = record {
    gives = gives_same (length c) (kinds_at c) (kinds_at more) (λ j low. sym (kinds_more c (p ∷ []) j low)) p.node p.kinds next.reads.left next.reads.right next.gives;
    asks = asks_more c (p ∷ []) earlier no_table_more (length c) (omega arith) p.node p.place next.reads.left next.reads.right next.asks;
    short = λ tables s.
        let read : are_sound (Some p) (source_sound c tables) ≡ true = (and_parts (not (is_faulty c tables p)) (are_sound (Some p) (source_sound c tables)) (sym (last_sound c p earlier next.reads tables) ∙ s.sound)).1 in
        subst (IsShort p.node p.place) (sym (last_value c p earlier next.reads tables)) (next.short tables (good_before c (p ∷ []) no_table_more tables s.good) read);
  }

  grown_part : (i : ℕ) (q : Part) → (slice_get c i ≡ Some q) ⊎ ((i ≡ length c) × (p ≡ q)) → IsPartOf (length more + views) views more i q
  grown_part i q (inl front) = part_more c (p ∷ []) earlier no_table_more (length more + views) views i q (let long = longer in omega arith) front (b.parts i q front)
  grown_part i q (inr last) = subst (IsPartOf (length more + views) views more i) last.1 (subst (λ k. IsPartOf (length more + views) views more k p) (sym last.0) new_part)

  grown_listed : (i : ℕ) (q : Part) → (slice_get c i ≡ Some q) ⊎ ((i ≡ length c) × (p ≡ q)) → IsListedPart more i q
  grown_listed i q (inl front) = listed_more c (p ∷ []) earlier no_table_more i q front (b.lists i q front)
  grown_listed i q (inr last) = subst (IsListedPart more i) last.1 (subst (λ k. IsListedPart more k p) (sym last.0) new_listed)

  grown_owner : (i v : ℕ) (o : Option Part) → slice_get more i ≡ o → owner_in o ≡ Some v → v ≤ now
  grown_owner i v None e owner = absurd (cc owner)
  grown_owner i v (Some q) e owner = step (front_or_last c p i q e)
    where
      step : (slice_get c i ≡ Some q) ⊎ ((i ≡ length c) × (p ≡ q)) → v ≤ now
      step (inl front) = b.owners i v (ap owner_in front ∙ owner)
      step (inr last) = let same : now ≡ v = same_Some now v (sym next.owner ∙ ap (λ r. r.owner) last.1 ∙ owner) in omega arith

  pub grown : IsBegun views now more
  grown = record {
    parts = λ i q e. grown_part i q (front_or_last c p i q e);
    lists = λ i q e. grown_listed i q (front_or_last c p i q e);
    owners = λ i v e. grown_owner i v (slice_get more i) refl e;
  }

pub begun_later : (views now later : ℕ) (c : List Part) → IsBegun views now c → now ≤ later → IsBegun views later c
begun_later views now later c b low = record { parts = b.parts; lists = b.lists; owners = λ i v e. let below = b.owners i v e in omega arith }
