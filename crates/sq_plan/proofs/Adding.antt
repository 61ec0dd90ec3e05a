-- What one more part brings, what stays, and two steps as one.
use Rattle.std.proofs.Common.{◌≡◌, ℕ, zero, suc, ◌<◌, ◌+◌, Bool, true, false, ◌&&◌, ◌||◌, cond, List, [], ◌∷◌, ◌++◌, length, Some, refl, sym, ap, ap₂, subst, ◌∙◌, arith}
use Rattle.std.specs.Prelude.{slice_get, ◌==◌}
use Rattle.std.specs.List.{AllByRecursion}
use Rattle.std.proofs.lemmas.List.{append_assoc, length-append}
use Rattle.std.proofs.Math.Bool.{or_assoc}
use Rattle.std.proofs.lemmas.Bool.Decides.{nat_tests}
use Rattle.std.proofs.lemmas.Option.{slice_get_within}
use Rattle.sq_expr.specs.declared.expr.Kind.{Kind}
use Rattle.sq_expr.proofs.Lists.{all_append}
use Rattle.sq_circuit.specs.Circuits.{fault_of, has_fault, kinds_at, kinds_in, owner_at, owner_in, whole, whole_from}
use Rattle.sq_circuit.specs.Begun as making
use Rattle.sq_circuit.specs.Begun.{IsBegun}
use Rattle.sq_circuit.specs.Invariant.{AreEarlier, IsEarlier, is_table, table_count}
use Rattle.sq_circuit.specs.Listed.{HasList, is_loose, is_loose_in}
use Rattle.sq_circuit.specs.Nodes.{Rows, Source, Nowhere, Outer, Inner, left_source, operator, right_source}
use Rattle.sq_circuit.specs.declared.circuit.Part.{Part}
use Rattle.sq_plan.specs.declared.draft.Draft.{Draft}
use Rattle.sq_circuit.proofs.Alongside.{got_front}
use Rattle.sq_circuit.proofs.Appending.{count_more}
use Rattle.sq_circuit.proofs.Evaluating.{fault_at, whole_at}
use Rattle.sq_circuit.proofs.Growing.{fault_more, whole_more}
use Rattle.sq_circuit.proofs.Making.{begun_earlier, grown, list_more}
use Rattle.sq_plan.specs.Drafts.{Adds, Appends, IsDraft, IsNext, IsNode, IsOwnedBy, IsThere, blames, blames_view, faulty_behind, is_of, kinds_of, some_below, worth_behind, worth_of}

some_same : (f g : ℕ → Bool) (n : ℕ) → ((i : ℕ) → i < n → f i ≡ g i) → some_below f n ≡ some_below g n
some_same f g zero h = refl
some_same f g (suc n) h = ap₂ (λ a b. a || b) (some_same f g n (λ i low. h i (omega arith))) (h n (omega arith))

pub got_last : {A : Type 0} (xs : List A) (x : A) → slice_get (xs ++ x ∷ []) (length xs) ≡ Some x
got_last [] x = refl
got_last (y ∷ ys) x = got_last ys x

-- a part of the longer list is an earlier one or the last
data Place (c : List Part) (p : Part) (i : ℕ) (q : Part) : Type 0 where
  Front : i < length c → slice_get c i ≡ Some q → Place c p i q
  Last : i ≡ length c → q ≡ p → Place c p i q

at_place : (c : List Part) (p : Part) (i : ℕ) (q : Part) → slice_get (c ++ p ∷ []) i ≡ Some q → Place c p i q
at_place [] p zero q e = Last refl cc
at_place [] p (suc i) q e = absurd cc
at_place (d ∷ c) p zero q e = Front (omega arith) e
at_place (d ∷ c) p (suc i) q e = one_more (at_place c p i q e)
  where
    one_more : Place c p i q → Place (d ∷ c) p (suc i) q
    one_more (Front low is) = Front (omega arith) is
    one_more (Last is same) = Last (ap suc is) same

longer : (c : List Part) (p : Part) → length (c ++ p ∷ []) ≡ suc (length c)
longer [] p = refl
longer (d ∷ c) p = ap suc (longer c p)

pub or_same : (a b c d : Bool) → a ≡ b → c ≡ d → (a || c) ≡ (b || d)
or_same a b c d e f = ap₂ (λ x y. x || y) e f

-- ---- a draft reads earlier nodes alone, and so does its front
pub draft_earlier : (d : Draft) → IsDraft d → AreEarlier d.parts.items
draft_earlier d h = begun_earlier (suc d.view) d.view d.parts.items (h.begun (suc d.view) (omega arith))

pub front_earlier : (c more : List Part) → AreEarlier (c ++ more) → AreEarlier c
front_earlier c more h i p e = h i p (got_front c more i (slice_get_within c i p e) ∙ e)

pub no_tables_in : (c more : List Part) → table_count c ≡ 0 → table_count more ≡ 0 → table_count (c ++ more) ≡ 0
no_tables_in c more l r = let both = count_more (λ p. is_table p.node) c more in omega arith

-- ---- a node of a longer draft
pub node_more : (d e : Draft) (more : List Part) → e.parts.items ≡ d.parts.items ++ more → table_count more ≡ 0 → IsDraft e → (i : ℕ) → IsNode d i → IsNode e i
node_more d e more is none draft i n = record {
  there = subst (λ xs. i < length xs) (sym is) (let h = length-append d.parts.items more in let low = n.there in omega (arith, h, low));
  list = subst (λ xs. HasList xs i) (sym is) (list_more d.parts.items more (front_earlier d.parts.items more (subst AreEarlier is (draft_earlier e draft))) none i n.there n.list);
}

module _ (c : List Part) (p : Part) (earlier : AreEarlier c) (left : IsEarlier (length c) (left_source p.node)) (right : IsEarlier (length c) (right_source p.node)) where
  earlier_still : AreEarlier (c ++ p ∷ [])
  earlier_still i q e = by_place (at_place c p i q e)
    where
      by_place : Place c p i q → IsEarlier i (left_source q.node) × IsEarlier i (right_source q.node)
      by_place (Front low is) = earlier i q is
      by_place (Last is same) = subst (λ (r : Part). IsEarlier i (left_source r.node) × IsEarlier i (right_source r.node)) (sym same)
          (subst (λ k. IsEarlier k (left_source p.node) × IsEarlier k (right_source p.node)) (sym is) (left, right))

  source_reads : (tables : List Rows) (s : Source) → IsEarlier (length c) s → whole_from (c ++ p ∷ []) tables s ≡ whole_from c tables s
  source_reads tables Nowhere low = refl
  source_reads tables (Outer t) low = refl
  source_reads tables (Inner j) low = whole_more c (p ∷ []) tables j low

  abbrev made : List Rows → Rows
  made tables = operator p.node (whole_from c tables (left_source p.node)) (whole_from c tables (right_source p.node))

  worth_last : (tables : List Rows) → whole (c ++ p ∷ []) tables (length c) ≡ made tables
  worth_last tables =
      whole_at (c ++ p ∷ []) earlier_still tables (length c) p (got_last c p)
      ∙ ap₂ (operator p.node) (source_reads tables (left_source p.node) left) (source_reads tables (right_source p.node) right)

  fault_last : (tables : List Rows) → has_fault (c ++ p ∷ []) tables (length c) ≡ fault_of (Some p) (whole_from c tables) (made tables)
  fault_last tables =
      fault_at (c ++ p ∷ []) earlier_still tables (length c) p (got_last c p)
      ∙ ap₂ (λ y z. fault_of (Some p) (λ s. y) z) (source_reads tables (left_source p.node) left) (worth_last tables)

  blame_last : (v : ℕ) (tables : List Rows) → blames_view (c ++ p ∷ []) tables v ≡ (blames_view c tables v || (is_of v p.owner && fault_of (Some p) (whole_from c tables) (made tables)))
  blame_last v tables =
      ap (some_below (λ i. is_of v (owner_at (c ++ p ∷ []) i) && has_fault (c ++ p ∷ []) tables i)) (longer c p)
      ∙ or_same _ _ _ _
      (some_same (λ i. is_of v (owner_at (c ++ p ∷ []) i) && has_fault (c ++ p ∷ []) tables i) (λ i. is_of v (owner_at c i) && has_fault c tables i) (length c)
      (λ i low. ap₂ (λ a b. is_of v (owner_in a) && b) (got_front c (p ∷ []) i low) (fault_more c (p ∷ []) tables earlier i low)))
      (ap₂ (λ a b. is_of v (owner_in a) && b) (got_last c p) (fault_last tables))

same_number : (v : ℕ) → (v == v) ≡ true
same_number v = grind (arith, nat_tests)

-- ---- a part that stands behind a draft
pub appended : (d e : Draft) (p : Part) (i : ℕ) → IsDraft d → IsNext d p → e.view ≡ d.view → e.parts.items ≡ d.parts.items ++ p ∷ [] → i ≡ length d.parts.items → Appends d e i p
appended d e p i h n view is at = record {
  view = view;
  is = is;
  at = at;
  draft = record {
    begun = λ views low.
        let known : d.view < views = subst (λ v. v < views) view low in
        subst (λ v. IsBegun views v e.parts.items) (sym view) (subst (IsBegun views d.view) (sym is) (grown views d.view d.parts.items p (h.begun views known) (n.next views known)));
  };
}

module _ (d e : Draft) (p : Part) (i : ℕ) (g : Appends d e i p) where
  pub appended_part : slice_get e.parts.items i ≡ Some p
  appended_part = ap₂ slice_get g.is g.at ∙ got_last d.parts.items p

  pub appended_there : IsThere e i
  appended_there = subst (λ xs. i < length xs) (sym g.is) (subst (λ k. k < length (d.parts.items ++ p ∷ [])) (sym g.at) (subst (λ k. length d.parts.items < k) (sym (longer d.parts.items p)) (omega arith)))

  pub appended_length : length e.parts.items ≡ suc (length d.parts.items)
  appended_length = ap length g.is ∙ longer d.parts.items p

  -- a node that is not loose has a list
  pub firm : is_loose p.node p.place ≡ false → HasList e.parts.items i
  firm fine loose = absurd (let never : true ≡ false = sym loose ∙ ap is_loose_in appended_part ∙ fine in cc)

  module _ (h : IsDraft d) (n : IsNext d p) where
    next_here : making.IsNext (suc d.view) d.view d.parts.items p
    next_here = n.next (suc d.view) (omega arith)

    pub appended_worth : (tables : List Rows) → worth_of e i tables ≡ worth_behind d p tables
    appended_worth tables = ap₂ (λ xs k. whole xs tables k) g.is g.at ∙ worth_last d.parts.items p (draft_earlier d h) next_here.reads.left next_here.reads.right tables

    appended_blame : (tables : List Rows) → blames e tables ≡ (blames d tables || faulty_behind d p tables)
    appended_blame tables = ap₂ (λ xs v. blames_view xs tables v) g.is g.view
        ∙ blame_last d.parts.items p (draft_earlier d h) next_here.reads.left next_here.reads.right d.view tables
        ∙ ap (λ b. blames d tables || (b && faulty_behind d p tables)) (ap (is_of d.view) next_here.owner ∙ same_number d.view)

    pub appended_kinds : kinds_of e i ≡ p.kinds
    appended_kinds = ap₂ (λ xs k. kinds_at xs k) g.is g.at ∙ ap kinds_in (got_last d.parts.items p)

    no_table_behind : table_count (p ∷ []) ≡ 0
    no_table_behind = ap (λ t. length (cond t (p ∷ []) [])) next_here.no_table

    -- the part brings its fault; a node from before stays
    pub adds_beside : (j : ℕ) → IsNode d j → Adds 1 d e j (kinds_of d j) (worth_of d j) (faulty_behind d p)
    adds_beside j low = record {
      view = g.view;
      more = p ∷ [];
      is = g.is;
      no_tables = no_table_behind;
      owned = (next_here.owner, tt);
      few = omega arith;
      draft = g.draft;
      low = node_more d e (p ∷ []) g.is no_table_behind g.draft j low;
      kinds_are = ap (λ xs. kinds_at xs j) g.is ∙ ap kinds_in (got_front d.parts.items (p ∷ []) j low.there);
      worth = λ tables. ap (λ xs. whole xs tables j) g.is ∙ whole_more d.parts.items (p ∷ []) tables j low.there;
      blame = appended_blame;
    }

    pub adds_listed : HasList e.parts.items i → Adds 1 d e i p.kinds (worth_behind d p) (faulty_behind d p)
    adds_listed list = record {
      view = g.view;
      more = p ∷ [];
      is = g.is;
      no_tables = no_table_behind;
      owned = (next_here.owner, tt);
      few = omega arith;
      draft = g.draft;
      low = record { there = appended_there; list = list };
      kinds_are = appended_kinds;
      worth = appended_worth;
      blame = appended_blame;
    }

    pub adds_one : is_loose p.node p.place ≡ false → Adds 1 d e i p.kinds (worth_behind d p) (faulty_behind d p)
    adds_one fine = adds_listed (firm fine)

-- ---- two steps as one
pub owned_both : (v w : ℕ) (ps qs : List Part) → w ≡ v → AllByRecursion (IsOwnedBy v) ps → AllByRecursion (IsOwnedBy w) qs → AllByRecursion (IsOwnedBy v) (ps ++ qs)
owned_both v w ps qs same h k = all_append (IsOwnedBy v) ps qs h (subst (λ u. AllByRecursion (IsOwnedBy u) qs) same k)

pub adds_then : (n m : ℕ) (c d e : Draft) (i j : ℕ) (ks ls : List Kind) (y z : List Rows → Rows) (f g : List Rows → Bool) →
    Adds n c d i ks y f → Adds m d e j ls z g → Adds (n + m) c e j ls z (λ tables. f tables || g tables)
adds_then n m c d e i j ks ls y z f g a b = record {
  view = b.view ∙ a.view;
  more = a.more ++ b.more;
  is = b.is ∙ ap (λ xs. xs ++ b.more) a.is ∙ append_assoc c.parts.items a.more b.more;
  no_tables = no_tables_in a.more b.more a.no_tables b.no_tables;
  owned = owned_both c.view d.view a.more b.more a.view a.owned b.owned;
  few = let h = length-append a.more b.more in omega (arith, h, a.few, b.few);
  draft = b.draft;
  low = b.low;
  kinds_are = b.kinds_are;
  worth = b.worth;
  blame = λ tables. b.blame tables ∙ ap (λ x. x || g tables) (a.blame tables) ∙ or_assoc (blames c tables) (f tables) (g tables);
}

-- the same step, said otherwise
pub adds_as : (n : ℕ) (c e : Draft) (i : ℕ) (ks ls : List Kind) (y z : List Rows → Rows) (f g : List Rows → Bool) →
    ks ≡ ls → ((tables : List Rows) → y tables ≡ z tables) → ((tables : List Rows) → f tables ≡ g tables) → Adds n c e i ks y f → Adds n c e i ls z g
adds_as n c e i ks ls y z f g same worth fault a = record {
  view = a.view;
  more = a.more;
  is = a.is;
  no_tables = a.no_tables;
  owned = a.owned;
  few = a.few;
  draft = a.draft;
  low = a.low;
  kinds_are = a.kinds_are ∙ same;
  worth = λ tables. a.worth tables ∙ worth tables;
  blame = λ tables. a.blame tables ∙ ap (λ x. blames c tables || x) (fault tables);
}

-- ---- what was there before
pub worth_stays : (n : ℕ) (d e : Draft) (i : ℕ) (ks : List Kind) (z : List Rows → Rows) (f : List Rows → Bool) → Adds n d e i ks z f → (j : ℕ) → IsNode d j → (tables : List Rows) → worth_of e j tables ≡ worth_of d j tables
worth_stays n d e i ks z f a j low tables = ap (λ xs. whole xs tables j) a.is ∙ whole_more d.parts.items a.more tables j low.there

pub kinds_stay : (n : ℕ) (d e : Draft) (i : ℕ) (ks : List Kind) (z : List Rows → Rows) (f : List Rows → Bool) → Adds n d e i ks z f → (j : ℕ) → IsNode d j → kinds_of e j ≡ kinds_of d j
kinds_stay n d e i ks z f a j low = ap (λ xs. kinds_at xs j) a.is ∙ ap kinds_in (got_front d.parts.items a.more j low.there)

pub stays_node : (n : ℕ) (d e : Draft) (i : ℕ) (ks : List Kind) (z : List Rows → Rows) (f : List Rows → Bool) → Adds n d e i ks z f → (j : ℕ) → IsNode d j → IsNode e j
stays_node n d e i ks z f a j low = node_more d e a.more a.is a.no_tables a.draft j low
