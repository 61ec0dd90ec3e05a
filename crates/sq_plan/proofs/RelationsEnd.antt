-- The parts of all relations, with the views behind them, are the circuit of the program.
use Rattle.std.proofs.Common.{◌≡◌, ℕ, zero, suc, ◌+◌, ◌*◌, ◌<◌, ◌≤◌, ◌^◌, Bool, true, false, ◌&&◌, List, [], ◌∷◌, ◌++◌, drop, length, map, refl, sym, ap, ap₂, subst, ◌∙◌, append_assoc, append-nil, add-one, arith}
use mathlib.Core.Logic.{◌⊎◌, inl, inr}
use Rattle.std.specs.Prelude.{Option, Some, None, slice_get}
use Rattle.std.specs.List.{AllByRecursion}
use Rattle.std.proofs.lemmas.Bool.Decides.{nat_tests}
use Rattle.std.proofs.lemmas.List.{length-append}
use Rattle.std.proofs.lemmas.Option.{same_Some, slice_get_within}
use Rattle.sq_bridge.specs.Meaning.{IsWorth}
use Rattle.sq_bridge.specs.Nodes.{Node}
use Rattle.sq_bridge.specs.Rows.{listed}
use Rattle.sq_bridge.specs.Views.{NodeStanding, node_verdict, view_nodes}
use Rattle.sq_bridge.proofs.Beginning.{checked_begins}
use Rattle.sq_bridge.proofs.Viewing.{views_are_worth, verdicts_are_same}
use Rattle.sq_circuit.specs.Begun.{IsBegun, IsEnded, IsViewOf}
use Rattle.sq_circuit.specs.Circuits.{has_fault, kinds_at, kinds_in, owner_at, owner_in, verdict, whole}
use Rattle.sq_circuit.specs.Invariant.{AreEarlier, IsCircuit, is_table, is_view, table_count, view_count}
use Rattle.sq_circuit.specs.Nodes.{Rows}
use Rattle.sq_circuit.specs.Verdicts.{AreTold, IsToBlame}
use Rattle.sq_circuit.specs.declared.circuit.Part.{Part}
use Rattle.sq_circuit.specs.declared.node.Node.TheVariants as op
use Rattle.sq_circuit.proofs.Alongside.{got_front}
use Rattle.sq_circuit.proofs.Appending.{Behind, count_all, count_more, count_none, front_or_behind, no_view_before}
use Rattle.sq_circuit.proofs.Ending.{ended_circuit, view_fault, view_value}
use Rattle.sq_circuit.proofs.Growing.{fault_more}
use Rattle.sq_circuit.proofs.Making.{begun_earlier}
use Rattle.sq_circuit.proofs.Judging.{verdict_is_first}
use Rattle.sq_expr.proofs.Lists.{all_at, all_weaker}
use Rattle.sq_expr.specs.declared.expr.Kind.{Kind}
use Rattle.sq_ast.specs.Sources.{sum}
use Rattle.sq_typed.specs.Fit.{Pairwise, ProgramFits, TablesAreOfKinds}
use Rattle.sq_typed.specs.Sources.{query_sources, sources_in}
use Rattle.sq_typed.specs.Tables.{Tables}
use Rattle.sq_typed.specs.Views.{Meant, views}
use Rattle.sq_typed.proofs.CheckedFits.{checked_fits}
use Rattle.sq_plan.specs.Drafts.{IsNode, blames_view, is_of}
use Rattle.sq_plan.specs.Plans.{relation_kinds}
use Rattle.sq_plan.specs.Program.{IsPlanOf, IsViewAt, ShowsViews, table_kinds, table_part, tables_from, view_part, views_from}
use Rattle.sq_plan.specs.ProgramWalk.{IsShown, Stands, Walk}
use Rattle.sq_plan.specs.declared.draft.Draft.{Draft}
use Rattle.sq_plan.proofs.KeyedPrograms.{keyed_more}
use Rattle.sq_plan.proofs.RelationsBlame.{Passing, some_found, some_passes}
use Rattle.sq_plan.proofs.RelationsTables.{drop_here, drop_past, tables_at, tables_many}
use Rattle.sq_plan.proofs.RelationsWalk.{tables_are, with_all}

-- ---- the loop over the views
pub record ViewsSoFar (c : List Part) (shown : List ℕ) (v : ℕ) (parts : List Part) : Type 0 where
  pub more : List Part
  pub is : parts ≡ c ++ more
  pub all : more ++ views_from c v (drop v shown) ≡ views_from c 0 shown

pub views_begin : (c : List Part) (shown : List ℕ) → ViewsSoFar c shown 0 c
views_begin c shown = record { more = []; is = sym (append-nil c); all = refl }

pub views_go_on : (c : List Part) (shown : List ℕ) (v : ℕ) (parts next : List Part) (input : ℕ) → slice_get shown v ≡ Some input → ViewsSoFar c shown v parts →
    next ≡ parts ++ view_part c v input ∷ [] → ViewsSoFar c shown (v + 1) next
views_go_on c shown v parts next input at so is = record {
  more = so.more ++ view_part c v input ∷ [];
  is = is ∙ ap (λ xs. xs ++ view_part c v input ∷ []) so.is ∙ append_assoc c so.more (view_part c v input ∷ []);
  all =
      append_assoc so.more (view_part c v input ∷ []) (views_from c (v + 1) (drop (v + 1) shown))
      ∙ ap (λ n. so.more ++ view_part c v input ∷ views_from c n (drop (v + 1) shown)) (add-one v)
      ∙ ap (λ xs. so.more ++ views_from c v xs) (sym (drop_here shown v input at))
      ∙ so.all;
}

pub views_end : (c : List Part) (shown : List ℕ) (v : ℕ) (parts : List Part) → length shown ≤ v → ViewsSoFar c shown v parts → parts ≡ c ++ views_from c 0 shown
views_end c shown v parts past so =
    so.is ∙ ap (λ xs. c ++ xs) (sym (append-nil so.more) ∙ ap (λ xs. so.more ++ views_from c v xs) (sym (drop_past shown v past)) ∙ so.all)

module _ (c : List Part) (shown : List ℕ) (v : ℕ) (parts : List Part) (so : ViewsSoFar c shown v parts) (low : AllByRecursion (λ i. i < length c) shown) (input : ℕ) (at : slice_get shown v ≡ Some input) where
  input_low : input < length c
  input_low = all_at (λ i. i < length c) shown v input low at

  pub input_there : input < length parts
  input_there = omega (arith, input_low, ap length so.is, length-append c so.more)

  pub one_more_view : (next : List Part) → next ≡ parts ++ view_part parts v input ∷ [] → ViewsSoFar c shown (v + 1) next
  one_more_view next is =
      views_go_on c shown v parts next input at so
      (is ∙ ap (λ ks. parts ++ record { node = op.View input v; kinds = ks; place = false; owner = Some v } ∷ []) (ap (λ xs. kinds_at xs input) so.is ∙ ap kinds_in (got_front c so.more input input_low)))

-- ---- the views behind the others
views_at : (c : List Part) (n : ℕ) (shown : List ℕ) (v m : ℕ) (q : Part) → slice_get (views_from c n shown) v ≡ Some q → m ≡ n + v → (input : ℕ) × (slice_get shown v ≡ Some input) × (q ≡ view_part c m input)
views_at c n [] v m q e is = absurd (cc e)
views_at c n (x ∷ shown) zero m q e is = let same : n ≡ m = omega arith in (x, refl, sym (same_Some (view_part c n x) q e) ∙ ap (λ k. view_part c k x) same)
views_at c n (x ∷ shown) (suc v) m q e is = views_at c (suc n) shown v m q e (omega arith)

views_there : (c : List Part) (n : ℕ) (shown : List ℕ) (v m input : ℕ) → slice_get shown v ≡ Some input → m ≡ n + v → slice_get (views_from c n shown) v ≡ Some (view_part c m input)
views_there c n [] v m input e is = absurd (cc e)
views_there c n (x ∷ shown) zero m input e is = let same : n ≡ m = omega arith in ap (λ k. Some (view_part c k x)) same ∙ ap (λ y. Some (view_part c m y)) (same_Some x input e)
views_there c n (x ∷ shown) (suc v) m input e is = views_there c (suc n) shown v m input e (omega arith)

views_many : (c : List Part) (n : ℕ) (shown : List ℕ) → length (views_from c n shown) ≡ length shown
views_many c n [] = refl
views_many c n (x ∷ shown) = ap suc (views_many c (suc n) shown)

pair_at : {A B : Type 0} (P : A → B → Type 0) (xs : List A) (ys : List B) (v : ℕ) (y : B) → Pairwise P xs ys → slice_get ys v ≡ Some y → (x : A) × (slice_get xs v ≡ Some x) × P x y
pair_at P [] [] v y h e = absurd (cc e)
pair_at P [] (z ∷ ys) v y h e = absurd h
pair_at P (x ∷ xs) [] v y h e = absurd h
pair_at P (x ∷ xs) (z ∷ ys) zero y h e = (x, refl, subst (P x) (same_Some z y e) h.0)
pair_at P (x ∷ xs) (z ∷ ys) (suc v) y h e = pair_at P xs ys v y h.1 e

pairs_many : {A B : Type 0} (P : A → B → Type 0) (xs : List A) (ys : List B) → Pairwise P xs ys → length xs ≡ length ys
pairs_many P [] [] h = refl
pairs_many P [] (z ∷ ys) h = absurd h
pairs_many P (x ∷ xs) [] h = absurd h
pairs_many P (x ∷ xs) (z ∷ ys) h = ap suc (pairs_many P xs ys h.1)

both_true : (a b : Bool) → (a && b) ≡ true → (a ≡ true) × (b ≡ true)
both_true true b e = (refl, e)
both_true false b e = absurd (cc e)

owner_is : (v : ℕ) (o : Option ℕ) → is_of v o ≡ true → o ≡ Some v
owner_is v None e = absurd (cc e)
owner_is v (Some w) e = let same : w ≡ v = grind (arith, nat_tests) in ap Some same

is_owner : (v : ℕ) (o : Option ℕ) → o ≡ Some v → is_of v o ≡ true
is_owner v None e = absurd (cc e)
is_owner v (Some w) e = let same : w ≡ v = same_Some w v e in grind (arith, nat_tests)

none_dropped : {A : Type 0} (xs : List A) (n : ℕ) → drop n xs ≡ [] → length xs ≤ n
none_dropped [] n e = omega arith
none_dropped (x ∷ xs) zero e = absurd (cc e)
none_dropped (x ∷ xs) (suc n) e = omega (arith, none_dropped xs n e)

-- ---- all relations have nodes
module _ (p : Meant) (d : Draft) (nodes shown : List ℕ) (t : ℕ) (walk : Walk p (length p.catalog) d nodes shown t) where
  abbrev c : List Part
  c = d.parts.items

  abbrev vs : List Part
  vs = views_from c 0 shown

  none_left : drop (length p.catalog) p.catalog ≡ []
  none_left = drop_past p.catalog (length p.catalog) (omega arith)

  no_queries : drop d.view p.queries ≡ []
  no_queries = subst (ProgramFits (relation_kinds d nodes) (drop d.view p.queries)) none_left walk.fits

  all_views : d.view ≡ length p.queries
  all_views = omega (arith, none_dropped p.queries d.view no_queries, walk.there)

  abbrev now : ℕ
  now = d.view

  begun : IsBegun (length p.queries) now c
  begun = walk.begun (length p.queries) (omega (arith, all_views))

  abbrev kss : List (List Kind)
  kss = table_kinds p.catalog

  abbrev front : List Part
  front = tables_from 0 kss

  all_tables : length kss ≤ t
  all_tables = none_dropped kss t (walk.tables_left ∙ ap table_kinds none_left)

  sources_left : sum (map query_sources (drop d.view p.queries)) ≡ 0
  sources_left = ap (λ qs. sum (map query_sources qs)) no_queries

  few_nodes : length c ≤ length kss + 40 * sources_in p
  few_nodes = omega (arith, walk.few, sources_left)

  many_views : length vs ≡ length p.queries
  many_views = views_many c 0 shown ∙ walk.many ∙ all_views

  each_view : (v : ℕ) (q : Part) → slice_get vs v ≡ Some q → IsViewOf c v q
  each_view v q e =
      let found = views_at c 0 shown v v q e (omega arith) in
      record {
        input = found.0;
        node = ap (λ (x : Part). x.node) found.2;
        low = (all_at (IsNode d) shown v found.0 walk.low found.1).there;
        kinds = ap (λ (x : Part). x.kinds) found.2;
        place = ap (λ (x : Part). x.place) found.2;
        owner = ap (λ (x : Part). x.owner) found.2;
        not_later = λ w o. walk.not_later v found.0 w found.1 o;
      }

  ended : IsEnded (length p.queries) now c vs
  ended = record { begun = begun; each = each_view; many = many_views }

  abbrev all : List Part
  all = c ++ vs

  long : length all ≡ length c + length vs
  long = length-append c vs

  pub is_circuit : IsCircuit all
  is_circuit = ended_circuit (length p.queries) now c vs ended (omega (arith, few_nodes, walk.room, walk.count, all_views))

  pub shown_there : AllByRecursion (λ i. i < length c) shown
  shown_there = all_weaker (IsNode d) (λ i. i < length c) shown (λ i h. h.there) walk.low

  pub shown_few : length shown < 2 ^ 32
  shown_few = omega (arith, walk.many, walk.count, walk.room)

  -- ---- tables
  front_tables : (i : ℕ) (q : Part) → slice_get front i ≡ Some q → is_table q.node ≡ true
  front_tables i q e = let made = tables_are kss 0 i i q e (omega arith) in ap (λ (x : Part). is_table x.node) made.1

  count_tables : table_count all ≡ length kss
  count_tables =
      let own = ap table_count walk.is in
      let parts = count_more (λ q. is_table q.node) front walk.more in
      let both = count_more (λ q. is_table q.node) c vs in
      let tables = count_all (λ q. is_table q.node) front front_tables in
      let others = walk.no_tables in
      let views = count_none (λ q. is_table q.node) vs (λ v q e. ap is_table (each_view v q e).node) in
      omega (arith, own, parts, both, tables, others, views, tables_many 0 kss)

  table_there : (n : ℕ) (ks : List Kind) → slice_get kss n ≡ Some ks → slice_get all n ≡ Some (table_part n ks)
  table_there n ks e =
      let own = tables_at kss 0 n n ks e (omega arith) in
      let low = slice_get_within front n _ own in
      let parts = length-append front walk.more in
      let same = ap length walk.is in
      got_front c vs n (omega (arith, low, parts, same)) ∙ ap (λ xs. slice_get xs n) walk.is ∙ got_front front walk.more n low ∙ own

  -- ---- views
  count_views : view_count all ≡ length vs
  count_views =
      let both = count_more (λ q. is_view q.node) c vs in
      let views = count_all (λ q. is_view q.node) vs (λ v q e. ap is_view (each_view v q e).node) in
      let others = count_none (λ q. is_view q.node) c (λ i q e. no_view_before (length c + length p.queries) (length p.queries) c i q.node (let low = slice_get_within c i q e in omega (arith, low)) (begun.parts i q e).in_order) in
      omega (arith, both, views, others)

  earlier : AreEarlier c
  earlier = begun_earlier (length p.queries) now c begun

  module _ (tables : List Rows) where
    abbrev s : Stands p (length p.catalog) d nodes shown t tables
    s = walk.stands tables

    given_is : view_nodes p tables ≡ s.before.given
    unfolding view_nodes
    given_is = ap (λ (x : NodeStanding). x.given) (s.goes_on ∙ ap (with_all s.before) none_left)

    many_given : length (view_nodes p tables) ≡ length p.queries
    many_given = ap length given_is ∙ s.many ∙ all_views

    shown_at : (v : ℕ) (n : Node) → slice_get (view_nodes p tables) v ≡ Some n → IsShown d shown tables v n
    shown_at v n e = s.given v n (ap (λ ns. slice_get ns v) (sym given_is) ∙ e)

    -- a node with a fault that belongs to a view is one of c
    blamed : (v i : ℕ) → i < length all → has_fault all tables i ≡ true → owner_at all i ≡ Some v → blames_view c tables v ≡ true
    blamed v i low fault owner = by_part (slice_get all i) refl
      where
        by_place : (q : Part) → slice_get all i ≡ Some q → (slice_get c i ≡ Some q) ⊎ Behind (length c) vs i q → blames_view c tables v ≡ true
        by_place q is (inl here) =
            let less = slice_get_within c i q here in
            some_passes (λ i. is_of v (owner_at c i) && has_fault c tables i) (length c) i less
            (ap₂ (λ a b. a && b) (is_owner v (owner_at c i) (sym (ap owner_in (got_front c vs i less)) ∙ owner)) (sym (fault_more c vs tables earlier i less) ∙ fault))
        by_place q is (inr b) = absurd (let none = view_fault (length p.queries) now c vs ended tables i b.place q is (each_view b.place q b.at) in let never = sym fault ∙ none in cc)

        by_part : (o : Option Part) → slice_get all i ≡ o → blames_view c tables v ≡ true
        by_part None is = absurd (cc (sym (ap owner_in is) ∙ owner))
        by_part (Some q) is = by_place q is (front_or_behind c vs i q is)

    blames_one : (v : ℕ) → Passing (λ i. is_of v (owner_at c i) && has_fault c tables i) (length c) → IsToBlame all tables v
    blames_one v found =
        let both = both_true (is_of v (owner_at c found.number)) (has_fault c tables found.number) found.passes in
        record {
          node = found.number;
          low = omega (arith, found.low, long);
          fault = fault_more c vs tables earlier found.number found.low ∙ both.1;
          owner = ap owner_in (got_front c vs found.number found.low) ∙ owner_is v (owner_at c found.number) both.0;
        }

    told : AreTold (λ (n : Node). n.fault) (view_nodes p tables) all tables
    told v n e none =
        let h = shown_at v n e in
        record {
          tells = λ who. sym h.blame ∙ blamed v who.node who.low who.fault who.owner;
          blames = λ bad. blames_one v (some_found (λ i. is_of v (owner_at c i) && has_fault c tables i) (length c) (h.blame ∙ bad));
        }

    verdict_is : verdict all tables ≡ node_verdict p tables
    unfolding node_verdict
    verdict_is = verdict_is_first (λ (n : Node). n.fault) (view_nodes p tables) all tables is_circuit (many_given ∙ sym many_views ∙ sym count_views) told

    view_rows : (v i : ℕ) (n : Node) → slice_get (view_nodes p tables) v ≡ Some n → IsViewAt all v i → whole all tables i ≡ n.rows
    view_rows v i n e at =
        let h = shown_at v n e in
        let there = views_there c 0 shown v v h.node h.at (omega arith) in
        let place : i ≡ length c + v = omega (arith, at, long, count_views) in
        let input = (ended.each v (view_part c v h.node) there).input in
        let same : input ≡ h.node = (let is : op.View h.node v ≡ op.View input v = (ended.each v (view_part c v h.node) there).node in cc) in
        ap (whole all tables) place ∙ view_value (length p.queries) now c vs ended tables v (view_part c v h.node) there ∙ ap (whole c tables) same ∙ h.rows

  shows : (tables : Tables) → TablesAreOfKinds tables p.catalog → ShowsViews all (map listed tables) (views p tables)
  shows tables hold =
      let worth = views_are_worth p tables (checked_fits p walk.checked) (checked_begins p walk.checked) hold in
      record {
        many = count_views ∙ many_views ∙ sym (many_given (map listed tables)) ∙ pairs_many IsWorth (view_nodes p (map listed tables)) (views p tables) worth;
        each = λ v i a e at.
            let found = pair_at IsWorth (view_nodes p (map listed tables)) (views p tables) v a worth e in
            view_rows (map listed tables) v i found.0 found.1 at ∙ found.2.rows;
      }

  pub plan_is : IsPlanOf p all
  plan_is = record {
    tables = record { many = count_tables; each = table_there };
    views = shows;
    verdict = λ tables hold. verdict_is (map listed tables) ∙ verdicts_are_same p tables (checked_fits p walk.checked) (checked_begins p walk.checked) hold;
    keyed = keyed_more p c vs walk.keyed (λ j v left right by q at far here node. absurd (let never : op.View (each_view v q here).input v ≡ op.Join left right by = sym (each_view v q here).node ∙ node in cc));
    few = omega (arith, few_nodes, long, many_views, all_tables, walk.count, all_views);
  }
