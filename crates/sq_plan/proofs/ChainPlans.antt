-- The nodes of set operations, member by member.
use Rattle.std.proofs.Common.{◌≡◌, ℕ, zero, suc, ◌+◌, ◌*◌, ◌<◌, ◌≤◌, ◌^◌, Bool, true, false, ◌&&◌, ◌||◌, List, [], ◌∷◌, ◌++◌, length, map, fold, take, refl, sym, ap, ap₂, subst, ◌∙◌, arith}
use Rattle.std.specs.Prelude.{Option, Some, None, slice_get, unwrap_or}
use Rattle.std.specs.List.{AllByRecursion, list_all}
use Rattle.sq_ast.specs.Sources.{sum}
use Rattle.sq_ast.specs.declared.query.SetOp.{SetOp}
use Rattle.sq_bridge.specs.Nodes.{Node}
use Rattle.sq_bridge.specs.Queries.{both_of, chain_node, member_node, query_node, set_result, step_node}
use Rattle.sq_bridge.proofs.NodeEquations.{member_node-is, node-Chain, node-Intersect}
use Rattle.sq_circuit.specs.Nodes.{Rows}
use Rattle.sq_expr.specs.declared.expr.Kind.{Kind}
use Rattle.sq_typed.specs.declared.query.Query.{Query}
use Rattle.sq_typed.specs.declared.query.Query.TheVariants as query
use Rattle.sq_typed.specs.declared.query.SetStep.{SetStep}
use Rattle.sq_typed.specs.Fit.{Fits, Kinded, are_matched, kinded, kinds_given, operation_kinded, wider_kinds}
use Rattle.sq_typed.specs.Sources.{query_sources}
use Rattle.sq_typed.proofs.FitEquations.{kinded-Chain, kinded-Intersect}
use Rattle.sq_typed.proofs.FitQueries.{length_widest}
use Rattle.sq_typed.proofs.SourceLemmas.{query-Chain, query-Intersect}
use Rattle.sq_typed.proofs.Tests.{and_left, and_right}
use Rattle.sq_plan.specs.Drafts.{CanAdd, IsNode, kinds_of}
use Rattle.sq_plan.specs.Plans.{CanMeet, CanPlan, First, IsNarrow, Itself, Later, Meets, Member, Plans, relation_kinds, relation_nodes}
use Rattle.sq_plan.specs.Steps.{Becomes, node_of, set_kinds, set_of}
use Rattle.sq_plan.specs.declared.draft.Draft.{Draft}
use Rattle.sq_plan.proofs.Adding.{adds_then}
use Rattle.sq_plan.proofs.Giving.{matched_widest}
use Rattle.sq_plan.proofs.Taking.{taken_more}
use Rattle.sq_plan.proofs.Planning.{Longer, kinds_still, length_is, longer_by, node_still, nodes_still, relation_nodes_still, relations_still, still, tighten}
use Rattle.sq_plan.proofs.Stepping.{becomes}

-- a further member: what it does to the rows so far, and its query
abbrev pub Op : Type 0
Op = ℕ → Rows → Rows → Rows

abbrev pub Next : Type 0
Next = Op × Query

abbrev pub all_steps : Node → List (Op × Node) → Node
all_steps first rest = fold (λ n s. step_node s.0 n s.1) first rest

fold_more : {A B : Type 0} (f : B → A → B) (b : B) (xs : List A) (x : A) → fold f b (xs ++ x ∷ []) ≡ f (fold f b xs) x
fold_more f b [] x = refl
fold_more f b (y ∷ xs) x = fold_more f (f b y) xs x

map_more : {A B : Type 0} (f : A → B) (xs : List A) (x : A) → map f (xs ++ x ∷ []) ≡ map f xs ++ f x ∷ []
map_more f [] x = refl
map_more f (y ∷ xs) x = ap (λ ys. f y ∷ ys) (map_more f xs x)

module _ (d : Draft) (nodes : List ℕ) (first : Query) where
  abbrev kss : List (List Kind)
  kss = relation_kinds d nodes

  abbrev node_at : List Rows → Query → Node
  node_at tables q = query_node (relation_nodes d nodes tables) q

  -- the sources, the kinds and the node of so many members
  abbrev sources_to : List Next → ℕ
  sources_to done = query_sources first + sum (map (λ (p : Next). query_sources p.1) done)

  abbrev pub kinds_to : List Next → List Kind
  kinds_to done = fold wider_kinds (kinds_given kss first) (map (λ (p : Next). kinds_given kss p.1) done)

  abbrev pub node_to : List Next → List Rows → Node
  node_to done tables = all_steps (node_at tables first) (map (λ (p : Next). (p.0, node_at tables p.1)) done)

  pub record StepsSoFar (e : Draft) (done : List Next) (i : ℕ) : Type 0 where
    pub becomes : Becomes (40 * sources_to done) d e i (kinds_to done) (node_to done)
    pub few : length e.parts.items + 4 ≤ length d.parts.items + 40 * sources_to done

  pub steps_begin : (e : Draft) (i : ℕ) → Plans d e nodes first i → StepsSoFar e [] i
  steps_begin e i p = record {
    becomes = tighten (40 * query_sources first) (40 * sources_to []) d e i _ _ p.becomes (let f = p.few in omega (arith, f));
    few = let f = p.few in omega (arith, f);
  }

  kinds_length : (done : List Next) → length (kinds_to done) ≡ length (kinds_given kss first)
  kinds_length done = length_widest (map (λ (p : Next). kinds_given kss p.1) done) (kinds_given kss first)

  sources_more : (done : List Next) (p : Next) → sources_to (done ++ p ∷ []) ≡ sources_to done + query_sources p.1
  sources_more [] p = omega arith
  sources_more (x ∷ done) p = let h = sum_more done p in omega (arith, h)
    where
      sum_more : (xs : List Next) (p : Next) → sum (map (λ (p : Next). query_sources p.1) (xs ++ p ∷ [])) ≡ sum (map (λ (p : Next). query_sources p.1) xs) + query_sources p.1
      sum_more [] p = omega arith
      sum_more (y ∷ ys) p = let h = sum_more ys p in omega (arith, h)

  -- one more member
  module _ (are : AllByRecursion (IsNode d) nodes) (e : Draft) (done : List Next) (i : ℕ) (so : StepsSoFar e done i) (f : Op) (q : Query) where
    so_long : Longer d e
    so_long = longer_by (40 * sources_to done) d e i _ _ _ so.becomes.adds

    pub member_can : (m : ℕ) → Fits kss q → IsNarrow kss q → sources_to done + query_sources q ≤ m → CanAdd (40 * m) d → CanPlan e nodes q
    member_can m fits narrow some room = record {
      are = nodes_still d e so_long nodes are;
      fits = subst (λ ks. Fits ks q) (sym (relations_still d e so_long nodes are)) fits;
      narrow = subst (λ ks. IsNarrow ks q) (sym (relations_still d e so_long nodes are)) narrow;
      room = let r = room.room in let w = so.few in record { draft = so.becomes.adds.draft; room = omega (arith, some, w, r) };
    }

    module _ (g : Draft) (more : ℕ) (p : Plans e g nodes q more) where
      more_long : Longer e g
      more_long = longer_by (40 * query_sources q) e g more _ _ _ p.becomes.adds

      pub left_low : IsNode g i
      left_low = still e g more_long i so.becomes.adds.low

      pub right_low : IsNode g more
      right_low = p.becomes.adds.low

      left_kinds : kinds_of g i ≡ kinds_to done
      left_kinds = kinds_still e g more_long i so.becomes.adds.low ∙ so.becomes.adds.kinds_are

      right_kinds : kinds_of g more ≡ kinds_given kss q
      right_kinds = p.becomes.adds.kinds_are ∙ ap (λ ks. kinds_given ks q) (relations_still d e so_long nodes are)

      pub sides_match : are_matched (kinds_given kss first) (kinds_given kss q) ≡ true → are_matched (kinds_of g i) (kinds_of g more) ≡ true
      sides_match m = ap₂ are_matched left_kinds right_kinds ∙ matched_widest (kinds_given kss first) (map (λ (p : Next). kinds_given kss p.1) done) (kinds_given kss q) ∙ m

      pub left_narrow : IsNarrow kss first → length (kinds_of g i) < 2 ^ 32
      left_narrow narrow = subst (λ n. n < 2 ^ 32) (sym (ap length left_kinds ∙ kinds_length done)) ((narrow first (Itself first)).given)

      pub step_room : (m : ℕ) → sources_to done + query_sources q ≤ m → CanAdd (40 * m) d → CanAdd 4 g
      step_room m some room = let r = room.room in let w = so.few in let v = p.few in record { draft = p.becomes.adds.draft; room = omega (arith, some, w, v, r) }

      bare : Node → Node
      bare n = record { width = n.width; rows = n.rows; fault = false }

      left_is : (tables : List Rows) → node_of g tables i ≡ record { width = (node_to done tables).width; rows = (node_to done tables).rows; fault = false }
      left_is tables = node_still e g more_long i so.becomes.adds.low tables ∙ (λ j. record { width = (ap length so.becomes.adds.kinds_are ∙ sym (so.becomes.width tables)) j; rows = so.becomes.adds.worth tables j; fault = false })

      right_is : (tables : List Rows) → node_of g tables more ≡ record { width = (node_at tables q).width; rows = (node_at tables q).rows; fault = false }
      right_is tables =
          (λ j. record { width = (ap length p.becomes.adds.kinds_are ∙ sym (p.becomes.width tables)) j; rows = p.becomes.adds.worth tables j; fault = false })
          ∙ ap (λ ns. record { width = (query_node ns q).width; rows = (query_node ns q).rows; fault = false }) (relation_nodes_still d e so_long nodes are tables)

      next_is : (tables : List Rows) → node_to (done ++ (f, q) ∷ []) tables ≡ step_node f (node_to done tables) (node_at tables q)
      next_is tables =
          ap (all_steps (node_at tables first)) (map_more (λ (p : Next). (p.0, node_at tables p.1)) done (f, q))
          ∙ fold_more (λ (n : Node) (s : Op × Node). step_node s.0 n s.1) (node_at tables first) (map (λ (p : Next). (p.0, node_at tables p.1)) done) (f, node_at tables q)

      next_kinds : set_kinds g i more ≡ kinds_to (done ++ (f, q) ∷ [])
      next_kinds =
          ap₂ wider_kinds left_kinds right_kinds
          ∙ sym (ap (fold wider_kinds (kinds_given kss first)) (map_more (λ (p : Next). kinds_given kss p.1) done (f, q)) ∙ fold_more wider_kinds (kinds_given kss first) (map (λ (p : Next). kinds_given kss p.1) done) (kinds_given kss q))

      pub steps_go_on : (h : Draft) (k : ℕ) → Becomes 4 g h k (set_kinds g i more) (set_of g i more f) → StepsSoFar h (done ++ (f, q) ∷ []) k
      steps_go_on h k b =
          let s = sources_more done (f, q) in
          let l = length_is g h (longer_by 4 g h k _ _ _ b.adds) in
          let little = b.adds.few in
          let w = so.few in
          let v = p.few in
          record {
            becomes = tighten (40 * sources_to done + 40 * query_sources q + 4) (40 * sources_to (done ++ (f, q) ∷ [])) d h k _ _
                (becomes (40 * sources_to done + 40 * query_sources q + 4) (40 * sources_to done + 40 * query_sources q + 4) d h k (set_kinds g i more) (kinds_to (done ++ (f, q) ∷ [])) _ _ (node_to (done ++ (f, q) ∷ [])) (omega arith) next_kinds
                (λ tables. ap (λ (n : Node). n.width) (next_is tables) ∙ sym (ap (λ (n : Node). n.width) (left_is tables)) ∙ ap length left_kinds ∙ kinds_length done ∙ sym (kinds_length (done ++ (f, q) ∷ [])))
                (λ tables. ap₂ (λ x y. (step_node f x y).rows) (left_is tables) (right_is tables) ∙ ap (λ (n : Node). n.rows) (sym (next_is tables)))
                (λ tables. faults tables ∙ ap (λ (n : Node). n.fault) (sym (next_is tables)))
                (adds_then (40 * sources_to done + 40 * query_sources q) 4 d g h more k _ _ _ _ _ _
                (adds_then (40 * sources_to done) (40 * query_sources q) d e g i more _ _ _ _ _ _ so.becomes.adds p.becomes.adds) b.adds))
                (omega (arith, s, l, little, w, v));
            few = omega (arith, s, l, little, w, v);
          }
        where
          faults : (tables : List Rows) → (((node_to done tables).fault || (query_node (relation_nodes e nodes tables) q).fault) || (set_of g i more f tables).fault) ≡ (step_node f (node_to done tables) (node_at tables q)).fault
          faults tables = ap₂ (λ x y. x || y)
              (ap (λ ns. (node_to done tables).fault || (query_node ns q).fault) (relation_nodes_still d e so_long nodes are tables))
              (ap₂ (λ x y. (step_node f x y).fault) (left_is tables) (right_is tables))

-- ---- chains
abbrev pub step_of : SetStep → Next
step_of s = (set_result s.op, s.query)

module _ (d : Draft) (nodes : List ℕ) (first : Query) (rest : List SetStep) where
  chain_sources : (xs : List SetStep) → sum (map (λ (p : Next). query_sources p.1) (map step_of xs)) ≡ sum (map (λ (s : SetStep). query_sources s.query) xs)
  chain_sources [] = refl
  chain_sources (s ∷ xs) = ap (λ n. query_sources s.query + n) (chain_sources xs)

  chain_kinds : (ks : List Kind) (xs : List SetStep) → fold wider_kinds ks (map (λ (p : Next). kinds_given (relation_kinds d nodes) p.1) (map step_of xs)) ≡ fold wider_kinds ks (map (λ (m : Kinded). m.kinds) (map (λ (s : SetStep). kinded (relation_kinds d nodes) s.query) xs))
  chain_kinds ks [] = refl
  chain_kinds ks (s ∷ xs) = chain_kinds (wider_kinds ks (kinds_given (relation_kinds d nodes) s.query)) xs

  chain_nodes : (tables : List Rows) (n : Node) (xs : List SetStep) → all_steps n (map (λ (p : Next). (p.0, query_node (relation_nodes d nodes tables) p.1)) (map step_of xs)) ≡ chain_node n (map (member_node (relation_nodes d nodes tables)) xs)
  chain_nodes tables n [] = refl
  chain_nodes tables n (s ∷ xs) =
      chain_nodes tables (step_node (set_result s.op) n (query_node (relation_nodes d nodes tables) s.query)) xs
      ∙ ap (λ (m : SetOp × Node). chain_node (step_node (set_result m.0) n m.1) (map (member_node (relation_nodes d nodes tables)) xs)) (sym (member_node-is (relation_nodes d nodes tables) s))

  pub chain_ends : (e : Draft) (i : ℕ) → StepsSoFar d nodes first e (map step_of rest) i → Plans d e nodes (query.Chain first rest) i
  chain_ends e i so =
      let s = query-Chain first rest ∙ ap (λ n. query_sources first + n) (sym (chain_sources rest)) in
      let w = so.few in
      let kinds = ap (λ (k : Kinded). k.kinds) (kinded-Chain (relation_kinds d nodes) first rest) in
      let full : (tables : List Rows) → node_to d nodes first (map step_of rest) tables ≡ query_node (relation_nodes d nodes tables) (query.Chain first rest) = λ tables. chain_nodes tables (query_node (relation_nodes d nodes tables) first) rest ∙ sym (node-Chain (relation_nodes d nodes tables) first rest) in
      record {
        becomes = tighten (40 * sources_to d nodes first (map step_of rest)) (40 * query_sources (query.Chain first rest)) d e i _ _
            (subst (λ M. Becomes (40 * sources_to d nodes first (map step_of rest)) d e i (kinds_given (relation_kinds d nodes) (query.Chain first rest)) M) (λ j tables. full tables j)
            (subst (λ ks. Becomes (40 * sources_to d nodes first (map step_of rest)) d e i ks (node_to d nodes first (map step_of rest))) (chain_kinds (kinds_given (relation_kinds d nodes) first) rest ∙ sym kinds) so.becomes))
            (omega (arith, s, w));
        few = omega (arith, s, w);
      }

-- ---- what members need
test_at : {A : Type 0} (p : Kinded → Bool) (f : A → Kinded) (xs : List A) (k : ℕ) (x : A) → list_all p (map f xs) ≡ true → slice_get xs k ≡ Some x → p (f x) ≡ true
test_at p f [] k x e at = absurd (cc at)
test_at p f (y ∷ ys) zero x e at = subst (λ z. p (f z) ≡ true) (head at) (and_left (p (f y)) (list_all p (map f ys)) e)
  where
    head : Some y ≡ Some x → y ≡ x
    head h = cc
test_at p f (y ∷ ys) (suc k) x e at = test_at p f ys k x (and_right (p (f y)) (list_all p (map f ys)) e) at

pub sum_taken : {A : Type 0} (f : A → ℕ) (xs : List A) (k : ℕ) (x : A) → slice_get xs k ≡ Some x → sum (map f (take k xs)) + f x ≤ sum (map f xs)
sum_taken f [] k x e = absurd (cc e)
sum_taken f (y ∷ ys) zero x e = let same : f y ≡ f x = ap f cc in omega (arith, same)
sum_taken f (y ∷ ys) (suc k) x e = let h = sum_taken f ys k x e in omega (arith, h)

module _ (d : Draft) (nodes : List ℕ) (first : Query) (rest : List SetStep) (can : CanPlan d nodes (query.Chain first rest)) where
  abbrev kinds_of_all : List (List Kind)
  kinds_of_all = relation_kinds d nodes

  abbrev matches_first : Kinded → Bool
  matches_first m = m.fits && are_matched (kinds_given kinds_of_all first) m.kinds

  chain_fits : ((kinded kinds_of_all first).fits && list_all matches_first (map (λ (s : SetStep). kinded kinds_of_all s.query) rest)) ≡ true
  chain_fits = subst (λ (k : Kinded). k.fits ≡ true) (kinded-Chain kinds_of_all first rest) can.fits

  pub chain_first : CanPlan d nodes first
  chain_first = record {
    are = can.are;
    fits = and_left (kinded kinds_of_all first).fits (list_all matches_first (map (λ (s : SetStep). kinded kinds_of_all s.query) rest)) chain_fits;
    narrow = λ r part. can.narrow r (First first rest r part);
    room = let s = query-Chain first rest in let r = can.room.room in record { draft = can.room.draft; room = omega (arith, s, r) };
  }

  module _ (e : Draft) (k i : ℕ) (step : SetStep) (so : StepsSoFar d nodes first e (map step_of (take k rest)) i) (at : slice_get rest k ≡ Some step) where
    step_fits : matches_first (kinded kinds_of_all step.query) ≡ true
    step_fits = test_at matches_first (λ (s : SetStep). kinded kinds_of_all s.query) rest k step (and_right (kinded kinds_of_all first).fits (list_all matches_first (map (λ (s : SetStep). kinded kinds_of_all s.query) rest)) chain_fits) at

    within : sources_to d nodes first (map step_of (take k rest)) + query_sources step.query ≤ query_sources (query.Chain first rest)
    within =
        let s = query-Chain first rest in
        let t = chain_sources d nodes first rest (take k rest) in
        let u = sum_taken (λ (s : SetStep). query_sources s.query) rest k step at in
        omega (arith, s, t, u)

    pub step_can : CanPlan e nodes step.query
    step_can = member_can d nodes first can.are e (map step_of (take k rest)) i so (set_result step.op) step.query (query_sources (query.Chain first rest))
        (and_left (kinded kinds_of_all step.query).fits (are_matched (kinds_given kinds_of_all first) (kinds_given kinds_of_all step.query)) step_fits)
        (λ r part. can.narrow r (Later first rest k step r at part)) within can.room

    module _ (g : Draft) (more : ℕ) (p : Plans e g nodes step.query more) where
      pub step_room_here : CanAdd 4 g
      step_room_here = step_room d nodes first can.are e (map step_of (take k rest)) i so (set_result step.op) step.query g more p (query_sources (query.Chain first rest)) within can.room

      pub step_left : IsNode g i
      step_left = left_low d nodes first can.are e (map step_of (take k rest)) i so (set_result step.op) step.query g more p

      pub step_alike : are_matched (kinds_of g i) (kinds_of g more) ≡ true
      step_alike = sides_match d nodes first can.are e (map step_of (take k rest)) i so (set_result step.op) step.query g more p
          (and_right (kinded kinds_of_all step.query).fits (are_matched (kinds_given kinds_of_all first) (kinds_given kinds_of_all step.query)) step_fits)

      pub step_narrow : length (kinds_of g i) < 2 ^ 32
      step_narrow = left_narrow d nodes first can.are e (map step_of (take k rest)) i so (set_result step.op) step.query g more p (λ r part. can.narrow r (First first rest r part))

      pub step_goes_on : (h : Draft) (j : ℕ) → Becomes 4 g h j (set_kinds g i more) (set_of g i more (set_result step.op)) → StepsSoFar d nodes first h (map step_of (take (suc k) rest)) j
      step_goes_on h j b = subst (λ xs. StepsSoFar d nodes first h xs j) (sym (ap (map step_of) (taken_more rest k step at) ∙ map_more step_of (take k rest) step))
          (steps_go_on d nodes first can.are e (map step_of (take k rest)) i so (set_result step.op) step.query g more p h j b)

-- ---- INTERSECT
abbrev pub both : Query → Next
both q = (both_of, q)

abbrev pub CommonSoFar : Draft → List ℕ → Draft → List Query → Option ℕ → Type 0
CommonSoFar d nodes e done None = (done ≡ []) × (e ≡ d)
CommonSoFar d nodes e [] (Some i) = ⊥
CommonSoFar d nodes e (q ∷ qs) (Some i) = StepsSoFar d nodes q e (map both qs) i

-- what holds of so many members, whichever they are
both_sources : (xs : List Query) → sum (map (λ (p : Next). query_sources p.1) (map both xs)) ≡ sum (map query_sources xs)
both_sources [] = refl
both_sources (q ∷ xs) = ap (λ n. query_sources q + n) (both_sources xs)

both_kinds : (tables : List (List Kind)) (ks : List Kind) (xs : List Query) → fold wider_kinds ks (map (λ (p : Next). kinds_given tables p.1) (map both xs)) ≡ fold wider_kinds ks (map (λ (m : Kinded). m.kinds) (map (kinded tables) xs))
both_kinds tables ks [] = refl
both_kinds tables ks (q ∷ xs) = both_kinds tables (wider_kinds ks (kinds_given tables q)) xs

both_nodes : (ns : List Node) (n : Node) (xs : List Query) → all_steps n (map (λ (p : Next). (p.0, query_node ns p.1)) (map both xs)) ≡ fold (step_node both_of) n (map (query_node ns) xs)
both_nodes ns n [] = refl
both_nodes ns n (q ∷ xs) = both_nodes ns (step_node both_of n (query_node ns q)) xs

next_common_can : (d : Draft) (nodes : List ℕ) → AllByRecursion (IsNode d) nodes → (e : Draft) (done : List Query) (found : Option ℕ) → CommonSoFar d nodes e done found → (m : Query) (n : ℕ) → sum (map query_sources done) + query_sources m ≤ n →
    Fits (relation_kinds d nodes) m → IsNarrow (relation_kinds d nodes) m → CanAdd (40 * n) d → CanPlan e nodes m
next_common_can d nodes are e done None so m n some fits narrow room = subst (λ x. CanPlan x nodes m) (sym so.1)
    (record { are = are; fits = fits; narrow = narrow; room = let r = room.room in record { draft = room.draft; room = omega (arith, some, r) } })
next_common_can d nodes are e [] (Some i) so m n some fits narrow room = absurd so
next_common_can d nodes are e (q ∷ qs) (Some i) so m n some fits narrow room =
    member_can d nodes q are e (map both qs) i so both_of m n fits narrow (let t = both_sources qs in omega (arith, t, some)) room

next_common_meets : (d : Draft) (nodes : List ℕ) → AllByRecursion (IsNode d) nodes → (e : Draft) (done : List Query) (found : Option ℕ) → CommonSoFar d nodes e done found → (m : Query) (n : ℕ) → sum (map query_sources done) + query_sources m ≤ n →
    ((q : Query) (qs : List Query) → done ≡ q ∷ qs → (are_matched (kinds_given (relation_kinds d nodes) q) (kinds_given (relation_kinds d nodes) m) ≡ true) × IsNarrow (relation_kinds d nodes) q) →
    CanAdd (40 * n) d → (g : Draft) (more : ℕ) → Plans e g nodes m more → CanMeet g found more
next_common_meets d nodes are e done None so m n some first room g more p = p.becomes.adds.draft
next_common_meets d nodes are e [] (Some i) so m n some first room g more p = absurd so
next_common_meets d nodes are e (q ∷ qs) (Some i) so m n some first room g more p =
    let here = first q qs refl in (
      step_room d nodes q are e (map both qs) i so both_of m g more p n (let t = both_sources qs in omega (arith, t, some)) room,
      (
        left_low d nodes q are e (map both qs) i so both_of m g more p,
        (
          right_low d nodes q are e (map both qs) i so both_of m g more p,
          (
            sides_match d nodes q are e (map both qs) i so both_of m g more p here.0,
            left_narrow d nodes q are e (map both qs) i so both_of m g more p here.1,
          ),
        ),
      ),
    )

common_more : (d : Draft) (nodes : List ℕ) (are : AllByRecursion (IsNode d) nodes) (e : Draft) (done : List Query) (found : Option ℕ) → CommonSoFar d nodes e done found → (m : Query) (g : Draft) (more : ℕ) → Plans e g nodes m more → (h : Draft) (k : ℕ) → Meets g h found more k →
    CommonSoFar d nodes h (done ++ m ∷ []) (Some k)
common_more d nodes are e done None so m g more p h k meets =
    subst (λ xs. CommonSoFar d nodes h (xs ++ m ∷ []) (Some k)) (sym so.0)
    (subst (λ x. StepsSoFar d nodes m h [] x) (sym meets.0) (subst (λ x. StepsSoFar d nodes m x [] more) (sym meets.1)
    (steps_begin d nodes m g more (subst (λ x. Plans x g nodes m more) so.1 p))))
common_more d nodes are e [] (Some i) so m g more p h k meets = absurd so
common_more d nodes are e (q ∷ qs) (Some i) so m g more p h k meets =
    subst (λ xs. StepsSoFar d nodes q h xs k) (sym (map_more both qs m)) (steps_go_on d nodes q are e (map both qs) i so both_of m g more p h k meets)

common_done : (d : Draft) (nodes : List ℕ) (e : Draft) (members : List Query) (i : ℕ) → CommonSoFar d nodes e members (Some i) → Plans d e nodes (query.Intersect members) i
common_done d nodes e [] i so = absurd so
common_done d nodes e (q ∷ qs) i so =
    let s = query-Intersect (q ∷ qs) ∙ ap (λ n. query_sources q + n) (sym (both_sources qs)) in
    let w = so.few in
    let kinds = ap (λ (k : Kinded). k.kinds) (kinded-Intersect (relation_kinds d nodes) (q ∷ qs)) in
    let full : (tables : List Rows) → node_to d nodes q (map both qs) tables ≡ query_node (relation_nodes d nodes tables) (query.Intersect (q ∷ qs)) = λ tables. both_nodes (relation_nodes d nodes tables) (query_node (relation_nodes d nodes tables) q) qs ∙ sym (node-Intersect (relation_nodes d nodes tables) (q ∷ qs)) in
    record {
      becomes = tighten (40 * sources_to d nodes q (map both qs)) (40 * query_sources (query.Intersect (q ∷ qs))) d e i _ _
          (subst (λ M. Becomes (40 * sources_to d nodes q (map both qs)) d e i (kinds_given (relation_kinds d nodes) (query.Intersect (q ∷ qs))) M) (λ j tables. full tables j)
          (subst (λ ks. Becomes (40 * sources_to d nodes q (map both qs)) d e i ks (node_to d nodes q (map both qs))) (both_kinds (relation_kinds d nodes) (kinds_given (relation_kinds d nodes) q) qs ∙ sym kinds) so.becomes))
          (omega (arith, s, w));
      few = omega (arith, s, w);
    }

module _ (d : Draft) (nodes : List ℕ) (members : List Query) (can : CanPlan d nodes (query.Intersect members)) where
  abbrev all_kinds : List (List Kind)
  all_kinds = relation_kinds d nodes

  members_fit : (operation_kinded (map (kinded all_kinds) members)).fits ≡ true
  members_fit = subst (λ (k : Kinded). k.fits ≡ true) (kinded-Intersect all_kinds members) can.fits

  fits_at : (xs : List Query) → (operation_kinded (map (kinded all_kinds) xs)).fits ≡ true → (k : ℕ) (m : Query) → slice_get xs k ≡ Some m → Fits all_kinds m
  fits_at [] e k m at = absurd (cc at)
  fits_at (q ∷ qs) e zero m at = subst (λ x. Fits all_kinds x) (head at) (and_left (kinded all_kinds q).fits (list_all (λ (m : Kinded). m.fits && are_matched (kinded all_kinds q).kinds m.kinds) (map (kinded all_kinds) qs)) e)
    where
      head : Some q ≡ Some m → q ≡ m
      head h = cc
  fits_at (q ∷ qs) e (suc k) m at = and_left (kinded all_kinds m).fits (are_matched (kinded all_kinds q).kinds (kinded all_kinds m).kinds)
      (test_at (λ (m : Kinded). m.fits && are_matched (kinded all_kinds q).kinds m.kinds) (kinded all_kinds) qs k m (and_right (kinded all_kinds q).fits (list_all (λ (m : Kinded). m.fits && are_matched (kinded all_kinds q).kinds m.kinds) (map (kinded all_kinds) qs)) e) at)

  matched_at : (q : Query) (qs : List Query) → (operation_kinded (map (kinded all_kinds) (q ∷ qs))).fits ≡ true → (k : ℕ) (m : Query) → slice_get (q ∷ qs) (suc k) ≡ Some m → are_matched (kinds_given all_kinds q) (kinds_given all_kinds m) ≡ true
  matched_at q qs e k m at = and_right (kinded all_kinds m).fits (are_matched (kinded all_kinds q).kinds (kinded all_kinds m).kinds)
      (test_at (λ (m : Kinded). m.fits && are_matched (kinded all_kinds q).kinds m.kinds) (kinded all_kinds) qs k m (and_right (kinded all_kinds q).fits (list_all (λ (m : Kinded). m.fits && are_matched (kinded all_kinds q).kinds m.kinds) (map (kinded all_kinds) qs)) e) at)

  -- the first member is no other than the first of those that are done
  first_taken : (xs : List Query) (k : ℕ) (q : Query) (qs : List Query) → take k xs ≡ q ∷ qs → slice_get xs 0 ≡ Some q
  first_taken [] zero q qs is = absurd (cc is)
  first_taken [] (suc k) q qs is = absurd (cc is)
  first_taken (x ∷ xs) zero q qs is = absurd (cc is)
  first_taken (x ∷ xs) (suc k) q qs is = ap (λ ys. slice_get ys 0) is

  matched_first : (xs : List Query) → (operation_kinded (map (kinded all_kinds) xs)).fits ≡ true → (k : ℕ) (m : Query) → slice_get xs k ≡ Some m → (q : Query) (qs : List Query) → take k xs ≡ q ∷ qs →
      are_matched (kinds_given all_kinds q) (kinds_given all_kinds m) ≡ true
  matched_first [] e k m at q qs is = absurd (cc at)
  matched_first (x ∷ xs) e zero m at q qs is = absurd (cc is)
  matched_first (x ∷ xs) e (suc k) m at q qs is = subst (λ y. are_matched (kinds_given all_kinds y) (kinds_given all_kinds m) ≡ true) (same (first_taken (x ∷ xs) (suc k) q qs is)) (matched_at x xs e k m at)
    where
      same : Some x ≡ Some q → x ≡ q
      same h = cc

  module _ (e : Draft) (k : ℕ) (found : Option ℕ) (m : Query) (so : CommonSoFar d nodes e (take k members) found) (at : slice_get members k ≡ Some m) where
    common_within : sum (map query_sources (take k members)) + query_sources m ≤ query_sources (query.Intersect members)
    common_within = let s = query-Intersect members in let t = sum_taken query_sources members k m at in omega (arith, s, t)

    pub common_can : CanPlan e nodes m
    common_can = next_common_can d nodes can.are e (take k members) found so m (query_sources (query.Intersect members)) common_within (fits_at members members_fit k m at)
        (λ r part. can.narrow r (Member members k m r at part)) can.room

    pub common_meets : (g : Draft) (more : ℕ) → Plans e g nodes m more → CanMeet g found more
    common_meets g more p = next_common_meets d nodes can.are e (take k members) found so m (query_sources (query.Intersect members)) common_within
        (λ q qs is. (matched_first members members_fit k m at q qs is, λ r part. can.narrow r (Member members 0 q r (first_taken members k q qs is) part))) can.room g more p

    pub common_goes_on : (g : Draft) (more : ℕ) → Plans e g nodes m more → (h : Draft) (j : ℕ) → Meets g h found more j → CommonSoFar d nodes h (take (suc k) members) (Some j)
    common_goes_on g more p h j meets = subst (λ xs. CommonSoFar d nodes h xs (Some j)) (sym (taken_more members k m at)) (common_more d nodes can.are e (take k members) found so m g more p h j meets)

  pub common_ends : (e : Draft) (found : Option ℕ) → CommonSoFar d nodes e members found → Plans d e nodes (query.Intersect members) (unwrap_or found 0)
  common_ends e None so = absurd (cc (sym (subst (λ xs. (operation_kinded (map (kinded all_kinds) xs)).fits ≡ true) so.0 members_fit)))
  common_ends e (Some i) so = common_done d nodes e members i so
