-- What the loops over the members of a set operation and over the sources of a block keep, and what their calls need.
use Rattle.std.proofs.Common.{◌≡◌, ℕ, suc, ◌+◌, ◌*◌, ◌<◌, ◌≤◌, ◌^◌, true, List, [], ◌∷◌, ◌++◌, length, map, take, refl, sym, ap, subst, ◌∙◌, arith}
use Rattle.std.specs.Prelude.{Option, Some, None, Result, Ok, Err, IfOk, slice_get, unwrap_or}
use Rattle.std.specs.List.{AllByRecursion}
use Rattle.sq_bridge.specs.Queries.{set_result}
use Rattle.sq_expr.proofs.Lists.{all_at}
use Rattle.sq_typed.specs.declared.query.FromItem.{FromItem}
use Rattle.sq_typed.specs.declared.query.Query.{Query}
use Rattle.sq_typed.specs.declared.query.Query.TheVariants as query
use Rattle.sq_typed.specs.declared.query.SetStep.{SetStep}
use Rattle.sq_typed.specs.Fit.{are_matched}
use Rattle.sq_typed.specs.Sources.{origin_sources}
use Rattle.sq_plan.specs.Drafts.{CanAdd, IsNode, kinds_of}
use Rattle.sq_plan.specs.Plans.{CanMeet, CanPlan, CanPlanItems, CanPlanOrigin, Meets, OriginFits, Plans, PlansItems, PlansOrigin, items_sources, relation_kinds}
use Rattle.sq_plan.specs.Steps.{Becomes, set_kinds, set_of}
use Rattle.sq_plan.specs.declared.draft.Draft.{Draft}
use Rattle.sq_plan.proofs.ChainPlans.{CommonSoFar, StepsSoFar, chain_ends, chain_first, common_can, common_ends, common_goes_on, common_meets, step_alike, step_can, step_goes_on, step_left, step_narrow, step_of, step_room_here, steps_begin, sum_taken}
use Rattle.sq_plan.proofs.Taking.{take_none, take_whole, taken_more}
use Rattle.sq_plan.proofs.Planning.{source_can, sources_go_on}

one_more : (k : ℕ) → suc k ≡ k + 1
one_more k = omega arith

pub ok_more : {T E : Type 0} {P Q : T → Type 0} (r : Result T E) → ((x : T) → P x → Q x) → IfOk r P → IfOk r Q
ok_more (Ok x) more h = more x h
ok_more (Err e) more h = h

-- ---- chains
-- so many members of a chain are done
pub record ChainDone (d : Draft) (nodes : List ℕ) (q : Query) (steps : List SetStep) (e : Draft) (i k : ℕ) : Type 0 where
  pub first : Query
  pub is : q ≡ query.Chain first steps
  pub so : StepsSoFar d nodes first e (map step_of (take k steps)) i

module _ (d : Draft) (nodes : List ℕ) (q : Query) (can : CanPlan d nodes q) where
  pub first_can : (first : Query) (rest : List SetStep) (got : Query) → q ≡ query.Chain first rest → got ≡ first → CanPlan d nodes got
  first_can first rest got is same = subst (CanPlan d nodes) (sym same) (chain_first d nodes first rest (subst (CanPlan d nodes) is can))

  pub chain_begins : (first : Query) (rest : List SetStep) (got : Query) (steps : List SetStep) → q ≡ query.Chain first rest → got ≡ first → steps ≡ rest → (e : Draft) (i : ℕ) → Plans d e nodes got i → ChainDone d nodes q steps e i 0
  chain_begins first rest got steps is same all e i p = record {
    first = first;
    is = is ∙ ap (query.Chain first) (sym all);
    so = subst (λ xs. StepsSoFar d nodes first e xs i) (sym (ap (map step_of) (take_none steps))) (steps_begin d nodes first e i (subst (λ x. Plans d e nodes x i) same p));
  }

  module _ (steps : List SetStep) (e : Draft) (i k : ℕ) (have : ChainDone d nodes q steps e i k) where
    mine : CanPlan d nodes (query.Chain have.first steps)
    mine = subst (CanPlan d nodes) have.is can

    pub chain_is_done : length steps ≤ k → Plans d e nodes q i
    chain_is_done past = subst (λ x. Plans d e nodes x i) (sym have.is)
        (chain_ends d nodes have.first steps e i (subst (λ xs. StepsSoFar d nodes have.first e (map step_of xs) i) (take_whole k steps past) have.so))

    module _ (step : SetStep) (at : slice_get steps k ≡ Some step) where
      pub later_can : CanPlan e nodes step.query
      later_can = step_can d nodes have.first steps mine e k i step have.so at

      module _ (g : Draft) (more : ℕ) (p : Plans e g nodes step.query more) where
        pub later_room : CanAdd 4 g
        later_room = step_room_here d nodes have.first steps mine e k i step have.so at g more p

        pub later_left : IsNode g i
        later_left = step_left d nodes have.first steps mine e k i step have.so at g more p

        pub later_alike : are_matched (kinds_of g i) (kinds_of g more) ≡ true
        later_alike = step_alike d nodes have.first steps mine e k i step have.so at g more p

        pub later_narrow : length (kinds_of g i) < 2 ^ 32
        later_narrow = step_narrow d nodes have.first steps mine e k i step have.so at g more p

        pub chain_goes_on : (h : Draft) (j : ℕ) → Becomes 4 g h j (set_kinds g i more) (set_of g i more (set_result step.op)) → ChainDone d nodes q steps h j (k + 1)
        chain_goes_on h j b = subst (ChainDone d nodes q steps h j) (one_more k) (record { first = have.first; is = have.is; so = step_goes_on d nodes have.first steps mine e k i step have.so at g more p h j b })

-- ---- INTERSECT
-- so many members of INTERSECT are done
pub record CommonDone (d : Draft) (nodes : List ℕ) (q : Query) (members : List Query) (e : Draft) (found : Option ℕ) (k : ℕ) : Type 0 where
  pub is : q ≡ query.Intersect members
  pub so : CommonSoFar d nodes e (take k members) found

pub common_begins : (d : Draft) (nodes : List ℕ) (q : Query) (members items : List Query) → q ≡ query.Intersect members → items ≡ members → CommonDone d nodes q items d None 0
common_begins d nodes q members items is all = record { is = is ∙ ap query.Intersect (sym all); so = (take_none items, refl) }

module _ (d : Draft) (nodes : List ℕ) (q : Query) (can : CanPlan d nodes q) (members : List Query) (e : Draft) (found : Option ℕ) (k : ℕ) (have : CommonDone d nodes q members e found k) where
  all_mine : CanPlan d nodes (query.Intersect members)
  all_mine = subst (CanPlan d nodes) have.is can

  pub common_is_done : length members ≤ k → Plans d e nodes q (unwrap_or found 0)
  common_is_done past = subst (λ x. Plans d e nodes x (unwrap_or found 0)) (sym have.is)
      (common_ends d nodes members all_mine e found (subst (λ xs. CommonSoFar d nodes e xs found) (take_whole k members past) have.so))

  module _ (m : Query) (at : slice_get members k ≡ Some m) where
    pub member_can_be : CanPlan e nodes m
    member_can_be = common_can d nodes members all_mine e k found m have.so at

    module _ (g : Draft) (more : ℕ) (p : Plans e g nodes m more) where
      pub member_meets : CanMeet g found more
      member_meets = common_meets d nodes members all_mine e k found m have.so at g more p

      pub common_more_done : (h : Draft) (j : ℕ) → Meets g h found more j → CommonDone d nodes q members h (Some j) (k + 1)
      common_more_done h j meets = subst (CommonDone d nodes q members h (Some j)) (one_more k) (record { is = have.is; so = common_goes_on d nodes members all_mine e k found m have.so at g more p h j meets })

-- ---- the sources of a block
module _ (d : Draft) (nodes : List ℕ) (items steps : List FromItem) (can : CanPlanItems d nodes items) (all : steps ≡ items) (e : Draft) (found : List ℕ) (k : ℕ) (so : PlansItems d e nodes found (take k steps)) (s : FromItem) (at : slice_get steps k ≡ Some s) where
  pub item_can : CanPlanOrigin e nodes s.source
  item_can = source_can d e nodes found (take k steps) so can.are s (items_sources steps)
      (all_at (λ (x : FromItem). OriginFits (relation_kinds d nodes) x.source) steps k s (subst (AllByRecursion (λ (x : FromItem). OriginFits (relation_kinds d nodes) x.source)) (sym all) can.fit) at)
      (sum_taken (λ (x : FromItem). origin_sources x.source) steps k s at)
      (subst (λ xs. CanAdd (40 * items_sources xs) d) (sym all) can.room)

  pub item_goes_on : (g : Draft) (i : ℕ) → PlansOrigin e g nodes s.source i → (now : List ℕ) → now ≡ found ++ i ∷ [] → PlansItems d g nodes now (take (k + 1) steps)
  item_goes_on g i p now is = subst (λ n. PlansItems d g nodes now (take n steps)) (one_more k) (subst (λ l. PlansItems d g nodes l (take (suc k) steps)) (sym is) (subst (PlansItems d g nodes (found ++ i ∷ [])) (sym (taken_more steps k s at)) (sources_go_on d e nodes found (take k steps) so can.are s g i p)))
