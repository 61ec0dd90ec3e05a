-- What a query lists, part by part.
use Rattle.std.proofs.Common.{◌≡◌, ℕ, zero, suc, ◌+◌, ◌<◌, ◌≤◌, List, [], ◌∷◌, ◌++◌, drop, get_or, length, map, take, Bool, true, false, ◌&&◌, refl, sym, ap, subst, ◌∙◌, add-one, arith}
use Rattle.std.specs.Prelude.{IsErrAnd, MatchResult, Option, Result, Some, None, slice_get, unwrap_or}
use Rattle.std.specs.declared.result.Result.TheVariants.{Ok, Err}
use Rattle.std.specs.List.{AllByRecursion, list_all}
use Rattle.std.proofs.Math.Seq.{drop-cons}
use Rattle.std.proofs.lemmas.Option.{get_or_from_slice_get, slice_get_within}
use Rattle.sq_ast.specs.declared.query.SetOp.{SetOp}
use Rattle.sq_expr.specs.declared.expr.Kind.{Kind}
use Rattle.sq_expr.proofs.Lists.{all_weaker, take_more}
use Rattle.sq_typed.specs.declared.query.FromItem.{FromItem}
use Rattle.sq_typed.specs.declared.query.Origin.{Origin}
use Rattle.sq_typed.specs.declared.query.Origin.TheVariants as origin
use Rattle.sq_typed.specs.declared.query.Query.{Query}
use Rattle.sq_typed.specs.declared.query.Query.TheVariants as query
use Rattle.sq_typed.specs.declared.query.SetStep.{SetStep}
use Rattle.sq_typed.specs.Fit.{HoldsKinds, Kinded, Pairwise, are_matched, kinded, kinded_origin, operation_kinded, relation_kinded}
use Rattle.sq_typed.specs.From.{Answer, Row}
use Rattle.sq_typed.specs.Queries.{Contents, answer, has_range_fault, intersect_answer, intersect_rows, is_crowded, member_answer, origin_answer, relation_answer, set_rows}
use Rattle.sq_typed.proofs.Equations.{answer-Chain, answer-Intersect, member-is, origin-Query, origin-Relation}
use Rattle.sq_typed.proofs.FitEquations.{kinded-Chain, kinded-Intersect, kinded-Query, kinded-Relation}
use Rattle.sq_typed.proofs.FitQueries.{operands_fit}
use Rattle.sq_typed.proofs.Tests.{and_left, and_right}
use Rattle.sq_lists.specs.Answers.{CanAnswer, CanAnswerOrigin, Lists, ListsItems, common_rows, common_width, is_common_crowded}
use Rattle.sq_lists.specs.Listings.{contents_of}
use Rattle.sq_lists.specs.declared.listing.Listing.{Listing}
use Rattle.sq_lists.specs.declared.stop.Stop.{Stop}
use Rattle.sq_lists.specs.declared.stop.Stop.TheVariants.{Range}
use Rattle.sq_lists.proofs.ChainFaults.{ChainStands, chain_goes, chain_starts, first_out, member_out, step_out}

-- ---- loops and `?`

-- what a `?` passes on
pub stopped : {A : Type 0} (P : A → Type 0) (r : Result A Stop) (stop : Stop) (Q : Stop → Type 0) (b : Bool) → IsErrAnd r Q → ((y : Stop) → Q y → y ≡ stop) → (stop ≡ Range → b ≡ true) → MatchResult r P (λ s. s ≡ Range → b ≡ true)
stopped P (Ok x) stop Q b h same range = absurd h
stopped P (Err y) stop Q b h same range = λ is. range (sym (same y h) ∙ is)

pub as_err : {U : Type 0} (x y : Stop) → x ≡ y → ◌≡◌ {A = Result U Stop} (Err x) (Err y)
as_err x y e = ap (λ (s : Stop). Err s) e

pub drop_here : {A : Type 0} (xs : List A) (i : ℕ) (x : A) → slice_get xs i ≡ Some x → drop i xs ≡ x ∷ drop (i + 1) xs
drop_here xs i x e =
    drop-cons xs i x (slice_get_within xs i x e)
    ∙ ap (λ y. y ∷ drop (suc i) xs) (get_or_from_slice_get xs i x x e)
    ∙ ap (λ n. x ∷ drop n xs) (sym (add-one i))

pub drop_past : {A : Type 0} (xs : List A) (i : ℕ) → length xs ≤ i → drop i xs ≡ []
drop_past [] zero h = refl
drop_past [] (suc i) h = refl
drop_past (x ∷ xs) zero h = absurd (omega (arith, h))
drop_past (x ∷ xs) (suc i) h = drop_past xs i (omega (arith, h))

unmapped : {A B : Type 0} (P : B → Type 0) (f : A → B) (xs : List A) → AllByRecursion P (map f xs) → AllByRecursion (λ x. P (f x)) xs
unmapped P f [] h = tt
unmapped P f (x ∷ xs) h = (h.0, unmapped P f xs h.1)

-- ---- what the parts of set operations fit

module _ (relations : List Contents) where
  first_fits : (q : Query) (rest : List SetStep) → CanAnswer relations (query.Chain q rest) → CanAnswer relations q
  first_fits q rest can =
      let ms = map (λ (s : SetStep). kinded can.kinds s.query) rest in
      let fits = subst (λ (k : Kinded). k.fits ≡ true) (kinded-Chain can.kinds q rest) can.fits in
      record { kinds = can.kinds; hold = can.hold; fits = and_left (kinded can.kinds q).fits (list_all (λ (m : Kinded). m.fits && are_matched (kinded can.kinds q).kinds m.kinds) ms) fits }

  rest_fit : (q : Query) (rest : List SetStep) → CanAnswer relations (query.Chain q rest) → AllByRecursion (λ (s : SetStep). CanAnswer relations s.query) rest
  rest_fit q rest can =
      let ms = map (λ (s : SetStep). kinded can.kinds s.query) rest in
      let fits = subst (λ (k : Kinded). k.fits ≡ true) (kinded-Chain can.kinds q rest) can.fits in
      all_weaker (λ s. ((kinded can.kinds s.query).fits ≡ true) × (are_matched (kinded can.kinds q).kinds (kinded can.kinds s.query).kinds ≡ true)) (λ (s : SetStep). CanAnswer relations s.query) rest
      (λ s f. record { kinds = can.kinds; hold = can.hold; fits = f.0 })
      (unmapped (λ (m : Kinded). (m.fits ≡ true) × (are_matched (kinded can.kinds q).kinds m.kinds ≡ true)) (λ (s : SetStep). kinded can.kinds s.query) rest
      (operands_fit (kinded can.kinds q).kinds ms (and_right (kinded can.kinds q).fits (list_all (λ (m : Kinded). m.fits && are_matched (kinded can.kinds q).kinds m.kinds) ms) fits)))

  all_members_fit : (kss : List (List Kind)) → Pairwise HoldsKinds relations kss → (qs : List Query) → (operation_kinded (map (kinded kss) qs)).fits ≡ true → AllByRecursion (CanAnswer relations) qs
  all_members_fit kss hold [] e = tt
  all_members_fit kss hold (q ∷ qs) e =
      let ms = map (kinded kss) qs in
      let test = list_all (λ (m : Kinded). m.fits && are_matched (kinded kss q).kinds m.kinds) ms in (
        record { kinds = kss; hold = hold; fits = and_left (kinded kss q).fits test e },
        all_weaker (λ q'. ((kinded kss q').fits ≡ true) × (are_matched (kinded kss q).kinds (kinded kss q').kinds ≡ true)) (CanAnswer relations) qs
            (λ q' f. record { kinds = kss; hold = hold; fits = f.0 })
            (unmapped (λ (m : Kinded). (m.fits ≡ true) × (are_matched (kinded kss q).kinds m.kinds ≡ true)) (kinded kss) qs (operands_fit (kinded kss q).kinds ms (and_right (kinded kss q).fits test e))),
      )

  members_fit : (qs : List Query) → CanAnswer relations (query.Intersect qs) → AllByRecursion (CanAnswer relations) qs
  members_fit qs can = all_members_fit can.kinds can.hold qs (subst (λ (k : Kinded). k.fits ≡ true) (kinded-Intersect can.kinds qs) can.fits)

  -- ---- chains

  abbrev set_step : List Row → SetOp × Answer → List Row
  set_step rows s = set_rows s.0 rows s.1.rows

  abbrev of_member : SetOp × Answer → Answer
  of_member s = s.1

  -- the rows after so many members, with the members that are left
  pub record ChainSoFar (q : Query) (width : ℕ) (rows : List Row) (left : List SetStep) : Type 0 where
    pub width_is : width ≡ (answer relations q).width
    pub stands : ChainStands set_step of_member (answer relations q) rows (map (member_answer relations) left)
    pub can : AllByRecursion (λ (s : SetStep). CanAnswer relations s.query) left

  module _ (whole first inner : Query) (rest : List SetStep) (is : whole ≡ query.Chain first rest) (same : inner ≡ first) where
    pub chain_first : CanAnswer relations whole → CanAnswer relations inner
    chain_first can = subst (CanAnswer relations) (sym same) (first_fits first rest (subst (CanAnswer relations) is can))

    pub chain_begins : CanAnswer relations whole → (l : Listing) → Lists l (answer relations inner) → (rows : List Row) → rows ≡ l.rows → ChainSoFar whole l.width rows rest
    chain_begins can l lists rows rows_are =
        let eq = ap (answer relations) is ∙ answer-Chain relations first rest in
        let from : Answer = answer relations first in
        record {
          width_is = lists.width ∙ ap (λ q. (answer relations q).width) same ∙ sym (ap (λ (a : Answer). a.width) eq);
          stands = subst (λ a. ChainStands set_step of_member a rows (map (member_answer relations) rest)) (sym eq)
              (chain_starts set_step of_member from (map (member_answer relations) rest) rows (rows_are ∙ lists.rows ∙ ap (λ q. (answer relations q).rows) same) (ap (λ q. has_range_fault (answer relations q)) (sym same) ∙ lists.inside));
          can = rest_fit first rest (subst (CanAnswer relations) is can);
        }

    pub chain_first_out : has_range_fault (answer relations inner) ≡ true → has_range_fault (answer relations whole) ≡ true
    chain_first_out e =
        ap has_range_fault (ap (answer relations) is ∙ answer-Chain relations first rest)
        ∙ first_out set_step of_member (answer relations first) (map (member_answer relations) rest) (ap (λ q. has_range_fault (answer relations q)) (sym same) ∙ e)

  module _ (whole : Query) (width : ℕ) (rows : List Row) (steps : List SetStep) (i : ℕ) (so_far : ChainSoFar whole width rows (drop i steps)) (step : SetStep) (found : slice_get steps i ≡ Some step) where
    left_is : drop i steps ≡ step ∷ drop (i + 1) steps
    left_is = drop_here steps i step found

    here : ChainSoFar whole width rows (step ∷ drop (i + 1) steps)
    here = subst (ChainSoFar whole width rows) left_is so_far

    pub step_can : CanAnswer relations step.query
    step_can = here.can.0

    stands_here : ChainStands set_step of_member (answer relations whole) rows ((step.op, answer relations step.query) ∷ map (member_answer relations) (drop (i + 1) steps))
    stands_here = subst (λ m. ChainStands set_step of_member (answer relations whole) rows (m ∷ map (member_answer relations) (drop (i + 1) steps))) (member-is relations step) here.stands

    pub chain_member_out : has_range_fault (answer relations step.query) ≡ true → has_range_fault (answer relations whole) ≡ true
    chain_member_out e = member_out set_step of_member (answer relations whole) rows (step.op, answer relations step.query) (map (member_answer relations) (drop (i + 1) steps)) stands_here e

    module _ (more : Listing) (lists : Lists more (answer relations step.query)) where
      pub chain_step_out : is_crowded (set_rows step.op rows more.rows) ≡ true → has_range_fault (answer relations whole) ≡ true
      chain_step_out e =
          step_out set_step of_member (answer relations whole) rows (step.op, answer relations step.query) (map (member_answer relations) (drop (i + 1) steps)) stands_here
          (ap (λ m. is_crowded (set_rows step.op rows m)) (sym lists.rows) ∙ e)

      pub chain_goes_on : (now : List Row) → now ≡ set_rows step.op rows more.rows → is_crowded (set_rows step.op rows more.rows) ≡ false → ChainSoFar whole width now (drop (i + 1) steps)
      chain_goes_on now is few = record {
        width_is = so_far.width_is;
        stands = chain_goes set_step of_member (answer relations whole) rows now (step.op, answer relations step.query) (map (member_answer relations) (drop (i + 1) steps)) stands_here lists.inside (is ∙ ap (set_rows step.op rows) lists.rows) (ap is_crowded is ∙ few);
        can = here.can.1;
      }

  pub chain_ends : (whole : Query) (width : ℕ) (rows : List Row) (steps : List SetStep) (i : ℕ) → ChainSoFar whole width rows (drop i steps) → length steps ≤ i → (l : Listing) → l.width ≡ width → l.rows ≡ rows → Lists l (answer relations whole)
  chain_ends whole width rows steps i so_far past l w r =
      let last : ChainSoFar whole width rows [] = subst (ChainSoFar whole width rows) (drop_past steps i past) so_far in
      record { width = w ∙ so_far.width_is; rows = r ∙ sym last.stands.rows_are; inside = last.stands.fault_is }

  -- ---- INTERSECT

  abbrev common_step : List Row → Answer → List Row
  common_step rows a = intersect_rows rows a.rows

  abbrev same_answer : Answer → Answer
  same_answer a = a

  abbrev pub CommonStands : Query → Option Listing → List Query → Type 0
  CommonStands whole None left = answer relations whole ≡ intersect_answer (map (answer relations) left)
  CommonStands whole (Some l) left = (l.width ≡ (answer relations whole).width) × ChainStands common_step same_answer (answer relations whole) l.rows (map (answer relations) left)

  -- what the members so far have, with the members that are left
  pub record CommonSoFar (whole : Query) (found : Option Listing) (left : List Query) : Type 0 where
    pub stands : CommonStands whole found left
    pub can : AllByRecursion (CanAnswer relations) left

  pub common_begins : (whole : Query) (members : List Query) → whole ≡ query.Intersect members → CanAnswer relations whole → CommonSoFar whole None members
  common_begins whole members is can = record { stands = ap (answer relations) is ∙ answer-Intersect relations members; can = members_fit members (subst (CanAnswer relations) is can) }

  one_member_out : (whole : Query) (found : Option Listing) (m : Query) (left : List Query) → CommonStands whole found (m ∷ left) → has_range_fault (answer relations m) ≡ true → has_range_fault (answer relations whole) ≡ true
  one_member_out whole None m left s e = ap has_range_fault s ∙ first_out common_step same_answer (answer relations m) (map (answer relations) left) e
  one_member_out whole (Some l) m left s e = member_out common_step same_answer (answer relations whole) l.rows (answer relations m) (map (answer relations) left) s.1 e

  one_step_out : (whole : Query) (found : Option Listing) (m : Query) (left : List Query) (more : Listing) → CommonStands whole found (m ∷ left) → more.rows ≡ (answer relations m).rows → is_common_crowded found more.rows ≡ true → has_range_fault (answer relations whole) ≡ true
  one_step_out whole None m left more s r e = absurd (cc e)
  one_step_out whole (Some l) m left more s r e = step_out common_step same_answer (answer relations whole) l.rows (answer relations m) (map (answer relations) left) s.1 (ap (λ rs. is_crowded (intersect_rows l.rows rs)) (sym r) ∙ e)

  one_more : (whole : Query) (found : Option Listing) (m : Query) (left : List Query) (more now : Listing) → CommonStands whole found (m ∷ left) → Lists more (answer relations m) → now.width ≡ common_width found more → now.rows ≡ common_rows found more.rows → is_common_crowded found more.rows ≡ false →
      CommonStands whole (Some now) left
  one_more whole None m left more now s lists w r few = (
    w ∙ lists.width ∙ sym (ap (λ (a : Answer). a.width) s),
    subst (λ a. ChainStands common_step same_answer a now.rows (map (answer relations) left)) (sym s) (chain_starts common_step same_answer (answer relations m) (map (answer relations) left) now.rows (r ∙ lists.rows) lists.inside),
  )
  one_more whole (Some l) m left more now s lists w r few = (
    w ∙ s.0,
    chain_goes common_step same_answer (answer relations whole) l.rows now.rows (answer relations m) (map (answer relations) left) s.1 lists.inside (r ∙ ap (intersect_rows l.rows) lists.rows) (ap is_crowded r ∙ few),
  )

  module _ (whole : Query) (found : Option Listing) (members : List Query) (i : ℕ) (so_far : CommonSoFar whole found (drop i members)) (member : Query) (here : slice_get members i ≡ Some member) where
    at_member : CommonSoFar whole found (member ∷ drop (i + 1) members)
    at_member = subst (CommonSoFar whole found) (drop_here members i member here) so_far

    pub member_can : CanAnswer relations member
    member_can = at_member.can.0

    pub common_member_out : has_range_fault (answer relations member) ≡ true → has_range_fault (answer relations whole) ≡ true
    common_member_out e = one_member_out whole found member (drop (i + 1) members) at_member.stands e

    module _ (more : Listing) (lists : Lists more (answer relations member)) where
      pub common_step_out : is_common_crowded found more.rows ≡ true → has_range_fault (answer relations whole) ≡ true
      common_step_out e = one_step_out whole found member (drop (i + 1) members) more at_member.stands lists.rows e

      pub common_goes_on : (now : Listing) → now.width ≡ common_width found more → now.rows ≡ common_rows found more.rows → is_common_crowded found more.rows ≡ false → CommonSoFar whole (Some now) (drop (i + 1) members)
      common_goes_on now w r few = record { stands = one_more whole found member (drop (i + 1) members) more now at_member.stands lists w r few; can = at_member.can.1 }

  all_common : (whole : Query) (found : Option Listing) → CommonStands whole found [] → (none l : Listing) → none.width ≡ 0 → none.rows ≡ [] → l ≡ unwrap_or found none → Lists l (answer relations whole)
  all_common whole None s none l w r is = record {
    width = ap (λ (x : Listing). x.width) is ∙ w ∙ sym (ap (λ (a : Answer). a.width) s);
    rows = ap (λ (x : Listing). x.rows) is ∙ r ∙ sym (ap (λ (a : Answer). a.rows) s);
    inside = ap has_range_fault s;
  }
  all_common whole (Some now) s none l w r is = record {
    width = ap (λ (x : Listing). x.width) is ∙ s.0;
    rows = ap (λ (x : Listing). x.rows) is ∙ sym s.1.rows_are;
    inside = s.1.fault_is;
  }

  pub common_ends : (whole : Query) (found : Option Listing) (members : List Query) (i : ℕ) → CommonSoFar whole found (drop i members) → length members ≤ i → (none l : Listing) → (none.width ≡ 0) × (none.rows ≡ []) → l ≡ unwrap_or found none → Lists l (answer relations whole)
  common_ends whole found members i so_far past none l empty is =
      let last : CommonSoFar whole found [] = subst (CommonSoFar whole found) (drop_past members i past) so_far in
      all_common whole found last.stands none l empty.0 empty.1 is

-- ---- the sources of a block

pub pairwise_more : {A B : Type 0} (P : A → B → Type 0) (xs : List A) (ys : List B) (x : A) (y : B) → Pairwise P xs ys → P x y → Pairwise P (xs ++ x ∷ []) (ys ++ y ∷ [])
pairwise_more P [] [] x y p h = (h, tt)
pairwise_more P [] (z ∷ ys) x y p h = absurd p
pairwise_more P (z ∷ xs) [] x y p h = absurd p
pairwise_more P (w ∷ xs) (z ∷ ys) x y p h = (p.0, pairwise_more P xs ys x y p.1 h)

module _ (relations : List Contents) (items : List FromItem) (ls : List Listing) (i : ℕ) (item : FromItem) (found : slice_get items i ≡ Some item) (listed : ListsItems relations ls (take i items)) where
  pub items_more : (l : Listing) (now : List Listing) → Lists l (origin_answer relations item.source) → now ≡ ls ++ l ∷ [] → ListsItems relations now (take (i + 1) items)
  items_more l now lists is =
      subst (λ ls. ListsItems relations ls (take (i + 1) items)) (sym is)
      (subst (ListsItems relations (ls ++ l ∷ [])) (sym (take_more items i item found)) (pairwise_more (λ l item. Lists l (origin_answer relations item.source)) ls (take i items) l item listed lists))

-- ---- what stands behind FROM

there : (ls : List Listing) (kss : List (List Kind)) → Pairwise HoldsKinds (map contents_of ls) kss → (n : ℕ) → (relation_kinded (slice_get kss n)).fits ≡ true → n < length ls
there [] [] p n e = absurd (cc e)
there [] (ks ∷ kss) p n e = absurd p
there (l ∷ ls) [] p n e = absurd p
there (l ∷ ls) (ks ∷ kss) p zero e = omega arith
there (l ∷ ls) (ks ∷ kss) p (suc n) e = omega (arith, there ls kss p.1 n e)

contents_at : (ls : List Listing) (n : ℕ) (l : Listing) (d : Contents) → slice_get ls n ≡ Some l → get_or (map contents_of ls) n d ≡ contents_of l
contents_at [] n l d e = absurd (cc e)
contents_at (x ∷ ls) zero l d e = ap contents_of (same_some x l e)
  where
    same_some : (x y : Listing) → Some x ≡ Some y → x ≡ y
    same_some x y e = cc e
contents_at (x ∷ ls) (suc n) l d e = contents_at ls n l d e

module _ (ls : List Listing) (o : Origin) where
  pub relation_there : (n : ℕ) → o ≡ origin.Relation n → CanAnswerOrigin (map contents_of ls) o → n < length ls
  relation_there n is can = there ls can.kinds can.hold n (subst (λ (k : Kinded). k.fits ≡ true) (ap (kinded_origin can.kinds) is ∙ kinded-Relation can.kinds n) can.fits)

  pub relation_lists : (n : ℕ) (l : Listing) → o ≡ origin.Relation n → slice_get ls n ≡ Some l → Lists l (origin_answer (map contents_of ls) o)
  relation_lists n l is e =
      let eq = ap (origin_answer (map contents_of ls)) is ∙ origin-Relation (map contents_of ls) n ∙ ap relation_answer (contents_at ls n l (record { width = 0; rows = [] }) e) in
      record { width = sym (ap (λ (a : Answer). a.width) eq); rows = sym (ap (λ (a : Answer). a.rows) eq); inside = ap has_range_fault eq }

  pub query_can : (q : Query) → o ≡ origin.Query q → CanAnswerOrigin (map contents_of ls) o → CanAnswer (map contents_of ls) q
  query_can q is can = record { kinds = can.kinds; hold = can.hold; fits = subst (λ (k : Kinded). k.fits ≡ true) (ap (kinded_origin can.kinds) is ∙ kinded-Query can.kinds q) can.fits }

  pub query_answers : (q : Query) (r : Result Listing Stop) → o ≡ origin.Query q →
      MatchResult r (λ l. Lists l (answer (map contents_of ls) q)) (λ stop. stop ≡ Range → has_range_fault (answer (map contents_of ls) q) ≡ true) →
      MatchResult r (λ l. Lists l (origin_answer (map contents_of ls) o)) (λ stop. stop ≡ Range → has_range_fault (origin_answer (map contents_of ls) o) ≡ true)
  query_answers q r is h =
      subst (λ a. MatchResult r (λ l. Lists l a) (λ stop. stop ≡ Range → has_range_fault a ≡ true)) (sym (ap (origin_answer (map contents_of ls)) is ∙ origin-Query (map contents_of ls) q)) h
