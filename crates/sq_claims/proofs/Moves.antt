-- Each kind of step keeps the rule.
use Rattle.std.proofs.Common.{◌≡◌, ◌≢◌, ℕ, ◌+◌, ◌%◌, ◌^◌, ◌<◌, ◌≤◌, ◌==◌, List, [], ◌∷◌, ◌++◌, length, set, if◌then◌else◌, refl, sym, ap, ◌∙◌, subst, arith, slice_index, slice_set, length-append, mod-eq_of_lt, add-one, lt_of_not-le, ⊎_elim}
use Rattle.std.specs.List.{AllByRecursion}
use mathlib.Core.Option.{Option, some}
use mathlib.Core.Logic.{dite}
use native.Mathlib.Decide.{dec_le}
use lib.ListN.{get_elem?}
use Rattle.atomic_table.specs.Table.{Me, Step, Act, Valid, carried_after, Allows, Splits, Joins, keeps}
use Rattle.atomic_table.proofs.Lists.{at_set, set_again}
use Rattle.sq_claims.specs.declared.rule.Hand.{Hand}
use Rattle.sq_claims.specs.declared.rule.Plan.{Plan}
use Rattle.sq_claims.specs.Claims.{total, times}
use Rattle.sq_claims.specs.Hands.{hand, first_hand, left_hand, right_hand, both_hands, spent_hand, Fits, Told, once_below, IsKept, Kept, Takes, Looks}
use Rattle.sq_claims.proofs.Totals.{total_set, total_append, total_at, total_alone, total_le, each_at, each_set, each_append, each_from, each_stands, once_above}

abbrev stands : ℕ → Hand → ℕ
stands x v = times x v.claims

abbrev lateness : Hand → ℕ
lateness v = length v.late

abbrev part : Hand → ℕ
part v = v.share

module _ (plan : Plan) where
  abbrev Tells : ℕ → List Hand → Type 0
  Tells word views = Told plan word (λ x. total (stands x) views) (total lateness views)

  -- no more words were found too late than there are passes
  lates_le : (views : List Hand) → AllByRecursion (Fits plan) views → total part views ≡ plan.passes → total lateness views ≤ plan.passes
  lates_le views fit shares =
      let le = total_le lateness part views (each_from (λ v. lateness v ≤ part v) (Fits plan) (λ v f. f.bound) views fit) in omega (arith, le, shares)

  -- a number that a seat claimed is below `done`
  below_done : (word : ℕ) (views : List Hand) (id : ℕ) (v : Hand) (told : Tells word views) → get_elem? views id ≡ some v → (x : ℕ) → 0 < times x v.claims → x < told.done
  below_done word views id v told at x p = dite (dec_le told.done x)
      (λ le. let no = once_above x told.done le in let all = told.once x in let one = total_at (stands x) views id v at in absurd (omega (arith, no, all, one, p)))
      (λ no. lt_of_not-le no)

  claims_below : (word : ℕ) (views : List Hand) (id : ℕ) (v : Hand) (told : Tells word views) → get_elem? views id ≡ some v → AllByRecursion (λ c. c < word) v.claims
  claims_below word views id v told at =
      each_stands (λ c. c < word) v.claims (λ x p. let b = below_done word views id v told at x p in let is = told.word_is in omega (arith, b, is))

  module _ (word : ℕ) (views : List Hand) (id : ℕ) (v : Hand) (told : Tells word views) (shares : total part views ≡ plan.passes)
      (fit : AllByRecursion (Fits plan) views) (small : plan.tasks + plan.passes < 2 ^ 63) (at : get_elem? views id ≡ some v)
      (some_share : 0 < v.share) (not_late : v.late ≡ []) where
    mine : Fits plan v
    mine = each_at (Fits plan) views id v fit at

    -- the word does not wrap
    next_word : (word + 1) % 2 ^ 64 ≡ word + 1
    next_word = let le = lates_le views fit shares in let is = told.word_is in let most = told.most in mod-eq_of_lt (omega (arith, le, is, most, small))

    abbrev hit : Hand
    hit = hand v.plan v.share (v.claims ++ word ∷ []) v.late

    abbrev miss : Hand
    miss = hand v.plan v.share v.claims (v.late ++ word ∷ [])

    same_shares : (w : Hand) → w.share ≡ v.share → total part (set views id w) ≡ plan.passes
    same_shares w e = let t = total_set part views id v w at in omega (arith, t, e, shares)

    none_late : word < plan.tasks → total lateness views ≡ 0
    none_late lt = let is = told.word_is in told.early (omega (arith, is, lt))

    hits : word < plan.tasks → IsKept plan ((word + 1) % 2 ^ 64 ∷ []) (set views id hit)
    hits lt =
        let lates = none_late lt in
        let is = told.word_is in
        let done : told.done ≡ word = omega (arith, is, lates) in
        let t = total_set lateness views id v hit at in record {
          word = word + 1;
          words_are = ap (λ (k : ℕ). k ∷ []) next_word;
          told = record {
            done = word + 1;
            word_is = omega (arith, t, lates);
            most = omega (arith, lt);
            early = λ _. omega (arith, t, lates);
            once = λ x.
                let c = total_set (stands x) views id v hit at in
                let a = total_append (λ (y : ℕ). if y == x then 1 else 0) v.claims (word ∷ []) in
                let o : total (stands x) views ≡ once_below x word = told.once x ∙ ap (once_below x) done in
                let m : once_below x (word + 1) ≡ (if word == x then 1 else 0) + once_below x word = ap (once_below x) (add-one word) in omega (arith, c, a, o, m);
          };
          shares = same_shares hit refl;
          fit = each_set (Fits plan) views id hit fit record { plan_is = mine.plan_is; bound = mine.bound; idle = λ e. absurd (omega (arith, e, some_share)) };
          small = small;
        }

    misses : plan.tasks ≤ word → IsKept plan ((word + 1) % 2 ^ 64 ∷ []) (set views id miss)
    misses le =
        let is = told.word_is in
        let most = told.most in
        let t = total_set lateness views id v miss at in
        let l = length-append v.late (word ∷ []) in
        let n = ap (λ (xs : List ℕ). length xs) not_late in record {
          word = word + 1;
          words_are = ap (λ (k : ℕ). k ∷ []) next_word;
          told = record {
            done = told.done;
            word_is = omega (arith, t, l, is);
            most = most;
            early = λ lt. let z = told.early lt in absurd (omega (arith, z, is, lt, le));
            once = λ x. let c = total_set (stands x) views id v miss at in let o = told.once x in omega (arith, c, o);
          };
          shares = same_shares miss refl;
          fit = each_set (Fits plan) views id miss fit record { plan_is = mine.plan_is; bound = omega (arith, l, n, some_share); idle = λ e. absurd (omega (arith, e, some_share)) };
          small = small;
        }

    module _ (homes : List (Option ℕ)) (out : List (ℕ × ℕ)) (st : Step ℕ) where
      abbrev Goes : List ℕ → Type 0
      Goes ws = (w : Hand) × (a : Act ℕ) × Valid homes out a × IsKept plan (slice_set ws 0 ((slice_index ws 0 + 1) % 2 ^ 64)) (slice_set views id w)
          × Takes st (v, out) (slice_index ws 0) (w, carried_after out a)

      goes : Goes (word ∷ [])
      goes = let tasks = ap (λ (p : Plan). p.tasks) (mine.plan_is some_share) in let below = claims_below word views id v told at in
          dite (dec_le plan.tasks word)
          (λ le. (miss, keeps, tt, misses le, ((λ lt. absurd (omega (arith, lt, le, tasks))), (λ _. refl), below)))
          (λ no. let lt = lt_of_not-le no in (hit, keeps, tt, hits lt, ((λ _. refl), (λ le. absurd (omega (arith, lt, le, tasks))), below)))

  pub claims_move : (slots id : ℕ) (me : Me ℕ Hand) (st : Step ℕ) → 0 < me.0.share → me.0.late ≡ [] → Allows (Kept plan) slots id me 0 (λ n. (n + 1) % 2 ^ 64) (Takes st me)
  claims_move slots id me st share late s kept homes at fits =
      subst (Goes kept.word s.views id me.0 kept.told kept.shares kept.fit kept.small at share late s.homes me.1 st) (sym kept.words_are)
      (goes kept.word s.views id me.0 kept.told kept.shares kept.fit kept.small at share late s.homes me.1 st)

  abbrev Sees : List ℕ → List Hand → List (Option ℕ) → ℕ → Me ℕ Hand → Step ℕ → Type 0
  Sees ws views homes id me st = (w : Hand) × (a : Act ℕ) × Valid homes me.1 a × IsKept plan (slice_set ws 0 (slice_index ws 0)) (slice_set views id w)
      × Looks st me (slice_index ws 0) (w, carried_after me.1 a)

  sees : (word : ℕ) (views : List Hand) (homes : List (Option ℕ)) (id : ℕ) (me : Me ℕ Hand) (st : Step ℕ) (told : Tells word views) → total part views ≡ plan.passes
      → AllByRecursion (Fits plan) views → plan.tasks + plan.passes < 2 ^ 63 → get_elem? views id ≡ some me.0 → 0 < me.0.share → Sees (word ∷ []) views homes id me st
  sees word views homes id me st told shares fit small at some_share =
      let again = set_again views id me.0 at in (
        me.0,
        keeps,
        tt,
        subst (IsKept plan (word ∷ [])) (sym again) record { word = word; words_are = refl; told = told; shares = shares; fit = fit; small = small },
        (
          refl,
          λ whole.
              let mine = each_at (Fits plan) views id me.0 fit at in
              let plan_is = mine.plan_is some_share in
              let all : me.0.share ≡ total part views = whole ∙ (ap (λ (p : Plan). p.passes) plan_is ∙ sym shares) in
              let l = total_alone lateness part views id me.0 (each_from (λ v. part v ≡ 0 → lateness v ≡ 0) (Fits plan) (λ v f e. let b = f.bound in omega (arith, b, e)) views fit) at all in
              let c : (x : ℕ) → total (stands x) views ≡ stands x me.0 = λ x.
              total_alone (stands x) part views id me.0 (each_from (λ v. part v ≡ 0 → stands x v ≡ 0) (Fits plan) (λ v f e. ap (times x) (f.idle e)) views fit) at all in
              subst (λ (p : Plan). Told p word (λ x. times x me.0.claims) (length me.0.late)) (sym plan_is) record {
                done = told.done;
                word_is = let is = told.word_is in omega (arith, is, l);
                most = told.most;
                early = λ lt. let z = told.early lt in omega (arith, z, l);
                once = λ x. sym (c x) ∙ told.once x;
              },
        ),
      )

  pub looks_move : (slots id : ℕ) (me : Me ℕ Hand) (st : Step ℕ) → 0 < me.0.share → Allows (Kept plan) slots id me 0 (λ n. n) (Looks st me)
  looks_move slots id me st share s kept homes at fits =
      subst (λ ws. Sees ws s.views s.homes id me st) (sym kept.words_are) (sees kept.word s.views s.homes id me st kept.told kept.shares kept.fit kept.small at share)

  -- views that count the same tell the same
  tells_same : (word : ℕ) (xs ys : List Hand) → ((x : ℕ) → total (stands x) ys ≡ total (stands x) xs) → total lateness ys ≡ total lateness xs → Tells word xs → Tells word ys
  tells_same word xs ys claims lates told = record {
    done = told.done;
    word_is = let is = told.word_is in omega (arith, is, lates);
    most = told.most;
    early = λ lt. let z = told.early lt in omega (arith, z, lates);
    once = λ x. claims x ∙ told.once x;
  }

  pub deals_move : (id : ℕ) (v : Hand) → 2 ≤ v.share → v.claims ≡ [] → v.late ≡ [] → Splits (Kept plan) id v (left_hand v) (right_hand v)
  deals_move id v share claims late s kept at =
      let mine = each_at (Fits plan) s.views id v kept.fit at in
      let set_to = set s.views id (left_hand v) in
      let one = right_hand v ∷ [] in
      let n = ap (λ (xs : List ℕ). length xs) late in record {
        word = kept.word;
        words_are = kept.words_are;
        told = tells_same kept.word s.views (set_to ++ one)
            (λ x. let t = total_set (stands x) s.views id v (left_hand v) at in let a = total_append (stands x) set_to one in omega (arith, t, a))
            (let t = total_set lateness s.views id v (left_hand v) at in let a = total_append lateness set_to one in omega (arith, t, a))
            kept.told;
        shares = let t = total_set part s.views id v (left_hand v) at in let a = total_append part set_to one in let e = kept.shares in omega (arith, t, a, share, e);
        fit = each_append (Fits plan) set_to one
            (each_set (Fits plan) s.views id (left_hand v) kept.fit record { plan_is = λ _. mine.plan_is (omega (arith, share)); bound = omega (arith, n); idle = λ _. claims })
            (record { plan_is = λ _. mine.plan_is (omega (arith, share)); bound = omega arith; idle = λ _. refl }, tt);
        small = kept.small;
      }

  pub gathers_move : (id : ℕ) (v : Hand) (other : ℕ) (w : Hand) → 0 < v.share → Joins (Kept plan) id v other w (both_hands v w) spent_hand
  gathers_move id v other w share s kept at apart there =
      let both = both_hands v w in
      let first = set s.views id both in
      let mine = each_at (Fits plan) s.views id v kept.fit at in
      let was : get_elem? s.views other ≡ some w = ⊎_elim (λ (t : (other ≡ id) × (both ≡ w)). absurd (apart t.0)) (λ (t : (other ≢ id) × (get_elem? s.views other ≡ some w)). t.1) (at_set s.views id other both w there) in
      let theirs = each_at (Fits plan) s.views other w kept.fit was in
      let b = mine.bound in
      let d = theirs.bound in
      let l = length-append v.late w.late in record {
        word = kept.word;
        words_are = kept.words_are;
        told = tells_same kept.word s.views (set first other spent_hand)
            (λ x. let t = total_set (stands x) s.views id v both at in let u = total_set (stands x) first other w spent_hand there in
            let a = total_append (λ (y : ℕ). if y == x then 1 else 0) v.claims w.claims in omega (arith, t, u, a))
            (let t = total_set lateness s.views id v both at in let u = total_set lateness first other w spent_hand there in omega (arith, t, u, l))
            kept.told;
        shares = let t = total_set part s.views id v both at in let u = total_set part first other w spent_hand there in let e = kept.shares in omega (arith, t, u, e);
        fit = each_set (Fits plan) first other spent_hand
            (each_set (Fits plan) s.views id both kept.fit record { plan_is = λ _. mine.plan_is share; bound = omega (arith, b, d, l); idle = λ e. absurd (omega (arith, e, share)) })
            record { plan_is = λ e. absurd (omega (arith, e)); bound = omega arith; idle = λ _. refl };
        small = kept.small;
      }

  pub begins : plan.tasks + plan.passes < 2 ^ 63 → IsKept plan (0 ∷ []) (first_hand plan ∷ [])
  begins small = record {
    word = 0;
    words_are = refl;
    told = record { done = 0; word_is = refl; most = omega arith; early = λ _. refl; once = λ x. refl };
    shares = omega arith;
    fit = (record { plan_is = λ _. refl; bound = omega arith; idle = λ _. refl }, tt);
    small = small;
  }
