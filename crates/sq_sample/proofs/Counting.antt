-- The numbers of rows that are inserted and deleted, and the states of the generator, tick by tick.
use Rattle.std.proofs.Common.{◌≡◌, ℕ, zero, suc, ◌+◌, ◌*◌, ◌≤◌, ◌/◌, ◌%◌, true, false, List, [], ◌∷◌, ◌++◌, refl, sym, ap, ap₂, subst, ◌∙◌, arith}
use Rattle.std.proofs.lemmas.List.{append-nil, append_assoc}
use Rattle.sq_typed.specs.declared.update.Update.{Update}
use Rattle.sq_sample.specs.Kept.{IsKept, deleted, inserted}
use Rattle.sq_typed.specs.From.{Row}
use Rattle.sq_sample.specs.Numbers.{d_row, e_row, next, row_from, state_at}
use Rattle.sq_sample.specs.Ticks.{d_updates, e_updates, later, tick, update}

pub state_begins : (x : ℕ) → state_at x 0 ≡ x
unfolding state_at
state_begins x = refl

pub state_goes_on : (x n : ℕ) → next (next (state_at x (2 * n))) ≡ state_at x (2 * (n + 1))
unfolding state_at
state_goes_on x n = ap (state_at x) (let e : suc (suc (2 * n)) ≡ 2 * (n + 1) = omega arith in e)

-- ---- how many rows
inserted_odd : (made : ℕ) → made % 2 ≡ 1 → inserted (suc made) ≡ inserted made + 1
inserted_odd zero odd = absurd (omega arith)
inserted_odd (suc m) odd = omega arith

deleted_odd : (made : ℕ) → made % 2 ≡ 1 → deleted (suc made) ≡ deleted made
deleted_odd zero odd = absurd (omega arith)
deleted_odd (suc m) odd = omega arith

inserted_even : (made : ℕ) → 1 ≤ made → made % 2 ≡ 0 → inserted (suc made) ≡ inserted made
inserted_even zero some even = absurd (omega arith)
inserted_even (suc m) some even = omega arith

deleted_even : (made : ℕ) → 1 ≤ made → made % 2 ≡ 0 → deleted (suc made) ≡ deleted made + 1
deleted_even zero some even = absurd (omega arith)
deleted_even (suc m) some even = omega arith

pub few_inserted : (made : ℕ) → made ≤ 1000000 → inserted made ≤ 600000
few_inserted zero few = omega arith
few_inserted (suc m) few = omega arith

pub few_deleted : (made : ℕ) → made ≤ 1000000 → deleted made ≤ 500000
few_deleted zero few = omega arith
few_deleted (suc m) few = omega arith

-- ---- what a sample keeps
pub one_more : (made : ℕ) → made + 1 ≡ suc made
one_more made = omega arith

pub kept_at_start : (seed : ℕ) → IsKept seed 0 (state_at seed 0) 0 (state_at seed 0) 0
kept_at_start seed = record { newest_number_is = refl; newest_is = refl; oldest_number_is = refl; oldest_is = refl }

pub kept_first : (seed s n s' n' : ℕ) → IsKept seed 0 s n s' n' → IsKept seed 1 (state_at seed 200000) 100000 s' n'
kept_first seed s n s' n' kept = record { newest_number_is = refl; newest_is = refl; oldest_number_is = kept.oldest_number_is; oldest_is = kept.oldest_is }

advanced : (seed s n to : ℕ) → s ≡ state_at seed (2 * n) → to ≡ n + 1 → next (next s) ≡ state_at seed (2 * to)
advanced seed s n to at goes = ap (λ s. next (next s)) at ∙ (state_goes_on seed n ∙ ap (λ k. state_at seed (2 * k)) (sym goes))

kept_inserted : (seed made s n s' n' : ℕ) → made % 2 ≡ 1 → IsKept seed made s n s' n' → IsKept seed (suc made) (next (next s)) (n + 1) s' n'
kept_inserted seed made s n s' n' odd kept = record {
  newest_number_is = ap (λ k. k + 1) kept.newest_number_is ∙ sym (inserted_odd made odd);
  newest_is = advanced seed s (inserted made) (inserted (suc made)) kept.newest_is (inserted_odd made odd);
  oldest_number_is = kept.oldest_number_is ∙ sym (deleted_odd made odd);
  oldest_is = kept.oldest_is ∙ ap (λ k. state_at seed (2 * k)) (sym (deleted_odd made odd));
}

kept_deleted : (seed made s n s' n' : ℕ) → 1 ≤ made → made % 2 ≡ 0 → IsKept seed made s n s' n' → IsKept seed (suc made) s n (next (next s')) (n' + 1)
kept_deleted seed made s n s' n' some even kept = record {
  newest_number_is = kept.newest_number_is ∙ sym (inserted_even made some even);
  newest_is = kept.newest_is ∙ ap (λ k. state_at seed (2 * k)) (sym (inserted_even made some even));
  oldest_number_is = ap (λ k. k + 1) kept.oldest_number_is ∙ sym (deleted_even made some even);
  oldest_is = advanced seed s' (deleted made) (deleted (suc made)) kept.oldest_is (deleted_even made some even);
}

pub kept_after_insert : (seed made s n s' n' t k : ℕ) → made % 2 ≡ 1 → IsKept seed made s n s' n' → t ≡ next (next s) → k ≡ n + 1 → IsKept seed (made + 1) t k s' n'
kept_after_insert seed made s n s' n' t k odd kept at is =
    let moved = subst (λ t. IsKept seed (suc made) t (n + 1) s' n') (sym at) (kept_inserted seed made s n s' n' odd kept) in
    let numbered = subst (λ k. IsKept seed (suc made) t k s' n') (sym is) moved in
    subst (λ m. IsKept seed m t k s' n') (sym (one_more made)) numbered

pub kept_after_delete : (seed made s n s' n' t k : ℕ) → 1 ≤ made → made % 2 ≡ 0 → IsKept seed made s n s' n' → t ≡ next (next s') → k ≡ n' + 1 → IsKept seed (made + 1) s n t k
kept_after_delete seed made s n s' n' t k some even kept at is =
    let moved = subst (λ t. IsKept seed (suc made) s n t (n' + 1)) (sym at) (kept_deleted seed made s n s' n' some even kept) in
    let numbered = subst (λ k. IsKept seed (suc made) s n t k) (sym is) moved in
    subst (λ m. IsKept seed m s n t k) (sym (one_more made)) numbered

-- ---- the ticks
row_at : (seed s n k : ℕ) → s ≡ state_at seed (2 * k) → n ≡ k → row_from s n ≡ e_row seed k
row_at seed s n k at is = ap₂ row_from at is

pub later_even : (x m : ℕ) → m % 2 ≡ 0 → later x m ≡ update 1 1 true (e_row x (100000 + m / 2))
later_even x m even = rw even refl

pub later_odd : (x m : ℕ) → m % 2 ≡ 1 → later x m ≡ update 1 1 false (e_row x (m / 2))
later_odd x m odd = rw odd refl

pub tick_later : (x m : ℕ) → tick x (suc (suc m)) ≡ later x m ∷ []
unfolding tick
tick_later x m = refl

insert_is : (seed made s n : ℕ) → made % 2 ≡ 1 → n ≡ inserted made → s ≡ state_at seed (2 * inserted made) → update 1 1 true (row_from s n) ∷ [] ≡ tick seed (suc made)
insert_is seed zero s n odd is at = absurd (omega arith)
insert_is seed (suc m) s n odd is at =
    let even : m % 2 ≡ 0 = omega arith in
    let same : 100000 + (m + 1) / 2 ≡ 100000 + m / 2 = omega arith in
    ap (λ row. update 1 1 true row ∷ []) (row_at seed s n (inserted (suc m)) at is ∙ ap (e_row seed) same)
    ∙ (ap (λ u. u ∷ []) (sym (later_even seed m even)) ∙ sym (tick_later seed m))

delete_is : (seed made s n : ℕ) → 1 ≤ made → made % 2 ≡ 0 → n ≡ deleted made → s ≡ state_at seed (2 * deleted made) → update 1 1 false (row_from s n) ∷ [] ≡ tick seed (suc made)
delete_is seed zero s n some even is at = absurd (omega arith)
delete_is seed (suc m) s n some even is at =
    let odd : m % 2 ≡ 1 = omega arith in
    ap (λ row. update 1 1 false row ∷ []) (row_at seed s n (deleted (suc m)) at is)
    ∙ (ap (λ u. u ∷ []) (sym (later_odd seed m odd)) ∙ sym (tick_later seed m))

pub insert_ticks : (seed made s n s' n' : ℕ) → made % 2 ≡ 1 → IsKept seed made s n s' n' → update 1 1 true (row_from s n) ∷ [] ≡ tick seed (made + 1)
insert_ticks seed made s n s' n' odd kept = insert_is seed made s n odd kept.newest_number_is kept.newest_is ∙ ap (tick seed) (sym (one_more made))

pub delete_ticks : (seed made s n s' n' : ℕ) → 1 ≤ made → made % 2 ≡ 0 → IsKept seed made s n s' n' → update 1 1 false (row_from s' n') ∷ [] ≡ tick seed (made + 1)
delete_ticks seed made s n s' n' some even kept = delete_is seed made s' n' some even kept.oldest_number_is kept.oldest_is ∙ ap (tick seed) (sym (one_more made))

-- ---- the first tick
pub no_d_updates : d_updates 0 ≡ []
unfolding d_updates
no_d_updates = refl

pub next_d_updates : (n line : ℕ) (row : Row) (updates now : List Update) → updates ≡ d_updates n → line ≡ n + 1 → row ≡ d_row n
    → now ≡ updates ++ update line 0 true row ∷ [] → now ≡ d_updates (n + 1)
unfolding d_updates
next_d_updates n line row updates now told at is more =
    more ∙ (ap₂ (λ us u. us ++ u ∷ []) told (ap₂ (λ l r. update l 0 true r) at is) ∙ ap d_updates (sym (one_more n)))

-- the updates of the rows of e before the number n are there, and the generator is at n
pub record IsAt (seed : ℕ) (before updates : List Update) (state number n : ℕ) : Type 0 where
  pub told : updates ≡ before ++ e_updates seed n
  pub state_is : state ≡ state_at seed (2 * n)
  pub number_is : number ≡ n

pub at_start : (seed : ℕ) (before : List Update) (state number : ℕ) → state ≡ state_at seed 0 → number ≡ 0 → IsAt seed before before state number 0
unfolding e_updates
at_start seed before state number at is = record { told = sym (append-nil before); state_is = at; number_is = is }

more_e_updates : (seed n : ℕ) → e_updates seed n ++ update (n + 1011) 1 true (e_row seed n) ∷ [] ≡ e_updates seed (suc n)
unfolding e_updates
more_e_updates seed n = refl

pub at_next : (seed : ℕ) (before updates now : List Update) (state number n line t k : ℕ) (row : Row) → IsAt seed before updates state number n → line ≡ n + 1011 → row ≡ row_from state number
    → now ≡ updates ++ update line 1 true row ∷ [] → t ≡ next (next state) → k ≡ number + 1 → IsAt seed before now t k (n + 1)
at_next seed before updates now state number n line t k row at line_is row_is more state_goes number_goes = record {
  told = told_next;
  state_is = state_goes ∙ advanced seed state n (n + 1) at.state_is refl;
  number_is = number_goes ∙ ap (λ k. k + 1) at.number_is;
}
  where
    told_next : now ≡ before ++ e_updates seed (n + 1)
    told_next =
        more
        ∙ (ap₂ (λ us u. us ++ u ∷ []) at.told (ap₂ (λ l r. update l 1 true r) line_is (row_is ∙ row_at seed state number n at.state_is at.number_is))
        ∙ (append_assoc before (e_updates seed n) (update (n + 1011) 1 true (e_row seed n) ∷ [])
        ∙ ap (λ us. before ++ us) (more_e_updates seed n ∙ ap (e_updates seed) (sym (one_more n)))))

pub tick_first : (x : ℕ) → tick x 1 ≡ d_updates 1010 ++ e_updates x 100000
unfolding tick
tick_first x = refl

pub first_is : (x : ℕ) (d now : List Update) → d ≡ d_updates 1010 → now ≡ d ++ e_updates x 100000 → now ≡ tick x 1
first_is x d now is more = more ∙ (ap (λ us. us ++ e_updates x 100000) is ∙ sym (tick_first x))
