-- All entries of a trace, and those of one key.
use Rattle.std.proofs.Common.{◌≡◌, ℕ, zero, suc, ◌+◌, ◌<◌, ◌≤◌, List, [], ◌∷◌, take, drop, take-append-drop, length, get_or, ℤ, Option, None, Less, Equal, Greater, refl, sym, ap, ap₂, subst, ◌∙◌, arith}
use Rattle.std.specs.declared.cmp.Ordering.{Ordering}
use Rattle.std.specs.Ordering.{ordering_then, ordering_reverse}
use Rattle.sq_value.specs.declared.value.Value.{Value}
use Rattle.sq_value.specs.Order.{row_cmp}
use Rattle.sq_value.specs.OrderLaws.{row_cmp-total, row_cmp-antisymmetric, cmp-same}
use Rattle.sq_algebra.specs.Groups.{AbelianGroup, IsAbelian}
use Rattle.sq_algebra.proofs.AbelianLemmas.{neutral_right}
use Rattle.sq_trace.specs.declared.entry.Entry.{Entry}
use Rattle.sq_trace.specs.Runs.{Place, place_of, place_cmp, at, AllAbove, IsRun, FrontsInRange}
use Rattle.sq_trace.specs.Looking.{AllOfKey, AreRowsOf, AreAllRows, IsRangeOf}
use Rattle.sq_trace.specs.Inside.{AllBelow, StartsAt, IsBound, IsSum}
use Rattle.sq_trace.proofs.Places.{place_cmp-total, same_place, above_more}
use Rattle.sq_trace.proofs.Sums.{given_same, given_apart, at-append, at_above, at_below}
use Rattle.sq_trace.proofs.Ranges.{content_next}
use Rattle.sq_trace.proofs.Searching.{run-drop}

-- ---- keys
-- a key is another one, or not
key_cases : {P : Type 0} (j k : List Value) → (j ≡ k → P) → ((j ≡ k → ⊥) → P) → P
key_cases {P} j k same other = by_order (row_cmp j k) refl
  where
    apart : (row_cmp j k ≡ Equal → ⊥) → j ≡ k → ⊥
    apart h e = h ((cmp-same row_cmp row_cmp-total row_cmp-antisymmetric j k).1 e)

    by_order : (o : Ordering) → row_cmp j k ≡ o → P
    by_order Less is = other (apart (λ e. cc (is, e)))
    by_order Equal is = same (row_cmp-antisymmetric j k is)
    by_order Greater is = other (apart (λ e. cc (is, e)))

then_less : (a b : Ordering) → ordering_then a b ≡ Less → (b ≡ Less → ⊥) → a ≡ Less
then_less Less b e h = refl
then_less Equal b e h = absurd (h e)
then_less Greater b e h = cc e

never_below : (r : List Value) → row_cmp r [] ≡ Less → ⊥
never_below [] e = cc e
never_below (v ∷ r) e = cc e

less_then : (a b : Ordering) → a ≡ Less → ordering_then a b ≡ Less
less_then Less b e = refl
less_then Equal b e = cc e
less_then Greater b e = cc e

module _ {A : Type 0} where
  below_row : (key row : List Value) (es : List (Entry A)) → AllBelow (key, []) es → AllBelow (key, row) es
  below_row key row [] below = tt
  below_row key row (e ∷ es) below = (less_then (row_cmp e.key key) (row_cmp e.row row) (then_less (row_cmp e.key key) (row_cmp e.row []) below.0 (never_below e.row)), below_row key row es below.1)

  -- no entry stands below a place
  abbrev NoneBelow : Place → List (Entry A) → Type 0
  NoneBelow p [] = Unit {0}
  NoneBelow p (e ∷ es) = (place_cmp (place_of e) p ≡ Less → ⊥) × NoneBelow p es

  none_below : (p q : Place) (es : List (Entry A)) → (place_cmp q p ≡ Less → ⊥) → AllAbove q es → NoneBelow p es
  none_below p q [] high above = tt
  none_below p q (e ∷ es) high above = (λ low. high (place_cmp-total.trans q (place_of e) p above.0 low), none_below p q es high above.1)

  none_below-drop : (p : Place) (es : List (Entry A)) (n : ℕ) → NoneBelow p es → NoneBelow p (drop n es)
  none_below-drop p es zero h = h
  none_below-drop p [] (suc n) h = tt
  none_below-drop p (e ∷ es) (suc n) h = none_below-drop p es n h.1

  -- the first entry, if there is one, has another key
  abbrev pub Leaves : List Value → List (Entry A) → Type 0
  Leaves key [] = Unit {0}
  Leaves key (e ∷ es) = e.key ≡ key → ⊥

  above-take : (p : Place) (es : List (Entry A)) (n : ℕ) → AllAbove p es → AllAbove p (take n es)
  above-take p es zero above = tt
  above-take p [] (suc n) above = tt
  above-take p (e ∷ es) (suc n) above = (above.0, above-take p es n above.1)

  pub keyed_next : (key : List Value) (es : List (Entry A)) (n : ℕ) (e : Entry A) → AllOfKey key (take n es) → n < length es → e ≡ get_or es n e → e.key ≡ key → AllOfKey key (take (n + 1) es)
  keyed_next key es n e keyed low got same = subst (λ m. AllOfKey key (take m es)) (sym (add_suc n)) (go es n keyed low got)
    where
      add_suc : (m : ℕ) → m + 1 ≡ suc m
      add_suc m = omega arith

      go : (fs : List (Entry A)) (m : ℕ) → AllOfKey key (take m fs) → m < length fs → e ≡ get_or fs m e → AllOfKey key (take (suc m) fs)
      go [] m k l h = absurd (omega arith)
      go (f ∷ fs) zero k l h = (ap (λ x. x.key) (sym h) ∙ same, tt)
      go (f ∷ fs) (suc m) k l h = (k.0, go fs m k.1 (omega arith) h)

  pub leaves_at : (key : List Value) (es : List (Entry A)) (n : ℕ) (e : Entry A) → n < length es → e ≡ get_or es n e → (e.key ≡ key → ⊥) → Leaves key (drop n es)
  leaves_at key [] n e low got other = absurd (omega arith)
  leaves_at key (f ∷ es) zero e low got other = λ same. other (ap (λ x. x.key) got ∙ same)
  leaves_at key (f ∷ es) (suc n) e low got other = leaves_at key es n e (omega arith) got other

  pub leaves_none : (key : List Value) (es : List (Entry A)) (n : ℕ) → length es ≤ n → Leaves key (drop n es)
  leaves_none key [] zero low = tt
  leaves_none key [] (suc n) low = tt
  leaves_none key (f ∷ es) zero low = absurd (omega arith)
  leaves_none key (f ∷ es) (suc n) low = leaves_none key es n (omega arith)

module _ {A : Type 0} (G : AbelianGroup A) (laws : IsAbelian G) (outside : A → Option ℤ) where
  run-take : (es : List (Entry A)) (n : ℕ) → IsRun G outside es → IsRun G outside (take n es)
  run-take es zero run = tt
  run-take [] (suc n) run = tt
  run-take (e ∷ es) (suc n) run = (above-take (place_of e) es n run.0, run.1, run-take es n run.2)

  starts_all : (p : Place) (es : List (Entry A)) → IsRun G outside es → StartsAt p es → NoneBelow p es
  starts_all p [] run starts = tt
  starts_all p (e ∷ es) run starts = (starts, none_below p (place_of e) es starts run.0)

  leaves_above : (key row : List Value) (es : List (Entry A)) → IsRun G outside es → NoneBelow (key, []) es → Leaves key es → AllAbove (key, row) es
  leaves_above key row [] run none leaves = tt
  leaves_above key row (e ∷ es) run none leaves = by_order (row_cmp e.key key) refl
    where
      by_order : (o : Ordering) → row_cmp e.key key ≡ o → AllAbove (key, row) (e ∷ es)
      by_order Less is = absurd (none.0 (less_then (row_cmp e.key key) (row_cmp e.row []) is))
      by_order Equal is = absurd (leaves (row_cmp-antisymmetric e.key key is))
      by_order Greater is =
          let low = less_then (row_cmp key e.key) (row_cmp row e.row) (row_cmp-total.antisymm key e.key ∙ ap ordering_reverse is) in
          (low, above_more (key, row) (place_of e) es low run.0)

  pub range_is : (key first : List Value) (es rest range : List (Entry A)) (low count : ℕ) → IsRun G outside es → first ≡ [] → IsBound (key, first) es low → rest ≡ drop low es → range ≡ take count rest → AllOfKey key (take count rest) → Leaves key (drop count rest) → IsRangeOf G outside key es range
  range_is key first es rest range low count run no_first bound rest_is cut keyed leaves =
      let bound_here : IsBound (key, []) es low = subst (λ f. IsBound (key, f) es low) no_first bound in
      let rest_run : IsRun G outside rest = subst (IsRun G outside) (sym rest_is) (run-drop G outside es low run) in
      let starts : StartsAt (key, []) rest = subst (StartsAt (key, [])) (sym rest_is) bound_here.starts in
      let front : (row : List Value) → at G (key, row) es ≡ at G (key, row) rest =
      λ row. ap (at G (key, row)) (sym (take-append-drop low es)) ∙ at-append G laws (key, row) (take low es) (drop low es)
      ∙ ap₂ G.plus (at_below G laws (key, row) (take low es) (below_row key row (take low es) bound_here.below)) (ap (at G (key, row)) (sym rest_is)) ∙ laws.neutral (at G (key, row) rest) in
      let back : (row : List Value) → at G (key, row) rest ≡ at G (key, row) (take count rest) =
      λ row. ap (at G (key, row)) (sym (take-append-drop count rest)) ∙ at-append G laws (key, row) (take count rest) (drop count rest)
      ∙ ap (G.plus (at G (key, row) (take count rest))) (at_above G laws (key, row) (drop count rest) (leaves_above key row (drop count rest) (run-drop G outside rest count rest_run) (none_below-drop (key, []) rest count (starts_all (key, []) rest rest_run starts)) leaves))
      ∙ neutral_right G laws (at G (key, row) (take count rest)) in
      record {
        is_run = subst (IsRun G outside) (sym cut) (run-take rest count rest_run);
        keyed = subst (AllOfKey key) (sym cut) keyed;
        held = λ row. ap (at G (key, row)) cut ∙ sym (front row ∙ back row);
      }

  -- ---- sums of runs
  pub sum_of_left : (rows run : List (Entry A)) → IsRun G outside rows → run ≡ [] → IsSum G outside rows run rows
  sum_of_left rows run is_run none = record { is_run = is_run; sums = λ p. sym (ap (λ es. G.plus (at G p rows) (at G p es)) none ∙ neutral_right G laws (at G p rows)) }

  pub sum_of_right : (rows run copy : List (Entry A)) → IsRun G outside run → rows ≡ [] → copy ≡ run → IsSum G outside rows run copy
  sum_of_right rows run copy is_run none same = record {
    is_run = subst (IsRun G outside) (sym same) is_run;
    sums = λ p. ap (at G p) same ∙ sym (ap (λ es. G.plus (at G p es) (at G p run)) none ∙ laws.neutral (at G p run));
  }

  -- ---- all entries
  pub all_start : (parts : List (List (Entry A))) (rows : List (Entry A)) → rows ≡ [] → AreAllRows G outside (take 0 parts) rows
  all_start parts rows none = record { is_run = subst (IsRun G outside) (sym none) tt; held = λ p. ap (at G p) none }

  pub all_in_range : (parts : List (List (Entry A))) (rows es entries : List (Entry A)) (n : ℕ) → FrontsInRange G outside parts → AreAllRows G outside (take n parts) rows → n < length parts → es ≡ get_or parts n es → entries ≡ es → (p : Place) → outside (G.plus (at G p rows) (at G p entries)) ≡ None
  all_in_range parts rows es entries n fronts so_far low got same p = ap outside (ap₂ G.plus (so_far.held p) (ap (at G p) same) ∙ sym (content_next G laws p parts n es low got)) ∙ fronts (n + 1) p

  pub all_goes_on : (parts : List (List (Entry A))) (rows es entries new : List (Entry A)) (n : ℕ) → AreAllRows G outside (take n parts) rows → n < length parts → es ≡ get_or parts n es → entries ≡ es → IsSum G outside rows entries new → AreAllRows G outside (take (n + 1) parts) new
  all_goes_on parts rows es entries new n so_far low got same sum = record {
    is_run = sum.is_run;
    held = λ p. sum.sums p ∙ ap₂ G.plus (so_far.held p) (ap (at G p) same) ∙ sym (content_next G laws p parts n es low got);
  }

  -- ---- the entries of a key
  keyed_apart : (key k row : List Value) (es : List (Entry A)) → AllOfKey key es → (k ≡ key → ⊥) → at G (k, row) es ≡ G.zero
  keyed_apart key k row [] keyed other = refl
  keyed_apart key k row (e ∷ es) keyed other =
      ap₂ G.plus (given_apart G laws (k, row) e (λ same. other (ap (λ p. p.0) (sym (same_place (place_of e) (k, row) same)) ∙ keyed.0))) (keyed_apart key k row es keyed.1 other) ∙ laws.neutral G.zero

  run_keyed : (key : List Value) (es : List (Entry A)) → IsRun G outside es → ((k row : List Value) → (k ≡ key → ⊥) → at G (k, row) es ≡ G.zero) → AllOfKey key es
  run_keyed key [] run none = tt
  run_keyed key (e ∷ es) run none =
      let here : e.key ≡ key = key_cases e.key key (λ same. same) (λ other. absurd (run.1.nonzero (sym (ap₂ G.plus (given_same G laws e) (at_above G laws (place_of e) es run.0) ∙ neutral_right G laws e.payload) ∙ none e.key e.row other))) in (
        here,
        run_keyed key es run.2 (λ k row other.
            sym (laws.neutral (at G (k, row) es))
            ∙ ap (λ x. G.plus x (at G (k, row) es)) (sym (given_apart G laws (k, row) e (λ same. other (ap (λ p. p.0) (sym (same_place (place_of e) (k, row) same)) ∙ here))))
            ∙ none k row other),
      )

  pub rows_start : (key : List Value) (parts : List (List (Entry A))) (rows : List (Entry A)) → rows ≡ [] → AreRowsOf G outside key (take 0 parts) rows
  rows_start key parts rows none = record { is_run = subst (IsRun G outside) (sym none) tt; keyed = subst (AllOfKey key) (sym none) tt; held = λ row. ap (at G (key, row)) none }

  pub rows_in_range : (key : List Value) (parts : List (List (Entry A))) (rows es entries range : List (Entry A)) (n : ℕ) → FrontsInRange G outside parts → AreRowsOf G outside key (take n parts) rows → n < length parts → es ≡ get_or parts n es → entries ≡ es → IsRangeOf G outside key entries range
      → (p : Place) → outside (G.plus (at G p rows) (at G p range)) ≡ None
  rows_in_range key parts rows es entries range n fronts so_far low got same of_range p = key_cases p.0 key
      (λ here. subst (λ k. outside (G.plus (at G (k, p.1) rows) (at G (k, p.1) range)) ≡ None) (sym here)
      (ap outside (ap₂ G.plus (so_far.held p.1) (of_range.held p.1 ∙ ap (at G (key, p.1)) same) ∙ sym (content_next G laws (key, p.1) parts n es low got)) ∙ fronts (n + 1) (key, p.1)))
      (λ other. ap outside (ap₂ G.plus (keyed_apart key p.0 p.1 rows so_far.keyed other) (keyed_apart key p.0 p.1 range of_range.keyed other) ∙ laws.neutral G.zero) ∙ fronts 0 p)

  pub rows_go_on : (key : List Value) (parts : List (List (Entry A))) (rows es entries range new : List (Entry A)) (n : ℕ) → AreRowsOf G outside key (take n parts) rows → n < length parts → es ≡ get_or parts n es → entries ≡ es → IsRangeOf G outside key entries range → IsSum G outside rows range new
      → AreRowsOf G outside key (take (n + 1) parts) new
  rows_go_on key parts rows es entries range new n so_far low got same of_range sum = record {
    is_run = sum.is_run;
    keyed = run_keyed key new sum.is_run (λ k row other. sum.sums (k, row) ∙ ap₂ G.plus (keyed_apart key k row rows so_far.keyed other) (keyed_apart key k row range of_range.keyed other) ∙ laws.neutral G.zero);
    held = λ row. sum.sums (key, row) ∙ ap₂ G.plus (so_far.held row) (of_range.held row ∙ ap (at G (key, row)) same) ∙ sym (content_next G laws (key, row) parts n es low got);
  }
