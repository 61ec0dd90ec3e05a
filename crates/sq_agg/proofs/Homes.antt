-- Entries that are made group by group: no two of them stand at one place, and at each place they give what its own group gives.
use Rattle.std.proofs.Common.{◌≡◌, ℕ, ◌+◌, List, [], ◌∷◌, ◌++◌, Bool, true, false, cond, T, refl, sym, ap, ap₂, ◌∙◌, arith, is_eq, is_lt, Less, Equal, Greater}
use Rattle.std.specs.List.{flat_map}
use Rattle.std.specs.Prelude.{◌&&◌, ℤ, pos, Option}
use Rattle.std.specs.declared.cmp.Ordering.{Ordering}
use mathlib.Core.Logic.{◌⊎◌, inl, inr}
use Rattle.std.specs.Cmp.{tied_itself}
use Rattle.sq_value.specs.Order.{row_cmp}
use Rattle.sq_value.specs.OrderLaws.{row_cmp-antisymmetric, row_cmp-total}
use Rattle.sq_algebra.specs.Groups.{AbelianGroup, IsAbelian, multiple, sum_over}
use Rattle.sq_algebra.specs.Listed.{count, is_ascending, is_below_all}
use Rattle.sq_algebra.proofs.AbelianLemmas.{neutral_right, sum_over_agree, times_of_zero}
use Rattle.sq_algebra.proofs.KeyedLemmas.{sum_at}
use Rattle.sq_algebra.proofs.Lists.{count-cons}
use Rattle.sq_trace.specs.declared.entry.Entry.{Entry}
use Rattle.sq_trace.specs.Keys.{AllInRange, AreDistinct, NoneAt}
use Rattle.sq_trace.specs.Runs.{Place, at, place_of}
use Rattle.sq_trace.proofs.Places.{same_place}
use Rattle.sq_trace.proofs.Sums.{at-append, given_apart}
use Rattle.sq_agg.specs.Kept.{Row}

pub left_true : (a b : Bool) → T (a && b) → T a
left_true true b h = tt
left_true false b h = h

pub right_true : (a b : Bool) → T (a && b) → T b
right_true true b h = h
right_true false b h = absurd h

pub not_same : (r : Ordering) → T (is_lt r) → is_eq r ≡ false
not_same Less h = refl
not_same Equal h = absurd h
not_same Greater h = absurd h

pub tied : (r : Ordering) → is_eq r ≡ true → r ≡ Equal
tied Less e = absurd (cc e)
tied Equal e = refl
tied Greater e = absurd (cc e)

pub no_front : (n : ℕ) → 0 + n ≡ n
no_front n = omega arith

pub not_below : (c : Row) (cs : List Row) → T (is_below_all row_cmp c cs) → count row_cmp c cs ≡ 0
not_below c [] h = refl
not_below c (x ∷ cs) h =
    count-cons row_cmp c x cs ∙ ap (λ b. cond b 1 0 + count row_cmp c cs) (not_same (row_cmp c x) (left_true _ _ h))
    ∙ no_front (count row_cmp c cs) ∙ not_below c cs (right_true (is_lt (row_cmp c x)) (is_below_all row_cmp c cs) h)

no_first : (b : Bool) (n : ℕ) → cond b 1 0 + n ≡ 0 → b ≡ false
no_first true n e = absurd (omega arith)
no_first false n e = refl

no_rest : (b : Bool) (n : ℕ) → cond b 1 0 + n ≡ 0 → n ≡ 0
no_rest true n e = absurd (omega arith)
no_rest false n e = sym (no_front n) ∙ e

pub same_tied : (c x : Row) → c ≡ x → is_eq (row_cmp c x) ≡ true
same_tied c x e = sym (ap (λ y. is_eq (row_cmp c y)) e) ∙ ap is_eq (tied_itself row_cmp-total c)

-- ---- entries that stand apart
module _ {A : Type 0} where
  pub none_at-append : (p : Place) (es fs : List (Entry A)) → NoneAt p es → NoneAt p fs → NoneAt p (es ++ fs)
  none_at-append p [] fs g h = h
  none_at-append p (e ∷ es) fs g h = (g.0, none_at-append p es fs g.1 h)

  abbrev pub AllApart : List (Entry A) → List (Entry A) → Type 0
  AllApart [] fs = Unit {0}
  AllApart (e ∷ es) fs = NoneAt (place_of e) fs × AllApart es fs

  pub distinct-append : (es fs : List (Entry A)) → AreDistinct es → AreDistinct fs → AllApart es fs → AreDistinct (es ++ fs)
  distinct-append [] fs g h apart = h
  distinct-append (e ∷ es) fs g h apart = (none_at-append (place_of e) es fs g.0 apart.0, distinct-append es fs g.1 h apart.1)

  pub within-append : (outside : A → Option ℤ) (es fs : List (Entry A)) → AllInRange outside es → AllInRange outside fs → AllInRange outside (es ++ fs)
  within-append outside [] fs g h = h
  within-append outside (e ∷ es) fs g h = (g.0, within-append outside es fs g.1 h)

  pub within-flat : (outside : A → Option ℤ) (f : Row → List (Entry A)) → ((c : Row) → AllInRange outside (f c)) → (cs : List Row) → AllInRange outside (flat_map f cs)
  within-flat outside f each [] = tt
  within-flat outside f each (c ∷ cs) = within-append outside (f c) (flat_map f cs) (each c) (within-flat outside f each cs)

-- ---- entries whose keys lead to their group
module _ {A : Type 0} (home : Row → Row) where
  abbrev pub AllHome : Row → List (Entry A) → Type 0
  AllHome c [] = Unit {0}
  AllHome c (e ∷ es) = (home e.key ≡ c) × AllHome c es

  pub home-append : (c : Row) (es fs : List (Entry A)) → AllHome c es → AllHome c fs → AllHome c (es ++ fs)
  home-append c [] fs g h = h
  home-append c (e ∷ es) fs g h = (g.0, home-append c es fs g.1 h)

  pub none_away : (c : Row) (p : Place) (es : List (Entry A)) → AllHome c es → (home p.0 ≡ c → ⊥) → NoneAt p es
  none_away c p [] h away = tt
  none_away c p (e ∷ es) h away = (λ same. away (sym (ap (λ (q : Place). home q.0) same) ∙ h.0), none_away c p es h.1 away)

  module _ (f : Row → List (Entry A)) (homes : (c : Row) → AllHome c (f c)) where
    none_at-flat : (p : Place) (cs : List Row) → count row_cmp (home p.0) cs ≡ 0 → NoneAt p (flat_map f cs)
    none_at-flat p [] none = tt
    none_at-flat p (c ∷ cs) none =
        let parts = sym (count-cons row_cmp (home p.0) c cs) ∙ none in
        none_at-append p (f c) (flat_map f cs)
        (none_away c p (f c) (homes c) (λ same. let other = no_first _ _ parts in let here = same_tied (home p.0) c same in absurd (cc (other, here))))
        (none_at-flat p cs (no_rest (is_eq (row_cmp (home p.0) c)) _ parts))

    apart-flat : (c : Row) (es : List (Entry A)) (cs : List Row) → AllHome c es → count row_cmp c cs ≡ 0 → AllApart es (flat_map f cs)
    apart-flat c [] cs h none = tt
    apart-flat c (e ∷ es) cs h none = (none_at-flat (place_of e) cs (ap (λ k. count row_cmp k cs) h.0 ∙ none), apart-flat c es cs h.1 none)

    pub distinct-flat : ((c : Row) → AreDistinct (f c)) → (cs : List Row) → T (is_ascending row_cmp cs) → AreDistinct (flat_map f cs)
    distinct-flat each [] up = tt
    distinct-flat each (c ∷ cs) up =
        distinct-append (f c) (flat_map f cs) (each c) (distinct-flat each cs (right_true (is_below_all row_cmp c cs) (is_ascending row_cmp cs) up))
        (apart-flat c (f c) cs (homes c) (not_below c cs (left_true _ _ up)))

    -- ---- what they give at a place
    module _ (G : AbelianGroup A) (laws : IsAbelian G) where
      pub at_none : (p : Place) (es : List (Entry A)) → NoneAt p es → at G p es ≡ G.zero
      at_none p [] h = refl
      at_none p (e ∷ es) h = ap₂ G.plus (given_apart G laws p e (λ same. h.0 (same_place (place_of e) p same))) (at_none p es h.1) ∙ laws.neutral G.zero

      at-flat : (p : Place) (cs : List Row) → at G p (flat_map f cs) ≡ sum_over G (λ c. at G p (f c)) cs
      at-flat p [] = refl
      at-flat p (c ∷ cs) = at-append G laws p (f c) (flat_map f cs) ∙ ap (G.plus (at G p (f c))) (at-flat p cs)

      one_group : (p : Place) (c : Row) → at G p (f c) ≡ cond (is_eq (row_cmp c (home p.0))) (at G p (f c)) G.zero
      one_group p c =
          elim (is_eq (row_cmp c (home p.0))) as (λ b. is_eq (row_cmp c (home p.0)) ≡ b → at G p (f c) ≡ cond b (at G p (f c)) G.zero) [
            | true ↦ λ e. refl
            | false ↦ λ e. at_none p (f c) (none_away c p (f c) (homes c) (λ same. let here = same_tied c (home p.0) (sym same) in absurd (cc (e, here))))
          ] refl

      pub at_group : (p : Place) (cs : List Row) → at G p (flat_map f cs) ≡ multiple G (count row_cmp (home p.0) cs) (at G p (f (home p.0)))
      at_group p cs =
          at-flat p cs
          ∙ sum_over_agree G (λ c. at G p (f c)) (λ c. cond (is_eq (row_cmp c (home p.0))) (at G p (f c)) G.zero) (one_group p) cs
          ∙ sum_at row_cmp row_cmp-total row_cmp-antisymmetric G laws (λ c. at G p (f c)) (home p.0) cs

      -- a group that stands once in the list, or gives nothing
      pub at_one : (p : Place) (cs : List Row) → (at G p (f (home p.0)) ≡ G.zero) ⊎ (count row_cmp (home p.0) cs ≡ 1) → at G p (flat_map f cs) ≡ at G p (f (home p.0))
      at_one p cs (inl none) =
          at_group p cs ∙ ap (multiple G (count row_cmp (home p.0) cs)) none ∙ times_of_zero G laws (pos (count row_cmp (home p.0) cs)) ∙ sym none
      at_one p cs (inr once) =
          at_group p cs ∙ ap (λ n. multiple G n (at G p (f (home p.0)))) once ∙ neutral_right G laws (at G p (f (home p.0)))
