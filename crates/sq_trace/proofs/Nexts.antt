-- The next row of a key that is left: in one run, and the nearer of the next ones of two.
use Rattle.std.proofs.Common.{◌≡◌, ℕ, zero, suc, ◌+◌, ◌<◌, ◌≤◌, List, [], ◌∷◌, ◌++◌, take, length, get_or, true, false, if◌then◌else◌, ℤ, Option, Some, None, Less, Equal, Greater, ◌⊎◌, inl, inr, refl, sym, ap, ap₂, subst, ◌∙◌, arith}
use Rattle.std.specs.declared.cmp.Ordering.{Ordering}
use Rattle.std.specs.Ordering.{ordering_then, ordering_reverse, is_lt}
use Rattle.std.specs.Cmp.{tied_itself}
use Rattle.std.proofs.lemmas.Option.{get_or_from_slice_get, slice_get_within}
use Rattle.sq_value.specs.declared.value.Value.{Value}
use Rattle.sq_value.specs.Order.{row_cmp}
use Rattle.sq_value.specs.OrderLaws.{row_cmp-total, row_cmp-antisymmetric}
use Rattle.sq_algebra.specs.Groups.{AbelianGroup, IsAbelian}
use Rattle.sq_trace.specs.declared.entry.Entry.{Entry}
use Rattle.sq_trace.specs.declared.side.Side.{Side}
use Rattle.sq_trace.specs.declared.side.Side.TheVariants.{Least as Low, Greatest as High}
use Rattle.sq_trace.specs.Runs.{place_of, at, content, IsRun}
use Rattle.sq_trace.specs.Ends.{toward, is_before, nearer, is_low, is_left, left_in, left_of, IsCut, beside, NextOf}
use Rattle.sq_trace.proofs.Ranges.{take_next, content_next}
use Rattle.sq_trace.proofs.Cuts.{bool_cases, seen, other_key, left_falls, left_less, none_beside, before_beside, beside_left}

-- ---- rows seen from an end
pub toward-trans : (side : Side) (p q r : List Value) → toward side p q ≡ Less → toward side q r ≡ Less → toward side p r ≡ Less
toward-trans Low p q r a b = row_cmp-total.trans p q r a b
toward-trans High p q r a b = row_cmp-total.trans r q p b a

toward-antisymm : (side : Side) (p q : List Value) → toward side p q ≡ ordering_reverse (toward side q p)
toward-antisymm Low p q = row_cmp-total.antisymm p q
toward-antisymm High p q = row_cmp-total.antisymm q p

pub toward-same : (side : Side) (p q : List Value) → toward side p q ≡ Equal → p ≡ q
toward-same Low p q e = row_cmp-antisymmetric p q e
toward-same High p q e = sym (row_cmp-antisymmetric q p e)

pub lt_less : (o : Ordering) → is_lt o ≡ true → o ≡ Less
lt_less Less e = refl
lt_less Equal e = cc
lt_less Greater e = cc

-- two rows stand in one of three ways
pub three_ways : (side : Side) (p q : List Value) → (is_before side p (Some q) ≡ true) ⊎ ((p ≡ q) ⊎ (is_before side q (Some p) ≡ true))
three_ways side p q = by_order (toward side p q) refl
  where
    by_order : (o : Ordering) → toward side p q ≡ o → (is_before side p (Some q) ≡ true) ⊎ ((p ≡ q) ⊎ (is_before side q (Some p) ≡ true))
    by_order Less e = inl (ap is_lt e)
    by_order Equal e = inr (inl (toward-same side p q e))
    by_order Greater e = inr (inr (ap is_lt (toward-antisymm side q p ∙ ap ordering_reverse e)))

pub before-trans : (side : Side) (p q : List Value) (best : Option (List Value)) → is_before side p (Some q) ≡ true → is_before side q best ≡ true → is_before side p best ≡ true
before-trans side p q None a b = refl
before-trans side p q (Some r) a b = ap is_lt (toward-trans side p q r (lt_less (toward side p q) a) (lt_less (toward side q r) b))

-- what stands before a row that is not behind another stands before that other
before-next : (side : Side) (p q r : List Value) → is_before side p (Some q) ≡ true → is_before side r (Some q) ≡ false → is_before side p (Some r) ≡ true
before-next side p q r a b = elim (three_ways side q r) [
  | inl before ↦ before-trans side p q (Some r) a before
  | inr other ↦ elim other [ inl same ↦ subst (λ x. is_before side p (Some x) ≡ true) same a | inr behind ↦ absurd (cc (b, behind)) ]
]

-- ---- one run
seen_row : (side : Side) (key p q : List Value) → is_before side p (Some q) ≡ true → seen side (key, p) (key, q) ≡ Less
seen_row Low key p q e = ap (λ o. ordering_then o (row_cmp p q)) (tied_itself row_cmp-total key) ∙ lt_less (row_cmp p q) e
seen_row High key p q e = ap (λ o. ordering_then o (row_cmp q p)) (tied_itself row_cmp-total key) ∙ lt_less (row_cmp q p) e

module _ {A : Type 0} (G : AbelianGroup A) (laws : IsAbelian G) (outside : A → Option ℤ) where
  pub next_none : (side : Side) (key : List Value) (last : Option (List Value)) (es : List (Entry A)) (i : ℕ) → IsCut (is_low side key last) es i → beside side es i ≡ None → NextOf G side key last (λ q. at G (key, q) es) (left_in side key es) None
  next_none side key last es i is_cut none q left = none_beside G laws outside side key last es i (key, q) is_cut none left

  pub next_other : (side : Side) (key : List Value) (last : Option (List Value)) (es : List (Entry A)) (i : ℕ) (e : Entry A) → IsRun G outside es → IsCut (is_low side key last) es i → beside side es i ≡ Some e → (e.key ≡ key → ⊥) → NextOf G side key last (λ q. at G (key, q) es) (left_in side key es) None
  next_other side key last es i e run is_cut got other q left =
      before_beside G laws outside side key last es i e (key, q) run is_cut got left (other_key side key last (place_of e) q (beside_left G laws outside side key last es i e is_cut got) other)

  next_index : (side : Side) (key : List Value) (last : Option (List Value)) (es : List (Entry A)) (i : ℕ) (e : Entry A) → beside side es i ≡ Some e → is_left side key last (key, e.row) ≡ true → e.key ≡ key → left_in side key es (Some e.row) < left_in side key es last
  next_index Low key last es i e got left same = left_less Low key last e.row left es i e (slice_get_within es i e got) (sym (get_or_from_slice_get es i e e got)) (ap (λ k. (k, e.row)) same)
  next_index High key last es zero e got left same = cc
  next_index High key last es (suc i) e got left same = left_less High key last e.row left es i e (slice_get_within es i e got) (sym (get_or_from_slice_get es i e e got)) (ap (λ k. (k, e.row)) same)

  pub next_found : (side : Side) (key : List Value) (last : Option (List Value)) (es : List (Entry A)) (i : ℕ) (e : Entry A) → IsRun G outside es → IsCut (is_low side key last) es i → beside side es i ≡ Some e → e.key ≡ key → NextOf G side key last (λ q. at G (key, q) es) (left_in side key es) (Some e.row)
  next_found side key last es i e run is_cut got same =
      let left : is_left side key last (key, e.row) ≡ true = subst (λ k. is_left side key last (k, e.row) ≡ true) same (beside_left G laws outside side key last es i e is_cut got) in
      record {
        there = left;
        none_before = λ q behind before. before_beside G laws outside side key last es i e (key, q) run is_cut got behind (subst (λ k. seen side (key, q) (k, e.row) ≡ Less) (sym same) (seen_row side key q e.row before));
        fewer = next_index side key last es i e got left same;
      }

-- ---- two of them
module _ {A : Type 0} (G : AbelianGroup A) (laws : IsAbelian G) (side : Side) (key : List Value) (last : Option (List Value)) where
  -- no more are left behind a row that is left
  abbrev pub Falls : (Option (List Value) → ℕ) → Type 0
  Falls left = (row : List Value) → is_left side key last (key, row) ≡ true → left (Some row) ≤ left last

  pub next_both : (g h held : List Value → A) (k m left : Option (List Value) → ℕ) (best next : Option (List Value)) → ((q : List Value) → held q ≡ G.plus (g q) (h q)) → ((mark : Option (List Value)) → left mark ≡ k mark + m mark) → Falls k → Falls m → NextOf G side key last g k best → NextOf G side key last h m next
      → NextOf G side key last held left (nearer side best next)
  next_both g h held k m left None None sums counts fall_k fall_m is_best is_next = λ q behind. sums q ∙ ap₂ G.plus (is_best q behind) (is_next q behind) ∙ laws.neutral G.zero
  next_both g h held k m left (Some b) None sums counts fall_k fall_m is_best is_next = record {
    there = is_best.there;
    none_before = λ q behind before. sums q ∙ ap₂ G.plus (is_best.none_before q behind before) (is_next q behind) ∙ laws.neutral G.zero;
    fewer = let now = counts (Some b) in let was = counts last in let less = is_best.fewer in let falls = fall_m b is_best.there in omega arith;
  }
  next_both g h held k m left None (Some r) sums counts fall_k fall_m is_best is_next = record {
    there = is_next.there;
    none_before = λ q behind before. sums q ∙ ap₂ G.plus (is_best q behind) (is_next.none_before q behind before) ∙ laws.neutral G.zero;
    fewer = let now = counts (Some r) in let was = counts last in let less = is_next.fewer in let falls = fall_k r is_next.there in omega arith;
  }
  next_both g h held k m left (Some b) (Some r) sums counts fall_k fall_m is_best is_next = elim (bool_cases (is_before side r (Some b))) [
    | inl before_best ↦ subst (λ c. NextOf G side key last held left (if c then Some r else Some b)) (sym before_best) (record {
      there = is_next.there;
      none_before = λ q behind before. sums q ∙ ap₂ G.plus (is_best.none_before q behind (before-trans side q r (Some b) before before_best)) (is_next.none_before q behind before) ∙ laws.neutral G.zero;
      fewer = let now = counts (Some r) in let was = counts last in let less = is_next.fewer in let falls = fall_k r is_next.there in omega arith;
    })
    | inr not_before ↦ subst (λ c. NextOf G side key last held left (if c then Some r else Some b)) (sym not_before) (record {
      there = is_best.there;
      none_before = λ q behind before. sums q ∙ ap₂ G.plus (is_best.none_before q behind before) (is_next.none_before q behind (before-next side q b r before not_before)) ∙ laws.neutral G.zero;
      fewer = let now = counts (Some b) in let was = counts last in let less = is_best.fewer in let falls = fall_m b is_best.there in omega arith;
    })
  ]

  -- ---- all parts
  left_of-last : (parts : List (List (Entry A))) (es : List (Entry A)) (mark : Option (List Value)) → left_of side key (parts ++ es ∷ []) mark ≡ left_of side key parts mark + left_in side key es mark
  left_of-last [] es mark = omega arith
  left_of-last (fs ∷ parts) es mark = let rest = left_of-last parts es mark in omega arith

  left_of-falls : (parts : List (List (Entry A))) → Falls (left_of side key parts)
  left_of-falls [] row left = omega arith
  left_of-falls (es ∷ parts) row left = let here = left_falls side key last row left es in let rest = left_of-falls parts row left in omega arith

  pub next_goes_on : (parts : List (List (Entry A))) (i : ℕ) (es entries : List (Entry A)) (best next now : Option (List Value)) → i < length parts → es ≡ get_or parts i es → entries ≡ es
      → NextOf G side key last (λ q. content G (key, q) (take i parts)) (left_of side key (take i parts)) best → NextOf G side key last (λ q. at G (key, q) entries) (left_in side key entries) next → now ≡ nearer side best next
      → NextOf G side key last (λ q. content G (key, q) (take (i + 1) parts)) (left_of side key (take (i + 1) parts)) now
  next_goes_on parts i es entries best next now within got same is_best is_next is =
      subst (NextOf G side key last (λ q. content G (key, q) (take (i + 1) parts)) (left_of side key (take (i + 1) parts))) (sym is)
      (next_both (λ q. content G (key, q) (take i parts)) (λ q. at G (key, q) entries) (λ q. content G (key, q) (take (i + 1) parts)) (left_of side key (take i parts)) (left_in side key entries) (left_of side key (take (i + 1) parts)) best next
      (λ q. content_next G laws (key, q) parts i es within got ∙ ap (λ run. G.plus (content G (key, q) (take i parts)) (at G (key, q) run)) (sym same))
      (λ mark. ap (λ some. left_of side key some mark) (take_next parts i es within got) ∙ left_of-last (take i parts) es mark ∙ ap (λ run. left_of side key (take i parts) mark + left_in side key run mark) (sym same))
      (left_of-falls (take i parts)) (λ row left. left_falls side key last row left entries) is_best is_next)
