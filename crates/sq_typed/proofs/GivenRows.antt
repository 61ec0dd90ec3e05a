-- The rows of sources, of FROM and of queries, for any way in which a row may belong to the kinds of columns: it is of these kinds, or of
-- their sorts alone. And values that are numbers, and the least and the greatest of values, whatever holds of each.
use Rattle.std.proofs.Common.{◌≡◌, ℕ, zero, suc, ℤ, pos, List, [], ◌∷◌, ◌++◌, map, fold, length, get_or, Bool, true, false, cond, refl, sym, ap, subst, ◌∙◌, append_assoc, arith}
use Rattle.std.specs.Prelude.{◌+ℤ◌, replicate, slice_get, Option}
use Rattle.std.specs.List.{AllByRecursion, flat_map}
use Rattle.std.specs.Ordering.{is_lt}
use Rattle.std.proofs.lemmas.List.{append-nil, length-append}
use Rattle.sq_value.specs.declared.value.Value.{Value}
use Rattle.sq_value.specs.declared.value.Value.TheVariants.{Null, Int, Text}
use Rattle.sq_value.specs.Order.{value_cmp}
use Rattle.sq_ast.specs.declared.query.SetOp.{SetOp}
use Rattle.sq_expr.specs.declared.cond.Cond.{Cond}
use Rattle.sq_expr.specs.declared.expr.Expr.{Expr}
use Rattle.sq_expr.specs.declared.expr.Kind.{Kind}
use Rattle.sq_expr.specs.declared.typing.Sort.TheVariants.{Numeric}
use Rattle.sq_expr.specs.Extremes.{greatest_or_null, least_or_null}
use Rattle.sq_expr.specs.Meaning.{negative, of_both}
use Rattle.sq_expr.specs.Typing.{IsOfSort}
use Rattle.sq_expr.proofs.Lists.{all_flattened, all_weaker}
use Rattle.sq_typed.specs.declared.query.Block.{out-Block}
use Rattle.sq_typed.specs.declared.query.FromItem.{FromItem}
use Rattle.sq_typed.specs.declared.query.FromJoin.{FromJoin}
use Rattle.sq_typed.specs.declared.query.FromJoin.TheVariants.{Comma, Inner, Left}
use Rattle.sq_typed.specs.declared.query.Grouping.{Grouping}
use Rattle.sq_typed.specs.declared.query.Origin.{Origin}
use Rattle.sq_typed.specs.declared.query.Origin.TheVariants as origin
use Rattle.sq_typed.specs.declared.query.Query.{Query}
use Rattle.sq_typed.specs.declared.query.Query.TheVariants as query
use Rattle.sq_typed.specs.declared.query.SetStep.{SetStep}
use Rattle.sq_typed.specs.Blocks.{block_answer, sum_or_null, without_repeats}
use Rattle.sq_typed.specs.Fit.{Kinded, KindedSource, Pairwise, block_kinded, joined_kinds, kinded, kinded_origin, kinded_source, operation_kinded, relation_kinded}
use Rattle.sq_typed.specs.From.{Row, Answer, Source, all_hold, from, inner, joined_by, kept, matches, or_padded}
use Rattle.sq_typed.specs.Laws.{HasItsWidth, width_of_all}
use Rattle.sq_typed.specs.Queries.{Contents, answer, chain_answer, intersect_answer, member_answer, origin_answer, relation_answer, set_rows, source_of_item}
use Rattle.sq_typed.proofs.AnswerLemmas.{all_first}
use Rattle.sq_typed.proofs.Equations.{answer-Block, answer-Chain, answer-Intersect, member-is, origin-Query, origin-Relation, source-is}
use Rattle.sq_typed.proofs.FitEquations.{kinded-Block, kinded-Chain, kinded-Intersect, kinded-Query, kinded-Relation, kinded_source-is}
use Rattle.sq_typed.proofs.Tests.{all_filter, every}
use Rattle.sq_typed.proofs.Trees.{QueryCases, each_origin, each_query}

-- ---- numbers

-- a number or NULL
abbrev pub IsNumber : Value → Type 0
IsNumber x = IsOfSort Numeric x

number_of_both : (f : ℤ → ℤ → ℤ) (x y : Value) → IsNumber (of_both f x y)
number_of_both f (Int x) (Int y) = tt
number_of_both f (Int x) Null = tt
number_of_both f (Int x) (Text t) = tt
number_of_both f Null y = tt
number_of_both f (Text t) y = tt

pub number_folded : (f : ℤ → ℤ → ℤ) (x : Value) (xs : List Value) → IsNumber x → IsNumber (fold (of_both f) x xs)
number_folded f x [] h = h
number_folded f x (y ∷ ys) h = number_folded f (of_both f x y) ys (number_of_both f x y)

pub number_negative : (x : Value) → IsNumber (negative x)
number_negative Null = tt
number_negative (Int x) = tt
number_negative (Text t) = tt

pub number_sum : (xs : List Value) → IsNumber (sum_or_null xs)
number_sum [] = tt
number_sum (x ∷ xs) = number_folded ◌+ℤ◌ (Int (pos 0)) (x ∷ xs) tt

-- ---- the least and the greatest of some values

module _ (P : Value → Type 0) (of_null : P Null) where
  either_of : (b : Bool) (x y : Value) → P x → P y → P (cond b x y)
  either_of true x y h i = h
  either_of false x y h i = i

  chosen_of : (test : Value → Value → Bool) (a : Value) (xs : List Value) → P a → AllByRecursion P xs → P (fold (λ a b. cond (test a b) b a) a xs)
  chosen_of test a [] h hs = h
  chosen_of test a (x ∷ xs) h hs = chosen_of test (cond (test a x) x a) xs (either_of (test a x) x a hs.0 h) hs.1

  pub least_of : (xs : List Value) → AllByRecursion P xs → P (least_or_null xs)
  least_of [] h = of_null
  least_of (x ∷ xs) h = chosen_of (λ a b. is_lt (value_cmp b a)) x xs h.0 h.1

  pub greatest_of : (xs : List Value) → AllByRecursion P xs → P (greatest_or_null xs)
  greatest_of [] h = of_null
  greatest_of (x ∷ xs) h = chosen_of (λ a b. is_lt (value_cmp a b)) x xs h.0 h.1

-- ---- rows

pub kinds_together : (ks : List KindedSource) → flat_map (λ ks. ks) (map (λ k. k.kinded.kinds) ks) ≡ joined_kinds ks
kinds_together [] = refl
kinds_together (k ∷ ks) = ap (λ rest. k.kinded.kinds ++ rest) (kinds_together ks)

module _ (Of : Row → List Kind → Type 0) where
  abbrev pub AllOf : List Row → List Kind → Type 0
  AllOf rows kinds = AllByRecursion (λ row. Of row kinds) rows

  abbrev pub Gives : Answer → List Kind → Type 0
  Gives a kinds = (a.width ≡ length kinds) × AllOf a.rows kinds

  abbrev pub Holds : Contents → List Kind → Type 0
  Holds c kinds = (c.width ≡ length kinds) × AllOf c.rows kinds

  -- a source, by the kinds of its columns and by what it is made of
  abbrev pub SourceOf : Source → List Kind → Type 0
  SourceOf s kinds = Gives s.answer kinds

  abbrev pub SourceGives : Source → KindedSource → Type 0
  SourceGives s k = Gives s.answer k.kinded.kinds

  pub sources_of : (ss : List Source) (ks : List KindedSource) → Pairwise SourceGives ss ks → Pairwise SourceOf ss (map (λ k. k.kinded.kinds) ks)
  sources_of [] [] p = tt
  sources_of [] (k ∷ ks) p = absurd p
  sources_of (s ∷ ss) [] p = absurd p
  sources_of (s ∷ ss) (k ∷ ks) p = (p.0, sources_of ss ks p.1)

  pub once_of : (distinct : Bool) (kinds : List Kind) (rows : List Row) → AllOf rows kinds → AllOf (without_repeats distinct rows) kinds
  once_of true kinds rows h = all_first (λ row. Of row kinds) rows h
  once_of false kinds rows h = h

  pub relation_gives : (cs : List Contents) (kss : List (List Kind)) → Pairwise Holds cs kss → (n : ℕ) → (relation_kinded (slice_get kss n)).fits ≡ true → Gives (relation_answer (get_or cs n (record { width = 0; rows = [] }))) (relation_kinded (slice_get kss n)).kinds
  relation_gives [] [] p n fits = absurd (cc fits)
  relation_gives [] (ks ∷ kss) p n fits = absurd p
  relation_gives (c ∷ cs) [] p n fits = absurd p
  relation_gives (c ∷ cs) (ks ∷ kss) p zero fits = p.0
  relation_gives (c ∷ cs) (ks ∷ kss) p (suc n) fits = relation_gives cs kss p.1 n fits

  -- ---- widths

  pub all_widths : (ss : List Source) (ks : List KindedSource) → Pairwise SourceGives ss ks → width_of_all ss ≡ length (joined_kinds ks)
  all_widths [] [] p = refl
  all_widths [] (k ∷ ks) p = absurd p
  all_widths (s ∷ ss) [] p = absurd p
  all_widths (s ∷ ss) (k ∷ ks) p = omega (arith, p.0.0, all_widths ss ks p.1, length-append k.kinded.kinds (joined_kinds ks))

  module _ (long : (row : Row) (kinds : List Kind) → Of row kinds → length row ≡ length kinds) where
    pub its_width : (a : Answer) (kinds : List Kind) → Gives a kinds → HasItsWidth a
    its_width a kinds h = all_weaker (λ row. Of row kinds) (λ row. length row ≡ a.width) a.rows (λ row r. long row kinds r ∙ sym h.0) h.1

    pub sources_widths : (ss : List Source) (ks : List KindedSource) → Pairwise SourceGives ss ks → AllByRecursion (λ s. HasItsWidth s.answer) ss
    sources_widths [] [] p = tt
    sources_widths [] (k ∷ ks) p = absurd p
    sources_widths (s ∷ ss) [] p = absurd p
    sources_widths (s ∷ ss) (k ∷ ks) p = (its_width s.answer k.kinded.kinds p.0, sources_widths ss ks p.1)

  -- ---- FROM

  module _ (joined : (row other : Row) (before kinds : List Kind) → Of row before → Of other kinds → Of (row ++ other) (before ++ kinds)) (nulls : (kinds : List Kind) → Of (replicate (length kinds) Null) kinds) where
    module _ (before kinds : List Kind) where
      abbrev Joined : Row → Type 0
      Joined row = Of row (before ++ kinds)

      behind_row : (row : Row) → Of row before → (others : List Row) → AllOf others kinds → AllByRecursion Joined (map (λ other. row ++ other) others)
      behind_row row h [] k = tt
      behind_row row h (other ∷ others) k = (joined row other before kinds h k.0, behind_row row h others k.1)

      matches_of : (conds : List Cond) (row : Row) → Of row before → (others : List Row) → AllOf others kinds → AllByRecursion Joined (matches conds others row)
      matches_of conds row h others k = all_filter Joined (all_hold conds) (map (λ other. row ++ other) others) (behind_row row h others k)

      padded_of : (width : ℕ) (row : Row) → width ≡ length kinds → Of row before → (rows : List Row) → AllByRecursion Joined rows → AllByRecursion Joined (or_padded width row rows)
      padded_of width row w h [] k = (joined row (replicate width Null) before kinds h (subst (λ n. Of (replicate n Null) kinds) (sym w) (nulls kinds)), tt)
      padded_of width row w h (r ∷ rs) k = k

      inner_of : (conds : List Cond) (others rows : List Row) → AllOf rows before → AllOf others kinds → AllByRecursion Joined (inner conds others rows)
      inner_of conds others rows h k = all_flattened Joined (matches conds others) rows (all_weaker (λ row. Of row before) (λ row. AllByRecursion Joined (matches conds others row)) rows (λ row r. matches_of conds row r others k) h)

      pub joined_of : (join : FromJoin) (a : Answer) (rows : List Row) → AllOf rows before → Gives a kinds → AllByRecursion Joined (joined_by [] join a rows)
      joined_of Comma a rows h k = inner_of [] a.rows rows h k.1
      joined_of (Inner on) a rows h k = inner_of (on ∷ []) a.rows rows h k.1
      joined_of (Left on) a rows h k =
          all_flattened Joined (λ row. or_padded a.width row (matches (on ∷ []) a.rows row)) rows
          (all_weaker (λ row. Of row before) (λ row. AllByRecursion Joined (or_padded a.width row (matches (on ∷ []) a.rows row))) rows
          (λ row r. padded_of a.width row k.0 r (matches (on ∷ []) a.rows row) (matches_of (on ∷ []) row r a.rows k.1)) h)

    -- rows joined with some further sources
    further_of : (before : List Kind) (rows : List Row) (ss : List Source) (kss : List (List Kind)) → AllOf rows before → Pairwise SourceOf ss kss →
        AllOf (fold (λ rows s. joined_by [] s.join s.answer rows) rows ss) (before ++ flat_map (λ ks. ks) kss)
    further_of before rows [] [] h p = subst (AllOf rows) (sym (append-nil before)) h
    further_of before rows [] (ks ∷ kss) h p = absurd p
    further_of before rows (s ∷ ss) [] h p = absurd p
    further_of before rows (s ∷ ss) (ks ∷ kss) h p =
        subst (AllOf (fold (λ rows s. joined_by [] s.join s.answer rows) (joined_by [] s.join s.answer rows) ss)) (append_assoc before ks (flat_map (λ ks. ks) kss))
        (further_of (before ++ ks) (joined_by [] s.join s.answer rows) ss kss (joined_of before ks s.join s.answer rows h p.0) p.1)

    pub from_of : (sources : List Source) (kinds : List (List Kind)) → Pairwise SourceOf sources kinds → AllOf (from sources) (flat_map (λ ks. ks) kinds)
    from_of sources kinds p = further_of [] ([] ∷ []) sources kinds (nulls [], tt) p

    pub kept_of : (conds : List Cond) (sources : List Source) (kinds : List (List Kind)) → Pairwise SourceOf sources kinds → AllOf (kept conds sources) (flat_map (λ ks. ks) kinds)
    kept_of conds sources kinds p = all_filter (λ row. Of row (flat_map (λ ks. ks) kinds)) (all_hold conds) (from sources) (from_of sources kinds p)

    pub where_of : (conds : List Cond) (ss : List Source) (ks : List KindedSource) → Pairwise SourceGives ss ks → AllOf (kept conds ss) (joined_kinds ks)
    where_of conds ss ks p = subst (AllOf (kept conds ss)) (kinds_together ks) (kept_of conds ss (map (λ k. k.kinded.kinds) ks) (sources_of ss ks p))

-- ---- queries

pub pairwise_mapped : {A B C : Type 0} (P : B → C → Type 0) (f : A → B) (g : A → C) (xs : List A) → AllByRecursion (λ x. P (f x) (g x)) xs → Pairwise P (map f xs) (map g xs)
pairwise_mapped P f g [] h = tt
pairwise_mapped P f g (x ∷ xs) h = (h.0, pairwise_mapped P f g xs h.1)

-- what is asked of an answer and its kinds
module _ (Good : Answer → Kinded → Type 0) where
  abbrev pub GoodSource : Source → KindedSource → Type 0
  GoodSource s k = Good s.answer k.kinded

  -- it holds of what is made of parts of which it holds
  pub record GoodParts (relations : List Contents) (kss : List (List Kind)) : Type 0 where
    pub block : (distinct : Bool) (ss : List Source) (ks : List KindedSource) (filter : Option Cond) (grouping : Option Grouping) (items : List Expr) → Pairwise GoodSource ss ks → Good (block_answer distinct ss filter grouping items) (block_kinded ks filter grouping items)
    pub chain : (first : Answer) (k : Kinded) (rest : List (SetOp × Answer)) (ms : List Kinded) → Good first k → Pairwise (λ s m. Good s.1 m) rest ms → Good (chain_answer (λ rows s. set_rows s.0 rows s.1.rows) (λ s. s.1) first rest) (operation_kinded (k ∷ ms))
    pub intersect : (answers : List Answer) (ms : List Kinded) → Pairwise Good answers ms → Good (intersect_answer answers) (operation_kinded ms)
    pub relation : (n : ℕ) → Good (relation_answer (get_or relations n (record { width = 0; rows = [] }))) (relation_kinded (slice_get kss n))

  -- what an answer and its kinds are equal to
  good_at : (a b : Answer) (k m : Kinded) → a ≡ b → k ≡ m → Good b m → Good a k
  good_at a b k m ea ek g = subst (λ a. Good a k) (sym ea) (subst (Good b) (sym ek) g)

  module _ (relations : List Contents) (kss : List (List Kind)) (parts : GoodParts relations kss) where
    abbrev OriginGood : Origin → Type 0
    OriginGood o = Good (origin_answer relations o) (kinded_origin kss o)

    abbrev QueryGood : Query → Type 0
    QueryGood q = Good (answer relations q) (kinded kss q)

    good_source : (s : FromItem) → OriginGood s.source → GoodSource (source_of_item relations s) (kinded_source kss s)
    good_source s g = good_at (source_of_item relations s).answer (origin_answer relations s.source) (kinded_source kss s).kinded (kinded_origin kss s.source) (ap (λ s. s.answer) (source-is relations s)) (ap (λ k. k.kinded) (kinded_source-is kss s)) g

    good_member : (s : SetStep) → QueryGood s.query → Good (member_answer relations s).1 (kinded kss s.query)
    good_member s g = subst (λ m. Good m.1 (kinded kss s.query)) (sym (member-is relations s)) g

    good_cases : QueryCases OriginGood QueryGood
    good_cases = record {
      block = λ b gs. good_at (answer relations (query.Block b)) (block_answer (out-Block b).distinct (map (source_of_item relations) (out-Block b).sources) (out-Block b).filter (out-Block b).grouping (out-Block b).items)
          (kinded kss (query.Block b)) (block_kinded (map (kinded_source kss) (out-Block b).sources) (out-Block b).filter (out-Block b).grouping (out-Block b).items) (answer-Block relations b) (kinded-Block kss b)
          (parts.block (out-Block b).distinct (map (source_of_item relations) (out-Block b).sources) (map (kinded_source kss) (out-Block b).sources) (out-Block b).filter (out-Block b).grouping (out-Block b).items
          (pairwise_mapped GoodSource (source_of_item relations) (kinded_source kss) (out-Block b).sources
          (all_weaker (λ s. OriginGood s.source) (λ s. GoodSource (source_of_item relations s) (kinded_source kss s)) (out-Block b).sources good_source gs)));
      chain = λ q rest g gs. good_at (answer relations (query.Chain q rest)) (chain_answer (λ rows s. set_rows s.0 rows s.1.rows) (λ s. s.1) (answer relations q) (map (member_answer relations) rest))
          (kinded kss (query.Chain q rest)) (operation_kinded (kinded kss q ∷ map (λ s. kinded kss s.query) rest)) (answer-Chain relations q rest) (kinded-Chain kss q rest)
          (parts.chain (answer relations q) (kinded kss q) (map (member_answer relations) rest) (map (λ s. kinded kss s.query) rest) g
          (pairwise_mapped (λ s m. Good s.1 m) (member_answer relations) (λ s. kinded kss s.query) rest
          (all_weaker (λ s. QueryGood s.query) (λ s. Good (member_answer relations s).1 (kinded kss s.query)) rest good_member gs)));
      intersect = λ qs gs. good_at (answer relations (query.Intersect qs)) (intersect_answer (map (answer relations) qs)) (kinded kss (query.Intersect qs)) (operation_kinded (map (kinded kss) qs))
          (answer-Intersect relations qs) (kinded-Intersect kss qs) (parts.intersect (map (answer relations) qs) (map (kinded kss) qs) (pairwise_mapped Good (answer relations) (kinded kss) qs gs));
      relation = λ n. good_at (origin_answer relations (origin.Relation n)) (relation_answer (get_or relations n (record { width = 0; rows = [] }))) (kinded_origin kss (origin.Relation n)) (relation_kinded (slice_get kss n))
          (origin-Relation relations n) (kinded-Relation kss n) (parts.relation n);
      of_query = λ q g. good_at (origin_answer relations (origin.Query q)) (answer relations q) (kinded_origin kss (origin.Query q)) (kinded kss q) (origin-Query relations q) (kinded-Query kss q) g;
    }

    pub origin_good : (o : Origin) → OriginGood o
    origin_good o = each_origin OriginGood QueryGood good_cases o

    pub query_good : (q : Query) → QueryGood q
    query_good q = each_query OriginGood QueryGood good_cases q

    pub sources_good : (xs : List FromItem) → Pairwise GoodSource (map (source_of_item relations) xs) (map (kinded_source kss) xs)
    sources_good xs = pairwise_mapped GoodSource (source_of_item relations) (kinded_source kss) xs (every (λ s. GoodSource (source_of_item relations s) (kinded_source kss s)) xs (λ s. good_source s (origin_good s.source)))
