-- The rows of a query have as many values as it has columns.
use Rattle.std.proofs.Common.{◌≡◌, ℕ, zero, suc, ◌≤◌, List, [], ◌∷◌, map, length, get_or, Bool, true, false, if◌then◌else◌, refl, sym, ap, subst, ◌∙◌, arith}
use Rattle.std.specs.Prelude.{Option, Some, None, is_some, slice_get}
use Rattle.std.specs.List.{AllByRecursion, list_all}
use Rattle.std.proofs.lemmas.List.{length-append}
use Rattle.std.proofs.lemmas.Option.{same_Some}
use Rattle.std.proofs.lemmas.Bool.Decides.{Decides-eqb}
use Rattle.sq_expr.specs.declared.cond.Cond.{Cond}
use Rattle.sq_expr.proofs.Lists.{all_from, all_over, all_weaker}
use Rattle.sq_typed.specs.declared.query.Query.{Query, roll-Query}
use Rattle.sq_typed.specs.declared.query.Query.TheVariants as query
use Rattle.sq_typed.specs.declared.query.Block.{Block, out-Block}
use Rattle.sq_typed.specs.declared.query.FromItem.{FromItem}
use Rattle.sq_typed.specs.declared.query.SetStep.{SetStep}
use Rattle.sq_typed.specs.declared.query.Origin.{Origin, roll-Origin}
use Rattle.sq_typed.specs.declared.query.Origin.TheVariants as origin
use Rattle.sq_typed.specs.declared.query.Origin.TheFolds.{fold-Block, fold-FromItem, fold-SetStep, map-Query, map-Origin, fold-roll-Query, fold-roll-Origin, fold_out-Block, fold_out-FromItem, fold_out-SetStep}
use Rattle.sq_typed.specs.declared.query.Origin.TheOpen.{Query-F, Origin-F}
use Rattle.sq_typed.specs.From.{Row, Answer, matches, or_padded, inner, outer}
use Rattle.sq_typed.specs.Blocks.{block_answer}
use Rattle.sq_typed.specs.Queries.{Contents, relation_answer, chain_answer, set_rows, intersect_answer, answer, origin_answer, source_of_item, member_answer}
use Rattle.sq_typed.specs.Relations.{is_number, agreed, columns_by_query, columns_by_origin, columns_by_block, columns_given, columns_of_origin}
use Rattle.sq_typed.specs.Laws.{AreOfWidth, HasItsWidth}
use Rattle.sq_typed.proofs.Equations.{source-is, member-is, origin-Relation, origin-Query, answer-Block, answer-Chain, answer-Intersect}
use Rattle.sq_typed.proofs.Tests.{and_left, and_right}
use Rattle.sq_typed.proofs.Trees.{QueryCases, each_query, each_origin}
use Rattle.sq_typed.proofs.AnswerLemmas.{block_width, chain_width, intersect_width}

abbrev Number : Type 0
Number = Option ℕ

pub map_alike : {A B : Type 0} (f g : A → B) (xs : List A) → ((x : A) → f x ≡ g x) → map f xs ≡ map g xs
map_alike f g [] is = refl
map_alike f g (x ∷ xs) is = (λ i. is x i ∷ map_alike f g xs is i)

-- ---- the number of columns, part by part

module _ (widths : List ℕ) where
  item_columns : FromItem → Number
  item_columns s = fold-FromItem Number Number Number Number Number (columns_by_origin widths) columns_by_query (columns_by_block widths) (λ s. s.source) (λ s. s.query) s

  step_columns : SetStep → Number
  step_columns s = fold-SetStep Number Number Number Number Number (columns_by_origin widths) columns_by_query (columns_by_block widths) (λ s. s.source) (λ s. s.query) s

  block_columns : Block → Number
  block_columns b = fold-Block Number Number Number Number Number (columns_by_origin widths) columns_by_query (columns_by_block widths) (λ s. s.source) (λ s. s.query) b

  columns_roll : (x : Query-F Origin Query Block FromItem SetStep) →
      columns_given widths (roll-Query x) ≡ columns_by_query (map-Query Origin Query Block FromItem SetStep Number Number Number Number Number (columns_of_origin widths) (columns_given widths) block_columns item_columns step_columns x)
  unfolding columns_given columns_of_origin block_columns item_columns step_columns
  columns_roll x = fold-roll-Query Number Number Number Number Number (columns_by_origin widths) columns_by_query (columns_by_block widths) (λ s. s.source) (λ s. s.query) x

  origin_columns_roll : (x : Origin-F Origin Query Block FromItem SetStep) →
      columns_of_origin widths (roll-Origin x) ≡ columns_by_origin widths (map-Origin Origin Query Block FromItem SetStep Number Number Number Number Number (columns_of_origin widths) (columns_given widths) block_columns item_columns step_columns x)
  unfolding columns_given columns_of_origin block_columns item_columns step_columns
  origin_columns_roll x = fold-roll-Origin Number Number Number Number Number (columns_by_origin widths) columns_by_query (columns_by_block widths) (λ s. s.source) (λ s. s.query) x

  item_columns-is : (s : FromItem) → item_columns s ≡ columns_of_origin widths s.source
  unfolding columns_of_origin item_columns
  item_columns-is s = fold_out-FromItem Number Number Number Number Number (columns_by_origin widths) columns_by_query (columns_by_block widths) (λ s. s.source) (λ s. s.query) s

  step_columns-is : (s : SetStep) → step_columns s ≡ columns_given widths s.query
  unfolding columns_given step_columns
  step_columns-is s = fold_out-SetStep Number Number Number Number Number (columns_by_origin widths) columns_by_query (columns_by_block widths) (λ s. s.source) (λ s. s.query) s

  block_columns-is : (b : Block) → block_columns b ≡ (if list_all is_some (map item_columns (out-Block b).sources) then Some (length (out-Block b).items) else None)
  unfolding block_columns item_columns
  block_columns-is b = fold_out-Block Number Number Number Number Number (columns_by_origin widths) columns_by_query (columns_by_block widths) (λ s. s.source) (λ s. s.query) b

  pub columns-Relation : (n : ℕ) → columns_of_origin widths (origin.Relation n) ≡ slice_get widths n
  columns-Relation n = ap (columns_of_origin widths) (sym (origin.rolls-Relation n)) ∙ origin_columns_roll (Origin-F.Relation n)

  pub columns-Query : (q : Query) → columns_of_origin widths (origin.Query q) ≡ columns_given widths q
  columns-Query q = ap (columns_of_origin widths) (sym (origin.rolls-Query q)) ∙ origin_columns_roll (Origin-F.Query q)

  pub columns-Block : (b : Block) → columns_given widths (query.Block b) ≡ (if list_all is_some (map (λ s. columns_of_origin widths s.source) (out-Block b).sources) then Some (length (out-Block b).items) else None)
  columns-Block b =
      ap (columns_given widths) (sym (query.rolls-Block b)) ∙ columns_roll (Query-F.Block b) ∙ block_columns-is b
      ∙ ap (λ ws. if list_all is_some ws then Some (length (out-Block b).items) else None) (map_alike item_columns (λ s. columns_of_origin widths s.source) (out-Block b).sources item_columns-is)

  pub columns-Chain : (q : Query) (rest : List SetStep) → columns_given widths (query.Chain q rest) ≡ agreed (columns_given widths q) (map (λ s. columns_given widths s.query) rest)
  columns-Chain q rest =
      ap (columns_given widths) (sym (query.rolls-Chain q rest)) ∙ columns_roll (Query-F.Chain q rest)
      ∙ ap (agreed (columns_given widths q)) (map_alike step_columns (λ s. columns_given widths s.query) rest step_columns-is)

  pub columns-Intersect : (qs : List Query) → columns_given widths (query.Intersect qs) ≡ columns_by_query (Query-F.Intersect (map (columns_given widths) qs))
  columns-Intersect qs = ap (columns_given widths) (sym (query.rolls-Intersect qs)) ∙ columns_roll (Query-F.Intersect qs)

-- ---- numbers that agree

chosen : (b : Bool) (n w : ℕ) → ◌≡◌ {A = Option ℕ} (if b then Some n else None) (Some w) → (b ≡ true) × (n ≡ w)
chosen true n w e = (refl, same_Some n w e)
chosen false n w e = absurd (cc)

number_is : (w : ℕ) (x : Number) → is_number w x ≡ true → x ≡ Some w
number_is w None e = absurd (cc)
number_is w (Some v) e = ap Some (sym ((Decides-eqb w v).0 e))

numbers_are : {A : Type 0} (w : ℕ) (f : A → Number) (xs : List A) → list_all (is_number w) (map f xs) ≡ true → AllByRecursion (λ x. f x ≡ Some w) xs
numbers_are w f [] e = tt
numbers_are w f (x ∷ xs) e = (number_is w (f x) (and_left (is_number w (f x)) (list_all (is_number w) (map f xs)) e), numbers_are w f xs (and_right (is_number w (f x)) (list_all (is_number w) (map f xs)) e))

agreed_are : {A : Type 0} (w : ℕ) (first : Number) (f : A → Number) (xs : List A) → agreed first (map f xs) ≡ Some w → (first ≡ Some w) × AllByRecursion (λ x. f x ≡ Some w) xs
agreed_are w None f xs e = absurd (cc)
agreed_are w (Some v) f xs e =
    let both = chosen (list_all (is_number v) (map f xs)) v w e in
    (ap Some both.1, subst (λ n. AllByRecursion (λ x. f x ≡ Some n) xs) both.1 (numbers_are v f xs both.0))

-- a number that is there
record There (x : Number) : Type 0 where
  number : ℕ
  is : x ≡ Some number

number_there : (x : Number) → is_some x ≡ true → There x
number_there None e = absurd (cc)
number_there (Some w) e = record { number = w; is = refl }

all_there : {A : Type 0} (f : A → Number) (xs : List A) → list_all is_some (map f xs) ≡ true → AllByRecursion (λ x. There (f x)) xs
all_there f [] e = tt
all_there f (x ∷ xs) e = (number_there (f x) (and_left (is_some (f x)) (list_all is_some (map f xs)) e), all_there f xs (and_right (is_some (f x)) (list_all is_some (map f xs)) e))

-- ---- the rows of a query

-- an answer with so many columns, whose rows have so many values
abbrev Wide : ℕ → Answer → Type 0
Wide w a = (a.width ≡ w) × AreOfWidth w a.rows

its_width : (w : ℕ) (a : Answer) → Wide w a → HasItsWidth a
its_width w a h = subst (λ n. AreOfWidth n a.rows) (sym h.0) h.1

wide_from : (w : ℕ) (a : Answer) → a.width ≡ w → HasItsWidth a → Wide w a
wide_from w a is h = (is, subst (λ n. AreOfWidth n a.rows) is h)

module _ (relations : List Contents) (good : AllByRecursion (λ c. AreOfWidth c.width c.rows) relations) where
  abbrev ws : List ℕ
  ws = map (λ c. c.width) relations

  abbrev OriginWide : Origin → Type 0
  OriginWide o = (w : ℕ) → columns_of_origin ws o ≡ Some w → Wide w (origin_answer relations o)

  abbrev QueryWide : Query → Type 0
  QueryWide q = (w : ℕ) → columns_given ws q ≡ Some w → Wide w (answer relations q)

  relation_wide : (cs : List Contents) → AllByRecursion (λ c. AreOfWidth c.width c.rows) cs → (n w : ℕ) → slice_get (map (λ c. c.width) cs) n ≡ Some w → Wide w (relation_answer (get_or cs n (record { width = 0; rows = [] })))
  relation_wide [] h n w e = absurd (cc)
  relation_wide (c ∷ cs) h zero w e = wide_from w (relation_answer c) (same_Some c.width w e) h.0
  relation_wide (c ∷ cs) h (suc n) w e = relation_wide cs h.1 n w e

  block_wide : (b : Block) → QueryWide (query.Block b)
  block_wide b w e =
      let both = chosen (list_all is_some (map (λ s. columns_of_origin ws s.source) (out-Block b).sources)) (length (out-Block b).items) w (sym (columns-Block ws b) ∙ e) in
      subst (Wide w) (sym (answer-Block relations b))
      (wide_from w (block_answer (out-Block b).distinct (map (source_of_item relations) (out-Block b).sources) (out-Block b).filter (out-Block b).grouping (out-Block b).items) both.1
      (block_width (out-Block b).distinct (map (source_of_item relations) (out-Block b).sources) (out-Block b).filter (out-Block b).grouping (out-Block b).items))

  chain_wide : (q : Query) (rest : List SetStep) → QueryWide q → AllByRecursion (λ s. QueryWide s.query) rest → QueryWide (query.Chain q rest)
  chain_wide q rest k ks w e =
      let both = agreed_are w (columns_given ws q) (λ s. columns_given ws s.query) rest (sym (columns-Chain ws q rest) ∙ e) in
      let first : Wide w (answer relations q) = k w both.0 in
      let members : AllByRecursion (λ s. AreOfWidth (answer relations q).width (member_answer relations s).1.rows) rest =
      all_from (λ s. QueryWide s.query) (λ s. columns_given ws s.query ≡ Some w) (λ s. AreOfWidth (answer relations q).width (member_answer relations s).1.rows) rest
      (λ s k e. subst (λ m. AreOfWidth (answer relations q).width m.1.rows) (sym (member-is relations s)) (subst (λ n. AreOfWidth n (answer relations s.query).rows) (sym first.0) (k w e).1)) ks both.1 in
      subst (Wide w) (sym (answer-Chain relations q rest))
      (wide_from w (chain_answer (λ rows s. set_rows s.0 rows s.1.rows) (λ s. s.1) (answer relations q) (map (member_answer relations) rest)) first.0
      (chain_width (answer relations q) (map (member_answer relations) rest) (its_width w (answer relations q) first) (all_over (λ s. AreOfWidth (answer relations q).width s.1.rows) (member_answer relations) rest members)))

  intersect_wide : (qs : List Query) → AllByRecursion QueryWide qs → QueryWide (query.Intersect qs)
  intersect_wide [] ks w e = absurd (cc (sym (columns-Intersect ws []) ∙ e))
  intersect_wide (q ∷ qs) ks w e =
      let both = agreed_are w (columns_given ws q) (columns_given ws) qs (sym (columns-Intersect ws (q ∷ qs)) ∙ e) in
      let first : Wide w (answer relations q) = ks.0 w both.0 in
      subst (Wide w) (sym (answer-Intersect relations (q ∷ qs)))
      (wide_from w (intersect_answer (answer relations q ∷ map (answer relations) qs)) first.0 (intersect_width (answer relations q) (map (answer relations) qs) (its_width w (answer relations q) first)))

  wide_cases : QueryCases OriginWide QueryWide
  wide_cases = record {
    block = λ b ks. block_wide b;
    chain = chain_wide;
    intersect = intersect_wide;
    relation = λ n w e. subst (Wide w) (sym (origin-Relation relations n)) (relation_wide relations good n w (sym (columns-Relation ws n) ∙ e));
    of_query = λ q k w e. subst (Wide w) (sym (origin-Query relations q)) (k w (sym (columns-Query ws q) ∙ e));
  }

  pub query_is_wide : (q : Query) (w : ℕ) → columns_given ws q ≡ Some w → Wide w (answer relations q)
  query_is_wide = each_query OriginWide QueryWide wide_cases

  pub origin_is_wide : (o : Origin) (w : ℕ) → columns_of_origin ws o ≡ Some w → Wide w (origin_answer relations o)
  origin_is_wide = each_origin OriginWide QueryWide wide_cases

  pub sources_have_widths : (b : Block) (w : ℕ) → columns_given ws (query.Block b) ≡ Some w → AllByRecursion (λ s. HasItsWidth s.answer) (map (source_of_item relations) (out-Block b).sources)
  sources_have_widths b w e =
      let both = chosen (list_all is_some (map (λ s. columns_of_origin ws s.source) (out-Block b).sources)) (length (out-Block b).items) w (sym (columns-Block ws b) ∙ e) in
      all_over (λ s. HasItsWidth s.answer) (source_of_item relations) (out-Block b).sources
      (all_weaker (λ s. There (columns_of_origin ws s.source)) (λ s. HasItsWidth (source_of_item relations s).answer) (out-Block b).sources
      (λ s t. subst (λ x. HasItsWidth x.answer) (sym (source-is relations s)) (its_width t.number (origin_answer relations s.source) (origin_is_wide s.source t.number t.is)))
      (all_there (λ s. columns_of_origin ws s.source) (out-Block b).sources both.0))

-- ---- the pairs of a left join

padded_more : (width : ℕ) (row : Row) (rs : List Row) → length rs ≤ length (or_padded width row rs)
padded_more width row [] = omega arith
padded_more width row (r ∷ rs) = omega arith

pub pairs_are_part : (width : ℕ) (conds : List Cond) (others rows : List Row) → length (inner conds others rows) ≤ length (outer width conds others rows)
pairs_are_part width conds others [] = omega arith
pairs_are_part width conds others (row ∷ rows) =
    omega (arith, length-append (matches conds others row) (inner conds others rows), length-append (or_padded width row (matches conds others row)) (outer width conds others rows), padded_more width row (matches conds others row), pairs_are_part width conds others rows)
