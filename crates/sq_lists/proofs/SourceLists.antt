-- A block over the listings of its sources is the block over what they give.
use Rattle.std.proofs.Common.{◌≡◌, ℕ, suc, length, List, [], ◌∷◌, ◌++◌, filter, fold, map, Bool, true, false, ◌&&◌, ◌||◌, refl, sym, ap, subst, ◌∙◌}
use Rattle.std.specs.Prelude.{Option, Some, None, option_to_list}
use Rattle.std.specs.List.{AllByRecursion, flat_map, list_any}
use Rattle.sq_expr.specs.Fits.{Suits, SuitsCond}
use Rattle.sq_expr.specs.declared.cond.Cond.{Cond}
use Rattle.sq_expr.specs.declared.expr.Expr.{Expr}
use Rattle.sq_expr.specs.declared.expr.Kind.{Kind}
use Rattle.sq_expr.proofs.Lists.{all_weaker}
use Rattle.sq_typed.specs.declared.query.Block.{Block, out-Block}
use Rattle.sq_typed.specs.declared.query.FromItem.{FromItem}
use Rattle.sq_typed.specs.declared.query.FromJoin.{FromJoin}
use Rattle.sq_typed.specs.declared.query.FromJoin.TheVariants.{Comma, Inner, Left}
use Rattle.sq_typed.specs.declared.query.Grouping.{Grouping}
use Rattle.sq_typed.specs.declared.query.Query.TheVariants as query
use Rattle.sq_typed.specs.Blocks.{block_answer, item_rows, selected, tested_calls, without_repeats}
use Rattle.sq_typed.specs.Fit.{Fits, HoldsKinds, Kinded, KindedSource, Pairwise, SourceGivesKinds, clauses_fit, has_some, item_row_kinds, joined_kinds, kinded_origin, kinded_source, on_suits, sources_fit}
use Rattle.sq_typed.specs.From.{Answer, Row, Source, all_hold, joined_by, kept, members_at, members_of, stage, stages, stages_from, widths_of}
use Rattle.sq_typed.specs.Queries.{Contents, answer, has_range_fault, is_crowded, is_outside, origin_answer, source_of_item}
use Rattle.sq_typed.proofs.ColumnLemmas.{map_alike}
use Rattle.sq_typed.proofs.Equations.{answer-Block, source-is}
use Rattle.sq_typed.proofs.FitEquations.{kinded-Block, kinded_source-is}
use Rattle.sq_typed.proofs.FitQueries.{in_range, origin_gives}
use Rattle.sq_typed.proofs.FitTests.{arguments_suit, having_suits, items_suit, sources_suit, suits_cond_is, where_suits}
use Rattle.sq_typed.proofs.Tests.{and_left, and_right}
use Rattle.sq_lists.specs.Answers.{CanAnswer, CanAnswerItems, CanAnswerOrigin, Lists, ListsItems, is_item_out}
use Rattle.sq_lists.specs.BlockFits.{BlockSuits, CallsSuit, GroupingSuits, HasSource, has_own_fault}
use Rattle.sq_lists.specs.Stages.{OnsSuit, is_stage_crowded, on_conds, sources_with}
use Rattle.sq_lists.specs.declared.listing.Listing.{Listing}
use Rattle.sq_lists.proofs.ChainFaults.{swapped}
use Rattle.sq_lists.proofs.Groups.{or_first, or_second}
use Rattle.sq_lists.proofs.Loops.{list_any-append}

-- ---- without places

abbrev bare_source : Source → Source
bare_source s = record { join = s.join; answer = record { width = s.answer.width; rows = s.answer.rows; places = []; tested = [] } }

joined_bare : (more : List Cond) (join : FromJoin) (s : Source) (rows : List Row) → joined_by more join (bare_source s).answer rows ≡ joined_by more join s.answer rows
joined_bare more Comma s rows = refl
joined_bare more (Inner on) s rows = refl
joined_bare more (Left on) s rows = refl

stage_bare : (conds : List Cond) (join : FromJoin) (s : Source) (rows : List Row) → stage conds join (bare_source s).answer rows ≡ stage conds join s.answer rows
stage_bare conds Comma s rows = refl
stage_bare conds (Inner on) s rows = refl
stage_bare conds (Left on) s rows = refl

from_bare : (ss : List Source) (rows : List Row) → fold (λ rows (s : Source). joined_by [] s.join s.answer rows) rows (map bare_source ss) ≡ fold (λ rows (s : Source). joined_by [] s.join s.answer rows) rows ss
from_bare [] rows = refl
from_bare (s ∷ ss) rows = ap (λ rs. fold (λ rows (s : Source). joined_by [] s.join s.answer rows) rs (map bare_source ss)) (joined_bare [] s.join s rows) ∙ from_bare ss (joined_by [] s.join s.answer rows)

widths_bare : (ss : List Source) → widths_of (map bare_source ss) ≡ widths_of ss
widths_bare [] = refl
widths_bare (s ∷ ss) = ap (λ ws. s.answer.width ∷ ws) (widths_bare ss)

stages_from_bare : (widths : List ℕ) (conds : List Cond) (k : ℕ) (before : List Row) (ss : List Source) → stages_from widths conds k before (map bare_source ss) ≡ stages_from widths conds k before ss
stages_from_bare widths conds k before [] = refl
stages_from_bare widths conds k before (s ∷ ss) =
    let here = stage_bare (members_at widths conds k) s.join s before in
    (λ i. here i ∷ stages_from widths conds (suc k) (here i).1 (map bare_source ss))
    ∙ ap (λ rest. stage (members_at widths conds k) s.join s.answer before ∷ rest) (stages_from_bare widths conds (suc k) (stage (members_at widths conds k) s.join s.answer before).1 ss)

stages_bare : (conds : List Cond) (ss : List Source) → stages conds (map bare_source ss) ≡ stages conds ss
stages_bare conds ss = ap (λ ws. stages_from ws conds 1 ([] ∷ []) (map bare_source ss)) (widths_bare ss) ∙ stages_from_bare (widths_of ss) conds 1 ([] ∷ []) ss

kept_bare : (conds : List Cond) (ss : List Source) → kept conds (map bare_source ss) ≡ kept conds ss
kept_bare conds ss = ap (filter (all_hold conds)) (from_bare ss ([] ∷ []))

-- ---- which blocks are out of range

crossed : (a b c d : Bool) → ((a || b) || (c || d)) ≡ ((a || c) || (b || d))
crossed true b c d = refl
crossed false b c d = swapped b c d

arranged : (p s t c i : Bool) → ((p || s) || ((t || c) || i)) ≡ ((p || t) || (s || (c || i)))
arranged true s t c i = refl
arranged false s true c i = swapped s true true
arranged false s false c i = refl

stages_crowded : (xs : List (List Row × List Row)) → list_any is_crowded (map (λ (stage : List Row × List Row). stage.0) xs) ≡ list_any is_stage_crowded xs
stages_crowded [] = refl
stages_crowded (x ∷ xs) = ap (λ b. is_crowded x.0 || b) (stages_crowded xs)

abbrev is_source_out : Source → Bool
is_source_out s = has_range_fault s.answer

sources_fault : (ss : List Source) → (list_any is_crowded (flat_map (λ (s : Source). s.answer.places) ss) || list_any is_outside (flat_map (λ (s : Source). s.answer.tested) ss)) ≡ list_any is_source_out ss
sources_fault [] = refl
sources_fault (s ∷ ss) =
    (λ i. list_any-append is_crowded s.answer.places (flat_map (λ (s : Source). s.answer.places) ss) i || list_any-append is_outside s.answer.tested (flat_map (λ (s : Source). s.answer.tested) ss) i)
    ∙ crossed (list_any is_crowded s.answer.places) (list_any is_crowded (flat_map (λ (s : Source). s.answer.places) ss)) (list_any is_outside s.answer.tested) (list_any is_outside (flat_map (λ (s : Source). s.answer.tested) ss))
    ∙ ap (λ t. is_source_out s || t) (sources_fault ss)

module _ (distinct : Bool) (where_ : Option Cond) (grouping : Option Grouping) (items : List Expr) where
  block_fault : (ss : List Source) → has_range_fault (block_answer distinct ss where_ grouping items) ≡ (list_any is_source_out ss || has_own_fault ss where_ grouping items)
  block_fault ss =
      let places : List (List Row) = flat_map (λ (s : Source). s.answer.places) ss in
      let tested = flat_map (λ (s : Source). s.answer.tested) ss in
      let calls = tested_calls grouping (kept (members_of where_) ss) in
      let values = flat_map (λ row. row) (selected items (item_rows grouping (kept (members_of where_) ss))) in
      let all : List (List Row × List Row) = stages (members_of where_) ss in
      (λ i. list_any-append is_crowded places (map (λ stage. stage.0) all) i || list_any-append is_outside (tested ++ calls) values i)
      ∙ ap (λ t. (list_any is_crowded places || t) || (list_any is_outside (tested ++ calls) || list_any is_outside values)) (stages_crowded all)
      ∙ ap (λ t. (list_any is_crowded places || list_any is_stage_crowded all) || (t || list_any is_outside values)) (list_any-append is_outside tested calls)
      ∙ arranged (list_any is_crowded places) (list_any is_stage_crowded all) (list_any is_outside tested) (list_any is_outside calls) (list_any is_outside values)
      ∙ ap (λ t. t || has_own_fault ss where_ grouping items) (sources_fault ss)

  own_bare : (ss : List Source) → has_own_fault (map bare_source ss) where_ grouping items ≡ has_own_fault ss where_ grouping items
  own_bare ss =
      let rows = kept_bare (members_of where_) ss in
      (λ i. list_any is_stage_crowded (stages_bare (members_of where_) ss i)
      || (list_any is_outside (tested_calls grouping (rows i)) || list_any is_outside (flat_map (λ row. row) (selected items (item_rows grouping (rows i))))))

  rows_bare : (ss : List Source) → (block_answer distinct (map bare_source ss) where_ grouping items).rows ≡ (block_answer distinct ss where_ grouping items).rows
  rows_bare ss = ap (λ rows. without_repeats distinct (selected items (item_rows grouping rows))) (kept_bare (members_of where_) ss)

-- ---- the sources of a block

module _ (relations : List Contents) where
  abbrev item_source : FromItem → Source
  item_source item = record { join = item.join; answer = origin_answer relations item.source }

  sources_are : (items : List FromItem) → map (source_of_item relations) items ≡ map item_source items
  sources_are items = map_alike (source_of_item relations) item_source items (source-is relations)

  listed_are : (ls : List Listing) (items : List FromItem) → ListsItems relations ls items → sources_with items ls ≡ map bare_source (map item_source items)
  listed_are [] [] h = refl
  listed_are [] (item ∷ items) h = absurd h
  listed_are (l ∷ ls) [] h = absurd h
  listed_are (l ∷ ls) (item ∷ items) h = (λ i. record { join = item.join; answer = record { width = h.0.width i; rows = h.0.rows i; places = []; tested = [] } } ∷ listed_are ls items h.1 i)

  pub as_many_items : (ls : List Listing) (items : List FromItem) → ListsItems relations ls items → length items ≡ length ls
  as_many_items [] [] h = refl
  as_many_items [] (item ∷ items) h = absurd h
  as_many_items (l ∷ ls) [] h = absurd h
  as_many_items (l ∷ ls) (item ∷ items) h = ap suc (as_many_items ls items h.1)

  none_out : (ls : List Listing) (items : List FromItem) → ListsItems relations ls items → list_any is_source_out (map item_source items) ≡ false
  none_out [] [] h = refl
  none_out [] (item ∷ items) h = absurd h
  none_out (l ∷ ls) [] h = absurd h
  none_out (l ∷ ls) (item ∷ items) h = ap (λ b. b || list_any is_source_out (map item_source items)) h.0.inside ∙ none_out ls items h.1

  some_out : (items : List FromItem) → list_any is_source_out (map item_source items) ≡ list_any (is_item_out relations) items
  some_out [] = refl
  some_out (item ∷ items) = ap (λ b. is_item_out relations item || b) (some_out items)

  module _ (b : Block) where
    abbrev block_items : List FromItem
    block_items = (out-Block b).sources

    abbrev own : List Source → Bool
    own ss = has_own_fault ss (out-Block b).filter (out-Block b).grouping (out-Block b).items

    abbrev given : List Source → Answer
    given ss = block_answer (out-Block b).distinct ss (out-Block b).filter (out-Block b).grouping (out-Block b).items

    block_is : answer relations (query.Block b) ≡ given (map item_source block_items)
    block_is = answer-Block relations b ∙ ap given (sources_are block_items)

    fault_parts : has_range_fault (answer relations (query.Block b)) ≡ (list_any is_source_out (map item_source block_items) || own (map item_source block_items))
    fault_parts = ap has_range_fault block_is ∙ block_fault (out-Block b).distinct (out-Block b).filter (out-Block b).grouping (out-Block b).items (map item_source block_items)

    pub sources_out : list_any (is_item_out relations) block_items ≡ true → has_range_fault (answer relations (query.Block b)) ≡ true
    sources_out e = fault_parts ∙ or_first (list_any is_source_out (map item_source block_items)) (own (map item_source block_items)) (some_out block_items ∙ e)

    module _ (ls : List Listing) (listed : ListsItems relations ls block_items) where
      own_is : own (sources_with block_items ls) ≡ own (map item_source block_items)
      own_is = ap own (listed_are ls block_items listed) ∙ own_bare (out-Block b).distinct (out-Block b).filter (out-Block b).grouping (out-Block b).items (map item_source block_items)

      pub block_out : own (sources_with block_items ls) ≡ true → has_range_fault (answer relations (query.Block b)) ≡ true
      block_out e = fault_parts ∙ or_second (list_any is_source_out (map item_source block_items)) (own (map item_source block_items)) (sym own_is ∙ e)

      pub block_lists : (l : Listing) → l.width ≡ length (out-Block b).items → l.rows ≡ (given (sources_with block_items ls)).rows → own (sources_with block_items ls) ≡ false → Lists l (answer relations (query.Block b))
      block_lists l w r e = record {
        width = w ∙ sym (ap (λ (a : Answer). a.width) block_is);
        rows = r ∙ ap (λ ss. (given ss).rows) (listed_are ls block_items listed) ∙ rows_bare (out-Block b).distinct (out-Block b).filter (out-Block b).grouping (out-Block b).items (map item_source block_items) ∙ sym (ap (λ (a : Answer). a.rows) block_is);
        inside = fault_parts ∙ ap (λ t. t || own (map item_source block_items)) (none_out ls block_items listed) ∙ (sym own_is ∙ e);
      }

-- ---- what fits

on_one : (kinds : List Kind) (join : FromJoin) → on_suits kinds join ≡ true → AllByRecursion (SuitsCond kinds) (on_conds join)
on_one kinds Comma e = tt
on_one kinds (Inner on) e = ((suits_cond_is kinds on).0 e, tt)
on_one kinds (Left on) e = ((suits_cond_is kinds on).0 e, tt)

module _ (relations : List Contents) (kss : List (List Kind)) (hold : Pairwise HoldsKinds relations kss) where
  abbrev item_kinded : FromItem → KindedSource
  item_kinded item = record { join = item.join; kinded = kinded_origin kss item.source }

  abbrev item_kinds : FromItem → List Kind
  item_kinds item = (kinded_origin kss item.source).kinds

  kinded_are : (items : List FromItem) → map (kinded_source kss) items ≡ map item_kinded items
  kinded_are items = map_alike (kinded_source kss) item_kinded items (kinded_source-is kss)

  kinds_flat : (items : List FromItem) → joined_kinds (map item_kinded items) ≡ flat_map (λ ks. ks) (map item_kinds items)
  kinds_flat [] = refl
  kinds_flat (item ∷ items) = ap (λ ks. item_kinds item ++ ks) (kinds_flat items)

  fits_each : (before : List Kind) (items : List FromItem) → sources_fit before (map item_kinded items) ≡ true → AllByRecursion (λ item. (kinded_origin kss item.source).fits ≡ true) items
  fits_each before [] e = tt
  fits_each before (item ∷ items) e =
      let here = (kinded_origin kss item.source).fits && on_suits (before ++ item_kinds item) item.join in
      let rest = sources_fit (before ++ item_kinds item) (map item_kinded items) in
      (and_left (kinded_origin kss item.source).fits (on_suits (before ++ item_kinds item) item.join) (and_left here rest e), fits_each (before ++ item_kinds item) items (and_right here rest e))

  ons_suit : (before : List Kind) (items : List FromItem) → sources_fit before (map item_kinded items) ≡ true → OnsSuit before (map bare_source (map (item_source relations) items)) (map item_kinds items)
  ons_suit before [] e = tt
  ons_suit before (item ∷ items) e =
      let here = (kinded_origin kss item.source).fits && on_suits (before ++ item_kinds item) item.join in
      let rest = sources_fit (before ++ item_kinds item) (map item_kinded items) in
      (on_one (before ++ item_kinds item) item.join (and_right (kinded_origin kss item.source).fits (on_suits (before ++ item_kinds item) item.join) (and_left here rest e)), ons_suit (before ++ item_kinds item) items (and_right here rest e))

  gives_each : (ls : List Listing) (items : List FromItem) → ListsItems relations ls items → AllByRecursion (λ item. (kinded_origin kss item.source).fits ≡ true) items → Pairwise SourceGivesKinds (map bare_source (map (item_source relations) items)) (map item_kinds items)
  gives_each [] [] h f = tt
  gives_each [] (item ∷ items) h f = absurd h
  gives_each (l ∷ ls) [] h f = absurd h
  gives_each (l ∷ ls) (item ∷ items) h f = (origin_gives relations kss hold item.source f.0 (in_range (origin_answer relations item.source) h.0.inside), gives_each ls items h.1 f.1)

  has_source : (items : List FromItem) → has_some (map item_kinded items) ≡ true → HasSource (map bare_source (map (item_source relations) items))
  has_source [] e = absurd (cc e)
  has_source (item ∷ items) e = tt

  module _ (b : Block) (fits : Fits kss (query.Block b)) where
    abbrev sources : List FromItem
    sources = (out-Block b).sources

    abbrev all_kinds : List Kind
    all_kinds = flat_map (λ ks. ks) (map item_kinds sources)

    kinds_are : joined_kinds (map (kinded_source kss) sources) ≡ all_kinds
    kinds_are = ap joined_kinds (kinded_are sources) ∙ kinds_flat sources

    all_fit : sources_fit [] (map item_kinded sources) ≡ true
    all_fit = subst (λ ss. sources_fit [] ss ≡ true) (kinded_are sources) (sources_suit kss b fits)

    there_are : has_some (map item_kinded sources) ≡ true
    there_are =
        let ks : List KindedSource = map (kinded_source kss) sources in
        subst (λ ss. has_some ss ≡ true) (kinded_are sources)
        (and_left (has_some ks) (sources_fit [] ks) (and_left (has_some ks && sources_fit [] ks) (clauses_fit (joined_kinds ks) (out-Block b).filter (out-Block b).grouping (out-Block b).items) (subst (λ (k : Kinded). k.fits ≡ true) (kinded-Block kss b) fits)))

    grouping_suits : (g : Option Grouping) → (out-Block b).grouping ≡ g → GroupingSuits all_kinds g
    grouping_suits None e = tt
    grouping_suits (Some g) e = subst (λ ks. CallsSuit ks g) kinds_are (record { arguments = arguments_suit kss b fits g e; having = having_suits kss b fits g e })

    suits_bare : (ls : List Listing) → ListsItems relations ls sources → BlockSuits (map bare_source (map (item_source relations) sources)) (out-Block b).filter (out-Block b).grouping (out-Block b).items
    suits_bare ls listed = record {
      kinds = map item_kinds sources;
      some = has_source sources there_are;
      give = gives_each ls sources listed (fits_each [] sources all_fit);
      ons_suit = ons_suit [] sources all_fit;
      where_suits = subst (λ ks. AllByRecursion (SuitsCond ks) (option_to_list (out-Block b).filter)) kinds_are (where_suits kss b fits);
      grouping_suits = grouping_suits (out-Block b).grouping refl;
      items_suit = subst (λ ks. AllByRecursion (Suits (item_row_kinds ks (out-Block b).grouping)) (out-Block b).items) kinds_are (items_suit kss b fits);
    }

-- the sources of a block that can be answered, and the block over their listings
pub items_answer : (relations : List Contents) (b : Block) → CanAnswer relations (query.Block b) → CanAnswerItems relations (out-Block b).sources
items_answer relations b can =
    all_weaker (λ item. (kinded_origin can.kinds item.source).fits ≡ true) (λ item. CanAnswerOrigin relations item.source) (out-Block b).sources
    (λ item e. record { kinds = can.kinds; hold = can.hold; fits = e }) (fits_each relations can.kinds can.hold [] (out-Block b).sources (all_fit relations can.kinds can.hold b can.fits))

pub block_suits : (relations : List Contents) (b : Block) (ls : List Listing) → CanAnswer relations (query.Block b) → ListsItems relations ls (out-Block b).sources → BlockSuits (sources_with (out-Block b).sources ls) (out-Block b).filter (out-Block b).grouping (out-Block b).items
block_suits relations b ls can listed =
    subst (λ ss. BlockSuits ss (out-Block b).filter (out-Block b).grouping (out-Block b).items) (sym (listed_are relations ls (out-Block b).sources listed)) (suits_bare relations can.kinds can.hold b can.fits ls listed)
