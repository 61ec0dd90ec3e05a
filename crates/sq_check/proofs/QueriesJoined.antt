-- Set operations, an operand after the other.
use Rattle.std.proofs.Common.{◌≡◌, ℕ, zero, suc, ◌≤◌, ◌==◌, List, [], ◌∷◌, ◌++◌, map, fold, length, take, Bool, true, false, not, ◌||◌, refl, sym, ap, ◌∙◌, arith}
use Rattle.std.specs.Prelude.{Some}
use Rattle.std.specs.List.{list_any}
use Rattle.std.proofs.lemmas.Bool.Decides.{Decides-eqb}
use Rattle.std.proofs.lemmas.List.{map-append}
use Rattle.std.proofs.lemmas.List.Folds.{list_any-append}
use Rattle.std.proofs.lemmas.List.Sums.{fold-append}
use Rattle.sq_catalog.specs.declared.relation.Column.{Column}
use Rattle.sq_expr.specs.Typing.{are_alike, sort_of_kind}
use Rattle.sq_expr.specs.declared.expr.Kind.{Kind}
use Rattle.sq_expr.specs.declared.expr.Kind.TheVariants.{Integer, Bigint, Text}
use Rattle.sq_typed.specs.Faults.{differ_in_count, differ_in_sort, mixes_sorts}
use Rattle.sq_typed.specs.Resolved.{Parts, Resolved, wider, widened, operation_columns, leftmost_of}
use Rattle.sq_typed.specs.declared.check_kind.CheckKind.{CheckKind}
use Rattle.sq_typed.specs.declared.check_kind.CheckKind.TheVariants.{DuplicateName, UnknownRelation, UnnamedColumn, DuplicateColumn, UnknownColumn, AmbiguousColumn, NestedAggregate, NotGrouped, ColumnCount, TypeMismatch, TooWide, Limit}
use Rattle.sq_check.specs.declared.findings.Findings.{Findings}
use Rattle.sq_check.specs.declared.resolve.Shape.{Shape}
use Rattle.sq_check.specs.declared.resolve.Wanted.{Wanted}
use Rattle.sq_check.specs.declared.resolve.Wanted.TheVariants.{Distinct, Front}
use Rattle.sq_check.specs.QueriesFound.{noted, stands, has_same_columns, given, IsWhole, repeats_among, Gives, operation_parts, GivesAll, with_operand}
use Rattle.sq_check.proofs.QueriesAdded.{or_assoc, or_comm, or_false, or_left, or_right, mixes, stands_together, mixes_together, heads_together}

-- ---- columns of a set operation

pub as_many : (cs ds : List Column) → length (widened cs ds) ≡ length cs
as_many [] ds = refl
as_many (c ∷ cs) [] = refl
as_many (c ∷ cs) (d ∷ ds) = ap suc (as_many cs ds)

all_as_many : (css : List (List Column)) (cs : List Column) → length (fold widened cs css) ≡ length cs
all_as_many [] cs = refl
all_as_many (ds ∷ css) cs = all_as_many css (widened cs ds) ∙ as_many cs ds

-- what stands behind the columns of the first has no effect
pub front_alone : (cs ds : List Column) → widened cs (take (length cs) ds) ≡ widened cs ds
front_alone [] ds = refl
front_alone (c ∷ cs) [] = refl
front_alone (c ∷ cs) (d ∷ ds) = ap (λ es. record { name = c.name; kind = wider c.kind d.kind; nullable = c.nullable } ∷ es) (front_alone cs ds)

take_widened : (n : ℕ) (cs ds : List Column) → widened (take n cs) ds ≡ take n (widened cs ds)
take_widened zero cs ds = refl
take_widened (suc n) [] ds = refl
take_widened (suc n) (c ∷ cs) [] = refl
take_widened (suc n) (c ∷ cs) (d ∷ ds) = ap (λ es. record { name = c.name; kind = wider c.kind d.kind; nullable = c.nullable } ∷ es) (take_widened n cs ds)

given_widened : (wanted : Wanted) (cs ds : List Column) → widened (given wanted cs) ds ≡ given wanted (widened cs ds)
given_widened Distinct cs ds = refl
given_widened (Front n) cs ds = take_widened n cs ds

take_all : (n : ℕ) (cs : List Column) → length cs ≤ n → take n cs ≡ cs
take_all zero [] h = refl
take_all (suc n) [] h = refl
take_all zero (c ∷ cs) h = absurd (omega (arith, h))
take_all (suc n) (c ∷ cs) h = ap (λ es. c ∷ es) (take_all n cs (omega (arith, h)))

pub given_whole : (wanted : Wanted) (cs : List Column) → IsWhole wanted cs → given wanted cs ≡ cs
given_whole Distinct cs h = refl
given_whole (Front n) cs h = take_all n cs h

whole_alike : (wanted : Wanted) (cs ds : List Column) → length cs ≡ length ds → IsWhole wanted cs → IsWhole wanted ds
whole_alike Distinct cs ds e h = h
whole_alike (Front n) cs ds e h = omega (arith, e, h)

-- a wider kind is of the same sort
same_sort : (k l m : Kind) → are_alike (Some (sort_of_kind (wider k l))) (Some (sort_of_kind m)) ≡ are_alike (Some (sort_of_kind k)) (Some (sort_of_kind m))
same_sort Integer Integer m = refl
same_sort Integer Bigint m = refl
same_sort Integer Text m = refl
same_sort Bigint l m = refl
same_sort Text l m = refl

sorts_of_widened : (cs ds es : List Column) → differ_in_sort (widened cs ds) es ≡ differ_in_sort cs es
sorts_of_widened [] ds es = refl
sorts_of_widened (c ∷ cs) [] es = refl
sorts_of_widened (c ∷ cs) (d ∷ ds) [] = refl
sorts_of_widened (c ∷ cs) (d ∷ ds) (e ∷ es) =
    ap (λ b. not b || differ_in_sort (widened cs ds) es) (same_sort c.kind d.kind e.kind)
    ∙ ap (λ b. not (are_alike (Some (sort_of_kind c.kind)) (Some (sort_of_kind e.kind))) || b) (sorts_of_widened cs ds es)

sorts_of_all : (css : List (List Column)) (cs es : List Column) → differ_in_sort (fold widened cs css) es ≡ differ_in_sort cs es
sorts_of_all [] cs es = refl
sorts_of_all (ds ∷ css) cs es = sorts_of_all css (widened cs ds) es ∙ sorts_of_widened cs ds es

-- ---- one more operand

abbrev columns_of : List Resolved → List (List Column)
columns_of ms = map (λ m. m.columns) ms

module _ (first : Resolved) (rest : List Resolved) (r : Resolved) where
  abbrev all_columns : List Column
  all_columns = operation_columns (columns_of (first ∷ rest))

  abbrev more_columns : List Column
  more_columns = operation_columns (columns_of (first ∷ (rest ++ r ∷ [])))

  columns_more : more_columns ≡ widened all_columns r.columns
  columns_more = ap (λ css. fold widened first.columns css) (map-append (λ (m : Resolved). m.columns) rest (r ∷ [])) ∙ fold-append widened first.columns (columns_of rest) (r.columns ∷ [])

  as_long : length more_columns ≡ length all_columns
  as_long = ap length columns_more ∙ as_many all_columns r.columns

  -- the number of an operand's columns is compared with that of the first, and its sorts with those of the first
  abbrev differs : Bool
  differs = not (length r.columns == length first.columns)

  abbrev mixed : Bool
  mixed = differ_in_sort first.columns r.columns

  any_last : {A B : Type 0} (test : B → Bool) (f : A → B) (xs : List A) (x : A) → list_any test (map f (xs ++ x ∷ [])) ≡ (list_any test (map f xs) || test (f x))
  any_last test f xs x =
      ap (list_any test) (map-append f xs (x ∷ []))
      ∙ (list_any-append test (map f xs) (f x ∷ []) ∙ ap (λ b. list_any test (map f xs) || b) (or_false (test (f x))))

  shuffled : (a b c d : Bool) → ((a || b) || (c || d)) ≡ ((a || c) || (d || b))
  shuffled true b c d = refl
  shuffled false b true d = or_comm b true
  shuffled false b false d = or_comm b d

  abbrev own : List Resolved → Parts
  own ms = record { blocks = []; heads = []; relations = []; operations = columns_of ms ∷ [] }

  parts_more : (test : Parts → Bool) → list_any test (map (λ (m : Resolved). m.parts) (first ∷ (rest ++ r ∷ []))) ≡ (list_any test (map (λ (m : Resolved). m.parts) (first ∷ rest)) || test r.parts)
  parts_more test = any_last test (λ (m : Resolved). m.parts) (first ∷ rest) r

  -- what else an operand brings
  abbrev pub brings : CheckKind → Bool
  brings ColumnCount = differs
  brings kind = false

  own_more : (kind : CheckKind) → stands kind (own (first ∷ (rest ++ r ∷ []))) ≡ (stands kind (own (first ∷ rest)) || brings kind)
  own_more DuplicateName = refl
  own_more UnknownRelation = refl
  own_more UnnamedColumn = refl
  own_more DuplicateColumn = refl
  own_more UnknownColumn = refl
  own_more AmbiguousColumn = refl
  own_more NestedAggregate = refl
  own_more NotGrouped = refl
  own_more ColumnCount =
      or_false (differ_in_count (columns_of (first ∷ (rest ++ r ∷ []))))
      ∙ (any_last (λ ds. not (length ds == length first.columns)) (λ (m : Resolved). m.columns) rest r
      ∙ ap (λ b. b || differs) (sym (or_false (differ_in_count (columns_of (first ∷ rest))))))
  own_more TypeMismatch = refl
  own_more TooWide = refl
  own_more Limit = refl

  kinds_more : (kind : CheckKind) → stands kind (operation_parts (first ∷ (rest ++ r ∷ []))) ≡ ((stands kind (operation_parts (first ∷ rest)) || stands kind r.parts) || brings kind)
  kinds_more kind =
      stands_together kind (own (first ∷ (rest ++ r ∷ [])) ∷ map (λ (m : Resolved). m.parts) (first ∷ (rest ++ r ∷ [])))
      ∙ ((λ i. own_more kind i || parts_more (stands kind) i)
      ∙ (shuffled (stands kind (own (first ∷ rest))) (brings kind) (list_any (stands kind) (map (λ (m : Resolved). m.parts) (first ∷ rest))) (stands kind r.parts)
      ∙ (sym (or_assoc (stands kind (own (first ∷ rest)) || list_any (stands kind) (map (λ (m : Resolved). m.parts) (first ∷ rest))) (stands kind r.parts) (brings kind))
      ∙ ap (λ b. (b || stands kind r.parts) || brings kind) (sym (stands_together kind (own (first ∷ rest) ∷ map (λ (m : Resolved). m.parts) (first ∷ rest)))))))

  mixes_more : mixes (operation_parts (first ∷ (rest ++ r ∷ []))) ≡ ((mixes (operation_parts (first ∷ rest)) || mixes r.parts) || mixed)
  mixes_more =
      mixes_together (own (first ∷ (rest ++ r ∷ [])) ∷ map (λ (m : Resolved). m.parts) (first ∷ (rest ++ r ∷ [])))
      ∙ ((λ i. own_mixes i || parts_more mixes i)
      ∙ (shuffled (mixes (own (first ∷ rest))) mixed (list_any mixes (map (λ (m : Resolved). m.parts) (first ∷ rest))) (mixes r.parts)
      ∙ (sym (or_assoc (mixes (own (first ∷ rest)) || list_any mixes (map (λ (m : Resolved). m.parts) (first ∷ rest))) (mixes r.parts) mixed)
      ∙ ap (λ b. (b || mixes r.parts) || mixed) (sym (mixes_together (own (first ∷ rest) ∷ map (λ (m : Resolved). m.parts) (first ∷ rest)))))))
    where
      own_mixes : mixes (own (first ∷ (rest ++ r ∷ []))) ≡ (mixes (own (first ∷ rest)) || mixed)
      own_mixes =
          or_false (mixes_sorts (columns_of (first ∷ (rest ++ r ∷ []))))
          ∙ (any_last (differ_in_sort first.columns) (λ (m : Resolved). m.columns) rest r
          ∙ ap (λ b. b || mixed) (sym (or_false (mixes_sorts (columns_of (first ∷ rest))))))

  heads_more : list_any has_same_columns (operation_parts (first ∷ (rest ++ r ∷ []))).heads ≡ (list_any has_same_columns (operation_parts (first ∷ rest)).heads || list_any has_same_columns r.parts.heads)
  heads_more =
      heads_together (own (first ∷ (rest ++ r ∷ [])) ∷ map (λ (m : Resolved). m.parts) (first ∷ (rest ++ r ∷ [])))
      ∙ (parts_more (λ p. list_any has_same_columns p.heads)
      ∙ ap (λ b. b || list_any has_same_columns r.parts.heads) (sym (heads_together (own (first ∷ rest) ∷ map (λ (m : Resolved). m.parts) (first ∷ rest)))))

  differ_more : (wanted : Wanted) → repeats_among wanted (leftmost_of (first ∷ (rest ++ r ∷ []))) (operation_parts (first ∷ (rest ++ r ∷ []))) ≡ (repeats_among wanted (leftmost_of (first ∷ rest)) (operation_parts (first ∷ rest)) || list_any has_same_columns r.parts.heads)
  differ_more Distinct = ap (λ b. list_any has_same_columns first.leftmost || b) heads_more ∙ sym (or_assoc (list_any has_same_columns first.leftmost) (list_any has_same_columns (operation_parts (first ∷ rest)).heads) (list_any has_same_columns r.parts.heads))
  differ_more (Front n) = heads_more

  both_false : (a b : Bool) → a ≡ false → b ≡ false → (a || b) ≡ false
  both_false a b p q = ap (λ x. x || b) p ∙ q

  module _ (wanted : Wanted) (start before mid : Findings) (s other : Shape) (h : GivesAll wanted (first ∷ rest) start before s) (k : Gives (Front (length s.columns)) r before mid other) where
    abbrev pub after : Findings
    after = with_operand mid s other

    same_test : not (other.count == s.count) ≡ differs
    same_test = (λ i. not (k.count i == h.count i)) ∙ ap (λ n. not (length r.columns == n)) (all_as_many (columns_of rest) first.columns)

    noted_after : (kind : CheckKind) → noted kind after ≡ (noted kind mid || brings kind)
    noted_after DuplicateName = refl
    noted_after UnknownRelation = refl
    noted_after UnnamedColumn = refl
    noted_after DuplicateColumn = refl
    noted_after UnknownColumn = sym (or_false mid.unknown_column)
    noted_after AmbiguousColumn = sym (or_false mid.ambiguous_column)
    noted_after NestedAggregate = sym (or_false mid.nested_aggregate)
    noted_after NotGrouped = sym (or_false mid.not_grouped)
    noted_after ColumnCount = ap (λ b. mid.column_count || b) same_test
    noted_after TypeMismatch = sym (or_false mid.type_mismatch)
    noted_after TooWide = sym (or_false mid.too_wide)
    noted_after Limit = sym (or_false mid.limit)

    all_kinds : (kind : CheckKind) → noted kind after ≡ (noted kind start || stands kind (operation_parts (first ∷ (rest ++ r ∷ []))))
    all_kinds kind =
        noted_after kind
        ∙ (ap (λ b. b || brings kind) (k.added.kinds kind ∙ ap (λ b. b || stands kind r.parts) (h.added.kinds kind))
        ∙ (nested (noted kind start) (stands kind (operation_parts (first ∷ rest))) (stands kind r.parts) (brings kind)
        ∙ ap (λ b. noted kind start || b) (sym (kinds_more kind))))
      where
        nested : (a b c d : Bool) → (((a || b) || c) || d) ≡ (a || ((b || c) || d))
        nested true b c d = refl
        nested false b c d = refl

    counts_equal : after.column_count ≡ false → length r.columns ≡ length all_columns
    counts_equal same = sym k.count ∙ ((Decides-eqb other.count s.count).0 (not_not (other.count == s.count) (or_right mid.column_count (not (other.count == s.count)) same)) ∙ h.count)
      where
        not_not : (b : Bool) → not b ≡ false → b ≡ true
        not_not true e = refl
        not_not false e = absurd (cc e)

    all_sorts : IsWhole wanted more_columns → after.column_count ≡ false → after.sort_mismatch ≡ (start.sort_mismatch || mixes (operation_parts (first ∷ (rest ++ r ∷ []))))
    all_sorts whole same =
        let earlier : IsWhole wanted all_columns = whole_alike wanted more_columns all_columns as_long whole in
        let mid_same : mid.column_count ≡ false = or_left mid.column_count (not (other.count == s.count)) same in
        let before_same : before.column_count ≡ false = or_left before.column_count (stands ColumnCount r.parts) (sym (k.added.kinds ColumnCount) ∙ mid_same) in
        let own_columns : s.columns ≡ all_columns = h.columns ∙ given_whole wanted all_columns earlier in
        let fits : length r.columns ≤ length s.columns = omega (arith, counts_equal same, ap length own_columns) in
        let their_columns : other.columns ≡ r.columns = k.columns ∙ given_whole (Front (length s.columns)) r.columns fits in
        let own_mixed : differ_in_sort s.columns other.columns ≡ mixed = (λ i. differ_in_sort (own_columns i) (their_columns i)) ∙ sorts_of_all (columns_of rest) first.columns r.columns in
        (λ i. k.added.sorts fits mid_same i || own_mixed i)
        ∙ (ap (λ b. (b || mixes r.parts) || mixed) (h.added.sorts earlier before_same)
        ∙ (nested start.sort_mismatch (mixes (operation_parts (first ∷ rest))) (mixes r.parts) mixed
        ∙ ap (λ b. start.sort_mismatch || b) (sym mixes_more)))
      where
        nested : (a b c d : Bool) → (((a || b) || c) || d) ≡ (a || ((b || c) || d))
        nested true b c d = refl
        nested false b c d = refl

    -- a further operand behind those before it
    pub gives_more : (columns : List Column) → columns ≡ widened s.columns other.columns → GivesAll wanted (first ∷ (rest ++ r ∷ [])) start after (record { columns = columns; count = s.count })
    gives_more columns is = record {
      columns = is
          ∙ (ap (λ ds. widened s.columns ds) k.columns
          ∙ (front_alone s.columns r.columns
          ∙ (ap (λ cs. widened cs r.columns) h.columns
          ∙ (given_widened wanted all_columns r.columns
          ∙ ap (given wanted) (sym columns_more)))));
      count = h.count ∙ sym as_long;
      differ = differ_more wanted ∙ both_false (repeats_among wanted (leftmost_of (first ∷ rest)) (operation_parts (first ∷ rest))) (list_any has_same_columns r.parts.heads) h.differ k.differ;
      added = record { kinds = all_kinds; sorts = all_sorts };
    }
