-- What is noted of the blocks and set operations of a query while it is gone through.
--     Adds before after p        what was noted before, and what stands in p.       Gives wanted r s        s is so much of what r gives
use Rattle.std.specs.Prelude.{◌≡◌, ◌≢◌, ◌≤◌, ◌==◌, ⊤, Bool, true, false, not, ◌||◌, List, [], ◌∷◌, ◌++◌, length, map, take, Option, Some, None}
use Rattle.std.specs.List.{list_any}
use Rattle.sq_catalog.specs.declared.relation.Column.{Column}
use Rattle.sq_expr.specs.Typing.{are_alike, sort_of_kind}
use Rattle.sq_expr.specs.declared.expr.Kind.{Kind}
use Rattle.sq_typed.specs.Faults.{names, has_unknown_column, has_ambiguous_column, has_nested_aggregate, has_bare_column, has_mixed_types, has_wide_expr, has_long_list, differ_in_count, differ_in_sort, mixes_sorts}
use Rattle.sq_typed.specs.Resolved.{Joined, Parts, Resolved, Source, leftmost_of, operation_columns, scope_of, together, wider}
use Rattle.sq_typed.specs.Scopes.{Named, Scope, repeats}
use Rattle.sq_typed.specs.Selected.{Scoped, block_columns}
use Rattle.sq_typed.specs.declared.check_kind.CheckKind.{CheckKind}
use Rattle.sq_typed.specs.declared.check_kind.CheckKind.TheVariants.{UnknownColumn, AmbiguousColumn, NestedAggregate, NotGrouped, ColumnCount, TypeMismatch, TooWide, Limit}
use Rattle.sq_check.specs.declared.findings.Findings.{Findings}
use Rattle.sq_check.specs.declared.resolve.Shape.{Shape}
use Rattle.sq_check.specs.declared.resolve.Stop.{Stop}
use Rattle.sq_check.specs.declared.resolve.Stop.TheVariants.{Repeated}
use Rattle.sq_check.specs.declared.resolve.Wanted.{Wanted}
use Rattle.sq_check.specs.declared.resolve.Wanted.TheVariants.{Distinct, Front}

-- ---- faults of blocks and set operations

-- whether a kind of fault was noted
abbrev pub noted : CheckKind → Findings → Bool
noted UnknownColumn f = f.unknown_column
noted AmbiguousColumn f = f.ambiguous_column
noted NestedAggregate f = f.nested_aggregate
noted NotGrouped f = f.not_grouped
noted ColumnCount f = f.column_count
noted TypeMismatch f = f.type_mismatch
noted TooWide f = f.too_wide
noted Limit f = f.limit
noted kind f = false

-- whether these parts have what a kind of fault is about, apart from set operations of numbers with texts
abbrev pub stands : CheckKind → Parts → Bool
stands UnknownColumn p = list_any has_unknown_column p.blocks
stands AmbiguousColumn p = list_any has_ambiguous_column p.blocks
stands NestedAggregate p = list_any has_nested_aggregate p.blocks
stands NotGrouped p = list_any has_bare_column p.blocks
stands ColumnCount p = list_any differ_in_count p.operations
stands TypeMismatch p = list_any has_mixed_types p.blocks
stands TooWide p = list_any has_wide_expr p.blocks
stands Limit p = list_any has_long_list p.blocks
stands kind p = false

-- a block alone
abbrev pub one_block : Scoped → Parts
one_block b = record { blocks = b ∷ []; heads = []; relations = []; operations = [] }

-- what was noted before, and what stands in these parts. Where a condition is met and no counts differ, this holds of set
-- operations of numbers with texts too
pub record Adds (Met : Type 0) (before after : Findings) (p : Parts) : Type 0 where
  pub kinds : (kind : CheckKind) → noted kind after ≡ (noted kind before || stands kind p)
  pub sorts : Met → after.column_count ≡ false → after.sort_mismatch ≡ (before.sort_mismatch || list_any mixes_sorts p.operations)

-- ---- columns

-- whether two columns of a block have the same name
abbrev pub has_same_columns : Scoped → Bool
has_same_columns b = repeats (names (block_columns b))

-- the columns that are wanted
abbrev pub given : Wanted → List Column → List Column
given Distinct cs = cs
given (Front n) cs = take n cs

-- no column stands behind those that are wanted
abbrev pub IsWhole : Wanted → List Column → Type 0
IsWhole Distinct cs = ⊤
IsWhole (Front n) cs = length cs ≤ n

-- whether two columns have the same name where none may
abbrev pub repeats_among : Wanted → List Scoped → Parts → Bool
repeats_among Distinct leftmost p = list_any has_same_columns leftmost || list_any has_same_columns p.heads
repeats_among (Front n) leftmost p = list_any has_same_columns p.heads

abbrev pub repeats_in : Wanted → Resolved → Bool
repeats_in wanted r = repeats_among wanted r.leftmost r.parts

-- so much of these columns, and their number; and what stands in these parts is noted
pub record GivesOf (wanted : Wanted) (columns_ : List Column) (leftmost : List Scoped) (parts : Parts) (before after : Findings) (s : Shape) : Type 0 where
  pub columns : s.columns ≡ given wanted columns_
  pub count : s.count ≡ length columns_
  pub differ : repeats_among wanted leftmost parts ≡ false
  pub added : Adds (IsWhole wanted columns_) before after parts

abbrev pub Gives : Wanted → Resolved → Findings → Findings → Shape → Type 0
Gives wanted r before after s = GivesOf wanted r.columns r.leftmost r.parts before after s

-- ---- set operations

-- what stands in a set operation with these operands
abbrev pub operation_parts : List Resolved → Parts
operation_parts ms = together (record { blocks = []; heads = []; relations = []; operations = map (λ m. m.columns) ms ∷ [] } ∷ map (λ m. m.parts) ms)

-- what a set operation with these operands gives
abbrev pub GivesAll : Wanted → List Resolved → Findings → Findings → Shape → Type 0
GivesAll wanted ms before after s = GivesOf wanted (operation_columns (map (λ m. m.columns) ms)) (leftmost_of ms) (operation_parts ms) before after s

-- what was noted, and that a further operand differs in the number or in the sorts of its columns
abbrev pub with_operand : Findings → Shape → Shape → Findings
with_operand f before other = record {
  unknown_column = f.unknown_column;
  ambiguous_column = f.ambiguous_column;
  nested_aggregate = f.nested_aggregate;
  not_grouped = f.not_grouped;
  column_count = f.column_count || not (other.count == before.count);
  type_mismatch = f.type_mismatch;
  sort_mismatch = f.sort_mismatch || differ_in_sort before.columns other.columns;
  too_wide = f.too_wide;
  limit = f.limit;
}

-- what the operands so far give, if there is one
abbrev pub SoFar : Wanted → List Resolved → Findings → Findings → Option Shape → Type 0
SoFar wanted ms before after None = (ms ≡ []) × (after ≡ before)
SoFar wanted ms before after (Some s) = (ms ≢ []) × GivesAll wanted ms before after s

-- the next operand, behind those so far
abbrev pub GivesNext : Wanted → Option Shape → Resolved → Findings → Findings → Shape → Type 0
GivesNext wanted found r before after s = (ms : List Resolved) (start : Findings) → SoFar wanted ms start before found → GivesAll wanted (ms ++ r ∷ []) start after s

-- a further operand, behind one or more that give a shape
abbrev pub GivesFurther : Shape → Resolved → Findings → Findings → Shape → Type 0
GivesFurther shape r before after s = (wanted : Wanted) (first : Resolved) (rest : List Resolved) (start : Findings) →
    GivesAll wanted (first ∷ rest) start before shape → GivesAll wanted (first ∷ (rest ++ r ∷ [])) start after s

-- a stop is for a name that repeats only if one does
abbrev pub OnRepeated : Bool → Stop → Type 0
OnRepeated repeats stop = stop ≡ Repeated → repeats ≡ true

-- whether two columns of the next operand have the same name where none may
abbrev pub operand_repeats : Wanted → Option Shape → Resolved → Bool
operand_repeats wanted None r = repeats_in wanted r
operand_repeats wanted (Some s) r = list_any has_same_columns r.parts.heads

-- ---- blocks

abbrev pub block_repeats : Wanted → Scoped → Bool
block_repeats Distinct b = has_same_columns b
block_repeats (Front n) b = false

-- what a block gives
pub record GivesBlock (wanted : Wanted) (b : Scoped) (s : Shape) : Type 0 where
  pub columns : s.columns ≡ given wanted (block_columns b)
  pub count : s.count ≡ length (block_columns b)
  pub differ : block_repeats wanted b ≡ false

abbrev pub source_repeats : Source → Bool
source_repeats s = list_any has_same_columns s.parts.heads

abbrev pub joined_repeats : Joined → Bool
joined_repeats j = source_repeats j.source

-- what a source is for its block, and what stands in it is noted
pub record GivesSource (s : Source) (before after : Findings) (found : Named) : Type 0 where
  pub named : found ≡ s.named
  pub differ : source_repeats s ≡ false
  pub added : Adds ⊤ before after s.parts

pub record GivesScope (sources : List Joined) (before after : Findings) (found : Scope) : Type 0 where
  pub scope : found ≡ scope_of sources
  pub differ : list_any joined_repeats sources ≡ false
  pub added : Adds ⊤ before after (together (map (λ j. j.source.parts) sources))

-- ---- kinds of columns

-- a kind, or the wider one of the two where there is another
abbrev pub wider_by : Kind → Option Column → Kind
wider_by kind None = kind
wider_by kind (Some c) = wider kind c.kind

-- whether there is another kind, and it is of the other sort
abbrev pub is_unlike : Kind → Option Column → Bool
is_unlike kind None = false
is_unlike kind (Some c) = not (are_alike (Some (sort_of_kind kind)) (Some (sort_of_kind c.kind)))
