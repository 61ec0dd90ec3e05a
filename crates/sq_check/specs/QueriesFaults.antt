-- The kinds of faults in order, told from what was noted.
use Rattle.std.specs.Prelude.{◌||◌, Bool, false, if◌then◌else◌, List, [], ◌∷◌, Option, Some, None}
use Rattle.sq_typed.specs.declared.check_kind.CheckKind.{CheckKind}
use Rattle.sq_typed.specs.declared.check_kind.CheckKind.TheVariants as kind
use Rattle.sq_check.specs.declared.findings.Findings.{Findings}

-- nothing noted yet
abbrev pub no_findings : Findings
no_findings = record {
  unknown_column = false;
  ambiguous_column = false;
  nested_aggregate = false;
  not_grouped = false;
  column_count = false;
  type_mismatch = false;
  sort_mismatch = false;
  too_wide = false;
  limit = false;
}

-- the first kind that was noted, where a statement may stand too late or have too many columns
abbrev pub first_noted : Findings → Bool → Option CheckKind
first_noted f too_many =
    if f.unknown_column then Some kind.UnknownColumn else
    if f.ambiguous_column then Some kind.AmbiguousColumn else
    if f.nested_aggregate then Some kind.NestedAggregate else
    if f.not_grouped then Some kind.NotGrouped else
    if f.column_count then Some kind.ColumnCount else
    if f.type_mismatch || f.sort_mismatch then Some kind.TypeMismatch else
    if f.too_wide then Some kind.TooWide else
    if too_many || f.limit then Some kind.Limit else None

-- the kinds that are told with the columns of sources
abbrev pub later_kinds : List CheckKind
later_kinds = kind.DuplicateColumn ∷ kind.UnknownColumn ∷ kind.AmbiguousColumn ∷ kind.NestedAggregate ∷ kind.NotGrouped ∷ kind.ColumnCount ∷ kind.TypeMismatch ∷ kind.TooWide ∷ kind.Limit ∷ []
