-- The calls that stand in leaves, each once.
use Rattle.std.proofs.Common.{◌≡◌, ◌<◌, ℕ, ◌+◌, List, ◌++◌, map, fold, length, get_or, take, ap, sym, ◌∙◌}
use Rattle.std.specs.List.{flat_map, filter_map}
use Rattle.std.proofs.lemmas.Grind.{fold-append}
use Rattle.std.proofs.lemmas.List.Elements.{filter_map-append}
use Rattle.sq_expr.proofs.SameLemmas.{decided}
use Rattle.sq_typed.specs.declared.query.BlockCall.{BlockCall}
use Rattle.sq_typed.specs.Leaves.{Leaf, call_at}
use Rattle.sq_typed.specs.Numbered.{typed_call}
use Rattle.sq_typed.specs.Scopes.{Scope}
use Rattle.sq_scope.specs.TypesGroups.{keep_call, with_calls}
use Rattle.sq_scope.proofs.TypesTrees.{append_empty}
use Rattle.sq_scope.proofs.TypesLists.{none_at, flat_more}
use Rattle.std.proofs.lemmas.List.{map-append}

pub with_calls_append : (scope : Scope) (kept : List BlockCall) (xs ys : List Leaf) → with_calls scope kept (xs ++ ys) ≡ with_calls scope (with_calls scope kept xs) ys
with_calls_append scope kept xs ys =
    ap (λ cs. fold keep_call kept (map (typed_call scope) cs)) (filter_map-append call_at xs ys)
    ∙ (ap (fold keep_call kept) (map-append (typed_call scope) (filter_map call_at xs) (filter_map call_at ys))
    ∙ fold-append keep_call kept (map (typed_call scope) (filter_map call_at xs)) (map (typed_call scope) (filter_map call_at ys)))

-- the calls of one more member, which a loop puts behind those of the members before it
pub with_more : {A : Type 0} (scope : Scope) (f : A → List Leaf) (xs : List A) (i : ℕ) (x : A) (start before after : List BlockCall) → after ≡ with_calls scope before (f x) → before ≡ with_calls scope start (flat_map f (take i xs)) → i < length xs → x ≡ get_or xs i x → after ≡ with_calls scope start (flat_map f (take (i + 1) xs))
with_more scope f xs i x start before after done was below is =
    done ∙ (ap (λ kept. with_calls scope kept (f x)) was
    ∙ (sym (with_calls_append scope start (flat_map f (take i xs)) (f x))
    ∙ ap (with_calls scope start) (ap (λ y. flat_map f (take i xs) ++ f y) is ∙ sym (flat_more f xs i x below))))

pub ruleset keep_forms = (none_at, append_empty)

pub ruleset same_forms = (decided)
