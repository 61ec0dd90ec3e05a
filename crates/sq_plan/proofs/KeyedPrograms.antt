-- The joins of the relations of a program, one more at a time.
use Rattle.std.proofs.Common.{◌≡◌, ℕ, ◌+◌, ◌<◌, List, [], ◌∷◌, ◌++◌, length, map, take, Some, sym, ap, subst, ◌∙◌, add-one, arith}
use mathlib.Core.Logic.{◌⊎◌, inl, inr}
use Rattle.std.specs.Prelude.{slice_get}
use Rattle.std.specs.List.{AllByRecursion}
use Rattle.std.proofs.lemmas.List.{map-append}
use Rattle.std.proofs.lemmas.Option.{slice_get_within}
use Rattle.sq_catalog.specs.declared.relation.Relation.{Relation}
use Rattle.sq_circuit.specs.Circuits.{node_in, owner_at, owner_in}
use Rattle.sq_circuit.specs.declared.circuit.Part.{Part}
use Rattle.sq_circuit.specs.declared.node.Node.TheVariants.{Join}
use Rattle.sq_circuit.proofs.Alongside.{got_front}
use Rattle.sq_circuit.proofs.Appending.{Behind, front_or_behind}
use Rattle.sq_expr.specs.declared.expr.Kind.{Kind}
use Rattle.sq_expr.proofs.Lists.{all_at}
use Rattle.sq_ops.specs.declared.bilinear.Pairing.{Pairing}
use Rattle.sq_typed.specs.Fit as fit
use Rattle.sq_typed.specs.Fit.{Fits}
use Rattle.sq_typed.specs.Views.{Meant}
use Rattle.sq_typed.specs.declared.query.Query.{Query}
use Rattle.sq_plan.specs.Drafts.{IsOwnedBy}
use Rattle.sq_plan.specs.Keyed.{AreKeyed, HasAllKeys, IsJoinAt, IsJoinOf, IsJoinOfView, NewJoins}
use Rattle.sq_plan.specs.declared.draft.Draft.{Draft}
use Rattle.sq_plan.proofs.KeyedSteps.{all_keys_more, some_node}
use Rattle.sq_plan.proofs.Taking.{taken_more}

module _ (p : Meant) (c more : List Part) (keyed : AreKeyed p c) where
  -- a join behind the others, at j
  abbrev pub KeyedBehind : Type 0
  KeyedBehind = (j place left right : ℕ) (op : Pairing) (q : Part) → IsJoinAt (c ++ more) j left right op → j ≡ length c + place → slice_get more place ≡ Some q → q.node ≡ Join left right op →
      IsJoinOfView p q.owner op ⊎ HasAllKeys (c ++ more) right op

  pub keyed_more : KeyedBehind → AreKeyed p (c ++ more)
  keyed_more behind j left right op at =
      let found = some_node (slice_get (c ++ more) j) (Join left right op) at in
      by_place found.0 found.1 found.2 (front_or_behind c more j found.0 found.1)
    where
      stays : j < length c → IsJoinOfView p (owner_at c j) op ⊎ HasAllKeys c right op → IsJoinOfView p (owner_at (c ++ more) j) op ⊎ HasAllKeys (c ++ more) right op
      stays low (inl view) = inl (subst (λ o. IsJoinOfView p o op) (sym (ap owner_in (got_front c more j low))) view)
      stays low (inr all) = inr (all_keys_more c more right op all)

      owned : (q : Part) → slice_get (c ++ more) j ≡ Some q → IsJoinOfView p q.owner op ⊎ HasAllKeys (c ++ more) right op → IsJoinOfView p (owner_at (c ++ more) j) op ⊎ HasAllKeys (c ++ more) right op
      owned q is (inl view) = inl (subst (λ o. IsJoinOfView p o op) (sym (ap owner_in is)) view)
      owned q is (inr all) = inr all

      by_place : (q : Part) → slice_get (c ++ more) j ≡ Some q → q.node ≡ Join left right op → (slice_get c j ≡ Some q) ⊎ Behind (length c) more j q → IsJoinOfView p (owner_at (c ++ more) j) op ⊎ HasAllKeys (c ++ more) right op
      by_place q is node (inl front) = stays (slice_get_within c j q front) (keyed j left right op (ap node_in front ∙ ap Some node))
      by_place q is node (inr b) = owned q is (behind j b.place left right op q at b.is b.at node)

-- the kinds of one more relation
pub kinds_of_more : (relations : List Relation) (i : ℕ) (r : Relation) (kss : List (List Kind)) → slice_get relations i ≡ Some r → kss ≡ map fit.kinds_of (take i relations) → kss ++ fit.kinds_of r ∷ [] ≡ map fit.kinds_of (take (i + 1) relations)
kinds_of_more relations i r kss at is =
    ap (λ ks. ks ++ fit.kinds_of r ∷ []) is
    ∙ sym (map-append fit.kinds_of (take i relations) (r ∷ []))
    ∙ sym (ap (map fit.kinds_of) (ap (λ n. take n relations) (add-one i) ∙ taken_more relations i r at))

-- a view, whose query has nodes now
module _ (p : Meant) (i : ℕ) (d e : Draft) (added : List Part) (kss : List (List Kind)) (q : Query) (keyed : AreKeyed p d.parts.items) (is : e.parts.items ≡ d.parts.items ++ added) (owned : AllByRecursion (IsOwnedBy d.view) added)
    (at : slice_get p.queries d.view ≡ Some q) (kinds : kss ≡ map fit.kinds_of (take i p.catalog)) (fits : Fits kss q) (joins : NewJoins d e (IsJoinOf kss q)) where
  view_of : (op : Pairing) (x : Part) → x.owner ≡ Some d.view → IsJoinOf kss q op → IsJoinOfView p x.owner op
  view_of op x own mine = record {
    view = d.view;
    owned = own;
    query = q;
    at = at;
    before = i;
    fits = subst (λ ks. Fits ks q) kinds fits;
    join = subst (λ ks. IsJoinOf ks q op) kinds mine;
  }

  pub view_keyed : AreKeyed p e.parts.items
  view_keyed = subst (AreKeyed p) (sym is) (keyed_more p d.parts.items added keyed behind)
    where
      placed : (j place right : ℕ) (op : Pairing) (x : Part) → j ≡ length d.parts.items + place → x.owner ≡ Some d.view → (j < length d.parts.items) ⊎ (IsJoinOf kss q op ⊎ HasAllKeys e.parts.items right op) →
          IsJoinOfView p x.owner op ⊎ HasAllKeys (d.parts.items ++ added) right op
      placed j place right op x far own (inl low) = absurd (omega (arith, far, low))
      placed j place right op x far own (inr (inl mine)) = inl (view_of op x own mine)
      placed j place right op x far own (inr (inr all)) = inr (subst (λ xs. HasAllKeys xs right op) is all)

      behind : (j place left right : ℕ) (op : Pairing) (x : Part) → IsJoinAt (d.parts.items ++ added) j left right op → j ≡ length d.parts.items + place → slice_get added place ≡ Some x → x.node ≡ Join left right op →
          IsJoinOfView p x.owner op ⊎ HasAllKeys (d.parts.items ++ added) right op
      behind j place left right op x there far here node =
          placed j place right op x far (all_at (IsOwnedBy d.view) added place x owned here) (joins.keyed j left right op (subst (λ xs. IsJoinAt xs j left right op) (sym is) there))
