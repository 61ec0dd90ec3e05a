-- The joins of queries, part by part.
use Rattle.std.proofs.Common.{◌≡◌, ℕ, List, [], ◌∷◌, ◌++◌, length, Some, refl, sym, ap, ap₂, subst, ◌∙◌}
use Rattle.std.specs.Prelude.{slice_get}
use Rattle.std.specs.List.{AllByRecursion}
use Rattle.sq_circuit.specs.Circuits.{kinds_at, kinds_in}
use Rattle.sq_circuit.specs.declared.circuit.Part.{Part}
use Rattle.sq_circuit.proofs.Alongside.{got_front}
use Rattle.sq_expr.specs.declared.expr.Kind.{Kind}
use Rattle.sq_ops.specs.declared.bilinear.Pairing.{Pairing}
use Rattle.sq_typed.specs.declared.query.Block.{Block, out-Block}
use Rattle.sq_typed.specs.declared.query.FromItem.{FromItem}
use Rattle.sq_typed.specs.declared.query.Origin.{Origin}
use Rattle.sq_typed.specs.declared.query.Origin.TheVariants as origin
use Rattle.sq_typed.specs.declared.query.Query.{Query}
use Rattle.sq_typed.specs.declared.query.Query.TheVariants as query
use Rattle.sq_typed.specs.declared.query.SetStep.{SetStep}
use Rattle.sq_typed.specs.Fit.{Pairwise}
use Rattle.sq_plan.specs.Drafts.{IsNode}
use Rattle.sq_plan.specs.Keyed.{IsJoinInOrigin, IsJoinInSources, IsJoinOf, IsJoinOfSource, NewJoins, NoJoin, source_widths, widths_of}
use Rattle.sq_plan.specs.Plans.{First, InFrom, IsSourceOf, Itself, Later, Member, PartOf, PlansItems, relation_kinds}
use Rattle.sq_plan.specs.declared.draft.Draft.{Draft}
use Rattle.sq_plan.proofs.KeyedSteps.{joins_before, joins_then, joins_weaker}

-- a join of a query is one of each query in which that stands
within : (kinds : List (List Kind)) (whole part : Query) → ((r : Query) → PartOf part r → PartOf whole r) → (op : Pairing) → IsJoinOf kinds part op → IsJoinOf kinds whole op
within kinds whole part inside op j = record { block = j.block; part = inside (query.Block j.block) j.part; source = j.source }

-- the relations have their nodes from before
kinds_kept : (d e : Draft) (more : List Part) → e.parts.items ≡ d.parts.items ++ more → (nodes : List ℕ) → AllByRecursion (IsNode d) nodes → relation_kinds e nodes ≡ relation_kinds d nodes
kinds_kept d e more is [] h = refl
kinds_kept d e more is (i ∷ nodes) h = ap₂ (λ k ks. k ∷ ks) (ap (λ xs. kinds_at xs i) is ∙ ap kinds_in (got_front d.parts.items more i h.0.there)) (kinds_kept d e more is nodes h.1)

module _ (d : Draft) (nodes : List ℕ) (are : AllByRecursion (IsNode d) nodes) where
  abbrev kss : List (List Kind)
  kss = relation_kinds d nodes

  -- ---- members of set operations
  later_joins : (q part : Query) → ((r : Query) → PartOf part r → PartOf q r) → (e g : Draft) → NewJoins d e (IsJoinOf kss q) → NewJoins e g (IsJoinOf (relation_kinds e nodes) part) → NewJoins d g (IsJoinOf kss q)
  later_joins q part inside e g before now =
      joins_then d e g (IsJoinOf kss q) before
      (joins_weaker e g (IsJoinOf kss part) (IsJoinOf kss q) (within kss q part inside)
      (subst (λ ks. NewJoins e g (IsJoinOf ks part)) (kinds_kept d e before.more before.is nodes are) now))

  pub chain_joins_begin : (q first got : Query) (rest : List SetStep) (e : Draft) → q ≡ query.Chain first rest → got ≡ first → NewJoins d e (IsJoinOf kss got) → NewJoins d e (IsJoinOf kss q)
  chain_joins_begin q first got rest e is same now =
      joins_weaker d e (IsJoinOf kss got) (IsJoinOf kss q)
      (within kss q got (λ r part. subst (λ w. PartOf w r) (sym is) (First first rest r (subst (λ x. PartOf x r) same part)))) now

  pub chain_joins_more : (q first : Query) (steps : List SetStep) (k : ℕ) (step : SetStep) → q ≡ query.Chain first steps → slice_get steps k ≡ Some step → (e g h : Draft) →
      NewJoins d e (IsJoinOf kss q) → NewJoins e g (IsJoinOf (relation_kinds e nodes) step.query) → NewJoins g h NoJoin → NewJoins d h (IsJoinOf kss q)
  chain_joins_more q first steps k step is at e g h before now last =
      joins_before d g h (IsJoinOf kss q) (later_joins q step.query (λ r part. subst (λ w. PartOf w r) (sym is) (Later first steps k step r at part)) e g before now) last

  pub common_joins_more : (q : Query) (members : List Query) (k : ℕ) (m : Query) → q ≡ query.Intersect members → slice_get members k ≡ Some m → (e g h : Draft) →
      NewJoins d e (IsJoinOf kss q) → NewJoins e g (IsJoinOf (relation_kinds e nodes) m) → NewJoins g h NoJoin → NewJoins d h (IsJoinOf kss q)
  common_joins_more q members k m is at e g h before now last =
      joins_before d g h (IsJoinOf kss q) (later_joins q m (λ r part. subst (λ w. PartOf w r) (sym is) (Member members k m r at part)) e g before now) last

  -- ---- what stands behind FROM
  pub origin_joins : (o : Origin) (q : Query) (e : Draft) → o ≡ origin.Query q → NewJoins d e (IsJoinOf kss q) → NewJoins d e (IsJoinInOrigin kss o)
  origin_joins o q e is now = joins_weaker d e (IsJoinOf kss q) (IsJoinInOrigin kss o) (λ op j. record { query = q; is = is; join = j }) now

  pub sources_joins_more : (items steps : List FromItem) (k : ℕ) (s : FromItem) → steps ≡ items → slice_get steps k ≡ Some s → (e g : Draft) →
      NewJoins d e (IsJoinInSources kss items) → NewJoins e g (IsJoinInOrigin (relation_kinds e nodes) s.source) → NewJoins d g (IsJoinInSources kss items)
  sources_joins_more items steps k s all at e g before now =
      joins_then d e g (IsJoinInSources kss items) before
      (joins_weaker e g (IsJoinInOrigin kss s.source) (IsJoinInSources kss items)
      (λ op j. record { place = k; source = s; at = subst (λ xs. slice_get xs k ≡ Some s) all at; join = j })
      (subst (λ ks. NewJoins e g (IsJoinInOrigin ks s.source)) (kinds_kept d e before.more before.is nodes are) now))

  -- ---- blocks
  module _ (b : Block) (e : Draft) (found : List ℕ) (p : PlansItems d e nodes found (out-Block b).sources) where
    widths_same : (is : List ℕ) (xs : List FromItem) → Pairwise (IsSourceOf d e nodes) is xs → widths_of e is ≡ source_widths kss xs
    widths_same [] [] h = refl
    widths_same [] (s ∷ xs) h = absurd h
    widths_same (i ∷ is) [] h = absurd h
    widths_same (i ∷ is) (s ∷ xs) h = ap₂ (λ n ns. n ∷ ns) (ap length h.0.kinds) (widths_same is xs h.1)

    own_join : (op : Pairing) → IsJoinOfSource (widths_of e found) (out-Block b).sources (out-Block b).filter op → IsJoinOf kss (query.Block b) op
    own_join op h = record {
      block = b;
      part = Itself (query.Block b);
      source = subst (λ ws. IsJoinOfSource ws (out-Block b).sources (out-Block b).filter op) (widths_same found (out-Block b).sources p.stand) h;
    }

    inner_join : (op : Pairing) → IsJoinInSources kss (out-Block b).sources op → IsJoinOf kss (query.Block b) op
    inner_join op j = record {
      block = j.join.join.block;
      part = InFrom b j.place j.source j.join.query (query.Block j.join.join.block) j.at j.join.is j.join.join.part;
      source = j.join.join.source;
    }

    pub block_joined : (g : Draft) → NewJoins d e (IsJoinInSources kss (out-Block b).sources) → NewJoins e g (IsJoinOfSource (widths_of e found) (out-Block b).sources (out-Block b).filter) → NewJoins d g (IsJoinOf kss (query.Block b))
    block_joined g before now = joins_then d e g (IsJoinOf kss (query.Block b))
        (joins_weaker d e (IsJoinInSources kss (out-Block b).sources) (IsJoinOf kss (query.Block b)) inner_join before)
        (joins_weaker e g (IsJoinOfSource (widths_of e found) (out-Block b).sources (out-Block b).filter) (IsJoinOf kss (query.Block b)) own_join now)
