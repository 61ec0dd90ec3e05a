-- How many of the first parts of a circuit pass a test.
use Rattle.std.proofs.Common.{◌≡◌, ℕ, zero, suc, ◌+◌, ◌≤◌, Bool, true, false, cond, List, [], ◌∷◌, length, take, Some, refl, sym, ap, ap₂, ◌∙◌, arith}
use Rattle.std.specs.List.{filter}
use Rattle.std.proofs.lemmas.Option.{same_Some}
use Rattle.sq_circuit.specs.Circuits.{node_at}
use Rattle.sq_circuit.specs.declared.circuit.Part.{Part}
use Rattle.sq_circuit.specs.declared.node.Node.{Node}

module _ (test : Node → Bool) where
  abbrev passing : List Part → ℕ
  passing c = length (filter (λ p. test p.node) c)

  none_past : (c : List Part) → passing c ≤ length c
  none_past [] = omega arith
  none_past (p ∷ c) = elim (test p.node) as (λ b. length (cond b (p ∷ filter (λ p. test p.node) c) (filter (λ p. test p.node) c)) ≤ suc (length c)) [
    | true ↦ let rest = none_past c in omega arith
    | false ↦ let rest = none_past c in omega arith
  ]

  in_front : (p : Part) (b : Bool) → test p.node ≡ b → (c : List Part) → passing (p ∷ c) ≡ passing c + cond b 1 0
  in_front p true is c = ap (λ b. length (cond b (p ∷ filter (λ p. test p.node) c) (filter (λ p. test p.node) c))) is ∙ omega arith
  in_front p false is c = ap (λ b. length (cond b (p ∷ filter (λ p. test p.node) c) (filter (λ p. test p.node) c))) is ∙ omega arith

  one_more : (c : List Part) (i : ℕ) (n : Node) → node_at c i ≡ Some n → passing (take (suc i) c) ≡ passing (take i c) + cond (test n) 1 0
  one_more [] i n is = absurd (cc is)
  one_more (p ∷ c) zero n is = let same : p.node ≡ n = same_Some p.node n is in in_front p (test n) (ap test same) []
  one_more (p ∷ c) (suc i) n is =
      let rest = one_more c i n is in
      let now = in_front p (test p.node) refl (take (suc i) c) in
      let before = in_front p (test p.node) refl (take i c) in
      omega arith

  -- how many of the first parts pass, with one more
  pub counted : (c : List Part) (i : ℕ) (n : Node) (b : Bool) (count : ℕ) → node_at c i ≡ Some n → b ≡ test n → count ≡ passing (take i c) → count + cond b 1 0 ≡ passing (take (i + 1) c)
  counted c i n b count at is told =
      let next : i + 1 ≡ suc i = omega arith in
      ap₂ (λ m b. m + cond b 1 0) told is ∙ sym (one_more c i n at) ∙ sym (ap (λ m. passing (take m c)) next)
