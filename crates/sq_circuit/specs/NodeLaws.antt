-- What holds of every kind of node, so that no law above has to tell kinds apart. In words, with F the core of a node, y on its left and z
-- on its right:
--     splits      the operator is the standing rows and the core:  op(y, z) = F0 + F(y, z)
--     none        over no rows the core is empty:  F(0, 0) = 0
--     adds        over the parts in all shards, by the keys of the node, the core adds up:  Σ_s F(y|s, z|s) = F(y, z)
--     changes     its change is the sum of those of the parts, over any lists of keys that cover both changes:
--                 F(y + dy, z + dz) - F(y, z) = Σ_c (F((y + dy)|c, (z + dz)|c) - F(y|c, z|c))
--     shares      so the operator adds up over the shards, if the standing rows count in the shard of the empty key alone
use Rattle.std.specs.Prelude.{◌≡◌, ℕ, ◌==◌, if◌then◌else◌, List, []}
use Rattle.sq_value.specs.declared.value.Value.{Value}
use Rattle.sq_value.specs.Order.{row_cmp}
use Rattle.sq_algebra.specs.Groups.{sum_over, z_sets}
use Rattle.sq_algebra.specs.Keyed.{CoversOnce, Shards, at_key, cut, over_shards}
use Rattle.sq_algebra.specs.ZSet.{minus, plus}
use Rattle.sq_circuit.specs.Nodes.{Rows, core, left_key, none, operator, right_key, standing}
use Rattle.sq_circuit.specs.declared.node.Node.{Node}

module _ (f : Rows → Rows → Rows) (left right : List Value → List Value) where
  abbrev pub AddsOverShards : Type 0
  AddsOverShards = (S : Shards (List Value)) (y z : Rows) → over_shards (z_sets row_cmp) S (λ s. f (cut S left s y) (cut S right s z)) ≡ f y z

  -- the rise of f over the parts with the key c
  abbrev pub rise_at : Rows → Rows → Rows → Rows → List Value → Rows
  rise_at y dy z dz c = minus (f (at_key row_cmp left c (plus y dy)) (at_key row_cmp right c (plus z dz))) (f (at_key row_cmp left c y) (at_key row_cmp right c z))

  abbrev pub ChangesByKeys : Type 0
  ChangesByKeys = (cs : List (List Value)) (y dy z dz : Rows) → CoversOnce row_cmp left cs dy → CoversOnce row_cmp right cs dz
      → minus (f (plus y dy) (plus z dz)) (f y z) ≡ sum_over (z_sets row_cmp) (rise_at y dy z dz) cs

-- the part of a node's operator in the shard s
abbrev pub share : Node → Shards (List Value) → ℕ → Rows → Rows → Rows
share n S s y z = plus (if s == S.shard [] then standing n else none) (core n (cut S (left_key n) s y) (cut S (right_key n) s z))

pub record IsLawful (n : Node) : Type 0 where
  pub splits : (y z : Rows) → operator n y z ≡ plus (standing n) (core n y z)
  pub none : core n none none ≡ none
  pub adds : AddsOverShards (core n) (left_key n) (right_key n)
  pub changes : ChangesByKeys (core n) (left_key n) (right_key n)
  pub shares : (S : Shards (List Value)) (y z : Rows) → over_shards (z_sets row_cmp) S (λ s. share n S s y z) ≡ operator n y z
