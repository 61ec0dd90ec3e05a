use Rattle.std.proofs.Common.{◌∙◌, ap, ap₂, fold, to_z-of_z}
use Rattle.std.specs.Int.{w64, to_be_bytes, cast_unsigned}
use Rattle.sq_shard.specs.Shards.{mixed, onto}
use Rattle.sq_shard.proofs.key.mix_number.Goals as goal

pub returns : goal.returns
unfolding onto
returns c =
    c.mix_all.ensures
    ∙ ap₂ (fold mixed) c.mix.ensures (c.to_be_bytes.ensures ∙ ap (λ n. to_be_bytes w64 (cast_unsigned w64 n)) (to_z-of_z c.ranges.number))
