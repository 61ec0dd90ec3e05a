-- Pairs whose weights lie in 64 bits have a small mass.
use Rattle.std.proofs.Common.{◌≡◌, ◌*◌, ◌^◌, ◌≤◌, List, [], ◌∷◌, ◌++◌, length, unsigned_abs, ap, ◌∙◌, arith}
use Rattle.std.proofs.lemmas.List.{length-append}
use Rattle.std.proofs.lemmas.List.Sums.{sum_by_push}
use Rattle.sq_zset.specs.declared.pair.Pair.{Pair}
use Rattle.sq_zset.specs.Pairs.{mass}

pub one_more : (olds news : List Pair) (p : Pair) → news ≡ olds ++ p ∷ [] → unsigned_abs p.weight ≤ 2 ^ 63 → mass olds ≤ length olds * 2 ^ 63 → mass news ≤ length news * 2 ^ 63
one_more olds news p made small so_far =
    let whole = ap mass made ∙ sum_by_push (λ (q : Pair). unsigned_abs q.weight) olds p in
    let long = ap length made ∙ length-append olds (p ∷ []) in
    omega arith
