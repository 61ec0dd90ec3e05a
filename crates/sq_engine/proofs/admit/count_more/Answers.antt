use Rattle.std.proofs.Common.{◌≡◌, ◌+◌, ◌<◌, ◌≤◌, ◌^◌, ℤ, ◌+ℤ◌, to_z, of_z, w64, unsigned_abs, cond, Some, is_eq, sym, ap, ap₂, subst, ◌∙◌, arith}
use Rattle.std.specs.BTreeMap.{get}
use Rattle.sq_value.specs.Order.{row_cmp}
use Rattle.sq_zset.proofs.Entries.{abs_sum, kept}
use Rattle.sq_engine.proofs.Counting.{one_more}
use Rattle.sq_engine.proofs.admit.count_more.Goals as goal

-- as 64 bits keep it
abbrev in_64 : ℤ → ℤ
in_64 n = to_z w64 (of_z w64 n)

sum_kept : (a b : ℤ) → unsigned_abs a < 2 ^ 62 → unsigned_abs b ≤ 1 → in_64 (in_64 a +ℤ in_64 b) ≡ a +ℤ b
sum_kept a b small step =
    let sum = abs_sum a b (unsigned_abs a) 1 (unsigned_abs a + 1) (omega arith) step (omega arith) in
    ap₂ (λ x y. in_64 (x +ℤ y)) (kept a (omega arith)) (kept b (omega arith)) ∙ kept (a +ℤ b) (omega arith)

pub returns : goal.returns
returns c r =
    let small : unsigned_abs c.count_of.result < 2 ^ 62 = subst (λ n. unsigned_abs n < 2 ^ 62) (sym c.count_of.ensures) c.requires.small in
    let is = sum_kept c.count_of.result c.args.more small c.requires.step ∙ ap (λ n. n +ℤ c.args.more) c.count_of.ensures in
    one_more (get row_cmp c.args.counts.now) (get row_cmp c.insert.new.self) c.args.row.now (in_64 (in_64 c.count_of.result +ℤ in_64 c.args.more)) c.args.more is
    (λ k. subst (λ key. get row_cmp c.insert.new.self k ≡ cond (is_eq (row_cmp key k)) (Some (in_64 (in_64 c.count_of.result +ℤ in_64 c.args.more))) (get row_cmp c.args.counts.now k)) c.in_ok-clone_row.ensures.equal (c.in_ok-insert.ensures.updates.0 k))
    r
