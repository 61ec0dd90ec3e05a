use Rattle.std.proofs.Common.{◌≡◌, ◌<◌, ◌++◌, ◌∷◌, [], length, get_or, sym, ap, ◌∙◌, arith}
use Rattle.std.specs.Prelude.{bytes_eq, if◌then◌else◌}
use Rattle.std.specs.String.{string_bytes}
use Rattle.sq_scope.proofs.NamesBuilt.{named_more}
use Rattle.sq_scope.proofs.index.named.Goals as goal

pub loop-i-preserved : goal.loop-i-preserved
loop-i-preserved c = λ q.
    let within : c.loop-i.i < length c.args.sources.now = omega arith in
    let name : string_bytes c.in_ok-name.name ≡ (get_or c.args.sources.now c.loop-i.i c.index-sources-i.result).name = c.in_ok-name.ensures.ok ∙ (c.as_str.ensures ∙ (c.name.ensures ∙ ap (λ s. s.name) c.index-sources-i.is)) in
    c.in_ok-add_source.ensures q ∙ ((λ j. c.loop-i.invariant q j ++ (if bytes_eq q (name j) then c.loop-i.i ∷ [] else [])) ∙ sym (named_more c.args.sources.now c.loop-i.i c.index-sources-i.result q within))
