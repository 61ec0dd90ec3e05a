use Rattle.std.proofs.Common.{◌-◌, ◌∙◌, ap}
use Rattle.sq_lines.specs.Cutting.{most_kept}
use Rattle.sq_lines.proofs.CutLemmas.{kept_more}
use Rattle.sq_lines.proofs.cutter.push_kept.Goals as goal

pub returns-clause-ok : goal.returns-clause-ok
returns-clause-ok c =
    c.in_ok-extend_from_slice.ensures.items
    ∙ kept_more c.args.line.now.items c.args.bytes.now _ c.min.result c.requires (ap (λ n. most_kept - n) (c.len-room.ensures ∙ c.args.line.now.ok.0)) c.min.ensures
