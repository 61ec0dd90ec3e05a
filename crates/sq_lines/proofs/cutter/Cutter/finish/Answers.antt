use Rattle.std.proofs.Common.{◌==◌, ◌+◌, ◌∷◌, [], ◌∙◌, refl, sym, ap}
use Rattle.sq_lines.specs.Cutting.{last_line}
use Rattle.sq_lines.proofs.CutLemmas.{one_left}
use Rattle.sq_lines.proofs.cutter.Cutter.finish.Goals as goal

pub returns : goal.returns
returns c =
    sym (ap last_line c.self.view_is)
    ∙ one_left c.self.inside.handed c.self.inside.begun.items _ c.self.invariant (ap (λ n. n == 0) (sym c.self.inside.begun.ok.0) ∙ sym c.is_empty.ensures ∙ c.if-is_empty.false) refl
    ∙ ap (λ bytes. record { number = c.self.inside.handed + 1; bytes = bytes } ∷ []) (sym c.from_vec.ensures)
