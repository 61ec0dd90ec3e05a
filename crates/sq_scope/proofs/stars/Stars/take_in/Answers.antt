use Rattle.std.proofs.Common.{not, ap, sym, refl, ◌∙◌}
use Rattle.std.specs.Prelude.{bytes_eq}
use Rattle.std.specs.Borrow.{Bor}
use Rattle.std.specs.List.{list_any}
use Rattle.std.proofs.Common.{ℕ, List}
use Rattle.sq_ast.specs.declared.query.ItemTree.TheVariants.{StarOf}
use Rattle.sq_scope.specs.TypesItems.{is_seen}
use Rattle.sq_scope.proofs.NamesTexts.{has_name}
use Rattle.sq_scope.proofs.TypesStarsOnce.{seen_star_of}
use Rattle.sq_scope.proofs.stars.Stars.take_in.Goals as goal

pub returns-in_ok-is_new-in-StarOf-clause-told : goal.returns-in_ok-is_new-in-StarOf-clause-told
returns-in_ok-is_new-in-StarOf-clause-told c =
    c.in_ok-is_new-in-StarOf.ensures.added
    ∙ (ap not (has_name c.args.self.now.named.keys c.as_str.result ∙ ap (λ t. list_any (λ (x : Bor (List ℕ)). bytes_eq t x.now) c.args.self.now.named.keys) c.as_str.ensures)
    ∙ ap (λ i. not (is_seen c.args.self.now i)) (sym c.in-StarOf.is))

pub returns-in_ok-is_new-in-StarOf-clause-seen : goal.returns-in_ok-is_new-in-StarOf-clause-seen
returns-in_ok-is_new-in-StarOf-clause-seen c = λ i. seen_star_of c.args.self.now (record { plain = c.args.self.now.plain; named = c.insert.new.self }) i c.args.item.now c.as_str.result (c.in-StarOf.is ∙ ap StarOf (sym c.as_str.ensures)) refl c.in_ok-is_new-in-StarOf.ensures.keys
