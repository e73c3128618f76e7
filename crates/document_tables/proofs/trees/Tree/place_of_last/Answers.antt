use Rattle.std.specs.Prelude.{unwrap_or}
use Rattle.std.proofs.Common.{ℕ, Option, sym, ap, ◌∙◌}
use Rattle.document_tables.specs.Grids.{place_after}
use Rattle.document_tables.proofs.GrowSteps.{last_port}
use Rattle.document_tables.proofs.trees.Tree.place_of_last.Goals as goal

pub returns-in-Some : goal.returns-in-Some
returns-in-Some c =
    let last = c.copied.ensures ∙ (c.last.ensures.value ∙ sym (last_port c.args.path.now)) in
    ap (λ (o : Option ℕ). unwrap_or o 0) (sym c.in-Some.is ∙ (c.place_after.ensures ∙ ap (place_after c.args.self.now.stops) last))

pub returns-in-None : goal.returns-in-None
returns-in-None c =
    let last = c.copied.ensures ∙ (c.last.ensures.value ∙ sym (last_port c.args.path.now)) in
    ap (λ (o : Option ℕ). unwrap_or o 0) (sym c.in-None.is ∙ (c.place_after.ensures ∙ ap (place_after c.args.self.now.stops) last))
