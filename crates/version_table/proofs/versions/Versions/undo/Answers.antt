use Rattle.std.proofs.Common.{map, ap, sym, ◌∙◌}
use Rattle.std.proofs.lemmas.List.{map_push}
use Rattle.version_table.specs.Histories.{version}
use Rattle.version_table.proofs.versions.Versions.undo.Goals as goal

pub returns : goal.returns
returns g c =
    let cells = c.self.inside.cells in
    record {
      cells = ap (λ h. h.cells) c.self.view_is;
      kept =
          sym (ap (λ h. h.kept) c.self.view_is)
          ∙ (ap (map (version cells)) c.in_ok-before.ensures.items ∙ map_push (version cells) c.pop.new.self.items c.in_ok-before.before);
    }
