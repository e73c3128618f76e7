use Rattle.std.proofs.Common.{◌≡◌, ◌++◌, ◌∷◌, [], map, ap, ◌∙◌}
use Rattle.std.proofs.lemmas.List.{map_push}
use Rattle.version_table.specs.Histories.{version}
use Rattle.version_table.proofs.Roots.{version-same}
use Rattle.version_table.proofs.versions.Versions.mark.Goals as goal

pub returns-clause-marked : goal.returns-clause-marked
returns-clause-marked g c =
    let fields = c.self.inside in
    let kept : map (version fields.cells) fields.kept.items ≡ c.args.self.now.kept = ap (λ h. h.kept) c.self.view_is in
    let newest : version fields.cells fields.newest ≡ c.args.self.now.newest = ap (λ h. h.newest) c.self.view_is in
    let copied : version fields.cells c.in_ok-kept.kept ≡ c.args.self.now.newest =
    version-same fields.cells c.in_ok-kept.kept fields.newest c.in_ok-kept.ensures.cases ∙ newest in
    record {
      cells = ap (λ h. h.cells) c.self.view_is;
      kept =
          ap (map (version fields.cells)) c.in_ok-push.ensures.items
          ∙ (map_push (version fields.cells) fields.kept.items c.in_ok-kept.kept
          ∙ (ap (λ xs. xs ++ version fields.cells c.in_ok-kept.kept ∷ []) kept ∙ ap (λ x. c.args.self.now.kept ++ x ∷ []) copied));
      newest = newest;
    }
