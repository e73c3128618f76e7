use Rattle.std.proofs.Common.{◌≡◌, ◌<◌, None, length, ap, sym, ◌∙◌, arith, get_or}
use Rattle.version_table.specs.Trees.{held}
use Rattle.version_table.specs.Histories.{version}
use Rattle.version_table.proofs.Roots.{length-version, get_or-version}
use Rattle.version_table.proofs.versions.Versions.get.Goals as goal

pub returns-clause-value : goal.returns-clause-value
returns-clause-value g c =
    let fields = c.self.inside in
    let newest : version fields.cells fields.newest ≡ c.args.self.now.newest = ap (λ h. h.newest) c.self.view_is in
    let cells : fields.cells ≡ c.args.self.now.cells = ap (λ h. h.cells) c.self.view_is in
    let within : c.args.cell < fields.cells = omega (arith, cells) in
    c.held_at.ensures
    ∙ (ap (λ n. held n c.args.cell) c.deref.ensures
    ∙ (sym (get_or-version fields.cells fields.newest c.args.cell within) ∙ ap (λ xs. get_or xs c.args.cell None) newest))

pub returns-clause-size : goal.returns-clause-size
returns-clause-size g c =
    let fields = c.self.inside in
    sym (ap (λ h. length h.newest) c.self.view_is) ∙ (length-version fields.cells fields.newest ∙ ap (λ h. h.cells) c.self.view_is)
