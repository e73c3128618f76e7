use Rattle.std.proofs.Common.{◌≡◌, ◌<◌, length, ap, ◌∙◌, arith, slice_set, None}
use Rattle.std.proofs.lemmas.List.{get_or-set_same, get_or-set_other}
use Rattle.version_table.specs.Trees.{value_of}
use Rattle.version_table.specs.Histories.{version, at}
use Rattle.version_table.proofs.Roots.{length-version, version-put}
use Rattle.version_table.proofs.versions.Versions.set.Goals as goal

pub put-requires-clause-within : goal.put-requires-clause-within
put-requires-clause-within g c =
    let cells : c.self.inside.cells ≡ c.args.self.now.cells = ap (λ h. h.cells) c.self.view_is in
    omega (arith, cells, c.self.invariant.reach)

pub returns-clause-set : goal.returns-clause-set
returns-clause-set g c =
    let fields = c.self.inside in
    let cells : fields.cells ≡ c.args.self.now.cells = ap (λ h. h.cells) c.self.view_is in
    let newest : version fields.cells fields.newest ≡ c.args.self.now.newest = ap (λ h. h.newest) c.self.view_is in
    let within : c.args.cell < fields.cells = omega (arith, cells) in
    let inside : c.args.cell < length c.args.self.now.newest = omega (arith, ap length newest, length-version fields.cells fields.newest) in
    let value = value_of c.args.value in
    let is_set =
    version-put fields.cells _ c.args.cell value fields.newest c.in_ok-self-inside.field-0 c.self.invariant.reach within c.in_ok-self-inside.ensures
    ∙ ap (λ xs. slice_set xs c.args.cell value) newest in
    record {
      cells = cells;
      kept = ap (λ h. h.kept) c.self.view_is;
      newest = is_set;
      here = ap (λ xs. at xs c.args.cell) is_set ∙ get_or-set_same c.args.self.now.newest c.args.cell value None inside;
      others = λ other differs. ap (λ xs. at xs other) is_set ∙ get_or-set_other c.args.self.now.newest c.args.cell other value None differs;
    }
