use Rattle.std.specs.Prelude.{slice_get, unwrap_or}
use Rattle.std.proofs.Common.{List, ℕ, ◌≡◌, Option, Some, map, sym, ap, ◌∙◌, arith}
use Rattle.std.proofs.lemmas.List.{take_all}
use Rattle.std.proofs.lemmas.Option.{slice_get-get_or}
use Rattle.document_tables.specs.Links.{branch_view, branches_of}
use Rattle.document_tables.specs.Documents.{end_view}
use Rattle.document_tables.specs.Grids.{branch_on_grid}
use Rattle.document_tables.specs.declared.links.Branch.{Branch}
use Rattle.document_tables.proofs.GridSteps.{seen_next}
use Rattle.document_tables.proofs.document.branch_ends.Goals as goal

pub loop-place-preserved : goal.loop-place-preserved
loop-place-preserved c =
    let table = c.args.table.now in
    let items = table.branches.items in
    let branch = c.index.result.now in
    let there : slice_get items c.loop-place.place ≡ Some branch = slice_get-get_or items c.loop-place.place branch (omega arith) ∙ ap Some (sym c.index.ensures) in
    let node = sym (ap (λ (o : Option ℕ). unwrap_or o 0) (c.requires.trees.hung c.loop-place.place branch there).ends) in
    let ended : end_view c.branch_end.result ≡ branch_on_grid (branches_of table) (branch_view table.passed.items branch) =
    ap end_view c.branch_end.ensures ∙ (λ i. record { link = branch.link; node = node i; deadline = branch.deadline })
    in
    seen_next end_view (branch_on_grid (branches_of table)) (branch_view table.passed.items) c.loop-place.ends.items c.push.new.self.items c.branch_end.result items c.loop-place.place branch (omega arith)
    c.loop-place.invariant c.in_ok-push.ensures.items
    (ended ∙ ap (λ (b : Branch). branch_on_grid (branches_of table) (branch_view table.passed.items b)) c.index.ensures)

pub returns : goal.returns
returns c =
    let table = c.args.table.now in
    let items = table.branches.items in
    c.loop-place.invariant ∙ ap (λ (bs : List Branch). map (branch_on_grid (branches_of table)) (map (branch_view table.passed.items) bs)) (take_all c.loop-place.place items (omega arith))
