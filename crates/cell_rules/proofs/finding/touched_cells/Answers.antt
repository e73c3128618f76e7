use Rattle.std.proofs.Common.{◌≡◌, ℕ, ◌≤◌, List, [], ◌++◌, length, take, Bool, sym, ap, ◌∙◌, subst, arith}
use Rattle.std.specs.List.{flat_map}
use Rattle.std.proofs.lemmas.List.{take_all}
use Rattle.net_model.specs.Networks.{Net}
use Rattle.net_model.specs.Orders.{IsOrder}
use Rattle.net_cells.specs.declared.cell.Cell.{Cell}
use Rattle.net_cells.specs.Cells.{path_kinds}
use Rattle.net_cells.specs.Order.{evaluation_order, server_cells, path_cells}
use Rattle.net_cells.proofs.Lists.{contains_has}
use Rattle.cell_rules.specs.cell_changes.Changes.{TouchedOf}
use Rattle.cell_rules.specs.Marks.{AreOfPaths, MarksReached, IsSearched, Searches, StandBehind}
use Rattle.cell_rules.proofs.Found.{few_touched}
use Rattle.cell_rules.proofs.PathMarks.{of_paths}
use Rattle.cell_rules.proofs.Searched.{searched_none, stand_server, stand_paths, both_parts, more_server}
use Rattle.cell_rules.proofs.finding.touched_cells.Goals as goal

pub loop-place-init : goal.loop-place-init
loop-place-init c = record {
  searched = searched_none c.args.old.now c.args.net.now c.in_ok-flags.flags.items c.new-touched.result.items
      c.in_ok-flags.ensures.room c.in_ok-flags.ensures.none c.new-touched.ensures.items;
  candidates = c.in_ok-marks.ensures;
  reached = λ s d e m l f t. absurd (contains_has [] e f);
}

pub search_server-requires-clause-place : goal.search_server-requires-clause-place
search_server-requires-clause-place c =
    let order = c.args.order.now in
    let i = c.loop-place.place in (
      flat_map (server_cells c.args.net.now) (take i order),
      stand_server c.args.net.now order i 0 c.requires.order (omega arith),
    )

pub search_server-requires-clause-bare : goal.search_server-requires-clause-bare
search_server-requires-clause-bare c =
    let inv = c.loop-place.invariant in record { room = inv.searched.flags_are.room; bare = inv.searched.bare }

pub loop-place-preserved : goal.loop-place-preserved
loop-place-preserved c =
    let old = c.args.old.now in
    let net = c.args.net.now in
    let order = c.args.order.now in
    let i = c.loop-place.place in
    let front = flat_map (server_cells net) (take i order) in
    let stand = stand_server net order i 0 c.requires.order (omega arith) in
    let more = sym (more_server net order i 0 (omega arith)) in
    let inv = c.loop-place.invariant in
    record {
      searched = subst (λ (xs : List Cell). IsSearched old net xs c.search_server.new.flags.items c.search_server.new.touched.items) more
          (c.in_ok-search_server.ensures.searched front stand inv.searched inv.reached);
      candidates = λ s d m e. c.in_ok-search_server.ensures.kept s (inv.candidates s d m e);
      reached = subst (λ (xs : List Cell). MarksReached old net xs c.search_server.new.marks.items) more
          (c.in_ok-search_server.ensures.reached front stand inv.searched inv.reached);
    }

pub search_paths-requires-clause-place : goal.search_paths-requires-clause-place
search_paths-requires-clause-place c =
    let net = c.args.net.now in
    let order = c.args.order.now in
    let same = c.deref.ensures.value ∙ c.in_ok-paths.ensures in (
      flat_map (server_cells net) order,
      subst (λ (xs : List Cell). StandBehind net (flat_map (server_cells net) order) xs) (sym same)
          (stand_paths net order c.requires.order),
    )

pub search_paths-requires-clause-paths : goal.search_paths-requires-clause-paths
search_paths-requires-clause-paths c =
    subst AreOfPaths (sym (c.deref.ensures.value ∙ c.in_ok-paths.ensures)) (of_paths c.args.net.now)

pub search_paths-requires-clause-bare : goal.search_paths-requires-clause-bare
search_paths-requires-clause-bare c =
    let inv = c.loop-place.invariant in record { room = inv.searched.flags_are.room; bare = inv.searched.bare }

-- all are searched
at_end : (old net : Net) (order : List ℕ) (i : ℕ) (cells : List Cell) (flags more : List Bool) (touched longer : List Cell)
    → IsOrder net order → length order ≤ i → cells ≡ flat_map (path_cells net) path_kinds
    → IsSearched old net (flat_map (server_cells net) (take i order)) flags touched
    → Searches old net cells flags touched more longer → TouchedOf old net (evaluation_order net order) longer
at_end old net order i cells flags more touched longer o h e before all =
    let front = flat_map (server_cells net) order in
    let start = subst (λ (xs : List ℕ). IsSearched old net (flat_map (server_cells net) xs) flags touched)
    (take_all i order h) before in
    let stand = subst (λ (xs : List Cell). StandBehind net front xs) (sym e) (stand_paths net order o) in
    subst (λ (xs : List Cell). TouchedOf old net xs longer)
    (ap (λ (xs : List Cell). front ++ xs) e ∙ both_parts net order) (all front stand start).list

pub returns-clause-touched : goal.returns-clause-touched
returns-clause-touched c =
    at_end c.args.old.now c.args.net.now c.args.order.now c.loop-place.place c.deref.result.now c.loop-place.flags.items
    c.search_paths.new.flags.items c.loop-place.touched.items c.search_paths.new.touched.items c.requires.order (omega arith)
    (c.deref.ensures.value ∙ c.in_ok-paths.ensures) c.loop-place.invariant.searched c.in_ok-search_paths.ensures

pub returns-clause-few : goal.returns-clause-few
returns-clause-few c =
    few_touched c.args.old.now c.args.net.now c.args.order.now c.search_paths.new.touched.items c.keeps.ensures c.requires.order
    (returns-clause-touched c)
