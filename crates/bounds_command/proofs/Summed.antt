-- The bound of a branch is a sum over its way.
use Rattle.std.proofs.Common.{◌≡◌, ℕ, ◌+◌, Option, Some, None, List, [], ◌∷◌, get_or, map, refl, sym, ◌∙◌, ap, arith}
use Rattle.std.specs.Prelude.{option_map}
use Rattle.arrival_lines.specs.declared.grid.Queue.{Queue}
use Rattle.tree_network.specs.Networks.{node_at, port_at}
use Rattle.tree_network.specs.declared.network.Link.{Link}
use Rattle.tree_network.specs.declared.network.Network.{Network}
use Rattle.document_tables.specs.Documents.{DocumentText}
use Rattle.document_tables.specs.Trees.{last_of}
use Rattle.document_tables.specs.Ways.{HangInTurn}
use Rattle.tree_bounds.specs.Tables.{IsTableOf, AreBounds, row_in, bounds_in, time_after, time_before}
use Rattle.tree_bounds.specs.declared.analysis.Table.{Table}
use Rattle.bounds_report.specs.declared.rows.Report.{Report}
use Rattle.bounds_command.specs.Reports.{IsReportOf, BranchText}
use Rattle.bounds_command.specs.Sums.{AreSums, plus, sum_over, time_at}
use Rattle.bounds_command.proofs.ToldRows.{told_branch}

-- ---- sums
none_more : (a : Option ℕ) → plus a (Some 0) ≡ a
none_more None = refl
none_more (Some a) = ap Some (omega arith)

none_before : (a : Option ℕ) → plus (Some 0) a ≡ a
none_before None = refl
none_before (Some a) = ap Some (omega arith)

plus_in_turn : (a b c : Option ℕ) → plus (plus a b) c ≡ plus a (plus b c)
plus_in_turn None b c = refl
plus_in_turn (Some a) None c = refl
plus_in_turn (Some a) (Some b) None = refl
plus_in_turn (Some a) (Some b) (Some c) = ap Some (omega arith)

after_is : (before : Option ℕ) (row : Option Queue) (link : ℕ) → time_after before row link ≡ plus before (option_map (λ queue. queue.delay + link) row)
after_is None row link = refl
after_is (Some before) None link = refl
after_is (Some before) (Some queue) link = ap Some (omega arith)

module _ (net : Network) (table : Table) (link : Link) (bounds : List (Option ℕ)) (are : AreBounds net (row_in table) link bounds) where
  along : (places : List ℕ) (from : Option ℕ) (end : ℕ) → HangInTurn link.nodes.items from places → last_of from places ≡ Some end
      → get_or bounds end None ≡ plus (time_before bounds from) (sum_over net table (map (node_at link) places))
  along [] from end h e =
      sym (none_more (time_before bounds from) ∙ ap (time_before bounds) e)
  along (place ∷ places) from end h e =
      let node = node_at link place in
      let rest = sum_over net table (map (node_at link) places) in
      let one : get_or bounds place None ≡ plus (time_before bounds from) (time_at net table node) =
      are.each place h.0
      ∙ (after_is (time_before bounds node.from) (row_in table node.port node.queue) (port_at net node.port).link
      ∙ ap (λ (f : Option ℕ). plus (time_before bounds f) (time_at net table node)) h.1) in
      along places (Some place) end h.2 e
      ∙ (ap (λ (b : Option ℕ). plus b rest) one ∙ plus_in_turn (time_before bounds from) (time_at net table node) rest)

pub bounds_are_sums : (d : DocumentText) (net : Network) (table : Table) (report : Report) → IsTableOf net table → IsReportOf d net table report → AreSums d net table report
bounds_are_sums d net table report bounded is k b row link ports places e f there way =
    let bounds = bounds_in table b.link in
    let told = ap (λ (x : BranchText). x.bound) (told_branch d net table report k b row is e f) in
    sym told
    ∙ (along net table link bounds (bounded.bounds b.link link there) places None b.node way.hang way.ends
    ∙ none_before (sum_over net table (map (node_at link) places)))
