-- What a report says is kept in each lawful run that keeps the premises: it is what the table says, with times rounded
-- up.
use Rattle.std.proofs.Common.{◌≡◌, ℕ, zero, suc, pred, pos, ◌*ℤ◌, true, nat_le, ◌<◌, ◌≤◌, ◌+◌, ◌*◌, ◌/◌, Option, Some, None, List, [], ◌∷◌, length, get_or, refl, sym, ◌∙◌, ap, subst, arith, inl, inr}
use Rattle.std.specs.Prelude.{slice_get, option_map, All}
use Rattle.std.proofs.lemmas.Bool.{cases_lt, leb-true}
use Rattle.std.proofs.lemmas.Int.{ints}
use Rattle.std.proofs.lemmas.List.{get_or_past, length-map}
use Rattle.std.proofs.lemmas.Option.{slice_get_within, get_or_from_slice_get}
use Rattle.rational.specs.Rational.{ℚ, frac, ◌≤ℚ◌}
use Rattle.rational.specs.Extended.{Ext, ◌≤ₑ◌}
use Rattle.rational.specs.declared.Extended.TheVariants.{Fin}
use Rattle.rational.proofs.ExtendedOrder.{le_ext_trans}
use Rattle.rational.proofs.Integers.{mul_whole}
use Rattle.rational.proofs.Over.{le_frac}
use Rattle.run_laws.specs.Runs.{SpecRun}
use Rattle.run_laws.specs.Cards.{whole, of_queue}
use Rattle.run_laws.specs.Bounds.{IsQueueBounded}
use Rattle.run_laws.specs.Delays.{AreAtMost, hop_delays}
use Rattle.run_laws.specs.Views.{view}
use Rattle.run_laws.proofs.Delay.{none_above_infinity}
use Rattle.tree_runs.specs.Trees.{flat}
use Rattle.tree_runs.specs.Branches.{delays_to}
use Rattle.arrival_lines.specs.Grid.{micros, picosecond}
use Rattle.table_cells.specs.declared.amount.Amount.{Amount}
use Rattle.table_cells.specs.Amounts.{IsAmount}
use Rattle.arrival_lines.specs.declared.grid.Queue.{Queue}
use Rattle.arrival_lines.proofs.Units.{micros_le}
use Rattle.tree_network.specs.Networks.{IsNetwork, port_at}
use Rattle.tree_network.specs.declared.network.Link.{Link}
use Rattle.tree_network.specs.declared.network.Network.{Network}
use Rattle.document_tables.specs.Documents.{DocumentText}
use Rattle.document_tables.specs.Grids.{BranchOnGrid}
use Rattle.tree_bounds.specs.Tables.{IsTableOf, row_in, bounds_in, items_of}
use Rattle.tree_bounds.specs.declared.analysis.Table.{Table}
use Rattle.tree_bounds.specs.guarantee.Routes.{routes_of}
use Rattle.tree_bounds.specs.guarantee.Guarantee.{IsGuaranteed}
use Rattle.tree_bounds.proofs.guarantee.Branched.{tables_keep}
use Rattle.bounds_report.specs.Numbers.{is_met}
use Rattle.bounds_report.specs.Ranges.{HasDeadlineInRange}
use Rattle.bounds_report.specs.declared.rows.QueueRow.{QueueRow}
use Rattle.bounds_report.specs.declared.rows.BranchRow.{BranchRow}
use Rattle.bounds_report.specs.declared.rows.Report.{Report}
use Rattle.tree_bounds.specs.guarantee.Loads.{rates_at}
use Rattle.rounded_runs.specs.Written.{exact}
use Rattle.bounds_command.specs.Promises.{printed, or_infinite, QueueIsKept, BranchIsKept, Guarantees}
use Rattle.bounds_command.specs.Reports.{IsReportOf, QueueText, BranchText, queue_view, queue_text, name_at, last_port, port_in}
use Rattle.bounds_command.proofs.Places.{past}
use Rattle.bounds_command.proofs.ToldRows.{told_branch, told_queue}

-- ---- printed numbers are no less
at_most_more : (x y : Ext) (zs : List ℚ) → x ≤ₑ y → AreAtMost x zs → AreAtMost y zs
at_most_more x y [] h a = tt
at_most_more x y (z ∷ zs) h a = (le_ext_trans (Fin z) x y a.0 h, at_most_more x y zs h a.1)

printed_covers : (n : ℕ) → micros n ≤ℚ printed n
printed_covers n = micros_le n ((n + 999) / 1000 * 1000) (omega arith)

-- ---- queues
queue_bounded : (net : Network) (table : Table) (run : SpecRun) (s q : ℕ) (row : Option Queue)
    → IsGuaranteed net table run
    → s < length net.ports.items → row_in table s q ≡ row
    → IsQueueBounded (flat (routes_of net)) run s q (or_infinite printed (option_map (λ found. found.delay) row))
    (or_infinite whole (option_map (λ found. found.backlog) row))
queue_bounded net table run s q None g h e = record {
  delays = none_above_infinity (hop_delays (of_queue q) run.end (view (flat (routes_of net)) run s));
  backlogs = λ t l. tt;
}
queue_bounded net table run s q (Some queue) g h e =
    let b = g.queues s q queue h e in
    record {
      delays =
          at_most_more (Fin (micros queue.delay)) (Fin (printed queue.delay))
          (hop_delays (of_queue q) run.end (view (flat (routes_of net)) run s)) (printed_covers queue.delay) b.delays;
      backlogs = b.backlogs;
    }

queue_kept : (d : DocumentText) (net : Network) (table : Table) (run : SpecRun) (row : QueueRow) (s q : ℕ)
    → IsGuaranteed net table run → s < length net.ports.items
    → queue_text (name_at d.port_names s) (port_at net s) q (rates_at net s q) (row_in table s q) ≡ queue_view row
    → QueueIsKept d net run row
queue_kept d net table run row s q g h e =
    let B : (ℕ × Option ℕ × Option ℕ) → Type 0 =
    λ p. IsQueueBounded (flat (routes_of net)) run s p.0 (or_infinite printed p.1) (or_infinite whole p.2) in
    record {
      port = s;
      inside = h;
      name = ap (λ (x : QueueText). x.name) (sym e);
      bounded =
          subst B (ap (λ (x : QueueText). (x.queue, x.delay, x.backlog)) e)
          (queue_bounded net table run s q (row_in table s q) g h refl);
    }

queues_kept : (d : DocumentText) (net : Network) (table : Table) (report : Report) (run : SpecRun) (k : ℕ)
    (row : QueueRow)
    → IsGuaranteed net table run → IsReportOf d net table report → slice_get report.queues.items k ≡ Some row
    → QueueIsKept d net run row
queues_kept d net table report run k row g is e =
    let told = told_queue d net table report k row is e in
    queue_kept d net table run row told.port told.queue g told.inside told.is

-- ---- branches
has_bound : (net : Network) (table : Table) (run : SpecRun) (i place bound : ℕ) (found : Option Link)
    → IsGuaranteed net table run
    → IsTableOf net table → slice_get net.links.items i ≡ found → get_or (bounds_in table i) place None ≡ Some bound
    → AreAtMost (Fin (micros bound)) (delays_to (routes_of net) run i (port_in found place))
has_bound net table run i place bound None g is e f =
    let out = past net.links.items i e in
    let long = length-map table.bounds.items (λ v. v.items) in
    let none : bounds_in table i ≡ [] = get_or_past (items_of table.bounds.items) i []
    (omega (arith, out, long, is.links)) in
    let no : None ≡ Some bound = sym (ap (λ (xs : List (Option ℕ)). get_or xs place None) none) ∙ f in
    absurd (cc)
has_bound net table run i place bound (Some link) g is e f =
    elim (cases_lt place (length link.nodes.items)) [
      | inl l ↦ g.branches i place bound link e l f
      | inr l ↦
          let count = (is.bounds i link e).count in
          let none : get_or (bounds_in table i) place None ≡ None =
          get_or_past (bounds_in table i) place None (omega (arith, l, count)) in
          let no : None ≡ Some bound = sym none ∙ f in
          absurd (cc)
    ]

branch_bounded : (net : Network) (table : Table) (run : SpecRun) (b : BranchOnGrid) (bound : Option ℕ)
    → IsGuaranteed net table run
    → IsTableOf net table → get_or (bounds_in table b.link) b.node None ≡ bound
    → AreAtMost (or_infinite printed bound) (delays_to (routes_of net) run b.link (last_port net b))
branch_bounded net table run b None g is e =
    none_above_infinity (delays_to (routes_of net) run b.link (last_port net b))
branch_bounded net table run b (Some bound) g is e =
    at_most_more (Fin (micros bound)) (Fin (printed bound)) (delays_to (routes_of net) run b.link (last_port net b))
    (printed_covers bound)
    (has_bound net table run b.link b.node bound (slice_get net.links.items b.link) g is refl e)

-- what is told as met
met_covers : (bound top n : ℕ) → bound * suc n ≤ top * 1000000 → micros bound ≤ℚ frac (pos top) n
unfolding micros picosecond
met_covers bound top n h =
    let P : ℚ → Type 0 = λ x. x ≤ℚ frac (pos top) n in
    subst P (sym (mul_whole (pos bound) (pos 1) 999999))
    ((le_frac (pos bound *ℤ pos 1) 999999 (pos top) n).1 (omega (arith, ints, h)))

below_of_test : (a b : ℕ) → nat_le a b ≡ true → a ≤ b
below_of_test a b e = leb-true a b e

amount_covers : (bound top bottom : ℕ) → 0 < bottom → bound * bottom ≤ top * 1000000
    → micros bound ≤ℚ frac (pos top) (pred bottom)
amount_covers bound top zero some h = absurd (omega (arith, some))
amount_covers bound top (suc n) some h = met_covers bound top n h

deadline_kept : (net : Network) (table : Table) (run : SpecRun) (b : BranchOnGrid) (bound : Option ℕ)
    (deadline : Amount) → IsGuaranteed net table run
    → IsTableOf net table → get_or (bounds_in table b.link) b.node None ≡ bound → IsAmount deadline
    → is_met bound deadline ≡ true
    → AreAtMost (Fin (exact deadline)) (delays_to (routes_of net) run b.link (last_port net b))
deadline_kept net table run b None deadline g is e a met = absurd (cc)
deadline_kept net table run b (Some bound) deadline g is e a met =
    at_most_more (Fin (micros bound)) (Fin (exact deadline)) (delays_to (routes_of net) run b.link (last_port net b))
    (amount_covers bound deadline.top deadline.bottom a.some
    (below_of_test (bound * deadline.bottom) (deadline.top * 1000000) met))
    (has_bound net table run b.link b.node bound (slice_get net.links.items b.link) g is refl e)

branches_kept : (d : DocumentText) (net : Network) (table : Table) (report : Report) (run : SpecRun) (k : ℕ)
    (b : BranchOnGrid)
    (row : BranchRow) → IsGuaranteed net table run → IsTableOf net table → IsReportOf d net table report
    → All (λ (r : BranchRow). HasDeadlineInRange r.deadline) report.branches.items → slice_get d.branches k ≡ Some b
    → slice_get report.branches.items k ≡ Some row → BranchIsKept d net run b row
branches_kept d net table report run k b row g bounded is timed e f =
    let same = told_branch d net table report k b row is e f in
    record {
      link = ap (λ (x : BranchText). x.link) (sym same);
      port = ap (λ (x : BranchText). x.port) (sym same);
      bounded = branch_bounded net table run b row.bound g bounded (ap (λ (x : BranchText). x.bound) same);
      met = λ deadline has met.
          let D : Option Amount → Type 0 = λ o. HasDeadlineInRange o in
          let R : BranchRow → Type 0 = λ r. HasDeadlineInRange r.deadline in
          let inside = slice_get_within report.branches.items k row f in
          let ranged = subst R (get_or_from_slice_get report.branches.items k row row f) (timed k row inside) in
          deadline_kept net table run b row.bound deadline g bounded (ap (λ (x : BranchText). x.bound) same)
          (subst D has ranged) met;
    }

pub reports_are_kept : (d : DocumentText) (net : Network) (table : Table) (report : Report) → IsNetwork net
    → IsTableOf net table
    → IsReportOf d net table report → All (λ (r : BranchRow). HasDeadlineInRange r.deadline) report.branches.items
    → Guarantees d net report
reports_are_kept d net table report w bounded is timed = λ run h.
    let g = tables_keep net table run w bounded h in
    record {
      queues = λ k row e. queues_kept d net table report run k row g is e;
      branches = λ k b row e f. branches_kept d net table report run k b row g bounded is timed e f;
    }
