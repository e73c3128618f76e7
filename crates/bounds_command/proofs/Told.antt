-- What is printed of the times of a report.
use Rattle.std.proofs.Common.{◌≡◌, ℕ, ◌<◌, ◌+◌, ◌*◌, ◌/◌, ◌^◌, pos, ◌*ℤ◌, Option, Some, None, List, [], length, get_or, map, refl, sym, ◌∙◌, ap, subst, arith, inl, inr}
use Rattle.std.specs.Prelude.{IfSome, slice_get, option_map}
use Rattle.std.proofs.lemmas.Bool.{cases_lt}
use Rattle.std.proofs.lemmas.Int.{ints}
use Rattle.std.proofs.lemmas.List.{get_or_past, length-map}
use Rattle.std.proofs.lemmas.Option.{slice_get-map}
use Rattle.rational.specs.Rational.{ℚ, frac, ◌<ℚ◌}
use Rattle.rational.specs.Fractions.{frac-same}
use Rattle.rational.proofs.Integers.{mul_whole}
use Rattle.arrival_lines.specs.Grid.{micros, picosecond}
use Rattle.arrival_lines.specs.declared.grid.Queue.{Queue}
use Rattle.rational.proofs.Over.{lt_over}
use Rattle.arrival_lines.proofs.Units.{micros_le}
use Rattle.tree_network.specs.Networks.{IsNetwork}
use Rattle.tree_network.specs.declared.network.Link.{Link}
use Rattle.tree_network.specs.declared.network.Network.{Network}
use Rattle.document_tables.specs.Documents.{DocumentText}
use Rattle.tree_bounds.specs.Tables.{IsTableOf, row_in, bounds_in, items_of}
use Rattle.tree_bounds.specs.declared.analysis.Table.{Table}
use Rattle.rounded_runs.specs.Written.{exact}
use Rattle.bounds_report.specs.Laws.{over_thousand}
use Rattle.bounds_report.specs.declared.rows.QueueRow.{QueueRow}
use Rattle.bounds_report.specs.declared.rows.BranchRow.{BranchRow}
use Rattle.bounds_report.specs.declared.rows.Report.{Report}
use Rattle.bounds_report.proofs.Read.{texts_are_numbers}
use Rattle.bounds_command.specs.Laws.{TellsTime, ReportsTellBounds}
use Rattle.bounds_command.specs.Reports.{IsReportOf, QueueText, BranchText, branch_view, branch_text}
use Rattle.bounds_command.proofs.Places.{in_map, past}
use Rattle.bounds_command.proofs.Short.{IsShort, row_short, bound_short}
use Rattle.bounds_command.proofs.ToldRows.{told_queue}

-- ---- one time
micros_is : (n : ℕ) → micros n ≡ frac (pos n *ℤ pos 1) 999999
unfolding micros picosecond
micros_is n = mul_whole (pos n) (pos 1) 999999

micros_lt : (a b : ℕ) → a < b → micros a <ℚ micros b
micros_lt a b h =
    subst (λ (x : ℚ). x <ℚ micros b) (sym (micros_is a))
    (subst (λ (y : ℚ). frac (pos a *ℤ pos 1) 999999 <ℚ y) (sym (micros_is b)) ((lt_over (pos a *ℤ pos 1) (pos b *ℤ pos 1) 999999).1 (omega (arith, ints, h))))

thousandths_are : (n : ℕ) → exact (over_thousand n) ≡ micros (n * 1000)
thousandths_are n = frac-same (pos n) 999 (pos (n * 1000) *ℤ pos 1) 999999 (omega (arith, ints)) ∙ sym (micros_is (n * 1000))

tells_time : (time : ℕ) → time < 2 ^ 64 → TellsTime time
tells_time time short = record {
  amount = over_thousand ((time + 999) / 1000);
  reads = texts_are_numbers.times time short;
  promised = thousandths_are ((time + 999) / 1000);
  no_less = micros_le time ((time + 999) / 1000 * 1000) (omega arith);
  close = micros_lt ((time + 999) / 1000 * 1000) (time + 1000) (omega arith);
}

-- ---- rows
delay_short : (row : Option Queue) (delay : ℕ) → IsShort row → option_map (λ found. found.delay) row ≡ Some delay → delay < 2 ^ 50
delay_short None delay s e = cc
delay_short (Some queue) delay s e = let same : queue.delay ≡ delay = cc in omega (arith, s, same)

bound_within : (o : Option ℕ) (bound : ℕ) → IfSome o (λ b. b < 2 ^ 64) → o ≡ Some bound → bound < 2 ^ 64
bound_within None bound s e = cc
bound_within (Some b) bound s e = let same : b ≡ bound = cc in omega (arith, s, same)

module _ (d : DocumentText) (net : Network) (table : Table) (report : Report) (w : IsNetwork net) (is : IsTableOf net table)
    (tells : IsReportOf d net table report) where
  queue_tells : (k delay : ℕ) (row : QueueRow) → slice_get report.queues.items k ≡ Some row → row.delay ≡ Some delay → TellsTime delay
  queue_tells k delay row e has =
      let told = told_queue d net table report k row tells e in
      let short = row_short net table told.port told.queue is told.inside told.within in
      let less = delay_short (row_in table told.port told.queue) delay short (ap (λ (x : QueueText). x.delay) told.is ∙ has) in
      tells_time delay (omega (arith, less))

  past_bound : (i place bound : ℕ) (found : Option Link) → slice_get net.links.items i ≡ found → get_or (bounds_in table i) place None ≡ Some bound → bound < 2 ^ 64
  past_bound i place bound None e f =
      let out = past net.links.items i e in
      let long = length-map table.bounds.items (λ v. v.items) in
      let none : bounds_in table i ≡ [] = get_or_past (items_of table.bounds.items) i [] (omega (arith, out, long, is.links)) in
      let no : None ≡ Some bound = sym (ap (λ (xs : List (Option ℕ)). get_or xs place None) none) ∙ f in
      absurd (cc)
  past_bound i place bound (Some link) e f =
      elim (cases_lt place (length link.nodes.items)) [
        | inl l ↦ bound_within (get_or (bounds_in table i) place None) bound (bound_short net table i place link w is e l) f
        | inr l ↦
            let count = (is.bounds i link e).count in
            let no : None ≡ Some bound = sym (get_or_past (bounds_in table i) place None (omega (arith, l, count))) ∙ f in
            absurd (cc)
      ]

  branch_tells : (k bound : ℕ) (row : BranchRow) → slice_get report.branches.items k ≡ Some row → row.bound ≡ Some bound → TellsTime bound
  branch_tells k bound row e has =
      let viewed : slice_get (map (branch_text d net table) d.branches) k ≡ Some (branch_view row) =
      ap (λ (xs : List BranchText). slice_get xs k) (sym tells.branches) ∙ (slice_get-map branch_view report.branches.items k ∙ ap (option_map branch_view) e) in
      let one = in_map (branch_text d net table) d.branches k (branch_view row) viewed in
      tells_time bound (past_bound one.of.link one.of.node bound (slice_get net.links.items one.of.link) refl (ap (λ (x : BranchText). x.bound) one.is ∙ has))

pub reports_tell_bounds : ReportsTellBounds
reports_tell_bounds d net table report w is tells = record {
  delays = λ k delay row e has. queue_tells d net table report w is tells k delay row e has;
  bounds = λ k bound row e has. branch_tells d net table report w is tells k bound row e has;
}
