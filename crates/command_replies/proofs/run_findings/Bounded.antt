-- What is found in a run that keeps the premises is within the bounds of its network.
use Rattle.std.proofs.Common.{◌≡◌, ℕ, ◌<◌, List, [], length, get_or, inl, inr, sym, ap, ◌∙◌, subst}
use Rattle.std.specs.Prelude.{pos, Some, option_and_then, IsTrue, slice_get}
use Rattle.std.specs.Option.{option_map}
use Rattle.std.proofs.lemmas.Option.{slice_get-get_or}
use Rattle.rational.specs.Rational.{ℚ, int, ◌≤ℚ◌}
use Rattle.rational.specs.Extended.{Ext, ◌≤ₑ◌}
use Rattle.rational.specs.declared.Extended.TheVariants.{Fin, Inf}
use Rattle.run_laws.specs.Cards.{whole, of_queue}
use Rattle.run_laws.specs.Delays.{AreAtMost}
use Rattle.run_laws.specs.FlowDelays.{delays_from}
use Rattle.run_laws.specs.Routes.{Routes, server_at}
use Rattle.run_laws.specs.Runs.{SpecRun}
use Rattle.run_laws.specs.Servers.{queue_count}
use Rattle.net_model.specs.Accepted.{IsAccepted}
use Rattle.net_model.specs.Networks.{Net}
use Rattle.net_model.specs.NetRoutes.{routes_of}
use Rattle.net_cells.specs.declared.cell.Kind.TheVariants.{QueueBacklog, Bound}
use Rattle.net_cells.specs.Cells.{cell_of}
use Rattle.net_cells.specs.Meanings.{CellTable}
use Rattle.net_cells.specs.Numbered.{is_live, queues}
use Rattle.net_cells.proofs.Places.{live_inside}
use Rattle.net_cells.proofs.TableValues.{same_number}
use Rattle.net_bounds.specs.Guarantee.{IsKept}
use Rattle.net_bounds.specs.Promises.{seen_by, HoldsAtMost}
use Rattle.net_bounds.proofs.Kept.{table_bounds_every_run, with_queues}
use Rattle.net_bounds.proofs.Routed.{servers_are, discipline_is}
use Rattle.simulator.specs.run_measures.Peaks.{IsPeak, ArePeaks, peak_in}
use Rattle.simulator.specs.run_measures.Worst.{IsLargest, AreWorst}
use Rattle.report_text.specs.RunReport.{peak_at}
use Rattle.command_replies.specs.run_findings.FindingLaws.{QuietFindingsAreWithinBounds}
use Rattle.command_replies.specs.run_findings.RunBounds.{IsWithin}
use Rattle.command_replies.proofs.run_findings.AtLeastZero.{Given, bound_nonneg}
use Rattle.command_replies.proofs.run_findings.Before.{empty_by}
use Rattle.command_replies.proofs.run_findings.OneRun.{most_at}
use Rattle.min_plus.specs.Functions.{IsNonneg}

-- ---- numbers
largest_within : (xs : List ℚ) (w : ℚ) (most : Ext) → IsLargest xs w → IsNonneg most → AreAtMost most xs
    → Fin w ≤ₑ most
largest_within xs w Inf h from all = tt
largest_within xs w (Fin d) h from all = elim h.reached [
  | inl none ↦ subst (λ x. x ≤ℚ d) (sym none) from
  | inr there ↦ subst (λ x. x ≤ℚ d) there.2 (most_at d w xs there.0 all there.1)
]

peak_within : (net : Net) (run : SpecRun) (s q bits : ℕ) (most : Ext) → IsPeak (routes_of net) run s q bits
    → HoldsAtMost (of_queue q) run (seen_by net run s) most → Fin (whole bits) ≤ₑ most
peak_within net run s q bits most h holds = elim h.reached [
  | inl none ↦
      let e = empty_by (of_queue q) (seen_by net run s) run.end in
      subst (λ n. Fin (whole n) ≤ₑ most) (sym none) (subst (λ x. Fin x ≤ₑ most) e.none (holds e.time e.by))
  | inr there ↦ subst (λ x. Fin x ≤ₑ most) there.there (holds there.time there.in_run)
]

-- ---- a flow
delay_within : (net : Net) (order : List ℕ) (at : CellTable) (run : SpecRun) (worst : List ℚ) (i : ℕ)
    → Given net order at → IsKept net at run
    → AreWorst (routes_of net) run.end run.steps (length net.flows) worst → IsTrue (is_live net i)
    → IsWithin at (cell_of Bound i 0) (slice_get worst i)
delay_within net order at run worst i g kept w live =
    let c = cell_of Bound i 0 in
    let own = (kept.paths i live).bound in
    let here : i < length net.flows = live_inside net i live in
    let long : i < length worst = subst (λ n. i < n) (sym w.as_many) here in
    let x = get_or worst i (int (pos 0)) in
    let low = bound_nonneg net order at i g live in
    let from : IsNonneg own.value = subst IsNonneg (same_number at c low.value own.value low.is own.is) low.holds in
    record {
      value = x;
      is = slice_get-get_or worst i (int (pos 0)) long;
      within = record {
        value = own.value;
        is = own.is;
        holds = largest_within (delays_from (routes_of net) i run.end run.steps) x own.value (w.each i here) from
            own.holds;
      };
    }

-- ---- a queue
-- the peak that is shown
told : (net : Routes) (run : SpecRun) (peaks : List (List ℕ)) (s q : ℕ) → ArePeaks net run peaks
    → s < length net.servers → q < queue_count (server_at net s).discipline
    → peak_at peaks s q ≡ Some (peak_in peaks s q)
told net run peaks s q p l r =
    let row = get_or peaks s [] in
    let here : s < length peaks = subst (λ n. s < n) (sym p.as_many) l in
    let there : q < length row = subst (λ n. q < n) (sym (p.row s l)) r in
    ap (option_and_then (λ row. slice_get row q)) (slice_get-get_or peaks s [] here) ∙ slice_get-get_or row q 0 there

backlog_within : (net : Net) (at : CellTable) (run : SpecRun) (peaks : List (List ℕ)) (s q : ℕ) → IsAccepted net
    → IsKept net at run → ArePeaks (routes_of net) run peaks → q < queues net s
    → IsWithin at (cell_of QueueBacklog s q) (option_map whole (peak_at peaks s q))
backlog_within net at run peaks s q a kept p h =
    let own = (kept.queues s q h).holds in
    let known = with_queues net s q h in
    let l : s < length (routes_of net).servers = subst (λ n. s < n) (sym (servers_are net)) known in
    let r : q < queue_count (server_at (routes_of net) s).discipline =
    subst (λ d. q < queue_count d) (sym (discipline_is net s a known)) h in
    let bits = peak_in peaks s q in
    record {
      value = whole bits;
      is = ap (option_map whole) (told (routes_of net) run peaks s q p l r);
      within = record {
        value = own.value;
        is = own.is;
        holds = peak_within net run s q bits own.value (p.each s q l r) own.holds;
      };
    }

-- ---- all that is found
pub within : QuietFindingsAreWithinBounds
within net order at run entered found a o meets is_run f =
    let g : Given net order at = record { accepted = a; ordered = o; meets = meets } in
    let kept = table_bounds_every_run net order at run a o meets is_run in
    record {
      delays = λ i live. delay_within net order at run found.worst i g kept f.worst live;
      backlogs = λ s q h. backlog_within net at run found.peaks s q a kept f.peaks h;
    }
