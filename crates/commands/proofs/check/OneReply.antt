-- Two replies on the same files have one status, and one text unless it tells a cycle; within the limits they are reports.
use Rattle.std.proofs.Common.{◌≡◌, ℕ, ◌<◌, ◌^◌, List, inl, inr, sym, ap, ◌∙◌}
use Rattle.std.specs.Prelude.{◌⊎◌}
use native.Mathlib.Nat.{not-le_of_lt}
use Rattle.run_laws.specs.Runs.{SpecRun}
use Rattle.net_model.specs.Accepted.{IsAccepted}
use Rattle.net_model.specs.Networks.{Net}
use Rattle.net_model.specs.NetRoutes.{routes_of}
use Rattle.net_model.specs.Orders.{IsOrder}
use Rattle.net_cells.specs.Equations.{MeetsEquations}
use Rattle.net_cells.specs.Meanings.{CellTable}
use Rattle.run_check.specs.declared.broken_laws.law.Law.{Law}
use Rattle.run_check.proofs.broken_laws.WholeRuns.{broken_is_unlawful, first_once}
use Rattle.run_check.proofs.Started.{has_paths}
use Rattle.run_check.specs.check_gauge.Gauge.{check_gauge}
use Rattle.run_watch.specs.simulated_sizes.Laws.{AreCurves}
use Rattle.run_check.specs.declared.run_table.fault.RunFault.{RunFault}
use Rattle.run_check.specs.run_table.Runs.{IsRunOf}
use Rattle.run_check.proofs.run_table.OneRun.{readings_are_one}
use Rattle.input_texts.specs.table_text.Rows.{rows_of}
use Rattle.command_replies.specs.Replies.{Reply, AreSame}
use Rattle.command_replies.specs.OnFiles.{IsTableOf, OnCurves}
use Rattle.outcomes.specs.Stages.{AreAlike, GoOnAlike}
use Rattle.command_replies.proofs.OneRefusal.{equal, one_cycle}
use Rattle.command_replies.proofs.OneReply.{file_alike, table_alike, file_reached, table_reached}
use Rattle.outcomes.proofs.Stages.{one_staged, on_one, reached}
use Rattle.command_replies.specs.run_findings.Statuses.{IsOfReport}
use Rattle.command_replies.proofs.run_findings.Reports.{same_telling}
use Rattle.run_check.specs.check_report.CheckReport.{lawful_report_of}
use Rattle.run_check.proofs.check_report.OneReport.{one_check_report}
use Rattle.commands.specs.check.Checked.{packets_in, run_fault_reply, unlawful_report, IsUnlawfulOn, IsLawfulOn, IsVerdictReply}
use Rattle.commands.specs.check.Laws.{RepliesAreDetermined, RepliesAreComplete}
use Rattle.commands.specs.check.OnRuns.{IsBadRunOf, IsCheckReplyOnRun, IsCheckReplyOnNet}
use Rattle.commands.proofs.check.Causes.{of_report}

module _ (net : Net) (run : SpecRun) (order : List ℕ) (at other : CellTable) (x y : Reply) (a : IsAccepted net)
    (o : IsOrder net order) (curves : AreCurves net) (m : MeetsEquations net at) (n : MeetsEquations net other) where
  -- one first broken law
  same_broken : IsUnlawfulOn net run x → IsUnlawfulOn net run y → x ≡ y
  same_broken h k =
      let one = first_once (routes_of net) run h.row k.row h.law k.law h.first k.first in
      h.is ∙ ap (λ (n : ℕ). unlawful_report net run n h.law) one.0
      ∙ ap (λ (l : Law). unlawful_report net run k.row l) one.1 ∙ sym k.is

  no_two_ways : (r : Reply) (t : CellTable) (s : Reply) → IsUnlawfulOn net run r → IsLawfulOn net run t s → ⊥
  no_two_ways r t s h k = broken_is_unlawful (routes_of net) run h.row h.law (has_paths net a) h.first k.lawful

  same_verdict : IsUnlawfulOn net run x ⊎ IsLawfulOn net run at x
      → IsUnlawfulOn net run y ⊎ IsLawfulOn net run other y → x ≡ y
  same_verdict (inl h) (inl k) = same_broken h k
  same_verdict (inl h) (inr k) = absurd (no_two_ways x other y h k)
  same_verdict (inr h) (inl k) = absurd (no_two_ways y at x k h)
  same_verdict (inr h) (inr k) =
      same_telling lawful_report_of net run (packets_in run.steps) at other x y h.lawful a curves
      (λ found. one_check_report net order at other found a o m n) h.tells k.tells

  same_check : IsVerdictReply net run at x → IsVerdictReply net run other y → x ≡ y
  same_check (inl h) (inl k) = h.is ∙ sym k.is
  same_check (inl h) (inr k) = absurd (not-le_of_lt k.narrow h.over)
  same_check (inr h) (inl k) = absurd (not-le_of_lt h.narrow k.over)
  same_check (inr h) (inr k) = same_verdict h.verdict k.verdict

-- ---- by stages
verdicts_alike : (net : Net) (run : SpecRun) (order : List ℕ) → IsAccepted net → IsOrder net order
    → GoOnAlike AreSame (IsTableOf net order) (OnCurves net (IsVerdictReply net run))
verdicts_alike net run order a o at other x y m n h k =
    equal x y (same_check net run order at other x y a o h.0 m.meets n.meets h.1 k.1)

on_run : (net : Net) (run : SpecRun) → IsAccepted net → AreAlike AreSame (IsCheckReplyOnRun net run)
on_run net run a =
    table_alike AreSame equal net (OnCurves net (IsVerdictReply net run)) a (one_cycle net)
    (λ order o. verdicts_alike net run order a o)

same_fault : (f g : RunFault) → f.kind ≡ g.kind → f.row ≡ g.row → f ≡ g
same_fault f g kind row =
    ap (λ k. record { kind = k; row = f.row }) kind ∙ ap (λ n. record { kind = g.kind; row = n }) row

one_bad : (net : Net) (run_file run_bytes : List ℕ) → IsAccepted net
    → AreAlike AreSame (IsBadRunOf net run_file run_bytes)
one_bad net run_file run_bytes a x y h k =
    let one =
    (readings_are_one net run_bytes a).fault h.fault.kind k.fault.kind h.fault.row k.fault.row h.first k.first in
    equal x y (h.is ∙ ap (run_fault_reply run_file) (same_fault h.fault k.fault one.0 one.1) ∙ sym k.is)

on_net : (net : Net) (run_file run_bytes : List ℕ) → IsAccepted net
    → AreAlike AreSame (IsCheckReplyOnNet net run_file run_bytes)
on_net net run_file run_bytes a =
    let says = readings_are_one net run_bytes a in
    one_staged (IsBadRunOf net run_file run_bytes) (IsRunOf net (rows_of run_bytes)) (IsCheckReplyOnRun net) AreSame
    (λ r run h reads. says.not_both run h.fault.kind h.fault.row reads h.first)
    (one_bad net run_file run_bytes a)
    (on_one (IsRunOf net (rows_of run_bytes)) (IsCheckReplyOnRun net) AreSame says.run
    (λ run reads. on_run net run a))

pub replies_are_determined : RepliesAreDetermined
replies_are_determined net_file net_bytes run_file run_bytes x y h k =
    file_alike AreSame equal net_file net_bytes (λ net. IsCheckReplyOnNet net run_file run_bytes)
    (λ net given. on_net net run_file run_bytes given.accepted) x y h k

-- ---- within the limits
on_check : (net : Net) (run : SpecRun) (at : CellTable) (reply : Reply) → check_gauge net run < 2 ^ 120
    → IsVerdictReply net run at reply → IsOfReport reply.status
on_check net run at reply narrow (inl h) = absurd (not-le_of_lt narrow h.over)
on_check net run at reply narrow (inr h) = of_report net run at reply h

pub replies_are_complete : RepliesAreComplete
replies_are_complete net_file net_bytes run_file run_bytes reply w h =
    let on =
    file_reached net_file net_bytes (λ net. IsCheckReplyOnNet net run_file run_bytes) w.net reply w.reads h in
    let says = readings_are_one w.net run_bytes on.accepted in
    let run =
    reached (IsBadRunOf w.net run_file run_bytes) (IsRunOf w.net (rows_of run_bytes)) (IsCheckReplyOnRun w.net) w.run
    reply (λ bad. says.not_both w.run bad.fault.kind bad.fault.row w.rows bad.first)
    (λ other reads. says.run other w.run reads w.rows) on.said in
    let told =
    table_reached w.net (OnCurves w.net (IsVerdictReply w.net w.run)) reply w.feed_forward w.within run in
    on_check w.net w.run told.0 reply w.narrow told.1.1
