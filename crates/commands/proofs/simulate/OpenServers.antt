-- Servers of kind latency or gate that have no stall break nothing in the run of a report.
use Rattle.std.proofs.Common.{◌≡◌, ℕ, ◌<◌, sym, subst, Some}
use Rattle.std.specs.Prelude.{Option}
use Rattle.std.proofs.lemmas.Option.{slice_get_within}
use Rattle.std.proofs.lemmas.List.{length-map}
use Rattle.run_laws.specs.Runs.{SpecRun}
use Rattle.net_model.specs.declared.breach.Breach.{Breach}
use Rattle.net_model.specs.declared.breach.Breach.TheVariants.{Service}
use Rattle.net_model.specs.Networks.{Net}
use Rattle.net_model.specs.NetRoutes.{server_for}
use Rattle.run_watch.specs.first_breaches.Firsts.{TellsFirst, IsNetBreach}
use Rattle.run_watch.proofs.first_breaches.Parts.{have_curves, kept_is_not_slow}
use Rattle.input_texts.specs.table_text.Rows.{rows_of}
use Rattle.command_replies.proofs.simulated_findings.OpenServers.{keeps}
use Rattle.commands.specs.simulate.Laws.{OpenServersBreakNothing}
use Rattle.commands.proofs.simulate.Named.{named}
use Rattle.commands.proofs.simulate.Status.{law_of}

pub open_servers_break_nothing : OpenServersBreakNothing
open_servers_break_nothing net_bytes trace_bytes reply h s server at kind free a b =
    let A = h.analysed in
    let net = h.net in
    let run = h.report.run in
    let lawful = law_of net_bytes trace_bytes reply h in
    let names = named net (rows_of trace_bytes) h.trace A.read.reads in
    let kept = keeps net h.trace run s server A.gives.accepted A.read.keeps names h.report.stated at kind free in
    let known = slice_get_within net.servers s server at in
    let inside = subst (λ (n : ℕ). s < n) (sym (length-map net.servers (server_for net.version))) known in
    let serves = (have_curves net A.gives.accepted A.curves.services).servers s inside in
    let none : ¬ IsNetBreach net run (Service s a b) = kept_is_not_slow net run s a b lawful serves kept in
    (none, λ e. none (told net run h.report.tells.found.breach (Service s a b) e h.report.tells.finds.breach))
  where
    told : (net : Net) (run : SpecRun) (o : Option Breach) (x : Breach) → o ≡ Some x → TellsFirst net run o
        → IsNetBreach net run x
    told net run o x e h = let k : TellsFirst net run (Some x) = subst (TellsFirst net run) e h in k.is
