-- Servers of kind latency or gate that have no stall keep their service curves in the stated run.
use Rattle.std.proofs.Common.{◌≡◌, ◌∙◌, ℕ, ◌<◌, List, [], ◌∷◌, map, length, arith, refl, sym, subst, ap, inl, inr, Some}
use Rattle.std.specs.Prelude.{zero, suc, All, Option, Bool, true, false, slice_get, slice_set}
use Rattle.std.specs.Option.{option_map}
use Rattle.std.proofs.lemmas.Bool.{ne_eqb}
use Rattle.std.proofs.lemmas.Option.{slice_get_cases, slice_get-map}
use Rattle.std.proofs.lemmas.List.{length-map}
use Rattle.upp_curve.specs.Curve.{SpecCurve, value_at}
use Rattle.run_laws.specs.Runs.{SpecRun}
use Rattle.run_laws.specs.Views.{view}
use Rattle.run_laws.specs.Premises.{KeepsService}
use Rattle.net_model.specs.Accepted.{IsAccepted}
use Rattle.net_model.specs.declared.server.Server.{Server}
use Rattle.net_model.specs.declared.server.ServiceKind.{ServiceKind}
use Rattle.net_model.specs.declared.server.ServiceKind.TheVariants.{Latency, Gate, Listed}
use Rattle.net_model.specs.declared.trace.Stall.{Stall}
use Rattle.net_model.specs.Networks.{Net, NetServer}
use Rattle.net_model.specs.NetRoutes.{routes_of}
use Rattle.net_model.specs.Traces.{SpecTrace, IsTrace}
use Rattle.net_model.specs.Views.{server_of, servers_of}
use Rattle.net_cells.specs.Numbered.{service_of}
use Rattle.net_model.specs.stated_runs.FromTraces.{setup_of, stalls_at, IsTraceOf}
use Rattle.net_model.specs.stated_runs.Simulated.{IsSimulated}
use Rattle.sim_bounds.specs.stated_service.Laws.{IsByFormula}
use Rattle.sim_bounds.proofs.stated_service.Kept.{servers_keep}
use Rattle.run_watch.specs.first_breaches.Kept.{KeepsCurve, AreKept}
use Rattle.command_replies.specs.simulated_findings.Told.{is_by_formula, by_formula, less_stalled, open_servers}

-- ---- what is told
-- a place that still holds true after a write of false is another one
record IsUntouched (told : List Bool) (k s : ℕ) : Type 0 where
  is : slice_get told s ≡ Some true
  other : k ≡ s → ⊥

untouched : (told : List Bool) (k s : ℕ) → slice_get (slice_set told k false) s ≡ Some true → IsUntouched told k s
untouched [] k s h = absurd (cc)
untouched (x ∷ xs) zero zero h = absurd (cc)
untouched (x ∷ xs) zero (suc s) h = record { is = h; other = λ e. absurd (cc) }
untouched (x ∷ xs) (suc k) zero h = record { is = h; other = λ e. absurd (cc) }
untouched (x ∷ xs) (suc k) (suc s) h = let u = untouched xs k s h in record { is = u.is; other = λ e. u.other (cc) }

-- a server of which a true is left has no stall, and had the true
record IsOpen (told : List Bool) (stalls : List Stall) (s : ℕ) : Type 0 where
  is : slice_get told s ≡ Some true
  free : stalls_at s stalls ≡ []

open_at : (told : List Bool) (stalls : List Stall) (s : ℕ) → slice_get (less_stalled told stalls) s ≡ Some true
    → IsOpen told stalls s
open_at told [] s h = record { is = h; free = refl }
open_at told (x ∷ xs) s h =
    let rest = open_at (slice_set told x.server false) xs s h in
    let u = untouched told x.server s rest.is in
    record { is = u.is; free = rw (ne_eqb x.server s u.other) rest.free }

formula : (kind : ServiceKind) → is_by_formula kind ≡ true → IsByFormula kind
formula (Latency latency) h = tt
formula (Gate cycle slot) h = tt
formula Listed h = absurd (cc)

abbrev kinds : Option NetServer → Option Bool
kinds = option_map (λ (y : NetServer). is_by_formula y.kind)

some_kind : (x : NetServer) (o : Option NetServer) → o ≡ Some x → kinds o ≡ Some true → is_by_formula x.kind ≡ true
some_kind x o e h = let f : kinds o ≡ Some (is_by_formula x.kind) = ap kinds e in cc

-- ---- what they keep
pub keeps : (net : Net) (trace : SpecTrace) (run : SpecRun) (s : ℕ) (x : NetServer) → IsAccepted net → IsTrace trace
    → IsTraceOf net trace → IsSimulated (setup_of net trace) run
    → slice_get net.servers s ≡ Some x → IsByFormula x.kind → stalls_at s trace.stalls ≡ [] → KeepsCurve net run s
keeps net trace run s x a t n is at kind free =
    subst (λ (c : SpecCurve). KeepsService (value_at c) run.end (view (routes_of net) run s)) (ap service_of (sym at))
    (servers_keep net trace run a t n is s x at kind free)

pub open_are_kept : (net : Net) (trace : SpecTrace) (run : SpecRun) (told : List Bool) → IsAccepted net
    → IsTrace trace → IsTraceOf net trace → IsSimulated (setup_of net trace) run
    → told ≡ open_servers net trace → AreKept net run told
open_are_kept net trace run told a t n is e s l h =
    let o = open_at (by_formula net.servers) trace.stalls s (ap (λ (v : List Bool). slice_get v s) (sym e) ∙ h) in
    elim (slice_get_cases net.servers s).1 [
      | inl p ↦
          let own = slice_get-map (λ (y : NetServer). is_by_formula y.kind) net.servers s in
          let kind = some_kind p.0 (slice_get net.servers s) p.2 (sym own ∙ o.is) in
          keeps net trace run s p.0 a t n is p.2 (formula p.0.kind kind) o.free
      | inr p ↦ let late = p.0 in absurd (omega arith)
    ]

pub told_of : (servers : List Server)
    → map (λ (s : Server). is_by_formula s.kind) servers ≡ by_formula (servers_of servers)
told_of [] = refl
told_of (x ∷ xs) = ap (λ (bs : List Bool). is_by_formula x.kind ∷ bs) (told_of xs)

-- as the code tells it
pub told_fits : (net : Net) (trace : SpecTrace) (servers : List Server) (told : List Bool) (stalls : List Stall)
    → servers_of servers ≡ net.servers → told ≡ map (λ (s : Server). is_by_formula s.kind) servers
    → stalls ≡ trace.stalls → IsTraceOf net trace → All (λ (s : Stall). s.server < length told) stalls
told_fits net trace servers told stalls e f g named =
    let many : length told ≡ length net.servers =
    ap length f ∙ length-map servers (λ (s : Server). is_by_formula s.kind) ∙ sym (length-map servers server_of)
    ∙ ap length e in
    subst (All (λ (s : Stall). s.server < length told)) (sym g)
    (subst (λ n. All (λ (s : Stall). s.server < n) trace.stalls) (sym many) named.servers)

pub told_is : (net : Net) (trace : SpecTrace) (servers : List Server) (told : List Bool) (stalls : List Stall)
    (left : List Bool) → servers_of servers ≡ net.servers → told ≡ map (λ (s : Server). is_by_formula s.kind) servers
    → stalls ≡ trace.stalls → left ≡ less_stalled told stalls → left ≡ open_servers net trace
told_is net trace servers told stalls left e f g h =
    h ∙ ap (λ (bs : List Bool). less_stalled bs stalls) (f ∙ told_of servers ∙ ap by_formula e)
    ∙ ap (less_stalled (by_formula net.servers)) g
