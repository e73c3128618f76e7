-- The breaches of one flow and of one server as breaches of the network, and what the first of all tells.
use Rattle.std.specs.Prelude.{◌≡◌, ℕ, ◌<◌, List, length, Option, Some, None, true, false, is_some, slice_get}
use Rattle.std.specs.Option.{option_map}
use Rattle.std.proofs.Common.{arith, refl, sym, subst, ap, ◌∙◌, inl, inr}
use Rattle.std.proofs.lemmas.List.{length-map}
use Rattle.std.proofs.lemmas.Option.{slice_get_cases}
use Rattle.rational.specs.Rational.{ℚ}
use Rattle.rational.proofs.ExtendedOrder.{same_le_ext}
use Rattle.upp_curve.specs.Curve.{SpecCurve, value_at}
use Rattle.min_plus.specs.Functions.{IsRising, IsNonnegative}
use Rattle.upp_curve.specs.Curves.{IsCurve}
use Rattle.run_laws.specs.Runs.{SpecRun}
use Rattle.run_laws.specs.Routes.{route_of, server_at}
use Rattle.run_laws.specs.Lawful.{IsLawful}
use Rattle.run_laws.specs.Views.{view}
use Rattle.run_laws.proofs.Views.{views_are_lawful}
use Rattle.net_model.specs.declared.breach.Breach.{Breach}
use Rattle.net_model.specs.declared.breach.Breach.TheVariants.{Size, Arrival, Service}
use Rattle.net_model.specs.Networks.{Net, NetServer, NetFlow}
use Rattle.net_model.specs.NetRoutes.{routes_of, server_for}
use Rattle.net_model.specs.Accepted.{IsAccepted, IsServer}
use Rattle.net_cells.specs.Numbered.{flow_at, is_live, packet, packet_of, arrival, arrival_of, service, service_of}
use Rattle.net_cells.proofs.Stored.{flow_kept, server_kept}
use Rattle.flow_watch.specs.declared.watch_laws.entering.Entering.{Entering}
use Rattle.flow_watch.specs.watch_laws.Entries.{entries, entering, IsCrowded}
use Rattle.flow_watch.specs.watch_laws.Breaches.{IsIdle, IsTooSlow}
use Rattle.flow_watch.specs.watch_laws.Laws.{MayArrive, MayServe, HaveCurves}
use Rattle.flow_watch.proofs.watch_laws.Entered.{in_order}
use Rattle.flow_watch.proofs.watch_laws.Premises.{breaches_tell, watch_points_suffice}
use Rattle.run_watch.specs.declared.found.Found.{Found}
use Rattle.run_watch.specs.FirstOf.{EnterInOrder, IsBest, IsBestBefore, IsLongOn, IsCrowdOn, IsIdleOn}
use Rattle.run_watch.specs.first_breaches.Firsts.{TellsFirst, kind_of, IsOne, IsOfKinds, HaveServices}
use Rattle.run_watch.specs.first_breaches.Kept.{KeepsCurve}
use Rattle.run_watch.proofs.first_breaches.Joined.{best_same, best_before_same}
use Rattle.run_watch.proofs.first_breaches.Routed.{live_is}

-- ---- no flow
not_live : (net : Net) (flow g : ℕ) → None ≡ flow_at net flow → g ≡ flow → (route_of (routes_of net) g).live ≡ true → ⊥
not_live net flow g e same h =
    let dead : is_live net flow ≡ false = ap is_some (sym e) in
    let lives : is_live net flow ≡ true = subst (λ (i : ℕ). is_live net i ≡ true) same (sym (live_is net g) ∙ h) in
    cc

-- one that is not live has no packet that is too long, and no pair with too many bits
pub none_dead : (net : Net) (run : SpecRun) (kind flow : ℕ) → kind < 2 → None ≡ flow_at net flow → IsBest (IsOne net run kind flow) run None
none_dead net run kind flow l e (Size g p) h = not_live net flow g e h.at h.breaks.live
none_dead net run kind flow l e (Arrival g i j) h = not_live net flow g e h.at h.breaks.live
none_dead net run kind flow l e (Service s a b) h = let k = h.kind_is in omega arith

live_at : (net : Net) (flow g : ℕ) (f : NetFlow) → Some f ≡ flow_at net flow → g ≡ flow → (route_of (routes_of net) g).live ≡ true
live_at net flow g f e same = subst (λ (i : ℕ). (route_of (routes_of net) i).live ≡ true) (sym same) (live_is net flow ∙ ap is_some (sym e))

pub live_flow_is : (net : Net) (flow : ℕ) (f : NetFlow) → Some f ≡ flow_at net flow → is_live net flow ≡ true
live_flow_is net flow f e = ap is_some (sym e)

-- the packets of a flow of a lawful run, as they are read
pub enters_in_order : (net : Net) (run : SpecRun) (flow : ℕ) {packets : List Entering} → IsLawful (routes_of net) run → packets ≡ entries flow run.steps
    → EnterInOrder packets
enters_in_order net run flow lawful are = subst EnterInOrder (sym are) (in_order (routes_of net) run flow lawful)

-- ---- sizes
pub size_one : (net : Net) (run : SpecRun) (flow : ℕ) (f : NetFlow) (o : Option Found) → Some f ≡ flow_at net flow → IsBest (IsLongOn run flow f.packet) run o → IsBest (IsOne net run 0 flow) run o
size_one net run flow f o e h = best_same (IsLongOn run flow f.packet) (IsOne net run 0 flow) run o into back h
  where
    longest : f.packet ≡ packet net flow
    longest = ap packet_of e

    into : (y : Breach) → IsLongOn run flow f.packet y → IsOne net run 0 flow y
    into (Size g p) k = record {
      kind_is = refl;
      at = k.0;
      breaks = record {
        live = live_at net flow g f e k.0;
        entered = subst (λ (i : ℕ). p < length (entries i run.steps)) (sym k.0) k.1;
        more = subst (λ (i : ℕ). packet net i < (entering (entries i run.steps) p).bits) (sym k.0) (subst (λ (n : ℕ). n < (entering (entries flow run.steps) p).bits) longest k.2);
      };
    }
    into (Arrival g i j) k = absurd k
    into (Service s a b) k = absurd k

    back : (y : Breach) → IsOne net run 0 flow y → IsLongOn run flow f.packet y
    back (Size g p) k = (
      k.at,
      subst (λ (i : ℕ). p < length (entries i run.steps)) k.at k.breaks.entered,
      subst (λ (n : ℕ). n < (entering (entries flow run.steps) p).bits) (sym longest) (subst (λ (i : ℕ). packet net i < (entering (entries i run.steps) p).bits) k.at k.breaks.more),
    )
    back (Arrival g i j) k = let a = k.kind_is in absurd (omega arith)
    back (Service s a b) k = let a = k.kind_is in absurd (omega arith)

-- ---- arrivals
pub arrival_one : (net : Net) (run : SpecRun) (flow : ℕ) (f : NetFlow) (o : Option Found) → Some f ≡ flow_at net flow → IsBest (IsCrowdOn run flow (value_at f.arrival)) run o → IsBest (IsOne net run 1 flow) run o
arrival_one net run flow f o e h = best_same (IsCrowdOn run flow (value_at f.arrival)) (IsOne net run 1 flow) run o into back h
  where
    curve : f.arrival ≡ arrival net flow
    curve = ap arrival_of e

    into : (y : Breach) → IsCrowdOn run flow (value_at f.arrival) y → IsOne net run 1 flow y
    into (Size g p) k = absurd k
    into (Arrival g i j) k = record {
      kind_is = refl;
      at = k.0;
      breaks = record {
        live = live_at net flow g f e k.0;
        crowded = subst (λ (n : ℕ). IsCrowded (value_at (arrival net n)) (entries n run.steps) i j) (sym k.0)
            (subst (λ (c : SpecCurve). IsCrowded (value_at c) (entries flow run.steps) i j) curve k.1);
      };
    }
    into (Service s a b) k = absurd k

    back : (y : Breach) → IsOne net run 1 flow y → IsCrowdOn run flow (value_at f.arrival) y
    back (Size g p) k = let a = k.kind_is in absurd (omega arith)
    back (Arrival g i j) k = (
      k.at,
      subst (λ (c : SpecCurve). IsCrowded (value_at c) (entries flow run.steps) i j) (sym curve)
          (subst (λ (n : ℕ). IsCrowded (value_at (arrival net n)) (entries n run.steps) i j) k.at k.breaks.crowded),
    )
    back (Service s a b) k = let a = k.kind_is in absurd (omega arith)

-- ---- services
pub service_one : (net : Net) (run : SpecRun) (s : ℕ) (c : SpecCurve) (end : ℚ) (until : Option ℚ) (o : Option Found) → s < length net.servers → c ≡ service net s → end ≡ run.end
    → IsBestBefore until (IsIdleOn end (view (routes_of net) run s) s c) run o → IsBestBefore until (IsOne net run 2 s) run o
service_one net run s c end until o l e at h = best_before_same until (IsIdleOn end (view (routes_of net) run s) s c) (IsOne net run 2 s) run o into back h
  where
    into : (y : Breach) → IsIdleOn end (view (routes_of net) run s) s c y → IsOne net run 2 s y
    into (Size g p) k = absurd k
    into (Arrival g i j) k = absurd k
    into (Service r a b) k = record {
      kind_is = refl;
      at = k.0;
      breaks = subst (λ (i : ℕ). IsTooSlow (routes_of net) (service net) run i a b) (sym k.0) record {
        known = subst (λ (n : ℕ). s < n) (sym (length-map net.servers (server_for net.version))) l;
        idle = subst (λ (d : SpecCurve). IsIdle run.end (view (routes_of net) run s) d a b) e (subst (λ t. IsIdle t (view (routes_of net) run s) c a b) at k.1);
      };
    }

    back : (y : Breach) → IsOne net run 2 s y → IsIdleOn end (view (routes_of net) run s) s c y
    back (Size g p) k = let a = k.kind_is in absurd (omega arith)
    back (Arrival g i j) k = let a = k.kind_is in absurd (omega arith)
    back (Service r a b) k = (
      k.at,
      subst (λ t. IsIdle t (view (routes_of net) run s) c a b) (sym at)
          (subst (λ (d : SpecCurve). IsIdle run.end (view (routes_of net) run s) d a b) (sym e)
          (subst (λ (i : ℕ). IsTooSlow (routes_of net) (service net) run i a b) k.at k.breaks).idle),
    )

-- a server that keeps its curve works nowhere less than it
pub kept_is_not_slow : (net : Net) (run : SpecRun) (s : ℕ) (a b : ℚ) → IsLawful (routes_of net) run → MayServe (service net s) → KeepsCurve net run s → ¬ IsTooSlow (routes_of net) (service net) run s a b
kept_is_not_slow net run s a b L M K h =
    (watch_points_suffice (server_at (routes_of net) s) run.end (view (routes_of net) run s) (service net s) (views_are_lawful (routes_of net) run s L h.known) M).0 K a b h.idle

pub none_of_kept : (net : Net) (run : SpecRun) (s : ℕ) → IsLawful (routes_of net) run → MayServe (service net s) → KeepsCurve net run s → IsBest (IsOne net run 2 s) run None
none_of_kept net run s L M K (Size g p) h = let a = h.kind_is in omega arith
none_of_kept net run s L M K (Arrival g i j) h = let a = h.kind_is in omega arith
none_of_kept net run s L M K (Service r a b) h = kept_is_not_slow net run s a b L M K (subst (λ (i : ℕ). IsTooSlow (routes_of net) (service net) run i a b) h.at h.breaks)

-- ---- all
pub may_serve : (x : NetServer) → IsServer x → IsCurve x.service → MayServe x.service
may_serve x k is = record { normal = is.normal; finite = k.service.finite; continuous = k.service.continuous; at_zero = same_le_ext k.service.at_zero }

pub have_curves : (net : Net) → IsAccepted net → HaveServices net → HaveCurves (routes_of net) (λ i. value_at (arrival net i)) (service net)
have_curves net a S = record {
  flows = λ flow live. of_flow flow (flow_at net flow) refl (sym (live_is net flow) ∙ live);
  servers = λ s h. of_server s (subst (λ (n : ℕ). s < n) (length-map net.servers (server_for net.version)) h);
}
  where
    of_flow : (i : ℕ) (o : Option NetFlow) → flow_at net i ≡ o → is_some o ≡ true → MayArrive (value_at (arrival net i))
    of_flow i None e h = absurd (cc)
    of_flow i (Some f) e h =
        let k = (flow_kept net i f a e).arrival in
        let same : f.arrival ≡ arrival net i = ap arrival_of (sym e) in
        record {
          rising = subst (λ (c : SpecCurve). IsRising (value_at c)) same k.rising;
          nonnegative = subst (λ (c : SpecCurve). IsNonnegative (value_at c)) same k.nonnegative;
        }

    of_server : (s : ℕ) → s < length net.servers → MayServe (service net s)
    of_server s l = elim (slice_get_cases net.servers s).1 [
      | inl p ↦
          let same : p.0.service ≡ service net s = ap service_of (sym p.2) in
          subst MayServe same (may_serve p.0 (server_kept net s p.0 a p.2) (subst IsCurve (sym same) (S s l)))
      | inr p ↦ let late = p.0 in absurd (omega arith)
    ]

pub no_server : (net : Net) (s : ℕ) → s < length net.servers → None ≡ slice_get net.servers s → ⊥
no_server net s h e = elim (slice_get_cases net.servers s).1 [ inl p ↦ let found = p.2 in cc | inr p ↦ let late = p.0 in absurd (omega arith) ]

kind_known : (y : Breach) → kind_of y < 3
kind_known (Size f p) = omega arith
kind_known (Arrival f i j) = omega arith
kind_known (Service s a b) = omega arith

-- ---- answers
pub tells_first : (net : Net) (run : SpecRun) (o : Option Found) → IsLawful (routes_of net) run → IsAccepted net → HaveServices net → IsBest (IsOfKinds net run 3) run o
    → TellsFirst net run (option_map (λ f. f.breach) o)
tells_first net run None L a S h =
    (breaches_tell (routes_of net) (packet net) (λ i. value_at (arrival net i)) (service net) run L (have_curves net a S)).1 (λ y b. h y record { kind_is = kind_known y; breaks = b })
tells_first net run (Some f) L a S h = record { is = h.is.breaks; least = λ y b. h.least y record { kind_is = kind_known y; breaks = b } }
