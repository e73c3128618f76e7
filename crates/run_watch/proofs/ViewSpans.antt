-- The spans and times of a lawful view are in order, and in the run.
use Rattle.std.specs.Prelude.{pos, List, [], ◌∷◌}
use Rattle.rational.specs.Rational.{ℚ, int, ◌≤ℚ◌}
use Rattle.rational.proofs.Laws.{le_refl, le_trans, le_of_lt}
use Rattle.run_laws.specs.Cards.{ServerStep, Arrives, Works, Leaves, Visits}
use Rattle.run_laws.specs.Servers.{Server, ServerState, start}
use Rattle.run_laws.specs.Next.{next}
use Rattle.run_laws.specs.Allows.{AllAllowed, IsLawfulView}
use Rattle.flow_watch.specs.watch_laws.Affine.{EachTime}
use Rattle.flow_watch.specs.watch_laws.Times.{leave_times}
use Rattle.run_watch.specs.declared.span.Span.{Span}
use Rattle.run_watch.specs.Ramps.{InOrder, TakeTime}
use Rattle.run_watch.specs.Seen.{arrival_spans, work_spans}
use Rattle.run_watch.specs.Watching.{RiseFrom}

order_sooner : (x y : ℚ) (ss : List Span) → x ≤ℚ y → InOrder y ss → InOrder x ss
order_sooner x y [] h k = tt
order_sooner x y (s ∷ ss) h k = (le_trans h k.0, k.1, k.2)

rise_sooner : (x y : ℚ) (ts : List ℚ) → x ≤ℚ y → RiseFrom y ts → RiseFrom x ts
rise_sooner x y [] h k = tt
rise_sooner x y (t ∷ ts) h k = (le_trans h k.0, k.1)

arrivals_from : (server : Server) (end : ℚ) (σ : ServerState) (V : List ServerStep) → AllAllowed server end σ V → InOrder σ.now (arrival_spans V)
arrivals_from server end σ [] a = tt
arrivals_from server end σ (Arrives c t ∷ V) a = (a.0.0.in_order, le_refl t, arrivals_from server end (next server.discipline σ (Arrives c t)) V a.1)
arrivals_from server end σ (Works c x b w ∷ V) a = order_sooner σ.now x (arrival_spans V) a.0.0.in_order (arrivals_from server end (next server.discipline σ (Works c x b w)) V a.1)
arrivals_from server end σ (Leaves c t ∷ V) a = order_sooner σ.now t (arrival_spans V) a.0.0.in_order (arrivals_from server end (next server.discipline σ (Leaves c t)) V a.1)
arrivals_from server end σ (Visits q t ∷ V) a = order_sooner σ.now t (arrival_spans V) a.0.0.in_order (arrivals_from server end (next server.discipline σ (Visits q t)) V a.1)

works_from : (server : Server) (end : ℚ) (σ : ServerState) (V : List ServerStep) → AllAllowed server end σ V → InOrder σ.busy (work_spans V)
works_from server end σ [] a = tt
works_from server end σ (Arrives c t ∷ V) a = works_from server end (next server.discipline σ (Arrives c t)) V a.1
works_from server end σ (Works c x b w ∷ V) a = (a.0.1.no_overlap, le_of_lt a.0.1.forward, works_from server end (next server.discipline σ (Works c x b w)) V a.1)
works_from server end σ (Leaves c t ∷ V) a = works_from server end (next server.discipline σ (Leaves c t)) V a.1
works_from server end σ (Visits q t ∷ V) a = works_from server end (next server.discipline σ (Visits q t)) V a.1

works_take : (server : Server) (end : ℚ) (σ : ServerState) (V : List ServerStep) → AllAllowed server end σ V → TakeTime (work_spans V)
works_take server end σ [] a = tt
works_take server end σ (Arrives c t ∷ V) a = works_take server end (next server.discipline σ (Arrives c t)) V a.1
works_take server end σ (Works c x b w ∷ V) a = (a.0.1.forward, works_take server end (next server.discipline σ (Works c x b w)) V a.1)
works_take server end σ (Leaves c t ∷ V) a = works_take server end (next server.discipline σ (Leaves c t)) V a.1
works_take server end σ (Visits q t ∷ V) a = works_take server end (next server.discipline σ (Visits q t)) V a.1

leaves_from : (server : Server) (end : ℚ) (σ : ServerState) (V : List ServerStep) → AllAllowed server end σ V → RiseFrom σ.now (leave_times V)
leaves_from server end σ [] a = tt
leaves_from server end σ (Arrives c t ∷ V) a = rise_sooner σ.now t (leave_times V) a.0.0.in_order (leaves_from server end (next server.discipline σ (Arrives c t)) V a.1)
leaves_from server end σ (Works c x b w ∷ V) a = rise_sooner σ.now x (leave_times V) a.0.0.in_order (leaves_from server end (next server.discipline σ (Works c x b w)) V a.1)
leaves_from server end σ (Leaves c t ∷ V) a = (a.0.0.in_order, leaves_from server end (next server.discipline σ (Leaves c t)) V a.1)
leaves_from server end σ (Visits q t ∷ V) a = rise_sooner σ.now t (leave_times V) a.0.0.in_order (leaves_from server end (next server.discipline σ (Visits q t)) V a.1)

leaves_within : (server : Server) (end : ℚ) (σ : ServerState) (V : List ServerStep) → AllAllowed server end σ V → EachTime (λ t. t ≤ℚ end) (leave_times V)
leaves_within server end σ [] a = tt
leaves_within server end σ (Arrives c t ∷ V) a = leaves_within server end (next server.discipline σ (Arrives c t)) V a.1
leaves_within server end σ (Works c x b w ∷ V) a = leaves_within server end (next server.discipline σ (Works c x b w)) V a.1
leaves_within server end σ (Leaves c t ∷ V) a = (a.0.0.in_run, leaves_within server end (next server.discipline σ (Leaves c t)) V a.1)
leaves_within server end σ (Visits q t ∷ V) a = leaves_within server end (next server.discipline σ (Visits q t)) V a.1

-- ---- of a lawful view
pub arrivals_in_order : (server : Server) (end : ℚ) (V : List ServerStep) → IsLawfulView server end V → InOrder (int (pos 0)) (arrival_spans V)
arrivals_in_order server end V h = arrivals_from server end (start server.discipline) V h.allowed

pub works_in_order : (server : Server) (end : ℚ) (V : List ServerStep) → IsLawfulView server end V → InOrder (int (pos 0)) (work_spans V)
works_in_order server end V h = works_from server end (start server.discipline) V h.allowed

pub works_take_time : (server : Server) (end : ℚ) (V : List ServerStep) → IsLawfulView server end V → TakeTime (work_spans V)
works_take_time server end V h = works_take server end (start server.discipline) V h.allowed

pub leaves_rise : (server : Server) (end : ℚ) (V : List ServerStep) → IsLawfulView server end V → RiseFrom (int (pos 0)) (leave_times V)
leaves_rise server end V h = leaves_from server end (start server.discipline) V h.allowed

pub leaves_in_run : (server : Server) (end : ℚ) (V : List ServerStep) → IsLawfulView server end V → EachTime (λ t. t ≤ℚ end) (leave_times V)
leaves_in_run server end V h = leaves_within server end (start server.discipline) V h.allowed
