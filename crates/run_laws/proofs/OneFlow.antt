-- One flow over a first in, first out server: the two deviations bound its delays and the backlog.
use Rattle.run_laws.proofs.Entries.{queue_of_hop}
use Rattle.std.specs.Prelude.{Some, None, ◌≡◌, ◌≤◌, ℕ, ◌==◌, true, [], ◌∷◌}
use Rattle.std.proofs.Common.{sym, ap, ◌∙◌, refl, inl, inr, subst}
use Rattle.std.proofs.lemmas.Bool.{cases_Bool, eq-eqb}
use Rattle.rational.specs.Rational.{ℚ, ◌-ℚ◌}
use Rattle.rational.specs.Extended.{Ext, ◌≤ₑ◌, ◌+ₑ◌}
use Rattle.rational.specs.declared.Extended.TheVariants.{Fin}
use Rattle.min_plus.specs.Deviations.{IsHorizontalDeviation, IsVerticalDeviation}
use Rattle.min_plus.specs.Pointwise.{packetised}
use Rattle.run_laws.specs.Runs.{SpecRun}
use Rattle.run_laws.specs.Cards.{Card, whole, of_queue, of_flow}
use Rattle.run_laws.specs.Counts.{within}
use Rattle.run_laws.specs.Premises.{EachArrival, KeepsArrivals, IsZeroAtStart}
use Rattle.min_plus.specs.Functions.{IsRising}
use Rattle.run_laws.specs.Routes.{Routes, link_at, route_of, queue_at, first_server, server_after}
use Rattle.run_laws.specs.Views.{view}
use Rattle.run_laws.specs.Lawful.{run_start, IsLawful}
use Rattle.run_laws.specs.RunPremises.{KeepsPremises}
use Rattle.run_laws.specs.Bounds.{BeginsAt, IsOnlyFlow, IsQueueBounded, IsFlowBounded}
use Rattle.run_laws.proofs.Arrivals.{arrivals_map, same_arrivals, IsPassing}
use Rattle.run_laws.proofs.FirstHop.{first_hop_keeps}
use Rattle.run_laws.proofs.OneHop.{one_hop_delays}
use Rattle.run_laws.proofs.QueueBound.{passing, queue_is_bounded}

-- a path of one hop has no server after another
no_next : (a s q : ℕ) → server_after a (record { server = s; queue = q } ∷ []) ≡ None
no_next a s q = elim (cases_Bool (s == a)) [ inl e ↦ rw e refl | inr e ↦ rw e refl ]

begins_there : (net : Routes) (s i : ℕ) → IsOnlyFlow net s i → BeginsAt net i s
begins_there net s i only = record {
  first = ap first_server only.one_hop.path;
  never_again = λ a h. let e : None ≡ Some s = sym (no_next a s 0) ∙ sym (ap (server_after a) only.one_hop.path) ∙ h in absurd (cc);
}

-- a packet of the flow, in queue 0
record IsIts (packet : ℕ → ℕ) (i : ℕ) (c : Card) : Type 0 where
  its_flow : c.flow ≡ i
  its_queue : c.queue ≡ 0
  small : c.bits ≤ packet i

is_its : (net : Routes) (packet : ℕ → ℕ) (s i : ℕ) → IsOnlyFlow net s i → (c : Card) → IsPassing net packet s c → IsIts packet i c
is_its net packet s i only c p =
    let e : c.flow ≡ i = only.alone c.flow p.is_live p.passes in
    record {
      its_flow = e;
      its_queue = p.its_queue ∙ ap (λ (j : ℕ). queue_at s (route_of net j).hops) e ∙ ap (queue_at s) only.one_hop.path ∙ queue_of_hop s 0;
      small = subst (λ (j : ℕ). c.bits ≤ packet j) e p.small;
    }

all_its : (net : Routes) (run : SpecRun) (packet : ℕ → ℕ) (α β : ℕ → ℚ → Ext) (s i : ℕ) → IsOnlyFlow net s i → IsLawful net run
    → KeepsPremises net packet α β run → EachArrival (IsIts packet i) (view net run s)
all_its net run packet α β s i only lawful keeps =
    arrivals_map (IsPassing net packet s) (IsIts packet i) (is_its net packet s i only) (view net run s)
    (passing net run packet α β s lawful keeps)

queue_keeps : (net : Routes) (run : SpecRun) (packet : ℕ → ℕ) (α β : ℕ → ℚ → Ext) (s i : ℕ) → IsOnlyFlow net s i → IsLawful net run
    → KeepsPremises net packet α β run → KeepsArrivals (of_queue 0) (α i) (view net run s)
queue_keeps net run packet α β s i only lawful keeps a b l =
    let V = view net run s in
    let own = first_hop_keeps net run i s (α i) lawful (begins_there net s i only) (keeps.arrivals i only.is_live) in
    let same = same_arrivals (of_queue 0) (of_flow i) (within a b) V
    (arrivals_map (IsIts packet i) (λ c. (c.queue == 0) ≡ (c.flow == i)) (λ c h. eq-eqb c.queue 0 h.its_queue ∙ sym (eq-eqb c.flow i h.its_flow)) V (all_its net run packet α β s i only lawful keeps)) in
    subst (λ (x : ℚ). Fin x ≤ₑ α i (b -ℚ a)) (sym same) (own a b l)

pub one_flow_is_bounded : (net : Routes) (run : SpecRun) (s i : ℕ) (packet : ℕ → ℕ) (α β : ℕ → ℚ → Ext) (delay most : Ext)
    → IsOnlyFlow net s i → IsLawful net run → KeepsPremises net packet α β run → IsZeroAtStart (β s) → IsRising (β s)
    → IsHorizontalDeviation (α i) (β s) delay → IsVerticalDeviation (α i) (packetised (β s) (whole (packet i))) most
    → IsQueueBounded net run s 0 delay most × IsFlowBounded net run i (delay +ₑ Fin (link_at net s))
one_flow_is_bounded net run s i packet α β delay most only lawful keeps zero rises dh dv =
    let V = view net run s in
    let sizes = arrivals_map (IsIts packet i) (λ c. of_queue 0 c ≡ true → c.bits ≤ packet i) (λ c h _. h.small) V (all_its net run packet α β s i only lawful keeps) in
    let bounded = queue_is_bounded net run s (packet i) (α i) (β s) delay most lawful only.known only.is_fifo (keeps.service s only.known) zero rises (queue_keeps net run packet α β s i only lawful keeps) sizes dh dv in
    (bounded, one_hop_delays net run.end (run_start net) run.steps i s 0 delay only.one_hop lawful.allowed bounded.delays)
