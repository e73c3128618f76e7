-- Curves that an edit of a server makes, and servers that have them.
use Rattle.std.proofs.Common.{◌≡◌, ℕ, refl, sym, subst, inl, inr}
use Rattle.std.specs.Prelude.{Option, Result}
use Rattle.rational.specs.Rational.{ℚ, ◌≤ℚ◌, ◌<ℚ◌}
use Rattle.rational.proofs.Laws.{le_trans, le_of_lt, lt_irrefl, lt_le_trans, not_le_of_lt}
use Rattle.min_plus.specs.Functions.{zero_q}
use Rattle.upp_curve.specs.Curve.{SpecCurve}
use Rattle.upp_curve.specs.Kinds.{rate_latency, gate}
use Rattle.curve_library.specs.Causes.{OneNegative, NoSlot}
use Rattle.curve_library.proofs.SignTests.{none_negative}
use Rattle.net_model.specs.declared.server.ServiceKind.{ServiceKind}
use Rattle.net_model.specs.declared.server.ServiceKind.TheVariants.{Latency, Gate, Listed}
use Rattle.net_model.specs.Networks.{NetServer}
use Rattle.net_model.specs.Accepted.{IsLength, IsOfKind, IsServiceCurve, IsServer}
use Rattle.net_model.proofs.KindsStand.{kinds_may_stand}
use Rattle.net_model.proofs.Quanta.{few_quanta}
use Rattle.net_cells.specs.declared.cell.Cell.{Cell}
use Rattle.net_edits.specs.declared.fault.EditFault.{EditFault}
use Rattle.net_edits.specs.Changed.{service_of_kind, with_rate, with_latency, with_link, with_quantum}
use Rattle.net_edits.specs.Edited.{MadeCurve, as_cell, as_service, made_by_kind}
use Rattle.net_edits.specs.Replies.{Makes}

-- ---- curves
pub latency_kept : (s : NetServer) (latency : ℚ) → s.kind ≡ Latency latency → IsServer s → zero_q ≤ℚ latency
latency_kept s latency e h =
    let of : IsOfKind s.rate (Latency latency) s.service = subst (λ (k : ServiceKind). IsOfKind s.rate k s.service) e h.kind in of.0

pub slot_kept : (s : NetServer) (cycle slot : ℚ) → s.kind ≡ Gate cycle slot → IsServer s → zero_q <ℚ slot
slot_kept s cycle slot e h =
    let of : IsOfKind s.rate (Gate cycle slot) s.service = subst (λ (k : ServiceKind). IsOfKind s.rate k s.service) e h.kind in of.0

pub cycle_kept : (s : NetServer) (cycle slot : ℚ) → s.kind ≡ Gate cycle slot → IsServer s → slot ≤ℚ cycle
cycle_kept s cycle slot e h =
    let of : IsOfKind s.rate (Gate cycle slot) s.service = subst (λ (k : ServiceKind). IsOfKind s.rate k s.service) e h.kind in of.1

pub none_below : (x y : ℚ) → zero_q <ℚ x → zero_q ≤ℚ y → ¬ (OneNegative x y)
none_below x y h k = none_negative x y (le_of_lt h) k

pub some_slot : (cycle slot : ℚ) → zero_q <ℚ slot → slot ≤ℚ cycle → ¬ (NoSlot cycle slot)
some_slot cycle slot h k (inl l) = lt_irrefl zero_q (lt_le_trans h (le_trans k l))
some_slot cycle slot h k (inr (inl e)) = lt_irrefl zero_q (subst (λ (x : ℚ). zero_q <ℚ x) e h)
some_slot cycle slot h k (inr (inr l)) = not_le_of_lt l k

by_kind : (number : ℕ) (rate : ℚ) (service : SpecCurve) (kind same : ServiceKind) (r : Result SpecCurve EditFault) → kind ≡ same
    → Makes (made_by_kind number same (service_of_kind rate same service)) (λ (d : SpecCurve). d ≡ service_of_kind rate same service) r
    → Makes (made_by_kind number kind (service_of_kind rate kind service)) (λ (d : SpecCurve). d ≡ service_of_kind rate kind service) r
by_kind number rate service kind same r e h =
    subst
    (λ (k : ServiceKind). Makes (made_by_kind number k (service_of_kind rate k service)) (λ (d : SpecCurve). d ≡ service_of_kind rate k service) r)
    (sym e) h

pub by_latency : (number : ℕ) (rate latency : ℚ) (service : SpecCurve) (kind : ServiceKind) (r : Result SpecCurve EditFault)
    (cell : Cell) → kind ≡ Latency latency → ((c : SpecCurve) → as_cell cell c ≡ as_service number c)
    → Makes (as_cell cell (rate_latency rate latency)) (λ (d : SpecCurve). d ≡ rate_latency rate latency) r
    → Makes (made_by_kind number kind (service_of_kind rate kind service)) (λ (d : SpecCurve). d ≡ service_of_kind rate kind service) r
by_latency number rate latency service kind r cell e counts h =
    by_kind number rate service kind (Latency latency) r e
    (subst (λ (m : Option MadeCurve). Makes m (λ (d : SpecCurve). d ≡ rate_latency rate latency) r) (counts (rate_latency rate latency)) h)

pub by_gate : (number : ℕ) (rate cycle slot : ℚ) (service : SpecCurve) (kind : ServiceKind) (r : Result SpecCurve EditFault)
    (cell : Cell) → kind ≡ Gate cycle slot → ((c : SpecCurve) → as_cell cell c ≡ as_service number c)
    → Makes (as_cell cell (gate rate cycle slot)) (λ (d : SpecCurve). d ≡ gate rate cycle slot) r
    → Makes (made_by_kind number kind (service_of_kind rate kind service)) (λ (d : SpecCurve). d ≡ service_of_kind rate kind service) r
by_gate number rate cycle slot service kind r cell e counts h =
    by_kind number rate service kind (Gate cycle slot) r e
    (subst (λ (m : Option MadeCurve). Makes m (λ (d : SpecCurve). d ≡ gate rate cycle slot) r) (counts (gate rate cycle slot)) h)

-- ---- servers
of_kind : (rate old : ℚ) (kind : ServiceKind) (service : SpecCurve) → IsOfKind old kind service
    → IsOfKind rate kind (service_of_kind rate kind service)
of_kind rate old (Latency latency) service h = (h.0, refl)
of_kind rate old (Gate cycle slot) service h = (h.0, h.1, refl)
of_kind rate old Listed service h = tt

service_stands : (rate old : ℚ) (kind : ServiceKind) (service : SpecCurve) → zero_q <ℚ rate → IsOfKind old kind service
    → IsServiceCurve service → IsServiceCurve (service_of_kind rate kind service)
service_stands rate old (Latency latency) service p h k = kinds_may_stand.rate_latency rate latency (le_of_lt p) h.0
service_stands rate old (Gate cycle slot) service p h k = kinds_may_stand.gate rate cycle slot (le_of_lt p) h.0 h.1
service_stands rate old Listed service p h k = k

pub rate_server : (s : NetServer) (rate : ℚ) → zero_q <ℚ rate → IsServer s → IsServer (with_rate rate s)
rate_server s rate p h = record {
  name = h.name;
  rate = p;
  kind = of_kind rate s.rate s.kind s.service h.kind;
  service = service_stands rate s.rate s.kind s.service p h.kind h.service;
  link = h.link;
  queues = h.queues;
}

pub latency_server : (s : NetServer) (latency : ℚ) → zero_q ≤ℚ latency → IsServer s → IsServer (with_latency latency s)
latency_server s latency p h = record {
  name = h.name;
  rate = h.rate;
  kind = (p, refl);
  service = kinds_may_stand.rate_latency s.rate latency (le_of_lt h.rate) p;
  link = h.link;
  queues = h.queues;
}

pub link_server : (s : NetServer) (link : ℚ) → zero_q ≤ℚ link → IsServer s → IsServer (with_link link s)
link_server s link p h = record {
  name = h.name;
  rate = h.rate;
  kind = h.kind;
  service = h.service;
  link = p;
  queues = h.queues;
}

pub quantum_server : (s : NetServer) (queue bits : ℕ) → IsLength bits → IsServer s → IsServer (with_quantum queue bits s)
quantum_server s queue bits is h = record {
  name = h.name;
  rate = h.rate;
  kind = h.kind;
  service = h.service;
  link = h.link;
  queues = few_quanta s.discipline queue bits is h.queues;
}
