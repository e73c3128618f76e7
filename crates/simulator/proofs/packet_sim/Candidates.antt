-- What the first of all that is due tells, by its kind.
use Rattle.std.specs.Prelude.{Option, Some, None, ◌≡◌, ◌⊎◌, ℕ, ◌<◌, List, length, slice_get}
use Rattle.std.proofs.Common.{refl, sym, ap, ◌∙◌, subst, inl, inr}
use Rattle.std.proofs.lemmas.Option.{slice_get_within}
use Rattle.rational.specs.Rational.{ℚ}
use Rattle.queue_sched.specs.index_links.Chains.{Chains, list_at, Has, first_of}
use Rattle.net_model.specs.stated_runs.Setups.{Entering, Setup, packet_of}
use Rattle.sim_servers.specs.declared.due.Due.{Due}
use Rattle.sim_servers.specs.declared.due.DueKind.TheVariants as kinds
use Rattle.sim_servers.specs.declared.station.Next.{Next}
use Rattle.sim_servers.specs.declared.station.Next.TheVariants.{Nothing, Start, Resume, Leave}
use Rattle.sim_servers.specs.declared.station.Station.{Station}
use Rattle.sim_servers.specs.Firsts.{IsNoLater}
use Rattle.sim_servers.specs.Stations.{due_for, IsBeforeStart}
use Rattle.sim_servers.proofs.sim_loop.Merged.{first_has}
use Rattle.sim_servers.proofs.sim_states.Scan.{packet_at}
use Rattle.sim_servers.specs.declared.sim_states.arrival.Arrival.{Arrival}
use Rattle.sim_servers.specs.sim_states.Running.{arrival_at, enter_first, reach_first, station_due, IsCandidate}
use Rattle.rational.specs.Rational.{int}
use Rattle.std.specs.Prelude.{pos}

-- ---- the parts of what is due
pub record IsPart (t : ℚ) (s p : ℕ) (d : Due) : Type 0 where
  pub time : d.time ≡ t
  pub server : d.server ≡ s
  pub packet : d.packet ≡ p

abbrev pub IsDueOf : Next → ℕ → Due → Type 0
IsDueOf Nothing s d = ⊥
IsDueOf (Start t) s d = (d.kind ≡ kinds.Start) × IsPart t s 0 d
IsDueOf (Resume p t left) s d = (d.kind ≡ kinds.Resume) × IsPart t s 0 d
IsDueOf (Leave p t) s d = (d.kind ≡ kinds.Leave) × IsPart t s 0 d

due_of_next : (m : Next) (s : ℕ) (d : Due) → due_for m s ≡ Some d → IsDueOf m s d
due_of_next Nothing s d e = absurd (cc)
due_of_next (Start t) s d e =
    let f : (let z : Due = record { time = t; kind = kinds.Start; server = s; packet = 0 } in z) ≡ d = cc in
    (ap (λ (x : Due). x.kind) (sym f), record { time = ap (λ (x : Due). x.time) (sym f); server = ap (λ (x : Due). x.server) (sym f); packet = ap (λ (x : Due). x.packet) (sym f) })
due_of_next (Resume p t left) s d e =
    let f : (let z : Due = record { time = t; kind = kinds.Resume; server = s; packet = 0 } in z) ≡ d = cc in
    (ap (λ (x : Due). x.kind) (sym f), record { time = ap (λ (x : Due). x.time) (sym f); server = ap (λ (x : Due). x.server) (sym f); packet = ap (λ (x : Due). x.packet) (sym f) })
due_of_next (Leave p t) s d e =
    let f : (let z : Due = record { time = t; kind = kinds.Leave; server = s; packet = 0 } in z) ≡ d = cc in
    (ap (λ (x : Due). x.kind) (sym f), record { time = ap (λ (x : Due). x.time) (sym f); server = ap (λ (x : Due). x.server) (sym f); packet = ap (λ (x : Due). x.packet) (sym f) })

-- ---- where it comes from
pub record IsEnterDue (S : Setup) (n : ℕ) (d : Due) : Type 0 where
  pub kind : d.kind ≡ kinds.Enter
  pub in_trace : n < length S.packets
  pub part : IsPart (packet_of S n).time 0 n d

pub record IsReachDue (links : Chains) (arrivals : List Arrival) (d : Due) : Type 0 where
  pub kind : d.kind ≡ kinds.Reach
  pub link : ℕ
  pub there : Has (list_at links link) d.packet
  pub part : IsPart (arrival_at arrivals d.packet).time (arrival_at arrivals d.packet).server d.packet d

pub record IsStationDue (stations : List Station) (k : ℕ) (d : Due) : Type 0 where
  pub station : Station
  pub known : d.server < k
  pub at : slice_get stations d.server ≡ Some station
  pub due : IsDueOf station.next d.server d

enter_due : (S : Setup) (n : ℕ) (d : Due) (o : Option Entering) → slice_get S.packets n ≡ o → enter_first o n ≡ Some d → IsEnterDue S n d
enter_due S n d None at e = absurd (cc)
enter_due S n d (Some x) at e =
    let f : (let z : Due = record { time = x.time; kind = kinds.Enter; server = 0; packet = n } in z) ≡ d = cc in
    let same : packet_of S n ≡ x = packet_at S.packets n x record { flow = 0; bits = 0; time = int (pos 0) } at in
    record {
      kind = ap (λ (y : Due). y.kind) (sym f);
      in_trace = slice_get_within S.packets n x at;
      part = record {
        time = ap (λ (y : Due). y.time) (sym f) ∙ ap (λ (y : Entering). y.time) (sym same);
        server = ap (λ (y : Due). y.server) (sym f);
        packet = ap (λ (y : Due). y.packet) (sym f);
      };
    }

reach_due : (links : Chains) (arrivals : List Arrival) (s : ℕ) (d : Due) (o : Option ℕ) → first_of (list_at links s) ≡ o → reach_first arrivals o ≡ Some d
    → IsReachDue links arrivals d
reach_due links arrivals s d None at e = absurd (cc)
reach_due links arrivals s d (Some p) at e =
    let f : (let z : Due = record { time = (arrival_at arrivals p).time; kind = kinds.Reach; server = (arrival_at arrivals p).server; packet = p } in z) ≡ d = cc in
    let packet : p ≡ d.packet = ap (λ (y : Due). y.packet) f in
    record {
      kind = ap (λ (y : Due). y.kind) (sym f);
      link = s;
      there = subst (Has (list_at links s)) packet (first_has (list_at links s) p at);
      part = record {
        time = ap (λ (y : Due). y.time) (sym f) ∙ ap (λ q. (arrival_at arrivals q).time) packet;
        server = ap (λ (y : Due). y.server) (sym f) ∙ ap (λ q. (arrival_at arrivals q).server) packet;
        packet = refl;
      };
    }

part_server : (m : Next) (s : ℕ) (d : Due) → IsDueOf m s d → d.server ≡ s
part_server Nothing s d h = absurd h
part_server (Start t) s d h = h.1.server
part_server (Resume p t left) s d h = h.1.server
part_server (Leave p t) s d h = h.1.server

station_at : (stations : List Station) (k s : ℕ) (d : Due) (o : Option Station) → s < k → slice_get stations s ≡ o → station_due o s ≡ Some d
    → IsStationDue stations k d
station_at stations k s d None l at e = absurd (cc)
station_at stations k s d (Some x) l at e =
    let h = due_of_next x.next s d e in
    let same : s ≡ d.server = sym (part_server x.next s d h) in
    record {
      station = x;
      known = subst (λ j. j < k) same l;
      at = subst (λ j. slice_get stations j ≡ Some x) same at;
      due = subst (λ j. IsDueOf x.next j d) same h;
    }

pub found : (S : Setup) (stations : List Station) (links : Chains) (arrivals : List Arrival) (n k : ℕ) (d : Due)
    → IsCandidate S stations links arrivals n k d → IsEnterDue S n d ⊎ (IsReachDue links arrivals d ⊎ IsStationDue stations k d)
found S stations links arrivals n k d (inl e) = inl (enter_due S n d (slice_get S.packets n) refl e)
found S stations links arrivals n k d (inr h) = elim h.2 [
  | inl e ↦ inr (inr (station_at stations k h.0 d (slice_get stations h.0) h.1 refl e))
  | inr e ↦ inr (inl (reach_due links arrivals h.0 d (first_of (list_at links h.0)) refl e))
]

-- ---- by its kind
not_of_station : (m : Next) (s : ℕ) (d : Due) → IsDueOf m s d → (d.kind ≡ kinds.Enter) ⊎ (d.kind ≡ kinds.Reach) → ⊥
not_of_station Nothing s d h e = h
not_of_station (Start t) s d h (inl e) = let f : kinds.Start ≡ kinds.Enter = sym h.0 ∙ e in cc
not_of_station (Start t) s d h (inr e) = let f : kinds.Start ≡ kinds.Reach = sym h.0 ∙ e in cc
not_of_station (Resume p t left) s d h (inl e) = let f : kinds.Resume ≡ kinds.Enter = sym h.0 ∙ e in cc
not_of_station (Resume p t left) s d h (inr e) = let f : kinds.Resume ≡ kinds.Reach = sym h.0 ∙ e in cc
not_of_station (Leave p t) s d h (inl e) = let f : kinds.Leave ≡ kinds.Enter = sym h.0 ∙ e in cc
not_of_station (Leave p t) s d h (inr e) = let f : kinds.Leave ≡ kinds.Reach = sym h.0 ∙ e in cc

pub enters : (S : Setup) (stations : List Station) (links : Chains) (arrivals : List Arrival) (n k : ℕ) (d : Due)
    → IsCandidate S stations links arrivals n k d → d.kind ≡ kinds.Enter → IsEnterDue S n d
enters S stations links arrivals n k d h e = elim (found S stations links arrivals n k d h) [
  | inl a ↦ a
  | inr a ↦ elim a [
    | inl b ↦ absurd (let f : kinds.Reach ≡ kinds.Enter = sym b.kind ∙ e in cc)
    | inr b ↦ absurd (not_of_station b.station.next d.server d b.due (inl e))
  ]
]

pub reaches : (S : Setup) (stations : List Station) (links : Chains) (arrivals : List Arrival) (n k : ℕ) (d : Due)
    → IsCandidate S stations links arrivals n k d → d.kind ≡ kinds.Reach → IsReachDue links arrivals d
reaches S stations links arrivals n k d h e = elim (found S stations links arrivals n k d h) [
  | inl a ↦ absurd (let f : kinds.Enter ≡ kinds.Reach = sym a.kind ∙ e in cc)
  | inr a ↦ elim a [
    | inl b ↦ b
    | inr b ↦ absurd (not_of_station b.station.next d.server d b.due (inr e))
  ]
]

pub at_station : (S : Setup) (stations : List Station) (links : Chains) (arrivals : List Arrival) (n k : ℕ) (d : Due)
    → IsCandidate S stations links arrivals n k d → ¬ (d.kind ≡ kinds.Enter) → ¬ (d.kind ≡ kinds.Reach) → IsStationDue stations k d
at_station S stations links arrivals n k d h no_enter no_reach = elim (found S stations links arrivals n k d h) [
  | inl a ↦ absurd (no_enter a.kind)
  | inr a ↦ elim a [ inl b ↦ absurd (no_reach b.kind) | inr b ↦ b ]
]

-- a packet that leaves
pub record IsLeaveOf (m : Next) (d : Due) : Type 0 where
  pub packet : ℕ
  pub is : m ≡ Leave packet d.time
  pub part : d.packet ≡ 0

pub leaving : (m : Next) (d : Due) → IsDueOf m d.server d → d.kind ≡ kinds.Leave → IsLeaveOf m d
leaving Nothing d h e = absurd h
leaving (Start t) d h e = absurd (let f : kinds.Start ≡ kinds.Leave = sym h.0 ∙ e in cc)
leaving (Resume p t left) d h e = absurd (let f : kinds.Resume ≡ kinds.Leave = sym h.0 ∙ e in cc)
leaving (Leave p t) d h e = record { packet = p; is = ap (λ u. Leave p u) (sym h.1.time); part = h.1.packet }

-- work that goes on
pub record IsResumeOf (m : Next) (d : Due) : Type 0 where
  pub packet : ℕ
  pub left : ℚ
  pub is : m ≡ Resume packet d.time left
  pub part : d.packet ≡ 0

pub resuming : (m : Next) (d : Due) → IsDueOf m d.server d → d.kind ≡ kinds.Resume → IsResumeOf m d
resuming Nothing d h e = absurd h
resuming (Start t) d h e = absurd (let f : kinds.Start ≡ kinds.Resume = sym h.0 ∙ e in cc)
resuming (Resume p t left) d h e = record { packet = p; left = left; is = ap (λ u. Resume p u left) (sym h.1.time); part = h.1.packet }
resuming (Leave p t) d h e = absurd (let f : kinds.Leave ≡ kinds.Resume = sym h.0 ∙ e in cc)

-- a server that starts
pub record IsStartOf (m : Next) (d : Due) : Type 0 where
  pub is : m ≡ Start d.time
  pub part : d.packet ≡ 0

pub starting : (m : Next) (d : Due) → IsDueOf m d.server d → d.kind ≡ kinds.Start → IsStartOf m d
starting Nothing d h e = absurd h
starting (Start t) d h e = record { is = ap (λ u. Start u) (sym h.1.time); part = h.1.packet }
starting (Resume p t left) d h e = absurd (let f : kinds.Resume ≡ kinds.Start = sym h.0 ∙ e in cc)
starting (Leave p t) d h e = absurd (let f : kinds.Leave ≡ kinds.Start = sym h.0 ∙ e in cc)

-- ---- what is first comes before a start
pub before_start : (S : Setup) (stations : List Station) (links : Chains) (arrivals : List Arrival) (n k : ℕ) (d : Due) (s : ℕ) (x : Station)
    → ((e : Due) → IsCandidate S stations links arrivals n k e → IsNoLater d e) → s < k → slice_get stations s ≡ Some x → IsBeforeStart x.next d.time
before_start S stations links arrivals n k d s x first l at = by x.next refl
  where
    by : (m : Next) → x.next ≡ m → IsBeforeStart m d.time
    by Nothing e = tt
    by (Resume p t left) e = tt
    by (Leave p t) e = tt
    by (Start t) e =
        let c : Due = record { time = t; kind = kinds.Start; server = s; packet = 0 } in
        (first c (inr (s, l, inl (ap (λ o. station_due o s) at ∙ ap (λ m. due_for m s) e)))).time
