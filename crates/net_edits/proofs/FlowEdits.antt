-- What edits of one flow give.
use Rattle.std.proofs.Common.{◌≡◌, ℕ, ◌≤◌, List, length, ◌^◌, cond, Option, Some, None, Bool, true, false, refl, sym, ap, ◌∙◌, subst, inl, inr}
use Rattle.std.specs.Prelude.{Ok, Err, pos, negsuc, ℤ, nat_le, slice_get, slice_index, is_some, IsSome, ◌&&◌, not}
use Rattle.std.proofs.lemmas.Bool.{cases_lt, and_parts, and_from, not_from_false, leb-true}
use Rattle.std.proofs.lemmas.List.{get_or_past, length-map}
use Rattle.std.proofs.lemmas.Option.{slice_get-get_or, get_or_from_slice_get}
use Rattle.rational.specs.Rational.{ℚ, int, ◌≤ℚ◌, ◌<ℚ◌}
use Rattle.rational.proofs.Integers.{nat_nonneg}
use Rattle.min_plus.specs.Functions.{zero_q}
use Rattle.upp_curve.specs.Curve.{SpecCurve}
use Rattle.upp_curve.specs.Kinds.{bucket, stair}
use Rattle.net_model.specs.declared.edit.PathEntry.{PathEntry}
use Rattle.net_model.specs.Networks.{Net, NetServer, NetFlow}
use Rattle.net_model.specs.Accepted.{IsLength, IsArrivalCurve, IsFlow, IsAccepted}
use Rattle.net_model.proofs.KindsStand.{kinds_may_stand}
use Rattle.net_model.specs.Quanta.{is_in_quantum}
use Rattle.net_model.proofs.Quanta.{in_quantum}
use Rattle.net_cells.specs.Numbered.{flow_at, packet, packet_of, discipline_of}
use Rattle.net_cells.proofs.Stored.{flow_kept}
use Rattle.net_edits.specs.Refusals.{Or, bad_value, and_then, only_if}
use Rattle.net_edits.specs.Lookups.{flow_number, server_numbers}
use Rattle.net_edits.specs.Values.{whole_that, is_length, entry_queues, may_be_path, fits_along, place_fits, quanta_fit}
use Rattle.net_edits.specs.Changed.{put_flow, flow_changed, at_flow, with_arrival, with_packet, with_path, dropped}
use Rattle.net_edits.specs.Edited.{MadeCurve, fitting, as_arrival, is_positive, is_negative, stair_of, stair_edited, packet_edited, route_edited, drop_edited}
use Rattle.net_edits.proofs.Found.{numbers_long}
use Rattle.net_edits.proofs.Signs.{positive_of, nonneg_of}
use Rattle.net_edits.proofs.Steps.{then_ok, passed}
use Rattle.net_edits.proofs.Fitting.{fits_at, accepted_fits}
use Rattle.net_edits.proofs.Flows.{flow_stands, changed_fits}
use Rattle.net_edits.proofs.Pathways.{IsWay, hops_of}

-- ---- the flow that is found
pub place_of : (net : Net) (i : ℕ) (f : NetFlow) → flow_at net i ≡ Some f → slice_get net.flows i ≡ Some (Some f)
place_of net i f e =
    elim (cases_lt i (length net.flows)) [
      | inl l ↦ slice_get-get_or net.flows i None l ∙ ap Some e
      | inr l ↦ let none : None ≡ Some f = sym (get_or_past net.flows i None l) ∙ e in absurd (let bad : ⊥ = cc in bad)
    ]

pub live_at : (net : Net) (i : ℕ) (f : NetFlow) → slice_get net.flows i ≡ Some (Some f) → IsSome (flow_at net i)
live_at net i f e =
    let at : flow_at net i ≡ Some f = get_or_from_slice_get net.flows i (Some f) None e in ap (λ (o : Option NetFlow). is_some o) at

pub packet_at : (net : Net) (i : ℕ) (f : NetFlow) → slice_get net.flows i ≡ Some (Some f) → packet net i ≡ f.packet
packet_at net i f e = ap packet_of (get_or_from_slice_get net.flows i (Some f) None e)

-- ---- flows with one thing changed
with_curve : (servers : List NetServer) (f : NetFlow) (c : SpecCurve) → IsFlow servers f → IsArrivalCurve c
    → IsFlow servers (record f { arrival = c })
with_curve servers f c h is = record {
  name = h.name;
  packet = h.packet;
  some = h.some;
  few = h.few;
  paired = h.paired;
  hops = h.hops;
  once = h.once;
  arrival = is;
}

one_only : (P : NetFlow → Type 0) (g : NetFlow) → P g → (f : NetFlow) → Some g ≡ Some f → P f
one_only P g h f e = let same : g ≡ f = cc in subst P same h

module _ (net : Net) (i : ℕ) (old : NetFlow) (a : IsAccepted net) (at : slice_get net.flows i ≡ Some (Some old))
    (is : IsFlow net.servers old) where
  pub arrival_stands : (c : SpecCurve) → IsArrivalCurve c → IsAccepted (put_flow net i (with_arrival c old))
  arrival_stands c stands =
      flow_stands net i old (with_arrival c old) a at
      (one_only (λ f. f.name ≡ old.name) (record old { arrival = c }) refl)
      (one_only (λ f. IsFlow net.servers f) (record old { arrival = c }) (with_curve net.servers old c is stands))

  pub bucket_stands : (burst rate : ℚ) → zero_q ≤ℚ burst → zero_q ≤ℚ rate
      → IsAccepted (put_flow net i (with_arrival (bucket burst rate) old))
  bucket_stands burst rate h k = arrival_stands (bucket burst rate) (kinds_may_stand.bucket burst rate h k)

  pub stair_stands : (period jitter : ℚ) → zero_q <ℚ period → zero_q ≤ℚ jitter
      → IsAccepted (put_flow net i (with_arrival (stair (int (pos old.packet)) period jitter) old))
  stair_stands period jitter h k =
      arrival_stands (stair (int (pos old.packet)) period jitter)
      (kinds_may_stand.stair (int (pos old.packet)) period jitter (nat_nonneg old.packet) h k)

  pub drop_stands : IsAccepted (put_flow net i None)
  drop_stands = flow_stands net i old None a at (λ f e. absurd (let bad : ⊥ = cc in bad)) (λ f e. absurd (let bad : ⊥ = cc in bad))

  pub path_flow : (path lanes : List ℕ) → IsWay net path lanes → length lanes ≡ length path
      → fits_along net.servers old.packet path lanes ≡ true → IsFlow net.servers (record old { path = path; queues = lanes })
  path_flow path lanes way pair fits = record {
    name = is.name;
    packet = is.packet;
    some = way.some;
    few = way.few;
    paired = pair;
    hops = hops_of net path lanes old.packet way pair fits;
    once = way.once;
    arrival = is.arrival;
  }

  pub packet_flow : (bits : ℕ) → IsLength bits → fits_along net.servers bits old.path old.queues ≡ true
      → IsFlow net.servers (record old { packet = bits })
  packet_flow bits size fits = record {
    name = is.name;
    packet = size;
    some = is.some;
    few = is.few;
    paired = is.paired;
    hops = λ k within.
        let h = is.hops k within in
        record {
          server = h.server;
          is = h.is;
          has_queue = h.has_queue;
          takes =
              in_quantum h.server.discipline (slice_index old.queues k) bits
              (subst (λ (o : Option NetServer). is_in_quantum (discipline_of o) (slice_index old.queues k) bits ≡ true) h.is
              (fits_at net.servers bits old.path old.queues k fits within is.paired));
        };
    once = is.once;
    arrival = is.arrival;
  }

  pub packet_stands : (bits : ℕ) → IsLength bits → fits_along net.servers bits old.path old.queues ≡ true
      → IsAccepted (put_flow net i (with_packet bits old))
  packet_stands bits size fits =
      flow_stands net i old (with_packet bits old) a at
      (one_only (λ f. f.name ≡ old.name) (record old { packet = bits }) refl)
      (one_only (λ f. IsFlow net.servers f) (record old { packet = bits }) (packet_flow bits size fits))

  pub path_stands : (path lanes : List ℕ) → IsWay net path lanes → length lanes ≡ length path
      → fits_along net.servers old.packet path lanes ≡ true → IsAccepted (put_flow net i (with_path path lanes old))
  path_stands path lanes way pair fits =
      flow_stands net i old (with_path path lanes old) a at
      (one_only (λ f. f.name ≡ old.name) (record old { path = path; queues = lanes }) refl)
      (one_only (λ f. IsFlow net.servers f) (record old { path = path; queues = lanes }) (path_flow path lanes way pair fits))

  -- a changed flow that may stand where its packets are within its queues' quanta
  pub fitting_stands : (place given : Option NetFlow) → given ≡ place
      → (place_fits net.servers place ≡ true → IsAccepted (put_flow net i place)) → quanta_fit (put_flow net i given) ≡ true
      → IsAccepted (put_flow net i given)
  fitting_stands place given same stands fits =
      subst (λ (p : Option NetFlow). IsAccepted (put_flow net i p)) (sym same)
      (stands (sym (changed_fits net i old place a at) ∙ ap (λ (p : Option NetFlow). quanta_fit (put_flow net i p)) (sym same) ∙ fits))

pub stands_fit : (after : Net) (made : Option MadeCurve) → IsAccepted after
    → fitting after made ≡ Ok (record { net = after; made = made })
stands_fit after made a = passed (quanta_fit after) (Ok (record { net = after; made = made })) (accepted_fits after a)

-- an edit whose test passes and that may stand
pub flow_edit : (net : Net) (name : List ℕ) (i : ℕ) (test : Bool) (change : ℕ → NetFlow → Option NetFlow) (made : ℕ → Option MadeCurve)
    (old : NetFlow) → flow_number net name ≡ Ok i → slice_get net.flows i ≡ Some (Some old) → test ≡ true
    → IsAccepted (put_flow net i (change i old))
    → and_then (flow_number net name) (λ (n : ℕ). only_if test (fitting (at_flow (change n) net n) (made n)))
    ≡ Ok (record { net = put_flow net i (change i old); made = made i })
flow_edit net name i test change made old found at passes stands =
    then_ok (flow_number net name) (λ (n : ℕ). only_if test (fitting (at_flow (change n) net n) (made n))) i found
    ∙ passed test (fitting (at_flow (change i) net i) (made i)) passes
    ∙ ap (λ (o : Option (Option NetFlow)). fitting (flow_changed (change i) net i o) (made i)) at
    ∙ passed (quanta_fit (put_flow net i (change i old))) (Ok (record { net = put_flow net i (change i old); made = made i }))
    (accepted_fits (put_flow net i (change i old)) stands)

-- ---- at the flow that was found
pub packet_found : (net : Net) (name : List ℕ) (i : ℕ) (bits : ℤ) (b : ℕ) (old : NetFlow) → flow_number net name ≡ Ok i
    → whole_that is_length bits ≡ Ok b → slice_get net.flows i ≡ Some (Some old)
    → packet_edited net name bits ≡ fitting (put_flow net i (with_packet b old)) None
packet_found net name i bits b old found size at =
    ap (λ (r : Or ℕ). and_then r (λ n. and_then (whole_that is_length bits) (λ m. fitting (at_flow (with_packet m) net n) None))) found
    ∙ ap (λ (r : Or ℕ). and_then r (λ m. fitting (at_flow (with_packet m) net i) None)) size
    ∙ ap (λ (o : Option (Option NetFlow)). fitting (flow_changed (with_packet b) net i o) None) at

pub route_found : (net : Net) (name : List ℕ) (i : ℕ) (entries : List PathEntry) (path lanes : List ℕ) (old : NetFlow)
    → flow_number net name ≡ Ok i → server_numbers net entries ≡ Ok path → lanes ≡ entry_queues entries
    → slice_get net.flows i ≡ Some (Some old)
    → route_edited net name entries
    ≡ only_if (may_be_path net path lanes) (fitting (put_flow net i (with_path path lanes old)) None)
route_found net name i entries path lanes old found servers queues at =
    ap (λ (r : Or ℕ). and_then r (λ n. and_then (server_numbers net entries) (λ ss.
    only_if (may_be_path net ss (entry_queues entries)) (fitting (at_flow (with_path ss (entry_queues entries)) net n) None)))) found
    ∙ ap (λ (r : Or (List ℕ)). and_then r (λ ss.
    only_if (may_be_path net ss (entry_queues entries)) (fitting (at_flow (with_path ss (entry_queues entries)) net i) None))) servers
    ∙ ap (λ (qs : List ℕ). only_if (may_be_path net path qs) (fitting (at_flow (with_path path qs) net i) None)) (sym queues)
    ∙ ap (λ (o : Option (Option NetFlow)). only_if (may_be_path net path lanes) (fitting (flow_changed (with_path path lanes) net i o) None)) at

pub drop_found : (net : Net) (name : List ℕ) (i : ℕ) (old : NetFlow) → flow_number net name ≡ Ok i
    → slice_get net.flows i ≡ Some (Some old) → drop_edited net name ≡ fitting (put_flow net i None) None
drop_found net name i old found at =
    ap (λ (r : Or ℕ). and_then r (λ n. fitting (at_flow dropped net n) None)) found
    ∙ ap (λ (o : Option (Option NetFlow)). fitting (flow_changed dropped net i o) None) at

-- as many queues as servers
pub lanes_long : (net : Net) (entries : List PathEntry) (path lanes : List ℕ) → server_numbers net entries ≡ Ok path
    → lanes ≡ entry_queues entries → length lanes ≡ length path
lanes_long net entries path lanes servers queues =
    ap length queues ∙ length-map entries (λ (e : PathEntry). e.queue) ∙ sym (numbers_long net entries path servers)

-- ---- bits that may be
abbrev IsGiven : Or ℕ → ℕ → Type 0
IsGiven r b = r ≡ Ok b

length_ok : (n : ℕ) (b : ℕ) (test : Bool) → is_length n ≡ test → IsGiven (cond test (Ok n) (Err bad_value)) b → IsLength b
length_ok n b true e h =
    let same : n ≡ b = cc in
    let parts = and_parts (nat_le 1 n) (nat_le n (2 ^ 24)) e in
    subst (λ (m : ℕ). (1 ≤ m) × (m ≤ 2 ^ 24)) same (leb-true 1 n parts.0, leb-true n (2 ^ 24) parts.1)
length_ok n b false e h = absurd (let bad : ⊥ = cc in bad)

pub bits_length : (bits : ℤ) (b : ℕ) → whole_that is_length bits ≡ Ok b → IsLength b
bits_length (pos n) b e = length_ok n b (is_length n) refl e
bits_length (negsuc n) b e = absurd (let bad : ⊥ = cc in bad)

-- ---- a stair of the flow's own packet
pub stair_edit : (net : Net) (name : List ℕ) (i : ℕ) (period jitter : ℚ) (old : NetFlow) → IsAccepted net
    → flow_number net name ≡ Ok i → slice_get net.flows i ≡ Some (Some old) → IsFlow net.servers old
    → is_positive period ≡ true → is_negative jitter ≡ false
    → stair_edited net name period jitter
    ≡ Ok (record {
      net = put_flow net i (with_arrival (stair (int (pos old.packet)) period jitter) old);
      made = as_arrival i (stair (int (pos old.packet)) period jitter);
    })
stair_edit net name i period jitter old a found at is some none =
    let same : stair_of net i period jitter ≡ stair (int (pos old.packet)) period jitter =
    ap (λ (b : ℕ). stair (int (pos b)) period jitter) (packet_at net i old at) in
    let stands = stair_stands net i old a at is period jitter (positive_of period some) (nonneg_of jitter none) in
    let here : IsAccepted (put_flow net i (with_arrival (stair_of net i period jitter) old)) =
    subst (λ (c : SpecCurve). IsAccepted (put_flow net i (with_arrival c old))) (sym same) stands in
    flow_edit net name i (is_positive period && not (is_negative jitter)) (λ n. with_arrival (stair_of net n period jitter))
    (λ n. as_arrival n (stair_of net n period jitter)) old found at
    (and_from (is_positive period) (not (is_negative jitter)) some (not_from_false (is_negative jitter) none)) here
    ∙ ap (λ (c : SpecCurve). Ok (record { net = put_flow net i (with_arrival c old); made = as_arrival i c })) same

-- ---- a flow that is dropped
pub record IsPlace (net : Net) (i : ℕ) : Type 0 where
  pub flow : NetFlow
  pub at : slice_get net.flows i ≡ Some (Some flow)
  pub is : IsFlow net.servers flow

pub live_place : (net : Net) (i : ℕ) → IsAccepted net → IsSome (flow_at net i) → IsPlace net i
live_place net i a h = by (flow_at net i) refl h
  where
    by : (o : Option NetFlow) → flow_at net i ≡ o → IsSome o → IsPlace net i
    by None e live = absurd (let bad : ⊥ = cc in bad)
    by (Some f) e live = record { flow = f; at = place_of net i f e; is = flow_kept net i f a e }

pub dropped_stands : (net : Net) (i : ℕ) → IsAccepted net → IsSome (flow_at net i) → IsAccepted (put_flow net i None)
dropped_stands net i a h = let p = live_place net i a h in drop_stands net i p.flow a p.at p.is

pub drop_edit : (net : Net) (name : List ℕ) (i : ℕ) → IsAccepted net → flow_number net name ≡ Ok i → IsSome (flow_at net i)
    → drop_edited net name ≡ Ok (record { net = put_flow net i None; made = None })
drop_edit net name i a found h =
    let p = live_place net i a h in
    drop_found net name i p.flow found p.at ∙ stands_fit (put_flow net i None) None (drop_stands net i p.flow a p.at p.is)
