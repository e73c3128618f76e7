-- An edit changes a network at one server or flow alone.
use Rattle.std.proofs.Common.{◌≡◌, ◌<◌, ◌≤◌, ℕ, List, [], ◌∷◌, ◌++◌, length, Option, Some, None, Bool, true, false, refl, sym, ap, ◌∙◌, subst, inl, inr, arith, length-append}
use Rattle.std.specs.Prelude.{Ok, Err, slice_get, string_bytes, nat_lt, not, ◌&&◌}
use Rattle.std.specs.List.{position}
use Rattle.std.proofs.lemmas.Bool.{cases_lt}
use Rattle.std.proofs.lemmas.List.Quantifiers.{position-Some}
use Rattle.std.proofs.lemmas.List.{get_or_past, get_or_append_left, get_or-set_other, length-set}
use Rattle.net_model.specs.declared.edit.Edit.{Edit}
use Rattle.net_model.specs.declared.edit.Edit.TheVariants.{Rate, Latency, Link, Quantum, Bucket, Stair, Packet, Route, Add, Drop, Undo}
use Rattle.net_model.specs.Networks.{Net, NetServer, NetFlow}
use Rattle.net_model.specs.Quanta.{is_quantum_of}
use Rattle.upp_curve.specs.Kinds.{bucket}
use Rattle.net_cells.specs.Numbered.{discipline}
use Rattle.net_edits.specs.Refusals.{Or, and_then, only_if}
use Rattle.net_edits.specs.Lookups.{number_of, is_flow_named, server_number, flow_number}
use Rattle.net_edits.specs.Changed as change
use Rattle.net_edits.specs.Edited.{MadeCurve, Edited, edited, fitting, is_positive, is_negative, rate_made, has_latency, latency_made, stair_of, as_arrival, only_if_free, only_if_left, new_flow}
use Rattle.net_edits.specs.Values.{whole_that, is_length, is_name, entry_queues, may_be_path}
use Rattle.net_edits.specs.Lookups.{server_numbers, is_free}
use Rattle.net_edits.proofs.Places.{get-set_other}
use Rattle.cell_rules.specs.declared.site.Site.{Site}
use Rattle.cell_rules.specs.declared.site.Site.TheVariants.{Anywhere, Server, Flow}
use Rattle.cell_rules.specs.Sites.{IsSameButServer, IsSameButFlow, IsSameBut}
use Rattle.cell_rules.proofs.Unchanged.{others_keep_their_rule}
use Rattle.cell_rules.specs.edit_sites.Replaced.{IsServerChanged, IsFlowChanged, IsMadeAt}
use Rattle.cell_rules.specs.edit_sites.Sites.{at_server, at_flow, site_of, EditsAreMadeAtOneSite, EditsHaveOneSite, EditsKeepOtherRules}

-- ---- steps that were passed
then_from : {X Y : Type 0} (r : Or X) (next : X → Or Y) (y : Y) → and_then r next ≡ Ok y
    → (x : X) × (r ≡ Ok x) × (next x ≡ Ok y)
then_from (Ok x) next y e = (x, refl, e)
then_from (Err why) next y e = absurd (let bad : ⊥ = cc in bad)

only_from : {X : Type 0} (b : Bool) (r : Or X) (x : X) → only_if b r ≡ Ok x → r ≡ Ok x
only_from true r x e = e
only_from false r x e = absurd (let bad : ⊥ = cc in bad)

free_from : (b : Bool) (name : List ℕ) (r : Or Edited) (x : Edited) → only_if_free b name r ≡ Ok x → r ≡ Ok x
free_from true name r x e = e
free_from false name r x e = absurd (let bad : ⊥ = cc in bad)

left_from : (b : Bool) (d x : Edited) → only_if_left b d ≡ Ok x → d ≡ x
left_from true d x e = cc
left_from false d x e = absurd (let bad : ⊥ = cc in bad)

fitting_from : (net : Net) (made : Option MadeCurve) (x : Edited) → fitting net made ≡ Ok x → x.net ≡ net
fitting_from net made x e =
    let same : Ok record { net = net; made = made } ≡ Ok x = only_from _ (Ok record { net = net; made = made }) x e in
    let both : record { net = net; made = made } ≡ x = cc in
    ap (λ (d : Edited). d.net) (sym both)

-- ---- one server changed
server_put : (f : NetServer → NetServer) (net : Net) (s : ℕ) (o : Option NetServer)
    → IsSameButServer s net (change.server_changed f net s o)
server_put f net s None = record { version = refl; flows = refl; many = refl; servers = λ t n. refl }
server_put f net s (Some server) = record {
  version = refl;
  flows = refl;
  many = sym (length-set net.servers s (f server));
  servers = λ t n. sym (get-set_other net.servers s t (f server) n);
}

by_server : (present net : Net) (r : Or ℕ) (s : ℕ) → r ≡ Ok s → IsServerChanged s present net
    → IsMadeAt (at_server r) present net
by_server present net r s e c = subst (λ (q : Or ℕ). IsMadeAt (at_server q) present net) (sym e) c

-- ---- one flow changed
flow_put : (f : NetFlow → Option NetFlow) (net : Net) (i : ℕ) (o : Option (Option NetFlow))
    → IsSameButFlow i net (change.flow_changed f net i o)
flow_put f net i None = record { version = refl; servers = refl; flows = λ j n. refl }
flow_put f net i (Some None) = record { version = refl; servers = refl; flows = λ j n. refl }
flow_put f net i (Some (Some flow)) =
    record { version = refl; servers = refl; flows = λ j n. sym (get_or-set_other net.flows i j (f flow) None n) }

by_flow : (present net : Net) (r : Or ℕ) (i : ℕ) → r ≡ Ok i → IsFlowChanged i present net
    → IsMadeAt (at_flow r) present net
by_flow present net r i e c = subst (λ (q : Or ℕ). IsMadeAt (at_flow q) present net) (sym e) (inl c)

-- a flow that is found is one of them
number_from : (o : Option ℕ) (name : List ℕ) (i : ℕ) → number_of o name ≡ Ok i → o ≡ Some i
number_from None name i e = absurd (let bad : ⊥ = cc in bad)
number_from (Some n) name i e = let same : n ≡ i = cc in ap Some same

flow_within : (net : Net) (name : List ℕ) (i : ℕ) → flow_number net name ≡ Ok i → i < length net.flows
flow_within net name i e =
    (position-Some (is_flow_named name) net.flows i None
    (number_from (position (is_flow_named name) net.flows) name i e)).0

-- ---- one flow more
more_put : (flow : NetFlow) (net : Net) → IsSameButFlow (length net.flows) net (change.with_more flow net)
more_put flow net = record {
  version = refl;
  servers = refl;
  flows = λ j n. elim (cases_lt j (length net.flows)) [
    | inl l ↦ sym (get_or_append_left net.flows (Some flow ∷ []) None j l)
    | inr l ↦
        let many = length-append net.flows (Some flow ∷ []) in
        let past : length (net.flows ++ Some flow ∷ []) ≤ j = omega (arith, l, n, many) in
        get_or_past net.flows j None l ∙ sym (get_or_past (net.flows ++ Some flow ∷ []) j None past)
  ];
}

-- ---- by kind
module _ (present net : Net) (d : Edited) (same : net ≡ d.net) where
  server_kind : (name : List ℕ) (next : ℕ → Or Edited) → and_then (server_number present name) next ≡ Ok d
      → ((s : ℕ) → next s ≡ Ok d → (f : NetServer → NetServer) × (d.net ≡ change.at_server f present s))
      → IsMadeAt (at_server (server_number present name)) present net
  server_kind name next e each =
      let found = then_from (server_number present name) next d e in
      let changed = each found.0 found.2 in
      by_server present net (server_number present name) found.0 found.1
      (record { change = changed.0; is = same ∙ changed.1 })

  flow_kind : (name : List ℕ) (next : ℕ → Or Edited) → and_then (flow_number present name) next ≡ Ok d
      → ((i : ℕ) → next i ≡ Ok d → (f : NetFlow → Option NetFlow) × (d.net ≡ change.at_flow f present i))
      → IsMadeAt (at_flow (flow_number present name)) present net
  flow_kind name next e each =
      let found = then_from (flow_number present name) next d e in
      let changed = each found.0 found.2 in
      by_flow present net (flow_number present name) found.0 found.1
      (record { within = flow_within present name found.0 found.1; change = changed.0; is = same ∙ changed.1 })

  -- the last steps of most
  tested : (b : Bool) (n : Net) (made : Option MadeCurve) → only_if b (fitting n made) ≡ Ok d → d.net ≡ n
  tested b n made e = fitting_from n made d (only_from b (fitting n made) d e)

  pub one_site : (edit : Edit) → edited present edit ≡ Ok d → IsMadeAt (site_of present edit) present net
  one_site (Rate name rate) e =
      server_kind (string_bytes name) (λ s.
      only_if (is_positive rate)
      (fitting (change.at_server (change.with_rate rate) present s) (rate_made rate s (slice_get present.servers s)))) e
      (λ s h. (
        change.with_rate rate,
        tested (is_positive rate) (change.at_server (change.with_rate rate) present s)
            (rate_made rate s (slice_get present.servers s)) h,
      ))
  one_site (Latency name latency) e =
      server_kind (string_bytes name) (λ s.
      only_if (not (is_negative latency) && has_latency (slice_get present.servers s))
      (fitting (change.at_server (change.with_latency latency) present s)
      (latency_made latency s (slice_get present.servers s)))) e
      (λ s h. (
        change.with_latency latency,
        tested (not (is_negative latency) && has_latency (slice_get present.servers s))
            (change.at_server (change.with_latency latency) present s)
            (latency_made latency s (slice_get present.servers s)) h,
      ))
  one_site (Link name link) e =
      server_kind (string_bytes name) (λ s.
      only_if (not (is_negative link)) (fitting (change.at_server (change.with_link link) present s) None)) e
      (λ s h. (
        change.with_link link,
        tested (not (is_negative link)) (change.at_server (change.with_link link) present s) None h,
      ))
  one_site (Quantum name queue bits) e =
      server_kind (string_bytes name) (λ s.
      and_then (whole_that (is_quantum_of (discipline present s)) queue) (λ q.
      and_then (whole_that is_length bits) (λ b.
      fitting (change.at_server (change.with_quantum q b) present s) None))) e
      (λ s h.
      let lane = then_from (whole_that (is_quantum_of (discipline present s)) queue) (λ q.
      and_then (whole_that is_length bits) (λ b.
      fitting (change.at_server (change.with_quantum q b) present s) None)) d h in
      let many = then_from (whole_that is_length bits) (λ b.
      fitting (change.at_server (change.with_quantum lane.0 b) present s) None) d lane.2 in (
        change.with_quantum lane.0 many.0,
        fitting_from (change.at_server (change.with_quantum lane.0 many.0) present s) None d many.2,
      ))
  one_site (Bucket name burst rate) e =
      flow_kind (string_bytes name) (λ i.
      only_if (not (is_negative burst) && not (is_negative rate))
      (fitting (change.at_flow (change.with_arrival (bucket burst rate)) present i) None)) e
      (λ i h. (
        change.with_arrival (bucket burst rate),
        tested (not (is_negative burst) && not (is_negative rate))
            (change.at_flow (change.with_arrival (bucket burst rate)) present i) None h,
      ))
  one_site (Stair name period jitter) e =
      flow_kind (string_bytes name) (λ i.
      only_if (is_positive period && not (is_negative jitter))
      (fitting (change.at_flow (change.with_arrival (stair_of present i period jitter)) present i)
      (as_arrival i (stair_of present i period jitter)))) e
      (λ i h. (
        change.with_arrival (stair_of present i period jitter),
        tested (is_positive period && not (is_negative jitter))
            (change.at_flow (change.with_arrival (stair_of present i period jitter)) present i)
            (as_arrival i (stair_of present i period jitter)) h,
      ))
  one_site (Packet name bits) e =
      flow_kind (string_bytes name) (λ i.
      and_then (whole_that is_length bits) (λ b. fitting (change.at_flow (change.with_packet b) present i) None)) e
      (λ i h.
      let many = then_from (whole_that is_length bits) (λ b.
      fitting (change.at_flow (change.with_packet b) present i) None) d h in (
        change.with_packet many.0,
        fitting_from (change.at_flow (change.with_packet many.0) present i) None d many.2,
      ))
  one_site (Route name path) e =
      flow_kind (string_bytes name) (λ i.
      and_then (server_numbers present path.items) (λ ss.
      only_if (may_be_path present ss (entry_queues path.items))
      (fitting (change.at_flow (change.with_path ss (entry_queues path.items)) present i) None))) e
      (λ i h.
      let way = then_from (server_numbers present path.items) (λ ss.
      only_if (may_be_path present ss (entry_queues path.items))
      (fitting (change.at_flow (change.with_path ss (entry_queues path.items)) present i) None)) d h in (
        change.with_path way.0 (entry_queues path.items),
        tested (may_be_path present way.0 (entry_queues path.items))
            (change.at_flow (change.with_path way.0 (entry_queues path.items)) present i) None way.2,
      ))
  one_site (Add name bits burst rate path) e =
      let lanes = entry_queues path.items in
      let bytes = string_bytes name in
      let last = λ (ss : List ℕ) (b : ℕ). and_then
      (fitting (change.with_more (new_flow bytes b burst rate ss lanes) present) None)
      (only_if_left (nat_lt (length present.flows) 256)) in
      let inner = λ (ss : List ℕ). and_then (whole_that is_length bits) (λ b. only_if (may_be_path present ss lanes) (last ss b)) in
      let good = is_name bytes && (not (is_negative burst) && not (is_negative rate)) in
      let way = then_from (server_numbers present path.items) (λ ss.
      only_if_free (is_free present bytes) bytes (only_if good (inner ss))) d e in
      let ss = way.0 in
      let named = free_from (is_free present bytes) bytes (only_if good (inner ss)) d way.2 in
      let many = then_from (whole_that is_length bits) (λ b. only_if (may_be_path present ss lanes) (last ss b)) d
      (only_from good (inner ss) d named) in
      let flow = new_flow bytes many.0 burst rate ss lanes in
      let kept = then_from (fitting (change.with_more flow present) None) (only_if_left (nat_lt (length present.flows) 256)) d
      (only_from (may_be_path present ss lanes) (last ss many.0) d many.2) in
      let is : d.net ≡ change.with_more flow present =
      ap (λ (x : Edited). x.net) (sym (left_from (nat_lt (length present.flows) 256) kept.0 d kept.2))
      ∙ fitting_from (change.with_more flow present) None kept.0 kept.1 in
      inr (record { flow = flow; last = refl; is = same ∙ is })
  one_site (Drop name) e =
      flow_kind (string_bytes name) (λ i. fitting (change.at_flow change.dropped present i) None) e
      (λ i h. (change.dropped, fitting_from (change.at_flow change.dropped present i) None d h))
  one_site Undo e = absurd (let bad : ⊥ = cc in bad)

pub edits_are_made_at_one_site : EditsAreMadeAtOneSite
edits_are_made_at_one_site present net edit gives = one_site present net gives.edited gives.net edit gives.is

-- ---- the same but there
same_but : (site : Site) (old new : Net) → IsMadeAt site old new → IsSameBut site old new
same_but Anywhere old new made = absurd made
same_but (Server s) old new made =
    subst (λ (n : Net). IsSameButServer s old n) (sym made.is) (server_put made.change old s (slice_get old.servers s))
same_but (Flow i) old new (inl made) =
    subst (λ (n : Net). IsSameButFlow i old n) (sym made.is) (flow_put made.change old i (slice_get old.flows i))
same_but (Flow i) old new (inr made) =
    subst (λ (n : Net). IsSameButFlow i old n) (sym made.is)
    (subst (λ j. IsSameButFlow j old (change.with_more made.flow old)) (sym made.last) (more_put made.flow old))

pub edits_have_one_site : EditsHaveOneSite
edits_have_one_site present net edit gives =
    same_but (site_of present edit) present net (edits_are_made_at_one_site present net edit gives)

pub edits_keep_other_rules : EditsKeepOtherRules
edits_keep_other_rules present net edit c gives has e =
    others_keep_their_rule (site_of present edit) present net c (edits_have_one_site present net edit gives) has e
