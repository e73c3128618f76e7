-- The steps of all flows, one flow after the other.
use Rattle.std.proofs.Common.{◌≡◌, ℕ, ◌<◌, ◌+◌, List, [], ◌∷◌, ◌++◌, length, get_or, take, sym, ◌∙◌, ap, subst, arith, inl, inr, Option, Some, None}
use Rattle.std.specs.Prelude.{Contains, All}
use Rattle.std.specs.Option.{option_map}
use Rattle.std.proofs.lemmas.List.{map_more, length-map, get_or-map, get_or_default}
use Rattle.std.proofs.lemmas.Option.{slice_get_within}
use Rattle.net_model.specs.declared.flow.Flow.{Flow}
use Rattle.net_model.specs.Networks.{Net, NetFlow}
use Rattle.net_model.specs.Accepted.{IsAccepted}
use Rattle.net_model.specs.Views.{flow_of, flows_of}
use Rattle.net_model.specs.Walks.{IsStep, IsNextOn}
use Rattle.net_model.specs.net_graph.Waits.{AreBefore, AddsSteps}
use Rattle.net_model.proofs.net_graph.Members.{kept_left, kept_last, pushed}

pub path_in_range : (net : Net) (f : NetFlow) → IsAccepted net → Contains net.flows (Some f) → All (λ s. s < length net.servers) f.path
path_in_range net f kept live k d h =
    let hop = (kept.flows f live).hops k h in
    let P : ℕ → Type 0 = λ s. s < length net.servers in
    subst P (get_or_default f.path k 0 d h) (slice_get_within net.servers (get_or f.path k 0) hop.server hop.is)

-- a flow that is stored is a flow of the network
pub stored_flow : (net : Net) (fs : List (Option Flow)) (i : ℕ) (f : Flow) → flows_of fs ≡ net.flows → i < length fs → Some f ≡ get_or fs i (Some f)
    → Contains net.flows (Some (flow_of f))
stored_flow net fs i f same h is =
    let P : List (Option NetFlow) → Type 0 = λ gs. Contains gs (Some (flow_of f)) in
    let count = length-map fs (option_map flow_of) in
    subst P same
    (i, omega (arith, h, count), get_or-map (option_map flow_of) fs i (Some f) (Some (flow_of f)) h ∙ ap (option_map flow_of) (sym is))

more : (gs : List (Option NetFlow)) (g : Option NetFlow) (a b : ℕ) → IsNextOn gs a b → IsNextOn (gs ++ g ∷ []) a b
more gs g a b s = record { flow = s.flow; live = kept_left gs (g ∷ []) (Some s.flow) s.live; step = s.step }

pub dropped_flow : (gs : List (Option NetFlow)) (n : ℕ) (lists : List (List ℕ)) → AreBefore gs n lists → AreBefore (gs ++ None ∷ []) n lists
dropped_flow gs n lists b = record {
  count = b.count;
  only = λ x y c. more gs None x y (b.only x y c);
  all = λ x y s. elim (pushed gs None (Some s.flow) s.live) [
    | inl m ↦ b.all x y (record { flow = s.flow; live = m; step = s.step })
    | inr e ↦ absurd cc
  ];
}

pub live_flow : (gs : List (Option NetFlow)) (f : NetFlow) (n : ℕ) (old new : List (List ℕ)) → AreBefore gs n old → AddsSteps old new f.path
    → AreBefore (gs ++ Some f ∷ []) n new
live_flow gs f n old new b adds = record {
  count = adds.count ∙ b.count;
  only = λ x y c. elim (adds.only x y c) [
    | inl m ↦ more gs (Some f) x y (b.only x y m)
    | inr s ↦ record { flow = f; live = kept_last gs (Some f); step = s }
  ];
  all = λ x y s. elim (pushed gs (Some f) (Some s.flow) s.live) [
    | inl m ↦ adds.keeps x y (b.all x y (record { flow = s.flow; live = m; step = s.step }))
    | inr e ↦ adds.adds x y (let P : NetFlow → Type 0 = λ g. IsStep g.path x y in let same : s.flow ≡ f = cc in subst P same s.step)
  ];
}

-- the flows up to a place and the one there
pub flows_more : (fs : List (Option Flow)) (i : ℕ) (x : Option Flow) → i < length fs → x ≡ get_or fs i x
    → flows_of (take (i + 1) fs) ≡ flows_of (take i fs) ++ option_map flow_of x ∷ []
flows_more fs i x h is = map_more (option_map flow_of) fs i x h ∙ ap (λ y. flows_of (take i fs) ++ option_map flow_of y ∷ []) (sym is)
