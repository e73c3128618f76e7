-- Two networks have the same hops at a server, and packets as long there, where each flow is the same or comes by in
-- neither.
use Rattle.std.proofs.Common.{◌≡◌, ◌⊎◌, ℕ, suc, ◌+◌, ◌-◌, ◌==◌, List, [], ◌∷◌, length, map, refl, sym, ap, ap₂, ◌∙◌, subst, arith, inl, inr, Bool, false, cond, max}
use Rattle.std.specs.Prelude.{Option, None, not, ◌&&◌, if◌then◌else◌, nat_lt, slice_index}
use Rattle.std.specs.List.{filter, range_with_len}
use Rattle.std.proofs.lemmas.List.{get_or_past}
use Rattle.net_model.specs.Networks.{Net, NetFlow}
use Rattle.net_cells.specs.Numbered.{flow_at, path, path_of, queues_of, hops, packet, packet_of}
use Rattle.net_cells.specs.declared.visit.Visit.{Visit}
use Rattle.net_cells.specs.Visits.{visit, visits, is_at, hops_at, others, longest_of}
use Rattle.net_cells.specs.QueueParts.{in_part}
use Rattle.net_cells.proofs.Growing.{filter_mapped}
use Rattle.net_cells.proofs.Lists.{Has, at_has, map_has, filter_has, flat_has, range_has}
use Rattle.cell_numbers.specs.declared.found.Pick.{Pick}
use Rattle.cell_numbers.specs.declared.found.Pick.TheVariants.{InQueue, AfterQueue, InPart}
use Rattle.cell_numbers.specs.Chosen.{flow_visits, is_other, picks, picked, all_picked, chosen, all_chosen}
use Rattle.cell_numbers.proofs.Choosing.{picked_are, part_picked}
use Rattle.cell_rules.specs.Sites.{passes}
use Rattle.cell_rules.proofs.Found.{any_none}
use Rattle.cell_rules.proofs.SameHops.{IsBlankFrom, same_flat, chosen_blank}

-- ---- filters
filter_on : {X : Type 0} (p q : X → Bool) (xs : List X) → ((x : X) → Has xs x → p x ≡ q x) → filter p xs ≡ filter q xs
filter_on p q [] e = refl
filter_on p q (x ∷ xs) e =
    ap (λ b. cond b (x ∷ filter p xs) (filter p xs)) (e x (inl refl))
    ∙ ap (λ ys. cond (q x) (x ∷ ys) ys) (filter_on p q xs (λ y h. e y (inr h)))

none_left : {X : Type 0} (p : X → Bool) (xs : List X) → ((x : X) → Has xs x → p x ≡ false) → filter p xs ≡ []
none_left p [] e = refl
none_left p (x ∷ xs) e =
    ap (λ b. cond b (x ∷ filter p xs) (filter p xs)) (e x (inl refl)) ∙ none_left p xs (λ y h. e y (inr h))

-- ---- the hops of one flow
by_way : Pick → Option NetFlow → Visit → Bool
by_way (InQueue q) o v = slice_index (queues_of o) v.hop == q
by_way (AfterQueue q) o v = nat_lt q (slice_index (queues_of o) v.hop)
by_way (InPart q k) o v =
    (slice_index (queues_of o) v.hop == q)
    && ((if v.hop == 0 then 0 else suc (slice_index (path_of o) (v.hop - 1))) == k)

picks_by : (net : Net) (pick : Pick) (v : Visit) (j : ℕ) → v.flow ≡ j → picks net pick v ≡ by_way pick (flow_at net j) v
unfolding by_way
picks_by net (InQueue q) v j e = ap (λ i. by_way (InQueue q) (flow_at net i) v) e
picks_by net (AfterQueue q) v j e = ap (λ i. by_way (AfterQueue q) (flow_at net i) v) e
picks_by net (InPart q k) v j e = ap (λ i. by_way (InPart q k) (flow_at net i) v) e

flow_own : (net : Net) (s j : ℕ) (v : Visit) → Has (flow_visits net s j) v → v.flow ≡ j
flow_own net s j v h =
    let here = filter_has (is_at net s) (map (visit j) (range_with_len 0 (hops net j))) v h in
    let hop = map_has (visit j) (range_with_len 0 (hops net j)) v here.0 in
    sym (ap (λ (w : Visit). w.flow) hop.2)

picked_by : Pick → Option NetFlow → ℕ → ℕ → List Visit
picked_by pick o s j = filter (by_way pick o) (hops_at j (path_of o) s)

picked_is : (net : Net) (s : ℕ) (pick : Pick) (j : ℕ) → picked net s pick j ≡ picked_by pick (flow_at net j) s j
unfolding picked_by
picked_is net s pick j =
    filter_on (picks net pick) (by_way pick (flow_at net j)) (flow_visits net s j)
    (λ v h. picks_by net pick v j (flow_own net s j v h))
    ∙ ap (filter (by_way pick (flow_at net j)))
    (filter_mapped (is_at net s) (λ (v : Visit). slice_index (path net j) v.hop == s) (visit j)
    (range_with_len 0 (hops net j)) (λ k. refl))

picked_none : (net : Net) (s : ℕ) (pick : Pick) (j : ℕ) → passes net j s ≡ false → picked net s pick j ≡ []
picked_none net s pick j away =
    ap (filter (picks net pick)) (none_left (is_at net s) (map (visit j) (range_with_len 0 (hops net j))) (λ v h.
    let hop = map_has (visit j) (range_with_len 0 (hops net j)) v h in
    let low = (range_has 0 (hops net j) hop.0 hop.1).1 in
    let k = hop.0 in
    let there = at_has (path net j) k 0 (slice_index (path net j) k) (omega (arith, low)) refl in
    subst (λ (w : Visit). is_at net s w ≡ false) hop.2
    (any_none (λ t. t == s) (path net j) away (slice_index (path net j) k) there)))

-- ---- of all flows
-- the same flow, or at a server in neither
abbrev pub IsSameAt : Net → Net → ℕ → ℕ → Type 0
IsSameAt old new s j = (flow_at old j ≡ flow_at new j) ⊎ ((passes old j s ≡ false) × (passes new j s ≡ false))

picked_blank : (net : Net) (s : ℕ) (pick : Pick) → IsBlankFrom (picked net s pick) (length net.flows)
picked_blank net s pick i l =
    ap (λ (o : Option NetFlow). filter (picks net pick) (filter (is_at net s)
    (map (visit i) (range_with_len 0 (length (path_of o)))))) (get_or_past net.flows i None l)

module _ (old new : Net) (s : ℕ) (same : (j : ℕ) → IsSameAt old new s j) where
  same_picked : (pick : Pick) (j : ℕ) → picked old s pick j ≡ picked new s pick j
  same_picked pick j =
      elim (same j) [
        | inl e ↦
            picked_is old s pick j ∙ ap (λ (o : Option NetFlow). picked_by pick o s j) e ∙ sym (picked_is new s pick j)
        | inr away ↦ picked_none old s pick j away.0 ∙ sym (picked_none new s pick j away.1)
      ]

  all_same : (pick : Pick)
      → all_picked old s pick (length old.flows) ≡ all_picked new s pick (length new.flows)
  all_same pick =
      let most = length old.flows + length new.flows in
      same_flat (picked old s pick) (picked new s pick) (length old.flows) (length new.flows) most
      (omega arith) (omega arith) (picked_blank old s pick) (picked_blank new s pick) (λ i h. same_picked pick i)

  pub same_chosen : (pick : Pick) (except : Option ℕ)
      → all_chosen old s pick except (length old.flows) ≡ all_chosen new s pick except (length new.flows)
  same_chosen pick except =
      let most = length old.flows + length new.flows in
      same_flat (chosen old s pick except) (chosen new s pick except) (length old.flows) (length new.flows) most
      (omega arith) (omega arith) (chosen_blank old s pick except) (chosen_blank new s pick except)
      (λ i h. ap (filter (is_other except)) (same_picked pick i))

  pub same_visits : (pick : Pick) → filter (picks old pick) (visits old s) ≡ filter (picks new pick) (visits new s)
  same_visits pick = picked_are old s pick ∙ all_same pick ∙ sym (picked_are new s pick)

  pub same_others : (i q : ℕ) → others old i s q ≡ others new i s q
  same_others i q = ap (filter (λ (v : Visit). not (v.flow == i))) (same_visits (InQueue q))

  -- ---- their longest packets
  longest_on : (vs : List Visit) → ((v : Visit) → Has vs v → packet old v.flow ≡ packet new v.flow)
      → longest_of old vs ≡ longest_of new vs
  longest_on [] e = refl
  longest_on (v ∷ vs) e = ap₂ max (e v (inl refl)) (longest_on vs (λ w h. e w (inr h)))

  same_packet : (pick : Pick) (v : Visit) → Has (filter (picks old pick) (visits old s)) v → packet old v.flow ≡ packet new v.flow
  same_packet pick v h =
      let among = flat_has (picked old s pick) (range_with_len 0 (length old.flows)) v
      (subst (λ (vs : List Visit). Has vs v) (picked_are old s pick) h) in
      let own = flow_own old s among.0 v (filter_has (picks old pick) (flow_visits old s among.0) v among.2).0 in
      elim (same among.0) [
        | inl e ↦ ap (packet old) own ∙ ap packet_of e ∙ sym (ap (packet new) own)
        | inr away ↦
            absurd (subst (λ (vs : List Visit). Has vs v) (picked_none old s pick among.0 away.0) among.2)
      ]

  pub same_longest : (pick : Pick) → longest_of old (filter (picks old pick) (visits old s))
      ≡ longest_of new (filter (picks new pick) (visits new s))
  same_longest pick =
      longest_on (filter (picks old pick) (visits old s)) (same_packet pick) ∙ ap (longest_of new) (same_visits pick)

  -- ---- parts of a queue
  pub same_part_hops : (q k : ℕ) → in_part old s q k ≡ in_part new s q k
  same_part_hops q k = part_picked old s q k ∙ all_same (InPart q k) ∙ sym (part_picked new s q k)

  pub same_part_longest : (q k : ℕ) → longest_of old (in_part new s q k) ≡ longest_of new (in_part new s q k)
  same_part_longest q k =
      let found : (net : Net) → in_part net s q k ≡ filter (picks net (InPart q k)) (visits net s) =
      λ net. part_picked net s q k ∙ sym (picked_are net s (InPart q k)) in
      ap (longest_of old) (sym (same_part_hops q k) ∙ found old) ∙ same_longest (InPart q k)
      ∙ ap (longest_of new) (sym (found new))
