-- Cells that are no candidates are made of the same.
use Rattle.std.proofs.Common.{◌≡◌, ◌≢◌, ◌⊎◌, ℕ, zero, suc, ◌-◌, ◌==◌, List, [], ◌∷◌, length, map, refl, sym, ap, ap₂, ◌∙◌, subst, inl, inr, Bool, true, false, arith, ⊎_elim}
use Rattle.std.specs.Prelude.{Option, None, not, is_some, slice_get, slice_index, slice_index_or, nat_lt, ◌+◌, ◌&&◌, ◌||◌}
use Rattle.std.specs.List.{range_with_len}
use Rattle.std.proofs.lemmas.Bool.{or_parts, eq-eqb}
use Rattle.std.proofs.lemmas.Bool.Decides.{eqb_tells}
use Rattle.run_laws.specs.Servers.{queue_count}
use Rattle.net_model.specs.Networks.{Net, NetServer, NetFlow}
use Rattle.net_cells.specs.declared.cell.Cell.{Cell}
use Rattle.net_cells.specs.declared.cell.Kind.{Kind}
use Rattle.net_cells.specs.declared.cell.Kind.TheVariants.{In, Cross, Total, Higher, QueueService, Theta, Residual, QueueDelay, QueueBacklog, HopDelay, ShiftOut, DeconvOut, Out, PathService, Tfa, Sfa, Bound}
use Rattle.net_cells.specs.Numbered.{flow_at, path, path_of, queues_of, packet_of, arrival_of, hops, service_of, rate, rate_of, link, link_of, discipline, discipline_of, levels_of, server_of_hop, queue_of_hop}
use Rattle.net_cells.specs.declared.visit.Visit.{Visit}
use Rattle.net_cells.specs.Visits.{others, longest_of}
use Rattle.net_cells.specs.QueueParts.{in_part}
use Rattle.net_cells.specs.Left.{left_of}
use Rattle.net_cells.specs.Order.{at_visit}
use Rattle.net_cells.specs.Cells.{scope_of, is_in_scope, has_cell}
use Rattle.net_cells.specs.Formulas.{given, cut, part, no_part}
use Rattle.net_cells.specs.CellFormulas.{formula_of, left_formula, sum_of_cells, sum_of_hops, with_part, parts_sum, total, served_to, link_delays}
use Rattle.net_cells.proofs.Lists.{Has}
use Rattle.net_cells.proofs.LeftOf.{left_same}
use Rattle.cell_numbers.specs.declared.found.Pick.TheVariants.{InQueue, AfterQueue, InPart}
use Rattle.cell_numbers.specs.Chosen.{all_chosen}
use Rattle.cell_numbers.proofs.Choosing.{part_visits}
use Rattle.cell_rules.specs.cell_changes.Changes.{HasSameRule}
use Rattle.cell_rules.specs.declared.site.Site.TheVariants.{Anywhere, Server, Flow}
use Rattle.cell_rules.specs.Rules.{TellsSame, hop_queue}
use Rattle.cell_rules.specs.Sites.{passes, has_hop, is_cut_by, IsSameButServer, IsSameButFlow, OthersKeepTheirRule, reads_server, reads_flow}
use Rattle.cell_rules.proofs.Found.{any_none}
use Rattle.cell_rules.proofs.SameMade.{theta_tells, residual_tells, hop_delay_tells, backlog_tells, deconv_tells, served_same, tfa_tells, sfa_tells}
use Rattle.cell_rules.proofs.SameFlows.{IsSameAt, same_visits, same_others, same_longest, same_part_hops, same_part_longest}
use Rattle.cell_rules.proofs.SameParts.{same_row}

-- ---- numbers and lists
differ : (n m : ℕ) → n == m ≡ false → n ≢ m
differ n m e same = let yes = eq-eqb n m same in let bad : ⊥ = cc in bad

map_on : {X Y : Type 0} (f g : X → Y) (xs : List X) → ((x : X) → Has xs x → f x ≡ g x) → map f xs ≡ map g xs
map_on f g [] e = refl
map_on f g (x ∷ xs) e = ap₂ (λ y ys. y ∷ ys) (e x (inl refl)) (map_on f g xs (λ y h. e y (inr h)))

other_half : (b d : Bool) → b ≡ true → b && d ≡ false → d ≡ false
other_half true d e f = f
other_half false d e f = absurd (let bad : ⊥ = cc in bad)

no_hop : (vs : List Visit) → has_hop vs ≡ false → vs ≡ []
no_hop [] e = refl
no_hop (v ∷ vs) e = absurd (let bad : ⊥ = cc in bad)

pub told_part : (net : Net) (s q k : ℕ) (unused : Bool)
    → TellsSame (all_chosen net s (InPart q k) None (length net.flows)) [] unused → not unused ≡ has_hop (in_part net s q k)
told_part net s q k true t = sym (ap has_hop (part_visits net s q k ∙ t))
told_part net s q k false t = some (in_part net s q k) (λ e. t (sym (part_visits net s q k) ∙ e))
  where
    some : (vs : List Visit) → vs ≢ [] → true ≡ has_hop vs
    some [] n = absurd (n refl)
    some (v ∷ vs) n = refl

-- ---- what is the same of two networks
module _ (old new : Net) where
  abbrev IsSameFlow : ℕ → Type 0
  IsSameFlow i = flow_at old i ≡ flow_at new i

  abbrev IsSameServer : ℕ → Type 0
  IsSameServer s = slice_get old.servers s ≡ slice_get new.servers s

  abbrev AreSameAt : ℕ → Type 0
  AreSameAt s = (j : ℕ) → IsSameAt old new s j

  -- where the sum of a queue is made part by part, each part is of no hop, or cut at the same rate
  abbrev AreCutAlike : ℕ → ℕ → Type 0
  AreCutAlike s q =
      new.version == 2 ≡ true → (p : ℕ) → (in_part new s q (suc p) ≡ []) ⊎ (rate old p ≡ rate new p)

  -- enough of it for a cell to be made of the same
  abbrev IsKnown : Kind → ℕ → ℕ → Type 0
  IsKnown In a b = IsSameFlow a
  IsKnown Cross a b = IsSameFlow a × AreSameAt (server_of_hop new a b)
  IsKnown Total a b = IsSameServer a × AreSameAt a × AreCutAlike a b
  IsKnown Higher a b = IsSameServer a
  IsKnown QueueService a b = IsSameServer a × AreSameAt a
  IsKnown Theta a b = IsSameFlow a
  IsKnown Residual a b = IsSameFlow a
  IsKnown QueueDelay a b = IsSameServer a
  IsKnown QueueBacklog a b = IsSameServer a × AreSameAt a
  IsKnown HopDelay a b = IsSameFlow a
  IsKnown ShiftOut a b = IsSameFlow a
  IsKnown DeconvOut a b = IsSameFlow a
  IsKnown Out a b = IsSameFlow a
  IsKnown PathService a b = IsSameFlow a
  IsKnown Tfa a b = IsSameFlow a × (link_delays old a ≡ link_delays new a)
  IsKnown Sfa a b = IsSameFlow a × (link_delays old a ≡ link_delays new a)
  IsKnown Bound a b = IsSameFlow a

  -- ---- the same cells
  same_hops : (i : ℕ) → IsSameFlow i → hops old i ≡ hops new i
  same_hops i e = ap (λ (o : Option NetFlow). length (path_of o)) e

  at_hop : (i b : ℕ) → IsSameFlow i → nat_lt b (hops old i) ≡ nat_lt b (hops new i)
  at_hop i b e = ap (λ n. nat_lt b n) (same_hops i e)

  at_hop_but_last : (i b : ℕ) → IsSameFlow i → nat_lt (b + 1) (hops old i) ≡ nat_lt (b + 1) (hops new i)
  at_hop_but_last i b e = ap (λ n. nat_lt (b + 1) n) (same_hops i e)

  on_path : (i b : ℕ) → IsSameFlow i → (is_some (flow_at old i) && (b == 0)) ≡ (is_some (flow_at new i) && (b == 0))
  on_path i b e = ap (λ (o : Option NetFlow). is_some o && (b == 0)) e

  at_queue : (s b : ℕ) → IsSameServer s
      → nat_lt b (queue_count (discipline old s)) ≡ nat_lt b (queue_count (discipline new s))
  at_queue s b e = ap (λ (o : Option NetServer). nat_lt b (queue_count (discipline_of o))) e

  same_cells : (k : Kind) (a b : ℕ) → IsKnown k a b → is_in_scope old (scope_of k) a b ≡ is_in_scope new (scope_of k) a b
  same_cells In a b e = at_hop a b e
  same_cells Cross a b e = at_hop a b e.0
  same_cells Total a b e = at_queue a b e.0
  same_cells Higher a b e = ap (λ (o : Option NetServer). nat_lt b (levels_of (discipline_of o))) e
  same_cells QueueService a b e = at_queue a b e.0
  same_cells Theta a b e = at_hop a b e
  same_cells Residual a b e = at_hop a b e
  same_cells QueueDelay a b e = at_queue a b e
  same_cells QueueBacklog a b e = at_queue a b e.0
  same_cells HopDelay a b e = at_hop a b e
  same_cells ShiftOut a b e = at_hop_but_last a b e
  same_cells DeconvOut a b e = at_hop_but_last a b e
  same_cells Out a b e = at_hop_but_last a b e
  same_cells PathService a b e = on_path a b e
  same_cells Tfa a b e = on_path a b e.0
  same_cells Sfa a b e = on_path a b e.0
  same_cells Bound a b e = on_path a b e

  -- ---- the same formulas
  place : (i k : ℕ) → IsSameFlow i → hop_queue old i k ≡ hop_queue new i k
  place i k e = ap (λ (o : Option NetFlow). (slice_index (path_of o) k, slice_index (queues_of o) k)) e

  in_same : (i k : ℕ) → IsSameFlow i → formula_of old In i k ≡ formula_of new In i k
  in_same i zero e = ap (λ (o : Option NetFlow). given (arrival_of o)) e
  in_same i (suc k) e = refl

  cross_same : (i k : ℕ) → IsSameFlow i → AreSameAt (server_of_hop new i k) → formula_of old Cross i k ≡ formula_of new Cross i k
  cross_same i k e same =
      ap (λ (p : ℕ × ℕ). sum_of_cells (map (at_visit In) (others old i p.0 p.1))) (place i k e)
      ∙ ap (λ vs. sum_of_cells (map (at_visit In) vs))
      (same_others old new (server_of_hop new i k) same i (queue_of_hop new i k))

  path_same : (i : ℕ) → IsSameFlow i → formula_of old PathService i 0 ≡ formula_of new PathService i 0
  path_same i e =
      ap (λ n. served_to old i (n - 1)) (same_hops i e) ∙ served_same old new i (hops new i - 1) (ap packet_of e)

  service_same : (s q : ℕ) → IsSameServer s → AreSameAt s → formula_of old QueueService s q ≡ formula_of new QueueService s q
  service_same s q e same =
      ap₂ left_formula (ap service_of e)
      (left_same old new s q (discipline old s) (same_longest old new s same (AfterQueue q)) (λ p. same_longest old new s same (InQueue p))
      ∙ ap (λ (o : Option NetServer). left_of new s q (discipline_of o)) e)

  part_kept : (k : ℕ) (vs : List Visit) → longest_of old vs ≡ longest_of new vs
      → ((p : ℕ) → k ≡ suc p → (vs ≡ []) ⊎ (rate old p ≡ rate new p))
      → with_part old k vs no_part ≡ with_part new k vs no_part
  part_kept k [] bits alike = refl
  part_kept zero (v ∷ vs) bits alike = refl
  part_kept (suc p) (v ∷ vs) bits alike =
      elim (alike p refl) [
        | inl none ↦ absurd (let bad : ⊥ = cc in bad)
        | inr speed ↦ ap₂ (λ n x. part (cut (sum_of_hops (v ∷ vs)) p n x) no_part) bits speed
      ]

  total_kept : (s q : ℕ) → length old.servers ≡ length new.servers → AreSameAt s → AreCutAlike s q
      → (b : Bool) → new.version == 2 ≡ b → total b old s q ≡ total b new s q
  total_kept s q many same alike true two =
      same_row old new s q 0 (suc (length old.servers)) (λ k low high.
      ap (λ vs. with_part old k vs no_part) (same_part_hops old new s same q k)
      ∙ part_kept k (in_part new s q k) (same_part_longest old new s same q k) (λ p e.
      subst (λ j. (in_part new s q j ≡ []) ⊎ (rate old p ≡ rate new p)) (sym e) (alike two p)))
      ∙ ap (λ n. parts_sum new s q (range_with_len 0 (suc n))) many
  total_kept s q many same alike false two = ap sum_of_hops (same_visits old new s same (InQueue q))

  module _ (version : old.version ≡ new.version) (many : length old.servers ≡ length new.servers) where
    same_rule : (k : Kind) (a b : ℕ) → IsKnown k a b → formula_of old k a b ≡ formula_of new k a b
    same_rule In a b e = in_same a b e
    same_rule Cross a b e = cross_same a b e.0 e.1
    same_rule Total a b e =
        ap (λ n. total (n == 2) old a b) version ∙ total_kept a b many e.1 e.2 (new.version == 2) refl
    same_rule Higher a b e = refl
    same_rule QueueService a b e = service_same a b e.0 e.1
    same_rule Theta a b e = theta_tells old new a b true (place a b e)
    same_rule Residual a b e = residual_tells old new a b true (place a b e)
    same_rule QueueDelay a b e = refl
    same_rule QueueBacklog a b e = backlog_tells old new a b true (same_longest old new a e.1 (InQueue b))
    same_rule HopDelay a b e = hop_delay_tells old new a b true (place a b e)
    same_rule ShiftOut a b e = refl
    same_rule DeconvOut a b e = deconv_tells old new a b true (ap packet_of e)
    same_rule Out a b e = refl
    same_rule PathService a b e = path_same a e
    same_rule Tfa a b e = tfa_tells old new a true e.1
    same_rule Sfa a b e = sfa_tells old new a true e.1
    same_rule Bound a b e = refl

  same_links : (i : ℕ) → IsSameFlow i → ((t : ℕ) → Has (path new i) t → link old t ≡ link new t)
      → link_delays old i ≡ link_delays new i
  same_links i e each =
      ap (λ (o : Option NetFlow). map (link old) (path_of o)) e ∙ map_on (link old) (link new) (path new i) each

  -- ---- but at one server
  module _ (s : ℕ) (but : IsSameButServer s old new) where
    flows_same : (i : ℕ) → IsSameFlow i
    flows_same i = ap (λ fs. slice_index_or fs i None) but.flows

    all_same : (t : ℕ) → AreSameAt t
    all_same t j = inl (flows_same j)

    links_same : (i : ℕ) → passes new i s ≡ false → link_delays old i ≡ link_delays new i
    links_same i away =
        same_links i (flows_same i) (λ t h.
        ap link_of (but.servers t (differ t s (any_none (λ n. n == s) (path new i) away t h))))

    cut_alike : (a b : ℕ) → is_cut_by new s a b ≡ false → AreCutAlike a b
    cut_alike a b away two p = ⊎_elim
        (λ (k : (p == s ≡ true) × (p ≡ s)).
        let next : s + 1 ≡ suc p = omega (arith, k.1) in
        let none = no_hop (in_part new a b (s + 1)) (other_half (new.version == 2) (has_hop (in_part new a b (s + 1))) two away) in
        inl (subst (λ j. in_part new a b j ≡ []) next none))
        (λ (k : (p == s ≡ false) × (p ≢ s)). inr (ap rate_of (but.servers p k.1)))
        (eqb_tells p s)

    pub known_by_server : (k : Kind) (a b : ℕ) → reads_server new s k a b ≡ false → IsKnown k a b
    known_by_server In a b e = flows_same a
    known_by_server Cross a b e = (flows_same a, all_same (server_of_hop new a b))
    known_by_server Total a b e =
        let parts = or_parts (a == s) (is_cut_by new s a b) e in
        (but.servers a (differ a s parts.0), all_same a, cut_alike a b parts.1)
    known_by_server Higher a b e = but.servers a (differ a s e)
    known_by_server QueueService a b e = (but.servers a (differ a s e), all_same a)
    known_by_server Theta a b e = flows_same a
    known_by_server Residual a b e = flows_same a
    known_by_server QueueDelay a b e = but.servers a (differ a s e)
    known_by_server QueueBacklog a b e = (but.servers a (differ a s e), all_same a)
    known_by_server HopDelay a b e = flows_same a
    known_by_server ShiftOut a b e = flows_same a
    known_by_server DeconvOut a b e = flows_same a
    known_by_server Out a b e = flows_same a
    known_by_server PathService a b e = flows_same a
    known_by_server Tfa a b e = (flows_same a, links_same a e)
    known_by_server Sfa a b e = (flows_same a, links_same a e)
    known_by_server Bound a b e = flows_same a

  -- ---- but at one flow
  module _ (i : ℕ) (but : IsSameButFlow i old new) where
    servers_same : (s : ℕ) → IsSameServer s
    servers_same s = ap (λ ss. slice_get ss s) but.servers

    flow_same : (j : ℕ) → j == i ≡ false → IsSameFlow j
    flow_same j e = but.flows j (differ j i e)

    at_same : (s : ℕ) → passes old i s ≡ false → passes new i s ≡ false → AreSameAt s
    at_same s here there j = ⊎_elim
        (λ (k : (j == i ≡ true) × (j ≡ i)). inr (ap (λ n. passes old n s) k.1 ∙ here, ap (λ n. passes new n s) k.1 ∙ there))
        (λ (k : (j == i ≡ false) × (j ≢ i)). inl (but.flows j k.1))
        (eqb_tells j i)

    by_flow : (s : ℕ) → (passes old i s || passes new i s) ≡ false → AreSameAt s
    by_flow s e = let away = or_parts (passes old i s) (passes new i s) e in at_same s away.0 away.1

    path_links : (j : ℕ) → j == i ≡ false → link_delays old j ≡ link_delays new j
    path_links j e = same_links j (flow_same j e) (λ t h. ap link_of (servers_same t))

    pub known_by_flow : (k : Kind) (a b : ℕ) → reads_flow old new i k a b ≡ false → IsKnown k a b
    known_by_flow In a b e = flow_same a e
    known_by_flow Cross a b e =
        let t = server_of_hop new a b in
        let parts = or_parts (a == i) (passes old i t || passes new i t) e in
        (flow_same a parts.0, by_flow t parts.1)
    known_by_flow Total a b e = (servers_same a, by_flow a e, λ two p. inr (ap rate_of (servers_same p)))
    known_by_flow Higher a b e = servers_same a
    known_by_flow QueueService a b e = (servers_same a, by_flow a e)
    known_by_flow Theta a b e = flow_same a e
    known_by_flow Residual a b e = flow_same a e
    known_by_flow QueueDelay a b e = servers_same a
    known_by_flow QueueBacklog a b e = (servers_same a, by_flow a e)
    known_by_flow HopDelay a b e = flow_same a e
    known_by_flow ShiftOut a b e = flow_same a e
    known_by_flow DeconvOut a b e = flow_same a e
    known_by_flow Out a b e = flow_same a e
    known_by_flow PathService a b e = flow_same a e
    known_by_flow Tfa a b e = (flow_same a e, path_links a e)
    known_by_flow Sfa a b e = (flow_same a e, path_links a e)
    known_by_flow Bound a b e = flow_same a e

-- ---- both
keeps : (old new : Net) (c : Cell) → old.version ≡ new.version → length old.servers ≡ length new.servers
    → has_cell new c ≡ true → IsKnown old new c.kind c.a c.b → HasSameRule old new c
keeps old new c version many has known = record {
  before = same_cells old new c.kind c.a c.b known ∙ has;
  after = has;
  same = same_rule old new version many c.kind c.a c.b known;
}

pub others_keep_their_rule : OthersKeepTheirRule
others_keep_their_rule Anywhere old new c but has e = absurd (let bad : ⊥ = cc in bad)
others_keep_their_rule (Server s) old new c but has e =
    keeps old new c but.version but.many has (known_by_server old new s but c.kind c.a c.b e)
others_keep_their_rule (Flow i) old new c but has e =
    keeps old new c but.version (ap length but.servers) has (known_by_flow old new i but c.kind c.a c.b e)
