-- The curves of links grow along their trees by the delays of the rows.
use Rattle.std.proofs.Common.{◌≡◌, ◌≢◌, ℕ, zero, suc, ◌<◌, ◌+◌, ◌^◌, pos, Bool, true, false, Option, Some, None, List, [], ◌∷◌, length, get_or, map, if◌then◌else◌, refl, sym, ◌∙◌, ap, subst, arith}
use Rattle.std.specs.Prelude.{nat_lt}
use Rattle.rational.specs.Rational.{ℚ, int, ◌+ℚ◌, ◌*ℚ◌, ◌/ℚ◌, ◌≤ℚ◌}
use Rattle.rational.specs.Extended.{Ext, ◌≤ₑ◌}
use Rattle.rational.specs.declared.Extended.TheVariants.{Fin, Inf}
use Rattle.rational.specs.Whole.{whole_part}
use Rattle.rational.proofs.ExtendedOrder.{le_inf}
use Rattle.rational.proofs.Laws.{le_refl}
use Rattle.rational.proofs.Linear.{with_atoms}
use Rattle.min_plus.specs.Functions.{whole}
use Rattle.min_plus.specs.Pointwise.{shifted}
use Rattle.run_laws.specs.Routes.{queue_at}
use Rattle.tree_runs.specs.Trees.{Tree, tree_of, hops_in, tree_server_before}
use Rattle.tree_runs.specs.Bounded.{GrowsByStays, stay_in}
use Rattle.arrival_lines.specs.Grid.{bits, micros}
use Rattle.arrival_lines.specs.declared.grid.Queue.{Queue}
use Rattle.arrival_lines.proofs.Units.{micros_add, micros_nonneg}
use Rattle.arrival_stairs.specs.Stairs.{stair_at}
use Rattle.arrival_stairs.specs.declared.stairs.Stair.{Stair}
use Rattle.tree_network.specs.Networks.{IsNetwork, HangsBefore, node_at, no_node}
use Rattle.tree_network.specs.declared.network.Link.{Link}
use Rattle.tree_network.specs.declared.network.Network.{Network}
use Rattle.tree_network.specs.declared.network.Node.{Node}
use Rattle.tree_network.specs.declared.spots.Spot.{Spot}
use Rattle.tree_network.specs.Spots.{spot_at, spots_below, spots_of, source_in, number_before}
use Rattle.tree_network.proofs.Those.{eq_true, eq_false}
use Rattle.tree_bounds.specs.Stairs.{later_stair}
use Rattle.tree_bounds.specs.guarantee.Routes.{routes_of, node_of, port_before}
use Rattle.tree_bounds.proofs.guarantee.Forward.{spot_found, HangsAt, hangs_at}
use Rattle.tree_bounds.proofs.guarantee.Gathered.{number_at}
use Rattle.tree_bounds.proofs.guarantee.Summed.{curve_of, arrival_at}
use Rattle.tree_bounds.proofs.guarantee.Begun.{IsLiveLink, live_link, number_is}

-- ---- the numbers of a row; infinite where there is none
abbrev pub delay_in : Option Queue → Ext
delay_in None = Inf
delay_in (Some queue) = Fin (micros queue.delay)

abbrev pub held_in : Option Queue → Ext
held_in None = Inf
held_in (Some queue) = Fin (whole queue.backlog)

abbrev pub delay_by : (ℕ → ℕ → Option Queue) → ℕ → ℕ → Ext
delay_by row s q = delay_in (row s q)

abbrev pub held_by : (ℕ → ℕ → Option Queue) → ℕ → ℕ → Ext
held_by row s q = held_in (row s q)

pub delays_some : (row : ℕ → ℕ → Option Queue) (s q : ℕ) → Fin (int (pos 0)) ≤ₑ delay_by row s q
delays_some row s q = some (row s q)
  where
    some : (o : Option Queue) → Fin (int (pos 0)) ≤ₑ delay_in o
    some None = tt
    some (Some queue) = micros_nonneg queue.delay

-- ---- a stair behind a queue
sooner : (stair : Stair) (delay : ℕ) (t : ℚ)
    → stair_at stair (t +ℚ micros delay) ≡ stair_at record { frame = stair.frame; gap = stair.gap; jitter = stair.jitter + delay } t
sooner stair delay t =
    ap (λ x. bits stair.frame *ℚ whole (suc (whole_part (x /ℚ micros stair.gap))))
    (joined t (micros delay) (micros stair.jitter) (micros (stair.jitter + delay)) (micros_add stair.jitter delay))
  where
    joined : (t d j s : ℚ) → s ≡ j +ℚ d → (t +ℚ d) +ℚ j ≡ t +ℚ s
    joined t d j s e = with_atoms (t ∷ d ∷ j ∷ s ∷ []) (λ c. omega (arith, c.le, c.lt, c.same))

later_above : (stair : Option Stair) (row : Option Queue) (t : ℚ) → shifted (curve_of stair) (delay_in row) t ≤ₑ curve_of (later_stair stair row) t
later_above None row t = le_inf (shifted (curve_of None) (delay_in row) t)
later_above (Some stair) None t = tt
later_above (Some stair) (Some queue) t = by_size (nat_lt (stair.jitter + queue.delay) (2 ^ 62))
  where
    by_size : (b : Bool) → shifted (curve_of (Some stair)) (Fin (micros queue.delay)) t
        ≤ₑ curve_of (if b then Some record { frame = stair.frame; gap = stair.gap; jitter = stair.jitter + queue.delay } else None) t
    by_size false = tt
    by_size true =
        subst (λ x. stair_at stair (t +ℚ micros queue.delay) ≤ℚ x) (sooner stair queue.delay t) (le_refl (stair_at stair (t +ℚ micros queue.delay)))

-- ---- from port to port
pub queue_first : (link : Link) (s : ℕ) (xs : List Node) (k : ℕ) → k < length xs → (get_or xs k no_node).port ≡ s → ((j : ℕ) → j < k → (get_or xs j no_node).port ≢ s)
    → queue_at s (hops_in (map (node_of link) xs)) ≡ (get_or xs k no_node).queue
queue_first link s [] k h e none = absurd (omega (arith, h))
queue_first link s (x ∷ xs) zero h e none = let hit = eq_true x.port s e in rw hit refl
queue_first link s (x ∷ xs) (suc k) h e none =
    let miss = eq_false x.port s (none 0 (omega arith)) in
    let rest = queue_first link s xs k (omega (arith, h)) e (λ j lt. none (suc j) (omega (arith, lt))) in
    rw miss rest

-- the place before, at port a
record IsAfter (link : Link) (place a : ℕ) : Type 0 where
  before : ℕ
  from : (node_at link place).from ≡ Some before
  early : before < place
  port : (node_at link before).port ≡ a

is_after : (link : Link) (place a : ℕ) (from : Option ℕ) → (node_at link place).from ≡ from → HangsBefore place from → port_before link from ≡ Some a → IsAfter link place a
is_after link place a None is h e = absurd (let f : None ≡ Some a = e in cc)
is_after link place a (Some before) is h e = record { before = before; from = is; early = h; port = cc }

abbrev pub GoesOn : Network → (ℕ → ℕ → Option Queue) → (ℕ → Option Stair) → Type 0
GoesOn net row stair = (n a : ℕ) → n < length (spots_of net) → (spot_at (spots_of net) n).source ≡ suc a
    → stair n ≡ later_stair (stair (spot_at (spots_of net) n).from) (row a (spot_at (spots_of net) (spot_at (spots_of net) n).from).queue)

pub grows : (net : Network) (row : ℕ → ℕ → Option Queue) (stair : ℕ → Option Stair) → IsNetwork net → GoesOn net row stair
    → GrowsByStays (routes_of net) (arrival_at net stair) (stay_in (routes_of net) (delay_by row))
grows net row stair w goes i a b live hang t on =
    subst Now (sym here) (subst Row (sym queue) (subst Then (sym there) (subst Next (sym next) (later_above (stair (first + after.before)) (row a (node_at link after.before).queue) t))))
  where
    v : IsLiveLink net i
    v = live_link net i w live

    link : Link
    link = v.link

    first : ℕ
    first = length (spots_below net i)

    at : HangsAt link link.nodes.items a b
    at = let P : Tree → Type 0 = λ x. tree_server_before b x.nodes ≡ Some a in hangs_at link link.nodes.items a b (subst P v.tree hang)

    after : IsAfter link at.place a
    after = is_after link at.place a (node_at link at.place).from refl (v.fits.nodes at.place at.inside).hangs at.before

    within : after.before < length link.nodes.items
    within = omega (arith, after.early, at.inside)

    here : number_at net a i ≡ first + after.before
    here = number_is net i a after.before link v.fits v.found within after.port

    there : number_at net b i ≡ first + at.place
    there = number_is net i b at.place link v.fits v.found at.inside at.port

    queue : queue_at a (hops_in (tree_of (routes_of net) i).nodes) ≡ (node_at link after.before).queue
    queue =
        ap (λ (x : Tree). queue_at a (hops_in x.nodes)) v.tree
        ∙ queue_first link a link.nodes.items after.before within after.port (λ j lt same. v.fits.once j after.before lt within (same ∙ sym after.port))

    next : stair (first + at.place) ≡ later_stair (stair (first + after.before)) (row a (node_at link after.before).queue)
    next =
        let spot = spot_found net i (length net.links.items) link at.place v.found at.inside v.few (omega arith) in
        let old = spot_found net i (length net.links.items) link after.before v.found within v.few (omega arith) in
        let plus : (node_at link after.before).port + 1 ≡ suc a = let p = after.port in omega (arith, p) in
        let source = ap (λ (x : Spot). x.source) spot.1 ∙ ap (source_in link) after.from ∙ plus in
        let from = ap (λ (x : Spot). x.from) spot.1 ∙ ap (number_before first at.place) after.from in
        goes (first + at.place) a spot.0 source
        ∙ ap (λ n. later_stair (stair n) (row a (spot_at (spots_of net) n).queue)) from
        ∙ ap (λ (x : Spot). later_stair (stair (first + after.before)) (row a x.queue)) old.1

    Now : ℕ → Type 0
    Now n = shifted (λ u. curve_of (stair n) u) (delay_by row a (queue_at a (hops_in (tree_of (routes_of net) i).nodes))) t ≤ₑ curve_of (stair (number_at net b i)) t

    Row : ℕ → Type 0
    Row q = shifted (λ u. curve_of (stair (first + after.before)) u) (delay_by row a q) t ≤ₑ curve_of (stair (number_at net b i)) t

    Then : ℕ → Type 0
    Then n = shifted (λ u. curve_of (stair (first + after.before)) u) (delay_by row a (node_at link after.before).queue) t ≤ₑ curve_of (stair n) t

    Next : Option Stair → Type 0
    Next o = shifted (λ u. curve_of (stair (first + after.before)) u) (delay_by row a (node_at link after.before).queue) t ≤ₑ curve_of o t
