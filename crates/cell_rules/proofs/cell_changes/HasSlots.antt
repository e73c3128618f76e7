-- Every cell of a network has a place in a table by number.
use Rattle.std.proofs.Common.{◌≡◌, ℕ, ◌+◌, ◌<◌, get_or, true, ◌∙◌, refl, arith}
use Rattle.std.specs.Prelude.{Option, Some, None, slice_get}
use Rattle.std.proofs.lemmas.Bool.{ltb-true, eqb-true, and_parts}
use Rattle.std.proofs.lemmas.List.{get_or_default}
use Rattle.std.proofs.lemmas.Option.{slice_get_within, get_or_from_slice_get}
use Rattle.run_laws.specs.Servers.{queue_count}
use Rattle.net_model.specs.Networks.{Net, NetServer}
use Rattle.net_model.specs.Accepted.{IsAccepted, IsFlow}
use Rattle.net_model.proofs.FewQueues.{few_of}
use Rattle.net_cells.specs.declared.cell.Scope.{Scope}
use Rattle.net_cells.specs.declared.cell.Scope.TheVariants.{EachHop, EachHopButLast, EachQueue, EachPriorityQueue, EachPath}
use Rattle.net_cells.specs.Numbered.{hops, queues, levels, discipline_of, is_live}
use Rattle.net_cells.specs.Cells.{scope_of, is_in_scope}
use Rattle.net_cells.proofs.Places.{flow_inside, live_inside}
use Rattle.net_cells.proofs.Members.{hop_of}
use Rattle.cell_rules.specs.cell_changes.Slots.{rows_in, columns_in, SlotsAreOwn}
use Rattle.cell_rules.proofs.cell_changes.OwnSlots.{own, is_below}
use Rattle.net_cells.proofs.Precedes.{levels_at_most}

abbrev IsInside : Scope → ℕ → ℕ → Type 0
IsInside scope a b = (a < rows_in scope) × (b < columns_in scope)

hop_inside : (net : Net) (i k : ℕ) → IsAccepted net → k < hops net i → (i < 256) × (k < 16)
hop_inside net i k acc h =
    let inside = flow_inside net i k h in
    let hop = hop_of net i k h in
    let place : get_or net.flows i (Some hop.flow) ≡ Some hop.flow =
    get_or_default net.flows i (Some hop.flow) None inside ∙ hop.is in
    let flow : IsFlow net.servers hop.flow = acc.flows hop.flow (i, inside, place) in
    (omega (arith, inside, acc.few_flows), omega (arith, hop.on_path, flow.few))

queue_inside : (net : Net) (s b : ℕ) (o : Option NetServer) → IsAccepted net → slice_get net.servers s ≡ o
    → b < queue_count (discipline_of o) → (s < 64) × (b < 8)
queue_inside net s b None acc e h = absurd (omega (arith, h))
queue_inside net s b (Some server) acc e h =
    let inside = slice_get_within net.servers s server e in
    let kept = acc.servers server (s, inside, get_or_from_slice_get net.servers s server server e) in
    (omega (arith, inside, acc.few_servers), omega (arith, h, few_of server.discipline kept.queues))

inside : (net : Net) (scope : Scope) (a b : ℕ) → IsAccepted net → is_in_scope net scope a b ≡ true → IsInside scope a b
inside net EachHop a b acc h = hop_inside net a b acc (ltb-true b (hops net a) h)
inside net EachHopButLast a b acc h =
    hop_inside net a b acc (let l = ltb-true (b + 1) (hops net a) h in omega (arith, l))
inside net EachQueue a b acc h = queue_inside net a b (slice_get net.servers a) acc refl (ltb-true b (queues net a) h)
inside net EachPriorityQueue a b acc h =
    queue_inside net a b (slice_get net.servers a) acc refl
    (let l = ltb-true b (levels net a) h in omega (arith, l, levels_at_most (discipline_of (slice_get net.servers a))))
inside net EachPath a b acc h =
    let parts = and_parts (is_live net a) _ h in
    (omega (arith, live_inside net a parts.0, acc.few_flows), omega (arith, eqb-true b 0 parts.1))

pub slots_are_own : SlotsAreOwn
slots_are_own = record {
  has = λ net c acc h. let both = inside net (scope_of c.kind) c.a c.b acc h in record { row = both.0; column = both.1 };
  below = λ c p. is_below c.kind c.a c.b p.row p.column;
  own = own;
}
