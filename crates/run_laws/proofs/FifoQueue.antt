-- A first in, first out server has one queue, and its curve serves it.
use Rattle.std.specs.Prelude.{◌≡◌, ◌<◌, pos, ◌==◌, false, not, List, [], ◌∷◌}
use Rattle.std.proofs.Common.{arith, ap, subst}
use Rattle.std.proofs.lemmas.Bool.{eq-eqb}
use Rattle.rational.specs.Rational.{ℚ, int, ◌-ℚ◌, ◌≤ℚ◌}
use Rattle.rational.specs.Extended.{Ext}
use Rattle.rational.proofs.Linear.{with3, with4, with6}
use Rattle.run_laws.specs.Cards.{Card, Class, all, of_queue, ServerStep, Arrives, Works, Leaves, Visits}
use Rattle.run_laws.proofs.Always.{AreAlwaysParts, always_all}
use Rattle.run_laws.specs.Servers.{Discipline, Fifo, Server, ServerState, start, queue_count}
use Rattle.run_laws.specs.Next.{next}
use Rattle.run_laws.specs.Allows.{AllAllowed, IsLawfulView}
use Rattle.run_laws.specs.Counts.{before, arrived, worked, departed}
use Rattle.run_laws.specs.Premises.{EachArrival, KeepsService, IsZeroAtStart}
use Rattle.run_laws.specs.Serves.{Serves}
use Rattle.run_laws.proofs.Levels.{add_lower}
use Rattle.run_laws.proofs.Orders.{left_worked, worked_arrived}
use Rattle.run_laws.proofs.Parts.{arrived_parts, worked_parts, departed_parts}
use Rattle.run_laws.proofs.Arrivals.{arrivals_map, none_arrive}
use Rattle.run_laws.proofs.Service.{server_is_served}

-- the packets that are not of queue 0: there are none
abbrev elsewhere : Class
elsewhere c = not (c.queue == 0)

halves : AreAlwaysParts all (of_queue 0) elsewhere
halves = always_all (of_queue 0)

pub only_queue : (server : Server) (end : ℚ) (σ : ServerState) (V : List ServerStep) → server.discipline ≡ Fifo → AllAllowed server end σ V
    → EachArrival (λ c. c.queue ≡ 0) V
only_queue server end σ [] e a = tt
only_queue server end σ (Arrives c t ∷ V) e a = (its_queue c e a.0.1.known_queue, only_queue server end (next server.discipline σ (Arrives c t)) V e a.1)
  where
    its_queue : (c : Card) → server.discipline ≡ Fifo → c.queue < queue_count server.discipline → c.queue ≡ 0
    its_queue c e h = let k : c.queue < 1 = subst (λ (d : Discipline). c.queue < queue_count d) e h in omega arith
only_queue server end σ (Works c b f w ∷ V) e a = only_queue server end (next server.discipline σ (Works c b f w)) V e a.1
only_queue server end σ (Leaves c t ∷ V) e a = only_queue server end (next server.discipline σ (Leaves c t)) V e a.1
only_queue server end σ (Visits q t ∷ V) e a = only_queue server end (next server.discipline σ (Visits q t)) V e a.1

-- what serves the server serves its queue
queue_is_served : (server : Server) (end : ℚ) (V : List ServerStep) (β : ℚ → Ext) → server.discipline ≡ Fifo → IsLawfulView server end V
    → Serves all β end V → Serves (of_queue 0) β end V
queue_is_served server end V β e lawful serves t l =
    let (s, is) = serves t l in
    let none = arrivals_map (λ c. c.queue ≡ 0) (λ c. elsewhere c ≡ false) (λ c h. ap not (eq-eqb c.queue 0 h)) V (only_queue server end (start server.discipline) V e lawful.allowed) in
    let none_s : arrived elsewhere V s ≡ int (pos 0) = none_arrive elsewhere (before s) V none in
    let none_t : arrived elsewhere V t ≡ int (pos 0) = none_arrive elsewhere (before t) V none in
    let few = worked_arrived server end V elsewhere t lawful in
    let left = left_worked server end V elsewhere t lawful in
    let A = arrived_parts all (of_queue 0) elsewhere V s halves in
    let W = worked_parts all (of_queue 0) elsewhere V t halves in
    let L = departed_parts all (of_queue 0) elsewhere V t halves in
    let same_A : arrived (of_queue 0) V s ≤ℚ arrived all V s = with3 (arrived all V s) (arrived (of_queue 0) V s) (arrived elsewhere V s) (λ c. omega (arith, c.le, c.lt, c.same)) in
    let same_W : worked all V t ≤ℚ worked (of_queue 0) V t = with4 (worked all V t) (worked (of_queue 0) V t) (worked elsewhere V t) (arrived elsewhere V t) (λ c. omega (arith, c.le, c.lt, c.same)) in
    let same_L : departed all V t ≤ℚ departed (of_queue 0) V t = let h = left in with6 (departed all V t) (departed (of_queue 0) V t) (departed elsewhere V t) (worked elsewhere V t) (arrived elsewhere V t) (int (pos 0)) (λ c. omega (arith, c.le, c.lt, c.same)) in
    let gone = is.left in (
      s,
      record {
        earlier = is.earlier;
        left = with4 (arrived all V s) (arrived (of_queue 0) V s) (departed all V t) (departed (of_queue 0) V t) (λ c. omega (arith, c.le, c.lt, c.same));
        kept_up = add_lower (arrived (of_queue 0) V s) (arrived all V s) (worked all V t) (worked (of_queue 0) V t) (β (t -ℚ s)) same_A same_W is.kept_up;
      },
    )

pub fifo_queue_is_served : (server : Server) (end : ℚ) (V : List ServerStep) (β : ℚ → Ext) → IsLawfulView server end V
    → server.discipline ≡ Fifo → KeepsService β end V → IsZeroAtStart β → Serves (of_queue 0) β end V
fifo_queue_is_served server end V β lawful e service zero = queue_is_served server end V β e lawful (server_is_served server end V β lawful service zero)
