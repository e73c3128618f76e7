-- Steps at whole times, allowed by computing.
use Rattle.std.specs.Prelude.{Some, ◌≡◌, ◌<◌, ℕ, ◌+◌, leb, ltb, true, ◌&&◌, [], ◌∷◌, ◌++◌, length}
use Rattle.std.proofs.Common.{sym, arith}
use Rattle.std.proofs.lemmas.Bool.{leb-true, ltb-true, and_parts}
use Rattle.rational.specs.Rational.{◌+ℚ◌, ◌≤ℚ◌, ◌<ℚ◌}
use Rattle.rational.proofs.Linear.{with2}
use Rattle.run_laws.specs.declared.steps.Step.TheVariants.{Enter, Work, Leave, Visit}
use Rattle.run_laws.specs.Cards.{Card, whole}
use Rattle.run_laws.specs.Servers.{Server, ServerState, done_so_far}
use Rattle.run_laws.specs.Allows.{next_card, IsInTime, KeepsPace, MayArrive, MayWork, MayLeave, MayVisit}
use Rattle.run_laws.specs.Routes.{Routes, server_at}
use Rattle.run_laws.specs.Views.{server_of, card_of}
use Rattle.run_laws.specs.Lawful.{RunState, state_at, MayEnter, IsThere, AllowsInRun}
use Rattle.run_laws.proofs.Sizes.{whole_le, whole_lt, whole_sum}

-- ---- whole numbers
pub le_t : (m n : ℕ) → leb m n ≡ true → whole m ≤ℚ whole n
le_t m n h = whole_le m n (leb-true m n h)

pub lt_t : (m n : ℕ) → ltb m n ≡ true → whole m <ℚ whole n
lt_t m n h = whole_lt m n (ltb-true m n h)

pub sum_t : (m n : ℕ) → whole m +ℚ whole n ≡ whole (m + n)
sum_t m n = sym (whole_sum m n)

-- ---- at a server
pub in_time : {σ : ServerState} (now u end : ℕ) → σ.now ≡ whole now → (leb now u && leb u end) ≡ true → IsInTime (whole end) σ (whole u)
in_time {σ} now u end e h =
    let k = and_parts (leb now u) (leb u end) h in
    record { in_order = rw e (le_t now u k.0); in_run = le_t u end k.1 }

-- all of a packet is worked at once
pub works_whole : {server : Server} {σ : ServerState} {c : Card} (busy a b w end : ℕ) → σ.busy ≡ whole busy → done_so_far σ.under ≡ whole 0
    → KeepsPace server.pace (whole a) (whole b) (whole w)
    → next_card σ.under server.discipline σ.inside σ.round ≡ Some c
    → (leb busy a && (ltb a b && (leb b end && (ltb 0 w && leb w c.bits)))) ≡ true
    → MayWork server (whole end) σ c (whole a) (whole b) (whole w)
works_whole {server} {σ} {c} busy a b w end e none pace next h =
    let one = and_parts (leb busy a) _ h in
    let two = and_parts (ltb a b) _ one.1 in
    let three = and_parts (leb b end) _ two.1 in
    let four = and_parts (ltb 0 w) (leb w c.bits) three.1 in
    record {
      no_overlap = rw e (le_t busy a one.0);
      forward = lt_t a b two.0;
      ends_in_run = le_t b end three.0;
      some_work = lt_t 0 w four.0;
      in_pace = pace;
      is_next = next;
      within_bits = let l = le_t w c.bits four.1 in rw none (with2 (whole w) (whole c.bits) (λ c. omega (arith, c.le, c.lt, c.same)));
    }

-- ---- in a run
pub enters : {net : Routes} {r : RunState} (f p b now u end : ℕ) → MayEnter net r f p
    → server_of net (Enter f p (whole u) b) < length net.servers → (state_at r (server_of net (Enter f p (whole u) b))).now ≡ whole now
    → (leb now u && leb u end) ≡ true
    → MayArrive (server_at net (server_of net (Enter f p (whole u) b))).discipline (card_of net (r.entered ++ record { flow = f; bits = b } ∷ []) p (server_of net (Enter f p (whole u) b))) → AllowsInRun net (whole end) r (Enter f p (whole u) b)
enters f p b now u end may known e h arrive = record { known = may; known_server = known; at_server = (in_time now u end e h, arrive) }

pub works : {net : Routes} {r : RunState} (s p busy now a b w end : ℕ) → IsThere net r s p → s < length net.servers
    → (state_at r s).now ≡ whole now → (state_at r s).busy ≡ whole busy → done_so_far (state_at r s).under ≡ whole 0
    → KeepsPace (server_at net s).pace (whole a) (whole b) (whole w)
    → next_card (state_at r s).under (server_at net s).discipline (state_at r s).inside (state_at r s).round ≡ Some (card_of net r.entered p s)
    → (leb now a && leb a end) ≡ true
    → (leb busy a && (ltb a b && (leb b end && (ltb 0 w && leb w (card_of net r.entered p s).bits)))) ≡ true
    → AllowsInRun net (whole end) r (Work s p (whole a) (whole b) (whole w))
works s p busy now a b w end there known e f none pace next h k = record { known = there; known_server = known; at_server = (in_time now a end e h, works_whole busy a b w end f none pace next k) }

pub leaves : {net : Routes} {r : RunState} (s p now u end : ℕ) → IsThere net r s p → s < length net.servers
    → (state_at r s).now ≡ whole now → (leb now u && leb u end) ≡ true → MayLeave (state_at r s).under (card_of net r.entered p s) (whole u)
    → AllowsInRun net (whole end) r (Leave s p (whole u))
leaves s p now u end there known e h may = record { known = there; known_server = known; at_server = (in_time now u end e h, may) }

pub visits : {net : Routes} {r : RunState} (s q now u end : ℕ) → s < length net.servers → (state_at r s).now ≡ whole now
    → (leb now u && leb u end) ≡ true → MayVisit (server_at net s).discipline (state_at r s) q
    → AllowsInRun net (whole end) r (Visit s q (whole u))
visits s q now u end known e h may = record { known = tt; known_server = known; at_server = (in_time now u end e h, may) }
