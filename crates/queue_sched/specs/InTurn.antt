-- Deficit round robin: what holds after every step, and what that gives a server with no packet under way.
use Rattle.std.specs.Prelude.{Option, Some, None, ◌≡◌, ◌≤◌, ◌+◌, ◌^◌, ℕ, List, get_or, length}
use Rattle.std.proofs.Common.{sym, ap, ◌∙◌, subst}
use Rattle.run_laws.specs.Cards.{Card}
use Rattle.run_laws.specs.Servers.{Round, Under, head_of}
use Rattle.run_laws.specs.Rounds.{IsRound}

-- a packet of at most 2 ^ 32 bits
abbrev pub longest : ℕ → ℕ
longest q = 2 ^ 32

abbrev pub quantum_of : List ℕ → ℕ → ℕ
quantum_of quanta q = get_or quanta q 0

-- where a visit is open and none is under way, the first packet fits
abbrev pub IsReady : Round → List Card → Option Under → Type 0
IsReady r cards under = (q : ℕ) → r.visited ≡ Some q → under ≡ None
    → (c : Card) × (head_of q cards ≡ Some c) × (c.bits ≤ get_or r.deficits q 0)

pub record IsInTurn (quanta : List ℕ) (cards : List Card) (under : Option Under) (r : Round) : Type 0 where
  pub round : IsRound (quantum_of quanta) longest cards under r
  pub ready : IsReady r cards under
  pub long : length r.deficits ≡ length quanta

-- more work on the packet under way keeps it
pub turn_goes_on : (quanta : List ℕ) (cards : List Card) (r : Round) (v u : Under) → u.card ≡ v.card
    → IsInTurn quanta cards (Some v) r → IsInTurn quanta cards (Some u) r
turn_goes_on quanta cards r v u f h = record {
  round = record {
    lists = h.round.lists;
    is_first = h.round.is_first;
    of_visit = h.round.of_visit ∙ ap (λ (c : Card). Some c.queue) (sym f);
    empty = h.round.empty;
    closed = h.round.closed;
    opened = λ j k.
        subst (λ (c : Card). get_or r.deficits j 0 + c.bits ≤ longest j + quantum_of quanta j) (sym f) (h.round.opened j k);
  };
  ready = λ q w none. absurd (cc);
  long = h.long;
}
