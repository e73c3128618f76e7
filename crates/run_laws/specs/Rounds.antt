-- Deficit round robin: what holds of the list of queues, the visit and the deficits after every step.
use Rattle.std.specs.Prelude.{Option, Some, None, ◌≡◌, ◌≢◌, ◌≤◌, ◌+◌, ℕ, ◌==◌, List, [], ◌∷◌, get_or, if◌then◌else◌}
use Rattle.run_laws.specs.Cards.{Card}
use Rattle.run_laws.specs.Servers.{Under, Round, head_of}
use Rattle.run_laws.specs.Allows.{IsFirst}

abbrev pub presence : Option Card → ℕ
presence None = 0
presence (Some c) = 1

abbrev pub same_queue : ℕ → ℕ → ℕ
same_queue k j = if k == j then 1 else 0

-- how often a queue stands in the list
abbrev pub count_of : ℕ → List ℕ → ℕ
count_of j [] = 0
count_of j (k ∷ ks) = same_queue k j + count_of j ks

abbrev pub VisitIsFirst : Option ℕ → List ℕ → Type 0
VisitIsFirst None ks = Unit {0}
VisitIsFirst (Some j) ks = IsFirst j ks

abbrev pub UnderIsVisited : Option Under → Option ℕ → Type 0
UnderIsVisited None v = Unit {0}
UnderIsVisited (Some u) v = v ≡ Some u.card.queue

abbrev pub under_size : Option Under → ℕ
under_size None = 0
under_size (Some u) = u.card.bits

-- Q and l: each queue's quantum and longest packet
pub record IsRound (Q l : ℕ → ℕ) (cards : List Card) (under : Option Under) (r : Round) : Type 0 where
  -- a queue stands once in the list if it has a packet, and else not
  pub lists : (j : ℕ) → count_of j r.active ≡ presence (head_of j cards)
  pub is_first : VisitIsFirst r.visited r.active
  pub of_visit : UnderIsVisited under r.visited
  pub empty : (j : ℕ) → head_of j cards ≡ None → get_or r.deficits j 0 ≡ 0
  pub closed : (j : ℕ) → r.visited ≢ Some j → get_or r.deficits j 0 ≤ l j
  pub opened : (j : ℕ) → r.visited ≡ Some j → get_or r.deficits j 0 + under_size under ≤ l j + Q j
