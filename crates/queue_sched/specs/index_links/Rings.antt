-- How the lists are stored. Cell l below m is the end of list l, and cell m + k is node k. Each list is a ring: from
-- its end to its first node, on to its last, and back to the end.
use Rattle.std.specs.Prelude.{◌≡◌, ℕ, zero, suc, ◌+◌, ◌-◌, ◌^◌, ◌<◌, ◌≤◌, Option, Some, None, nat_lt, List, [], ◌∷◌, get_or, length, if◌then◌else◌}
use Rattle.queue_sched.specs.index_links.Chains.{Chains, Has, Apart}

-- at most n nodes that follow each other from cell c on
abbrev pub walk : List ℕ → ℕ → ℕ → ℕ → List ℕ
walk next m zero c = []
walk next m (suc n) c = if nat_lt c m then [] else (c - m) ∷ walk next m n (get_or next c 0)

-- f at n numbers from i on
abbrev pub collect : {A : Type 0} → (ℕ → A) → ℕ → ℕ → List A
collect f i zero = []
collect f i (suc n) = f i ∷ collect f (suc i) n

-- the lists that the cells hold
abbrev pub chains_of : List ℕ → ℕ → ℕ → Chains
chains_of next m n = record { nodes = n; lists = collect (λ l. walk next m n (get_or next l 0)) 0 m }

-- the nodes xs stand between the cells a and b, each the next of the one before, which is its previous one
abbrev pub Chain : (ℕ → ℕ) → (ℕ → ℕ) → ℕ → ℕ → List ℕ → ℕ → Type 0
Chain next prev m a [] b = (next a ≡ b) × (prev b ≡ a)
Chain next prev m a (k ∷ ks) b = (next a ≡ m + k) × (prev (m + k) ≡ a) × Chain next prev m (m + k) ks b

-- each list is a ring; each node knows its list, or names none of them
pub record AreRings (next prev owner : ℕ → ℕ) (m n : ℕ) (lists : ℕ → List ℕ) : Type 0 where
  pub rings : (l : ℕ) → l < m → Chain next prev m l (lists l) l
  pub known : (l k : ℕ) → l < m → Has (lists l) k → (k < n) × (owner k ≡ l)
  pub once : (l : ℕ) → l < m → Apart (lists l)
  pub owned : (k : ℕ) → k < n → owner k < m → Has (lists (owner k)) k

-- the cells hold lists; there is room for each node
pub record AreStored (next prev owners : List ℕ) (m : ℕ) : Type 0 where
  pub few : length owners < 2 ^ 32
  pub long_next : m + length owners ≤ length next
  pub long_prev : m + length owners ≤ length prev
  pub stored : (lists : ℕ → List ℕ)
      × AreRings (λ i. get_or next i 0) (λ i. get_or prev i 0) (λ k. get_or owners k 0) m (length owners) lists

-- the node of a cell, if it is no end
abbrev pub node_of : ℕ → ℕ → Option ℕ
node_of m c = if nat_lt c m then None else Some (c - m)
