-- Which server comes right after which, walks along that, and networks in which no walk comes back.
-- (Bouillard, Boyer and Le Corronc: feed-forward networks.)
use Rattle.std.specs.Prelude.{◌≡◌, ℕ, zero, suc, ◌<◌, ◌≤◌, List, [], ◌∷◌, ◌++◌, length, slice_index, Option, Some, All, Contains, nat_eq}
use Rattle.std.specs.List.{IsDistinct}
use Rattle.upp_limits.specs.Windows.{IsLeast}
use Rattle.net_model.specs.Networks.{Net, NetFlow}

-- a path has b right after a
pub record IsStep (path : List ℕ) (a b : ℕ) : Type 0 where
  pub hop : ℕ
  pub on_path : suc hop < length path
  pub from : slice_index path hop ≡ a
  pub to : slice_index path (suc hop) ≡ b

-- some live flow's path does
pub record IsNextOn (flows : List (Option NetFlow)) (a b : ℕ) : Type 0 where
  pub flow : NetFlow
  pub live : Contains flows (Some flow)
  pub step : IsStep flow.path a b

abbrev pub IsNext : Net → ℕ → ℕ → Type 0
IsNext net = IsNextOn net.flows

-- each element but the last is in the relation with the one after it
abbrev pub Chain : (ℕ → ℕ → Type 0) → List ℕ → Type 0
Chain R [] = Unit {0}
Chain R (x ∷ []) = Unit {0}
Chain R (x ∷ y ∷ ys) = R x y × Chain R (y ∷ ys)

-- a walk along a relation from a place back to it, by one step at least
pub record IsClosed (R : ℕ → ℕ → Type 0) (walk : List ℕ) : Type 0 where
  pub start : ℕ
  pub between : List ℕ
  pub is : walk ≡ start ∷ (between ++ start ∷ [])
  pub steps : Chain R walk

-- one that starts and ends at its least place and repeats no other
pub record IsRing (R : ℕ → ℕ → Type 0) (walk : List ℕ) : Type 0 where
  pub start : ℕ
  pub between : List ℕ
  pub is : walk ≡ start ∷ (between ++ start ∷ [])
  pub steps : Chain R walk
  pub once : IsDistinct nat_eq (start ∷ between)
  pub least : All (λ s. start ≤ s) between

-- b is so many steps after a
abbrev pub IsBehind : (ℕ → ℕ → Type 0) → ℕ → ℕ → ℕ → Type 0
IsBehind R zero a b = a ≡ b
IsBehind R (suc steps) a b = (c : ℕ) × R c b × IsBehind R steps a c

-- ---- the cycle that is told
-- walks of any number of steps end at the server
abbrev pub IsEndless : Net → ℕ → Type 0
IsEndless net b = (steps : ℕ) → (a : ℕ) × IsBehind (IsNext net) steps a b

-- a is the least of these servers that is right before b
abbrev pub IsFirstBefore : Net → ℕ → ℕ → Type 0
IsFirstBefore net a b = IsLeast (λ s. IsNext net s b × IsEndless net s) a

-- a ring to which one comes from the least server of this kind, step by step back
pub record IsRingBefore (IsOfKind : ℕ → Type 0) (R : ℕ → ℕ → Type 0) (walk : List ℕ) : Type 0 where
  pub ring : IsRing R walk
  pub from : ℕ
  pub is_least : IsLeast IsOfKind from
  pub steps : ℕ
  pub comes : IsBehind R steps ring.start from

-- The cycle of a network: from the least server at which walks of any number of steps end, back each time to the least
-- such server right before, up to servers that come back to themselves; these, in the order in which paths lead, from
-- the least one on to it again.
abbrev pub IsCycle : Net → List ℕ → Type 0
IsCycle net = IsRingBefore (IsEndless net) (IsFirstBefore net)

-- no walk comes back
abbrev pub IsFeedForward : Net → Type 0
IsFeedForward net = (walk : List ℕ) → ¬ (IsClosed (IsNext net) walk)
