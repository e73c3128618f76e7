-- What an order of a network's servers tells.
use Rattle.std.specs.Prelude.{◌≡◌, ◌⊎◌, ℕ, ◌<◌, List, length, All, Contains, take, slice_index, nat_eq}
use Rattle.std.specs.List.{IsDistinct}
use Rattle.net_model.specs.Networks.{Net}
use Rattle.net_model.specs.Accepted.{IsAccepted}
use Rattle.net_model.specs.Walks.{IsNext, IsCycle, IsFeedForward}
use Rattle.net_model.specs.Orders.{IsOrder}

abbrev pub OneOrder : Type 0
OneOrder = (net : Net) (xs ys : List ℕ) → IsOrder net xs → IsOrder net ys → xs ≡ ys

abbrev pub OneCycle : Type 0
OneCycle = (net : Net) (xs ys : List ℕ) → IsCycle net xs → IsCycle net ys → xs ≡ ys

-- the numbers below n, each once
pub record IsArrangement (n : ℕ) (xs : List ℕ) : Type 0 where
  pub in_range : All (λ s. s < n) xs
  pub once : IsDistinct nat_eq xs
  pub each : (s : ℕ) → s < n → Contains xs s

abbrev pub OrderHasEachServer : Type 0
OrderHasEachServer = (net : Net) (xs : List ℕ) → IsOrder net xs → IsArrangement (length net.servers) xs

abbrev pub OrderGoesForward : Type 0
OrderGoesForward =
    (net : Net) (xs : List ℕ) (a b place : ℕ) → IsOrder net xs → IsNext net a b → place < length xs
    → slice_index xs place ≡ b
    → Contains (take place xs) a

-- an order or a cycle
abbrev pub OneOfBoth : Type 0
OneOfBoth = (net : Net) → IsAccepted net → ((xs : List ℕ) × IsOrder net xs) ⊎ ((walk : List ℕ) × IsCycle net walk)

-- where there is an order no walk comes back, so there is no cycle
pub record OrderOrCycle : Type 0 where
  pub feed_forward : (net : Net) (xs : List ℕ) → IsAccepted net → IsOrder net xs → IsFeedForward net
  pub no_cycle : (net : Net) (xs walk : List ℕ) → IsAccepted net → IsOrder net xs → ¬ (IsCycle net walk)
