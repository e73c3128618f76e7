-- What is gathered of numbers that are added up. Own choice.
use Rattle.std.specs.Prelude.{◌≡◌, ℕ, ◌*◌, ◌^◌, ◌<◌, max, List, ◌++◌, Option, IfSome, IfNone}
use Rattle.rational.specs.Rational.{ℚ, neg_ℚ}
use Rattle.rational.specs.MinMax.{max_q}
use Rattle.rational.specs.Gauge.{common_den, size_up}
use Rattle.rational.specs.Extended.{Ext}
use Rattle.net_cells.specs.NumberSums.{sizes, has_infinite, finite}
use Rattle.cell_eval.specs.declared.number_sums.Tally.{Tally}
use Rattle.cell_eval.specs.declared.number_sums.Added.{Added}
use Rattle.min_plus.specs.Convolution.{sum_of}

-- how far a number is from 0
abbrev pub size_of : ℚ → ℚ
size_of x = max_q x (neg_ℚ x)

-- the gauge of a sum of numbers that are not infinite, and when it is over no limit
abbrev pub gauge_of : List ℚ → ℕ
gauge_of xs = 64 * max 1 (size_up (sizes xs)) * common_den xs

abbrev pub IsNarrow : List ℚ → Type 0
IsNarrow xs = gauge_of xs < 2 ^ 120

pub record Tallies (xs : List ℚ) (t : Tally) : Type 0 where
  pub den : t.den ≡ common_den xs
  pub sizes : t.sizes ≡ sizes xs
  pub sum : t.sum ≡ sum_of xs

-- these numbers, or their gauge is too large, whatever comes after them
pub record IsTallied (xs : List ℚ) (o : Option Tally) : Type 0 where
  pub some : IfSome o (Tallies xs)
  pub none : IfNone o ((rest : List ℚ) → ¬ (IsNarrow (xs ++ rest)))

pub record AreAdded (xs : List Ext) (a : Added) : Type 0 where
  pub infinite : a.infinite ≡ has_infinite xs
  pub tally : IsTallied (finite xs) a.tally
