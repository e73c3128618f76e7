-- At the best split of a time one of the two functions turns up there, and between the ends of two lines none is better than
-- at the ends. (Bouillard, Boyer and Le Corronc: the convolution of
-- piecewise linear functions; the law is our own choice.)
use Rattle.std.specs.Prelude.{◌⊎◌, Option}
use Rattle.rational.specs.Rational.{ℚ, ◌+ℚ◌, ◌-ℚ◌, ◌≤ℚ◌, ◌<ℚ◌}
use Rattle.rational.specs.Extended.{Ext}
use Rattle.rational.specs.declared.Extended.TheVariants.{Fin}
use Rattle.rational.specs.Line.{line_at}
use Rattle.min_plus.specs.Functions.{zero_q}
use Rattle.min_plus.specs.Convolution.{Split, IsConvolution}
use Rattle.min_plus.specs.best_splits.Turns.{Ray, IsBeside, TurnsUp}

-- v and w are values of f and of g for a split of t, in truth or as limits: their sum is the infimum of all splits. Beside the
-- split both functions are lines or infinite
pub record IsBestSplit (f g : ℚ → Ext) (t h v w : ℚ) (split : Split t) (a b c d : Option Ray) : Type 0 where
  pub best : IsConvolution f g t (Fin (v +ℚ w))
  pub some : zero_q <ℚ h
  pub first : IsBeside f split.first h a b
  pub second : IsBeside g split.second h c d

abbrev pub BestSplitTurns : Type 0
BestSplitTurns = (f g : ℚ → Ext) (t h v w : ℚ) (split : Split t) (a b c d : Option Ray)
    → IsBestSplit f g t h v w split a b c d
    → TurnsUp a b v ⊎ TurnsUp c d w

-- what two lines, of intercepts k and l and of slopes r and q, make of the split of t whose first time is s
abbrev pub split_value : ℚ → ℚ → ℚ → ℚ → ℚ → ℚ → ℚ
split_value k r l q t s = line_at k r s +ℚ line_at l q (t -ℚ s)

-- of the splits whose first time is between two times none is below both of those at the ends
abbrev pub LeastAtEnds : Type 0
LeastAtEnds = (k r l q t low s high : ℚ) → low ≤ℚ s → s ≤ℚ high
    → (split_value k r l q t low ≤ℚ split_value k r l q t s) ⊎ (split_value k r l q t high ≤ℚ split_value k r l q t s)
