-- Which steps on the way to the horizon have to fit.
use Rattle.std.specs.Prelude.{List, [], ◌∷◌}
use Rattle.rational.specs.Rational.{ℚ, ◌+ℚ◌, ◌-ℚ◌, neg_ℚ}
use Rattle.rational.specs.Ratio.{SumFits}
use Rattle.net_model.specs.stated_runs.Setups.{StallTimes}

-- the lengths of stalls can be added to a sum, one after another
abbrev pub StallsFit : ℚ → List StallTimes → Type 0
StallsFit sum [] = Unit {0}
StallsFit sum (x ∷ xs) = SumFits x.end (neg_ℚ x.start) × SumFits sum (x.end -ℚ x.start)
    × StallsFit (sum +ℚ (x.end -ℚ x.start)) xs
