-- Pairs of marks: two times so far apart, of which the later has too small a key. Own choice.
use Rattle.std.specs.Prelude.{◌≡◌, ◌⊎◌, List, [], ◌∷◌, Option, Some, None}
use Rattle.rational.specs.Rational.{ℚ, ◌+ℚ◌, ◌≤ℚ◌, ◌<ℚ◌}
use Rattle.rational.specs.Ratio.{SumFits}
use Rattle.flow_watch.specs.declared.watch_laws.mark.Mark.{Mark}
use Rattle.flow_watch.specs.declared.watch_laws.mark.Rule.{Rule}

-- ---- marks
abbrev pub Each : (Mark → Type 0) → List Mark → Type 0
Each P [] = Unit {0}
Each P (m ∷ ms) = P m × Each P ms

abbrev pub Has : Mark → List Mark → Type 0
Has m [] = ⊥
Has m (n ∷ ms) = (m ≡ n) ⊎ Has m ms

-- their times don't go back
abbrev pub TimesRise : List Mark → Type 0
TimesRise [] = Unit {0}
TimesRise (m ∷ ms) = Each (λ n. m.time ≤ℚ n.time) ms × TimesRise ms

-- ---- pairs
-- t is `most` after a, or later; where there is no most it never is
abbrev pub IsPast : Option ℚ → ℚ → ℚ → Type 0
IsPast None a t = ⊥
IsPast (Some most) a t = a +ℚ most ≤ℚ t

-- a pair that is looked for
pub record IsUnder (r : Rule) (a b : Mark) : Type 0 where
  pub far : a.time +ℚ r.least ≤ℚ b.time
  pub near : ¬ IsPast r.most a.time b.time
  pub less : b.end_key <ℚ a.start_key +ℚ r.gap

-- b is the later of no pair; of some pair
abbrev pub IsOver : Rule → List Mark → Mark → Type 0
IsOver r ms b = Each (λ a. ¬ IsUnder r a b) ms

abbrev pub IsUnderSome : Rule → List Mark → Mark → Type 0
IsUnderSome r ms b = (a : Mark) × Has a ms × IsUnder r a b

-- ---- sizes
abbrev pub MostFits : Option ℚ → ℚ → Type 0
MostFits None t = Unit {0}
MostFits (Some most) t = SumFits t most

-- the sums with the rule's numbers fit
pub record FitsRule (r : Rule) (m : Mark) : Type 0 where
  pub least : SumFits m.time r.least
  pub most : MostFits r.most m.time
  pub gap : SumFits m.start_key r.gap
