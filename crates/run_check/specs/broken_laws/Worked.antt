-- How many bits of a packet are worked at a server in some steps.
use Rattle.std.specs.Prelude.{ℕ, pos, ◌==◌, ◌&&◌, List, [], ◌∷◌}
use Rattle.rational.specs.Rational.{ℚ, int, ◌+ℚ◌}
use Rattle.run_laws.specs.declared.steps.Step.{Step}
use Rattle.run_laws.specs.declared.steps.Step.TheVariants.{Enter, Reach, Work, Leave, Visit}
use Rattle.run_laws.specs.Counts.{when}

-- by one step
abbrev pub worked_by : ℕ → ℕ → Step → ℚ
worked_by s p (Enter f q t b) = int (pos 0)
worked_by s p (Reach r q t) = int (pos 0)
worked_by s p (Work r q a b w) = when ((r == s) && (q == p)) w
worked_by s p (Leave r q t) = int (pos 0)
worked_by s p (Visit r q t) = int (pos 0)

-- by all of them
abbrev pub worked_in : ℕ → ℕ → List Step → ℚ
worked_in s p [] = int (pos 0)
worked_in s p (x ∷ xs) = worked_by s p x +ℚ worked_in s p xs
