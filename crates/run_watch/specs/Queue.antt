-- Marks that are kept while others are looked at, so that the greatest key of those that are near enough is the first.
-- (A queue whose keys fall; textbook.)
use Rattle.std.specs.Prelude.{◌≡◌, ◌⊎◌, ℕ, ◌≤◌, List, [], ◌∷◌, ◌++◌, length, take, Option}
use Rattle.rational.specs.Rational.{ℚ, ◌+ℚ◌, ◌≤ℚ◌, ◌<ℚ◌}
use Rattle.flow_watch.specs.declared.watch_laws.mark.Mark.{Mark}
use Rattle.flow_watch.specs.declared.watch_laws.mark.Rule.{Rule}
use Rattle.flow_watch.specs.watch_laws.Marks.{Each, Has, IsPast, IsOver}

-- no key is greater than one before it
abbrev pub Falls : List Mark → Type 0
Falls [] = Unit {0}
Falls (m ∷ ms) = Each (λ n. n.start_key ≤ℚ m.start_key) ms × Falls ms

-- one that is no earlier, and whose key is no less, is there
abbrev pub HasStandIn : List Mark → Mark → Type 0
HasStandIn kept m = (d : Mark) × Has d kept × (m.time ≤ℚ d.time) × (m.start_key ≤ℚ d.start_key)

-- at b: the kept marks are far enough before b, and stand for all of the first `into` that are near enough
pub record Scans (r : Rule) (marks : List Mark) (b : Mark) (into : ℕ) (kept : List Mark) : Type 0 where
  pub falls : Falls kept
  pub ready : Each (λ d. Has d marks × (d.time +ℚ r.least ≤ℚ b.time)) kept
  pub covers : Each (λ m. IsPast r.most m.time b.time ⊎ HasStandIn kept m) (take into marks)

-- the last key is more than k
abbrev pub EndsAbove : ℚ → List Mark → Type 0
EndsAbove k [] = Unit {0}
EndsAbove k (m ∷ []) = k <ℚ m.start_key
EndsAbove k (m ∷ n ∷ ms) = EndsAbove k (n ∷ ms)

-- what stays where at the end only marks with keys of at most k went out
abbrev pub Lowered : ℚ → List Mark → List Mark → Type 0
Lowered k old stay = (gone : List Mark) × (old ≡ stay ++ gone) × Each (λ m. m.start_key ≤ℚ k) gone

-- what stays where at the front only marks went out that t is past
abbrev pub Passed : Option ℚ → ℚ → List Mark → List Mark → Type 0
Passed most t old stay = (gone : List Mark) × (old ≡ gone ++ stay) × Each (λ m. IsPast most m.time t) gone

-- t is not past the first
abbrev pub StartsNear : Option ℚ → ℚ → List Mark → Type 0
StartsNear most t [] = Unit {0}
StartsNear most t (m ∷ ms) = ¬ IsPast most m.time t

-- k is less than the first key and the gap
abbrev pub FrontUnder : ℚ → ℚ → List Mark → Type 0
FrontUnder gap k [] = ⊥
FrontUnder gap k (m ∷ ms) = k <ℚ m.start_key +ℚ gap

abbrev pub IsNotFar : Rule → Mark → Mark → Type 0
IsNotFar r b m = b.time <ℚ m.time +ℚ r.least

-- ---- what the scan has done when it comes to the end numbered k
pub record Scanned (r : Rule) (marks ends : List Mark) (k into : ℕ) (kept : List Mark) : Type 0 where
  pub in_range : into ≤ length marks
  pub ready : (b : Mark) → Each (λ m. m.time ≤ℚ b.time) (take k ends) → Scans r marks b into kept
  pub over : Each (IsOver r marks) (take k ends)
