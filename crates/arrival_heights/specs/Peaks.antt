-- Which of some heights is furthest above a rate. Own choice.
use Rattle.std.specs.Prelude.{◌≡◌, ℕ, ◌-◌, ◌*◌, ◌<◌, ◌≤◌, List, length, get_or}
use Rattle.arrival_heights.specs.Heights.{most_ahead}
use Rattle.arrival_heights.specs.declared.heights.Height.{Height}

-- above the rate, in grains over the time's `under`; 0 where it is not
abbrev pub excess_of : ℕ → Height → ℕ
excess_of rate h = h.grains - rate * h.at.over

abbrev pub IsLower : ℕ → Height → Height → Type 0
IsLower rate g h = excess_of rate g * h.at.under < excess_of rate h * g.at.under

-- the first of those that are furthest above the rate, of the first n
pub record IsFirstGreatest (heights : List Height) (rate n place : ℕ) : Type 0 where
  pub inside : place < length heights
  pub earlier : (k : ℕ) (d : Height) → k < place → IsLower rate (get_or heights k d) (get_or heights place d)
  pub later : (k : ℕ) (d : Height) → k < n
      → excess_of rate (get_or heights k d) * (get_or heights place d).at.under ≤ excess_of rate (get_or heights place d) * (get_or heights k d).at.under

-- in the order of their times
pub record AreTimed (heights : List Height) : Type 0 where
  pub come : (i j : ℕ) (d : Height) → i ≤ j → j < length heights
      → (get_or heights i d).at.over * (get_or heights j d).at.under ≤ (get_or heights j d).at.over * (get_or heights i d).at.under

-- as far above each rate
abbrev pub AreAsHigh : List Height → List Height → Type 0
AreAsHigh heights others = (rate : ℕ) → most_ahead rate heights ≡ most_ahead rate others
