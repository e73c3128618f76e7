-- When lines that grow slower than a rate meet it.
use Rattle.std.specs.Prelude.{◌≡◌, ℕ, ◌≤◌, max, min, List}
use Rattle.std.proofs.Common.{arith, subst, inl, inr}
use Rattle.std.proofs.lemmas.Bool.{cases_lt}
use Rattle.arrival_lines.specs.declared.grid.Line.{Line}
use Rattle.arrival_heights.specs.Greatest.{IsGreatestBetween}
use Rattle.arrival_stairs.specs.Stairs.{levels_at}
use Rattle.arrival_stairs.specs.Horizon.{IsDown, IsHorizon}
use Rattle.arrival_stairs.specs.declared.stairs.Bundle.{Bundle}

-- ---- the horizon
pub horizon_first : (bundles : List Bundle) (steps : List Line) (rate known end : ℕ) → IsDown steps rate known end → IsGreatestBetween (levels_at bundles 0) rate 0 0 known
    → IsHorizon bundles steps rate end
horizon_first bundles steps rate known end down greatest = record {
  short = down.short;
  until = 0;
  within = omega arith;
  known = known;
  greatest = greatest;
  step = down.step;
  inside = down.inside;
  slower = down.slower;
  down = down.is;
}

pub horizon_next : (bundles : List Bundle) (steps : List Line) (rate first latest bend known end at : ℕ) → IsDown steps rate first latest → IsGreatestBetween (levels_at bundles 0) rate 0 0 first
    → bend ≤ latest → IsGreatestBetween (levels_at bundles 0) rate 0 bend known → IsDown steps rate known end → at ≡ min (max end bend) latest → IsHorizon bundles steps rate at
horizon_next bundles steps rate first latest bend known end at down greatest within next again is = elim (cases_lt latest (max end bend)) [
  | inl late ↦
      let e : latest ≡ at = omega (arith, is, late) in
      subst (λ (n : ℕ). IsHorizon bundles steps rate n) e (horizon_first bundles steps rate first latest down greatest)
  | inr soon ↦
      record {
        short = let s = down.short in omega (arith, s, is);
        until = bend;
        within = omega (arith, is, soon);
        known = known;
        greatest = next;
        step = again.step;
        inside = again.inside;
        slower = again.slower;
        down = λ d. let m = again.is d in omega (arith, m, is, soon);
      }
]
