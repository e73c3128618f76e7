-- Times that are past the horizons of several services.
use Rattle.std.proofs.Common.{◌≡◌, ℕ, ◌+◌, ◌<◌, ◌≤◌, ◌^◌, max, List, length, get_or, Option, Some, None, ◌∙◌, ap, subst, arith, inl, inr}
use Rattle.std.specs.Prelude.{IfSome}
use Rattle.std.proofs.lemmas.Bool.{cases_lt}
use Rattle.std.proofs.lemmas.List.{get_or_default}
use Rattle.arrival_lines.specs.Steps.{AreSteps}
use Rattle.arrival_lines.specs.declared.grid.Line.{Line}
use Rattle.arrival_lines.specs.declared.grid.Service.{Service}
use Rattle.arrival_stairs.specs.BelowLines.{line_parts}
use Rattle.arrival_stairs.specs.Horizon.{ArePast, IsEnd, IsHorizon, IsPast, IsTailOfFirst, IsWalk}
use Rattle.arrival_heights.specs.Slow.{IsSlowBurst, AreFaster}
use Rattle.arrival_stairs.specs.Stairs.{AreBundles}
use Rattle.arrival_stairs.specs.StairExcess.{IsStairExcess}
use Rattle.arrival_stairs.specs.declared.stairs.Bundle.{Bundle}
use Rattle.arrival_stairs.specs.declared.walks.Walk.{Walk}
use Rattle.arrival_stairs.proofs.Exact.{IsExcessBy, exact, cut}

abbrev pub no_service : Service
no_service = record { rate = 0; debt = 0 }

pub never_slow : (steps : List Line) (rate most : ℕ) (d : Line) → AreFaster steps rate → IsSlowBurst steps rate most → ⊥
never_slow steps rate most d fast slow =
    let h = fast.each slow.step d slow.inside in
    let l = slow.slow d in
    omega (arith, h, l)

-- where each step is faster every time is past it
pub always_past : (bundles : List Bundle) (steps : List Line) (rate end : ℕ) → end < 2 ^ 62 → AreFaster steps rate → IsPast bundles steps rate end
always_past bundles steps rate end short fast = record {
  short = short;
  horizon = λ most slow. absurd (never_slow steps rate most record { burst = 0; rate = 0 } fast slow);
}

pub past_it : (bundles : List Bundle) (steps : List Line) (rate : ℕ) (found : Option ℕ) → IfSome found (IsHorizon bundles steps rate) → IfSome found (IsPast bundles steps rate)
past_it bundles steps rate None h = tt
past_it bundles steps rate (Some end) h = record { short = h.short; horizon = λ most slow. h }

later_horizon : (bundles : List Bundle) (steps : List Line) (rate end later : ℕ) → end ≤ later → later < 2 ^ 62 → IsHorizon bundles steps rate end → IsHorizon bundles steps rate later
later_horizon bundles steps rate end later order short h = record {
  short = short;
  until = h.until;
  within = let l = h.within in omega (arith, l, order);
  known = h.known;
  greatest = h.greatest;
  step = h.step;
  inside = h.inside;
  slower = h.slower;
  down = λ d. let l = h.down d in omega (arith, l, order);
}

later_past : (bundles : List Bundle) (steps : List Line) (rate end later : ℕ) → end ≤ later → later < 2 ^ 62 → IsPast bundles steps rate end → IsPast bundles steps rate later
later_past bundles steps rate end later order short h = record {
  short = short;
  horizon = λ most slow. later_horizon bundles steps rate end later order short (h.horizon most slow);
}

pub none_past : (bundles : List Bundle) (steps : List Line) (services : List Service) → ArePast bundles steps services 0 0
none_past bundles steps services = record { short = omega arith; each = λ k d h. absurd (omega (arith, h)) }

pub past_more : (bundles : List Bundle) (steps : List Line) (services : List Service) (i last end next : ℕ) (d : Service) → i < length services → next ≡ max last end
    → IsPast bundles steps (get_or services i d).rate end → ArePast bundles steps services i last → ArePast bundles steps services (i + 1) next
past_more bundles steps services i last end next d inside is here so_far = record {
  short = short;
  each = λ k e h. elim (cases_lt k i) [
    | inl less ↦ later_past bundles steps (get_or services k e).rate last next (omega (arith, is)) short (so_far.each k e less)
    | inr more ↦
        let same : i ≡ k = omega (arith, h, more) in
        let at : get_or services i d ≡ get_or services k e = get_or_default services i d e inside ∙ ap (λ (n : ℕ). get_or services n e) same in
        subst (λ (s : Service). IsPast bundles steps s.rate next) at (later_past bundles steps (get_or services i d).rate end next (omega (arith, is)) short here)
  ];
}
  where
    short : next < 2 ^ 62
    short = let a = so_far.short in let b = here.short in omega (arith, is, a, b)

-- ---- the excess by a walk
pub excess_of : (bundles : List Bundle) (steps : List Line) (rate most : ℕ) (walk : Walk) (later x : ℕ) → AreBundles bundles → AreSteps (line_parts bundles) steps
    → IsSlowBurst steps rate most → IsWalk bundles walk → IsEnd bundles steps rate walk.end → IsTailOfFirst steps rate most walk.end (length steps) later
    → IsExcessBy bundles steps rate most walk.end x → IsStairExcess bundles rate x
excess_of bundles steps rate most walk later x are steps_are slow is end tail by = elim end.reaches [
  | inl last ↦ cut bundles steps rate most walk.end x are steps_are slow last by
  | inr past ↦ exact bundles steps rate most walk.end x are steps_are slow (past.horizon most slow) end.few by
]
