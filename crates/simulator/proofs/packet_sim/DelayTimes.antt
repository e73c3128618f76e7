-- The delays of a stated run have room.
use Rattle.std.specs.Prelude.{◌≡◌, ℕ, pos, ◌==◌, ◌&&◌, List, [], ◌∷◌, ◌++◌}
use Rattle.std.proofs.Common.{arith, sym, subst, inl, inr}
use Rattle.std.proofs.lemmas.Bool.{cases_Bool}
use Rattle.rational.specs.Rational.{ℚ, int, neg_ℚ, ◌+ℚ◌, ◌*ℚ◌, ◌≤ℚ◌}
use Rattle.rational.specs.Ratio.{SumFits}
use Rattle.rational.specs.Grid.{Whole, Within}
use Rattle.rational.proofs.Grid.{whole_add, within_nonneg, within_add, within_weaken}
use Rattle.rational.proofs.Integers.{nat_nonneg}
use Rattle.rational.proofs.Laws.{le_trans, mul_le_mul_right}
use Rattle.rational.proofs.Linear.{with1}
use Rattle.rational.proofs.Sizes.{largest_part, difference_on_grid}
use Rattle.run_laws.specs.declared.steps.Step.{Step}
use Rattle.run_laws.specs.declared.steps.Step.TheVariants.{Enter, Reach, Work, Leave, Visit}
use Rattle.run_laws.specs.FlowDelays.{delivered_at}
use Rattle.run_laws.specs.Routes.{Routes, link_at, route_of, last_server}
use Rattle.run_laws.specs.Runs.{SpecRun}
use Rattle.run_laws.specs.Lawful.{run_start}
use Rattle.net_model.specs.stated_runs.Setups.{Setup}
use Rattle.net_model.specs.stated_runs.DueSteps.{step_time}
use Rattle.net_model.specs.stated_runs.Simulated.{Follows, FollowsSoFar, last_time, IsSimulated}
use Rattle.net_model.specs.stated_runs.Laws.{state_after}
use Rattle.net_model.specs.stated_runs.TimeGrids.{HasRoom, IsTime, RunFits}
use Rattle.sim_servers.proofs.GridSteps.{sum_fits}
use Rattle.sim_servers.proofs.sim_states.SoFar.{after_push, follows_push}
use Rattle.simulator.specs.run_measures.Worst.{DelaysFit}

-- ---- the times of all steps
abbrev AreTimes : ℕ → ℚ → List Step → Type 0
AreTimes D E [] = Unit {0}
AreTimes D E (x ∷ xs) = IsTime D E (step_time x) × AreTimes D E xs

times_of : (S : Setup) (D : ℕ) (E : ℚ) → RunFits S D E → (ys xs : List Step) → FollowsSoFar S (run_start S.net) ys → Follows S (state_after S ys) xs
    → AreTimes D E xs
times_of S D E fits ys [] so_far f = tt
times_of S D E fits ys (x ∷ xs) so_far f = (
  fits.due ys so_far x f.0.due,
  times_of S D E fits (ys ++ x ∷ []) xs (follows_push S ys (run_start S.net) x so_far f.0)
      (subst (λ r. Follows S r xs) (sym (after_push S ys (run_start S.net) x)) f.1),
)

end_is_time : (D : ℕ) (E from : ℚ) (xs : List Step) → IsTime D E from → AreTimes D E xs → IsTime D E (last_time from xs)
end_is_time D E from [] i h = i
end_is_time D E from (x ∷ xs) i h = end_is_time D E (step_time x) xs h.0 h.1

-- ---- a packet is delivered by twice the last time
record IsLater (D : ℕ) (E t : ℚ) : Type 0 where
  on_grid : Whole D t
  within : Within (E +ℚ E) t

by_twice : (D : ℕ) (E t : ℚ) → HasRoom D E → IsTime D E t → IsLater D E t
by_twice D E t r i =
    let z = r.from_zero in
    record {
      on_grid = i.on_grid;
      within = within_weaken E (E +ℚ E) t (with1 E (λ c. omega (arith, c.le, c.lt, c.same))) (within_nonneg E t i.from_zero i.by);
    }

sum_later : (D : ℕ) (E t z : ℚ) → IsTime D E t → IsTime D E z → IsLater D E (t +ℚ z)
sum_later D E t z i j = record {
  on_grid = whole_add D t z i.on_grid j.on_grid;
  within = within_add E E t z (within_nonneg E t i.from_zero i.by) (within_nonneg E z j.from_zero j.by);
}

delivered_later : (net : Routes) (D : ℕ) (E end : ℚ) → HasRoom D E → ((s : ℕ) → IsTime D E (link_at net s)) → IsTime D E end → (s p : ℕ) (xs : List Step)
    → AreTimes D E xs → IsLater D E (delivered_at net end s p xs)
delivered_later net D E end r links e s p [] h = by_twice D E end r e
delivered_later net D E end r links e s p (Enter f q t b ∷ xs) h = delivered_later net D E end r links e s p xs h.1
delivered_later net D E end r links e s p (Reach k q t ∷ xs) h = delivered_later net D E end r links e s p xs h.1
delivered_later net D E end r links e s p (Work k q a b w ∷ xs) h = delivered_later net D E end r links e s p xs h.1
delivered_later net D E end r links e s p (Visit k q t ∷ xs) h = delivered_later net D E end r links e s p xs h.1
delivered_later net D E end r links e s p (Leave k q t ∷ xs) h = elim (cases_Bool ((k == s) && (q == p))) [
  | inl y ↦ rw y (sum_later D E t (link_at net s) h.0 (links s))
  | inr n ↦ rw n (delivered_later net D E end r links e s p xs h.1)
]

room_three : (D : ℕ) (E : ℚ) → HasRoom D E → ((E +ℚ E) +ℚ E) *ℚ int (pos D) ≤ℚ int (pos largest_part)
room_three D E r =
    let z = r.from_zero in
    le_trans (mul_le_mul_right (int (pos D)) (nat_nonneg D)
    (let l : (E +ℚ E) +ℚ E ≤ℚ int (pos 8) *ℚ E = with1 E (λ c. omega (arith, c.le, c.lt, c.same)) in l)) r.room

delay_fits : (D : ℕ) (E a b : ℚ) → HasRoom D E → IsLater D E a → IsTime D E b → SumFits a (neg_ℚ b)
delay_fits D E a b r i j =
    difference_on_grid D (E +ℚ E) E a b r.some r.small (room_three D E r) i.on_grid j.on_grid i.within (within_nonneg E b j.from_zero j.by)

fit_all : (net : Routes) (D : ℕ) (E end : ℚ) → HasRoom D E → ((s : ℕ) → IsTime D E (link_at net s)) → IsTime D E end → (xs : List Step)
    → AreTimes D E xs → DelaysFit net end xs
fit_all net D E end r links e [] h = tt
fit_all net D E end r links e (Enter f p t b ∷ xs) h = (
  delay_fits D E (delivered_at net end (last_server (route_of net f).hops) p xs) t r
      (delivered_later net D E end r links e (last_server (route_of net f).hops) p xs h.1) h.0,
  fit_all net D E end r links e xs h.1,
)
fit_all net D E end r links e (Reach s p t ∷ xs) h = fit_all net D E end r links e xs h.1
fit_all net D E end r links e (Work s p a b w ∷ xs) h = fit_all net D E end r links e xs h.1
fit_all net D E end r links e (Visit s q t ∷ xs) h = fit_all net D E end r links e xs h.1
fit_all net D E end r links e (Leave s p t ∷ xs) h = (sum_fits D E t (link_at net s) r h.0 (links s), fit_all net D E end r links e xs h.1)

from_start : (S : Setup) (D : ℕ) (E end : ℚ) → RunFits S D E → (xs : List Step) → AreTimes D E xs → end ≡ last_time (int (pos 0)) xs → DelaysFit S.net end xs
from_start S D E end fits [] h e = tt
from_start S D E end fits (x ∷ xs) h e =
    fit_all S.net D E end fits.grid.room fits.grid.links (subst (λ t. IsTime D E t) (sym e) (end_is_time D E (step_time x) xs h.0 h.1)) (x ∷ xs) h

pub simulated_delays_fit : (S : Setup) (D : ℕ) (E : ℚ) → RunFits S D E → (run : SpecRun) → IsSimulated S run → DelaysFit S.net run.end run.steps
simulated_delays_fit S D E fits run h =
    from_start S D E run.end fits run.steps (times_of S D E fits [] run.steps tt h.follows) h.ends
