-- Steps on times that have room.
use Rattle.std.proofs.Common.{◌≡◌, ℕ, ◌≤◌, List, [], ◌∷◌, ◌++◌, sym, ◌∙◌, subst, arith, append_assoc}
use Rattle.rational.specs.Rational.{ℚ, ◌+ℚ◌, ◌-ℚ◌}
use Rattle.rational.specs.Ratio.{SumFits}
use Rattle.rational.proofs.Linear.{with2, with3}
use Rattle.rational.proofs.Laws.{antisym}
use Rattle.rational.proofs.Grid.{whole_sub}
use Rattle.rational.proofs.Sizes.{largest_part, sum_on_grid}
use Rattle.net_model.specs.stated_runs.Setups.{StallTimes}
use Rattle.net_model.proofs.stated_runs.GridTimes.{within, room_two, difference_fits}
use Rattle.net_model.specs.stated_runs.TimeGrids.{HasRoom, IsTime, AreStallTimes}
use Rattle.sim_bounds.specs.Horizons.{stalled_for}
use Rattle.sim_bounds.specs.sim_gauge.Steps.{StallsFit}

few : (d : ℕ) (e : ℚ) → HasRoom d e → d ≤ largest_part
few d e r = let s = r.small in omega (arith, s)

-- a time and the difference of two others
length_adds : (d : ℕ) (e s a b : ℚ) → HasRoom d e → IsTime d e s → IsTime d e a → IsTime d e b → SumFits s (b -ℚ a)
length_adds d e s a b r t u v =
    let a0 = u.from_zero in
    let a1 = u.by in
    let b0 = v.from_zero in
    let b1 = v.by in
    sum_on_grid d e e s (b -ℚ a) r.some (few d e r) (room_two d e r) t.on_grid (whole_sub d b a v.on_grid u.on_grid) (within t)
    record { low = with3 a b e (λ c. omega (arith, c.le, c.lt, c.same)); high = with3 a b e (λ c. omega (arith, c.le, c.lt, c.same)) }

-- ---- stalls, one after another
pub stalled_push : (xs : List StallTimes) (x : StallTimes) → stalled_for (xs ++ x ∷ []) ≡ stalled_for xs +ℚ (x.end -ℚ x.start)
stalled_push [] x = antisym (with2 x.start x.end (λ c. omega (arith, c.le, c.lt, c.same)))
stalled_push (y ∷ ys) x =
    let h = stalled_push ys x in
    antisym (Rattle.rational.proofs.Linear.with6 y.start y.end x.start x.end (stalled_for ys) (stalled_for (ys ++ x ∷ [])) (λ c. omega (arith, c.le, c.lt, c.same)))

pub stalls_fit : (d : ℕ) (e : ℚ) → HasRoom d e → (all before rest : List StallTimes) → before ++ rest ≡ all
    → ((xs ys : List StallTimes) → all ≡ xs ++ ys → IsTime d e (stalled_for xs)) → AreStallTimes d e rest → StallsFit (stalled_for before) rest
stalls_fit d e r all before [] q sums times = tt
stalls_fit d e r all before (x ∷ xs) q sums times =
    let so_far = sums before (x ∷ xs) (sym q) in
    let next : (before ++ x ∷ []) ++ xs ≡ all = append_assoc before (x ∷ []) xs ∙ q in (
      difference_fits d e x.end x.start r times.0.1 times.0.0,
      length_adds d e (stalled_for before) x.start x.end r so_far times.0.0 times.0.1,
      subst (λ t. StallsFit t xs) (stalled_push before x) (stalls_fit d e r all (before ++ x ∷ []) xs next sums times.1),
    )
