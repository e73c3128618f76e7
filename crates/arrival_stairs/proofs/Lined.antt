-- A line at a service's rate: its delay and its backlog there; and what is promised of what is above bundles is promised of them.
use Rattle.std.specs.Prelude.{◌≡◌, ℕ, ◌+◌, ◌*◌, ◌<◌, List, [], ◌∷◌, length, get_or, Option, None, MatchOption}
use Rattle.std.proofs.Common.{arith, sym, subst, ◌∙◌, inl, inr}
use Rattle.std.specs.Int.{div_ceil}
use Rattle.std.proofs.lemmas.Grind.{div_ceil_times}
use Rattle.rational.specs.Rational.{ℚ, ◌+ℚ◌, ◌-ℚ◌, ◌*ℚ◌, ◌/ℚ◌, ◌≤ℚ◌, ◌<ℚ◌}
use Rattle.rational.specs.Extended.{Ext}
use Rattle.rational.specs.declared.Extended.TheVariants.{Fin}
use Rattle.rational.proofs.ExtendedOrder.{le_ext_trans}
use Rattle.rational.proofs.Laws.{add_zero, le_refl, mul_comm, div_mul, not_zero}
use Rattle.rational.proofs.Linear.{with2, with_atoms}
use Rattle.rational.proofs.MinMax.{max_q_ge_right, max_q_le}
use Rattle.rational.proofs.Quotients.{div_nonneg}
use Rattle.min_plus.specs.Functions.{zero_q, whole}
use Rattle.arrival_lines.specs.Grid.{grain, bits, speed, parts_value}
use Rattle.arrival_lines.specs.Excess.{IsExcess}
use Rattle.arrival_lines.specs.Delays as delays
use Rattle.arrival_lines.specs.Backlogs.{passed_value, IsBacklogAt}
use Rattle.arrival_lines.specs.Backlogs as backlogs
use Rattle.arrival_lines.specs.Queues as queues
use Rattle.arrival_lines.specs.declared.grid.Part.{Part}
use Rattle.arrival_lines.specs.declared.grid.Queue.{Queue}
use Rattle.arrival_lines.specs.declared.grid.Service.{Service}
use Rattle.arrival_lines.proofs.Heights.{in_bits_covers}
use Rattle.arrival_lines.proofs.Promised.{delay_serves, backlog_holds}
use Rattle.arrival_lines.proofs.Units.{bits_add, bits_le, bits_whole, bits_nonneg, grain_some, one_grain, speed_some}
use Rattle.arrival_stairs.specs.Stairs.{bundles_at, AreBundles}
use Rattle.arrival_stairs.specs.BelowLines.{line_parts}
use Rattle.arrival_stairs.specs.declared.stairs.Bundle.{Bundle}
use Rattle.arrival_stairs.proofs.Tails.{excess_is_a_bound}
use Rattle.arrival_stairs.proofs.UnderLines.{bundles_below_lines}
use Rattle.arrival_stairs.specs.Promises.{IsBrought, AreServedIn, HoldAtMost, IsKeptDelay, IsKeptBacklog}
use Rattle.arrival_stairs.specs.Queues.{IsSomeDelay, IsSomeBacklog, LeastOfBothIsKept}
use Rattle.arrival_stairs.specs.Stays.{IsStay}

-- ---- the line
abbrev line_of : (x rate : ℕ) → List Part
line_of x rate = record { sum = record { burst = x; rate = rate }; pace = None } ∷ []

line_is : (x rate : ℕ) (t : ℚ) → parts_value (line_of x rate) t ≡ bits x +ℚ speed rate *ℚ t
unfolding parts_value
line_is x rate t = add_zero (bits x +ℚ speed rate *ℚ t)

line_excess : (x rate : ℕ) → IsExcess (line_of x rate) rate x
line_excess x rate = record {
  over = λ t on. subst (λ y. y ≤ℚ bits x +ℚ speed rate *ℚ t) (sym (line_is x rate t)) (le_refl (bits x +ℚ speed rate *ℚ t));
  at = zero_q;
  on = le_refl zero_q;
  near = subst (λ y. bits x +ℚ speed rate *ℚ zero_q <ℚ y +ℚ grain) (sym (line_is x rate zero_q)) (more (bits x +ℚ speed rate *ℚ zero_q) grain_some);
}
  where
    more : (y : ℚ) → zero_q <ℚ grain → y <ℚ y +ℚ grain
    more y h = let g = grain in with2 y g (λ c. omega (arith, c.le, c.lt, c.same))

-- so many grains, in bits, rounded up
in_bits_near : (n b : ℕ) → b ≡ div_ceil n 1024 → whole b +ℚ grain ≤ℚ bits n +ℚ whole 1
in_bits_near n b e =
    let k : b * 1024 < n + 1024 = subst (λ x. x * 1024 < n + 1024) (sym e) (div_ceil_times n 1024 (omega arith)).1 in
    let l = bits_le (1024 * b + 1) (n + 1024 * 1) (omega (arith, k)) in
    joined (bits (1024 * b + 1)) (bits (n + 1024 * 1)) (bits (1024 * b)) (bits 1) (bits n) (bits (1024 * 1)) l (bits_add (1024 * b) 1) (bits_add n (1024 * 1)) (bits_whole b) one_grain (bits_whole 1)
  where
    joined : (x y a g n o : ℚ) → x ≤ℚ y → x ≡ a +ℚ g → y ≡ n +ℚ o → a ≡ whole b → g ≡ grain → o ≡ whole 1 → whole b +ℚ grain ≤ℚ n +ℚ whole 1
    joined x y a g n o h e f p q r = rw (← p, ← q, ← r) (subst (λ z. a +ℚ g ≤ℚ z) f (subst (λ z. z ≤ℚ y) e h))

line_backlog : (x : ℕ) (s : Service) (longest b : ℕ) → 0 < s.rate → b ≡ div_ceil (x + (s.debt + longest)) 1024 → IsBacklogAt (line_of x s.rate) s longest b
line_backlog x s longest b some is = record {
  over = above;
  at = bits (s.debt + longest) /ℚ speed s.rate;
  on = div_nonneg (bits (s.debt + longest)) (speed s.rate) rate_some (bits_nonneg (s.debt + longest));
  near = near_then (bits (s.debt + longest) /ℚ speed s.rate) (mul_comm (speed s.rate) _ ∙ div_mul (bits (s.debt + longest)) (speed s.rate) (not_zero _ rate_some));
}
  where
    rate_some : zero_q <ℚ speed s.rate
    rate_some = speed_some s.rate some

    above : (t : ℚ) → zero_q ≤ℚ t → parts_value (line_of x s.rate) t ≤ℚ whole b +ℚ passed_value s longest t
    above t on =
        let g = max_q_ge_right zero_q (speed s.rate *ℚ t -ℚ bits (s.debt + longest)) in
        joined (bits x) (bits (s.debt + longest)) (bits (x + (s.debt + longest))) (whole b) (speed s.rate *ℚ t) (passed_value s longest t) (parts_value (line_of x s.rate) t)
        (bits_add x (s.debt + longest)) (in_bits_covers (x + (s.debt + longest)) b is) g (line_is x s.rate t)
      where
        joined : (y m all w u v p : ℚ) → all ≡ y +ℚ m → all ≤ℚ w → u -ℚ m ≤ℚ v → p ≡ y +ℚ u → p ≤ℚ w +ℚ v
        joined y m all w u v p e h g k = with_atoms (y ∷ m ∷ all ∷ w ∷ u ∷ v ∷ p ∷ []) (λ c. omega (arith, c.le, c.lt, c.same))

    near_then : (t : ℚ) → speed s.rate *ℚ t ≡ bits (s.debt + longest) → whole b +ℚ passed_value s longest t <ℚ parts_value (line_of x s.rate) t +ℚ whole 1
    near_then t e =
        let none : passed_value s longest t ≤ℚ zero_q = max_q_le zero_q (speed s.rate *ℚ t -ℚ bits (s.debt + longest)) zero_q (le_refl zero_q) (gone (speed s.rate *ℚ t) (bits (s.debt + longest)) e) in
        joined (bits x) (bits (s.debt + longest)) (bits (x + (s.debt + longest))) (whole b) (speed s.rate *ℚ t) (passed_value s longest t) (parts_value (line_of x s.rate) t)
        (bits_add x (s.debt + longest)) (in_bits_near (x + (s.debt + longest)) b is) none e (line_is x s.rate t) grain_some
      where
        gone : (u m : ℚ) → u ≡ m → u -ℚ m ≤ℚ zero_q
        gone u m e = with2 u m (λ c. omega (arith, c.le, c.lt, c.same))

        joined : (y m all w u v p : ℚ) → all ≡ y +ℚ m → w +ℚ grain ≤ℚ all +ℚ whole 1 → v ≤ℚ zero_q → u ≡ m → p ≡ y +ℚ u → zero_q <ℚ grain → w +ℚ v <ℚ p +ℚ whole 1
        joined y m all w u v p e h l f g k = let n = grain in with_atoms (y ∷ m ∷ all ∷ w ∷ u ∷ v ∷ p ∷ n ∷ []) (λ c. omega (arith, c.le, c.lt, c.same))

-- ---- what is promised of parts that are nowhere below bundles
module _ (bundles : List Bundle) (parts : List Part) (below : (t : ℚ) → zero_q ≤ℚ t → bundles_at bundles t ≤ℚ parts_value parts t) where
  brought_by : (f : ℚ → Ext) → IsBrought f bundles → delays.IsBrought f parts
  brought_by f h = record { brought = λ t on. le_ext_trans (f t) (Fin (bundles_at bundles t)) (Fin (parts_value parts t)) (h.brought t on) (below t on) }

  pub served_below : (s : Service) (d : ℕ) → delays.IsServedIn parts s d → AreServedIn bundles s d
  served_below s d is = record {
    reached = λ f g brought served t wait on later. is.reached f g (brought_by f brought) served t wait on later;
    deviation = λ f g h brought served dev. is.deviation f g h (brought_by f brought) served dev;
  }

  pub held_below : (s : Service) (longest b : ℕ) → backlogs.HoldsAtMost parts s longest b → HoldAtMost bundles s longest b
  held_below s longest b is = record {
    within = λ f g brought served t level on e. is.within f g (brought_by f brought) served t level on e;
    deviation = λ f g v brought served dev. is.deviation f g v (brought_by f brought) served dev;
  }

-- ---- by stairs
below_line : (bundles : List Bundle) (s : Service) (longest d b : ℕ) (is : IsStay bundles s longest d b) (t : ℚ) → AreBundles bundles → zero_q ≤ℚ t
    → bundles_at bundles t ≤ℚ parts_value (line_of is.over s.rate) t
below_line bundles s longest d b is t are on =
    subst (λ y. bundles_at bundles t ≤ℚ y) (sym (line_is is.over s.rate t)) ((excess_is_a_bound bundles s.rate is.over are is.excess).over t on)

pub stay_served : (bundles : List Bundle) (s : Service) (longest d b : ℕ) → AreBundles bundles → IsStay bundles s longest d b → AreServedIn bundles s d
stay_served bundles s longest d b are is =
    let line = line_of is.over s.rate in
    served_below bundles line (λ t on. below_line bundles s longest d b is t are on) s d
    (delay_serves line s d record { some = is.some; over = is.over; excess = line_excess is.over s.rate; is = is.delay })

pub stay_holds : (bundles : List Bundle) (s : Service) (longest d b : ℕ) → AreBundles bundles → IsStay bundles s longest d b → HoldAtMost bundles s longest b
stay_holds bundles s longest d b are is =
    let line = line_of is.over s.rate in
    held_below bundles line (λ t on. below_line bundles s longest d b is t are on) s longest b
    (backlog_holds line s longest b (line_backlog is.over s longest b is.some is.backlog))

-- ---- by lines
pub lines_served : (bundles : List Bundle) (services : List Service) (longest : ℕ) (queue : Queue) → AreBundles bundles
    → queues.IsLeastQueue (line_parts bundles) services longest queue → IsKeptDelay bundles services queue.delay
lines_served bundles services longest queue are least = record {
  place = least.delay.place;
  inside = least.delay.inside;
  is = λ e.
      served_below bundles (line_parts bundles) (λ t on. bundles_below_lines bundles t are on) (get_or services least.delay.place e) queue.delay
      (delay_serves (line_parts bundles) (get_or services least.delay.place e) queue.delay (least.delay.is e));
}

pub lines_hold : (bundles : List Bundle) (services : List Service) (longest : ℕ) (queue : Queue) → AreBundles bundles
    → queues.IsLeastQueue (line_parts bundles) services longest queue → IsKeptBacklog bundles services longest queue.backlog
lines_hold bundles services longest queue are least = record {
  place = least.backlog.place;
  inside = least.backlog.inside;
  is = λ e.
      held_below bundles (line_parts bundles) (λ t on. bundles_below_lines bundles t are on) (get_or services least.backlog.place e) longest queue.backlog
      (backlog_holds (line_parts bundles) (get_or services least.backlog.place e) longest queue.backlog (least.backlog.is e));
}

-- ---- by both
module _ (bundles : List Bundle) (services : List Service) (longest : ℕ) (are : AreBundles bundles) where
  delay_kept : (d : ℕ) (lines : Option Queue)
      → MatchOption lines (queues.IsUnbounded (line_parts bundles) services) (λ queue. queues.IsLeastQueue (line_parts bundles) services longest queue)
      → IsSomeDelay bundles services longest (length services) lines d → IsKeptDelay bundles services d
  delay_kept d lines by_lines (inr (b, of)) = record {
    place = of.place;
    inside = of.inside;
    is = λ e. stay_served bundles (get_or services of.place e) longest d b are (of.is e);
  }
  delay_kept d lines by_lines (inl of) =
      let M : Option Queue → Type 0 = λ o. MatchOption o (queues.IsUnbounded (line_parts bundles) services)
      (λ queue. queues.IsLeastQueue (line_parts bundles) services longest queue) in
      subst (λ (n : ℕ). IsKeptDelay bundles services n) (sym of.delay) (lines_served bundles services longest of.queue are (subst M of.is by_lines))

  backlog_kept : (b : ℕ) (lines : Option Queue)
      → MatchOption lines (queues.IsUnbounded (line_parts bundles) services) (λ queue. queues.IsLeastQueue (line_parts bundles) services longest queue)
      → IsSomeBacklog bundles services longest (length services) lines b → IsKeptBacklog bundles services longest b
  backlog_kept b lines by_lines (inr (d, of)) = record {
    place = of.place;
    inside = of.inside;
    is = λ e. stay_holds bundles (get_or services of.place e) longest d b are (of.is e);
  }
  backlog_kept b lines by_lines (inl of) =
      let M : Option Queue → Type 0 = λ o. MatchOption o (queues.IsUnbounded (line_parts bundles) services)
      (λ queue. queues.IsLeastQueue (line_parts bundles) services longest queue) in
      subst (λ (n : ℕ). IsKeptBacklog bundles services longest n) (sym of.backlog) (lines_hold bundles services longest of.queue are (subst M of.is by_lines))

pub least_of_both_is_kept : LeastOfBothIsKept
least_of_both_is_kept bundles services longest queue are is = record {
  delay = delay_kept bundles services longest are queue.delay is.lines is.by_lines is.least.delay;
  backlog = backlog_kept bundles services longest are queue.backlog is.lines is.by_lines is.least.backlog;
}
