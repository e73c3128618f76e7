-- What steps come to where neighbours meet between two times.
use Rattle.std.specs.Prelude.{◌≡◌, ℕ, suc, ◌+◌, ◌-◌, ◌*◌, ◌^◌, ◌<◌, ◌≤◌, max, List, ◌++◌, length, get_or, Option, IfSome}
use Rattle.std.proofs.Common.{arith, sym, subst, inl, inr}
use Rattle.std.specs.Int.{div_ceil}
use Rattle.std.proofs.lemmas.Bool.{cases_lt}
use Rattle.std.proofs.lemmas.List.{get_or_default}
use Rattle.rational.specs.Rational.{ℚ, ◌*ℚ◌}
use Rattle.rational.proofs.Laws.{add_le_add, le_refl, le_trans, lt_le_trans}
use Rattle.arrival_lines.specs.Grid.{grain, bits, speed, micros, line_value, parts_value}
use Rattle.arrival_lines.specs.Steps.{AreSteps}
use Rattle.arrival_lines.specs.declared.grid.Line.{Line}
use Rattle.arrival_lines.specs.declared.grid.Part.{Part}
use Rattle.arrival_lines.proofs.Units.{micros_nonneg}
use Rattle.arrival_heights.specs.Greatest.{AddsHeights, IsGreatestBetween, IsNear, ahead_if, some_of}
use Rattle.arrival_heights.specs.Heights.{AreSmall, IsMoment, line_height}
use Rattle.arrival_heights.specs.Meetings.{AddsMeetings, AddsMost, AreSmallSteps, IsBoundAtMeeting, IsNearOne, IsWithin, MeetAfter}
use Rattle.arrival_heights.specs.declared.heights.Height.{Height}
use Rattle.arrival_heights.proofs.Added.{BendsAdded}
use Rattle.arrival_heights.proofs.Concave.{bounded, lines_meet, no_line}
use Rattle.arrival_heights.proofs.Grown.{step_rate}
use Rattle.arrival_heights.proofs.Most.{moments_more, most_more}
use Rattle.arrival_heights.proofs.Scaled.{line_near, line_over}
use Rattle.arrival_heights.proofs.Split.{IsGreatestSoFar, below_more, is_after, is_before, nearer, time_of, time_is}

-- ---- two neighbours
pub met_between : (step next : Line) (rate begin end x o u : ℕ) → MeetAfter step next o u → IsWithin o u begin end → x ≡ div_ceil (line_height step o u - rate * o) u
    → IsBoundAtMeeting step next rate begin end x
met_between step next rate begin end x o u after within is = record {
  over = λ p v t other inside at. line_over o u t record { some = after.some; is = there p v t other at } step rate x is;
  near = λ some. record {
    at = time_of o u;
    begins = is_after o u begin (time_of o u) after.some (time_is o u after.some) (let l = within.late in omega (arith, l));
    ends = is_before o u end (time_of o u) after.some (time_is o u after.some) (let l = within.early in omega (arith, l));
    meet = lines_meet step next o u (time_of o u) after (time_is o u after.some);
    near = line_near o u (time_of o u) record { some = after.some; is = time_is o u after.some } step rate x is some;
  };
}
  where
    there : (p v : ℕ) (t : ℚ) → MeetAfter step next p v → speed v *ℚ t ≡ bits p → speed u *ℚ t ≡ bits o
    there p v t other at =
        let a = after.rise in
        let b = other.rise in
        let f = after.fall in
        let g = other.fall in
        let same_over : p ≡ o = omega (arith, a, b) in
        let same_under : v ≡ u = omega (arith, f, g) in
        subst (λ (n : ℕ). speed n *ℚ t ≡ bits o) same_under (subst (λ (n : ℕ). speed v *ℚ t ≡ bits n) same_over at)

pub not_met : (step next : Line) (rate begin end o u : ℕ) → MeetAfter step next o u → (begin * u < o * 10 ^ 12 → o * 10 ^ 12 < end * u → ⊥) → IsBoundAtMeeting step next rate begin end 0
not_met step next rate begin end o u after none = record {
  over = λ p v t other inside at. absurd (none (late p v other inside) (early p v other inside));
  near = λ some. absurd (omega (arith, some));
}
  where
    same : (p v : ℕ) → MeetAfter step next p v → (p ≡ o) × (v ≡ u)
    same p v other =
        let a = after.rise in
        let b = other.rise in
        let f = after.fall in
        let g = other.fall in
        (omega (arith, a, b), omega (arith, f, g))

    late : (p v : ℕ) → MeetAfter step next p v → IsWithin p v begin end → begin * u < o * 10 ^ 12
    late p v other inside =
        subst (λ (n : ℕ). begin * n < o * 10 ^ 12) (same p v other).1 (subst (λ (n : ℕ). begin * v < n * 10 ^ 12) (same p v other).0 inside.late)

    early : (p v : ℕ) → MeetAfter step next p v → IsWithin p v begin end → o * 10 ^ 12 < end * u
    early p v other inside =
        subst (λ (n : ℕ). o * 10 ^ 12 < end * n) (same p v other).1 (subst (λ (n : ℕ). n * 10 ^ 12 < end * v) (same p v other).0 inside.early)

-- ---- all of them
pub small_steps : (parts : List Part) (steps : List Line) → AreSmall parts → AreSteps parts steps → AreSmallSteps steps
small_steps parts steps small are = record {
  slowing = are.slowing;
  rising = are.rising;
  bursts = λ k d h. let a = are.small k d h in let b = small.bursts in omega (arith, a, b);
  rates = λ k d h. let a = step_rate parts (get_or steps k d) (are.each k d h) in let b = small.rates in omega (arith, a, b);
}

pub rising_at : (steps : List Line) → AreSmallSteps steps → (i : ℕ) → 0 < i → i < length steps → (get_or steps (i - 1) no_line).burst ≤ (get_or steps i no_line).burst
rising_at steps small i some inside =
    let e : suc (i - 1) ≡ i = omega (arith, some) in
    subst (λ (n : ℕ). (get_or steps (i - 1) no_line).burst ≤ (get_or steps n no_line).burst) e (small.rising (i - 1) no_line (omega (arith, e, inside)))

pub falling_at : (steps : List Line) → AreSmallSteps steps → (i : ℕ) → 0 < i → i < length steps → (get_or steps i no_line).rate < (get_or steps (i - 1) no_line).rate
falling_at steps small i some inside =
    let e : suc (i - 1) ≡ i = omega (arith, some) in
    subst (λ (n : ℕ). (get_or steps n no_line).rate < (get_or steps (i - 1) no_line).rate) e (small.slowing.falling (i - 1) no_line (omega (arith, e, inside)))

pub none_met : (steps : List Line) (begin end : ℕ) (old : List Height) → AddsMeetings steps begin end 1 old old
none_met steps begin end old = record {
  moments = λ all. all;
  greatest = λ rate. record {
    most = 0;
    over = λ k o u d t h after within at. absurd (omega (arith, h));
    near = λ some. absurd (omega (arith, some));
    is = omega arith;
  };
}

pub one_more_met : (steps : List Line) (begin end i p : ℕ) (one other : Line) (found : Option Height) (old now new : List Height) → i ≡ suc p → i < length steps
    → one ≡ get_or steps p no_line → other ≡ get_or steps i no_line → ((rate : ℕ) → IsBoundAtMeeting one other rate begin end (ahead_if rate found))
    → IfSome found (λ h. IsMoment h.at) → new ≡ now ++ some_of found → AddsMeetings steps begin end i old now → AddsMeetings steps begin end (i + 1) old new
one_more_met steps begin end i p one other found old now new next inside is is_other bound moment e so_far = record {
  moments = λ all. moments_more now new found moment e (so_far.moments all);
  greatest = λ rate.
      let by = so_far.greatest rate in
      let a = most_more rate now new found e in
      let b = by.is in
      record {
        most = max by.most (ahead_if rate found);
        over = λ k o u d t h after within at. elim (cases_lt (suc k) i) [
          | inl before ↦ below_more (line_value (get_or steps k d)) rate by.most (max by.most (ahead_if rate found)) t (omega arith) (by.over k o u d t before after within at)
          | inr last ↦ below_more (line_value (get_or steps k d)) rate (ahead_if rate found) (max by.most (ahead_if rate found)) t (omega arith)
              ((bound_of rate k d (omega (arith, next, h, last))).over o u t after within at)
        ];
        near = near_one rate by.most by.near;
        is = omega (arith, a, b);
      };
}
  where
    first_is : (k : ℕ) (d : Line) → k ≡ p → one ≡ get_or steps k d
    first_is k d here = subst (λ (n : ℕ). one ≡ get_or steps n d) (sym here) (subst (λ (l : Line). one ≡ l) (get_or_default steps p no_line d (omega (arith, next, inside))) is)

    second_is : (k : ℕ) (d : Line) → k ≡ p → other ≡ get_or steps (suc k) d
    second_is k d here =
        let at : i ≡ suc k = omega (arith, next, here) in
        subst (λ (n : ℕ). other ≡ get_or steps n d) at (subst (λ (l : Line). other ≡ l) (get_or_default steps i no_line d inside) is_other)

    bound_of : (rate k : ℕ) (d : Line) → k ≡ p → IsBoundAtMeeting (get_or steps k d) (get_or steps (suc k) d) rate begin end (ahead_if rate found)
    bound_of rate k d here =
        subst (λ (l : Line). IsBoundAtMeeting l (get_or steps (suc k) d) rate begin end (ahead_if rate found)) (first_is k d here)
        (subst (λ (l : Line). IsBoundAtMeeting one l rate begin end (ahead_if rate found)) (second_is k d here) (bound rate))

    near_one : (rate most : ℕ) → (0 < most → IsNearOne steps rate most begin end) → 0 < max most (ahead_if rate found)
        → IsNearOne steps rate (max most (ahead_if rate found)) begin end
    near_one rate most near some = elim (cases_lt most (ahead_if rate found)) [
      | inl less ↦
          let e : ahead_if rate found ≡ max most (ahead_if rate found) = omega (arith, less) in
          subst (λ (n : ℕ). IsNearOne steps rate n begin end) e
          record { step = p; inside = omega (arith, next, inside); near = λ d. (bound_of rate p d (omega arith)).near (omega (arith, less)) }
      | inr more ↦
          let e : most ≡ max most (ahead_if rate found) = omega (arith, more) in
          subst (λ (n : ℕ). IsNearOne steps rate n begin end) e (near (omega (arith, more, some)))
    ]

pub all_met : (steps : List Line) (begin end i : ℕ) (old new : List Height) → length steps ≤ i → AddsMeetings steps begin end i old new
    → AddsMeetings steps begin end (length steps) old new
all_met steps begin end i old new done so_far = record {
  moments = so_far.moments;
  greatest = λ rate.
      let by = so_far.greatest rate in
      record { most = by.most; over = λ k o u d t h after within at. by.over k o u d t (omega (arith, h, done)) after within at; near = by.near; is = by.is };
}

-- ---- of parts: at both times, and where neighbouring steps meet between
pub both_added : (parts : List Part) (steps : List Line) (begin end : ℕ) (old middle new : List Height) → AreSteps parts steps → BendsAdded parts begin end 0 old middle
    → AddsMeetings steps begin end (length steps) middle new → AddsHeights parts begin end old new
both_added parts steps begin end old middle new are ends meetings = record {
  moments = λ all. meetings.moments (ends.moments all);
  greatest = λ rate.
      let one = ends.greatest rate in
      let other = meetings.greatest rate in
      let a = one.is in
      let b = other.is in
      record { most = max one.most other.most; greatest = of_both rate one.most one.greatest middle new other; is = omega (arith, a, b) };
}
  where
    near_parts : (rate y : ℕ) → IsNearOne steps rate y begin end → IsNear (parts_value parts) rate y (micros begin) (micros end)
    near_parts rate y one =
        let n = one.near no_line in
        let h = are.meet n.at one.step no_line (le_trans (micros_nonneg begin) n.begins) one.inside n.meet in
        record { at = n.at; begins = n.begins; ends = n.ends; near = lt_le_trans n.near (add_le_add h (le_refl grain)) }

    of_both : (rate x : ℕ) → IsGreatestSoFar parts rate begin end 0 x → (hs ks : List Height) → (by : AddsMost steps rate begin end (length steps) hs ks)
        → IsGreatestBetween parts rate begin end (max x by.most)
    of_both rate x so_far hs ks by = record {
      over = bounded parts steps are rate (max x by.most) begin end (below_more (parts_value parts) rate x (max x by.most) (micros begin) (omega arith) so_far.first)
          (below_more (parts_value parts) rate x (max x by.most) (micros end) (omega arith) so_far.last)
          (λ k o u d t inside after within at. below_more (line_value (get_or steps k d)) rate by.most (max x by.most) t (omega arith) (by.over k o u d t inside after within at));
      near = nearer (parts_value parts) rate x by.most (micros begin) (micros end) so_far.near (λ some. near_parts rate by.most (by.near some));
    }
