-- The walk: from one turn to the next the bundles together are on one line, so they are nowhere further above a rate than it is at both ends.
use Rattle.std.specs.Prelude.{◌≡◌, ℕ, ◌+◌, ◌-◌, ◌*◌, ◌/◌, ◌^◌, ◌<◌, ◌≤◌, max, true, false, List, [], ◌∷◌, ◌++◌, All, length, get_or, take, drop, Some}
use Rattle.std.proofs.Common.{arith, sym, ap, ◌∙◌, refl, subst, inl, inr}
use Rattle.std.specs.List.{sum_by}
use Rattle.std.proofs.Math.ListN.{drop_of_length-le}
use Rattle.std.proofs.Math.Nat.{div-mul-le_self, lt-mul-div-succ}
use Rattle.std.proofs.lemmas.Bool.{cases_lt}
use Rattle.std.proofs.lemmas.List.{get_or_default, get_or-drop, length-drop}
use Rattle.std.proofs.lemmas.List.Elements.{All-nil, All-more, All-take}
use Rattle.std.proofs.lemmas.List.Sums.{sum_by-cons, sum_by_more, sum_by-le, sum_by-take-drop}
use Rattle.rational.specs.Rational.{ℚ, ◌*ℚ◌, ◌≤ℚ◌}
use Rattle.rational.proofs.Laws.{mul_comm, le_of_mul, le_refl, le_trans, lt_le_trans, add_le_add}
use Rattle.min_plus.specs.Functions.{zero_q, whole}
use Rattle.arrival_lines.specs.Grid.{grain, bits, speed, micros, line_value}
use Rattle.arrival_lines.specs.declared.grid.Line.{Line}
use Rattle.arrival_lines.proofs.Units.{bits_le}
use Rattle.arrival_stairs.specs.Ahead.{IsAheadUpTo}
use Rattle.arrival_heights.specs.Greatest.{IsBelow, IsNear}
use Rattle.arrival_heights.specs.Heights.{AreMoments, IsMoment, ahead_of, heights, line_height, most_ahead, part_height}
use Rattle.arrival_stairs.specs.Jumps.{jump_count}
use Rattle.arrival_stairs.specs.Stairs.{AreBundles, bundle_part, bundles_at, levels_at}
use Rattle.arrival_stairs.specs.Turns.{AreInTurn, AreTurnsOf, IsSmallLine, IsTurn, bundles_height, burst_until, is_before, is_by, rate_until}
use Rattle.arrival_stairs.specs.Walks.{AddsEnds, Come, IsLeft, height_on}
use Rattle.arrival_heights.specs.declared.heights.Height.{Height}
use Rattle.arrival_heights.specs.declared.heights.Moment.{Moment}
use Rattle.arrival_stairs.specs.declared.stairs.Bundle.{Bundle}
use Rattle.arrival_stairs.specs.declared.turns.Turn.{Turn}
use Rattle.arrival_stairs.specs.declared.walk.Total.{Total}
use Rattle.arrival_stairs.proofs.Frozen.{IsWithin, bundles_are}
use Rattle.arrival_stairs.proofs.Highest.{bursts_small, rates_small}
use Rattle.arrival_heights.proofs.Instants.{instant_of, at_le, at_le_out, at_lt, at_zero}
use Rattle.arrival_heights.proofs.Most.{most_more, most_none, moments_more, no_moments}
use Rattle.arrival_heights.proofs.Scaled.{IsAt, at_picosecond, line_near, line_over, line_scaled, parts_scaled, under_some}
use Rattle.arrival_heights.proofs.Orders.{chain, chain_before, chain_behind}
use Rattle.arrival_heights.proofs.Split.{at_ends, below_more, nearer, time_is, time_of}
use Rattle.arrival_stairs.proofs.Turned.{IsOnAfter, comes_before, comes_by, comes_later, comes_not_before, on_by_first}

-- ---- what the bundles come to at a time
heights_are : (n o u : ℕ) (bundles : List Bundle) → heights (levels_at bundles n) o u ≡ sum_by (λ (b : Bundle). part_height o u (bundle_part n b)) bundles
heights_are n o u [] = refl
heights_are n o u (b ∷ bs) =
    let a = heights_are n o u bs in
    let e = sum_by-cons (part_height o u) (bundle_part n b) (levels_at bs n) in
    let f = sum_by-cons (λ (c : Bundle). part_height o u (bundle_part n c)) b bs in
    omega (arith, a, e, f)

module _ (bundles : List Bundle) (are : AreBundles bundles) (o u : ℕ) (t : ℚ) (at : IsAt o u t) where
  within : IsWithin (o * 10 ^ 12 / u) t
  within =
      let a : o * 10 ^ 12 / u * u ≤ o * 10 ^ 12 = div-mul-le_self (o * 10 ^ 12) u in
      let b : o * 10 ^ 12 < u * (o * 10 ^ 12 / u + 1) = lt-mul-div-succ (o * 10 ^ 12) at.some in
      record {
        from = at_le (o * 10 ^ 12 / u) (10 ^ 12) o u (micros (o * 10 ^ 12 / u)) t (at_picosecond (o * 10 ^ 12 / u)) at (omega (arith, a));
        before = at_lt o u (o * 10 ^ 12 / u + 1) (10 ^ 12) t (micros (o * 10 ^ 12 / u + 1)) at (at_picosecond (o * 10 ^ 12 / u + 1)) (omega (arith, b));
      }

  bundles_scaled : whole u *ℚ bundles_at bundles t ≡ bits (bundles_height bundles o u)
  bundles_scaled =
      ap (λ y. whole u *ℚ y) (bundles_are (o * 10 ^ 12 / u) bundles t within are.stairs) ∙ parts_scaled o u t at (levels_at bundles (o * 10 ^ 12 / u))
      ∙ ap bits (heights_are (o * 10 ^ 12 / u) o u bundles)

  above_line : (line : Line) → line_height line o u ≤ bundles_height bundles o u → line_value line t ≤ℚ bundles_at bundles t
  above_line line h =
      le_of_mul (whole u) (line_value line t) (bundles_at bundles t) (under_some o u t at)
      (rw (mul_comm (line_value line t) (whole u), mul_comm (bundles_at bundles t) (whole u), line_scaled o u t at line, bundles_scaled)
      (bits_le (line_height line o u) (bundles_height bundles o u) h))

  below_line : (line : Line) → bundles_height bundles o u ≤ line_height line o u → bundles_at bundles t ≤ℚ line_value line t
  below_line line h =
      le_of_mul (whole u) (bundles_at bundles t) (line_value line t) (under_some o u t at)
      (rw (mul_comm (line_value line t) (whole u), mul_comm (bundles_at bundles t) (whole u), line_scaled o u t at line, bundles_scaled)
      (bits_le (bundles_height bundles o u) (line_height line o u) h))

-- ---- on a line from one time to another
module _ (bundles : List Bundle) (are : AreBundles bundles) (rate end : ℕ) (line : Line) (begin to : Moment) (one : IsMoment begin) (other : IsMoment to) where
  first_at : IsAt begin.over begin.under (time_of begin.over begin.under)
  first_at = record { some = one.some; is = time_is begin.over begin.under one.some }

  last_at : IsAt to.over to.under (time_of to.over to.under)
  last_at = record { some = other.some; is = time_is to.over to.under other.some }

  -- by how much it is above the rate at the ends
  abbrev first : ℕ
  first = ahead_of rate (height_on line begin)

  abbrev last : ℕ
  last = ahead_of rate (height_on line to)

  between : (o u : ℕ) (t : ℚ) → IsAt o u t → begin.over * u ≤ o * begin.under → o * to.under ≤ to.over * u → bundles_height bundles o u ≤ line_height line o u
      → IsBelow (bundles_at bundles) rate (max first last) t
  between o u t at from until h =
      let begins = at_le begin.over begin.under o u (time_of begin.over begin.under) t first_at at from in
      let ends = at_le o u to.over to.under t (time_of to.over to.under) at last_at until in
      let a = below_more (line_value line) rate first (max first last) (time_of begin.over begin.under) (omega arith)
      (line_over begin.over begin.under (time_of begin.over begin.under) first_at line rate first refl) in
      let b = below_more (line_value line) rate last (max first last) (time_of to.over to.under) (omega arith)
      (line_over to.over to.under (time_of to.over to.under) last_at line rate last refl) in
      le_trans (below_line bundles are o u t at line h)
      (at_ends (bits line.burst) (speed line.rate) (bits (max first last)) (speed rate) (time_of begin.over begin.under) (time_of to.over to.under) t begins ends a b)

  on_time : (at : Moment) → IsMoment at → zero_q ≤ℚ time_of at.over at.under
  on_time at is = at_le 0 1 at.over at.under zero_q (time_of at.over at.under) at_zero record { some = is.some; is = time_is at.over at.under is.some } (omega arith)

  by_end : (at : Moment) → IsMoment at → at.over * 10 ^ 12 ≤ end * at.under → time_of at.over at.under ≤ℚ micros end
  by_end at is h = at_le at.over at.under end (10 ^ 12) (time_of at.over at.under) (micros end) record { some = is.some; is = time_is at.over at.under is.some } (at_picosecond end) h

  near_at : (at : Moment) → IsMoment at → at.over * 10 ^ 12 ≤ end * at.under → line_height line at.over at.under ≤ bundles_height bundles at.over at.under
      → 0 < ahead_of rate (height_on line at) → IsNear (bundles_at bundles) rate (ahead_of rate (height_on line at)) zero_q (micros end)
  near_at at is inside h some =
      let there : IsAt at.over at.under (time_of at.over at.under) = record { some = is.some; is = time_is at.over at.under is.some } in
      record {
        at = time_of at.over at.under;
        begins = on_time at is;
        ends = by_end at is inside;
        near = lt_le_trans (line_near at.over at.under (time_of at.over at.under) there line rate (ahead_of rate (height_on line at)) refl some)
            (add_le_add (above_line bundles are at.over at.under (time_of at.over at.under) there line h) (le_refl grain));
      }

-- what two heights more make of the greatest
both_more : (rate : ℕ) (line : Line) (begin to : Moment) (old new : List Height) → AddsEnds line begin to old new
    → most_ahead rate new ≡ max (max (most_ahead rate old) (ahead_of rate (height_on line begin))) (ahead_of rate (height_on line to))
both_more rate line begin to old new e =
    let a = most_more rate old (old ++ height_on line begin ∷ []) (Some (height_on line begin)) refl in
    let b = most_more rate (old ++ height_on line begin ∷ []) new (Some (height_on line to)) e in
    omega (arith, a, b)

pub both_moments : (line : Line) (begin to : Moment) (old new : List Height) → IsMoment begin → IsMoment to → AddsEnds line begin to old new → AreMoments old → AreMoments new
both_moments line begin to old new one other e all =
    moments_more (old ++ height_on line begin ∷ []) new (Some (height_on line to)) other e
    (moments_more old (old ++ height_on line begin ∷ []) (Some (height_on line begin)) one refl all)

-- ---- after k turns
pub record IsTaken (bundles : List Bundle) (turns : List Turn) (rate end k : ℕ) (begin : Moment) (most : ℕ) : Type 0 where
  pub moment : IsMoment begin
  pub inside : begin.over * 10 ^ 12 ≤ end * begin.under
  pub past : All (λ j. j.at.over * begin.under ≤ begin.over * j.at.under) (take k turns)
  pub coming : All (λ j. begin.over * j.at.under ≤ j.at.over * begin.under) (drop k turns)
  pub over : (o u : ℕ) (t : ℚ) → IsAt o u t → o * begin.under < begin.over * u → IsBelow (bundles_at bundles) rate most t
  pub near : 0 < most → IsNear (bundles_at bundles) rate most zero_q (micros end)

pub not_taken : (bundles : List Bundle) (turns : List Turn) (rate end : ℕ) → IsTaken bundles turns rate end 0 record { over = 0; under = 10 ^ 12 } 0
not_taken bundles turns rate end = record {
  moment = record { some = omega arith; over = omega arith; under = omega arith };
  inside = omega arith;
  past = All-nil (λ j. j.at.over * 10 ^ 12 ≤ 0 * j.at.under);
  coming = λ k d h. omega arith;
  over = λ o u t at h. absurd (omega (arith, h));
  near = λ some. absurd (omega (arith, some));
}

-- the program's totals
pub record AreTotals (turns : List Turn) (k : ℕ) (on off : Total) : Type 0 where
  pub on_burst : on.burst ≡ sum_by (λ (j : Turn). j.on.burst) (take k turns)
  pub on_rate : on.rate ≡ sum_by (λ (j : Turn). j.on.rate) (take k turns)
  pub off_burst : off.burst ≡ sum_by (λ (j : Turn). j.off.burst) (take k turns)
  pub off_rate : off.rate ≡ sum_by (λ (j : Turn). j.off.rate) (take k turns)

pub no_totals : (turns : List Turn) (on off : Total) → on.burst ≡ 0 → on.rate ≡ 0 → off ≡ on → AreTotals turns 0 on off
no_totals turns on off b r e = record {
  on_burst = omega (arith, b);
  on_rate = omega (arith, r);
  off_burst = let f = ap (λ (x : Total). x.burst) e in omega (arith, b, f);
  off_rate = let f = ap (λ (x : Total). x.rate) e in omega (arith, r, f);
}

abbrev pub no_turn : Turn
no_turn = record { at = record { over = 0; under = 0 }; off = record { burst = 0; rate = 0 }; on = record { burst = 0; rate = 0 } }

abbrev turn_at : List Turn → ℕ → Turn
turn_at turns k = get_or turns k no_turn

pub more_totals : (turns : List Turn) (k : ℕ) (on off on_next off_next : Total) → k < length turns → let j = get_or turns k no_turn in
    on_next.burst ≡ on.burst + j.on.burst → on_next.rate ≡ on.rate + j.on.rate → off_next.burst ≡ off.burst + j.off.burst → off_next.rate ≡ off.rate + j.off.rate
    → AreTotals turns k on off → AreTotals turns (k + 1) on_next off_next
more_totals turns k on off on_next off_next inside a b c d are = record {
  on_burst = let e = are.on_burst in let f = sum_by_more (λ (j : Turn). j.on.burst) turns k no_turn inside in omega (arith, a, e, f);
  on_rate = let e = are.on_rate in let f = sum_by_more (λ (j : Turn). j.on.rate) turns k no_turn inside in omega (arith, b, e, f);
  off_burst = let e = are.off_burst in let f = sum_by_more (λ (j : Turn). j.off.burst) turns k no_turn inside in omega (arith, c, e, f);
  off_rate = let e = are.off_rate in let f = sum_by_more (λ (j : Turn). j.off.rate) turns k no_turn inside in omega (arith, d, e, f);
}

-- ---- up to the next turn, or to the end
module _ (bundles : List Bundle) (are : AreBundles bundles) (turns : List Turn) (rate end k : ℕ) (begin to : Moment) (most : ℕ) (line : Line)
    (all : AreTurnsOf bundles end turns) (other : IsMoment to) (until : to.over * 10 ^ 12 ≤ end * to.under) (next : All (λ j. to.over * j.at.under ≤ j.at.over * to.under) (drop k turns))
    (on : IsOnAfter (take k turns) line) (so_far : IsTaken bundles turns rate end k begin most) where
  some_begin : 0 < begin.under
  some_begin = so_far.moment.some

  by_then : (o u : ℕ) → begin.over * u ≤ o * begin.under → All (λ j. is_by o u j ≡ true) (take k turns)
  by_then o u h = λ i d l.
      let j = get_or (take k turns) i d in
      comes_by o u j (chain j.at.over j.at.under begin.over begin.under o u some_begin (so_far.past i d l) h)

  -- of two lines after the same turns each comes to the same
  alike : (l m : Line) (o u : ℕ) → IsOnAfter (take k turns) l → IsOnAfter (take k turns) m → line_height l o u ≡ line_height m o u
  alike l m o u x y =
      let a = x.burst in
      let b = y.burst in
      let c = x.rate in
      let d = y.rate in
      let e : l.burst ≡ m.burst = omega (arith, a, b) in
      let f : l.rate ≡ m.rate = omega (arith, c, d) in
      let g = ap (λ n. n * u) e in
      let h = ap (λ n. n * o) f in
      omega (arith, g, h)

  -- where none of the others has come
  on_it : (o u : ℕ) → 0 < u → o * 10 ^ 12 ≤ end * u → begin.over * u ≤ o * begin.under → All (λ j. is_by o u j ≡ false) (drop k turns)
      → bundles_height bundles o u ≡ line_height line o u
  on_it o u some h from later =
      let x = all.at o u some h in
      let e = alike x.line line o u (on_by_first (is_by o u) turns k x.line (by_then o u from) later x.on) on in
      x.is ∙ e

  -- before the next one
  not_yet : (o u : ℕ) → 0 < u → o * to.under < to.over * u → All (λ j. is_by o u j ≡ false) (drop k turns)
  not_yet o u some h = λ i d l.
      let j = get_or (drop k turns) i d in
      comes_later o u j (chain_before o u to.over to.under j.at.over j.at.under (turn_some i d l) h (next i d l))
    where
      turn_some : (i : ℕ) (d : Turn) → i < length (drop k turns) → 0 < (get_or (drop k turns) i d).at.under
      turn_some i d l =
          let e = get_or-drop k turns i d in
          let m = length-drop k turns in
          let f = ap (λ (j : Turn). j.at.under) e in
          let s = (all.each (k + i) d (omega (arith, l, m))).moment.some in
          omega (arith, f, s)

  before_end : (o u : ℕ) → 0 < u → o * to.under ≤ to.over * u → o * 10 ^ 12 ≤ end * u
  before_end o u some h = chain o u to.over to.under end (10 ^ 12) other.some h until

  -- not above them at the next one
  below_next : begin.over * to.under < to.over * begin.under → line_height line to.over to.under ≤ bundles_height bundles to.over to.under
  below_next h =
      let x = all.before to.over to.under other.some until in
      let past : All (λ j. is_before to.over to.under j ≡ true) (take k turns) = λ i d l.
      let j = get_or (take k turns) i d in
      comes_before to.over to.under j (chain_behind j.at.over j.at.under begin.over begin.under to.over to.under (past_some i d l) (so_far.past i d l) h) in
      let later : All (λ j. is_before to.over to.under j ≡ false) (drop k turns) = λ i d l. comes_not_before to.over to.under (get_or (drop k turns) i d) (next i d l) in
      let e = alike x.line line to.over to.under (on_by_first (is_before to.over to.under) turns k x.line past later x.on) on in
      let b = x.below in
      omega (arith, e, b)
    where
      past_some : (i : ℕ) (d : Turn) → i < length (take k turns) → 0 < (get_or (take k turns) i d).at.under
      past_some i d l = (All-take (IsTurn end) k turns all.each i d l).moment.some

  -- so these are as far ahead as the bundles are
  ahead_before : (x : ℕ) → ((o u : ℕ) (t : ℚ) → IsAt o u t → begin.over * u ≤ o * begin.under → o * to.under < to.over * u → IsBelow (bundles_at bundles) rate x t)
      → (o u : ℕ) (t : ℚ) → IsAt o u t → o * to.under < to.over * u → IsBelow (bundles_at bundles) rate (max most x) t
  ahead_before x over o u t at h = elim (cases_lt (o * begin.under) (begin.over * u)) [
    | inl early ↦ below_more (bundles_at bundles) rate most (max most x) t (omega arith) (so_far.over o u t at early)
    | inr late ↦ below_more (bundles_at bundles) rate x (max most x) t (omega arith) (over o u t at late h)
  ]

  -- with what the line is above the rate at both ends
  both_ahead : (o u : ℕ) (t : ℚ) → begin.over * to.under < to.over * begin.under → IsAt o u t → o * to.under < to.over * u
      → IsBelow (bundles_at bundles) rate (max (max most (ahead_of rate (height_on line begin))) (ahead_of rate (height_on line to))) t
  both_ahead o u t come at h =
      let first = ahead_of rate (height_on line begin) in
      let last = ahead_of rate (height_on line to) in
      below_more (bundles_at bundles) rate (max most (max first last)) (max (max most first) last) t (omega arith)
      (ahead_before (max first last)
      (λ p q s there from before.
      let e = on_it p q there.some (before_end p q there.some (omega (arith, before))) from (not_yet p q there.some before) in
      between bundles are rate end line begin to so_far.moment other p q s there from (omega (arith, before)) (omega (arith, e))) o u t at h)

  both_near : begin.over * to.under < to.over * begin.under → 0 < max (max most (ahead_of rate (height_on line begin))) (ahead_of rate (height_on line to))
      → IsNear (bundles_at bundles) rate (max (max most (ahead_of rate (height_on line begin))) (ahead_of rate (height_on line to))) zero_q (micros end)
  both_near come =
      let first = ahead_of rate (height_on line begin) in
      let last = ahead_of rate (height_on line to) in
      let e = on_it begin.over begin.under some_begin so_far.inside (omega arith) (not_yet begin.over begin.under some_begin come) in
      nearer (bundles_at bundles) rate (max most first) last zero_q (micros end)
      (nearer (bundles_at bundles) rate most first zero_q (micros end) so_far.near
      (near_at bundles are rate end line begin to so_far.moment other begin so_far.moment so_far.inside (omega (arith, e))))
      (near_at bundles are rate end line begin to so_far.moment other to other until (below_next come))

  -- at the end
  pub all_taken : length turns ≤ k → to ≡ record { over = end; under = 10 ^ 12 }
      → IsAheadUpTo bundles rate end (max (max most (ahead_of rate (height_on line begin))) (ahead_of rate (height_on line to)))
  all_taken done last_is = record {
    over = λ t on h.
        let first = ahead_of rate (height_on line begin) in
        let last = ahead_of rate (height_on line to) in
        let now = instant_of t on in
        let l : now.over * 10 ^ 12 ≤ end * now.under = at_le_out now.over now.under end (10 ^ 12) t (micros end) now.at (at_picosecond end) h in
        elim (cases_lt (now.over * begin.under) (begin.over * now.under)) [
          | inl early ↦
              below_more (bundles_at bundles) rate most (max (max most first) last) t (omega arith) (so_far.over now.over now.under t now.at early)
          | inr late ↦
              let e = here now.over now.under now.at.some l late in
              below_more (bundles_at bundles) rate (max first last) (max (max most first) last) t (omega arith)
              (between bundles are rate end line begin to so_far.moment other now.over now.under t now.at late (by_last now.over now.under l) (omega (arith, e)))
        ];
    near =
        let first = ahead_of rate (height_on line begin) in
        let last = ahead_of rate (height_on line to) in
        let e = here begin.over begin.under some_begin so_far.inside (omega arith) in
        let g = here to.over to.under other.some until begin_by_last in
        nearer (bundles_at bundles) rate (max most first) last zero_q (micros end)
        (nearer (bundles_at bundles) rate most first zero_q (micros end) so_far.near
        (near_at bundles are rate end line begin to so_far.moment other begin so_far.moment so_far.inside (omega (arith, e))))
        (near_at bundles are rate end line begin to so_far.moment other to other until (omega (arith, g)));
  }
    where
      none_later : (o u : ℕ) → All (λ j. is_by o u j ≡ false) (drop k turns)
      none_later o u = subst (λ (js : List Turn). All (λ j. is_by o u j ≡ false) js) (sym (drop_of_length-le turns done)) (All-nil (λ j. is_by o u j ≡ false))

      here : (o u : ℕ) → 0 < u → o * 10 ^ 12 ≤ end * u → begin.over * u ≤ o * begin.under → bundles_height bundles o u ≡ line_height line o u
      here o u some h from = on_it o u some h from (none_later o u)

      by_last : (o u : ℕ) → o * 10 ^ 12 ≤ end * u → o * to.under ≤ to.over * u
      by_last o u h = subst (λ (m : Moment). o * m.under ≤ m.over * u) (sym last_is) h

      begin_by_last : begin.over * to.under ≤ to.over * begin.under
      begin_by_last = subst (λ (m : Moment). begin.over * m.under ≤ m.over * begin.under) (sym last_is) so_far.inside

-- ---- a turn more
module _ (bundles : List Bundle) (are : AreBundles bundles) (turns : List Turn) (rate end k : ℕ) (begin : Moment) (most : ℕ)
    (all : AreTurnsOf bundles end turns) (order : AreInTurn turns) (inside : k < length turns) (so_far : IsTaken bundles turns rate end k begin most) where
  this_turn : IsTurn end (turn_at turns k)
  this_turn = all.each k no_turn inside

  turns_next : All (λ j. (turn_at turns k).at.over * j.at.under ≤ j.at.over * (turn_at turns k).at.under) (drop k turns)
  turns_next i d l =
      let m = length-drop k turns in
      let e = get_or-drop k turns i d in
      let a = order.come k (k + i) d (omega arith) (omega (arith, l, m)) in
      at_default (get_or turns k d) (turn_at turns k) (get_or turns (k + i) d) (get_or (drop k turns) i d) (get_or_default turns k d no_turn inside) (sym e) a
    where
      at_default : (x y v w : Turn) → x ≡ y → v ≡ w → x.at.over * v.at.under ≤ v.at.over * x.at.under → y.at.over * w.at.under ≤ w.at.over * y.at.under
      at_default x y v w e f h = subst (λ (z : Turn). z.at.over * w.at.under ≤ w.at.over * z.at.under) e (subst (λ (z : Turn). x.at.over * z.at.under ≤ z.at.over * x.at.under) f h)

  next_order : begin.over * (turn_at turns k).at.under ≤ (turn_at turns k).at.over * begin.under
  next_order =
      let m = length-drop k turns in
      let a = so_far.coming 0 no_turn (omega (arith, m, inside)) in
      let e = get_or-drop k turns 0 no_turn in
      let n : k + 0 ≡ k = omega arith in
      let f = ap (λ (i : ℕ). get_or turns i no_turn) n in
      subst (λ (j : Turn). begin.over * j.at.under ≤ j.at.over * begin.under) (e ∙ f) a

  next_taken : (next : ℕ)
      → ((o u : ℕ) (t : ℚ) → IsAt o u t → o * (turn_at turns k).at.under < (turn_at turns k).at.over * u → IsBelow (bundles_at bundles) rate next t)
      → (0 < next → IsNear (bundles_at bundles) rate next zero_q (micros end)) → IsTaken bundles turns rate end (k + 1) (turn_at turns k).at next
  next_taken next over near = record {
    moment = this_turn.moment;
    inside = this_turn.time;
    past = All-more (λ (j : Turn). j.at.over * (turn_at turns k).at.under ≤ (turn_at turns k).at.over * j.at.under) turns k no_turn inside
        (λ i d l.
        let j = get_or (take k turns) i d in
        chain j.at.over j.at.under begin.over begin.under (turn_at turns k).at.over (turn_at turns k).at.under so_far.moment.some (so_far.past i d l) next_order)
        (omega arith);
    coming = λ i d l.
        let m = length-drop (k + 1) turns in
        let e = get_or-drop (k + 1) turns i d in
        let a = order.come k (k + 1 + i) d (omega arith) (omega (arith, l, m)) in
        at_default (get_or turns k d) (turn_at turns k) (get_or turns (k + 1 + i) d) (get_or (drop (k + 1) turns) i d) (get_or_default turns k d no_turn inside) (sym e) a;
    over = over;
    near = near;
  }
    where
      at_default : (x y v w : Turn) → x ≡ y → v ≡ w → x.at.over * v.at.under ≤ v.at.over * x.at.under → y.at.over * w.at.under ≤ w.at.over * y.at.under
      at_default x y v w e f h = subst (λ (z : Turn). z.at.over * w.at.under ≤ w.at.over * z.at.under) e (subst (λ (z : Turn). x.at.over * z.at.under ≤ z.at.over * x.at.under) f h)

  pub later_turn : (line : Line) → begin.over * (turn_at turns k).at.under < (turn_at turns k).at.over * begin.under → IsOnAfter (take k turns) line
      → IsTaken bundles turns rate end (k + 1) (turn_at turns k).at
      (max (max most (ahead_of rate (height_on line begin))) (ahead_of rate (height_on line (turn_at turns k).at)))
  later_turn line come on =
      let to = (turn_at turns k).at in
      next_taken (max (max most (ahead_of rate (height_on line begin))) (ahead_of rate (height_on line to)))
      (λ o u t at h. both_ahead bundles are turns rate end k begin to most line all this_turn.moment this_turn.time turns_next on so_far o u t come at h)
      (both_near bundles are turns rate end k begin to most line all this_turn.moment this_turn.time turns_next on so_far come)

  -- at the same time
  pub same_turn : (begin.over * (turn_at turns k).at.under < (turn_at turns k).at.over * begin.under → ⊥) → IsTaken bundles turns rate end (k + 1) (turn_at turns k).at most
  same_turn not_later =
      let to = (turn_at turns k).at in
      let late : to.over * begin.under ≤ begin.over * to.under = elim (cases_lt (begin.over * to.under) (to.over * begin.under)) [ inl l ↦ absurd (not_later l) | inr l ↦ l ] in
      next_taken most (λ o u t at h. so_far.over o u t at (chain_before o u to.over to.under begin.over begin.under so_far.moment.some h late)) so_far.near

-- ---- what is left of the totals
-- the line that is left is the one after the turns
pub left_is : (turns : List Turn) (k : ℕ) (on off : Total) (line : Line) → line.burst + off.burst ≡ on.burst → line.rate + off.rate ≡ on.rate → AreTotals turns k on off
    → IsOnAfter (take k turns) line
left_is turns k on off line b r are = record {
  burst = let e = are.on_burst in let f = are.off_burst in omega (arith, b, e, f);
  rate = let e = are.on_rate in let f = are.off_rate in omega (arith, r, e, f);
}

-- the bundles' line is small
left_of : (turns : List Turn) (k burst rate : ℕ) (on off : Total) (line : Line) → line.burst ≤ burst → line.rate ≤ rate → burst < 2 ^ 62 → rate < 2 ^ 62
    → IsOnAfter (take k turns) line → AreTotals turns k on off → IsLeft on off
left_of turns k burst rate on off line b r small slow after are =
    let e = are.on_burst in
    let f = are.off_burst in
    let g = are.on_rate in
    let h = are.off_rate in
    let x = after.burst in
    let y = after.rate in
    record {
      burst = omega (arith, e, f, x);
      rate = omega (arith, g, h, y);
      small_burst = omega (arith, e, f, x, b, small);
      small_rate = omega (arith, g, h, y, r, slow);
    }

module _ (bundles : List Bundle) (turns : List Turn) (rate end k : ℕ) (begin : Moment) (most : ℕ) (on off : Total)
    (all : AreTurnsOf bundles end turns) (small : sum_by (burst_until end) bundles < 2 ^ 62) (slow : sum_by (rate_until end) bundles < 2 ^ 62)
    (so_far : IsTaken bundles turns rate end k begin most) (totals : AreTotals turns k on off) where
  left_where : All (λ j. is_by begin.over begin.under j ≡ false) (drop k turns) → IsLeft on off
  left_where later =
      let x = all.at begin.over begin.under so_far.moment.some so_far.inside in
      let past : All (λ j. is_by begin.over begin.under j ≡ true) (take k turns) = λ i d l. comes_by begin.over begin.under (get_or (take k turns) i d) (so_far.past i d l) in
      left_of turns k (sum_by (burst_until end) bundles) (sum_by (rate_until end) bundles) on off x.line x.burst_most x.rate_most small slow
      (on_by_first (is_by begin.over begin.under) turns k x.line past later x.on) totals

  pub left_before : AreInTurn turns → k < length turns → begin.over * (turn_at turns k).at.under < (turn_at turns k).at.over * begin.under → IsLeft on off
  left_before order inside come =
      left_where (λ i d l.
      let j = get_or (drop k turns) i d in
      comes_later begin.over begin.under j
      (chain_before begin.over begin.under (turn_at turns k).at.over (turn_at turns k).at.under j.at.over j.at.under (later_some i d l) come (later_by i d l)))
    where
      later_some : (i : ℕ) (d : Turn) → i < length (drop k turns) → 0 < (get_or (drop k turns) i d).at.under
      later_some i d l =
          let e = get_or-drop k turns i d in
          let m = length-drop k turns in
          let f = ap (λ (j : Turn). j.at.under) e in
          let s = (all.each (k + i) d (omega (arith, l, m))).moment.some in
          omega (arith, f, s)

      later_by : All (λ j. (turn_at turns k).at.over * j.at.under ≤ j.at.over * (turn_at turns k).at.under) (drop k turns)
      later_by i d l =
          let m = length-drop k turns in
          let e = get_or-drop k turns i d in
          let a = order.come k (k + i) d (omega arith) (omega (arith, l, m)) in
          subst (λ (j : Turn). (turn_at turns k).at.over * j.at.under ≤ j.at.over * (turn_at turns k).at.under) (sym e)
          (subst (λ (j : Turn). j.at.over * (get_or turns (k + i) d).at.under ≤ (get_or turns (k + i) d).at.over * j.at.under) (get_or_default turns k d no_turn inside) a)

  pub left_last : length turns ≤ k → IsLeft on off
  left_last done =
      left_where (subst (λ (js : List Turn). All (λ j. is_by begin.over begin.under j ≡ false) js) (sym (drop_of_length-le turns done))
      (All-nil (λ j. is_by begin.over begin.under j ≡ false)))

-- the line that is left is small
pub small_left : (on off : Total) (line : Line) → IsLeft on off → line.burst + off.burst ≡ on.burst → line.rate + off.rate ≡ on.rate → IsSmallLine line
small_left on off line left b r = record {
  burst = let h = left.small_burst in omega (arith, b, h);
  rate = let h = left.small_rate in omega (arith, r, h);
}

-- the totals are at most 2 ^ 62 a turn
sum_most : (f : Turn → ℕ) (turns : List Turn) (k most : ℕ) → length turns ≤ most → All (λ j. f j ≤ 2 ^ 62) turns → sum_by f (take k turns) ≤ most * 2 ^ 62
sum_most f turns k most few small =
    let a = sum_by-le f (2 ^ 62) turns small in
    let b = sum_by-take-drop f turns k in
    omega (arith, a, b, few)

pub record AreAtMost (most : ℕ) (on off : Total) : Type 0 where
  pub on_burst : on.burst ≤ most * 2 ^ 62
  pub on_rate : on.rate ≤ most * 2 ^ 62
  pub off_burst : off.burst ≤ most * 2 ^ 62
  pub off_rate : off.rate ≤ most * 2 ^ 62

pub totals_most : (turns : List Turn) (k end most : ℕ) (on off : Total) → length turns ≤ most → All (IsTurn end) turns → AreTotals turns k on off → AreAtMost most on off
totals_most turns k end most on off few each are = record {
  on_burst =
      let e = are.on_burst in
      let h = sum_most (λ (j : Turn). j.on.burst) turns k most few (λ i d l. let s = (each i d l).on.burst in omega (arith, s)) in
      omega (arith, e, h);
  on_rate =
      let e = are.on_rate in
      let h = sum_most (λ (j : Turn). j.on.rate) turns k most few (λ i d l. let s = (each i d l).on.rate in omega (arith, s)) in
      omega (arith, e, h);
  off_burst =
      let e = are.off_burst in
      let h = sum_most (λ (j : Turn). j.off.burst) turns k most few (λ i d l. let s = (each i d l).off.burst in omega (arith, s)) in
      omega (arith, e, h);
  off_rate =
      let e = are.off_rate in
      let h = sum_most (λ (j : Turn). j.off.rate) turns k most few (λ i d l. let s = (each i d l).off.rate in omega (arith, s)) in
      omega (arith, e, h);
}

-- ---- what is known of the turns
pub record AreKnown (bundles : List Bundle) (turns : List Turn) (end : ℕ) : Type 0 where
  pub are : AreBundles bundles
  pub all : AreTurnsOf bundles end turns
  pub order : AreInTurn turns
  pub small : sum_by (burst_until end) bundles < 2 ^ 62
  pub slow : sum_by (rate_until end) bundles < 2 ^ 62

pub known : (bundles : List Bundle) (turns items : List Turn) (end : ℕ) → AreBundles bundles → jump_count end bundles ≤ 2 ^ 20 → items ≡ turns → AreTurnsOf bundles end turns
    → AreInTurn turns → AreKnown bundles items end
known bundles turns items end are few same all order = record {
  are = are;
  all = subst (λ (ts : List Turn). AreTurnsOf bundles end ts) (sym same) all;
  order = subst (λ (ts : List Turn). AreInTurn ts) (sym same) order;
  small = bursts_small end bundles are few;
  slow = rates_small end bundles are;
}

-- ---- the heights so far
pub record IsSwept (bundles : List Bundle) (turns : List Turn) (end k : ℕ) (begin : Moment) (on off : Total) (hs : List Height) : Type 0 where
  pub moments : AreMoments hs
  pub totals : AreTotals turns k on off
  pub each : (rate : ℕ) → IsTaken bundles turns rate end k begin (most_ahead rate hs)

pub none_swept : (bundles : List Bundle) (turns : List Turn) (end : ℕ) (begin : Moment) (on off : Total) (hs : List Height)
    → begin ≡ record { over = 0; under = 10 ^ 12 } → on.burst ≡ 0 → on.rate ≡ 0 → off ≡ on → hs ≡ [] → IsSwept bundles turns end 0 begin on off hs
none_swept bundles turns end begin on off hs at b r same none = record {
  moments = subst AreMoments (sym none) no_moments;
  totals = no_totals turns on off b r same;
  each = λ rate.
      subst (λ (m : Moment). IsTaken bundles turns rate end 0 m (most_ahead rate hs)) (sym at)
      (subst (λ (n : ℕ). IsTaken bundles turns rate end 0 record { over = 0; under = 10 ^ 12 } n) (sym (ap (most_ahead rate) none ∙ most_none rate)) (not_taken bundles turns rate end));
}

pub record AreGreatest (bundles : List Bundle) (end : ℕ) (hs : List Height) : Type 0 where
  pub moments : AreMoments hs
  pub greatest : (rate : ℕ) → IsAheadUpTo bundles rate end (most_ahead rate hs)

module _ (bundles : List Bundle) (are : AreBundles bundles) (turns : List Turn) (end k : ℕ) (begin : Moment) (on off : Total) (old new : List Height)
    (all : AreTurnsOf bundles end turns) (order : AreInTurn turns) (swept : IsSwept bundles turns end k begin on off old) where
  -- a turn more
  pub one_more_swept : (on_next off_next : Total) → k < length turns
      → ((line : Line) → Come begin (turn_at turns k).at → line.burst + off.burst ≡ on.burst → line.rate + off.rate ≡ on.rate → AddsEnds line begin (turn_at turns k).at old new)
      → ((Come begin (turn_at turns k).at → ⊥) → new ≡ old) → (Come begin (turn_at turns k).at → IsLeft on off)
      → AreTotals turns (k + 1) on_next off_next → IsSwept bundles turns end (k + 1) (turn_at turns k).at on_next off_next new
  one_more_swept on_next off_next inside some none left totals = elim (cases_lt (begin.over * (turn_at turns k).at.under) ((turn_at turns k).at.over * begin.under)) [
    | inl come ↦
        let l = left come in
        let line : Line = record { burst = on.burst - off.burst; rate = on.rate - off.rate } in
        let lb = l.burst in
        let lr = l.rate in
        let b : line.burst + off.burst ≡ on.burst = omega (arith, lb) in
        let r : line.rate + off.rate ≡ on.rate = omega (arith, lr) in
        let adds = some line come b r in
        record {
          moments = both_moments line begin (turn_at turns k).at old new (swept.each 0).moment (all.each k no_turn inside).moment adds swept.moments;
          totals = totals;
          each = λ rate.
              subst (λ (n : ℕ). IsTaken bundles turns rate end (k + 1) (turn_at turns k).at n) (sym (both_more rate line begin (turn_at turns k).at old new adds))
              (later_turn bundles are turns rate end k begin (most_ahead rate old) all order inside (swept.each rate) line come (left_is turns k on off line b r swept.totals));
        }
    | inr late ↦
        let apart : Come begin (turn_at turns k).at → ⊥ = λ come. omega (arith, come, late) in
        let same = none apart in
        record {
          moments = subst AreMoments (sym same) swept.moments;
          totals = totals;
          each = λ rate.
              subst (λ (hs : List Height). IsTaken bundles turns rate end (k + 1) (turn_at turns k).at (most_ahead rate hs)) (sym same)
              (same_turn bundles are turns rate end k begin (most_ahead rate old) all order inside (swept.each rate) apart);
        }
  ]

  -- to the end
  pub all_swept : (line : Line) (to : Moment) → length turns ≤ k → end < 2 ^ 62 → to ≡ record { over = end; under = 10 ^ 12 }
      → line.burst + off.burst ≡ on.burst → line.rate + off.rate ≡ on.rate → AddsEnds line begin to old new
      → AreGreatest bundles end new
  all_swept line to done short last b r adds = record {
    moments = both_moments line begin to old new (swept.each 0).moment to_moment adds swept.moments;
    greatest = λ rate.
        subst (λ (n : ℕ). IsAheadUpTo bundles rate end n) (sym (both_more rate line begin to old new adds))
        (all_taken bundles are turns rate end k begin to (most_ahead rate old) line all to_moment to_inside none_next (left_is turns k on off line b r swept.totals) (swept.each rate) done last);
  }
    where
      to_moment : IsMoment to
      to_moment = subst IsMoment (sym last) record { some = omega arith; over = short; under = omega arith }

      to_inside : to.over * 10 ^ 12 ≤ end * to.under
      to_inside = subst (λ (m : Moment). m.over * 10 ^ 12 ≤ end * m.under) (sym last) (omega arith)

      none_next : All (λ j. to.over * j.at.under ≤ j.at.over * to.under) (drop k turns)
      none_next =
          subst (λ (js : List Turn). All (λ j. to.over * j.at.under ≤ j.at.over * to.under) js) (sym (drop_of_length-le turns done))
          (All-nil (λ j. to.over * j.at.under ≤ j.at.over * to.under))
