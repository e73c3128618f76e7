-- One bundle: between two of its jumps it is on its pace until this reaches its level, and on the level from there on.
use Rattle.std.specs.Prelude.{◌≡◌, ◌⊎◌, ℕ, zero, suc, true, false, ◌+◌, ◌-◌, ◌*◌, ◌/◌, ◌^◌, ◌<◌, ◌≤◌, nat_lt, List, [], ◌∷◌, ◌++◌, All, length, get_or, take, drop, Option, Some, None, IfSome}
use Rattle.std.proofs.Common.{arith, sym, ap, ◌∙◌, refl, subst, inl, inr, append_assoc}
use Rattle.std.specs.List.{sum_by}
use Rattle.std.proofs.Math.ListN.{drop_of_length-le}
use Rattle.std.proofs.lemmas.Bool.{cases_lt}
use Rattle.std.proofs.lemmas.Bool.Decides.{nat_tests}
use Rattle.std.proofs.lemmas.List.{get_or_default, get_or-drop, length-drop}
use Rattle.std.proofs.lemmas.List.Elements.{All-cons, All-head, All-tail, All-nil, All-more, All-weaker}
use Rattle.std.proofs.lemmas.List.Sums.{sum_by-cons, sum_by_more, sum_by-take-drop}
use Rattle.std.proofs.Math.Nat.{le-div_iff_mul-le, div-mul-le_self, mul-le-mul_left, mul-le-mul_right, le_of_mul-le-mul_right}
use Rattle.arrival_lines.specs.Steps.{burst_with, rate_with}
use Rattle.arrival_lines.specs.declared.grid.Line.{Line}
use Rattle.arrival_heights.specs.Heights.{line_height, lesser_height}
use Rattle.arrival_stairs.specs.Jumps.{rise_of, AreJumps, AreInTime}
use Rattle.arrival_stairs.specs.Stairs.{bundle_level}
use Rattle.arrival_stairs.specs.Turns.{IsSmallLine, IsTurn, AddsBundle, bundle_height, burst_until, rate_until, flat_line, line_of, IsBelowUntil, Reaches, IsSettled, is_before}
use Rattle.arrival_heights.specs.declared.heights.Moment.{Moment}
use Rattle.arrival_stairs.specs.declared.jumps.Jump.{Jump}
use Rattle.arrival_stairs.specs.declared.stairs.Bundle.{Bundle}
use Rattle.arrival_stairs.specs.declared.turns.Turn.{Turn}
use Rattle.arrival_stairs.proofs.Risen.{rise_past, rise_later}
use Rattle.arrival_stairs.proofs.Turned.{IsTurning, KeepsTo, IsWithinMost, on_none, on_next, on_still, on_by_all, comes_not_before, turn_more, turned}
use Rattle.arrival_heights.proofs.Orders.{chain, chain_behind}

-- ---- at a level, from a time of o over u seconds on
-- on the level, which is no longer above the pace
pub record IsFlat (level : ℕ) (pace : Option Line) (line : Line) (o u : ℕ) : Type 0 where
  pub is : line ≡ flat_line level
  pub lower : (p q : ℕ) → 0 < q → o * q ≤ p * u → lesser_height p q (flat_line level) pace ≡ level * q

-- on the pace, which is still below the level
pub record IsPaced (level : ℕ) (pace : Option Line) (line : Line) (o u : ℕ) : Type 0 where
  pub is : pace ≡ Some line
  pub below : line_height line o u ≤ level * u

abbrev pub Stands : ℕ → Option Line → Line → (o u : ℕ) → Type 0
Stands level pace line o u = IsFlat level pace line o u ⊎ IsPaced level pace line o u

-- the level is below the pace at a time in picoseconds, and so from there on
pace_above : (level b r time p q : ℕ) → level * 10 ^ 12 ≤ b * 10 ^ 12 + r * time → time * q ≤ p * 10 ^ 12 → level * q ≤ b * q + r * p
pace_above level b r time p q h l =
    let m : (level * 10 ^ 12) * q ≤ (b * 10 ^ 12 + r * time) * q = mul-le-mul_right q h in
    let n : r * (time * q) ≤ r * (p * 10 ^ 12) = mul-le-mul_left r l in
    omega (arith, m, n)

pub stands_at : (level time : ℕ) (pace : Option Line) (line : Line) → line ≡ line_of level pace time → Stands level pace line time (10 ^ 12)
stands_at level time None line e = inl record { is = e; lower = λ p q some h. omega arith }
stands_at level time (Some pace) line e = elim (cases_lt (line_height pace time (10 ^ 12)) (level * 10 ^ 12)) [
  | inl less ↦
      let f : nat_lt (line_height pace time (10 ^ 12)) (level * 10 ^ 12) ≡ true = grind (arith, nat_tests) in
      let is : line ≡ pace = e ∙ rw f refl in
      inr record { is = ap Some (sym is); below = subst (λ (l : Line). line_height l time (10 ^ 12) ≤ level * 10 ^ 12) (sym is) (omega (arith, less)) }
  | inr more ↦
      let f : nat_lt (line_height pace time (10 ^ 12)) (level * 10 ^ 12) ≡ false = grind (arith, nat_tests) in
      let is : line ≡ flat_line level = e ∙ rw f refl in
      inl record { is = is; lower = λ p q some h. let l = pace_above level pace.burst pace.rate time p q more h in omega (arith, l) }
]

-- it begins no higher than the level
pub begins_below : (level o u : ℕ) (pace : Option Line) (line : Line) → 0 < u → Stands level pace line o u → line.burst ≤ level
begins_below level o u pace line some stands = elim stands [
  | inl flat ↦ let e = ap (λ (l : Line). l.burst) flat.is in omega (arith, e)
  | inr paced ↦ let h = paced.below in let k : line.burst * u ≤ level * u = omega (arith, h) in le_of_mul-le-mul_right k some
]

-- no higher with a lower level
lesser_mono : (a b p q : ℕ) (pace : Option Line) → a ≤ b → lesser_height p q (flat_line a) pace ≤ lesser_height p q (flat_line b) pace
lesser_mono a b p q None h = let m : a * q ≤ b * q = mul-le-mul_right q h in omega (arith, m)
lesser_mono a b p q (Some pace) h = let m : a * q ≤ b * q = mul-le-mul_right q h in omega (arith, m)

-- ---- its line before and after it reaches the level
before_it : (level b r over p q : ℕ) → level ≡ b + over → p * r ≤ over * q → b * q + r * p ≤ level * q
before_it level b r over p q e h = let f = ap (λ n. n * q) e in omega (arith, f, h)

after_it : (level b r over p q : ℕ) → level ≡ b + over → over * q ≤ p * r → level * q ≤ b * q + r * p
after_it level b r over p q e h = let f = ap (λ n. n * q) e in omega (arith, f, h)

late_before : (r over to p q : ℕ) → to * r ≤ over * 10 ^ 12 → p * 10 ^ 12 ≤ to * q → p * r ≤ over * q
late_before r over to p q h l =
    let m : (to * r) * q ≤ (over * 10 ^ 12) * q = mul-le-mul_right q h in
    let n : (p * 10 ^ 12) * r ≤ (to * q) * r = mul-le-mul_right r l in
    omega (arith, m, n)

lesser_pace : (level p q : ℕ) (pace : Option Line) (line : Line) → pace ≡ Some line → line_height line p q ≤ level * q → lesser_height p q (flat_line level) pace ≡ line_height line p q
lesser_pace level p q None line e h = absurd (cc)
lesser_pace level p q (Some pace) line e h =
    let f : pace ≡ line = cc in
    let g : line_height pace p q ≡ line_height line p q = ap (λ (l : Line). line_height l p q) f in
    omega (arith, g, h)

lesser_level : (level p q : ℕ) (pace : Option Line) (line : Line) → pace ≡ Some line → level * q ≤ line_height line p q → lesser_height p q (flat_line level) pace ≡ level * q
lesser_level level p q None line e h = absurd (cc)
lesser_level level p q (Some pace) line e h =
    let f : pace ≡ line = cc in
    let g : line_height pace p q ≡ line_height line p q = ap (λ (l : Line). line_height l p q) f in
    omega (arith, g, h)

-- ---- of small lines
level_within : (b : Bundle) (level end : ℕ) → level ≤ bundle_level end b → IsWithinMost (burst_until end b) (rate_until end b) (flat_line level)
level_within b level end h = of_pace (bundle_level end b) b.pace h
  where
    of_pace : (most : ℕ) (pace : Option Line) → level ≤ most → IsWithinMost (burst_with (flat_line most) pace) (rate_with (flat_line most) pace) (flat_line level)
    of_pace most None h = record { burst_most = omega (arith, h); rate_most = omega arith }
    of_pace most (Some pace) h = record { burst_most = omega (arith, h); rate_most = omega arith }

pace_within : (b : Bundle) (end : ℕ) (line : Line) → b.pace ≡ Some line → IsWithinMost (burst_until end b) (rate_until end b) line
pace_within b end line e = of_pace (bundle_level end b) b.pace e
  where
    of_pace : (most : ℕ) (pace : Option Line) → pace ≡ Some line → IsWithinMost (burst_with (flat_line most) pace) (rate_with (flat_line most) pace) line
    of_pace most None e = absurd (cc)
    of_pace most (Some pace) e =
        let f : pace ≡ line = cc in
        let g = ap (λ (l : Line). l.burst) f in
        let h = ap (λ (l : Line). l.rate) f in
        record { burst_most = omega (arith, g); rate_most = omega (arith, h) }

small_pace : (pace : Option Line) (line : Line) → pace ≡ Some line → IfSome pace IsSmallLine → IsSmallLine line
small_pace None line e small = absurd (cc)
small_pace (Some pace) line e small = let f : pace ≡ line = cc in subst IsSmallLine f small

small_line_of : (level time : ℕ) (pace : Option Line) → level < 2 ^ 62 → IfSome pace IsSmallLine → IsSmallLine (line_of level pace time)
small_line_of level time None h small = record { burst = h; rate = omega arith }
small_line_of level time (Some pace) h small = elim (cases_lt (line_height pace time (10 ^ 12)) (level * 10 ^ 12)) [
  | inl less ↦
      let f : nat_lt (line_height pace time (10 ^ 12)) (level * 10 ^ 12) ≡ true = grind (arith, nat_tests) in
      rw f small
  | inr more ↦
      let f : nat_lt (line_height pace time (10 ^ 12)) (level * 10 ^ 12) ≡ false = grind (arith, nat_tests) in
      let flat : IsSmallLine (flat_line level) = record { burst = h; rate = omega arith } in
      rw f flat
]

-- ---- the picosecond of a time of p over q seconds
from_picosecond : (begin p q : ℕ) → 0 < q → begin * q ≤ p * 10 ^ 12 → begin ≤ p * 10 ^ 12 / q
from_picosecond begin p q some h = (le-div_iff_mul-le some).1 h

before_picosecond : (to p q : ℕ) → 0 < q → p * 10 ^ 12 < to * q → p * 10 ^ 12 / q < to
before_picosecond to p q some h = elim (cases_lt (p * 10 ^ 12 / q) to) [
  | inl less ↦ less
  | inr more ↦ let k : to * q ≤ p * 10 ^ 12 = (le-div_iff_mul-le some).0 more in absurd (omega (arith, h, k))
]

until_picosecond : (to p q : ℕ) → 0 < q → p * 10 ^ 12 ≤ to * q → p * 10 ^ 12 / q ≤ to
until_picosecond to p q some h =
    let k : p * 10 ^ 12 / q * q ≤ p * 10 ^ 12 = div-mul-le_self (p * 10 ^ 12) q in
    let l : p * 10 ^ 12 / q * q ≤ to * q = omega (arith, h, k) in
    le_of_mul-le-mul_right l some

-- ---- from one jump to a later time
-- its turns, and the line on which it is from the last of them on until then
pub record IsSettledTo (b : Bundle) (end begin to level : ℕ) (base new : List Turn) (line : Line) : Type 0 where
  pub more : List Turn
  pub is : new ≡ base ++ more
  pub o : ℕ
  pub u : ℕ
  pub some : 0 < u
  pub begins : begin * u ≤ o * 10 ^ 12
  pub order : o * 10 ^ 12 ≤ to * u
  pub most : IsWithinMost (burst_until end b) (rate_until end b) line
  pub small : IsSmallLine line
  pub so_far : IsTurning (bundle_height b) (burst_until end b) (rate_until end b) end o u more line
  pub still : (p q : ℕ) → 0 < q → o * q ≤ p * u → p * 10 ^ 12 ≤ to * q → lesser_height p q (flat_line level) b.pace ≡ line_height line p q

some_rate : (r to x : ℕ) → x < to * r → 0 < r
some_rate zero to x h = absurd (omega (arith, h))
some_rate (suc r) to x h = omega arith

module _ (b : Bundle) (end begin to level : ℕ) (base old new js : List Turn) (line next : Line) (until : to ≤ end) (fits : level < 2 ^ 62)
    (reached : level ≤ bundle_level end b) (small : IfSome b.pace IsSmallLine) (stays : (n : ℕ) → begin ≤ n → n < to → bundle_level n b ≡ level) (order : begin ≤ to)
    (was : old ≡ base ++ js) (so_far : IsTurning (bundle_height b) (burst_until end b) (rate_until end b) end begin (10 ^ 12) js line) where
  -- without a turn
  no_turn : IsBelowUntil line level to old new next → IsWithinMost (burst_until end b) (rate_until end b) line → IsSmallLine line
      → ((p q : ℕ) → 0 < q → begin * q ≤ p * 10 ^ 12 → p * 10 ^ 12 ≤ to * q → lesser_height p q (flat_line level) b.pace ≡ line_height line p q)
      → IsSettledTo b end begin to level base new next
  no_turn late within small_line stands = record {
    more = js;
    is = late.none ∙ was;
    o = begin;
    u = 10 ^ 12;
    some = omega arith;
    begins = omega arith;
    order = omega (arith, order);
    most = subst (λ (l : Line). IsWithinMost (burst_until end b) (rate_until end b) l) (sym late.same) within;
    small = subst IsSmallLine (sym late.same) small_line;
    so_far = subst (λ (l : Line). IsTurning (bundle_height b) (burst_until end b) (rate_until end b) end begin (10 ^ 12) js l) (sym late.same) so_far;
    still = λ p q some h l. stands p q some h l ∙ ap (λ (m : Line). line_height m p q) (sym late.same);
  }

  on_level : IsFlat level b.pace line begin (10 ^ 12) → IsBelowUntil line level to old new next → IsSettledTo b end begin to level base new next
  on_level flat late =
      let flat_small : IsSmallLine (flat_line level) = record { burst = fits; rate = omega arith } in
      no_turn late
      (subst (λ (l : Line). IsWithinMost (burst_until end b) (rate_until end b) l) (sym flat.is) (level_within b level end reached))
      (subst IsSmallLine (sym flat.is) flat_small)
      (λ p q some h l.
      let e : level * q ≡ line_height (flat_line level) p q = omega arith in
      flat.lower p q some h ∙ e ∙ ap (λ (m : Line). line_height m p q) (sym flat.is))

  on_pace : IsPaced level b.pace line begin (10 ^ 12) → IsBelowUntil line level to old new next → IsSettledTo b end begin to level base new next
  on_pace paced late =
      no_turn late (pace_within b end line paced.is) (small_pace b.pace line paced.is small)
      (λ p q some h l.
      let k = begins_below level begin (10 ^ 12) b.pace line (omega arith) (inr paced) in
      let e : level ≡ line.burst + (level - line.burst) = omega (arith, k) in
      let m = before_it level line.burst line.rate (level - line.burst) p q e (late_before line.rate (level - line.burst) to p q late.late l) in
      lesser_pace level p q b.pace line paced.is m)

  -- the pace reaches the level
  reaches : IsPaced level b.pace line begin (10 ^ 12) → Reaches line level to old new next → IsSettledTo b end begin to level base new next
  reaches paced early = record {
    more = js ++ turn ∷ [];
    is = early.turn ∙ ap (λ (ts : List Turn). ts ++ turn ∷ []) was ∙ append_assoc base js (turn ∷ []);
    o = over;
    u = line.rate;
    some = some_rate line.rate to (over * 10 ^ 12) early.early;
    begins = comes;
    order = let h = early.early in omega (arith, h);
    most = subst (λ (l : Line). IsWithinMost (burst_until end b) (rate_until end b) l) (sym early.flat) (level_within b level end reached);
    small = subst IsSmallLine (sym early.flat) flat_small;
    so_far = subst (λ (l : Line). IsTurning (bundle_height b) (burst_until end b) (rate_until end b) end over line.rate (js ++ turn ∷ []) l) (sym early.flat)
        (turn_more (bundle_height b) (burst_until end b) (rate_until end b) end begin (10 ^ 12) js line (omega arith) (pace_within b end line paced.is) so_far turn comes keeps is_turn refl);
    still = λ p q some h l.
        let e : level * q ≡ line_height (flat_line level) p q = omega arith in
        lesser_level level p q b.pace line paced.is (after_it level line.burst line.rate over p q above h) ∙ e ∙ ap (λ (m : Line). line_height m p q) (sym early.flat);
  }
    where
      over : ℕ
      over = level - line.burst

      turn : Turn
      turn = record { at = record { over = over; under = line.rate }; off = line; on = flat_line level }

      above : level ≡ line.burst + over
      above = let k = begins_below level begin (10 ^ 12) b.pace line (omega arith) (inr paced) in omega (arith, k)

      flat_small : IsSmallLine (flat_line level)
      flat_small = record { burst = fits; rate = omega arith }

      comes : begin * line.rate ≤ over * 10 ^ 12
      comes = let h = paced.below in let e = above in omega (arith, h, e)

      is_turn : IsTurn end turn
      is_turn =
          let line_small = small_pace b.pace line paced.is small in
          let e = early.early in
          let m : to * line.rate ≤ end * line.rate = mul-le-mul_right line.rate until in
          let r = line_small.rate in
          record {
            moment = record { some = some_rate line.rate to (over * 10 ^ 12) e; over = omega (arith, fits); under = r };
            time = omega (arith, e, m);
            on = flat_small;
            off = line_small;
          }

      on_it : (p q : ℕ) → 0 < q → begin * q ≤ p * 10 ^ 12 → p * line.rate ≤ over * q → bundle_height b p q ≡ line_height line p q
      on_it p q some h l =
          let n = chain_behind p q over line.rate to (10 ^ 12) some l early.early in
          let e = stays (p * 10 ^ 12 / q) (from_picosecond begin p q some h) (before_picosecond to p q some n) in
          ap (λ (m : ℕ). lesser_height p q (flat_line m) b.pace) e ∙ lesser_pace level p q b.pace line paced.is (before_it level line.burst line.rate over p q above l)

      keeps : KeepsTo (bundle_height b) begin (10 ^ 12) over line.rate line
      keeps = record {
        is = λ p q some h l. on_it p q some h (omega (arith, l));
        below = λ p q some h l. let e = on_it p q some h l in omega (arith, e);
      }

  pub settled : Stands level b.pace line begin (10 ^ 12) → IsSettled line level to old new next → IsSettledTo b end begin to level base new next
  settled stands is = elim stands [
    | inl flat ↦ elim is [
      | inl late ↦ on_level flat late
      | inr early ↦
          let h = early.early in
          let e = ap (λ (l : Line). to * l.rate) flat.is in
          absurd (omega (arith, h, e))
    ]
    | inr paced ↦ elim is [
      | inl late ↦ on_pace paced late
      | inr early ↦ reaches paced early
    ]
  ]

-- so it keeps to that line
module _ (b : Bundle) (end begin to level : ℕ) (base new : List Turn) (line : Line) (settled : IsSettledTo b end begin to level base new line) where
  from_begin : (p q : ℕ) → settled.o * q ≤ p * settled.u → begin * q ≤ p * 10 ^ 12
  from_begin p q h = chain begin (10 ^ 12) settled.o settled.u p q settled.some settled.begins h

  keeps_until : ((n : ℕ) → begin ≤ n → n < to → bundle_level n b ≡ level) → ((n : ℕ) → begin ≤ n → n ≤ to → level ≤ bundle_level n b)
      → KeepsTo (bundle_height b) settled.o settled.u to (10 ^ 12) line
  keeps_until stays least = record {
    is = λ p q some h l.
        let e = stays (p * 10 ^ 12 / q) (from_picosecond begin p q some (from_begin p q h)) (before_picosecond to p q some l) in
        ap (λ (m : ℕ). lesser_height p q (flat_line m) b.pace) e ∙ settled.still p q some h (omega (arith, l));
    below = λ p q some h l.
        let m = least (p * 10 ^ 12 / q) (from_picosecond begin p q some (from_begin p q h)) (until_picosecond to p q some l) in
        let e = settled.still p q some h l in
        let k = lesser_mono level (bundle_level (p * 10 ^ 12 / q) b) p q b.pace m in
        omega (arith, e, k);
  }

  pub ends : to ≡ end → ((n : ℕ) → begin ≤ n → n ≤ end → bundle_level n b ≡ level) → AddsBundle b end base new
  ends last stays = record {
    more = settled.more;
    is = settled.is;
    are = turned (bundle_height b) (burst_until end b) (rate_until end b) end settled.o settled.u settled.more line settled.some settled.most settled.so_far
        (λ p q some h l.
        let m = ap (λ n. n * q) last in
        let e = stays (p * 10 ^ 12 / q) (from_picosecond begin p q some (from_begin p q h)) (until_picosecond end p q some l) in
        ap (λ (n : ℕ). lesser_height p q (flat_line n) b.pace) e ∙ settled.still p q some h (omega (arith, l, m)));
  }

  -- a turn at a jump
  pub turn_at_jump : (next : Line) → to ≤ end → end < 2 ^ 62 → IsSmallLine next
      → ((n : ℕ) → begin ≤ n → n < to → bundle_level n b ≡ level) → ((n : ℕ) → begin ≤ n → n ≤ to → level ≤ bundle_level n b)
      → IsTurning (bundle_height b) (burst_until end b) (rate_until end b) end to (10 ^ 12)
      (settled.more ++ record { at = record { over = to; under = 10 ^ 12 }; off = line; on = next } ∷ []) next
  turn_at_jump next until short small stays least =
      turn_more (bundle_height b) (burst_until end b) (rate_until end b) end settled.o settled.u settled.more line settled.some settled.most settled.so_far
      record { at = record { over = to; under = 10 ^ 12 }; off = line; on = next } settled.order (keeps_until stays least)
      record {
        moment = record { some = omega arith; over = omega (arith, until, short); under = omega arith };
        time = mul-le-mul_right (10 ^ 12) until;
        on = small;
        off = settled.small;
      } refl

-- ---- after k jumps
abbrev pub no_jump : Jump
no_jump = record { time = 0; frame = 0 }

abbrev pub brought : List Jump → ℕ
brought jumps = sum_by (λ (j : Jump). j.frame) jumps

past_sum : (n : ℕ) (jumps : List Jump) → All (λ j. j.time ≤ n) jumps → sum_by (rise_of n) jumps ≡ brought jumps
past_sum n [] all = refl
past_sum n (j ∷ js) all =
    let a = rise_past n j (All-head (λ k. k.time ≤ n) j js all) in
    let b = past_sum n js (All-tail (λ k. k.time ≤ n) j js all) in
    let e = sum_by-cons (rise_of n) j js in
    let f = sum_by-cons (λ (i : Jump). i.frame) j js in
    omega (arith, a, b, e, f)

later_sum : (n : ℕ) (jumps : List Jump) → All (λ j. n < j.time) jumps → sum_by (rise_of n) jumps ≡ 0
later_sum n [] all = refl
later_sum n (j ∷ js) all =
    let a = rise_later n j (All-head (λ k. n < k.time) j js all) in
    let b = later_sum n js (All-tail (λ k. n < k.time) j js all) in
    let e = sum_by-cons (rise_of n) j js in
    omega (arith, a, b, e)

pub record IsCourse (b : Bundle) (jumps : List Jump) (end k level : ℕ) (base items : List Turn) (line : Line) : Type 0 where
  pub begin : ℕ
  pub more : List Turn
  pub is : items ≡ base ++ more
  pub level_is : level ≡ bundle_level 0 b + brought (take k jumps)
  pub past : All (λ j. j.time ≤ begin) (take k jumps)
  pub coming : All (λ j. begin ≤ j.time) (drop k jumps)
  pub within : begin ≤ end
  pub stands : Stands level b.pace line begin (10 ^ 12)
  pub so_far : IsTurning (bundle_height b) (burst_until end b) (rate_until end b) end begin (10 ^ 12) more line

-- what the first k jumps bring
module _ (b : Bundle) (jumps : List Jump) (end k level : ℕ) (are : AreJumps b end jumps) (level_is : level ≡ bundle_level 0 b + brought (take k jumps)) where
  level_then : (n : ℕ) → n ≤ end → All (λ j. j.time ≤ n) (take k jumps) → All (λ j. n < j.time) (drop k jumps) → bundle_level n b ≡ level
  level_then n inside past later =
      let a = past_sum n (take k jumps) past in
      let c = later_sum n (drop k jumps) later in
      let e = sum_by-take-drop (rise_of n) jumps k in
      let f = are.rises n inside in
      omega (arith, a, c, e, f, level_is)

  level_least : (n : ℕ) → n ≤ end → All (λ j. j.time ≤ n) (take k jumps) → level ≤ bundle_level n b
  level_least n inside past =
      let a = past_sum n (take k jumps) past in
      let e = sum_by-take-drop (rise_of n) jumps k in
      let f = are.rises n inside in
      omega (arith, a, e, f, level_is)

-- ---- the first turn
pub same_turn : (new old : List Turn) (at other : Moment) (off same on : Line) → at ≡ other → off ≡ same → new ≡ old ++ record { at = at; off = off; on = on } ∷ []
    → new ≡ old ++ record { at = other; off = same; on = on } ∷ []
same_turn new old at other off same on e f h =
    h ∙ ap (λ (m : Moment). old ++ record { at = m; off = off; on = on } ∷ []) e ∙ ap (λ (l : Line). old ++ record { at = other; off = l; on = on } ∷ []) f

pub first_course : (b : Bundle) (jumps : List Jump) (end level : ℕ) (base items : List Turn) (line : Line) → level ≡ bundle_level 0 b → bundle_level 0 b < 2 ^ 62 → IfSome b.pace IsSmallLine
    → line ≡ line_of level b.pace 0 → items ≡ base ++ record { at = record { over = 0; under = 10 ^ 12 }; off = flat_line 0; on = line } ∷ []
    → IsCourse b jumps end 0 level base items line
first_course b jumps end level base items line at fits small first is = record {
  begin = 0;
  more = turn ∷ [];
  is = is;
  level_is = omega (arith, at);
  past = All-nil (λ j. j.time ≤ 0);
  coming = λ k d h. omega arith;
  within = omega arith;
  stands = stands_at level 0 b.pace line first;
  so_far = record {
    each = All-cons (IsTurn end) turn [] record {
      moment = record { some = omega arith; over = omega arith; under = omega arith };
      time = omega arith;
      on = subst IsSmallLine (sym first) (small_line_of level 0 b.pace (omega (arith, at, fits)) small);
      off = record { burst = omega arith; rate = omega arith };
    } (All-nil (IsTurn end));
    past = All-cons (λ (j : Turn). j.at.over * 10 ^ 12 ≤ 0 * j.at.under) turn [] (omega arith) (All-nil (λ (j : Turn). j.at.over * 10 ^ 12 ≤ 0 * j.at.under));
    at = λ p q some h. absurd (omega (arith, h));
    before = λ p q some h. record {
      line = flat_line 0;
      below = omega arith;
      on = on_still (is_before p q) [] turn (flat_line 0) (comes_not_before p q turn (omega (arith, h)))
          (on_by_all (is_before p q) [] (flat_line 0) (All-nil (λ j. is_before p q j ≡ true)) on_none);
    };
    on = on_next [] turn on_none;
  };
}
  where
    turn : Turn
    turn = record { at = record { over = 0; under = 10 ^ 12 }; off = flat_line 0; on = line }

-- ---- one jump more
abbrev jump_at : List Jump → ℕ → Jump
jump_at jumps k = get_or jumps k no_jump

from_here : (jumps : List Jump) (k : ℕ) → AreInTime jumps → k < length jumps → All (λ j. (jump_at jumps k).time ≤ j.time) (drop k jumps)
from_here jumps k order inside i d h =
    let l = length-drop k jumps in
    let e = get_or-drop k jumps i d in
    let a = order k (k + i) d (omega arith) (omega (arith, h, l)) in
    let f = ap (λ j. j.time) (get_or_default jumps k d no_jump inside) in
    let g = ap (λ j. j.time) e in
    omega (arith, a, f, g)

module _ (b : Bundle) (jumps : List Jump) (end k level : ℕ) (base items : List Turn) (line : Line) (all : AreJumps b end jumps) (order : AreInTime jumps)
    (inside : k < length jumps) (course : IsCourse b jumps end k level base items line) where
  begin_before : course.begin ≤ (jump_at jumps k).time
  begin_before =
      let l = length-drop k jumps in
      let a = course.coming 0 no_jump (omega (arith, l, inside)) in
      let f = ap (λ j. j.time) (get_or-drop k jumps 0 no_jump) in
      let n : k + 0 ≡ k = omega arith in
      let g = ap (λ (i : ℕ). (get_or jumps i no_jump).time) n in
      omega (arith, a, f, g)

  past_by : (n : ℕ) → course.begin ≤ n → All (λ j. j.time ≤ n) (take k jumps)
  past_by n h = All-weaker (λ j. j.time ≤ course.begin) (λ j. j.time ≤ n) (λ j l. omega (arith, l, h)) (take k jumps) course.past

  until_end : (jump_at jumps k).time ≤ end
  until_end = (all.each k no_jump inside).time

  -- the level with it
  pub next_level : level + (jump_at jumps k).frame ≡ bundle_level 0 b + brought (take (k + 1) jumps)
  next_level =
      let s = sum_by_more (λ (j : Jump). j.frame) jumps k no_jump inside in
      let e = course.level_is in
      omega (arith, s, e)

  past_next : All (λ j. j.time ≤ (jump_at jumps k).time) (take (k + 1) jumps)
  past_next = All-more (λ i. i.time ≤ (jump_at jumps k).time) jumps k no_jump inside (past_by (jump_at jumps k).time begin_before) (omega arith)

  pub next_fits : level + (jump_at jumps k).frame ≤ bundle_level end b
  next_fits =
      level_least b jumps end (k + 1) (level + (jump_at jumps k).frame) all next_level end (omega arith)
      (All-weaker (λ j. j.time ≤ (jump_at jumps k).time) (λ j. j.time ≤ end) (λ j l. let h = until_end in omega (arith, l, h)) (take (k + 1) jumps) past_next)

  stays : (n : ℕ) → course.begin ≤ n → n < (jump_at jumps k).time → bundle_level n b ≡ level
  stays n h l =
      let u = until_end in
      level_then b jumps end k level all course.level_is n (omega (arith, l, u)) (past_by n h)
      (All-weaker (λ j. (jump_at jumps k).time ≤ j.time) (λ j. n < j.time) (λ j m. omega (arith, l, m)) (drop k jumps) (from_here jumps k order inside))

  least : (n : ℕ) → course.begin ≤ n → n ≤ (jump_at jumps k).time → level ≤ bundle_level n b
  least n h l = let u = until_end in level_least b jumps end k level all course.level_is n (omega (arith, l, u)) (past_by n h)

  pub jump_settled : (new : List Turn) (off : Line) → bundle_level end b < 2 ^ 62 → IfSome b.pace IsSmallLine → IsSettled line level (jump_at jumps k).time items new off
      → IsSettledTo b end course.begin (jump_at jumps k).time level base new off
  jump_settled new off fits small is =
      let h = next_fits in
      settled b end course.begin (jump_at jumps k).time level base items new course.more line off until_end (omega (arith, h, fits)) (omega (arith, h)) small stays begin_before
      course.is course.so_far course.stands is

  pub next_course : (new last : List Turn) (off next : Line) → bundle_level end b < 2 ^ 62 → IfSome b.pace IsSmallLine → end < 2 ^ 62
      → IsSettled line level (jump_at jumps k).time items new off → next ≡ line_of (level + (jump_at jumps k).frame) b.pace (jump_at jumps k).time
      → last ≡ new ++ record { at = record { over = (jump_at jumps k).time; under = 10 ^ 12 }; off = off; on = next } ∷ []
      → IsCourse b jumps end (k + 1) (level + (jump_at jumps k).frame) base last next
  next_course new last off next fits small short is on e =
      let to = jump_settled new off fits small is in
      let h = next_fits in
      record {
        begin = (jump_at jumps k).time;
        more = to.more ++ record { at = record { over = (jump_at jumps k).time; under = 10 ^ 12 }; off = off; on = next } ∷ [];
        is = e ∙ ap (λ (ts : List Turn). ts ++ record { at = record { over = (jump_at jumps k).time; under = 10 ^ 12 }; off = off; on = next } ∷ []) to.is
            ∙ append_assoc base to.more (record { at = record { over = (jump_at jumps k).time; under = 10 ^ 12 }; off = off; on = next } ∷ []);
        level_is = next_level;
        past = past_next;
        coming = λ i d m.
            let l = length-drop (k + 1) jumps in
            let f = ap (λ j. j.time) (get_or-drop (k + 1) jumps i d) in
            let a = order k (k + 1 + i) d (omega arith) (omega (arith, m, l)) in
            let g = ap (λ j. j.time) (get_or_default jumps k d no_jump inside) in
            omega (arith, f, a, g);
        within = until_end;
        stands = stands_at (level + (jump_at jumps k).frame) (jump_at jumps k).time b.pace next on;
        so_far = turn_at_jump b end course.begin (jump_at jumps k).time level base new off to next until_end short
            (subst IsSmallLine (sym on) (small_line_of (level + (jump_at jumps k).frame) (jump_at jumps k).time b.pace (omega (arith, h, fits)) small)) stays least;
      }

pub next_small : (b : Bundle) (jumps items : List Jump) (end k level : ℕ) (base now : List Turn) (line : Line) → items ≡ jumps → AreJumps b end jumps → AreInTime jumps
    → k < length items → IsCourse b items end k level base now line → bundle_level end b < 2 ^ 62 → level + (get_or items k no_jump).frame < 2 ^ 62
next_small b jumps items end k level base now line same all order inside course fits =
    let are = subst (λ (js : List Jump). AreJumps b end js) (sym same) all in
    let come = subst (λ (js : List Jump). AreInTime js) (sym same) order in
    let h = next_fits b items end k level base now line are come inside course in
    omega (arith, h, fits)

-- ---- no more jumps
module _ (b : Bundle) (jumps : List Jump) (end k level : ℕ) (base items : List Turn) (line : Line) (all : AreJumps b end jumps)
    (done : length jumps ≤ k) (course : IsCourse b jumps end k level base items line) where
  none_later : (n : ℕ) → All (λ j. n < j.time) (drop k jumps)
  none_later n = subst (λ (js : List Jump). All (λ j. n < j.time) js) (sym (drop_of_length-le jumps done)) (All-nil (λ j. n < j.time))

  stays_on : (n : ℕ) → course.begin ≤ n → n ≤ end → bundle_level n b ≡ level
  stays_on n h l =
      level_then b jumps end k level all course.level_is n l
      (All-weaker (λ j. j.time ≤ course.begin) (λ j. j.time ≤ n) (λ j m. omega (arith, m, h)) (take k jumps) course.past) (none_later n)

  pub course_ends : (new : List Turn) (last : Line) → bundle_level end b < 2 ^ 62 → IfSome b.pace IsSmallLine → IsSettled line level end items new last → AddsBundle b end base new
  course_ends new last fits small is =
      let e = stays_on end course.within (omega arith) in
      ends b end course.begin end level base new last
      (settled b end course.begin end level base items new course.more line last (omega arith) (omega (arith, e, fits)) (omega (arith, e)) small
      (λ n h l. stays_on n h (omega (arith, l))) course.within course.is course.so_far course.stands is)
      refl stays_on

pub course_below : (b : Bundle) (jumps : List Jump) (end k level : ℕ) (base items : List Turn) (line : Line) → IsCourse b jumps end k level base items line → line.burst ≤ level
course_below b jumps end k level base items line course = begins_below level course.begin (10 ^ 12) b.pace line (omega arith) course.stands
