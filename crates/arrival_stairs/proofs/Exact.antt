-- Where the walk goes up to the horizon the excess is that of the walk, and exact.
use Rattle.std.specs.Prelude.{◌≡◌, ℕ, zero, suc, ◌+◌, ◌-◌, ◌*◌, ◌^◌, ◌<◌, ◌≤◌, max, min, List, length, get_or, [], ◌∷◌}
use Rattle.std.proofs.Common.{arith, ap, sym, ◌∙◌, refl, subst, inl, inr}
use Rattle.std.proofs.lemmas.Bool.{cases_lt}
use Rattle.std.proofs.lemmas.List.{get_or-map, length-map}
use Rattle.std.proofs.Math.Nat.{mul-le-mul_left}
use Rattle.rational.specs.Rational.{ℚ, ◌+ℚ◌, ◌*ℚ◌, ◌≤ℚ◌, ◌<ℚ◌}
use Rattle.rational.proofs.Laws.{le_trans, le_or_lt, le_of_lt, mul_le_mul_right}
use Rattle.rational.proofs.Linear.{with_atoms}
use Rattle.min_plus.specs.Functions.{zero_q}
use Rattle.arrival_lines.specs.Grid.{grain, bits, speed, micros, line_value, parts_value}
use Rattle.arrival_lines.specs.Steps.{AreSteps}
use Rattle.arrival_lines.specs.declared.grid.Line.{Line}
use Rattle.arrival_lines.proofs.Units.{bits_add, bits_le, micros_le, micros_nonneg, one_grain, speed_le, up_covers}
use Rattle.arrival_heights.specs.Greatest.{IsBelow, IsGreatestBetween}
use Rattle.arrival_heights.proofs.Split.{below_more}
use Rattle.arrival_stairs.specs.Stairs.{bundles_at, bundle_level, bundle_part, levels_at, AreBundles}
use Rattle.arrival_stairs.specs.Ahead.{IsAheadUpTo}
use Rattle.arrival_stairs.specs.Jumps.{jump_count}
use Rattle.arrival_stairs.specs.BelowLines.{line_parts}
use Rattle.arrival_stairs.specs.Horizon.{IsHorizon, IsTailOfFirst, down_at}
use Rattle.arrival_heights.specs.Slow.{IsSlowBurst}
use Rattle.arrival_stairs.specs.StairExcess.{IsLastWalked, IsStairExcess, line_ahead}
use Rattle.arrival_stairs.specs.declared.stairs.Bundle.{Bundle}
use Rattle.arrival_stairs.proofs.Risen.{bundle_rises}
use Rattle.arrival_stairs.proofs.Frozen.{picosecond_of, bundles_are, all_higher}
use Rattle.arrival_stairs.proofs.Starts.{some_bundle}
use Rattle.arrival_heights.proofs.Concave.{no_line}
use Rattle.arrival_stairs.proofs.Tails.{line_tail, tail_is, tail_there}
use Rattle.arrival_heights.proofs.Ceilings.{ceil_most}
use Rattle.arrival_stairs.proofs.NoJumps.{none_at_0}
use Rattle.arrival_stairs.proofs.UnderLines.{bundles_below_lines}

-- the greater one of the walk up to a time and of the lines from there on, at most so many grains
pub record IsExcessBy (bundles : List Bundle) (steps : List Line) (rate most end x : ℕ) : Type 0 where
  pub walked : ℕ
  pub ahead : IsAheadUpTo bundles rate end walked
  pub later : ℕ
  pub tail : IsTailOfFirst steps rate most end (length steps) later
  pub is : x ≡ min (max walked later) most

-- grains less than a grain apart
pub within_grain : (a b : ℕ) (u : ℚ) → bits a +ℚ u <ℚ (bits b +ℚ u) +ℚ grain → a ≤ b
within_grain a b u h = elim (cases_lt b a) [
  | inr l ↦ l
  | inl l ↦
      let k = bits_le (b + 1) a (omega (arith, l)) in
      let e = bits_add b 1 in
      absurd (clash (bits a) (bits b) (bits 1) (bits (b + 1)) h k e one_grain)
]
  where
    clash : (x y o s : ℚ) → x +ℚ u <ℚ (y +ℚ u) +ℚ grain → s ≤ℚ x → s ≡ y +ℚ o → o ≡ grain → ⊥
    clash x y o s h k e f = let g = grain in with_atoms (x ∷ y ∷ o ∷ s ∷ u ∷ g ∷ []) (λ c. omega (arith, c.le, c.lt, c.same))

pub near_below : (x b c w : ℚ) → x <ℚ b +ℚ grain → b ≡ c → c ≤ℚ w → x <ℚ w +ℚ grain
near_below x b c w h e k = let g = grain in with_atoms (x ∷ b ∷ c ∷ w ∷ g ∷ []) (λ a. omega (arith, a.le, a.lt, a.same))

-- bundles are nowhere below what they bring at 0
start_within : (bundles : List Bundle) (t : ℚ) → AreBundles bundles → zero_q ≤ℚ t → parts_value (levels_at bundles 0) t ≤ℚ bundles_at bundles t
start_within bundles t are on =
    let (n, is) = picosecond_of t on in
    subst (λ y. parts_value (levels_at bundles 0) t ≤ℚ y) (sym (bundles_are n bundles t is are.stairs))
    (all_higher (levels_at bundles 0) (levels_at bundles n) t (length-map bundles (bundle_part 0) ∙ sym (length-map bundles (bundle_part n)))
    (λ p d h.
    let l : p < length bundles = let m = length-map bundles (bundle_part 0) in omega (arith, m, h) in
    let b = some_bundle bundles p l in
    record {
      from = bundle_level 0 (get_or bundles p b);
      to = bundle_level n (get_or bundles p b);
      pace = (get_or bundles p b).pace;
      low_is = get_or-map (bundle_part 0) bundles p b d l;
      high_is = get_or-map (bundle_part n) bundles p b d l;
      rises = bundle_rises (get_or bundles p b) n (are.stairs p b l);
    }))

-- the walk reaches what is known
known_reached : (bundles : List Bundle) (rate end until known walked : ℕ) → AreBundles bundles → until ≤ end → IsGreatestBetween (levels_at bundles 0) rate 0 until known
    → IsAheadUpTo bundles rate end walked → known ≤ walked
known_reached bundles rate end until known walked are within greatest ahead = elim (cases_lt 0 known) [
  | inr none ↦ omega (arith, none)
  | inl some ↦
      let at = greatest.near some in
      let on = le_trans (micros_nonneg 0) at.begins in
      let h = start_within bundles at.at are on in
      let k = ahead.over at.at on (le_trans at.ends (micros_le until end within)) in
      within_grain known walked (speed rate *ℚ at.at)
      (joined (bits known +ℚ speed rate *ℚ at.at) (parts_value (levels_at bundles 0) at.at) (bundles_at bundles at.at) (bits walked +ℚ speed rate *ℚ at.at) at.near h k)
]
  where
    joined : (x p b w : ℚ) → x <ℚ p +ℚ grain → p ≤ℚ b → b ≤ℚ w → x <ℚ w +ℚ grain
    joined x p b w h k l = let g = grain in with_atoms (x ∷ p ∷ b ∷ w ∷ g ∷ []) (λ c. omega (arith, c.le, c.lt, c.same))

-- and the lines bring no more from the horizon on
line_down : (line : Line) (rate known end : ℕ) → line.rate < rate → down_at line rate known ≤ end → line_ahead line rate end ≤ known
line_down line rate known end slow down =
    let a = up_covers ((line.burst - known) * 10 ^ 12) (rate - line.rate) (down_at line rate known) (omega (arith, slow)) refl in
    let b : (rate - line.rate) * down_at line rate known ≤ (rate - line.rate) * end = mul-le-mul_left (rate - line.rate) down in
    ceil_most (line.burst * 10 ^ 12 - (rate - line.rate) * end) (10 ^ 12) known (omega arith) (omega (arith, a, b))

-- the walk is no further ahead than the burst of a step that is no faster
slow_above : (line : Line) (rate most : ℕ) (v t : ℚ) → line.rate ≤ rate → most ≡ line.burst → zero_q ≤ℚ t → v ≤ℚ line_value line t
    → v ≤ℚ bits most +ℚ speed rate *ℚ t
slow_above line rate most v t slow is on h =
    joined v (bits line.burst) (bits most) (speed line.rate *ℚ t) (speed rate *ℚ t) h (ap bits is) (mul_le_mul_right t on (speed_le line.rate rate slow))
  where
    joined : (v b m u w : ℚ) → v ≤ℚ b +ℚ u → m ≡ b → u ≤ℚ w → v ≤ℚ m +ℚ w
    joined v b m u w h e k = with_atoms (v ∷ b ∷ m ∷ u ∷ w ∷ []) (λ c. omega (arith, c.le, c.lt, c.same))

walk_within : (bundles : List Bundle) (steps : List Line) (rate end walked most : ℕ) → AreBundles bundles → AreSteps (line_parts bundles) steps
    → IsSlowBurst steps rate most → IsAheadUpTo bundles rate end walked → walked ≤ most
walk_within bundles steps rate end walked most are steps_are slow ahead = elim (cases_lt 0 walked) [
  | inr none ↦ omega (arith, none)
  | inl some ↦
      let at = ahead.near some in
      let h = bundles_below_lines bundles at.at are at.begins in
      let line = get_or steps slow.step no_line in
      let l = (steps_are.each slow.step no_line slow.inside).above.above at.at at.begins in
      let k = slow_above line rate most (bundles_at bundles at.at) at.at (slow.slow no_line) (slow.is no_line) at.begins (le_trans h l) in
      within_grain walked most (speed rate *ℚ at.at)
      (joined (bits walked +ℚ speed rate *ℚ at.at) (bundles_at bundles at.at) (bits most +ℚ speed rate *ℚ at.at) at.near k)
]
  where
    joined : (x b w : ℚ) → x <ℚ b +ℚ grain → b ≤ℚ w → x <ℚ w +ℚ grain
    joined x b w h k = let g = grain in with_atoms (x ∷ b ∷ w ∷ g ∷ []) (λ c. omega (arith, c.le, c.lt, c.same))

-- ---- the last time that is walked to
last_below : (f : ℕ → ℕ) (limit n : ℕ) → f 0 ≤ limit → (last : ℕ) × (last ≤ n) × (f last ≤ limit) × ((m : ℕ) → last < m → m ≤ n → limit < f m)
last_below f limit zero h = (0, omega arith, h, λ m later within. absurd (omega (arith, later, within)))
last_below f limit (suc n) h = elim (cases_lt limit (f (suc n))) [
  | inr few ↦ (suc n, omega arith, few, λ m later within. absurd (omega (arith, later, within)))
  | inl many ↦
      let before = last_below f limit n h in (
        before.0,
        let l = before.1 in omega (arith, l),
        before.2,
        λ m later within. elim (cases_lt m (suc n)) [
          | inl l ↦ before.3 m later (omega (arith, l))
          | inr l ↦ let e : suc n ≡ m = omega (arith, l, within) in subst (λ (k : ℕ). limit < f k) e many
        ],
      )
]

pub last_there : (bundles : List Bundle) → (last : ℕ) × IsLastWalked bundles last
last_there bundles =
    let none = none_at_0 bundles in
    let found = last_below (λ n. jump_count n bundles) 4096 (2 ^ 62 - 1) (omega (arith, none)) in (
      found.0,
      record {
        short = let l = found.1 in omega (arith, l);
        few = found.2;
        many = λ n later within. found.3 n later (omega (arith, within));
      },
    )

-- ---- together
-- a tail from the last such time on, which is not computed where the walk ends before
pub exact : (bundles : List Bundle) (steps : List Line) (rate most end x : ℕ) → AreBundles bundles → AreSteps (line_parts bundles) steps → IsSlowBurst steps rate most
    → IsHorizon bundles steps rate end → jump_count end bundles ≤ 4096 → IsExcessBy bundles steps rate most end x → IsStairExcess bundles rate x
exact bundles steps rate most end x are steps_are slow horizon few by = record {
  last = last;
  until = until;
  walked = by.walked;
  ahead = record {
    over = λ t on before. below_walked t on;
    near = λ some. let at = by.ahead.near some in
        record { at = at.at; begins = at.begins; ends = le_trans at.ends (micros_le end last later); near = at.near };
  };
  later = tail.0;
  tail = tail_is (line_parts bundles) steps rate most last tail.0 steps_are slow tail.1;
  is =
      let s = horizon.slower no_line in
      let b = tail.1.each horizon.step no_line horizon.inside (omega (arith, s)) in
      let c = line_down (get_or steps horizon.step no_line) rate horizon.known last s (let d = horizon.down no_line in omega (arith, d, later)) in
      omega (arith, is_walked, known, b, c);
}
  where
    last : ℕ
    last = (last_there bundles).0

    until : IsLastWalked bundles last
    until = (last_there bundles).1

    later : end ≤ last
    later = elim (cases_lt last end) [
      | inr l ↦ l
      | inl l ↦ let many = until.many end l horizon.short in absurd (omega (arith, many, few))
    ]

    tail : (y : ℕ) × IsTailOfFirst steps rate most last (length steps) y
    tail = tail_there steps rate most last (length steps) (omega arith)

    known : horizon.known ≤ by.walked
    known = known_reached bundles rate end horizon.until horizon.known by.walked are horizon.within horizon.greatest by.ahead

    is_walked : x ≡ by.walked
    is_walked =
        let s = horizon.slower no_line in
        let b = by.tail.each horizon.step no_line horizon.inside (omega (arith, s)) in
        let c = line_down (get_or steps horizon.step no_line) rate horizon.known end s (horizon.down no_line) in
        let d = walk_within bundles steps rate end by.walked most are steps_are slow by.ahead in
        let e = by.is in
        omega (arith, known, b, c, d, e)

    -- and nowhere the bundles are higher
    below_walked : (t : ℚ) → zero_q ≤ℚ t → IsBelow (bundles_at bundles) rate by.walked t
    below_walked t on = elim (le_or_lt t (micros end)) [
      | inl before ↦ by.ahead.over t on before
      | inr after ↦
          let line = get_or steps horizon.step no_line in
          let s = horizon.slower no_line in
          let c = line_down line rate horizon.known end s (horizon.down no_line) in
          let h = le_trans (bundles_below_lines bundles t are on) ((steps_are.each horizon.step no_line horizon.inside).above.above t on) in
          below_more (bundles_at bundles) rate (line_ahead line rate end) by.walked t (omega (arith, c, known))
          (line_tail line rate end (line_ahead line rate end) (bundles_at bundles t) t (omega (arith, s)) refl (le_of_lt after) h)
    ]

pub cut : (bundles : List Bundle) (steps : List Line) (rate most last x : ℕ) → AreBundles bundles → AreSteps (line_parts bundles) steps → IsSlowBurst steps rate most
    → IsLastWalked bundles last → IsExcessBy bundles steps rate most last x → IsStairExcess bundles rate x
cut bundles steps rate most last x are steps_are slow until by = record {
  last = last;
  until = until;
  walked = by.walked;
  ahead = by.ahead;
  later = by.later;
  tail = tail_is (line_parts bundles) steps rate most last by.later steps_are slow by.tail;
  is =
      let d = walk_within bundles steps rate last by.walked most are steps_are slow by.ahead in
      let e = by.is in
      let f = by.tail.least in
      omega (arith, d, e, f);
}
