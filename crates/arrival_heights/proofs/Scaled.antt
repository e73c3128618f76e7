-- Parts at a time of so many seconds over so many: what they come to in grains, and how far that is above a rate.
use Rattle.std.specs.Prelude.{◌≡◌, ℕ, ◌+◌, ◌-◌, ◌*◌, ◌^◌, ◌<◌, ◌≤◌, min, List, [], ◌∷◌, Option, Some, None}
use Rattle.std.proofs.Common.{arith, sym, ap, ap₂, ◌∙◌, subst, inl, inr}
use Rattle.std.specs.Int.{div_ceil}
use Rattle.std.proofs.lemmas.Bool.{cases_lt}
use Rattle.std.proofs.lemmas.Grind.{div_ceil_times}
use Rattle.std.proofs.lemmas.List.Sums.{sum_by-cons}
use Rattle.std.proofs.Math.Nat.{mul-le-mul_right}
use Rattle.rational.specs.Rational.{ℚ, ◌+ℚ◌, ◌*ℚ◌, ◌≤ℚ◌, ◌<ℚ◌}
use Rattle.rational.proofs.Laws.{mul_add, mul_comm, mul_assoc, mul_zero, le_of_mul, lt_of_mul, antisym}
use Rattle.rational.proofs.MinMax.{min_q_left, min_q_is_right}
use Rattle.rational.proofs.Integers.{nat_lt}
use Rattle.min_plus.specs.Functions.{zero_q, whole}
use Rattle.arrival_lines.specs.Grid.{grain, bits, speed, micros, line_value, lesser, part_value, parts_value}
use Rattle.arrival_lines.specs.declared.grid.Line.{Line}
use Rattle.arrival_lines.specs.declared.grid.Part.{Part}
use Rattle.arrival_lines.proofs.Units.{bits_add, bits_le, bits_lt, bits_times, speed_times, brings, brings_less, one_grain}
use Rattle.arrival_heights.specs.Heights.{line_height, lesser_height, part_height, heights}
use Rattle.arrival_heights.specs.Greatest.{IsBelow, IsBoundAt}

-- a rate of `under` grains a second brings `over` grains in the time
pub record IsAt (over under : ℕ) (t : ℚ) : Type 0 where
  pub some : 0 < under
  pub is : speed under *ℚ t ≡ bits over

no_bits : bits 0 ≡ zero_q
unfolding bits
no_bits = mul_comm (whole 0) grain ∙ mul_zero grain

-- a time in picoseconds
pub at_picosecond : (n : ℕ) → IsAt n (10 ^ 12) (micros n)
at_picosecond n = record { some = omega arith; is = antisym (brings_less n (10 ^ 12) n (omega arith), brings n (10 ^ 12) n (omega arith)) }

module _ (over under : ℕ) (t : ℚ) (at : IsAt over under t) where
  -- what a rate brings, times `under`
  rate_scaled : (r : ℕ) → whole under *ℚ (speed r *ℚ t) ≡ bits (r * over)
  rate_scaled r =
      let e : under * r ≡ r * under = omega arith in
      sym (mul_assoc (whole under) (speed r) t) ∙ ap (λ z. z *ℚ t) (speed_times under r ∙ ap speed e ∙ sym (speed_times r under)) ∙ mul_assoc (whole r) (speed under) t
      ∙ ap (λ z. whole r *ℚ z) at.is ∙ bits_times r over

  pub line_scaled : (l : Line) → whole under *ℚ line_value l t ≡ bits (line_height l over under)
  line_scaled l =
      let e : under * l.burst ≡ l.burst * under = omega arith in
      mul_add (whole under) (bits l.burst) (speed l.rate *ℚ t) ∙ ap₂ (λ y z. y +ℚ z) (bits_times under l.burst ∙ ap bits e) (rate_scaled l.rate)
      ∙ sym (bits_add (l.burst * under) (l.rate * over))

  pub under_some : zero_q <ℚ whole under
  under_some = nat_lt 0 under at.some

  -- in the order of what they come to
  line_le : (l m : Line) → line_height l over under ≤ line_height m over under → line_value l t ≤ℚ line_value m t
  line_le l m h =
      let b = bits_le (line_height l over under) (line_height m over under) h in
      le_of_mul (whole under) (line_value l t) (line_value m t) under_some
      (rw (mul_comm (line_value l t) (whole under), mul_comm (line_value m t) (whole under), line_scaled l, line_scaled m) b)

  lesser_scaled : (sum : Line) (pace : Option Line) → whole under *ℚ lesser sum pace t ≡ bits (lesser_height over under sum pace)
  lesser_scaled sum None = line_scaled sum
  lesser_scaled sum (Some pace) = elim (cases_lt (line_height pace over under) (line_height sum over under)) [
    | inl less ↦
        let e : min (line_height sum over under) (line_height pace over under) ≡ line_height pace over under = omega (arith, less) in
        ap (λ z. whole under *ℚ z) (min_q_is_right (line_value sum t) (line_value pace t) (line_le pace sum (omega (arith, less)))) ∙ line_scaled pace ∙ sym (ap bits e)
    | inr more ↦
        let e : min (line_height sum over under) (line_height pace over under) ≡ line_height sum over under = omega (arith, more) in
        ap (λ z. whole under *ℚ z) (min_q_left (line_value sum t) (line_value pace t) (line_le sum pace more)) ∙ line_scaled sum ∙ sym (ap bits e)
  ]

  pub parts_scaled : (parts : List Part) → whole under *ℚ parts_value parts t ≡ bits (heights parts over under)
  unfolding parts_value
  parts_scaled [] = mul_zero (whole under) ∙ sym no_bits
  parts_scaled (p ∷ ps) =
      mul_add (whole under) (part_value p t) (parts_value ps t) ∙ ap₂ (λ y z. y +ℚ z) (lesser_scaled p.sum p.pace) (parts_scaled ps)
      ∙ sym (bits_add (part_height over under p) (heights ps over under)) ∙ ap bits (sym (sum_by-cons (part_height over under) p ps))

  -- ---- above a rate
  line_at_scaled : (x rate : ℕ) → whole under *ℚ (bits x +ℚ speed rate *ℚ t) ≡ bits (under * x + rate * over)
  line_at_scaled x rate =
      mul_add (whole under) (bits x) (speed rate *ℚ t) ∙ ap₂ (λ y z. y +ℚ z) (bits_times under x) (rate_scaled rate) ∙ sym (bits_add (under * x) (rate * over))

  -- what comes to so many grains over `under`
  over_by : (v : ℚ) (h rate x : ℕ) → whole under *ℚ v ≡ bits h → x ≡ div_ceil (h - rate * over) under → v ≤ℚ bits x +ℚ speed rate *ℚ t
  over_by v h rate x scaled e =
      let k : h - rate * over ≤ x * under = subst (λ n. h - rate * over ≤ n * under) (sym e) (div_ceil_times _ under at.some).0 in
      let b = bits_le h (under * x + rate * over) (omega (arith, k)) in
      le_of_mul (whole under) v (bits x +ℚ speed rate *ℚ t) under_some
      (rw (mul_comm v (whole under), mul_comm (bits x +ℚ speed rate *ℚ t) (whole under), scaled, line_at_scaled x rate) b)

  near_by : (v : ℚ) (h rate x : ℕ) → whole under *ℚ v ≡ bits h → x ≡ div_ceil (h - rate * over) under → 0 < x → bits x +ℚ speed rate *ℚ t <ℚ v +ℚ grain
  near_by v h rate x scaled e some =
      let n = h - rate * over in
      let k : x * under < n + under = subst (λ m. m * under < n + under) (sym e) (div_ceil_times n under at.some).1 in
      let u : under ≤ x * under = le_times x under some in
      let b = bits_lt (under * x + rate * over) (h + under * 1) (omega (arith, k, u)) in
      lt_of_mul (whole under) (bits x +ℚ speed rate *ℚ t) (v +ℚ grain) under_some
      (rw (mul_comm (bits x +ℚ speed rate *ℚ t) (whole under), mul_comm (v +ℚ grain) (whole under), line_at_scaled x rate, with_grain) b)
    where
      le_times : (m k : ℕ) → 0 < m → k ≤ m * k
      le_times m k h = let l : 1 * k ≤ m * k = mul-le-mul_right k h in omega (arith, l)

      with_grain : whole under *ℚ (v +ℚ grain) ≡ bits (h + under * 1)
      with_grain =
          mul_add (whole under) v grain ∙ ap₂ (λ y z. y +ℚ z) scaled (ap (λ z. whole under *ℚ z) (sym one_grain) ∙ bits_times under 1) ∙ sym (bits_add h (under * 1))

  pub ahead_over : (parts : List Part) (rate x : ℕ) → x ≡ div_ceil (heights parts over under - rate * over) under → IsBelow (parts_value parts) rate x t
  ahead_over parts rate x e = over_by (parts_value parts t) (heights parts over under) rate x (parts_scaled parts) e

  pub ahead_near : (parts : List Part) (rate x : ℕ) → x ≡ div_ceil (heights parts over under - rate * over) under → 0 < x
      → bits x +ℚ speed rate *ℚ t <ℚ parts_value parts t +ℚ grain
  ahead_near parts rate x e some = near_by (parts_value parts t) (heights parts over under) rate x (parts_scaled parts) e some

  pub line_over : (l : Line) (rate x : ℕ) → x ≡ div_ceil (line_height l over under - rate * over) under → IsBelow (line_value l) rate x t
  line_over l rate x e = over_by (line_value l t) (line_height l over under) rate x (line_scaled l) e

  pub line_near : (l : Line) (rate x : ℕ) → x ≡ div_ceil (line_height l over under - rate * over) under → 0 < x
      → bits x +ℚ speed rate *ℚ t <ℚ line_value l t +ℚ grain
  line_near l rate x e some = near_by (line_value l t) (line_height l over under) rate x (line_scaled l) e some

-- at a time in picoseconds
pub bound_at : (parts : List Part) (rate time x : ℕ) → x ≡ div_ceil (heights parts time (10 ^ 12) - rate * time) (10 ^ 12) → IsBoundAt parts rate time x
bound_at parts rate time x e = record {
  over = ahead_over time (10 ^ 12) (micros time) (at_picosecond time) parts rate x e;
  near = ahead_near time (10 ^ 12) (micros time) (at_picosecond time) parts rate x e;
}
