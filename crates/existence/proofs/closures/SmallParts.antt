-- Which numbers of a curve are small, and whether the slopes of pieces are, so that a proof may go by it.
use Rattle.std.specs.Prelude.{◌≢◌, ◌⊎◌, ◌/◌, ◌<◌, ◌^◌, nat_abs, List, [], ◌∷◌, Option, Some, None}
use native.Mathlib.Nat.{mul_comm}
use Rattle.std.proofs.Common.{arith, inl, inr, refl}
use Rattle.std.proofs.Math.Nat.{le-mul_of_pos_right}
use Rattle.std.proofs.lemmas.Bool.{cases_lt}
use Rattle.rational.specs.Extended.{Ext}
use Rattle.rational.specs.declared.Extended.TheVariants.{Fin, Inf}
use Rattle.rational.specs.Fractions.{abs-mul}
use Rattle.rational.specs.Gcd.{gcd}
use Rattle.rational.specs.Rational.{ℚ, den, ◌*ℚ◌}
use Rattle.rational.specs.Ratio.{IsSmall, SumFits}
use Rattle.upp_curve.specs.declared.affine_segment.line.Line.{Line}
use Rattle.upp_curve.specs.declared.affine_segment.line.Piece.{Piece}
use Rattle.rational.proofs.Multiples.{share_pos}
use Rattle.upp_curve.specs.affine_segment.Reading.{read}
use Rattle.upp_curve.specs.Readable.{SumFitsAt, PeriodFits}
use Rattle.subadd_closure.specs.PieceFits.{SlopeFitsAt, SlopesRead}

-- ---- whether
pub small_or_not : (x : ℚ) → IsSmall x ⊎ ¬ (IsSmall x)
small_or_not x = elim (cases_lt (nat_abs x.num) (2 ^ 127)) [
  | inr big ↦ inr (λ s. let t = s.top in omega (arith, t, big))
  | inl top ↦ elim (cases_lt (den x) (2 ^ 127)) [
    | inr big ↦ inr (λ s. let t = s.bottom in omega (arith, t, big))
    | inl bottom ↦ inl record { top = top; bottom = bottom }
  ]
]

slope_or_not : (x : ℚ) (l : Option Line) → SlopeFitsAt x l ⊎ ¬ (SlopeFitsAt x l)
slope_or_not x None = inl tt
slope_or_not x (Some l) = small_or_not (l.slope *ℚ x)

pub slopes_or_not : (l : Option Line) (ps : List Piece) → SlopesRead l ps ⊎ ¬ (SlopesRead l ps)
slopes_or_not l [] = inl tt
slopes_or_not l (p ∷ ps) = elim (slope_or_not p.x l) [
  | inr n ↦ inr (λ h. n h.0)
  | inl before ↦ elim (slope_or_not p.x p.line) [
    | inr n ↦ inr (λ h. n h.1)
    | inl here ↦ elim (slopes_or_not p.line ps) [
      | inr n ↦ inr (λ h. n h.2)
      | inl rest ↦ inl (before, here, rest)
    ]
  ]
]

-- ---- of a tail that repeats
-- the second number of a sum that fits is small
second_small : (x y : ℚ) → SumFits x y → IsSmall y
second_small x y h =
    let s = den x / gcd (den x) (den y) in
    let some : 0 < s = share_pos (den x) (den y) (omega arith) in
    let e = abs-mul y.num s in
    let top = le-mul_of_pos_right (nat_abs y.num) some in
    let bottom = le-mul_of_pos_right (den y) some in
    let swapped = mul_comm (den y) s in
    let right = h.right in
    let below = h.bottom in
    record { top = omega (arith, e, top, right); bottom = omega (arith, bottom, swapped, below) }

-- period and rise of a curve that is finite where its period begins
pub record TurnsAreSmall (period rise : ℚ) : Type 0 where
  pub period_is : IsSmall period
  pub rise_is : IsSmall rise

rise_small : (v : Ext) (rise : ℚ) → SumFitsAt v rise → v ≢ Inf → IsSmall rise
rise_small Inf rise h some = absurd (some refl)
rise_small (Fin v) rise h some = second_small v rise h

pub turns_small : (ps : List Piece) (rank period rise : ℚ) → PeriodFits ps rank period rise → read ps rank ≢ Inf
    → TurnsAreSmall period rise
turns_small ps rank period rise h some = record {
  period_is = second_small rank period h.end;
  rise_is = rise_small (read ps rank) rise h.next some;
}
