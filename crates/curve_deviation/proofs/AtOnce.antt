-- When the vertical deviation is infinite whatever the sizes are: the first curve is infinite somewhere, or the faster one.
use Rattle.std.specs.Prelude.{◌≡◌, pos, List, [], ◌∷◌, Option, Some, None}
use Rattle.std.proofs.Common.{arith, ◌∙◌, subst, inl, inr}
use Rattle.rational.specs.Rational.{ℚ, ◌+ℚ◌, ◌≤ℚ◌, ◌<ℚ◌, int}
use Rattle.rational.specs.Extended.{Ext, ◌<ₑ◌}
use Rattle.rational.specs.declared.Extended.TheVariants.{Inf}
use Rattle.rational.proofs.Linear.{with1, with2}
use Rattle.upp_curve.specs.declared.affine_segment.line.Piece.{Piece}
use Rattle.upp_curve.specs.declared.curve.Tail.{Tail}
use Rattle.upp_curve.specs.declared.curve.Tail.TheVariants.{Periodic, Affine, Infinite}
use Rattle.upp_curve.specs.affine_segment.Reading.{read}
use Rattle.upp_curve.specs.Curve.{SpecCurve, value_at, with_tail, repeated}
use Rattle.upp_curve.specs.Curves.{IsCurve}
use Rattle.upp_curve.specs.affine_segment.Pieces.{StartsAtZero, Each}
use Rattle.upp_curve.specs.Normal.{TailFits}
use Rattle.upp_curve.specs.Shapes.{IsFinitePiece, IsNumber}
use Rattle.min_plus.specs.Functions.{IsFinite}
use Rattle.upp_curve.specs.Steady.{rise_over, rate}
use Rattle.min_plus.specs.Deviations.{IsVerticalDeviation}
use Rattle.upp_normal.specs.Ahead.{IsBeforeNext}
use Rattle.upp_curve.proofs.Finite.{level_of, read_number, repeated_number}
use Rattle.upp_curve.proofs.Repeats.{repeated_first}
use Rattle.upp_curve.proofs.Steady.{cut_past}
use Rattle.curve_call.specs.Ever.{RepeatsBy}
use Rattle.curve_call.proofs.LeastNumber.{gains}
use Rattle.curve_deviation.proofs.Infinite.{InfiniteTime, finite_or, infinite_deviation, gaining_deviation}
use Rattle.curve_call.proofs.EverAfter.{repeats_by}

-- ---- a curve that is not finite is infinite at some time
pub record IsInfiniteSomewhere (f : ℚ → Ext) : Type 0 where
  pub at : ℚ
  pub nonneg : int (pos 0) ≤ℚ at
  pub top : f at ≡ Inf

reads : (p : Piece) (ps : List Piece) (t : ℚ) → Each IsFinitePiece (p ∷ ps) → IsNumber (read (p ∷ ps) t)
unfolding read
reads p ps t h = read_number p ps t h

read_top : (p : Piece) (ps : List Piece) (end : Option ℚ) (k : InfiniteTime p ps end) → read (p ∷ ps) k.at ≡ Inf
unfolding read
read_top p ps end k = k.top

each_open : (ps : List Piece) → Each (λ q. IsBeforeNext q.x None) ps
each_open [] = tt
each_open (p ∷ ps) = (tt, each_open ps)

somewhere : (ps : List Piece) (tail : Tail) → StartsAtZero ps → TailFits ps tail → ¬ (IsFinite (with_tail (read ps) tail)) → IsInfiniteSomewhere (with_tail (read ps) tail)
somewhere [] tail h fits not = absurd h
somewhere (p ∷ ps) (Periodic rank period rise) h fits not = elim (finite_or (Some (rank +ℚ period)) p ps h.1 fits.starts) [
  | inl all ↦ absurd (not (λ t some. level_of (repeated (read (p ∷ ps)) rank period rise t) (repeated_number (read (p ∷ ps)) rank period rise t (λ u. reads p ps u all))))
  | inr k ↦ record {
    at = k.at;
    nonneg = subst (λ x. x ≤ℚ k.at) h.0 k.start;
    top = repeated_first (read (p ∷ ps)) rank period rise k.at fits.some k.before ∙ read_top p ps (Some (rank +ℚ period)) k;
  }
]
somewhere (p ∷ ps) (Affine rank) h fits not = elim (finite_or None p ps h.1 (each_open (p ∷ ps))) [
  | inl all ↦ absurd (not (λ t some. level_of (read (p ∷ ps) t) (reads p ps t all)))
  | inr k ↦ record { at = k.at; nonneg = subst (λ x. x ≤ℚ k.at) h.0 k.start; top = read_top p ps None k }
]
somewhere (p ∷ ps) (Infinite rank) h fits not =
    let low = fits.nonneg in
    record {
      at = rank +ℚ int (pos 1);
      nonneg = with1 rank (λ c. omega (arith, c.le, c.lt, c.same));
      top = cut_past (read (p ∷ ps)) rank (rank +ℚ int (pos 1)) (with1 rank (λ c. omega (arith, c.le, c.lt, c.same)));
    }

pub infinite_somewhere : (c : SpecCurve) → IsCurve c → ¬ (IsFinite (value_at c)) → IsInfiniteSomewhere (value_at c)
unfolding value_at
infinite_somewhere c curve not =
    let found = somewhere c.pieces c.tail curve.normal.raw.starts curve.normal.raw.tail (λ f. not (λ t h. f t h)) in
    record { at = found.at; nonneg = found.nonneg; top = found.top }

-- ---- the deviation is infinite then
pub not_finite_deviation : (f g : SpecCurve) → IsCurve f → ¬ (IsFinite (value_at f)) → IsFinite (value_at g) → IsVerticalDeviation (value_at f) (value_at g) Inf
not_finite_deviation f g curve not finite =
    let found = infinite_somewhere f curve not in
    infinite_deviation (value_at f) (value_at g) found.at found.nonneg found.top finite

pub faster_deviation : (f g : SpecCurve) (from d : ℚ) → int (pos 0) <ℚ d → int (pos 0) ≤ℚ from → RepeatsBy from d f → RepeatsBy from d g → rate g <ₑ rate f
    → IsFinite (value_at f) → IsFinite (value_at g) → IsVerticalDeviation (value_at f) (value_at g) Inf
faster_deviation f g from d some low F G faster first second =
    let (v, e) = first from low in
    let a = rise_over f d in
    let b = rise_over g d in
    let more = gains g f d from v F.curve some faster F.steady_by e in
    gaining_deviation (value_at f) (value_at g) from d a b some low (repeats_by from d f some F) (repeats_by from d g some G) (with2 a b (λ c. omega (arith, c.le, c.lt, c.same))) first second
