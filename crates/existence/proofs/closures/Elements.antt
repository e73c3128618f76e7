-- The closure of each element of a curve exists: it is a curve, or one that is too wide for any call.
use Rattle.std.specs.Prelude.{◌⊎◌, ℕ, suc, ◌^◌, List, [], ◌∷◌, None, Some, Ok}
use Rattle.std.proofs.Common.{◌≡◌, inl, inr, refl, subst}
use Rattle.std.proofs.lemmas.Bool.{cases_lt}
use Rattle.rational.specs.Rational.{ℚ}
use Rattle.rational.specs.Extended.{Ext}
use Rattle.rational.specs.declared.Extended.TheVariants.{Fin, Inf}
use Rattle.rational.proofs.Laws.{le_or_lt, antisym}
use Rattle.upp_curve.specs.declared.affine_segment.line.Line.{Line}
use Rattle.upp_curve.specs.declared.affine_segment.line.Piece.{Piece}
use Rattle.upp_curve.specs.declared.affine_segment.element.Element.{Element}
use Rattle.upp_curve.specs.declared.affine_segment.element.Element.TheVariants.{Point, Open}
use Rattle.upp_curve.specs.declared.curve.Tail.TheVariants.{Periodic}
use Rattle.upp_curve.specs.affine_segment.Values.{line_at}
use Rattle.upp_curve.specs.affine_segment.Reading.{nothing_at}
use Rattle.upp_curve.specs.affine_segment.Fits.{LineFitsAt}
use Rattle.upp_curve.specs.Curve.{SpecCurve, value_at}
use Rattle.upp_curve.specs.Curves.{IsCurve}
use Rattle.min_plus.specs.Functions.{zero_q, IsFinite, IsNonnegative}
use Rattle.min_plus.specs.closure_laws.Star.{nat_times}
use Rattle.upp_limits.specs.Limits.{own_gauge}
use Rattle.subadd_closure.specs.ElementAnswers.{IsElementClosure, IsOpenPart}
use Rattle.subadd_closure.specs.ElementCurves.{turn, all_stretches, level_closure, point_at_zero}
use Rattle.subadd_closure.specs.Heavy.{IsHeavy}
use Rattle.subadd_closure.specs.SegmentLimits.{IsElementOf}
use Rattle.subadd_closure.proofs.ElementFits.{point_start, point_low}
use Rattle.subadd_closure.proofs.HeavyCurves.{own_heavy}
use Rattle.subadd_closure.proofs.PointAnswers.{point_piece, zero_curve, ready_point, ready_zero}
use Rattle.subadd_closure.proofs.SegmentAnswers.{made_answer, made_ok, level_blind, level_curve, single_made, ready_level, ready_rising, ready_falling, ready_endless_level, ready_endless_falling}
use Rattle.existence.proofs.curves.Forms.{own_curve}
use Rattle.existence.proofs.closures.SmallParts.{slopes_or_not}

pub record IsFoundClosure (e : Element) : Type 0 where
  pub curve : SpecCurve
  pub closes : IsElementClosure e curve
  pub sort : IsCurve curve ⊎ IsHeavy curve

-- ---- one that repeats
turning : (e : Element) (ps : List Piece) (R d x : ℚ)
    → (let c : SpecCurve = record { pieces = ps; tail = Periodic R d x } in IsElementClosure e c) → IsFoundClosure e
turning e ps R d x h =
    let c : SpecCurve = record { pieces = ps; tail = Periodic R d x } in
    elim (cases_lt (own_gauge c) (2 ^ 120)) [
      | inl small ↦
          let (k, curve, same) = own_curve c h.normal.raw small in
          record { curve = k; closes = made_answer e c (Ok k) h.normal h.closes (made_ok c k same curve); sort = inl curve }
      | inr large ↦ record { curve = c; closes = h; sort = inr (own_heavy ps R d x h.normal.raw.tail.some large) }
    ]

-- ---- points
pub point_found : (f : SpecCurve) (x v : ℚ) → IsCurve f → IsFinite (value_at f) → IsNonnegative (value_at f)
    → IsElementOf f (Point x v) → IsFoundClosure (Point x v)
point_found f x v F fin low among = elim (le_or_lt x zero_q) [
  | inl early ↦ record {
    curve = point_at_zero v;
    closes = ready_zero x v (point_start f x v F.normal among) early (point_low f x v F.normal fin low among);
    sort = inl (zero_curve v);
  }
  | inr late ↦ turning (Point x v) (nothing_at zero_q ∷ point_piece x v ∷ []) x x v (ready_point x v late)
]

-- ---- segments
level_found : (a b : ℚ) (l : Line) (m : ℕ) → l.icept ≡ zero_q → IsElementClosure (Open a (Fin b) l) (level_closure a b l m)
    → IsFoundClosure (Open a (Fin b) l)
level_found a b l m flat h =
    let v = all_stretches a b l m [] in
    elim (slopes_or_not None v) [
      | inl reads ↦ record { curve = level_closure a b l m; closes = h; sort = inl (level_curve a b l m v refl flat h.normal reads) }
      | inr blind ↦ record { curve = level_closure a b l m; closes = h; sort = inr (level_blind a b l m v refl h.normal blind) }
    ]

ended_found : (a b : ℚ) (l : Line) (m : ℕ) → IsOpenPart a (Fin b) l m → IsFoundClosure (Open a (Fin b) l)
ended_found a b l m part = elim (le_or_lt zero_q l.icept) [
  | inr down ↦
      let n = nat_times (suc (suc m)) a in
      turning (Open a (Fin b) l) (all_stretches a b l m (turn n l (suc m) (suc (suc m)) ∷ [])) n a (line_at l a)
      (ready_falling a b l m part down)
  | inl up ↦ elim (le_or_lt l.icept zero_q) [
    | inl flat ↦
        let is : l.icept ≡ zero_q = antisym (flat, up) in
        level_found a b l m is (ready_level a b l m part is)
    | inr rise ↦
        let n = nat_times (suc m) b in
        turning (Open a (Fin b) l) (all_stretches a b l m (turn n l (suc (suc m)) (suc (suc m)) ∷ [])) n b (line_at l b)
        (ready_rising a b l m part rise)
  ]
]

endless_found : (a : ℚ) (l : Line) → IsOpenPart a Inf l 0 → LineFitsAt a (Some l) → IsFoundClosure (Open a Inf l)
endless_found a l part reads = elim (le_or_lt zero_q l.icept) [
  | inr down ↦
      let n = nat_times 2 a in
      turning (Open a Inf l) (all_stretches a zero_q l 0 (turn n l 1 2 ∷ [])) n a (line_at l a)
      (ready_endless_falling a zero_q l part down)
  | inl up ↦
      let h = ready_endless_level a zero_q l part up in
      record { curve = level_closure a zero_q l 0; closes = h; sort = inl (single_made a l reads h.normal) }
]

pub segment_found : (a : ℚ) (b : Ext) (l : Line) (m : ℕ) → IsOpenPart a b l m → LineFitsAt a (Some l)
    → ((b ≡ Inf) → m ≡ 0) → IsFoundClosure (Open a b l)
segment_found a (Fin b) l m part reads none = ended_found a b l m part
segment_found a Inf l m part reads none =
    endless_found a l (subst (IsOpenPart a Inf l) (none refl) part) reads
