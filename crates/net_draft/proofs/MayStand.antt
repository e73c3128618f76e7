-- Which curves of a draft a network may have.
use Rattle.std.specs.Prelude.{◌≡◌, ℕ, pos, List, [], ◌∷◌, Option, Some, None, Ok}
use Rattle.std.proofs.Common.{sym, ap, subst, ◌∙◌, arith, inl, inr}
use Rattle.rational.specs.Rational.{ℚ, int, ◌≤ℚ◌, ◌<ℚ◌}
use Rattle.rational.specs.Extended.{Ext, ◌≤ₑ◌}
use Rattle.rational.specs.declared.Extended.TheVariants.{Fin}
use Rattle.rational.proofs.Linear.{with2}
use Rattle.rational.proofs.Laws.{le_refl, le_or_lt}
use Rattle.rational.proofs.Integers.{nat_nonneg}
use Rattle.rational.proofs.ExtendedOrder.{le_ext_trans}
use Rattle.upp_curve.specs.Curve.{SpecCurve, value_at}
use Rattle.min_plus.specs.Functions.{zero_q, IsFinite, IsRising, IsNonnegative}
use Rattle.upp_curve.specs.Kinds.{bucket, stair, rate_latency, gate}
use Rattle.upp_curve.specs.affine_segment.Pieces.{Each}
use Rattle.upp_curve.specs.affine_segment.Reading.{read}
use Rattle.upp_curve.specs.Shapes.{IsNumber, IsFinitePiece}
use Rattle.upp_curve.proofs.Finite.{level_of, read_number, repeated_number}
use Rattle.upp_curve.proofs.RisingCurves.{read_is}
use Rattle.upp_curve.proofs.Repeats.{repeated_first}
use Rattle.curve_library.specs.declared.texts.PieceText.{PieceText}
use Rattle.curve_library.specs.declared.texts.TailText.{TailText}
use Rattle.curve_library.specs.declared.texts.UseAs.TheVariants.{Arrival, Service}
use Rattle.curve_library.specs.Listed.{text_piece, text_pieces, listed_curve, IsWellFormed, KeepsListed}
use Rattle.net_model.specs.Accepted.{IsServiceCurve, IsArrivalCurve, IsOfKind}
use Rattle.net_model.proofs.KindsStand.{kinds_may_stand}
use Rattle.net_draft.specs.Texts.{CurveText, Bucket, Stair, RateLatency, Gate, Listed, IsServiceOf, IsArrivalOf}
use Rattle.net_draft.specs.Made.{IsMade}
use Rattle.net_draft.specs.Laws.{kind_of, MadeMayStand}
use Rattle.curve_library.proofs.ListedParts.{read_first, smooth_same}

-- ---- numbers
nonneg : (x : ℚ) → ¬ (x <ℚ zero_q) → zero_q ≤ℚ x
nonneg x h = elim (le_or_lt zero_q x) [ inl l ↦ l | inr l ↦ absurd (h l) ]

at_most : (x y : ℚ) → ¬ (y <ℚ x) → x ≤ℚ y
at_most x y h = elim (le_or_lt x y) [ inl l ↦ l | inr l ↦ absurd (h l) ]

above : (x : ℚ) → ¬ (x ≤ℚ zero_q) → zero_q <ℚ x
above x h = elim (le_or_lt x zero_q) [ inl l ↦ absurd (h l) | inr l ↦ l ]

above_unless : (x : ℚ) → zero_q ≤ℚ x → ¬ (x ≡ zero_q) → zero_q <ℚ x
above_unless x h n = elim (le_or_lt x zero_q) [ inl l ↦ absurd (n (with2 x zero_q (λ c. omega (arith, c.le, c.lt, c.same)))) | inr l ↦ l ]

-- ---- functions that are one
module _ (f g : ℚ → Ext) (same : (t : ℚ) → zero_q ≤ℚ t → f t ≡ g t) where
  finite_same : IsFinite f → IsFinite g
  finite_same h t late = let (v, e) = h t late in (v, sym (same t late) ∙ e)

  rising_same : IsRising f → IsRising g
  rising_same rise s t low up = subst (λ v. v ≤ₑ g t) (same s low) (subst (λ v. f s ≤ₑ v) (same t (late s t low up)) (rise s t low up))
    where
      late : (s t : ℚ) → zero_q ≤ℚ s → s ≤ℚ t → zero_q ≤ℚ t
      late s t a b = with2 s t (λ c. omega (arith, c.le, c.lt, c.same))

-- ---- what is listed
finite_pieces : (ps : List PieceText) → Each IsFinitePiece (text_pieces ps)
finite_pieces [] = tt
finite_pieces (p ∷ ps) = (record { at = tt; line = tt }, finite_pieces ps)

listed_finite : (ps : List PieceText) (tail : Option TailText) → IsWellFormed ps tail → IsFinite (value_at (listed_curve ps tail))
unfolding value_at
listed_finite [] tail w t late = absurd w.order.starts
listed_finite (p ∷ ps) None w t late =
    level_of (read (text_pieces (p ∷ ps)) t) (subst IsNumber (sym (read_is (text_piece p) (text_pieces ps) t)) (read_number (text_piece p) (text_pieces ps) t (finite_pieces (p ∷ ps))))
listed_finite (p ∷ ps) (Some k) w t late =
    level_of (value_at (listed_curve (p ∷ ps) (Some k)) t)
    (repeated_number (read (text_pieces (p ∷ ps))) k.rank k.period k.rise t
    (λ u. subst IsNumber (sym (read_is (text_piece p) (text_pieces ps) u)) (read_number (text_piece p) (text_pieces ps) u (finite_pieces (p ∷ ps)))))

listed_start : (p : PieceText) (ps : List PieceText) (tail : Option TailText) → IsWellFormed (p ∷ ps) tail → value_at (listed_curve (p ∷ ps) tail) zero_q ≡ Fin p.at
unfolding value_at
listed_start p ps None w = read_first (text_piece p) (text_pieces ps) w.order.starts.0 w.order.starts.1
listed_start p ps (Some k) w =
    let low = w.nonneg.ending.0 in
    let some = w.length in
    let r = k.rank in
    let d = k.period in
    repeated_first (read (text_pieces (p ∷ ps))) k.rank k.period k.rise zero_q w.length (with2 r d (λ c. omega (arith, c.le, c.lt, c.same)))
    ∙ read_first (text_piece p) (text_pieces ps) w.order.starts.0 w.order.starts.1

-- a function that never falls is no lower than at 0
from_start : (f : ℚ → Ext) (v : ℚ) → f zero_q ≡ Fin v → zero_q ≤ℚ v → IsRising f → IsNonnegative f
from_start f v e h rise t late =
    le_ext_trans (Fin zero_q) (Fin v) (f t) h (subst (λ w. w ≤ₑ f t) e (rise zero_q t (le_refl zero_q) late))

start_nonneg : (ps : List PieceText) (tail : Option TailText) → IsWellFormed ps tail → IsRising (value_at (listed_curve ps tail)) → IsNonnegative (value_at (listed_curve ps tail))
start_nonneg [] tail w rise = absurd w.order.starts
start_nonneg (p ∷ ps) tail w rise = from_start (value_at (listed_curve (p ∷ ps) tail)) p.at (listed_start p ps tail w) w.nonneg.pieces.0.value rise

listed_service : (ps : List PieceText) (tail : Option TailText) (c : SpecCurve) → KeepsListed ps tail Service (Ok c) → IsServiceCurve c
listed_service ps tail c h =
    let f = value_at (listed_curve ps tail) in
    let back : (t : ℚ) → zero_q ≤ℚ t → f t ≡ value_at c t = λ t late. sym (h.1.0 t late) in
    record {
      finite = finite_same f (value_at c) back (listed_finite ps tail h.0);
      rising = rising_same f (value_at c) back h.1.2.rises;
      continuous = smooth_same f (value_at c) back h.1.2.smooth;
      at_zero = h.1.0 zero_q (le_refl zero_q) ∙ h.1.2.start;
    }

listed_arrival : (ps : List PieceText) (tail : Option TailText) (c : SpecCurve) → KeepsListed ps tail Arrival (Ok c) → IsArrivalCurve c
listed_arrival ps tail c h =
    let f = value_at (listed_curve ps tail) in
    let back : (t : ℚ) → zero_q ≤ℚ t → f t ≡ value_at c t = λ t late. sym (h.1.0 t late) in
    record {
      finite = finite_same f (value_at c) back (listed_finite ps tail h.0);
      rising = rising_same f (value_at c) back h.1.2;
      nonnegative = λ t late. subst (λ v. Fin zero_q ≤ₑ v) (back t late) (start_nonneg ps tail h.0 h.1.2 t late);
    }

-- ---- all texts
service_stands : (rate : ℚ) (t : CurveText) (c : SpecCurve) → IsServiceOf rate t → IsMade t (Ok c) → IsServiceCurve c
service_stands rate (Bucket b q) c own made = absurd own
service_stands rate (Stair l p j) c own made = absurd own
service_stands rate (RateLatency q t) c own made =
    subst IsServiceCurve (sym made.1.0) (kinds_may_stand.rate_latency q t (nonneg q (λ l. made.0.nonneg (inl l))) (nonneg t (λ l. made.0.nonneg (inr l))))
service_stands rate (Gate q k s) c own made =
    let low = nonneg s (λ l. made.0.nonneg (inr l)) in
    subst IsServiceCurve (sym made.1.0) (kinds_may_stand.gate q k s (nonneg q (λ l. made.0.nonneg (inl l)))
    (above_unless s low (λ e. made.0.period (inr (inl e)))) (at_most s k (λ l. made.0.period (inr (inr l)))))
service_stands rate (Listed ps tail u) c own made = listed_service ps tail c (subst (λ v. KeepsListed ps tail v (Ok c)) own made)

kind_stands : (rate : ℚ) (t : CurveText) (c : SpecCurve) → IsServiceOf rate t → IsMade t (Ok c) → IsOfKind rate (kind_of t) c
kind_stands rate (Bucket b q) c own made = absurd own
kind_stands rate (Stair l p j) c own made = absurd own
kind_stands rate (RateLatency q t) c own made = (nonneg t (λ l. made.0.nonneg (inr l)), made.1.0 ∙ ap (λ r. rate_latency r t) own)
kind_stands rate (Gate q k s) c own made =
    let low = nonneg s (λ l. made.0.nonneg (inr l)) in
    (above_unless s low (λ e. made.0.period (inr (inl e))), at_most s k (λ l. made.0.period (inr (inr l))), made.1.0 ∙ ap (λ r. gate r k s) own)
kind_stands rate (Listed ps tail u) c own made = tt

arrival_stands : (packet : ℕ) (t : CurveText) (c : SpecCurve) → IsArrivalOf packet t → IsMade t (Ok c) → IsArrivalCurve c
arrival_stands packet (Bucket b q) c own made =
    subst IsArrivalCurve (sym made.1) (kinds_may_stand.bucket b q (nonneg b (λ l. made.0 (inl l))) (nonneg q (λ l. made.0 (inr l))))
arrival_stands packet (Stair l p j) c own made =
    subst IsArrivalCurve (sym made.1.0) (kinds_may_stand.stair (int (pos l)) p j (nat_nonneg l) (above p made.0.period) (nonneg j made.0.nonneg))
arrival_stands packet (RateLatency q t) c own made = absurd own
arrival_stands packet (Gate q k s) c own made = absurd own
arrival_stands packet (Listed ps tail u) c own made = listed_arrival ps tail c (subst (λ v. KeepsListed ps tail v (Ok c)) own made)

pub made_may_stand : MadeMayStand
made_may_stand = record { service = service_stands; kind = kind_stands; arrival = arrival_stands }
