-- What a deconvolution keeps of its first operand, and that it is finite.
use Rattle.std.specs.Prelude.{◌≡◌, pos, List, [], ◌∷◌, Option, Some, None}
use Rattle.std.proofs.Common.{arith, sym, ◌∙◌, refl, subst, inl, inr}
use Rattle.rational.specs.Rational.{ℚ, ◌+ℚ◌, ◌-ℚ◌, ◌*ℚ◌, ◌≤ℚ◌, ◌<ℚ◌, int}
use Rattle.rational.specs.Grid.{Within}
use Rattle.rational.specs.Extended.{Ext, ◌≤ₑ◌, ◌-ₑ◌}
use Rattle.rational.specs.declared.Extended.TheVariants.{Fin, Inf}
use Rattle.rational.proofs.Grid.{within_add, within_weaken}
use Rattle.rational.proofs.Integers.{nat_nonneg}
use Rattle.rational.proofs.Linear.{with1, with2, with3, with4}
use Rattle.rational.proofs.MinMax.{max_q_ge_left, max_q_ge_right}
use Rattle.rational.proofs.Laws.{le_or_lt, le_refl, le_trans, le_of_lt}
use Rattle.rational.proofs.ExtendedOrder.{le_ext_trans, finite_below, fin_same}
use Rattle.rational.proofs.Bounds.{smallest}
use Rattle.upp_curve.specs.declared.affine_segment.line.Line.{Line}
use Rattle.upp_curve.specs.declared.affine_segment.line.Piece.{Piece}
use Rattle.upp_curve.specs.affine_segment.Values.{line_at, line_value}
use Rattle.upp_curve.specs.affine_segment.Reading.{read, piece_in, piece_value}
use Rattle.upp_curve.specs.Curve.{SpecCurve, value_at}
use Rattle.upp_curve.specs.Curves.{IsCurve}
use Rattle.min_plus.specs.Functions.{zero_q, IsRising, IsNonnegative, FiniteTime}
use Rattle.upp_curve.specs.affine_segment.Pieces.{Each, StartsAtZero}
use Rattle.upp_curve.specs.Steady.{steady, rise_over}
use Rattle.upp_limits.specs.Periods.{common_period, both_steady}
use Rattle.upp_curve.specs.Unrolled.{unroll}
use Rattle.upp_limits.specs.Gauges.{both_numbers}
use Rattle.upp_limits.specs.Limits.{Sizes, curve_numbers, sizes_of}
use Rattle.upp_limits.specs.Sized.{AreSizes, LineStands, Stands, ValueStands}
use Rattle.upp_normal.proofs.Below.{unroll_reads}
use Rattle.upp_limits.proofs.CurveStands.{are_sizes}
use Rattle.upp_curve.proofs.affine_segment.PieceIn.{value_past, value_by}
use Rattle.upp_limits.proofs.NarrowSizes.{run_within}
use Rattle.upp_normal.proofs.NormaliseRoomy.{each_in, found_early}
use Rattle.upp_limits.proofs.Stands.{sizes_stand, stands_left, stands_right}
use Rattle.upp_normal.proofs.UnrolledPieces.{PieceStands, each_nonneg, each_with, pieces_stand, unroll_each, unroll_starts}
use Rattle.upp_limits.proofs.PieceLists.{starts_nonneg}
use Rattle.curve_call.proofs.CurveRises.{common_first, common_second}
use Rattle.curve_deconv.specs.DeconvolutionLaws.{IsDeconvolved, DeconvolutionKeeps, DeconvolutionIsFinite}
use Rattle.curve_deconv.proofs.Reduced.{AreRepeating, early}
use Rattle.curve_deconv.proofs.Slower.{slower_rise, repeats_from}
use Rattle.upp_curve.proofs.SteadyTimes.{steady_nonneg}
use Rattle.curve_call.proofs.CurveTimes.{common_some}
use Rattle.element_envelope.proofs.Growth.{line_gains}

-- ---- of any functions
pub sub_le : (x y : Ext) (c : ℚ) → x ≤ₑ y → x -ₑ c ≤ₑ y -ₑ c
sub_le Inf Inf c h = tt
sub_le (Fin x) Inf c h = tt
sub_le Inf (Fin y) c h = absurd h
sub_le (Fin x) (Fin y) c h = with3 x y c (λ e. omega (arith, e.le, e.lt, e.same))

rises : (f g h : ℚ → Ext) → IsDeconvolved f g h → IsRising f → IsRising h
rises f g h D R s t low l =
    let t_low : int (pos 0) ≤ℚ t = le_trans low l in
    smallest {I = FiniteTime g} (λ u. f (s +ℚ u.at) -ₑ u.level) (h s) (h t) (D s low)
    (λ u.
    let at = u.at in
    let n = u.nonneg in
    let start : int (pos 0) ≤ℚ s +ℚ at = with2 s at (λ c. omega (arith, c.le, c.lt, c.same)) in
    let more : s +ℚ at ≤ℚ t +ℚ at = with3 s t at (λ c. omega (arith, c.le, c.lt, c.same)) in
    le_ext_trans (f (s +ℚ at) -ₑ u.level) (f (t +ℚ at) -ₑ u.level) (h t) (sub_le (f (s +ℚ at)) (f (t +ℚ at)) u.level (R (s +ℚ at) (t +ℚ at) start more)) ((D t t_low).above u))

above_first : (f g h : ℚ → Ext) (level : ℚ) → IsDeconvolved f g h → g zero_q ≡ Fin level → (t : ℚ) → zero_q ≤ℚ t → f t -ₑ level ≤ₑ h t
above_first f g h level D e t low =
    let same : t +ℚ int (pos 0) ≡ t = with1 t (λ c. omega (arith, c.le, c.lt, c.same)) in
    subst (λ w. f w -ₑ level ≤ₑ h t) same ((D t low).above record { at = int (pos 0); nonneg = le_refl (int (pos 0)); level = level; is = e })

nonnegative : (f g h : ℚ → Ext) (level : ℚ) → IsDeconvolved f g h → g zero_q ≡ Fin level → level ≤ℚ zero_q → IsNonnegative f → IsNonnegative h
nonnegative f g h level D e less N t low = le_ext_trans (Fin zero_q) (f t -ₑ level) (h t) (by (f t) (N t low)) (above_first f g h level D e t low)
  where
    by : (x : Ext) → Fin zero_q ≤ₑ x → Fin zero_q ≤ₑ x -ₑ level
    by Inf k = tt
    by (Fin x) k = with2 x level (λ c. omega (arith, c.le, c.lt, c.same))

pub deconvolution_keeps : DeconvolutionKeeps
deconvolution_keeps = record { rising = rises; above = above_first; nonnegative = nonnegative }

-- ---- a curve is bounded up to a time
one_more : (v : ℚ) → int (pos 0) ≤ℚ v → v ≤ℚ v +ℚ v
one_more v h = with1 v (λ c. omega (arith, c.le, c.lt, c.same))

line_bounded : (z : Sizes) (end x t v : ℚ) (o : Option Line) → AreSizes z end → int (pos 0) ≤ℚ x → x ≤ℚ t → t ≤ℚ end → ValueStands z (line_value o x) → LineStands z o → line_value o t ≡ Fin v
    → Within (int (pos z.largest) +ℚ int (pos z.largest)) v
line_bounded z end x t v None A low late high V S e = absurd (none e)
  where
    none : Inf ≡ Fin v → ⊥
    none k = cc
line_bounded z end x t v (Some l) A low late high V S e =
    let m = int (pos z.largest) in
    let far = t -ℚ x in
    let nonneg : int (pos 0) ≤ℚ far = with2 t x (λ c. omega (arith, c.le, c.lt, c.same)) in
    let most : far ≤ℚ end = with3 t x end (λ c. omega (arith, c.le, c.lt, c.same)) in
    subst (Within (m +ℚ m)) (sym (line_gains l x t) ∙ fin_same e) (within_add m m (line_at l x) (l.slope *ℚ far) V.within (run_within z end l.slope far A S nonneg most))

value_bounded : (z : Sizes) (w : Ext) (v : ℚ) → ValueStands z w → w ≡ Fin v → Within (int (pos z.largest) +ℚ int (pos z.largest)) v
value_bounded z Inf v V e = absurd (none e)
  where
    none : Inf ≡ Fin v → ⊥
    none k = cc
value_bounded z (Fin w) v V e =
    let m = int (pos z.largest) in
    subst (Within (m +ℚ m)) (fin_same e) (within_weaken m (m +ℚ m) w (one_more m (nat_nonneg z.largest)) V.within)

piece_bounded : (z : Sizes) (end t v : ℚ) (p : Piece) → AreSizes z end → int (pos 0) ≤ℚ p.x → p.x ≤ℚ t → t ≤ℚ end → PieceStands z p → piece_value p t ≡ Fin v → Within (int (pos z.largest) +ℚ int (pos z.largest)) v
piece_bounded z end t v p A low late high P e = elim (le_or_lt t p.x) [
  | inl k ↦ value_bounded z p.at v P.at (sym (value_by p t k) ∙ e)
  | inr k ↦ line_bounded z end p.x t v p.line A low late high P.after P.slope (sym (value_past p t k) ∙ e)
]

record FromZero (z : Sizes) (p : Piece) : Type 0 where
  low : int (pos 0) ≤ℚ p.x
  stands : PieceStands z p

pieces_bounded : (z : Sizes) (end t v : ℚ) (ps : List Piece) → AreSizes z end → StartsAtZero ps → Each (FromZero z) ps → int (pos 0) ≤ℚ t → t ≤ℚ end → read ps t ≡ Fin v
    → Within (int (pos z.largest) +ℚ int (pos z.largest)) v
unfolding read
pieces_bounded z end t v [] A S E low high e = absurd S
pieces_bounded z end t v (p ∷ ps) A S E low high e =
    let Q = each_in (FromZero z) p ps t E.0 E.1 in
    piece_bounded z end t v (piece_in p ps t) A Q.low (found_early p ps t (subst (λ x. x ≤ℚ t) (sym S.0) low)) high Q.stands e

pub curve_bounded : (z : Sizes) (end t v : ℚ) (c : SpecCurve) → IsCurve c → AreSizes z end → int (pos 0) <ℚ end → Stands z (curve_numbers end c) → int (pos 0) ≤ℚ t → t <ℚ end → value_at c t ≡ Fin v
    → Within (int (pos z.largest) +ℚ int (pos z.largest)) v
curve_bounded z end t v c C A some S low early e =
    let ps = unroll c end in
    let starts = unroll_starts c end some C.normal in
    let stand = unroll_each (PieceStands z) c end C.normal (pieces_stand z end c S) in
    let from : Each (FromZero z) ps =
    each_with (λ p. int (pos 0) ≤ℚ p.x) (PieceStands z) (FromZero z) (λ p l P. record { low = l; stands = P }) ps (each_nonneg ps (starts_nonneg ps starts)) stand in
    pieces_bounded z end t v ps A starts from low (le_of_lt early) (unroll_reads c end t C.normal low early ∙ e)

-- ---- so is the deconvolution at a time
difference_most : (x y m : ℚ) → Within (m +ℚ m) x → Within (m +ℚ m) y → x -ℚ y ≤ℚ (m +ℚ m) +ℚ (m +ℚ m)
difference_most x y m X Y =
    let a = X.high in
    let b = Y.low in
    with3 x y m (λ c. omega (arith, c.le, c.lt, c.same))

pub deconvolution_is_finite : DeconvolutionIsFinite
deconvolution_is_finite f g h F G first second slow D t low =
    let d = common_period f g in
    let from = both_steady f g in
    let reach = from +ℚ d in
    let end = t +ℚ reach +ℚ d in
    let some = common_some f g F G in
    let f_by : steady f ≤ℚ from = max_q_ge_left (steady f) (steady g) in
    let g_by : steady g ≤ℚ from = max_q_ge_right (steady f) (steady g) in
    let from_low : int (pos 0) ≤ℚ from = le_trans (steady_nonneg f F) f_by in
    let end_some : int (pos 0) <ℚ end = with3 t from d (λ c. omega (arith, c.le, c.lt, c.same)) in
    let n = both_numbers end f g in
    let z = sizes_of end n in
    let A = are_sizes end n in
    let all : Stands z n = sizes_stand end n in
    let m = int (pos z.largest) in
    let bound = (m +ℚ m) +ℚ (m +ℚ m) in
    let R : AreRepeating (value_at f) (value_at g) from d (rise_over f d) (rise_over g d) reach = record {
      some = some;
      low = from_low;
      left = repeats_from f from d F some (common_first f g F G) f_by;
      right = repeats_from g from d G some (common_second f g F G) g_by;
      less = slower_rise f g d G some second slow;
      reach_is = refl;
      finite = second;
    } in
    let most = early (value_at f) (value_at g) from d (rise_over f d) (rise_over g d) reach t (Fin bound) R low
    (λ u.
    let at = u.at in
    let nonneg = u.nonneg in
    let most = u.most in
    let there : int (pos 0) ≤ℚ t +ℚ at = with2 t at (λ c. omega (arith, c.le, c.lt, c.same)) in
    let inside : t +ℚ at <ℚ end = with4 t at from d (λ c. omega (arith, c.le, c.lt, c.same)) in
    let short : at <ℚ end = with4 t at from d (λ c. omega (arith, c.le, c.lt, c.same)) in
    let (x, e) = first (t +ℚ at) there in
    let X = curve_bounded z end (t +ℚ at) x f F A end_some (stands_left z (curve_numbers end f) (curve_numbers end g) all) there inside e in
    let Y = curve_bounded z end at u.level g G A end_some (stands_right z (curve_numbers end f) (curve_numbers end g) all) nonneg short u.is in
    subst (λ w. w -ₑ u.level ≤ₑ Fin bound) (sym e) (difference_most x u.level m X Y)) in
    finite_below (h t) bound (smallest {I = FiniteTime (value_at g)} (λ u. value_at f (t +ℚ u.at) -ₑ u.level) (h t) (Fin bound) (D t low) most)
