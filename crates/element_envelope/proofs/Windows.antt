-- Before the end of two windows, and of the pieces of two curves, the least of all pairs of elements is the convolution.
use Rattle.std.specs.Prelude.{◌≡◌, pos, List}
use Rattle.std.proofs.Common.{arith, sym, ap₂, ◌∙◌}
use Rattle.rational.specs.Rational.{ℚ, ◌≤ℚ◌, ◌<ℚ◌, int}
use Rattle.rational.specs.Extended.{Ext, ◌≤ₑ◌, ◌<ₑ◌, ◌+ₑ◌}
use Rattle.rational.specs.declared.Extended.TheVariants.{Fin}
use Rattle.rational.proofs.Linear.{with3}
use Rattle.rational.proofs.Laws.{le_lt_trans}
use Rattle.rational.proofs.ExtendedOrder.{same_le_ext, lt_le_ext, le_lt_ext, finite_sum}
use Rattle.rational.proofs.Bounds.{same_infimum}
use Rattle.upp_curve.specs.declared.affine_segment.line.Piece.{Piece}
use Rattle.upp_curve.specs.Curve.{SpecCurve, value_at}
use Rattle.upp_curve.specs.affine_segment.Pieces.{StartsAtZero}
use Rattle.upp_curve.specs.affine_segment.Reading.{read}
use Rattle.min_plus.specs.Convolution.{Split, IsConvolution}
use Rattle.upp_curve.specs.Unrolled.{unroll}
use Rattle.upp_normal.proofs.Below.{unroll_reads}
use Rattle.upp_curve.proofs.affine_segment.PieceOrder.{each_map}
use Rattle.upp_normal.proofs.UnrolledPieces.{unroll_starts, unroll_before}
use Rattle.element_envelope.specs.PieceElements.{elements_of, StartBefore}
use Rattle.element_envelope.specs.Envelopes.{ListSplit, list_sum}
use Rattle.element_envelope.specs.ConvolutionLaws.{PairsConvolveWindows, PairsConvolveCurves}
use Rattle.element_envelope.proofs.Members.{Matched, matched_in, matched_out}
use Rattle.element_envelope.proofs.Cover.{cover, element_times}

-- the parts of a split are at most the whole
first_least : {t : ℚ} (s : Split t) → s.first ≤ℚ t
first_least {t} s =
    let x = s.first in
    let y = s.second in
    let n = s.second_nonneg in
    let e = s.whole in
    with3 x y t (λ c. omega (arith, c.le, c.lt, c.same))

second_least : {t : ℚ} (s : Split t) → s.second ≤ℚ t
second_least {t} s =
    let x = s.first in
    let y = s.second in
    let n = s.first_nonneg in
    let e = s.whole in
    with3 x y t (λ c. omega (arith, c.le, c.lt, c.same))

-- ---- windows
matched : (f g : List Piece) (end : Ext) (t : ℚ) → StartsAtZero f → StartsAtZero g → StartBefore end f → StartBefore end g → Fin t <ₑ end
    → Matched {I = Split t} (λ s. read f s.first +ₑ read g s.second) (list_sum (elements_of f end) (elements_of g end) t)
matched f g end t hf hg bf bg early = record { down = down; up = up }
  where
    before : (x : ℚ) → x ≤ℚ t → Fin x <ₑ end
    before x h = le_lt_ext (Fin x) (Fin t) end h early

    down : (s : Split t) (q : ℚ) → read f s.first +ₑ read g s.second ≡ Fin q
        → (j : ListSplit (elements_of f end) (elements_of g end) t) × (list_sum (elements_of f end) (elements_of g end) t j ≤ₑ Fin q)
    down s q is =
        let cf = cover f end hf bf in
        let cg = cover g end hg bg in
        let (a, b, p, r) = finite_sum (read f s.first) (read g s.second) q is in
        let d = cf.found s.first a s.first_nonneg (before s.first (first_least s)) p in
        let e = cg.found s.second b s.second_nonneg (before s.second (second_least s)) r in (
          record {
            left = d.element;
            right = e.element;
            left_in = d.among;
            right_in = e.among;
            split = record { first = s.first; second = s.second; first_in = d.covers; second_in = e.covers; whole = s.whole };
          },
          same_le_ext (ap₂ (λ (x y : Ext). x +ₑ y) (sym (cf.reads s.first d)) (sym (cg.reads s.second e)) ∙ is),
        )

    up : (j : ListSplit (elements_of f end) (elements_of g end) t) → (s : Split t) × (read f s.first +ₑ read g s.second ≤ₑ list_sum (elements_of f end) (elements_of g end) t j)
    up j =
        let s = j.split in
        let cf = cover f end hf bf in
        let cg = cover g end hg bg in
        let x = element_times f end s.first j.left hf bf j.left_in s.first_in in
        let y = element_times g end s.second j.right hg bg j.right_in s.second_in in (
          record { first = s.first; second = s.second; first_nonneg = x.0; second_nonneg = y.0; whole = s.whole },
          same_le_ext (ap₂ (λ (x y : Ext). x +ₑ y)
              (cf.reads s.first record { element = j.left; among = j.left_in; covers = s.first_in })
              (cg.reads s.second record { element = j.right; among = j.right_in; covers = s.second_in })),
        )

pub windows_convolve : PairsConvolveWindows
windows_convolve f g end t v hf hg bf bg early =
    let m = matched f g end t hf hg bf bg early in (
      λ h. matched_out {I = Split t} (λ s. read f s.first +ₑ read g s.second) (list_sum (elements_of f end) (elements_of g end) t) v m h,
      λ h. matched_in {I = Split t} (λ s. read f s.first +ₑ read g s.second) (list_sum (elements_of f end) (elements_of g end) t) v m h,
    )

-- ---- curves
-- functions that agree before `until` have one convolution there
pub agreeing : (f g p q : ℚ → Ext) (until t : ℚ) (v : Ext) → ((s : ℚ) → int (pos 0) ≤ℚ s → s <ℚ until → f s ≡ p s) → ((s : ℚ) → int (pos 0) ≤ℚ s → s <ℚ until → g s ≡ q s)
    → t <ℚ until → IsConvolution f g t v → IsConvolution p q t v
agreeing f g p q until t v h k early c =
    same_infimum {I = Split t} {J = Split t} (λ s. f s.first +ₑ g s.second) (λ s. p s.first +ₑ q s.second) v
    (λ s. (s, same_le_ext (sym (same s)))) (λ s. (s, same_le_ext (same s))) c
  where
    same : (s : Split t) → f s.first +ₑ g s.second ≡ p s.first +ₑ q s.second
    same s =
        ap₂ (λ (x y : Ext). x +ₑ y) (h s.first s.first_nonneg (le_lt_trans (first_least s) early)) (k s.second s.second_nonneg (le_lt_trans (second_least s) early))

pieces_before : (c : SpecCurve) (until : ℚ) (end : Ext) → Fin until ≤ₑ end → StartBefore end (unroll c until)
pieces_before c until end h = each_map (λ p. p.x <ℚ until) (λ p. Fin p.x <ₑ end) (λ p l. lt_le_ext (Fin p.x) (Fin until) end l h) (unroll c until) (unroll_before c until)

pub curves_convolve : PairsConvolveCurves
curves_convolve f g until end t v nf ng some long early =
    let F = read (unroll f until) in
    let G = read (unroll g until) in
    let inside : Fin t <ₑ end = lt_le_ext (Fin t) (Fin until) end early long in
    let w =
    windows_convolve (unroll f until) (unroll g until) end t v (unroll_starts f until some nf) (unroll_starts g until some ng)
    (pieces_before f until end long) (pieces_before g until end long) inside in
    let same_f : (s : ℚ) → int (pos 0) ≤ℚ s → s <ℚ until → F s ≡ value_at f s = λ s n l. unroll_reads f until s nf n l in
    let same_g : (s : ℚ) → int (pos 0) ≤ℚ s → s <ℚ until → G s ≡ value_at g s = λ s n l. unroll_reads g until s ng n l in (
      λ h. agreeing F G (value_at f) (value_at g) until t v same_f same_g early (w.0 h),
      λ h. w.1 (agreeing (value_at f) (value_at g) F G until t v (λ s n l. sym (same_f s n l)) (λ s n l. sym (same_g s n l)) early h),
    )
