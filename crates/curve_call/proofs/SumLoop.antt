-- The loop that adds up two windows, stretch by stretch.
use Rattle.std.specs.Prelude.{◌≡◌, ◌+◌, ◌-◌, ◌<◌, ◌≤◌, List, [], ◌∷◌, ◌++◌, length}
use Rattle.std.proofs.Common.{sym, ap, ◌∙◌, refl, subst}
use Rattle.upp_curve.specs.declared.affine_segment.line.Piece.{Piece}
use Rattle.curve_call.specs.declared.stretch.Both.{Both}
use Rattle.curve_call.specs.declared.stretch.Walk.{Walk}
use Rattle.curve_call.specs.Stretches.{EachBoth, IsBothOf, CutsFit}
use Rattle.curve_call.specs.Walk.{IsStep, NextFits}
use Rattle.curve_call.specs.Pointwise.{mapped, sum_piece, StretchSumFits, SumsFit, IsWindowSum}
use Rattle.curve_call.proofs.OverlayLoop.{OverlayLoop, overlay_step, step_fewer, next_fits, overlay_end}
use Rattle.curve_call.proofs.MadeLoop.{each_last}
use Rattle.curve_call.proofs.Sums.{sum_is}

-- the pieces so far are the sums of the stretches that the walk has passed
pub record SumLoop (f g ps : List Piece) (w : Walk) : Type 0 where
  pub passed : List Both
  pub is : ps ≡ mapped sum_piece passed
  pub walk : OverlayLoop f g passed w

mapped_more : (m : Both → Piece) (bs : List Both) (b : Both) → mapped m (bs ++ b ∷ []) ≡ mapped m bs ++ m b ∷ []
mapped_more m [] b = refl
mapped_more m (c ∷ cs) b = ap (λ z. m c ∷ z) (mapped_more m cs b)

-- the steps of the present stretch fit
pub here_fits : (f g : List Piece) (passed : List Both) (w : Walk) → SumsFit f g → OverlayLoop f g passed w → StretchSumFits w.here
here_fits f g passed w S L = S w.here (each_last (IsBothOf f g) L.done w.here (subst (EachBoth (IsBothOf f g)) L.is L.each))

pub next_stretch_fits : (f g ps : List Piece) (w v : Walk) → SumsFit f g → SumLoop f g ps w → IsStep f g w v → StretchSumFits v.here
next_stretch_fits f g ps w v S L T = here_fits f g (L.passed ++ v.here ∷ []) v S (overlay_step f g L.passed w v L.walk T)

pub sum_start : (f g ps : List Piece) (w : Walk) → OverlayLoop f g (w.here ∷ []) w → ps ≡ sum_piece w.here ∷ [] → SumLoop f g ps w
sum_start f g ps w L e = record { passed = w.here ∷ []; is = e; walk = L }

pub sum_step : (f g ps more : List Piece) (w v : Walk) (p : Piece) → SumLoop f g ps w → IsStep f g w v → p ≡ sum_piece v.here → more ≡ ps ++ p ∷ [] → SumLoop f g more v
sum_step f g ps more w v p L T e pushed = record {
  passed = L.passed ++ v.here ∷ [];
  is = pushed ∙ ap (λ z. z ++ p ∷ []) L.is ∙ ap (λ z. mapped sum_piece L.passed ++ z ∷ []) e ∙ sym (mapped_more sum_piece L.passed v.here);
  walk = overlay_step f g L.passed w v L.walk T;
}

pub cuts_go_on : (f g ps : List Piece) (w : Walk) → CutsFit f g → SumLoop f g ps w → NextFits f g w
cuts_go_on f g ps w C L = next_fits f g L.passed w C L.walk

pub fewer_left : (f g ps : List Piece) (w v : Walk) → SumLoop f g ps w → IsStep f g w v → (length f - v.i) + (length g - v.j) < (length f - w.i) + (length g - w.j)
fewer_left f g ps w v L T = step_fewer f g L.passed w v L.walk T

pub sum_end : (f g ps : List Piece) (w : Walk) → SumLoop f g ps w → length f ≤ w.i → length g ≤ w.j → IsWindowSum f g ps
sum_end f g ps w L hi hj = sum_is f g L.passed ps (overlay_end f g L.passed w L.walk hi hj) L.is
