-- The least of all pairs of elements of two windows is their convolution.
use Rattle.std.specs.Prelude.{◌≡◌, List, [], ◌∷◌, Result, Ok, Err, IfOk, Vec}
use Rattle.std.proofs.Common.{sym, subst, Global}
use Rattle.rational.specs.Rational.{ℚ}
use Rattle.rational.specs.declared.Extended.TheVariants.{Inf}
use Rattle.upp_curve.specs.declared.affine_segment.line.Piece.{Piece}
use Rattle.upp_curve.specs.declared.affine_segment.element.Element.{Element}
use Rattle.upp_curve.specs.affine_segment.Reading.{read}
use Rattle.element_envelope.specs.PieceElements.{elements_of, StartBefore}
use Rattle.element_envelope.specs.EnvelopeWindows.{EnvelopeRoom, IsEnvelopeWindow}
use Rattle.element_envelope.specs.ConvolutionWindows.{WindowsFrom, IsConvolutionFrom}
use Rattle.element_envelope.proofs.Cover.{cover}
use Rattle.element_envelope.proofs.OperandElements.{window_elements_stand}
use Rattle.element_envelope.proofs.Windows.{windows_convolve}

-- every start is before infinity
pub endless : (ps : List Piece) → StartBefore Inf ps
endless [] = tt
endless (p ∷ ps) = (tt, endless ps)

pub room_of : (from end : ℚ) (f g : List Piece) → WindowsFrom from end f g → EnvelopeRoom end (elements_of f Inf) (elements_of g Inf)
room_of from end f g r = record {
  sizes = r.sizes;
  limited = r.limited;
  some = r.some;
  left_proper = λ e h. (cover f Inf r.left.starts (endless f)).proper e h;
  right_proper = λ e h. (cover g Inf r.right.starts (endless g)).proper e h;
  left = λ e h. window_elements_stand r.sizes end f Inf e r.left tt h;
  right = λ e h. window_elements_stand r.sizes end g Inf e r.right tt h;
}

-- of elements that are those of the windows
pub elements_room : (from end : ℚ) (f g : List Piece) (xs ys : List Element) → xs ≡ elements_of f Inf → ys ≡ elements_of g Inf → WindowsFrom from end f g → EnvelopeRoom end xs ys
elements_room from end f g xs ys e h r = subst (λ z. EnvelopeRoom end z ys) (sym e) (subst (λ z. EnvelopeRoom end (elements_of f Inf) z) (sym h) (room_of from end f g r))

pub envelope_convolves : (from end : ℚ) (f g : List Piece) (ps : List Piece) → WindowsFrom from end f g → IsEnvelopeWindow end (elements_of f Inf) (elements_of g Inf) ps → IsConvolutionFrom f g from end ps
unfolding room_of
envelope_convolves from end f g ps o E = record {
  starts = E.starts;
  reads = λ t low late high. (windows_convolve f g Inf t (read ps t) o.left.starts o.right.starts (endless f) (endless g) tt).0 (E.reads t low high);
  stands = λ r. E.stands (room_of from end f g r);
  arches = λ r. E.arches (room_of from end f g r);
}

pub ok_convolves : {E : Type 0} (r : Result (Vec Piece Global) E) (from end : ℚ) (f g : List Piece) (xs ys : List Element) → xs ≡ elements_of f Inf → ys ≡ elements_of g Inf → WindowsFrom from end f g
    → IfOk r (λ v. IsEnvelopeWindow end xs ys v.items) → IfOk r (λ v. IsConvolutionFrom f g from end v.items)
ok_convolves (Ok v) from end f g xs ys e h o k =
    envelope_convolves from end f g v.items o (subst (λ z. IsEnvelopeWindow end (elements_of f Inf) z v.items) h (subst (λ z. IsEnvelopeWindow end z ys v.items) e k))
ok_convolves (Err x) from end f g xs ys e h o k = k
