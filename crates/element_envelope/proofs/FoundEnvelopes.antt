-- The least of all pairs of two lists of elements, one element after another, and the convolution of two windows from it.
use Rattle.std.specs.Prelude.{pos, List, [], ◌∷◌}
use Rattle.std.proofs.Common.{refl, inl}
use Rattle.rational.specs.Rational.{ℚ, int}
use Rattle.rational.specs.declared.Extended.TheVariants.{Inf}
use Rattle.upp_curve.specs.declared.affine_segment.line.Piece.{Piece}
use Rattle.upp_curve.specs.declared.affine_segment.element.Element.{Element}
use Rattle.upp_curve.specs.affine_segment.Reading.{nothing_at}
use Rattle.upp_curve.specs.Unrolled.{upto}
use Rattle.curve_call.proofs.Existing.{lower_window}
use Rattle.element_envelope.specs.ConvolutionWindows.{OperandWindows, IsConvolutionWindow, WindowsFrom, IsConvolutionFrom}
use Rattle.element_envelope.specs.EnvelopeWindows.{EnvelopeRoom, IsEnvelopeWindow}
use Rattle.element_envelope.specs.JoinedWindows.{window_of}
use Rattle.element_envelope.specs.PieceElements.{elements_of}
use Rattle.element_envelope.proofs.EnvelopeHalves.{none_left, none_right, left_front, left_back, right_front, right_back, left_ready, right_ready, left_halves, right_halves}
use Rattle.element_envelope.proofs.JoinedReads.{window_is}
use Rattle.element_envelope.proofs.PairWindows.{pair_is, pair_start}
use Rattle.element_envelope.proofs.CopyWindows.{from_zero, since_zero}
use Rattle.element_envelope.proofs.WindowConvolution.{room_of, envelope_convolves}
use Rattle.element_envelope.proofs.FoundPairs.{pair_of}

abbrev HasEnvelope : ℚ → List Element → List Element → Type 0
HasEnvelope end xs ys = (ps : List Piece) × IsEnvelopeWindow end xs ys ps

-- ---- one pair
one_pair : (end : ℚ) (a b : Element) → EnvelopeRoom end (a ∷ []) (b ∷ []) → HasEnvelope end (a ∷ []) (b ∷ [])
one_pair end a b r =
    let (j, C, P) = pair_of a b (r.left_proper a (inl refl)) (r.right_proper b (inl refl)) in
    (upto end (window_of j), pair_is end a b j (window_of j) r.some C P (window_is j (window_of j) (pair_start end a b j r C) C.adjoined refl))

-- ---- one of the first list with each of the second
with_each : (end : ℚ) (a : Element) (ys : List Element) → EnvelopeRoom end (a ∷ []) ys → HasEnvelope end (a ∷ []) ys
with_each end a [] r = (nothing_at (int (pos 0)) ∷ [], none_right end (a ∷ []) [] refl)
with_each end a (b ∷ ys) r =
    let (f, F) = one_pair end a b (right_front end (a ∷ []) (b ∷ ys) (b ∷ []) ys refl r) in
    let (g, G) = with_each end a ys (right_back end (a ∷ []) (b ∷ ys) (b ∷ []) ys refl r) in
    let ready = right_ready end (a ∷ []) (b ∷ ys) (b ∷ []) ys f g refl r F G in
    let (ps, L) = lower_window f g end F.starts G.starts ready.fits in
    (ps, right_halves end (a ∷ []) (b ∷ ys) (b ∷ []) ys f g ps refl F G L)

pub envelope_of : (end : ℚ) (xs ys : List Element) → EnvelopeRoom end xs ys → (ps : List Piece) × IsEnvelopeWindow end xs ys ps
envelope_of end [] ys r = (nothing_at (int (pos 0)) ∷ [], none_left end [] ys refl)
envelope_of end (a ∷ xs) ys r =
    let (f, F) = with_each end a ys (left_front end (a ∷ xs) (a ∷ []) xs ys refl r) in
    let (g, G) = envelope_of end xs ys (left_back end (a ∷ xs) (a ∷ []) xs ys refl r) in
    let ready = left_ready end (a ∷ xs) (a ∷ []) xs ys f g refl r F G in
    let (ps, L) = lower_window f g end F.starts G.starts ready.fits in
    (ps, left_halves end (a ∷ xs) (a ∷ []) xs ys f g ps refl F G L)

-- ---- two windows
pub convolution_from : (from end : ℚ) (f g : List Piece) → WindowsFrom from end f g → (ps : List Piece) × IsConvolutionFrom f g from end ps
convolution_from from end f g r =
    let (ps, E) = envelope_of end (elements_of f Inf) (elements_of g Inf) (room_of from end f g r) in (ps, envelope_convolves from end f g ps r E)

-- from 0 on
pub convolution_of : (end : ℚ) (f g : List Piece) → OperandWindows end f g → (ps : List Piece) × IsConvolutionWindow f g end ps
convolution_of end f g r = let (ps, K) = convolution_from (int (pos 0)) end f g (from_zero end f g r) in (ps, since_zero end f g ps K)
