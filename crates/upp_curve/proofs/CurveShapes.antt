-- What a curve's type keeps, by the kind of tail that a match found, and the answers on its shape.
use Rattle.std.specs.Prelude.{◌≡◌, ◌↔◌, Bool, IsTrue, List, [], ◌∷◌, Option, Some, None}
use Rattle.std.proofs.Common.{sym, ap, ◌∙◌, refl, subst}
use Rattle.rational.specs.Rational.{ℚ, ◌+ℚ◌}
use Rattle.rational.specs.Extended.{Ext, ◌+ₑ◌}
use Rattle.rational.specs.declared.Extended.TheVariants.{Fin}
use Rattle.upp_curve.specs.declared.affine_segment.line.Piece.{Piece}
use Rattle.upp_curve.specs.declared.curve.Tail.{Tail}
use Rattle.upp_curve.specs.declared.curve.Tail.TheVariants.{Periodic, Affine, Infinite}
use Rattle.upp_curve.specs.declared.shape.End.{End}
use Rattle.upp_curve.specs.affine_segment.Reading.{read}
use Rattle.upp_curve.specs.Curve.{SpecCurve, value_at}
use Rattle.upp_curve.specs.Curves.{IsCurve}
use Rattle.min_plus.specs.Functions.{IsFinite, IsRising}
use Rattle.upp_curve.specs.affine_segment.Pieces.{Each}
use Rattle.upp_curve.specs.Readable.{EachFits, TailReadable}
use Rattle.upp_curve.specs.Shapes.{IsFinitePiece, PiecesRise}
use Rattle.upp_curve.specs.Steady.{rate, rate_in}
use Rattle.upp_curve.proofs.RisingCurves.{IsEnd, GoesOn, period_end, rises_by_tail, pieces_by_tail, finite_by_tail, finite_pieces_by_tail, infinite_is_not_finite}

abbrev pub curve : List Piece → Tail → SpecCurve
curve ps tail = record { pieces = ps; tail = tail }

pub of_kind : (ps : List Piece) (tail k : Tail) → tail ≡ k → IsCurve (curve ps tail) → IsCurve (curve ps k)
of_kind ps tail k e h = subst (λ z. IsCurve (curve ps z)) e h

pub rate_of : (c : SpecCurve) (ps : List Piece) (tail k : Tail) → curve ps tail ≡ c → tail ≡ k → rate_in ps k ≡ rate c
unfolding rate
rate_of c ps tail k v e = ap (rate_in ps) (sym e) ∙ ap rate v

-- ---- rising
each_fits_free : (e : Option ℚ) (ps : List Piece) → EachFits e ps → EachFits None ps
each_fits_free e [] h = tt
each_fits_free e (p ∷ []) h = (h.0, tt, tt)
each_fits_free e (p ∷ q ∷ qs) h = (h.0, h.1, each_fits_free e (q ∷ qs) h.2)

pub free_fits : (ps : List Piece) (tail : Tail) → ((x y z : ℚ) → tail ≡ Periodic x y z → ⊥) → TailReadable ps tail → EachFits None ps
free_fits ps (Periodic r d c) none h = absurd (none r d c refl)
free_fits ps (Affine r) none h = h
free_fits ps (Infinite r) none h = each_fits_free (Some r) ps h

pub free_end : (ps : List Piece) (tail : Tail) → ((x y z : ℚ) → tail ≡ Periodic x y z → ⊥) → IsEnd ps tail None
free_end ps (Periodic r d c) none = absurd (none r d c refl)
free_end ps (Affine r) none = refl
free_end ps (Infinite r) none = refl

-- an end, by its time and its value
pub end_is : (ps : List Piece) (r d c : ℚ) (e : End) → e.x ≡ r +ℚ d → e.at ≡ read ps r +ₑ Fin c → Some e ≡ Some (period_end ps r d c)
end_is ps r d c e p q = ap Some (ends_are e (period_end ps r d c) p q)
  where
    ends_are : (a b : End) → a.x ≡ b.x → a.at ≡ b.at → a ≡ b
    ends_are a b p q = ap (λ x. make x a.at) p ∙ ap (make b.x) q
      where
        make : ℚ → Ext → End
        make x v = record { x = x; at = v }

pub rising_answer : (c : SpecCurve) (ps : List Piece) (tail : Tail) (end : Option End) (b : Bool) → curve ps tail ≡ c → IsCurve (curve ps tail) → IsEnd ps tail end
    → (IsTrue b ↔ PiecesRise end ps) → (IsTrue b ↔ IsRising (value_at c))
rising_answer c ps tail end b v h e k =
    subst (λ s. IsTrue b ↔ IsRising (value_at s)) v
    (λ t. rises_by_tail ps tail end h.normal e (k.0 t), λ r. k.1 (pieces_by_tail ps tail end h.normal e r))

-- ---- finite
pub goes_on : (tail : Tail) → ((x : ℚ) → tail ≡ Infinite x → ⊥) → GoesOn tail
goes_on (Periodic r d c) none = tt
goes_on (Affine r) none = tt
goes_on (Infinite r) none = none r refl

pub finite_answer : (c : SpecCurve) (ps : List Piece) (tail : Tail) (b : Bool) → curve ps tail ≡ c → IsCurve (curve ps tail) → GoesOn tail
    → (IsTrue b ↔ Each IsFinitePiece ps) → (IsTrue b ↔ IsFinite (value_at c))
finite_answer c ps tail b v h on k =
    subst (λ s. IsTrue b ↔ IsFinite (value_at s)) v
    (λ t. finite_by_tail ps tail h.normal on (k.0 t), λ f. k.1 (finite_pieces_by_tail ps tail h.normal on f))

pub not_finite : (c : SpecCurve) (ps : List Piece) (tail : Tail) (r : ℚ) → curve ps tail ≡ c → tail ≡ Infinite r → IsCurve (curve ps tail) → IsFinite (value_at c) → ⊥
not_finite c ps tail r v e h f =
    infinite_is_not_finite ps r (of_kind ps tail (Infinite r) e h).normal (subst (λ z. IsFinite (value_at (curve ps z))) e (subst (λ s. IsFinite (value_at s)) (sym v) f))
