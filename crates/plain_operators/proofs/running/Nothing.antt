-- The curve that is 0 at every time.
use Rattle.std.specs.Prelude.{◌≡◌, pos, List, [], ◌∷◌, ◌++◌, Some}
use Rattle.std.proofs.Common.{sym, ap, ap₂, ◌∙◌, refl, subst}
use Rattle.rational.specs.Rational.{ℚ, ◌≤ℚ◌, int}
use Rattle.rational.specs.Ratio.{IsSmall}
use Rattle.rational.specs.declared.Extended.TheVariants.{Fin}
use Rattle.upp_curve.specs.declared.affine_segment.line.Piece.{Piece}
use Rattle.upp_curve.specs.declared.curve.Tail.TheVariants.{Affine}
use Rattle.upp_curve.specs.Curve.{SpecCurve, value_at}
use Rattle.upp_curve.specs.Curves.{IsCurve}
use Rattle.min_plus.specs.Functions.{zero_q}
use Rattle.upp_curve.proofs.ReadableKinds.{bucket_curve}
use Rattle.curve_call.specs.Levels.{level_curve}
use Rattle.curve_call.proofs.Levels.{level_value}

abbrev pub IsNothing : List Piece → ℚ → Type 0
IsNothing items rank = (items ≡ record { x = zero_q; at = Fin zero_q; line = Some record { icept = zero_q; slope = zero_q } } ∷ []) × (rank ≡ zero_q)

pub nothing_is : (items none : List Piece) (a b c d rank : ℚ) → none ≡ [] → items ≡ none ++ record { x = a; at = Fin b; line = Some record { icept = c; slope = d } } ∷ [] → a ≡ zero_q → b ≡ zero_q → c ≡ zero_q → d ≡ zero_q
    → rank ≡ zero_q → IsNothing items rank
nothing_is items none a b c d rank n e ha hb hc hd hr = (rw (e, n, ha, hb, hc, hd) refl, hr)

-- as the code makes it
unfoldable made : List Piece → ℚ → SpecCurve
made items rank = record { pieces = items; tail = Affine rank }

zero_curve : (items : List Piece) (rank : ℚ) → IsNothing items rank → made items rank ≡ level_curve zero_q
unfolding made
zero_curve items rank h = ap₂ made h.0 h.1

pub nothing_curve : (items : List Piece) (rank : ℚ) → IsSmall zero_q → IsNothing items rank → IsCurve record { pieces = items; tail = Affine rank }
unfolding made
nothing_curve items rank s h = subst IsCurve (sym (zero_curve items rank h)) (bucket_curve zero_q zero_q s)

pub nothing_value : (items : List Piece) (rank : ℚ) (c : SpecCurve) (t : ℚ) → IsNothing items rank → c ≡ record { pieces = items; tail = Affine rank } → int (pos 0) ≤ℚ t → value_at c t ≡ Fin (int (pos 0))
unfolding made
nothing_value items rank c t h e low = ap (λ k. value_at k t) (e ∙ zero_curve items rank h) ∙ level_value zero_q t low
