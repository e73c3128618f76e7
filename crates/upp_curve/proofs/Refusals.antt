-- What a refusal says, said of another step.
use Rattle.std.specs.Prelude.{◌≡◌, Result, Ok, Err, IfErr, List, [], ◌∷◌}
use Rattle.std.proofs.Common.{refl, subst}
use Rattle.rational.specs.Rational.{ℚ}
use Rattle.fraction128.specs.declared.fault.Wide.{Wide}
use Rattle.upp_curve.specs.declared.affine_segment.line.Piece.{Piece}
use Rattle.upp_curve.specs.affine_segment.Pieces.{StartsAtZero}
use Rattle.upp_curve.specs.affine_segment.Reading.{piece_in}
use Rattle.upp_curve.specs.Steps.{IsWideLine, IsWideRead}

pub err_map : {A E : Type 0} (r : Result A E) (P Q : E → Type 0) → ((w : E) → P w → Q w) → IfErr r P → IfErr r Q
err_map (Ok x) P Q f h = h
err_map (Err e) P Q f h = f e h

-- ---- what is read of the piece that was found
pub wide_found : (ps : List Piece) (found : Piece) (t : ℚ) (w : Wide) → StartsAtZero ps → ((p : Piece) (qs : List Piece) → ps ≡ p ∷ qs → found ≡ piece_in p qs t)
    → IsWideLine found.line t w → IsWideRead ps t w
wide_found [] found t w h f k = absurd h
wide_found (p ∷ qs) found t w h f k = subst (λ z. IsWideLine z.line t w) (f p qs refl) k
