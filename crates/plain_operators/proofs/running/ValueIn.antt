-- The value of pieces at a time, by the piece that is found there.
use Rattle.std.specs.Prelude.{◌≡◌, List, [], ◌∷◌}
use Rattle.std.proofs.Common.{sym, ◌∙◌, refl, subst}
use Rattle.rational.specs.Rational.{ℚ}
use Rattle.rational.specs.Extended.{Ext}
use Rattle.upp_curve.specs.declared.affine_segment.line.Piece.{Piece}
use Rattle.upp_curve.specs.affine_segment.Pieces.{Each, StartsAtZero}
use Rattle.upp_curve.specs.affine_segment.Fits.{LineFitsAt}
use Rattle.upp_curve.specs.affine_segment.Reading.{read, piece_in, piece_value}
use Rattle.upp_curve.specs.Shapes.{IsNumber}
use Rattle.upp_curve.proofs.Finite.{each_in}
use Rattle.upp_curve.proofs.affine_segment.PieceIn.{read_found}

abbrev IsFound : List Piece → ℚ → Piece → Type 0
IsFound pieces t found = (p : Piece) (ps : List Piece) → pieces ≡ p ∷ ps → found ≡ piece_in p ps t

pub found_fits : (pieces : List Piece) (found : Piece) (t : ℚ) → StartsAtZero pieces → Each (λ p. LineFitsAt t p.line) pieces → IsFound pieces t found → LineFitsAt t found.line
found_fits [] found t s h f = absurd s
found_fits (p ∷ ps) found t s h f = subst (λ q. LineFitsAt t q.line) (sym (f p ps refl)) (each_in (λ q. LineFitsAt t q.line) p ps t h)

pub found_value : (pieces : List Piece) (found : Piece) (t : ℚ) (v : Ext) → StartsAtZero pieces → IsFound pieces t found → v ≡ piece_value found t → read pieces t ≡ v
found_value pieces found t v s f e = sym (e ∙ read_found pieces found t s f)

pub found_number : (pieces : List Piece) (found : Piece) (t : ℚ) (v : Ext) → StartsAtZero pieces → IsFound pieces t found → v ≡ piece_value found t → IsNumber (read pieces t) → IsNumber v
found_number pieces found t v s f e n = subst IsNumber (found_value pieces found t v s f e) n
