-- One side of the walk over two windows: the pieces so far, the present one, and those that are left read as the window.
use Rattle.std.specs.Prelude.{◌≡◌, pos, List, [], ◌∷◌, ◌++◌}
use Rattle.std.proofs.Common.{sym, ap, ◌∙◌, refl, subst}
use Rattle.rational.specs.Rational.{ℚ, ◌≤ℚ◌, ◌<ℚ◌, int}
use Rattle.rational.proofs.Laws.{le_refl}
use Rattle.upp_curve.specs.declared.affine_segment.line.Piece.{Piece}
use Rattle.upp_curve.specs.affine_segment.Reading.{read, line_in}
use Rattle.upp_curve.specs.affine_segment.Pieces.{StartsAtZero}
use Rattle.upp_curve.proofs.affine_segment.PieceIn.{value_at_start}
use Rattle.curve_call.specs.Stretches.{cut_at, IsPieceOf}
use Rattle.curve_call.proofs.Surgery.{one_more, BeforeNext, read_middle, line_middle, rest_rises, start_nonneg, before_own, cut_reads, cut_lines, cut_rises}

pub record WalkOf (f : List Piece) (done : List Piece) (p : Piece) (rest : List Piece) : Type 0 where
  pub starts : StartsAtZero (done ++ p ∷ rest)
  pub reads : (t : ℚ) → int (pos 0) ≤ℚ t → read (done ++ p ∷ rest) t ≡ read f t
  pub lines : (t : ℚ) → int (pos 0) ≤ℚ t → line_in (done ++ p ∷ rest) t ≡ line_in f t

pub walk_start : (p : Piece) (ps : List Piece) → StartsAtZero (p ∷ ps) → WalkOf (p ∷ ps) [] p ps
walk_start p ps h = record { starts = h; reads = λ t l. refl; lines = λ t l. refl }

-- the next piece becomes the present one
pub walk_take : (f done : List Piece) (p q : Piece) (qs : List Piece) → WalkOf f done p (q ∷ qs) → WalkOf f (done ++ p ∷ []) q qs
walk_take f done p q qs h =
    let e = sym (one_more done p (q ∷ qs)) in
    record {
      starts = subst StartsAtZero e h.starts;
      reads = λ t l. sym (ap (λ z. read z t) e) ∙ h.reads t l;
      lines = λ t l. sym (ap (λ z. line_in z t) e) ∙ h.lines t l;
    }

-- the present piece is cut at x
pub walk_cut : (f done : List Piece) (p : Piece) (rest : List Piece) (x : ℚ) → WalkOf f done p rest → p.x <ℚ x → BeforeNext x rest
    → WalkOf f (done ++ p ∷ []) (cut_at p x) rest
walk_cut f done p rest x h past early =
    let e = sym (one_more done p (cut_at p x ∷ rest)) in
    record {
      starts = subst StartsAtZero e (cut_rises done p rest x h.starts past early);
      reads = λ t l. sym (ap (λ z. read z t) e) ∙ cut_reads done p rest x t past early ∙ h.reads t l;
      lines = λ t l. sym (ap (λ z. line_in z t) e) ∙ cut_lines done p rest x t past early ∙ h.lines t l;
    }

-- the present piece is read from the window
pub walk_piece : (f done : List Piece) (p : Piece) (rest : List Piece) → WalkOf f done p rest → IsPieceOf f p
walk_piece f done p rest h =
    let low = start_nonneg done p rest h.starts in
    let early = before_own p rest (rest_rises done p rest h.starts) in
    record {
      at = sym (value_at_start p) ∙ sym (read_middle done p rest p.x h.starts (le_refl p.x) early) ∙ h.reads p.x low;
      line = sym (line_middle done p rest p.x h.starts (le_refl p.x) early) ∙ h.lines p.x low;
    }

-- and its line goes on up to the next start
pub walk_line : (f done : List Piece) (p : Piece) (rest : List Piece) (x : ℚ) → WalkOf f done p rest → int (pos 0) ≤ℚ x → p.x ≤ℚ x → BeforeNext x rest → line_in f x ≡ p.line
walk_line f done p rest x h low past early = sym (h.lines x low) ∙ line_middle done p rest x h.starts past early
