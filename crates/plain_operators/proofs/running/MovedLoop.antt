-- A loop that moves pieces right.
use Rattle.std.specs.Prelude.{◌≡◌, ℕ, ◌+◌, ◌<◌, ◌≤◌, List, [], ◌∷◌, ◌++◌, length, map}
use Rattle.std.proofs.Common.{get_or, drop, drop_of_length-le, append-nil, sym, ap, ◌∙◌, subst}
use Rattle.rational.specs.Rational.{ℚ, ◌≤ℚ◌, ◌<ℚ◌}
use Rattle.upp_curve.specs.declared.affine_segment.line.Piece.{Piece}
use Rattle.upp_curve.specs.affine_segment.Pieces.{Each}
use Rattle.upp_curve.specs.Unrolled.{upto}
use Rattle.upp_curve.proofs.affine_segment.NextPiece.{next_piece}
use Rattle.upp_curve.proofs.Unique.{upto_none, upto_some, upto_end}
use Rattle.curve_call.proofs.Surgery.{one_more}
use Rattle.plain_operators.specs.running.Moved.{moved_piece, moved_right, PieceMoves}

pub record MovedLoop (theta end : ℚ) (ps left out : List Piece) : Type 0 where
  pub holds : Each (PieceMoves theta) left
  pub same : out ++ upto end (map (moved_piece theta) left) ≡ moved_right theta end ps

pub moved_step : (theta end : ℚ) (ps out : List Piece) (j : ℕ) (p q : Piece) → MovedLoop theta end ps (drop j ps) out → j < length ps → p ≡ get_or ps j p
    → q ≡ moved_piece theta p → q.x <ℚ end → MovedLoop theta end ps (drop (j + 1) ps) (out ++ q ∷ [])
moved_step theta end ps out j p q L h e is early =
    let shape = next_piece p ps j h e in
    let rest = map (moved_piece theta) (drop (j + 1) ps) in
    let all : upto end (map (moved_piece theta) (drop j ps)) ≡ q ∷ upto end rest =
    ap (λ z. upto end (map (moved_piece theta) z)) shape ∙ ap (λ z. upto end (z ∷ rest)) (sym is) ∙ upto_some end q rest early in
    record {
      holds = (subst (Each (PieceMoves theta)) shape L.holds).1;
      same = one_more out q (upto end rest) ∙ ap (λ z. out ++ z) (sym all) ∙ L.same;
    }

pub moved_stop : (theta end : ℚ) (ps out : List Piece) (j : ℕ) (p q : Piece) → MovedLoop theta end ps (drop j ps) out → j < length ps → p ≡ get_or ps j p
    → q ≡ moved_piece theta p → end ≤ℚ q.x → out ≡ moved_right theta end ps
moved_stop theta end ps out j p q L h e is late =
    let shape = next_piece p ps j h e in
    let rest = map (moved_piece theta) (drop (j + 1) ps) in
    let none : upto end (map (moved_piece theta) (drop j ps)) ≡ [] =
    ap (λ z. upto end (map (moved_piece theta) z)) shape ∙ ap (λ z. upto end (z ∷ rest)) (sym is) ∙ upto_none end q rest late in
    sym (append-nil out) ∙ ap (λ z. out ++ z) (sym none) ∙ L.same

pub moved_end : (theta end : ℚ) (ps out : List Piece) (j : ℕ) → MovedLoop theta end ps (drop j ps) out → length ps ≤ j → out ≡ moved_right theta end ps
moved_end theta end ps out j L h =
    sym (append-nil out) ∙ ap (λ z. out ++ z) (sym (ap (λ z. upto end (map (moved_piece theta) z)) (drop_of_length-le ps h) ∙ upto_end end)) ∙ L.same
