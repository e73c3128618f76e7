-- The loop that tests whether pieces join: what is left of a list after some steps.
use Rattle.std.specs.Prelude.{◌≡◌, ◌↔◌, ℕ, ◌+◌, ◌<◌, ◌≤◌, List, ◌∷◌, length, Option, Some}
use Rattle.std.proofs.Common.{get_or, drop, sym, refl, subst}
use Rattle.upp_curve.specs.declared.affine_segment.line.Piece.{Piece}
use Rattle.upp_curve.specs.declared.shape.End.{End}
use Rattle.upp_curve.specs.affine_segment.Fits.{LineFitsAt}
use Rattle.upp_curve.specs.Readable.{LineFitsTo, EachFits}
use Rattle.upp_curve.specs.Shapes.{end_time}
use Rattle.upp_curve.specs.JoinedPieces.{PieceJoins, PiecesJoin}
use Rattle.upp_curve.proofs.affine_segment.NextPiece.{next_piece, none_left}

-- ---- each piece against the next one
pub record JoinLoop (end : Option End) (first : Piece) (rest : List Piece) (last : Piece) (left : List Piece) : Type 0 where
  pub fits : EachFits (end_time end) (last ∷ left)
  pub same : PiecesJoin end (first ∷ rest) ↔ PiecesJoin end (last ∷ left)

pub join_start : (end : Option End) (first : Piece) (rest : List Piece) → EachFits (end_time end) (first ∷ rest) → JoinLoop end first rest first (drop 0 rest)
join_start end first rest h = record { fits = subst (λ z. EachFits (end_time end) (first ∷ z)) (sym none) h; same = (λ k. subst (λ z. PiecesJoin end (first ∷ z)) (sym none) k, λ k. subst (λ z. PiecesJoin end (first ∷ z)) none k) }
  where
    none : drop 0 rest ≡ rest
    none = refl

-- a further piece p
pub join_fits : (end : Option End) (first last p : Piece) (rest : List Piece) (j : ℕ) → JoinLoop end first rest last (drop j rest) → j < length rest → p ≡ get_or rest j p
    → LineFitsAt last.x last.line × LineFitsAt p.x last.line
join_fits end first last p rest j inv h e =
    let fits = subst (λ z. EachFits (end_time end) (last ∷ z)) (next_piece p rest j h e) inv.fits in
    (fits.0, fits.1)

pub join_on : (end : Option End) (first last p : Piece) (rest : List Piece) (j : ℕ) → JoinLoop end first rest last (drop j rest) → j < length rest → p ≡ get_or rest j p
    → PieceJoins last (Some record { x = p.x; at = p.at }) → JoinLoop end first rest p (drop (j + 1) rest)
join_on end first last p rest j inv h e holds =
    let shape = next_piece p rest j h e in
    record {
      fits = (subst (λ z. EachFits (end_time end) (last ∷ z)) shape inv.fits).2;
      same = (
        λ all. (subst (λ z. PiecesJoin end (last ∷ z)) shape (inv.same.0 all)).1,
        λ left. inv.same.1 (subst (λ z. PiecesJoin end (last ∷ z)) (sym shape) (holds, left)),
      );
    }

pub join_off : (end : Option End) (first last p : Piece) (rest : List Piece) (j : ℕ) → JoinLoop end first rest last (drop j rest) → j < length rest → p ≡ get_or rest j p
    → ¬ (PieceJoins last (Some record { x = p.x; at = p.at })) → ¬ (PiecesJoin end (first ∷ rest))
join_off end first last p rest j inv h e fails all = fails (subst (λ z. PiecesJoin end (last ∷ z)) (next_piece p rest j h e) (inv.same.0 all)).0

-- no further piece
pub join_last_fits : (end : Option End) (first last : Piece) (rest : List Piece) (j : ℕ) → JoinLoop end first rest last (drop j rest) → length rest ≤ j
    → LineFitsAt last.x last.line × LineFitsTo (end_time end) last.line
join_last_fits end first last rest j inv h =
    let fits = subst (λ z. EachFits (end_time end) (last ∷ z)) (none_left rest j h) inv.fits in
    (fits.0, fits.1)

pub join_end : (end : Option End) (first last : Piece) (rest : List Piece) (j : ℕ) → JoinLoop end first rest last (drop j rest) → length rest ≤ j
    → PiecesJoin end (first ∷ rest) ↔ PieceJoins last end
join_end end first last rest j inv h =
    let none = none_left rest j h in (
      λ all. (subst (λ z. PiecesJoin end (last ∷ z)) none (inv.same.0 all)).0,
      λ holds. inv.same.1 (subst (λ z. PiecesJoin end (last ∷ z)) (sym none) (holds, tt)),
    )
