-- Loops over pieces: what is left of a list after some steps.
use Rattle.std.specs.Prelude.{◌≡◌, ◌↔◌, ℕ, zero, suc, ◌+◌, ◌-◌, ◌<◌, ◌≤◌, List, [], ◌∷◌, length, slice_get, Option, Some, None}
use Rattle.std.proofs.Common.{arith, get_or, drop, sym, ap, refl, subst}
use Rattle.upp_curve.specs.declared.affine_segment.line.Piece.{Piece}
use Rattle.upp_curve.proofs.affine_segment.NextPiece.{next_piece, none_left}
use Rattle.upp_curve.specs.declared.shape.End.{End}
use Rattle.upp_curve.specs.affine_segment.Pieces.{Each}
use Rattle.upp_curve.specs.affine_segment.Fits.{LineFitsAt}
use Rattle.upp_curve.specs.Readable.{LineFitsTo, EachFits}
use Rattle.upp_curve.specs.Steady.{last_of, last_line}
use Rattle.upp_curve.specs.Shapes.{PieceRises, PiecesRise, end_time}

-- ---- a test of each piece
pub each_on : (P : Piece → Type 0) (ps : List Piece) (j : ℕ) (p : Piece) → (Each P ps ↔ Each P (drop j ps)) → j < length ps → p ≡ get_or ps j p → P p
    → (Each P ps ↔ Each P (drop (j + 1) ps))
each_on P ps j p inv h e holds =
    let shape = next_piece p ps j h e in
    (λ all. (subst (Each P) shape (inv.0 all)).1, λ rest. inv.1 (subst (Each P) (sym shape) (holds, rest)))

pub each_off : (P : Piece → Type 0) (ps : List Piece) (j : ℕ) (p : Piece) → (Each P ps ↔ Each P (drop j ps)) → j < length ps → p ≡ get_or ps j p → ¬ (P p) → ¬ (Each P ps)
each_off P ps j p inv h e fails all = fails (subst (Each P) (next_piece p ps j h e) (inv.0 all)).0

pub each_end : (P : Piece → Type 0) (ps : List Piece) (j : ℕ) → (Each P ps ↔ Each P (drop j ps)) → length ps ≤ j → Each P ps
each_end P ps j inv h = inv.1 (subst (Each P) (sym (none_left ps j h)) tt)

-- ---- each piece against the next one
pub record RisingLoop (end : Option End) (first : Piece) (rest : List Piece) (last : Piece) (left : List Piece) : Type 0 where
  pub fits : EachFits (end_time end) (last ∷ left)
  pub same : PiecesRise end (first ∷ rest) ↔ PiecesRise end (last ∷ left)

pub rising_start : (end : Option End) (first : Piece) (rest : List Piece) → EachFits (end_time end) (first ∷ rest) → RisingLoop end first rest first (drop 0 rest)
rising_start end first rest h = record { fits = subst (λ z. EachFits (end_time end) (first ∷ z)) (sym none) h; same = (λ k. subst (λ z. PiecesRise end (first ∷ z)) (sym none) k, λ k. subst (λ z. PiecesRise end (first ∷ z)) none k) }
  where
    none : drop 0 rest ≡ rest
    none = refl

-- a further piece p
pub rising_fits : (end : Option End) (first last p : Piece) (rest : List Piece) (j : ℕ) → RisingLoop end first rest last (drop j rest) → j < length rest → p ≡ get_or rest j p
    → LineFitsAt last.x last.line × LineFitsAt p.x last.line
rising_fits end first last p rest j inv h e =
    let fits = subst (λ z. EachFits (end_time end) (last ∷ z)) (next_piece p rest j h e) inv.fits in
    (fits.0, fits.1)

pub rising_on : (end : Option End) (first last p : Piece) (rest : List Piece) (j : ℕ) → RisingLoop end first rest last (drop j rest) → j < length rest → p ≡ get_or rest j p
    → PieceRises last (Some record { x = p.x; at = p.at }) → RisingLoop end first rest p (drop (j + 1) rest)
rising_on end first last p rest j inv h e holds =
    let shape = next_piece p rest j h e in
    record {
      fits = (subst (λ z. EachFits (end_time end) (last ∷ z)) shape inv.fits).2;
      same = (
        λ all. (subst (λ z. PiecesRise end (last ∷ z)) shape (inv.same.0 all)).1,
        λ left. inv.same.1 (subst (λ z. PiecesRise end (last ∷ z)) (sym shape) (holds, left)),
      );
    }

pub rising_off : (end : Option End) (first last p : Piece) (rest : List Piece) (j : ℕ) → RisingLoop end first rest last (drop j rest) → j < length rest → p ≡ get_or rest j p
    → ¬ (PieceRises last (Some record { x = p.x; at = p.at })) → ¬ (PiecesRise end (first ∷ rest))
rising_off end first last p rest j inv h e fails all = fails (subst (λ z. PiecesRise end (last ∷ z)) (next_piece p rest j h e) (inv.same.0 all)).0

-- no further piece
pub rising_last_fits : (end : Option End) (first last : Piece) (rest : List Piece) (j : ℕ) → RisingLoop end first rest last (drop j rest) → length rest ≤ j
    → LineFitsAt last.x last.line × LineFitsTo (end_time end) last.line
rising_last_fits end first last rest j inv h =
    let fits = subst (λ z. EachFits (end_time end) (last ∷ z)) (none_left rest j h) inv.fits in
    (fits.0, fits.1)

pub rising_end : (end : Option End) (first last : Piece) (rest : List Piece) (j : ℕ) → RisingLoop end first rest last (drop j rest) → length rest ≤ j
    → PiecesRise end (first ∷ rest) ↔ PieceRises last end
rising_end end first last rest j inv h =
    let none = none_left rest j h in (
      λ all. (subst (λ z. PiecesRise end (last ∷ z)) none (inv.same.0 all)).0,
      λ holds. inv.same.1 (subst (λ z. PiecesRise end (last ∷ z)) (sym none) (holds, tt)),
    )

-- ---- the last piece
last_got : (p : Piece) (ps : List Piece) (n : ℕ) (q : Piece) → n ≡ length ps → slice_get (p ∷ ps) n ≡ Some q → last_of p ps ≡ q
last_got p [] zero q e h = let found : Some p ≡ Some q = h in cc
last_got p [] (suc n) q e h = absurd (omega arith)
last_got p (r ∷ rs) zero q e h = absurd (omega arith)
last_got p (r ∷ rs) (suc n) q e h = last_got r rs n q (omega arith) h

pub last_is : (ps : List Piece) (q : Piece) → slice_get ps (length ps - 1) ≡ Some q → last_line ps ≡ q.line
last_is [] q h = let none : None ≡ Some q = h in cc
last_is (p ∷ ps) q h =
    let n : length (p ∷ ps) - 1 ≡ length ps = omega arith in
    ap (λ z. z.line) (last_got p ps (length ps) q refl (subst (λ k. slice_get (p ∷ ps) k ≡ Some q) n h))
