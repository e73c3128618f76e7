-- Loops over listed pieces: what is left of a list after some steps.
use Rattle.std.specs.Prelude.{◌≡◌, ◌↔◌, ℕ, zero, suc, ◌+◌, ◌-◌, ◌<◌, ◌≤◌, List, [], ◌∷◌, length, slice_get, Option, Some, None}
use Rattle.std.specs.List.{AllByRecursion}
use Rattle.std.proofs.Common.{arith, get_or, drop, drop_of_length-le, sym, ap, refl, subst}
use Rattle.rational.specs.Rational.{ℚ, ◌<ℚ◌}
use Rattle.upp_curve.specs.affine_segment.Pieces.{RisesFrom}
use Rattle.curve_library.specs.declared.texts.PieceText.{PieceText}
use Rattle.curve_library.specs.Listed.{text_pieces, last_from, last_start}
use Rattle.upp_curve.proofs.affine_segment.NextPiece.{next_piece}

-- ---- a test of each
pub all_on : {A : Type 0} (P : A → Type 0) (xs : List A) (j : ℕ) (x : A) → (AllByRecursion P xs ↔ AllByRecursion P (drop j xs)) → j < length xs → x ≡ get_or xs j x → P x
    → (AllByRecursion P xs ↔ AllByRecursion P (drop (j + 1) xs))
all_on P xs j x inv h e holds =
    let shape = next_piece x xs j h e in
    (λ all. (subst (AllByRecursion P) shape (inv.0 all)).1, λ rest. inv.1 (subst (AllByRecursion P) (sym shape) (holds, rest)))

pub all_off : {A : Type 0} (P : A → Type 0) (xs : List A) (j : ℕ) (x : A) → (AllByRecursion P xs ↔ AllByRecursion P (drop j xs)) → j < length xs → x ≡ get_or xs j x → ¬ (P x) → ¬ (AllByRecursion P xs)
all_off P xs j x inv h e fails all = fails (subst (AllByRecursion P) (next_piece x xs j h e) (inv.0 all)).0

pub all_end : {A : Type 0} (P : A → Type 0) (xs : List A) (j : ℕ) → (AllByRecursion P xs ↔ AllByRecursion P (drop j xs)) → length xs ≤ j → AllByRecursion P xs
all_end P xs j inv h = inv.1 (subst (AllByRecursion P) (sym (drop_of_length-le xs h)) tt)

-- ---- starts that rise
pub rise_on : (first last : ℚ) (ps : List PieceText) (j : ℕ) (p : PieceText) → (RisesFrom first (text_pieces ps) ↔ RisesFrom last (text_pieces (drop j ps))) → j < length ps → p ≡ get_or ps j p
    → last <ℚ p.x → (RisesFrom first (text_pieces ps) ↔ RisesFrom p.x (text_pieces (drop (j + 1) ps)))
rise_on first last ps j p inv h e holds =
    let shape = next_piece p ps j h e in
    (λ all. (subst (λ z. RisesFrom last (text_pieces z)) shape (inv.0 all)).1, λ rest. inv.1 (subst (λ z. RisesFrom last (text_pieces z)) (sym shape) (holds, rest)))

pub rise_off : (first last : ℚ) (ps : List PieceText) (j : ℕ) (p : PieceText) → (RisesFrom first (text_pieces ps) ↔ RisesFrom last (text_pieces (drop j ps))) → j < length ps → p ≡ get_or ps j p
    → ¬ (last <ℚ p.x) → ¬ (RisesFrom first (text_pieces ps))
rise_off first last ps j p inv h e fails all = fails (subst (λ z. RisesFrom last (text_pieces z)) (next_piece p ps j h e) (inv.0 all)).0

pub rise_end : (first last : ℚ) (ps : List PieceText) (j : ℕ) → (RisesFrom first (text_pieces ps) ↔ RisesFrom last (text_pieces (drop j ps))) → length ps ≤ j → RisesFrom first (text_pieces ps)
rise_end first last ps j inv h = inv.1 (subst (λ z. RisesFrom last (text_pieces z)) (sym (drop_of_length-le ps h)) tt)

-- ---- the last start
last_got : (p : PieceText) (ps : List PieceText) (n : ℕ) (q : PieceText) → n ≡ length ps → slice_get (p ∷ ps) n ≡ Some q → last_from p ps ≡ q.x
last_got p [] zero q e h = some_is p q h
  where
    some_is : (p q : PieceText) → Some p ≡ Some q → p.x ≡ q.x
    some_is p q h = ap (λ o. or_else p o) h
      where
        or_else : PieceText → Option PieceText → ℚ
        or_else p None = p.x
        or_else p (Some r) = r.x
last_got p [] (suc n) q e h = absurd (omega arith)
last_got p (r ∷ rs) zero q e h = absurd (omega arith)
last_got p (r ∷ rs) (suc n) q e h = last_got r rs n q (omega arith) h

pub last_is : (ps : List PieceText) (q : PieceText) → slice_get ps (length ps - 1) ≡ Some q → q.x ≡ last_start ps
last_is [] q h = absurd (none_some h)
  where
    none_some : None ≡ Some q → ⊥
    none_some e = subst (λ o. IsNone o) e tt
      where
        IsNone : Option PieceText → Type 0
        IsNone None = Unit {0}
        IsNone (Some r) = ⊥
last_is (p ∷ ps) q h =
    let n : length (p ∷ ps) - 1 ≡ length ps = omega arith in
    sym (last_got p ps (length ps) q refl (subst (λ k. slice_get (p ∷ ps) k ≡ Some q) n h))
