-- Where the piece after a time starts, and how it is looked up.
use Rattle.std.specs.Prelude.{◌≡◌, ℕ, zero, suc, ◌+◌, ◌<◌, ◌≤◌, cond, List, [], ◌∷◌, length, drop, Option, Some}
use Rattle.std.proofs.Common.{arith, sym, ap, ap₂, ◌∙◌, refl, get_or, drop_of_length-le, drop-cons}
use Rattle.rational.specs.Rational.{ℚ, ◌≤ℚ◌, ◌<ℚ◌}
use Rattle.rational.proofs.Over.{le_q_out}
use Rattle.rational.proofs.MinMax.{le_q_not}
use Rattle.upp_curve.specs.declared.affine_segment.line.Piece.{Piece}
use Rattle.upp_curve.specs.affine_segment.Pieces.{start_after}
use Rattle.upp_curve.specs.affine_segment.Reading.{next_in}
use Rattle.upp_curve.proofs.affine_segment.PieceIn.{IsPointAt}

-- the next of a list is the first of those that are left
pub next_piece : {A : Type 0} (p : A) (rest : List A) (j : ℕ) → j < length rest → p ≡ get_or rest j p → drop j rest ≡ p ∷ drop (j + 1) rest
next_piece {A} p rest j h e =
    let k : suc j ≡ j + 1 = omega arith in
    drop-cons rest j p h ∙ ap₂ (λ (q : A) (n : ℕ). q ∷ drop n rest) (sym e) k

pub none_left : {A : Type 0} (rest : List A) (j : ℕ) → length rest ≤ j → drop j rest ≡ []
none_left rest j h = drop_of_length-le rest h

-- ---- where the next piece starts
pub next_go : (p : Piece) (ps : List Piece) (t : ℚ) (after : Option ℚ) → p.x ≤ℚ t → next_in (p ∷ ps) t after ≡ next_in ps t after
unfolding next_in
next_go p ps t after h = ap (λ b. cond b (next_in ps t after) (Some p.x)) (le_q_out p.x t h)

pub next_stop : (p : Piece) (ps : List Piece) (t : ℚ) (after : Option ℚ) → t <ℚ p.x → next_in (p ∷ ps) t after ≡ Some p.x
unfolding next_in
next_stop p ps t after h = ap (λ b. cond b (next_in ps t after) (Some p.x)) (le_q_not p.x t h)

pub next_none : (t : ℚ) (after : Option ℚ) → next_in [] t after ≡ after
unfolding next_in
next_none t after = refl

none_of_none : (n : ℕ) → drop {A = Piece} n [] ≡ []
none_of_none n = drop_of_length-le [] (omega arith)

-- as a search finds it: the first n pieces start at t or before, the others after it
pub next_found : (ps : List Piece) (t : ℚ) (n : ℕ) (after : Option ℚ) → IsPointAt t ps n → start_after (drop n ps) after ≡ next_in ps t after
unfolding next_in
next_found [] t n after point = ap (λ xs. start_after xs after) (none_of_none n)
next_found (p ∷ ps) t zero after point = sym (ap (λ b. cond b (next_in ps t after) (Some p.x)) (point.1 0 p (omega arith) (omega arith)))
next_found (p ∷ ps) t (suc n) after point =
    next_found ps t n after (λ k d l m. point.0 (suc k) d (omega arith) (omega arith), λ k d l m. point.1 (suc k) d (omega arith) (omega arith))
    ∙ sym (ap (λ b. cond b (next_in ps t after) (Some p.x)) (point.0 0 p (omega arith) (omega arith)))

-- ---- the next start, as it is looked up
pub next_ends : (ps : List Piece) (t : ℚ) (n : ℕ) (after : Option ℚ) → IsPointAt t ps n → length ps ≤ n → after ≡ next_in ps t after
next_ends ps t n after point h = sym (ap (λ xs. start_after xs after) (drop_of_length-le ps h)) ∙ next_found ps t n after point

pub next_is : (ps : List Piece) (t : ℚ) (n : ℕ) (after : Option ℚ) (q : Piece) → IsPointAt t ps n → n < length ps → q ≡ get_or ps n q → Some q.x ≡ next_in ps t after
next_is ps t n after q point h e = sym (ap (λ xs. start_after xs after) (next_piece q ps n h e)) ∙ next_found ps t n after point
