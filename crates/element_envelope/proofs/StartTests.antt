-- What a test of a value against a line tells; and pieces that are left out one after another.
use Rattle.std.specs.Prelude.{◌≡◌, ◌↔◌, ◌⊎◌, Bool, true, false, not, IsTrue, List, [], ◌∷◌, ◌++◌, Option, Some, None}
use Rattle.std.proofs.Common.{ℕ, ◌<◌, length, get_or, true≢false, refl, sym, ap, ◌∙◌, subst, inl, inr, append_assoc, append-nil}
use Rattle.rational.specs.Rational.{ℚ, ◌≤ℚ◌, ◌<ℚ◌}
use Rattle.rational.specs.Extended.{Ext, ◌≤ₑ◌}
use Rattle.rational.specs.declared.Extended.TheVariants.{Fin}
use Rattle.rational.proofs.Compared.{not_less_out}
use Rattle.upp_curve.specs.declared.affine_segment.line.Line.{Line}
use Rattle.upp_curve.specs.declared.affine_segment.line.Piece.{Piece}
use Rattle.upp_curve.specs.affine_segment.Values.{line_at, line_value}
use Rattle.element_envelope.specs.Turnings.{BendsDown, IsThinned}
use Rattle.rational.proofs.Laws.{le_of_lt}
use Rattle.upp_curve.specs.affine_segment.Pieces.{Each}
use Rattle.upp_curve.specs.affine_segment.Fits.{LineFitsAt}
use Rattle.upp_limits.specs.Limits.{Sizes}
use Rattle.upp_normal.specs.Operand.{AreLimited, OperandLineAt}
use Rattle.upp_normal.proofs.AnswerRoom.{operand_line_fits}
use Rattle.upp_normal.proofs.NormaliseRank.{each_index}
use Rattle.element_envelope.specs.ConvolutionWindows.{WindowPiece}
use Rattle.element_envelope.specs.OneSide.{IsReached}

-- ---- a piece of a window
pub piece_there : (z : Sizes) (end : ℚ) (ps : List Piece) (i : ℕ) (p : Piece) → i < length ps → p ≡ get_or ps i p → Each (WindowPiece z end) ps → WindowPiece z end p
piece_there z end ps i p below is each = subst (WindowPiece z end) (sym is) (each_index (WindowPiece z end) ps i p below each)

pub line_there : (z : Sizes) (end : ℚ) (l : Option Line) (p : Piece) → AreLimited z end → WindowPiece z end p → OperandLineAt z l → LineFitsAt p.x l
line_there z end l p A P L = operand_line_fits z end p.x l A L P.start P.nonneg (le_of_lt P.before)

pub is_false : (b : Bool) → IsTrue (not b) → b ≡ false
is_false true h = absurd (true≢false (sym h))
is_false false h = refl

pub below_is : (b : Bool) (r v x : ℚ) (l : Line) (line : Option Line) (at : Ext) → (IsTrue b ↔ (r <ℚ v)) → r ≡ line_at l x → line ≡ Some l → at ≡ Fin v → IsTrue (not b) → at ≤ₑ line_value line x
below_is b r v x l line at t e k m h =
    subst (λ o. at ≤ₑ line_value o x) (sym k) (subst (λ z. z ≤ₑ Fin (line_at l x)) (sym m) (subst (λ z. v ≤ℚ z) e (not_less_out b r v t (is_false b h))))

pub reached_is : (b : Bool) (r v : ℚ) (l : Line) (before : Option Line) (p : Piece) → (IsTrue b ↔ (v <ℚ r)) → r ≡ line_at l p.x → before ≡ Some l → p.at ≡ Fin v → IsTrue (not b) → IsReached before p
reached_is b r v l before p t e k m h =
    subst (λ o. IsReached o p) (sym k) (subst (λ w. Fin (line_at l p.x) ≤ₑ w) (sym m) (subst (λ z. z ≤ℚ v) e (not_less_out b v r t (is_false b h))))

-- after some pieces, p is put, or it bends down and is not
abbrev pub IsKeptOrBent : Option Line → Piece → List Piece → List Piece → Type 0
IsKeptOrBent before p old new = (BendsDown before p × (new ≡ old)) ⊎ (new ≡ old ++ p ∷ [])

-- one piece more that is kept, or bends down
pub thinned_step : (before : Option Line) (p : Piece) (left rest all old new : List Piece) → left ≡ p ∷ rest → IsKeptOrBent before p old new
    → ((qs : List Piece) → IsThinned before left qs → IsThinned None all (old ++ qs)) → (qs : List Piece) → IsThinned p.line rest qs → IsThinned None all (new ++ qs)
thinned_step before p left rest all old new d (inl k) h qs T =
    subst (λ z. IsThinned None all (z ++ qs)) (sym k.1) (h qs (subst (λ z. IsThinned before z qs) (sym d) (inl (k.0, T))))
thinned_step before p left rest all old new d (inr e) h qs T =
    subst (λ z. IsThinned None all z) (sym (ap (λ z. z ++ qs) e ∙ append_assoc old (p ∷ []) qs)) (h (p ∷ qs) (subst (λ z. IsThinned before z (p ∷ qs)) (sym d) (inr (qs, refl, T))))

pub thinned_end : (before : Option Line) (left all old : List Piece) → left ≡ [] → ((qs : List Piece) → IsThinned before left qs → IsThinned None all (old ++ qs)) → IsThinned None all old
thinned_end before left all old d h = subst (IsThinned None all) (append-nil old) (h [] (subst (λ z. IsThinned before z []) (sym d) refl))

pub thinned_none : (all kept : List Piece) → kept ≡ [] → (qs : List Piece) → IsThinned None all qs → IsThinned None all (kept ++ qs)
thinned_none all kept e qs T = subst (λ z. IsThinned None all (z ++ qs)) (sym e) T
