-- Whether values, lines and pieces are one, so that a proof may go by it.
use Rattle.std.specs.Prelude.{◌≡◌, List, [], ◌∷◌, ◌⊎◌, Option}
use Rattle.std.proofs.Common.{sym, ap, ap₂, refl, inl, inr}
use Rattle.rational.specs.Rational.{ℚ, ◌+ℚ◌}
use Rattle.rational.specs.Extended.{Ext, ◌+ₑ◌}
use Rattle.rational.specs.declared.Extended.TheVariants.{Fin}
use Rattle.rational.proofs.Laws.{le_or_lt, lt_irrefl, lt_le_trans}
use Rattle.upp_curve.specs.declared.affine_segment.line.Line.{Line}
use Rattle.upp_curve.specs.declared.affine_segment.line.Piece.{Piece}
use Rattle.upp_curve.specs.affine_segment.Reading.{piece_value}
use Rattle.upp_curve.proofs.affine_segment.PieceOrder.{heads_same, tails_same, nil_not_cons}
use Rattle.upp_curve.specs.Unrolled.{line_later}
use Rattle.upp_normal.specs.Normalising.{RepeatsIn}
use Rattle.upp_normal.proofs.NormaliseGrids.{q_same_or, ext_same_or, line_same_or}

-- ---- of parts
pub on_parts : {A B : Type 0} → (A → B) → (B → A) → A ⊎ ¬ A → B ⊎ ¬ B
on_parts f g (inl a) = inl (f a)
on_parts f g (inr n) = inr (λ b. n (g b))

pub both : {A B : Type 0} → A ⊎ ¬ A → B ⊎ ¬ B → (A × B) ⊎ ¬ (A × B)
both (inl a) (inl b) = inl (a, b)
both (inl a) (inr n) = inr (λ p. n p.1)
both (inr n) d = inr (λ p. n p.0)

-- ---- pieces
piece_of : ℚ → Ext → Option Line → Piece
piece_of x v l = record { x = x; at = v; line = l }

piece_same_or : (p q : Piece) → (p ≡ q) ⊎ ¬ (p ≡ q)
unfolding piece_of
piece_same_or p q =
    on_parts {A = (p.x ≡ q.x) × ((p.at ≡ q.at) × (p.line ≡ q.line))}
    (λ e i. piece_of (e.0 i) (e.1.0 i) (e.1.1 i)) (λ e. (ap (λ z. z.x) e, (ap (λ z. z.at) e, ap (λ z. z.line) e)))
    (both (q_same_or p.x q.x) (both (ext_same_or p.at q.at) (line_same_or p.line q.line)))

pub pieces_same_or : (ps qs : List Piece) → (ps ≡ qs) ⊎ ¬ (ps ≡ qs)
pieces_same_or [] [] = inl refl
pieces_same_or [] (q ∷ qs) = inr (nil_not_cons q qs)
pieces_same_or (p ∷ ps) [] = inr (λ e. nil_not_cons p ps (sym e))
pieces_same_or (p ∷ ps) (q ∷ qs) =
    on_parts {A = (p ≡ q) × (ps ≡ qs)} (λ e. ap₂ (λ (z : Piece) (zs : List Piece). z ∷ zs) e.0 e.1)
    (λ e. (heads_same p q ps qs e, tails_same p q ps qs e)) (both (piece_same_or p q) (pieces_same_or ps qs))

-- ---- whether a piece's values, a period later and a rise higher, lie in the last piece
pub repeats_or : (p last : Piece) (period rise : ℚ) → RepeatsIn p last period rise ⊎ ¬ (RepeatsIn p last period rise)
repeats_or p last period rise = elim (le_or_lt last.x (p.x +ℚ period)) [
  | inr late ↦ inr (λ I. lt_irrefl (p.x +ℚ period) (lt_le_trans late I.early))
  | inl early ↦
      on_parts {A = (last.line ≡ line_later period rise p.line) × (piece_value last (p.x +ℚ period) ≡ p.at +ₑ Fin rise)}
      (λ e. record { early = early; line = e.0; at = e.1 }) (λ I. (I.line, I.at))
      (both (line_same_or last.line (line_later period rise p.line)) (ext_same_or (piece_value last (p.x +ℚ period)) (p.at +ₑ Fin rise)))
]
