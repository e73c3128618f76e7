-- The vertical deviation is infinite where the first curve is infinite somewhere, and where it is the faster one.
use Rattle.std.specs.Prelude.{◌≡◌, pos, List, [], ◌∷◌, Option, Some, None, ◌⊎◌}
use Rattle.std.proofs.Common.{arith, sym, ap, ◌∙◌, refl, subst, inl, inr}
use Rattle.rational.specs.Rational.{ℚ, ◌+ℚ◌, ◌-ℚ◌, ◌*ℚ◌, ◌≤ℚ◌, ◌<ℚ◌, int}
use Rattle.rational.specs.Extended.{Ext, ◌<ₑ◌, ◌+ₑ◌, ◌-ₑ◌}
use Rattle.rational.specs.declared.Extended.TheVariants.{Fin, Inf}
use Rattle.rational.proofs.Linear.{with1, with2}
use Rattle.rational.proofs.Laws.{le_refl, le_trans, le_of_lt, lt_le_trans, between, mul_nonneg}
use Rattle.rational.proofs.Integers.{nat_nonneg}
use Rattle.rational.proofs.Quotients.{times_above, past_each}
use Rattle.upp_curve.specs.declared.affine_segment.line.Line.{Line}
use Rattle.upp_curve.specs.declared.affine_segment.line.Piece.{Piece}
use Rattle.upp_curve.specs.affine_segment.Values.{line_value}
use Rattle.upp_curve.specs.affine_segment.Reading.{piece_value}
use Rattle.upp_curve.specs.affine_segment.Pieces.{RisesFrom, Each}
use Rattle.upp_curve.specs.Shapes.{IsFinitePiece, IsNumber, IsLine}
use Rattle.min_plus.specs.Functions.{IsFinite}
use Rattle.upp_curve.specs.Steady.{Repeats}
use Rattle.min_plus.specs.Deviations.{IsVerticalDeviation}
use Rattle.upp_curve.proofs.affine_segment.PieceIn.{piece_in_stop, piece_in_go, piece_in_end, value_past}
use Rattle.upp_curve.proofs.FirstStretch.{read_in, at_start}
use Rattle.curve_call.proofs.Shifts.{later_value}
use Rattle.upp_normal.specs.Ahead.{IsBeforeNext}

-- ---- a piece that is not finite gives a time
pub record InfiniteTime (p : Piece) (ps : List Piece) (end : Option ℚ) : Type 0 where
  pub at : ℚ
  pub start : p.x ≤ℚ at
  pub before : IsBeforeNext at end
  pub top : read_in p ps at ≡ Inf

-- a time after x and before the end
after_start : (x : ℚ) (end : Option ℚ) → IsBeforeNext x end → (t : ℚ) × (x <ℚ t) × IsBeforeNext t end
after_start x None h = (x +ℚ int (pos 1), with1 x (λ c. omega (arith, c.le, c.lt, c.same)), tt)
after_start x (Some e) h = between x e h

-- the first piece is finite, or infinite at its start, or just after it
first_or : (p : Piece) → IsFinitePiece p ⊎ ((p.at ≡ Inf) ⊎ (p.line ≡ None))
first_or p = by_parts p.at p.line refl refl
  where
    by_parts : (v : Ext) (l : Option Line) → p.at ≡ v → p.line ≡ l → IsFinitePiece p ⊎ ((p.at ≡ Inf) ⊎ (p.line ≡ None))
    by_parts Inf l e f = inr (inl e)
    by_parts (Fin v) None e f = inr (inr f)
    by_parts (Fin v) (Some m) e f = inl record { at = subst IsNumber (sym e) tt; line = subst IsLine (sym f) tt }

before_end : (ps : List Piece) (end : Option ℚ) → Option ℚ
before_end [] end = end
before_end (q ∷ qs) end = Some q.x

pub finite_or : (end : Option ℚ) (p : Piece) (ps : List Piece) → RisesFrom p.x ps → Each (λ z. IsBeforeNext z.x end) (p ∷ ps) → Each IsFinitePiece (p ∷ ps) ⊎ InfiniteTime p ps end
finite_or end p [] rises early = elim (first_or p) [
  | inl h ↦ inl (h, tt)
  | inr (inl e) ↦ inr record { at = p.x; start = le_refl p.x; before = early.0; top = at_start p [] tt ∙ e }
  | inr (inr e) ↦
      let (t, a, b) = after_start p.x end early.0 in
      inr record { at = t; start = le_of_lt a; before = b; top = ap (λ q. piece_value q t) (piece_in_end p t) ∙ value_past p t a ∙ ap (λ l. line_value l t) e }
]
finite_or end p (q ∷ qs) rises early = elim (first_or p) [
  | inl h ↦ elim (finite_or end q qs rises.1 early.1) [
    | inl k ↦ inl (h, k)
    | inr k ↦ inr record { at = k.at; start = le_trans (le_of_lt rises.0) k.start; before = k.before; top = ap (λ z. piece_value z k.at) (piece_in_go p q qs k.at k.start) ∙ k.top }
  ]
  | inr (inl e) ↦ inr record { at = p.x; start = le_refl p.x; before = early.0; top = at_start p (q ∷ qs) rises ∙ e }
  | inr (inr e) ↦
      let (t, a, b) = between p.x q.x rises.0 in
      inr record { at = t; start = le_of_lt a; before = sooner t q.x end b early.1.0; top = ap (λ z. piece_value z t) (piece_in_stop p q qs t b) ∙ value_past p t a ∙ ap (λ l. line_value l t) e }
]
  where
    sooner : (t x : ℚ) (end : Option ℚ) → t <ℚ x → IsBeforeNext x end → IsBeforeNext t end
    sooner t x None h k = tt
    sooner t x (Some e) h k = lt_le_trans h (le_of_lt k)

-- ---- where the first is infinite and the other is not
pub infinite_deviation : (f g : ℚ → Ext) (t : ℚ) → int (pos 0) ≤ℚ t → f t ≡ Inf → IsFinite g → IsVerticalDeviation f g Inf
infinite_deviation f g t some top finite =
    let (v, e) = finite t some in
    record {
      above = λ i. tt;
      near = λ y l. (record { at = t; nonneg = some; level = v; is = e }, subst (λ x. Fin y <ₑ x -ₑ v) (sym top) tt);
    }

-- ---- where the first gains on the other with each period

pub gaining_deviation : (f g : ℚ → Ext) (from d a b : ℚ) → int (pos 0) <ℚ d → int (pos 0) ≤ℚ from → Repeats f from d a → Repeats g from d b → b <ℚ a → IsFinite f → IsFinite g → IsVerticalDeviation f g Inf
gaining_deviation f g from d a b some low F G gain first second =
    let (x, e) = first from low in
    let (v, k) = second from low in
    record {
      above = λ i. tt;
      near = λ y l.
          let (n, over) = times_above (y -ℚ (x -ℚ v)) (a -ℚ b) (with2 a b (λ c. omega (arith, c.le, c.lt, c.same))) in
          let N = int (pos n) in
          let t = from +ℚ N *ℚ d in
          let later : int (pos 0) ≤ℚ N *ℚ d = mul_nonneg (nat_nonneg n) (le_of_lt some) in
          let low_t : int (pos 0) ≤ℚ t = (let s = N *ℚ d in with2 from s (λ c. omega (arith, c.le, c.lt, c.same))) in
          let f_is : f t ≡ Fin (x +ℚ N *ℚ a) = later_value f from d a from n (le_of_lt some) F (le_refl from) ∙ ap (λ w. w +ₑ Fin (N *ℚ a)) e in
          let g_is : g t ≡ Fin (v +ℚ N *ℚ b) = later_value g from d b from n (le_of_lt some) G (le_refl from) ∙ ap (λ w. w +ₑ Fin (N *ℚ b)) k in
          (record { at = t; nonneg = low_t; level = v +ℚ N *ℚ b; is = g_is }, subst (λ w. Fin y <ₑ w -ₑ (v +ℚ N *ℚ b)) (sym f_is) (past_each x v a b y N over));
    }
