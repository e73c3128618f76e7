-- How a curve goes on from a time is there: found by proof alone, where no code runs.
use Rattle.std.specs.Prelude.{◌≡◌, ℕ, List, [], ◌∷◌, Option, Some, None}
use Rattle.std.proofs.Common.{sym, ◌∙◌, refl, subst, inl, inr}
use Rattle.rational.specs.Rational.{ℚ, ◌+ℚ◌, ◌*ℚ◌, ◌≤ℚ◌, ◌<ℚ◌}
use Rattle.rational.specs.Grid.{Whole}
use Rattle.rational.specs.Whole.{periods}
use Rattle.rational.specs.Extended.{Ext, ◌+ₑ◌}
use Rattle.rational.specs.declared.Extended.TheVariants.{Fin}
use Rattle.rational.proofs.Laws.{le_or_lt, lt_irrefl, le_lt_trans}
use Rattle.upp_curve.specs.declared.affine_segment.line.Piece.{Piece}
use Rattle.upp_curve.specs.affine_segment.Values.{line_value}
use Rattle.upp_normal.specs.declared.ahead.Stretch.{Stretch}
use Rattle.upp_curve.specs.declared.curve.Tail.{Tail}
use Rattle.upp_curve.specs.declared.curve.Tail.TheVariants.{Periodic, Affine, Infinite}
use Rattle.upp_curve.specs.Curve.{SpecCurve, value_at}
use Rattle.upp_limits.specs.Limits.{Sizes}
use Rattle.upp_curve.specs.affine_segment.Reading.{read, piece_in, next_in, line_in}
use Rattle.upp_curve.specs.Unrolled.{line_later}
use Rattle.upp_limits.specs.Spans.{next_later}
use Rattle.upp_normal.specs.Operand.{OperandLineAt}
use Rattle.upp_normal.specs.Ahead.{GoesOn, AtNext, HasWindow, IsTimeIn, TimesStand, GridValue}
use Rattle.upp_normal.proofs.StretchValues.{IsPlain, plain_here, plain_goes, plain_times, with_pieces, turn_at, Repeated, repeated_here, repeated_goes, repeated_sizes}

pub record Here (c : SpecCurve) (t : ℚ) : Type 0 where
  pub stretch : Stretch
  pub goes : GoesOn (value_at c) t stretch
  pub times : (d : ℕ) → TimesStand d c → AtNext (Whole d) stretch.next
  pub sizes : (z : Sizes) (end : ℚ) → HasWindow z end c → IsTimeIn z end t → OperandLineAt z stretch.line × GridValue z stretch.at

plain : (z : Sizes) (end : ℚ) (c : SpecCurve) (t : ℚ) → HasWindow z end c → IsTimeIn z end t → IsPlain c.tail → Here c t
plain z end c t V T p =
    let s : Stretch = record { at = read c.pieces t; line = line_in c.pieces t; next = next_in c.pieces t None } in
    record {
      stretch = s;
      goes = plain_goes c t s V.curve p T.nonneg refl refl refl;
      times = λ d S. plain_times d c t s.next S refl;
      sizes = λ w last W U. let H = plain_here w last c t V.curve W U p in (H.line, H.at);
    }

-- the piece at a time; of no pieces another
piece_of : Piece → List Piece → ℚ → Piece
piece_of d [] t = d
piece_of d (p ∷ ps) t = piece_in p ps t

copied : (z : Sizes) (end : ℚ) (c : SpecCurve) (rank period rise t : ℚ) (n : ℕ) (piece : Piece) (next : Option ℚ) → HasWindow z end c → IsTimeIn z end t
    → ((w : Sizes) (last : ℚ) → HasWindow w last c → IsTimeIn w last t → Repeated w last c rank period rise t (turn_at period t n) piece next) → (at : Ext)
    → (piece.x <ℚ (turn_at period t n).early → at ≡ line_value (line_later (turn_at period t n).by ((turn_at period t n).n *ℚ rise) piece.line) t)
    → ((turn_at period t n).early ≤ℚ piece.x → at ≡ piece.at +ₑ Fin ((turn_at period t n).n *ℚ rise)) → Here c t
copied z end c rank period rise t n piece next V T R at past start =
    let turn = turn_at period t n in
    let line = line_later turn.by (turn.n *ℚ rise) piece.line in
    let found = R z end V T in
    record {
      stretch = record { at = at; line = line; next = next_later turn.by next };
      goes = repeated_goes z end c rank period rise t (turn_at period t n) piece next at line (next_later turn.by next) found refl refl past start;
      times = found.times;
      sizes = λ w last W U. repeated_sizes w last c rank period rise t (turn_at period t n) piece next at line (R w last W U) refl past start;
    }

repeating : (z : Sizes) (end : ℚ) (c : SpecCurve) (t rank period rise : ℚ) → HasWindow z end c → IsTimeIn z end t → c.tail ≡ Periodic rank period rise → Here c t
unfolding piece_of
repeating z end c t rank period rise V T e =
    with_pieces {G = Here c t} c.pieces V.curve.normal.raw.starts (λ p ps f.
    let turn = turn_at period t (periods rank period t) in
    let piece = piece_in p ps turn.early in
    let next = next_in c.pieces turn.early (Some (rank +ℚ period)) in
    let R : (w : Sizes) (last : ℚ) → HasWindow w last c → IsTimeIn w last t → Repeated w last c rank period rise t (turn_at period t (periods rank period t)) piece next =
    λ w last W U. repeated_here w last c rank period rise t (turn_at period t (periods rank period t)) piece next V.curve W U e record { count = refl; by = refl; early = refl }
    (λ q qs g. subst (λ ys. piece_in p ps turn.early ≡ piece_of p ys turn.early) (sym f ∙ g) refl) refl in
    elim (le_or_lt turn.early piece.x) [
      | inl h ↦ copied z end c rank period rise t (periods rank period t) piece next V T R (piece.at +ₑ Fin (turn.n *ℚ rise)) (λ k. absurd (lt_irrefl turn.early (le_lt_trans h k))) (λ k. refl)
      | inr h ↦
          copied z end c rank period rise t (periods rank period t) piece next V T R (line_value (line_later turn.by (turn.n *ℚ rise) piece.line) t) (λ k. refl) (λ k. absurd (lt_irrefl turn.early (le_lt_trans k h)))
    ])

pub curve_goes : (z : Sizes) (end : ℚ) (c : SpecCurve) (t : ℚ) → HasWindow z end c → IsTimeIn z end t → Here c t
curve_goes z end c t V T = by c.tail refl
  where
    by : (tail : Tail) → c.tail ≡ tail → Here c t
    by (Periodic rank period rise) e = repeating z end c t rank period rise V T e
    by (Affine rank) e = plain z end c t V T (subst IsPlain (sym e) tt)
    by (Infinite rank) e = plain z end c t V T (subst IsPlain (sym e) tt)
