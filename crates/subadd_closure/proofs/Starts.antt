-- A curve with its value at 0 set to another is in normal form, and readable, where its tail stays as it is.
use Rattle.std.specs.Prelude.{◌≡◌, pos, List, [], ◌∷◌, Option}
use Rattle.std.proofs.Common.{arith, sym, refl, ap, ◌∙◌, subst, inl, inr}
use Rattle.rational.specs.Rational.{ℚ, ◌+ℚ◌, ◌-ℚ◌, ◌*ℚ◌, ◌≤ℚ◌, ◌<ℚ◌, int}
use Rattle.rational.specs.Whole.{periods}
use Rattle.rational.specs.Extended.{Ext, ◌+ₑ◌}
use Rattle.rational.specs.declared.Extended.TheVariants.{Fin}
use Rattle.rational.proofs.Linear.{with2, with3}
use Rattle.rational.proofs.Laws.{le_or_lt, le_refl, lt_le_trans}
use Rattle.rational.proofs.Whole.{periods_low}
use Rattle.upp_curve.specs.declared.affine_segment.line.Piece.{Piece}
use Rattle.upp_curve.specs.Curve.{repeated}
use Rattle.upp_curve.specs.affine_segment.Reading.{read}
use Rattle.min_plus.specs.Functions.{zero_q}
use Rattle.upp_curve.specs.Steady.{Repeats, last_line}
use Rattle.upp_curve.specs.affine_segment.Pieces.{Each, HasStart, RisesFrom, StartsAtZero}
use Rattle.upp_curve.specs.Normal.{NoMerge}
use Rattle.upp_curve.specs.Readable.{EachFits}
use Rattle.upp_curve.proofs.affine_segment.PieceIn.{value_past, read_go, read_one, read_stop, value_by}
use Rattle.upp_curve.proofs.Repeats.{repeated_first}
use Rattle.subadd_closure.specs.Starting.{first_at}
use Rattle.subadd_closure.proofs.EachParts.{repeated_at}

-- ---- pieces
-- past the first start they read as before
same_past : (v : Ext) (p : Piece) (ps : List Piece) (t : ℚ) → RisesFrom p.x ps → p.x <ℚ t
    → read (record { x = p.x; at = v; line = p.line } ∷ ps) t ≡ read (p ∷ ps) t
same_past v p [] t r h =
    read_one record { x = p.x; at = v; line = p.line } t ∙ value_past record { x = p.x; at = v; line = p.line } t h
    ∙ sym (read_one p t ∙ value_past p t h)
same_past v p (q ∷ qs) t r h = elim (le_or_lt q.x t) [
  | inl late ↦ read_go record { x = p.x; at = v; line = p.line } q qs t late ∙ sym (read_go p q qs t late)
  | inr soon ↦
      read_stop record { x = p.x; at = v; line = p.line } q qs t soon ∙ value_past record { x = p.x; at = v; line = p.line } t h
      ∙ sym (read_stop p q qs t soon ∙ value_past p t h)
]

pub read_past : (v : Ext) (ps : List Piece) (t : ℚ) → StartsAtZero ps → zero_q <ℚ t → read (first_at v ps) t ≡ read ps t
read_past v [] t z h = absurd z
read_past v (p ∷ ps) t z h = same_past v p ps t z.1 (subst (λ y. y <ℚ t) (sym z.0) h)

pub read_zero : (v : Ext) (ps : List Piece) → StartsAtZero ps → read (first_at v ps) zero_q ≡ v
read_zero v [] z = absurd z
read_zero v (p ∷ []) z =
    read_one record { x = p.x; at = v; line = p.line } zero_q
    ∙ value_by record { x = p.x; at = v; line = p.line } zero_q (subst (λ y. zero_q ≤ℚ y) (sym z.0) (le_refl zero_q))
read_zero v (p ∷ q ∷ qs) z =
    read_stop record { x = p.x; at = v; line = p.line } q qs zero_q (subst (λ y. y <ℚ q.x) z.0 z.1.0)
    ∙ value_by record { x = p.x; at = v; line = p.line } zero_q (subst (λ y. zero_q ≤ℚ y) (sym z.0) (le_refl zero_q))

pub starts_kept : (v : Ext) (ps : List Piece) → StartsAtZero ps → StartsAtZero (first_at v ps)
starts_kept v [] z = z
starts_kept v (p ∷ ps) z = z

pub each_kept : (P : ℚ → Type 0) (v : Ext) (ps : List Piece) → Each (λ p. P p.x) ps → Each (λ p. P p.x) (first_at v ps)
each_kept P v [] h = h
each_kept P v (p ∷ ps) h = h

pub start_kept : (v : Ext) (x : ℚ) (ps : List Piece) → HasStart x ps → HasStart x (first_at v ps)
start_kept v x [] h = h
start_kept v x (p ∷ ps) h = h

pub merge_kept : (v : Ext) (ps : List Piece) → NoMerge ps → NoMerge (first_at v ps)
merge_kept v [] h = h
merge_kept v (p ∷ []) h = h
merge_kept v (p ∷ q ∷ qs) h = h

pub line_kept : (v : Ext) (ps : List Piece) → last_line (first_at v ps) ≡ last_line ps
line_kept v [] = refl
line_kept v (p ∷ []) = refl
line_kept v (p ∷ q ∷ qs) = refl

pub fits_kept : (v : Ext) (end : Option ℚ) (ps : List Piece) → EachFits end ps → EachFits end (first_at v ps)
fits_kept v end [] h = h
fits_kept v end (p ∷ ps) h = h

-- ---- values past 0
module _ (v : Ext) (ps : List Piece) (zeroth : StartsAtZero ps) where
  pub repeated_past : (rank d c t : ℚ) → zero_q <ℚ rank → zero_q <ℚ d → zero_q <ℚ t
      → repeated (read (first_at v ps)) rank d c t ≡ repeated (read ps) rank d c t
  repeated_past rank d c t late some h = elim (le_or_lt rank t) [
    | inl past ↦
        let down = periods_low rank d t some past in
        let after : zero_q <ℚ t -ℚ int (pos (periods rank d t)) *ℚ d =
        with3 rank t (int (pos (periods rank d t)) *ℚ d) (λ o. omega (arith, o.le, o.lt, o.same)) in
        repeated_at (read (first_at v ps)) rank d c t
        ∙ ap (λ z. z +ₑ Fin (int (pos (periods rank d t)) *ℚ c)) (read_past v ps (t -ℚ int (pos (periods rank d t)) *ℚ d) zeroth after)
        ∙ sym (repeated_at (read ps) rank d c t)
    | inr early ↦
        let soon : t <ℚ rank +ℚ d = with3 rank t d (λ o. omega (arith, o.le, o.lt, o.same)) in
        repeated_first (read (first_at v ps)) rank d c t some soon ∙ read_past v ps t zeroth h
        ∙ sym (repeated_first (read ps) rank d c t some soon)
  ]

  pub repeated_zero : (rank d c : ℚ) → zero_q <ℚ rank → zero_q <ℚ d → repeated (read (first_at v ps)) rank d c zero_q ≡ v
  repeated_zero rank d c late some =
      let soon : zero_q <ℚ rank +ℚ d = with2 rank d (λ o. omega (arith, o.le, o.lt, o.same)) in
      repeated_first (read (first_at v ps)) rank d c zero_q some soon ∙ read_zero v ps zeroth

-- ---- a rule past 0 is of both
pub repeats_on : (f g : ℚ → Ext) (from d c : ℚ) → ((t : ℚ) → zero_q <ℚ t → g t ≡ f t) → zero_q <ℚ from → zero_q <ℚ d
    → Repeats g from d c → Repeats f from d c
repeats_on f g from d c same late some h = record {
  rule = λ t k.
      let past : zero_q <ℚ t = lt_le_trans late k in
      let next : zero_q <ℚ t +ℚ d = with2 t d (λ o. omega (arith, o.le, o.lt, o.same)) in
      sym (same (t +ℚ d) next) ∙ h.rule t k ∙ ap (λ z. z +ₑ Fin c) (same t past);
}
