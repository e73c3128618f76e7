-- Where the elements of pieces start, and that one that starts before a start ends by it.
use Rattle.std.specs.Prelude.{◌≡◌, pos, List, [], ◌∷◌}
use Rattle.std.proofs.Common.{sym, refl, subst, inl, inr}
use Rattle.rational.specs.Rational.{ℚ, ◌≤ℚ◌, ◌<ℚ◌, int}
use Rattle.rational.specs.Extended.{Ext}
use Rattle.rational.specs.declared.Extended.TheVariants.{Fin}
use Rattle.rational.proofs.Laws.{le_refl, le_trans, le_of_lt, lt_irrefl, le_lt_trans, lt_le_trans}
use Rattle.upp_curve.specs.declared.affine_segment.line.Piece.{Piece}
use Rattle.upp_curve.specs.declared.affine_segment.element.Element.{Element}
use Rattle.upp_curve.specs.declared.affine_segment.element.Element.TheVariants.{Point, Open}
use Rattle.upp_curve.specs.affine_segment.Elements.{Covers, start_of}
use Rattle.upp_curve.specs.affine_segment.Pieces.{RisesFrom, StartsAtZero, HasStart}
use Rattle.element_envelope.specs.PieceElements.{elements_of, Among}
use Rattle.element_envelope.proofs.Members.{among_cases}
use Rattle.element_envelope.proofs.Cover.{head, head_cases}
use Rattle.curve_call.proofs.CurveRises.{at_least}

-- ---- one piece
head_start : (p : Piece) (next : Ext) (e : Element) → Among e (head p.x p.at p.line next) → start_of e ≡ p.x
head_start p next e h = elim (head_cases p.x p.at p.line next e h) [
  | inl k ↦ subst (λ z. start_of z ≡ p.x) (sym k.2) refl
  | inr k ↦ subst (λ z. start_of z ≡ p.x) (sym k.2) refl
]

head_early : (p : Piece) (y : ℚ) (e : Element) (t : ℚ) → p.x <ℚ y → Among e (head p.x p.at p.line (Fin y)) → Covers e t → t <ℚ y
head_early p y e t room h c = elim (head_cases p.x p.at p.line (Fin y) e h) [
  | inl k ↦
      let (v, at, is) = k in
      let here : Covers (Point p.x v) t = subst (λ z. Covers z t) is c in
      subst (λ z. z <ℚ y) (sym here) room
  | inr k ↦
      let (l, line, is) = k in
      let w : Covers (Open p.x (Fin y) l) t = subst (λ z. Covers z t) is c in
      w.before
]

-- ---- pieces
-- none starts before the first piece
list_start : (p : Piece) (ps : List Piece) (end : Ext) (e : Element) → RisesFrom p.x ps → Among e (elements_of (p ∷ ps) end)
    → p.x ≤ℚ start_of e
list_start p [] end e r h = elim (among_cases e (head p.x p.at p.line end) [] h) [
  | inl k ↦ subst (λ z. p.x ≤ℚ z) (sym (head_start p end e k)) (le_refl p.x)
  | inr k ↦ absurd k
]
list_start p (q ∷ qs) end e r h = elim (among_cases e (head p.x p.at p.line (Fin q.x)) (elements_of (q ∷ qs) end) h) [
  | inl k ↦ subst (λ z. p.x ≤ℚ z) (sym (head_start p (Fin q.x) e k)) (le_refl p.x)
  | inr k ↦ le_trans (le_of_lt r.0) (list_start q qs end e r.1 k)
]

pub starts_nonneg : (ps : List Piece) (end : Ext) (e : Element) → StartsAtZero ps → Among e (elements_of ps end)
    → int (pos 0) ≤ℚ start_of e
starts_nonneg [] end e h k = absurd h
starts_nonneg (p ∷ ps) end e h k = subst (λ z. z ≤ℚ start_of e) h.0 (list_start p ps end e h.1 k)

-- an element that starts before a piece does has no time from there on
list_before : (p : Piece) (ps : List Piece) (end : Ext) (e : Element) (x t : ℚ) → RisesFrom p.x ps → HasStart x (p ∷ ps)
    → Among e (elements_of (p ∷ ps) end) → start_of e <ℚ x → Covers e t → t <ℚ x
list_before p ps end e x t r (inl is) h low c =
    absurd (lt_irrefl x (le_lt_trans (subst (λ z. z ≤ℚ start_of e) is (list_start p ps end e r h)) low))
list_before p [] end e x t r (inr k) h low c = absurd k
list_before p (q ∷ qs) end e x t r (inr k) h low c =
    elim (among_cases e (head p.x p.at p.line (Fin q.x)) (elements_of (q ∷ qs) end) h) [
      | inl m ↦ lt_le_trans (head_early p q.x e t r.0 m c) (at_least q qs x r.1 k)
      | inr m ↦ list_before q qs end e x t r.1 k m low c
    ]

pub times_before : (ps : List Piece) (end : Ext) (e : Element) (x t : ℚ) → StartsAtZero ps → HasStart x ps
    → Among e (elements_of ps end) → start_of e <ℚ x → Covers e t → t <ℚ x
times_before [] end e x t h s k low c = absurd h
times_before (p ∷ ps) end e x t h s k low c = list_before p ps end e x t h.1 s k low c
