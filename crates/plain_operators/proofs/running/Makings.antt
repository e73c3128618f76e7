-- That the pieces of a bend are made of levels and lines of the scanned pieces.
use Rattle.std.specs.Prelude.{◌≡◌, ℕ, Bool, List, [], ◌∷◌, ◌++◌, Option, Some, None, IfSome, ◌⊎◌}
use Rattle.std.proofs.Common.{sym, ap, refl, subst, inl, inr}
use Rattle.rational.specs.Rational.{ℚ}
use Rattle.rational.specs.MinMax.{min_q, max_q}
use Rattle.rational.specs.declared.Extended.TheVariants.{Fin}
use Rattle.rational.proofs.MinMax.{max_q_one, min_q_one}
use Rattle.upp_curve.specs.declared.affine_segment.line.Line.{Line}
use Rattle.upp_curve.specs.declared.affine_segment.line.Piece.{Piece}
use Rattle.upp_normal.specs.Bends.{SlopeTurns}
use Rattle.upp_curve.specs.affine_segment.Pieces.{Each, HasStart}
use Rattle.plain_operators.specs.declared.running.stretch.Stretch.{Stretch}
use Rattle.plain_operators.specs.declared.running.bend.Bend.{Bend}
use Rattle.plain_operators.specs.running.Scans.{flat, IsLevel, HasLine, IsStretch}
use Rattle.plain_operators.specs.running.Bends.{bent}
use Rattle.plain_operators.specs.running.Made.{IsOneOf, TakesOverAt, IsMadeOf, IsMade, TurnsAfter}

-- the greater and the lesser of two levels are levels
pub greater_level : (end : ℚ) (ps : List Piece) (v w : ℚ) → IsLevel end ps v → IsLevel end ps w → IsLevel end ps (max_q v w)
greater_level end ps v w h k = elim (max_q_one v w) [
  | inl e ↦ subst (IsLevel end ps) (sym e) h
  | inr e ↦ subst (IsLevel end ps) (sym e) k
]

pub lesser_level : (end : ℚ) (ps : List Piece) (v w : ℚ) → IsLevel end ps v → IsLevel end ps w → IsLevel end ps (min_q v w)
lesser_level end ps v w h k = elim (min_q_one v w) [
  | inl e ↦ subst (IsLevel end ps) (sym e) h
  | inr e ↦ subst (IsLevel end ps) (sym e) k
]

one_of : (ps : List Piece) (end : ℚ) (level : ℚ) (s : Stretch) (v : ℚ) → IsLevel end ps level → IsLevel end ps s.right → IsLevel end ps s.left → IsOneOf level s v
    → IsLevel end ps v
one_of ps end level s v h r l (inl e) = subst (IsLevel end ps) (sym e) h
one_of ps end level s v h r l (inr (inl e)) = subst (IsLevel end ps) (sym e) r
one_of ps end level s v h r l (inr (inr e)) = subst (IsLevel end ps) (sym e) l

abbrev pub LineIsMade : ℚ → List Piece → Option Line → Type 0
LineIsMade end ps line = ((l : Line) × (line ≡ Some l) × HasLine l ps) ⊎ ((v : ℚ) × (line ≡ Some (flat v)) × IsLevel end ps v)

first_line : (ps : List Piece) (end : ℚ) (i : ℕ) (level : ℚ) (s : Stretch) (l : Line) → IsStretch ps end i s → IsLevel end ps level
    → ((l ≡ s.line) ⊎ ((v : ℚ) × (l ≡ flat v) × IsOneOf level s v)) → LineIsMade end ps (Some l)
first_line ps end i level s l S h (inl e) = inl (s.line, ap Some e, S.line)
first_line ps end i level s l S h (inr (v, e, k)) = inr (v, ap Some e, one_of ps end level s v h S.right_level S.left_level k)

-- the first piece of a stretch, of the value v
pub first_made : (rises : Bool) (ps : List Piece) (end : ℚ) (i : ℕ) (level v : ℚ) (s : Stretch) (b : Bend) → IsStretch ps end i s → IsLevel end ps level
    → IsLevel end ps v → IsMadeOf rises level s b
    → IsMade end ps record { x = s.from; at = Fin v; line = Some b.line }
first_made rises ps end i level v s b S h k m = record { at = (v, refl, k); line = first_line ps end i level s b.line S h m.line; start = inl S.start }

turn_line : (ps : List Piece) (end : ℚ) (i : ℕ) (level : ℚ) (s : Stretch) (l : Option Line) → IsStretch ps end i s → IsLevel end ps level
    → ((l ≡ Some s.line) ⊎ (l ≡ Some (flat level))) → LineIsMade end ps l
turn_line ps end i level s l S h (inl e) = inl (s.line, e, S.line)
turn_line ps end i level s l S h (inr e) = inr (level, e, h)

-- the piece that takes over
pub turn_made : (ps : List Piece) (end : ℚ) (i : ℕ) (level : ℚ) (s : Stretch) (q : Piece) → IsStretch ps end i s → IsLevel end ps level → TakesOverAt level s q → IsMade end ps q
turn_made ps end i level s q S h t = record {
  at = (level, t.at, h);
  line = turn_line ps end i level s q.line S h t.line;
  start = inr (level, s.line, h, S.line, t.meets);
}

pub bent_made : (rises : Bool) (ps : List Piece) (end : ℚ) (i : ℕ) (level v : ℚ) (s : Stretch) (b : Bend) → IsStretch ps end i s → IsLevel end ps level → IsLevel end ps v
    → IsMadeOf rises level s b
    → Each (IsMade end ps) (bent s.from v b.line b.turn)
bent_made rises ps end i level v s b S h k m = parts b.turn m.turn
  where
    parts : (o : Option Piece) → IfSome o (TakesOverAt level s) → Each (IsMade end ps) (bent s.from v b.line o)
    parts None t = (first_made rises ps end i level v s b S h k m, tt)
    parts (Some q) t = (first_made rises ps end i level v s b S h k m, (turn_made ps end i level s q S h t, tt))

-- ---- turns
bent_turn : (rises : Bool) (ps : List Piece) (x v : ℚ) (l : Line) (turn : Option Piece) → HasStart x ps → IfSome turn (λ q. SlopeTurns rises (Some l) q.line)
    → TurnsAfter rises ps None (bent x v l turn)
bent_turn rises ps x v l None h k = (inl h, tt)
bent_turn rises ps x v l (Some q) h k = (inl h, (inr k, tt))

pub bent_turns : (rises : Bool) (ps : List Piece) (end : ℚ) (i : ℕ) (level v : ℚ) (s : Stretch) (b : Bend) → IsStretch ps end i s → IsMadeOf rises level s b
    → TurnsAfter rises ps None (bent s.from v b.line b.turn)
bent_turns rises ps end i level v s b S m = bent_turn rises ps s.from v b.line b.turn S.start m.turns

-- what begins at a start does so after any line
turns_any : (rises : Bool) (ps : List Piece) (last : Option Line) (ys : List Piece) → TurnsAfter rises ps None ys → TurnsAfter rises ps last ys
turns_any rises ps last [] h = tt
turns_any rises ps last (q ∷ qs) h = (first h.0, h.1)
  where
    first : (HasStart q.x ps ⊎ SlopeTurns rises None q.line) → HasStart q.x ps ⊎ SlopeTurns rises last q.line
    first (inl k) = inl k
    first (inr k) = absurd k

pub turns_join : (rises : Bool) (ps : List Piece) (last : Option Line) (xs ys : List Piece) → TurnsAfter rises ps last xs → TurnsAfter rises ps None ys
    → TurnsAfter rises ps last (xs ++ ys)
turns_join rises ps last [] ys h k = turns_any rises ps last ys k
turns_join rises ps last (x ∷ xs) ys h k = (h.0, turns_join rises ps x.line xs ys h.1 k)
