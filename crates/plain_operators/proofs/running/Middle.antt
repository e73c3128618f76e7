-- One piece in the middle of a window: how it is read, where it ends, and that its steps fit.
use Rattle.std.specs.Prelude.{◌≡◌, ℕ, suc, ◌+◌, ◌<◌, List, [], ◌∷◌, ◌++◌, length, take, drop, Option, Some}
use Rattle.std.proofs.Common.{arith, get_or, drop-cons, take-append-drop, sym, ap, ◌∙◌, subst, inl, inr}
use Rattle.rational.specs.Rational.{ℚ, ◌≤ℚ◌, ◌<ℚ◌}
use Rattle.rational.specs.declared.Extended.TheVariants.{Fin}
use Rattle.rational.proofs.Laws.{le_refl, le_of_lt}
use Rattle.upp_curve.specs.declared.affine_segment.line.Line.{Line}
use Rattle.upp_curve.specs.declared.affine_segment.line.Piece.{Piece}
use Rattle.upp_curve.specs.affine_segment.Values.{line_at, line_value}
use Rattle.upp_curve.specs.affine_segment.Reading.{read}
use Rattle.upp_curve.specs.affine_segment.Pieces.{Each, HasStart, RisesFrom, StartsAtZero, start_after}
use Rattle.upp_curve.specs.Readable.{EachFits, LineFitsTo}
use Rattle.upp_curve.specs.affine_segment.Fits.{LineFitsAt, LineFits}
use Rattle.upp_curve.specs.Shapes.{IsFinitePiece}
use Rattle.upp_curve.proofs.affine_segment.PieceIn.{value_past, value_at_start}
use Rattle.curve_call.proofs.Surgery.{BeforeNext, read_middle, rest_rises, start_nonneg, before_own}
use Rattle.plain_operators.specs.running.Scans.{start_or, IsWindow, ScanFits, IsLevel, HasLine, IsStretch}
use Rattle.upp_curve.proofs.affine_segment.PieceOrder.{each_mid, has_mid}

-- the list falls into what comes before the i-th piece, that piece, and what comes after it
pub record Parts (ps : List Piece) (i : ℕ) (p : Piece) : Type 0 where
  pub before : List Piece
  pub after : List Piece
  pub whole : before ++ p ∷ after ≡ ps
  pub here : p ∷ after ≡ drop i ps
  pub next : after ≡ drop (i + 1) ps

pub parts : (ps : List Piece) (i : ℕ) (p : Piece) → i < length ps → p ≡ get_or ps i p → Parts ps i p
parts ps i p h e =
    let k : suc i ≡ i + 1 = omega arith in
    let here = drop-cons ps i p h ∙ ap (λ q. q ∷ drop (suc i) ps) (sym e) in
    record {
      before = take i ps;
      after = drop (suc i) ps;
      whole = ap (λ z. take i ps ++ z) (sym here) ∙ take-append-drop i ps;
      here = sym here;
      next = ap (λ n. drop n ps) k;
    }

-- ---- facts of the piece in the middle

each_after : (P : Piece → Type 0) (bs : List Piece) (p : Piece) (rest : List Piece) → Each P (bs ++ p ∷ rest) → Each P rest
each_after P [] p rest h = h.1
each_after P (b ∷ bs) p rest h = each_after P bs p rest h.1

pub record PieceFits (end : Option ℚ) (p : Piece) (rest : List Piece) : Type 0 where
  pub right : LineFitsAt p.x p.line
  pub left : LineFitsTo (start_after rest end) p.line

fits_middle : (end : Option ℚ) (bs : List Piece) (p : Piece) (rest : List Piece) → EachFits end (bs ++ p ∷ rest) → PieceFits end p rest
fits_middle end [] p rest h = record { right = h.0; left = h.1 }
fits_middle end (b ∷ bs) p rest h = fits_middle end bs p rest h.2

line_to : (end : ℚ) (rest : List Piece) (l : Option Line) → LineFitsTo (start_after rest (Some end)) l → LineFitsAt (start_or end rest) l
line_to end [] l h = h
line_to end (q ∷ qs) l h = h

pub has_line : (l : Line) (bs : List Piece) (p : Piece) (rest : List Piece) → p.line ≡ Some l → HasLine l (bs ++ p ∷ rest)
has_line l [] p rest e = inl e
has_line l (b ∷ bs) p rest e = inr (has_line l bs p rest e)

pub level_at : (end : ℚ) (bs : List Piece) (p : Piece) (rest : List Piece) (v : ℚ) → p.at ≡ Fin v → IsLevel end (bs ++ p ∷ rest) v
level_at end [] p rest v e = inl e
level_at end (b ∷ bs) p rest v e = inr (inr (inr (level_at end bs p rest v e)))

pub level_right : (end : ℚ) (bs : List Piece) (p : Piece) (rest : List Piece) (v : ℚ) → line_value p.line p.x ≡ Fin v → IsLevel end (bs ++ p ∷ rest) v
level_right end [] p rest v e = inr (inl e)
level_right end (b ∷ bs) p rest v e = inr (inr (inr (level_right end bs p rest v e)))

pub level_left : (end : ℚ) (bs : List Piece) (p : Piece) (rest : List Piece) (v : ℚ) → line_value p.line (start_or end rest) ≡ Fin v → IsLevel end (bs ++ p ∷ rest) v
level_left end [] p rest v e = inr (inr (inl e))
level_left end (b ∷ bs) p rest v e = inr (inr (inr (level_left end bs p rest v e)))

-- ---- the stretch
next_later : (x end : ℚ) (rest : List Piece) → x <ℚ end → RisesFrom x rest → x <ℚ start_or end rest
next_later x end [] h r = h
next_later x end (q ∷ qs) h r = r.0

next_most : (end : ℚ) (rest : List Piece) → Each (λ z. z.x <ℚ end) rest → start_or end rest ≤ℚ end
next_most end [] h = le_refl end
next_most end (q ∷ qs) h = le_of_lt h.0

before_next : (end t : ℚ) (rest : List Piece) → t <ℚ start_or end rest → BeforeNext t rest
before_next end t [] h = tt
before_next end t (q ∷ qs) h = h

pub finite_at : (ps : List Piece) (i : ℕ) (p : Piece) (end : ℚ) → IsWindow end ps → i < length ps → p ≡ get_or ps i p → IsFinitePiece p
finite_at ps i p end W h e =
    let a = parts ps i p h e in each_mid IsFinitePiece a.before p a.after (subst (Each IsFinitePiece) (sym a.whole) W.finite)

fits_at : (ps : List Piece) (i : ℕ) (p : Piece) (end : ℚ) → ScanFits end ps → (a : Parts ps i p) → PieceFits (Some end) p a.after
fits_at ps i p end F a = fits_middle (Some end) a.before p a.after (subst (EachFits (Some end)) (sym a.whole) F.lines)

pub right_fits : (ps : List Piece) (i : ℕ) (p : Piece) (l : Line) (end : ℚ) → ScanFits end ps → i < length ps → p ≡ get_or ps i p → p.line ≡ Some l → LineFits p.x l
right_fits ps i p l end F h e k = subst (LineFitsAt p.x) k (fits_at ps i p end F (parts ps i p h e)).right

pub left_fits : (ps : List Piece) (i : ℕ) (p : Piece) (l : Line) (end to : ℚ) → ScanFits end ps → i < length ps → p ≡ get_or ps i p → p.line ≡ Some l
    → to ≡ start_or end (drop (i + 1) ps) → LineFits to l
left_fits ps i p l end to F h e k is =
    let a = parts ps i p h e in
    let to_is : to ≡ start_or end a.after = is ∙ sym (ap (start_or end) a.next) in
    subst (λ z. LineFitsAt z (Some l)) (sym to_is) (subst (LineFitsAt (start_or end a.after)) k (line_to end a.after p.line (fits_at ps i p end F a).left))

pub stretch_is : (ps : List Piece) (i : ℕ) (p : Piece) (end v to right left : ℚ) (l : Line) → IsWindow end ps → i < length ps → p ≡ get_or ps i p → p.at ≡ Fin v → p.line ≡ Some l
    → to ≡ start_or end (drop (i + 1) ps) → right ≡ line_at l p.x → left ≡ line_at l to → LineFits p.x l → LineFits to l
    → IsStretch ps end i record { from = p.x; at = v; line = l; to = to; right = right; left = left }
stretch_is ps i p end v to right left l W h e at line is r q m n = record {
  from = ap (start_or end) a.here;
  to = is;
  some = subst (λ z. p.x <ℚ z) (sym to_is) (next_later p.x end bs_after soon rises);
  nonneg = start_nonneg a.before p a.after starts;
  most = subst (λ z. z ≤ℚ end) (sym to_is) (next_most end bs_after (each_after (λ z. z.x <ℚ end) a.before p a.after early));
  at = subst (λ z. read z p.x ≡ Fin v) a.whole (read_middle a.before p a.after p.x starts (le_refl p.x) (before_own p a.after rises) ∙ value_at_start p ∙ at);
  on = λ t past before.
      subst (λ z. read z t ≡ Fin (line_at l t)) a.whole
      (read_middle a.before p a.after t starts (le_of_lt past) (before_next end t a.after (subst (λ z. t <ℚ z) to_is before)) ∙ value_past p t past ∙ ap
      (λ z. line_value z t) line);
  right = r;
  left = q;
  right_fits = m;
  left_fits = n;
  start = subst (HasStart p.x) a.whole (has_mid a.before p a.after);
  line = subst (HasLine l) a.whole (has_line l a.before p a.after line);
  at_level = subst (λ z. IsLevel end z v) a.whole (level_at end a.before p a.after v at);
  right_level = subst (λ z. IsLevel end z right) a.whole (level_right end a.before p a.after right (ap (λ z. line_value z p.x) line ∙ ap Fin (sym r)));
  left_level = subst (λ z. IsLevel end z left) a.whole (level_left end a.before p a.after left
      (ap (λ z. line_value z (start_or end a.after)) line ∙ ap Fin (ap (line_at l) (sym to_is) ∙ sym q)));
}
  where
    a : Parts ps i p
    a = parts ps i p h e

    bs_after : List Piece
    bs_after = a.after

    starts : StartsAtZero (a.before ++ p ∷ a.after)
    starts = subst StartsAtZero (sym a.whole) W.starts

    early : Each (λ z. z.x <ℚ end) (a.before ++ p ∷ a.after)
    early = subst (Each (λ z. z.x <ℚ end)) (sym a.whole) W.before

    soon : p.x <ℚ end
    soon = each_mid (λ z. z.x <ℚ end) a.before p a.after early

    rises : RisesFrom p.x a.after
    rises = rest_rises a.before p a.after starts

    to_is : to ≡ start_or end a.after
    to_is = is ∙ sym (ap (start_or end) a.next)
