-- Where a function rises, each of the pieces that it is read from rises to the next.
use Rattle.std.specs.Prelude.{◌≡◌, pos, List, [], ◌∷◌, Option, Some, None}
use Rattle.std.proofs.Common.{arith, ap, ◌∙◌, subst}
use Rattle.rational.specs.Rational.{ℚ, ◌+ℚ◌, ◌-ℚ◌, ◌*ℚ◌, ◌≤ℚ◌, ◌<ℚ◌, int}
use Rattle.rational.specs.Extended.{Ext, ◌≤ₑ◌}
use Rattle.rational.specs.declared.Extended.TheVariants.{Fin}
use Rattle.rational.specs.Stretch.{Between}
use Rattle.rational.proofs.Linear.{with2, with3}
use Rattle.rational.proofs.Laws.{le_refl, le_of_lt, le_trans, between, mul_sub, mul_comm, mul_zero}
use Rattle.rational.proofs.Whole.{le_of_mul}
use Rattle.rational.proofs.Bounds.{greatest, smallest}
use Rattle.rational.proofs.Stretch.{rising_infimum, rising_supremum}
use Rattle.upp_curve.specs.declared.affine_segment.line.Line.{Line}
use Rattle.upp_curve.specs.declared.affine_segment.line.Piece.{Piece}
use Rattle.upp_curve.specs.affine_segment.Values.{line_at, line_value}
use Rattle.upp_curve.specs.declared.shape.End.{End}
use Rattle.upp_curve.specs.affine_segment.Reading.{piece_value}
use Rattle.min_plus.specs.Functions.{zero_q}
use Rattle.upp_curve.specs.affine_segment.Pieces.{Each, RisesFrom}
use Rattle.upp_curve.specs.Shapes.{LineRises, PieceRises, PiecesRise}
use Rattle.upp_curve.proofs.affine_segment.PieceIn.{piece_in_end, piece_in_go, piece_in_stop, value_past}
use Rattle.upp_curve.proofs.FirstStretch.{read_in, at_start}

-- ---- a line on an open stretch
rising_slope : (l : Option Line) (x e : ℚ) → x <ℚ e → ((s t : ℚ) → x <ℚ s → s ≤ℚ t → t <ℚ e → line_value l s ≤ₑ line_value l t) → LineRises l
rising_slope None x e h f = tt
rising_slope (Some l) x e h f =
    let (s, p, q) = between x e h in
    let (t, u, v) = between s e q in
    of s t p u v (f s t p (le_of_lt u) v)
  where
    of : (s t : ℚ) → x <ℚ s → s <ℚ t → t <ℚ e → line_at l s ≤ℚ line_at l t → zero_q ≤ℚ l.slope
    of s t p u v m =
        let gap = t -ℚ s in
        let some : zero_q <ℚ gap = with2 s t (λ c. omega (arith, c.le, c.lt, c.same)) in
        let a = mul_sub l.slope t s in
        let z : zero_q *ℚ gap ≡ zero_q = mul_comm zero_q gap ∙ mul_zero gap in
        let k = l.icept in
        le_of_mul gap zero_q l.slope some (rw (z, a) (with3 k (l.slope *ℚ s) (l.slope *ℚ t) (λ c. omega (arith, c.le, c.lt, c.same))))

-- what is at most each later value is at most the limit
at_most_first : (v : Ext) (l : Option Line) (x e : ℚ) → x <ℚ e → LineRises l → ((t : ℚ) → x <ℚ t → t <ℚ e → v ≤ₑ line_value l t) → v ≤ₑ line_value l x
at_most_first v None x e h k f = tt
at_most_first v (Some l) x e h k f =
    greatest {I = Between x e} (λ s. Fin (line_at l s.at)) (Fin (line_at l x)) v (rising_infimum x e l.icept l.slope h k) (λ s. f s.at s.above s.below)

at_least_last : (v : Ext) (l : Option Line) (x e : ℚ) → x <ℚ e → LineRises l → ((t : ℚ) → x <ℚ t → t <ℚ e → line_value l t ≤ₑ v) → line_value l e ≤ₑ v
at_least_last v None x e h k f = let (s, p, q) = between x e h in f s p q
at_least_last v (Some l) x e h k f =
    smallest {I = Between x e} (λ s. Fin (line_at l s.at)) (Fin (line_at l e)) v (rising_supremum x e l.icept l.slope h k) (λ s. f s.at s.above s.below)

-- ---- one piece, which f is read from on [x, e)
record OnPiece (f : ℚ → Ext) (p : Piece) (e : ℚ) : Type 0 where
  pub some : p.x <ℚ e
  pub first : f p.x ≡ p.at
  pub past : (t : ℚ) → p.x <ℚ t → t <ℚ e → f t ≡ line_value p.line t
  pub rises : (s t : ℚ) → p.x ≤ℚ s → s ≤ℚ t → t <ℚ e → f s ≤ₑ f t

slope_of_piece : (f : ℚ → Ext) (p : Piece) (e : ℚ) → OnPiece f p e → LineRises p.line
slope_of_piece f p e h =
    rising_slope p.line p.x e h.some (λ s t a b l.
    let x = p.x in
    let early = h.past s a (with3 s t e (λ c. omega (arith, c.le, c.lt, c.same))) in
    let late = h.past t (with3 x s t (λ c. omega (arith, c.le, c.lt, c.same))) l in
    subst (λ v. v ≤ₑ line_value p.line t) early (subst (λ v. f s ≤ₑ v) late (h.rises s t (le_of_lt a) b l)))

first_of_piece : (f : ℚ → Ext) (p : Piece) (e : ℚ) → OnPiece f p e → p.at ≤ₑ line_value p.line p.x
first_of_piece f p e h =
    at_most_first p.at p.line p.x e h.some (slope_of_piece f p e h)
    (λ t a b. subst (λ v. v ≤ₑ line_value p.line t) h.first (subst (λ v. f p.x ≤ₑ v) (h.past t a b) (h.rises p.x t (le_refl p.x) (le_of_lt a) b)))

last_of_piece : (f : ℚ → Ext) (p : Piece) (e : ℚ) (v : Ext) → OnPiece f p e → ((t : ℚ) → p.x <ℚ t → t <ℚ e → f t ≤ₑ v) → line_value p.line e ≤ₑ v
last_of_piece f p e v h k =
    at_least_last v p.line p.x e h.some (slope_of_piece f p e h) (λ t a b. subst (λ z. z ≤ₑ v) (h.past t a b) (k t a b))

-- ---- a list of pieces
-- t is before the end, where there is one
abbrev pub IsBefore : ℚ → Option End → Type 0
IsBefore t None = Unit {0}
IsBefore t (Some e) = t <ℚ e.x

abbrev pub IsAtMostEnd : Ext → Option End → Type 0
IsAtMostEnd v None = Unit {0}
IsAtMostEnd v (Some e) = v ≤ₑ e.at

pub record ListRises (end : Option End) (p : Piece) (ps : List Piece) : Type 0 where
  pub starts : RisesFrom p.x ps
  pub early : Each (λ z. IsBefore z.x end) (p ∷ ps)
  pub rises : (s t : ℚ) → p.x ≤ℚ s → s ≤ℚ t → IsBefore t end → read_in p ps s ≤ₑ read_in p ps t
  pub ends : (t : ℚ) → p.x ≤ℚ t → IsBefore t end → IsAtMostEnd (read_in p ps t) end

pub before_later : (end : Option End) (s t : ℚ) → s <ℚ t → IsBefore t end → IsBefore s end
before_later None s t h k = tt
before_later (Some e) s t h k = let x = e.x in with3 s t x (λ c. omega (arith, c.le, c.lt, c.same))

rest_rises : (end : Option End) (p q : Piece) (qs : List Piece) → ListRises end p (q ∷ qs) → ListRises end q qs
rest_rises end p q qs h = record {
  starts = h.starts.1;
  early = h.early.1;
  rises = λ s t a b c.
      let later = le_trans (le_of_lt h.starts.0) a in
      let x = ap (λ z. piece_value z s) (piece_in_go p q qs s a) in
      let y = ap (λ z. piece_value z t) (piece_in_go p q qs t (le_trans a b)) in
      rw (← x, ← y) (h.rises s t later b c);
  ends = λ t a b.
      let y = ap (λ z. piece_value z t) (piece_in_go p q qs t a) in
      subst (λ v. IsAtMostEnd v end) y (h.ends t (le_trans (le_of_lt h.starts.0) a) b);
}

-- the first piece, where another follows
first_then : (end : Option End) (p q : Piece) (qs : List Piece) → ListRises end p (q ∷ qs) → PieceRises p (Some record { x = q.x; at = q.at })
first_then end p q qs h = record {
  first = first_of_piece (read_in p (q ∷ qs)) p q.x on;
  slope = slope_of_piece (read_in p (q ∷ qs)) p q.x on;
  last = last_of_piece (read_in p (q ∷ qs)) p q.x q.at on (λ t a b.
      let is : read_in p (q ∷ qs) q.x ≡ q.at = ap (λ z. piece_value z q.x) (piece_in_go p q qs q.x (le_refl q.x)) ∙ at_start q qs h.starts.1 in
      subst (λ v. read_in p (q ∷ qs) t ≤ₑ v) is (h.rises t q.x (le_of_lt a) (le_of_lt b) h.early.1.0));
}
  where
    on : OnPiece (read_in p (q ∷ qs)) p q.x
    on = record {
      some = h.starts.0;
      first = at_start p (q ∷ qs) h.starts;
      past = λ t a b. ap (λ z. piece_value z t) (piece_in_stop p q qs t b) ∙ value_past p t a;
      rises = λ s t a b c. h.rises s t a b (before_later end t q.x c h.early.1.0);
    }

last_to : (e : End) (p : Piece) → ListRises (Some e) p [] → PieceRises p (Some e)
last_to e p h = record {
  first = first_of_piece (read_in p []) p e.x on;
  slope = slope_of_piece (read_in p []) p e.x on;
  last = last_of_piece (read_in p []) p e.x e.at on (λ t a b. h.ends t (le_of_lt a) b);
}
  where
    on : OnPiece (read_in p []) p e.x
    on = record {
      some = h.early.0;
      first = at_start p [] tt;
      past = λ t a b. ap (λ z. piece_value z t) (piece_in_end p t) ∙ value_past p t a;
      rises = h.rises;
    }

last_on : (p : Piece) → ListRises None p [] → PieceRises p None
last_on p h = record {
  first = first_of_piece (read_in p []) p (p.x +ℚ int (pos 1)) on;
  slope = slope_of_piece (read_in p []) p (p.x +ℚ int (pos 1)) on;
  last = tt;
}
  where
    on : OnPiece (read_in p []) p (p.x +ℚ int (pos 1))
    on = record {
      some = let x = p.x in with2 x (x +ℚ int (pos 1)) (λ c. omega (arith, c.le, c.lt, c.same));
      first = at_start p [] tt;
      past = λ t a b. ap (λ z. piece_value z t) (piece_in_end p t) ∙ value_past p t a;
      rises = λ s t a b c. h.rises s t a b tt;
    }

pub pieces_rise : (end : Option End) (p : Piece) (ps : List Piece) → ListRises end p ps → PiecesRise end (p ∷ ps)
pieces_rise None p [] h = (last_on p h, tt)
pieces_rise (Some e) p [] h = (last_to e p h, tt)
pieces_rise end p (q ∷ qs) h = (first_then end p q qs h, pieces_rise end q qs (rest_rises end p q qs h))
