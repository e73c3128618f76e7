-- The pieces of a curve that never falls join exactly where it is continuous.
use Rattle.std.specs.Prelude.{◌≡◌, ◌↔◌, Bool, IsTrue, pos, List, [], ◌∷◌, Option, Some, None}
use Rattle.std.proofs.Common.{arith, sym, ap, ◌∙◌, refl, subst, inl, inr}
use Rattle.rational.specs.Rational.{ℚ, ◌+ℚ◌, ◌-ℚ◌, ◌≤ℚ◌, ◌<ℚ◌, int}
use Rattle.rational.specs.MinMax.{min_q, max_q}
use Rattle.rational.specs.Extended.{Ext, ◌≤ₑ◌, ◌+ₑ◌}
use Rattle.rational.specs.declared.Extended.TheVariants.{Fin, Inf}
use Rattle.rational.proofs.Linear.{with1, with2, with3}
use Rattle.rational.proofs.Laws.{le_refl, le_or_lt, le_of_lt, le_trans, le_lt_trans, between, half, half_is, half_pos}
use Rattle.rational.proofs.Integers.{nat_lt}
use Rattle.rational.proofs.MinMax.{below_min_in, below_min_out, max_q_ge_left, max_q_ge_right, max_q_lt}
use Rattle.rational.proofs.ExtendedOrder.{le_ext_refl, le_ext_trans, antisym_ext, add_le_ext}
use Rattle.upp_curve.specs.declared.affine_segment.line.Line.{Line}
use Rattle.upp_curve.specs.declared.affine_segment.line.Piece.{Piece}
use Rattle.upp_curve.specs.affine_segment.Values.{line_value}
use Rattle.upp_curve.specs.declared.curve.Tail.{Tail}
use Rattle.upp_curve.specs.declared.curve.Tail.TheVariants.{Periodic, Affine, Infinite}
use Rattle.upp_curve.specs.declared.shape.End.{End}
use Rattle.upp_curve.specs.affine_segment.Reading.{piece_value, read}
use Rattle.upp_curve.specs.Curve.{SpecCurve, value_at, repeated}
use Rattle.min_plus.specs.Functions.{IsRising, zero_q}
use Rattle.upp_curve.specs.affine_segment.Pieces.{Each, RisesFrom, StartsAtZero}
use Rattle.upp_curve.specs.Normal.{IsNormal, FitsPeriod}
use Rattle.upp_curve.specs.Shapes.{LineRises, PieceRises, PiecesRise}
use Rattle.min_plus.specs.Continuity.{IsContinuous}
use Rattle.upp_curve.specs.JoinedPieces.{PieceJoins, PiecesJoin}
use Rattle.upp_curve.proofs.affine_segment.PieceIn.{piece_in_end, piece_in_go, piece_in_stop, value_past}
use Rattle.upp_curve.proofs.FirstStretch.{read_in, at_start}
use Rattle.upp_curve.proofs.Repeats.{repeated_first, repeated_end}
use Rattle.upp_curve.proofs.OneForm.{infinite_value}
use Rattle.upp_curve.proofs.RisingFrom.{IsBefore, before_later}
use Rattle.upp_curve.proofs.RisingCurves.{IsEnd, period_end, pieces_by_tail, each_at_most, each_before, each_free}
use Rattle.upp_curve.proofs.Gentle.{steepest, list_gentle, end_gentle, repeated_gentle, gentle_continuous}
use Rattle.upp_curve.proofs.CurveShapes.{curve}
use Rattle.upp_curve.proofs.affine_segment.PieceIn.{read_is}
use Rattle.upp_curve.proofs.Rising.{line_up}

-- ---- from pieces that join
pub plain_continuous : (ps : List Piece) (f : ℚ → Ext) → StartsAtZero ps → ((t : ℚ) → zero_q ≤ℚ t → read ps t ≡ f t) → PiecesJoin None ps → IsRising f → IsContinuous f
plain_continuous [] f h same join rise = absurd h
plain_continuous (p ∷ ps) f h same join rise =
    let S = steepest (p ∷ ps) in
    gentle_continuous S.slope f S.some rise record {
      is = λ s t low up.
          rw (← same s low, ← same t (le_trans low up), read_is p ps s, read_is p ps t)
          (list_gentle S.slope None p ps s t h.1 join S.each (subst (λ x. x ≤ℚ s) (sym h.0) low) up);
    }

pub periodic_continuous : (ps : List Piece) (r d c : ℚ) → StartsAtZero ps → FitsPeriod ps r d → PiecesJoin (Some (period_end ps r d c)) ps → IsRising (repeated (read ps) r d c) → IsContinuous (repeated (read ps) r d c)
periodic_continuous [] r d c h fits join rise = absurd h
periodic_continuous (p ∷ ps) r d c h fits join rise =
    let S = steepest (p ∷ ps) in
    gentle_continuous S.slope (repeated (read (p ∷ ps)) r d c) S.some rise
    (repeated_gentle S.slope (read (p ∷ ps)) r d c fits.nonneg fits.some
    (λ s t low up l. rw (read_is p ps s, read_is p ps t) (list_gentle S.slope (Some (period_end (p ∷ ps) r d c)) p ps s t h.1 join S.each (subst (λ x. x ≤ℚ s) (sym h.0) low) up))
    (λ s low l. rw (read_is p ps s)
    (end_gentle S.slope (period_end (p ∷ ps) r d c) p ps s h.1 join S.each (each_at_most (r +ℚ d) ps fits.starts.1) (subst (λ x. x ≤ℚ s) (sym h.0) low) (le_of_lt l))))

-- ---- from a continuous function
-- what is at most any number above y is at most y
near_le : (x y : Ext) → ((e : ℚ) → zero_q <ℚ e → x ≤ₑ y +ₑ Fin e) → x ≤ₑ y
near_le Inf Inf f = tt
near_le (Fin x) Inf f = tt
near_le Inf (Fin y) f = f (int (pos 1)) (nat_lt 0 1 (omega arith))
near_le (Fin x) (Fin y) f = elim (le_or_lt x y) [
  | inl h ↦ h
  | inr l ↦
      let g = x -ℚ y in
      let some : zero_q <ℚ g = with2 x y (λ c. omega (arith, c.le, c.lt, c.same)) in
      absurd (apart x y (half g) (half_is g) (half_pos some) (f (half g) (half_pos some)))
]
  where
    apart : (x y e : ℚ) → e +ℚ e ≡ x -ℚ y → zero_q <ℚ e → x ≤ℚ y +ℚ e → ⊥
    apart x y e h some l = with3 x y e (λ c. omega (arith, c.le, c.lt, c.same, h, some, l))

-- f is read from the line of a piece strictly between x and y
record OnLine (f : ℚ → Ext) (l : Option Line) (x y : ℚ) : Type 0 where
  some : x <ℚ y
  low : zero_q ≤ℚ x
  is : (t : ℚ) → x <ℚ t → t <ℚ y → f t ≡ line_value l t
  rises : LineRises l
  smooth : IsContinuous f

begins : (f : ℚ → Ext) (l : Option Line) (x y : ℚ) → OnLine f l x y → line_value l x ≤ₑ f x
begins f l x y O =
    near_le (line_value l x) (f x) (λ e some.
    let (d, N) = O.smooth x e O.low some in
    let dpos = N.some in
    let far : x <ℚ x +ℚ d = with2 x d (λ c. omega (arith, c.le, c.lt, c.same)) in
    let (s, past, before) = between x (min_q (x +ℚ d) y) (below_min_in (x +ℚ d) y x far O.some) in
    let both = below_min_out (x +ℚ d) y s before in
    let back : x ≤ℚ s +ℚ d = with3 x s d (λ c. omega (arith, c.le, c.lt, c.same)) in
    le_ext_trans (line_value l x) (line_value l s) (f x +ₑ Fin e) (line_up l x s O.rises (le_of_lt past))
    (subst (λ v. v ≤ₑ f x +ₑ Fin e) (O.is s past both.1) (N.near s (le_trans O.low (le_of_lt past)) (le_of_lt both.0) back).first))

ends : (f : ℚ → Ext) (l : Option Line) (x y : ℚ) → OnLine f l x y → f y ≤ₑ line_value l y
ends f l x y O =
    near_le (f y) (line_value l y) (λ e some.
    let (d, N) = O.smooth y e (le_trans O.low (le_of_lt O.some)) some in
    let dpos = N.some in
    let close : y -ℚ d <ℚ y = with2 y d (λ c. omega (arith, c.le, c.lt, c.same)) in
    let (s, past, before) = between (max_q x (y -ℚ d)) y (max_q_lt x (y -ℚ d) y O.some close) in
    let after : x <ℚ s = le_lt_trans (max_q_ge_left x (y -ℚ d)) past in
    let near : y -ℚ d <ℚ s = le_lt_trans (max_q_ge_right x (y -ℚ d)) past in
    let reach : y ≤ℚ s +ℚ d = with3 y s d (λ c. omega (arith, c.le, c.lt, c.same)) in
    let late : s ≤ℚ y +ℚ d = with3 y s d (λ c. omega (arith, c.le, c.lt, c.same)) in
    let n = N.near s (le_trans O.low (le_of_lt after)) late reach in
    le_ext_trans (f y) (line_value l s +ₑ Fin e) (line_value l y +ₑ Fin e) (subst (λ v. f y ≤ₑ v +ₑ Fin e) (O.is s after before) n.second)
    (add_le_ext (line_value l s) (line_value l y) (Fin e) (Fin e) (line_up l s y O.rises (le_of_lt before)) (le_ext_refl (Fin e))))

abbrev EndsAs : (ℚ → Ext) → Option End → Type 0
EndsAs f None = Unit {0}
EndsAs f (Some e) = f e.x ≡ e.at

-- f is read from these pieces up to the end
record ReadsTo (f : ℚ → Ext) (end : Option End) (p : Piece) (ps : List Piece) : Type 0 where
  starts : RisesFrom p.x ps
  early : Each (λ z. IsBefore z.x end) (p ∷ ps)
  low : zero_q ≤ℚ p.x
  is : (t : ℚ) → p.x ≤ℚ t → IsBefore t end → f t ≡ read_in p ps t
  end_is : EndsAs f end
  smooth : IsContinuous f

rest_reads : (f : ℚ → Ext) (end : Option End) (p q : Piece) (qs : List Piece) → ReadsTo f end p (q ∷ qs) → ReadsTo f end q qs
rest_reads f end p q qs R = record {
  starts = R.starts.1;
  early = R.early.1;
  low = le_trans R.low (le_of_lt R.starts.0);
  is = λ t a b. R.is t (le_trans (le_of_lt R.starts.0) a) b ∙ ap (λ z. piece_value z t) (piece_in_go p q qs t a);
  end_is = R.end_is;
  smooth = R.smooth;
}

-- one piece, by what it is read from
joined : (f : ℚ → Ext) (p : Piece) (y : ℚ) (v : Ext) → OnLine f p.line p.x y → f p.x ≡ p.at → f y ≡ v → PieceRises p (Some record { x = y; at = v }) → PieceJoins p (Some record { x = y; at = v })
joined f p y v O first last rise = record {
  first = antisym_ext (line_value p.line p.x) p.at (subst (λ w. line_value p.line p.x ≤ₑ w) first (begins f p.line p.x y O)) rise.first;
  last = antisym_ext (line_value p.line y) v rise.last (subst (λ w. w ≤ₑ line_value p.line y) last (ends f p.line p.x y O));
}

joined_free : (f : ℚ → Ext) (p : Piece) (y : ℚ) → OnLine f p.line p.x y → f p.x ≡ p.at → PieceRises p None → PieceJoins p None
joined_free f p y O first rise = record {
  first = antisym_ext (line_value p.line p.x) p.at (subst (λ w. line_value p.line p.x ≤ₑ w) first (begins f p.line p.x y O)) rise.first;
  last = tt;
}

first_at : (f : ℚ → Ext) (end : Option End) (p : Piece) (ps : List Piece) → ReadsTo f end p ps → f p.x ≡ p.at
first_at f end p ps R = R.is p.x (le_refl p.x) R.early.0 ∙ at_start p ps R.starts

alone : (f : ℚ → Ext) (end : Option End) (p : Piece) (y : ℚ) → ReadsTo f end p [] → p.x <ℚ y → ((t : ℚ) → t <ℚ y → IsBefore t end) → LineRises p.line → OnLine f p.line p.x y
alone f end p y R some inside rise = record {
  some = some;
  low = R.low;
  is = λ t a b. R.is t (le_of_lt a) (inside t b) ∙ ap (λ z. piece_value z t) (piece_in_end p t) ∙ value_past p t a;
  rises = rise;
  smooth = R.smooth;
}

followed : (f : ℚ → Ext) (end : Option End) (p q : Piece) (qs : List Piece) → ReadsTo f end p (q ∷ qs) → LineRises p.line → OnLine f p.line p.x q.x
followed f end p q qs R rise = record {
  some = R.starts.0;
  low = R.low;
  is = λ t a b. R.is t (le_of_lt a) (before_later end t q.x b R.early.1.0) ∙ ap (λ z. piece_value z t) (piece_in_stop p q qs t b) ∙ value_past p t a;
  rises = rise;
  smooth = R.smooth;
}

all_join : (f : ℚ → Ext) (end : Option End) (p : Piece) (ps : List Piece) → ReadsTo f end p ps → PiecesRise end (p ∷ ps) → PiecesJoin end (p ∷ ps)
all_join f None p [] R rise =
    let x = p.x in
    (joined_free f p (p.x +ℚ int (pos 1)) (alone f None p (p.x +ℚ int (pos 1)) R (with1 x (λ c. omega (arith, c.le, c.lt, c.same))) (λ t b. tt) rise.0.slope) (first_at f None p [] R) rise.0, tt)
all_join f (Some e) p [] R rise =
    (joined f p e.x e.at (alone f (Some e) p e.x R R.early.0 (λ t b. b) rise.0.slope) (first_at f (Some e) p [] R) R.end_is rise.0, tt)
all_join f end p (q ∷ qs) R rise =
    let S = rest_reads f end p q qs R in
    (joined f p q.x q.at (followed f end p q qs R rise.0.slope) (first_at f end p (q ∷ qs) R) (first_at f end q qs S) rise.0, all_join f end q qs S rise.1)

pub plain_joins : (ps : List Piece) (f : ℚ → Ext) → StartsAtZero ps → ((t : ℚ) → zero_q ≤ℚ t → read ps t ≡ f t) → PiecesRise None ps → IsContinuous f → PiecesJoin None ps
plain_joins [] f h same rise smooth = absurd h
plain_joins (p ∷ ps) f h same rise smooth =
    all_join f None p ps record {
      starts = h.1;
      early = each_free (p ∷ ps);
      low = subst (λ x. zero_q ≤ℚ x) (sym h.0) (le_refl zero_q);
      is = λ t a b. sym (same t (subst (λ x. x ≤ℚ t) h.0 a)) ∙ read_is p ps t;
      end_is = tt;
      smooth = smooth;
    } rise

pub periodic_joins : (ps : List Piece) (r d c : ℚ) → StartsAtZero ps → FitsPeriod ps r d → PiecesRise (Some (period_end ps r d c)) ps → IsContinuous (repeated (read ps) r d c) → PiecesJoin (Some (period_end ps r d c)) ps
periodic_joins [] r d c h fits rise smooth = absurd h
periodic_joins (p ∷ ps) r d c h fits rise smooth =
    all_join (repeated (read (p ∷ ps)) r d c) (Some (period_end (p ∷ ps) r d c)) p ps record {
      starts = h.1;
      early = each_before (period_end (p ∷ ps) r d c) (p ∷ ps) fits.starts;
      low = subst (λ x. zero_q ≤ℚ x) (sym h.0) (le_refl zero_q);
      is = λ t a b. first t b ∙ read_is p ps t;
      end_is = end;
      smooth = smooth;
    } rise
  where
    first : (t : ℚ) → t <ℚ r +ℚ d → repeated (read (p ∷ ps)) r d c t ≡ read (p ∷ ps) t
    first t l = repeated_first (read (p ∷ ps)) r d c t fits.some l

    end : repeated (read (p ∷ ps)) r d c (r +ℚ d) ≡ read (p ∷ ps) r +ₑ Fin c
    end = repeated_end (read (p ∷ ps)) r d c fits.some

-- ---- by the tail
continuous_by_tail : (ps : List Piece) (tail : Tail) (end : Option End) → IsNormal record { pieces = ps; tail = tail } → IsEnd ps tail end → IsRising (value_at record { pieces = ps; tail = tail })
    → PiecesJoin end ps → IsContinuous (value_at record { pieces = ps; tail = tail })
unfolding value_at
continuous_by_tail ps (Periodic r d c) end N e rise h = periodic_continuous ps r d c N.raw.starts N.raw.tail (subst (λ z. PiecesJoin z ps) e h) rise
continuous_by_tail ps (Affine r) end N e rise h = plain_continuous ps (read ps) N.raw.starts (λ t l. refl) (subst (λ z. PiecesJoin z ps) e h) rise
continuous_by_tail ps (Infinite r) end N e rise h =
    plain_continuous ps _ N.raw.starts (λ t l. sym (infinite_value ps r t N.raw.tail.starts N.tail)) (subst (λ z. PiecesJoin z ps) e h) rise

joins_by_tail : (ps : List Piece) (tail : Tail) (end : Option End) → IsNormal record { pieces = ps; tail = tail } → IsEnd ps tail end → PiecesRise end ps
    → IsContinuous (value_at record { pieces = ps; tail = tail }) → PiecesJoin end ps
unfolding value_at
joins_by_tail ps (Periodic r d c) end N e rise h = subst (λ z. PiecesJoin z ps) (sym e) (periodic_joins ps r d c N.raw.starts N.raw.tail (subst (λ z. PiecesRise z ps) e rise) h)
joins_by_tail ps (Affine r) end N e rise h = subst (λ z. PiecesJoin z ps) (sym e) (plain_joins ps (read ps) N.raw.starts (λ t l. refl) (subst (λ z. PiecesRise z ps) e rise) h)
joins_by_tail ps (Infinite r) end N e rise h =
    subst (λ z. PiecesJoin z ps) (sym e) (plain_joins ps _ N.raw.starts (λ t l. sym (infinite_value ps r t N.raw.tail.starts N.tail)) (subst (λ z. PiecesRise z ps) e rise) h)

pub continuous_answer : (c : SpecCurve) (ps : List Piece) (tail : Tail) (end : Option End) (b : Bool) → curve ps tail ≡ c → IsNormal (curve ps tail) → IsEnd ps tail end → IsRising (value_at c)
    → (IsTrue b ↔ PiecesJoin end ps) → (IsTrue b ↔ IsContinuous (value_at c))
continuous_answer c ps tail end b v N e rise k =
    let up = subst (λ s. IsRising (value_at s)) (sym v) rise in
    subst (λ s. IsTrue b ↔ IsContinuous (value_at s)) v
    (λ t. continuous_by_tail ps tail end N e up (k.0 t), λ r. k.1 (joins_by_tail ps tail end N e (pieces_by_tail ps tail end N e up) r))
