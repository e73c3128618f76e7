-- Whether a curve rises, and whether it is finite, from its pieces and its tail.
use Rattle.std.specs.Prelude.{◌≡◌, pos, List, [], ◌∷◌, Option, Some, None}
use Rattle.std.proofs.Common.{arith, sym, ap, ◌∙◌, refl, subst, inl, inr}
use Rattle.rational.specs.Rational.{ℚ, ◌+ℚ◌, ◌≤ℚ◌, ◌<ℚ◌, int}
use Rattle.rational.specs.Extended.{Ext, ◌+ₑ◌}
use Rattle.rational.specs.declared.Extended.TheVariants.{Fin}
use Rattle.rational.proofs.Linear.{with1}
use Rattle.rational.proofs.Laws.{le_refl, le_of_lt, le_trans, le_lt_trans}
use Rattle.upp_curve.specs.declared.affine_segment.line.Piece.{Piece}
use Rattle.upp_curve.specs.declared.curve.Tail.{Tail}
use Rattle.upp_curve.specs.declared.curve.Tail.TheVariants.{Periodic, Affine, Infinite}
use Rattle.upp_curve.specs.declared.shape.End.{End}
use Rattle.upp_curve.specs.affine_segment.Reading.{piece_value, piece_in, read}
use Rattle.upp_curve.specs.Curve.{value_at, repeated}
use Rattle.min_plus.specs.Functions.{IsRising, IsFinite}
use Rattle.upp_curve.specs.affine_segment.Pieces.{Each, HasStart, RisesFrom, StartsAtZero}
use Rattle.upp_curve.specs.Normal.{IsNormal, FitsPeriod}
use Rattle.upp_curve.specs.Shapes.{IsNumber, IsFinitePiece, PiecesRise}
use Rattle.upp_curve.proofs.affine_segment.PieceIn.{piece_in_end, piece_in_go, piece_in_stop, value_at_start}
use Rattle.upp_curve.proofs.FirstStretch.{read_in}
use Rattle.upp_curve.proofs.Repeats.{repeated_first, repeated_end}
use Rattle.upp_curve.proofs.OneForm.{infinite_value, infinite_past}
use Rattle.min_plus.proofs.FiniteValues.{no_inf}
use Rattle.upp_curve.proofs.Rising.{list_rises, list_ends, repeated_rises}
use Rattle.upp_curve.proofs.RisingFrom.{IsBefore, pieces_rise}
use Rattle.upp_curve.proofs.Finite.{level_of, number_of, read_number, repeated_number, pieces_finite}

pub read_is : (p : Piece) (ps : List Piece) (t : ℚ) → read (p ∷ ps) t ≡ read_in p ps t
unfolding read
read_is p ps t = refl

pub each_before : (e : End) (ps : List Piece) → Each (λ z. z.x <ℚ e.x) ps → Each (λ z. IsBefore z.x (Some e)) ps
each_before e [] h = tt
each_before e (p ∷ ps) h = (h.0, each_before e ps h.1)

pub each_free : (ps : List Piece) → Each (λ z. IsBefore z.x None) ps
each_free [] = tt
each_free (p ∷ ps) = (tt, each_free ps)

pub each_at_most : (x : ℚ) (ps : List Piece) → Each (λ z. z.x <ℚ x) ps → Each (λ z. z.x ≤ℚ x) ps
each_at_most x [] h = tt
each_at_most x (p ∷ ps) h = (le_of_lt h.0, each_at_most x ps h.1)

-- ---- without a period
pub plain_rises : (ps : List Piece) (f : ℚ → Ext) → StartsAtZero ps → ((t : ℚ) → int (pos 0) ≤ℚ t → read ps t ≡ f t) → PiecesRise None ps → IsRising f
plain_rises [] f h same rise s t low up = absurd h
plain_rises (p ∷ ps) f h same rise s t low up =
    let start = le_trans low up in
    rw (← same s low, ← same t start, read_is p ps s, read_is p ps t)
    (list_rises None p ps s t h.1 rise (subst (λ x. x ≤ℚ s) (sym h.0) low) up)

pub plain_pieces : (ps : List Piece) (f : ℚ → Ext) → StartsAtZero ps → ((t : ℚ) → int (pos 0) ≤ℚ t → read ps t ≡ f t) → IsRising f → PiecesRise None ps
plain_pieces [] f h same rise = absurd h
plain_pieces (p ∷ ps) f h same rise =
    pieces_rise None p ps record {
      starts = h.1;
      early = each_free (p ∷ ps);
      rises = λ s t low up b.
          let a = subst (λ x. x ≤ℚ s) h.0 low in
          rw (← read_is p ps s, ← read_is p ps t, same s a, same t (le_trans a up)) (rise s t a up);
      ends = λ t low b. tt;
    }

plain_finite : (ps : List Piece) (f : ℚ → Ext) → StartsAtZero ps → ((t : ℚ) → int (pos 0) ≤ℚ t → read ps t ≡ f t) → Each IsFinitePiece ps → IsFinite f
plain_finite [] f h same each t low = absurd h
plain_finite (p ∷ ps) f h same each t low = level_of (f t) (subst IsNumber (sym (read_is p ps t) ∙ same t low) (read_number p ps t each))

plain_finite_pieces : (ps : List Piece) (f : ℚ → Ext) → StartsAtZero ps → ((t : ℚ) → int (pos 0) ≤ℚ t → read ps t ≡ f t) → IsFinite f → Each IsFinitePiece ps
plain_finite_pieces [] f h same finite = absurd h
plain_finite_pieces (p ∷ ps) f h same finite =
    pieces_finite None p ps record {
      starts = h.1;
      early = each_free (p ∷ ps);
      finite = λ t low b.
          let a = subst (λ x. x ≤ℚ t) h.0 low in
          let (level, e) = finite t a in
          subst IsNumber (read_is p ps t) (number_of (read (p ∷ ps) t) level (same t a ∙ e));
    }

-- ---- with a period
abbrev pub period_end : List Piece → (rank period rise : ℚ) → End
period_end ps r d c = record { x = r +ℚ d; at = read ps r +ₑ Fin c }

pub periodic_rises : (ps : List Piece) (r d c : ℚ) → StartsAtZero ps → FitsPeriod ps r d → PiecesRise (Some (period_end ps r d c)) ps → IsRising (repeated (read ps) r d c)
periodic_rises [] r d c h fits rise = absurd h
periodic_rises (p ∷ ps) r d c h fits rise =
    repeated_rises (read (p ∷ ps)) r d c fits.nonneg fits.some
    (λ s t low up l. rw (read_is p ps s, read_is p ps t) (list_rises (Some (period_end (p ∷ ps) r d c)) p ps s t h.1 rise (subst (λ x. x ≤ℚ s) (sym h.0) low) up))
    (λ s low l. rw (read_is p ps s)
    (list_ends (period_end (p ∷ ps) r d c) p ps s h.1 rise (each_at_most (r +ℚ d) ps fits.starts.1) (subst (λ x. x ≤ℚ s) (sym h.0) low) (le_of_lt l)))

pub periodic_pieces : (ps : List Piece) (r d c : ℚ) → StartsAtZero ps → FitsPeriod ps r d → IsRising (repeated (read ps) r d c) → PiecesRise (Some (period_end ps r d c)) ps
periodic_pieces [] r d c h fits rise = absurd h
periodic_pieces (p ∷ ps) r d c h fits rise =
    pieces_rise (Some (period_end (p ∷ ps) r d c)) p ps record {
      starts = h.1;
      early = each_before (period_end (p ∷ ps) r d c) (p ∷ ps) fits.starts;
      rises = λ s t low up b.
          let a = subst (λ x. x ≤ℚ s) h.0 low in
          rw (← read_is p ps s, ← read_is p ps t, ← first s (le_lt_trans up b), ← first t b) (rise s t a up);
      ends = λ t low b.
          let a = subst (λ x. x ≤ℚ t) h.0 low in
          rw (← read_is p ps t, ← first t b, ← end) (rise t (r +ℚ d) a (le_of_lt b));
    }
  where
    first : (t : ℚ) → t <ℚ r +ℚ d → repeated (read (p ∷ ps)) r d c t ≡ read (p ∷ ps) t
    first t l = repeated_first (read (p ∷ ps)) r d c t fits.some l

    end : repeated (read (p ∷ ps)) r d c (r +ℚ d) ≡ read (p ∷ ps) r +ₑ Fin c
    end = repeated_end (read (p ∷ ps)) r d c fits.some

periodic_finite : (ps : List Piece) (r d c : ℚ) → StartsAtZero ps → Each IsFinitePiece ps → IsFinite (repeated (read ps) r d c)
periodic_finite [] r d c h each t low = absurd h
periodic_finite (p ∷ ps) r d c h each t low = level_of (repeated (read (p ∷ ps)) r d c t) (number p ps r d c t each)
  where
    number : (p : Piece) (ps : List Piece) (r d c t : ℚ) → Each IsFinitePiece (p ∷ ps) → IsNumber (repeated (read (p ∷ ps)) r d c t)
    number p ps r d c t each = repeated_number (read (p ∷ ps)) r d c t (λ u. subst IsNumber (sym (read_is p ps u)) (read_number p ps u each))

periodic_finite_pieces : (ps : List Piece) (r d c : ℚ) → StartsAtZero ps → FitsPeriod ps r d → IsFinite (repeated (read ps) r d c) → Each IsFinitePiece ps
periodic_finite_pieces [] r d c h fits finite = absurd h
periodic_finite_pieces (p ∷ ps) r d c h fits finite =
    pieces_finite (Some (period_end (p ∷ ps) r d c)) p ps record {
      starts = h.1;
      early = each_before (period_end (p ∷ ps) r d c) (p ∷ ps) fits.starts;
      finite = λ t low b.
          let a = subst (λ x. x ≤ℚ t) h.0 low in
          let (level, e) = finite t a in
          subst IsNumber (read_is p ps t) (number_of (read (p ∷ ps) t) level (sym (repeated_first (read (p ∷ ps)) r d c t fits.some b) ∙ e));
    }

-- ---- by the tail
-- where the last stretch of a curve ends
abbrev pub IsEnd : List Piece → Tail → Option End → Type 0
IsEnd ps (Periodic r d c) end = end ≡ Some (period_end ps r d c)
IsEnd ps (Affine r) end = end ≡ None
IsEnd ps (Infinite r) end = end ≡ None

pub rises_by_tail : (ps : List Piece) (tail : Tail) (end : Option End) → IsNormal record { pieces = ps; tail = tail } → IsEnd ps tail end
    → PiecesRise end ps → IsRising (value_at record { pieces = ps; tail = tail })
unfolding value_at
rises_by_tail ps (Periodic r d c) end N e h = periodic_rises ps r d c N.raw.starts N.raw.tail (subst (λ z. PiecesRise z ps) e h)
rises_by_tail ps (Affine r) end N e h = plain_rises ps (read ps) N.raw.starts (λ t l. refl) (subst (λ z. PiecesRise z ps) e h)
rises_by_tail ps (Infinite r) end N e h =
    plain_rises ps _ N.raw.starts (λ t l. sym (infinite_value ps r t N.raw.tail.starts N.tail)) (subst (λ z. PiecesRise z ps) e h)

pub pieces_by_tail : (ps : List Piece) (tail : Tail) (end : Option End) → IsNormal record { pieces = ps; tail = tail } → IsEnd ps tail end
    → IsRising (value_at record { pieces = ps; tail = tail }) → PiecesRise end ps
unfolding value_at
pieces_by_tail ps (Periodic r d c) end N e h = subst (λ z. PiecesRise z ps) (sym e) (periodic_pieces ps r d c N.raw.starts N.raw.tail h)
pieces_by_tail ps (Affine r) end N e h = subst (λ z. PiecesRise z ps) (sym e) (plain_pieces ps (read ps) N.raw.starts (λ t l. refl) h)
pieces_by_tail ps (Infinite r) end N e h =
    subst (λ z. PiecesRise z ps) (sym e) (plain_pieces ps _ N.raw.starts (λ t l. sym (infinite_value ps r t N.raw.tail.starts N.tail)) h)

abbrev pub GoesOn : Tail → Type 0
GoesOn (Periodic r d c) = Unit {0}
GoesOn (Affine r) = Unit {0}
GoesOn (Infinite r) = ⊥

pub finite_by_tail : (ps : List Piece) (tail : Tail) → IsNormal record { pieces = ps; tail = tail } → GoesOn tail
    → Each IsFinitePiece ps → IsFinite (value_at record { pieces = ps; tail = tail })
unfolding value_at
finite_by_tail ps (Periodic r d c) N on h = periodic_finite ps r d c N.raw.starts h
finite_by_tail ps (Affine r) N on h = plain_finite ps (read ps) N.raw.starts (λ t l. refl) h
finite_by_tail ps (Infinite r) N on h = absurd on

pub finite_pieces_by_tail : (ps : List Piece) (tail : Tail) → IsNormal record { pieces = ps; tail = tail } → GoesOn tail
    → IsFinite (value_at record { pieces = ps; tail = tail }) → Each IsFinitePiece ps
unfolding value_at
finite_pieces_by_tail ps (Periodic r d c) N on h = periodic_finite_pieces ps r d c N.raw.starts N.raw.tail h
finite_pieces_by_tail ps (Affine r) N on h = plain_finite_pieces ps (read ps) N.raw.starts (λ t l. refl) h
finite_pieces_by_tail ps (Infinite r) N on h = absurd on

pub infinite_is_not_finite : (ps : List Piece) (r : ℚ) → IsNormal record { pieces = ps; tail = Infinite r } → IsFinite (value_at record { pieces = ps; tail = Infinite r }) → ⊥
infinite_is_not_finite ps r N h =
    let low = N.raw.tail.nonneg in
    let (level, e) = h (r +ℚ int (pos 1)) (with1 r (λ c. omega (arith, c.le, c.lt, c.same))) in
    no_inf (sym e ∙ infinite_past ps r (r +ℚ int (pos 1)) (with1 r (λ c. omega (arith, c.le, c.lt, c.same))))

-- ---- the piece that starts at the rank
start_found : (p : Piece) (ps : List Piece) (r : ℚ) → RisesFrom p.x ps → HasStart r (p ∷ ps) → (piece_in p ps r).x ≡ r
start_found p [] r h (inl e) = ap (λ z. z.x) (piece_in_end p r) ∙ e
start_found p [] r h (inr k) = absurd k
start_found p (q ∷ qs) r h (inl e) = ap (λ z. z.x) (piece_in_stop p q qs r (subst (λ x. x <ℚ q.x) e h.0)) ∙ e
start_found p (q ∷ qs) r h (inr k) = ap (λ z. z.x) (piece_in_go p q qs r (later q qs h.1 k)) ∙ start_found q qs r h.1 k
  where
    later : (q : Piece) (qs : List Piece) → RisesFrom q.x qs → HasStart r (q ∷ qs) → q.x ≤ℚ r
    later q qs h (inl e) = subst (λ x. q.x ≤ℚ x) e (le_refl q.x)
    later q [] h (inr k) = absurd k
    later q (s ∷ ss) h (inr k) = le_trans (le_of_lt h.0) (later s ss h.1 k)

pub read_at_start : (ps : List Piece) (found : Piece) (r : ℚ) → StartsAtZero ps → HasStart r ps → ((p : Piece) (qs : List Piece) → ps ≡ p ∷ qs → found ≡ piece_in p qs r)
    → found.at ≡ read ps r
read_at_start [] found r h s f = absurd h
read_at_start (p ∷ ps) found r h s f =
    let e = start_found p ps r h.1 s in
    ap (λ z. z.at) (f p ps refl) ∙ sym (read_is p ps r ∙ ap (piece_value (piece_in p ps r)) (sym e) ∙ value_at_start (piece_in p ps r))
