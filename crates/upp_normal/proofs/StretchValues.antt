-- How a curve goes on from a time: the piece there, or its present copy, up to the next start.
use Rattle.std.specs.Prelude.{◌≡◌, ℕ, cond, pos, List, [], ◌∷◌, Option, Some, None}
use Rattle.std.specs.List.{AllByRecursion}
use Rattle.std.proofs.Common.{arith, sym, ap, ◌∙◌, refl, subst, inl, inr}
use Rattle.rational.specs.Rational.{ℚ, ◌+ℚ◌, ◌-ℚ◌, ◌*ℚ◌, ◌≤ℚ◌, ◌<ℚ◌, int}
use Rattle.rational.specs.Grid.{Whole}
use Rattle.rational.specs.Whole.{periods}
use Rattle.rational.specs.Extended.{Ext, ◌+ₑ◌}
use Rattle.rational.specs.declared.Extended.TheVariants.{Fin}
use Rattle.rational.proofs.Linear.{with3, with4}
use Rattle.rational.proofs.Laws.{le_or_lt, le_refl, le_trans, le_of_lt, le_lt_trans}
use Rattle.rational.proofs.Over.{le_q_out, lt_q_out}
use Rattle.rational.proofs.MinMax.{le_q_not, lt_q_not}
use Rattle.rational.proofs.Grid.{whole_add, whole_times}
use Rattle.upp_curve.specs.declared.affine_segment.line.Line.{Line}
use Rattle.upp_curve.specs.declared.affine_segment.line.Piece.{Piece}
use Rattle.upp_curve.specs.affine_segment.Values.{line_value}
use Rattle.upp_normal.specs.declared.ahead.Stretch.{Stretch}
use Rattle.upp_normal.specs.declared.ahead.Turn.{Turn}
use Rattle.upp_curve.specs.declared.curve.Tail.{Tail}
use Rattle.upp_curve.specs.declared.curve.Tail.TheVariants.{Periodic, Affine, Infinite}
use Rattle.upp_curve.specs.Curve.{SpecCurve, value_at, with_tail, repeated}
use Rattle.upp_curve.specs.Curves.{IsCurve}
use Rattle.upp_curve.specs.affine_segment.Reading.{piece_in, piece_value, read, next_in, line_in}
use Rattle.upp_curve.specs.affine_segment.Pieces.{Each, RisesFrom, StartsAtZero}
use Rattle.upp_curve.specs.Normal.{FitsPeriod, TailFits, TailNormal}
use Rattle.upp_curve.specs.affine_segment.Fits.{ReadFits}
use Rattle.upp_curve.specs.Unrolled.{line_later}
use Rattle.upp_curve.specs.Steady.{rank_of}
use Rattle.upp_limits.specs.Periods.{period_of}
use Rattle.upp_limits.specs.Spans.{next_later, piece_read, spans}
use Rattle.upp_limits.specs.Limits.{Sizes}
use Rattle.upp_normal.specs.Operand.{AreLimited, OperandLineAt}
use Rattle.upp_normal.specs.Ahead.{IsBeforeNext, GoesOn, AtNext, TimesStand, HasWindow, IsTimeIn, GridValue}
use Rattle.upp_normal.specs.Copied.{TakesPeriodsOff, NextMoves}
use Rattle.upp_limits.specs.Sized.{SpanStands}
use Rattle.upp_normal.proofs.UnrolledValues.{line_value_later}
use Rattle.upp_normal.proofs.AnswerRoom.{operand_line_fits, operand_line_value, stands_operand_value}
use Rattle.upp_limits.proofs.CurveStands.{each_stands, has_period, unrolled_stand}
use Rattle.upp_curve.proofs.affine_segment.NextPiece.{next_go, next_stop, next_none}
use Rattle.upp_normal.proofs.StretchPieces.{next_past, next_all, found_late, span_in, line_at_rank, reads_on, cut_plain}
use Rattle.upp_normal.proofs.StretchTurns.{Turned, turned, same_turn, repeated_at}
use Rattle.upp_normal.proofs.StretchSizes.{copies_stand, tail_times, some_period, times_fit, times_stand, span_line, CopySteps, copy_steps}
use Rattle.upp_normal.proofs.NormaliseRoomy.{found_early}

-- ---- a turn, by the number of its periods
abbrev pub turn_at : ℚ → ℚ → ℕ → Turn
turn_at period t n = record { n = int (pos n); by = int (pos n) *ℚ period; early = t -ℚ int (pos n) *ℚ period }

make_turn : ℚ → ℚ → ℚ → Turn
make_turn n by early = record { n = n; by = by; early = early }

pub turn_is : (rank period t : ℚ) (turn : Turn) → TakesPeriodsOff rank period t turn → turn ≡ turn_at period t (periods rank period t)
unfolding make_turn
turn_is rank period t turn h =
    let n = int (pos (periods rank period t)) in
    let by : turn.by ≡ n *ℚ period = h.by ∙ ap (λ (m : ℚ). m *ℚ period) h.count in
    let early : turn.early ≡ t -ℚ n *ℚ period = h.early ∙ ap (λ (y : ℚ). t -ℚ y) by in
    ap (λ m. make_turn m turn.by turn.early) h.count ∙ ap (λ y. make_turn n y turn.early) by ∙ ap (make_turn n (n *ℚ period)) early

-- ---- pieces from 0 on are some
pub with_pieces : {G : Type 0} (qs : List Piece) → StartsAtZero qs → ((p : Piece) (ps : List Piece) → qs ≡ p ∷ ps → G) → G
with_pieces [] h f = absurd h
with_pieces (p ∷ ps) h f = f p ps refl

-- ---- the next start, where there is one after the last
pub next_exists : (ps : List Piece) (t x : ℚ) → (e : ℚ) × (next_in ps t (Some x) ≡ Some e)
next_exists [] t x = (x, next_none t (Some x))
next_exists (p ∷ ps) t x = elim (le_or_lt p.x t) [
  | inl l ↦ let (e, k) = next_exists ps t x in (e, next_go p ps t (Some x) l ∙ k)
  | inr l ↦ (p.x, next_stop p ps t (Some x) l)
]

each_at_most : (ps : List Piece) (end : ℚ) → Each (λ p. p.x <ℚ end) ps → Each (λ p. p.x ≤ℚ end) ps
each_at_most [] end h = tt
each_at_most (p ∷ ps) end h = (le_of_lt h.0, each_at_most ps end h.1)

-- what is known of it: past the time, by the end of the first period, on each grid of the starts
pub record NextStart (ps : List Piece) (rank period early : ℚ) (next : Option ℚ) : Type 0 where
  pub time : ℚ
  pub is : next ≡ Some time
  pub found : next_in ps early (Some (rank +ℚ period)) ≡ Some time
  pub past : early <ℚ time
  pub high : time ≤ℚ rank +ℚ period
  pub grid : (d : ℕ) → Each (λ p. Whole d p.x) ps → Whole d (rank +ℚ period) → Whole d time

pub next_start : (ps : List Piece) (rank period early : ℚ) (next : Option ℚ) → Each (λ p. p.x <ℚ rank +ℚ period) ps → early <ℚ rank +ℚ period
    → next ≡ next_in ps early (Some (rank +ℚ period)) → NextStart ps rank period early next
next_start ps rank period early next starts high e =
    let after : Option ℚ = Some (rank +ℚ period) in
    let (time, k) = next_exists ps early (rank +ℚ period) in
    record {
      time = time;
      is = e ∙ k;
      found = k;
      past = subst (IsBeforeNext early) k (next_past ps early after high);
      high = subst (AtNext (λ x. x ≤ℚ rank +ℚ period)) k (next_all (λ x. x ≤ℚ rank +ℚ period) ps early after (each_at_most ps (rank +ℚ period) starts) (le_refl (rank +ℚ period)));
      grid = λ d h l. subst (AtNext (Whole d)) k (next_all (Whole d) ps early after h l);
    }

-- ---- values of a periodic curve
pub value_periodic : (c : SpecCurve) (rank period rise u : ℚ) → c.tail ≡ Periodic rank period rise → value_at c u ≡ repeated (read c.pieces) rank period rise u
unfolding value_at
value_periodic c rank period rise u e = ap (λ k. with_tail (read c.pieces) k u) e

-- the value at the time: the piece's, risen
pub value_now : (c : SpecCurve) (rank period rise t : ℚ) (p : Piece) (ps : List Piece) (at : Ext) → c.tail ≡ Periodic rank period rise → c.pieces ≡ p ∷ ps
    → let n = periods rank period t in let early = t -ℚ int (pos n) *ℚ period in let q = piece_in p ps early in
    (q.x <ℚ early → at ≡ line_value (line_later (int (pos n) *ℚ period) (int (pos n) *ℚ rise) q.line) t)
    → (early ≤ℚ q.x → at ≡ q.at +ₑ Fin (int (pos n) *ℚ rise)) → at ≡ value_at c t
unfolding read piece_value
value_now c rank period rise t p ps at e f past start =
    let n = periods rank period t in
    let by = int (pos n) *ℚ period in
    let y = int (pos n) *ℚ rise in
    let early = t -ℚ by in
    let q = piece_in p ps early in
    let whole : value_at c t ≡ read c.pieces early +ₑ Fin y = value_periodic c rank period rise t e ∙ repeated_at (read c.pieces) rank period rise t n refl in
    let now : value_at c t ≡ piece_value q early +ₑ Fin y = whole ∙ ap (λ qs. read qs early +ₑ Fin y) f in
    elim (le_or_lt early q.x) [
      | inl l ↦ start l ∙ sym (now ∙ ap (λ b. cond b q.at (line_value q.line early) +ₑ Fin y) (le_q_out early q.x l))
      | inr l ↦ past l ∙ line_value_later q.line by y t ∙ sym (now ∙ ap (λ b. cond b q.at (line_value q.line early) +ₑ Fin y) (le_q_not early q.x l))
    ]

-- and the line after it
pub value_then : (c : SpecCurve) (rank period rise t u : ℚ) (p : Piece) (ps : List Piece) (next : Option ℚ) → FitsPeriod c.pieces rank period → StartsAtZero c.pieces → int (pos 0) ≤ℚ t
    → c.tail ≡ Periodic rank period rise → c.pieces ≡ p ∷ ps
    → let n = periods rank period t in let by = int (pos n) *ℚ period in NextStart c.pieces rank period (t -ℚ by) next → t <ℚ u → IsBeforeNext u (next_later by next)
    → value_at c u ≡ line_value (line_later by (int (pos n) *ℚ rise) (piece_in p ps (t -ℚ by)).line) u
value_then c rank period rise t u p ps next fits starts some e f N l k =
    let n = periods rank period t in
    let by = int (pos n) *ℚ period in
    let y = int (pos n) *ℚ rise in
    let early = t -ℚ by in
    let time = N.time in
    let high = N.high in
    let before : u <ℚ time +ℚ by = subst (λ m. IsBeforeNext u (next_later by m)) N.is k in
    let turn : Turned rank period t n = turned rank period t fits.nonneg fits.some some in
    let low = turn.low in
    let sooner : u -ℚ by <ℚ time = with3 u by time (λ c. omega (arith, c.le, c.lt, c.same)) in
    let later : early <ℚ u -ℚ by = with3 t u by (λ c. omega (arith, c.le, c.lt, c.same)) in
    let end : u <ℚ rank +ℚ period +ℚ by = (let s = rank +ℚ period in with4 u by time s (λ c. omega (arith, c.le, c.lt, c.same))) in
    let same : periods rank period u ≡ n = same_turn rank period t u fits.some (le_of_lt l) end in
    let reads : read c.pieces (u -ℚ by) ≡ line_value (line_in c.pieces early) (u -ℚ by) =
    reads_on c.pieces early (u -ℚ by) (Some (rank +ℚ period)) starts low later (subst (IsBeforeNext (u -ℚ by)) (sym N.found) sooner) in
    value_periodic c rank period rise u e ∙ repeated_at (read c.pieces) rank period rise u n same
    ∙ ap (λ v. v +ₑ Fin y) (reads ∙ ap (λ qs. line_value (line_in qs early) (u -ℚ by)) f)
    ∙ sym (line_value_later (piece_in p ps early).line by y u)

-- ---- all of it
pub record Repeated (z : Sizes) (end : ℚ) (c : SpecCurve) (rank period rise t : ℚ) (turn : Turn) (piece : Piece) (next : Option ℚ) : Type 0 where
  pub steps : CopySteps z t turn.n turn.by rise piece
  pub moves : NextMoves turn.by next
  pub goes : (at : Ext) → (piece.x <ℚ turn.early → at ≡ line_value (line_later turn.by (turn.n *ℚ rise) piece.line) t) → (turn.early ≤ℚ piece.x → at ≡ piece.at +ₑ Fin (turn.n *ℚ rise))
      → GoesOn (value_at c) t record { at = at; line = line_later turn.by (turn.n *ℚ rise) piece.line; next = next_later turn.by next }
  pub times : (d : ℕ) → TimesStand d c → AtNext (Whole d) (next_later turn.by next)

repeated_by : (z : Sizes) (end : ℚ) (c : SpecCurve) (rank period rise t : ℚ) (p : Piece) (ps : List Piece) (next : Option ℚ) → IsCurve c → HasWindow z end c → IsTimeIn z end t
    → c.tail ≡ Periodic rank period rise → c.pieces ≡ p ∷ ps
    → let turn = turn_at period t (periods rank period t) in next ≡ next_in c.pieces turn.early (Some (rank +ℚ period))
    → Repeated z end c rank period rise t turn (piece_in p ps turn.early) next
repeated_by z end c rank period rise t p ps next curve window time e f found =
    let n = periods rank period t in
    let by = int (pos n) *ℚ period in
    let early = t -ℚ by in
    let q = piece_in p ps early in
    let A = window.limited in
    let T = tail_times z end c rank period rise curve window e in
    let fits : FitsPeriod c.pieces rank period = some_period c rank period rise curve e in
    let starts = curve.normal.raw.starts in
    let turn : Turned rank period t n = turned rank period t T.nonneg T.some time.nonneg in
    let N : NextStart c.pieces rank period early next = next_start c.pieces rank period early next fits.starts turn.high found in
    let zero : StartsAtZero (p ∷ ps) = subst StartsAtZero f starts in
    let first : p.x ≤ℚ early = subst (λ x. x ≤ℚ early) (sym zero.0) turn.low in
    let q_early : q.x ≤ℚ early = found_early p ps early first in
    let q_low : int (pos 0) ≤ℚ q.x = low_piece p ps early zero in
    let (after, copies) = copies_stand z end c rank period rise t p ps curve window time e f n refl early refl in
    let x = q.x in
    let now : x +ℚ by ≤ℚ t = with3 x by t (λ c. omega (arith, c.le, c.lt, c.same)) in
    let next_low : int (pos 0) ≤ℚ N.time = (let m = N.time in let l = N.past in let s = turn.low in with3 m t by (λ c. omega (arith, c.le, c.lt, c.same))) in
    record {
      steps = copy_steps z end period rise t record { piece = q; next = after } n A time T.period T.some q_low turn.by now copies;
      moves = subst (NextMoves by) (sym N.is) (times_fit z end N.time by A (N.grid z.dt (times_stand z end c curve window).starts (whole_add z.dt rank period T.rank T.period)) (whole_times z.dt (pos n) period T.period) next_low (le_trans N.high T.over) turn.by (le_trans turn.at_most (le_of_lt time.before))).0;
      goes = λ at past start. record {
        at = value_now c rank period rise t p ps at e f past start;
        line = λ u l k. value_then c rank period rise t u p ps next fits starts time.nonneg e f N l k;
        next = subst (λ m. IsBeforeNext t (next_later by m)) (sym N.is) (let m = N.time in let l = N.past in with3 t by m (λ c. omega (arith, c.le, c.lt, c.same)));
      };
      times = λ d S. subst (λ m. AtNext (Whole d) (next_later by m)) (sym N.is)
          (whole_add d N.time by (N.grid d S.starts (whole_add d rank period (subst (λ k. Whole d (rank_of k)) e S.rank) (period_on d c rank period rise e S))) (whole_times d (pos n) period (period_on d c rank period rise e S)));
    }
  where
    period_on : (d : ℕ) (c : SpecCurve) (rank period rise : ℚ) → c.tail ≡ Periodic rank period rise → TimesStand d c → Whole d period
    period_on d c rank period rise e S = subst (λ k. AtNext (Whole d) (period_of k)) e S.period

    low_piece : (p : Piece) (ps : List Piece) (t : ℚ) → StartsAtZero (p ∷ ps) → int (pos 0) ≤ℚ (piece_in p ps t).x
    low_piece p ps t h = subst (λ x. x ≤ℚ (piece_in p ps t).x) h.0 (found_late p ps t h.1)

pub repeated_here : (z : Sizes) (end : ℚ) (c : SpecCurve) (rank period rise t : ℚ) (turn : Turn) (piece : Piece) (next : Option ℚ) → IsCurve c → HasWindow z end c → IsTimeIn z end t
    → c.tail ≡ Periodic rank period rise → TakesPeriodsOff rank period t turn → ((p : Piece) (ps : List Piece) → c.pieces ≡ p ∷ ps → piece ≡ piece_in p ps turn.early)
    → next ≡ next_in c.pieces turn.early (Some (rank +ℚ period)) → Repeated z end c rank period rise t turn piece next
repeated_here z end c rank period rise t turn piece next curve window time e is found after =
    let same = turn_is rank period t turn is in
    with_pieces {G = Repeated z end c rank period rise t turn piece next} c.pieces curve.normal.raw.starts (λ p ps f.
    subst (λ q. Repeated z end c rank period rise t turn q next) (sym (found p ps f))
    (subst (λ w. Repeated z end c rank period rise t w (piece_in p ps w.early) next) (sym same)
    (repeated_by z end c rank period rise t p ps next curve window time e f (after ∙ ap (λ w. next_in c.pieces w.early (Some (rank +ℚ period))) same))))

-- as it is reckoned
pub repeated_goes : (z : Sizes) (end : ℚ) (c : SpecCurve) (rank period rise t : ℚ) (turn : Turn) (piece : Piece) (next : Option ℚ) (at : Ext) (line : Option Line) (moved : Option ℚ)
    → Repeated z end c rank period rise t turn piece next → line ≡ line_later turn.by (turn.n *ℚ rise) piece.line → moved ≡ next_later turn.by next
    → (piece.x <ℚ turn.early → at ≡ line_value line t) → (turn.early ≤ℚ piece.x → at ≡ piece.at +ₑ Fin (turn.n *ℚ rise))
    → GoesOn (value_at c) t record { at = at; line = line; next = moved }
repeated_goes z end c rank period rise t turn piece next at line moved found e f past start =
    subst (λ m. GoesOn (value_at c) t record { at = at; line = line; next = m }) (sym f)
    (subst (λ l. GoesOn (value_at c) t record { at = at; line = l; next = next_later turn.by next }) (sym e)
    (found.goes at (λ h. past h ∙ ap (λ l. line_value l t) e) start))

pub repeated_sizes : (z : Sizes) (end : ℚ) (c : SpecCurve) (rank period rise t : ℚ) (turn : Turn) (piece : Piece) (next : Option ℚ) (at : Ext) (line : Option Line)
    → Repeated z end c rank period rise t turn piece next → line ≡ line_later turn.by (turn.n *ℚ rise) piece.line
    → (piece.x <ℚ turn.early → at ≡ line_value line t) → (turn.early ≤ℚ piece.x → at ≡ piece.at +ₑ Fin (turn.n *ℚ rise)) → OperandLineAt z line × GridValue z at
repeated_sizes z end c rank period rise t turn piece next at line found e past start = (
  subst (OperandLineAt z) (sym e) found.steps.line_stands,
  elim (le_or_lt turn.early piece.x) [
    | inl l ↦ subst (GridValue z) (sym (start l)) found.steps.at_start
    | inr l ↦ subst (GridValue z) (sym (past l ∙ ap (λ m. line_value m t) e)) found.steps.past
  ],
)

-- the time in the first period is 0 or later
pub early_low : (c : SpecCurve) (rank period rise t : ℚ) (turn : Turn) → IsCurve c → c.tail ≡ Periodic rank period rise → int (pos 0) ≤ℚ t → TakesPeriodsOff rank period t turn → int (pos 0) ≤ℚ turn.early
early_low c rank period rise t turn curve e some is =
    let fits = some_period c rank period rise curve e in
    subst (λ w. int (pos 0) ≤ℚ w.early) (sym (turn_is rank period t turn is)) (turned rank period t fits.nonneg fits.some some).low

-- ---- a curve that goes on with its last line, or ends
abbrev pub IsPlain : Tail → Type 0
IsPlain (Periodic rank period rise) = ⊥
IsPlain (Affine rank) = Unit {0}
IsPlain (Infinite rank) = Unit {0}

pub is_plain : (tail : Tail) → ((rank period rise : ℚ) → tail ≡ Periodic rank period rise → ⊥) → IsPlain tail
is_plain (Periodic rank period rise) h = h rank period rise refl
is_plain (Affine rank) h = tt
is_plain (Infinite rank) h = tt

pub value_plain : (c : SpecCurve) (u : ℚ) → IsCurve c → IsPlain c.tail → value_at c u ≡ read c.pieces u
unfolding value_at
value_plain c u curve plain = by_tail c.pieces c.tail curve.normal.raw.tail curve.normal.tail plain
  where
    by_tail : (ps : List Piece) (tail : Tail) → TailFits ps tail → TailNormal ps tail (value_at c) → IsPlain tail → with_tail (read ps) tail u ≡ read ps u
    by_tail ps (Periodic rank period rise) h k p = absurd p
    by_tail ps (Affine rank) h k p = refl
    by_tail ps (Infinite rank) h k p = cut_plain ps rank u h k

plain_line : (tail : Tail) (p : Piece) (ps : List Piece) (t : ℚ) (f : ℚ → Ext) → IsPlain tail → RisesFrom p.x ps → TailFits (p ∷ ps) tail → TailNormal (p ∷ ps) tail f
    → piece_read tail (piece_in p ps t) ≡ piece_in p ps t
plain_line (Periodic rank period rise) p ps t f plain rises fits none = absurd plain
plain_line (Affine rank) p ps t f plain rises fits none = refl
plain_line (Infinite rank) p ps t f plain rises fits none =
    let q = piece_in p ps t in
    elim (le_or_lt rank q.x) [
      | inl l ↦ ap (make_piece q.x q.at) (ap (λ b. cond b q.line None) (lt_q_not q.x rank l) ∙ sym (line_at_rank p ps rank t rises fits.starts.1 none l))
      | inr l ↦ ap (make_piece q.x q.at) (ap (λ b. cond b q.line None) (lt_q_out q.x rank l))
    ]
  where
    make_piece : ℚ → Ext → Option Line → Piece
    make_piece x at line = record { x = x; at = at; line = line }

-- the piece at a time of a window stands
pub piece_stands : (z : Sizes) (end : ℚ) (c : SpecCurve) (t : ℚ) (p : Piece) (ps : List Piece) → IsCurve c → HasWindow z end c → IsTimeIn z end t → IsPlain c.tail → c.pieces ≡ p ∷ ps
    → (next : Option ℚ) × SpanStands z record { piece = piece_in p ps t; next = next }
piece_stands z end c t p ps curve window time plain f =
    let raw = curve.normal.raw in
    let starts : StartsAtZero (p ∷ ps) = subst StartsAtZero f raw.starts in
    let all : AllByRecursion (λ s. s.piece.x <ℚ end → SpanStands z s) (spans c.tail (p ∷ ps)) =
    subst (λ qs. AllByRecursion (λ s. s.piece.x <ℚ end → SpanStands z s) (spans c.tail qs)) f
    (each_stands (SpanStands z) end c (has_period c.pieces c.tail raw.tail) (unrolled_stand z end c window.stands)) in
    let (next, stands) = span_in (λ s. s.piece.x <ℚ end → SpanStands z s) c.tail p ps t all in
    let first : p.x ≤ℚ t = subst (λ x. x ≤ℚ t) (sym starts.0) time.nonneg in
    let same = plain_line c.tail p ps t (value_at c) plain starts.1 (subst (λ qs. TailFits qs c.tail) f raw.tail) (subst (λ qs. TailNormal qs c.tail (value_at c)) f curve.normal.tail) in
    (next, subst (λ q. SpanStands z record { piece = q; next = next }) same (stands (le_lt_trans (found_early p ps t first) time.before)))

-- what is read there fits, and has the sizes
pub record PlainHere (z : Sizes) (c : SpecCurve) (t : ℚ) : Type 0 where
  pub fits : ReadFits c.pieces t
  pub line : OperandLineAt z (line_in c.pieces t)
  pub at : GridValue z (read c.pieces t)

pub read_here : (z : Sizes) (end : ℚ) (t : ℚ) (p : Piece) (ps : List Piece) (next : Option ℚ) → AreLimited z end → IsTimeIn z end t → StartsAtZero (p ∷ ps)
    → SpanStands z record { piece = piece_in p ps t; next = next } → ReadFits (p ∷ ps) t × OperandLineAt z (line_in (p ∷ ps) t) × GridValue z (read (p ∷ ps) t)
unfolding read piece_value
read_here z end t p ps next A time starts stands =
    let q = piece_in p ps t in
    let first : p.x ≤ℚ t = subst (λ x. x ≤ℚ t) (sym starts.0) time.nonneg in
    let early : q.x ≤ℚ t = found_early p ps t first in
    let low : int (pos 0) ≤ℚ q.x = subst (λ x. x ≤ℚ q.x) starts.0 (found_late p ps t starts.1) in
    let high : t ≤ℚ end = le_of_lt time.before in
    let line : OperandLineAt z q.line = span_line z end record { piece = q; next = next } A low (le_trans early high) stands in (
      λ l. operand_line_fits z end t q.line A line time.whole time.nonneg high,
      line,
      elim (le_or_lt t q.x) [
        | inl l ↦ subst (λ b. GridValue z (cond b q.at (line_value q.line t))) (sym (le_q_out t q.x l)) ((stands_operand_value z q.at stands.at))
        | inr l ↦ subst (λ b. GridValue z (cond b q.at (line_value q.line t))) (sym (le_q_not t q.x l)) ((operand_line_value z end t q.line A line time.whole time.nonneg high))
      ],
    )

pub plain_here : (z : Sizes) (end : ℚ) (c : SpecCurve) (t : ℚ) → IsCurve c → HasWindow z end c → IsTimeIn z end t → IsPlain c.tail → PlainHere z c t
plain_here z end c t curve window time plain =
    with_pieces {G = PlainHere z c t} c.pieces curve.normal.raw.starts (λ p ps f.
    let (next, stands) = piece_stands z end c t p ps curve window time plain f in
    let found = read_here z end t p ps next window.limited time (subst StartsAtZero f curve.normal.raw.starts) stands in
    record {
      fits = subst (λ qs. ReadFits qs t) (sym f) found.0;
      line = subst (λ qs. OperandLineAt z (line_in qs t)) (sym f) found.1;
      at = subst (λ qs. GridValue z (read qs t)) (sym f) found.2;
    })

pub plain_goes : (c : SpecCurve) (t : ℚ) (s : Stretch) → IsCurve c → IsPlain c.tail → int (pos 0) ≤ℚ t → s.at ≡ read c.pieces t → s.line ≡ line_in c.pieces t → s.next ≡ next_in c.pieces t None
    → GoesOn (value_at c) t s
plain_goes c t s curve plain some at line next = record {
  at = at ∙ sym (value_plain c t curve plain);
  line = λ u l k. value_plain c u curve plain ∙ reads_on c.pieces t u None curve.normal.raw.starts some l (subst (IsBeforeNext u) next k) ∙ sym (ap (λ m. line_value m u) line);
  next = subst (IsBeforeNext t) (sym next) (next_past c.pieces t None tt);
}

pub plain_times : (d : ℕ) (c : SpecCurve) (t : ℚ) (next : Option ℚ) → TimesStand d c → next ≡ next_in c.pieces t None → AtNext (Whole d) next
plain_times d c t next S e = subst (AtNext (Whole d)) (sym e) (next_all (Whole d) c.pieces t None S.starts tt)
