-- A listed curve: its form, its numbers, and its answers.
use Rattle.std.specs.Prelude.{◌≡◌, ◌<◌, ◌≤◌, ◌^◌, ◌*◌, pos, List, [], ◌∷◌, length, Option, Some, None, Result, Ok, Err, MatchResult}
use Rattle.std.specs.List.{AllByRecursion}
use Rattle.std.proofs.Common.{arith, get_or, sym, ap, ◌∙◌, refl, subst, inl, inr}
use Rattle.rational.specs.Rational.{ℚ, ◌+ℚ◌, ◌-ℚ◌, ◌*ℚ◌, ◌≤ℚ◌, ◌<ℚ◌, int, neg_ℚ}
use Rattle.rational.specs.Ratio.{IsSmall}
use Rattle.rational.specs.Grid.{Whole, Within}
use Rattle.rational.specs.Extended.{Ext, ◌≤ₑ◌}
use Rattle.rational.proofs.Grid.{whole_neg, within_neg, whole_add, within_add}
use Rattle.rational.proofs.Linear.{with2}
use Rattle.rational.proofs.Laws.{le_refl, le_of_lt, le_trans, one_mul, sub_add}
use Rattle.upp_curve.specs.declared.affine_segment.line.Piece.{Piece}
use Rattle.upp_curve.specs.affine_segment.Values.{line_value}
use Rattle.upp_curve.specs.declared.curve.Tail.{Tail}
use Rattle.upp_curve.specs.declared.curve.Tail.TheVariants.{Periodic, Affine, Infinite}
use Rattle.upp_limits.specs.declared.own_limits.OverLimit.{OverLimit}
use Rattle.upp_limits.specs.declared.own_limits.OverLimit.TheVariants.{TooMany, TooWide}
use Rattle.upp_curve.specs.affine_segment.Reading.{read}
use Rattle.upp_curve.specs.Curve.{SpecCurve, value_at, HasSameValues}
use Rattle.min_plus.specs.Continuity.{AreNear, IsContinuous}
use Rattle.min_plus.specs.Functions.{zero_q, IsRising}
use Rattle.upp_curve.specs.affine_segment.Pieces.{Each, RisesFrom}
use Rattle.upp_curve.specs.Normal.{IsRaw, IsNormal}
use Rattle.upp_limits.specs.Limits.{own_gauge, own_sizes, own_end}
use Rattle.upp_limits.specs.OwnLimits.{IsOver, IsWithinOwn}
use Rattle.upp_limits.specs.Sized.{SpanStands, ValueStands, LineStands, IsValue}
use Rattle.upp_limits.specs.Spans.{spans, line_read}
use Rattle.upp_limits.proofs.CurveStands.{starts_below_own_end}
use Rattle.upp_curve.proofs.FirstStretch.{read_in, at_start}
use Rattle.upp_limits.proofs.NarrowSizes.{small_number, small_sum, value_whole, value_within, run_whole, run_within}
use Rattle.upp_curve.proofs.OneForm.{infinite_value}
use Rattle.upp_curve.proofs.Repeats.{repeated_first}
use Rattle.curve_library.specs.declared.texts.PieceText.{PieceText}
use Rattle.curve_library.specs.declared.texts.TailText.{TailText}
use Rattle.curve_library.specs.declared.texts.UseAs.{UseAs}
use Rattle.curve_library.specs.declared.texts.UseAs.TheVariants.{Arrival, Service}
use Rattle.curve_library.specs.declared.fault.CurveFault.{CurveFault}
use Rattle.curve_library.specs.declared.fault.CurveFault.TheVariants.{Negative, ZeroPeriod, NotRising, NotContinuous, NotZeroAtStart, Op, NoMemory}
use Rattle.curve_library.specs.Listed.{text_line, text_piece, text_pieces, text_tail, last_from, listed_curve, LineFits, IsNonnegText, IsWellFormed, HasShape, Jumps, StartsAboveZero, KeepsShape, KeepsBoth, KeepsListed, AnswersOrWants, ListsFirst, TextFits}
use Rattle.curve_library.proofs.Answering.{over_within}
use Rattle.curve_library.proofs.OwnParts.{Held, held, run_small}
use Rattle.upp_limits.proofs.KnownNumbers.{two_ones}
use Rattle.upp_curve.proofs.affine_segment.PieceIn.{read_is}
use Rattle.upp_limits.proofs.OneLimit.{one_limit}

-- ---- a well-formed list is a curve in some form
last_most : (p : PieceText) (ps : List PieceText) → RisesFrom p.x (text_pieces ps) → (p.x ≤ℚ last_from p ps) × Each (λ q. q.x ≤ℚ last_from p ps) (text_pieces ps)
last_most p [] h = (le_refl p.x, tt)
last_most p (q ∷ qs) h =
    let rest = last_most q qs h.1 in
    (le_trans (le_of_lt h.0) rest.0, (rest.0, rest.1))

each_below : (x : ℚ) (ps : List PieceText) → AllByRecursion (λ p. p.x <ℚ x) ps → Each (λ q. q.x <ℚ x) (text_pieces ps)
each_below x [] h = tt
each_below x (p ∷ ps) h = (h.0, each_below x ps h.1)

pub raw_of : (ps : List PieceText) (tail : Option TailText) → IsWellFormed ps tail → IsRaw (listed_curve ps tail)
raw_of ps (Some t) w = record {
  starts = w.order.starts;
  tail = record { nonneg = w.nonneg.ending.0; some = w.length; starts = each_below (t.rank +ℚ t.period) ps w.order.below };
}
raw_of [] None w = absurd w.order.starts
raw_of (p ∷ ps) None w =
    let m = last_most p ps w.order.starts.1 in
    record {
      starts = w.order.starts;
      tail = record { nonneg = le_trans w.nonneg.pieces.0.start m.0; starts = (m.0, m.1) };
    }

-- ---- its numbers fit where its gauge is below the limit

-- the steps to a line fit, and the line
record BothFit (p : PieceText) : Type 0 where
  steps : TextFits p
  line : LineFits p

one_fits : (k : SpecCurve) (p : PieceText) → Held k → Whole (own_sizes k).dt p.x → LineStands (own_sizes k) (Some (text_line p)) → ValueStands (own_sizes k) (line_value (Some (text_line p)) p.x)
    → zero_q ≤ℚ p.x → p.x ≤ℚ own_end k → BothFit p
unfolding ◌-ℚ◌
one_fits k p H start slope after low early =
    let z = own_sizes k in
    let run = p.slope *ℚ p.x in
    let V = int (pos z.largest) in
    let g = z.dv * z.dt * z.ds in
    let value : IsValue z p.after = subst (λ v. IsValue z v) (sub_add p.after run) after in
    let near : Within (int (pos 1) *ℚ V) run = subst (λ m. Within m run) (sym (one_mul V)) (run_within z (own_end k) p.slope p.x H.sizes slope low early) in
    let whole = whole_neg g run (run_whole z p.slope p.x slope start) in
    let back = within_neg (int (pos 1) *ℚ V) run near in
    let small = run_small k p.slope p.x H slope start low early in
    let icept : IsSmall (p.after -ℚ run) =
    small_number z (own_end k) 2 (p.after -ℚ run) H.sizes H.narrow (omega arith) (whole_add g p.after (neg_ℚ run) (value_whole z p.after value) whole)
    (subst (λ m. Within m (p.after -ℚ run)) (two_ones V)
    (within_add (int (pos 1) *ℚ V) (int (pos 1) *ℚ V) p.after (neg_ℚ run) (value_within z p.after value) back)) in
    record {
      steps = record { run = small; icept = small_sum z (own_end k) 1 1 p.after (neg_ℚ run) H.sizes H.narrow (omega arith) (value_whole z p.after value) whole (value_within z p.after value) back };
      line = record { run = small; icept = icept };
    }

-- all of them
pub record AllFit (ps : List PieceText) : Type 0 where
  pub steps : AllByRecursion TextFits ps
  pub lines : AllByRecursion LineFits ps

all_fit : (k : SpecCurve) (tail : Tail) (ps : List PieceText) → Held k → ((q : Piece) → line_read tail q ≡ q.line) → AllByRecursion (SpanStands (own_sizes k)) (spans tail (text_pieces ps))
    → Each (λ q. q.x <ℚ own_end k) (text_pieces ps) → AllByRecursion IsNonnegText ps → AllFit ps
unfolding spans
all_fit k tail [] H reads stands early low = record { steps = tt; lines = tt }
all_fit k tail (p ∷ ps) H reads stands early low =
    let e = reads (text_piece p) in
    let one = one_fits k p H stands.0.start (subst (LineStands (own_sizes k)) e stands.0.slope) (subst (λ l. ValueStands (own_sizes k) (line_value l p.x)) e stands.0.after) low.0.start (le_of_lt early.0) in
    let rest = all_fit k tail ps H reads stands.1 early.1 low.1 in
    record { steps = (one.steps, rest.steps); lines = (one.line, rest.lines) }

reads_line : (ps : List PieceText) (tail : Option TailText) (q : Piece) → line_read (text_tail ps tail) q ≡ q.line
reads_line ps None q = refl
reads_line ps (Some t) q = refl

pub texts_fit : (ps : List PieceText) (tail : Option TailText) → IsWellFormed ps tail → own_gauge (listed_curve ps tail) < 2 ^ 120 → AllFit ps
texts_fit ps tail w small =
    let k = listed_curve ps tail in
    let raw = raw_of ps tail w in
    let H = held k raw small in
    all_fit k (text_tail ps tail) ps H (reads_line ps tail) H.stands.spans (starts_below_own_end k raw) w.nonneg.pieces

-- ---- the value at 0

pub read_first : (q : Piece) (qs : List Piece) → q.x ≡ zero_q → RisesFrom q.x qs → read (q ∷ qs) zero_q ≡ q.at
read_first q qs e r = read_is q qs zero_q ∙ ap (read_in q qs) (sym e) ∙ at_start q qs r

value_zero : (q : Piece) (qs : List Piece) (tail : Tail) → IsNormal record { pieces = q ∷ qs; tail = tail } → value_at record { pieces = q ∷ qs; tail = tail } zero_q ≡ q.at
unfolding value_at
value_zero q qs (Periodic r d c) N =
    let low = N.raw.tail.nonneg in
    let some = N.raw.tail.some in
    repeated_first (read (q ∷ qs)) r d c zero_q N.raw.tail.some (with2 r d (λ c. omega (arith, c.le, c.lt, c.same))) ∙ read_first q qs N.raw.starts.0 N.raw.starts.1
value_zero q qs (Affine r) N = read_first q qs N.raw.starts.0 N.raw.starts.1
value_zero q qs (Infinite r) N = infinite_value (q ∷ qs) r zero_q N.raw.tail.starts N.tail ∙ read_first q qs N.raw.starts.0 N.raw.starts.1

start_value : (ps : List Piece) (tail : Tail) (p : Piece) → IsNormal record { pieces = ps; tail = tail } → 1 ≤ length ps → p ≡ get_or ps 0 p → value_at record { pieces = ps; tail = tail } zero_q ≡ p.at
start_value [] tail p N h e = absurd (omega (arith, h))
start_value (q ∷ qs) tail p N h e = value_zero q qs tail N ∙ ap (λ z. z.at) (sym e)

pub starts_with : (c : SpecCurve) (ps : List Piece) (p : Piece) → IsNormal c → ps ≡ c.pieces → 1 ≤ length ps → p ≡ get_or ps 0 p → value_at c zero_q ≡ p.at
starts_with c ps p N e h f = start_value c.pieces c.tail p N (subst (λ z. 1 ≤ length z) e h) (f ∙ ap (λ z. get_or z 0 p) e)

-- ---- shapes of functions that are one
rising_same : (f g : ℚ → Ext) → ((t : ℚ) → zero_q ≤ℚ t → f t ≡ g t) → IsRising f → IsRising g
rising_same f g same rise s t low up = subst (λ v. v ≤ₑ g t) (same s low) (subst (λ v. f s ≤ₑ v) (same t (le_trans low up)) (rise s t low up))

pub smooth_same : (f g : ℚ → Ext) → ((t : ℚ) → zero_q ≤ℚ t → f t ≡ g t) → IsContinuous f → IsContinuous g
smooth_same f g same smooth t e low some =
    let (d, N) = smooth t e low some in (
      d,
      record {
        some = N.some;
        near = λ s start late early. subst (λ v. AreNear v (g t) e) (same s start) (subst (λ v. AreNear (f s) v e) (same t low) (N.near s start late early));
      },
    )

shape_same : (u : UseAs) (f g : ℚ → Ext) → ((t : ℚ) → zero_q ≤ℚ t → f t ≡ g t) → HasShape u f → HasShape u g
shape_same Arrival f g same h = rising_same f g same h
shape_same Service f g same h = record {
  rises = rising_same f g same h.rises;
  smooth = smooth_same f g same h.smooth;
  start = sym (same zero_q (le_refl zero_q)) ∙ h.start;
}

-- the limits, and then the shape
pub both_of : (u : UseAs) (k c : SpecCurve) (r : Result SpecCurve CurveFault) → HasSameValues k c → IsWithinOwn c → KeepsShape u k r → KeepsBoth u c r
both_of u k c (Ok made) same w h = (subst (λ z. HasSameValues z c) (sym h.0) same, w, shape_same u (value_at k) (value_at c) same h.1)
both_of u k c (Err Negative) same w h = absurd h
both_of u k c (Err ZeroPeriod) same w h = absurd h
both_of u k c (Err NotRising) same w h = (w, λ rise. h (rising_same (value_at c) (value_at k) (λ t l. sym (same t l)) rise))
both_of u k c (Err NotContinuous) same w h = (
  w,
  record {
    service = h.service;
    rises = rising_same (value_at k) (value_at c) same h.rises;
    jumps = λ smooth. h.jumps (smooth_same (value_at c) (value_at k) (λ t l. sym (same t l)) smooth);
  },
)
both_of u k c (Err NotZeroAtStart) same w h = (
  w,
  record {
    service = h.service;
    rises = rising_same (value_at k) (value_at c) same h.rises;
    smooth = smooth_same (value_at k) (value_at c) same h.smooth;
    start = λ e. h.start (same zero_q (le_refl zero_q) ∙ e);
  },
)
both_of u k c (Err (Op limit)) same w h = absurd h
both_of u k c (Err NoMemory) same w h = absurd h

-- ---- the call
shape_rises : (u : UseAs) (f : ℚ → Ext) → HasShape u f → IsRising f
shape_rises Arrival f h = h
shape_rises Service f h = h.rises

shape_jumps : (u : UseAs) (f : ℚ → Ext) → HasShape u f → Jumps u f → ⊥
shape_jumps Arrival f h j = let e = j.service in cc
shape_jumps Service f h j = j.jumps h.smooth

shape_lifted : (u : UseAs) (f : ℚ → Ext) → HasShape u f → StartsAboveZero u f → ⊥
shape_lifted Arrival f h s = let e = s.service in cc
shape_lifted Service f h s = s.start h.start

within_fit : (ps : List PieceText) (tail : Option TailText) → IsWellFormed ps tail → IsWithinOwn (listed_curve ps tail) → AllByRecursion LineFits ps
within_fit ps tail w h = (texts_fit ps tail w h.narrow).lines

-- a line that does not fit is over the gauge's limit
wide_first : (ps : List PieceText) (tail : Option TailText) (limit : OverLimit) → IsWellFormed ps tail → IsOver (listed_curve ps tail) limit → ¬ (AllByRecursion LineFits ps)
    → ◌≡◌ {A = Result SpecCurve CurveFault} (Err (Op limit)) (Err (Op TooWide))
wide_first ps tail TooWide w h n = refl
wide_first ps tail TooMany w h n = absurd (n (texts_fit ps tail w h.0).lines)

-- of a well-formed list whose curve is within the limits, the shape alone is left to tell
within_first : (ps : List PieceText) (tail : Option TailText) (u : UseAs) (r : Result SpecCurve CurveFault) → IsWellFormed ps tail → IsWithinOwn (listed_curve ps tail)
    → (¬ (IsRising (value_at (listed_curve ps tail))) → AnswersOrWants r NotRising) → (Jumps u (value_at (listed_curve ps tail)) → AnswersOrWants r NotContinuous)
    → (StartsAboveZero u (value_at (listed_curve ps tail)) → AnswersOrWants r NotZeroAtStart)
    → (HasShape u (value_at (listed_curve ps tail)) → MatchResult r (λ made. HasSameValues made (listed_curve ps tail)) (λ fault. fault ≡ NoMemory)) → ListsFirst ps tail u r
within_first ps tail u r w i falls jumps lifted within = record {
  below = λ n. absurd (n w.nonneg);
  empty = λ a n. absurd (n w.length);
  order = λ a l n. absurd (n w.order);
  wide = λ v n. absurd (n (within_fit ps tail v i));
  over = λ limit v o. absurd (over_within (listed_curve ps tail) limit o i);
  falls = λ v j. falls;
  jumps = λ v j. jumps;
  lifted = λ v j. lifted;
  within = λ v j. within;
}

pub lists_first : (ps : List PieceText) (tail : Option TailText) (u : UseAs) (r : Result SpecCurve CurveFault) → KeepsListed ps tail u r → ListsFirst ps tail u r
lists_first ps tail u (Ok made) h = let f = value_at (listed_curve ps tail) in
    within_first ps tail u (Ok made) h.0 h.1.1 (λ n. absurd (n (shape_rises u f h.1.2))) (λ j. absurd (shape_jumps u f h.1.2 j)) (λ s. absurd (shape_lifted u f h.1.2 s)) (λ s. h.1.0)
lists_first ps tail u (Err Negative) h = record {
  below = λ n. refl;
  empty = λ a n. absurd (h a);
  order = λ a l n. absurd (h a);
  wide = λ w n. absurd (h w.nonneg);
  over = λ limit w o. absurd (h w.nonneg);
  falls = λ w i n. absurd (h w.nonneg);
  jumps = λ w i j. absurd (h w.nonneg);
  lifted = λ w i s. absurd (h w.nonneg);
  within = λ w i s. absurd (h w.nonneg);
}
lists_first ps tail u (Err ZeroPeriod) h = record {
  below = λ n. absurd (n h.0);
  empty = λ a n. refl;
  order = λ a l n. absurd (h.1 l);
  wide = λ w n. absurd (h.1 w.length);
  over = λ limit w o. absurd (h.1 w.length);
  falls = λ w i n. absurd (h.1 w.length);
  jumps = λ w i j. absurd (h.1 w.length);
  lifted = λ w i s. absurd (h.1 w.length);
  within = λ w i s. absurd (h.1 w.length);
}
lists_first ps tail u (Err NotRising) (inl h) = record {
  below = λ n. absurd (n h.0);
  empty = λ a n. absurd (n h.1);
  order = λ a l n. refl;
  wide = λ w n. absurd (h.2 w.order);
  over = λ limit w o. absurd (h.2 w.order);
  falls = λ w i n. inl refl;
  jumps = λ w i j. absurd (h.2 w.order);
  lifted = λ w i s. absurd (h.2 w.order);
  within = λ w i s. absurd (h.2 w.order);
}
lists_first ps tail u (Err NotRising) (inr h) = let f = value_at (listed_curve ps tail) in
    within_first ps tail u (Err NotRising) h.0 h.1.0 (λ n. inl refl) (λ j. absurd (h.1.1 j.rises)) (λ s. absurd (h.1.1 s.rises)) (λ s. absurd (h.1.1 (shape_rises u f s)))
lists_first ps tail u (Err NotContinuous) h = let f = value_at (listed_curve ps tail) in
    within_first ps tail u (Err NotContinuous) h.0 h.1.0 (λ n. absurd (n h.1.1.rises)) (λ j. inl refl) (λ s. absurd (h.1.1.jumps s.smooth)) (λ s. absurd (shape_jumps u f s h.1.1))
lists_first ps tail u (Err NotZeroAtStart) h = let f = value_at (listed_curve ps tail) in
    within_first ps tail u (Err NotZeroAtStart) h.0 h.1.0 (λ n. absurd (n h.1.1.rises)) (λ j. absurd (j.jumps h.1.1.smooth)) (λ s. inl refl) (λ s. absurd (shape_lifted u f s h.1.1))
lists_first ps tail u (Err (Op limit)) h = let c = listed_curve ps tail in record {
  below = λ n. absurd (n h.0.nonneg);
  empty = λ a n. absurd (n h.0.length);
  order = λ a l n. absurd (n h.0.order);
  wide = λ w n. wide_first ps tail limit w h.1 n;
  over = λ other w o. ap (λ l. let e : Result SpecCurve CurveFault = Err (Op l) in e) (one_limit c limit other h.1 o);
  falls = λ w i n. absurd (over_within c limit h.1 i);
  jumps = λ w i j. absurd (over_within c limit h.1 i);
  lifted = λ w i s. absurd (over_within c limit h.1 i);
  within = λ w i s. absurd (over_within c limit h.1 i);
}
lists_first ps tail u (Err NoMemory) h = let c = listed_curve ps tail in record {
  below = λ n. absurd (n h.0.nonneg);
  empty = λ a n. absurd (n h.0.length);
  order = λ a l n. absurd (n h.0.order);
  wide = λ w n. absurd (n (within_fit ps tail w h.1));
  over = λ limit w o. absurd (over_within c limit o h.1);
  falls = λ w i n. inr refl;
  jumps = λ w i j. inr refl;
  lifted = λ w i s. inr refl;
  within = λ w i s. refl;
}
