-- A curve up to the end of a window, as its kept pieces or as its stretches say: the values, and their sizes.
use Rattle.std.specs.Prelude.{◌≡◌, ℕ, cond, pos, List, [], ◌∷◌, Option, Some, None}
use Rattle.std.specs.List.{AllByRecursion}
use Rattle.std.proofs.Common.{sym, ap, ◌∙◌, refl, subst, inl, inr}
use Rattle.rational.specs.Rational.{ℚ, ◌+ℚ◌, ◌≤ℚ◌, ◌<ℚ◌, int}
use Rattle.rational.specs.MinMax.{min_q}
use Rattle.rational.specs.Grid.{Whole}
use Rattle.rational.specs.Extended.{Ext}
use Rattle.rational.proofs.Laws.{le_refl, le_trans, le_of_lt, le_or_lt, lt_irrefl, lt_le_trans, le_lt_trans}
use Rattle.rational.proofs.MinMax.{min_q_right, min_q_le_left, min_q_le_right}
use Rattle.rational.proofs.Over.{le_q_out}
use Rattle.upp_curve.specs.declared.affine_segment.line.Piece.{Piece}
use Rattle.upp_curve.specs.affine_segment.Values.{line_value}
use Rattle.upp_curve.specs.declared.curve.Tail.{Tail}
use Rattle.upp_curve.specs.declared.curve.Tail.TheVariants.{Periodic, Affine, Infinite}
use Rattle.upp_normal.specs.declared.ahead.Stretch.{Stretch}
use Rattle.upp_curve.specs.affine_segment.Reading.{read, piece_in, piece_value, next_in, line_in}
use Rattle.upp_curve.specs.Curve.{SpecCurve, value_at, with_tail}
use Rattle.upp_curve.specs.Curves.{IsCurve}
use Rattle.min_plus.specs.Functions.{IsFinite}
use Rattle.upp_curve.specs.affine_segment.Pieces.{Each, StartsAtZero}
use Rattle.upp_curve.specs.Normal.{IsNormal, TailFits}
use Rattle.upp_curve.specs.affine_segment.Fits.{ReadFits, LineFitsAt}
use Rattle.upp_curve.specs.Readable.{TailReadable}
use Rattle.rational.specs.Ratio.{SumFits}
use Rattle.upp_limits.specs.Limits.{Sizes}
use Rattle.rational.proofs.Grid.{whole_add}
use Rattle.upp_curve.specs.Steady.{rank_of}
use Rattle.upp_limits.specs.Periods.{period_of}
use Rattle.upp_limits.specs.Spans.{spans, piece_read}
use Rattle.upp_limits.specs.Sized.{SpanStands}
use Rattle.upp_normal.specs.Operand.{OperandLineAt}
use Rattle.upp_normal.specs.Ahead.{IsBeforeNext, GoesOn, AtNext, TimesStand, HasWindow, IsOverBy, IsTimeIn, GridValue}
use Rattle.upp_limits.proofs.PieceLists.{spans_some}
use Rattle.upp_curve.proofs.Repeats.{repeated_first}
use Rattle.upp_curve.proofs.RisingCurves.{infinite_is_not_finite, GoesOn as IsEndless}
use Rattle.upp_limits.proofs.CurveStands.{unrolled_stand, each_stands, has_period}
use Rattle.upp_normal.proofs.StretchPieces.{next_past, next_all, reads_on, span_in}
use Rattle.upp_normal.proofs.StretchSizes.{times_stand}
use Rattle.upp_normal.proofs.StretchValues.{read_here, with_pieces}
use Rattle.curve_deviation.specs.declared.parts.Part.{Part}
use Rattle.curve_deviation.specs.Parts.{IsFiniteInSizes, GoesTo, PartStands, IsEarlyBy, IsKeptUntil}
use Rattle.upp_curve.proofs.affine_segment.Lower.{left_low}
use Rattle.upp_normal.proofs.NormaliseRoomy.{found_early}
use Rattle.curve_call.proofs.GapWalk.{earlier_high, earlier_past}
use Rattle.curve_call.specs.GapSteps.{earlier_of}

-- ---- the earlier of two times
pub earlier_right : (a b : ℚ) → b <ℚ a → b ≡ min_q a b
earlier_right a b h = sym (min_q_right a b h)

until_next : (u end : ℚ) (next : Option ℚ) → u <ℚ earlier_of end next → IsBeforeNext u next
until_next u end None h = tt
until_next u end (Some e) h = lt_le_trans h (min_q_le_right end e)

-- a time that stands where it is before the end
until_whole : (P : ℚ → Type 0) (end : ℚ) (next : Option ℚ) → P end → AtNext (λ x. x <ℚ end → P x) next → P (earlier_of end next)
until_whole P end None h k = h
until_whole P end (Some e) h k = elim (le_or_lt end e) [
  | inl l ↦ subst P (left_low end e l) h
  | inr l ↦ subst P (earlier_right end e l) (k l)
]

-- ---- a finite curve does not end

pub endless : (c : SpecCurve) → IsCurve c → IsFinite (value_at c) → IsEndless c.tail
endless c curve finite = by_tail c.pieces c.tail curve.normal finite
  where
    by_tail : (ps : List Piece) (tail : Tail) → IsNormal record { pieces = ps; tail = tail } → IsFinite (value_at record { pieces = ps; tail = tail }) → IsEndless tail
    by_tail ps (Periodic rank period rise) N h = tt
    by_tail ps (Affine rank) N h = tt
    by_tail ps (Infinite rank) N h = infinite_is_not_finite ps rank N h

read_as_kept : (tail : Tail) (p : Piece) → IsEndless tail → piece_read tail p ≡ p
read_as_kept (Periodic rank period rise) p h = refl
read_as_kept (Affine rank) p h = refl
read_as_kept (Infinite rank) p h = absurd h

-- ---- values
pub value_early : (c : SpecCurve) (end u : ℚ) → IsCurve c → IsFinite (value_at c) → IsEarlyBy end c.tail → u <ℚ end → value_at c u ≡ read c.pieces u
unfolding value_at
value_early c end u curve finite early h = by_tail c.pieces c.tail curve.normal.raw.tail (endless c curve finite) early
  where
    by_tail : (ps : List Piece) (tail : Tail) → TailFits ps tail → IsEndless tail → IsEarlyBy end tail → with_tail (read ps) tail u ≡ read ps u
    by_tail ps (Periodic rank period rise) fits k early = repeated_first (read ps) rank period rise u fits.some (lt_le_trans h early)
    by_tail ps (Affine rank) fits k early = refl
    by_tail ps (Infinite rank) fits k early = absurd k

-- ---- the pieces that start before the end
all_stand : (z : Sizes) (end : ℚ) (c : SpecCurve) → IsFiniteInSizes z end c → AllByRecursion (λ s. s.piece.x <ℚ end → SpanStands z s) (spans c.tail c.pieces)
all_stand z end c S = each_stands (SpanStands z) end c (has_period c.pieces c.tail S.curve.normal.raw.tail) (unrolled_stand z end c S.stands)

each_start : (z : Sizes) (end : ℚ) (tail : Tail) (ps : List Piece) → AllByRecursion (λ s. s.piece.x <ℚ end → SpanStands z s) (spans tail ps) → Each (λ p. p.x <ℚ end → Whole z.dt p.x) ps
each_start z end tail [] h = tt
each_start z end tail (p ∷ ps) h =
    let k = subst (AllByRecursion (λ s. s.piece.x <ℚ end → SpanStands z s)) (spans_some tail p ps) h in
    ((λ l. (k.0 l).start), each_start z end tail ps k.1)

-- what is read there fits, and has the sizes
pub record EarlyHere (z : Sizes) (end : ℚ) (c : SpecCurve) (t : ℚ) : Type 0 where
  pub fits : ReadFits c.pieces t
  pub line : OperandLineAt z (line_in c.pieces t)
  pub at : GridValue z (read c.pieces t)

pub early_here : (z : Sizes) (end : ℚ) (c : SpecCurve) (t : ℚ) → IsFiniteInSizes z end c → IsTimeIn z end t → EarlyHere z end c t
early_here z end c t S time =
    with_pieces {G = EarlyHere z end c t} c.pieces S.curve.normal.raw.starts (λ p ps f.
    let starts : StartsAtZero (p ∷ ps) = subst StartsAtZero f S.curve.normal.raw.starts in
    let goes = endless c S.curve S.finite in
    let all : AllByRecursion (λ s. s.piece.x <ℚ end → SpanStands z s) (spans c.tail (p ∷ ps)) =
    subst (λ qs. AllByRecursion (λ s. s.piece.x <ℚ end → SpanStands z s) (spans c.tail qs)) f (all_stand z end c S) in
    let (next, stands) = span_in (λ s. s.piece.x <ℚ end → SpanStands z s) c.tail p ps t all in
    let first : p.x ≤ℚ t = subst (λ x. x ≤ℚ t) (sym starts.0) time.nonneg in
    let here = subst (λ q. SpanStands z record { piece = q; next = next }) (read_as_kept c.tail (piece_in p ps t) goes) (stands (le_lt_trans (found_early p ps t first) time.before)) in
    let found = read_here z end t p ps next S.limited time starts here in
    record {
      fits = subst (λ qs. ReadFits qs t) (sym f) found.0;
      line = subst (λ qs. OperandLineAt z (line_in qs t)) (sym f) found.1;
      at = subst (λ qs. GridValue z (read qs t)) (sym f) found.2;
    })

-- the next start, up to a time on the grid
next_whole : (z : Sizes) (end kept t : ℚ) (c : SpecCurve) → IsFiniteInSizes z end c → kept ≤ℚ end → Whole z.dt kept → Whole z.dt (earlier_of kept (next_in c.pieces t None))
next_whole z end kept t c S high whole =
    until_whole (Whole z.dt) kept (next_in c.pieces t None) whole (sooner (next_in c.pieces t None) (next_all (λ x. x <ℚ end → Whole z.dt x) c.pieces t None (each_start z end c.tail c.pieces (all_stand z end c S)) tt))
  where
    sooner : (next : Option ℚ) → AtNext (λ x. x <ℚ end → Whole z.dt x) next → AtNext (λ x. x <ℚ kept → Whole z.dt x) next
    sooner None h = tt
    sooner (Some e) h = λ l. h (lt_le_trans l high)

pub kept_goes : (c : SpecCurve) (t kept end : ℚ) (p : Part) → IsCurve c → IsFinite (value_at c) → IsKeptUntil c end kept → int (pos 0) ≤ℚ t → t <ℚ kept → p.at ≡ read c.pieces t → p.line ≡ line_in c.pieces t
    → p.until ≡ earlier_of kept (next_in c.pieces t None) → GoesTo (value_at c) t end p
kept_goes c t kept end p curve finite K some before at line until =
    let next = next_in c.pieces t None in
    record {
      at = at ∙ sym (value_early c kept t curve finite K.early before);
      line = λ u l k.
          let m : u <ℚ earlier_of kept next = subst (λ x. u <ℚ x) until k in
          value_early c kept u curve finite K.early (lt_le_trans m (earlier_high kept next)) ∙ reads_on c.pieces t u None curve.normal.raw.starts some l (until_next u kept next m) ∙ sym (ap (λ m. line_value m u) line);
      past = subst (λ x. t <ℚ x) (sym until) (earlier_past t kept next before (next_past c.pieces t None tt));
      high = le_trans (subst (λ x. x ≤ℚ kept) (sym until) (earlier_high kept next)) K.high;
    }

stands_upto : (z : Sizes) (kept end : ℚ) (c : SpecCurve) (t : ℚ) (p : Part) → IsFiniteInSizes z end c → kept ≤ℚ end → Whole z.dt kept → IsTimeIn z end t → p.at ≡ read c.pieces t → p.line ≡ line_in c.pieces t
    → p.until ≡ earlier_of kept (next_in c.pieces t None) → PartStands z p
stands_upto z kept end c t p S high whole time at line until =
    let here = early_here z end c t S time in
    record { at = subst (GridValue z) (sym at) here.at; line = subst (OperandLineAt z) (sym line) here.line; until = subst (Whole z.dt) (sym until) (next_whole z end kept t c S high whole) }

pub kept_stands : (z : Sizes) (kept end : ℚ) (c : SpecCurve) (t : ℚ) (p : Part) → IsFiniteInSizes z end c → IsKeptUntil c end kept → IsTimeIn z end t → p.at ≡ read c.pieces t → p.line ≡ line_in c.pieces t
    → p.until ≡ earlier_of kept (next_in c.pieces t None) → PartStands z p
kept_stands z kept end c t p S K time at line until = stands_upto z kept end c t p S K.high (K.grid z S) time at line until

-- where all that is kept is
pub kept_all : (c : SpecCurve) (end : ℚ) → IsEarlyBy end c.tail → IsKeptUntil c end end
kept_all c end early = record { early = early; high = le_refl end; over = λ l. absurd (lt_irrefl end l); grid = λ z S. S.limited.sizes.window }

pub early_goes : (c : SpecCurve) (t end : ℚ) (p : Part) → IsCurve c → IsFinite (value_at c) → IsEarlyBy end c.tail → int (pos 0) ≤ℚ t → t <ℚ end → p.at ≡ read c.pieces t → p.line ≡ line_in c.pieces t
    → p.until ≡ earlier_of end (next_in c.pieces t None) → GoesTo (value_at c) t end p
early_goes c t end p curve finite early some before at line until = kept_goes c t end end p curve finite (kept_all c end early) some before at line until

pub early_stands : (z : Sizes) (end : ℚ) (c : SpecCurve) (t : ℚ) (p : Part) → IsFiniteInSizes z end c → IsTimeIn z end t → p.at ≡ read c.pieces t → p.line ≡ line_in c.pieces t
    → p.until ≡ earlier_of end (next_in c.pieces t None) → PartStands z p
early_stands z end c t p S time at line until = stands_upto z end end c t p S (le_refl end) S.limited.sizes.window time at line until

-- ---- past the first period
pub seen_window : (z : Sizes) (end : ℚ) (c : SpecCurve) → IsFiniteInSizes z end c → IsOverBy end c.tail → HasWindow z end c
seen_window z end c S over = record { curve = S.curve; limited = S.limited; stands = S.stands; over = over }

pub late_goes : (f : ℚ → Ext) (t end : ℚ) (s : Stretch) (p : Part) → t <ℚ end → GoesOn f t s → p.at ≡ s.at → p.line ≡ s.line → p.until ≡ earlier_of end s.next → GoesTo f t end p
late_goes f t end s p before goes at line until = record {
  at = at ∙ goes.at;
  line = λ u l k. goes.line u l (until_next u end s.next (subst (λ x. u <ℚ x) until k)) ∙ sym (ap (λ m. line_value m u) line);
  past = subst (λ x. t <ℚ x) (sym until) (earlier_past t end s.next before goes.next);
  high = subst (λ x. x ≤ℚ end) (sym until) (earlier_high end s.next);
}

pub late_stands : (z : Sizes) (end t : ℚ) (c : SpecCurve) (s : Stretch) (p : Part) → IsFiniteInSizes z end c → IsOverBy end c.tail → IsTimeIn z end t
    → ((d : ℕ) → TimesStand d c → AtNext (Whole d) s.next) → (HasWindow z end c → IsTimeIn z end t → OperandLineAt z s.line × GridValue z s.at)
    → p.at ≡ s.at → p.line ≡ s.line → p.until ≡ earlier_of end s.next → PartStands z p
late_stands z end t c s p S over time times sizes at line until =
    let W = seen_window z end c S over in
    let found = sizes W time in
    record {
      at = subst (GridValue z) (sym at) found.1;
      line = subst (OperandLineAt z) (sym line) found.0;
      until = subst (Whole z.dt) (sym until) (until_whole (Whole z.dt) end s.next S.limited.sizes.window (loosen s.next (times z.dt (times_stand z end c S.curve W))));
    }
  where
    loosen : (next : Option ℚ) → AtNext (Whole z.dt) next → AtNext (λ x. x <ℚ end → Whole z.dt x) next
    loosen None h = tt
    loosen (Some e) h = λ l. h

-- ---- the first period's end is readable
pub end_fits : (c : SpecCurve) (tail : Tail) (rank period rise : ℚ) → IsCurve c → tail ≡ c.tail → tail ≡ Periodic rank period rise → SumFits rank period
end_fits c tail rank period rise curve e f = (subst (TailReadable c.pieces) (sym e ∙ f) curve.readable).end

pub early_tail : (c : SpecCurve) (tail : Tail) (rank period rise end first : ℚ) → tail ≡ c.tail → tail ≡ Periodic rank period rise → first ≡ rank +ℚ period → end ≤ℚ first → IsEarlyBy end c.tail
early_tail c tail rank period rise end first e f g h =
    let found : IsEarlyBy end (Periodic rank period rise) = subst (λ x. end ≤ℚ x) g h in
    subst (IsEarlyBy end) (sym f ∙ e) found

pub over_tail : (c : SpecCurve) (tail : Tail) (rank period rise end first : ℚ) → tail ≡ c.tail → tail ≡ Periodic rank period rise → first ≡ rank +ℚ period → first <ℚ end → IsOverBy end c.tail
over_tail c tail rank period rise end first e f g h =
    let found : IsOverBy end (Periodic rank period rise) = le_of_lt (subst (λ x. x <ℚ end) g h) in
    subst (IsOverBy end) (sym f ∙ e) found

-- ---- up to when the pieces that are kept are the curve
first_whole : (z : Sizes) (end : ℚ) (c : SpecCurve) (tail : Tail) (rank period rise : ℚ) → tail ≡ c.tail → tail ≡ Periodic rank period rise → IsFiniteInSizes z end c → IsOverBy end c.tail → Whole z.dt (rank +ℚ period)
first_whole z end c tail rank period rise e f S over =
    let T = times_stand z end c S.curve (seen_window z end c S over) in
    let is : c.tail ≡ Periodic rank period rise = sym e ∙ f in
    let start : Whole z.dt (rank_of (Periodic rank period rise)) = subst (λ t. Whole z.dt (rank_of t)) is T.rank in
    let long : AtNext (Whole z.dt) (period_of (Periodic rank period rise)) = subst (λ t. AtNext (Whole z.dt) (period_of t)) is T.period in
    whole_add z.dt rank period start long

pub kept_first : (c : SpecCurve) (tail : Tail) (rank period rise end first kept : ℚ) → tail ≡ c.tail → tail ≡ Periodic rank period rise → first ≡ rank +ℚ period → kept ≡ min_q end first → IsKeptUntil c end kept
kept_first c tail rank period rise end first kept e f g h = record {
  early = early_tail c tail rank period rise kept first e f g (subst (λ x. x ≤ℚ first) (sym h) (min_q_le_right end first));
  high = subst (λ x. x ≤ℚ end) (sym h) (min_q_le_left end first);
  over = λ l. elim (le_or_lt end first) [
    | inl m ↦ absurd (lt_irrefl end (subst (λ x. x <ℚ end) (h ∙ sym (left_low end first m)) l))
    | inr m ↦ over_tail c tail rank period rise end first e f g m
  ];
  grid = λ z S. elim (le_or_lt end first) [
    | inl m ↦ subst (Whole z.dt) (left_low end first m ∙ sym h) S.limited.sizes.window
    | inr m ↦ subst (Whole z.dt) (sym g ∙ earlier_right end first m ∙ sym h) (first_whole z end c tail rank period rise e f S (over_tail c tail rank period rise end first e f g m))
  ];
}

pub kept_whole : (c : SpecCurve) (tail other : Tail) (end : ℚ) → tail ≡ c.tail → tail ≡ other → IsEarlyBy end other → IsKeptUntil c end end
kept_whole c tail other end e f early = kept_all c end (subst (IsEarlyBy end) (sym f ∙ e) early)

-- ---- the piece as it is found
pub value_by : (p : Piece) (t : ℚ) → t ≤ℚ p.x → p.at ≡ piece_value p t
unfolding piece_value
value_by p t h = ap (λ b. cond b p.at (line_value p.line t)) (sym (le_q_out t p.x h))

pub fits_found : (ps : List Piece) (t : ℚ) (found : Piece) → StartsAtZero ps → ReadFits ps t → ((p : Piece) (qs : List Piece) → ps ≡ p ∷ qs → found ≡ piece_in p qs t) → found.x <ℚ t → LineFitsAt t found.line
fits_found [] t found starts fits is = absurd starts
fits_found (p ∷ ps) t found starts fits is = subst (λ q. q.x <ℚ t → LineFitsAt t q.line) (sym (is p ps refl)) fits

pub line_found : (ps : List Piece) (t : ℚ) (found : Piece) → StartsAtZero ps → ((p : Piece) (qs : List Piece) → ps ≡ p ∷ qs → found ≡ piece_in p qs t) → found.line ≡ line_in ps t
line_found [] t found starts is = absurd starts
line_found (p ∷ ps) t found starts is = ap (λ q. q.line) (is p ps refl)

pub as_until : (qs ps : List Piece) (t end until : ℚ) → qs ≡ ps → until ≡ earlier_of end (next_in qs t None) → until ≡ earlier_of end (next_in ps t None)
as_until qs ps t end until e f = f ∙ ap (λ rs. earlier_of end (next_in rs t None)) e
