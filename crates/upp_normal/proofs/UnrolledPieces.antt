-- The unrolled pieces of a curve start at 0 and rise, and each of them is the piece of one of the spans below the end.
use Rattle.std.specs.Prelude.{◌≡◌, ℕ, zero, suc, pos, Bool, cond, List, [], ◌∷◌, ◌++◌, Option, Some, None}
use Rattle.std.proofs.Common.{arith, sym, ap, ap₂, ◌∙◌, subst, inl, inr}
use Rattle.std.specs.List.{AllByRecursion}
use Rattle.rational.specs.Rational.{ℚ, ◌+ℚ◌, ◌-ℚ◌, ◌*ℚ◌, ◌≤ℚ◌, ◌<ℚ◌, int}
use Rattle.rational.specs.Grid.{Whole}
use Rattle.rational.specs.Whole.{periods}
use Rattle.rational.proofs.Laws.{le_or_lt, le_of_lt, lt_le_trans, add_comm}
use Rattle.rational.proofs.Linear.{with2}
use Rattle.rational.proofs.MinMax.{lt_q_not}
use Rattle.rational.proofs.Over.{lt_q_out}
use Rattle.rational.proofs.Whole.{one_more_times}
use Rattle.upp_curve.specs.declared.affine_segment.line.Line.{Line}
use Rattle.upp_curve.specs.declared.affine_segment.line.Piece.{Piece}
use Rattle.upp_curve.specs.affine_segment.Values.{line_value}
use Rattle.upp_curve.specs.declared.curve.Tail.{Tail}
use Rattle.upp_curve.specs.declared.curve.Tail.TheVariants.{Periodic, Affine, Infinite}
use Rattle.upp_curve.specs.Curve.{SpecCurve}
use Rattle.upp_curve.specs.Curves.{IsCurve}
use Rattle.upp_limits.specs.Limits.{Sizes, curve_numbers}
use Rattle.upp_curve.specs.affine_segment.Pieces.{Each, HasStart, RisesFrom, StartsAtZero}
use Rattle.upp_curve.specs.Normal.{IsNormal}
use Rattle.upp_normal.specs.Operand.{AreLimited, OperandLineAt, OperandPiece, OperandPieces}
use Rattle.upp_limits.specs.Sized.{AreSizes, LineStands, SpanStands, Stands, ValueStands}
use Rattle.upp_limits.specs.Spans.{Span, copies_of, once_below, piece_read, span_below, spans, spans_below}
use Rattle.upp_curve.specs.Steady.{last_line, last_of}
use Rattle.upp_curve.specs.Unrolled.{copies, copies_below, each_later, from, later, unroll, unrolled, upto}
use Rattle.upp_normal.proofs.Below.{cut_at_start, each_rest}
use Rattle.upp_limits.proofs.Copies.{copies_out, copy_among, copy_zero}
use Rattle.upp_limits.proofs.CurveStands.{once_out, unrolled_stand}
use Rattle.upp_limits.proofs.Every.{every_flat_out, every_weaken}
use Rattle.upp_limits.proofs.NarrowSizes.{line_parts}
use Rattle.upp_normal.proofs.NormaliseCopies.{later_twice}
use Rattle.upp_normal.proofs.NormaliseCuts.{zero_upto}
use Rattle.upp_curve.proofs.affine_segment.PieceOrder.{each_append, each_map, rises_append, rises_left}
use Rattle.upp_normal.proofs.NormaliseLists.{each_upto, rises_moved}
use Rattle.upp_normal.proofs.NormaliseLoops.{later_none, later_some}
use Rattle.upp_normal.proofs.NormaliseRank.{from_late}
use Rattle.upp_limits.proofs.PieceLists.{starts_nonneg}
use Rattle.upp_curve.proofs.Unique.{upto_none}
use Rattle.upp_normal.proofs.UnrolledValues.{copies_some, copies_none}
use Rattle.upp_curve.proofs.affine_segment.PieceIn.{low_start}
use Rattle.upp_limits.proofs.PieceCounts.{each_from, upto_early}
use Rattle.upp_normal.proofs.NormaliseWhole.{before_read}

-- ---- two facts of each piece
pub each_with : (P Q R : Piece → Type 0) → ((p : Piece) → P p → Q p → R p) → (ps : List Piece) → Each P ps → Each Q ps → Each R ps
each_with P Q R f [] h k = tt
each_with P Q R f (p ∷ ps) h k = (f p h.0 k.0, each_with P Q R f ps h.1 k.1)

-- ---- copies rise
-- k + 1 copies of a period's pieces, the first p
copies_rise : (k : ℕ) (d c : ℚ) (p : Piece) (ps : List Piece) → int (pos 0) <ℚ d → RisesFrom p.x ps → Each (λ z. z.x <ℚ p.x +ℚ d) ps
    → RisesFrom p.x (ps ++ each_later d c (copies k d c (p ∷ ps)))
copies_rise zero d c p ps some r e =
    let none : each_later d c (copies zero d c (p ∷ ps)) ≡ [] = ap (each_later d c) (copies_none d c (p ∷ ps)) ∙ later_none d c in
    subst (λ zs. RisesFrom p.x (ps ++ zs)) (sym none) (rises_empty p.x ps r)
  where
    rises_empty : (x : ℚ) (ps : List Piece) → RisesFrom x ps → RisesFrom x (ps ++ [])
    rises_empty x [] r = tt
    rises_empty x (q ∷ qs) r = (r.0, rises_empty q.x qs r.1)
copies_rise (suc k) d c p ps some r e =
    let rest = ps ++ each_later d c (copies k d c (p ∷ ps)) in
    let shape : each_later d c (copies (suc k) d c (p ∷ ps)) ≡ later d c p ∷ each_later d c rest = ap (each_later d c) (copies_some k d c p ps) ∙ later_some d c p rest in
    let x = p.x in
    let next : x <ℚ x +ℚ d = with2 x d (λ c. omega (arith, c.le, c.lt, c.same)) in
    subst (λ zs. RisesFrom p.x (ps ++ zs)) (sym shape)
    (rises_append p.x ps (later d c p) (each_later d c rest) r next e (rises_moved d c p.x rest (copies_rise k d c p ps some r e)))

-- pieces that start at 0, those from p on put in place of others that rise too
begins : (bs : List Piece) (p : Piece) (rest more : List Piece) → StartsAtZero (bs ++ p ∷ rest) → Each (λ z. z.x <ℚ p.x) bs → RisesFrom p.x more
    → StartsAtZero (bs ++ p ∷ more)
begins [] p rest more h e r = (h.0, r)
begins (b ∷ bs) p rest more h e r = (h.0, rises_append b.x bs p more (rises_left b.x bs (p ∷ rest) h.1) e.0 e.1 r)

pub periodic_starts : (ps : List Piece) (rank d c : ℚ) (k : ℕ) → StartsAtZero ps → HasStart rank ps → int (pos 0) <ℚ d → Each (λ z. z.x <ℚ rank +ℚ d) ps
    → StartsAtZero (upto rank ps ++ copies (suc k) d c (from rank ps))
periodic_starts ps rank d c k at0 has some starts =
    let cut = cut_at_start (int (pos 0) -ℚ int (pos 1)) rank ps (low_start ps at0) has in
    let early : Each (λ z. z.x <ℚ rank +ℚ d) cut.rest = each_rest cut.before cut.first cut.rest (rank +ℚ d) (subst (Each (λ z. z.x <ℚ rank +ℚ d)) cut.whole starts) in
    let late : Each (λ z. z.x <ℚ cut.first.x +ℚ d) cut.rest = subst (λ x. Each (λ z. z.x <ℚ x +ℚ d) cut.rest) (sym cut.at) early in
    let more = cut.rest ++ each_later d c (copies k d c (cut.first ∷ cut.rest)) in
    let shape : copies (suc k) d c (from rank ps) ≡ cut.first ∷ more = ap (copies (suc k) d c) cut.from_is ∙ copies_some k d c cut.first cut.rest in
    subst StartsAtZero (sym (ap₂ (λ (xs ys : List Piece). xs ++ ys) cut.upto_is shape))
    (begins cut.before cut.first cut.rest more (subst StartsAtZero cut.whole at0) (subst (λ x. Each (λ z. z.x <ℚ x) cut.before) (sym cut.at) cut.early)
    (copies_rise k d c cut.first cut.rest some cut.rises late))

starts_by_tail : (ps : List Piece) (tail : Tail) (end : ℚ) → int (pos 0) <ℚ end → IsNormal record { pieces = ps; tail = tail } → StartsAtZero (unrolled ps tail end)
starts_by_tail ps (Periodic rank d c) end some n =
    zero_upto end (upto rank ps ++ copies (suc (periods rank d end)) d c (from rank ps)) some
    (periodic_starts ps rank d c (periods rank d end) n.raw.starts n.rank_is_start n.raw.tail.some n.raw.tail.starts)
starts_by_tail ps (Affine rank) end some n = zero_upto end ps some n.raw.starts
starts_by_tail ps (Infinite rank) end some n = zero_upto end ps some n.raw.starts

-- the unrolled pieces start at 0 and rise
pub unroll_starts : (c : SpecCurve) (end : ℚ) → int (pos 0) <ℚ end → IsNormal c → StartsAtZero (unroll c end)
unfolding unroll
unroll_starts c end some n = starts_by_tail c.pieces c.tail end some n

none_before : (end : ℚ) (ps : List Piece) → StartsAtZero ps → end ≤ℚ int (pos 0) → upto end ps ≡ []
none_before end [] h l = absurd h
none_before end (p ∷ ps) h l = upto_none end p ps (subst (λ x. end ≤ℚ x) (sym h.0) l)

none_by_tail : (ps : List Piece) (tail : Tail) (end : ℚ) → end ≤ℚ int (pos 0) → IsNormal record { pieces = ps; tail = tail } → unrolled ps tail end ≡ []
none_by_tail ps (Periodic rank d c) end l n =
    none_before end (upto rank ps ++ copies (suc (periods rank d end)) d c (from rank ps))
    (periodic_starts ps rank d c (periods rank d end) n.raw.starts n.rank_is_start n.raw.tail.some n.raw.tail.starts) l
none_by_tail ps (Affine rank) end l n = none_before end ps n.raw.starts l
none_by_tail ps (Infinite rank) end l n = none_before end ps n.raw.starts l

-- none starts before 0
pub unroll_none : (c : SpecCurve) (end : ℚ) → end ≤ℚ int (pos 0) → IsNormal c → unroll c end ≡ []
unfolding unroll
unroll_none c end l n = none_by_tail c.pieces c.tail end l n

before_by_tail : (ps : List Piece) (tail : Tail) (end : ℚ) → Each (λ p. p.x <ℚ end) (unrolled ps tail end)
before_by_tail ps (Periodic rank d c) end = upto_early end _
before_by_tail ps (Affine rank) end = upto_early end _
before_by_tail ps (Infinite rank) end = upto_early end _

-- and all start before the end
pub unroll_before : (c : SpecCurve) (end : ℚ) → Each (λ p. p.x <ℚ end) (unroll c end)
unfolding unroll
unroll_before c end = before_by_tail c.pieces c.tail end

-- ---- each is the piece of a span
pub each_of_spans : (F : Piece → Type 0) (tail : Tail) (ps : List Piece) → AllByRecursion (λ s. F s.piece) (spans tail ps) → Each (λ p. F (piece_read tail p)) ps
unfolding spans
each_of_spans F tail [] h = tt
each_of_spans F tail (p ∷ ps) h = (h.0, each_of_spans F tail ps h.1)

each_below : (P : Piece → Type 0) (end : ℚ) (ps : List Piece) → Each (λ p. p.x <ℚ end → P p) ps → Each P (upto end ps)
each_below P end ps h = each_with (λ p. p.x <ℚ end → P p) (λ p. p.x <ℚ end) P (λ p f l. f l) (upto end ps) (each_upto (λ p. p.x <ℚ end → P p) end ps h) (upto_early end ps)

-- what of a periodic curve's piece starts below the end
pub record IsGiven (P : Piece → Type 0) (rank d c end : ℚ) (p : Piece) : Type 0 where
  pub once : p.x <ℚ rank → p.x <ℚ end → P p
  pub again : rank ≤ℚ p.x → (n : ℕ) → p.x +ℚ int (pos n) *ℚ d <ℚ end → P (later (int (pos n) *ℚ d) (int (pos n) *ℚ c) p)

given : (P : Piece → Type 0) (rank d c end : ℚ) (s : Span) → int (pos 0) <ℚ d → AllByRecursion (λ s. P s.piece) (span_below (Periodic rank d c) end s)
    → IsGiven P rank d c end s.piece
given P rank d c end s some h =
    let Q = λ (s : Span). P s.piece in
    let choice = λ (b : Bool). AllByRecursion Q (cond b (once_below end s) (copies_of d c s (copies_below d end s.piece))) in
    record {
      once = λ l k. once_out Q end s k (subst choice (lt_q_out s.piece.x rank l) h);
      again = λ l n k. copy_among Q d c s (copies_below d end s.piece) n (copies_out d end s.piece n some k) (subst choice (lt_q_not s.piece.x rank l) h);
    }

-- ---- each copy is one of the pieces, so many periods later
later_more : (n : ℕ) (d c : ℚ) (p : Piece) → later (int (pos (suc n)) *ℚ d) (int (pos (suc n)) *ℚ c) p ≡ later (int (pos n) *ℚ d) (int (pos n) *ℚ c) (later d c p)
later_more n d c p =
    ap₂ (λ (x y : ℚ). later x y p) (one_more_times n d ∙ add_comm (int (pos n) *ℚ d) d) (one_more_times n c ∙ add_comm (int (pos n) *ℚ c) c)
    ∙ sym (later_twice d (int (pos n) *ℚ d) c (int (pos n) *ℚ c) p)

each_moved : (Q : Piece → Type 0) (d c : ℚ) (ps : List Piece) → Each (λ p. Q (later d c p)) ps → Each Q (each_later d c ps)
each_moved Q d c [] h = subst (Each Q) (sym (later_none d c)) tt
each_moved Q d c (p ∷ ps) h = subst (Each Q) (sym (later_some d c p ps)) (h.0, each_moved Q d c ps h.1)

each_copy : (Q : Piece → Type 0) (d c : ℚ) (ps : List Piece) (n m : ℕ) → ((k : ℕ) → Each (λ p. Q (later (int (pos k) *ℚ d) (int (pos k) *ℚ c) p)) ps)
    → Each (λ p. Q (later (int (pos m) *ℚ d) (int (pos m) *ℚ c) p)) (copies n d c ps)
unfolding copies
each_copy Q d c ps zero m f = tt
each_copy Q d c ps (suc n) m f =
    let R = λ (p : Piece). Q (later (int (pos m) *ℚ d) (int (pos m) *ℚ c) p) in
    each_append R ps (each_later d c (copies n d c ps)) (f m)
    (each_moved R d c (copies n d c ps)
    (each_map (λ p. Q (later (int (pos (suc m)) *ℚ d) (int (pos (suc m)) *ℚ c) p)) (λ p. R (later d c p)) (λ p h. subst Q (later_more m d c p) h) (copies n d c ps)
    (each_copy Q d c ps n (suc m) f)))

-- no period later it is the piece itself
pub no_later : (d c : ℚ) (p : Piece) → later (int (pos 0) *ℚ d) (int (pos 0) *ℚ c) p ≡ p
no_later d c p =
    let s : Span = record { piece = p; next = None } in
    ap (λ (s : Span). s.piece) (copy_zero d c s)

pub each_copy_of : (Q : Piece → Type 0) (d c : ℚ) (ps : List Piece) (n : ℕ) → ((k : ℕ) → Each (λ p. Q (later (int (pos k) *ℚ d) (int (pos k) *ℚ c) p)) ps) → Each Q (copies n d c ps)
each_copy_of Q d c ps n f =
    each_map (λ p. Q (later (int (pos 0) *ℚ d) (int (pos 0) *ℚ c) p)) Q (λ p h. subst Q (no_later d c p) h) (copies n d c ps) (each_copy Q d c ps n 0 f)

pub periodic_each : (P : Piece → Type 0) (ps : List Piece) (rank d c end : ℚ) → StartsAtZero ps → Each (IsGiven P rank d c end) ps
    → Each P (upto end (upto rank ps ++ copies (suc (periods rank d end)) d c (from rank ps)))
periodic_each P ps rank d c end at0 h =
    let Q = λ (p : Piece). p.x <ℚ end → P p in
    let G = IsGiven P rank d c end in
    let early : Each Q (upto rank ps) = each_with G (λ p. p.x <ℚ rank) Q (λ p g l. g.once l) (upto rank ps) (each_upto G rank ps h) (upto_early rank ps) in
    let late = each_with G (λ p. rank ≤ℚ p.x) (λ p. (n : ℕ) → p.x +ℚ int (pos n) *ℚ d <ℚ end → P (later (int (pos n) *ℚ d) (int (pos n) *ℚ c) p)) (λ p g l. g.again l)
    (from rank ps) (each_from G rank ps h) (from_late rank (int (pos 0) -ℚ int (pos 1)) ps (low_start ps at0)) in
    each_below P end (upto rank ps ++ copies (suc (periods rank d end)) d c (from rank ps))
    (each_append Q (upto rank ps) (copies (suc (periods rank d end)) d c (from rank ps)) early
    (each_copy_of Q d c (from rank ps) (suc (periods rank d end))
    (λ k. each_map (λ p. (n : ℕ) → p.x +ℚ int (pos n) *ℚ d <ℚ end → P (later (int (pos n) *ℚ d) (int (pos n) *ℚ c) p))
    (λ p. Q (later (int (pos k) *ℚ d) (int (pos k) *ℚ c) p)) (λ p f. f k) (from rank ps) late)))

-- ---- no line of a normal curve starts at the rank of an infinite tail

read_at_rank : (rank : ℚ) (p : Piece) → p.line ≡ None → rank ≤ℚ p.x → piece_read (Infinite rank) p ≡ p
read_at_rank rank p e l =
    ap (λ b. let q : Piece = record { x = p.x; at = p.at; line = cond b p.line None } in q) (lt_q_not p.x rank l)
    ∙ ap (λ k. let q : Piece = record { x = p.x; at = p.at; line = k } in q) (sym e)

read_whole : (rank : ℚ) (p : Piece) (ps : List Piece) → RisesFrom p.x ps → Each (λ z. z.x ≤ℚ rank) (p ∷ ps) → (last_of p ps).line ≡ None
    → Each (λ z. piece_read (Infinite rank) z ≡ z) (p ∷ ps)
read_whole rank p [] r h e = elim (le_or_lt rank p.x) [
  | inl l ↦ (read_at_rank rank p e l, tt)
  | inr l ↦ (before_read rank p l, tt)
]
read_whole rank p (q ∷ qs) r h e = (before_read rank p (lt_le_trans r.0 h.1.0), read_whole rank q qs r.1 h.1 e)

pub all_read : (rank : ℚ) (ps : List Piece) → StartsAtZero ps → Each (λ z. z.x ≤ℚ rank) ps → last_line ps ≡ None → Each (λ z. piece_read (Infinite rank) z ≡ z) ps
all_read rank [] s h e = tt
all_read rank (p ∷ ps) s h e = read_whole rank p ps s.1 h e

-- ---- what holds of the spans below the end holds of the unrolled pieces
pub each_given : (P : Piece → Type 0) (ps : List Piece) (rank d c end : ℚ) → int (pos 0) <ℚ d
    → AllByRecursion (λ s. AllByRecursion (λ s. P s.piece) (span_below (Periodic rank d c) end s)) (spans (Periodic rank d c) ps) → Each (IsGiven P rank d c end) ps
each_given P ps rank d c end some h =
    each_of_spans (IsGiven P rank d c end) (Periodic rank d c) ps
    (every_weaken {P = λ s. AllByRecursion (λ s. P s.piece) (span_below (Periodic rank d c) end s)} {Q = λ s. IsGiven P rank d c end s.piece}
    (λ s g. given P rank d c end s some g) (spans (Periodic rank d c) ps) h)

pub each_span_out : (P : Piece → Type 0) (c : SpecCurve) (end : ℚ) → AllByRecursion (λ s. P s.piece) (spans_below c end)
    → AllByRecursion (λ s. AllByRecursion (λ s. P s.piece) (span_below c.tail end s)) (spans c.tail c.pieces)
unfolding spans_below
each_span_out P c end h = every_flat_out (λ s. P s.piece) (span_below c.tail end) (spans c.tail c.pieces) h

each_by_tail : (P : Piece → Type 0) (ps : List Piece) (tail : Tail) (end : ℚ) → IsNormal record { pieces = ps; tail = tail }
    → AllByRecursion (λ s. AllByRecursion (λ s. P s.piece) (span_below tail end s)) (spans tail ps) → Each P (unrolled ps tail end)
each_by_tail P ps (Periodic rank d c) end n h = periodic_each P ps rank d c end n.raw.starts (each_given P ps rank d c end n.raw.tail.some h)
each_by_tail P ps (Affine rank) end n h =
    let k = every_weaken {P = λ s. AllByRecursion (λ s. P s.piece) (once_below end s)} {Q = λ s. s.piece.x <ℚ end → P s.piece}
    (λ s g l. once_out (λ s. P s.piece) end s l g) (spans (Affine rank) ps) h in
    each_below P end ps (each_of_spans (λ p. p.x <ℚ end → P p) (Affine rank) ps k)
each_by_tail P ps (Infinite rank) end n h =
    let F = λ (p : Piece). p.x <ℚ end → P p in
    let k = every_weaken {P = λ s. AllByRecursion (λ s. P s.piece) (once_below end s)} {Q = λ s. F s.piece}
    (λ s g l. once_out (λ s. P s.piece) end s l g) (spans (Infinite rank) ps) h in
    each_below P end ps
    (each_with (λ p. F (piece_read (Infinite rank) p)) (λ p. piece_read (Infinite rank) p ≡ p) F (λ p f e. subst F e f) ps
    (each_of_spans F (Infinite rank) ps k) (all_read rank ps n.raw.starts n.raw.tail.starts n.tail))

pub unroll_each : (P : Piece → Type 0) (c : SpecCurve) (end : ℚ) → IsNormal c → AllByRecursion (λ s. P s.piece) (spans_below c end) → Each P (unroll c end)
unfolding unroll
unroll_each P c end n h = each_by_tail P c.pieces c.tail end n (each_span_out P c end h)

-- ---- where the pieces of an operand stand
pub record PieceStands (z : Sizes) (p : Piece) : Type 0 where
  pub start : Whole z.dt p.x
  pub at : ValueStands z p.at
  pub after : ValueStands z (line_value p.line p.x)
  pub slope : LineStands z p.line

pub operand_line : (z : Sizes) (end : ℚ) (l : Option Line) (x : ℚ) → AreSizes z end → Whole z.dt x → int (pos 0) ≤ℚ x → x ≤ℚ end → ValueStands z (line_value l x) → LineStands z l
    → OperandLineAt z l
operand_line z end None x a w low high v s = tt
operand_line z end (Some l) x a w low high v s =
    let parts = line_parts z end l.icept l.slope x a s w low high v in
    record { slope = s; icept = parts.icept_whole; within = parts.icept_within }

operand_piece : (z : Sizes) (end : ℚ) (p : Piece) → AreSizes z end → PieceStands z p → int (pos 0) ≤ℚ p.x → p.x <ℚ end → OperandPiece z end p
operand_piece z end p a s low high = record {
  start = s.start;
  nonneg = low;
  before = high;
  at = s.at;
  line = operand_line z end p.line p.x a s.start low (le_of_lt high) s.after s.slope;
}

pub each_nonneg : (ps : List Piece) → AllByRecursion (λ p. int (pos 0) ≤ℚ p.x) ps → Each (λ p. int (pos 0) ≤ℚ p.x) ps
each_nonneg [] h = tt
each_nonneg (p ∷ ps) h = (h.0, each_nonneg ps h.1)

-- the pieces of the spans below the end stand
pub pieces_stand : (z : Sizes) (end : ℚ) (c : SpecCurve) → Stands z (curve_numbers end c) → AllByRecursion (λ s. PieceStands z s.piece) (spans_below c end)
pieces_stand z end c h =
    every_weaken {P = SpanStands z} {Q = λ s. PieceStands z s.piece} (λ s h. record { start = h.start; at = h.at; after = h.after; slope = h.slope }) (spans_below c end)
    (unrolled_stand z end c h)

-- the unrolled pieces of an operand below the end of the window
pub operand_pieces : (z : Sizes) (end : ℚ) (c : SpecCurve) → IsCurve c → AreLimited z end → int (pos 0) <ℚ end → Stands z (curve_numbers end c) → OperandPieces z end (unroll c end)
operand_pieces z end c is limited some stands =
    let ps = unroll c end in
    let starts = unroll_starts c end some is.normal in
    let each : Each (PieceStands z) ps = unroll_each (PieceStands z) c end is.normal (pieces_stand z end c stands) in
    let low : Each (λ p. int (pos 0) ≤ℚ p.x) ps = each_nonneg ps (starts_nonneg ps starts) in
    record {
      starts = starts;
      each = each_with (λ p. PieceStands z p) (λ p. (int (pos 0) ≤ℚ p.x) × (p.x <ℚ end)) (OperandPiece z end)
          (λ p s b. operand_piece z end p limited.sizes s b.0 b.1) ps each
          (each_with (λ p. int (pos 0) ≤ℚ p.x) (λ p. p.x <ℚ end) (λ p. (int (pos 0) ≤ℚ p.x) × (p.x <ℚ end)) (λ p l h. (l, h)) ps low (unroll_before c end));
    }
