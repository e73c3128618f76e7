-- The first elements of a finite curve: the point at 0, and the segment after it.
use Rattle.std.specs.Prelude.{◌≡◌, ◌≤◌, List, [], ◌∷◌, ◌++◌, length, map, Option, Some, None, Result, Err}
use Rattle.std.proofs.Common.{arith, sym, refl, ap, ◌∙◌, subst, get_or}
use Rattle.rational.specs.Rational.{ℚ, ◌≤ℚ◌, ◌<ℚ◌}
use Rattle.rational.specs.Extended.{Ext, ◌<ₑ◌}
use Rattle.rational.specs.declared.Extended.TheVariants.{Fin, Inf}
use Rattle.rational.proofs.Laws.{le_refl, le_of_lt, le_lt_trans}
use Rattle.rational.proofs.ExtendedOrder.{lt_ext_trans}
use Rattle.upp_curve.specs.declared.affine_segment.line.Line.{Line}
use Rattle.upp_curve.specs.declared.affine_segment.line.Piece.{Piece}
use Rattle.upp_curve.specs.declared.affine_segment.element.Element.{Element}
use Rattle.upp_curve.specs.declared.affine_segment.element.Element.TheVariants.{Point, Open}
use Rattle.upp_curve.specs.affine_segment.Values.{line_value}
use Rattle.upp_curve.specs.declared.curve.Tail.{Tail}
use Rattle.upp_curve.specs.declared.curve.Tail.TheVariants.{Periodic, Affine, Infinite}
use Rattle.upp_curve.specs.Curve.{SpecCurve, with_tail, value_at}
use Rattle.upp_curve.specs.affine_segment.Reading.{read}
use Rattle.min_plus.specs.Functions.{zero_q, IsFinite}
use Rattle.upp_curve.specs.affine_segment.Pieces.{RisesFrom, StartsAtZero}
use Rattle.upp_curve.specs.Normal.{TailFits, IsRaw}
use Rattle.upp_curve.proofs.affine_segment.PieceIn.{value_past, read_one, read_stop, value_by}
use Rattle.upp_curve.proofs.Repeats.{repeated_first}
use Rattle.element_envelope.specs.PieceElements.{point_of, segment_of, next_start, elements_of, StartBefore}
use Rattle.upp_limits.specs.declared.op_kind.OpFault.{OpFault}
use Rattle.upp_limits.specs.declared.op_kind.OpFault.TheVariants.{NoMemory}
use Rattle.outcomes.specs.Calls.{stops}
use Rattle.subadd_closure.specs.CurveParts.{pieces_end, part_of, parts_of}
use Rattle.subadd_closure.specs.Folds.{CloseAnswer}
use Rattle.subadd_closure.proofs.EachParts.{starts_before}
use Rattle.subadd_closure.proofs.LeastParts.{not_finite}
use Rattle.subadd_closure.proofs.ElementFits.{early_time}
use Rattle.subadd_closure.proofs.FoldSteps.{first_stops, early_refusal}

-- ---- what is read of a finite curve before its pieces end
by_tail : (ps : List Piece) (tail : Tail) (t : ℚ) → TailFits ps tail → IsFinite (λ u. with_tail (read ps) tail u)
    → Fin t <ₑ pieces_end tail → with_tail (read ps) tail t ≡ read ps t
by_tail ps (Periodic rank d r) t fits finite early = repeated_first (read ps) rank d r t fits.some early
by_tail ps (Affine rank) t fits finite early = refl
by_tail ps (Infinite rank) t fits finite early = absurd (not_finite ps rank fits.nonneg finite)

value_read : (ps : List Piece) (tail : Tail) (t : ℚ) → TailFits ps tail
    → IsFinite (value_at record { pieces = ps; tail = tail })
    → Fin t <ₑ pieces_end tail → value_at record { pieces = ps; tail = tail } t ≡ read ps t
unfolding value_at
value_read ps tail t fits finite early = by_tail ps tail t fits finite early

-- ---- the first piece
read_start : (p : Piece) (ps : List Piece) (t : ℚ) → RisesFrom p.x ps → t ≤ℚ p.x → read (p ∷ ps) t ≡ p.at
read_start p [] t r h = read_one p t ∙ value_by p t h
read_start p (q ∷ qs) t r h =
    read_stop p q qs t (le_lt_trans h r.0) ∙ value_by p t h

read_early : (p : Piece) (ps : List Piece) (end : Ext) (t : ℚ) → p.x <ℚ t → Fin t <ₑ next_start ps end
    → read (p ∷ ps) t ≡ line_value p.line t
read_early p [] end t past early = read_one p t ∙ value_past p t past
read_early p (q ∷ qs) end t past early = read_stop p q qs t early ∙ value_past p t past

next_late : (p : Piece) (ps : List Piece) (end : Ext) → RisesFrom p.x ps → StartBefore end (p ∷ ps)
    → Fin p.x <ₑ next_start ps end
next_late p [] end r b = b.0
next_late p (q ∷ qs) end r b = r.0

next_before : (p : Piece) (ps : List Piece) (end : Ext) (t : ℚ) → StartBefore end (p ∷ ps) → Fin t <ₑ next_start ps end
    → Fin t <ₑ end
next_before p [] end t b h = h
next_before p (q ∷ qs) end t b h = lt_ext_trans (Fin t) (Fin q.x) end h b.1.0

-- a point and the segment after it come first
pub record BeginsWith (v : ℚ) (es : List Element) : Type 0 where
  pub start : ℚ
  pub end : Ext
  pub line : Line
  pub others : List Element
  pub at_zero : start ≡ zero_q
  pub is : es ≡ Point start v ∷ Open start end line ∷ others

begins : (x : ℚ) (at : Ext) (line : Option Line) (next : Ext) (es : List Element) (v m q : ℚ) → x ≡ zero_q
    → at ≡ Fin v → line_value line m ≡ Fin q → BeginsWith v ((point_of x at ++ segment_of x next line) ++ es)
begins x Inf line next es v m q z a h = absurd cc
begins x (Fin u) None next es v m q z a h = absurd cc
begins x (Fin u) (Some l) next es v m q z a h = record {
  start = x;
  end = next;
  line = l;
  others = es;
  at_zero = z;
  is = let same : u ≡ v = cc in ap (λ w. Point x w ∷ Open x next l ∷ es) same;
}

pub first_value : (ps : List Piece) (tail : Tail) (p : Piece) (qs : List Piece)
    → IsRaw record { pieces = ps; tail = tail }
    → IsFinite (value_at record { pieces = ps; tail = tail }) → ps ≡ p ∷ qs
    → value_at record { pieces = ps; tail = tail } zero_q ≡ p.at
first_value ps tail p qs raw finite is =
    let fits = subst (λ z. TailFits z tail) is raw.tail in
    let starts = subst StartsAtZero is raw.starts in
    let before = starts_before (p ∷ qs) tail fits in
    let zero : Fin zero_q <ₑ pieces_end tail = subst (λ x. Fin x <ₑ pieces_end tail) starts.0 before.0 in
    value_read ps tail zero_q raw.tail finite zero ∙ ap (λ z. read z zero_q) is
    ∙ read_start p qs zero_q starts.1 (subst (λ x. zero_q ≤ℚ x) (sym starts.0) (le_refl zero_q))

first_two : (p : Piece) (ps : List Piece) (tail : Tail) (v : ℚ) → IsRaw record { pieces = p ∷ ps; tail = tail }
    → IsFinite (value_at record { pieces = p ∷ ps; tail = tail })
    → value_at record { pieces = p ∷ ps; tail = tail } zero_q ≡ Fin v
    → BeginsWith v (elements_of (p ∷ ps) (pieces_end tail))
first_two p ps tail v raw finite at =
    let end = pieces_end tail in
    let before = starts_before (p ∷ ps) tail raw.tail in
    let late : Fin zero_q <ₑ next_start ps end =
    subst (λ x. Fin x <ₑ next_start ps end) raw.starts.0 (next_late p ps end raw.starts.1 before) in
    let (m, w) = early_time (next_start ps end) late in
    let (q, is) = finite m (le_of_lt w.past) in
    let line : line_value p.line m ≡ Fin q =
    sym (read_early p ps end m (subst (λ x. x <ℚ m) (sym raw.starts.0) w.past) w.before)
    ∙ sym (value_read (p ∷ ps) tail m raw.tail finite (next_before p ps end m before w.before)) ∙ is in
    begins p.x p.at p.line (next_start ps end) (elements_of ps end) v m q raw.starts.0
    (sym (first_value (p ∷ ps) tail p ps raw finite refl) ∙ at) line

pub elements_begin : (c : SpecCurve) (v : ℚ) → IsRaw c → IsFinite (value_at c) → value_at c zero_q ≡ Fin v
    → BeginsWith v (elements_of c.pieces (pieces_end c.tail))
elements_begin c v raw finite at = by_pieces c.pieces raw finite at
  where
    by_pieces : (ps : List Piece) → IsRaw record { pieces = ps; tail = c.tail }
        → IsFinite (value_at record { pieces = ps; tail = c.tail })
        → value_at record { pieces = ps; tail = c.tail } zero_q ≡ Fin v
        → BeginsWith v (elements_of ps (pieces_end c.tail))
    by_pieces [] raw finite at = absurd raw.starts
    by_pieces (p ∷ ps) raw finite at = first_two p ps c.tail v raw finite at

-- the value at 0 is that of the first piece
pub start_value : (c : SpecCurve) (ps : List Piece) (d : Piece) → ps ≡ c.pieces → IsRaw c → IsFinite (value_at c)
    → value_at c zero_q ≡ (get_or ps 0 d).at
start_value c [] d e raw finite = absurd (subst StartsAtZero (sym e) raw.starts)
start_value c (p ∷ qs) d e raw finite = first_value c.pieces c.tail p qs raw finite (sym e)

pub two_elements : (c : SpecCurve) (es : List Element) → es ≡ elements_of c.pieces (pieces_end c.tail) → IsRaw c
    → IsFinite (value_at c) → 2 ≤ length es
two_elements c es e raw finite =
    let (v, at) = finite zero_q (le_refl zero_q) in
    let n = ap length (e ∙ (elements_begin c v raw finite at).is) in
    omega (arith, n)

-- want of memory before the first part
pub no_memory : (c : SpecCurve) (r : Result SpecCurve OpFault) → IsRaw c → IsFinite (value_at c)
    → r ≡ Err NoMemory → CloseAnswer c r
no_memory c r raw finite is =
    let (v, at) = finite zero_q (le_refl zero_q) in
    let b = elements_begin c v raw finite at in
    let first = part_of c.tail (Point b.start v) in
    let all : parts_of c ≡ first ∷ map (part_of c.tail) (Open b.start b.end b.line ∷ b.others) = ap (map (part_of
    c.tail)) b.is in
    early_refusal c (first ∷ []) (map (part_of c.tail) (Open b.start b.end b.line ∷ b.others)) NoMemory r all
    (first_stops c first [] NoMemory (stops NoMemory tt refl)) is
