-- The limits of a listed curve by its text: in its own window each piece counts once.
use Rattle.std.specs.Prelude.{◌≡◌, ℕ, zero, suc, ◌+◌, ◌-◌, ◌<◌, ◌≤◌, ◌^◌, pos, cond, List, [], ◌∷◌, length, drop, sum_by, Option, Some, None}
use Rattle.std.specs.List.{AllByRecursion}
use Rattle.std.proofs.Common.{arith, get_or, sym, ap, ◌∙◌, refl, subst, inl, inr}
use Rattle.std.proofs.lemmas.List.Sums.{sum_by-cons}
use Rattle.rational.specs.Rational.{ℚ, ◌+ℚ◌, ◌-ℚ◌, ◌/ℚ◌, ◌≤ℚ◌, ◌<ℚ◌, int}
use Rattle.rational.proofs.Linear.{with3}
use Rattle.rational.proofs.Laws.{one_mul, le_or_lt}
use Rattle.rational.proofs.Quotients.{div_le}
use Rattle.rational.proofs.Over.{lt_q_out}
use Rattle.rational.proofs.MinMax.{lt_q_not}
use Rattle.upp_curve.specs.declared.affine_segment.line.Piece.{Piece}
use Rattle.upp_curve.specs.affine_segment.Pieces.{Each, StartsAtZero, start_after}
use Rattle.upp_curve.specs.declared.curve.Tail.TheVariants.{Affine}
use Rattle.upp_curve.specs.Unrolled.{copies_below}
use Rattle.upp_limits.specs.ClosedForm.{span_numbers, once_numbers, copies_numbers, closed_span, closed_numbers}
use Rattle.upp_limits.specs.Limits.{no_numbers, sizes_of, curve_numbers, gauge_of, own_end, own_tally, own_gauge}
use Rattle.upp_limits.specs.OwnWindow.{EndFits, EndsAt, end_from}
use Rattle.upp_limits.specs.Periods.{HasPeriod}
use Rattle.upp_limits.specs.Seen.{Knows, SpanFits}
use Rattle.upp_limits.specs.Spans.{Span, once, number_below, piece_read, end_of, spans}
use Rattle.upp_limits.proofs.Copies.{copies_out, plus_zero}
use Rattle.upp_limits.proofs.CurveStands.{starts_below_own_end}
use Rattle.upp_limits.proofs.FewCopies.{affine_few, periodic_few, end_is}
use Rattle.upp_limits.proofs.PieceCounts.{count_is_sum}
use Rattle.upp_limits.proofs.OwnGauge.{end_place, no_end_large, own_gauge_is, unknown_large}
use Rattle.upp_limits.proofs.PieceLists.{every_at, next_span}
use Rattle.upp_limits.proofs.Rounding.{whole_up_most}
use Rattle.upp_limits.proofs.SameSizes.{equals_curve, same_gauge}
use Rattle.curve_library.specs.declared.texts.PieceText.{PieceText}
use Rattle.curve_library.specs.declared.texts.TailText.{TailText}
use Rattle.curve_library.specs.Listed.{text_piece, text_pieces, text_tail, last_from, last_start, listed_curve, HasLength, TextFits, IsWellFormed}
use Rattle.curve_library.proofs.ListedParts.{raw_of, texts_fit}

-- ---- pieces and texts
pub as_many : (ps : List PieceText) → length (text_pieces ps) ≡ length ps
as_many [] = refl
as_many (p ∷ ps) = ap suc (as_many ps)

pub drop_texts : (i : ℕ) (ps : List PieceText) → drop i (text_pieces ps) ≡ text_pieces (drop i ps)
drop_texts zero ps = refl
drop_texts (suc i) [] = refl
drop_texts (suc i) (p ∷ ps) = drop_texts i ps

pub piece_place : (ps : List PieceText) (i : ℕ) (p : PieceText) → i < length ps → p ≡ get_or ps i p → text_piece p ≡ get_or (text_pieces ps) i (text_piece p)
piece_place [] i p h e = absurd (omega arith)
piece_place (q ∷ ps) zero p h e = ap text_piece e
piece_place (q ∷ ps) (suc i) p h e = piece_place ps i p (omega arith) e

last_at : (p : PieceText) (ps : List PieceText) (d : PieceText) → (get_or (p ∷ ps) (length (p ∷ ps) - 1) d).x ≡ last_from p ps
last_at p [] d = refl
last_at p (q ∷ qs) d =
    let e : length (p ∷ q ∷ qs) - 1 ≡ suc (length (q ∷ qs) - 1) = omega arith in
    ap (λ i. (get_or (p ∷ q ∷ qs) i d).x) e ∙ last_at q qs d

pub read_as_it_is : (ps : List PieceText) (tail : Option TailText) (p : Piece) → piece_read (text_tail ps tail) p ≡ p
read_as_it_is ps None p = refl
read_as_it_is ps (Some t) p = refl

pub early_at : (end : ℚ) (ps : List PieceText) (i : ℕ) (p : PieceText) → Each (λ q. q.x <ℚ end) (text_pieces ps) → i < length ps → p ≡ get_or ps i p → p.x <ℚ end
early_at end [] i p all h e = absurd (omega arith)
early_at end (q ∷ ps) zero p all h e = subst (λ z. z.x <ℚ end) (sym e) all.0
early_at end (q ∷ ps) (suc i) p all h e = early_at end ps i p all.1 (omega arith) e

-- the piece of the text at a place, with where the next one starts
pub span_there : (ps : List PieceText) (tail : Option TailText) (i : ℕ) (p : PieceText) (next after : Option ℚ) → i < length ps → p ≡ get_or ps i p
    → after ≡ end_of (text_tail ps tail) → next ≡ start_after (text_pieces (drop (i + 1) ps)) after
    → spans (text_tail ps tail) (drop i (text_pieces ps)) ≡ record { piece = text_piece p; next = next } ∷ spans (text_tail ps tail) (drop (i + 1) (text_pieces ps))
span_there ps tail i p next after h e a n =
    next_span (text_tail ps tail) (text_pieces ps) i (text_piece p) (text_piece p) next after (subst (λ k. i < k) (sym (as_many ps)) h) (piece_place ps i p h e)
    (sym (read_as_it_is ps tail (text_piece p))) a (n ∙ ap (λ qs. start_after qs after) (sym (drop_texts (i + 1) ps)))

-- the tail by the last piece
pub tail_by_last : (ps : List PieceText) (tail : Option TailText) (last : PieceText) → 1 ≤ length ps → last ≡ get_or ps (length ps - 1) last
    → text_tail (last ∷ []) tail ≡ text_tail ps tail
tail_by_last [] tail last h e = absurd (omega arith)
tail_by_last (p ∷ ps) None last h e = ap Affine (ap (λ q. q.x) e ∙ last_at p ps last)
tail_by_last (p ∷ ps) (Some t) last h e = refl

pub some_text : (ps : List PieceText) → StartsAtZero (text_pieces ps) → 1 ≤ length ps
some_text [] h = absurd h
some_text (p ∷ ps) h = omega arith

-- ---- one copy
some_copy : (end d : ℚ) (p : Piece) → int (pos 0) <ℚ d → p.x <ℚ end → 1 ≤ copies_below d end p
some_copy end d p some l = copies_out d end p 0 some (subst (λ y. y <ℚ end) (sym (plus_zero p.x d)) l)

one_copy : (R d end : ℚ) (p : Piece) → int (pos 0) <ℚ d → end ≡ R +ℚ d → R ≤ℚ p.x → p.x <ℚ end → copies_below d end p ≡ 1
one_copy R d end p some e past early =
    let least = some_copy end d p some early in
    let most = whole_up_most ((end -ℚ p.x) /ℚ d) 1 ((div_le (end -ℚ p.x) d (int (pos 1)) some).1 (subst (λ z. end -ℚ p.x ≤ℚ z) (sym (one_mul d)) (under p.x past))) in
    omega (arith, least, most)
  where
    under : (x : ℚ) → R ≤ℚ x → end -ℚ x ≤ℚ d
    under x h = subst (λ z. z -ℚ x ≤ℚ d) (sym e) (with3 x R d (λ c. omega (arith, c.le, c.lt, c.same)))

once_is : (end : ℚ) (s : Span) → s.piece.x <ℚ end → once_numbers end s ≡ span_numbers s
once_is end s l = ap (λ b. cond b (span_numbers s) no_numbers) (lt_q_out s.piece.x end l)

-- a piece's numbers are those of itself
pub itself : (ps : List PieceText) (tail : Option TailText) (end : ℚ) (s : Span) → HasLength tail → EndsAt (text_tail ps tail) end → s.piece.x <ℚ end
    → closed_span (text_tail ps tail) end s ≡ span_numbers s
itself ps None end s some at early = once_is end s early
itself ps (Some t) end s some at early = elim (le_or_lt t.rank s.piece.x) [
  | inl past ↦
      ap (λ b. cond b (once_numbers end s) (copies_numbers t.rise s (copies_below t.period end s.piece))) (lt_q_not s.piece.x t.rank past)
      ∙ ap (copies_numbers t.rise s) (one_copy t.rank t.period end s.piece some at past early)
  | inr before ↦
      ap (λ b. cond b (once_numbers end s) (copies_numbers t.rise s (copies_below t.period end s.piece))) (lt_q_out s.piece.x t.rank before)
      ∙ once_is end s early
]

pub known_fits : (ps : List PieceText) (tail : Option TailText) (end : ℚ) (s : Span) → HasLength tail → s.piece.x <ℚ end → Knows (text_tail ps tail) end s → SpanFits s
known_fits ps None end s some early k = k early
known_fits ps (Some t) end s some early k = elim (le_or_lt t.rank s.piece.x) [
  | inl past ↦ (k.1 past).first (some_copy end t.period s.piece some early)
  | inr before ↦ k.0 before early
]

-- ---- the tally
sum_least : (f : Piece → ℕ) (P : Piece → Type 0) (ps : List Piece) → ((p : Piece) → P p → 1 ≤ f p) → Each P ps → length ps ≤ sum_by f ps
sum_least f P [] h all = omega arith
sum_least f P (p ∷ ps) h all =
    let first = h p all.0 in
    let rest = sum_least f P ps h all.1 in
    let both : sum_by f (p ∷ ps) ≡ f p + sum_by f ps = sum_by-cons f p ps in
    omega (arith, first, rest, both)

counts_one : (ps : List PieceText) (tail : Option TailText) (end : ℚ) → HasLength tail → (p : Piece) → p.x <ℚ end → 1 ≤ number_below (text_tail ps tail) end p
counts_one ps None end some p l = subst (λ b. 1 ≤ cond b 1 0) (sym (lt_q_out p.x end l)) (omega arith)
counts_one ps (Some t) end some p l = elim (le_or_lt t.rank p.x) [
  | inl past ↦
      subst (λ b. 1 ≤ cond b (once end p) (copies_below t.period end p)) (sym (lt_q_not p.x t.rank past)) (some_copy end t.period p some l)
  | inr before ↦
      subst (λ b. 1 ≤ cond b (once end p) (copies_below t.period end p)) (sym (lt_q_out p.x t.rank before)) (subst (λ b. 1 ≤ cond b 1 0) (sym (lt_q_out p.x end l)) (omega arith))
]

tally_least : (ps : List PieceText) (tail : Option TailText) → IsWellFormed ps tail → length ps ≤ own_tally (listed_curve ps tail)
tally_least ps tail w =
    let c = listed_curve ps tail in
    subst (λ n. n ≤ own_tally c) (as_many ps)
    (subst (λ n. length (text_pieces ps) ≤ n) (sym (count_is_sum c (own_end c) w.order.starts))
    (sum_least (number_below (text_tail ps tail) (own_end c)) (λ p. p.x <ℚ own_end c) (text_pieces ps) (counts_one ps tail (own_end c) w.length) (starts_below_own_end c (raw_of ps tail w))))

tally_most : (ps : List PieceText) (tail : Option TailText) → IsWellFormed ps tail → own_tally (listed_curve ps tail) ≤ length ps
tally_most ps None w = subst (λ n. own_tally (listed_curve ps None) ≤ n) (as_many ps) (affine_few (text_pieces ps) (last_start ps) w.order.starts)
tally_most ps (Some t) w =
    subst (λ n. own_tally (listed_curve ps (Some t)) ≤ n) (as_many ps) (periodic_few (text_pieces ps) t.rank t.period t.rise w.length w.order.starts)

-- the tally is the number of pieces
pub tally_is : (ps : List PieceText) (tail : Option TailText) → IsWellFormed ps tail → own_tally (listed_curve ps tail) ≡ length ps
tally_is ps tail w =
    let least = tally_least ps tail w in
    let most = tally_most ps tail w in
    omega (arith, least, most)

-- ---- the window
pub ends_at : (ps : List PieceText) (tail : Option TailText) (end : ℚ) → end ≡ own_end (listed_curve ps tail) → EndsAt (text_tail ps tail) end
ends_at ps None end e = tt
ends_at ps (Some t) end e = e ∙ end_is (text_pieces ps) t.rank t.period t.rise

pub has_period : (ps : List PieceText) (tail : Option TailText) → HasLength tail → HasPeriod (text_tail ps tail)
has_period ps None h = tt
has_period ps (Some t) h = h

last_place_of : (ps : List PieceText) (last : PieceText) → 1 ≤ length ps → last ≡ get_or ps (length ps - 1) last
    → text_piece last ≡ get_or (text_pieces ps) (length (text_pieces ps) - 1) (text_piece last)
last_place_of ps last h e =
    subst (λ n. text_piece last ≡ get_or (text_pieces ps) (n - 1) (text_piece last)) (sym (as_many ps)) (piece_place ps (length ps - 1) last (omega arith) e)

-- it ends where the last piece says
pub window_end : (ps : List PieceText) (tail : Option TailText) (last : PieceText) (end : ℚ) → IsWellFormed ps tail → last ≡ get_or ps (length ps - 1) last
    → end ≡ end_from (text_piece last) (text_tail (last ∷ []) tail) → end ≡ own_end (listed_curve ps tail)
window_end ps tail last end w e v =
    let some = some_text ps w.order.starts in
    v ∙ ap (λ t. end_from (text_piece last) t) (tail_by_last ps tail last some e)
    ∙ end_place (text_pieces ps) (text_tail ps tail) (text_piece last) (raw_of ps tail w) (last_place_of ps last some e)

-- where a step to its end does not fit, the gauge is not small
pub no_window : (ps : List PieceText) (tail : Option TailText) (last : PieceText) → IsWellFormed ps tail → last ≡ get_or ps (length ps - 1) last
    → (TextFits last → EndFits (text_piece last) (text_tail (last ∷ []) tail) → ⊥) → own_gauge (listed_curve ps tail) < 2 ^ 120 → ⊥
no_window ps tail last w e h small =
    let some = some_text ps w.order.starts in
    let below : length ps - 1 < length ps = omega arith in
    let one = every_at TextFits ps (length ps - 1) last (texts_fit ps tail w small).steps below e in
    let big = no_end_large (text_pieces ps) (text_tail ps tail) (text_piece last) (raw_of ps tail w) (last_place_of ps last some e)
    (λ k. h one (subst (λ t. EndFits (text_piece last) t) (sym (tail_by_last ps tail last some e)) k)) in
    omega (arith, big, small)

-- ---- the gauge
pub gauge_is : (ps : List PieceText) (tail : Option TailText) (end : ℚ) → end ≡ own_end (listed_curve ps tail)
    → gauge_of (sizes_of end (closed_numbers end (listed_curve ps tail))) ≡ own_gauge (listed_curve ps tail)
gauge_is ps tail end e =
    let k = listed_curve ps tail in
    same_gauge end (closed_numbers end k) (curve_numbers end k) (equals_curve end k) ∙ own_gauge_is k end e

-- where a number of a piece is not known, the gauge is not small
pub not_gathered : (ps : List PieceText) (tail : Option TailText) (end : ℚ) → IsWellFormed ps tail → end ≡ own_end (listed_curve ps tail)
    → (AllByRecursion TextFits ps → AllByRecursion (Knows (text_tail ps tail) end) (spans (text_tail ps tail) (text_pieces ps)) → ⊥)
    → own_gauge (listed_curve ps tail) < 2 ^ 120 → ⊥
not_gathered ps tail end w e h small =
    let k = listed_curve ps tail in
    let big = unknown_large end k w.order.starts (has_period ps tail w.length) (h (texts_fit ps tail w small).steps) in
    let same = own_gauge_is k end e in
    omega (arith, big, same, small)
