-- The unrolled pieces of a curve in normal form are the pieces of its spans below the same time.
use Rattle.std.specs.Prelude.{◌≡◌, ℕ, zero, suc, ◌+◌, ◌<◌, pos, Bool, true, false, cond, List, [], ◌∷◌, ◌++◌, length, map, sum_by, Contains}
use Rattle.std.proofs.Common.{arith, sym, ap, ap₂, ◌∙◌, refl, subst, inl, inr, get_or}
use Rattle.std.proofs.lemmas.Bool.{cases_lt}
use Rattle.std.proofs.lemmas.List.{length-append, length-map}
use Rattle.std.proofs.lemmas.List.Sums.{sum_by-cons}
use Rattle.std.specs.List.{AllByRecursion, flat_map}
use Rattle.rational.specs.Rational.{ℚ, ◌+ℚ◌, ◌-ℚ◌, ◌*ℚ◌, ◌≤ℚ◌, ◌<ℚ◌, int, lt_q}
use Rattle.rational.specs.Whole.{periods}
use Rattle.rational.proofs.Integers.{nat_le}
use Rattle.rational.proofs.Laws.{le_or_lt, le_of_lt, le_trans, le_lt_trans, lt_irrefl, mul_le_mul_right}
use Rattle.rational.proofs.Linear.{with5}
use Rattle.rational.proofs.MinMax.{lt_q_not}
use Rattle.rational.proofs.Over.{lt_q_out}
use Rattle.rational.proofs.Whole.{one_more_times, periods_high}
use Rattle.upp_curve.specs.declared.affine_segment.line.Piece.{Piece}
use Rattle.upp_curve.specs.declared.curve.Tail.{Tail}
use Rattle.upp_curve.specs.declared.curve.Tail.TheVariants.{Periodic, Affine, Infinite}
use Rattle.upp_curve.specs.Curve.{SpecCurve}
use Rattle.upp_curve.specs.affine_segment.Pieces.{Each, RisesFrom, start_after}
use Rattle.upp_curve.specs.Normal.{IsNormal}
use Rattle.upp_normal.specs.PieceLaws.{HaveSamePieces, PiecesAreCounted}
use Rattle.upp_limits.specs.Spans.{Span, copies_of, end_of, number_below, once, once_below, piece_read, span_below, spans, spans_below}
use Rattle.upp_curve.specs.Unrolled.{copies, copies_below, each_later, from, later, unroll, unrolled, upto}
use Rattle.upp_limits.proofs.Copies.{copies_in, every_copy}
use Rattle.upp_limits.proofs.Every.{every_flat, every_map, every_map_out, every_weaken}
use Rattle.upp_normal.proofs.NormaliseCopies.{later_twice}
use Rattle.upp_normal.proofs.NormaliseCuts.{each_right}
use Rattle.upp_curve.proofs.affine_segment.PieceOrder.{each_left, each_map}
use Rattle.upp_normal.proofs.NormaliseLoops.{later_some}
use Rattle.upp_limits.proofs.PieceCounts.{count_is_length, count_is_sum, from_none, from_some, copies_next}
use Rattle.upp_normal.proofs.UnrolledPieces.{IsGiven, all_read, each_with, no_later, periodic_starts, unroll_each}
use Rattle.upp_curve.proofs.affine_segment.PieceIn.{low_start}
use Rattle.upp_curve.proofs.Unique.{upto_some}

-- ---- their number
two_lengths : (b : Bool) (xs ys : List Span) (m n : ℕ) → length xs ≡ m → length ys ≡ n → length (cond b xs ys) ≡ cond b m n
two_lengths true xs ys m n h k = h
two_lengths false xs ys m n h k = k

once_length : (end : ℚ) (s : Span) → length (once_below end s) ≡ once end s.piece
once_length end s = two_lengths (lt_q s.piece.x end) (s ∷ []) [] 1 0 refl refl

copies_length : (d c : ℚ) (s : Span) (n : ℕ) → length (copies_of d c s n) ≡ n
unfolding copies_of
copies_length d c s zero = refl
copies_length d c s (suc n) = ap suc (copies_length d c s n)

below_length : (tail : Tail) (end : ℚ) (s : Span) → length (span_below tail end s) ≡ number_below tail end s.piece
below_length (Affine rank) end s = once_length end s
below_length (Infinite rank) end s = once_length end s
below_length (Periodic rank d c) end s =
    let n = copies_below d end s.piece in
    two_lengths (lt_q s.piece.x rank) (once_below end s) (copies_of d c s n) (once end s.piece) n (once_length end s) (copies_length d c s n)

number_read : (tail : Tail) (end : ℚ) (p : Piece) → number_below tail end (piece_read tail p) ≡ number_below tail end p
number_read (Affine rank) end p = refl
number_read (Infinite rank) end p = refl
number_read (Periodic rank d c) end p = refl

spans_length : (tail : Tail) (end : ℚ) (ps : List Piece) → length (flat_map (span_below tail end) (spans tail ps)) ≡ sum_by (number_below tail end) ps
unfolding spans
spans_length tail end [] = refl
spans_length tail end (p ∷ ps) =
    let s : Span = record { piece = piece_read tail p; next = start_after ps (end_of tail) } in
    length-append (span_below tail end s) (flat_map (span_below tail end) (spans tail ps))
    ∙ ap₂ (λ (a b : ℕ). a + b) (below_length tail end s ∙ number_read tail end p) (spans_length tail end ps)
    ∙ sym (sum_by-cons (number_below tail end) p ps)

below_number : (c : SpecCurve) (end : ℚ) → length (spans_below c end) ≡ sum_by (number_below c.tail end) c.pieces
unfolding spans_below
below_number c end = spans_length c.tail end c.pieces

-- ---- what holds of the unrolled pieces holds of the spans
-- of a list that rises nothing starts before x past the cut there
none_before : (P : Piece → Type 0) (x y : ℚ) (ps : List Piece) → x ≤ℚ y → RisesFrom y ps → Each (λ p. p.x <ℚ x → P p) ps
none_before P x y [] l r = tt
none_before P x y (p ∷ ps) l r =
    let k : x ≤ℚ p.x = le_trans l (le_of_lt r.0) in
    (λ h. absurd (lt_irrefl x (le_lt_trans k h)), none_before P x p.x ps k r.1)

pub each_whole : (P : Piece → Type 0) (x y : ℚ) (ps : List Piece) → RisesFrom y ps → Each P (upto x ps) → Each (λ p. p.x <ℚ x → P p) ps
each_whole P x y [] r h = tt
each_whole P x y (p ∷ ps) r h = elim (le_or_lt x p.x) [
  | inl k ↦ (λ l. absurd (lt_irrefl x (le_lt_trans k l)), none_before P x p.x ps k r.1)
  | inr k ↦ let both : Each P (p ∷ upto x ps) = subst (Each P) (upto_some x p ps k) h in (λ l. both.0, each_whole P x p.x ps r.1 both.1)
]

each_late : (R : Piece → Type 0) (x : ℚ) (ps : List Piece) → Each R (from x ps) → Each (λ p. x ≤ℚ p.x → R p) ps
each_late R x [] h = tt
each_late R x (p ∷ ps) h = elim (le_or_lt x p.x) [
  | inl k ↦ each_map R (λ p. x ≤ℚ p.x → R p) (λ p r l. r) (p ∷ ps) (subst (Each R) (from_none x p ps k) h)
  | inr k ↦ (λ l. absurd (lt_irrefl x (le_lt_trans l k)), each_late R x ps (subst (Each R) (from_some x p ps k) h))
]

-- what holds of moved pieces
moved_out : (Q : Piece → Type 0) (d c : ℚ) (ps : List Piece) → Each Q (each_later d c ps) → Each (λ p. Q (later d c p)) ps
moved_out Q d c [] h = tt
moved_out Q d c (p ∷ ps) h =
    let both : Each Q (later d c p ∷ each_later d c ps) = subst (Each Q) (later_some d c p ps) h in
    (both.0, moved_out Q d c ps both.1)

one_turn_later : (n : ℕ) (d c : ℚ) (p : Piece)
    → later d c (later (int (pos n) *ℚ d) (int (pos n) *ℚ c) p) ≡ later (int (pos (suc n)) *ℚ d) (int (pos (suc n)) *ℚ c) p
one_turn_later n d c p =
    later_twice (int (pos n) *ℚ d) d (int (pos n) *ℚ c) c p
    ∙ ap₂ (λ (x y : ℚ). later x y p) (sym (one_more_times n d)) (sym (one_more_times n c))

each_turn : (Q : Piece → Type 0) (d c : ℚ) (k : ℕ) (ps : List Piece) → Each Q (copies k d c ps) → (n : ℕ) → n < k
    → Each (λ p. Q (later (int (pos n) *ℚ d) (int (pos n) *ℚ c) p)) ps
each_turn Q d c zero ps h n l = absurd (omega arith)
each_turn Q d c (suc k) ps h zero l =
    let all : Each Q (ps ++ each_later d c (copies k d c ps)) = subst (Each Q) (copies_next k d c ps) h in
    each_map Q (λ p. Q (later (int (pos 0) *ℚ d) (int (pos 0) *ℚ c) p)) (λ p q. subst Q (sym (no_later d c p)) q) ps
    (each_left Q ps (each_later d c (copies k d c ps)) all)
each_turn Q d c (suc k) ps h (suc n) l =
    let all : Each Q (ps ++ each_later d c (copies k d c ps)) = subst (Each Q) (copies_next k d c ps) h in
    let moved = moved_out Q d c (copies k d c ps) (each_right Q ps (each_later d c (copies k d c ps)) all) in
    each_map (λ p. Q (later d c (later (int (pos n) *ℚ d) (int (pos n) *ℚ c) p))) (λ p. Q (later (int (pos (suc n)) *ℚ d) (int (pos (suc n)) *ℚ c) p))
    (λ p q. subst Q (one_turn_later n d c p) q) ps (each_turn (λ p. Q (later d c p)) d c k ps moved n (omega arith))

each_number : (R : ℕ → Piece → Type 0) (k : ℕ) (ps : List Piece) → ((n : ℕ) → n < k → Each (R n) ps) → Each (λ p. (n : ℕ) → n < k → R n p) ps
each_number R k [] f = tt
each_number R k (p ∷ ps) f = (λ n l. (f n l).0, each_number R k ps (λ n l. (f n l).1))

-- a copy that starts before the end is one of those that are made
is_made : (rank d end x : ℚ) (n : ℕ) → int (pos 0) <ℚ d → rank ≤ℚ x → x +ℚ int (pos n) *ℚ d <ℚ end → n < suc (periods rank d end)
is_made rank d end x n some late early = elim (cases_lt n (suc (periods rank d end))) [
  | inl l ↦ l
  | inr l ↦
      let k = periods rank d end in
      let low : int (pos (suc k)) *ℚ d ≤ℚ int (pos n) *ℚ d = mul_le_mul_right d (le_of_lt some) (nat_le (suc k) n l) in
      let high = periods_high rank d end some in
      let one = one_more_times k d in
      let past : end <ℚ rank +ℚ int (pos (suc k)) *ℚ d = with5 end rank d (int (pos k) *ℚ d) (int (pos (suc k)) *ℚ d) (λ c. omega (arith, c.le, c.lt, c.same)) in
      let inside : end <ℚ end = with5 end rank x (int (pos (suc k)) *ℚ d) (int (pos n) *ℚ d) (λ c. omega (arith, c.le, c.lt)) in
      absurd (lt_irrefl end inside)
]

pub periodic_given : (P : Piece → Type 0) (ps : List Piece) (rank d c end : ℚ) → IsNormal record { pieces = ps; tail = Periodic rank d c }
    → Each P (unrolled ps (Periodic rank d c) end) → Each (IsGiven P rank d c end) ps
periodic_given P ps rank d c end n h =
    let k = periods rank d end in
    let early = upto rank ps in
    let late = copies (suc k) d c (from rank ps) in
    let start = int (pos 0) -ℚ int (pos 1) in
    let some = n.raw.tail.some in
    let Q = λ (p : Piece). p.x <ℚ end → P p in
    let R = λ (m : ℕ) (p : Piece). Q (later (int (pos m) *ℚ d) (int (pos m) *ℚ c) p) in
    let starts = periodic_starts ps rank d c k n.raw.starts n.rank_is_start some n.raw.tail.starts in
    let all : Each Q (early ++ late) = each_whole P end start (early ++ late) (low_start (early ++ late) starts) h in
    let before : Each (λ p. p.x <ℚ rank → Q p) ps = each_whole Q rank start ps (low_start ps n.raw.starts) (each_left Q early late all) in
    let turns : Each (λ p. rank ≤ℚ p.x → (m : ℕ) → m < suc k → R m p) ps =
    each_late (λ p. (m : ℕ) → m < suc k → R m p) rank ps
    (each_number R (suc k) (from rank ps) (λ m l. each_turn Q d c (suc k) (from rank ps) (each_right Q early late all) m l)) in
    each_with (λ p. p.x <ℚ rank → Q p) (λ p. rank ≤ℚ p.x → (m : ℕ) → m < suc k → R m p) (IsGiven P rank d c end)
    (λ p b t. record { once = b; again = λ l m f. t l m (is_made rank d end p.x m some l f) f }) ps before turns

pub once_in : (Q : Span → Type 0) (end : ℚ) (s : Span) → (s.piece.x <ℚ end → Q s) → AllByRecursion Q (once_below end s)
once_in Q end s f = elim (le_or_lt end s.piece.x) [
  | inl l ↦ subst (λ b. AllByRecursion Q (cond b (s ∷ []) [])) (sym (lt_q_not s.piece.x end l)) tt
  | inr l ↦ subst (λ b. AllByRecursion Q (cond b (s ∷ []) [])) (sym (lt_q_out s.piece.x end l)) (f l, tt)
]

given_in : (P : Piece → Type 0) (rank d c end : ℚ) (s : Span) → int (pos 0) <ℚ d → IsGiven P rank d c end s.piece
    → AllByRecursion (λ s. P s.piece) (span_below (Periodic rank d c) end s)
given_in P rank d c end s some g =
    let Q = λ (s : Span). P s.piece in
    let n = copies_below d end s.piece in
    let choice = λ (b : Bool). AllByRecursion Q (cond b (once_below end s) (copies_of d c s n)) in
    elim (le_or_lt rank s.piece.x) [
      | inl l ↦ subst choice (sym (lt_q_not s.piece.x rank l)) (every_copy Q d c s n (λ m k. g.again l m (copies_in d end s.piece m some k)))
      | inr l ↦ subst choice (sym (lt_q_out s.piece.x rank l)) (once_in Q end s (g.once l))
    ]

spans_all : (F : Piece → Type 0) (tail : Tail) (ps : List Piece) → Each (λ p. F (piece_read tail p)) ps → AllByRecursion (λ s. F s.piece) (spans tail ps)
unfolding spans
spans_all F tail [] h = tt
spans_all F tail (p ∷ ps) h = (h.0, spans_all F tail ps h.1)

spans_by_tail : (P : Piece → Type 0) (ps : List Piece) (tail : Tail) (end : ℚ) → IsNormal record { pieces = ps; tail = tail } → Each P (unrolled ps tail end)
    → AllByRecursion (λ s. AllByRecursion (λ s. P s.piece) (span_below tail end s)) (spans tail ps)
spans_by_tail P ps (Periodic rank d c) end n h =
    every_weaken {P = λ s. IsGiven P rank d c end s.piece} {Q = λ s. AllByRecursion (λ s. P s.piece) (span_below (Periodic rank d c) end s)}
    (λ s g. given_in P rank d c end s n.raw.tail.some g) (spans (Periodic rank d c) ps)
    (spans_all (IsGiven P rank d c end) (Periodic rank d c) ps (periodic_given P ps rank d c end n h))
spans_by_tail P ps (Affine rank) end n h =
    let F = λ (p : Piece). p.x <ℚ end → P p in
    every_weaken {P = λ s. F s.piece} {Q = λ s. AllByRecursion (λ s. P s.piece) (once_below end s)}
    (λ s g. once_in (λ s. P s.piece) end s g) (spans (Affine rank) ps)
    (spans_all F (Affine rank) ps (each_whole P end (int (pos 0) -ℚ int (pos 1)) ps (low_start ps n.raw.starts) h))
spans_by_tail P ps (Infinite rank) end n h =
    let F = λ (p : Piece). p.x <ℚ end → P p in
    every_weaken {P = λ s. F s.piece} {Q = λ s. AllByRecursion (λ s. P s.piece) (once_below end s)}
    (λ s g. once_in (λ s. P s.piece) end s g) (spans (Infinite rank) ps)
    (spans_all F (Infinite rank) ps
    (each_with F (λ p. piece_read (Infinite rank) p ≡ p) (λ p. F (piece_read (Infinite rank) p)) (λ p f e. subst F (sym e) f) ps
    (each_whole P end (int (pos 0) -ℚ int (pos 1)) ps (low_start ps n.raw.starts) h)
    (all_read rank ps n.raw.starts n.raw.tail.starts n.tail)))

each_span : (P : Piece → Type 0) (c : SpecCurve) (end : ℚ) → IsNormal c → Each P (unroll c end) → AllByRecursion (λ s. P s.piece) (spans_below c end)
unfolding unroll spans_below
each_span P c end n h = every_flat (λ s. P s.piece) (span_below c.tail end) (spans c.tail c.pieces) (spans_by_tail P c.pieces c.tail end n h)

-- ---- being in a list
one_later : (p : Piece) (ps : List Piece) (q : Piece) (k : ℕ) → k < length ps → get_or ps k q ≡ q → Contains (p ∷ ps) q
one_later p ps q k l e = (suc k, omega arith, e)

pub each_contained : (ps : List Piece) → Each (Contains ps) ps
each_contained [] = tt
each_contained (p ∷ ps) =
    ((0, omega arith, refl), each_map (Contains ps) (Contains (p ∷ ps)) (λ q h. one_later p ps q h.0 h.1 h.2) ps (each_contained ps))

pub each_at : (P : Piece → Type 0) (ps : List Piece) (x : Piece) → Each P ps → Contains ps x → P x
each_at P [] x h (k, l, e) = absurd (omega arith)
each_at P (p ∷ ps) x h (zero, l, e) = subst P e h.0
each_at P (p ∷ ps) x h (suc k, l, e) = each_at P ps x h.1 (k, omega arith, e)

every_each : (P : Piece → Type 0) (ps : List Piece) → AllByRecursion P ps → Each P ps
every_each P [] h = tt
every_each P (p ∷ ps) h = (h.0, every_each P ps h.1)

each_every : (P : Piece → Type 0) (ps : List Piece) → Each P ps → AllByRecursion P ps
each_every P [] h = tt
each_every P (p ∷ ps) h = (h.0, each_every P ps h.1)

-- ---- the laws
pub pieces_are_counted : PiecesAreCounted
pieces_are_counted = λ c end raw. count_is_length c end raw

pub same_pieces : (c : SpecCurve) (end : ℚ) → IsNormal c → HaveSamePieces (unroll c end) (map (λ s. s.piece) (spans_below c end))
same_pieces c end n =
    let ps = unroll c end in
    let ss = spans_below c end in
    let qs = map (λ (s : Span). s.piece) ss in
    record {
      number = sym (count_is_length c end n.raw) ∙ count_is_sum c end n.raw.starts ∙ sym (below_number c end) ∙ sym (length-map ss (λ (s : Span). s.piece));
      there = λ p h. each_at (Contains qs) ps p
          (unroll_each (Contains qs) c end n (every_map_out (Contains qs) (λ (s : Span). s.piece) ss (each_every (Contains qs) qs (each_contained qs)))) h;
      back = λ p h. each_at (Contains ps) qs p
          (every_each (Contains ps) qs (every_map (Contains ps) (λ (s : Span). s.piece) ss (each_span (Contains ps) c end n (each_contained ps)))) h;
    }
