-- What of a curve starts at the end of its window, span by span.
use Rattle.std.proofs.Common.{◌≡◌, ℕ, zero, suc, ◌<◌, ◌≤◌, List, [], ◌∷◌, ◌++◌, map, refl, sym, ap, ◌∙◌, subst, arith, inl, inr, append-nil, length, drop, drop_of_length-le}
use Rattle.std.specs.Prelude.{Bool, true, false, ◌&&◌, cond, pos, filter}
use Rattle.std.specs.List.{flat_map}
use Rattle.std.proofs.lemmas.Bool.{cases_lt, cases_eq}
use Rattle.std.proofs.lemmas.List.Elements.{filter-append}
use Rattle.std.proofs.lemmas.Grind.{flat_map-append}
use Rattle.rational.specs.Rational.{ℚ, ◌+ℚ◌, ◌*ℚ◌, ◌≤ℚ◌, ◌<ℚ◌, int, le_q, lt_q}
use Rattle.rational.proofs.Linear.{with1, with2, with3}
use Rattle.rational.proofs.Laws.{le_or_lt, le_lt_trans, antisym}
use Rattle.rational.proofs.Integers.{nat_lt}
use Rattle.rational.proofs.Whole.{mul_lt_mul_right}
use Rattle.rational.proofs.Over.{le_q_out, lt_q_out}
use Rattle.rational.proofs.MinMax.{le_q_not, lt_q_not}
use Rattle.upp_curve.specs.declared.affine_segment.line.Piece.{Piece}
use Rattle.upp_curve.specs.declared.curve.Tail.{Tail}
use Rattle.upp_curve.specs.declared.curve.Tail.TheVariants.{Periodic, Affine, Infinite}
use Rattle.upp_curve.specs.Curve.{SpecCurve}
use Rattle.upp_curve.specs.Unrolled.{copies_below}
use Rattle.upp_limits.specs.Periods.{HasPeriod}
use Rattle.upp_limits.specs.Spans.{Span, copy_of, copies_of, once_below, span_below, spans, spans_below}
use Rattle.upp_limits.specs.Limits.{Numbers, joined, time_alone, slopes_alone, line_slope, span_values, span_slopes, curve_numbers}
use Rattle.upp_limits.specs.Seen.{seen_of, seen_risen}
use Rattle.upp_limits.specs.ClosedForm.{seen_values, span_numbers, last_numbers}
use Rattle.upp_limits.proofs.ClosedForms.{seen_copy, slope_later}
use Rattle.upp_limits.proofs.JoinedNumbers.{make_numbers, joined_assoc, joined_nothing, joined_three}
use Rattle.upp_limits.proofs.PieceLists.{spans_none}
use Rattle.upp_limits.proofs.Copies.{copies_in, copies_out}
use Rattle.sim_bounds.specs.Gauge.{starts_at, spans_at, numbers_to}
use Rattle.sim_bounds.specs.window_numbers.CurveEnds.{itself_at, next_copy, copy_at, at_end, numbers_with, end_numbers, all_end_numbers}

-- ---- the test
pub starts_true : (t : ℚ) (s : Span) → s.piece.x ≡ t → starts_at t s ≡ true
starts_true t s e =
    let a : s.piece.x ≤ℚ t = with2 s.piece.x t (λ c. omega (arith, c.le, c.lt, c.same)) in
    let b : t ≤ℚ s.piece.x = with2 s.piece.x t (λ c. omega (arith, c.le, c.lt, c.same)) in
    ap (λ (v : Bool). v && le_q t s.piece.x) (le_q_out s.piece.x t a) ∙ le_q_out t s.piece.x b

pub starts_false : (t : ℚ) (s : Span) → (s.piece.x ≡ t → ⊥) → starts_at t s ≡ false
starts_false t s n = elim (le_or_lt s.piece.x t) [
  | inl a ↦ ap (λ (v : Bool). v && le_q t s.piece.x) (le_q_out s.piece.x t a) ∙ (elim (le_or_lt t s.piece.x) [
    | inl b ↦ absurd (n (antisym (a, b)))
    | inr b ↦ le_q_not t s.piece.x b
  ])
  | inr a ↦ ap (λ (v : Bool). v && le_q t s.piece.x) (le_q_not s.piece.x t a)
]

not_at : (t : ℚ) (s : Span) → s.piece.x <ℚ t → starts_at t s ≡ false
not_at t s h = starts_false t s (λ e. let l : t <ℚ t = subst (λ x. x <ℚ t) e h in absurd (with1 t (λ c. omega (arith, c.le, c.lt, c.same))))

not_after : (t : ℚ) (s : Span) → t <ℚ s.piece.x → starts_at t s ≡ false
not_after t s h = starts_false t s (λ e. let l : t <ℚ t = subst (λ x. t <ℚ x) e h in absurd (with1 t (λ c. omega (arith, c.le, c.lt, c.same))))

-- ---- copies
none_of : (period rise t : ℚ) (s : Span) (n : ℕ) → ((m : ℕ) → m < n → s.piece.x +ℚ int (pos m) *ℚ period <ℚ t) → filter (starts_at t) (copies_of period rise s n) ≡ []
unfolding copies_of
none_of period rise t s zero h = refl
none_of period rise t s (suc n) h =
    ap (λ b. cond b (copy_of period rise s n ∷ filter (starts_at t) (copies_of period rise s n)) (filter (starts_at t) (copies_of period rise s n)))
    (not_at t (copy_of period rise s n) (h n (omega arith)))
    ∙ none_of period rise t s n (λ m l. h m (omega (arith, l)))

-- copy k is the first that starts at t or later
one_of : (period rise t : ℚ) (s : Span) (k : ℕ) → ((m : ℕ) → m < k → s.piece.x +ℚ int (pos m) *ℚ period <ℚ t) → t ≤ℚ s.piece.x +ℚ int (pos k) *ℚ period
    → filter (starts_at t) (copies_of period rise s (suc k)) ≡ cond (lt_q t (s.piece.x +ℚ int (pos k) *ℚ period)) [] (copy_of period rise s k ∷ [])
unfolding copies_of
one_of period rise t s k h l =
    let x = s.piece.x +ℚ int (pos k) *ℚ period in
    let copy = copy_of period rise s k in
    let rest = filter (starts_at t) (copies_of period rise s k) in
    let none = none_of period rise t s k h in
    elim (le_or_lt x t) [
      | inl a ↦
          ap (λ b. cond b (copy ∷ rest) rest) (starts_true t copy (antisym (a, l))) ∙ ap (λ ys. copy ∷ ys) none
          ∙ sym (ap (λ b. cond b [] (copy ∷ [])) (lt_q_not t x a))
      | inr a ↦
          ap (λ b. cond b (copy ∷ rest) rest) (not_after t copy a) ∙ none
          ∙ sym (ap (λ b. cond b [] (copy ∷ [])) (lt_q_out t x a))
    ]

later_place : (period x : ℚ) (k n : ℕ) → int (pos 0) <ℚ period → k < n → x +ℚ int (pos k) *ℚ period <ℚ x +ℚ int (pos n) *ℚ period
later_place period x k n some h =
    let l = mul_lt_mul_right period some (nat_lt k n h) in
    with3 x (int (pos k) *ℚ period) (int (pos n) *ℚ period) (λ c. omega (arith, c.le, c.lt, c.same))

first_off : (period rise t : ℚ) (s : Span) (n : ℕ) → t <ℚ s.piece.x +ℚ int (pos n) *ℚ period
    → filter (starts_at t) (copies_of period rise s (suc n)) ≡ filter (starts_at t) (copies_of period rise s n)
unfolding copies_of
first_off period rise t s n a =
    ap (λ b. cond b (copy_of period rise s n ∷ filter (starts_at t) (copies_of period rise s n)) (filter (starts_at t) (copies_of period rise s n)))
    (not_after t (copy_of period rise s n) a)

copies_at : (period rise t : ℚ) (s : Span) (k n : ℕ) → int (pos 0) <ℚ period → ((m : ℕ) → m < k → s.piece.x +ℚ int (pos m) *ℚ period <ℚ t)
    → t ≤ℚ s.piece.x +ℚ int (pos k) *ℚ period → k < n
    → filter (starts_at t) (copies_of period rise s n) ≡ cond (lt_q t (s.piece.x +ℚ int (pos k) *ℚ period)) [] (copy_of period rise s k ∷ [])
copies_at period rise t s k zero some h l i = absurd (omega (arith, i))
copies_at period rise t s k (suc n) some h l i = elim (cases_eq k n) [
  | inl e ↦ subst (λ m. filter (starts_at t) (copies_of period rise s (suc m)) ≡ cond (lt_q t (s.piece.x +ℚ int (pos k) *ℚ period)) [] (copy_of period rise s k ∷ [])) e (one_of period rise t s k h l)
  | inr d ↦
      let j : k < n = omega (arith, i, d) in
      first_off period rise t s n (le_lt_trans l (later_place period s.piece.x k n some j)) ∙ copies_at period rise t s k n some h l j
]

-- ---- a span
once_at : (t : ℚ) (s : Span) → filter (starts_at t) (once_below (t +ℚ int (pos 1)) s) ≡ itself_at t s
once_at t s = elim (le_or_lt (t +ℚ int (pos 1)) s.piece.x) [
  | inl a ↦
      let off : t <ℚ s.piece.x = with2 t s.piece.x (λ c. omega (arith, c.le, c.lt, c.same)) in
      ap (λ b. filter (starts_at t) (cond b (s ∷ []) [])) (lt_q_not s.piece.x (t +ℚ int (pos 1)) a)
      ∙ sym (ap (λ b. cond b (s ∷ []) []) (not_after t s off))
  | inr a ↦ ap (λ b. filter (starts_at t) (cond b (s ∷ []) [])) (lt_q_out s.piece.x (t +ℚ int (pos 1)) a)
]

pub next_from : (period t : ℚ) (s : Span) → int (pos 0) <ℚ period → t ≤ℚ next_copy period t s
next_from period t s some = elim (le_or_lt t (next_copy period t s)) [
  | inl a ↦ a
  | inr a ↦ let l = copies_out period t s.piece (copies_below period t s.piece) some a in absurd (omega (arith, l))
]

periodic_at : (period rise t : ℚ) (s : Span) → int (pos 0) <ℚ period
    → filter (starts_at t) (copies_of period rise s (copies_below period (t +ℚ int (pos 1)) s.piece)) ≡ copy_at period rise t s
periodic_at period rise t s some =
    let k = copies_below period t s.piece in
    let n = copies_below period (t +ℚ int (pos 1)) s.piece in
    let from = next_from period t s some in
    let before : (m : ℕ) → m < k → s.piece.x +ℚ int (pos m) *ℚ period <ℚ t = λ m l. copies_in period t s.piece m some l in
    elim (cases_lt k n) [
      | inl l ↦ copies_at period rise t s k n some before from l
      | inr l ↦
          let far : t <ℚ next_copy period t s = elim (le_or_lt (next_copy period t s) t) [
            | inl a ↦
                let near : next_copy period t s <ℚ t +ℚ int (pos 1) = with2 (next_copy period t s) t (λ c. omega (arith, c.le, c.lt, c.same)) in
                let m = copies_out period (t +ℚ int (pos 1)) s.piece k some near in absurd (omega (arith, m, l))
            | inr a ↦ a
          ] in
          none_of period rise t s n (λ m i. before m (omega (arith, i, l)))
          ∙ sym (ap (λ b. cond b [] (copy_of period rise s k ∷ [])) (lt_q_out t (next_copy period t s) far))
    ]

filter_cond : (p : Span → Bool) (b : Bool) (xs ys : List Span) → filter p (cond b xs ys) ≡ cond b (filter p xs) (filter p ys)
filter_cond p true xs ys = refl
filter_cond p false xs ys = refl

span_at_end : (tail : Tail) (t : ℚ) (s : Span) → HasPeriod tail → filter (starts_at t) (span_below tail (t +ℚ int (pos 1)) s) ≡ at_end tail t s
span_at_end (Periodic rank period rise) t s some =
    let n = copies_below period (t +ℚ int (pos 1)) s.piece in
    filter_cond (starts_at t) (lt_q s.piece.x rank) (once_below (t +ℚ int (pos 1)) s) (copies_of period rise s n)
    ∙ ap (λ ys. cond (lt_q s.piece.x rank) ys (filter (starts_at t) (copies_of period rise s n))) (once_at t s)
    ∙ ap (λ ys. cond (lt_q s.piece.x rank) (itself_at t s) ys) (periodic_at period rise t s some)
span_at_end (Affine rank) t s some = once_at t s
span_at_end (Infinite rank) t s some = once_at t s

-- ---- a curve
all_at_end : (tail : Tail) (t : ℚ) (ss : List Span) → HasPeriod tail → filter (starts_at t) (flat_map (span_below tail (t +ℚ int (pos 1))) ss) ≡ flat_map (at_end tail t) ss
all_at_end tail t [] some = refl
all_at_end tail t (s ∷ ss) some =
    filter-append (starts_at t) (span_below tail (t +ℚ int (pos 1)) s) (flat_map (span_below tail (t +ℚ int (pos 1))) ss)
    ∙ ap (λ ys. ys ++ filter (starts_at t) (flat_map (span_below tail (t +ℚ int (pos 1))) ss)) (span_at_end tail t s some)
    ∙ ap (λ ys. at_end tail t s ++ ys) (all_at_end tail t ss some)

pub curve_at_end : (c : SpecCurve) (t : ℚ) → HasPeriod c.tail → spans_at c t ≡ flat_map (at_end c.tail t) (spans c.tail c.pieces)
unfolding spans_below
curve_at_end c t some = all_at_end c.tail t (spans c.tail c.pieces) some

-- the numbers of the spans
summed : (tail : Tail) (t : ℚ) (ss : List Span)
    → all_end_numbers tail t ss
    ≡ make_numbers (map (λ (s : Span). s.piece.x) ss) (flat_map span_values (flat_map (at_end tail t) ss)) (flat_map span_slopes (flat_map (at_end tail t) ss))
unfolding all_end_numbers make_numbers
summed tail t [] = refl
summed tail t (s ∷ ss) =
    let ys = at_end tail t s in
    let rest = flat_map (at_end tail t) ss in
    let times = s.piece.x ∷ map (λ (u : Span). u.piece.x) ss in
    ap (joined (end_numbers tail t s)) (summed tail t ss)
    ∙ sym (ap (λ vs. make_numbers times vs (flat_map span_slopes ys ++ flat_map span_slopes rest)) (flat_map-append span_values ys rest))
    ∙ sym (ap (λ vs. make_numbers times (flat_map span_values (ys ++ rest)) vs) (flat_map-append span_slopes ys rest))

starts_of : (tail : Tail) (ps : List Piece) → map (λ (s : Span). s.piece.x) (spans tail ps) ≡ map (λ (p : Piece). p.x) ps
unfolding spans
starts_of tail [] = refl
starts_of tail (p ∷ ps) = ap (λ ys. p.x ∷ ys) (starts_of tail ps)

pub numbers_to_end : (end : ℚ) (c : SpecCurve) → HasPeriod c.tail → joined (curve_numbers end c) (all_end_numbers c.tail end (spans c.tail c.pieces)) ≡ numbers_to end c
unfolding make_numbers
numbers_to_end end c some =
    let ss = spans c.tail c.pieces in
    ap (joined (curve_numbers end c)) (
    summed c.tail end ss
    ∙ ap (λ ts. make_numbers ts (flat_map span_values (flat_map (at_end c.tail end) ss)) (flat_map span_slopes (flat_map (at_end c.tail end) ss))) (starts_of c.tail c.pieces)
    ∙ sym (ap (λ us. make_numbers (map (λ (p : Piece). p.x) c.pieces) (flat_map span_values us) (flat_map span_slopes us)) (curve_at_end c end some)))

-- ---- what the code gathers of a span
pub itself_numbers : (end : ℚ) (s : Span) → s.piece.x ≡ end → span_numbers s ≡ numbers_with s.piece.x (itself_at end s)
unfolding make_numbers
itself_numbers end s e =
    let x = s.piece.x ∷ [] in
    sym (ap (λ vs. make_numbers x vs (span_slopes s)) (append-nil (span_values s)))
    ∙ sym (ap (λ vs. make_numbers x (span_values s ++ []) vs) (append-nil (span_slopes s)))
    ∙ sym (ap (λ b. numbers_with s.piece.x (cond b (s ∷ []) [])) (starts_true end s e))

pub no_itself : (end : ℚ) (s : Span) → (s.piece.x ≡ end → ⊥) → time_alone s.piece.x ≡ numbers_with s.piece.x (itself_at end s)
no_itself end s n = sym (ap (λ b. numbers_with s.piece.x (cond b (s ∷ []) [])) (starts_false end s n))

pub copy_numbers : (n : Numbers) (period rise : ℚ) (s : Span) (k : ℕ)
    → joined (joined (joined n (time_alone s.piece.x)) (slopes_alone (line_slope s.piece.line))) (last_numbers (int (pos k) *ℚ rise) s)
    ≡ joined n (numbers_with s.piece.x (copy_of period rise s k ∷ []))
unfolding make_numbers
copy_numbers n period rise s k =
    let x = s.piece.x ∷ [] in
    let copy = copy_of period rise s k in
    let vs = seen_values (seen_risen (seen_of s) (int (pos k) *ℚ rise)) in
    joined_three n (time_alone s.piece.x) (slopes_alone (line_slope s.piece.line)) (last_numbers (int (pos k) *ℚ rise) s)
    ∙ ap (λ us. joined n (make_numbers x us (line_slope s.piece.line ++ []))) (sym (ap seen_values (seen_copy period rise s k)))
    ∙ ap (λ us. joined n (make_numbers x us (line_slope s.piece.line ++ []))) (sym (append-nil (span_values copy)))
    ∙ ap (λ us. joined n (make_numbers x (span_values copy ++ []) (us ++ []))) (sym (slope_later (int (pos k) *ℚ period) (int (pos k) *ℚ rise) s.piece.line))

pub copy_there : (period rise end : ℚ) (s : Span) → next_copy period end s ≤ℚ end
    → numbers_with s.piece.x (copy_of period rise s (copies_below period end s.piece) ∷ []) ≡ numbers_with s.piece.x (copy_at period rise end s)
copy_there period rise end s l =
    sym (ap (λ b. numbers_with s.piece.x (cond b [] (copy_of period rise s (copies_below period end s.piece) ∷ []))) (lt_q_not end (next_copy period end s) l))

pub no_copy : (period rise end : ℚ) (s : Span) → end <ℚ next_copy period end s → time_alone s.piece.x ≡ numbers_with s.piece.x (copy_at period rise end s)
no_copy period rise end s l =
    sym (ap (λ b. numbers_with s.piece.x (cond b [] (copy_of period rise s (copies_below period end s.piece) ∷ []))) (lt_q_out end (next_copy period end s) l))

-- ---- piece by piece
pub one_more : (tail : Tail) (end : ℚ) (m whole : Numbers) (ss rest : List Span) (s : Span) → ss ≡ s ∷ rest → joined m (all_end_numbers tail end ss) ≡ whole
    → joined (joined m (end_numbers tail end s)) (all_end_numbers tail end rest) ≡ whole
unfolding all_end_numbers
one_more tail end m whole ss rest s e h =
    joined_assoc m (end_numbers tail end s) (all_end_numbers tail end rest)
    ∙ ap (λ zs. joined m (all_end_numbers tail end zs)) (sym e) ∙ h

pub all_done : (tail : Tail) (end : ℚ) (m whole : Numbers) (ps : List Piece) (i : ℕ) → length ps ≤ i → joined m (all_end_numbers tail end (spans tail (drop i ps))) ≡ whole → m ≡ whole
unfolding all_end_numbers
all_done tail end m whole ps i l h =
    sym (ap (λ xs. joined m (all_end_numbers tail end xs)) (ap (spans tail) (drop_of_length-le ps l) ∙ spans_none tail) ∙ joined_nothing m) ∙ h
