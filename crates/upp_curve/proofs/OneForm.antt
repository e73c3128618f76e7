-- Two normal curves with equal values are one, whatever their tails.
use Rattle.std.specs.Prelude.{◌≡◌, ℕ, pos, List, [], ◌∷◌, Option, Some, None}
use Rattle.std.proofs.Common.{arith, sym, ap, ap₂, ◌∙◌, refl, subst, inl, inr}
use Rattle.rational.specs.Rational.{ℚ, ◌+ℚ◌, ◌*ℚ◌, ◌≤ℚ◌, ◌<ℚ◌, int}
use Rattle.rational.proofs.Linear.{with1, with2, with3}
use Rattle.rational.proofs.Laws.{antisym, le_trans, le_lt_trans, le_or_lt, le_of_lt, mul_comm, mul_assoc, mul_nonneg}
use Rattle.rational.specs.Extended.{Ext, ◌+ₑ◌}
use Rattle.rational.specs.declared.Extended.TheVariants.{Fin, Inf}
use Rattle.upp_curve.specs.declared.affine_segment.line.Line.{Line}
use Rattle.upp_curve.specs.declared.affine_segment.line.Piece.{Piece}
use Rattle.upp_curve.specs.declared.curve.Tail.{Tail}
use Rattle.upp_curve.specs.declared.curve.Tail.TheVariants.{Periodic, Affine, Infinite}
use Rattle.upp_curve.specs.Curve.{SpecCurve, value_at, cut, HasSameValues}
use Rattle.upp_curve.specs.affine_segment.Reading.{read}
use Rattle.upp_curve.specs.affine_segment.Values.{line_value}
use Rattle.upp_curve.specs.Normal.{IsNormal, NoMerge}
use Rattle.upp_curve.specs.affine_segment.Pieces.{Each, HasStart, StartsAtZero}
use Rattle.upp_curve.specs.Steady.{last_line, Repeats, slope_times}
use Rattle.upp_curve.proofs.Repeats.{repeats_times}
use Rattle.rational.proofs.Whole.{nat_nonneg}
use Rattle.upp_curve.proofs.Steady.{line_rule, read_past, cut_past}
use Rattle.min_plus.proofs.FiniteValues.{no_inf}
use Rattle.rational.proofs.MinMax.{max_q_ge_left, max_q_ge_right, le_q_not}
use Rattle.rational.specs.MinMax.{max_q}
use Rattle.min_plus.proofs.Rates.{enough}
use Rattle.rational.proofs.Over.{le_q_out}
use Rattle.upp_curve.proofs.Normal.{lists_read, upto_all, each_at, periodic, periodic_rule, periodic_unique, backward}
use Rattle.rational.proofs.ExtendedOrder.{add_cancel_ext, fin_same}

abbrev pub affine : List Piece → ℚ → SpecCurve
affine ps r = record { pieces = ps; tail = Affine r }

abbrev pub infinite : List Piece → ℚ → SpecCurve
infinite ps r = record { pieces = ps; tail = Infinite r }

pub affine_value : (ps : List Piece) (r t : ℚ) → value_at (affine ps r) t ≡ read ps t
unfolding value_at
affine_value ps r t = refl

-- no line goes on past the rank, so the pieces alone read as the curve
pub infinite_value : (ps : List Piece) (r t : ℚ) → Each (λ p. p.x ≤ℚ r) ps → last_line ps ≡ None → value_at (infinite ps r) t ≡ read ps t
unfolding value_at cut
infinite_value ps r t starts none = elim (le_or_lt t r) [
  | inl l ↦ rw (le_q_out t r l) refl
  | inr l ↦ rw (le_q_not t r l) (sym (read_past ps r t starts l ∙ ap (λ z. line_value z t) none))
]

pub infinite_past : (ps : List Piece) (r t : ℚ) → r <ℚ t → value_at (infinite ps r) t ≡ Inf
unfolding value_at
infinite_past ps r t l = cut_past (read ps) r t l

-- ---- a tail that is one line is not periodic
pub rise_is : (l : Line) (f : ℚ → Ext) (t p q : ℚ) → f t ≡ line_value (Some l) t → f (t +ℚ p) ≡ line_value (Some l) (t +ℚ p) → f (t +ℚ p) ≡ f t +ₑ Fin q → q ≡ l.slope *ℚ p
rise_is l f t p q a b e =
    let v = l.icept +ℚ l.slope *ℚ t in
    let k : Fin (v +ℚ q) ≡ Fin (v +ℚ l.slope *ℚ p) = ap (λ z. z +ₑ Fin q) (sym a) ∙ sym e ∙ b ∙ line_rule (Some l) t p in
    let m = fin_same k in
    with3 v q (l.slope *ℚ p) (λ c. omega (arith, c.le, c.lt, c.same))

slope_whole : (l : Option Line) (n : ℕ) (p : ℚ) (q : ℚ) → slope_times l p ≡ q → slope_times l (int (pos n) *ℚ p) ≡ int (pos n) *ℚ q
slope_whole None n p q e = ap (λ z. z) (none n q e)
  where
    none : (n : ℕ) (q : ℚ) → int (pos 0) ≡ q → int (pos 0) ≡ int (pos n) *ℚ q
    none n q e = subst (λ z. int (pos 0) ≡ int (pos n) *ℚ z) e (sym (mul_comm (int (pos n)) (int (pos 0)) ∙ with1 (int (pos n)) (λ c. omega (arith, c.le, c.lt, c.same))))
slope_whole (Some l) n p q e =
    sym (mul_assoc l.slope (int (pos n)) p) ∙ ap (λ z. z *ℚ p) (mul_comm l.slope (int (pos n))) ∙ mul_assoc (int (pos n)) l.slope p ∙ ap (λ z. int (pos n) *ℚ z) e

-- from s on f is the line, where it is so past r
line_back : (l : Option Line) (f : ℚ → Ext) (r s p q : ℚ) → int (pos 0) <ℚ p → Repeats f s p q → ((t : ℚ) → r <ℚ t → s ≤ℚ t → f t ≡ line_value l t)
    → ((n : ℕ) (t : ℚ) → line_value l (t +ℚ int (pos n) *ℚ p) ≡ line_value l t +ₑ Fin (int (pos n) *ℚ q))
    → (t : ℚ) → s ≤ℚ t → f t ≡ line_value l t
line_back l f r s p q some P past rule t h = let (n, far) = enough t (r +ℚ int (pos 1)) p some in by_n n far
  where
    by_n : (n : ℕ) → r +ℚ int (pos 1) ≤ℚ t +ℚ int (pos n) *ℚ p → f t ≡ line_value l t
    by_n n far =
        let u = t +ℚ int (pos n) *ℚ p in
        let T = repeats_times f s p q n (le_of_lt some) P in
        let more = mul_nonneg (nat_nonneg n) (le_of_lt some) in
        let late : s ≤ℚ u = with3 s t (int (pos n) *ℚ p) (λ c. omega (arith, c.le, c.lt, c.same)) in
        let beyond : r <ℚ u = with3 r t (int (pos n) *ℚ p) (λ c. omega (arith, c.le, c.lt, c.same)) in
        add_cancel_ext (f t) (line_value l t) (int (pos n) *ℚ q) (sym (T.rule t h) ∙ past u beyond late ∙ rule n t)

all_line : (l : Option Line) (f : ℚ → Ext) (r s p q : ℚ) → int (pos 0) <ℚ p → Repeats f s p q → ((t : ℚ) → r <ℚ t → s ≤ℚ t → f t ≡ line_value l t)
    → (t : ℚ) → s ≤ℚ t → f t ≡ line_value l t
all_line None f r s p q some P past = line_back None f r s p q some P past (λ n t. refl)
all_line (Some l) f r s p q some P past =
    let t0 = max_q (r +ℚ int (pos 1)) s in
    let a = max_q_ge_left (r +ℚ int (pos 1)) s in
    let b = max_q_ge_right (r +ℚ int (pos 1)) s in
    let c0 : r <ℚ t0 = with2 r t0 (λ c. omega (arith, c.le, c.lt, c.same)) in
    let c1 : r <ℚ t0 +ℚ p = with3 r t0 p (λ c. omega (arith, c.le, c.lt, c.same)) in
    let c2 : s ≤ℚ t0 +ℚ p = with3 s t0 p (λ c. omega (arith, c.le, c.lt, c.same)) in
    let e = rise_is l f t0 p q (past t0 c0 b) (past (t0 +ℚ p) c1 c2) (P.rule t0 b) in
    line_back (Some l) f r s p q some P past (λ n t. line_rule (Some l) t (int (pos n) *ℚ p) ∙ ap (λ z. line_value (Some l) t +ₑ Fin z) (slope_whole (Some l) n p q (sym e)))

unlike_periodic : (l : Option Line) (f : ℚ → Ext) (r s p q : ℚ) → int (pos 0) <ℚ p → Repeats f s p q → ((t : ℚ) → r <ℚ t → s ≤ℚ t → f t ≡ line_value l t)
    → ((m : Option Line) → ¬ ((t : ℚ) → s ≤ℚ t → f t ≡ line_value m t)) → ⊥
unlike_periodic l f r s p q some P past none = none l (all_line l f r s p q some P past)

affine_not_periodic : (ps qs : List Piece) (r s p q : ℚ) → IsNormal (affine ps r) → IsNormal (periodic qs s p q) → HasSameValues (affine ps r) (periodic qs s p q) → ⊥
affine_not_periodic ps qs r s p q A B same =
    unlike_periodic (last_line ps) (value_at (periodic qs s p q)) r s p q B.raw.tail.some (periodic_rule qs s p q B.raw.tail.some)
    (λ t l h. sym (same t (le_trans B.raw.tail.nonneg h)) ∙ affine_value ps r t ∙ read_past ps r t A.raw.tail.starts l) B.tail.not_one_line

infinite_not_periodic : (ps qs : List Piece) (r s p q : ℚ) → IsNormal (infinite ps r) → IsNormal (periodic qs s p q) → HasSameValues (infinite ps r) (periodic qs s p q) → ⊥
infinite_not_periodic ps qs r s p q A B same =
    unlike_periodic None (value_at (periodic qs s p q)) r s p q B.raw.tail.some (periodic_rule qs s p q B.raw.tail.some)
    (λ t l h. sym (same t (le_trans B.raw.tail.nonneg h)) ∙ infinite_past ps r t l) B.tail.not_one_line

pub none_of : (l : Option Line) (t : ℚ) → line_value l t ≡ Inf → l ≡ None
none_of None t e = refl
none_of (Some l) t e = absurd (no_inf e)

affine_not_infinite : (ps qs : List Piece) (r s : ℚ) → IsNormal (affine ps r) → IsNormal (infinite qs s) → HasSameValues (affine ps r) (infinite qs s) → ⊥
affine_not_infinite ps qs r s A B same =
    let t = max_q r s +ℚ int (pos 1) in
    let a = max_q_ge_left r s in
    let b = max_q_ge_right r s in
    let m = max_q r s in
    let h = A.raw.tail.nonneg in
    let l : r <ℚ t = with2 r m (λ c. omega (arith, c.le, c.lt, c.same)) in
    let k : s <ℚ t = with2 s m (λ c. omega (arith, c.le, c.lt, c.same)) in
    let start : int (pos 0) ≤ℚ t = with2 r m (λ c. omega (arith, c.le, c.lt, c.same)) in
    A.tail (none_of (last_line ps) t (sym (read_past ps r t A.raw.tail.starts l) ∙ sym (affine_value ps r t) ∙ same t start ∙ infinite_past qs s t k))

-- ---- both without a period: equal pieces, and the rank is the last start
each_before : (r X : ℚ) (ps : List Piece) → r <ℚ X → Each (λ p. p.x ≤ℚ r) ps → Each (λ p. p.x <ℚ X) ps
each_before r X [] h k = tt
each_before r X (p ∷ ps) h k = (le_lt_trans k.0 h, each_before r X ps h k.1)

same_pieces_all : (ps qs : List Piece) (r s : ℚ) (f : ℚ → Ext) → StartsAtZero ps → NoMerge ps → StartsAtZero qs → NoMerge qs → Each (λ p. p.x ≤ℚ r) ps → Each (λ p. p.x ≤ℚ s) qs
    → ((t : ℚ) → int (pos 0) ≤ℚ t → read ps t ≡ f t) → ((t : ℚ) → int (pos 0) ≤ℚ t → read qs t ≡ f t) → ps ≡ qs
same_pieces_all ps qs r s f a b c d e g F G =
    let X = max_q r s +ℚ int (pos 1) in
    let u = max_q_ge_left r s in
    let v = max_q_ge_right r s in
    let m = max_q r s in
    let l : r <ℚ X = with2 r m (λ c. omega (arith, c.le, c.lt, c.same)) in
    let k : s <ℚ X = with2 s m (λ c. omega (arith, c.le, c.lt, c.same)) in
    sym (upto_all X ps (each_before r X ps l e)) ∙ lists_read f X ps qs a b c d (λ t h _. F t h) (λ t h _. G t h) ∙ upto_all X qs (each_before s X qs k g)

same_ranks : (ps qs : List Piece) (r s : ℚ) → ps ≡ qs → HasStart r ps → HasStart s qs → Each (λ p. p.x ≤ℚ r) ps → Each (λ p. p.x ≤ℚ s) qs → r ≡ s
same_ranks ps qs r s e a b h k =
    antisym (each_at (λ x. x ≤ℚ s) r qs k (subst (HasStart r) e a), each_at (λ x. x ≤ℚ r) s ps h (subst (HasStart s) (sym e) b))

affine_unique : (ps qs : List Piece) (r s : ℚ) → IsNormal (affine ps r) → IsNormal (affine qs s) → HasSameValues (affine ps r) (affine qs s) → affine ps r ≡ affine qs s
affine_unique ps qs r s A B same =
    let e = same_pieces_all ps qs r s (value_at (affine ps r)) A.raw.starts A.no_merge B.raw.starts B.no_merge A.raw.tail.starts B.raw.tail.starts
    (λ t h. sym (affine_value ps r t)) (λ t h. sym (affine_value qs s t) ∙ sym (same t h)) in
    ap₂ affine e (same_ranks ps qs r s e A.rank_is_start B.rank_is_start A.raw.tail.starts B.raw.tail.starts)

infinite_unique : (ps qs : List Piece) (r s : ℚ) → IsNormal (infinite ps r) → IsNormal (infinite qs s) → HasSameValues (infinite ps r) (infinite qs s) → infinite ps r ≡ infinite qs s
infinite_unique ps qs r s A B same =
    let e = same_pieces_all ps qs r s (value_at (infinite ps r)) A.raw.starts A.no_merge B.raw.starts B.no_merge A.raw.tail.starts B.raw.tail.starts
    (λ t h. sym (infinite_value ps r t A.raw.tail.starts A.tail)) (λ t h. sym (infinite_value qs s t B.raw.tail.starts B.tail) ∙ sym (same t h)) in
    ap₂ infinite e (same_ranks ps qs r s e A.rank_is_start B.rank_is_start A.raw.tail.starts B.raw.tail.starts)

by_tails : (ps : List Piece) (k : Tail) (qs : List Piece) (m : Tail) → IsNormal record { pieces = ps; tail = k } → IsNormal record { pieces = qs; tail = m }
    → HasSameValues record { pieces = ps; tail = k } record { pieces = qs; tail = m } → (let A : SpecCurve = record { pieces = ps; tail = k } in A) ≡ record { pieces = qs; tail = m }
by_tails ps (Periodic r d c) qs (Periodic s p q) A B same = periodic_unique ps qs r d c s p q A B same
by_tails ps (Affine r) qs (Affine s) A B same = affine_unique ps qs r s A B same
by_tails ps (Infinite r) qs (Infinite s) A B same = infinite_unique ps qs r s A B same
by_tails ps (Affine r) qs (Infinite s) A B same = absurd (affine_not_infinite ps qs r s A B same)
by_tails ps (Infinite r) qs (Affine s) A B same = absurd (affine_not_infinite qs ps s r B A (backward _ _ same))
by_tails ps (Affine r) qs (Periodic s p q) A B same = absurd (affine_not_periodic ps qs r s p q A B same)
by_tails ps (Periodic s p q) qs (Affine r) A B same = absurd (affine_not_periodic qs ps r s p q B A (backward _ _ same))
by_tails ps (Infinite r) qs (Periodic s p q) A B same = absurd (infinite_not_periodic ps qs r s p q A B same)
by_tails ps (Periodic s p q) qs (Infinite r) A B same = absurd (infinite_not_periodic qs ps r s p q B A (backward _ _ same))

-- the normal form of a curve is one
pub normal_unique : (c d : SpecCurve) → IsNormal c → IsNormal d → HasSameValues c d → c ≡ d
normal_unique c d A B same = by_tails c.pieces c.tail d.pieces d.tail A B same
