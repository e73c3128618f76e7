-- The pieces of stretches read as the closure of the segment.
use Rattle.std.specs.Prelude.{◌≡◌, ℕ, zero, suc, ◌+◌, ◌≤◌, List, ◌∷◌}
use Rattle.std.proofs.Common.{arith, sym, ◌∙◌, subst, inl, inr}
use Rattle.rational.specs.Rational.{ℚ, ◌≤ℚ◌, ◌<ℚ◌}
use Rattle.rational.specs.Extended.{Ext}
use Rattle.rational.specs.declared.Extended.TheVariants.{Fin, Inf}
use Rattle.rational.proofs.Laws.{le_trans, lt_le_trans, le_refl, le_of_lt, le_or_lt, one_mul}
use Rattle.upp_curve.specs.declared.affine_segment.line.Line.{Line}
use Rattle.upp_curve.specs.declared.affine_segment.line.Piece.{Piece}
use Rattle.min_plus.specs.Functions.{zero_q}
use Rattle.upp_curve.specs.affine_segment.Reading.{read, nothing_at}
use Rattle.subadd_closure.specs.ElementClosures.{Turn, IsSegmentClosure}
use Rattle.subadd_closure.specs.ElementCurves.{stretch, line_times, stretches, all_stretches}
use Rattle.subadd_closure.proofs.PieceReads.{opening_here, opening_past, over_gap, before_gap, in_gap, late_start, early_start}
use Rattle.subadd_closure.proofs.TurnNumbers.{fewer, more, least_turn, no_turn}
use Rattle.upp_curve.proofs.affine_segment.PieceIn.{read_go, read_stop, nothing_read}
use Rattle.min_plus.specs.closure_laws.Star.{nat_times}

-- from n a on each turn is n or more
abbrev pub IsLate : ℚ → Ext → ℕ → Type 0
IsLate a b n = (t : ℚ) → nat_times n a ≤ℚ t → (u : Turn a b t) → n ≤ suc u.less_one

-- at n a itself there is no turn
pub none_at_start : (a : ℚ) (b : Ext) (l : Line) (n : ℕ) (t : ℚ) → zero_q ≤ℚ a → IsLate a b n → nat_times n a ≤ℚ t
    → t ≤ℚ nat_times n a → IsSegmentClosure a b l t Inf
none_at_start a b l n t low late h k =
    no_turn a b l t (λ u. let p = fewer a b t n low k u in let q = late t h u in omega arith)

-- the n-th stretch and m more: from n a on, up to `limit`, they read as the closure, where from the last of them on they
-- do
module _ (a b limit : ℚ) (l : Line) (rest : List Piece) (low : zero_q ≤ℚ a) (end : zero_q ≤ℚ b) where
  reads : (n m k : ℕ) → suc n + m ≡ k → IsLate a (Fin b) (suc n)
      → ((i : ℕ) → suc n ≤ i → suc i ≤ k → nat_times i b ≤ℚ nat_times (suc i) a)
      → ((t : ℚ) → nat_times k a ≤ℚ t → t <ℚ limit → IsLate a (Fin b) k
      → IsSegmentClosure a (Fin b) l t (read (stretch a l k ∷ rest) t))
      → (t : ℚ) → nat_times (suc n) a ≤ℚ t → t <ℚ limit
      → IsSegmentClosure a (Fin b) l t (read (stretch a l (suc n) ∷ stretches a b l (suc n) m rest) t)
  unfolding stretches
  reads n zero k e late apart last t h high =
      let same : k ≡ suc n = omega arith in
      subst (λ z. IsSegmentClosure a (Fin b) l t (read (stretch a l z ∷ rest) t)) same
      (last t (subst (λ z. nat_times z a ≤ℚ t) (sym same) h) high (subst (λ z. IsLate a (Fin b) z) (sym same) late))
  reads n (suc m) k e late apart last t h high =
      let meet : nat_times (suc n) b ≤ℚ nat_times (suc (suc n)) a = apart (suc n) (omega arith) (omega arith) in
      let C = IsSegmentClosure a (Fin b) l t in
      let p = stretch a l (suc n) in
      let q = stretch a l (suc (suc n)) in
      let qs = stretches a b l (suc (suc n)) m rest in
      elim (le_or_lt (nat_times (suc n) b) t) [
        | inl past ↦ elim (le_or_lt (nat_times (suc (suc n)) a) t) [
          | inl next ↦ subst C (sym (over_gap p (nat_times (suc n) b) q qs t next meet))
              (reads (suc n) m k (omega arith) (λ s g u. more a (Fin b) s (suc n) end (le_trans meet g) u)
              (λ i x y. apart i (omega arith) (omega arith)) last t next high)
          | inr early ↦ subst C (sym (in_gap p (nat_times (suc n) b) q qs t past early))
              (no_turn a (Fin b) l t (λ u. let x = fewer a (Fin b) t (suc (suc n)) low (le_of_lt early) u in
              let y = more a (Fin b) t (suc n) end past u in omega arith))
        ]
        | inr before ↦ elim (le_or_lt t (nat_times (suc n) a)) [
          | inl here ↦ subst C (sym (before_gap p (nat_times (suc n) b) q qs t before meet
              ∙ opening_here (nat_times (suc n) a) (line_times (suc n) l) t here))
              (none_at_start a (Fin b) l (suc n) t low late h here)
          | inr some ↦ subst C (sym (before_gap p (nat_times (suc n) b) q qs t before meet
              ∙ opening_past (nat_times (suc n) a) (line_times (suc n) l) t some))
              (least_turn a (Fin b) l t n some before (λ u.
              let x = fewer a (Fin b) t (suc (suc n)) low (le_of_lt (lt_le_trans before meet)) u in
              let y = late t h u in
              let same : suc n ≡ suc u.less_one = omega arith in
              subst (λ z. nat_times (suc n) l.icept ≤ℚ nat_times z l.icept) same (le_refl (nat_times (suc n) l.icept))))
        ]
      ]

-- all of them, from 0 on
pub first_late : (a : ℚ) (b : Ext) → IsLate a b 1
first_late a b t h u = omega arith

pub all_read : (a b limit : ℚ) (l : Line) (m : ℕ) (rest : List Piece) → zero_q ≤ℚ a → zero_q ≤ℚ b
    → ((i : ℕ) → 1 ≤ i → suc i ≤ suc m → nat_times i b ≤ℚ nat_times (suc i) a)
    → ((t : ℚ) → nat_times (suc m) a ≤ℚ t → t <ℚ limit → IsLate a (Fin b) (suc m) → IsSegmentClosure a (Fin b) l t (read (stretch a l (suc m) ∷ rest) t))
    → (t : ℚ) → zero_q ≤ℚ t → t <ℚ limit → IsSegmentClosure a (Fin b) l t (read (all_stretches a b l m rest) t)
all_read a b limit l m rest low end apart last t h high =
    let C = IsSegmentClosure a (Fin b) l t in
    let p = stretch a l 1 in
    let ps = stretches a b l 1 m rest in
    let one : nat_times 1 a ≡ a = one_mul a in
    let go : nat_times 1 a ≤ℚ t → C (read (p ∷ ps) t) =
    λ k. reads a b limit l rest low end 0 m (suc m) (omega arith) (first_late a (Fin b)) (λ i x y. apart i x y) last t k high in
    elim (le_or_lt a zero_q) [
      | inl none ↦ subst (λ z. C (read z t)) (sym (early_start a (p ∷ ps) none)) (go (subst (λ z. z ≤ℚ t) (sym one) (le_trans none h)))
      | inr some ↦ subst (λ z. C (read z t)) (sym (late_start a (p ∷ ps) some))
          (elim (le_or_lt (nat_times 1 a) t) [
            | inl past ↦ subst C (sym (read_go (nothing_at zero_q) p ps t past)) (go past)
            | inr early ↦ subst C (sym (read_stop (nothing_at zero_q) p ps t early ∙ nothing_read zero_q t))
                (no_turn a (Fin b) l t (λ u. let x = fewer a (Fin b) t 1 low (le_of_lt early) u in omega arith))
          ])
    ]
