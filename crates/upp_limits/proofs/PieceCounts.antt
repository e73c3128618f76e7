-- The number of unrolled pieces is the length of the unrolled list, and the sum over the pieces of the numbers of their copies.
use Rattle.std.specs.Prelude.{◌≡◌, ℕ, zero, suc, ◌+◌, ◌<◌, pos, cond, List, [], ◌∷◌, ◌++◌, length, sum_by}
use Rattle.std.proofs.Common.{arith, sym, ap, ap₂, ◌∙◌, refl, subst, inl, inr}
use Rattle.std.proofs.lemmas.Bool.{cases_lt}
use Rattle.std.proofs.lemmas.List.Sums.{sum_by-cons}
use Rattle.rational.specs.Rational.{ℚ, ◌+ℚ◌, ◌-ℚ◌, ◌*ℚ◌, ◌≤ℚ◌, ◌<ℚ◌, int, lt_q}
use Rattle.rational.specs.Whole.{periods}
use Rattle.rational.proofs.Linear.{with1, with2, with3, with4, with5}
use Rattle.rational.proofs.Laws.{le_or_lt, le_of_lt, le_trans, le_lt_trans, lt_irrefl}
use Rattle.rational.proofs.Over.{lt_q_out}
use Rattle.rational.proofs.MinMax.{lt_q_not}
use Rattle.rational.proofs.Whole.{one_more_times, periods_high}
use Rattle.upp_curve.specs.declared.affine_segment.line.Piece.{Piece}
use Rattle.upp_curve.specs.declared.curve.Tail.{Tail}
use Rattle.upp_curve.specs.declared.curve.Tail.TheVariants.{Periodic, Affine, Infinite}
use Rattle.upp_curve.specs.Curve.{SpecCurve}
use Rattle.upp_curve.specs.Unrolled.{later, each_later, copies, upto, from, unroll, copies_below, count}
use Rattle.upp_curve.specs.affine_segment.Pieces.{Each, RisesFrom, StartsAtZero}
use Rattle.upp_curve.specs.Normal.{IsRaw, TailFits}
use Rattle.upp_limits.specs.Spans.{once, number_below}
use Rattle.upp_limits.proofs.Copies.{copies_in, copies_out}
use Rattle.upp_curve.proofs.Unique.{upto_none, upto_some, upto_end}

-- ---- which of two tests holds
pub below_is : {A : Type 0} (p : Piece) (x : ℚ) (a b : A) → p.x <ℚ x → cond (lt_q p.x x) a b ≡ a
below_is p x a b h = ap (λ t. cond t a b) (lt_q_out p.x x h)

pub not_below_is : {A : Type 0} (p : Piece) (x : ℚ) (a b : A) → x ≤ℚ p.x → cond (lt_q p.x x) a b ≡ b
not_below_is p x a b h = ap (λ t. cond t a b) (lt_q_not p.x x h)

pub from_some : (x : ℚ) (p : Piece) (ps : List Piece) → p.x <ℚ x → from x (p ∷ ps) ≡ from x ps
unfolding from
from_some x p ps h = below_is p x (from x ps) (p ∷ ps) h

pub from_none : (x : ℚ) (p : Piece) (ps : List Piece) → x ≤ℚ p.x → from x (p ∷ ps) ≡ p ∷ ps
unfolding from
from_none x p ps h = not_below_is p x (from x ps) (p ∷ ps) h

pub from_end : (x : ℚ) → from x [] ≡ []
unfolding from
from_end x = refl

-- ---- numbers of copies
same_number : (a b : ℕ) → ((n : ℕ) → n < a → n < b) → ((n : ℕ) → n < b → n < a) → a ≡ b
same_number a b f g = elim (cases_lt a b) [
  | inl h ↦ let k = g a h in absurd (omega arith)
  | inr h ↦ elim (cases_lt b a) [
    | inl l ↦ let k = f b l in absurd (omega arith)
    | inr l ↦ omega arith
  ]
]

pub no_copies : (d x : ℚ) (p : Piece) → int (pos 0) <ℚ d → x ≤ℚ p.x → copies_below d x p ≡ 0
no_copies d x p some h = elim (cases_lt 0 (copies_below d x p)) [
  | inr l ↦ omega arith
  | inl l ↦ absurd (lt_irrefl x (le_lt_trans h (subst (λ y. y <ℚ x) (first p.x d) (copies_in d x p 0 some l))))
]
  where
    first : (y d : ℚ) → y +ℚ int (pos 0) *ℚ d ≡ y
    first y d =
        let z : int (pos 0) *ℚ d ≡ int (pos 0) = with1 d (λ c. omega (arith, c.le, c.lt, c.same)) in
        with2 y (int (pos 0) *ℚ d) (λ c. omega (arith, c.le, c.lt, c.same))

-- one more for a time one period later
pub one_more_copy : (d x : ℚ) (p : Piece) → int (pos 0) <ℚ d → p.x <ℚ x → copies_below d x p ≡ suc (copies_below d (x -ℚ d) p)
one_more_copy d x p some h = same_number (copies_below d x p) (suc (copies_below d (x -ℚ d) p)) (λ n l. there n l) (λ n l. back n l)
  where
    there : (n : ℕ) → n < copies_below d x p → n < suc (copies_below d (x -ℚ d) p)
    there zero l = omega arith
    there (suc n) l =
        let y = p.x in
        let o = one_more_times n d in
        let k : y +ℚ int (pos (suc n)) *ℚ d <ℚ x = copies_in d x p (suc n) some l in
        let m = copies_out d (x -ℚ d) p n some (with5 y x d (int (pos n) *ℚ d) (int (pos (suc n)) *ℚ d) (λ c. omega (arith, c.le, c.lt, c.same))) in
        omega arith

    back : (n : ℕ) → n < suc (copies_below d (x -ℚ d) p) → n < copies_below d x p
    back zero l =
        let y = p.x in
        let z : int (pos 0) *ℚ d ≡ int (pos 0) = with1 d (λ c. omega (arith, c.le, c.lt, c.same)) in
        copies_out d x p 0 some (with3 y x (int (pos 0) *ℚ d) (λ c. omega (arith, c.le, c.lt, c.same)))
    back (suc n) l =
        let y = p.x in
        let o = one_more_times n d in
        let m : n < copies_below d (x -ℚ d) p = omega arith in
        let k : y +ℚ int (pos n) *ℚ d <ℚ x -ℚ d = copies_in d (x -ℚ d) p n some m in
        copies_out d x p (suc n) some (with5 y x d (int (pos n) *ℚ d) (int (pos (suc n)) *ℚ d) (λ c. omega (arith, c.le, c.lt, c.same)))

once_and_copies : (d x : ℚ) (p : Piece) → int (pos 0) <ℚ d → once x p + copies_below d (x -ℚ d) p ≡ copies_below d x p
once_and_copies d x p some = elim (le_or_lt x p.x) [
  | inl h ↦
      let a = no_copies d x p some h in
      let y = p.x in
      let b = no_copies d (x -ℚ d) p some (with3 y x d (λ c. omega (arith, c.le, c.lt, c.same))) in
      let e : once x p ≡ 0 = not_below_is p x 1 0 h in
      omega arith
  | inr h ↦
      let a = one_more_copy d x p some h in
      let e : once x p ≡ 1 = below_is p x 1 0 h in
      omega arith
]

-- ---- lists whose starts rise
none_once : (y x : ℚ) (ps : List Piece) → x ≤ℚ y → RisesFrom y ps → sum_by (once x) ps ≡ 0
none_once y x [] h r = refl
none_once y x (p ∷ ps) h r =
    let l = le_trans h (le_of_lt r.0) in
    let e : once x p ≡ 0 = not_below_is p x 1 0 l in
    let s = none_once p.x x ps l r.1 in
    let m = sum_by-cons (once x) p ps in
    omega arith

-- the pieces before x are counted one by one
pub upto_counts : (y x : ℚ) (ps : List Piece) → RisesFrom y ps → length (upto x ps) ≡ sum_by (once x) ps
upto_counts y x [] r = ap length (upto_end x)
upto_counts y x (p ∷ ps) r = elim (le_or_lt x p.x) [
  | inl h ↦
      let e : once x p ≡ 0 = not_below_is p x 1 0 h in
      let s = none_once p.x x ps h r.1 in
      let n = ap length (upto_none x p ps h) in
      let m = sum_by-cons (once x) p ps in
      omega arith
  | inr h ↦
      let e : once x p ≡ 1 = below_is p x 1 0 h in
      let s = upto_counts p.x x ps r.1 in
      let n = ap length (upto_some x p ps h) in
      let m = sum_by-cons (once x) p ps in
      omega arith
]

-- where a first list ends too early nothing of a second one is before x either
upto_append : (x : ℚ) (ps qs : List Piece) → Each (λ p. x ≤ℚ p.x → upto x qs ≡ []) ps → length (upto x (ps ++ qs)) ≡ length (upto x ps) + length (upto x qs)
upto_append x [] qs h = let e = ap length (upto_end x) in omega arith
upto_append x (p ∷ ps) qs h = elim (le_or_lt x p.x) [
  | inl k ↦
      let a = ap length (upto_none x p (ps ++ qs) k) in
      let b = ap length (upto_none x p ps k) in
      let c = ap length (h.0 k) in
      omega arith
  | inr k ↦
      let a = ap length (upto_some x p (ps ++ qs) k) in
      let b = ap length (upto_some x p ps k) in
      let s = upto_append x ps qs h.1 in
      omega arith
]

each_map : (P Q : Piece → Type 0) (ps : List Piece) → ((p : Piece) → P p → Q p) → Each P ps → Each Q ps
each_map P Q [] f h = tt
each_map P Q (p ∷ ps) f h = (f p h.0, each_map P Q ps f h.1)

-- moved by d, the pieces before x are those before x - d
upto_later : (x d c : ℚ) (ps : List Piece) → length (upto x (each_later d c ps)) ≡ length (upto (x -ℚ d) ps)
unfolding each_later
upto_later x d c [] = ap length (upto_end x) ∙ sym (ap length (upto_end (x -ℚ d)))
upto_later x d c (p ∷ ps) =
    let y = p.x in
    elim (le_or_lt x (y +ℚ d)) [
      | inl h ↦
          let k : x -ℚ d ≤ℚ y = with3 x y d (λ c. omega (arith, c.le, c.lt, c.same)) in
          ap length (upto_none x (later d c p) (each_later d c ps) h) ∙ sym (ap length (upto_none (x -ℚ d) p ps k))
      | inr h ↦
          let k : y <ℚ x -ℚ d = with3 x y d (λ c. omega (arith, c.le, c.lt, c.same)) in
          ap length (upto_some x (later d c p) (each_later d c ps) h) ∙ ap suc (upto_later x d c ps) ∙ sym (ap length (upto_some (x -ℚ d) p ps k))
    ]

sum_both : (f g h : Piece → ℕ) (ps : List Piece) → ((p : Piece) → f p + g p ≡ h p) → sum_by f ps + sum_by g ps ≡ sum_by h ps
sum_both f g h [] e = refl
sum_both f g h (p ∷ ps) e =
    let a = e p in
    let s = sum_both f g h ps e in
    omega (arith, sum_by-cons f p ps, sum_by-cons g p ps, sum_by-cons h p ps)

sum_none : (d x : ℚ) (ps : List Piece) → int (pos 0) <ℚ d → Each (λ p. x ≤ℚ p.x) ps → sum_by (copies_below d x) ps ≡ 0
sum_none d x [] some h = refl
sum_none d x (p ∷ ps) some h =
    let a = no_copies d x p some h.0 in
    let s = sum_none d x ps some h.1 in
    omega (arith, sum_by-cons (copies_below d x) p ps)

-- ---- copies
-- some pieces of one period [rank, rank + d), in the order of their starts
record IsPeriod (rank d : ℚ) (ps : List Piece) : Type 0 where
  rises : (y : ℚ) × RisesFrom y ps
  late : Each (λ p. rank ≤ℚ p.x) ps
  early : Each (λ p. p.x <ℚ rank +ℚ d) ps

copies_of_none : (n : ℕ) (d c : ℚ) → copies n d c [] ≡ []
unfolding copies each_later
copies_of_none zero d c = refl
copies_of_none (suc n) d c = ap (each_later d c) (copies_of_none n d c)

copies_start : (n : ℕ) (rank x d c : ℚ) (ps : List Piece) → Each (λ p. rank ≤ℚ p.x) ps → x ≤ℚ rank → upto x (copies n d c ps) ≡ []
unfolding copies
copies_start zero rank x d c ps h k = upto_end x
copies_start (suc n) rank x d c [] h k = ap (upto x) (copies_of_none (suc n) d c) ∙ upto_end x
copies_start (suc n) rank x d c (p ∷ ps) h k = upto_none x p (ps ++ each_later d c (copies n d c (p ∷ ps))) (le_trans k h.0)

-- the same, moved by d
later_start : (x d c : ℚ) (qs : List Piece) → upto (x -ℚ d) qs ≡ [] → upto x (each_later d c qs) ≡ []
later_start x d c qs e = none (upto x (each_later d c qs)) (upto_later x d c qs ∙ ap length e)
  where
    none : (ps : List Piece) → length ps ≡ 0 → ps ≡ []
    none [] h = refl
    none (p ∷ ps) h = absurd (omega arith)

next_start : (n : ℕ) (rank x d c : ℚ) (qs : List Piece) (ps : List Piece) → Each (λ p. rank ≤ℚ p.x) qs → Each (λ p. p.x <ℚ rank +ℚ d) ps
    → Each (λ p. x ≤ℚ p.x → upto x (each_later d c (copies n d c qs)) ≡ []) ps
next_start n rank x d c qs ps late early =
    each_map (λ p. p.x <ℚ rank +ℚ d) _ ps
    (λ p h k.
    let y = p.x in
    let l : x -ℚ d ≤ℚ rank = with4 x d rank y (λ c. omega (arith, c.le, c.lt, c.same)) in
    later_start x d c (copies n d c qs) (copies_start n rank (x -ℚ d) d c qs late l))
    early

pub copies_next : (n : ℕ) (d c : ℚ) (ps : List Piece) → copies (suc n) d c ps ≡ ps ++ each_later d c (copies n d c ps)
unfolding copies
copies_next n d c ps = refl

-- enough copies of the pieces of one period: before x there are as many of each piece as its own count says
copies_count : (n : ℕ) (rank x d c : ℚ) (ps : List Piece) → int (pos 0) <ℚ d → IsPeriod rank d ps → x ≤ℚ rank +ℚ int (pos n) *ℚ d
    → length (upto x (copies n d c ps)) ≡ sum_by (copies_below d x) ps
copies_count zero rank x d c ps some h k =
    let z : int (pos 0) *ℚ d ≡ int (pos 0) = with1 d (λ c. omega (arith, c.le, c.lt, c.same)) in
    let l : x ≤ℚ rank = with3 x rank (int (pos 0) *ℚ d) (λ c. omega (arith, c.le, c.lt, c.same)) in
    ap length (copies_start zero rank x d c ps h.late l) ∙ sym (sum_none d x ps some (each_map (λ p. rank ≤ℚ p.x) _ ps (λ p m. le_trans l m) h.late))
copies_count (suc n) rank x d c ps some h k =
    let o = one_more_times n d in
    let l : x -ℚ d ≤ℚ rank +ℚ int (pos n) *ℚ d = with5 x d rank (int (pos n) *ℚ d) (int (pos (suc n)) *ℚ d) (λ c. omega (arith, c.le, c.lt, c.same)) in
    let q = each_later d c (copies n d c ps) in
    ap (λ xs. length (upto x xs)) (copies_next n d c ps)
    ∙ upto_append x ps q (next_start n rank x d c ps ps h.late h.early)
    ∙ ap₂ (λ (a b : ℕ). a + b) (upto_counts h.rises.0 x ps h.rises.1) (upto_later x d c (copies n d c ps) ∙ copies_count n rank (x -ℚ d) d c ps some h l)
    ∙ sum_both (once x) (copies_below d (x -ℚ d)) (copies_below d x) ps (λ p. once_and_copies d x p some)

-- ---- the pieces before the rank, and those from it on
rises_from : (y rank : ℚ) (ps : List Piece) → RisesFrom y ps → (z : ℚ) × RisesFrom z (from rank ps)
rises_from y rank [] h = (y, subst (RisesFrom y) (sym (from_end rank)) tt)
rises_from y rank (p ∷ ps) h = elim (le_or_lt rank p.x) [
  | inl l ↦ (y, subst (RisesFrom y) (sym (from_none rank p ps l)) h)
  | inr l ↦ let r = rises_from p.x rank ps h.1 in (r.0, subst (RisesFrom r.0) (sym (from_some rank p ps l)) r.1)
]

pub each_from : (P : Piece → Type 0) (rank : ℚ) (ps : List Piece) → Each P ps → Each P (from rank ps)
each_from P rank [] h = subst (Each P) (sym (from_end rank)) tt
each_from P rank (p ∷ ps) h = elim (le_or_lt rank p.x) [
  | inl l ↦ subst (Each P) (sym (from_none rank p ps l)) h
  | inr l ↦ subst (Each P) (sym (from_some rank p ps l)) (each_from P rank ps h.1)
]

rising_late : (y rank : ℚ) (ps : List Piece) → rank ≤ℚ y → RisesFrom y ps → Each (λ p. rank ≤ℚ p.x) ps
rising_late y rank [] h r = tt
rising_late y rank (p ∷ ps) h r = let l = le_trans h (le_of_lt r.0) in (l, rising_late p.x rank ps l r.1)

from_late : (y rank : ℚ) (ps : List Piece) → RisesFrom y ps → Each (λ p. rank ≤ℚ p.x) (from rank ps)
from_late y rank [] h = subst (Each (λ p. rank ≤ℚ p.x)) (sym (from_end rank)) tt
from_late y rank (p ∷ ps) h = elim (le_or_lt rank p.x) [
  | inl l ↦ subst (Each (λ p. rank ≤ℚ p.x)) (sym (from_none rank p ps l)) (l, rising_late p.x rank ps l h.1)
  | inr l ↦ subst (Each (λ p. rank ≤ℚ p.x)) (sym (from_some rank p ps l)) (from_late p.x rank ps h.1)
]

pub upto_early : (rank : ℚ) (ps : List Piece) → Each (λ p. p.x <ℚ rank) (upto rank ps)
upto_early rank [] = subst (Each (λ p. p.x <ℚ rank)) (sym (upto_end rank)) tt
upto_early rank (p ∷ ps) = elim (le_or_lt rank p.x) [
  | inl l ↦ subst (Each (λ p. p.x <ℚ rank)) (sym (upto_none rank p ps l)) tt
  | inr l ↦ subst (Each (λ p. p.x <ℚ rank)) (sym (upto_some rank p ps l)) (l, upto_early rank ps)
]

-- ---- the count is the number of the unrolled pieces
rising : (ps : List Piece) → StartsAtZero ps → (y : ℚ) × RisesFrom y ps
rising [] h = absurd h
rising (p ∷ ps) h =
    let x = p.x in
    (x -ℚ int (pos 1), (with1 x (λ c. omega (arith, c.le, c.lt, c.same)), h.1))

pub count_is_length : (c : SpecCurve) (x : ℚ) → IsRaw c → count c x ≡ length (unroll c x)
unfolding count unroll
count_is_length c x raw = by_tail c.pieces c.tail raw.starts raw.tail
  where
    by_tail : (ps : List Piece) (tail : Tail) → StartsAtZero ps → TailFits ps tail
        → count record { pieces = ps; tail = tail } x ≡ length (unroll record { pieces = ps; tail = tail } x)
    by_tail ps (Affine rank) s h = refl
    by_tail ps (Infinite rank) s h = refl
    by_tail ps (Periodic rank d c) s h =
        let r = rising ps s in
        let ls = from rank ps in
        let n = periods rank d x in
        let high = periods_high rank d x h.some in
        let o = one_more_times n d in
        let enough : x ≤ℚ rank +ℚ int (pos (suc n)) *ℚ d = with5 x rank d (int (pos n) *ℚ d) (int (pos (suc n)) *ℚ d) (λ c. omega (arith, c.le, c.lt, c.same)) in
        let period : IsPeriod rank d ls = record {
          rises = rises_from r.0 rank ps r.1;
          late = from_late r.0 rank ps r.1;
          early = each_from (λ p. p.x <ℚ rank +ℚ d) rank ps h.starts;
        } in
        sym (upto_append x (upto rank ps) (copies (suc n) d c ls)
        (each_map (λ p. p.x <ℚ rank) _ (upto rank ps) (λ p l k. copies_start (suc n) rank x d c ls period.late (le_of_lt (le_lt_trans k l))) (upto_early rank ps))
        ∙ ap (λ m. length (upto x (upto rank ps)) + m) (copies_count (suc n) rank x d c ls h.some period enough))

-- ---- the count, piece by piece
none_early : (y x rank : ℚ) (ps : List Piece) → RisesFrom y ps → x ≤ℚ y → upto x (upto rank ps) ≡ []
none_early y x rank [] r h = ap (upto x) (upto_end rank) ∙ upto_end x
none_early y x rank (p ∷ ps) r h = elim (le_or_lt rank p.x) [
  | inl l ↦ ap (upto x) (upto_none rank p ps l) ∙ upto_end x
  | inr l ↦ ap (upto x) (upto_some rank p ps l) ∙ upto_none x p (upto rank ps) (le_trans h (le_of_lt r.0))
]

late_sum : (rank d c x : ℚ) (ps : List Piece) → Each (λ p. rank ≤ℚ p.x) ps → sum_by (number_below (Periodic rank d c) x) ps ≡ sum_by (copies_below d x) ps
late_sum rank d c x [] h = refl
late_sum rank d c x (p ∷ ps) h =
    let e : number_below (Periodic rank d c) x p ≡ copies_below d x p = not_below_is p rank (once x p) (copies_below d x p) h.0 in
    let s = late_sum rank d c x ps h.1 in
    omega (arith, e, s, sum_by-cons (number_below (Periodic rank d c) x) p ps, sum_by-cons (copies_below d x) p ps)

split_count : (y rank d c x : ℚ) (ps : List Piece) → RisesFrom y ps
    → length (upto x (upto rank ps)) + sum_by (copies_below d x) (from rank ps) ≡ sum_by (number_below (Periodic rank d c) x) ps
split_count y rank d c x [] r =
    let a = ap length (ap (upto x) (upto_end rank) ∙ upto_end x) in
    let b = ap (sum_by (copies_below d x)) (from_end rank) in
    omega (arith, a, b)
split_count y rank d c x (p ∷ ps) r = elim (le_or_lt rank p.x) [
  | inl l ↦
      let a = ap length (ap (upto x) (upto_none rank p ps l) ∙ upto_end x) in
      let b = ap (sum_by (copies_below d x)) (from_none rank p ps l) in
      let s = late_sum rank d c x (p ∷ ps) (l, rising_late p.x rank ps l r.1) in
      omega (arith, a, b, s)
  | inr l ↦
      let s = split_count p.x rank d c x ps r.1 in
      let b = ap (sum_by (copies_below d x)) (from_some rank p ps l) in
      let u = ap (λ zs. length (upto x zs)) (upto_some rank p ps l) in
      let e : number_below (Periodic rank d c) x p ≡ once x p = below_is p rank (once x p) (copies_below d x p) l in
      let k = sum_by-cons (number_below (Periodic rank d c) x) p ps in
      elim (le_or_lt x p.x) [
        | inl h ↦
            let o : once x p ≡ 0 = not_below_is p x 1 0 h in
            let n = ap length (upto_none x p (upto rank ps) h) in
            let m = ap length (none_early p.x x rank ps r.1 h) in
            omega (arith, s, b, u, e, k, o, n, m)
        | inr h ↦
            let o : once x p ≡ 1 = below_is p x 1 0 h in
            let n = ap length (upto_some x p (upto rank ps) h) in
            omega (arith, s, b, u, e, k, o, n)
      ]
]

once_sum : (tail : Tail) (x : ℚ) (ps : List Piece) → ((p : Piece) → number_below tail x p ≡ once x p) → sum_by (once x) ps ≡ sum_by (number_below tail x) ps
once_sum tail x [] f = refl
once_sum tail x (p ∷ ps) f =
    let e = f p in
    let s = once_sum tail x ps f in
    omega (arith, e, s, sum_by-cons (once x) p ps, sum_by-cons (number_below tail x) p ps)

pub count_is_sum : (c : SpecCurve) (x : ℚ) → StartsAtZero c.pieces → count c x ≡ sum_by (number_below c.tail x) c.pieces
unfolding count
count_is_sum c x starts = by_tail c.pieces c.tail starts
  where
    by_tail : (ps : List Piece) (tail : Tail) → StartsAtZero ps → count record { pieces = ps; tail = tail } x ≡ sum_by (number_below tail x) ps
    by_tail ps (Affine rank) s = let r = rising ps s in upto_counts r.0 x ps r.1 ∙ once_sum (Affine rank) x ps (λ p. refl)
    by_tail ps (Infinite rank) s = let r = rising ps s in upto_counts r.0 x ps r.1 ∙ once_sum (Infinite rank) x ps (λ p. refl)
    by_tail ps (Periodic rank d c) s = let r = rising ps s in split_count r.0 rank d c x ps r.1
