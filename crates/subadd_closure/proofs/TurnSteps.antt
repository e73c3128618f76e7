-- The steps by which a turn and the stretches are made.
use Rattle.std.specs.Prelude.{◌≡◌, ℕ, zero, suc, ◌+◌, ◌≤◌, List, [], ◌∷◌, ◌++◌, Some}
use Rattle.std.proofs.Common.{arith, sym, refl, ap, ◌∙◌, subst, inl, inr, append_assoc, append-nil}
use Rattle.rational.specs.Rational.{ℚ, ◌+ℚ◌, ◌-ℚ◌, ◌*ℚ◌, ◌≤ℚ◌, ◌<ℚ◌, neg_ℚ}
use Rattle.rational.specs.Ratio.{IsSmall, SumFits}
use Rattle.rational.specs.declared.Extended.TheVariants.{Fin}
use Rattle.rational.proofs.Linear.{with4}
use Rattle.rational.proofs.Laws.{le_or_lt, antisym}
use Rattle.rational.proofs.Whole.{one_more_times}
use Rattle.upp_curve.specs.declared.affine_segment.line.Line.{Line}
use Rattle.upp_curve.specs.declared.affine_segment.line.Piece.{Piece}
use Rattle.upp_curve.specs.affine_segment.Values.{line_at}
use Rattle.min_plus.specs.Functions.{zero_q}
use Rattle.upp_curve.specs.affine_segment.Pieces.{Each}
use Rattle.subadd_closure.specs.ElementCurves.{line_times, stretch, turn, after_gap, from_zero, stretches, all_stretches}
use Rattle.subadd_closure.specs.PieceFits.{PieceFits}
use Rattle.subadd_closure.proofs.PieceReads.{gap_kept, gap_left, late_start, early_start}
use Rattle.upp_curve.specs.affine_segment.Reading.{nothing_at}
use Rattle.min_plus.specs.closure_laws.Star.{nat_times}

-- ---- a turn
-- one more line is k more
pub one_less : (l : Line) (n : ℕ) (x : ℚ) → line_at (line_times (suc n) l) x -ℚ line_at (line_times n l) x ≡ l.icept
one_less l n x =
    let e = one_more_times n l.icept in
    less (nat_times n l.icept) (nat_times (suc n) l.icept) l.icept (l.slope *ℚ x) e
  where
    less : (y z k w : ℚ) → z ≡ y +ℚ k → (z +ℚ w) -ℚ (y +ℚ w) ≡ k
    less y z k w e = antisym (with4 y z k w (λ c. omega (arith, c.le, c.lt, c.same)))

less_one : (l : Line) (n : ℕ) (x : ℚ) → line_at (line_times (suc n) l) x -ℚ l.icept ≡ line_at (line_times n l) x
less_one l n x =
    let e = one_more_times n l.icept in
    less (nat_times n l.icept) (nat_times (suc n) l.icept) l.icept (l.slope *ℚ x) e
  where
    less : (y z k w : ℚ) → z ≡ y +ℚ k → (z +ℚ w) -ℚ k ≡ y +ℚ w
    less y z k w e = antisym (with4 y z k w (λ c. omega (arith, c.le, c.lt, c.same)))

-- the number n + 1, as code has it
module _ (a : ℚ) (l : Line) (n k : ℕ) (x : ℚ) (next : Line) (after : ℚ) (e : k ≡ suc n) (is : x ≡ nat_times k a)
    (line : next ≡ line_times k l) (value : after ≡ line_at next x) where
  x_is : x ≡ nat_times (suc n) a
  x_is = is ∙ ap (λ z. nat_times z a) e

  line_is : next ≡ line_times (suc n) l
  line_is = line ∙ ap (λ z. line_times z l) e

  value_is : after ≡ line_at (line_times (suc n) l) (nat_times (suc n) a)
  value_is = value ∙ ap (λ z. line_at z x) line_is ∙ ap (λ z. line_at (line_times (suc n) l) z) x_is

  pub falling_fits : PieceFits (turn (nat_times (suc n) a) l n (suc n)) → SumFits after (neg_ℚ l.icept)
  falling_fits h =
      subst (λ z. SumFits z (neg_ℚ l.icept)) (sym value_is)
      (subst (λ z. SumFits (line_at (line_times (suc n) l) (nat_times (suc n) a)) (neg_ℚ z)) (one_less l n (nat_times (suc n) a)) h.drop)

  pub falling_is : (at : ℚ) → at ≡ after -ℚ l.icept
      → (let p : Piece = record { x = x; at = Fin at; line = Some next } in p ≡ turn (nat_times (suc n) a) l n (suc n))
  falling_is at h =
      let at_is : at ≡ line_at (line_times n l) (nat_times (suc n) a) = h ∙ ap (λ z. z -ℚ l.icept) value_is ∙ less_one l n (nat_times (suc n) a) in
      let first = λ (z : ℚ). let p : Piece = record { x = z; at = Fin at; line = Some next } in p in
      let second = λ (z : ℚ). let p : Piece = record { x = nat_times (suc n) a; at = Fin z; line = Some next } in p in
      let third = λ (z : Line). let p : Piece = record { x = nat_times (suc n) a; at = Fin (line_at (line_times n l) (nat_times (suc n) a)); line = Some z } in p in
      ap first x_is ∙ ap second at_is ∙ ap third line_is

-- ---- stretches, one after another
pub gap_then : (x y : ℚ) (q : Piece) (ps : List Piece) → after_gap x y (q ∷ []) ++ ps ≡ after_gap x y (q ∷ ps)
gap_then x y q ps = elim (le_or_lt y x) [
  | inl none ↦ ap (λ z. z ++ ps) (gap_left x y (q ∷ []) none) ∙ sym (gap_left x y (q ∷ ps) none)
  | inr some ↦ ap (λ z. z ++ ps) (gap_kept x y (q ∷ []) some) ∙ sym (gap_kept x y (q ∷ ps) some)
]

pub stretches_then : (a b : ℚ) (l : Line) (n m : ℕ) (rest : List Piece) → stretches a b l n m [] ++ rest ≡ stretches a b l n m rest
unfolding stretches
stretches_then a b l n zero rest = refl
stretches_then a b l n (suc m) rest =
    let x = nat_times n b in
    let y = nat_times (suc n) a in
    let q = stretch a l (suc n) in
    let more = stretches_then a b l (suc n) m rest in
    elim (le_or_lt y x) [
      | inl none ↦ ap (λ z. z ++ rest) (gap_left x y (q ∷ stretches a b l (suc n) m []) none) ∙ ap (λ z. q ∷ z) more
          ∙ sym (gap_left x y (q ∷ stretches a b l (suc n) m rest) none)
      | inr some ↦ ap (λ z. z ++ rest) (gap_kept x y (q ∷ stretches a b l (suc n) m []) some) ∙ ap (λ z. nothing_at x ∷ q ∷ z) more
          ∙ sym (gap_kept x y (q ∷ stretches a b l (suc n) m rest) some)
    ]

zero_then : (a : ℚ) (q : Piece) (ps rest : List Piece) → from_zero a (q ∷ ps) ++ rest ≡ from_zero a (q ∷ ps ++ rest)
zero_then a q ps rest = elim (le_or_lt a zero_q) [
  | inl none ↦ ap (λ z. z ++ rest) (early_start a (q ∷ ps) none) ∙ sym (early_start a (q ∷ ps ++ rest) none)
  | inr some ↦ ap (λ z. z ++ rest) (late_start a (q ∷ ps) some) ∙ sym (late_start a (q ∷ ps ++ rest) some)
]

pub all_then : (a b : ℚ) (l : Line) (m : ℕ) (rest : List Piece) → all_stretches a b l m [] ++ rest ≡ all_stretches a b l m rest
all_then a b l m rest =
    zero_then a (stretch a l 1) (stretches a b l 1 m []) rest
    ∙ ap (λ z. from_zero a (stretch a l 1 ∷ z)) (stretches_then a b l 1 m rest)

-- the first stretch, and then more
pub started_then : (a b : ℚ) (l : Line) (m : ℕ) (v w : List Piece) (first : Piece) → first ≡ stretch a l 1 → v ≡ from_zero a (first ∷ [])
    → w ≡ v ++ stretches a b l 1 m [] → w ≡ all_stretches a b l m []
started_then a b l m v w first e f g =
    g ∙ ap (λ z. z ++ stretches a b l 1 m []) (f ∙ ap (λ z. from_zero a (z ∷ [])) e) ∙ zero_then a (stretch a l 1) [] (stretches a b l 1 m [])

each_zero : (P : Piece → Type 0) (a : ℚ) (q : Piece) (ps : List Piece) → Each P (from_zero a (q ∷ ps)) → P q × Each P ps
each_zero P a q ps h = elim (le_or_lt a zero_q) [
  | inl none ↦ subst (Each P) (early_start a (q ∷ ps) none) h
  | inr some ↦ (subst (Each P) (late_start a (q ∷ ps) some) h).1
]

pub first_of_all : (P : Piece → Type 0) (a b : ℚ) (l : Line) (m : ℕ) (rest : List Piece) → Each P (all_stretches a b l m rest)
    → P (stretch a l 1) × Each P (stretches a b l 1 m rest)
first_of_all P a b l m rest h = each_zero P a (stretch a l 1) (stretches a b l 1 m rest) h

-- what fits of one more stretch
pub record StepFits (a b : ℚ) (l : Line) (n k : ℕ) : Type 0 where
  pub end : IsSmall (nat_times n b)
  pub next : PieceFits (stretch a l (suc n))
  pub more : Each PieceFits (stretches a b l (suc n) k [])

pub step_fits : (a b : ℚ) (l : Line) (n k : ℕ) → nat_times n b ≤ℚ nat_times (suc n) a → Each PieceFits (stretches a b l n (suc k) [])
    → StepFits a b l n k
unfolding stretches
step_fits a b l n k meet h =
    let x = nat_times n b in
    let y = nat_times (suc n) a in
    let ps = stretch a l (suc n) ∷ stretches a b l (suc n) k [] in
    elim (le_or_lt y x) [
      | inl none ↦
          let r = subst (Each PieceFits) (gap_left x y ps none) h in
          let same : y ≡ x = antisym (none, meet) in
          record { end = subst IsSmall same r.0.start; next = r.0; more = r.1 }
      | inr some ↦
          let r = subst (Each PieceFits) (gap_kept x y ps some) h in
          record { end = r.0.start; next = r.1.0; more = r.1.1 }
    ]

-- the loop: what is kept so far, and what is to come
pub record IsGrowing (a b : ℚ) (l : Line) (m i : ℕ) (kept first : List Piece) : Type 0 where
  pub left : ℕ
  pub counts : i + left ≡ m
  pub items : kept ++ stretches a b l (suc i) left [] ≡ first ++ stretches a b l 1 m []
  pub fits : Each PieceFits (stretches a b l 1 m []) → Each PieceFits (stretches a b l (suc i) left [])

pub none_grown : (a b : ℚ) (l : Line) (m : ℕ) (first : List Piece) → IsGrowing a b l m 0 first first
none_grown a b l m first = record { left = m; counts = omega arith; items = refl; fits = λ h. h }

pub grown : (a b : ℚ) (l : Line) (m i : ℕ) (kept first : List Piece) → m ≤ i → IsGrowing a b l m i kept first
    → kept ≡ first ++ stretches a b l 1 m []
unfolding stretches
grown a b l m i kept first h g =
    let none : g.left ≡ 0 = let c = g.counts in omega arith in
    sym (append-nil kept) ∙ ap (λ z. kept ++ stretches a b l (suc i) z []) (sym none) ∙ g.items

step_is : (a b : ℚ) (l : Line) (i left : ℕ)
    → after_gap (nat_times (suc i) b) (nat_times (suc (suc i)) a) (stretch a l (suc (suc i)) ∷ stretches a b l (suc (suc i)) left [])
    ≡ stretches a b l (suc i) (suc left) []
unfolding stretches
step_is a b l i left = refl

-- one step of it
pub grows : (a b : ℚ) (l : Line) (m i j k : ℕ) (kept new first : List Piece) (x : ℚ) (next : Piece) → suc i ≤ m → j ≡ suc i → k ≡ suc (suc i)
    → x ≡ nat_times j b → next ≡ stretch a l k → nat_times (suc i) b ≤ℚ nat_times (suc (suc i)) a
    → new ≡ kept ++ after_gap x next.x (next ∷ []) → IsGrowing a b l m i kept first → IsGrowing a b l m (suc i) new first
grows a b l m i j k kept new first x next inside ej ek ex en meet made g = by_left g.left g.counts g.items g.fits
  where
    X : x ≡ nat_times (suc i) b
    X = ex ∙ ap (λ z. nat_times z b) ej

    Q : next ≡ stretch a l (suc (suc i))
    Q = en ∙ ap (λ z. stretch a l z) ek

    by_left : (left : ℕ) → i + left ≡ m → kept ++ stretches a b l (suc i) left [] ≡ first ++ stretches a b l 1 m []
        → (Each PieceFits (stretches a b l 1 m []) → Each PieceFits (stretches a b l (suc i) left [])) → IsGrowing a b l m (suc i) new first
    by_left zero e items fits = absurd (omega arith)
    by_left (suc left) e items fits = record {
      left = left;
      counts = omega arith;
      items = ap (λ z. z ++ stretches a b l (suc (suc i)) left []) (made ∙ ap (λ z. kept ++ after_gap z next.x (next ∷ [])) X
          ∙ ap (λ (z : Piece). kept ++ after_gap (nat_times (suc i) b) z.x (z ∷ [])) Q)
          ∙ append_assoc kept (after_gap (nat_times (suc i) b) (nat_times (suc (suc i)) a) (stretch a l (suc (suc i)) ∷ [])) (stretches a b l (suc (suc i)) left [])
          ∙ ap (λ z. kept ++ z) (gap_then (nat_times (suc i) b) (nat_times (suc (suc i)) a) (stretch a l (suc (suc i))) (stretches a b l (suc (suc i)) left []))
          ∙ ap (λ z. kept ++ z) (step_is a b l i left) ∙ items;
      fits = λ h. (step_fits a b l (suc i) left meet (fits h)).more;
    }

-- where all fit, so do the numbers of the next step
pub next_fits : (a b : ℚ) (l : Line) (m i j k : ℕ) (kept first : List Piece) → suc i ≤ m → j ≡ suc i → k ≡ suc (suc i)
    → nat_times (suc i) b ≤ℚ nat_times (suc (suc i)) a → IsGrowing a b l m i kept first → Each PieceFits (stretches a b l 1 m [])
    → IsSmall (nat_times j b) × PieceFits (stretch a l k)
next_fits a b l m i j k kept first inside ej ek meet g h = by_left g.left g.counts (g.fits h)
  where
    by_left : (left : ℕ) → i + left ≡ m → Each PieceFits (stretches a b l (suc i) left []) → IsSmall (nat_times j b) × PieceFits (stretch a l k)
    by_left zero e f = absurd (omega arith)
    by_left (suc left) e f =
        let s = step_fits a b l (suc i) left meet f in
        (subst (λ z. IsSmall (nat_times z b)) (sym ej) s.end, subst (λ z. PieceFits (stretch a l z)) (sym ek) s.next)

-- ---- pieces that are pushed
pub pushed_after : (ps v w : List Piece) (x : ℚ) (q : Piece) → x <ℚ q.x → v ≡ ps ++ (nothing_at x ∷ []) → w ≡ v ++ (q ∷ [])
    → w ≡ ps ++ after_gap x q.x (q ∷ [])
pushed_after ps v w x q h e f =
    f ∙ ap (λ z. z ++ (q ∷ [])) e ∙ append_assoc ps (nothing_at x ∷ []) (q ∷ []) ∙ ap (λ z. ps ++ z) (sym (gap_kept x q.x (q ∷ []) h))

pub pushed_alone : (ps w : List Piece) (x : ℚ) (q : Piece) → q.x ≤ℚ x → w ≡ ps ++ (q ∷ []) → w ≡ ps ++ after_gap x q.x (q ∷ [])
pushed_alone ps w x q h f = f ∙ ap (λ z. ps ++ z) (sym (gap_left x q.x (q ∷ []) h))

pub started_late : (a z : ℚ) (u v w : List Piece) (q : Piece) → zero_q <ℚ a → z ≡ zero_q → u ≡ [] → v ≡ u ++ (nothing_at z ∷ []) → w ≡ v ++ (q ∷ [])
    → w ≡ from_zero a (q ∷ [])
started_late a z u v w q h e d f g =
    g ∙ ap (λ y. y ++ (q ∷ [])) (f ∙ ap (λ y. y ++ (nothing_at z ∷ [])) d ∙ ap (λ y. nothing_at y ∷ []) e) ∙ sym (late_start a (q ∷ []) h)

pub started_early : (a : ℚ) (u w : List Piece) (q : Piece) → a ≤ℚ zero_q → u ≡ [] → w ≡ u ++ (q ∷ []) → w ≡ from_zero a (q ∷ [])
started_early a u w q h d g = g ∙ ap (λ y. y ++ (q ∷ [])) d ∙ sym (early_start a (q ∷ []) h)
