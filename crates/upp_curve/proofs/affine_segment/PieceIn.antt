-- How a piece is found and read.
use Rattle.std.specs.Prelude.{◌≡◌, ℕ, zero, suc, ◌-◌, ◌<◌, ◌≤◌, pos, Bool, true, false, List, [], ◌∷◌, length}
use Rattle.std.proofs.Common.{arith, get_or, sym, ap, ◌∙◌, refl, subst, inl, inr, Ordering, Less, Equal, Greater, is_le, true≢false}
use Rattle.rational.specs.Rational.{ℚ, ◌-ℚ◌, ◌≤ℚ◌, ◌<ℚ◌, int, le_q}
use Rattle.rational.proofs.Linear.{with1}
use Rattle.rational.proofs.Laws.{le_refl, le_of_lt, le_trans, lt_le_trans, le_lt_trans, le_or_lt}
use Rattle.upp_curve.specs.affine_segment.Pieces.{RisesFrom, StartsAtZero}
use Rattle.rational.specs.Ratio.{cmp_q}
use Rattle.rational.proofs.Comparison.{cmp_greater, cmp_not_greater, cmp_less, cmp_equal}
use Rattle.rational.proofs.Over.{le_q_out, le_q_in}
use Rattle.upp_curve.specs.declared.affine_segment.line.Piece.{Piece}
use Rattle.upp_curve.specs.affine_segment.Reading.{piece_value, piece_in, read, nothing_at}
use Rattle.upp_curve.specs.affine_segment.Values.{line_value}
use Rattle.rational.proofs.MinMax.{le_q_not}
use Rattle.rational.specs.declared.Extended.TheVariants.{Inf}

pub value_later : (p : Piece) (t : ℚ) (r : Ordering) → r ≡ cmp_q t p.x → r ≡ Greater → piece_value p t ≡ line_value p.line t
unfolding piece_value
value_later p t r e h = rw (le_q_not t p.x (cmp_greater t p.x (sym e ∙ h))) refl

pub value_start : (p : Piece) (t : ℚ) (r : Ordering) → r ≡ cmp_q t p.x → (r ≡ Greater → ⊥) → piece_value p t ≡ p.at
unfolding piece_value
value_start p t r e h = rw (le_q_out t p.x (cmp_not_greater t p.x (λ k. h (e ∙ k)))) refl

pub value_past : (p : Piece) (t : ℚ) → p.x <ℚ t → piece_value p t ≡ line_value p.line t
unfolding piece_value
value_past p t h = rw (le_q_not t p.x h) refl

pub value_by : (p : Piece) (t : ℚ) → t ≤ℚ p.x → piece_value p t ≡ p.at
unfolding piece_value
value_by p t h = rw (le_q_out t p.x h) refl

pub nothing_read : (x t : ℚ) → piece_value (nothing_at x) t ≡ Inf
nothing_read x t = elim (le_or_lt t x) [ inl h ↦ value_by (nothing_at x) t h | inr h ↦ value_past (nothing_at x) t h ]

pub value_at_start : (p : Piece) → piece_value p p.x ≡ p.at
value_at_start p = value_by p p.x (le_refl p.x)

-- the next piece starts after t
pub piece_in_stop : (p q : Piece) (qs : List Piece) (t : ℚ) → t <ℚ q.x → piece_in p (q ∷ qs) t ≡ p
unfolding piece_in
piece_in_stop p q qs t l = rw (le_q_not q.x t l) refl

pub piece_in_go : (p q : Piece) (qs : List Piece) (t : ℚ) → q.x ≤ℚ t → piece_in p (q ∷ qs) t ≡ piece_in q qs t
unfolding piece_in
piece_in_go p q qs t l = rw (le_q_out q.x t l) refl

pub piece_in_end : (p : Piece) (t : ℚ) → piece_in p [] t ≡ p
unfolding piece_in
piece_in_end p t = refl

-- ---- by binary search
-- the starts of a list that rises
start_past : (x : ℚ) (ps : List Piece) (j : ℕ) (d : Piece) → RisesFrom x ps → j < length ps → x <ℚ (get_or ps j d).x
start_past x [] j d r h = absurd (omega arith)
start_past x (p ∷ ps) zero d r h = r.0
start_past x (p ∷ ps) (suc j) d r h = lt_le_trans r.0 (le_of_lt (start_past p.x ps j d r.1 (omega arith)))

start_rises : (x : ℚ) (ps : List Piece) (i j : ℕ) (d : Piece) → RisesFrom x ps → i ≤ j → j < length ps → (get_or ps i d).x ≤ℚ (get_or ps j d).x
start_rises x [] i j d r h l = absurd (omega arith)
start_rises x (p ∷ ps) zero zero d r h l = le_refl p.x
start_rises x (p ∷ ps) zero (suc j) d r h l = le_of_lt (start_past p.x ps j d r.1 (omega arith))
start_rises x (p ∷ ps) (suc i) zero d r h l = absurd (omega arith)
start_rises x (p ∷ ps) (suc i) (suc j) d r h l = start_rises p.x ps i j d r.1 (omega arith) (omega arith)

-- the test whether a piece starts at t or before
abbrev pub starts_by : ℚ → Piece → Bool
starts_by t p = le_q p.x t

pub low_start : (ps : List Piece) → StartsAtZero ps → RisesFrom (int (pos 0) -ℚ int (pos 1)) ps
low_start [] h = absurd h
low_start (p ∷ ps) h =
    (subst (λ z. int (pos 0) -ℚ int (pos 1) <ℚ z) (sym h.0) (with1 (int (pos 0)) (λ c. omega (arith, c.le, c.lt, c.same))), h.1)

-- the pieces that pass it come first
abbrev pub IsParted : ℚ → List Piece → Type 0
IsParted t ps = (i j : ℕ) (d : Piece) → i ≤ j → j < length ps → starts_by t (get_or ps j d) ≡ true → starts_by t (get_or ps i d) ≡ true

-- the first n pass it, and the others do not
abbrev pub IsPointAt : ℚ → List Piece → ℕ → Type 0
IsPointAt t ps n =
    ((k : ℕ) (d : Piece) → 0 ≤ k → k < n → starts_by t (get_or ps k d) ≡ true)
    × ((k : ℕ) (d : Piece) → n ≤ k → k < length ps → starts_by t (get_or ps k d) ≡ false)

pub parted : (ps : List Piece) (t : ℚ) → StartsAtZero ps → IsParted t ps
parted ps t h i j d l k e = le_q_out (get_or ps i d).x t (le_trans (start_rises _ ps i j d (low_start ps h) l k) (le_q_in (get_or ps j d).x t e))

-- the last of the pieces for which the test holds
found_at : (p : Piece) (ps : List Piece) (t : ℚ) (i : ℕ) (d : Piece) → RisesFrom p.x ps → i < length (p ∷ ps) → (get_or (p ∷ ps) i d).x ≤ℚ t
    → ((k : ℕ) → suc i ≤ k → k < length (p ∷ ps) → t <ℚ (get_or (p ∷ ps) k d).x) → get_or (p ∷ ps) i d ≡ piece_in p ps t
found_at p [] t zero d r h l f = sym (piece_in_end p t)
found_at p [] t (suc i) d r h l f = absurd (omega arith)
found_at p (q ∷ qs) t zero d r h l f = sym (piece_in_stop p q qs t (f 1 (omega arith) (omega arith)))
found_at p (q ∷ qs) t (suc i) d r h l f =
    found_at q qs t i d r.1 (omega arith) l (λ k a b. f (suc k) (omega arith) (omega arith)) ∙ sym (piece_in_go p q qs t (le_trans (first q qs i r.1 (omega arith)) l))
  where
    first : (q : Piece) (qs : List Piece) (i : ℕ) → RisesFrom q.x qs → i < length (q ∷ qs) → q.x ≤ℚ (get_or (q ∷ qs) i d).x
    first q qs zero r h = le_refl q.x
    first q qs (suc i) r h = le_of_lt (start_past q.x qs i d r (omega arith))

-- some piece passes the test, since the first does
pub some_start : (ps : List Piece) (t : ℚ) (n : ℕ) → StartsAtZero ps → int (pos 0) ≤ℚ t → IsPointAt t ps n → 1 ≤ n
some_start [] t n h l point = absurd h
some_start (p ∷ ps) t zero h l point =
    absurd (true≢false (sym (le_q_out p.x t (subst (λ z. z ≤ℚ t) (sym h.0) l)) ∙ point.1 0 p (omega arith) (omega arith)))
some_start (p ∷ ps) t (suc n) h l point = omega arith

pub last_start : (ps : List Piece) (t : ℚ) (n : ℕ) (d found p : Piece) (qs : List Piece) → StartsAtZero ps → int (pos 0) ≤ℚ t → n ≤ length ps
    → IsPointAt t ps n → found ≡ get_or ps (n - 1) d → ps ≡ p ∷ qs → found ≡ piece_in p qs t
last_start ps t n d found p qs h l b point e f = of (subst StartsAtZero f h) (subst (λ z. n ≤ length z) f b) (subst (λ z. IsPointAt t z n) f point) (e ∙ ap (λ z. get_or z (n - 1) d) f)
  where
    of : StartsAtZero (p ∷ qs) → n ≤ length (p ∷ qs) → IsPointAt t (p ∷ qs) n → found ≡ get_or (p ∷ qs) (n - 1) d → found ≡ piece_in p qs t
    of h b point e =
        let some = some_start (p ∷ qs) t n h l point in
        e ∙ found_at p qs t (n - 1) d h.1 (omega arith) (le_q_in _ t (point.0 (n - 1) d (omega arith) (omega arith)))
        (λ k a c. not_le (get_or (p ∷ qs) k d).x (point.1 k d (omega arith) c))
      where
        not_le : (x : ℚ) → le_q x t ≡ false → t <ℚ x
        not_le x e = elim (le_or_lt x t) [ inl h ↦ absurd (true≢false (sym (le_q_out x t h) ∙ e)) | inr k ↦ k ]

-- the test as a comparison makes it
pub le_test : (x y : ℚ) → is_le (cmp_q x y) ≡ le_q x y
le_test x y = of (cmp_q x y) refl
  where
    of : (r : Ordering) → r ≡ cmp_q x y → is_le r ≡ le_q x y
    of Less e = sym (le_q_out x y (le_of_lt (cmp_less x y (sym e))))
    of Equal e = sym (le_q_out x y (subst (λ z. x ≤ℚ z) (cmp_equal x y (sym e)) (le_refl x)))
    of Greater e = sym (le_q_not x y (cmp_greater x y (sym e)))

-- ---- what is read of the piece that was found
pub read_found : (ps : List Piece) (found : Piece) (t : ℚ) → StartsAtZero ps → ((p : Piece) (qs : List Piece) → ps ≡ p ∷ qs → found ≡ piece_in p qs t)
    → piece_value found t ≡ read ps t
unfolding read
read_found [] found t h f = absurd h
read_found (p ∷ qs) found t h f = ap (λ z. piece_value z t) (f p qs refl)

-- ---- reading, one piece at a time
pub read_is : (p : Piece) (ps : List Piece) (t : ℚ) → read (p ∷ ps) t ≡ piece_value (piece_in p ps t) t
unfolding read
read_is p ps t = refl

-- before all later starts the first piece is read
pub read_first : (p : Piece) (ps : List Piece) (x t : ℚ) → RisesFrom x ps → t ≤ℚ x → read (p ∷ ps) t ≡ piece_value p t
unfolding read
read_first p [] x t h l = ap (λ z. piece_value z t) (piece_in_end p t)
read_first p (q ∷ qs) x t h l = ap (λ z. piece_value z t) (piece_in_stop p q qs t (le_lt_trans l h.0))

pub read_stop : (p q : Piece) (qs : List Piece) (t : ℚ) → t <ℚ q.x → read (p ∷ q ∷ qs) t ≡ piece_value p t
unfolding read
read_stop p q qs t l = ap (λ z. piece_value z t) (piece_in_stop p q qs t l)

pub read_go : (p q : Piece) (qs : List Piece) (t : ℚ) → q.x ≤ℚ t → read (p ∷ q ∷ qs) t ≡ read (q ∷ qs) t
unfolding read
read_go p q qs t l = ap (λ z. piece_value z t) (piece_in_go p q qs t l)

pub read_one : (p : Piece) (t : ℚ) → read (p ∷ []) t ≡ piece_value p t
unfolding read
read_one p t = ap (λ z. piece_value z t) (piece_in_end p t)
