-- Breaches are in one order, and a key belongs to one breach.
use Rattle.std.specs.Prelude.{◌≡◌, ℕ, zero, suc, pos, List, [], ◌∷◌}
use Rattle.std.proofs.Common.{arith, refl, sym, subst, ap, ap₂, ◌∙◌, inl, inr}
use Rattle.rational.specs.Rational.{ℚ, int, ◌≤ℚ◌, ◌<ℚ◌}
use Rattle.rational.proofs.Laws.{lt_irrefl, lt_trans}
use Rattle.rational.proofs.Integers.{nat_le_out}
use Rattle.rational.proofs.Laws.{le_refl}
use Rattle.run_laws.specs.Runs.{SpecRun}
use Rattle.run_laws.specs.Cards.{whole}
use Rattle.net_model.specs.declared.breach.Breach.{Breach}
use Rattle.net_model.specs.declared.breach.Breach.TheVariants.{Size, Arrival, Service}
use Rattle.flow_watch.specs.watch_laws.Breaches.{order_key, NoLater}

-- ---- keys
pub both_no_later : (xs ys : List ℚ) → NoLater xs ys → NoLater ys xs → xs ≡ ys
both_no_later [] [] h k = refl
both_no_later [] (y ∷ ys) h k = absurd k
both_no_later (x ∷ xs) [] h k = absurd h
both_no_later (x ∷ xs) (y ∷ ys) h k = elim h [
  | inl l ↦ elim k [
    | inl m ↦ absurd (lt_irrefl x (lt_trans l m))
    | inr m ↦ absurd (lt_irrefl x (subst (λ z. x <ℚ z) m.0 l))
  ]
  | inr l ↦ elim k [
    | inl m ↦ absurd (lt_irrefl y (subst (λ z. y <ℚ z) l.0 m))
    | inr m ↦ ap₂ (λ (z : ℚ) (zs : List ℚ). z ∷ zs) l.0 (both_no_later xs ys l.1 m.1)
  ]
]

pub no_later_trans : (xs ys zs : List ℚ) → NoLater xs ys → NoLater ys zs → NoLater xs zs
no_later_trans [] ys zs h k = tt
no_later_trans (x ∷ xs) [] zs h k = absurd h
no_later_trans (x ∷ xs) (y ∷ ys) [] h k = absurd k
no_later_trans (x ∷ xs) (y ∷ ys) (z ∷ zs) h k = elim h [
  | inl l ↦ elim k [
    | inl m ↦ inl (lt_trans l m)
    | inr m ↦ inl (subst (λ w. x <ℚ w) m.0 l)
  ]
  | inr l ↦ elim k [
    | inl m ↦ inl (subst (λ w. w <ℚ z) (sym l.0) m)
    | inr m ↦ inr (l.0 ∙ m.0, no_later_trans xs ys zs l.1 m.1)
  ]
]

-- ---- what a key says
nth : ℕ → List ℚ → ℚ
nth k [] = int (pos 0)
nth zero (x ∷ xs) = x
nth (suc k) (x ∷ xs) = nth k xs

whole_one : (m n : ℕ) → whole m ≡ whole n → m ≡ n
whole_one m n e =
    let a = nat_le_out m n (subst (λ z. whole m ≤ℚ z) e (le_refl (whole m))) in
    let b = nat_le_out n m (subst (λ z. z ≤ℚ whole m) e (le_refl (whole m))) in
    omega arith

other_kind : (m n : ℕ) → (m ≡ n → ⊥) → whole m ≡ whole n → ⊥
other_kind m n d e = d (whole_one m n e)

pub one_key : (run : SpecRun) (x y : Breach) → order_key run x ≡ order_key run y → x ≡ y
unfolding nth
one_key run (Size f p) (Size g q) e = ap₂ (λ (a b : ℕ). Size a b) (whole_one f g (ap (nth 2) e)) (whole_one p q (ap (nth 3) e))
one_key run (Size f p) (Arrival g i j) e = absurd (other_kind 0 1 (λ h. omega arith) (ap (nth 1) e))
one_key run (Size f p) (Service s a b) e = absurd (other_kind 0 2 (λ h. omega arith) (ap (nth 1) e))
one_key run (Arrival f i j) (Size g q) e = absurd (other_kind 1 0 (λ h. omega arith) (ap (nth 1) e))
one_key run (Arrival f i j) (Arrival g k l) e =
    ap₂ (λ (a : ℕ) (b : ℕ × ℕ). Arrival a b.0 b.1) (whole_one f g (ap (nth 2) e)) (ap₂ (λ (a b : ℕ). (a, b)) (whole_one i k (ap (nth 4) e)) (whole_one j l (ap (nth 3) e)))
one_key run (Arrival f i j) (Service s a b) e = absurd (other_kind 1 2 (λ h. omega arith) (ap (nth 1) e))
one_key run (Service s a b) (Size g q) e = absurd (other_kind 2 0 (λ h. omega arith) (ap (nth 1) e))
one_key run (Service s a b) (Arrival g i j) e = absurd (other_kind 2 1 (λ h. omega arith) (ap (nth 1) e))
one_key run (Service s a b) (Service t c d) e =
    ap₂ (λ (x : ℕ) (y : ℚ × ℚ). Service x y.0 y.1) (whole_one s t (ap (nth 2) e)) (ap₂ (λ (x y : ℚ). (x, y)) (ap (nth 3) e) (ap (nth 0) e))
