-- What the answer of a comparison says of the order, and what a test of the order does.
use Rattle.std.specs.Prelude.{◌≡◌, Bool, true, false, IsTrue, ◌↔◌}
use Rattle.std.proofs.Common.{sym, ◌∙◌, subst, refl, inl, inr, Ordering, Less, Equal, Greater}
use Rattle.std.proofs.lemmas.Bool.{true≢false}
use Rattle.std.specs.Ordering.{MatchOrdering}
use Rattle.rational.specs.Rational.{ℚ, ◌≤ℚ◌, ◌<ℚ◌, lt_q}
use Rattle.rational.proofs.MinMax.{lt_q_not}
use Rattle.rational.proofs.Laws.{le_refl, le_of_lt, lt_le_trans, lt_irrefl, le_or_lt, le_of_not_lt}

-- ---- by a comparison
pub not_greater : (r : Ordering) {x y : ℚ} → MatchOrdering r (x <ℚ y) (x ≡ y) (y <ℚ x) → (r ≡ Greater → ⊥) → x ≤ℚ y
not_greater r {x} {y} h n = go r h n
  where
    go : (r : Ordering) → MatchOrdering r (x <ℚ y) (x ≡ y) (y <ℚ x) → (r ≡ Greater → ⊥) → x ≤ℚ y
    go Less h n = le_of_lt h
    go Equal h n = subst (λ z. x ≤ℚ z) h (le_refl x)
    go Greater h n = absurd (n refl)

pub is_greater : (r : Ordering) {x y : ℚ} → MatchOrdering r (x <ℚ y) (x ≡ y) (y <ℚ x) → r ≡ Greater → y <ℚ x
is_greater r {x} {y} h e = subst (λ z. MatchOrdering z (x <ℚ y) (x ≡ y) (y <ℚ x)) e h

pub is_less : (r : Ordering) {x y : ℚ} → MatchOrdering r (x <ℚ y) (x ≡ y) (y <ℚ x) → r ≡ Less → x <ℚ y
is_less r {x} {y} h e = subst (λ z. MatchOrdering z (x <ℚ y) (x ≡ y) (y <ℚ x)) e h

pub is_equal : (r : Ordering) {x y : ℚ} → MatchOrdering r (x <ℚ y) (x ≡ y) (y <ℚ x) → r ≡ Equal → x ≡ y
is_equal r {x} {y} h e = subst (λ z. MatchOrdering z (x <ℚ y) (x ≡ y) (y <ℚ x)) e h

pub not_less : (r : Ordering) {x y : ℚ} → MatchOrdering r (x <ℚ y) (x ≡ y) (y <ℚ x) → (r ≡ Less → ⊥) → y ≤ℚ x
not_less r {x} {y} h n = go r h n
  where
    go : (r : Ordering) → MatchOrdering r (x <ℚ y) (x ≡ y) (y <ℚ x) → (r ≡ Less → ⊥) → y ≤ℚ x
    go Less h n = absurd (n refl)
    go Equal h n = subst (λ z. z ≤ℚ x) h (le_refl x)
    go Greater h n = le_of_lt h

-- ---- by a test
pub not_less_test : (a b : ℚ) → b ≤ℚ a → (false ≡ lt_q a b) × (IsTrue false ↔ (a <ℚ b))
not_less_test a b h = (sym (lt_q_not a b h), (λ e. absurd (true≢false (sym e)), λ l. absurd (lt_irrefl a (lt_le_trans l h))))

-- a test that is false
pub not_less_out : (b : Bool) (x y : ℚ) → (IsTrue b ↔ (x <ℚ y)) → b ≡ false → y ≤ℚ x
not_less_out b x y h e = elim (le_or_lt y x) [
  | inl l ↦ l
  | inr l ↦ absurd (true≢false (sym (h.1 l) ∙ e))
]

pub iff_trans : {A B C : Type 0} → A ↔ B → B ↔ C → A ↔ C
iff_trans h k = (λ a. k.0 (h.0 a), λ c. h.1 (k.1 c))

pub iff_none : {A : Type 0} → ¬ A → IsTrue false ↔ A
iff_none h = (λ e. absurd (true≢false (sym e)), λ a. absurd (h a))

pub iff_some : {A : Type 0} → A → IsTrue true ↔ A
iff_some a = (λ e. a, λ b. refl)

-- ---- by a test that says no
pub least_by_test : (x y : ℚ) → (IsTrue false ↔ (x <ℚ y)) → y ≤ℚ x
least_by_test x y h = le_of_not_lt (λ l. true≢false (sym (h.1 l)))
