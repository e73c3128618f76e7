-- Texts that tell themselves where others follow: where two are continued to one text, so much is alike in them, and what
-- follows is the same.
use Rattle.std.proofs.Common.{◌≡◌, ℕ, zero, suc, ◌<◌, ◌+◌, List, [], ◌∷◌, ◌++◌, sym, ap, ◌∙◌, subst, arith, inl, inr, true, append_assoc}
use Rattle.std.specs.List.{flat_map, range_with_len}
use Rattle.std.proofs.lemmas.Bool.{cases_eq}
use Rattle.net_cells.proofs.Growing.{flat_more}
use Rattle.report_text.proofs.Fronts.{lacks, same_front, same_back}

abbrev pub Cuts : List ℕ → List ℕ → Type 0 → Type 0
Cuts a b Told = (r s : List ℕ) → a ++ r ≡ b ++ s → Told × (r ≡ s)

pub cut_same : (a : List ℕ) → Cuts a a (Unit {0})
cut_same [] r s e = (tt, e)
cut_same (x ∷ xs) r s e = let rest : xs ++ r ≡ xs ++ s = cc in cut_same xs r s rest

pub after_same : (a r s : List ℕ) → a ++ r ≡ a ++ s → r ≡ s
after_same a r s e = (cut_same a r s e).1

-- one after the other
pub cut_join : (a b c d : List ℕ) (T U : Type 0) → Cuts a b T → Cuts c d U → Cuts (a ++ c) (b ++ d) (T × U)
cut_join a b c d T U f g r s e =
    let first = f (c ++ r) (d ++ s) (sym (append_assoc a c r) ∙ e ∙ append_assoc b d s) in
    let second = g r s first.1 in
    ((first.0, second.0), second.1)

-- what ends at the first byte of a value
pub cut_before : (b : ℕ) (xs ys z : List ℕ) → lacks b xs ≡ true → lacks b ys ≡ true → Cuts (xs ++ b ∷ z) (ys ++ b ∷ z) (xs ≡ ys)
cut_before b xs ys z h k r s e =
    let all : xs ++ b ∷ (z ++ r) ≡ ys ++ b ∷ (z ++ s) = sym (append_assoc xs (b ∷ z) r) ∙ e ∙ append_assoc ys (b ∷ z) s in
    let rest : z ++ r ≡ z ++ s = same_back b xs ys (z ++ r) (z ++ s) h k all in
    (same_front b xs ys (z ++ r) (z ++ s) h k all, (cut_same z r s rest).1)

-- texts put otherwise, and less that is told
pub cut_as : (a b c d : List ℕ) (T U : Type 0) → c ≡ a → d ≡ b → (T → U) → Cuts a b T → Cuts c d U
cut_as a b c d T U p q w f r s e =
    let h = f r s (ap (λ x. x ++ r) (sym p) ∙ e ∙ ap (λ x. x ++ s) q) in
    (w h.0, h.1)

-- texts by number
pub cut_range : (f g : ℕ → List ℕ) (T : ℕ → Type 0) (n : ℕ) → ((k : ℕ) → k < n → Cuts (f k) (g k) (T k))
    → Cuts (flat_map f (range_with_len 0 n)) (flat_map g (range_with_len 0 n)) ((k : ℕ) → k < n → T k)
cut_range f g T zero each = λ r s e. (λ k h. absurd (omega (arith, h)), e)
cut_range f g T (suc n) each =
    let next : suc n ≡ n + 1 = omega arith in
    let All : ℕ → Type 0 = λ m. (k : ℕ) → k < m → T k in
    cut_as (flat_map f (range_with_len 0 n) ++ f n) (flat_map g (range_with_len 0 n) ++ g n)
    (flat_map f (range_with_len 0 (suc n))) (flat_map g (range_with_len 0 (suc n))) (All n × T n) (All (suc n))
    (ap (λ m. flat_map f (range_with_len 0 m)) next ∙ flat_more f n) (ap (λ m. flat_map g (range_with_len 0 m)) next ∙ flat_more g n)
    (λ t k h. elim (cases_eq k n) [ inl e ↦ subst T (sym e) t.1 | inr d ↦ t.0 k (omega (arith, h, d)) ])
    (cut_join (flat_map f (range_with_len 0 n)) (flat_map g (range_with_len 0 n)) (f n) (g n) (All n) (T n)
    (cut_range f g T n (λ k h. each k (omega (arith, h)))) (each n (omega arith)))

-- at the end
pub told_by : (a b : List ℕ) (T : Type 0) → Cuts a b T → a ≡ b → T
told_by a b T f e = (f [] [] (ap (λ x. x ++ []) e)).0
