-- What repeats from a rank on: the tail's rule, and that a relation which moves by a period holds of the whole.
use Rattle.std.specs.Prelude.{◌≡◌, ℕ, zero, suc, pos}
use Rattle.std.proofs.Common.{arith, sym, ap, ap₂, ◌∙◌, refl, subst, inl, inr}
use Rattle.rational.specs.Rational.{ℚ, ◌+ℚ◌, ◌-ℚ◌, ◌*ℚ◌, ◌≤ℚ◌, ◌<ℚ◌, int}
use Rattle.rational.proofs.Linear.{with1, with2, with3, with4, with5}
use Rattle.rational.proofs.Over.{le_q_out}
use Rattle.rational.proofs.Laws.{le_or_lt, le_refl}
use Rattle.rational.specs.Extended.{Ext, ◌+ₑ◌}
use Rattle.rational.specs.declared.Extended.TheVariants.{Fin, Inf}
use Rattle.rational.specs.Whole.{periods}
use Rattle.upp_curve.specs.Curve.{repeated, cut}
use Rattle.upp_curve.specs.Steady.{Repeats}
use Rattle.rational.proofs.ExtendedOrder.{add_zero_ext, add_assoc_ext}
use Rattle.rational.proofs.MinMax.{le_q_not}
use Rattle.rational.proofs.Whole.{periods_small, periods_high, periods_next, one_more_times}

-- before rank + period it is f
pub repeated_first : (f : ℚ → Ext) (r d c t : ℚ) → int (pos 0) <ℚ d → t <ℚ r +ℚ d → repeated f r d c t ≡ f t
unfolding repeated
repeated_first f r d c t h k =
    let e = periods_small r d t h k in
    let z : int (pos 0) *ℚ d ≡ int (pos 0) = with1 d (λ c. omega (arith, c.le, c.lt, c.same)) in
    let w : int (pos 0) *ℚ c ≡ int (pos 0) = with1 c (λ c. omega (arith, c.le, c.lt, c.same)) in
    let same : t -ℚ int (pos 0) *ℚ d ≡ t = with2 t (int (pos 0) *ℚ d) (λ c. omega (arith, c.le, c.lt, c.same)) in
    ap (λ n. f (t -ℚ int (pos n) *ℚ d) +ₑ Fin (int (pos n) *ℚ c)) e ∙ ap₂ (λ (x y : ℚ). f x +ₑ Fin y) same w ∙ add_zero_ext (f t)

-- from the rank on the value a period later is the value, risen once
pub repeated_next : (f : ℚ → Ext) (r d c t : ℚ) → int (pos 0) <ℚ d → r ≤ℚ t → repeated f r d c (t +ℚ d) ≡ repeated f r d c t +ₑ Fin c
unfolding repeated
repeated_next f r d c t h k =
    let n = periods r d t in
    let e = periods_next r d t h k in
    let o = one_more_times n d in
    let p = one_more_times n c in
    let same : (t +ℚ d) -ℚ int (pos (suc n)) *ℚ d ≡ t -ℚ int (pos n) *ℚ d = with4 t d (int (pos n) *ℚ d) (int (pos (suc n)) *ℚ d) (λ c. omega (arith, c.le, c.lt, c.same)) in
    ap (λ m. f ((t +ℚ d) -ℚ int (pos m) *ℚ d) +ₑ Fin (int (pos m) *ℚ c)) e ∙ ap₂ (λ (x y : ℚ). f x +ₑ Fin y) same p ∙ sym (add_assoc_ext (f (t -ℚ int (pos n) *ℚ d)) (int (pos n) *ℚ c) c)

-- one period past the rank it is the value there, risen once
pub repeated_end : (f : ℚ → Ext) (r d c : ℚ) → int (pos 0) <ℚ d → repeated f r d c (r +ℚ d) ≡ f r +ₑ Fin c
repeated_end f r d c some =
    repeated_next f r d c r some (le_refl r) ∙ ap (λ v. v +ₑ Fin c) (repeated_first f r d c r some (with2 r d (λ c. omega (arith, c.le, c.lt, c.same))))

-- a time in the first period, and one of a later period: a period before it one period less has passed
pub in_first : (r d t : ℚ) → int (pos 0) <ℚ d → periods r d t ≡ 0 → t <ℚ r +ℚ d
in_first r d t some e =
    let l = subst (λ n. t <ℚ r +ℚ int (pos n) *ℚ d +ℚ d) e (periods_high r d t some) in
    with3 r d t (λ c. omega (arith, c.le, c.lt, c.same))

pub record IsLater (r d t : ℚ) (n : ℕ) : Type 0 where
  pub past : r +ℚ d ≤ℚ t
  pub fewer : periods r d (t -ℚ d) ≡ n

pub later_period : (r d t : ℚ) (n : ℕ) → int (pos 0) <ℚ d → periods r d t ≡ suc n → IsLater r d t n
later_period r d t n some e = record {
  past = past;
  fewer = let more = ap (periods r d) (sym same) ∙ periods_next r d (t -ℚ d) some from in omega (arith, more, e);
}
  where
    past : r +ℚ d ≤ℚ t
    past = elim (le_or_lt (r +ℚ d) t) [
      | inl h ↦ h
      | inr l ↦ absurd (let none = periods_small r d t some l in omega (arith, none, e))
    ]

    from : r ≤ℚ t -ℚ d
    from = let h = past in with3 r d t (λ c. omega (arith, c.le, c.lt, c.same))

    same : (t -ℚ d) +ℚ d ≡ t
    same = with2 t d (λ c. omega (arith, c.le, c.lt, c.same))

pub repeated_rule : (f : ℚ → Ext) (r d c : ℚ) → int (pos 0) <ℚ d → Repeats (repeated f r d c) r d c
repeated_rule f r d c h = record { rule = λ t k. repeated_next f r d c t h k }

-- a whole number of periods
pub repeats_times : (f : ℚ → Ext) (r d c : ℚ) (n : ℕ) → int (pos 0) ≤ℚ d → Repeats f r d c → Repeats f r (int (pos n) *ℚ d) (int (pos n) *ℚ c)
repeats_times f r d c zero h k = record {
  rule = λ t l.
      let z : int (pos 0) *ℚ d ≡ int (pos 0) = with1 d (λ c. omega (arith, c.le, c.lt, c.same)) in
      let w : int (pos 0) *ℚ c ≡ int (pos 0) = with1 c (λ c. omega (arith, c.le, c.lt, c.same)) in
      let same : t +ℚ int (pos 0) *ℚ d ≡ t = with2 t (int (pos 0) *ℚ d) (λ c. omega (arith, c.le, c.lt, c.same)) in
      ap f same ∙ sym (ap (λ y. f t +ₑ Fin y) w ∙ add_zero_ext (f t));
}
repeats_times f r d c (suc n) h k = record {
  rule = λ t l.
      let ih = repeats_times f r d c n h k in
      let o = one_more_times n d in
      let p = one_more_times n c in
      let past : r ≤ℚ t +ℚ int (pos n) *ℚ d = later_still n t l in
      let same : t +ℚ int (pos (suc n)) *ℚ d ≡ (t +ℚ int (pos n) *ℚ d) +ℚ d = with4 t d (int (pos n) *ℚ d) (int (pos (suc n)) *ℚ d) (λ c. omega (arith, c.le, c.lt, c.same)) in
      ap f same ∙ k.rule (t +ℚ int (pos n) *ℚ d) past ∙ ap (λ v. v +ₑ Fin c) (ih.rule t l) ∙ add_assoc_ext (f t) (int (pos n) *ℚ c) c ∙ ap (λ y. f t +ₑ Fin y) (sym p);
}
  where
    later_still : (n : ℕ) (t : ℚ) → r ≤ℚ t → r ≤ℚ t +ℚ int (pos n) *ℚ d
    later_still zero t l = with3 r t d (λ c. omega (arith, c.le, c.lt, c.same))
    later_still (suc n) t l =
        let i = later_still n t l in
        let o = one_more_times n d in
        with5 r t d (int (pos n) *ℚ d) (int (pos (suc n)) *ℚ d) (λ c. omega (arith, c.le, c.lt, c.same))

-- ---- a relation that holds up to rank + period, and that moves by a period from the rank on, holds at every time
pub tail_lemma : (Rel : ℚ → Ext → Type 0) (f : ℚ → Ext) (r d c : ℚ) → int (pos 0) ≤ℚ r → int (pos 0) <ℚ d
    → ((t : ℚ) → int (pos 0) ≤ℚ t → t <ℚ r +ℚ d → Rel t (f t))
    → ((t : ℚ) (v : Ext) → r ≤ℚ t → Rel t v → Rel (t +ℚ d) (v +ₑ Fin c))
    → (t : ℚ) → int (pos 0) ≤ℚ t → Rel t (repeated f r d c t)
tail_lemma Rel f r d c start h first next t some = go (periods r d t) t some refl
  where
    go : (n : ℕ) (t : ℚ) → int (pos 0) ≤ℚ t → periods r d t ≡ n → Rel t (repeated f r d c t)
    go zero t some e = let l = in_first r d t h e in subst (λ v. Rel t v) (sym (repeated_first f r d c t h l)) (first t some l)
    go (suc n) t some e =
        let L = later_period r d t n h e in
        let far = L.past in
        let u = t -ℚ d in
        let past : r ≤ℚ u = with3 r d t (λ c. omega (arith, c.le, c.lt, c.same)) in
        let some_u : int (pos 0) ≤ℚ u = with3 r d t (λ c. omega (arith, c.le, c.lt, c.same)) in
        let same : u +ℚ d ≡ t = with2 d t (λ c. omega (arith, c.le, c.lt, c.same)) in
        subst (λ t. Rel t (repeated f r d c t)) same
        (subst (λ v. Rel (u +ℚ d) v) (sym (repeated_next f r d c u h past)) (next u (repeated f r d c u) past (go n u some_u L.fewer)))

-- the same where f is cut at the rank
pub tail_lemma_infinite : (Rel : ℚ → Ext → Type 0) (f : ℚ → Ext) (r : ℚ)
    → ((t : ℚ) → int (pos 0) ≤ℚ t → t ≤ℚ r → Rel t (f t))
    → ((t : ℚ) → r <ℚ t → Rel t Inf)
    → (t : ℚ) → int (pos 0) ≤ℚ t → Rel t (cut f r t)
unfolding cut
tail_lemma_infinite Rel f r first after t some = elim (le_or_lt t r) [
  | inl l ↦ rw (le_q_out t r l) (first t some l)
  | inr l ↦ rw (le_q_not t r l) (after t l)
]
