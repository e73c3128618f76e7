-- A flow keeps its arrival curve in every closed window exactly where it does between its packets' entries.
use Rattle.std.specs.Prelude.{◌≡◌, ◌⊎◌, ℕ, zero, suc, ◌+◌, ◌<◌, ◌≤◌, ◌==◌, pos, false, ◌&&◌, List, [], ◌∷◌, length}
use Rattle.std.proofs.Common.{arith, refl, inl, inr}
use Rattle.std.proofs.lemmas.Bool.{cases_Bool, and_from, and_parts}
use Rattle.rational.specs.Rational.{ℚ, int, ◌+ℚ◌, ◌-ℚ◌, ◌≤ℚ◌, le_q}
use Rattle.rational.specs.Extended.{Ext, ◌≤ₑ◌, ◌<ₑ◌}
use Rattle.rational.specs.declared.Extended.TheVariants.{Fin, Inf}
use Rattle.rational.proofs.Laws.{le_refl, le_trans, le_or_lt, lt_le_trans, lt_irrefl}
use Rattle.rational.proofs.Linear.{with_atoms, with2, with3, with4}
use Rattle.rational.proofs.Over.{le_q_out, le_q_in}
use Rattle.rational.proofs.ExtendedOrder.{le_ext_trans}
use Rattle.run_laws.specs.declared.steps.Step.{Step}
use Rattle.run_laws.specs.declared.steps.Step.TheVariants.{Enter, Reach, Work, Leave, Visit}
use Rattle.run_laws.specs.Cards.{whole}
use Rattle.run_laws.specs.Counts.{when, within}
use Rattle.run_laws.specs.RunPremises.{entered_in}
use Rattle.run_laws.proofs.Sizes.{whole_nonneg, whole_le, whole_sum}
use Rattle.run_laws.proofs.Sums.{when_true, when_false, when_nonneg, add_nothing}
use Rattle.min_plus.specs.Functions.{zero_q, IsRising, IsNonnegative}
use Rattle.flow_watch.specs.declared.watch_laws.entering.Entering.{Entering}
use Rattle.flow_watch.specs.watch_laws.Entries.{entries, entering, bits_to, bits_between, IsCrowded, EntersFrom}

-- ---- the bits of a window, by the flow's entries
abbrev pub in_window : ℚ → ℚ → List Entering → ℚ
in_window s t [] = int (pos 0)
in_window s t (e ∷ es) = when (within s t e.time) (whole e.bits) +ℚ in_window s t es

pub window_is : (flow : ℕ) (s t : ℚ) (xs : List Step) → entered_in flow s t xs ≡ in_window s t (entries flow xs)
window_is flow s t [] = refl
window_is flow s t (Enter f p u b ∷ xs) = elim (cases_Bool (f == flow)) [
  | inl e ↦ rw (e, window_is flow s t xs) refl
  | inr e ↦ rw (e, window_is flow s t xs, when_false (false && within s t u) (whole b) refl) (add_nothing (in_window s t (entries flow xs)))
]
window_is flow s t (Reach r p u ∷ xs) = window_is flow s t xs
window_is flow s t (Work r p a b w ∷ xs) = window_is flow s t xs
window_is flow s t (Leave r p u ∷ xs) = window_is flow s t xs
window_is flow s t (Visit r q u ∷ xs) = window_is flow s t xs

window_nonneg : (s t : ℚ) (es : List Entering) → int (pos 0) ≤ℚ in_window s t es
window_nonneg s t [] = le_refl (int (pos 0))
window_nonneg s t (e ∷ es) =
    let a = when_nonneg (within s t e.time) (whole e.bits) (whole_nonneg e.bits) in
    let b = window_nonneg s t es in
    with2 (when (within s t e.time) (whole e.bits)) (in_window s t es) (λ c. omega (arith, c.le, c.lt, c.same))

-- ---- what is in a window is between two packets of it
record IsCovered (s t : ℚ) (es : List Entering) (i j : ℕ) : Type 0 where
  in_order : i ≤ j
  entered : j < length es
  from : s ≤ℚ (entering es i).time
  upto : (entering es j).time ≤ℚ t
  all : in_window s t es ≤ℚ whole (bits_between i j es)

bits_less : (i j : ℕ) (es : List Entering) → bits_between i j es ≤ bits_to j es
bits_less i j [] = omega arith
bits_less zero j (e ∷ es) = omega arith
bits_less (suc i) zero (e ∷ es) = omega arith
bits_less (suc i) (suc j) (e ∷ es) = let h = bits_less i j es in omega arith

one_more : (b m n : ℕ) (w : ℚ) → w ≤ℚ whole m → m ≤ n → whole b +ℚ w ≤ℚ whole (b + n)
one_more b m n w h k =
    let l = whole_le m n k in
    let e = whole_sum b n in
    with_atoms (w ∷ whole b ∷ whole m ∷ whole n ∷ whole (b + n) ∷ []) (λ c. omega (arith, c.le, c.lt, c.same))

only_one : (b : ℕ) (w : ℚ) → w ≤ℚ int (pos 0) → whole b +ℚ w ≤ℚ whole b
only_one b w h = with2 w (whole b) (λ c. omega (arith, c.le, c.lt, c.same))

covered : (s t : ℚ) (es : List Entering) → (in_window s t es ≤ℚ int (pos 0)) ⊎ ((i j : ℕ) × IsCovered s t es i j)
covered s t [] = inl (le_refl (int (pos 0)))
covered s t (e ∷ es) = elim (cases_Bool (within s t e.time)) [
  | inr out ↦
      let none = when_false (within s t e.time) (whole e.bits) out in
      elim (covered s t es) [
        | inl h ↦ inl (rw (none, add_nothing (in_window s t es)) h)
        | inr h ↦ let (i, j, is) = h in inr (suc i, suc j, record { in_order = let k = is.in_order in omega arith; entered = let k = is.entered in omega arith; from = is.from; upto = is.upto; all = rw (none, add_nothing (in_window s t es)) is.all })
      ]
  | inl ins ↦
      let some = when_true (within s t e.time) (whole e.bits) ins in
      let from_e : s ≤ℚ e.time = le_q_in s e.time (and_parts (le_q s e.time) (le_q e.time t) ins).0 in
      let upto_e : e.time ≤ℚ t = le_q_in e.time t (and_parts (le_q s e.time) (le_q e.time t) ins).1 in
      elim (covered s t es) [
        | inl h ↦ inr (0, 0, record { in_order = omega arith; entered = omega arith; from = from_e; upto = upto_e; all = rw some (only_one e.bits (in_window s t es) h) })
        | inr h ↦
            let (i, j, is) = h in
            inr (0, suc j, record { in_order = omega arith; entered = let k = is.entered in omega arith; from = from_e; upto = is.upto; all = rw some (one_more e.bits (bits_between i j es) (bits_to j es) (in_window s t es) is.all (bits_less i j es)) })
      ]
]

-- ---- and what is between two packets is in their window
times_after : (x : ℚ) (es : List Entering) (j : ℕ) → EntersFrom x es → j < length es → x ≤ℚ (entering es j).time
times_after x [] j h k = absurd (omega arith)
times_after x (e ∷ es) zero h k = h.0
times_after x (e ∷ es) (suc j) h k = le_trans h.0 (times_after e.time es j h.1 (omega arith))

pub times_rise : (x : ℚ) (es : List Entering) (i j : ℕ) → EntersFrom x es → i ≤ j → j < length es → (entering es i).time ≤ℚ (entering es j).time
times_rise x [] i j h k l = absurd (omega arith)
times_rise x (e ∷ es) zero zero h k l = le_refl e.time
times_rise x (e ∷ es) zero (suc j) h k l = times_after e.time es j h.1 (omega arith)
times_rise x (e ∷ es) (suc i) zero h k l = absurd (omega arith)
times_rise x (e ∷ es) (suc i) (suc j) h k l = times_rise e.time es i j h.1 (omega arith) (omega arith)

inside_window : (s t : ℚ) (e : Entering) → s ≤ℚ e.time → e.time ≤ℚ t → when (within s t e.time) (whole e.bits) ≡ whole e.bits
inside_window s t e h k = when_true (within s t e.time) (whole e.bits) (and_from (le_q s e.time) (le_q e.time t) (le_q_out s e.time h) (le_q_out e.time t k))

prefix_inside : (s x : ℚ) (es : List Entering) (j : ℕ) → s ≤ℚ x → EntersFrom x es → j < length es
    → whole (bits_to j es) ≤ℚ in_window s (entering es j).time es
prefix_inside s x [] j h k l = absurd (omega arith)
prefix_inside s x (e ∷ es) zero h k l =
    let n = window_nonneg s e.time es in
    rw (inside_window s e.time e (le_trans h k.0) (le_refl e.time)) (with2 (whole e.bits) (in_window s e.time es) (λ c. omega (arith, c.le, c.lt, c.same)))
prefix_inside s x (e ∷ es) (suc j) h k l =
    let t = (entering es j).time in
    let m = prefix_inside s e.time es j (le_trans h k.0) k.1 (omega arith) in
    let g = whole_sum e.bits (bits_to j es) in
    rw (inside_window s t e (le_trans h k.0) (times_after e.time es j k.1 (omega arith))) (join (whole e.bits) (whole (bits_to j es)) (whole (e.bits + bits_to j es)) (in_window s t es) g m)
  where
    join : (a b c w : ℚ) → c ≡ a +ℚ b → b ≤ℚ w → c ≤ℚ a +ℚ w
    join a b c w e f = with4 a b c w (λ k. omega (arith, k.le, k.lt, k.same))

between_inside : (x : ℚ) (es : List Entering) (i j : ℕ) → EntersFrom x es → i ≤ j → j < length es
    → whole (bits_between i j es) ≤ℚ in_window (entering es i).time (entering es j).time es
between_inside x [] i j h k l = absurd (omega arith)
between_inside x (e ∷ es) zero j h k l = prefix_inside e.time e.time (e ∷ es) j (le_refl e.time) (le_refl e.time, h.1) l
between_inside x (e ∷ es) (suc i) zero h k l = absurd (omega arith)
between_inside x (e ∷ es) (suc i) (suc j) h k l =
    let s = (entering es i).time in
    let t = (entering es j).time in
    more (when (within s t e.time) (whole e.bits)) (in_window s t es) (whole (bits_between i j es)) (when_nonneg (within s t e.time) (whole e.bits) (whole_nonneg e.bits)) (between_inside e.time es i j h.1 (omega arith) (omega arith))
  where
    more : (a w b : ℚ) → int (pos 0) ≤ℚ a → b ≤ℚ w → b ≤ℚ a +ℚ w
    more a w b e f = with3 a w b (λ k. omega (arith, k.le, k.lt, k.same))

-- ---- the curve
ext_cases : (x : Ext) (y : ℚ) → (Fin y ≤ₑ x) ⊎ (x <ₑ Fin y)
ext_cases Inf y = inl tt
ext_cases (Fin x) y = elim (le_or_lt y x) [ inl h ↦ inl h | inr h ↦ inr h ]

pub none_crowded : (α : ℚ → Ext) (x : ℚ) (es : List Entering) → IsRising α → IsNonnegative α → EntersFrom x es
    → ((i j : ℕ) → ¬ IsCrowded α es i j) → (s t : ℚ) → s ≤ℚ t → Fin (in_window s t es) ≤ₑ α (t -ℚ s)
none_crowded α x es rise nonneg sorted none s t h =
    let long : zero_q ≤ℚ t -ℚ s = with2 s t (λ c. omega (arith, c.le, c.lt, c.same)) in
    elim (covered s t es) [
      | inl k ↦ le_ext_trans (Fin (in_window s t es)) (Fin zero_q) (α (t -ℚ s)) k (nonneg (t -ℚ s) long)
      | inr k ↦
          let (i, j, is) = k in
          let a = (entering es i).time in
          let b = (entering es j).time in
          let fits = times_rise x es i j sorted is.in_order is.entered in
          elim (ext_cases (α (b -ℚ a)) (whole (bits_between i j es))) [
            | inl l ↦
                le_ext_trans (Fin (in_window s t es)) (Fin (whole (bits_between i j es))) (α (t -ℚ s)) is.all
                (le_ext_trans (Fin (whole (bits_between i j es))) (α (b -ℚ a)) (α (t -ℚ s)) l (rise (b -ℚ a) (t -ℚ s) (some a b fits) (shorter s t a b is.from is.upto)))
            | inr l ↦ absurd (none i j record { in_order = is.in_order; entered = is.entered; more = l })
          ]
    ]
  where
    some : (a b : ℚ) → a ≤ℚ b → zero_q ≤ℚ b -ℚ a
    some a b k = with2 a b (λ c. omega (arith, c.le, c.lt, c.same))

    shorter : (s t a b : ℚ) → s ≤ℚ a → b ≤ℚ t → b -ℚ a ≤ℚ t -ℚ s
    shorter s t a b k l = with4 s t a b (λ c. omega (arith, c.le, c.lt, c.same))

not_both : (w b : ℚ) (x : Ext) → Fin w ≤ₑ x → b ≤ℚ w → x <ₑ Fin b → ⊥
not_both w b Inf h k l = l
not_both w b (Fin x) h k l = lt_irrefl x (lt_le_trans l (le_trans k h))

pub crowded_breaks : (α : ℚ → Ext) (x : ℚ) (es : List Entering) (i j : ℕ) → EntersFrom x es → IsCrowded α es i j
    → ((s t : ℚ) → s ≤ℚ t → Fin (in_window s t es) ≤ₑ α (t -ℚ s)) → ⊥
crowded_breaks α x es i j sorted is keeps =
    let a = (entering es i).time in
    let b = (entering es j).time in
    not_both (in_window a b es) (whole (bits_between i j es)) (α (b -ℚ a)) (keeps a b (times_rise x es i j sorted is.in_order is.entered)) (between_inside x es i j sorted is.in_order is.entered) is.more
