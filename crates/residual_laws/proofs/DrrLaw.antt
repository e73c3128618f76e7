-- A queue of a deficit round robin server is served by its share of the server's curve.
use Rattle.std.specs.Prelude.{◌≡◌, ◌≢◌, ◌≤◌, ◌<◌, ◌+◌, ◌*◌, ℕ, zero, suc, pos, ◌==◌, ltb, leb, true, false, not, ◌&&◌, ◌||◌, List, [], ◌∷◌, length, get_or, sum}
use Rattle.std.proofs.Common.{arith, sym, ap, ap₂, ◌∙◌, refl, inl, inr, subst}
use Rattle.std.proofs.lemmas.Bool.{cases_Bool, cases_eq, cases_lt, eqb-true, eqb-false, ltb-true, ltb-false, lt-ltb, le-ltb, le-leb, lt-leb}
use Rattle.std.proofs.lemmas.List.Sums.{sum_by-cons}
use Rattle.rational.specs.Rational.{ℚ, int, ◌+ℚ◌, ◌-ℚ◌, ◌*ℚ◌, ◌≤ℚ◌, ◌<ℚ◌}
use Rattle.rational.specs.Extended.{Ext, ◌≤ₑ◌, ◌+ₑ◌}
use Rattle.rational.specs.declared.Extended.TheVariants.{Fin, Inf}
use Rattle.rational.proofs.Laws.{le_refl, le_trans, le_of_lt, le_or_lt, mul_le_mul, mul_le_mul_right, mul_add, add_mul, mul_sub, sub_mul, mul_comm, mul_assoc, mul_one}
use Rattle.rational.proofs.MinMax.{max_q_le}
use Rattle.rational.proofs.ExtendedOrder.{le_ext_trans, le_ext_refl, add_le_ext}
use Rattle.rational.proofs.Whole.{le_of_mul}
use Rattle.rational.proofs.Linear.{with1, with2, with3, with4, with5, with6, with7, with8}
use Rattle.min_plus.specs.Pointwise.{excess, scaled}
use Rattle.run_laws.specs.Cards.{Class, all, of_queue, before_queue, whole, ServerStep, Arrives, Works, Leaves, Visits}
use Rattle.run_laws.proofs.Always.{AreAlwaysParts, always_all}
use Rattle.run_laws.specs.Servers.{Drr, queue_count, Server, ServerState, start}
use Rattle.run_laws.specs.Next.{next}
use Rattle.run_laws.specs.Allows.{AllAllowed, IsLawfulView}
use Rattle.run_laws.specs.Counts.{when, before, arrived, worked, departed}
use Rattle.run_laws.specs.Premises.{EachArrival, KeepsService, KeepsSizes, IsBusy, IsZeroAtStart}
use Rattle.run_laws.specs.Serves.{Serves, IsServed}
use Rattle.run_laws.proofs.Sizes.{whole_nonneg, whole_sum, whole_le, whole_lt, whole_times}
use Rattle.run_laws.proofs.Levels.{finite_below, add_low}
use Rattle.run_laws.proofs.Sums.{when_true, when_false}
use Rattle.run_laws.proofs.Clips.{quotient}
use Rattle.run_laws.proofs.Counts.{worked_rises, worked_nonneg}
use Rattle.run_laws.proofs.Cuts.{all_works}
use Rattle.run_laws.proofs.Orders.{left_worked, worked_arrived}
use Rattle.run_laws.specs.Backlogged.{IsBacklogged}
use Rattle.run_laws.proofs.Backlogged.{backlogged_since}
use Rattle.run_laws.proofs.Gone.{gone_before}
use Rattle.run_laws.proofs.Parts.{arrived_parts, worked_parts}
use Rattle.run_laws.proofs.Arrivals.{none_arrive}
use Rattle.run_laws.proofs.Service.{itself}
use Rattle.residual_laws.specs.DrrLaws.{share, owed, drr_left, IsDrrService}
use Rattle.residual_laws.proofs.Shares.{IsShared, shared}

-- ---- the queues below k, and the others
abbrev beyond : ℕ → Class
beyond n c = leb n c.queue

below_parts : (k : ℕ) → AreAlwaysParts (before_queue (suc k)) (of_queue k) (before_queue k)
below_parts k = record { of_one = λ c. one c.queue; apart = λ c. two c.queue }
  where
    strict : (q : ℕ) → k ≤ q → (q ≡ k → ⊥) → k < q
    strict q f g = elim (cases_eq q k) [
      | inl h ↦ absurd (g h)
      | inr h ↦ omega arith
    ]

    one : (q : ℕ) → ltb q (suc k) ≡ ((q == k) || ltb q k)
    one q = elim (cases_Bool (q == k)) [
      | inl e ↦ let f = eqb-true q k e in rw (e, lt-ltb q (suc k) (omega arith)) refl
      | inr e ↦ elim (cases_Bool (ltb q k)) [
        | inl m ↦ let f = ltb-true q k m in rw (e, m, lt-ltb q (suc k) (omega arith)) refl
        | inr m ↦
            let less : k < q = strict q (ltb-false q k m) (eqb-false q k e) in
            rw (e, m, le-ltb q (suc k) (omega arith)) refl
      ]
    ]

    two : (q : ℕ) → ((q == k) && ltb q k) ≡ false
    two q = elim (cases_Bool (q == k)) [
      | inl e ↦ let f = eqb-true q k e in rw (e, le-ltb q k (omega arith)) refl
      | inr e ↦ rw e refl
    ]

all_below : (n : ℕ) → AreAlwaysParts all (before_queue n) (beyond n)
all_below n = record { of_one = λ c. one c.queue; apart = λ c. two c.queue }
  where
    one : (q : ℕ) → true ≡ (ltb q n || leb n q)
    one q = elim (cases_Bool (ltb q n)) [
      | inl e ↦ rw e refl
      | inr e ↦ rw (e, le-leb n q (ltb-false q n e)) refl
    ]

    two : (q : ℕ) → (ltb q n && leb n q) ≡ false
    two q = elim (cases_Bool (ltb q n)) [
      | inl e ↦ rw (e, lt-leb n q (ltb-true q n e)) refl
      | inr e ↦ rw e refl
    ]

-- nothing arrives beyond the last queue
none_beyond : (server : Server) (end : ℚ) (σ : ServerState) (V : List ServerStep) (n : ℕ) → queue_count server.discipline ≡ n
    → AllAllowed server end σ V → EachArrival (λ c. beyond n c ≡ false) V
none_beyond server end σ [] n e a = tt
none_beyond server end σ (Arrives c t ∷ V) n e a =
    (lt-leb n c.queue (subst (λ (k : ℕ). c.queue < k) e a.0.1.known_queue), none_beyond server end (next server.discipline σ (Arrives c t)) V n e a.1)
none_beyond server end σ (Works c b f w ∷ V) n e a = none_beyond server end (next server.discipline σ (Works c b f w)) V n e a.1
none_beyond server end σ (Leaves c t ∷ V) n e a = none_beyond server end (next server.discipline σ (Leaves c t)) V n e a.1
none_beyond server end σ (Visits q t ∷ V) n e a = none_beyond server end (next server.discipline σ (Visits q t)) V n e a.1

-- of the first n
abbrev sum_to : (ℕ → ℕ) → ℕ → ℕ
sum_to f zero = 0
sum_to f (suc n) = sum_to f n + f n

-- ---- the queues' gains add up
none_le : {x : ℚ} → x ≡ int (pos 0) → x ≤ℚ int (pos 0)
none_le {x} e = rw e (le_refl (int (pos 0)))

none_before : (server : Server) (end : ℚ) (V : List ServerStep) (t : ℚ) → IsLawfulView server end V
    → worked (before_queue zero) V t ≤ℚ int (pos 0)
none_before server end V t lawful = le_trans (worked_arrived server end V (before_queue zero) t lawful) (none_le (none_arrive (before_queue zero) (before t) V (nothing V)))
  where
    nothing : (V : List ServerStep) → EachArrival (λ c. before_queue zero c ≡ false) V
    nothing [] = tt
    nothing (Arrives c u ∷ V) = (le-ltb c.queue zero (omega arith), nothing V)
    nothing (Works c b f w ∷ V) = nothing V
    nothing (Leaves c u ∷ V) = nothing V
    nothing (Visits q u ∷ V) = nothing V

gains : (server : Server) (end : ℚ) (V : List ServerStep) (Q l : ℕ → ℕ) (i p k : ℕ) (s t : ℚ) → IsLawfulView server end V
    → IsShared V Q l i s t p
    → worked (before_queue k) V t +ℚ when (ltb i k) (whole (l i + (p + 1) * Q i)) ≤ℚ worked (before_queue k) V s +ℚ when (ltb i k) (worked (of_queue i) V t -ℚ worked (of_queue i) V s) +ℚ whole (sum_to (λ j. l j + (p + 1) * Q j) k)
gains server end V Q l i p zero s t lawful h =
    let no : ltb i zero ≡ false = le-ltb i zero (omega arith) in
    let a = none_before server end V t lawful in
    let b = worked_nonneg (before_queue zero) V s (all_works server end (start server.discipline) V lawful.allowed) in
    rw (when_false (ltb i zero) (whole (l i + (p + 1) * Q i)) no, when_false (ltb i zero) (worked (of_queue i) V t -ℚ worked (of_queue i) V s) no) (with2 (worked (before_queue zero) V t) (worked (before_queue zero) V s) (λ c. omega (arith, c.le, c.lt, c.same)))
gains server end V Q l i p (suc k) s t lawful h =
    let rest = gains server end V Q l i p k s t lawful h in
    let parts_t = worked_parts (before_queue (suc k)) (of_queue k) (before_queue k) V t (below_parts k) in
    let parts_s = worked_parts (before_queue (suc k)) (of_queue k) (before_queue k) V s (below_parts k) in
    let sum = whole_sum (sum_to (λ j. l j + (p + 1) * Q j) k) (l k + (p + 1) * Q k) in
    elim (cases_eq k i) [
      | inl e ↦
          let yes : ltb i (suc k) ≡ true = lt-ltb i (suc k) (omega arith) in
          let no : ltb i k ≡ false = le-ltb i k (omega arith) in
          let rest2 = rw (when_false (ltb i k) (whole (l i + (p + 1) * Q i)) no, when_false (ltb i k) (worked (of_queue i) V t -ℚ worked (of_queue i) V s) no) at rest in
          let same : whole (l i + (p + 1) * Q i) ≡ whole (l k + (p + 1) * Q k) = ap (λ (j : ℕ). whole (l j + (p + 1) * Q j)) (sym e) in
          let own_t : worked (of_queue i) V t ≡ worked (of_queue k) V t = ap (λ (j : ℕ). worked (of_queue j) V t) (sym e) in
          let own_s : worked (of_queue i) V s ≡ worked (of_queue k) V s = ap (λ (j : ℕ). worked (of_queue j) V s) (sym e) in
          rw (when_true (ltb i (suc k)) (whole (l i + (p + 1) * Q i)) yes, when_true (ltb i (suc k)) (worked (of_queue i) V t -ℚ worked (of_queue i) V s) yes)
          (own_case (worked (before_queue (suc k)) V t) (worked (before_queue (suc k)) V s) (worked (before_queue k) V t) (worked (before_queue k) V s) (worked (of_queue k) V t) (worked (of_queue k) V s) (worked (of_queue i) V t) (worked (of_queue i) V s) (whole (sum_to (λ j. l j + (p + 1) * Q j) k)) (whole (sum_to (λ j. l j + (p + 1) * Q j) (suc k))) (whole (l k + (p + 1) * Q k)) (whole (l i + (p + 1) * Q i)) parts_t parts_s sum same own_t own_s rest2)
      | inr e ↦
          let bound = h.others k e in
          let same : ltb i (suc k) ≡ ltb i k = next_test i k e in
          rw same (other_case (worked (before_queue (suc k)) V t) (worked (before_queue (suc k)) V s) (worked (before_queue k) V t) (worked (before_queue k) V s) (worked (of_queue k) V t) (worked (of_queue k) V s) (whole (sum_to (λ j. l j + (p + 1) * Q j) k)) (whole (sum_to (λ j. l j + (p + 1) * Q j) (suc k))) (whole (l k + (p + 1) * Q k)) (when (ltb i k) (whole (l i + (p + 1) * Q i))) (when (ltb i k) (worked (of_queue i) V t -ℚ worked (of_queue i) V s)) parts_t parts_s sum bound rest)
    ]
  where
    own_case : (N_t N_s B_t B_s K_t K_s I_t I_s S S2 X Y : ℚ) → N_t ≡ K_t +ℚ B_t → N_s ≡ K_s +ℚ B_s → S2 ≡ S +ℚ X → Y ≡ X → I_t ≡ K_t
        → I_s ≡ K_s → B_t +ℚ int (pos 0) ≤ℚ B_s +ℚ int (pos 0) +ℚ S → N_t +ℚ Y ≤ℚ N_s +ℚ (I_t -ℚ I_s) +ℚ S2
    own_case N_t N_s B_t B_s K_t K_s I_t I_s S S2 X Y e1 e2 e3 e4 e5 e6 h =
        let one : N_t +ℚ X ≤ℚ N_s +ℚ (K_t -ℚ K_s) +ℚ (S +ℚ X) = with8 N_t N_s B_t B_s K_t K_s S X (λ c. omega (arith, c.le, c.lt, c.same)) in
        rw (e3, e4, e5, e6) one

    other_case : (N_t N_s B_t B_s K_t K_s S S2 X Y Z : ℚ) → N_t ≡ K_t +ℚ B_t → N_s ≡ K_s +ℚ B_s → S2 ≡ S +ℚ X → K_t ≤ℚ K_s +ℚ X
        → B_t +ℚ Y ≤ℚ B_s +ℚ Z +ℚ S → N_t +ℚ Y ≤ℚ N_s +ℚ Z +ℚ S2
    other_case N_t N_s B_t B_s K_t K_s S S2 X Y Z e1 e2 e3 b h =
        let one : K_t +ℚ B_t +ℚ Y ≤ℚ K_s +ℚ B_s +ℚ Z +ℚ (S +ℚ X) = with8 K_t B_t Y K_s B_s Z S X (λ c. omega (arith, c.le, c.lt, c.same)) in
        rw (e1, e2, e3) one

    next_test : (i k : ℕ) → k ≢ i → ltb i (suc k) ≡ ltb i k
    next_test i k e = elim (cases_lt i k) [
      | inl h ↦ lt-ltb i (suc k) (omega arith) ∙ sym (lt-ltb i k h)
      | inr h ↦ le-ltb i (suc k) (omega arith) ∙ sym (le-ltb i k h)
    ]

-- ---- sums of numbers
sum_of_list : (xs : List ℕ) → sum_to (λ q. get_or xs q 0) (length xs) ≡ sum xs
sum_of_list [] = refl
sum_of_list (x ∷ xs) = from_front (λ q. get_or (x ∷ xs) q 0) (length xs) ∙ ap (λ (n : ℕ). x + n) (sum_of_list xs) ∙ sym (sum_by-cons (λ (n : ℕ). n) x xs)
  where
    from_front : (f : ℕ → ℕ) (n : ℕ) → sum_to f (suc n) ≡ f 0 + sum_to (λ k. f (suc k)) n
    from_front f zero = omega arith
    from_front f (suc n) = let h = from_front f n in omega arith

sum_split : (Q l : ℕ → ℕ) (p n : ℕ) → sum_to (λ j. l j + (p + 1) * Q j) n ≡ sum_to l n + (p + 1) * sum_to Q n
sum_split Q l p zero = omega arith
sum_split Q l p (suc n) = let h = sum_split Q l p n in omega arith

sum_most : (f : ℕ → ℕ) (i n : ℕ) → i < n → f i ≤ sum_to f n
sum_most f i zero h = absurd (omega arith)
sum_most f i (suc n) h = elim (cases_eq i n) [
  | inl e ↦ let k : f i ≡ f n = ap f e in omega arith
  | inr e ↦ let k = sum_most f i n (omega arith) in omega arith
]

-- ---- the arithmetic of the share
share_bound : (q f L l P w b : ℚ) → int (pos 0) ≤ℚ q → q ≤ℚ f → P *ℚ q ≤ℚ w +ℚ l → b ≤ℚ w +ℚ (L -ℚ l) +ℚ (P +ℚ int (pos 1)) *ℚ (f -ℚ q)
    → q *ℚ b -ℚ q *ℚ (L -ℚ l) -ℚ (f -ℚ q) *ℚ (q +ℚ l) ≤ℚ w *ℚ f
share_bound q f L l P w b q_on q_f own all_b =
    let k = f -ℚ q in
    let k_on : int (pos 0) ≤ℚ k = with2 f q (λ c. omega (arith, c.le, c.lt, c.same)) in
    share (q) f k L l P w b q_on k_on own all_b (mul_sub w f q)
  where
    share : (q f k L l P w b : ℚ) → int (pos 0) ≤ℚ q → int (pos 0) ≤ℚ k → P *ℚ q ≤ℚ w +ℚ l → b ≤ℚ w +ℚ (L -ℚ l) +ℚ (P +ℚ int (pos 1)) *ℚ k
        → w *ℚ k ≡ w *ℚ f -ℚ w *ℚ q → q *ℚ b -ℚ q *ℚ (L -ℚ l) -ℚ k *ℚ (q +ℚ l) ≤ℚ w *ℚ f
    share q f k L l P w b q_on k_on own all_b e7 =
        let X = (P +ℚ int (pos 1)) *ℚ k in
        let m1 : q *ℚ b ≤ℚ q *ℚ (w +ℚ (L -ℚ l) +ℚ X) = mul_le_mul q q_on all_b in
        let e1 = mul_add q (w +ℚ (L -ℚ l)) X in
        let e2 = mul_add q w (L -ℚ l) in
        let inner : q *ℚ (P +ℚ int (pos 1)) ≡ P *ℚ q +ℚ q = mul_add q P (int (pos 1)) ∙ ap (λ (y : ℚ). y +ℚ q *ℚ int (pos 1)) (mul_comm q P) ∙ ap (λ (y : ℚ). P *ℚ q +ℚ y) (mul_one q) in
        let e3 : q *ℚ X ≡ (P *ℚ q +ℚ q) *ℚ k = sym (mul_assoc q (P +ℚ int (pos 1)) k) ∙ ap (λ (y : ℚ). y *ℚ k) inner in
        let own_q : P *ℚ q +ℚ q ≤ℚ (w +ℚ l) +ℚ q = with4 (P *ℚ q) q w l (λ c. omega (arith, c.le, c.lt, c.same)) in
        let m2 : (P *ℚ q +ℚ q) *ℚ k ≤ℚ ((w +ℚ l) +ℚ q) *ℚ k = mul_le_mul_right k k_on own_q in
        let Y = ((w +ℚ l) +ℚ q) *ℚ k in
        let one : q *ℚ b ≤ℚ q *ℚ w +ℚ q *ℚ (L -ℚ l) +ℚ Y =
        step_one (q *ℚ b) (q *ℚ (w +ℚ (L -ℚ l) +ℚ X)) (q *ℚ (w +ℚ (L -ℚ l))) (q *ℚ X) (q *ℚ w) (q *ℚ (L -ℚ l)) Y ((P *ℚ q +ℚ q) *ℚ k) m1 e1 e2 e3 m2 in
        let two : Y ≡ w *ℚ k +ℚ k *ℚ (q +ℚ l) =
        step_two Y ((w +ℚ l) *ℚ k) (q *ℚ k) (w *ℚ k) (l *ℚ k) (k *ℚ (q +ℚ l)) (k *ℚ q) (k *ℚ l) (add_mul (w +ℚ l) q k) (add_mul w l k) (mul_add k q l) (mul_comm k q) (mul_comm k l) in
        step_three (q *ℚ b) (q *ℚ (L -ℚ l)) (q *ℚ w) Y (w *ℚ k) (k *ℚ (q +ℚ l)) (w *ℚ f) (w *ℚ q) one two e7 (mul_comm w q)
      where
        step_one : (a b c d e f g h : ℚ) → a ≤ℚ b → b ≡ c +ℚ d → c ≡ e +ℚ f → d ≡ h → h ≤ℚ g → a ≤ℚ e +ℚ f +ℚ g
        step_one a b c d e f g h k1 k2 k3 k4 k5 = with8 a b c d e f g h (λ c. omega (arith, c.le, c.lt, c.same))

        step_two : (y a b c d e f g : ℚ) → y ≡ a +ℚ b → a ≡ c +ℚ d → e ≡ f +ℚ g → f ≡ b → g ≡ d → y ≡ c +ℚ e
        step_two y a b c d e f g k1 k2 k3 k4 k5 = with8 y a b c d e f g (λ c. omega (arith, c.le, c.lt, c.same))

        step_three : (a b c y d e f g : ℚ) → a ≤ℚ c +ℚ b +ℚ y → y ≡ d +ℚ e → d ≡ f -ℚ g → g ≡ c → a -ℚ b -ℚ e ≤ℚ f
        step_three a b c y d e f g k1 k2 k3 k4 = with8 a b c y d e f g (λ c. omega (arith, c.le, c.lt, c.same))

-- a share of at most w
share_most : (Q l F Λ p : ℕ) (b w : ℚ) → 1 ≤ Q → Q ≤ F → int (pos 0) ≤ℚ w → whole (p * Q) ≤ℚ w +ℚ whole l
    → b ≤ℚ w +ℚ (whole Λ -ℚ whole l) +ℚ (whole p +ℚ int (pos 1)) *ℚ (whole F -ℚ whole Q)
    → excess (scaled (share Q F) (Fin b)) (Fin (owed Q l F Λ)) ≤ₑ Fin w
share_most Q l F Λ p b w some most on own all_b =
    let q_on = whole_nonneg Q in
    let q_f = whole_le Q F most in
    let own_q : whole p *ℚ whole Q ≤ℚ w +ℚ whole l = subst (λ (y : ℚ). y ≤ℚ w +ℚ whole l) (whole_times p Q) own in
    let bound = share_bound (whole Q) (whole F) (whole Λ) (whole l) (whole p) w b q_on q_f own_q all_b in
    let f_pos : int (pos 0) <ℚ whole F = whole_lt 0 F (omega arith) in
    let N = whole Q *ℚ (whole Λ -ℚ whole l) +ℚ (whole F -ℚ whole Q) *ℚ (whole Q +ℚ whole l) in
    let back : share Q F *ℚ b *ℚ whole F ≡ whole Q *ℚ b =
    mul_assoc (share Q F) b (whole F) ∙ ap (λ (y : ℚ). share Q F *ℚ y) (mul_comm b (whole F)) ∙ sym (mul_assoc (share Q F) (whole F) b) ∙ ap (λ (y : ℚ). y *ℚ b) (quotient (whole Q) (whole F) f_pos) in
    let due : owed Q l F Λ *ℚ whole F ≡ N = quotient N (whole F) f_pos in
    let split = sub_mul (share Q F *ℚ b) (owed Q l F Λ) (whole F) in
    let most_w : share Q F *ℚ b -ℚ owed Q l F Λ ≤ℚ w =
    le_of_mul (whole F) (share Q F *ℚ b -ℚ owed Q l F Λ) w f_pos
    (times (share Q F *ℚ b -ℚ owed Q l F Λ) (share Q F *ℚ b) (owed Q l F Λ) (whole F) (whole Q *ℚ b) (whole Q *ℚ (whole Λ -ℚ whole l)) ((whole F -ℚ whole Q) *ℚ (whole Q +ℚ whole l)) (w *ℚ whole F) split back due bound) in
    max_q_le (int (pos 0)) (share Q F *ℚ b -ℚ owed Q l F Λ) w on most_w
  where
    times : (d s o f qb n m wf : ℚ) → d *ℚ f ≡ s *ℚ f -ℚ o *ℚ f → s *ℚ f ≡ qb → o *ℚ f ≡ n +ℚ m → qb -ℚ n -ℚ m ≤ℚ wf → d *ℚ f ≤ℚ wf
    times d s o f qb n m wf e1 e2 e3 h = with7 (d *ℚ f) (s *ℚ f) (o *ℚ f) qb n m wf (λ c. omega (arith, c.le, c.lt, c.same))

-- ---- the law
in_period : (server : Server) (end : ℚ) (V : List ServerStep) (quanta : List ℕ) (l : ℕ → ℕ) (i p : ℕ) (β : ℚ → Ext) (t s : ℚ)
    → IsLawfulView server end V → server.discipline ≡ Drr quanta → i < length quanta → 1 ≤ get_or quanta i 0
    → KeepsService β end V → t ≤ℚ end → IsBacklogged (of_queue i) V s t → IsShared V (λ q. get_or quanta q 0) l i s t p
    → IsServed (of_queue i) (drr_left β (get_or quanta i 0) (l i) (sum_to (λ q. get_or quanta q 0) (length quanta)) (sum_to l (length quanta))) V t s
in_period server end V quanta l i p β t s lawful e r some service in_run is h =
    let n = length quanta in
    let Q = λ (q : ℕ). get_or quanta q 0 in
    let own : Class = of_queue i in
    let busy : IsBusy V s t = λ x a b. all_busy x a b in
    let (b, level, served) = finite_below (worked all V s) (worked all V t) (β (t -ℚ s)) (service s t is.begins in_run busy) in
    let sum = gains server end V Q l i p n s t lawful h in
    let yes : ltb i n ≡ true = lt-ltb i n r in
    let sum2 = rw (when_true (ltb i n) (whole (l i + (p + 1) * Q i)) yes, when_true (ltb i n) (worked own V t -ℚ worked own V s) yes) at sum in
    let parts_t = worked_parts all (before_queue n) (beyond n) V t (all_below n) in
    let parts_s = worked_parts all (before_queue n) (beyond n) V s (all_below n) in
    let works = all_works server end (start server.discipline) V lawful.allowed in
    let none_t : worked (beyond n) V t ≤ℚ int (pos 0) = le_trans (worked_arrived server end V (beyond n) t lawful) (none_le (none_arrive (beyond n) (before t) V (none_beyond server end (start server.discipline) V n (ap queue_count e) lawful.allowed))) in
    let none_s = worked_nonneg (beyond n) V s works in
    let caught = is.caught_up in
    let rise = worked_rises own V s t works (le_of_lt is.begins) in
    let same_caught = worked_arrived server end V own s lawful in
    let gained = worked own V t -ℚ worked own V s in
    let gained_on : int (pos 0) ≤ℚ gained = with2 (worked own V t) (worked own V s) (λ c. omega (arith, c.le, c.lt, c.same)) in
    let sums : sum_to (λ j. l j + (p + 1) * Q j) n ≡ sum_to l n + (p + 1) * sum_to Q n = sum_split Q l p n in
    let F = sum_to Q n in
    let Λ = sum_to l n in
    let big : whole (sum_to (λ j. l j + (p + 1) * Q j) n) ≡ whole Λ +ℚ (whole p +ℚ int (pos 1)) *ℚ whole F = ap whole sums ∙ turned Λ p F in
    let small : whole (l i + (p + 1) * Q i) ≡ whole (l i) +ℚ (whole p +ℚ int (pos 1)) *ℚ whole (Q i) = turned (l i) p (Q i) in
    let all_b : b ≤ℚ gained +ℚ (whole Λ -ℚ whole (l i)) +ℚ (whole p +ℚ int (pos 1)) *ℚ (whole F -ℚ whole (Q i)) =
    together (worked all V t) (worked all V s) (worked (before_queue n) V t) (worked (before_queue n) V s) (worked (beyond n) V t) (worked (beyond n) V s) b gained (whole (sum_to (λ j. l j + (p + 1) * Q j) n)) (whole (l i + (p + 1) * Q i))
    (whole Λ) (whole (l i)) ((whole p +ℚ int (pos 1)) *ℚ whole F) ((whole p +ℚ int (pos 1)) *ℚ whole (Q i)) ((whole p +ℚ int (pos 1)) *ℚ (whole F -ℚ whole (Q i))) served parts_t parts_s none_t none_s sum2 big small (mul_sub (whole p +ℚ int (pos 1)) (whole F) (whole (Q i))) in
    let bound = share_most (Q i) (l i) F Λ p b gained some (sum_most Q i n r) gained_on h.own all_b in
    record {
      earlier = le_of_lt is.begins;
      left = gone_before server end V own s t lawful caught is.begins;
      kept_up = rw level (le_ext_trans (Fin (arrived own V s) +ₑ excess (scaled (share (Q i) F) (Fin b)) (Fin (owed (Q i) (l i) F Λ))) (Fin (arrived own V s) +ₑ Fin gained) (Fin (worked own V t))
          (add_le_ext (Fin (arrived own V s)) (Fin (arrived own V s)) (excess (scaled (share (Q i) F) (Fin b)) (Fin (owed (Q i) (l i) F Λ))) (Fin gained) (le_ext_refl (Fin (arrived own V s))) bound)
          (with3 (arrived own V s) (worked own V s) (worked own V t) (λ c. omega (arith, c.le, c.lt, c.same))));
    }
  where
    all_busy : (x : ℚ) → s <ℚ x → x <ℚ t → worked all V x <ℚ arrived all V x
    all_busy x a b =
        let one = is.busy x a b in
        let two = worked_arrived server end V (λ c. not (c.queue == i)) x lawful in
        let w = worked_parts all (of_queue i) (λ c. not (c.queue == i)) V x halves in
        let a = arrived_parts all (of_queue i) (λ c. not (c.queue == i)) V x halves in
        with6 (worked all V x) (arrived all V x) (worked (of_queue i) V x) (arrived (of_queue i) V x) (worked (λ c. not (c.queue == i)) V x) (arrived (λ c. not (c.queue == i)) V x) (λ c. omega (arith, c.le, c.lt, c.same))
      where
        halves : AreAlwaysParts all (of_queue i) (λ c. not (c.queue == i))
        halves = always_all (of_queue i)

    turned : (a p b : ℕ) → whole (a + (p + 1) * b) ≡ whole a +ℚ (whole p +ℚ int (pos 1)) *ℚ whole b
    turned a p b = whole_sum a ((p + 1) * b) ∙ ap (λ (y : ℚ). whole a +ℚ y) (whole_times (p + 1) b ∙ ap (λ (y : ℚ). y *ℚ whole b) (whole_sum p 1))

    together : (At As Nt Ns Bt Bs b g S X Λ l PF PQ PFQ : ℚ) → As +ℚ b ≤ℚ At → At ≡ Nt +ℚ Bt → As ≡ Ns +ℚ Bs → Bt ≤ℚ int (pos 0)
        → int (pos 0) ≤ℚ Bs → Nt +ℚ X ≤ℚ Ns +ℚ g +ℚ S → S ≡ Λ +ℚ PF → X ≡ l +ℚ PQ → PFQ ≡ PF -ℚ PQ → b ≤ℚ g +ℚ (Λ -ℚ l) +ℚ PFQ
    together At As Nt Ns Bt Bs b g S X Λ l PF PQ PFQ h1 e1 e2 h2 h3 h4 e3 e4 e5 =
        let one : Ns +ℚ b ≤ℚ Nt = with7 At As Nt Ns Bt Bs b (λ c. omega (arith, c.le, c.lt, c.same)) in
        let two : b +ℚ X ≤ℚ g +ℚ S = with6 Nt Ns b X g S (λ c. omega (arith, c.le, c.lt, c.same)) in
        let three : b +ℚ (l +ℚ PQ) ≤ℚ g +ℚ (Λ +ℚ PF) = rw (e3, e4) at two in
        with7 b l PQ g Λ PF PFQ (λ c. omega (arith, c.le, c.lt, c.same))

in_sums : (server : Server) (end : ℚ) (V : List ServerStep) (quanta : List ℕ) (l : ℕ → ℕ) (i : ℕ) (β : ℚ → Ext) → IsLawfulView server end V
    → server.discipline ≡ Drr quanta → i < length quanta → 1 ≤ get_or quanta i 0
    → ((q : ℕ) → KeepsSizes (of_queue q) (l q) V) → KeepsService β end V → IsZeroAtStart β
    → Serves (of_queue i) (drr_left β (get_or quanta i 0) (l i) (sum_to (λ q. get_or quanta q 0) (length quanta)) (sum_to l (length quanta))) end V
in_sums server end V quanta l i β lawful e r some sizes service flat t in_run =
    let own : Class = of_queue i in
    let Q = λ (q : ℕ). get_or quanta q 0 in
    let n = length quanta in
    elim (le_or_lt (arrived own V t) (departed own V t)) [
      | inl m ↦
          let o = left_worked server end V own t lawful in
          let at_0 : drr_left β (Q i) (l i) (sum_to Q n) (sum_to l n) (int (pos 0)) ≤ₑ Fin (int (pos 0)) = by_start (Q i) (l i) (sum_to Q n) (sum_to l n) some (sum_most Q i n r) (sum_most l i n r) (β (int (pos 0))) flat in
          (t, record { earlier = le_refl t; left = m; kept_up = add_low (arrived own V t) (worked own V t) (drr_left β (Q i) (l i) (sum_to Q n) (sum_to l n) (t -ℚ t)) (itself (drr_left β (Q i) (l i) (sum_to Q n) (sum_to l n)) t at_0) (le_trans m o) })
      | inr m ↦
          let found = backlogged_since server end V own t lawful m in
          let given = shared server end V quanta l i found.0 t lawful e r sizes found.1.begins m found.1.busy in
          (found.0, in_period server end V quanta l i given.0 β t found.0 lawful e r some service in_run found.1 given.1)
    ]
  where
    nothing_owed : (Q l : ℕ) → whole (0 * Q) ≤ℚ int (pos 0) +ℚ whole l
    nothing_owed Q l =
        let z : 0 * Q ≡ 0 = omega arith in
        let l_on = whole_nonneg l in
        rw z (with1 (whole l) (λ c. omega (arith, c.le, c.lt, c.same)))

    first_flat : (Q l F Λ : ℕ) (b : ℚ) → Q ≤ F → l ≤ Λ → b ≤ℚ int (pos 0)
        → b ≤ℚ int (pos 0) +ℚ (whole Λ -ℚ whole l) +ℚ (whole 0 +ℚ int (pos 1)) *ℚ (whole F -ℚ whole Q)
    first_flat Q l F Λ b h k low =
        let a = whole_le Q F h in
        let d = whole_le l Λ k in
        let one : whole 0 +ℚ int (pos 1) ≡ int (pos 1) = with1 (int (pos 1)) (λ c. omega (arith, c.le, c.lt, c.same)) in
        let times : (whole 0 +ℚ int (pos 1)) *ℚ (whole F -ℚ whole Q) ≡ whole F -ℚ whole Q = ap (λ (y : ℚ). y *ℚ (whole F -ℚ whole Q)) one ∙ mul_comm (int (pos 1)) (whole F -ℚ whole Q) ∙ mul_one (whole F -ℚ whole Q) in
        rw times (with5 b (whole Q) (whole F) (whole l) (whole Λ) (λ c. omega (arith, c.le, c.lt, c.same)))

    by_start : (Q l F Λ : ℕ) → 1 ≤ Q → Q ≤ F → l ≤ Λ → (x : Ext) → x ≤ₑ Fin (int (pos 0))
        → excess (scaled (share Q F) x) (Fin (owed Q l F Λ)) ≤ₑ Fin (int (pos 0))
    by_start Q l F Λ some h k Inf low = absurd low
    by_start Q l F Λ some h k (Fin b) low = share_most Q l F Λ 0 b (int (pos 0)) some h (le_refl (int (pos 0))) (nothing_owed Q l) (first_flat Q l F Λ b h k low)

-- a curve that is that at each time
same_service : (server : Server) (end : ℚ) (V : List ServerStep) (C : Class) (R k : ℚ → Ext) → ((t : ℚ) → int (pos 0) ≤ℚ t → R t ≡ k t)
    → Serves C k end V → Serves C R end V
same_service server end V C R k same serves t l =
    let (s, is) = serves t l in
    let early = is.earlier in
    (s, record { earlier = early; left = is.left; kept_up = subst (λ (y : Ext). (Fin (arrived C V s) +ₑ y) ≤ₑ Fin (worked C V t)) (sym (same (t -ℚ s) (with2 s t (λ c. omega (arith, c.le, c.lt, c.same))))) is.kept_up })

pub drr_serves : (server : Server) (end : ℚ) (V : List ServerStep) (quanta longest : List ℕ) (i : ℕ) (β R : ℚ → Ext)
    → IsLawfulView server end V → server.discipline ≡ Drr quanta → length longest ≡ length quanta → i < length quanta
    → 1 ≤ get_or quanta i 0
    → ((q : ℕ) → KeepsSizes (of_queue q) (get_or longest q 0) V) → KeepsService β end V → IsZeroAtStart β
    → IsDrrService β quanta longest i R → Serves (of_queue i) R end V
drr_serves server end V quanta longest i β R lawful e long r some sizes service flat is =
    let l : ℕ → ℕ = λ q. get_or longest q 0 in
    let F : sum_to (λ q. get_or quanta q 0) (length quanta) ≡ sum quanta = sum_of_list quanta in
    let Λ : sum_to l (length quanta) ≡ sum longest = ap (sum_to l) (sym long) ∙ sum_of_list longest in
    let same : (t : ℚ) → int (pos 0) ≤ℚ t
    → R t ≡ drr_left β (get_or quanta i 0) (l i) (sum_to (λ q. get_or quanta q 0) (length quanta)) (sum_to l (length quanta)) t =
    λ t on. is t on ∙ ap₂ (λ (f g : ℕ). drr_left β (get_or quanta i 0) (l i) f g t) (sym F) (sym Λ) in
    same_service server end V (of_queue i) R (drr_left β (get_or quanta i 0) (l i) (sum_to (λ q. get_or quanta q 0) (length quanta)) (sum_to l (length quanta))) same (in_sums server end V quanta l i β lawful e r some sizes service flat)
