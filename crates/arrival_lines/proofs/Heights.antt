-- The least height of the steps is the backlog.
use Rattle.std.specs.Prelude.{◌≡◌, ℕ, ◌+◌, ◌*◌, ◌<◌, ◌≤◌, List, length, get_or}
use Rattle.std.proofs.Common.{arith, sym, ap, ◌∙◌, refl, subst, inl, inr}
use Rattle.std.specs.Int.{div_ceil}
use Rattle.std.proofs.lemmas.Grind.{div_ceil_times}
use Rattle.std.proofs.lemmas.Bool.{cases_lt}
use Rattle.std.proofs.lemmas.List.{get_or_default}
use Rattle.rational.specs.Rational.{ℚ, ◌+ℚ◌, ◌-ℚ◌, ◌*ℚ◌, ◌/ℚ◌, ◌≤ℚ◌, ◌<ℚ◌}
use Rattle.rational.specs.MinMax.{max_q}
use Rattle.rational.proofs.Laws.{le_or_lt, le_of_lt, le_refl, le_of_mul, lt_of_mul, mul_comm, mul_assoc, mul_add, mul_sub, mul_le_mul, mul_le_mul_right, div_mul, not_zero}
use Rattle.rational.proofs.MinMax.{max_q_ge_left, max_q_ge_right, max_q_le}
use Rattle.rational.proofs.Quotients.{div_nonneg}
use Rattle.rational.proofs.Linear.{with2, with3, with4, with5, with6, with7, with8}
use Rattle.min_plus.specs.Functions.{zero_q, whole}
use Rattle.arrival_lines.specs.Grid.{grain, bits, speed, line_value, parts_value}
use Rattle.arrival_lines.specs.Steps.{IsAbove, AreSteps}
use Rattle.arrival_lines.specs.Excess.{IsExcess}
use Rattle.arrival_lines.specs.Backlogs.{passed_value, IsBacklogAt, IsLeastHeight, height_of}
use Rattle.arrival_lines.specs.declared.grid.Line.{Line}
use Rattle.arrival_lines.specs.declared.grid.Part.{Part}
use Rattle.arrival_lines.specs.declared.grid.Service.{Service}
use Rattle.arrival_lines.proofs.Units.{bits_add, bits_le, bits_whole, bits_nonneg, speed_le, speed_nonneg, speed_some, weighs, weighs_less, one_grain, up_covers}

-- ---- quotients rounded up, in bits
-- so many grains, in bits, rounded up
pub in_bits_covers : (n b : ℕ) → b ≡ div_ceil n 1024 → bits n ≤ℚ whole b
in_bits_covers n b e = subst (λ z. bits n ≤ℚ z) (bits_whole b) (bits_le n (1024 * b) (up_covers n 1024 b (omega arith) e))

up_near : (n d q : ℕ) → 0 < d → q ≡ div_ceil n d → q * d + 1 ≤ n + d
up_near n d q h e = let k : q * d < n + d = subst (λ x. x * d < n + d) (sym e) (div_ceil_times n d h).1 in omega (arith, k)

in_bits_near : (n b : ℕ) → b ≤ div_ceil n 1024 → whole b +ℚ grain ≤ℚ bits n +ℚ whole 1
in_bits_near n b h =
    let k = up_near n 1024 (div_ceil n 1024) (omega arith) refl in
    let l = bits_le (1024 * b + 1) (n + 1024 * 1) (omega (arith, h, k)) in
    let e = bits_add (1024 * b) 1 in
    let f = bits_add n (1024 * 1) in
    joined (bits (1024 * b + 1)) (bits (n + 1024 * 1)) (bits (1024 * b)) (bits 1) (bits n) (bits (1024 * 1)) l e f (bits_whole b) one_grain (bits_whole 1)
  where
    joined : (x y a g n o : ℚ) → x ≤ℚ y → x ≡ a +ℚ g → y ≡ n +ℚ o → a ≡ whole b → g ≡ grain → o ≡ whole 1 → whole b +ℚ grain ≤ℚ n +ℚ whole 1
    joined x y a g n o h e f p q r = rw (← p, ← q, ← r) (subst (λ z. a +ℚ g ≤ℚ z) f (subst (λ z. z ≤ℚ y) e h))

-- ---- above
-- where s m <= S q a line of the rate s is nowhere further above [S t - m]+ than q
below_kink : (s r t m q : ℚ) → zero_q ≤ℚ s → s ≤ℚ r → zero_q <ℚ r → s *ℚ m ≤ℚ r *ℚ q → s *ℚ t ≤ℚ q +ℚ max_q zero_q (r *ℚ t -ℚ m)
below_kink s r t m q on slow some h = elim (le_or_lt (r *ℚ t) m) [
  | inl early ↦
      let a = mul_le_mul s on early in
      let e : s *ℚ (r *ℚ t) ≡ r *ℚ (s *ℚ t) = sym (mul_assoc s r t) ∙ ap (λ z. z *ℚ t) (mul_comm s r) ∙ mul_assoc r s t in
      let b : s *ℚ t ≤ℚ q = of_times (s *ℚ t) q (low (s *ℚ (r *ℚ t)) (r *ℚ (s *ℚ t)) (s *ℚ m) (r *ℚ q) a e h) in
      let g = max_q_ge_left zero_q (r *ℚ t -ℚ m) in
      let x = s *ℚ t in
      let y = max_q zero_q (r *ℚ t -ℚ m) in
      with3 x q y (λ c. omega (arith, c.le, c.lt, c.same))
  | inr late ↦
      let over : zero_q ≤ℚ r *ℚ t -ℚ m = let x = r *ℚ t in with2 x m (λ c. omega (arith, c.le, c.lt, c.same)) in
      let a = mul_le_mul_right (r *ℚ t -ℚ m) over slow in
      let e1 = mul_sub s (r *ℚ t) m in
      let e : s *ℚ (r *ℚ t) ≡ r *ℚ (s *ℚ t) = sym (mul_assoc s r t) ∙ ap (λ z. z *ℚ t) (mul_comm s r) ∙ mul_assoc r s t in
      let e2 = mul_sub r (s *ℚ t) (r *ℚ t -ℚ m) in
      let b : s *ℚ t -ℚ (r *ℚ t -ℚ m) ≤ℚ q = of_times (s *ℚ t -ℚ (r *ℚ t -ℚ m)) q
      (high (s *ℚ (r *ℚ t)) (r *ℚ (s *ℚ t)) (s *ℚ m) (r *ℚ q) (s *ℚ (r *ℚ t -ℚ m)) (r *ℚ (r *ℚ t -ℚ m)) (r *ℚ (s *ℚ t -ℚ (r *ℚ t -ℚ m))) a e1 e e2 h) in
      let g = max_q_ge_right zero_q (r *ℚ t -ℚ m) in
      let x = s *ℚ t in
      let z = r *ℚ t in
      let y = max_q zero_q (r *ℚ t -ℚ m) in
      with5 x q z m y (λ c. omega (arith, c.le, c.lt, c.same))
]
  where
    of_times : (x y : ℚ) → r *ℚ x ≤ℚ r *ℚ y → x ≤ℚ y
    of_times x y k = le_of_mul r x y some (rw (mul_comm x r, mul_comm y r) k)

    low : (sr rs sm rq : ℚ) → sr ≤ℚ sm → sr ≡ rs → sm ≤ℚ rq → rs ≤ℚ rq
    low sr rs sm rq a e k = with4 sr rs sm rq (λ c. omega (arith, c.le, c.lt, c.same))

    high : (sr rs sm rq so ro all : ℚ) → so ≤ℚ ro → so ≡ sr -ℚ sm → sr ≡ rs → all ≡ rs -ℚ ro → sm ≤ℚ rq → all ≤ℚ rq
    high sr rs sm rq so ro all a e1 e e2 k = with7 sr rs sm rq so ro all (λ c. omega (arith, c.le, c.lt, c.same))

-- ---- the least height is above, and less than a bit above
module _ (parts : List Part) (lines : List Line) (x : ℕ) (service : Service) (longest b : ℕ) (some : 0 < service.rate) (are : AreSteps parts lines)
    (over : IsExcess parts service.rate x) (least : IsLeastHeight lines (length lines) x service longest b) where
  parted : bits (x + (service.debt + longest)) ≡ bits x +ℚ bits (service.debt + longest)
  parted = bits_add x (service.debt + longest)

  rate_some : zero_q <ℚ speed service.rate
  rate_some = speed_some service.rate some

  -- by the excess
  plain_above : b ≡ div_ceil (x + (service.debt + longest)) 1024 → (t : ℚ) → zero_q ≤ℚ t → parts_value parts t ≤ℚ whole b +ℚ passed_value service longest t
  plain_above e t on =
      let g = max_q_ge_right zero_q (speed service.rate *ℚ t -ℚ bits (service.debt + longest)) in
      joined (bits x) (bits (service.debt + longest)) (bits (x + (service.debt + longest))) (whole b) (speed service.rate *ℚ t) (passed_value service longest t) (parts_value parts t)
      parted (in_bits_covers (x + (service.debt + longest)) b e) g (over.over t on)
    where
      joined : (y m all w u v p : ℚ) → all ≡ y +ℚ m → all ≤ℚ w → u -ℚ m ≤ℚ v → p ≤ℚ y +ℚ u → p ≤ℚ w +ℚ v
      joined y m all w u v p e h g k = with7 y m all w u v p (λ c. omega (arith, c.le, c.lt, c.same))

  -- by a step that is no faster
  step_above : (line : Line) → IsAbove parts line → line.rate ≤ service.rate → b ≡ height_of line (service.debt + longest) service.rate
      → (t : ℚ) → zero_q ≤ℚ t → parts_value parts t ≤ℚ whole b +ℚ passed_value service longest t
  step_above line above slow e t on =
      let m = service.debt + longest in
      let q = div_ceil (line.rate * (service.debt + longest)) service.rate in
      let k = up_covers (line.rate * m) service.rate q some refl in
      let w = weighs line.rate m service.rate q k in
      let h = below_kink (speed line.rate) (speed service.rate) t (bits m) (bits q) (speed_nonneg line.rate) (speed_le line.rate service.rate slow) rate_some w in
      joined (bits line.burst) (bits q) (bits (line.burst + q)) (whole b) (speed line.rate *ℚ t) (passed_value service longest t) (parts_value parts t)
      (bits_add line.burst q) (in_bits_covers (line.burst + q) b e) h (above.above t on)
    where
      joined : (y m all w u v p : ℚ) → all ≡ y +ℚ m → all ≤ℚ w → u ≤ℚ m +ℚ v → p ≤ℚ y +ℚ u → p ≤ℚ w +ℚ v
      joined y m all w u v p e h g k = with7 y m all w u v p (λ c. omega (arith, c.le, c.lt, c.same))

  is_above : (t : ℚ) → zero_q ≤ℚ t → parts_value parts t ≤ℚ whole b +ℚ passed_value service longest t
  is_above t on = elim least.one [
    | inl e ↦ plain_above e t on
    | inr one ↦
        let d : Line = record { burst = 0; rate = 0 } in
        step_above (get_or lines one.0 d) (are.each one.0 d one.1.inside).above (one.1.slow d) (one.2 d) t on
  ]

  -- ---- near, where the rate has worked off debt and packet
  near_late : (t : ℚ) → bits (service.debt + longest) ≤ℚ speed service.rate *ℚ t → bits x +ℚ speed service.rate *ℚ t <ℚ parts_value parts t +ℚ grain
      → whole b +ℚ passed_value service longest t <ℚ parts_value parts t +ℚ whole 1
  near_late t late near =
      let p : passed_value service longest t ≤ℚ speed service.rate *ℚ t -ℚ bits (service.debt + longest) =
      max_q_le zero_q (speed service.rate *ℚ t -ℚ bits (service.debt + longest)) (speed service.rate *ℚ t -ℚ bits (service.debt + longest))
      (less (speed service.rate *ℚ t) (bits (service.debt + longest)) late) (le_refl _) in
      joined (bits x) (bits (service.debt + longest)) (bits (x + (service.debt + longest))) (whole b) (speed service.rate *ℚ t) (passed_value service longest t) (parts_value parts t) parted
      (in_bits_near (x + (service.debt + longest)) b least.plain) p near
    where
      less : (u m : ℚ) → m ≤ℚ u → zero_q ≤ℚ u -ℚ m
      less u m h = with2 u m (λ c. omega (arith, c.le, c.lt, c.same))

      joined : (y m all w u v p : ℚ) → all ≡ y +ℚ m → w +ℚ grain ≤ℚ all +ℚ whole 1 → v ≤ℚ u -ℚ m → y +ℚ u <ℚ p +ℚ grain → w +ℚ v <ℚ p +ℚ whole 1
      joined y m all w u v p e h g k = let n = grain in with8 y m all w u v p n (λ c. omega (arith, c.le, c.lt, c.same))

  -- and just then
  worked_is : speed service.rate *ℚ (bits (service.debt + longest) /ℚ speed service.rate) ≡ bits (service.debt + longest)
  worked_is = mul_comm (speed service.rate) _ ∙ div_mul (bits (service.debt + longest)) (speed service.rate) (not_zero _ rate_some)

  worked_on : zero_q ≤ℚ bits (service.debt + longest) /ℚ speed service.rate
  worked_on = div_nonneg (bits (service.debt + longest)) (speed service.rate) rate_some (bits_nonneg (service.debt + longest))

  -- a step that is no faster and is the sum then
  near_step : (t : ℚ) → speed service.rate *ℚ t ≡ bits (service.debt + longest) → (line : Line) → b ≤ height_of line (service.debt + longest) service.rate
      → line_value line t ≤ℚ parts_value parts t → whole b +ℚ passed_value service longest t <ℚ parts_value parts t +ℚ whole 1
  near_step t is line h tight =
      let m = service.debt + longest in
      let q = div_ceil (line.rate * (service.debt + longest)) service.rate in
      let k = up_near (line.rate * m) service.rate q some refl in
      let w = weighs_less service.rate q line.rate m (omega (arith, k)) in
      let less = rounded (speed line.rate) (speed service.rate) t (bits m) (bits q) rate_some is w in
      let none : passed_value service longest t ≤ℚ zero_q = max_q_le zero_q (speed service.rate *ℚ t -ℚ bits (service.debt + longest)) zero_q (le_refl zero_q) (gone (speed service.rate *ℚ t) (bits m) is) in
      joined (bits line.burst) (bits q) (bits (line.burst + q)) (whole b) (speed line.rate *ℚ t) (passed_value service longest t) (parts_value parts t)
      (bits_add line.burst q) (in_bits_near (line.burst + q) b h) less none tight
    where
      gone : (u m : ℚ) → u ≡ m → u -ℚ m ≤ℚ zero_q
      gone u m e = with2 u m (λ c. omega (arith, c.le, c.lt, c.same))

      rounded : (s r t m q : ℚ) → zero_q <ℚ r → r *ℚ t ≡ m → r *ℚ q <ℚ s *ℚ m +ℚ r *ℚ grain → q <ℚ s *ℚ t +ℚ grain
      rounded s r t m q on e h =
          let f : s *ℚ m ≡ r *ℚ (s *ℚ t) = ap (λ z. s *ℚ z) (sym e) ∙ sym (mul_assoc s r t) ∙ ap (λ z. z *ℚ t) (mul_comm s r) ∙ mul_assoc r s t in
          lt_of_mul r q (s *ℚ t +ℚ grain) on (rw (mul_comm q r, mul_comm (s *ℚ t +ℚ grain) r)
          (below (r *ℚ q) (s *ℚ m) (r *ℚ (s *ℚ t)) (r *ℚ grain) (r *ℚ (s *ℚ t +ℚ grain)) h f (mul_add r (s *ℚ t) grain)))
        where
          below : (rq sm rst rg all : ℚ) → rq <ℚ sm +ℚ rg → sm ≡ rst → all ≡ rst +ℚ rg → rq <ℚ all
          below rq sm rst rg all h f g = with5 rq sm rst rg all (λ c. omega (arith, c.le, c.lt, c.same))

      joined : (y m all w u v p : ℚ) → all ≡ y +ℚ m → w +ℚ grain ≤ℚ all +ℚ whole 1 → m <ℚ u +ℚ grain → v ≤ℚ zero_q → y +ℚ u ≤ℚ p → w +ℚ v <ℚ p +ℚ whole 1
      joined y m all w u v p e h l g k = let n = grain in with8 y m all w u v p n (λ c. omega (arith, c.le, c.lt, c.same))

  -- where a faster step is the sum then, the excess is near then too
  near_fast : (t from : ℚ) → from ≤ℚ t → (line : Line) → service.rate ≤ line.rate → parts_value parts from ≤ℚ line_value line from
      → bits x +ℚ speed service.rate *ℚ from <ℚ parts_value parts from +ℚ grain → line_value line t ≤ℚ parts_value parts t
      → bits x +ℚ speed service.rate *ℚ t <ℚ parts_value parts t +ℚ grain
  near_fast t from later line fast above near tight =
      let gap : zero_q ≤ℚ t -ℚ from = with2 t from (λ c. omega (arith, c.le, c.lt, c.same)) in
      let k = mul_le_mul_right (t -ℚ from) gap (speed_le service.rate line.rate fast) in
      let e = mul_sub (speed service.rate) t from in
      let f = mul_sub (speed line.rate) t from in
      joined (bits x) (bits line.burst) (speed service.rate *ℚ t) (speed service.rate *ℚ from) (speed line.rate *ℚ t) (speed line.rate *ℚ from) (parts_value parts t)
      (before (bits x) (speed service.rate *ℚ from) (bits line.burst) (speed line.rate *ℚ from) (parts_value parts from) above near)
      (steeper (speed service.rate *ℚ t) (speed service.rate *ℚ from) (speed line.rate *ℚ t) (speed line.rate *ℚ from) (speed service.rate *ℚ (t -ℚ from)) (speed line.rate *ℚ (t -ℚ from)) k e f) tight
    where
      before : (y r l s p : ℚ) → p ≤ℚ l +ℚ s → y +ℚ r <ℚ p +ℚ grain → y +ℚ r <ℚ (l +ℚ s) +ℚ grain
      before y r l s p h k = let n = grain in with6 y r l s p n (λ c. omega (arith, c.le, c.lt, c.same))

      steeper : (rt rf st sf rd sd : ℚ) → rd ≤ℚ sd → rd ≡ rt -ℚ rf → sd ≡ st -ℚ sf → rt -ℚ rf ≤ℚ st -ℚ sf
      steeper rt rf st sf rd sd k e f = with6 rt rf st sf rd sd (λ c. omega (arith, c.le, c.lt, c.same))

      joined : (y l rt rf st sf p : ℚ) → y +ℚ rf <ℚ (l +ℚ sf) +ℚ grain → rt -ℚ rf ≤ℚ st -ℚ sf → l +ℚ st ≤ℚ p → y +ℚ rt <ℚ p +ℚ grain
      joined y l rt rf st sf p h k g = let n = grain in with8 y l rt rf st sf p n (λ c. omega (arith, c.le, c.lt, c.same))

  near_then : (t : ℚ) → zero_q ≤ℚ t → speed service.rate *ℚ t ≡ bits (service.debt + longest) → over.at ≤ℚ t
      → whole b +ℚ passed_value service longest t <ℚ parts_value parts t +ℚ whole 1
  near_then t on is later =
      let d : Line = record { burst = 0; rate = 0 } in
      let (k, inside, tight) = are.reached t on in
      elim (cases_lt service.rate (get_or lines k d).rate) [
        | inl fast ↦ near_late t (same (bits (service.debt + longest)) (speed service.rate *ℚ t) is)
            (near_fast t over.at later (get_or lines k d) (omega (arith, fast)) ((are.each k d inside).above.above over.at over.on) over.near (tight d))
        | inr slow ↦ near_step t is (get_or lines k d) (least.each k d record { inside = inside; slow = λ e. subst (λ (l : Line). l.rate ≤ service.rate) (get_or_default lines k d e inside) slow }) (tight d)
      ]
    where
      same : (m u : ℚ) → u ≡ m → m ≤ℚ u
      same m u e = with2 m u (λ c. omega (arith, c.le, c.lt, c.same))

  pub backlog_is : IsBacklogAt parts service longest b
  backlog_is = elim (le_or_lt (bits (service.debt + longest)) (speed service.rate *ℚ over.at)) [
    | inl late ↦ record { over = is_above; at = over.at; on = over.on; near = near_late over.at late over.near }
    | inr early ↦
        record {
          over = is_above;
          at = bits (service.debt + longest) /ℚ speed service.rate;
          on = worked_on;
          near = near_then (bits (service.debt + longest) /ℚ speed service.rate) worked_on worked_is
              (le_of_lt (lt_of_mul (speed service.rate) over.at (bits (service.debt + longest) /ℚ speed service.rate) rate_some
              (earlier (speed service.rate *ℚ over.at) (over.at *ℚ speed service.rate) (bits (service.debt + longest)) ((bits (service.debt + longest) /ℚ speed service.rate) *ℚ speed service.rate)
              (mul_comm (speed service.rate) over.at) (div_mul (bits (service.debt + longest)) (speed service.rate) (not_zero _ rate_some)) early)));
        }
  ]
    where
      earlier : (u v m w : ℚ) → u ≡ v → w ≡ m → u <ℚ m → v <ℚ w
      earlier u v m w e f h = with4 u v m w (λ c. omega (arith, c.le, c.lt, c.same))
