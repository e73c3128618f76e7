-- The stair's curve has the stair's values.
use Rattle.std.specs.Prelude.{◌≡◌, ℕ, suc, ◌+◌, pos, cond, List, [], ◌∷◌}
use Rattle.std.proofs.Common.{arith, sym, ap, ◌∙◌, refl, subst, inl, inr}
use Rattle.rational.specs.Rational.{ℚ, ◌+ℚ◌, ◌-ℚ◌, ◌*ℚ◌, ◌/ℚ◌, ◌≤ℚ◌, ◌<ℚ◌, int, le_q}
use Rattle.rational.specs.Whole.{whole_part, periods}
use Rattle.rational.specs.Extended.{Ext, ◌+ₑ◌}
use Rattle.rational.specs.declared.Extended.TheVariants.{Fin}
use Rattle.rational.proofs.Linear.{with1, with2, with3, with5, with6, with7}
use Rattle.rational.proofs.Laws.{antisym, le_or_lt, mul_comm, mul_add, add_mul, mul_one}
use Rattle.rational.proofs.Integers.{nat_next, int_add}
use Rattle.rational.proofs.MinMax.{le_q_not}
use Rattle.rational.proofs.Over.{le_q_out}
use Rattle.rational.proofs.Whole.{periods_low, periods_high, periods_unique}
use Rattle.upp_curve.specs.declared.affine_segment.line.Piece.{Piece}
use Rattle.upp_curve.specs.affine_segment.Reading.{read, piece_in, piece_value}
use Rattle.upp_curve.specs.Curve.{value_at, repeated}
use Rattle.min_plus.specs.Functions.{zero_q}
use Rattle.upp_curve.specs.Kinds.{flat, bucket, steps, stair}
use Rattle.min_plus.specs.Formulas.{stair_value}
use Rattle.upp_curve.proofs.KindValues.{on_line, bucket_is}

-- ---- how many periods fit into a time
ratio_periods : (P t : ℚ) → periods zero_q P t ≡ whole_part (t /ℚ P)
unfolding periods
ratio_periods P t = ap (λ x. whole_part (x /ℚ P)) (with1 t (λ c. omega (arith, c.le, c.lt, c.same)))

pub whole_ratio : (P t : ℚ) (n : ℕ) → zero_q <ℚ P → int (pos n) *ℚ P ≤ℚ t → t <ℚ int (pos n) *ℚ P +ℚ P → whole_part (t /ℚ P) ≡ n
whole_ratio P t n some low high =
    let m = int (pos n) *ℚ P in
    sym (ratio_periods P t)
    ∙ periods_unique zero_q P t n some (with2 m t (λ c. omega (arith, c.le, c.lt, c.same))) (with3 m t P (λ c. omega (arith, c.le, c.lt, c.same)))

pub ratio_low : (P t : ℚ) → zero_q <ℚ P → zero_q ≤ℚ t → int (pos (whole_part (t /ℚ P))) *ℚ P ≤ℚ t
ratio_low P t some start =
    let l = subst (λ n. zero_q +ℚ int (pos n) *ℚ P ≤ℚ t) (ratio_periods P t) (periods_low zero_q P t some start) in
    with2 (int (pos (whole_part (t /ℚ P))) *ℚ P) t (λ c. omega (arith, c.le, c.lt, c.same))

pub ratio_high : (P t : ℚ) → zero_q <ℚ P → t <ℚ int (pos (whole_part (t /ℚ P))) *ℚ P +ℚ P
ratio_high P t some =
    let l = subst (λ n. t <ℚ zero_q +ℚ int (pos n) *ℚ P +ℚ P) (ratio_periods P t) (periods_high zero_q P t some) in
    with3 (int (pos (whole_part (t /ℚ P))) *ℚ P) t P (λ c. omega (arith, c.le, c.lt, c.same))

-- ---- flat pieces
pub flat_value : (x v t : ℚ) → x ≤ℚ t → piece_value (flat x v) t ≡ Fin v
flat_value x v t h =
    on_line x v v zero_q t (with2 v x (λ c. omega (arith, c.le, c.lt, c.same))) h ∙ ap Fin (with2 v t (λ c. omega (arith, c.le, c.lt, c.same)))

pub one_step : (v u : ℚ) → zero_q ≤ℚ u → read (flat zero_q v ∷ []) u ≡ Fin v
unfolding read piece_in
one_step v u h = flat_value zero_q v u h

pub first_step : (v y w u : ℚ) → zero_q ≤ℚ u → u <ℚ y → read (flat zero_q v ∷ flat y w ∷ []) u ≡ Fin v
unfolding read piece_in
first_step v y w u h l = rw (le_q_not y u l) (flat_value zero_q v u h)

pub second_step : (v y w u : ℚ) → y ≤ℚ u → read (flat zero_q v ∷ flat y w ∷ []) u ≡ Fin w
unfolding read piece_in
second_step v y w u h = rw (le_q_out y u h) (flat_value y w u h)

-- ---- the packets
both_times : (n e : ℕ) (P : ℚ) → int (pos (n + e)) *ℚ P ≡ int (pos n) *ℚ P +ℚ int (pos e) *ℚ P
both_times n e P = ap (λ k. k *ℚ P) (sym (int_add (pos n) (pos e))) ∙ add_mul (int (pos n)) (int (pos e)) P

packets : (l : ℚ) (n e : ℕ) → l *ℚ int (pos (suc e)) +ℚ int (pos n) *ℚ l ≡ l *ℚ int (pos (suc (n + e)))
packets l n e =
    let a = mul_comm l (int (pos (suc e))) in
    let b = mul_comm l (int (pos (suc (n + e)))) in
    let c = ap (λ k. k *ℚ l) (nat_next e) ∙ add_mul (int (pos e)) (int (pos 1)) l in
    let d = ap (λ k. k *ℚ l) (nat_next (n + e)) ∙ add_mul (int (pos (n + e))) (int (pos 1)) l in
    let f = both_times n e l in
    plain _ _ _ _ _ _ _ _ a b c d f
  where
    plain : (le lne el nel ne1 n1 e1 o : ℚ) → le ≡ el → lne ≡ nel → el ≡ e1 +ℚ o → nel ≡ ne1 +ℚ o → ne1 ≡ n1 +ℚ e1 → le +ℚ n1 ≡ lne
    plain le lne el nel ne1 n1 e1 o a b c d f = with6 le lne n1 e1 ne1 o (λ z. omega (arith, z.le, z.lt, z.same, chain a c, chain b d))
      where
        chain : {x y w : ℚ} → x ≡ y → y ≡ w → x ≡ w
        chain p q = p ∙ q

-- n whole periods lie before t, and e whole periods in the jitter
record IsAt (P J t : ℚ) (n e : ℕ) : Type 0 where
  pub some : zero_q <ℚ P
  pub low : int (pos n) *ℚ P ≤ℚ t
  pub high : t <ℚ int (pos n) *ℚ P +ℚ P
  pub early : int (pos e) *ℚ P ≤ℚ J
  pub not_earlier : J <ℚ int (pos e) *ℚ P +ℚ P

-- no packet has come early in this period, so n + e whole periods lie before t + J
before_late : (P J t : ℚ) (n e : ℕ) → IsAt P J t n e → t -ℚ int (pos n) *ℚ P <ℚ P -ℚ (J -ℚ int (pos e) *ℚ P) → whole_part ((t +ℚ J) /ℚ P) ≡ n + e
before_late P J t n e h l =
    let b = both_times n e P in
    let x0 = h.low in
    let x1 = h.early in
    let np = int (pos n) *ℚ P in
    let ep = int (pos e) *ℚ P in
    let m = int (pos (n + e)) *ℚ P in
    whole_ratio P (t +ℚ J) (n + e) h.some
    (with5 P J t np ep (λ c. omega (arith, c.le, c.lt, c.same, b)))
    (with6 P J t np ep m (λ c. omega (arith, c.le, c.lt, c.same, b)))

-- one has come
after_late : (P J t : ℚ) (n e : ℕ) → IsAt P J t n e → P -ℚ (J -ℚ int (pos e) *ℚ P) ≤ℚ t -ℚ int (pos n) *ℚ P → whole_part ((t +ℚ J) /ℚ P) ≡ suc (n + e)
after_late P J t n e h l =
    let b = both_times n e P in
    let o = ap (λ k. k *ℚ P) (nat_next (n + e)) ∙ add_mul (int (pos (n + e))) (int (pos 1)) P in
    let u = mul_comm (int (pos 1)) P ∙ mul_one P in
    let x0 = h.high in
    let x1 = h.not_earlier in
    let np = int (pos n) *ℚ P in
    let ep = int (pos e) *ℚ P in
    let m = int (pos (n + e)) *ℚ P in
    let k = int (pos (suc (n + e))) *ℚ P in
    let next : k ≡ m +ℚ P = o ∙ ap (λ z. m +ℚ z) u in
    whole_ratio P (t +ℚ J) (suc (n + e)) h.some
    (with7 P J t np ep m k (λ c. omega (arith, c.le, c.lt, c.same, b, next)))
    (with7 P J t np ep m k (λ c. omega (arith, c.le, c.lt, c.same, b, next)))

risen : (l v : ℚ) (n : ℕ) (r : Ext) → r ≡ Fin v → r +ₑ Fin (int (pos n) *ℚ l) ≡ Fin (v +ℚ int (pos n) *ℚ l)
risen l v n r e = ap (λ z. z +ₑ Fin (int (pos n) *ℚ l)) e

stair_at : (l P J t : ℚ) (n e : ℕ) → IsAt P J t n e → (k : ℕ) → whole_part ((t +ℚ J) /ℚ P) ≡ k → (v : ℚ) → v +ℚ int (pos n) *ℚ l ≡ l *ℚ int (pos (suc k))
    → Fin (v +ℚ int (pos n) *ℚ l) ≡ stair_value l P J t
stair_at l P J t n e h k q v s = ap Fin (s ∙ ap (λ m. l *ℚ int (pos (suc m))) (sym q))

abbrev pub step_pieces : (l P first late : ℚ) → List Piece
step_pieces l P first late = cond (le_q late zero_q) (flat zero_q first ∷ []) (flat zero_q first ∷ flat (P -ℚ late) (first +ℚ l) ∷ [])

-- the pieces of a period, raised
pieces_at : (l P J t : ℚ) (n e : ℕ) → IsAt P J t n e
    → read (step_pieces l P (l *ℚ int (pos (suc e))) (J -ℚ int (pos e) *ℚ P)) (t -ℚ int (pos n) *ℚ P) +ₑ Fin (int (pos n) *ℚ l) ≡ stair_value l P J t
pieces_at l P J t n e h =
    let late = J -ℚ int (pos e) *ℚ P in
    let u = t -ℚ int (pos n) *ℚ P in
    let np = int (pos n) *ℚ P in
    let ep = int (pos e) *ℚ P in
    let first = l *ℚ int (pos (suc e)) in
    let x0 = h.low in
    let x1 = h.high in
    let x2 = h.early in
    let inside : zero_q ≤ℚ u = with2 t np (λ c. omega (arith, c.le, c.lt, c.same)) in
    elim (le_or_lt late zero_q) [
      | inl k ↦
          let w = before_late P J t n e h (with5 P J t np ep (λ c. omega (arith, c.le, c.lt, c.same))) in
          ap (λ b. read (cond b (flat zero_q first ∷ []) (flat zero_q first ∷ flat (P -ℚ late) (first +ℚ l) ∷ [])) u +ₑ Fin (int (pos n) *ℚ l)) (le_q_out late zero_q k)
          ∙ risen l first n (read (flat zero_q first ∷ []) u) (one_step first u inside)
          ∙ stair_at l P J t n e h (n + e) w first (packets l n e)
      | inr k ↦
          ap (λ b. read (cond b (flat zero_q first ∷ []) (flat zero_q first ∷ flat (P -ℚ late) (first +ℚ l) ∷ [])) u +ₑ Fin (int (pos n) *ℚ l)) (le_q_not late zero_q k)
          ∙ elim (le_or_lt (P -ℚ late) u) [
            | inr s ↦
                let w = before_late P J t n e h s in
                risen l first n (read (flat zero_q first ∷ flat (P -ℚ late) (first +ℚ l) ∷ []) u) (first_step first (P -ℚ late) (first +ℚ l) u inside s)
                ∙ stair_at l P J t n e h (n + e) w first (packets l n e)
            | inl s ↦
                let w = after_late P J t n e h s in
                risen l (first +ℚ l) n (read (flat zero_q first ∷ flat (P -ℚ late) (first +ℚ l) ∷ []) u) (second_step first (P -ℚ late) (first +ℚ l) u s)
                ∙ stair_at l P J t n e h (suc (n + e)) w (first +ℚ l) (one_more l n e (packets l n e))
          ]
    ]
  where
    one_more : (l : ℚ) (n e : ℕ) → l *ℚ int (pos (suc e)) +ℚ int (pos n) *ℚ l ≡ l *ℚ int (pos (suc (n + e)))
        → (l *ℚ int (pos (suc e)) +ℚ l) +ℚ int (pos n) *ℚ l ≡ l *ℚ int (pos (suc (suc (n + e))))
    one_more l n e p =
        let a = ap (λ k. l *ℚ k) (nat_next (suc (n + e))) ∙ mul_add l (int (pos (suc (n + e)))) (int (pos 1)) in
        let b = mul_one l in
        with6 l (l *ℚ int (pos (suc e))) (int (pos n) *ℚ l) (l *ℚ int (pos (suc (n + e)))) (l *ℚ int (pos (suc (suc (n + e))))) (l *ℚ int (pos 1))
        (λ c. omega (arith, c.le, c.lt, c.same, a, b, p))

value_of : (l P J t : ℚ)
    → value_at (steps l P (l *ℚ int (pos (suc (whole_part (J /ℚ P))))) (J -ℚ int (pos (whole_part (J /ℚ P))) *ℚ P)) t
    ≡ read (step_pieces l P (l *ℚ int (pos (suc (whole_part (J /ℚ P))))) (J -ℚ int (pos (whole_part (J /ℚ P))) *ℚ P)) (t -ℚ int (pos (periods zero_q P t)) *ℚ P)
    +ₑ Fin (int (pos (periods zero_q P t)) *ℚ l)
unfolding value_at repeated
value_of l P J t = refl

-- ---- the curve
pub steps_is : (l P J t : ℚ) → zero_q <ℚ P → zero_q ≤ℚ J → zero_q ≤ℚ t
    → value_at (steps l P (l *ℚ int (pos (suc (whole_part (J /ℚ P))))) (J -ℚ int (pos (whole_part (J /ℚ P))) *ℚ P)) t ≡ stair_value l P J t
steps_is l P J t some jitter start = value_of l P J t ∙ pieces_at l P J t (periods zero_q P t) (whole_part (J /ℚ P)) record {
  some = some;
  low = let h = periods_low zero_q P t some start in let m = int (pos (periods zero_q P t)) *ℚ P in with2 m t (λ c. omega (arith, c.le, c.lt, c.same));
  high = let h = periods_high zero_q P t some in let m = int (pos (periods zero_q P t)) *ℚ P in with3 m t P (λ c. omega (arith, c.le, c.lt, c.same));
  early = ratio_low P J some jitter;
  not_earlier = ratio_high P J some;
}

pub stair_is : (l P J t : ℚ) → zero_q ≤ℚ l → zero_q <ℚ P → zero_q ≤ℚ J → zero_q ≤ℚ t → value_at (stair l P J) t ≡ stair_value l P J t
stair_is l P J t h some jitter start = elim (le_or_lt l zero_q) [
  | inl k ↦
      let none : l ≡ zero_q = antisym (k, h) in
      ap (λ b. value_at (cond b (bucket zero_q zero_q) (steps l P (l *ℚ int (pos (suc (whole_part (J /ℚ P))))) (J -ℚ int (pos (whole_part (J /ℚ P))) *ℚ P))) t) (le_q_out l zero_q k)
      ∙ (bucket_is zero_q zero_q).is t start ∙ ap Fin (nothing l t (int (pos (suc (whole_part ((t +ℚ J) /ℚ P))))) none)
  | inr k ↦
      ap (λ b. value_at (cond b (bucket zero_q zero_q) (steps l P (l *ℚ int (pos (suc (whole_part (J /ℚ P))))) (J -ℚ int (pos (whole_part (J /ℚ P))) *ℚ P))) t) (le_q_not l zero_q k)
      ∙ steps_is l P J t some jitter start
]
  where
    nothing : (l t m : ℚ) → l ≡ zero_q → zero_q +ℚ zero_q *ℚ t ≡ l *ℚ m
    nothing l t m e =
        let a : l *ℚ m ≡ zero_q *ℚ m = ap (λ z. z *ℚ m) e in
        with3 t m (l *ℚ m) (λ c. omega (arith, c.le, c.lt, c.same, a))
