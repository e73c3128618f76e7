-- The kinds of curve are in normal form.
use Rattle.std.specs.Prelude.{◌≡◌, ℕ, suc, ◌+◌, ◌*◌, ◌≤◌, pos, nat_abs, cond, List, [], ◌∷◌, Option, Some, None}
use Rattle.std.proofs.Common.{arith, sym, ap, ap₂, ◌∙◌, refl, subst, inl, inr}
use native.Mathlib.Nat.{mul-le-mul_right}
use Rattle.rational.specs.Rational.{ℚ, ◌+ℚ◌, ◌-ℚ◌, ◌*ℚ◌, ◌/ℚ◌, ◌≤ℚ◌, ◌<ℚ◌, int, neg_ℚ}
use Rattle.rational.specs.MinMax.{min_q}
use Rattle.rational.specs.Whole.{whole_part}
use Rattle.rational.specs.Extended.{Ext, ◌+ₑ◌}
use Rattle.rational.specs.declared.Extended.TheVariants.{Fin}
use Rattle.rational.proofs.Linear.{with1, with2, with3, with7}
use Rattle.rational.proofs.Laws.{antisym, le_refl, le_or_lt, le_of_lt, lt_irrefl, lt_le_trans, le_lt_trans, between, mul_comm, mul_assoc, mul_add, mul_sub, add_mul, mul_one, mul_pos, mul_zero, mul_cancel, div_mul, not_zero, le_of_mul, lt_of_mul, mul_lt_mul_right}
use Rattle.rational.proofs.Integers.{int_mul, int_add, int_same, nat_lt, le_or_more}
use Rattle.rational.proofs.MinMax.{le_q_not, below_min_in, below_min_out}
use Rattle.rational.proofs.Over.{le_q_out}
use Rattle.upp_curve.specs.declared.affine_segment.line.Line.{Line}
use Rattle.upp_curve.specs.declared.affine_segment.line.Piece.{Piece}
use Rattle.upp_curve.specs.affine_segment.Values.{line_value}
use Rattle.upp_curve.specs.affine_segment.Reading.{read}
use Rattle.upp_curve.specs.Curve.{value_at}
use Rattle.min_plus.specs.Functions.{zero_q}
use Rattle.upp_curve.specs.affine_segment.Pieces.{Each}
use Rattle.upp_curve.specs.Normal.{IsNormal, IsLeastPeriodic}
use Rattle.upp_curve.specs.Steady.{Repeats}
use Rattle.upp_curve.specs.Kinds.{flat, after_latency, rate_latency, steps, stair, gated, gate}
use Rattle.upp_curve.proofs.ByTail.{bucket_normal, some_is}
use Rattle.upp_curve.proofs.Unique.{lines_at_two}
use Rattle.upp_curve.proofs.Normal.{periodic, periodic_rule}
use Rattle.upp_curve.proofs.GateValues.{gate_pieces, closed_value, open_value}
use Rattle.upp_curve.proofs.StairValues.{one_step, first_step, step_pieces, steps_is, ratio_high}
use Rattle.upp_curve.proofs.Repeats.{repeated_first}
use Rattle.rational.proofs.ExtendedOrder.{fin_same}
use Rattle.rational.proofs.Quotients.{part_pos}

-- ---- lines that differ
abbrev slope_or : ℚ → Option Line → ℚ
slope_or d None = d
slope_or d (Some l) = l.slope

-- a steeper line does not go on with a flat one
not_flat : (R k m : ℚ) → zero_q <ℚ R → (let l : Line = record { icept = k; slope = R } in Some l) ≡ Some record { icept = m; slope = zero_q } → ⊥
not_flat R k m some e =
    let f : R ≡ zero_q = ap (slope_or zero_q) e in
    lt_irrefl zero_q (subst (λ z. zero_q <ℚ z) f some)

-- ---- a rate after a latency
pub late_normal : (R T : ℚ) → zero_q <ℚ R → zero_q <ℚ T → IsNormal (after_latency R T)
late_normal R T rate late = record {
  raw = record { starts = (refl, (late, tt)); tail = record { nonneg = le_of_lt late; starts = (le_of_lt late, (le_refl T, tt)) } };
  rank_is_start = inr (inl refl);
  no_merge = (λ h. not_flat R (neg_ℚ (R *ℚ T)) zero_q rate h.1, tt);
  tail = some_is record { icept = neg_ℚ (R *ℚ T); slope = R };
}

pub rate_latency_normal : (R T : ℚ) → zero_q ≤ℚ R → zero_q ≤ℚ T → IsNormal (rate_latency R T)
rate_latency_normal R T rate late = elim (le_or_lt T zero_q) [
  | inl l ↦ rw (le_q_out T zero_q l) (bucket_normal zero_q R)
  | inr l ↦ elim (le_or_lt R zero_q) [
    | inl k ↦ rw (le_q_not T zero_q l, le_q_out R zero_q k) (bucket_normal zero_q R)
    | inr k ↦ rw (le_q_not T zero_q l, le_q_not R zero_q k) (late_normal R T k l)
  ]
]

-- ---- a stair

pos_same : {m n : ℕ} → pos m ≡ pos n → m ≡ n
pos_same {m} {n} e = ap nat_abs e

-- n times as many packets and one more are no whole number of n packets
no_share : (n a b : ℕ) → 2 ≤ n → a * n ≡ b * n + 1 → ⊥
no_share n a b two e = elim (le_or_more a b) [
  | inl h ↦ let m = mul-le-mul_right n h in omega arith
  | inr h ↦ let m : suc b * n ≤ a * n = mul-le-mul_right n h in let s : suc b * n ≡ b * n + n = omega arith in omega arith
]

-- a stair's rise over a share of its period is no share of a packet
no_shorter_stair : (l : ℚ) (n a b : ℕ) → zero_q <ℚ l → 2 ≤ n → l *ℚ int (pos a) ≡ l *ℚ int (pos b) +ℚ l /ℚ int (pos n) → ⊥
no_shorter_stair l n a b some two e =
    let N = int (pos n) in
    let n_pos : zero_q <ℚ N = nat_lt 0 n (omega arith) in
    let back = div_mul l N (not_zero N n_pos) in
    let left : (l *ℚ int (pos a)) *ℚ N ≡ l *ℚ int (pos (a * n)) = mul_assoc l (int (pos a)) N ∙ ap (λ z. l *ℚ z) (int_mul (pos a) (pos n)) in
    let right : (l *ℚ int (pos b)) *ℚ N ≡ l *ℚ int (pos (b * n)) = mul_assoc l (int (pos b)) N ∙ ap (λ z. l *ℚ z) (int_mul (pos b) (pos n)) in
    let all : (l *ℚ int (pos a)) *ℚ N ≡ (l *ℚ int (pos b)) *ℚ N +ℚ (l /ℚ N) *ℚ N = ap (λ z. z *ℚ N) e ∙ add_mul (l *ℚ int (pos b)) (l /ℚ N) N in
    let more : l *ℚ int (pos (b * n + 1)) ≡ l *ℚ int (pos (b * n)) +ℚ l = ap (λ z. l *ℚ z) (sym (int_add (pos (b * n)) (pos 1))) ∙ mul_add l (int (pos (b * n))) (int (pos 1)) ∙ ap (λ z. l *ℚ int (pos (b * n)) +ℚ z) (mul_one l) in
    let same : l *ℚ int (pos (a * n)) ≡ l *ℚ int (pos (b * n + 1)) =
    sym left ∙ all ∙ ap₂ (λ (x y : ℚ). x +ℚ y) right back ∙ sym more in
    let whole : int (pos (a * n)) ≡ int (pos (b * n + 1)) =
    mul_cancel (int (pos (a * n))) (int (pos (b * n + 1))) l (not_zero l some) (mul_comm (int (pos (a * n))) l ∙ same ∙ mul_comm l (int (pos (b * n + 1)))) in
    no_share n a b two (pos_same (int_same (pos (a * n)) (pos (b * n + 1)) whole))

-- what a stair's curve is known by
pub record IsStair (f : ℚ → Ext) (P l y : ℚ) : Type 0 where
  pub packet : zero_q <ℚ l
  pub period : zero_q <ℚ P
  pub first : zero_q <ℚ y
  pub counts : (t : ℚ) → zero_q ≤ℚ t → (k : ℕ) × (f t ≡ Fin (l *ℚ int (pos k)))
  pub flat : (t : ℚ) → zero_q ≤ℚ t → t <ℚ y → f t ≡ f zero_q
  pub repeats : Repeats f zero_q P l

counted_twice : (l c : ℚ) (n a b : ℕ) (v w : Ext) → zero_q <ℚ l → 2 ≤ n → v ≡ Fin (l *ℚ int (pos a)) → w ≡ Fin (l *ℚ int (pos b)) → v ≡ w +ₑ Fin (l /ℚ int (pos n)) → ⊥
counted_twice l c n a b v w some two p q e = no_shorter_stair l n a b some two (fin_same (sym p ∙ e ∙ ap (λ z. z +ₑ Fin (l /ℚ int (pos n))) q))

no_share_repeats : (f : ℚ → Ext) (P l y : ℚ) (n : ℕ) → IsStair f P l y → 2 ≤ n → Repeats f zero_q (P /ℚ int (pos n)) (l /ℚ int (pos n)) → ⊥
no_share_repeats f P l y n S two h =
    let N = int (pos n) in
    let n_pos : zero_q <ℚ N = nat_lt 0 n (omega arith) in
    let back = div_mul P N (not_zero N n_pos) in
    let z : zero_q *ℚ N ≡ zero_q = mul_comm zero_q N ∙ mul_zero N in
    let share : zero_q ≤ℚ P /ℚ N = le_of_mul N zero_q (P /ℚ N) n_pos (subst (λ x. x ≤ℚ (P /ℚ N) *ℚ N) (sym z) (subst (λ x. zero_q ≤ℚ x) (sym back) (le_of_lt S.period))) in
    let later : zero_q ≤ℚ zero_q +ℚ P /ℚ N = with1 (P /ℚ N) (λ c. omega (arith, c.le, c.lt, c.same)) in
    let (a, p) = S.counts (zero_q +ℚ P /ℚ N) later in
    let (b, q) = S.counts zero_q (le_refl zero_q) in
    counted_twice l P n a b (f (zero_q +ℚ P /ℚ N)) (f zero_q) S.packet two p q (h.rule zero_q (le_refl zero_q))

-- a line that is flat up to y stays, and the stair does not
no_line : (f : ℚ → Ext) (P l y : ℚ) → IsStair f P l y → (m : Option Line) → ¬ ((t : ℚ) → zero_q ≤ℚ t → f t ≡ line_value m t)
no_line f P l y S m h =
    let (s, p, q) = between zero_q y S.first in
    let (b, v) = S.counts zero_q (le_refl zero_q) in
    let level = l *ℚ int (pos b) in
    let here : line_value m zero_q ≡ line_value (Some record { icept = level; slope = zero_q }) zero_q = sym (h zero_q (le_refl zero_q)) ∙ v ∙ sym (flat_line level zero_q) in
    let there : line_value m s ≡ line_value (Some record { icept = level; slope = zero_q }) s = sym (h s (le_of_lt p)) ∙ S.flat s (le_of_lt p) q ∙ v ∙ sym (flat_line level s) in
    let is = lines_at_two m (Some record { icept = level; slope = zero_q }) zero_q s p here there in
    let past : zero_q ≤ℚ zero_q +ℚ P = let k = S.period in with1 P (λ c. omega (arith, c.le, c.lt, c.same)) in
    let end : f (zero_q +ℚ P) ≡ Fin level = h (zero_q +ℚ P) past ∙ ap (λ z. line_value z (zero_q +ℚ P)) is ∙ flat_line level (zero_q +ℚ P) in
    apart l level (fin_same (sym end ∙ S.repeats.rule zero_q (le_refl zero_q) ∙ ap (λ z. z +ₑ Fin l) v)) S.packet
  where
    flat_line : (k t : ℚ) → Fin (k +ℚ zero_q *ℚ t) ≡ Fin k
    flat_line k t = ap Fin (with2 k t (λ c. omega (arith, c.le, c.lt, c.same)))

    apart : (l k : ℚ) → k ≡ k +ℚ l → zero_q <ℚ l → ⊥
    apart l k e h = with2 l k (λ c. omega (arith, c.le, c.lt, c.same, e))

pub stair_tail : (ps : List Piece) (f : ℚ → Ext) (P l y : ℚ) → IsStair f P l y → Each (λ p. zero_q ≤ℚ p.x) ps → IsLeastPeriodic ps f zero_q P l
stair_tail ps f P l y S starts = record {
  least_period = λ n two h. no_share_repeats f P l y n S two h;
  least_rank = each_not ps starts;
  not_one_line = no_line f P l y S;
}
  where
    each_not : (ps : List Piece) → Each (λ p. zero_q ≤ℚ p.x) ps → Each (λ p. p.x <ℚ zero_q → ¬ (Repeats f p.x P l)) ps
    each_not [] h = tt
    each_not (p ∷ ps) h = (λ l. absurd (lt_irrefl zero_q (le_lt_trans h.0 l)), each_not ps h.1)

-- ---- the stair's curve
stair_first : (l P J late y : ℚ) (ps : List Piece) → zero_q <ℚ P → y ≤ℚ P → ((u : ℚ) → zero_q ≤ℚ u → u <ℚ y → read ps u ≡ read ps zero_q)
    → zero_q <ℚ y → (t : ℚ) → zero_q ≤ℚ t → t <ℚ y → value_at (periodic ps zero_q P l) t ≡ value_at (periodic ps zero_q P l) zero_q
unfolding value_at
stair_first l P J late y ps some inside same up t low high =
    repeated_first (read ps) zero_q P l t some (with3 t y P (λ c. omega (arith, c.le, c.lt, c.same))) ∙ same t low high
    ∙ sym (repeated_first (read ps) zero_q P l zero_q some (with1 P (λ c. omega (arith, c.le, c.lt, c.same))))

module _ (l P J : ℚ) (packet : zero_q <ℚ l) (some : zero_q <ℚ P) (jitter : zero_q ≤ℚ J) where
  counted : (e : ℕ) → e ≡ whole_part (J /ℚ P) → (t : ℚ) → zero_q ≤ℚ t
      → (k : ℕ) × (value_at (steps l P (l *ℚ int (pos (suc e))) (J -ℚ int (pos e) *ℚ P)) t ≡ Fin (l *ℚ int (pos k)))
  counted e q t start = (
    suc (whole_part ((t +ℚ J) /ℚ P)),
    ap (λ i. value_at (steps l P (l *ℚ int (pos (suc i))) (J -ℚ int (pos i) *ℚ P)) t) q ∙ steps_is l P J t some jitter start,
  )

-- in one piece
steps_one : (l P J : ℚ) (e : ℕ) → zero_q <ℚ l → zero_q <ℚ P → zero_q ≤ℚ J → e ≡ whole_part (J /ℚ P) → J -ℚ int (pos e) *ℚ P ≤ℚ zero_q
    → IsNormal (periodic (flat zero_q (l *ℚ int (pos (suc e))) ∷ []) zero_q P l)
steps_one l P J e packet some jitter q none = record {
  raw = record { starts = (refl, tt); tail = record { nonneg = le_refl zero_q; some = some; starts = (with1 P (λ c. omega (arith, c.le, c.lt, c.same)), tt) } };
  rank_is_start = inl refl;
  no_merge = tt;
  tail = stair_tail (flat zero_q v ∷ []) (value_at (periodic (flat zero_q v ∷ []) zero_q P l)) P l P record {
    packet = packet;
    period = some;
    first = some;
    counts = λ t start. let (k, h) = counted l P J packet some jitter e q t start in (k, sym (ap (λ ps. value_at (periodic ps zero_q P l) t) shape) ∙ h);
    flat = stair_first l P J zero_q P (flat zero_q v ∷ []) some (le_refl P) (λ u a b. one_step v u a ∙ sym (one_step v zero_q (le_refl zero_q))) some;
    repeats = periodic_rule (flat zero_q v ∷ []) zero_q P l some;
  } (le_refl zero_q, tt);
}
  where
    v : ℚ
    v = l *ℚ int (pos (suc e))

    shape : step_pieces l P v (J -ℚ int (pos e) *ℚ P) ≡ flat zero_q v ∷ []
    shape = ap (λ b. cond b (flat zero_q v ∷ []) (flat zero_q v ∷ flat (P -ℚ (J -ℚ int (pos e) *ℚ P)) (v +ℚ l) ∷ [])) (le_q_out (J -ℚ int (pos e) *ℚ P) zero_q none)

-- in two pieces
steps_two : (l P J : ℚ) (e : ℕ) (late : ℚ) → late ≡ J -ℚ int (pos e) *ℚ P → zero_q <ℚ l → zero_q <ℚ P → zero_q ≤ℚ J → e ≡ whole_part (J /ℚ P) → zero_q <ℚ late → late <ℚ P
    → IsNormal (periodic (flat zero_q (l *ℚ int (pos (suc e))) ∷ flat (P -ℚ late) (l *ℚ int (pos (suc e)) +ℚ l) ∷ []) zero_q P l)
steps_two l P J e late is packet some jitter q past short = record {
  raw = record {
    starts = (refl, (up, tt));
    tail = record {
      nonneg = le_refl zero_q;
      some = some;
      starts = (with1 P (λ c. omega (arith, c.le, c.lt, c.same)), (with2 P late (λ c. omega (arith, c.le, c.lt, c.same)), tt));
    };
  };
  rank_is_start = inl refl;
  no_merge = (λ h. rises l v (P -ℚ late) packet (fin_same h.0), tt);
  tail = stair_tail ps (value_at (periodic ps zero_q P l)) P l (P -ℚ late) record {
    packet = packet;
    period = some;
    first = up;
    counts = λ t start. let (k, h) = counted l P J packet some jitter e q t start in (k, sym (ap (λ qs. value_at (periodic qs zero_q P l) t) shape) ∙ h);
    flat = stair_first l P J zero_q (P -ℚ late) ps some (with2 P late (λ c. omega (arith, c.le, c.lt, c.same)))
        (λ u a b. first_step v (P -ℚ late) (v +ℚ l) u a b ∙ sym (first_step v (P -ℚ late) (v +ℚ l) zero_q (le_refl zero_q) up)) up;
    repeats = periodic_rule ps zero_q P l some;
  } (le_refl zero_q, (le_of_lt up, tt));
}
  where
    v : ℚ
    v = l *ℚ int (pos (suc e))

    ps : List Piece
    ps = flat zero_q v ∷ flat (P -ℚ late) (v +ℚ l) ∷ []

    up : zero_q <ℚ P -ℚ late
    up = with2 P late (λ c. omega (arith, c.le, c.lt, c.same))

    shape : step_pieces l P v (J -ℚ int (pos e) *ℚ P) ≡ ps
    shape =
        ap (λ b. cond b (flat zero_q v ∷ []) (flat zero_q v ∷ flat (P -ℚ (J -ℚ int (pos e) *ℚ P)) (v +ℚ l) ∷ [])) (le_q_not (J -ℚ int (pos e) *ℚ P) zero_q (subst (λ z. zero_q <ℚ z) is past))
        ∙ ap (λ z. flat zero_q v ∷ flat (P -ℚ z) (v +ℚ l) ∷ []) (sym is)

    rises : (l v x : ℚ) → zero_q <ℚ l → v +ℚ l ≡ v +ℚ zero_q *ℚ x → ⊥
    rises l v x h e = with3 l v x (λ c. omega (arith, c.le, c.lt, c.same, e))

pub stair_normal : (l P J : ℚ) → zero_q ≤ℚ l → zero_q <ℚ P → zero_q ≤ℚ J → IsNormal (stair l P J)
stair_normal l P J h some jitter = elim (le_or_lt l zero_q) [
  | inl k ↦ rw (le_q_out l zero_q k) (bucket_normal zero_q zero_q)
  | inr k ↦
      let late = J -ℚ int (pos (whole_part (J /ℚ P))) *ℚ P in
      rw (le_q_not l zero_q k) (elim (le_or_lt late zero_q) [
        | inl none ↦ rw (le_q_out late zero_q none) (steps_one l P J (whole_part (J /ℚ P)) k some jitter refl none)
        | inr past ↦
            let high = ratio_high P J some in
            let ep = int (pos (whole_part (J /ℚ P))) *ℚ P in
            rw (le_q_not late zero_q past)
            (steps_two l P J (whole_part (J /ℚ P)) late refl k some jitter refl past (with3 J ep P (λ c. omega (arith, c.le, c.lt, c.same))))
      ])
]

-- ---- a gate
-- what a gate's curve is known by: nothing up to y, and then the rate up to the end of the cycle
record IsGate (f : ℚ → Ext) (R c y w : ℚ) : Type 0 where
  pub rate : zero_q <ℚ R
  pub closed : zero_q <ℚ y
  pub opens : y <ℚ c
  pub rise : zero_q <ℚ w
  pub none : (t : ℚ) → zero_q ≤ℚ t → t ≤ℚ y → f t ≡ Fin zero_q
  pub some : (t : ℚ) → y ≤ℚ t → t <ℚ c → f t ≡ Fin (neg_ℚ (R *ℚ y) +ℚ R *ℚ t)

no_gate_line : (f : ℚ → Ext) (R c y w : ℚ) → IsGate f R c y w → (m : Option Line) → ¬ ((t : ℚ) → zero_q ≤ℚ t → f t ≡ line_value m t)
no_gate_line f R c y w G m h =
    let flat_at = λ (t : ℚ). ap Fin (flat_zero t) in
    let is = lines_at_two m (Some record { icept = zero_q; slope = zero_q }) zero_q y G.closed
    (sym (h zero_q (le_refl zero_q)) ∙ G.none zero_q (le_refl zero_q) (le_of_lt G.closed) ∙ sym (flat_at zero_q))
    (sym (h y (le_of_lt G.closed)) ∙ G.none y (le_of_lt G.closed) (le_refl y) ∙ sym (flat_at y)) in
    let (t, p, q) = between y c G.opens in
    let start = le_of_lt (lt_le_trans G.closed (le_of_lt p)) in
    let e = fin_same (sym (G.some t (le_of_lt p) q) ∙ h t start ∙ ap (λ z. line_value z t) is ∙ flat_at t) in
    let k = mul_pos G.rate (gap y t p) in
    let d = mul_sub R t y in
    apart (R *ℚ y) (R *ℚ t) (R *ℚ (t -ℚ y)) e k d
  where
    flat_zero : (t : ℚ) → zero_q +ℚ zero_q *ℚ t ≡ zero_q
    flat_zero t = with1 t (λ c. omega (arith, c.le, c.lt, c.same))

    gap : (y t : ℚ) → y <ℚ t → zero_q <ℚ t -ℚ y
    gap y t h = with2 y t (λ c. omega (arith, c.le, c.lt, c.same))

    apart : (ry rt d : ℚ) → neg_ℚ ry +ℚ rt ≡ zero_q → zero_q <ℚ d → d ≡ rt -ℚ ry → ⊥
    apart ry rt d e k s = with3 ry rt d (λ c. omega (arith, c.le, c.lt, c.same, e, s))

-- a share x of the cycle
no_shorter_gate : (f : ℚ → Ext) (R c y w x v : ℚ) → IsGate f R c y w → zero_q <ℚ x → x <ℚ c → zero_q <ℚ v → Repeats f zero_q x v → ⊥
no_shorter_gate f R c y w x v G pos_x short pos_v h = elim (le_or_lt x y) [
  | inl l ↦
      -- nothing is done before the gate opens
      let low : zero_q ≤ℚ zero_q +ℚ x = with1 x (λ c. omega (arith, c.le, c.lt, c.same)) in
      let high : zero_q +ℚ x ≤ℚ y = with2 x y (λ c. omega (arith, c.le, c.lt, c.same)) in
      let e = fin_same (sym (G.none (zero_q +ℚ x) low high) ∙ h.rule zero_q (le_refl zero_q) ∙ ap (λ z. z +ₑ Fin v) (G.none zero_q (le_refl zero_q) (le_of_lt G.closed))) in
      with1 v (λ c. omega (arith, c.le, c.lt, c.same, e))
  | inr l ↦
      -- a little later the gate is open and the share before is closed
      let room = c -ℚ x in
      let (t, p, q) = between zero_q (min_q y room) (below_min_in y room zero_q G.closed (with2 c x (λ c. omega (arith, c.le, c.lt, c.same)))) in
      let both = below_min_out y room t q in
      later t p both.0 both.1 l
]
  where
    later : (t : ℚ) → zero_q <ℚ t → t <ℚ y → t <ℚ c -ℚ x → y <ℚ x → ⊥
    later t p early room opened =
        let at0 = fin_same (sym (G.some (zero_q +ℚ x) (with2 x y (λ c. omega (arith, c.le, c.lt, c.same))) (with2 x c (λ c. omega (arith, c.le, c.lt, c.same)))) ∙ h.rule zero_q (le_refl zero_q) ∙ ap (λ z. z +ₑ Fin v) (G.none zero_q (le_refl zero_q) (le_of_lt G.closed))) in
        let at_t = fin_same (sym (G.some (t +ℚ x) (with3 t x y (λ c. omega (arith, c.le, c.lt, c.same))) (with3 t x c (λ c. omega (arith, c.le, c.lt, c.same)))) ∙ h.rule t (le_of_lt p) ∙ ap (λ z. z +ₑ Fin v) (G.none t (le_of_lt p) (le_of_lt early))) in
        let a = mul_add R t x in
        let b = mul_add R zero_q x in
        let z = mul_zero R in
        let k = mul_pos G.rate p in
        apart (R *ℚ y) (R *ℚ (zero_q +ℚ x)) (R *ℚ (t +ℚ x)) (R *ℚ t) (R *ℚ x) (R *ℚ zero_q) at0 at_t a b z k
      where
        apart : (ry r0x rtx rt rx r0 : ℚ) → neg_ℚ ry +ℚ r0x ≡ zero_q +ℚ v → neg_ℚ ry +ℚ rtx ≡ zero_q +ℚ v → rtx ≡ rt +ℚ rx → r0x ≡ r0 +ℚ rx → r0 ≡ zero_q → zero_q <ℚ rt → ⊥
        apart ry r0x rtx rt rx r0 e f a b z k = with7 ry r0x rtx rt rx r0 v (λ c. omega (arith, c.le, c.lt, c.same, e, f, a, b, z))

share_less : (c : ℚ) (n : ℕ) → zero_q <ℚ c → 2 ≤ n → c /ℚ int (pos n) <ℚ c
share_less c n some two =
    let N = int (pos n) in
    let n_pos : zero_q <ℚ N = nat_lt 0 n (omega arith) in
    let one : int (pos 1) <ℚ N = nat_lt 1 n (omega arith) in
    let more : c *ℚ int (pos 1) <ℚ c *ℚ N = mul_lt c (int (pos 1)) N some one in
    let u = mul_one c in
    lt_of_mul N (c /ℚ N) c n_pos (subst (λ x. x <ℚ c *ℚ N) (sym (div_mul c N (not_zero N n_pos))) (subst (λ x. x <ℚ c *ℚ N) u more))
  where
    mul_lt : (c x y : ℚ) → zero_q <ℚ c → x <ℚ y → c *ℚ x <ℚ c *ℚ y
    mul_lt c x y h l = let a = mul_comm c x in let b = mul_comm c y in subst (λ z. z <ℚ c *ℚ y) (sym a) (subst (λ z. x *ℚ c <ℚ z) (sym b) (mul_lt_mul_right c h l))

gated_open : (R c s t : ℚ) → c -ℚ s ≤ℚ t → t <ℚ c → zero_q <ℚ c → value_at (gated R c s) t ≡ Fin (neg_ℚ (R *ℚ (c -ℚ s)) +ℚ R *ℚ t)
unfolding value_at
gated_open R c s t low high some =
    repeated_first (read (gate_pieces R c s)) zero_q c (R *ℚ s) t some (with2 t c (λ c. omega (arith, c.le, c.lt, c.same))) ∙ open_value R c s t low

gated_closed : (R c s t : ℚ) → zero_q ≤ℚ t → t ≤ℚ c -ℚ s → zero_q <ℚ c → zero_q <ℚ c -ℚ s → zero_q <ℚ s → value_at (gated R c s) t ≡ Fin zero_q
unfolding value_at
gated_closed R c s t low high some up slot = elim (le_or_lt (c -ℚ s) t) [
  | inr l ↦ repeated_first (read (gate_pieces R c s)) zero_q c (R *ℚ s) t some (with3 t c s (λ c. omega (arith, c.le, c.lt, c.same))) ∙ closed_value R c s t low l
  | inl k ↦
      let same : t ≡ c -ℚ s = antisym (high, k) in
      repeated_first (read (gate_pieces R c s)) zero_q c (R *ℚ s) t some (with3 t c s (λ c. omega (arith, c.le, c.lt, c.same)))
      ∙ open_value R c s t k ∙ ap Fin (ap (λ u. neg_ℚ (R *ℚ (c -ℚ s)) +ℚ R *ℚ u) same ∙ with1 (R *ℚ (c -ℚ s)) (λ c. omega (arith, c.le, c.lt, c.same)))
]

pub gated_normal : (R c s : ℚ) → zero_q <ℚ R → zero_q <ℚ s → s <ℚ c → IsNormal (gated R c s)
gated_normal R c s rate slot short = record {
  raw = record {
    starts = (refl, (up, tt));
    tail = record {
      nonneg = le_refl zero_q;
      some = cycle;
      starts = (at_start, (inside, tt));
    };
  };
  rank_is_start = inl refl;
  no_merge = (λ h. not_flat R (neg_ℚ (R *ℚ (c -ℚ s))) zero_q rate h.1, tt);
  tail = record {
    least_period = λ n two h. no_shorter_gate f R c (c -ℚ s) (R *ℚ s) (c /ℚ int (pos n)) ((R *ℚ s) /ℚ int (pos n)) is
        (part_pos c n cycle two) (share_less c n cycle two) (part_pos (R *ℚ s) n (mul_pos rate slot) two) h;
    least_rank = (λ l. absurd (lt_irrefl zero_q l), (λ l. absurd (lt_irrefl zero_q (le_lt_trans (le_of_lt up) l)), tt));
    not_one_line = no_gate_line f R c (c -ℚ s) (R *ℚ s) is;
  };
}
  where
    f : ℚ → Ext
    f = value_at (gated R c s)

    cycle : zero_q <ℚ c
    cycle = with2 c s (λ z. omega (arith, z.le, z.lt, z.same))

    up : zero_q <ℚ c -ℚ s
    up = with2 c s (λ z. omega (arith, z.le, z.lt, z.same))

    at_start : zero_q <ℚ zero_q +ℚ c
    at_start = with2 c s (λ z. omega (arith, z.le, z.lt, z.same))

    inside : c -ℚ s <ℚ zero_q +ℚ c
    inside = with2 c s (λ z. omega (arith, z.le, z.lt, z.same))

    before_end : c -ℚ s <ℚ c
    before_end = with2 c s (λ z. omega (arith, z.le, z.lt, z.same))

    is : IsGate f R c (c -ℚ s) (R *ℚ s)
    is = record {
      rate = rate;
      closed = up;
      opens = before_end;
      rise = mul_pos rate slot;
      none = λ t a b. gated_closed R c s t a b cycle up slot;
      some = λ t a b. gated_open R c s t a b cycle;
    }

pub gate_normal : (R c s : ℚ) → zero_q ≤ℚ R → zero_q <ℚ s → s ≤ℚ c → IsNormal (gate R c s)
gate_normal R c s rate slot fits = elim (le_or_lt R zero_q) [
  | inl k ↦ rw (le_q_out R zero_q k) (bucket_normal zero_q R)
  | inr k ↦ elim (le_or_lt c s) [
    | inl l ↦ rw (le_q_not R zero_q k, le_q_out c s l) (bucket_normal zero_q R)
    | inr l ↦ rw (le_q_not R zero_q k, le_q_not c s l) (gated_normal R c s k slot l)
  ]
]
