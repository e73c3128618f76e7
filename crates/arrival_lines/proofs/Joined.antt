-- Turns that come at one time, made one.
use Rattle.std.specs.Prelude.{◌≡◌, ℕ, suc, ◌+◌, ◌-◌, ◌*◌, ◌^◌, ◌<◌, ◌≤◌, List, [], ◌∷◌, ◌++◌, length, get_or, take, drop, Some}
use Rattle.std.proofs.Common.{arith, sym, ap, ◌∙◌, subst, inl, inr}
use Rattle.std.specs.List.{sum_by}
use Rattle.std.proofs.Math.Seq.{take-suc}
use Rattle.std.proofs.Math.Nat.{mul-le-mul_right, mul-lt-mul_of_pos_right, lt_of_mul-lt-mul_right}
use Rattle.std.proofs.lemmas.Bool.{cases_lt}
use Rattle.std.proofs.lemmas.List.{length-append, get_or_push, get_or_append_left, get_or_default, drop_all}
use Rattle.std.proofs.lemmas.List.Sums.{sum_by-cons, sum_by_push, sum_by-take-le}
use Rattle.rational.specs.Rational.{ℚ, ◌+ℚ◌, ◌-ℚ◌, ◌*ℚ◌, ◌≤ℚ◌}
use Rattle.rational.specs.MinMax.{min_q}
use Rattle.rational.proofs.Laws.{add_mul, le_or_lt, le_of_lt}
use Rattle.rational.proofs.MinMax.{min_q_left, min_q_is_right}
use Rattle.rational.proofs.Linear.{with2, with3, with4, with6, with7}
use Rattle.min_plus.specs.Functions.{zero_q}
use Rattle.arrival_lines.specs.Grid.{bits, speed}
use Rattle.arrival_lines.specs.Turns.{ahead, taken, AreInOrder, AreApart, AreJoined, Ties, both_turns, AllFit, IsJoined}
use Rattle.arrival_lines.specs.declared.turns.Turn.{Turn}
use Rattle.arrival_lines.proofs.Units.{bits_add, speed_add}
use Rattle.arrival_lines.proofs.Taken.{off, taken_none, taken_more, taken_kept}
use Rattle.arrival_lines.proofs.Stepped.{split_at}
use Rattle.arrival_lines.proofs.InOrder.{later_ahead, earlier_past}

-- ---- two that come at one time take off together what they take off each
ahead_both : (x y : Turn) (t : ℚ) → ahead (both_turns x y) t ≡ ahead x t +ℚ ahead y t
ahead_both x y t =
    let p = bits_add x.rise y.rise in
    let q = ap (λ z. z *ℚ t) (speed_add x.fall y.fall) ∙ add_mul (speed x.fall) (speed y.fall) t in
    joined (bits x.rise) (bits y.rise) (bits (x.rise + y.rise)) (speed x.fall *ℚ t) (speed y.fall *ℚ t) (speed (x.fall + y.fall) *ℚ t) p q
  where
    joined : (k l m u v w : ℚ) → m ≡ k +ℚ l → w ≡ u +ℚ v → m -ℚ w ≡ (k -ℚ u) +ℚ (l -ℚ v)
    joined k l m u v w p q = with6 k l m u v w (λ c. omega (arith, c.le, c.lt, c.same))

off_both : (x y : Turn) (t : ℚ) → 0 < x.fall → Ties x y → off (both_turns x y) t ≡ off x t +ℚ off y t
off_both x y t some e = elim (le_or_lt zero_q (ahead x t)) [
  | inl on ↦
      let here = later_ahead x y t some (omega (arith, e)) on in
      let a = min_q_left zero_q (ahead x t) on in
      let b = min_q_left zero_q (ahead y t) here in
      let c = min_q_left zero_q (ahead x t +ℚ ahead y t) (sum_on (ahead x t) (ahead y t) on here) in
      ap (min_q zero_q) (ahead_both x y t) ∙ c ∙ none (off x t) (off y t) a b
  | inr past ↦
      let on = le_of_lt past in
      let here = earlier_past y x t some (omega (arith, e)) on in
      let a = min_q_is_right zero_q (ahead x t) on in
      let b = min_q_is_right zero_q (ahead y t) here in
      let c = min_q_is_right zero_q (ahead x t +ℚ ahead y t) (sum_past (ahead x t) (ahead y t) on here) in
      ap (min_q zero_q) (ahead_both x y t) ∙ c ∙ whole_sum (off x t) (off y t) (ahead x t) (ahead y t) a b
]
  where
    sum_on : (a b : ℚ) → zero_q ≤ℚ a → zero_q ≤ℚ b → zero_q ≤ℚ a +ℚ b
    sum_on a b h k = with2 a b (λ c. omega (arith, c.le, c.lt, c.same))

    sum_past : (a b : ℚ) → a ≤ℚ zero_q → b ≤ℚ zero_q → a +ℚ b ≤ℚ zero_q
    sum_past a b h k = with2 a b (λ c. omega (arith, c.le, c.lt, c.same))

    none : (p q : ℚ) → p ≡ zero_q → q ≡ zero_q → zero_q ≡ p +ℚ q
    none p q h k = with2 p q (λ c. omega (arith, c.le, c.lt, c.same))

    whole_sum : (p q a b : ℚ) → p ≡ a → q ≡ b → a +ℚ b ≡ p +ℚ q
    whole_sum p q a b h k = with4 p q a b (λ c. omega (arith, c.le, c.lt, c.same))

-- ---- what the loop keeps: the joined ones so far and the turns from i on
pub record AreJoinedTo (turns : List Turn) (i : ℕ) (all : List Turn) : Type 0 where
  pub value : (t : ℚ) → taken all t +ℚ taken (drop i turns) t ≡ taken turns t
  pub rises : sum_by (λ turn. turn.rise) all + sum_by (λ turn. turn.rise) (drop i turns) ≡ sum_by (λ turn. turn.rise) turns
  pub falls : sum_by (λ turn. turn.fall) all + sum_by (λ turn. turn.fall) (drop i turns) ≡ sum_by (λ turn. turn.fall) turns
  pub turning : (k : ℕ) (d : Turn) → k < length all → (0 < (get_or all k d).rise) × (0 < (get_or all k d).fall)
  pub apart : AreApart all
  pub rest : (k j : ℕ) (d : Turn) → k < length all → i ≤ j → j < length turns → (get_or all k d).rise * (get_or turns j d).fall ≤ (get_or turns j d).rise * (get_or all k d).fall

pub none_joined : (turns all : List Turn) → all ≡ [] → AreJoinedTo turns 0 all
none_joined turns all e = subst (AreJoinedTo turns 0) (sym e) record {
  value = λ t. let z = taken_none t in let x = taken turns t in let y = taken [] t in with2 x y (λ c. omega (arith, c.le, c.lt, c.same));
  rises = omega arith;
  falls = omega arith;
  turning = λ k d h. absurd (omega arith);
  apart = record { apart = λ i j d h l. absurd (omega arith) };
  rest = λ k j d h l m. absurd (omega arith);
}

-- an element is at most the sum
at_most_sum : (f : Turn → ℕ) (xs : List Turn) (k : ℕ) (d : Turn) → k < length xs → f (get_or xs k d) ≤ sum_by f xs
at_most_sum f xs k d h =
    let e = ap (sum_by f) (take-suc xs k d h) ∙ sum_by_push f (take k xs) (get_or xs k d) in
    let l = sum_by-take-le f xs (suc k) in
    omega (arith, e, l)

pub all_fit : (turns all : List Turn) (i : ℕ) (d : Turn) → i < length turns → AreJoinedTo turns i all → sum_by (λ turn. turn.rise) turns < 2 ^ 64
    → sum_by (λ turn. turn.fall) turns < 2 ^ 64 → AllFit all (get_or turns i d)
all_fit turns all i d h are high steep = λ k e l.
    let r = are.rises in
    let f = are.falls in
    let a = at_most_sum (λ (turn : Turn). turn.rise) all k e l in
    let b = at_most_sum (λ (turn : Turn). turn.fall) all k e l in
    let p = ap (sum_by (λ (turn : Turn). turn.rise)) (split_at turns i d h) ∙ sum_by-cons (λ (turn : Turn). turn.rise) (get_or turns i d) (drop (i + 1) turns) in
    let q = ap (sum_by (λ (turn : Turn). turn.fall)) (split_at turns i d h) ∙ sum_by-cons (λ (turn : Turn). turn.fall) (get_or turns i d) (drop (i + 1) turns) in
    (omega (arith, r, a, p, high), omega (arith, f, b, q, steep))

-- a, z and x in time: the first two apart
chained_less : (ar af zr zf xr xf : ℕ) → 0 < zf → 0 < xf → ar * zf < zr * af → zr * xf ≤ xr * zf → ar * xf < xr * af
chained_less ar af zr zf xr xf some other h l =
    let p : (ar * zf) * xf < (zr * af) * xf = mul-lt-mul_of_pos_right h other in
    let q : (zr * xf) * af ≤ (xr * zf) * af = mul-le-mul_right af l in
    let r : (ar * xf) * zf < (xr * af) * zf = omega (arith, p, q) in
    lt_of_mul-lt-mul_right zf r

-- ---- one turn more
taken_one : (xs : List Turn) (x : Turn) (t : ℚ) → taken (xs ++ x ∷ []) t ≡ taken xs t +ℚ off x t
taken_one xs x t = taken_kept xs (Some x) t

module _ (turns all : List Turn) (i : ℕ) (d : Turn) (inside : i < length turns) (order : AreInOrder turns) (are : AreJoinedTo turns i all) where
  -- what the turn is of what is left
  value_left : (t : ℚ) → taken (drop i turns) t ≡ off (get_or turns i d) t +ℚ taken (drop (i + 1) turns) t
  value_left t = ap (λ ts. taken ts t) (split_at turns i d inside) ∙ taken_more (get_or turns i d) (drop (i + 1) turns) t

  rises_left : sum_by (λ turn. turn.rise) (drop i turns) ≡ (get_or turns i d).rise + sum_by (λ turn. turn.rise) (drop (i + 1) turns)
  rises_left = ap (sum_by (λ (turn : Turn). turn.rise)) (split_at turns i d inside) ∙ sum_by-cons (λ (turn : Turn). turn.rise) (get_or turns i d) (drop (i + 1) turns)

  falls_left : sum_by (λ turn. turn.fall) (drop i turns) ≡ (get_or turns i d).fall + sum_by (λ turn. turn.fall) (drop (i + 1) turns)
  falls_left = ap (sum_by (λ (turn : Turn). turn.fall)) (split_at turns i d inside) ∙ sum_by-cons (λ (turn : Turn). turn.fall) (get_or turns i d) (drop (i + 1) turns)

  -- behind the others
  behind : ((k : ℕ) (e : Turn) → suc k ≡ length all → Ties (get_or all k e) (get_or turns i d) → ⊥) → AreJoinedTo turns (i + 1) (all ++ get_or turns i d ∷ [])
  behind later = record {
    value = λ t.
        let a = are.value t in
        let b = value_left t in
        let c2 = taken_one all (get_or turns i d) t in
        moved (taken all t) (taken (drop i turns) t) (taken turns t) (off (get_or turns i d) t) (taken (drop (i + 1) turns) t) (taken (all ++ get_or turns i d ∷ []) t) a b c2;
    rises = let a = are.rises in let b = rises_left in let p = sum_by_push (λ (turn : Turn). turn.rise) all (get_or turns i d) in omega (arith, a, b, p);
    falls = let a = are.falls in let b = falls_left in let p = sum_by_push (λ (turn : Turn). turn.fall) all (get_or turns i d) in omega (arith, a, b, p);
    turning = λ k e h. elim (cases_lt k (length all)) [
      | inl l ↦ subst (λ (x : Turn). (0 < x.rise) × (0 < x.fall)) (sym (get_or_append_left all (get_or turns i d ∷ []) e k l)) (are.turning k e l)
      | inr l ↦
          let long = length-append all (get_or turns i d ∷ []) in
          subst (λ (x : Turn). (0 < x.rise) × (0 < x.fall)) (sym (get_or_push all (get_or turns i d) e k (omega (arith, h, l, long)))) (order.rise i d inside, order.fall i d inside)
    ];
    apart = record {
      apart = λ j k e h l. elim (cases_lt k (length all)) [
        | inl m ↦
            subst (λ (x : Turn). Before x (get_or (all ++ get_or turns i d ∷ []) k e)) (sym (get_or_append_left all (get_or turns i d ∷ []) e j (omega (arith, h, m))))
            (subst (λ (x : Turn). Before (get_or all j e) x) (sym (get_or_append_left all (get_or turns i d ∷ []) e k m)) (are.apart.apart j k e h m))
        | inr m ↦
            let long = length-append all (get_or turns i d ∷ []) in
            subst (λ (x : Turn). Before x (get_or (all ++ get_or turns i d ∷ []) k e)) (sym (get_or_append_left all (get_or turns i d ∷ []) e j (omega (arith, h, l, long, m))))
            (subst (λ (x : Turn). Before (get_or all j e) x) (sym (get_or_push all (get_or turns i d) e k (omega (arith, l, m, long)))) (before_it j e (omega (arith, h, l, long, m))))
      ];
    };
    rest = λ k j e h l m. elim (cases_lt k (length all)) [
      | inl n ↦ subst (λ (x : Turn). NotAfter x (get_or turns j e)) (sym (get_or_append_left all (get_or turns i d ∷ []) e k n)) (are.rest k j e n (omega (arith, l)) m)
      | inr n ↦
          let long = length-append all (get_or turns i d ∷ []) in
          subst (λ (x : Turn). NotAfter x (get_or turns j e)) (sym (get_or_push all (get_or turns i d) e k (omega (arith, h, n, long))))
          (subst (λ (x : Turn). NotAfter x (get_or turns j e)) (get_or_default turns i e d inside) (order.come i j e (omega (arith, l)) m))
    ];
  }
    where
      Before : Turn → Turn → Type 0
      Before x y = x.rise * y.fall < y.rise * x.fall

      NotAfter : Turn → Turn → Type 0
      NotAfter x y = x.rise * y.fall ≤ y.rise * x.fall

      moved : (a l s o r n : ℚ) → a +ℚ l ≡ s → l ≡ o +ℚ r → n ≡ a +ℚ o → n +ℚ r ≡ s
      moved a l s o r n p q k = with6 a l s o r n (λ c. omega (arith, c.le, c.lt, c.same))

      last_before : (j : ℕ) (e : Turn) → suc j ≡ length all → Before (get_or all j e) (get_or turns i d)
      last_before j e at =
          let a = subst (λ (x : Turn). NotAfter (get_or all j e) x) (get_or_default turns i e d inside) (are.rest j i e (omega (arith, at)) (omega arith) inside) in
          not_tied (get_or all j e) (get_or turns i d) a (later j e at)
        where
          not_tied : (x y : Turn) → NotAfter x y → (Ties x y → ⊥) → Before x y
          not_tied x y h free = elim (cases_lt (x.rise * y.fall) (y.rise * x.fall)) [ inl l ↦ l | inr l ↦ absurd (free (omega (arith, h, l))) ]

      before_it : (j : ℕ) (e : Turn) → j < length all → Before (get_or all j e) (get_or turns i d)
      before_it j e h = elim (cases_lt (suc j) (length all)) [
        | inr l ↦ last_before j e (omega (arith, h, l))
        | inl l ↦
            let z = length all - 1 in
            let x = get_or all j e in
            let y = get_or all (length all - 1) e in
            let w = get_or turns i d in
            let a = are.apart.apart j (length all - 1) e (omega (arith, l)) (omega (arith, l)) in
            let b = last_before (length all - 1) e (omega (arith, l)) in
            chained_less x.rise x.fall y.rise y.fall w.rise w.fall (are.turning (length all - 1) e (omega (arith, l))).1 (order.fall i d inside) a (omega (arith, b))
      ]

-- added to the last of them
module _ (turns rest : List Turn) (last : Turn) (i : ℕ) (d : Turn) (inside : i < length turns) (order : AreInOrder turns) (are : AreJoinedTo turns i (rest ++ last ∷ []))
    (ties : Ties last (get_or turns i d)) where
  both : Turn
  both = both_turns last (get_or turns i d)

  last_is : (e : Turn) → get_or (rest ++ last ∷ []) (length rest) e ≡ last
  last_is e = get_or_push rest last e (length rest) (omega arith)

  long : length (rest ++ last ∷ []) ≡ length rest + 1
  long = length-append rest (last ∷ [])

  last_turns : (0 < last.rise) × (0 < last.fall)
  last_turns = let l = long in subst (λ (x : Turn). (0 < x.rise) × (0 < x.fall)) (last_is d) (are.turning (length rest) d (omega (arith, l)))

  added : AreJoinedTo turns (i + 1) (rest ++ both_turns last (get_or turns i d) ∷ [])
  added = record {
    value = λ t.
        let a = are.value t in
        let b = ap (λ ts. taken ts t) (split_at turns i d inside) ∙ taken_more (get_or turns i d) (drop (i + 1) turns) t in
        let p = taken_one rest last t in
        let q = taken_one rest (both_turns last (get_or turns i d)) t in
        let o = off_both last (get_or turns i d) t (last_turns.1) ties in
        moved (taken rest t) (off last t) (off (get_or turns i d) t) (off (both_turns last (get_or turns i d)) t) (taken (rest ++ last ∷ []) t) (taken (drop i turns) t) (taken (drop (i + 1) turns) t) (taken turns t) (taken (rest ++ both_turns last (get_or turns i d) ∷ []) t) a b p q o;
    rises =
        let a = are.rises in
        let b = ap (sum_by (λ (turn : Turn). turn.rise)) (split_at turns i d inside) ∙ sum_by-cons (λ (turn : Turn). turn.rise) (get_or turns i d) (drop (i + 1) turns) in
        let p = sum_by_push (λ (turn : Turn). turn.rise) rest last in
        let q = sum_by_push (λ (turn : Turn). turn.rise) rest (both_turns last (get_or turns i d)) in
        omega (arith, a, b, p, q);
    falls =
        let a = are.falls in
        let b = ap (sum_by (λ (turn : Turn). turn.fall)) (split_at turns i d inside) ∙ sum_by-cons (λ (turn : Turn). turn.fall) (get_or turns i d) (drop (i + 1) turns) in
        let p = sum_by_push (λ (turn : Turn). turn.fall) rest last in
        let q = sum_by_push (λ (turn : Turn). turn.fall) rest (both_turns last (get_or turns i d)) in
        omega (arith, a, b, p, q);
    turning = λ k e h. elim (cases_lt k (length rest)) [
      | inl l ↦
          let m = long in
          subst (λ (x : Turn). (0 < x.rise) × (0 < x.fall)) (get_or_append_left rest (last ∷ []) e k l ∙ sym (get_or_append_left rest (both_turns last (get_or turns i d) ∷ []) e k l)) (are.turning k e (omega (arith, l, m)))
      | inr l ↦
          let m = length-append rest (both_turns last (get_or turns i d) ∷ []) in
          let t = last_turns in
          subst (λ (x : Turn). (0 < x.rise) × (0 < x.fall)) (sym (get_or_push rest (both_turns last (get_or turns i d)) e k (omega (arith, h, l, m)))) (omega (arith, t.0), omega (arith, t.1))
    ];
    apart = record {
      apart = λ j k e h l. elim (cases_lt k (length rest)) [
        | inl m ↦
            let n = long in
            subst (λ (x : Turn). Before x (get_or (rest ++ both_turns last (get_or turns i d) ∷ []) k e)) (same j e (omega (arith, h, m)))
            (subst (λ (x : Turn). Before (get_or (rest ++ last ∷ []) j e) x) (same k e m) (are.apart.apart j k e h (omega (arith, m, n))))
        | inr m ↦
            let n = length-append rest (both_turns last (get_or turns i d) ∷ []) in
            let at : k ≡ length rest = omega (arith, l, m, n) in
            subst (λ (x : Turn). Before x (get_or (rest ++ both_turns last (get_or turns i d) ∷ []) k e)) (same j e (omega (arith, h, at)))
            (subst (λ (x : Turn). Before (get_or (rest ++ last ∷ []) j e) x) (sym (get_or_push rest (both_turns last (get_or turns i d)) e k (sym at))) (before_both j e (omega (arith, h, at))))
      ];
    };
    rest = λ k j e h l m. elim (cases_lt k (length rest)) [
      | inl n ↦
          let w = long in
          subst (λ (x : Turn). NotAfter x (get_or turns j e)) (same k e n) (are.rest k j e (omega (arith, n, w)) (omega (arith, l)) m)
      | inr n ↦
          let w = length-append rest (both_turns last (get_or turns i d) ∷ []) in
          let v = long in
          let at : k ≡ length rest = omega (arith, h, n, w) in
          let a = subst (λ (x : Turn). NotAfter x (get_or turns j e)) (last_is e) (are.rest (length rest) j e (omega (arith, v)) (omega (arith, l)) m) in
          let b = subst (λ (x : Turn). NotAfter x (get_or turns j e)) (get_or_default turns i e d inside) (order.come i j e (omega (arith, l)) m) in
          subst (λ (x : Turn). NotAfter x (get_or turns j e)) (sym (get_or_push rest (both_turns last (get_or turns i d)) e k (sym at))) (both_not_after last (get_or turns i d) (get_or turns j e) a b)
    ];
  }
    where
      Before : Turn → Turn → Type 0
      Before x y = x.rise * y.fall < y.rise * x.fall

      NotAfter : Turn → Turn → Type 0
      NotAfter x y = x.rise * y.fall ≤ y.rise * x.fall

      same : (k : ℕ) (e : Turn) → k < length rest → get_or (rest ++ last ∷ []) k e ≡ get_or (rest ++ both_turns last (get_or turns i d) ∷ []) k e
      same k e l = get_or_append_left rest (last ∷ []) e k l ∙ sym (get_or_append_left rest (both_turns last (get_or turns i d) ∷ []) e k l)

      moved : (r o p q a l m s n : ℚ) → a +ℚ l ≡ s → l ≡ p +ℚ m → a ≡ r +ℚ o → n ≡ r +ℚ q → q ≡ o +ℚ p → n +ℚ m ≡ s
      moved r o p q a l m s n h1 h2 h3 h4 h5 =
          let one : n ≡ r +ℚ (o +ℚ p) = h4 ∙ ap (λ z. r +ℚ z) h5 in
          let two : (r +ℚ o) +ℚ l ≡ s = subst (λ z. z +ℚ l ≡ s) h3 h1 in
          with7 r o p l m s n (λ c. omega (arith, c.le, c.lt, c.same))

      both_not_after : (x y z : Turn) → NotAfter x z → NotAfter y z → NotAfter (both_turns x y) z
      both_not_after x y z h k = omega (arith, h, k)

      before_both : (j : ℕ) (e : Turn) → j < length rest → Before (get_or (rest ++ last ∷ []) j e) (both_turns last (get_or turns i d))
      before_both j e h =
          let n = long in
          let a = subst (λ (x : Turn). Before (get_or (rest ++ last ∷ []) j e) x) (last_is e) (are.apart.apart j (length rest) e h (omega (arith, n))) in
          let b = subst (λ (x : Turn). NotAfter (get_or (rest ++ last ∷ []) j e) x) (get_or_default turns i e d inside) (are.rest j i e (omega (arith, h, n)) (omega arith) inside) in
          less_both (get_or (rest ++ last ∷ []) j e) last (get_or turns i d) a b
        where
          less_both : (x y z : Turn) → Before x y → NotAfter x z → Before x (both_turns y z)
          less_both x y z h k = omega (arith, h, k)

pub one_joined : (turns old new : List Turn) (i : ℕ) (d : Turn) → i < length turns → AreInOrder turns → AreJoinedTo turns i old → IsJoined old (get_or turns i d) new
    → AreJoinedTo turns (i + 1) new
one_joined turns old new i d inside order are (inl one) = subst (AreJoinedTo turns (i + 1)) (sym one.is) (behind turns old i d inside order are one.later)
one_joined turns old new i d inside order are (inr one) =
    subst (AreJoinedTo turns (i + 1)) (sym one.is) (added turns one.rest one.last i d inside order (subst (AreJoinedTo turns i) one.was are) one.ties)

pub all_joined : (turns all : List Turn) (i : ℕ) → length turns ≤ i → AreJoinedTo turns i all → AreJoined turns all
all_joined turns all i h are = record {
  value = λ t.
      let a = are.value t in
      let b = ap (λ ts. taken ts t) (drop_all i turns h) ∙ taken_none t in
      gone (taken all t) (taken (drop i turns) t) (taken turns t) a b;
  rises = let a = are.rises in let b = ap (sum_by (λ (turn : Turn). turn.rise)) (drop_all i turns h) in omega (arith, a, b);
  falls = let a = are.falls in let b = ap (sum_by (λ (turn : Turn). turn.fall)) (drop_all i turns h) in omega (arith, a, b);
  order = record {
    come = λ j k e l m. elim (cases_lt j k) [
      | inl n ↦ let a = are.apart.apart j k e n m in omega (arith, a)
      | inr n ↦ let at : k ≡ j = omega (arith, l, n) in subst (λ (n : ℕ). (get_or all j e).rise * (get_or all n e).fall ≤ (get_or all n e).rise * (get_or all j e).fall) (sym at) (omega arith)
    ];
    fall = λ k e l. (are.turning k e l).1;
    rise = λ k e l. (are.turning k e l).0;
  };
  apart = are.apart;
}
  where
    gone : (x y z : ℚ) → x +ℚ y ≡ z → y ≡ zero_q → x ≡ z
    gone x y z a b = with3 x y z (λ c. omega (arith, c.le, c.lt, c.same))
