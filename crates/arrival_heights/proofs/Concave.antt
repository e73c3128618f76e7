-- A sum of parts is nowhere between two times further above a rate than at these and where neighbouring steps of it meet between.
use Rattle.std.specs.Prelude.{◌≡◌, ℕ, zero, suc, ◌+◌, ◌-◌, ◌*◌, ◌^◌, ◌<◌, ◌≤◌, List, length, get_or, nat_lt, true}
use Rattle.std.proofs.Common.{arith, ap, ◌∙◌, refl, subst, inl, inr}
use Rattle.std.proofs.lemmas.Bool.{cases_lt}
use Rattle.rational.specs.Rational.{ℚ, ◌+ℚ◌, ◌*ℚ◌, ◌≤ℚ◌}
use Rattle.rational.proofs.Laws.{add_mul, le_refl, le_trans, le_total}
use Rattle.rational.proofs.Linear.{with6}
use Rattle.rational.proofs.Quotients.{div_nonneg}
use Rattle.min_plus.specs.Functions.{zero_q}
use Rattle.arrival_lines.specs.Grid.{bits, speed, micros, line_value, parts_value}
use Rattle.arrival_lines.specs.Steps.{AreSteps}
use Rattle.arrival_lines.specs.declared.grid.Line.{Line}
use Rattle.arrival_lines.specs.declared.grid.Part.{Part}
use Rattle.arrival_lines.proofs.Excesses.{parted}
use Rattle.arrival_lines.proofs.InOrder.{is_less, less_is}
use Rattle.arrival_lines.proofs.Units.{bits_add, bits_nonneg, speed_add, speed_le, speed_some, micros_nonneg}
use Rattle.arrival_heights.specs.Greatest.{IsBelow}
use Rattle.arrival_heights.specs.Meetings.{IsWithin, MeetAfter}
use Rattle.arrival_heights.proofs.Split.{before_too, is_after, is_before, later_too, time_is, time_of}

-- what stands past the end of a list
abbrev pub no_line : Line
no_line = record { burst = 0; rate = 0 }

-- ---- two lines
right : (l m : Line) (a t : ℚ) → l.rate ≤ m.rate → a ≤ℚ t → line_value l a ≤ℚ line_value m a → line_value l t ≤ℚ line_value m t
right l m a t slower h low = later_too (bits l.burst) (speed l.rate) (bits m.burst) (speed m.rate) a t (speed_le l.rate m.rate slower) h low

left : (l m : Line) (t c : ℚ) → m.rate ≤ l.rate → t ≤ℚ c → line_value l c ≤ℚ line_value m c → line_value l t ≤ℚ line_value m t
left l m t c faster h low = before_too (bits l.burst) (speed l.rate) (bits m.burst) (speed m.rate) t c (speed_le m.rate l.rate faster) h low

pub lines_meet : (l m : Line) (o u : ℕ) (t : ℚ) → MeetAfter l m o u → speed u *ℚ t ≡ bits o → line_value l t ≡ line_value m t
lines_meet l m o u t after at = joined (bits l.burst) (bits m.burst) (bits o) (speed l.rate *ℚ t) (speed m.rate *ℚ t) (speed u *ℚ t)
    (ap bits after.rise ∙ bits_add l.burst o) (ap (λ n. speed n *ℚ t) after.fall ∙ ap (λ z. z *ℚ t) (speed_add m.rate u) ∙ add_mul (speed m.rate) (speed u) t) at
  where
    joined : (b c o v w z : ℚ) → c ≡ b +ℚ o → v ≡ w +ℚ z → z ≡ o → b +ℚ v ≡ c +ℚ w
    joined b c o v w z e f g = with6 b c o v w z (λ c. omega (arith, c.le, c.lt, c.same))

-- ---- the steps of parts
abbrev pub nth : List Line → ℕ → Line
nth steps k = get_or steps k no_line

abbrev pub limit : (rate x : ℕ) → Line
limit rate x = record { burst = x; rate = rate }

-- where the steps become no faster than the rate
record IsTurn (steps : List Line) (rate m n : ℕ) : Type 0 where
  at : ℕ
  from : m ≤ at
  to : suc at ≤ n
  fast : rate < (nth steps at).rate
  slow : (nth steps (suc at)).rate ≤ rate

module _ (parts : List Part) (steps : List Line) (are : AreSteps parts steps) where
  falls : (i j : ℕ) → i ≤ j → j < length steps → (nth steps j).rate ≤ (nth steps i).rate
  falls i j h inside = elim (cases_lt (nth steps i).rate (nth steps j).rate) [
    | inr no_more ↦ no_more
    | inl more ↦
        let same : nat_lt (nth steps i).rate (nth steps i).rate ≡ true = parted steps (nth steps i).rate are.slowing i j no_line h inside (less_is (nth steps i).rate (nth steps j).rate more) in
        let l = is_less (nth steps i).rate (nth steps i).rate same in
        absurd (omega (arith, l))
  ]

  above : (k : ℕ) (t : ℚ) → k < length steps → zero_q ≤ℚ t → parts_value parts t ≤ℚ line_value (nth steps k) t
  above k t inside on = (are.each k no_line inside).above.above t on

  module _ (rate x : ℕ) where
    -- by a step that is no faster, from a time on, and by one that is no slower, up to a time
    slower_from : (k : ℕ) (a t : ℚ) → k < length steps → (nth steps k).rate ≤ rate → zero_q ≤ℚ a → a ≤ℚ t → line_value (nth steps k) a ≤ℚ line_value (limit rate x) a
        → IsBelow (parts_value parts) rate x t
    slower_from k a t inside slow on h low = le_trans (above k t inside (le_trans on h)) (right (nth steps k) (limit rate x) a t slow h low)

    faster_until : (k : ℕ) (t c : ℚ) → k < length steps → rate ≤ (nth steps k).rate → zero_q ≤ℚ t → t ≤ℚ c → line_value (nth steps k) c ≤ℚ line_value (limit rate x) c
        → IsBelow (parts_value parts) rate x t
    faster_until k t c inside fast on h low = le_trans (above k t inside on) (left (nth steps k) (limit rate x) t c fast h low)

    turning : (gap m n : ℕ) → n ≡ m + gap → rate < (nth steps m).rate → (nth steps n).rate ≤ rate → IsTurn steps rate m n
    turning zero m n e fast slow = let same : n ≡ m = omega (arith, e) in let f = ap (λ i. (nth steps i).rate) same in absurd (omega (arith, f, fast, slow))
    turning (suc gap) m n e fast slow = elim (cases_lt rate (nth steps (m + gap)).rate) [
      | inl still ↦
          let next : n ≡ suc (m + gap) = omega (arith, e) in
          record { at = m + gap; from = omega arith; to = omega (arith, next); fast = still; slow = subst (λ i. (nth steps i).rate ≤ rate) next slow }
      | inr over ↦
          let turn = turning gap m (m + gap) refl fast over in
          let within = turn.to in
          record { at = turn.at; from = turn.from; to = omega (arith, within, e); fast = turn.fast; slow = turn.slow }
    ]

    module _ (begin end : ℕ) (first : IsBelow (parts_value parts) rate x (micros begin)) (last : IsBelow (parts_value parts) rate x (micros end))
        (meets : (k o u : ℕ) (d : Line) (t : ℚ) → suc k < length steps → MeetAfter (get_or steps k d) (get_or steps (suc k) d) o u → IsWithin o u begin end
        → speed u *ℚ t ≡ bits o → IsBelow (line_value (get_or steps k d)) rate x t) where
      -- the sum is step m at the begin and step n at the end; steps k and k + 1, which meet after o / u seconds, are faster and no faster
      module _ (m n k o u : ℕ) (at_begin : line_value (nth steps m) (micros begin) ≤ℚ parts_value parts (micros begin)) (at_end : line_value (nth steps n) (micros end) ≤ℚ parts_value parts (micros end))
          (from : m ≤ k) (to : suc k ≤ n) (inside : n < length steps) (fast : rate < (nth steps k).rate) (slow : (nth steps (suc k)).rate ≤ rate) (after : MeetAfter (nth steps k) (nth steps (suc k)) o u)
          (c : ℚ) (on : zero_q ≤ℚ c) (at : speed u *ℚ c ≡ bits o) where
        alike : line_value (nth steps k) c ≡ line_value (nth steps (suc k)) c
        alike = lines_meet (nth steps k) (nth steps (suc k)) o u c after at

        alike_up : line_value (nth steps k) c ≤ℚ line_value (nth steps (suc k)) c
        alike_up = subst (λ z. line_value (nth steps k) c ≤ℚ z) alike (le_refl (line_value (nth steps k) c))

        alike_down : line_value (nth steps (suc k)) c ≤ℚ line_value (nth steps k) c
        alike_down = subst (λ z. z ≤ℚ line_value (nth steps k) c) alike (le_refl (line_value (nth steps k) c))

        sum_there : line_value (nth steps k) c ≤ℚ parts_value parts c
        sum_there = are.meet c k no_line on (omega (arith, to, inside)) alike

        met_before : (t : ℚ) → c ≤ℚ micros begin → micros begin ≤ℚ t → IsBelow (parts_value parts) rate x t
        met_before t early h =
            let a = right (nth steps (suc k)) (nth steps k) c (micros begin) (omega (arith, fast, slow)) early alike_down in
            let b = right (nth steps k) (nth steps m) c (micros begin) (falls m k from (omega (arith, to, inside))) early (le_trans sum_there (above m c (omega (arith, from, to, inside)) on)) in
            slower_from (suc k) (micros begin) t (omega (arith, to, inside)) slow (micros_nonneg begin) h (le_trans a (le_trans b (le_trans at_begin first)))

        met_behind : (t : ℚ) → micros end ≤ℚ c → zero_q ≤ℚ t → t ≤ℚ micros end → IsBelow (parts_value parts) rate x t
        met_behind t late begun h =
            let a = left (nth steps k) (nth steps (suc k)) (micros end) c (omega (arith, fast, slow)) late alike_up in
            let b = left (nth steps (suc k)) (nth steps n) (micros end) c (falls (suc k) n to inside) late (le_trans alike_down (le_trans sum_there (above n c inside on))) in
            faster_until k t (micros end) (omega (arith, to, inside)) (omega (arith, fast)) begun h (le_trans a (le_trans b (le_trans at_end last)))

        met_between : (t : ℚ) → zero_q ≤ℚ t → line_value (nth steps k) c ≤ℚ line_value (limit rate x) c → IsBelow (parts_value parts) rate x t
        met_between t begun low = elim (le_total t c) [
          | inl before ↦ faster_until k t c (omega (arith, to, inside)) (omega (arith, fast)) begun before low
          | inr later ↦ slower_from (suc k) c t (omega (arith, to, inside)) slow on later (le_trans alike_down low)
        ]

        met : (t : ℚ) → micros begin ≤ℚ t → t ≤ℚ micros end → IsBelow (parts_value parts) rate x t
        met t h l = elim (cases_lt (begin * u) (o * 10 ^ 12)) [
          | inr early ↦ met_before t (is_before o u begin c after.some at early) h
          | inl late ↦ elim (cases_lt (o * 10 ^ 12) (end * u)) [
            | inr behind ↦ met_behind t (is_after o u end c after.some at behind) (le_trans (micros_nonneg begin) h) l
            | inl early ↦ met_between t (le_trans (micros_nonneg begin) h) (meets k o u no_line c (omega (arith, to, inside)) after record { late = late; early = early } at)
          ]
        ]

      turned : (m n : ℕ) → line_value (nth steps m) (micros begin) ≤ℚ parts_value parts (micros begin) → line_value (nth steps n) (micros end) ≤ℚ parts_value parts (micros end)
          → m < length steps → n < length steps → rate < (nth steps m).rate → (nth steps n).rate < rate → (t : ℚ) → micros begin ≤ℚ t → t ≤ℚ micros end → IsBelow (parts_value parts) rate x t
      turned m n at_begin at_end mi ni fast slow t h l = elim (cases_lt m n) [
        | inr back ↦ let f = falls n m back mi in absurd (omega (arith, f, fast, slow))
        | inl before ↦ by_turn (turning (n - m) m n (omega (arith, before)) fast (omega (arith, slow)))
      ]
        where
          by_turn : IsTurn steps rate m n → IsBelow (parts_value parts) rate x t
          by_turn turn =
              let k = turn.at in
              let o = (nth steps (suc k)).burst - (nth steps k).burst in
              let u = (nth steps k).rate - (nth steps (suc k)).rate in
              let inside = turn.to in
              let up = are.rising k no_line (omega (arith, inside, ni)) in
              let down = are.slowing.falling k no_line (omega (arith, inside, ni)) in
              let after : MeetAfter (nth steps k) (nth steps (suc k)) o u = record { some = omega (arith, down); rise = omega (arith, up); fall = omega (arith, down) } in
              met m n k o u at_begin at_end turn.from turn.to ni turn.fast turn.slow after (time_of o u) (div_nonneg (bits o) (speed u) (speed_some u after.some) (bits_nonneg o)) (time_is o u after.some) t h l

      pub bounded : (t : ℚ) → micros begin ≤ℚ t → t ≤ℚ micros end → IsBelow (parts_value parts) rate x t
      bounded t h l =
          let (m, mi, ml) = are.reached (micros begin) (micros_nonneg begin) in
          let (n, ni, nl) = are.reached (micros end) (micros_nonneg end) in
          elim (cases_lt rate (nth steps m).rate) [
            | inr slow ↦ slower_from m (micros begin) t mi slow (micros_nonneg begin) h (le_trans (ml no_line) first)
            | inl fast ↦ elim (cases_lt (nth steps n).rate rate) [
              | inr still ↦ faster_until n t (micros end) ni still (le_trans (micros_nonneg begin) h) l (le_trans (nl no_line) last)
              | inl slow ↦ turned m n (ml no_line) (nl no_line) mi ni fast slow t h l
            ]
          ]
