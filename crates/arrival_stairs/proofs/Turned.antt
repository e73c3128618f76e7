-- What is on a line after some turns: one turn more, to the end, and in another order.
use Rattle.std.specs.Prelude.{◌≡◌, ℕ, ◌+◌, ◌*◌, ◌^◌, ◌<◌, ◌≤◌, Bool, true, false, List, [], ◌∷◌, ◌++◌, All, get_or, take, drop, if◌then◌else◌, IsPermutation}
use Rattle.std.proofs.Common.{arith, ap, refl, inl, inr}
use Rattle.std.specs.List.{sum_by}
use Rattle.std.proofs.lemmas.Bool.{cases_lt}
use Rattle.std.proofs.lemmas.List.Elements.{All-append, All-cons, All-nil, All-head, All-tail}
use Rattle.std.proofs.lemmas.List.Sorted.{All-permutation, sum_by-IsPermutation}
use Rattle.std.proofs.lemmas.List.Sums.{sum_by_push, sum_by-cons, sum_by-append, sum_by-take-drop}
use Rattle.arrival_lines.specs.declared.grid.Line.{Line}
use Rattle.arrival_lines.proofs.InOrder.{is_not_less, less_is}
use Rattle.arrival_heights.specs.Heights.{line_height}
use Rattle.arrival_stairs.specs.Turns.{sum_if, is_by, is_before, IsOn, IsLineAt, IsLineBefore, IsTurn, AreTurns}
use Rattle.arrival_stairs.specs.declared.turns.Turn.{Turn}
use Rattle.arrival_heights.proofs.Orders.{chain, chain_behind}

-- ---- which come by a time, or before it
pub comes_by : (o u : ℕ) (j : Turn) → j.at.over * u ≤ o * j.at.under → is_by o u j ≡ true
comes_by o u j h = less_is (j.at.over * u) (o * j.at.under + 1) (omega (arith, h))

pub comes_later : (o u : ℕ) (j : Turn) → o * j.at.under < j.at.over * u → is_by o u j ≡ false
comes_later o u j h = is_not_less (j.at.over * u) (o * j.at.under + 1) (omega (arith, h))

pub comes_before : (o u : ℕ) (j : Turn) → j.at.over * u < o * j.at.under → is_before o u j ≡ true
comes_before o u j h = less_is (j.at.over * u) (o * j.at.under) h

pub comes_not_before : (o u : ℕ) (j : Turn) → o * j.at.under ≤ j.at.over * u → is_before o u j ≡ false
comes_not_before o u j h = is_not_less (j.at.over * u) (o * j.at.under) h

-- ---- sums over them
if_true : (b : Bool) (n : ℕ) → b ≡ true → (if b then n else 0) ≡ n
if_true b n e = rw e refl

if_false : (b : Bool) (n : ℕ) → b ≡ false → (if b then n else 0) ≡ 0
if_false b n e = rw e refl

all_of : (which : Turn → Bool) (f : Turn → ℕ) (turns : List Turn) → All (λ j. which j ≡ true) turns → sum_if which f turns ≡ sum_by f turns
all_of which f [] all = refl
all_of which f (j ∷ js) all =
    let a = if_true (which j) (f j) (All-head (λ i. which i ≡ true) j js all) in
    let b = all_of which f js (All-tail (λ i. which i ≡ true) j js all) in
    let e = sum_by-cons (λ (i : Turn). if which i then f i else 0) j js in
    let g = sum_by-cons f j js in
    omega (arith, a, b, e, g)

none_of : (which : Turn → Bool) (f : Turn → ℕ) (turns : List Turn) → All (λ j. which j ≡ false) turns → sum_if which f turns ≡ 0
none_of which f [] all = refl
none_of which f (j ∷ js) all =
    let a = if_false (which j) (f j) (All-head (λ i. which i ≡ false) j js all) in
    let b = none_of which f js (All-tail (λ i. which i ≡ false) j js all) in
    let e = sum_by-cons (λ (i : Turn). if which i then f i else 0) j js in
    omega (arith, a, b, e)

-- the first k of them
first_of : (which : Turn → Bool) (f : Turn → ℕ) (turns : List Turn) (k : ℕ) → All (λ j. which j ≡ true) (take k turns) → All (λ j. which j ≡ false) (drop k turns)
    → sum_if which f turns ≡ sum_by f (take k turns)
first_of which f turns k past later =
    let a = all_of which f (take k turns) past in
    let b = none_of which f (drop k turns) later in
    let e = sum_by-take-drop (λ (i : Turn). if which i then f i else 0) turns k in
    omega (arith, a, b, e)

-- and not the one that is added
not_added : (which : Turn → Bool) (f : Turn → ℕ) (turns : List Turn) (j : Turn) → which j ≡ false → sum_if which f (turns ++ j ∷ []) ≡ sum_if which f turns
not_added which f turns j out =
    let a = if_false (which j) (f j) out in
    let e = sum_by_push (λ (i : Turn). if which i then f i else 0) turns j in
    omega (arith, a, e)

-- ---- the line after all of some turns
pub record IsOnAfter (turns : List Turn) (line : Line) : Type 0 where
  pub burst : line.burst + sum_by (λ (j : Turn). j.off.burst) turns ≡ sum_by (λ (j : Turn). j.on.burst) turns
  pub rate : line.rate + sum_by (λ (j : Turn). j.off.rate) turns ≡ sum_by (λ (j : Turn). j.on.rate) turns

pub on_by_all : (which : Turn → Bool) (turns : List Turn) (line : Line) → All (λ j. which j ≡ true) turns → IsOnAfter turns line → IsOn which turns line
on_by_all which turns line all on = record {
  burst =
      let a = all_of which (λ (j : Turn). j.off.burst) turns all in
      let b = all_of which (λ (j : Turn). j.on.burst) turns all in
      let e = on.burst in
      omega (arith, a, b, e);
  rate =
      let a = all_of which (λ (j : Turn). j.off.rate) turns all in
      let b = all_of which (λ (j : Turn). j.on.rate) turns all in
      let e = on.rate in
      omega (arith, a, b, e);
}

pub on_by_first : (which : Turn → Bool) (turns : List Turn) (k : ℕ) (line : Line) → All (λ j. which j ≡ true) (take k turns) → All (λ j. which j ≡ false) (drop k turns)
    → IsOn which turns line → IsOnAfter (take k turns) line
on_by_first which turns k line past later on = record {
  burst =
      let a = first_of which (λ (j : Turn). j.off.burst) turns k past later in
      let b = first_of which (λ (j : Turn). j.on.burst) turns k past later in
      let e = on.burst in
      omega (arith, a, b, e);
  rate =
      let a = first_of which (λ (j : Turn). j.off.rate) turns k past later in
      let b = first_of which (λ (j : Turn). j.on.rate) turns k past later in
      let e = on.rate in
      omega (arith, a, b, e);
}

pub on_still : (which : Turn → Bool) (turns : List Turn) (j : Turn) (line : Line) → which j ≡ false → IsOn which turns line → IsOn which (turns ++ j ∷ []) line
on_still which turns j line out on = record {
  burst =
      let a = not_added which (λ (i : Turn). i.off.burst) turns j out in
      let b = not_added which (λ (i : Turn). i.on.burst) turns j out in
      let e = on.burst in
      omega (arith, a, b, e);
  rate =
      let a = not_added which (λ (i : Turn). i.off.rate) turns j out in
      let b = not_added which (λ (i : Turn). i.on.rate) turns j out in
      let e = on.rate in
      omega (arith, a, b, e);
}

pub on_next : (turns : List Turn) (j : Turn) → IsOnAfter turns j.off → IsOnAfter (turns ++ j ∷ []) j.on
on_next turns j on = record {
  burst =
      let a = sum_by_push (λ (i : Turn). i.off.burst) turns j in
      let b = sum_by_push (λ (i : Turn). i.on.burst) turns j in
      let e = on.burst in
      omega (arith, a, b, e);
  rate =
      let a = sum_by_push (λ (i : Turn). i.off.rate) turns j in
      let b = sum_by_push (λ (i : Turn). i.on.rate) turns j in
      let e = on.rate in
      omega (arith, a, b, e);
}

pub on_none : IsOnAfter [] record { burst = 0; rate = 0 }
on_none = record { burst = refl; rate = refl }

-- ---- up to a time of o over u seconds, from which on F is on the line
pub record IsTurning (F : ℕ → ℕ → ℕ) (burst rate end o u : ℕ) (turns : List Turn) (line : Line) : Type 0 where
  pub each : All (IsTurn end) turns
  pub past : All (λ j. j.at.over * u ≤ o * j.at.under) turns
  pub at : (p q : ℕ) → 0 < q → p * u < o * q → IsLineAt F burst rate turns p q
  pub before : (p q : ℕ) → 0 < q → p * u ≤ o * q → IsLineBefore F turns p q
  pub on : IsOnAfter turns line

-- F is on the line from there to another time
pub record KeepsTo (F : ℕ → ℕ → ℕ) (o u to under : ℕ) (line : Line) : Type 0 where
  pub is : (p q : ℕ) → 0 < q → o * q ≤ p * u → p * under < to * q → F p q ≡ line_height line p q
  pub below : (p q : ℕ) → 0 < q → o * q ≤ p * u → p * under ≤ to * q → line_height line p q ≤ F p q

pub record IsWithinMost (burst rate : ℕ) (line : Line) : Type 0 where
  pub burst_most : line.burst ≤ burst
  pub rate_most : line.rate ≤ rate

module _ (F : ℕ → ℕ → ℕ) (burst rate end o u : ℕ) (turns : List Turn) (line : Line) (some : 0 < u) (most : IsWithinMost burst rate line)
    (so_far : IsTurning F burst rate end o u turns line) where
  by_then : (p q : ℕ) → o * q ≤ p * u → All (λ j. is_by p q j ≡ true) turns
  by_then p q h = λ k d l. comes_by p q (get_or turns k d) (chain (get_or turns k d).at.over (get_or turns k d).at.under o u p q some (so_far.past k d l) h)

  before_then : (p q : ℕ) → o * q < p * u → All (λ j. is_before p q j ≡ true) turns
  before_then p q h = λ k d l.
      comes_before p q (get_or turns k d)
      (chain_behind (get_or turns k d).at.over (get_or turns k d).at.under o u p q (so_far.each k d l).moment.some (so_far.past k d l) h)

  -- a turn more
  pub turn_more : (j : Turn) → o * j.at.under ≤ j.at.over * u → KeepsTo F o u j.at.over j.at.under line → IsTurn end j → j.off ≡ line
      → IsTurning F burst rate end j.at.over j.at.under (turns ++ j ∷ []) j.on
  turn_more j order keeps is from = record {
    each = All-append (IsTurn end) turns (j ∷ []) so_far.each (All-cons (IsTurn end) j [] is (All-nil (IsTurn end)));
    past = All-append (λ (i : Turn). i.at.over * j.at.under ≤ j.at.over * i.at.under) turns (j ∷ [])
        (λ k d l. chain (get_or turns k d).at.over (get_or turns k d).at.under o u j.at.over j.at.under some (so_far.past k d l) order)
        (All-cons (λ (i : Turn). i.at.over * j.at.under ≤ j.at.over * i.at.under) j [] (omega arith)
        (All-nil (λ (i : Turn). i.at.over * j.at.under ≤ j.at.over * i.at.under)));
    at = λ p q h l. elim (cases_lt (p * u) (o * q)) [
      | inl early ↦
          let old = so_far.at p q h early in
          record { line = old.line; is = old.is; on = on_still (is_by p q) turns j old.line (comes_later p q j l) old.on; burst_most = old.burst_most; rate_most = old.rate_most }
      | inr late ↦ record {
        line = line;
        is = keeps.is p q h late l;
        on = on_still (is_by p q) turns j line (comes_later p q j l) (on_by_all (is_by p q) turns line (by_then p q late) so_far.on);
        burst_most = most.burst_most;
        rate_most = most.rate_most;
      }
    ];
    before = λ p q h l. elim (cases_lt (o * q) (p * u)) [
      | inr early ↦
          let old = so_far.before p q h early in
          record { line = old.line; below = old.below; on = on_still (is_before p q) turns j old.line (comes_not_before p q j l) old.on }
      | inl late ↦ record {
        line = line;
        below = keeps.below p q h (omega (arith, late)) l;
        on = on_still (is_before p q) turns j line (comes_not_before p q j l) (on_by_all (is_before p q) turns line (before_then p q late) so_far.on);
      }
    ];
    on = on_next turns j record {
      burst = let e = so_far.on.burst in let f = ap (λ (l : Line). l.burst) from in omega (arith, e, f);
      rate = let e = so_far.on.rate in let f = ap (λ (l : Line). l.rate) from in omega (arith, e, f);
    };
  }

  -- to the end
  pub turned : ((p q : ℕ) → 0 < q → o * q ≤ p * u → p * 10 ^ 12 ≤ end * q → F p q ≡ line_height line p q) → AreTurns F burst rate end turns
  turned keeps = record {
    each = so_far.each;
    at = λ p q h l. elim (cases_lt (p * u) (o * q)) [
      | inl early ↦ so_far.at p q h early
      | inr late ↦ record {
        line = line;
        is = keeps p q h late l;
        on = on_by_all (is_by p q) turns line (by_then p q late) so_far.on;
        burst_most = most.burst_most;
        rate_most = most.rate_most;
      }
    ];
    before = λ p q h l. elim (cases_lt (o * q) (p * u)) [
      | inr early ↦ so_far.before p q h early
      | inl late ↦ record {
        line = line;
        below = let e = keeps p q h (omega (arith, late)) l in omega (arith, e);
        on = on_by_all (is_before p q) turns line (before_then p q late) so_far.on;
      }
    ];
  }

-- ---- those of two together
both_on : (which : Turn → Bool) (js ks : List Turn) (l m : Line) → IsOn which js l → IsOn which ks m → IsOn which (js ++ ks) record { burst = l.burst + m.burst; rate = l.rate + m.rate }
both_on which js ks l m one other = record {
  burst =
      let a = sum_by-append (λ (i : Turn). if which i then i.off.burst else 0) js ks in
      let b = sum_by-append (λ (i : Turn). if which i then i.on.burst else 0) js ks in
      let e = one.burst in
      let f = other.burst in
      omega (arith, a, b, e, f);
  rate =
      let a = sum_by-append (λ (i : Turn). if which i then i.off.rate else 0) js ks in
      let b = sum_by-append (λ (i : Turn). if which i then i.on.rate else 0) js ks in
      let e = one.rate in
      let f = other.rate in
      omega (arith, a, b, e, f);
}

-- H is the sum of F and G
pub both_turn : (F G H : ℕ → ℕ → ℕ) (b r c s end most fastest : ℕ) (js ks : List Turn) → ((p q : ℕ) → H p q ≡ F p q + G p q) → most ≡ b + c → fastest ≡ r + s
    → AreTurns F b r end js → AreTurns G c s end ks → AreTurns H most fastest end (js ++ ks)
both_turn F G H b r c s end most fastest js ks sum bursts rates one other = record {
  each = All-append (IsTurn end) js ks one.each other.each;
  at = λ p q h l.
      let x = one.at p q h l in
      let y = other.at p q h l in
      record {
        line = record { burst = x.line.burst + y.line.burst; rate = x.line.rate + y.line.rate };
        is = let e = sum p q in let f = x.is in let g = y.is in omega (arith, e, f, g);
        on = both_on (is_by p q) js ks x.line y.line x.on y.on;
        burst_most = let e = x.burst_most in let f = y.burst_most in omega (arith, e, f, bursts);
        rate_most = let e = x.rate_most in let f = y.rate_most in omega (arith, e, f, rates);
      };
  before = λ p q h l.
      let x = one.before p q h l in
      let y = other.before p q h l in
      record {
        line = record { burst = x.line.burst + y.line.burst; rate = x.line.rate + y.line.rate };
        below = let e = sum p q in let f = x.below in let g = y.below in omega (arith, e, f, g);
        on = both_on (is_before p q) js ks x.line y.line x.on y.on;
      };
}

-- ---- in another order
moved_on : (which : Turn → Bool) (js ks : List Turn) (l : Line) → IsPermutation js ks → IsOn which js l → IsOn which ks l
moved_on which js ks l moved on = record {
  burst =
      let a = sum_by-IsPermutation (λ (i : Turn). if which i then i.off.burst else 0) js ks moved in
      let b = sum_by-IsPermutation (λ (i : Turn). if which i then i.on.burst else 0) js ks moved in
      let e = on.burst in
      omega (arith, a, b, e);
  rate =
      let a = sum_by-IsPermutation (λ (i : Turn). if which i then i.off.rate else 0) js ks moved in
      let b = sum_by-IsPermutation (λ (i : Turn). if which i then i.on.rate else 0) js ks moved in
      let e = on.rate in
      omega (arith, a, b, e);
}

pub moved_turns : (F : ℕ → ℕ → ℕ) (burst rate end : ℕ) (js ks : List Turn) → IsPermutation js ks → AreTurns F burst rate end js → AreTurns F burst rate end ks
moved_turns F burst rate end js ks moved are = record {
  each = All-permutation (IsTurn end) js ks moved are.each;
  at = λ p q h l.
      let x = are.at p q h l in
      record { line = x.line; is = x.is; on = moved_on (is_by p q) js ks x.line moved x.on; burst_most = x.burst_most; rate_most = x.rate_most };
  before = λ p q h l.
      let x = are.before p q h l in
      record { line = x.line; below = x.below; on = moved_on (is_before p q) js ks x.line moved x.on };
}
