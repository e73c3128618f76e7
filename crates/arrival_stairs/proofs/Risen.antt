-- By how much a bundle has risen: one jump more, a stair's jumps, and all of a bundle's.
use Rattle.std.specs.Prelude.{◌≡◌, ℕ, ◌+◌, ◌-◌, ◌*◌, ◌/◌, ◌^◌, ◌<◌, ◌≤◌, min, nat_lt, List, [], ◌∷◌, ◌++◌, All, length, get_or, take, if◌then◌else◌, IsPermutation}
use Rattle.std.proofs.Common.{arith, sym, ap, ◌∙◌, subst, inl, inr}
use Rattle.std.specs.List.{sum_by}
use Rattle.std.proofs.lemmas.Bool.{cases_lt}
use Rattle.std.proofs.lemmas.Bool.Decides.{nat_tests}
use Rattle.std.proofs.lemmas.List.{take_all}
use Rattle.std.proofs.lemmas.List.Sorted.{All-permutation, sum_by-IsPermutation}
use Rattle.std.proofs.lemmas.List.Elements.{All-append, All-cons, All-nil, All-head, All-tail, All-take}
use Rattle.std.proofs.lemmas.List.Sums.{sum_by_push, sum_by_more, sum_by-cons}
use Rattle.std.proofs.Math.Nat.{le-div_iff_mul-le, lt-mul-div-succ, mul-le-mul_left, div-mul-le_self}
use Rattle.arrival_stairs.specs.Stairs.{stair_level, bundle_level, IsStair}
use Rattle.arrival_stairs.specs.Jumps.{rise_of, risen, IsJump, AreJumps, AddsJumps}
use Rattle.arrival_stairs.specs.declared.jumps.Jump.{Jump}
use Rattle.arrival_stairs.specs.declared.stairs.Bundle.{Bundle}
use Rattle.arrival_stairs.specs.declared.stairs.Stair.{Stair}
use Rattle.arrival_stairs.proofs.Starts.{no_stair}

-- ---- one jump
pub if_less : (a b f : ℕ) → a < b → (if nat_lt a b then f else 0) ≡ f
if_less a b f h = grind (arith, nat_tests)

pub if_not_less : (a b f : ℕ) → b ≤ a → (if nat_lt a b then f else 0) ≡ 0
if_not_less a b f h = grind (arith, nat_tests)

pub rise_past : (n : ℕ) (j : Jump) → j.time ≤ n → rise_of n j ≡ j.frame
rise_past n j h = if_less j.time (n + 1) j.frame (omega (arith, h))

pub rise_later : (n : ℕ) (j : Jump) → n < j.time → rise_of n j ≡ 0
rise_later n j h = if_not_less j.time (n + 1) j.frame (omega (arith, h))

-- ---- a stair's jumps
pub jump_short : (s : Stair) (end number : ℕ) → IsStair s → end < 2 ^ 62 → number < (end + s.jitter) / s.gap + 1 → number * s.gap < 2 ^ 64
jump_short s end number is short inside =
    let l : number ≤ (end + s.jitter) / s.gap = omega (arith, inside) in
    let h = (le-div_iff_mul-le is.some_gap).0 l in
    let j = is.jitter in
    omega (arith, h, j, short)

pub jump_late : (s : Stair) (number : ℕ) → 0 < s.gap → s.jitter / s.gap + 1 ≤ number → s.jitter ≤ number * s.gap
jump_late s number some from =
    let a : s.jitter < s.gap * (s.jitter / s.gap + 1) = lt-mul-div-succ s.jitter some in
    let b : s.gap * (s.jitter / s.gap + 1) ≤ s.gap * number = mul-le-mul_left s.gap from in
    omega (arith, a, b)

pub same_jump : (new old : List Jump) (time other frame : ℕ) → time ≡ other → new ≡ old ++ record { time = time; frame = frame } ∷ []
    → new ≡ old ++ record { time = other; frame = frame } ∷ []
same_jump new old time other frame e h = h ∙ ap (λ (n : ℕ). old ++ record { time = n; frame = frame } ∷ []) e

-- as many of them as come by n, of those before a number
abbrev pub so_many : (jitter gap first number n : ℕ) → ℕ
so_many jitter gap first number n = min number ((n + jitter) / gap + 1) - first

pub record AreStairJumps (s : Stair) (end first number : ℕ) (old new : List Jump) : Type 0 where
  pub from : first ≤ number
  pub rises : (n : ℕ) → n ≤ end → risen new n ≡ risen old n + s.frame * so_many s.jitter s.gap first number n
  pub each : All (IsJump end) old → All (IsJump end) new

pub none_yet : (s : Stair) (end first : ℕ) (jumps : List Jump) → AreStairJumps s end first first jumps jumps
none_yet s end first jumps = record {
  from = omega arith;
  rises = λ n h.
      let e : so_many s.jitter s.gap first first n ≡ 0 = omega arith in
      let f : s.frame * so_many s.jitter s.gap first first n ≡ 0 = ap (λ m. s.frame * m) e ∙ omega arith in
      omega (arith, f);
  each = λ all. all;
}

pub one_stair_jump : (s : Stair) (end first number : ℕ) (old items more : List Jump) → IsStair s → first ≡ s.jitter / s.gap + 1 → number ≤ (end + s.jitter) / s.gap
    → more ≡ items ++ record { time = number * s.gap - s.jitter; frame = s.frame } ∷ []
    → AreStairJumps s end first number old items → AreStairJumps s end first (number + 1) old more
one_stair_jump s end first number old items more is begin inside e are = record {
  from = let h = are.from in omega (arith, h);
  rises = λ n h.
      let f = ap (λ js. risen js n) e ∙ sum_by_push (rise_of n) items jump in
      let g = are.rises n h in
      let r = rises_by n in
      omega (arith, f, g, r);
  each = λ all.
      subst (λ (js : List Jump). All (IsJump end) js) (sym e)
      (All-append (IsJump end) items (jump ∷ []) (are.each all)
      (All-cons (IsJump end) jump [] record { time = in_time; frame = is.frame } (All-nil (IsJump end))));
}
  where
    jump : Jump
    jump = record { time = number * s.gap - s.jitter; frame = s.frame }

    in_time : number * s.gap - s.jitter ≤ end
    in_time = let h = (le-div_iff_mul-le is.some_gap).0 inside in omega (arith, h)

    rises_by : (n : ℕ) → s.frame * so_many s.jitter s.gap first number n + rise_of n jump ≡ s.frame * so_many s.jitter s.gap first (number + 1) n
    rises_by n = elim (cases_lt ((n + s.jitter) / s.gap) number) [
      | inl behind ↦
          let k = λ (h : number * s.gap ≤ n + s.jitter). (le-div_iff_mul-le is.some_gap).1 h in
          let l : n < number * s.gap - s.jitter = elim (cases_lt (n + s.jitter) (number * s.gap)) [ inl m ↦ omega (arith, m) | inr m ↦ let q = k m in absurd (omega (arith, q, behind)) ] in
          let z = rise_later n jump l in
          let e : so_many s.jitter s.gap first (number + 1) n ≡ so_many s.jitter s.gap first number n = omega (arith, behind) in
          let f = ap (λ m. s.frame * m) e in
          omega (arith, z, f)
      | inr past ↦
          let k = (le-div_iff_mul-le is.some_gap).0 past in
          let z = rise_past n jump (omega (arith, k)) in
          let h = are.from in
          let e : so_many s.jitter s.gap first (number + 1) n ≡ so_many s.jitter s.gap first number n + 1 = omega (arith, past, h) in
          let m : s.frame * so_many s.jitter s.gap first number n + s.frame ≡ s.frame * so_many s.jitter s.gap first (number + 1) n = times_next s.frame _ _ e in
          ap (λ r. s.frame * so_many s.jitter s.gap first number n + r) z ∙ m
    ]
      where
        times_next : (a b c : ℕ) → c ≡ b + 1 → a * b + a ≡ a * c
        times_next a b c e = let f = ap (λ m. a * m) e in omega (arith, f)

-- ---- stairs rise
pub stair_rises : (n : ℕ) (s : Stair) → 0 < s.gap → stair_level 0 s ≤ stair_level n s
stair_rises n s some =
    let h : (0 + s.jitter) / s.gap ≤ (n + s.jitter) / s.gap = (le-div_iff_mul-le some).1 (let k = div-mul-le_self (0 + s.jitter) s.gap in omega (arith, k)) in
    mul-le-mul_left s.frame (omega (arith, h))

pub all_stair_jumps : (s : Stair) (end first number : ℕ) (old new : List Jump) → IsStair s → first ≡ s.jitter / s.gap + 1 → number ≡ (end + s.jitter) / s.gap + 1
    → AreStairJumps s end first number old new → AddsJumps (λ n. stair_level n s) end old new
all_stair_jumps s end first number old new is begin finish are = record {
  rises = λ n h. are.rises n h ∙ ap (λ m. risen old n + m) (in_all n h);
  each = are.each;
}
  where
    in_all : (n : ℕ) → n ≤ end → s.frame * so_many s.jitter s.gap first number n ≡ stair_level n s - stair_level 0 s
    in_all n h =
        let k : (n + s.jitter) / s.gap ≤ (end + s.jitter) / s.gap = (le-div_iff_mul-le is.some_gap).1 (let l = div-mul-le_self (n + s.jitter) s.gap in omega (arith, l, h)) in
        let z : 0 + s.jitter ≡ s.jitter = omega arith in
        let e = ap (λ m. m / s.gap) z in
        let low : (0 + s.jitter) / s.gap ≤ (n + s.jitter) / s.gap = (le-div_iff_mul-le is.some_gap).1 (let l = div-mul-le_self (0 + s.jitter) s.gap in omega (arith, l)) in
        let f : so_many s.jitter s.gap first number n ≡ (n + s.jitter) / s.gap - (0 + s.jitter) / s.gap = omega (arith, k, begin, finish, e) in
        ap (λ m. s.frame * m) f ∙ difference s.frame ((n + s.jitter) / s.gap) ((0 + s.jitter) / s.gap) low
      where
        difference : (a b c : ℕ) → c ≤ b → a * (b - c) ≡ a * (b + 1) - a * (c + 1)
        difference a b c h =
            let e : b ≡ c + (b - c) = omega arith in
            let f : a * b ≡ a * c + a * (b - c) = ap (λ m. a * m) e ∙ omega arith in
            omega (arith, f)

-- ---- more of a bundle
pub adds_both : (f g h : ℕ → ℕ) (end : ℕ) (a b c : List Jump) → ((n : ℕ) → f 0 ≤ f n) → ((n : ℕ) → g 0 ≤ g n) → ((n : ℕ) → h n ≡ f n + g n)
    → AddsJumps f end a b → AddsJumps g end b c → AddsJumps h end a c
adds_both f g h end a b c rf rg is one other = record {
  rises = λ n l.
      let x = one.rises n l in
      let y = other.rises n l in
      let k = rf n in
      let m = rg n in
      let u = is n in
      let v = is 0 in
      omega (arith, x, y, k, m, u, v);
  each = λ all. other.each (one.each all);
}

each_rises : (n : ℕ) (xs : List Stair) → All IsStair xs → sum_by (stair_level 0) xs ≤ sum_by (stair_level n) xs
each_rises n [] all = omega arith
each_rises n (x ∷ xs) all =
    let a = stair_rises n x (All-head IsStair x xs all).some_gap in
    let b = each_rises n xs (All-tail IsStair x xs all) in
    let e = sum_by-cons (stair_level 0) x xs in
    let f = sum_by-cons (stair_level n) x xs in
    omega (arith, a, b, e, f)

sums_rise : (stairs : List Stair) → All IsStair stairs → (i n : ℕ) → sum_by (stair_level 0) (take i stairs) ≤ sum_by (stair_level n) (take i stairs)
sums_rise stairs all i n = each_rises n (take i stairs) (All-take IsStair i stairs all)

pub one_more_stair : (stairs : List Stair) (k end : ℕ) (a b c : List Jump) → k < length stairs → All IsStair stairs
    → AddsJumps (λ n. sum_by (stair_level n) (take k stairs)) end a b → AddsJumps (λ n. stair_level n (get_or stairs k no_stair)) end b c
    → AddsJumps (λ n. sum_by (stair_level n) (take (k + 1) stairs)) end a c
one_more_stair stairs k end a b c inside all one other =
    adds_both (λ n. sum_by (stair_level n) (take k stairs)) (λ n. stair_level n (get_or stairs k no_stair)) (λ n. sum_by (stair_level n) (take (k + 1) stairs)) end a b c
    (λ n. sums_rise stairs all k n) (λ n. stair_rises n (get_or stairs k no_stair) (all k no_stair inside).some_gap) (λ n. sum_by_more (stair_level n) stairs k no_stair inside)
    one other

pub all_stairs : (stairs : List Stair) (k end : ℕ) (a b : List Jump) → length stairs ≤ k → AddsJumps (λ n. sum_by (stair_level n) (take k stairs)) end a b
    → AddsJumps (λ n. sum_by (stair_level n) stairs) end a b
all_stairs stairs k end a b done adds = record {
  rises = λ n l.
      let x = adds.rises n l in
      let e = ap (sum_by (stair_level n)) (take_all k stairs done) in
      let f = ap (sum_by (stair_level 0)) (take_all k stairs done) in
      omega (arith, x, e, f);
  each = adds.each;
}

-- ---- all of a bundle
pub bundle_rises : (b : Bundle) (n : ℕ) → All IsStair b.stairs.items → bundle_level 0 b ≤ bundle_level n b
bundle_rises b n all = each_rises n b.stairs.items all

pub all_of_bundle : (b : Bundle) (end : ℕ) (old new : List Jump) → All IsStair b.stairs.items → old ≡ [] → AddsJumps (λ n. bundle_level n b) end old new → AreJumps b end new
all_of_bundle b end old new all none adds = record {
  each = adds.each (subst (λ (js : List Jump). All (IsJump end) js) (sym none) (All-nil (IsJump end)));
  rises = λ n l.
      let x = adds.rises n l in
      let y = ap (λ js. risen js n) none in
      let z = bundle_rises b n all in
      omega (arith, x, y, z);
}

-- ---- in another order
pub in_order : (b : Bundle) (end : ℕ) (jumps sorted : List Jump) → IsPermutation jumps sorted → AreJumps b end jumps → AreJumps b end sorted
in_order b end jumps sorted moved are = record {
  each = All-permutation (IsJump end) jumps sorted moved are.each;
  rises = λ n l. let e = sum_by-IsPermutation (rise_of n) jumps sorted moved in let f = are.rises n l in omega (arith, e, f);
}

pub later_quotient : (a b g : ℕ) → 0 < g → a ≤ b → a / g ≤ b / g
later_quotient a b g some h = (le-div_iff_mul-le some).1 (let k = div-mul-le_self a g in omega (arith, k, h))
