-- What a sweep over windows in the order of their lengths keeps: the steps of the most bits.
use Rattle.std.specs.Prelude.{◌≡◌, ℕ, ◌<◌, ◌≤◌, Bool, true, false, ◌==◌, nat_le, List, [], ◌∷◌, max, All, length}
use Rattle.std.specs.List.Sorted.{IsPermutation}
use Rattle.std.proofs.Common.{arith, refl, ap, subst, ◌∙◌, inl, inr}
use Rattle.std.proofs.lemmas.Bool.{cases_Bool, cases_eq, leb-true, leb-false, eqb-true, eqb-false}
use Rattle.std.proofs.lemmas.List.Sorted.{All-permutation, IsPermutation-sym}
use Rattle.std.proofs.lemmas.List.Elements.{All-nil, All-cons, All-tail}
use Rattle.packet_windows.specs.declared.windows.Window.{Window}
use Rattle.packet_windows.specs.Scans.{LengthenFrom, steps_after, no_window}
use Rattle.measure_curve.specs.Staircases.{StepUp, AreSteps}
use Rattle.measure_curve.proofs.Tests.{most, level, GoesDown}
use Rattle.measure_curve.proofs.Sums.{not_up}

lengthen_less : (c d : ℕ) (ws : List Window) → c ≤ d → LengthenFrom d ws → LengthenFrom c ws
lengthen_less c d [] l h = tt
lengthen_less c d (w ∷ ws) l h = (let k = h.0 in omega arith, h.1)

-- ---- before the first step nothing is read
pub not_reached : (fits : ℕ → Bool) (low : ℕ) (last : Window) (ws : List Window) → fits last.length ≡ false → level fits low (steps_after last ws) ≡ low
not_reached fits low last [] f = rw f refl
not_reached fits low last (w ∷ ws) f = elim (cases_Bool (nat_le w.bits last.bits)) [
  | inl y ↦ rw y (not_reached fits low last ws f)
  | inr n ↦ elim (cases_Bool (w.length == last.length)) [
    | inl e ↦
        let same : fits w.length ≡ false = ap fits (eqb-true w.length last.length e) ∙ f in
        rw (n, e) (not_reached fits low w ws same)
    | inr e ↦ rw (n, e, f) refl
  ]
]

-- ---- what is read is the most
none_most : (fits : ℕ → Bool) → GoesDown fits → (d : ℕ) (ws : List Window) → LengthenFrom d ws → fits d ≡ false → most fits ws ≡ 0
none_most fits down d [] up f = refl
none_most fits down d (w ∷ ws) up f =
    let g = not_up fits down d w.length up.0 f in
    rw (g, none_most fits down w.length ws up.1 g) refl

pub steps_level : (fits : ℕ → Bool) → GoesDown fits → (low : ℕ) (last : Window) (ws : List Window) → LengthenFrom last.length ws → fits last.length ≡ true
    → level fits low (steps_after last ws) ≡ max last.bits (most fits ws)
steps_level fits down low last [] up y = rw y (omega arith)
steps_level fits down low last (w ∷ ws) up y = elim (cases_Bool (nat_le w.bits last.bits)) [
  | inl l ↦
      let small = leb-true w.bits last.bits l in
      let rest = steps_level fits down low last ws (lengthen_less last.length w.length ws up.0 up.1) y in
      elim (cases_Bool (fits w.length)) [
        | inl reached ↦ rw (l, rest, reached) (omega arith)
        | inr f ↦ rw (l, rest, f) (omega arith)
      ]
  | inr n ↦
      let more = leb-false w.bits last.bits n in
      elim (cases_Bool (w.length == last.length)) [
        | inl e ↦
            let reached : fits w.length ≡ true = ap fits (eqb-true w.length last.length e) ∙ y in
            let rest = steps_level fits down low w ws up.1 reached in
            rw (n, e, rest, reached) (omega arith)
        | inr e ↦ elim (cases_Bool (fits w.length)) [
          | inl reached ↦
              let rest = steps_level fits down last.bits w ws up.1 reached in
              rw (n, e, y, rest, reached) (omega arith)
          | inr f ↦
              let rest = not_reached fits last.bits w ws f in
              rw (n, e, y, rest, f, none_most fits down w.length ws up.1 f) (omega arith)
        ]
      ]
]

-- ---- the steps go up
record StepsUp (last : Window) (ss : List Window) : Type 0 where
  first : Window
  later : List Window
  is : ss ≡ first ∷ later
  same_length : first.length ≡ last.length
  as_high : last.bits ≤ first.bits
  up : StepUp first.length first.bits later

steps_up : (last : Window) (ws : List Window) → LengthenFrom last.length ws → StepsUp last (steps_after last ws)
steps_up last [] up = record { first = last; later = []; is = refl; same_length = refl; as_high = omega arith; up = tt }
steps_up last (w ∷ ws) up = elim (cases_Bool (nat_le w.bits last.bits)) [
  | inl l ↦ rw l (steps_up last ws (lengthen_less last.length w.length ws up.0 up.1))
  | inr n ↦
      let more = leb-false w.bits last.bits n in
      let rest = steps_up w ws up.1 in
      elim (cases_Bool (w.length == last.length)) [
        | inl e ↦
            let same = eqb-true w.length last.length e in
            rw (n, e) record { first = rest.first; later = rest.later; is = rest.is; same_length = rest.same_length ∙ same; as_high = let h = rest.as_high in omega arith; up = rest.up }
        | inr e ↦
            let other = eqb-false w.length last.length e in
            let longer : last.length < rest.first.length = (let l = up.0 in let s = rest.same_length in
            elim (cases_eq w.length last.length) [ inl k ↦ absurd (other k) | inr k ↦ omega arith ]) in
            let higher : last.bits < rest.first.bits = (let h = rest.as_high in omega arith) in
            rw (n, e) record {
              first = last;
              later = steps_after w ws;
              is = refl;
              same_length = refl;
              as_high = omega arith;
              up = rw rest.is (longer, higher, rest.up);
            }
      ]
]

pub are_steps : (ws : List Window) → LengthenFrom 0 ws → AreSteps (steps_after no_window ws)
are_steps ws up =
    let h = steps_up no_window ws up in
    rw h.is (h.same_length, subst (λ n. StepUp n h.first.bits h.later) h.same_length h.up)

-- ---- another order
most_least : (fits : ℕ → Bool) (v : ℕ) (ws : List Window) → All (λ w. fits w.length ≡ true → w.bits ≤ v) ws → most fits ws ≤ v
most_least fits v [] all = omega arith
most_least fits v (w ∷ ws) all =
    let rest = most_least fits v ws (All-tail (λ w. fits w.length ≡ true → w.bits ≤ v) w ws all) in
    let here = all 0 w (omega arith) in
    elim (cases_Bool (fits w.length)) [ inl y ↦ let h = here y in rw y (omega arith) | inr f ↦ rw f (omega arith) ]

below_most : (fits : ℕ → Bool) (ws : List Window) (v : ℕ) → most fits ws ≤ v → All (λ w. fits w.length ≡ true → w.bits ≤ v) ws
below_most fits [] v h = All-nil (λ w. fits w.length ≡ true → w.bits ≤ v)
below_most fits (w ∷ ws) v h =
    All-cons (λ w. fits w.length ≡ true → w.bits ≤ v) w ws (λ y. let k = rw y at h in omega arith) (below_most fits ws v (omega arith))

most_moved_le : (fits : ℕ → Bool) (xs ys : List Window) → IsPermutation xs ys → most fits ys ≤ most fits xs
most_moved_le fits xs ys p =
    let P : Window → Type 0 = λ w. fits w.length ≡ true → w.bits ≤ most fits xs in
    most_least fits (most fits xs) ys (All-permutation P xs ys p (below_most fits xs (most fits xs) (omega arith)))

pub most_moved : (fits : ℕ → Bool) (xs ys : List Window) → IsPermutation xs ys → most fits xs ≡ most fits ys
most_moved fits xs ys p =
    let a = most_moved_le fits xs ys p in
    let b = most_moved_le fits ys xs (IsPermutation-sym xs ys p) in
    omega arith

-- ---- the steps are some of the windows, or no window
pub steps_short : (P : Window → Type 0) (last : Window) (ws : List Window) → P last → All P ws → All P (steps_after last ws)
steps_short P last [] p all = All-cons P last [] p (All-nil P)
steps_short P last (w ∷ ws) p all =
    let here = all 0 w (omega arith) in
    let rest = All-tail P w ws all in
    elim (cases_Bool (nat_le w.bits last.bits)) [
      | inl l ↦ rw l (steps_short P last ws p rest)
      | inr n ↦ elim (cases_Bool (w.length == last.length)) [
        | inl e ↦ rw (n, e) (steps_short P w ws here rest)
        | inr e ↦ rw (n, e) (All-cons P last (steps_after w ws) p (steps_short P w ws here rest))
      ]
    ]
