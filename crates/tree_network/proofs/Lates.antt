-- The least port from which frames come to spots that stand in the order of their sources.
use Rattle.std.proofs.Common.{◌≡◌, ℕ, zero, suc, ◌<◌, ◌≤◌, ◌-◌, ◌++◌, Bool, List, length, get_or, ap, arith, inl, inr, refl, ◌==◌, length-append}
use Rattle.std.specs.Prelude.{All}
use Rattle.std.proofs.lemmas.Bool.{cases_eq, cases_lt}
use Rattle.std.proofs.lemmas.List.{get_or_append_left, get_or-append_right}
use Rattle.std.proofs.lemmas.List.Elements.{All-append}
use Rattle.tree_network.specs.declared.spots.Spot.{Spot}
use Rattle.tree_network.specs.Spots.{spot_at}
use Rattle.tree_network.specs.Lists.{those, is_between, spots_at_port}
use Rattle.tree_network.specs.Turns.{ComesLate, NoneComesLate, IsLateFrom, IsFirstLateFrom, RiseBySource}
use Rattle.tree_network.proofs.Those.{those_pass, of_both, of_eq}

abbrev source_at : List Spot → List ℕ → ℕ → ℕ
source_at spots numbers k = (spot_at spots (get_or numbers k 0)).source

-- the first in such a list is from the least port
pub first_late : (spots : List Spot) (done : List Bool) (numbers : List ℕ) (n a : ℕ) → n < length numbers → RiseBySource spots numbers
    → ((k : ℕ) → k < n → NoneComesLate done (spot_at spots (get_or numbers k 0)).source)
    → ComesLate done (spot_at spots (get_or numbers n 0)).source a → IsFirstLateFrom spots done numbers a
first_late spots done numbers n a inside rise none late = record {
  late = record { place = n; inside = inside; from = late.from; free = late.free };
  least = least;
}
  where
    least : (b : ℕ) → IsLateFrom spots done numbers b → a ≤ b
    least b l =
        elim (cases_lt l.place n) [
          | inl before ↦ absurd (none l.place before b record { from = l.from; free = l.free })
          | inr behind ↦
              elim (cases_eq l.place n) [
                | inl same ↦
                    let e = ap (source_at spots numbers) same in
                    omega (arith, e, l.from, late.from)
                | inr other ↦
                    let up = rise n l.place (omega (arith, behind, other)) l.inside in
                    omega (arith, up, l.from, late.from)
              ]
        ]

-- ---- the spots at a port stand so
below : (spots : List Spot) (s k : ℕ) → All (λ n. (spot_at spots n).source < k) (spots_at_port spots s k)
unfolding spots_at_port
below spots s zero = λ i d lt. absurd (omega (arith, lt))
below spots s (suc k) =
    All-append (λ n. (spot_at spots n).source < suc k) (spots_at_port spots s k) (those (is_between spots k s) (length spots))
    (λ i d lt. let h = below spots s k i d lt in omega (arith, h))
    (those_pass (λ n. (spot_at spots n).source < suc k) (is_between spots k s) (length spots)
    (λ n lt e. let h = of_eq _ _ (of_both ((spot_at spots n).source == k) ((spot_at spots n).port == s) e).0 in omega (arith, h)))

same_source : (spots : List Spot) (s k : ℕ) → All (λ n. (spot_at spots n).source ≡ k) (those (is_between spots k s) (length spots))
same_source spots s k =
    those_pass (λ n. (spot_at spots n).source ≡ k) (is_between spots k s) (length spots)
    (λ n lt e. of_eq _ _ (of_both ((spot_at spots n).source == k) ((spot_at spots n).port == s) e).0)

rise_append : (spots : List Spot) (front back : List ℕ) (k : ℕ) → RiseBySource spots front → All (λ n. (spot_at spots n).source < k) front
    → All (λ n. (spot_at spots n).source ≡ k) back → RiseBySource spots (front ++ back)
rise_append spots front back k rise under at i j lt inside =
    elim (cases_lt j (length front)) [
      | inl here ↦
          let one = ap (λ n. (spot_at spots n).source) (get_or_append_left front back 0 i (omega (arith, lt, here))) in
          let two = ap (λ n. (spot_at spots n).source) (get_or_append_left front back 0 j here) in
          let up = rise i j lt here in
          omega (arith, one, two, up)
      | inr there ↦
          let long = length-append front back in
          let two = ap (λ n. (spot_at spots n).source) (get_or-append_right front back (length front) j 0 refl there) in
          let last = at (j - length front) 0 (omega (arith, there, inside, long)) in
          let up = most i 0 (omega (arith, lt, inside)) in
          omega (arith, two, last, up)
    ]
  where
    most : All (λ n. (spot_at spots n).source ≤ k) (front ++ back)
    most =
        All-append (λ n. (spot_at spots n).source ≤ k) front back (λ i d lt. let h = under i d lt in omega (arith, h))
        (λ i d lt. let h = at i d lt in omega (arith, h))

pub port_rises : (spots : List Spot) (s k : ℕ) → RiseBySource spots (spots_at_port spots s k)
unfolding spots_at_port
port_rises spots s zero = λ i j lt inside. absurd (omega (arith, inside))
port_rises spots s (suc k) =
    rise_append spots (spots_at_port spots s k) (those (is_between spots k s) (length spots)) k (port_rises spots s k) (below spots s k)
    (same_source spots s k)
