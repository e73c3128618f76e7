-- The ring that is told is one, and a ring; and a network with an order has none.
use Rattle.std.proofs.Common.{◌≡◌, ℕ, zero, suc, ◌<◌, ◌≤◌, ◌+◌, ◌-◌, List, [], ◌∷◌, ◌++◌, length, get_or, refl, sym, ◌∙◌, ap, ap₂, subst, arith, drop, inl, inr, length-append, length-drop}
use Rattle.std.specs.Prelude.{reverse}
use Rattle.std.proofs.lemmas.Bool.{cases_eq, cases_lt}
use Rattle.std.proofs.lemmas.Grind.{same_number_lists}
use Rattle.std.proofs.lemmas.List.{get_or-reverse, get_or-drop, length-reverse, get_or_append_left, get_or_at}
use Rattle.tree_network.specs.declared.spots.Spot.{Spot}
use Rattle.tree_network.specs.Orders.{StandsAt, GoesTo, IsRing, OrderOrRing}
use Rattle.tree_network.specs.Rings.{IsFirstBefore, IsWalkBack, OneRing, ToldRingsAreRings, turned_round}

-- a link goes to each of these ports from the next, and to the last from the first
record IsLoop (spots : List Spot) (ports : List ℕ) : Type 0 where
  some : 0 < length ports
  steps : (i : ℕ) → i + 1 < length ports → GoesTo spots (get_or ports (i + 1) 0) (get_or ports i 0)
  last : GoesTo spots (get_or ports 0 0) (get_or ports (length ports - 1) 0)

ring_of_loop : (spots : List Spot) (ports : List ℕ) → IsLoop spots ports → IsRing spots (turned_round ports)
ring_of_loop spots ports l = record {
  some = omega (arith, long, l.some);
  back = back;
  steps = steps;
}
  where
    walk : List ℕ
    walk = ports ++ get_or ports 0 0 ∷ []

    count : length walk ≡ length ports + 1
    count = length-append ports (get_or ports 0 0 ∷ [])

    long : length (reverse walk) ≡ length ports + 1
    long = length-reverse walk ∙ count

    at : (i : ℕ) → i < length ports + 1 → get_or (reverse walk) i 0 ≡ get_or walk (length ports - i) 0
    at i h =
        let same : length walk - 1 - i ≡ length ports - i = omega (arith, count) in
        get_or-reverse walk i 0 (omega (arith, count, h)) ∙ ap (λ k. get_or walk k 0) same

    inner : (i : ℕ) → i < length ports → get_or walk i 0 ≡ get_or ports i 0
    inner i h = get_or_append_left ports (get_or ports 0 0 ∷ []) 0 i h

    end : get_or walk (length ports) 0 ≡ get_or ports 0 0
    end = get_or_at ports (get_or ports 0 0) [] 0 (length ports) refl

    back : get_or (reverse walk) (length (reverse walk) - 1) 0 ≡ get_or (reverse walk) 0 0
    back =
        let last : length (reverse walk) - 1 ≡ length ports = omega (arith, long) in
        let none : length ports - length ports ≡ 0 = omega arith in
        let all : length ports - 0 ≡ length ports = omega arith in
        ap (λ k. get_or (reverse walk) k 0) last ∙ at (length ports) (omega arith) ∙ ap (λ k. get_or walk k 0) none ∙ inner 0 l.some
        ∙ sym (at 0 (omega arith) ∙ ap (λ k. get_or walk k 0) all ∙ end)

    steps : (i : ℕ) → i + 1 < length (reverse walk) → GoesTo spots (get_or (reverse walk) i 0) (get_or (reverse walk) (i + 1) 0)
    steps i h =
        let P : ℕ → Type 0 = λ m. GoesTo spots m (get_or (reverse walk) (i + 1) 0) in
        let Q : ℕ → Type 0 = λ m. GoesTo spots (get_or walk (length ports - i) 0) m in
        let within : i < length ports = omega (arith, h, long) in
        let e = at i (omega (arith, within)) in
        let f = at (i + 1) (omega (arith, within)) ∙ inner (length ports - (i + 1)) (omega (arith, within)) in
        subst P (sym e) (subst Q (sym f) (from i within))
      where
        from : (i : ℕ) → i < length ports → GoesTo spots (get_or walk (length ports - i) 0) (get_or ports (length ports - (i + 1)) 0)
        from zero h =
            let R : ℕ → Type 0 = λ m. GoesTo spots m (get_or ports (length ports - (0 + 1)) 0) in
            let S : ℕ → Type 0 = λ m. GoesTo spots (get_or ports 0 0) (get_or ports m 0) in
            let all : length ports - 0 ≡ length ports = omega arith in
            let one : length ports - 1 ≡ length ports - (0 + 1) = omega arith in
            subst R (sym (ap (λ k. get_or walk k 0) all ∙ end)) (subst S one l.last)
        from (suc i) h =
            let R : ℕ → Type 0 = λ m. GoesTo spots m (get_or ports (length ports - (suc i + 1)) 0) in
            let S : ℕ → Type 0 = λ m. GoesTo spots (get_or ports m 0) (get_or ports (length ports - (suc i + 1)) 0) in
            let next : length ports - (suc i + 1) + 1 ≡ length ports - suc i = omega (arith, h) in
            subst R (sym (inner (length ports - suc i) (omega (arith, h)))) (subst S next (l.steps (length ports - (suc i + 1)) (omega (arith, h))))

-- ---- the ring that is told
loop_of_walk : (spots : List Spot) (start : ℕ) (walk : List ℕ) (place : ℕ) → IsWalkBack spots start walk place → IsLoop spots (drop place walk)
loop_of_walk spots start walk place w = record {
  some = omega (arith, long, w.inside);
  steps = steps;
  last = last;
}
  where
    long : length (drop place walk) ≡ length walk - place
    long = length-drop place walk

    at : (i : ℕ) → get_or (drop place walk) i 0 ≡ get_or walk (place + i) 0
    at i = get_or-drop place walk i 0

    steps : (i : ℕ) → i + 1 < length (drop place walk) → GoesTo spots (get_or (drop place walk) (i + 1) 0) (get_or (drop place walk) i 0)
    steps i h =
        let P : ℕ → Type 0 = λ m. GoesTo spots m (get_or (drop place walk) i 0) in
        let Q : ℕ → Type 0 = λ m. GoesTo spots (get_or walk (place + i + 1) 0) m in
        let next : place + i + 1 ≡ place + (i + 1) = omega arith in
        subst P (ap (λ k. get_or walk k 0) next ∙ sym (at (i + 1))) (subst Q (sym (at i)) (w.steps (place + i) (omega (arith, h, long))).goes)

    last : GoesTo spots (get_or (drop place walk) 0 0) (get_or (drop place walk) (length (drop place walk) - 1) 0)
    last =
        let P : ℕ → Type 0 = λ m. GoesTo spots m (get_or (drop place walk) (length (drop place walk) - 1) 0) in
        let Q : ℕ → Type 0 = λ m. GoesTo spots (get_or walk place 0) m in
        let zero_at : place ≡ place + 0 = omega arith in
        let end : length walk - 1 ≡ place + (length (drop place walk) - 1) = omega (arith, long, w.inside) in
        subst P (ap (λ k. get_or walk k 0) zero_at ∙ sym (at 0))
        (subst Q (ap (λ k. get_or walk k 0) end ∙ sym (at (length (drop place walk) - 1))) w.back.goes)

pub told_rings_are_rings : ToldRingsAreRings
told_rings_are_rings spots ring r =
    let P : List ℕ → Type 0 = λ xs. IsRing spots xs in
    subst P (sym r.is) (ring_of_loop spots (drop r.place r.walk) (loop_of_walk spots r.start r.walk r.place r.goes))

-- there is one port of a kind that is the least
first_one : (spots : List Spot) (a b c : ℕ) → IsFirstBefore spots a c → IsFirstBefore spots b c → a ≡ b
first_one spots a b c h k =
    let one = h.least b k.goes k.endless in
    let two = k.least a h.goes h.endless in
    omega (arith, one, two)

walks_agree : (spots : List Spot) (start : ℕ) (v w : List ℕ) (p q : ℕ) → IsWalkBack spots start v p → IsWalkBack spots start w q
    → (i : ℕ) → i < length v → i < length w → get_or v i 0 ≡ get_or w i 0
walks_agree spots start v w p q h k zero small few = h.begins ∙ sym k.begins
walks_agree spots start v w p q h k (suc i) small few =
    let P : ℕ → Type 0 = λ m. IsFirstBefore spots (get_or w (i + 1) 0) m in
    let before = walks_agree spots start v w p q h k i (omega (arith, small)) (omega (arith, few)) in
    let one = h.steps i (omega (arith, small)) in
    let two = subst P (sym before) (k.steps i (omega (arith, few))) in
    let next : suc i ≡ i + 1 = omega arith in
    ap (λ m. get_or v m 0) next ∙ first_one spots (get_or v (i + 1) 0) (get_or w (i + 1) 0) (get_or v i 0) one two
    ∙ ap (λ m. get_or w m 0) (sym next)

-- a walk that comes back ends there
none_longer : (spots : List Spot) (start : ℕ) (v w : List ℕ) (p q : ℕ) → IsWalkBack spots start v p → IsWalkBack spots start w q
    → length v < length w → ⊥
none_longer spots start v w p q h k lt =
    let some : 0 < length v = omega (arith, h.inside) in
    let end : length v - 1 + 1 ≡ length v = omega (arith, some) in
    let same = walks_agree spots start v w p q h k (length v - 1) (omega (arith, some)) (omega (arith, some, lt)) in
    let P : ℕ → Type 0 = λ m. IsFirstBefore spots (get_or w (length v - 1 + 1) 0) m in
    let next = subst P (sym same) (k.steps (length v - 1) (omega (arith, end, lt))) in
    let back = first_one spots (get_or v p 0) (get_or w (length v - 1 + 1) 0) (get_or v (length v - 1) 0) h.back next in
    let at = walks_agree spots start v w p q h k p h.inside (omega (arith, h.inside, lt)) in
    k.once p (length v) h.inside lt (sym at ∙ back ∙ ap (λ m. get_or w m 0) end)

walks_one : (spots : List Spot) (start : ℕ) (v w : List ℕ) (p q : ℕ) → IsWalkBack spots start v p → IsWalkBack spots start w q → v ≡ w
walks_one spots start v w p q h k =
    elim (cases_lt (length v) (length w)) [
      | inl lt ↦ absurd (none_longer spots start v w p q h k lt)
      | inr more ↦
          elim (cases_eq (length v) (length w)) [
            | inl same ↦
                same_number_lists v w same (λ i lt. walks_agree spots start v w p q h k i lt (omega (arith, lt, same)))
            | inr other ↦ absurd (none_longer spots start w v q p k h (omega (arith, more, other)))
          ]
    ]

places_one : (spots : List Spot) (start : ℕ) (walk : List ℕ) (p q : ℕ) → IsWalkBack spots start walk p → IsWalkBack spots start walk q → p ≡ q
places_one spots start walk p q h k =
    let same = first_one spots (get_or walk p 0) (get_or walk q 0) (get_or walk (length walk - 1) 0) h.back k.back in
    elim (cases_eq p q) [
      | inl e ↦ e
      | inr other ↦
          elim (cases_lt p q) [
            | inl lt ↦ absurd (h.once p q lt k.inside same)
            | inr more ↦ absurd (h.once q p (omega (arith, more, other)) h.inside (sym same))
          ]
    ]

pub one_ring : OneRing
one_ring spots one other r o =
    let up = r.least o.start o.endless in
    let down = o.least r.start r.endless in
    let start : o.start ≡ r.start = omega (arith, up, down) in
    let S : ℕ → Type 0 = λ s. IsWalkBack spots s o.walk o.place in
    let goes = subst S start o.goes in
    let walk = walks_one spots r.start r.walk o.walk r.place o.place r.goes goes in
    let W : List ℕ → Type 0 = λ w. IsWalkBack spots r.start w o.place in
    let place = places_one spots r.start r.walk r.place o.place r.goes (subst W (sym walk) goes) in
    r.is ∙ ap₂ (λ p w. turned_round (drop p w)) place walk ∙ sym o.is

-- ---- along a ring the places grow
pub order_or_ring_is_one : OrderOrRing
order_or_ring_is_one spots ports order ring o small r =
    let first = place 0 (omega (arith, r.some)) in
    let end = climbs first.0 first.1 (length ring - 1) (omega (arith, r.some)) in
    let same = o.once first.0 end.0 (at_port (get_or ring 0 0) first.0 first.1) (at_port (get_or ring (length ring - 1) 0) end.0 end.1.0)
    (first.1.is ∙ sym r.back ∙ sym end.1.0.is) in
    omega (arith, same, end.1.1, r.some)
  where
    at_port : (s i : ℕ) → StandsAt order s i → i < ports
    at_port s i st = let lt = st.inside in omega (arith, lt, o.count)

    is_small : (i : ℕ) → i < length ring → get_or ring i 0 < ports
    is_small zero h =
        let g = r.steps (length ring - 1 - 1) (omega (arith, r.some)) in
        let next : length ring - 1 - 1 + 1 ≡ length ring - 1 = omega (arith, r.some) in
        let lt = small g.spot g.inside in
        let to = g.to ∙ ap (λ k. get_or ring k 0) next ∙ r.back in
        omega (arith, lt, to)
    is_small (suc i) h =
        let g = r.steps i (omega (arith, h)) in
        let next : i + 1 ≡ suc i = omega arith in
        let lt = small g.spot g.inside in
        let to = g.to ∙ ap (λ k. get_or ring k 0) next in
        omega (arith, lt, to)

    place : (i : ℕ) → i < length ring → (p : ℕ) × StandsAt order (get_or ring i 0) p
    place i h = o.every (get_or ring i 0) (is_small i h)

    climbs : (first : ℕ) → StandsAt order (get_or ring 0 0) first → (i : ℕ) → i < length ring
        → (p : ℕ) × (StandsAt order (get_or ring i 0) p × (first + i ≤ p))
    climbs first st zero h = (first, (st, omega arith))
    climbs first st (suc i) h =
        let before = climbs first st i (omega (arith, h)) in
        let here = place (suc i) h in
        let next : i + 1 ≡ suc i = omega arith in
        let P : ℕ → Type 0 = λ m. GoesTo spots m (get_or order here.0 0) in
        let Q : ℕ → Type 0 = λ m. GoesTo spots (get_or ring i 0) m in
        let goes = subst P (sym before.1.0.is) (subst Q (ap (λ k. get_or ring k 0) next ∙ sym here.1.is) (r.steps i (omega (arith, h)))) in
        let lt = o.forward before.0 here.0 (at_port (get_or ring i 0) before.0 before.1.0) (at_port (get_or ring (suc i) 0) here.0 here.1) goes in
        (here.0, (here.1, omega (arith, lt, before.1.1)))
