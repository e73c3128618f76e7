-- A walk back among ports each of which waits for one of them.
use Rattle.std.proofs.Common.{◌≡◌, ℕ, ◌<◌, ◌≤◌, ◌+◌, ◌-◌, List, [], ◌∷◌, ◌++◌, length, get_or, drop, Bool, true, false, refl, sym, ◌∙◌, ap, subst, arith, inl, inr, length-append, length-drop}
use Rattle.std.proofs.lemmas.Bool.{cases_lt}
use Rattle.std.proofs.lemmas.List.{get_or_append_left, get_or_at, get_or_default, get_or_past}
use Rattle.tree_network.specs.declared.spots.Spot.{Spot}
use Rattle.tree_network.specs.Spots.{spot_at}
use Rattle.tree_network.specs.Lists.{spots_at_port}
use Rattle.tree_network.specs.Orders.{StandsAt, GoesTo}
use Rattle.tree_network.specs.Rings.{IsEndless, IsFirstBefore}
use Rattle.tree_network.specs.Turns.{IsFree, IsStuck, IsLateFrom, IsFirstLateFrom, IsLoopFrom, AreStuck, AreEndless}
use Rattle.tree_network.proofs.Endless.{free_endless}
use Rattle.tree_network.proofs.Distinct.{Pushed, IsNew, pushed, earlier, newest, apart_push, few}
use Rattle.tree_network.proofs.Those.{port_has, port_pass}

pub record Walked (spots : List Spot) (done : List Bool) (start : ℕ) (seen : List ℕ) (port : ℕ) : Type 0 where
  pub begins : get_or (seen ++ port ∷ []) 0 0 ≡ start
  pub here : IsFree done port
  pub free : (i : ℕ) → i < length seen → IsFree done (get_or seen i 0)
  pub once : (i j : ℕ) → i < j → j < length seen → get_or seen i 0 ≡ get_or seen j 0 → ⊥
  pub steps : (i : ℕ) → i + 1 < length seen → IsFirstBefore spots (get_or seen (i + 1) 0) (get_or seen i 0)
  pub last : 0 < length seen → IsFirstBefore spots port (get_or seen (length seen - 1) 0)

pub no_port_yet : (spots : List Spot) (done : List Bool) (start : ℕ) → IsFree done start → Walked spots done start [] start
no_port_yet spots done start free = record {
  begins = refl;
  here = free;
  free = λ i h. absurd (omega (arith, h));
  once = λ i j e h. absurd (omega (arith, h));
  steps = λ i h. absurd (omega (arith, h));
  last = λ h. absurd (omega (arith, h));
}

pub below_free : (done : List Bool) (s : ℕ) → IsFree done s → s < length done
below_free done s f =
    elim (cases_lt s (length done)) [
      | inl h ↦ h
      | inr h ↦ let e : true ≡ false = sym (get_or_past done s true h) ∙ f in absurd cc
    ]

free_push : (spots : List Spot) (done : List Bool) (start : ℕ) (seen : List ℕ) (port : ℕ) → Walked spots done start seen port → (i : ℕ) → i < length (seen ++ port ∷ [])
    → IsFree done (get_or (seen ++ port ∷ []) i 0)
free_push spots done start seen port w i h = cases (pushed seen port i h)
  where
    P : ℕ → Type 0
    P m = IsFree done m

    cases : Pushed seen port i → IsFree done (get_or (seen ++ port ∷ []) i 0)
    cases (earlier l e) = ap (λ m. get_or done m true) e ∙ w.free i l
    cases (newest l e) = ap (λ m. get_or done m true) e ∙ w.here

-- so there is room for one more
pub leaves_room : (spots : List Spot) (done : List Bool) (start : ℕ) (seen : List ℕ) (port : ℕ) → Walked spots done start seen port → IsNew seen port
    → length seen < length done
leaves_room spots done start seen port w new =
    let more = few (seen ++ port ∷ []) (length done) (apart_push seen port record { once = w.once } new)
    (λ i h. below_free done (get_or (seen ++ port ∷ []) i 0) (free_push spots done start seen port w i h)) in
    let long = length-append seen (port ∷ []) in
    omega (arith, more, long)

pub goes_on : (spots : List Spot) (done : List Bool) (start : ℕ) (seen : List ℕ) (port before : ℕ) → Walked spots done start seen port → IsNew seen port
    → IsFirstBefore spots before port → IsFree done before → Walked spots done start (seen ++ port ∷ []) before
goes_on spots done start seen port before w new goes free = record {
  begins = get_or_append_left (seen ++ port ∷ []) (before ∷ []) 0 0 (omega (arith, long)) ∙ w.begins;
  here = free;
  free = free_push spots done start seen port w;
  once = (apart_push seen port record { once = w.once } new).once;
  steps = steps;
  last = λ h. last;
}
  where
    long : length (seen ++ port ∷ []) ≡ length seen + 1
    long = length-append seen (port ∷ [])

    last : IsFirstBefore spots before (get_or (seen ++ port ∷ []) (length (seen ++ port ∷ []) - 1) 0)
    last =
        let P : ℕ → Type 0 = λ m. IsFirstBefore spots before m in
        subst P (sym (get_or_at seen port [] 0 (length (seen ++ port ∷ []) - 1) (omega (arith, long)))) goes

    steps : (i : ℕ) → i + 1 < length (seen ++ port ∷ [])
        → IsFirstBefore spots (get_or (seen ++ port ∷ []) (i + 1) 0) (get_or (seen ++ port ∷ []) i 0)
    steps i h =
        let P : ℕ → Type 0 = λ m. IsFirstBefore spots (get_or (seen ++ port ∷ []) (i + 1) 0) m in
        let within : i < length seen = omega (arith, h, long) in
        subst P (sym (get_or_append_left seen (port ∷ []) 0 i within)) (
        elim (cases_lt (i + 1) (length seen)) [
          | inl l ↦
              let Q : ℕ → Type 0 = λ m. IsFirstBefore spots m (get_or seen i 0) in
              subst Q (sym (get_or_append_left seen (port ∷ []) 0 (i + 1) l)) (w.steps i l)
          | inr l ↦
              let Q : ℕ → Type 0 = λ m. IsFirstBefore spots m (get_or seen i 0) in
              let R : ℕ → Type 0 = λ m. IsFirstBefore spots port (get_or seen m 0) in
              let at : length seen ≡ i + 1 = omega (arith, l, within) in
              let end : length seen - 1 ≡ i = omega (arith, at) in
              subst Q (sym (get_or_at seen port [] 0 (i + 1) at)) (subst R end (w.last (omega (arith, within))))
        ])

pub comes_back : (spots : List Spot) (done : List Bool) (start : ℕ) (seen : List ℕ) (port place : ℕ) → Walked spots done start seen port
    → StandsAt seen port place → IsLoopFrom spots start (drop place seen)
comes_back spots done start seen port place w st = record {
  some = omega (arith, length-drop place seen, st.inside);
  walk = seen;
  place = place;
  goes = record {
    begins = sym (get_or_append_left seen (port ∷ []) 0 0 (omega (arith, st.inside))) ∙ w.begins;
    steps = w.steps;
    once = w.once;
    inside = st.inside;
    back =
        let P : ℕ → Type 0 = λ m. IsFirstBefore spots m (get_or seen (length seen - 1) 0) in
        subst P (sym st.is) (w.last (omega (arith, st.inside)));
  };
  is = refl;
}

-- ---- the spots at a port
-- from a spot at the port
pub goes_from : (spots : List Spot) (done : List Bool) (s k a : ℕ) → IsLateFrom spots done (spots_at_port spots s k) a → GoesTo spots a s
goes_from spots done s k a l =
    let all = port_pass (λ n. (n < length spots) × ((spot_at spots n).port ≡ s)) spots s k (λ n h e. (h, e)) l.place 0 l.inside in
    record { spot = get_or (spots_at_port spots s k) l.place 0; inside = all.0; from = l.from; to = all.1 }

-- a port that is not done, from which a link goes there
late_from : (spots : List Spot) (done : List Bool) (s ports a : ℕ) → ((n : ℕ) → n < length spots → (spot_at spots n).source ≤ ports)
    → GoesTo spots a s → IsFree done a → IsLateFrom spots done (spots_at_port spots s (ports + 1)) a
late_from spots done s ports a sources g free =
    let small = sources g.spot g.inside in
    let c = port_has spots s (ports + 1) g.spot g.inside g.to (omega (arith, small)) in
    let at = get_or_default (spots_at_port spots s (ports + 1)) c.0 0 g.spot c.1 ∙ c.2 in
    record { place = c.0; inside = c.1; from = ap (λ n. (spot_at spots n).source) at ∙ g.from; free = free }

pub not_stuck : (spots : List Spot) (done : List Bool) (s ports : ℕ) → ((n : ℕ) → n < length spots → (spot_at spots n).source ≤ ports)
    → IsStuck spots done s → ((a : ℕ) → ¬ (IsLateFrom spots done (spots_at_port spots s (ports + 1)) a)) → ⊥
not_stuck spots done s ports sources st none = none st.before (late_from spots done s ports st.before sources st.goes st.free)

-- the least of those that wait, and that are not done, is the first before
pub is_first : (spots : List Spot) (done : List Bool) (s ports a : ℕ) → ((n : ℕ) → n < length spots → (spot_at spots n).source ≤ ports)
    → AreStuck spots done → AreEndless spots done → IsFirstLateFrom spots done (spots_at_port spots s (ports + 1)) a → IsFirstBefore spots a s
is_first spots done s ports a sources stuck endless first = record {
  goes = goes_from spots done s (ports + 1) a first.late;
  endless = free_endless spots done stuck a first.late.free;
  least = least;
}
  where
    least : (b : ℕ) → GoesTo spots b s → IsEndless spots b → a ≤ b
    least b g unending = first.least b (late_from spots done s ports b sources g (endless b unending))
