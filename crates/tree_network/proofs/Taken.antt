-- The last of the ports that are ready is taken behind those of an order: none is lost, and none comes twice.
use Rattle.std.proofs.Common.{◌≡◌, ◌≢◌, ◌⊎◌, ℕ, ◌<◌, ◌≤◌, ◌+◌, ◌-◌, List, [], ◌∷◌, ◌++◌, length, get_or, refl, sym, ◌∙◌, ap, arith, inl, inr, length-append}
use Rattle.std.proofs.lemmas.Bool.{cases_lt, cases_eq}
use Rattle.std.proofs.lemmas.List.{append-nil, get_or_append_left, get_or-append-add, get_or_at}
use Rattle.tree_network.specs.Orders.{StandsAt}
use Rattle.tree_network.specs.Turns.{AreReady, Begins}

abbrev pub was : List ℕ → List ℕ → ℕ → List ℕ
was order rest p = order ++ (rest ++ p ∷ [])

abbrev pub is : List ℕ → List ℕ → ℕ → List ℕ
is order rest p = order ++ p ∷ [] ++ rest

-- ---- how many
pub count_was : (order rest : List ℕ) (p : ℕ) → length (was order rest p) ≡ length order + length rest + 1
count_was order rest p =
    let all = length-append order (rest ++ p ∷ []) in
    let end = length-append rest (p ∷ []) in
    omega (arith, all, end)

pub count_more : (order : List ℕ) (p : ℕ) → length (order ++ p ∷ []) ≡ length order + 1
count_more order p = let e = length-append order (p ∷ []) in omega (arith, e)

pub count_is : (order rest : List ℕ) (p : ℕ) → length (is order rest p) ≡ length order + length rest + 1
count_is order rest p =
    let all = length-append (order ++ p ∷ []) rest in
    let front = count_more order p in
    omega (arith, all, front)

-- ---- where each of them was
pub front_is : (order rest : List ℕ) (p i : ℕ) → i < length order → get_or (is order rest p) i 0 ≡ get_or (was order rest p) i 0
front_is order rest p i h =
    let more = count_more order p in
    get_or_append_left (order ++ p ∷ []) rest 0 i (omega (arith, h, more)) ∙ get_or_append_left order (p ∷ []) 0 i h
    ∙ sym (get_or_append_left order (rest ++ p ∷ []) 0 i h)

pub taken_is : (order rest : List ℕ) (p : ℕ) → get_or (is order rest p) (length order) 0 ≡ p
taken_is order rest p =
    let more = count_more order p in
    get_or_append_left (order ++ p ∷ []) rest 0 (length order) (omega (arith, more)) ∙ get_or_at order p [] 0 (length order) refl

last_was : (order rest : List ℕ) (p : ℕ) → get_or (was order rest p) (length order + length rest) 0 ≡ p
last_was order rest p = get_or-append-add order (rest ++ p ∷ []) (length rest) 0 ∙ get_or_at rest p [] 0 (length rest) refl

behind_is : (order rest : List ℕ) (p n : ℕ) → n < length rest
    → get_or (is order rest p) (length order + 1 + n) 0 ≡ get_or (was order rest p) (length order + n) 0
behind_is order rest p n h =
    ap (λ m. get_or (is order rest p) (m + n) 0) (sym (count_more order p)) ∙ get_or-append-add (order ++ p ∷ []) rest n 0
    ∙ sym (get_or-append-add order (rest ++ p ∷ []) n 0 ∙ get_or_append_left rest (p ∷ []) 0 n h)

data Place (order rest : List ℕ) (i : ℕ) : Type 0 where
  front : i < length order → Place order rest i
  taken : i ≡ length order → Place order rest i
  behind : (n : ℕ) → n < length rest → i ≡ length order + 1 + n → Place order rest i

place : (order rest : List ℕ) (p i : ℕ) → i < length (is order rest p) → Place order rest i
place order rest p i h =
    let count = count_is order rest p in
    elim (cases_lt i (length order)) [
      | inl l ↦ front l
      | inr l ↦
          elim (cases_eq i (length order)) [
            | inl same ↦ taken same
            | inr other ↦
                let n : ℕ = i - length order - 1 in
                behind n (omega (arith, l, other, h, count)) (omega (arith, l, other))
          ]
    ]

-- where the one at a place was
record Before (order rest : List ℕ) (p i : ℕ) : Type 0 where
  place : ℕ
  inside : place < length (was order rest p)
  same : get_or (is order rest p) i 0 ≡ get_or (was order rest p) place 0

before : (order rest : List ℕ) (p i : ℕ) → Place order rest i → Before order rest p i
before order rest p i (front l) =
    let count = count_was order rest p in
    record { place = i; inside = omega (arith, l, count); same = front_is order rest p i l }
before order rest p i (taken e) =
    let count = count_was order rest p in
    record {
      place = length order + length rest;
      inside = omega (arith, count);
      same = ap (λ m. get_or (is order rest p) m 0) e ∙ taken_is order rest p ∙ sym (last_was order rest p);
    }
before order rest p i (behind n l e) =
    let count = count_was order rest p in
    record {
      place = length order + n;
      inside = omega (arith, l, count);
      same = ap (λ m. get_or (is order rest p) m 0) e ∙ behind_is order rest p n l;
    }

-- ---- they are ready as before
pub ready_taken : (waiting order rest : List ℕ) (p : ℕ) → AreReady waiting (was order rest p) → AreReady waiting (is order rest p)
unfolding before
ready_taken waiting order rest p r = record {
  small = λ i h. let b = before order rest p i (place order rest p i h) in let lt = r.small b.place b.inside in omega (arith, lt, b.same);
  idle = λ i h. let b = before order rest p i (place order rest p i h) in ap (λ s. get_or waiting s 0) b.same ∙ r.idle b.place b.inside;
  once = λ i j early h same.
      let ahead : i < length (is order rest p) = omega (arith, early, h) in
      once i j early (place order rest p i ahead) (place order rest p j h) same;
  all = λ s h zero_at. let st = r.all s h zero_at in all s st.0 st.1 (cases_lt st.0 (length order)) (cases_eq st.0 (length order + length rest));
}
  where
    count : length (was order rest p) ≡ length order + length rest + 1
    count = count_was order rest p

    is_at : (i : ℕ) (a : Place order rest i) → get_or (is order rest p) i 0 ≡ get_or (was order rest p) (before order rest p i a).place 0
    is_at i a = (before order rest p i a).same

    once : (i j : ℕ) → i < j → Place order rest i → Place order rest j → get_or (is order rest p) i 0 ≡ get_or (is order rest p) j 0 → ⊥
    once i j early (front a) (front b) same =
        r.once i j early (omega (arith, b, count)) (sym (is_at i (front a)) ∙ same ∙ is_at j (front b))
    once i j early (front a) (taken b) same =
        r.once i (length order + length rest) (omega (arith, a)) (omega (arith, count)) (sym (is_at i (front a)) ∙ same ∙ is_at j (taken b))
    once i j early (front a) (behind n b e) same =
        r.once i (length order + n) (omega (arith, a)) (omega (arith, b, count)) (sym (is_at i (front a)) ∙ same ∙ is_at j (behind n b e))
    once i j early (taken a) (front b) same = omega (arith, early, a, b)
    once i j early (taken a) (taken b) same = omega (arith, early, a, b)
    once i j early (taken a) (behind n b e) same =
        r.once (length order + n) (length order + length rest) (omega (arith, b)) (omega (arith, count))
        (sym (sym (is_at i (taken a)) ∙ same ∙ is_at j (behind n b e)))
    once i j early (behind m a d) (front b) same = omega (arith, early, d, b)
    once i j early (behind m a d) (taken b) same = omega (arith, early, d, b)
    once i j early (behind m a d) (behind n b e) same =
        r.once (length order + m) (length order + n) (omega (arith, early, d, e)) (omega (arith, b, count))
        (sym (is_at i (behind m a d)) ∙ same ∙ is_at j (behind n b e))

    stands : (s j i : ℕ) → StandsAt (was order rest p) s j → i < length (is order rest p)
        → get_or (is order rest p) i 0 ≡ get_or (was order rest p) j 0 → (n : ℕ) × StandsAt (is order rest p) s n
    stands s j i st inside same = (i, record { inside = inside; is = same ∙ st.is })

    all : (s j : ℕ) → StandsAt (was order rest p) s j → (j < length order) ⊎ (length order ≤ j)
        → (j ≡ length order + length rest) ⊎ (j ≢ length order + length rest) → (n : ℕ) × StandsAt (is order rest p) s n
    all s j st (inl l) last =
        let more = count_is order rest p in
        stands s j j st (omega (arith, l, more)) (front_is order rest p j l)
    all s j st (inr l) (inl last) =
        let more = count_is order rest p in
        stands s j (length order) st (omega (arith, more)) (taken_is order rest p ∙ sym (last_was order rest p) ∙ ap (λ m. get_or (was order rest p) m 0) (sym last))
    all s j st (inr l) (inr other) =
        let more = count_is order rest p in
        let n : ℕ = j - length order in
        let at : j ≡ length order + n = omega (arith, l) in
        let few : n < length rest = omega (arith, l, other, st.inside, count) in
        stands s j (length order + 1 + n) st (omega (arith, few, more)) (behind_is order rest p n few ∙ ap (λ m. get_or (was order rest p) m 0) (sym at))

-- ---- lists behind the same one
pub begins_behind : (ahead old new : List ℕ) → Begins old new → Begins (ahead ++ old) (ahead ++ new)
begins_behind ahead old new b =
    let was_long = length-append ahead old in
    let is_long = length-append ahead new in
    record {
      longer = omega (arith, was_long, is_long, b.longer);
      same = λ i h. by_place i h (cases_lt i (length ahead));
    }
  where
    by_place : (i : ℕ) → i < length (ahead ++ old) → (i < length ahead) ⊎ (length ahead ≤ i) → get_or (ahead ++ new) i 0 ≡ get_or (ahead ++ old) i 0
    by_place i h (inl l) = get_or_append_left ahead new 0 i l ∙ sym (get_or_append_left ahead old 0 i l)
    by_place i h (inr l) =
        let was_long = length-append ahead old in
        let n : ℕ = i - length ahead in
        let at : i ≡ length ahead + n = omega (arith, l) in
        ap (λ m. get_or (ahead ++ new) m 0) at ∙ get_or-append-add ahead new n 0 ∙ b.same n (omega (arith, l, h, was_long))
        ∙ sym (ap (λ m. get_or (ahead ++ old) m 0) at ∙ get_or-append-add ahead old n 0)

pub none_behind : (ahead rest : List ℕ) → length rest ≡ 0 → ahead ++ rest ≡ ahead
none_behind ahead [] e = append-nil ahead
none_behind ahead (x ∷ rest) e = absurd (omega (arith, e))
