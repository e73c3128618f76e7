-- Turn by turn: each port that is done has its place, and what still waits is counted.
use Rattle.std.proofs.Common.{◌≡◌, ◌≢◌, ℕ, zero, suc, ◌<◌, ◌≤◌, ◌+◌, ◌==◌, ◌&&◌, List, [], ◌∷◌, ◌++◌, length, length-append, append-nil, get_or, set, replicate, take, refl, sym, ◌∙◌, ap, subst, arith, inl, inr, Bool, true, false, not, get_or-set_same, get_or-set_other, add-zero}
use Rattle.std.proofs.lemmas.Bool.{cases_eq, cases_lt, eq-eqb, ne_eqb}
use Rattle.std.proofs.lemmas.List.{length-set, length-replicate, get_or-replicate, get_or_default, get_or_past, length-take-le}
use Rattle.std.proofs.Common.{get_or-take}
use Rattle.tree_network.specs.declared.spots.Spot.{Spot}
use Rattle.tree_network.specs.Spots.{spot_at}
use Rattle.tree_network.specs.Lists.{those, is_from}
use Rattle.tree_network.specs.Orders.{StandsAt, GoesTo, IsOrderOf}
use Rattle.tree_network.specs.Turns.{AreReady, Begins, IsFree, IsStuck, is_late, waits_at, count_waiting, count_at}
use Rattle.tree_network.proofs.Distinct.{few, full, many}
use Rattle.tree_network.proofs.Taken.{was, is, count_is, count_more, front_is, taken_is, ready_taken, begins_behind, none_behind}
use Rattle.tree_network.proofs.Those.{those_has, length_split, one_if, count_of_those, some_if_any, eq_true, of_eq, of_both}

pub record Turned (spots : List Spot) (ports : ℕ) (done : List Bool) (waiting ready : List ℕ) (turn : ℕ) : Type 0 where
  pub marks : length done ≡ ports
  pub counts : length waiting ≡ ports
  pub waits : (s : ℕ) → s < ports → get_or waiting s 0 ≡ count_waiting spots done s
  pub are_ready : AreReady waiting ready
  pub reached : turn ≤ length ready
  pub marked : (s : ℕ) → get_or done s false ≡ true → (i : ℕ) × (i < turn) × (get_or ready i 0 ≡ s)
  pub has_mark : (i : ℕ) → i < turn → get_or done (get_or ready i 0) false ≡ true
  pub forward : (j a : ℕ) → j < turn → GoesTo spots a (get_or ready j 0) → (i : ℕ) × (i < j) × (get_or ready i 0 ≡ a)

pub no_turn_yet : (spots : List Spot) (ports : ℕ) (waiting ready : List ℕ) → length waiting ≡ ports
    → ((s : ℕ) → s < ports → get_or waiting s 0 ≡ count_waiting spots (replicate ports false) s) → AreReady waiting ready
    → Turned spots ports (replicate ports false) waiting ready 0
no_turn_yet spots ports waiting ready count waits r = record {
  marks = length-replicate ports false;
  counts = count;
  waits = waits;
  are_ready = r;
  reached = omega arith;
  marked = λ s e. absurd (none s e);
  has_mark = λ i h. absurd (omega (arith, h));
  forward = λ j a h g. absurd (omega (arith, h));
}
  where
    none : (s : ℕ) → get_or (replicate ports false) s false ≡ true → ⊥
    none s e =
        elim (cases_lt s ports) [
          | inl h ↦ let f : false ≡ true = sym (get_or-replicate ports s false false h) ∙ e in cc
          | inr h ↦
              let count = length-replicate ports false in
              let f : false ≡ true = sym (get_or_past (replicate ports false) s false (omega (arith, h, count))) ∙ e in cc
        ]

-- ---- what waits
-- a spot that waits is counted
counted : (spots : List Spot) (done : List Bool) (s n : ℕ) → n < length spots → waits_at spots done s n ≡ true → count_waiting spots done s ≡ 0 → ⊥
counted spots done s n h w none =
    let c = those_has (waits_at spots done s) (length spots) n h w in
    omega (arith, c.1, none)

late_unless : (spots : List Spot) (done : List Bool) (s n a : ℕ) → n < length spots → (spot_at spots n).port ≡ s → (spot_at spots n).source ≡ suc a
    → count_waiting spots done s ≡ 0 → get_or done a false ≡ true
late_unless spots done s n a h at from none = by_mark (get_or done a false) refl
  where
    by_mark : (b : Bool) → get_or done a false ≡ b → get_or done a false ≡ true
    by_mark true e = e
    by_mark false e =
        let late : is_late done (spot_at spots n).source ≡ true = ap (is_late done) from ∙ ap not e in
        let here = eq_true (spot_at spots n).port s at in
        absurd (counted spots done s n h (rw (here, late) refl) none)

free_of : (done : List Bool) (a : ℕ) → a < length done → not (get_or done a false) ≡ true → IsFree done a
free_of done a h e = get_or_default done a true false h ∙ off (get_or done a false) e
  where
    off : (b : Bool) → not b ≡ true → b ≡ false
    off false e = refl
    off true e = absurd (let f : false ≡ true = e in cc)

below_of : (done : List Bool) (s : ℕ) → IsFree done s → s < length done
below_of done s f =
    elim (cases_lt s (length done)) [
      | inl h ↦ h
      | inr h ↦ let e : true ≡ false = sym (get_or_past done s true h) ∙ f in absurd cc
    ]

-- ---- no turn is left
pub stuck : (spots : List Spot) (ports : ℕ) (done : List Bool) (waiting ready : List ℕ) (turn : ℕ) → Turned spots ports done waiting ready turn
    → length ready ≤ turn → ((n : ℕ) → n < length spots → (spot_at spots n).source ≤ ports) → (s : ℕ) → IsFree done s → IsStuck spots done s
stuck spots ports done waiting ready turn t all sources s free = by_count (length (those (waits_at spots done s) (length spots))) refl
  where
    below : s < ports
    below = let lt = below_of done s free in omega (arith, lt, t.marks)

    by_source : (n k : ℕ) → n < length spots → (spot_at spots n).port ≡ s → (spot_at spots n).source ≡ k → is_late done k ≡ true → IsStuck spots done s
    by_source n zero h at from late = absurd (let f : false ≡ true = late in cc)
    by_source n (suc a) h at from late =
        let lt = sources n h in
        record {
          before = a;
          goes = record { spot = n; inside = h; from = from; to = at };
          free = free_of done a (omega (arith, lt, from, t.marks)) late;
        }

    by_count : (k : ℕ) → count_waiting spots done s ≡ k → IsStuck spots done s
    by_count zero e =
        let st = t.are_ready.all s (omega (arith, below, t.counts)) (t.waits s below ∙ e) in
        let mark = ap (λ m. get_or done m false) (sym st.1.is) ∙ t.has_mark st.0 (omega (arith, st.1.inside, all)) in
        let off = get_or_default done s false true (below_of done s free) ∙ free in
        absurd (let f : true ≡ false = sym mark ∙ off in cc)
    by_count (suc k) e =
        let w = some_if_any (waits_at spots done s) (length spots) (omega (arith, e)) in
        let both = of_both ((spot_at spots w.0).port == s) (is_late done (spot_at spots w.0).source) w.2 in
        by_source w.0 (spot_at spots w.0).source w.1 (of_eq (spot_at spots w.0).port s both.0) refl both.1

pub some_free : (spots : List Spot) (ports : ℕ) (done : List Bool) (waiting ready : List ℕ) (turn : ℕ) → Turned spots ports done waiting ready turn
    → turn < ports → ((s : ℕ) → ¬ (IsFree done s)) → ⊥
some_free spots ports done waiting ready turn t few_turns none =
    let long = length-take-le turn ready t.reached in
    let enough = many (take turn ready) ports all in
    omega (arith, long, enough, few_turns)
  where
    all : (s : ℕ) → s < ports → (i : ℕ) × StandsAt (take turn ready) s i
    all s h = by_mark (get_or done s false) refl
      where
        by_mark : (b : Bool) → get_or done s false ≡ b → (i : ℕ) × StandsAt (take turn ready) s i
        by_mark false e = absurd (none s (get_or_default done s true false (omega (arith, h, t.marks)) ∙ e))
        by_mark true e =
            let m = t.marked s e in
            let long = length-take-le turn ready t.reached in
            (m.0, record { inside = omega (arith, m.1, long); is = get_or-take turn ready m.0 0 m.1 ∙ m.2 })

-- ---- one turn more
-- the port of the turn is not done
pub fresh : (spots : List Spot) (ports : ℕ) (done : List Bool) (waiting ready : List ℕ) (turn : ℕ) → Turned spots ports done waiting ready turn
    → turn < length ready → get_or done (get_or ready turn 0) false ≡ false
fresh spots ports done waiting ready turn t h = by_mark (get_or done (get_or ready turn 0) false) refl
  where
    by_mark : (b : Bool) → get_or done (get_or ready turn 0) false ≡ b → get_or done (get_or ready turn 0) false ≡ false
    by_mark false e = e
    by_mark true e = let m = t.marked (get_or ready turn 0) e in absurd (t.are_ready.once m.0 turn m.1 h m.2)

-- the spots that wait are those that wait for the port, and those that go on waiting
pub split : (spots : List Spot) (done : List Bool) (p s : ℕ) → p < length done → get_or done p false ≡ false
    → count_waiting spots done s ≡ count_waiting spots (set done p true) s + count_at spots s (those (is_from spots (p + 1)) (length spots))
split spots done p s inside off =
    let e = count_of_those (is_from spots (p + 1)) (λ n. (spot_at spots n).port == s) (length spots) in
    let f = length_split (waits_at spots done s) (waits_at spots (set done p true) s) (λ n. is_from spots (p + 1) n && ((spot_at spots n).port == s)) (length spots)
    (λ k h. one ((spot_at spots k).port == s) (spot_at spots k).source) in
    omega (arith, e, f)
  where
    now : (k : ℕ) → one_if (is_late done k) ≡ one_if (is_late (set done p true) k) + one_if (k == p + 1)
    now zero = let z : (0 == p + 1) ≡ false = ne_eqb 0 (p + 1) (λ e. omega (arith, e)) in rw z refl
    now (suc a) =
        elim (cases_eq a p) [
          | inl same ↦
              let was = ap (λ m. get_or done m false) same ∙ off in
              let is = ap (λ m. get_or (set done p true) m false) same ∙ get_or-set_same done p true false inside in
              let hit : (suc a == p + 1) ≡ true = eq-eqb (suc a) (p + 1) (omega (arith, same)) in
              rw (was, is, hit) refl
          | inr other ↦
              let is = get_or-set_other done p a true false other in
              let miss : (suc a == p + 1) ≡ false = ne_eqb (suc a) (p + 1) (λ e. other (omega (arith, e))) in
              rw (is, miss) (sym (add-zero (one_if (not (get_or done a false)))))
        ]

    one : (b : Bool) (k : ℕ) → one_if (b && is_late done k) ≡ one_if (b && is_late (set done p true) k) + one_if ((k == p + 1) && b)
    one true k = now k ∙ ap (λ m. one_if (is_late (set done p true) k) + m) (same (k == p + 1))
      where
        same : (b : Bool) → one_if b ≡ one_if (b && true)
        same true = refl
        same false = refl
    one false k = none (k == p + 1)
      where
        none : (b : Bool) → 0 ≡ 0 + one_if (b && false)
        none true = refl
        none false = refl

pub after_turn : (spots : List Spot) (ports : ℕ) (done : List Bool) (waiting ready : List ℕ) (turn p : ℕ) (less more : List ℕ)
    → Turned spots ports done waiting ready turn → turn < length ready → p ≡ get_or ready turn 0 → length less ≡ length waiting
    → ((s : ℕ) → s < length waiting → get_or less s 0 + count_at spots s (those (is_from spots (p + 1)) (length spots)) ≡ get_or waiting s 0)
    → AreReady less more → Begins ready more → Turned spots ports (set done p true) less more (turn + 1)
after_turn spots ports done waiting ready turn p less more t h is count fewer r b = record {
  marks = length-set done p true ∙ t.marks;
  counts = count ∙ t.counts;
  waits = λ s lt.
      let now = fewer s (omega (arith, lt, t.counts)) in
      let was = t.waits s lt in
      let two = split spots done p s inside off in
      omega (arith, now, was, two);
  are_ready = r;
  reached = omega (arith, b.longer, h);
  marked = marked;
  has_mark = has_mark;
  forward = forward;
}
  where
    inside : p < length done
    inside = let lt = t.are_ready.small turn h in omega (arith, lt, is, t.counts, t.marks)

    off : get_or done p false ≡ false
    off = ap (λ m. get_or done m false) is ∙ fresh spots ports done waiting ready turn t h

    marked : (s : ℕ) → get_or (set done p true) s false ≡ true → (i : ℕ) × (i < turn + 1) × (get_or more i 0 ≡ s)
    marked s e =
        elim (cases_eq s p) [
          | inl same ↦ (turn, omega arith, b.same turn h ∙ sym is ∙ sym same)
          | inr other ↦
              let m = t.marked s (sym (get_or-set_other done p s true false other) ∙ e) in
              (m.0, omega (arith, m.1), b.same m.0 (omega (arith, m.1, t.reached)) ∙ m.2)
        ]

    has_mark : (i : ℕ) → i < turn + 1 → get_or (set done p true) (get_or more i 0) false ≡ true
    has_mark i lt =
        elim (cases_eq (get_or more i 0) p) [
          | inl same ↦ ap (λ m. get_or (set done p true) m false) same ∙ get_or-set_same done p true false inside
          | inr other ↦ get_or-set_other done p (get_or more i 0) true false other ∙ old other
        ]
      where
        old : get_or more i 0 ≢ p → get_or done (get_or more i 0) false ≡ true
        old other =
            elim (cases_eq i turn) [
              | inl same ↦ absurd (other (ap (λ m. get_or more m 0) same ∙ b.same turn h ∙ sym is))
              | inr earlier ↦
                  ap (λ m. get_or done m false) (b.same i (omega (arith, lt, h))) ∙ t.has_mark i (omega (arith, lt, earlier))
            ]

    forward : (j a : ℕ) → j < turn + 1 → GoesTo spots a (get_or more j 0) → (i : ℕ) × (i < j) × (get_or more i 0 ≡ a)
    forward j a lt g =
        let P : ℕ → Type 0 = λ m. GoesTo spots a m in
        let old = b.same j (omega (arith, lt, h)) in
        let goes = subst P old g in
        elim (cases_eq j turn) [
          | inl same ↦
              let idle = t.are_ready.idle turn h in
              let none = sym (t.waits (get_or ready turn 0) (let lt2 = t.are_ready.small turn h in omega (arith, lt2, t.counts))) ∙ idle in
              let done_a = late_unless spots done (get_or ready turn 0) goes.spot a goes.inside (goes.to ∙ ap (λ m. get_or ready m 0) same) goes.from none in
              let m = t.marked a done_a in
              (m.0, omega (arith, m.1, same), b.same m.0 (omega (arith, m.1, t.reached)) ∙ m.2)
          | inr earlier ↦
              let m = t.forward j a (omega (arith, lt, earlier)) goes in
              (m.0, m.1, b.same m.0 (omega (arith, m.1, lt, h)) ∙ m.2)
        ]

-- ---- the last of those that are ready is taken next
taken : (spots : List Spot) (ports : ℕ) (done : List Bool) (waiting order rest : List ℕ) (p : ℕ) → Turned spots ports done waiting (was order rest p) (length order)
    → Turned spots ports done waiting (is order rest p) (length order)
taken spots ports done waiting order rest p t = record {
  marks = t.marks;
  counts = t.counts;
  waits = t.waits;
  are_ready = ready_taken waiting order rest p t.are_ready;
  reached = let count = count_is order rest p in omega (arith, count);
  marked = λ s e. let m = t.marked s e in (m.0, m.1, front_is order rest p m.0 m.1 ∙ m.2);
  has_mark = λ i h. ap (λ m. get_or done m false) (front_is order rest p i h) ∙ t.has_mark i h;
  forward = λ j a h g.
      let P : ℕ → Type 0 = λ m. GoesTo spots a m in
      let f = t.forward j a h (subst P (front_is order rest p j h) g) in
      (f.0, f.1, front_is order rest p f.0 (omega (arith, f.1, h)) ∙ f.2);
}

-- so many ports are done, in this order, and these are ready
pub record Ordered (spots : List Spot) (ports : ℕ) (done : List Bool) (waiting order ready : List ℕ) (turn : ℕ) : Type 0 where
  pub count : length order ≡ turn
  pub turned : Turned spots ports done waiting (order ++ ready) (length order)

pub none_ordered : (spots : List Spot) (ports : ℕ) (waiting order ready : List ℕ) → order ≡ [] → length waiting ≡ ports
    → ((s : ℕ) → s < ports → get_or waiting s 0 ≡ count_waiting spots (replicate ports false) s) → AreReady waiting ready
    → Ordered spots ports (replicate ports false) waiting order ready 0
none_ordered spots ports waiting order ready none count waits r =
    let P : List ℕ → Type 0 = λ xs. Ordered spots ports (replicate ports false) waiting xs ready 0 in
    subst P (sym none) record { count = refl; turned = no_turn_yet spots ports waiting ready count waits r }

-- what is known of the port that is taken, and of those before and behind it
pub record Taken (spots : List Spot) (ports : ℕ) (done : List Bool) (waiting order rest : List ℕ) (p : ℕ) : Type 0 where
  pub turned : Turned spots ports done waiting (is order rest p) (length order)
  pub inside : length order < length (is order rest p)
  pub here : p ≡ get_or (is order rest p) (length order) 0
  pub small : p < ports
  pub fresh : get_or done p false ≡ false

pub take_last : (spots : List Spot) (ports : ℕ) (done : List Bool) (waiting order ready rest : List ℕ) (p turn : ℕ)
    → ready ≡ rest ++ p ∷ [] → Ordered spots ports done waiting order ready turn → Taken spots ports done waiting order rest p
take_last spots ports done waiting order ready rest p turn same o =
    let count = count_is order rest p in
    let inside : length order < length (is order rest p) = omega (arith, count) in
    let here = sym (taken_is order rest p) in
    let P : List ℕ → Type 0 = λ xs. Turned spots ports done waiting (order ++ xs) (length order) in
    let t = taken spots ports done waiting order rest p (subst P same o.turned) in
    let lt = t.are_ready.small (length order) inside in
    record {
      turned = t;
      inside = inside;
      here = here;
      small = omega (arith, lt, here, t.counts);
      fresh = ap (λ m. get_or done m false) here ∙ fresh spots ports done waiting (is order rest p) (length order) t inside;
    }

pub next_ordered : (spots : List Spot) (ports : ℕ) (done : List Bool) (waiting order ready rest : List ℕ) (p turn : ℕ) (less more : List ℕ)
    → ready ≡ rest ++ p ∷ [] → Ordered spots ports done waiting order ready turn → length less ≡ length waiting
    → ((s : ℕ) → s < length waiting → get_or less s 0 + count_at spots s (those (is_from spots (p + 1)) (length spots)) ≡ get_or waiting s 0)
    → ((before : List ℕ) → AreReady waiting (before ++ rest) → AreReady less (before ++ more)) → Begins rest more
    → Ordered spots ports (set done p true) less (order ++ p ∷ []) more (turn + 1)
next_ordered spots ports done waiting order ready rest p turn less more same o count fewer r b =
    let t = take_last spots ports done waiting order ready rest p turn same o in
    let long = count_more order p in
    let after = after_turn spots ports done waiting (is order rest p) (length order) p less (order ++ p ∷ [] ++ more) t.turned t.inside t.here count fewer
    (r (order ++ p ∷ []) t.turned.are_ready) (begins_behind (order ++ p ∷ []) rest more b) in
    let P : ℕ → Type 0 = λ n. Turned spots ports (set done p true) less (order ++ p ∷ [] ++ more) n in
    record { count = omega (arith, long, o.count); turned = subst P (sym long) after }

-- ---- all turns
pub all_turns : (spots : List Spot) (ports : ℕ) (done : List Bool) (waiting ready : List ℕ) → Turned spots ports done waiting ready ports → IsOrderOf spots ports ready
all_turns spots ports done waiting ready t = record {
  count = count;
  small = λ i h. small i (omega (arith, h, count));
  every = full ready ports record { once = t.are_ready.once } small count;
  once = once;
  forward = λ i j hi hj g. let f = t.forward j (get_or ready i 0) hj g in
      let same = once f.0 i (omega (arith, f.1, hj)) hi f.2 in omega (arith, same, f.1);
}
  where
    small : (i : ℕ) → i < length ready → get_or ready i 0 < ports
    small i h = let lt = t.are_ready.small i h in omega (arith, lt, t.counts)

    count : length ready ≡ ports
    count = let most = few ready ports record { once = t.are_ready.once } small in omega (arith, most, t.reached)

    once : (i j : ℕ) → i < ports → j < ports → get_or ready i 0 ≡ get_or ready j 0 → i ≡ j
    once i j hi hj same =
        elim (cases_eq i j) [
          | inl e ↦ e
          | inr other ↦
              elim (cases_lt i j) [
                | inl l ↦ absurd (t.are_ready.once i j l (omega (arith, hj, count)) same)
                | inr l ↦ absurd (t.are_ready.once j i (omega (arith, l, other)) (omega (arith, hi, count)) (sym same))
              ]
        ]

pub all_ordered : (spots : List Spot) (ports : ℕ) (done : List Bool) (waiting order ready : List ℕ) → Ordered spots ports done waiting order ready ports
    → IsOrderOf spots ports order
all_ordered spots ports done waiting order ready o =
    let P : ℕ → Type 0 = λ n. Turned spots ports done waiting (order ++ ready) n in
    let all = all_turns spots ports done waiting (order ++ ready) (subst P o.count o.turned) in
    let long = length-append order ready in
    let Q : List ℕ → Type 0 = λ xs. IsOrderOf spots ports xs in
    subst Q (none_behind order ready (omega (arith, long, all.count, o.count))) all

-- none is ready
pub none_ready : (spots : List Spot) (ports : ℕ) (done : List Bool) (waiting order ready rest : List ℕ) (turn : ℕ) → ready ≡ rest ++ [] → length rest ≡ 0
    → Ordered spots ports done waiting order ready turn → Turned spots ports done waiting order turn
none_ready spots ports done waiting order ready rest turn same none o =
    let P : List ℕ → Type 0 = λ xs. Turned spots ports done waiting xs turn in
    let Q : ℕ → Type 0 = λ n. Turned spots ports done waiting (order ++ ready) n in
    let long = ap length same ∙ ap length (append-nil rest) in
    subst P (none_behind order ready (omega (arith, long, none))) (subst Q o.count o.turned)
