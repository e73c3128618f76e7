-- A network has an order or a cycle: at each turn the least ready server, or else those that wait for one another.
use Rattle.std.proofs.Common.{◌≡◌, ℕ, zero, suc, ◌<◌, ◌≤◌, ◌+◌, ◌-◌, List, [], ◌∷◌, ◌++◌, length, get_or, take, drop, reverse, refl, sym, ◌∙◌, subst, arith, inl, inr, ◌⊎◌, Some, None, Bool, true, false, nat_eq}
use Rattle.std.specs.Prelude.{Option, Contains, MatchOption, slice_get, All}
use Rattle.std.specs.List.{list_any}
use Rattle.std.proofs.lemmas.Bool.{cases_lt}
use Rattle.std.proofs.lemmas.Cmp.{nat_eq_equiv}
use Rattle.std.proofs.lemmas.List.{length_push, get_or_default, get_or_past}
use Rattle.std.proofs.lemmas.Map.Views.{list_any-from_Contains}
use Rattle.std.proofs.lemmas.Option.{slice_get-get_or}
use Rattle.upp_limits.specs.Windows.{IsLeast}
use Rattle.net_model.specs.Networks.{Net}
use Rattle.net_model.specs.Accepted.{IsAccepted}
use Rattle.net_model.specs.Walks.{IsNext, IsCycle}
use Rattle.net_model.specs.Orders.{IsReady, IsOrder}
use Rattle.net_model.specs.net_graph.Waits.{list_at, AreBusy, IsPlaced, IsFree, EndsFree}
use Rattle.net_model.specs.net_graph.Loops.{IsAwaited, IsFirstAwaited, AreFirsts, IsLoopBack, IsLeastPlace}
use Rattle.net_model.proofs.net_graph.Members.{member, is_member, place_of, at_place}
use Rattle.net_model.proofs.net_graph.Returns.{first_in_range, next_in_range}
use Rattle.net_model.proofs.net_graph.Deciding.{IsTested, least_below, collected, collected_in, collected_out, table, table_length, table_at, next_or_not}
use Rattle.net_model.proofs.net_graph.Losses.{not_both}
use Rattle.net_model.proofs.net_graph.LoopBacks.{Walked, no_server_yet, goes_on, leaves_room, comes_back, ring_of}
use Rattle.net_model.proofs.net_graph.Turns.{Turned, one_place_more, some_is_free, placed_unless, free_unless, trap_of, ring_of_firsts, cycle_of_ring}

-- a server that has no place yet is right before another
abbrev Holds : Net → List ℕ → ℕ → ℕ → Type 0
Holds net xs b a = IsNext net a b × ¬ (Contains xs a)

holds_or_not : (net : Net) (xs : List ℕ) (b : ℕ) → IsTested (Holds net xs b)
holds_or_not net xs b a = elim (next_or_not net.flows a b) [
  | inl n ↦ elim (member xs a) [ inl c ↦ inr (λ w. w.1 c) | inr off ↦ inl (n, off) ]
  | inr off ↦ inr (λ w. off w.0)
]

-- ---- a server is ready, has a place, or waits for one without
data Sort (net : Net) (xs : List ℕ) (s : ℕ) : Type 0 where
  ready : IsReady net xs s → Sort net xs s
  placed : Contains xs s → Sort net xs s
  waiting : (a : ℕ) → Holds net xs s a → Sort net xs s

sort : (net : Net) → IsAccepted net → (xs : List ℕ) (s : ℕ) → s < length net.servers → Sort net xs s
sort net kept xs s l = elim (member xs s) [
  | inl c ↦ placed c
  | inr free ↦ elim (least_below (Holds net xs s) (holds_or_not net xs s) (length net.servers)) [
    | inl f ↦ waiting f.0 f.2.meets
    | inr none ↦ ready record {
      in_range = l;
      free = free;
      waits_for_none = λ b step. elim (member xs b) [ inl c ↦ c | inr off ↦ absurd (none b (first_in_range net b s kept step) (step, off)) ];
    }
  ]
]

ready_or_not : (net : Net) → IsAccepted net → (xs : List ℕ) → IsTested (IsReady net xs)
ready_or_not net kept xs s = elim (cases_lt s (length net.servers)) [
  | inl l ↦ by_sort (sort net kept xs s l)
  | inr l ↦ inr (λ r. let h = r.in_range in omega (arith, l, h))
]
  where
    by_sort : Sort net xs s → IsReady net xs s ⊎ ¬ (IsReady net xs s)
    by_sort (ready r) = inl r
    by_sort (placed c) = inr (λ r. r.free c)
    by_sort (waiting a w) = inr (λ r. w.1 (r.waits_for_none a w.0))

-- ---- turns
record IsStuck (net : Net) (xs : List ℕ) : Type 0 where
  each : (place : ℕ) → place < length xs → IsLeast (IsReady net (take place xs)) (get_or xs place 0)
  few : length xs < length net.servers
  none : (s : ℕ) → s < length net.servers → ¬ (IsReady net xs s)

turns : (net : Net) → IsAccepted net → (k : ℕ) (xs : List ℕ)
    → ((place : ℕ) → place < length xs → IsLeast (IsReady net (take place xs)) (get_or xs place 0)) → length xs + k ≡ length net.servers
    → ((ys : List ℕ) × IsOrder net ys) ⊎ ((ys : List ℕ) × IsStuck net ys)
turns net kept zero xs each e = inl (xs, record { all = omega (arith, e); each = each })
turns net kept (suc k) xs each e = elim (least_below (IsReady net xs) (ready_or_not net kept xs) (length net.servers)) [
  | inl f ↦
      let more = length_push xs f.0 in
      turns net kept k (xs ++ f.0 ∷ []) (one_place_more net xs f.0 each f.2) (omega (arith, e, more))
  | inr none ↦ inr (xs, record { each = each; few = omega (arith, e); none = none })
]

-- ---- marks and lists of a network that is stuck
last_in : (ys : List ℕ) (y : ℕ) → Contains ys y → (l : ℕ) × (slice_get ys (length ys - 1) ≡ Some l) × Contains ys l
last_in ys y c =
    let k = length ys - 1 in
    let h : k < length ys = let b = c.1 in omega (arith, b) in
    (get_or ys k 0, slice_get-get_or ys k 0 h, at_place ys k (get_or ys k 0) h refl)

module _ (net : Net) (kept : IsAccepted net) (xs : List ℕ) (stuck : IsStuck net xs) where
  abbrev n : ℕ
  n = length net.servers

  placed_in : List Bool
  placed_in = table (λ s. list_any (nat_eq s) xs) n

  lists_in : List (List ℕ)
  lists_in = table (λ b. collected (Holds net xs b) (holds_or_not net xs b) n) n

  known : (s : ℕ) → Contains xs s → s < n
  known s c =
      let at = place_of xs s c in
      let P : ℕ → Type 0 = λ q. q < length net.servers in
      subst P at.is (stuck.each at.place at.within).meets.in_range

  marked : (s : ℕ) → IsPlaced placed_in s → Contains xs s
  unfolding placed_in
  marked s p = elim (cases_lt s n) [
    | inl l ↦ is_member xs s (sym (table_at (λ q. list_any (nat_eq q) xs) n s false l) ∙ p)
    | inr l ↦
        let e : false ≡ true = sym (get_or_past (table (λ q. list_any (nat_eq q) xs) n) s false (let h = table_length (λ q. list_any (nat_eq q) xs) n in omega (arith, l, h))) ∙ p in
        absurd cc
  ]

  has_mark : (s : ℕ) → Contains xs s → IsPlaced placed_in s
  unfolding placed_in
  has_mark s c = table_at (λ q. list_any (nat_eq q) xs) n s false (known s c) ∙ list_any-from_Contains nat_eq_equiv s xs c

  list_is : (b : ℕ) → b < n → list_at lists_in b ≡ collected (Holds net xs b) (holds_or_not net xs b) n
  unfolding lists_in
  list_is b l = table_at (λ q. collected (Holds net xs q) (holds_or_not net xs q) n) n b [] l

  listed : (a b : ℕ) → b < n → Holds net xs b a → Contains (list_at lists_in b) a
  listed a b l w =
      let P : List ℕ → Type 0 = λ ys. Contains ys a in
      subst P (sym (list_is b l)) (collected_in (Holds net xs b) (holds_or_not net xs b) n a (first_in_range net a b kept w.0) w)

  holds : (a b : ℕ) → Contains (list_at lists_in b) a → Holds net xs b a
  unfolding lists_in
  holds a b c = elim (cases_lt b n) [
    | inl l ↦ let P : List ℕ → Type 0 = λ ys. Contains ys a in collected_out (Holds net xs b) (holds_or_not net xs b) n a (subst P (list_is b l) c)
    | inr l ↦
        let f : ℕ → List ℕ = λ q. collected (Holds net xs q) (holds_or_not net xs q) n in
        let long = table_length f n in
        let P : List ℕ → Type 0 = λ ys. Contains ys a in
        let none = subst P (get_or_past (table f n) b [] (omega (arith, l, long))) c in
        absurd (omega (arith, none.1))
  ]

  turned : Turned net lists_in placed_in xs
  unfolding placed_in lists_in
  turned = record {
    count = table_length (λ b. collected (Holds net xs b) (holds_or_not net xs b) n) n;
    marks = table_length (λ s. list_any (nat_eq s) xs) n;
    only = λ a b c. (holds a b c).0;
    waits = λ a b step. elim (member xs a) [ inl c ↦ inr c | inr off ↦ inl (listed a b (next_in_range net a b kept step) (step, off)) ];
    marked = marked;
    has_mark = has_mark;
    each = stuck.each;
  }

  -- a server without a place
  unplaced : (s : ℕ) → ¬ (Contains xs s) → s < n → IsFree placed_in s
  unfolding placed_in
  unplaced s off l =
      let long = table_length (λ q. list_any (nat_eq q) xs) n in
      free_unless placed_in s (omega (arith, l, long)) (λ p. off (marked s p))

  busy_at : (s : ℕ) → IsFree placed_in s → Sort net xs s → s < n → EndsFree placed_in (list_at lists_in s)
  busy_at s free (ready r) l = absurd (stuck.none s l r)
  busy_at s free (placed c) l = absurd (not_both placed_in s (has_mark s c) free)
  busy_at s free (waiting a w) l =
      let last = last_in (list_at lists_in s) a (listed a s l w) in
      let h = holds last.0 s last.2 in
      record { last = last.0; is = last.1; free = unplaced last.0 h.1 (first_in_range net last.0 s kept h.0) }

  busy : AreBusy placed_in lists_in (length placed_in)
  unfolding placed_in
  busy s l free =
      let long = table_length (λ q. list_any (nat_eq q) xs) n in
      let h : s < length net.servers = omega (arith, l, long) in
      busy_at s free (sort net kept xs s h) h

  -- ---- the first that each waits for
  awaited_or_not : (b : ℕ) → IsTested (IsAwaited placed_in lists_in b)
  awaited_or_not b a = elim (member (list_at lists_in b) a) [
    | inl c ↦ let h = holds a b c in inl record { listed = c; free = unplaced a h.1 (first_in_range net a b kept h.0) }
    | inr off ↦ inr (λ w. off w.listed)
  ]

  first_found : (b : ℕ) → ((i : ℕ) × (i < n) × IsLeast (IsAwaited placed_in lists_in b) i) ⊎ ((i : ℕ) → i < n → ¬ (IsAwaited placed_in lists_in b i)) → Option ℕ
  first_found b (inl f) = Some f.0
  first_found b (inr none) = None

  first : ℕ → Option ℕ
  first b = first_found b (least_below (IsAwaited placed_in lists_in b) (awaited_or_not b) n)

  firsts : List (Option ℕ)
  firsts = table first n

  is_first : (b : ℕ) → MatchOption (first b) ((a : ℕ) → ¬ (IsAwaited placed_in lists_in b a)) (λ a. IsFirstAwaited placed_in lists_in a b)
  unfolding first first_found
  is_first b = by_search (least_below (IsAwaited placed_in lists_in b) (awaited_or_not b) n)
    where
      by_search : (r : ((i : ℕ) × (i < n) × IsLeast (IsAwaited placed_in lists_in b) i) ⊎ ((i : ℕ) → i < n → ¬ (IsAwaited placed_in lists_in b i)))
          → MatchOption (first_found b r) ((a : ℕ) → ¬ (IsAwaited placed_in lists_in b a)) (λ a. IsFirstAwaited placed_in lists_in a b)
      by_search (inl f) = f.2
      by_search (inr none) = λ a w. none a (first_in_range net a b kept (holds a b w.listed).0) w

  are_firsts : AreFirsts placed_in lists_in firsts
  unfolding firsts
  are_firsts b l =
      let P : Option ℕ → Type 0 = λ o. MatchOption o ((a : ℕ) → ¬ (IsAwaited placed_in lists_in b a)) (λ a. IsFirstAwaited placed_in lists_in a b) in
      let long = table_length first n in
      subst P (sym (table_at first n b None (omega (arith, l, long)))) (is_first b)

  -- ---- back from the first server without a place
  walk_back : (start k : ℕ) (seen : List ℕ) (at : ℕ) → Walked firsts start seen at → length firsts ≤ length seen + k
      → (servers : List ℕ) × IsLoopBack firsts start servers
  walk_back start zero seen at w few = elim (member seen at) [
    | inl c ↦ let p = place_of seen at c in (drop p.place seen, comes_back firsts start seen at p.place w p.within p.is)
    | inr new ↦ let room = leaves_room firsts start seen at w new in absurd (omega (arith, room, few))
  ]
  walk_back start (suc k) seen at w few = elim (member seen at) [
    | inl c ↦ let p = place_of seen at c in (drop p.place seen, comes_back firsts start seen at p.place w p.within p.is)
    | inr new ↦
        let f = w.goes at w.here in
        let more = length_push seen at in
        walk_back start k (seen ++ at ∷ []) f.first (goes_on firsts start seen at f.first w new f.is) (omega (arith, few, more))
  ]

  least_place : (servers : List ℕ) → 0 < length servers → (place : ℕ) × IsLeastPlace servers place
  least_place servers some = elim (least_below (λ s. Contains servers s) (member servers) (suc (get_or servers 0 0))) [
    | inl f ↦
        let p = place_of servers f.0 f.2.meets in
        let least = f.2.least in
        let P : ℕ → Type 0 = λ m. All (λ s. m ≤ s) servers in
        let all : All (λ s. f.0 ≤ s) servers = λ k d h. elim (cases_lt (get_or servers k d) f.0) [
          | inl less ↦ absurd (least (get_or servers k d) less (k, h, get_or_default servers k _ d h))
          | inr off ↦ omega (arith, off)
        ] in
        (p.place, record { within = p.within; least = subst P (sym p.is) all })
    | inr none ↦ absurd (none (get_or servers 0 0) (omega arith) (at_place servers 0 (get_or servers 0 0) some refl))
  ]

  free_or_not : IsTested (IsFree placed_in)
  free_or_not s = by_value (get_or placed_in s true) refl
    where
      by_value : (v : Bool) → get_or placed_in s true ≡ v → IsFree placed_in s ⊎ ¬ (IsFree placed_in s)
      by_value false e = inl e
      by_value true e = inr (λ f. let bad : true ≡ false = sym e ∙ f in cc)

  from_start : (start : ℕ) → IsLeast (IsFree placed_in) start → (walk : List ℕ) × IsCycle net walk
  unfolding firsts placed_in
  from_start start least =
      let same : length firsts ≡ length placed_in = table_length first n ∙ sym (table_length (λ q. list_any (nat_eq q) xs) n) in
      let trap = trap_of lists_in placed_in firsts start same are_firsts busy least.meets in
      let back = walk_back start (length firsts) [] start (no_server_yet firsts start trap) (omega arith) in
      let p = least_place back.0 back.1.some in
      let walk = reverse (drop p.0 back.0 ++ take (p.0 + 1) back.0) in
      let ring = ring_of firsts start back.0 walk back.1 record { place = p.0; least = p.1; is = refl } in
      (walk, cycle_of_ring net lists_in placed_in xs walk kept turned busy (ring_of_firsts placed_in lists_in firsts start walk are_firsts least ring))

  goes_round : (walk : List ℕ) × IsCycle net walk
  goes_round = elim (least_below (IsFree placed_in) free_or_not (length placed_in)) [
    | inl f ↦ from_start f.0 f.2
    | inr none ↦ absurd (some_is_free net lists_in placed_in xs turned stuck.few (λ s h. placed_unless placed_in s h (none s h)))
  ]

pub order_or_round : (net : Net) → IsAccepted net → ((xs : List ℕ) × IsOrder net xs) ⊎ ((walk : List ℕ) × IsCycle net walk)
order_or_round net kept = elim (turns net kept (length net.servers) [] (λ place h. absurd (omega (arith, h))) (omega arith)) [
  | inl o ↦ inl o
  | inr s ↦ inr (goes_round net kept s.0 s.1)
]
