-- The stairs of links, and those that a port passes on.
use Rattle.std.proofs.Common.{◌≡◌, ◌≢◌, ℕ, ◌<◌, ◌≤◌, ◌+◌, ◌*◌, ◌^◌, Bool, true, false, Option, Some, None, List, [], ◌∷◌, ◌++◌, inl, inr, length, get_or, set, nat_lt, if◌then◌else◌, refl, sym, ◌∙◌, ap, subst, arith, length-append, get_or-set_same, get_or-set_other}
use Rattle.std.specs.Prelude.{slice_get, IfSome}
use Rattle.std.proofs.lemmas.Bool.{cases_eq, cases_lt}
use Rattle.std.proofs.lemmas.Bool.Decides.{nat_tests}
use Rattle.std.proofs.lemmas.List.{get_or_append_left, get_or_at, get_or_past, length-set}
use Rattle.arrival_stairs.specs.declared.stairs.Stair.{Stair}
use Rattle.arrival_lines.specs.declared.grid.Queue.{Queue}
use Rattle.arrival_stairs.specs.Stairs.{IsStair}
use Rattle.tree_network.specs.Networks.{longest_frame}
use Rattle.tree_network.specs.declared.network.Link.{Link}
use Rattle.tree_network.specs.declared.network.Network.{Network}
use Rattle.tree_network.specs.declared.spots.Spot.{Spot}
use Rattle.tree_network.specs.Spots.{spot_at}
use Rattle.tree_bounds.specs.Solved.{AreAllStairs}
use Rattle.tree_bounds.specs.Stairs.{stair_within, first_stair, first_stair_of, later_stair}
use Rattle.tree_bounds.specs.Onward.{stair_in, BeginStairs, CanBePassedOn, ArePassedOn}

-- ---- in range
test_yes : (a b : ℕ) → a < b → nat_lt a b ≡ true
test_yes a b h = grind (arith, nat_tests)

test_no : (a b : ℕ) → b ≤ a → nat_lt a b ≡ false
test_no a b h = grind (arith, nat_tests)

below_of_test : (a b : ℕ) → nat_lt a b ≡ true → a < b
below_of_test a b e = grind (arith, nat_tests)

pub within_short : (stair : Stair) → stair.jitter < 2 ^ 62 → Some stair ≡ stair_within stair.frame stair.gap stair.jitter
within_short stair h = let x = test_yes stair.jitter (2 ^ 62) h in rw x refl

pub none_within : (frame gap jitter : ℕ) → 2 ^ 62 ≤ jitter → None ≡ stair_within frame gap jitter
none_within frame gap jitter h = let x = test_no jitter (2 ^ 62) h in rw x refl

pub within_range : (frame gap jitter : ℕ) (stair : Stair) → frame < 2 ^ 35 → 0 < gap → stair_within frame gap jitter ≡ Some stair → IsStair stair
within_range frame gap jitter stair f g e = by_test (nat_lt jitter (2 ^ 62)) refl e
  where
    by_test : (b : Bool) → nat_lt jitter (2 ^ 62) ≡ b → (if b then Some record { frame = frame; gap = gap; jitter = jitter } else None) ≡ Some stair → IsStair stair
    by_test true t h =
        let same : record { frame = frame; gap = gap; jitter = jitter } ≡ stair = cc in
        subst (λ (w : Stair). IsStair w) same record { frame = f; some_gap = g; jitter = below_of_test jitter (2 ^ 62) t }
    by_test false t h = absurd (cc)

pub later_range : (stair : Option Stair) (row : Option Queue) (later : Stair) → ((s : Stair) → stair ≡ Some s → IsStair s) → later_stair stair row ≡ Some later → IsStair later
later_range None row later h e = absurd (let f : None ≡ Some later = e in cc)
later_range (Some s) None later h e = absurd (let f : None ≡ Some later = e in cc)
later_range (Some s) (Some queue) later h e =
    let is = h s refl in
    within_range s.frame s.gap (s.jitter + queue.delay) later is.frame is.some_gap e

pub first_range : (link : Link) → link.frame ≤ longest_frame → 1 ≤ link.gap → IfSome (first_stair link) (λ s. IsStair s)
unfolding longest_frame
first_range link f g = by_stair (first_stair link) refl
  where
    by_stair : (o : Option Stair) → first_stair link ≡ o → IfSome o (λ s. IsStair s)
    by_stair None e = tt
    by_stair (Some s) e = within_range (link.frame * 1024) link.gap link.jitter s (omega (arith, f)) (omega (arith, g)) e

pub if_range : (o : Option Stair) → IfSome o (λ s. IsStair s) → (s : Stair) → o ≡ Some s → IsStair s
if_range None h s e = absurd (cc)
if_range (Some t) h s e = let same : t ≡ s = cc in subst (λ (w : Stair). IsStair w) same h

pub no_range : AreAllStairs []
no_range = record { each = λ n s e. absurd (let f : None ≡ Some s = e in cc) }

-- one more
pub range_more : (stairs : List (Option Stair)) (stair : Option Stair) → ((s : Stair) → stair ≡ Some s → IsStair s) → AreAllStairs stairs → AreAllStairs (stairs ++ stair ∷ [])
range_more stairs stair is all = record {
  each = λ n s e. elim (cases_lt n (length stairs)) [
    | inl l ↦ all.each n s (sym (get_or_append_left stairs (stair ∷ []) None n l) ∙ e)
    | inr l ↦ elim (cases_eq n (length stairs)) [
      | inl last ↦ is s (sym (get_or_at stairs stair [] None n (sym last)) ∙ e)
      | inr past ↦
          let long = length-append stairs (stair ∷ []) in
          let none : None ≡ Some s = sym (get_or_past (stairs ++ stair ∷ []) n None (omega (arith, l, past, long))) ∙ e in
          absurd (cc)
    ]
  ];
}

-- ---- where links begin
pub begin_more : (net : Network) (spots : List Spot) (n : ℕ) (stairs : List (Option Stair)) (stair : Option Stair)
    → ((spot_at spots n).source ≡ 0 → stair ≡ first_stair_of (slice_get net.links.items (spot_at spots n).link)) → BeginStairs net spots n stairs
    → BeginStairs net spots (n + 1) (stairs ++ stair ∷ [])
begin_more net spots n stairs stair is b = record {
  count = length-append stairs (stair ∷ []) ∙ ap (λ k. k + 1) b.count;
  begins = begins;
}
  where
    begins : (k : ℕ) → k < n + 1 → (spot_at spots k).source ≡ 0 → stair_in (stairs ++ stair ∷ []) k ≡ first_stair_of (slice_get net.links.items (spot_at spots k).link)
    begins k h e =
        elim (cases_lt k n) [
          | inl l ↦ get_or_append_left stairs (stair ∷ []) None k (omega (arith, l, b.count)) ∙ b.begins k l e
          | inr l ↦
              let last : n ≡ k = omega (arith, l, h) in
              let P : ℕ → Type 0 = λ m. stair ≡ first_stair_of (slice_get net.links.items (spot_at spots m).link) in
              get_or_at stairs stair [] None k (b.count ∙ last) ∙ subst P last (is (ap (λ m. (spot_at spots m).source) last ∙ e))
        ]

-- ---- one spot more is passed on
pub none_passed : (spots : List Spot) (numbers : List ℕ) (rows : List (Option Queue)) (stairs : List (Option Stair)) → ArePassedOn spots numbers rows 0 stairs stairs
none_passed spots numbers rows stairs = record {
  count = refl;
  others = λ n h. refl;
  passed = λ i h. absurd (omega (arith, h));
}

pub one_passed : (spots : List Spot) (numbers : List ℕ) (rows : List (Option Queue)) (queues k : ℕ) (old now : List (Option Stair)) (stair : Option Stair)
    → CanBePassedOn spots numbers queues (length old) → k < length numbers
    → stair ≡ later_stair (stair_in now (spot_at spots (get_or numbers k 0)).from) (get_or rows (spot_at spots (spot_at spots (get_or numbers k 0)).from).queue None)
    → ArePassedOn spots numbers rows k old now → ArePassedOn spots numbers rows (k + 1) old (set now (get_or numbers k 0) stair)
one_passed spots numbers rows queues k old now stair can h is a = record {
  count = length-set now n stair ∙ a.count;
  others = others;
  passed = passed;
}
  where
    n : ℕ
    n = get_or numbers k 0

    inside : get_or numbers k 0 < length now
    inside = let lt = can.inside k h in omega (arith, lt, a.count)

    -- the spot before is none of them, and has the stair that it had
    before : (i : ℕ) → i < length numbers → stair_in now (spot_at spots (get_or numbers i 0)).from ≡ stair_in old (spot_at spots (get_or numbers i 0)).from
    before i hi = a.others (spot_at spots (get_or numbers i 0)).from (λ j hj same. can.apart i j hi (omega (arith, hj, h)) same)

    others : (m : ℕ) → ((i : ℕ) → i < k + 1 → get_or numbers i 0 ≡ m → ⊥) → stair_in (set now (get_or numbers k 0) stair) m ≡ stair_in old m
    others m none =
        get_or-set_other now (get_or numbers k 0) m stair None (λ same. none k (omega arith) (sym same))
        ∙ a.others m (λ i hi same. none i (omega (arith, hi)) same)

    passed : (i : ℕ) → i < k + 1 → stair_in (set now (get_or numbers k 0) stair) (get_or numbers i 0)
        ≡ later_stair (stair_in old (spot_at spots (get_or numbers i 0)).from) (get_or rows (spot_at spots (spot_at spots (get_or numbers i 0)).from).queue None)
    passed i hi =
        elim (cases_eq (get_or numbers i 0) (get_or numbers k 0)) [
          | inl same ↦
              let P : ℕ → Type 0 = λ m. stair_in (set now (get_or numbers k 0) stair) m
              ≡ later_stair (stair_in old (spot_at spots m).from) (get_or rows (spot_at spots (spot_at spots m).from).queue None) in
              subst P (sym same) (get_or-set_same now (get_or numbers k 0) stair None inside ∙ is
              ∙ ap (λ l. later_stair l (get_or rows (spot_at spots (spot_at spots (get_or numbers k 0)).from).queue None)) (before k h))
          | inr other ↦
              let early : i < k = by_place i hi other in
              get_or-set_other now (get_or numbers k 0) (get_or numbers i 0) stair None other ∙ a.passed i early
        ]
      where
        by_place : (i : ℕ) → i < k + 1 → get_or numbers i 0 ≢ get_or numbers k 0 → i < k
        by_place i hi other =
            elim (cases_eq i k) [
              | inl same ↦ absurd (other (ap (λ j. get_or numbers j 0) same))
              | inr less ↦ omega (arith, hi, less)
            ]
