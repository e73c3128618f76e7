-- How many spots of each port wait, spot by spot.
use Rattle.std.proofs.Common.{◌≡◌, ℕ, zero, suc, ◌<◌, ◌≤◌, ◌+◌, ◌==◌, ◌&&◌, List, length, get_or, set, take, drop, replicate, refl, sym, ◌∙◌, ap, subst, arith, inl, inr, Bool, true, false, not, get_or-set_same, get_or-set_other, add-one, take-append-drop}
use Rattle.std.specs.List.{count_by}
use Rattle.std.proofs.lemmas.Bool.{cases_eq, cases_lt}
use Rattle.std.proofs.lemmas.List.{length-set, length-replicate, get_or-replicate, get_or_past}
use Rattle.std.proofs.lemmas.List.Sums.{sum_by-append, count_by_more_yes, count_by_more_no}
use Rattle.tree_network.specs.declared.spots.Spot.{Spot}
use Rattle.tree_network.specs.Spots.{spot_at}
use Rattle.tree_network.specs.Lists.{those}
use Rattle.tree_network.specs.Turns.{is_late, waits_at, count_of}
use Rattle.tree_network.proofs.Those.{those_zero, length_more, one_if, eq_true, eq_false}

pub record Waiting (spots : List Spot) (ports n : ℕ) (waiting : List ℕ) : Type 0 where
  pub count : length waiting ≡ ports
  pub each : (s : ℕ) → s < ports → get_or waiting s 0 ≡ length (those (waits_at spots (replicate ports false) s) n)

pub none_waits : (spots : List Spot) (ports : ℕ) (waiting : List ℕ) → waiting ≡ replicate ports 0 → Waiting spots ports 0 waiting
none_waits spots ports waiting e =
    let P : List ℕ → Type 0 = λ xs. Waiting spots ports 0 xs in
    subst P (sym e) record {
      count = length-replicate ports 0;
      each = λ s h. get_or-replicate ports s 0 0 h ∙ sym (ap length (those_zero (waits_at spots (replicate ports false) s)));
    }

-- at first each port is late
late_first : (ports k : ℕ) → 0 < k → is_late (replicate ports false) k ≡ true
late_first ports zero h = absurd (omega arith)
late_first ports (suc a) h =
    elim (cases_lt a ports) [
      | inl l ↦ ap not (get_or-replicate ports a false false l)
      | inr l ↦ let count = length-replicate ports false in ap not (get_or_past (replicate ports false) a false (omega (arith, l, count)))
    ]

none_late : (done : List Bool) (k : ℕ) → k ≤ 0 → is_late done k ≡ false
none_late done zero h = refl
none_late done (suc a) h = absurd (omega arith)

pub one_waits : (spots : List Spot) (ports n : ℕ) (waiting : List ℕ) (v : ℕ) → (spot_at spots n).port < ports → 0 < (spot_at spots n).source
    → v ≡ get_or waiting (spot_at spots n).port 0 → Waiting spots ports n waiting → Waiting spots ports (n + 1) (set waiting (spot_at spots n).port (v + 1))
one_waits spots ports n waiting v inside some is w = record {
  count = length-set waiting p (v + 1) ∙ w.count;
  each = λ s h. each s h ∙ ap (λ m. length (those (waits_at spots (replicate ports false) s) m)) next;
}
  where
    p : ℕ
    p = (spot_at spots n).port

    next : suc n ≡ n + 1
    next = omega arith

    late : is_late (replicate ports false) (spot_at spots n).source ≡ true
    late = late_first ports (spot_at spots n).source some

    each : (s : ℕ) → s < ports → get_or (set waiting (spot_at spots n).port (v + 1)) s 0 ≡ length (those (waits_at spots (replicate ports false) s) (suc n))
    each s h =
        let more = length_more (waits_at spots (replicate ports false) s) n in
        elim (cases_eq s (spot_at spots n).port) [
          | inl same ↦
              let hit = eq_true (spot_at spots n).port s (sym same) in
              let at : one_if (waits_at spots (replicate ports false) s n) ≡ 1 = rw (hit, late) refl in
              let new = ap (λ m. get_or (set waiting (spot_at spots n).port (v + 1)) m 0) same
              ∙ get_or-set_same waiting (spot_at spots n).port (v + 1) 0 (omega (arith, inside, w.count)) in
              let old = ap (λ m. get_or waiting m 0) same in
              let was = w.each s h in
              omega (arith, more, at, new, old, was, is)
          | inr other ↦
              let miss = eq_false (spot_at spots n).port s (λ e. other (sym e)) in
              let at : one_if (waits_at spots (replicate ports false) s n) ≡ 0 = rw miss refl in
              let new = get_or-set_other waiting (spot_at spots n).port s (v + 1) 0 other in
              let was = w.each s h in
              omega (arith, more, at, new, was)
        ]

pub none_more : (spots : List Spot) (ports n : ℕ) (waiting : List ℕ) → (spot_at spots n).source ≤ 0 → Waiting spots ports n waiting → Waiting spots ports (n + 1) waiting
none_more spots ports n waiting none w = record { count = w.count; each = λ s h. rw add-one (each s h) }
  where
    never : (b : Bool) → one_if (b && false) ≡ 0
    never true = refl
    never false = refl

    each : (s : ℕ) → s < ports → get_or waiting s 0 ≡ length (those (waits_at spots (replicate ports false) s) (suc n))
    each s h =
        let more = length_more (waits_at spots (replicate ports false) s) n in
        let off = none_late (replicate ports false) (spot_at spots n).source none in
        let at : one_if (waits_at spots (replicate ports false) s n) ≡ 0 = rw off (never ((spot_at spots n).port == s)) in
        let was = w.each s h in
        omega (arith, more, at, was)

-- ---- those of a list, taken off
pub count_front : (p : ℕ → Bool) (xs : List ℕ) (k : ℕ) → count_by p (take k xs) ≤ count_by p xs
count_front p xs k =
    let whole = ap (count_by p) (sym (take-append-drop k xs)) in
    let parts = sum_by-append (λ x. one_if (p x)) (take k xs) (drop k xs) in
    omega (arith, whole, parts)

pub at_most : (port : ℕ → ℕ) (waiting old : List ℕ) (numbers : List ℕ) (k : ℕ) → k < length numbers
    → let s = port (get_or numbers k 0) in
    get_or waiting s 0 + count_of port s (take k numbers) ≡ get_or old s 0 → count_of port s numbers ≤ get_or old s 0 → 1 ≤ get_or waiting s 0
at_most port waiting old numbers k h e le =
    let s = port (get_or numbers k 0) in
    let more = count_by_more_yes (λ n. port n == s) numbers k 0 h (eq_true s s refl) in
    let front = count_front (λ n. port n == s) numbers (k + 1) in
    omega (arith, e, le, more, front)

pub one_less : (port : ℕ → ℕ) (waiting old : List ℕ) (numbers : List ℕ) (k v s : ℕ) → k < length numbers
    → port (get_or numbers k 0) < length waiting
    → v + 1 ≡ get_or waiting (port (get_or numbers k 0)) 0
    → get_or waiting s 0 + count_of port s (take k numbers) ≡ get_or old s 0
    → get_or (set waiting (port (get_or numbers k 0)) v) s 0 + count_of port s (take (k + 1) numbers) ≡ get_or old s 0
one_less port waiting old numbers k v s h inside is e =
    let p = port (get_or numbers k 0) in
    elim (cases_eq s p) [
      | inl same ↦
          let more = count_by_more_yes (λ n. port n == s) numbers k 0 h (eq_true (port (get_or numbers k 0)) s (sym same)) in
          let new = ap (λ m. get_or (set waiting p v) m 0) same ∙ get_or-set_same waiting p v 0 inside in
          let was = ap (λ m. get_or waiting m 0) same in
          omega (arith, more, new, was, is, e)
      | inr other ↦
          let more = count_by_more_no (λ n. port n == s) numbers k 0 h (eq_false (port (get_or numbers k 0)) s (λ f. other (sym f))) in
          let new = get_or-set_other waiting p s v 0 other in
          omega (arith, more, new, e)
    ]
