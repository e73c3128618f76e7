-- Numbers in order: those below another come first, and what is let in at one of them is found among those.
use Rattle.std.specs.Prelude.{◌≡◌, ℕ, zero, suc, ◌<◌, ◌≤◌, false, true, List, length, get_or}
use Rattle.std.specs.List.{dedup}
use Rattle.std.specs.List.Sorted.{IsSorted, IsStrictlySortedBy}
use Rattle.std.specs.Ordering.{is_lt, ordering_reverse, MatchOrdering}
use Rattle.std.specs.declared.cmp.Ordering.{Ordering}
use Rattle.std.specs.declared.cmp.Ordering.TheVariants.{Less, Equal, Greater}
use Rattle.std.proofs.Common.{◌+◌, arith, inl, inr, refl, sym, subst, ap, ◌∙◌, add-one, true≢false}
use Rattle.std.proofs.lemmas.Bool.{cases_lt}
use Rattle.std.proofs.lemmas.List.Kept.{IsStrictlySortedBy-dedup}
use Rattle.std.proofs.lemmas.Map.Keys.{Less-from_sorted}
use Rattle.rational.specs.Rational.{ℚ, ◌≤ℚ◌, ◌<ℚ◌}
use Rattle.rational.specs.Compared.{same_q}
use Rattle.rational.specs.Ratio.{cmp_q}
use Rattle.rational.proofs.Comparison.{cmp_ranks}
use Rattle.rational.proofs.OrderLaws.{cmp_q_total}
use Rattle.rational.proofs.Laws.{le_refl, le_trans, le_of_lt, le_lt_trans}
use Rattle.rational.proofs.Over.{lt_q_in, lt_q_out}
use Rattle.run_laws.specs.Counts.{before}
use Rattle.flow_watch.specs.declared.step_lines.places.Placed.{Placed}
use Rattle.flow_watch.specs.step_lines.Places.{IsIn}

pub no_less : (x y : ℚ) → is_lt (cmp_q y x) ≡ false → x ≤ℚ y
no_less x y e = go (cmp_q y x) (cmp_ranks y x) e
  where
    go : (o : Ordering) → MatchOrdering o (y <ℚ x) (y ≡ x) (x <ℚ y) → is_lt o ≡ false → x ≤ℚ y
    go Less k f = absurd (true≢false f)
    go Equal k f = subst (λ z. x ≤ℚ z) (sym k) (le_refl x)
    go Greater k f = le_of_lt k

-- sorted ones stay so where each is kept once
pub sorted_once : (xs ys : List ℚ) → IsSorted cmp_q xs → ys ≡ dedup same_q xs → IsSorted cmp_q ys
sorted_once xs ys h e = λ k d low l.
    let strict : IsStrictlySortedBy cmp_q ys = subst (IsStrictlySortedBy cmp_q) (sym e) (IsStrictlySortedBy-dedup cmp_q_total (λ x y. refl) xs h) in
    let less = Less-from_sorted cmp_q ys k (k + 1) d strict (omega arith) l in
    ap is_lt (cmp_q_total.antisymm (get_or ys (k + 1) d) (get_or ys k d) ∙ ap ordering_reverse less)

rises : (ts : List ℚ) → IsSorted cmp_q ts → (i j : ℕ) (d : ℚ) → i ≤ j → j < length ts → get_or ts i d ≤ℚ get_or ts j d
rises ts h i zero d l m = let same : i ≡ 0 = omega arith in subst (λ (k : ℕ). get_or ts k d ≤ℚ get_or ts 0 d) (sym same) (le_refl (get_or ts 0 d))
rises ts h i (suc j) d l m = elim (cases_lt j i) [
  | inl n ↦ let same : suc j ≡ i = omega arith in subst (λ (k : ℕ). get_or ts k d ≤ℚ get_or ts (suc j) d) same (le_refl (get_or ts (suc j) d))
  | inr n ↦ le_trans (rises ts h i j d (omega arith) (omega arith)) (no_less (get_or ts j d) (get_or ts (suc j) d) (rw add-one at (h j d (omega arith) (omega arith))))
]

-- a test that holds up to some place
pub parted : (ts : List ℚ) (u : ℚ) → IsSorted cmp_q ts → (i j : ℕ) (d : ℚ) → i ≤ j → j < length ts → before u (get_or ts j d) ≡ true → before u (get_or ts i d) ≡ true
parted ts u h i j d k l e = lt_q_out (get_or ts i d) u (le_lt_trans (rises ts h i j d k l) (lt_q_in (get_or ts j d) u e))

pub is_among : (parts nodes : List ℚ) (over : ℚ) (count : ℕ) (a : Placed) → ((i : ℕ) (d : ℚ) → count ≤ i → i < length parts → before over (get_or parts i d) ≡ false) → (I : IsIn parts nodes a) → a.before <ℚ over → I.at < count
is_among parts nodes over count a late I less = elim (cases_lt I.at count) [
  | inl l ↦ l
  | inr l ↦ absurd (true≢false (sym (subst (λ x. before over x ≡ true) (sym I.is) (lt_q_out a.before over less)) ∙ late I.at a.before l I.in_range))
]
