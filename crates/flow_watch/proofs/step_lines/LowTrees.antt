-- A tree of values: one leaf lowered with all nodes above it, and the least of some leaves.
use Rattle.std.specs.Prelude.{◌≡◌, ◌⊎◌, ℕ, zero, suc, ◌+◌, ◌-◌, ◌<◌, ◌≤◌, ◌/◌, List, length, pos}
use Rattle.std.specs.List.{slice_index_or}
use Rattle.std.proofs.Common.{arith, refl, sym, subst, ap, ◌∙◌, inl, inr}
use Rattle.std.proofs.Math.ListN.{set}
use Rattle.std.proofs.lemmas.List.{get_or_read, get_or-set_same, get_or-set_other}
use Rattle.std.proofs.lemmas.Bool.{cases_lt}
use Rattle.rational.specs.Rational.{ℚ, int, ◌≤ℚ◌}
use Rattle.rational.specs.MinMax.{min_q}
use Rattle.rational.proofs.Laws.{le_refl, le_trans}
use Rattle.rational.proofs.MinMax.{min_q_le_left, min_q_le_right}
use Rattle.flow_watch.specs.step_lines.Lows.{above, node, Covers}

-- ---- one leaf lowered
-- so far: no node rose, and each node above the leaf is lowered or is yet to be
pub record IsLowering (old nodes : List ℚ) (value : ℚ) (leaf at : ℕ) : Type 0 where
  pub fell : (k : ℕ) → node nodes k ≤ℚ node old k
  pub lowered : (rows : ℕ) → (0 < above leaf rows → node nodes (above leaf rows) ≤ℚ value) ⊎ ((more : ℕ) × (above leaf rows ≡ above at more))

pub lowering_none : (nodes : List ℚ) (value : ℚ) (leaf : ℕ) → IsLowering nodes nodes value leaf leaf
lowering_none nodes value leaf = record { fell = λ k. le_refl (node nodes k); lowered = λ rows. inr (rows, refl) }

pub lowering_more : (old nodes : List ℚ) (value had low : ℚ) (leaf at : ℕ) → at < length nodes → had ≡ slice_index_or nodes at had → low ≡ min_q had value → IsLowering old nodes value leaf at
    → IsLowering old (set nodes at low) value leaf (at / 2)
lowering_more old nodes value had low leaf at l is e L =
    let read : had ≡ node nodes at = get_or_read nodes at had l is (int (pos 0)) in
    let here : node (set nodes at low) at ≡ low = get_or-set_same nodes at low (int (pos 0)) l in
    let under : low ≤ℚ value = subst (λ x. x ≤ℚ value) (sym e) (min_q_le_right had value) in
    let same : low ≤ℚ node nodes at = subst (λ x. x ≤ℚ node nodes at) (sym e) (subst (λ x. min_q had value ≤ℚ x) read (min_q_le_left had value)) in
    let fell : (k : ℕ) → node (set nodes at low) k ≤ℚ node nodes k = λ k. elim (cases_lt k at) [
      | inl m ↦ other k (omega arith)
      | inr m ↦ elim (cases_lt at k) [
        | inl n ↦ other k (omega arith)
        | inr n ↦ let f : at ≡ k = omega arith in subst (λ (q : ℕ). node (set nodes at low) q ≤ℚ node nodes q) f (subst (λ x. x ≤ℚ node nodes at) (sym here) same)
      ]
    ] in
    record {
      fell = λ k. le_trans (fell k) (L.fell k);
      lowered = λ rows. elim (L.lowered rows) [
        | inl done ↦ inl (λ some. le_trans (fell (above leaf rows)) (done some))
        | inr (zero, f) ↦ inl (λ some. subst (λ (q : ℕ). node (set nodes at low) q ≤ℚ value) (sym f) (subst (λ x. x ≤ℚ value) (sym here) under))
        | inr (suc more, f) ↦ inr (more, f)
      ];
    }
  where
    other : (k : ℕ) → (k ≡ at → ⊥) → node (set nodes at low) k ≤ℚ node nodes k
    other k n = subst (λ x. x ≤ℚ node nodes k) (sym (get_or-set_other nodes at k low (int (pos 0)) n)) (le_refl (node nodes k))

above_none : (rows : ℕ) → above 0 rows ≡ 0
above_none zero = refl
above_none (suc rows) = above_none rows

pub all_lowered : (old nodes : List ℚ) (value : ℚ) (leaf at : ℕ) → at ≤ 0 → IsLowering old nodes value leaf at → Covers nodes value leaf
all_lowered old nodes value leaf at l L rows some = elim (L.lowered rows) [
  | inl done ↦ done some
  | inr (more, f) ↦
      let none : at ≡ 0 = omega arith in
      let top : above leaf rows ≡ 0 = f ∙ ap (λ (q : ℕ). above q more) none ∙ above_none more in
      absurd (omega arith)
]

pub still_covers : (old nodes : List ℚ) (value v : ℚ) (leaf at k : ℕ) → IsLowering old nodes value leaf at → Covers old v k → Covers nodes v k
still_covers old nodes value v leaf at k L C rows some = le_trans (L.fell (above k rows)) (C rows some)

-- ---- the least of some leaves
-- each leaf is counted in, or some node above it is among those that are left
pub record IsLeastSo (nodes : List ℚ) (low high from upto : ℕ) (least : ℚ) : Type 0 where
  pub some : 0 < from
  pub within : upto ≤ length nodes
  pub counts : (k : ℕ) (v : ℚ) → low ≤ k → k < high → Covers nodes v k → (least ≤ℚ v) ⊎ ((at : ℕ) × (from ≤ at) × (at < upto) × Covers nodes v at)

pub least_none : (nodes : List ℚ) (low high : ℕ) (most : ℚ) → 0 < low → high ≤ length nodes → IsLeastSo nodes low high low high most
least_none nodes low high most s w = record { some = s; within = w; counts = λ k v a b C. inr (k, a, b, C) }

pub least_more : (nodes : List ℚ) (low high from upto last : ℕ) (least a b pair next : ℚ) → from < upto → last ≡ upto - 1 → a ≡ slice_index_or nodes from a → b ≡ slice_index_or nodes last b → pair ≡ min_q a b → next ≡ min_q least pair
    → IsLeastSo nodes low high from upto least → IsLeastSo nodes low high ((from + 1) / 2) (upto / 2) next
least_more nodes low high from upto last least a b pair next l e at_a at_b f g L =
    let positive = L.some in
    let in_range = L.within in
    let first : a ≡ node nodes from = get_or_read nodes from a (omega arith) at_a (int (pos 0)) in
    let second : b ≡ node nodes last = get_or_read nodes last b (omega arith) at_b (int (pos 0)) in
    let kept : next ≤ℚ least = subst (λ x. x ≤ℚ least) (sym g) (min_q_le_left least pair) in
    let both : next ≤ℚ pair = subst (λ x. x ≤ℚ pair) (sym g) (min_q_le_right least pair) in
    let under_a : next ≤ℚ node nodes from = subst (λ x. next ≤ℚ x) first (le_trans both (subst (λ x. x ≤ℚ a) (sym f) (min_q_le_left a b))) in
    let under_b : next ≤ℚ node nodes last = subst (λ x. next ≤ℚ x) second (le_trans both (subst (λ x. x ≤ℚ b) (sym f) (min_q_le_right a b))) in
    record {
      some = omega arith;
      within = omega arith;
      counts = λ k v m n C. elim (L.counts k v m n C) [
        | inl done ↦ inl (le_trans kept done)
        | inr (at, p, q, D) ↦ elim (cases_lt from at) [
          | inr r ↦ let same : at ≡ from = omega arith in inl (le_trans under_a (own v from (subst (Covers nodes v) same D) positive))
          | inl r ↦ elim (cases_lt at last) [
            | inr s ↦ let same : at ≡ last = omega arith in inl (le_trans under_b (own v last (subst (Covers nodes v) same D) (omega arith)))
            | inl s ↦ inr (at / 2, omega arith, omega arith, λ rows. D (suc rows))
          ]
        ]
      ];
    }
  where
    own : (v : ℚ) (at : ℕ) → Covers nodes v at → 0 < at → node nodes at ≤ℚ v
    own v at D some = D 0 some

pub least_is : (nodes : List ℚ) (low high from upto : ℕ) (least : ℚ) → upto ≤ from → IsLeastSo nodes low high from upto least → (k : ℕ) (v : ℚ) → low ≤ k → k < high → Covers nodes v k → least ≤ℚ v
least_is nodes low high from upto least l L k v m n C = elim (L.counts k v m n C) [
  | inl done ↦ done
  | inr (at, p, q, D) ↦ absurd (omega arith)
]
