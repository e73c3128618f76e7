-- The largest bound and the largest delay are what their names say.
use Rattle.std.proofs.Common.{◌≡◌, ℕ, zero, suc, ◌<◌, List, [], ◌∷◌, length, get_or, inl, inr, refl, sym, ap, ◌∙◌, subst, arith}
use Rattle.std.specs.Prelude.{Contains, Option, Some, None, is_some, true}
use Rattle.std.specs.List.{range_with_len}
use Rattle.std.proofs.lemmas.List.FromFn.{get_or-range_with_len, length-range_with_len}
use Rattle.rational.specs.Rational.{ℚ, ◌≤ℚ◌}
use Rattle.rational.specs.Extended.{Ext, ◌≤ₑ◌, max_ext}
use Rattle.rational.specs.MinMax.{max_q}
use Rattle.rational.specs.declared.Extended.TheVariants.{Fin}
use Rattle.rational.proofs.ExtendedOrder.{le_ext_refl, le_ext_trans, max_left, max_right, max_one}
use Rattle.rational.proofs.Laws.{le_refl, le_trans}
use Rattle.rational.proofs.MinMax.{max_q_ge_left, max_q_ge_right, max_q_one}
use Rattle.min_plus.specs.Functions.{zero_q}
use Rattle.net_model.specs.Networks.{Net, NetFlow}
use Rattle.net_cells.specs.Meanings.{Meaning, curve, number, CellTable}
use Rattle.net_cells.specs.Numbered.{flow_at}
use Rattle.net_cells.proofs.Places.{live_inside}
use Rattle.exercise_load.specs.exercise_report.Largest.{number_alone, bound_cell, bound_of, bound_at, bounds, largest_bound, largest_delay}
use Rattle.exercise_load.specs.exercise_report.SummaryLaws.{IsBoundOf, LargestBoundIsOne, LargestDelayIsOne}
use Rattle.exercise_load.proofs.exercise_report.Folds.{Greater, from, each, one}
use Rattle.exercise_load.proofs.Joined.{in_flat, from_flat, Source}

-- ---- delays
of_delays : Greater ℚ ◌≤ℚ◌ max_q
of_delays = record {
  same = le_refl;
  trans = λ x y z h k. le_trans h k;
  left = max_q_ge_left;
  right = max_q_ge_right;
  one = max_q_one;
}

pub largest_delay_is : LargestDelayIsOne
largest_delay_is delays = record {
  from_zero = from ℚ ◌≤ℚ◌ max_q of_delays zero_q delays;
  above = λ x there.
      subst (λ y. y ≤ℚ largest_delay delays) there.2
      (each ℚ ◌≤ℚ◌ max_q of_delays zero_q delays there.0 x there.1);
  reached = one ℚ ◌≤ℚ◌ max_q of_delays zero_q delays;
}

-- what no delay is above, nor 0, the largest is not above
pub delays_below : (delays : List ℚ) (most : Ext) → Fin zero_q ≤ₑ most
    → ((x : ℚ) → Contains delays x → Fin x ≤ₑ most) → Fin (largest_delay delays) ≤ₑ most
delays_below delays most low all = elim (largest_delay_is delays).reached [
  | inl none ↦ subst (λ x. Fin x ≤ₑ most) (sym none) low
  | inr there ↦ all (largest_delay delays) there
]

-- ---- bounds
of_bounds : Greater Ext ◌≤ₑ◌ max_ext
of_bounds = record {
  same = le_ext_refl;
  trans = le_ext_trans;
  left = max_left;
  right = max_right;
  one = max_one;
}

alone : (at : CellTable) (i : ℕ) (x : Ext) (o : Option NetFlow) → is_some o ≡ true
    → at (bound_cell i) ≡ Some (number x) → Contains (bound_of at i o) x
alone at i x None live e = absurd (cc)
alone at i x (Some f) live e = rw e (0, omega arith, refl)

-- the one member of a list
only : (x y : Ext) (k : ℕ) → k < 1 → get_or (x ∷ []) k y ≡ y → x ≡ y
only x y zero l e = e
only x y (suc k) l e = absurd (omega (arith, l))

numbered : (v : Option Meaning) (x : Ext) → Contains (number_alone v) x → v ≡ Some (number x)
numbered None x h = let l = h.1 in absurd (omega arith)
numbered (Some (curve f)) x h = let l = h.1 in absurd (omega arith)
numbered (Some (number y)) x h = ap (λ z. Some (number z)) (only y x h.0 h.1 h.2)

told : (net : Net) (at : CellTable) (i : ℕ) (x : Ext) (o : Option NetFlow) → flow_at net i ≡ o
    → Contains (bound_of at i o) x → IsBoundOf net at i x
told net at i x None e h = let l = h.1 in absurd (omega arith)
told net at i x (Some f) e h = record { live = ap is_some e; is = numbered (at (bound_cell i)) x h }

member : (net : Net) (at : CellTable) (i : ℕ) (x : Ext) → IsBoundOf net at i x → Contains (bounds net at) x
member net at i x b =
    let n = length net.flows in
    let inside : i < n = live_inside net i b.live in
    let long : i < length (range_with_len 0 n) = subst (λ m. i < m) (sym (length-range_with_len 0 n)) inside in
    let place : get_or (range_with_len 0 n) i 0 ≡ i = get_or-range_with_len 0 n i 0 inside ∙ (omega arith) in
    in_flat (bound_at net at) (range_with_len 0 n) i 0 x long
    (subst (λ k. Contains (bound_at net at k) x) (sym place) (alone at i x (flow_at net i) b.live b.is))

-- the flow that a member is the bound of
source : (net : Net) (at : CellTable) (x : Ext) → Source (bound_at net at) (range_with_len 0 (length net.flows)) x
    → (i : ℕ) × IsBoundOf net at i x
source net at x s =
    let i = get_or (range_with_len 0 (length net.flows)) s.place 0 in
    (i, told net at i x (flow_at net i) refl (s.here 0))

pub largest_bound_is : LargestBoundIsOne
largest_bound_is net at = record {
  from_zero = from Ext ◌≤ₑ◌ max_ext of_bounds (Fin zero_q) (bounds net at);
  above = λ i x b.
      let there = member net at i x b in
      subst (λ y. y ≤ₑ largest_bound net at) there.2
      (each Ext ◌≤ₑ◌ max_ext of_bounds (Fin zero_q) (bounds net at) there.0 x there.1);
  reached = elim (one Ext ◌≤ₑ◌ max_ext of_bounds (Fin zero_q) (bounds net at)) [
    | inl none ↦ inl none
    | inr there ↦ inr (source net at (largest_bound net at)
        (from_flat (bound_at net at) (range_with_len 0 (length net.flows)) (largest_bound net at) there))
  ];
}
