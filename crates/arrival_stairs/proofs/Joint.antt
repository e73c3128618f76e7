-- The turns of the first bundles, and of one more.
use Rattle.std.specs.Prelude.{◌≡◌, ℕ, ◌+◌, ◌<◌, ◌≤◌, Bool, true, List, [], All, length, get_or, take}
use Rattle.std.proofs.Common.{arith, sym, ap, subst}
use Rattle.std.specs.List.Sorted.{IsSortedBy}
use Rattle.std.specs.Cmp.{IsStrictWeakOrder}
use Rattle.std.proofs.lemmas.List.{take_all}
use Rattle.std.proofs.lemmas.List.Elements.{All-nil}
use Rattle.std.proofs.lemmas.List.Sorted.{sorted_far}
use Rattle.std.proofs.lemmas.List.Sums.{sum_by_more}
use Rattle.arrival_stairs.specs.Turns.{IsTurn, AreTurnsOf, AreInTurn, AddsBundle, bundle_height, bundles_height, burst_until, rate_until, is_by, is_before, flat_line}
use Rattle.arrival_stairs.specs.declared.stairs.Bundle.{Bundle}
use Rattle.arrival_stairs.specs.declared.turns.Turn.{Turn}
use Rattle.arrival_heights.proofs.Orders.{sooner, sooner_order, in_time}
use Rattle.arrival_stairs.proofs.Turned.{both_turn, on_none, on_by_all}

abbrev pub AreTurnsOfFirst : List Bundle → (i end : ℕ) → List Turn → Type 0
AreTurnsOfFirst bundles i end turns = AreTurnsOf (take i bundles) end turns

pub no_turns : (bundles : List Bundle) (end : ℕ) (turns : List Turn) → turns ≡ [] → AreTurnsOfFirst bundles 0 end turns
no_turns bundles end turns none = subst (λ (ts : List Turn). AreTurnsOf [] end ts) (sym none) record {
  each = All-nil (IsTurn end);
  at = λ p q h l. record {
    line = flat_line 0;
    is = omega arith;
    on = on_by_all (is_by p q) [] (flat_line 0) (All-nil (λ j. is_by p q j ≡ true)) on_none;
    burst_most = omega arith;
    rate_most = omega arith;
  };
  before = λ p q h l. record {
    line = flat_line 0;
    below = omega arith;
    on = on_by_all (is_before p q) [] (flat_line 0) (All-nil (λ j. is_before p q j ≡ true)) on_none;
  };
}

pub one_more_bundle : (bundles : List Bundle) (i end : ℕ) (d b : Bundle) (old new : List Turn) → i < length bundles → b ≡ get_or bundles i d → AddsBundle b end old new
    → AreTurnsOfFirst bundles i end old → AreTurnsOfFirst bundles (i + 1) end new
one_more_bundle bundles i end d b old new inside is adds so_far =
    subst (λ (ts : List Turn). AreTurnsOfFirst bundles (i + 1) end ts) (sym adds.is)
    (both_turn (bundles_height (take i bundles)) (bundle_height b) (bundles_height (take (i + 1) bundles)) _ _ _ _ end _ _ old adds.more
    (λ p q.
    let e = sum_by_more (λ (c : Bundle). bundle_height c p q) bundles i d inside in
    let f = ap (λ (c : Bundle). bundle_height c p q) is in
    omega (arith, e, f))
    (let e = sum_by_more (burst_until end) bundles i d inside in let f = ap (burst_until end) is in omega (arith, e, f))
    (let e = sum_by_more (rate_until end) bundles i d inside in let f = ap (rate_until end) is in omega (arith, e, f)) so_far adds.are)

pub all_bundles : (bundles : List Bundle) (i end : ℕ) (turns : List Turn) → length bundles ≤ i → AreTurnsOfFirst bundles i end turns → AreTurnsOf bundles end turns
all_bundles bundles i end turns done are = subst (λ (bs : List Bundle). AreTurnsOf bs end turns) (take_all i bundles done) are

-- ---- as they are sorted
abbrev pub turn_sooner : Turn → Turn → Bool
turn_sooner x y = sooner x.at y.at

pub turn_order : IsStrictWeakOrder turn_sooner
turn_order = record { one_way = λ x y h. sooner_order.one_way x.at y.at h; chain = λ x y z h l. sooner_order.chain x.at y.at z.at h l }

pub in_turn : (turns : List Turn) (end : ℕ) → All (IsTurn end) turns → IsSortedBy turn_sooner turns → AreInTurn turns
in_turn turns end each sorted = record {
  come = λ i j d h l.
      in_time (get_or turns i d).at (get_or turns j d).at (each i d (omega (arith, h, l))).moment (each j d l).moment
      (sorted_far turn_sooner turn_order turns sorted i j d h l);
}
