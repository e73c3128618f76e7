-- What is drawn for each flow.
use Rattle.std.proofs.Common.{◌≡◌, ℕ, zero, suc, ◌+◌, ◌*◌, ◌/◌, ◌%◌, ◌^◌, ◌<◌, ◌≤◌, length, get_or, refl, sym, ap, subst, arith, Bool, true, false}
use Rattle.std.specs.Prelude.{AllPairs, ◌==◌, if◌then◌else◌}
use Rattle.std.proofs.Math.Nat.{mod-lt}
use Rattle.std.proofs.lemmas.List.FromFn.{get_or-map-range_with_len, length-map-range_with_len}
use Rattle.exercise_load.specs.declared.drawn.DrawnFlow.{DrawnFlow}
use Rattle.exercise_load.specs.Bounds.{IsDrawn, AreDrawn}
use Rattle.exercise_load.specs.Draws.{state_after, draw}
use Rattle.exercise_load.specs.Drawn.{hops_of, drawn_from, drawn_flow, drawn_flows}

-- no draw
pub at_first : (x : ℕ) → x ≡ state_after x (5 * 0)
unfolding state_after
at_first x = refl

-- five more draws
pub five_more : (x k : ℕ) → state_after x (5 * (k + 1)) ≡ state_after (state_after x (5 * k)) 5
unfolding state_after
five_more x k =
    let e : 5 * (k + 1) ≡ suc (suc (suc (suc (suc (5 * k))))) = omega arith in
    ap (state_after x) e

below : (x k bound : ℕ) → 0 < bound → draw x k bound < bound
below x k bound h = mod-lt (state_after x (k + 1) / 2 ^ 33) h

hops_within : (seed drawn : ℕ) → drawn < 4 → (1 ≤ hops_of seed drawn) × (hops_of seed drawn ≤ 4)
hops_within seed drawn h = by_value (seed % 2 == 0)
  where
    by_value : (b : Bool) → (1 ≤ (if b then 1 + drawn else 1)) × ((if b then 1 + drawn else 1) ≤ 4)
    by_value true = (omega arith, omega (arith, h))
    by_value false = (omega arith, omega arith)

pub drawn_is : (seed number x : ℕ) → number < 24 → IsDrawn (drawn_from seed number x)
drawn_is seed number x h =
    let first = below x 0 13 (omega arith) in
    let hops = hops_within seed (draw x 1 4) (below x 1 4 (omega arith)) in
    let packet = below x 2 12 (omega arith) in
    record {
      number = h;
      some_hops = hops.0;
      few_hops = hops.1;
      servers = let few = hops.1 in omega arith;
      thousands = draw x 2 12;
      few_thousands = packet;
      packet = refl;
      doublings = draw x 3 3;
      few_doublings = below x 3 3 (omega arith);
      period = refl;
      queue = below x 4 2 (omega arith);
    }

pub bits_within : (f : DrawnFlow) → IsDrawn f → (1000 ≤ f.packet) × (f.packet ≤ 12000)
bits_within f own =
    let few = own.few_thousands in
    let is = own.packet in
    (omega (arith, is), omega (arith, is, few))

pub some_period : (f : DrawnFlow) → IsDrawn f → 0 < f.period
some_period f own = by_doublings own.doublings own.few_doublings own.period
  where
    by_doublings : (d : ℕ) → d < 3 → f.period ≡ 8000 * 2 ^ d → 0 < f.period
    by_doublings zero l e = omega (arith, e)
    by_doublings (suc zero) l e = omega (arith, e)
    by_doublings (suc (suc zero)) l e = omega (arith, e)
    by_doublings (suc (suc (suc d))) l e = absurd (omega (arith, l))

pub flow_is_drawn : (seed i : ℕ) → i < 24 → IsDrawn (drawn_flow seed i)
flow_is_drawn seed i h = drawn_is seed i (state_after seed (5 * i)) h

pub drawn_at : (seed i : ℕ) (d : DrawnFlow) → i < 24 → get_or (drawn_flows seed) i d ≡ drawn_flow seed i
drawn_at seed i d h = get_or-map-range_with_len (drawn_flow seed) 0 24 i i d h (omega arith)

pub many : (seed : ℕ) → length (drawn_flows seed) ≡ 24
many seed = length-map-range_with_len (drawn_flow seed) 0 24

pub all_drawn : (seed : ℕ) → AreDrawn (drawn_flows seed)
all_drawn seed k d l =
    let h : k < 24 = subst (λ n. k < n) (many seed) l in
    subst IsDrawn (sym (drawn_at seed k d h)) (flow_is_drawn seed k h)

-- by their numbers
pub by_number : (seed : ℕ) → AllPairs (λ f g. f.number < g.number) (drawn_flows seed)
by_number seed i j d b l =
    let h : j < 24 = subst (λ n. j < n) (many seed) l in
    let k : i < 24 = omega (arith, b, h) in
    let P = λ (f : DrawnFlow). f.number < (get_or (drawn_flows seed) j d).number in
    let Q = λ (g : DrawnFlow). (drawn_flow seed i).number < g.number in
    subst P (sym (drawn_at seed i d k)) (subst Q (sym (drawn_at seed j d h)) b)
