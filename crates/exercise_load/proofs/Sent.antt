-- The packets of a workload's trace.
use Rattle.std.proofs.Common.{◌≡◌, ℕ, ◌+◌, ◌*◌, ◌/◌, ◌%◌, ◌^◌, ◌<◌, ◌≤◌, List, [], length, get_or, map, inl, inr, refl, sym, ap, ◌∙◌, subst, arith, eqb-true, eq-eqb}
use Rattle.std.specs.Prelude.{AllPairs, Contains, true}
use Rattle.std.specs.List.{filter, flat_map, range_with_len}
use Rattle.std.proofs.Math.Nat.{mul-mod_left}
use Rattle.std.proofs.lemmas.Nat.{div-add-mod'}
use Rattle.std.proofs.lemmas.List.{length-map}
use Rattle.std.proofs.lemmas.List.FromFn.{get_or-range_with_len, length-range_with_len}
use Rattle.std.proofs.lemmas.List.Kept.{AllPairs-filter}
use Rattle.rational.specs.Rational.{◌≤ℚ◌, ◌<ℚ◌}
use Rattle.rational.proofs.Integers.{nat_nonneg, nat_lt}
use Rattle.rational.proofs.Laws.{le_refl, le_of_lt}
use Rattle.net_model.specs.declared.trace.TracePacket.{TracePacket}
use Rattle.net_model.specs.declared.trace.Stall.{Stall}
use Rattle.net_model.specs.Traces as made
use Rattle.net_model.specs.Traces.{IsTrace, IsTracePacket}
use Rattle.net_model.proofs.Short.{all_of}
use Rattle.exercise_load.specs.declared.drawn.DrawnFlow.{DrawnFlow}
use Rattle.exercise_load.specs.Drawn.{drawn_flow, drawn_flows}
use Rattle.exercise_load.specs.Workloads.{whole, is_sending, packet_at, packets_in_turn, trace_of}
use Rattle.exercise_load.specs.WorkloadLaws.{IsSent, ComesBefore, TracesHoldWhatIsSent}
use Rattle.exercise_load.proofs.DrawnAre.{bits_within, flow_is_drawn, drawn_at, many, by_number}
use Rattle.exercise_load.proofs.Joined.{at_place, in_flat, from_flat, short_flat, in_map, from_map, pairs_map, in_filter, from_filter, short_filter, pairs_flat}

-- ---- each packet that is sent is there
-- a time that is a whole number of periods is one of the 128 times
turn : (d n : ℕ) → n * (8000 * 2 ^ d) ≡ 8000 * (n * 2 ^ d)
turn d n = omega arith

member : (seed : ℕ) (p : TracePacket) → IsSent seed p → Contains (trace_of seed).packets p
unfolding trace_of
member seed p s =
    let f = drawn_flow seed s.flow in
    let own = flow_is_drawn seed s.flow s.one in
    let k = s.periods * 2 ^ own.doublings in
    let time : s.periods * f.period ≡ 8000 * k = ap (λ t. s.periods * t) own.period ∙ turn own.doublings s.periods in
    let before : k < 128 = let b = s.before in omega (arith, time) in
    let sends : is_sending (8000 * k) f ≡ true =
    subst (λ t. is_sending t f ≡ true) time (eq-eqb _ _ (mul-mod_left s.periods f.period)) in
    let there : Contains (drawn_flows seed) f =
    subst (λ g. Contains (drawn_flows seed) g) (drawn_at seed s.flow f s.one)
    (at_place (drawn_flows seed) s.flow f (subst (λ n. s.flow < n) (sym (many seed)) s.one)) in
    let here : Contains (packets_in_turn seed k) (packet_at (8000 * k) f) =
    in_map (packet_at (8000 * k)) (filter (is_sending (8000 * k)) (drawn_flows seed)) f
    (in_filter (is_sending (8000 * k)) (drawn_flows seed) f there sends) in
    let place : get_or (range_with_len 0 128) k 0 ≡ k = get_or-range_with_len 0 128 k 0 before ∙ (omega arith) in
    let long : k < length (range_with_len 0 128) = subst (λ n. k < n) (sym (length-range_with_len 0 128)) before in
    let same : packet_at (8000 * k) f ≡ p = ap (λ t. packet_at t f) (sym time) ∙ sym s.is in
    in_flat (packets_in_turn seed) (range_with_len 0 128) k 0 p long
    (subst (λ q. Contains (packets_in_turn seed (get_or (range_with_len 0 128) k 0)) q) same
    (subst (λ n. Contains (packets_in_turn seed n) (packet_at (8000 * k) f)) (sym place) here))

-- ---- and no other
-- one of the packets of a turn
pub record IsInTurn (seed k : ℕ) (p : TracePacket) : Type 0 where
  pub flow : ℕ
  pub one : flow < 24
  pub sends : is_sending (8000 * k) (drawn_flow seed flow) ≡ true
  pub is : p ≡ packet_at (8000 * k) (drawn_flow seed flow)

in_turn : (seed k : ℕ) (p : TracePacket) → Contains (packets_in_turn seed k) p → IsInTurn seed k p
in_turn seed k p h =
    let m = from_map (packet_at (8000 * k)) (filter (is_sending (8000 * k)) (drawn_flows seed)) p h in
    let f = from_filter (is_sending (8000 * k)) (drawn_flows seed) m.source m.there in
    let there = f.0 in
    let one : there.0 < 24 = subst (λ n. there.0 < n) (many seed) there.1 in
    let same : m.source ≡ drawn_flow seed there.0 = sym there.2 ∙ drawn_at seed there.0 m.source one in
    record {
      flow = there.0;
      one = one;
      sends = subst (λ g. is_sending (8000 * k) g ≡ true) same f.1;
      is = sym m.is ∙ ap (packet_at (8000 * k)) same;
    }

pub record IsPlaced (seed : ℕ) (p : TracePacket) : Type 0 where
  pub turn : ℕ
  pub before : turn < 128
  pub there : IsInTurn seed turn p

placed : (seed : ℕ) (p : TracePacket) → Contains (trace_of seed).packets p → IsPlaced seed p
unfolding trace_of
placed seed p h =
    let s = from_flat (packets_in_turn seed) (range_with_len 0 128) p h in
    let within : s.place < 128 = subst (λ n. s.place < n) (length-range_with_len 0 128) s.within in
    let k = get_or (range_with_len 0 128) s.place 0 in
    let place : k ≡ 0 + s.place = get_or-range_with_len 0 128 s.place 0 within in
    record { turn = k; before = omega (arith, place, within); there = in_turn seed k p (s.here 0) }

only : (seed : ℕ) (p : TracePacket) → Contains (trace_of seed).packets p → IsSent seed p
only seed p h =
    let a = placed seed p h in
    let t = a.there in
    let f = drawn_flow seed t.flow in
    let n = (8000 * a.turn) / f.period in
    let rest : (8000 * a.turn) % f.period ≡ 0 = eqb-true _ _ t.sends in
    let whole_is = div-add-mod' (8000 * a.turn) f.period in
    let time : n * f.period ≡ 8000 * a.turn = omega (arith, whole_is, rest) in
    record {
      flow = t.flow;
      one = t.one;
      periods = n;
      before = let b = a.before in omega (arith, time);
      is = t.is ∙ ap (λ x. packet_at x f) (sym time);
    }

-- ---- in this order
in_order : (seed : ℕ) → AllPairs ComesBefore (trace_of seed).packets
unfolding trace_of
in_order seed = pairs_flat ComesBefore (packets_in_turn seed) 0 128 at_one across
  where
    at_one : (k : ℕ) → AllPairs ComesBefore (packets_in_turn seed k)
    at_one k =
        pairs_map ComesBefore (packet_at (8000 * k)) (filter (is_sending (8000 * k)) (drawn_flows seed))
        (λ i j d b l.
        inr (
          refl,
          AllPairs-filter (λ (f g : DrawnFlow). f.number < g.number) (is_sending (8000 * k)) (drawn_flows seed)
              (by_number seed) i j d b l,
        ))

    across : (k l : ℕ) (x y : TracePacket) → k < l → Contains (packets_in_turn seed k) x
        → Contains (packets_in_turn seed l) y → ComesBefore x y
    across k l x y h a b =
        let s = in_turn seed k x a in
        let t = in_turn seed l y b in
        let less : whole (8000 * k) <ℚ whole (8000 * l) = nat_lt (8000 * k) (8000 * l) (omega (arith, h)) in
        let P = λ (p : TracePacket). p.time <ℚ y.time in
        let Q = λ (p : TracePacket). whole (8000 * k) <ℚ p.time in
        inl (subst P (sym s.is) (subst Q (sym t.is) less))

pub hold_what_is_sent : TracesHoldWhatIsSent
hold_what_is_sent seed = record { all = member seed; only = only seed; in_turn = in_order seed }

-- ---- it is a trace
no_later : (p q : TracePacket) → ComesBefore p q → p.time ≤ℚ q.time
no_later p q (inl less) = le_of_lt less
no_later p q (inr same) = subst (λ t. p.time ≤ℚ t) same.0 (le_refl p.time)

packet_is : (seed : ℕ) (p : TracePacket) → Contains (trace_of seed).packets p → IsTracePacket p
packet_is seed p h =
    let s = only seed p h in
    let own = flow_is_drawn seed s.flow s.one in
    let f = drawn_flow seed s.flow in
    let bits = bits_within f own in
    let some = bits.0 in
    let few = bits.1 in
    subst IsTracePacket (sym s.is) (record {
      from_zero = nat_nonneg (s.periods * f.period);
      bits = (omega (arith, some), omega (arith, few));
    })

short : (seed k : ℕ) → length (packets_in_turn seed k) ≤ 24
short seed k =
    let all = many seed in
    let few = short_filter (is_sending (8000 * k)) (drawn_flows seed) in
    let made = length-map (filter (is_sending (8000 * k)) (drawn_flows seed)) (packet_at (8000 * k)) in
    omega (arith, all, few, made)

pub keeps : (seed : ℕ) → IsTrace (trace_of seed)
unfolding trace_of
keeps seed = record {
  few = let h = short_flat (packets_in_turn seed) 24 0 128 (short seed) in omega (arith, h);
  packets = all_of IsTracePacket (trace_of seed).packets (packet_is seed);
  in_order = λ i j d b l.
      no_later (get_or (trace_of seed).packets i d) (get_or (trace_of seed).packets j d) (in_order seed i j d b l);
  stalls = λ k d l. absurd (omega (arith, l));
}

-- ---- as it is made
pub made_trace : (seed : ℕ) (packets : List TracePacket) (stalls : List Stall) (drawn : List DrawnFlow)
    → packets ≡ flat_map (λ k. map (packet_at (8000 * k)) (filter (is_sending (8000 * k)) drawn)) (range_with_len 0 128)
    → stalls ≡ [] → drawn ≡ drawn_flows seed → made.trace_of packets stalls ≡ trace_of seed
unfolding trace_of
made_trace seed packets stalls drawn p s e =
    ap (λ (x : List TracePacket). record { packets = x; stalls = stalls })
    (p ∙ ap (λ (fs : List DrawnFlow).
    flat_map (λ k. map (packet_at (8000 * k)) (filter (is_sending (8000 * k)) fs)) (range_with_len 0 128)) e)
    ∙ ap (λ (y : List Stall). record { packets = (trace_of seed).packets; stalls = y }) s
