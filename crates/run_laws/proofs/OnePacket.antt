-- One flow of 12000 bits over one server of rate 100 and latency 10: the run keeps its curves, and the bound of 130 is met with equality.
use Rattle.std.specs.Prelude.{◌≡◌, ◌<◌, ℕ, zero, suc, true, ◌==◌, ◌&&◌, List, [], ◌∷◌}
use Rattle.std.proofs.Common.{arith, ap, ◌∙◌, refl, subst, inl, inr}
use Rattle.rational.specs.Rational.{ℚ, ◌+ℚ◌, ◌-ℚ◌, ◌*ℚ◌, ◌/ℚ◌, ◌≤ℚ◌, ◌<ℚ◌, lt_q}
use Rattle.rational.specs.MinMax.{max_q}
use Rattle.rational.specs.Extended.{Ext, ◌≤ₑ◌}
use Rattle.rational.specs.declared.Extended.TheVariants.{Fin}
use Rattle.rational.proofs.MinMax.{max_q_left, max_q_right, lt_q_not, le_q_not}
use Rattle.rational.proofs.Laws.{le_refl, le_or_lt, between, mul_sub, mul_comm}
use Rattle.rational.proofs.Linear.{with1, with2, with3, with4, with5}
use Rattle.min_plus.specs.Deviations.{IsHorizontalDeviation}
use Rattle.min_plus.specs.Formulas.{IsBucket, IsService}
use Rattle.min_plus.proofs.BucketDelay.{horizontal_finite}
use Rattle.run_laws.specs.Cards.{whole, all, ServerStep}
use Rattle.run_laws.specs.Servers.{clip}
use Rattle.run_laws.specs.Counts.{when, within, arrived, worked}
use Rattle.run_laws.specs.Premises.{KeepsService, IsBusy}
use Rattle.run_laws.specs.Routes.{route_of, PassesServer}
use Rattle.run_laws.specs.Views.{view}
use Rattle.run_laws.specs.RunPremises.{entered_in}
use Rattle.run_laws.specs.Examples.{one_server, one_packet, OnePacketReachesItsBound}
use Rattle.rational.proofs.Over.{le_q_out}
use Rattle.run_laws.proofs.Sums.{when_true, when_false, when_most}
use Rattle.run_laws.proofs.Clips.{clip_early, quotient}
use Rattle.run_laws.proofs.Small.{le_t, lt_t}
use Rattle.run_laws.proofs.Latency.{latency_is_zero_at_start, latency_rises}
use Rattle.run_laws.proofs.SmallRuns.{one_packet_is_lawful}

-- what the server sees
abbrev steps : List ServerStep
steps = view one_server one_packet 0

-- ---- its work
clip_line : (x : ℚ) → whole 10 <ℚ x → x ≤ℚ whole 130
    → clip record { start = whole 10; end = whole 130; bits = whole 12000 } x ≡ whole 100 *ℚ (x -ℚ whole 10)
unfolding clip
clip_line x h k = elim (le_or_lt (whole 130) x) [
  | inl l ↦ rw (le_q_not _ _ h, le_q_out _ _ l) (with1 x (λ c. omega (arith, c.le, c.lt, c.same)))
  | inr l ↦
      let part = (x -ℚ whole 10) /ℚ (whole 130 -ℚ whole 10) in
      let e = quotient (x -ℚ whole 10) (whole 130 -ℚ whole 10) (with1 (whole 0) (λ c. omega (arith, c.le, c.lt, c.same))) in
      let f = mul_sub part (whole 130) (whole 10) in
      rw (le_q_not _ _ h, le_q_not _ _ l) (line part x (e) f (mul_comm part (whole 130)) (mul_comm part (whole 10)))
]
  where
    line : (part x : ℚ) → part *ℚ (whole 130 -ℚ whole 10) ≡ x -ℚ whole 10
        → part *ℚ (whole 130 -ℚ whole 10) ≡ part *ℚ whole 130 -ℚ part *ℚ whole 10 → part *ℚ whole 130 ≡ whole 130 *ℚ part
        → part *ℚ whole 10 ≡ whole 10 *ℚ part → whole 12000 *ℚ part ≡ whole 100 *ℚ (x -ℚ whole 10)
    line part x e f g h = with5 part x (part *ℚ (whole 130 -ℚ whole 10)) (part *ℚ whole 130) (part *ℚ whole 10) (λ c. omega (arith, c.le, c.lt, c.same))

work_is : (x : ℚ) → worked all steps x ≡ clip record { start = whole 10; end = whole 130; bits = whole 12000 } x
work_is x =
    let e = when_true true (clip record { start = whole 10; end = whole 130; bits = whole 12000 } x) refl in
    with2 (when true (clip record { start = whole 10; end = whole 130; bits = whole 12000 } x)) (clip record { start = whole 10; end = whole 130; bits = whole 12000 } x) (λ c. omega (arith, c.le, c.lt, c.same))

nothing_before : (x : ℚ) → x ≤ℚ whole 0 → arrived all steps x ≡ whole 0
nothing_before x h =
    let e = when_false (true && lt_q (whole 0) x) (whole 12000) (lt_q_not _ _ h) in
    with1 (when (true && lt_q (whole 0) x) (whole 12000)) (λ c. omega (arith, c.le, c.lt, c.same))

from_0 : (a b : ℚ) → a <ℚ b → IsBusy steps a b → whole 0 ≤ℚ a
from_0 a b l busy = elim (le_or_lt (whole 0) a) [
  | inl h ↦ h
  | inr h ↦ elim (le_or_lt b (whole 0)) [
    | inl k ↦ absurd (none a b l k busy)
    | inr k ↦ absurd (none a (whole 0) h (le_refl (whole 0)) (λ x m n. busy x m (with3 x (whole 0) b (λ c. omega (arith, c.le, c.lt, c.same)))))
  ]
]
  where
    idle : (x : ℚ) → x ≤ℚ whole 0 → worked all steps x <ℚ arrived all steps x → ⊥
    idle x h k =
        let e = work_is x in
        let f = clip_early record { start = whole 10; end = whole 130; bits = whole 12000 } x (with1 x (λ c. omega (arith, c.le, c.lt, c.same))) in
        let g = nothing_before x h in
        with3 (worked all steps x) (clip record { start = whole 10; end = whole 130; bits = whole 12000 } x) (arrived all steps x) (λ c. omega (arith, c.le, c.lt, c.same))

    none : (a b : ℚ) → a <ℚ b → b ≤ℚ whole 0 → IsBusy steps a b → ⊥
    none a b l h busy = let m = between a b l in idle m.0 (upto m.0 b m.2 h) (busy m.0 m.1 m.2)
      where
        upto : (x b : ℚ) → x <ℚ b → b ≤ℚ whole 0 → x ≤ℚ whole 0
        upto x b h k = with2 x b (λ c. omega (arith, c.le, c.lt, c.same))

-- ---- it keeps the service curve
-- work of x before, and y after, a window of which less than 10 or more is busy
enough : (a b x y : ℚ) → x ≤ℚ y → x +ℚ whole 100 *ℚ (b -ℚ a -ℚ whole 10) ≤ℚ y → x +ℚ whole 100 *ℚ max_q (whole 0) (b -ℚ a -ℚ whole 10) ≤ℚ y
enough a b x y h k = elim (le_or_lt (whole 0) (b -ℚ a -ℚ whole 10)) [
  | inl l ↦ rw (max_q_right (whole 0) (b -ℚ a -ℚ whole 10) l) k
  | inr l ↦ rw (max_q_left (whole 0) (b -ℚ a -ℚ whole 10) l) (with2 x y (λ c. omega (arith, c.le, c.lt, c.same)))
]

window : (a b : ℚ) → a <ℚ b → b ≤ℚ whole 130 → IsBusy steps a b
    → worked all steps a +ℚ whole 100 *ℚ max_q (whole 0) (b -ℚ a -ℚ whole 10) ≤ℚ worked all steps b
window a b l end busy =
    let on = from_0 a b l busy in
    let wa = work_is a in
    let wb = work_is b in
    elim (le_or_lt a (whole 10)) [
      | inl h ↦
          let ca = clip_early record { start = whole 10; end = whole 130; bits = whole 12000 } a h in
          elim (le_or_lt b (whole 10)) [
            | inl k ↦
                let cb = clip_early record { start = whole 10; end = whole 130; bits = whole 12000 } b k in
                early a b (worked all steps a) (worked all steps b) (wa ∙ ca) (wb ∙ cb) on k
            | inr k ↦
                let cb = clip_line b k end in
                late a b (worked all steps a) (worked all steps b) (wa ∙ ca) (wb ∙ cb) on k
          ]
      | inr h ↦
          let ca = clip_line a h (with2 a b (λ c. omega (arith, c.le, c.lt, c.same))) in
          let cb = clip_line b (with2 a b (λ c. omega (arith, c.le, c.lt, c.same))) end in
          both a b (worked all steps a) (worked all steps b) (wa ∙ ca) (wb ∙ cb) l
    ]
  where
    early : (a b x y : ℚ) → x ≡ whole 0 → y ≡ whole 0 → whole 0 ≤ℚ a → b ≤ℚ whole 10
        → x +ℚ whole 100 *ℚ max_q (whole 0) (b -ℚ a -ℚ whole 10) ≤ℚ y
    early a b x y e f h k = enough a b x y (with2 x y (λ c. omega (arith, c.le, c.lt, c.same))) (with4 a b x y (λ c. omega (arith, c.le, c.lt, c.same)))

    late : (a b x y : ℚ) → x ≡ whole 0 → y ≡ whole 100 *ℚ (b -ℚ whole 10) → whole 0 ≤ℚ a → whole 10 <ℚ b
        → x +ℚ whole 100 *ℚ max_q (whole 0) (b -ℚ a -ℚ whole 10) ≤ℚ y
    late a b x y e f h k = enough a b x y (with3 b x y (λ c. omega (arith, c.le, c.lt, c.same))) (with4 a b x y (λ c. omega (arith, c.le, c.lt, c.same)))

    both : (a b x y : ℚ) → x ≡ whole 100 *ℚ (a -ℚ whole 10) → y ≡ whole 100 *ℚ (b -ℚ whole 10) → a <ℚ b
        → x +ℚ whole 100 *ℚ max_q (whole 0) (b -ℚ a -ℚ whole 10) ≤ℚ y
    both a b x y e f h = enough a b x y (with4 a b x y (λ c. omega (arith, c.le, c.lt, c.same))) (with4 a b x y (λ c. omega (arith, c.le, c.lt, c.same)))

keeps_service : (g : ℚ → Ext) → IsService (whole 100) (whole 10) g → KeepsService g (whole 130) steps
keeps_service g G a b l end busy =
    let on : whole 0 ≤ℚ b -ℚ a = with2 a b (λ c. omega (arith, c.le, c.lt, c.same)) in
    rw (G.is (b -ℚ a) on) (window a b l end busy)

by_server : (g : ℚ → Ext) → IsService (whole 100) (whole 10) g → (s : ℕ) → s < 1 → KeepsService g (whole 130) (view one_server one_packet s)
by_server g G zero h = keeps_service g G
by_server g G (suc n) h = absurd (omega arith)

-- ---- it keeps the arrival curve
keeps_arrivals : (f : ℚ → Ext) → IsBucket (whole 12000) (whole 10) f → (flow : ℕ) (s u : ℚ) → s ≤ℚ u
    → Fin (entered_in flow s u one_packet.steps) ≤ₑ f (u -ℚ s)
keeps_arrivals f F flow s u l =
    let on : whole 0 ≤ℚ u -ℚ s = with2 s u (λ c. omega (arith, c.le, c.lt, c.same)) in
    let k = when_most ((0 == flow) && within s u (whole 0)) (whole 12000) (le_t 0 12000 refl) in
    rw (F.is (u -ℚ s) on) (with3 (when ((0 == flow) && within s u (whole 0)) (whole 12000)) s u (λ c. omega (arith, c.le, c.lt, c.same)))

-- ---- its bound
bound_is : (f g : ℚ → Ext) → IsBucket (whole 12000) (whole 10) f → IsService (whole 100) (whole 10) g → IsHorizontalDeviation f g (Fin (whole 130))
bound_is f g F G =
    let e = quotient (whole 12000) (whole 100) (lt_t 0 100 refl) in
    let sum : whole 10 +ℚ whole 12000 /ℚ whole 100 ≡ whole 130 = ten_more (whole 12000 /ℚ whole 100) e (mul_comm (whole 12000 /ℚ whole 100) (whole 100)) in
    subst (λ (x : ℚ). IsHorizontalDeviation f g (Fin x)) sum
    (horizontal_finite (whole 12000) (whole 10) (whole 100) (whole 10) f g (le_t 0 12000 refl) (le_t 0 10 refl) (lt_t 0 100 refl) (le_t 0 10 refl) (le_t 10 100 refl) (inl (lt_t 0 12000 refl)) F G)
  where
    ten_more : (q : ℚ) → q *ℚ whole 100 ≡ whole 12000 → q *ℚ whole 100 ≡ whole 100 *ℚ q → whole 10 +ℚ q ≡ whole 130
    ten_more q e f = with2 q (q *ℚ whole 100) (λ c. omega (arith, c.le, c.lt, c.same))

only_flow : (j : ℕ) → (route_of one_server j).live ≡ true → PassesServer 0 (route_of one_server j).hops → j ≡ 0
only_flow zero live passes = refl
only_flow (suc j) live passes = absurd passes

pub one_packet_reaches_its_bound : OnePacketReachesItsBound
one_packet_reaches_its_bound f g h = record {
  is_alone = record { known = omega arith; is_fifo = refl; is_live = refl; one_hop = record { path = refl; link_on = le_t 0 0 refl }; alone = only_flow };
  from_zero = latency_is_zero_at_start (whole 100) (whole 10) g (le_t 0 10 refl) h.latency;
  rises = latency_rises (whole 100) (whole 10) g (le_t 0 100 refl) h.latency;
  is_lawful = one_packet_is_lawful;
  keeps = record {
    sizes = λ flow live. (λ e. omega arith, tt);
    arrivals = λ flow live s u l. keeps_arrivals f h.bucket flow s u l;
    service = by_server g h.latency;
  };
  its_delay = ap (λ (x : ℚ). x ∷ []) (with1 (whole 0) (λ c. omega (arith, c.le, c.lt, c.same)));
  its_hop_delay = ap (λ (x : ℚ). x ∷ []) (with1 (whole 0) (λ c. omega (arith, c.le, c.lt, c.same)));
  its_bound = bound_is f g h.bucket h.latency;
}
