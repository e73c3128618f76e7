-- A server's curve serves it as a whole, and less one packet it serves whole packets.
use Rattle.std.specs.Prelude.{◌≡◌, ℕ, pos, List}
use Rattle.std.proofs.Common.{arith, inl, inr, subst}
use Rattle.rational.specs.Rational.{ℚ, int, ◌+ℚ◌, ◌-ℚ◌, ◌≤ℚ◌}
use Rattle.rational.specs.MinMax.{max_q}
use Rattle.rational.specs.Extended.{Ext, ◌≤ₑ◌}
use Rattle.rational.specs.declared.Extended.TheVariants.{Fin}
use Rattle.rational.proofs.MinMax.{max_q_left, max_q_right}
use Rattle.rational.proofs.Laws.{le_refl, le_trans, le_of_lt, le_or_lt}
use Rattle.rational.proofs.Linear.{with1, with2, with5}
use Rattle.min_plus.specs.Pointwise.{packetised}
use Rattle.run_laws.specs.Cards.{Class, all, whole, ServerStep}
use Rattle.run_laws.specs.Servers.{Server}
use Rattle.run_laws.specs.Allows.{IsLawfulView}
use Rattle.run_laws.specs.Counts.{arrived, worked, departed}
use Rattle.run_laws.specs.Premises.{KeepsService, KeepsSizes, IsZeroAtStart}
use Rattle.run_laws.specs.Serves.{Serves, ServesPackets}
use Rattle.run_laws.proofs.Levels.{finite_below, add_lower, add_low}
use Rattle.run_laws.proofs.Orders.{left_worked, worked_left}
use Rattle.run_laws.proofs.Backlogged.{backlogged_since}
use Rattle.run_laws.proofs.Gone.{gone_before}

pub itself : (β : ℚ → Ext) (t : ℚ) → IsZeroAtStart β → β (t -ℚ t) ≤ₑ Fin (int (pos 0))
itself β t h =
    let e : int (pos 0) ≡ t -ℚ t = with1 t (λ c. omega (arith, c.le, c.lt, c.same)) in
    subst (λ (x : ℚ). β x ≤ₑ Fin (int (pos 0))) e h

-- at a time at which nothing is there, since then; else since the backlogged period began
pub server_is_served : (server : Server) (end : ℚ) (V : List ServerStep) (β : ℚ → Ext) → IsLawfulView server end V → KeepsService β end V
    → IsZeroAtStart β → Serves all β end V
server_is_served server end V β h k b t l = elim (le_or_lt (arrived all V t) (departed all V t)) [
  | inl m ↦ (
    t,
    record {
      earlier = le_refl t;
      left = m;
      kept_up = add_low (arrived all V t) (worked all V t) (β (t -ℚ t)) (itself β t b) (le_trans m (left_worked server end V all t h));
    },
  )
  | inr m ↦
      let (s, is) = backlogged_since server end V all t h m in
      let c = is.caught_up in (
        s,
        record {
          earlier = le_of_lt is.begins;
          left = gone_before server end V all s t h c is.begins;
          kept_up = add_lower (arrived all V s) (worked all V s) (worked all V t) (worked all V t) (β (t -ℚ s)) (with2 (arrived all V s) (worked all V s) (λ c. omega (arith, c.le, c.lt, c.same))) (le_refl (worked all V t)) (k s t is.begins l is.busy);
        },
      )
]

-- a packet more or less: what left is at least the work, less one packet
less_a_packet : (a l w b bits : ℚ) → a ≤ℚ l → a +ℚ b ≤ℚ w → w ≤ℚ l +ℚ bits → a +ℚ max_q (int (pos 0)) (b -ℚ bits) ≤ℚ l
less_a_packet a l w b bits left up near = elim (le_or_lt (int (pos 0)) (b -ℚ bits)) [
  | inl h ↦ rw (max_q_right (int (pos 0)) (b -ℚ bits) h) (with5 a l w b bits (λ c. omega (arith, c.le, c.lt, c.same)))
  | inr h ↦ rw (max_q_left (int (pos 0)) (b -ℚ bits) h) (with2 a l (λ c. omega (arith, c.le, c.lt, c.same)))
]

pub packets_are_served : (server : Server) (end : ℚ) (V : List ServerStep) (C : Class) (β : ℚ → Ext) (bits : ℕ) → IsLawfulView server end V
    → KeepsSizes C bits V → Serves C β end V → ServesPackets C (packetised β (whole bits)) end V
packets_are_served server end V C β bits h k f t l =
    let (s, is) = f t l in
    let (b, e, up) = finite_below (arrived C V s) (worked C V t) (β (t -ℚ s)) is.kept_up in (
      s,
      record {
        earlier = is.earlier;
        kept_up = rw e (less_a_packet (arrived C V s) (departed C V t) (worked C V t) b (whole bits) is.left up (worked_left server end V C bits t h k));
      },
    )
