-- The table of one flow over a gate.
use Rattle.std.specs.Prelude.{◌≡◌, ◌⊎◌, codes}
use Rattle.std.proofs.Common.{arith, sym, refl, ap, ◌∙◌, subst, inl, inr}
use Rattle.rational.specs.Rational.{ℚ, ◌+ℚ◌, ◌-ℚ◌, ◌*ℚ◌, ◌/ℚ◌, ◌≤ℚ◌, ◌<ℚ◌, neg_ℚ}
use Rattle.rational.specs.MinMax.{max_q}
use Rattle.rational.specs.Extended.{Ext, ◌≤ₑ◌}
use Rattle.rational.specs.declared.Extended.TheVariants.{Fin}
use Rattle.rational.proofs.Bounds.{least_member, largest_member}
use Rattle.rational.proofs.Laws.{antisym, le_refl, le_or_lt, zero_mul}
use Rattle.rational.proofs.Linear.{with1, with2}
use Rattle.rational.proofs.MinMax.{max_q_right, le_q_not}
use Rattle.rational.proofs.Over.{le_q_out, lt_q_in}
use Rattle.min_plus.specs.Functions.{zero_q, Time}
use Rattle.min_plus.specs.Deviations.{Lag, IsHorizontalDeviation}
use Rattle.min_plus.specs.Running.{left_after}
use Rattle.upp_limits.specs.declared.op_kind.OpKind.TheVariants.{FifoLeft}
use Rattle.upp_curve.specs.Curve.{value_at}
use Rattle.upp_curve.specs.Curves.{IsCurve}
use Rattle.upp_curve.specs.Readable.{IsReadable, SumFitsAt}
use Rattle.upp_curve.proofs.GateValues.{closed_value}
use Rattle.upp_curve.proofs.KindForms.{gate_normal}
use Rattle.upp_curve.proofs.Worked.{computing}
use Rattle.curve_call.specs.Answers.{IsMadeBy}
use Rattle.net_model.specs.declared.server.ServiceKind.TheVariants.{Gate}
use Rattle.run_laws.specs.Cards.{whole}
use Rattle.run_laws.proofs.Small.{le_t, lt_t}
use Rattle.net_cells.specs.Numbered.{zero_curve}
use Rattle.net_cells.specs.Equations.{MeetsEquations}
use Rattle.net_cells.specs.Meanings.{CellTable}
use Rattle.worked_runs.specs.OneGate.{one_gate}
use Rattle.worked_runs.proofs.Curves.{line_by, sum_by, small_by}
use Rattle.worked_runs.proofs.GateLag.{packets, service, is_service, horizontal_is, vertical_is}
use Rattle.worked_runs.proofs.GateLess.{gate_less_packet, less_made}
use Rattle.worked_runs.proofs.OneQueueTable.{OneQueue, table_of, meets_all}
use Rattle.worked_runs.proofs.Operators.{fifo_made}
use Rattle.worked_runs.proofs.Rows.{nothing}

-- ---- what the operators make
gate_readable : IsReadable service
unfolding computing
gate_readable = record {
  end = sum_by zero_q (whole 1000) refl;
  rate = small_by ((whole 100 *ℚ whole 250) /ℚ whole 1000) refl;
  next = subst (λ (v : Ext). SumFitsAt v (whole 100 *ℚ whole 250))
      (sym (closed_value (whole 100) (whole 1000) (whole 250) zero_q (le_t 0 0 refl) (lt_q_in zero_q (whole 1000 -ℚ whole 250) refl)))
      (sum_by zero_q (whole 100 *ℚ whole 250) refl);
  lines = (
    line_by zero_q zero_q zero_q refl,
    line_by (whole 1000 -ℚ whole 250) zero_q zero_q refl,
    (
      line_by (whole 1000 -ℚ whole 250) (neg_ℚ (whole 100 *ℚ (whole 1000 -ℚ whole 250))) (whole 100) refl,
      line_by (zero_q +ℚ whole 1000) (neg_ℚ (whole 100 *ℚ (whole 1000 -ℚ whole 250))) (whole 100) refl,
      tt,
    ),
  );
}

gate_curve : IsCurve service
gate_curve = record {
  normal = gate_normal (whole 100) (whole 1000) (whole 250) (le_t 0 100 refl) (lt_t 0 250 refl) (le_t 250 1000 refl);
  readable = gate_readable;
}

nonneg : (t : ℚ) → zero_q ≤ℚ t → Fin zero_q ≤ₑ value_at service t
nonneg t on = subst (λ (v : Ext). v ≤ₑ value_at service t) is_service.at_zero (is_service.rising zero_q t (le_refl zero_q) on)

-- nothing does not wait
nothing_waits : IsHorizontalDeviation (value_at zero_curve) (value_at service) (Fin zero_q)
nothing_waits = record {
  lag = λ t. Fin zero_q;
  is_lag = λ t. least_member (λ (a : Lag (value_at zero_curve) (value_at service) t.at). Fin a.after)
      record {
        after = zero_q;
        nonneg = le_refl zero_q;
        reached = subst (λ (v : Ext). v ≤ₑ value_at service (t.at +ℚ zero_q)) (sym (nothing.is t.at t.nonneg ∙ ap Fin (flat t.at)))
            (nonneg (t.at +ℚ zero_q) (later t.at t.nonneg));
      }
      (λ a. a.nonneg);
  is = largest_member (λ (t : Time). Fin zero_q) record { at = zero_q; nonneg = le_refl zero_q } (λ t. le_refl zero_q);
}
  where
    flat : (t : ℚ) → zero_q +ℚ zero_q *ℚ t ≡ zero_q
    flat t = let z = zero_mul t in with1 (zero_q *ℚ t) (λ c. omega (arith, c.le, c.lt, c.same))

    later : (t : ℚ) → zero_q ≤ℚ t → zero_q ≤ℚ t +ℚ zero_q
    later t h = with1 t (λ c. omega (arith, c.le, c.lt, c.same))

-- and takes nothing of the service
left_is : (x : ℚ) → zero_q ≤ℚ x → (x ≤ℚ zero_q) ⊎ (zero_q <ℚ x)
    → left_after (value_at service) (value_at zero_curve) zero_q x ≡ value_at service x
unfolding left_after
left_is x on (inl h) =
    let same : zero_q ≡ x = antisym (on, h) in
    rw (le_q_out x zero_q h) (subst (λ t. Fin zero_q ≡ value_at service t) same (sym is_service.at_zero))
left_is x on (inr h) =
    let (v, e) = is_service.finite x on in
    let some : zero_q ≤ℚ v = subst (λ (w : Ext). Fin zero_q ≤ₑ w) e (nonneg x on) in
    rw (le_q_not x zero_q h, e, nothing.is (x -ℚ zero_q) (with1 x (λ c. omega (arith, c.le, c.lt, c.same)))) (all v some)
  where
    all : (v : ℚ) → zero_q ≤ℚ v → Fin (max_q zero_q (v -ℚ (zero_q +ℚ zero_q *ℚ (x -ℚ zero_q)))) ≡ Fin v
    all v h =
        let z = zero_mul (x -ℚ zero_q) in
        let e : v -ℚ (zero_q +ℚ zero_q *ℚ (x -ℚ zero_q)) ≡ v =
        with2 v (zero_q *ℚ (x -ℚ zero_q)) (λ c. omega (arith, c.le, c.lt, c.same)) in
        ap Fin (ap (max_q zero_q) e ∙ max_q_right zero_q v h)

alone : IsMadeBy (FifoLeft (Fin zero_q)) service zero_curve service
alone = fifo_made service zero_curve service zero_q gate_curve is_service.rising (λ x on. left_is x on (le_or_lt x zero_q))

-- ---- the table
abbrev one : OneQueue
one = record {
  server = codes "g";
  rate = whole 100;
  kind = Gate (whole 1000) (whole 250);
  served = service;
  flow = codes "f";
  bits = 24000;
  come = packets;
  packets = gate_less_packet;
  delay = Fin (whole 990);
  backlog = Fin (whole 47000);
}

abbrev pub table : CellTable
table = table_of one

pub meets : MeetsEquations one_gate table
meets = meets_all one record {
  longest_is = refl;
  no_wait = nothing_waits;
  left = alone;
  delay = horizontal_is;
  in_packets = less_made;
  backlog = vertical_is;
}
