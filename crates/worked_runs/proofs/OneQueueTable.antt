-- The table of one flow over one first in, first out server.
use Rattle.std.specs.Prelude.{◌≡◌, ℕ, zero, suc, ◌+◌, ◌==◌, ◌&&◌, nat_lt, IsTrue, true, false, List, Option, Some, None, [], ◌∷◌}
use Rattle.std.proofs.lemmas.Bool.{and_parts}
use Rattle.std.proofs.Common.{refl, sym, subst}
use Rattle.rational.specs.Rational.{ℚ}
use Rattle.rational.specs.Extended.{Ext}
use Rattle.rational.specs.declared.Extended.TheVariants.{Fin}
use Rattle.min_plus.specs.Functions.{zero_q}
use Rattle.min_plus.specs.Deviations.{IsHorizontalDeviation, IsVerticalDeviation}
use Rattle.upp_limits.specs.declared.op_kind.OpKind.TheVariants.{PosMinus, FifoLeft}
use Rattle.upp_curve.specs.Curve.{SpecCurve, value_at}
use Rattle.curve_call.specs.Answers.{IsMadeBy}
use Rattle.net_model.specs.declared.server.ServiceKind.{ServiceKind}
use Rattle.run_laws.specs.Cards.{whole}
use Rattle.run_laws.specs.Servers.{Fifo}
use Rattle.net_model.specs.Networks.{Net}
use Rattle.net_cells.specs.declared.cell.Kind.{Kind}
use Rattle.net_cells.specs.declared.cell.Kind.TheVariants.{In, Cross, Total, Higher, QueueService, Theta, Residual, QueueDelay, QueueBacklog, HopDelay, ShiftOut, DeconvOut, Out, PathService, Tfa, Sfa, Bound}
use Rattle.net_cells.specs.Numbered.{hops, queues, levels, is_live, zero_curve}
use Rattle.net_cells.specs.Visits.{longest}
use Rattle.net_cells.specs.Cells.{cell_of, has_cell}
use Rattle.net_cells.specs.CellFormulas.{value, less}
use Rattle.net_cells.specs.Formulas.{horizontal, vertical}
use Rattle.net_cells.specs.Equations.{MeetsEquation, MeetsEquations}
use Rattle.net_cells.specs.Meanings.{Meaning, curve, number, CellTable}
use Rattle.net_cells.specs.Means.{Means}
use Rattle.worked_runs.proofs.Meanings.{of_one, of_left, of_horizontal, of_vertical, of_smaller, of_along, of_delayed, none_below, below_one, none_before, none_before_one, only_zero}
use Rattle.worked_runs.proofs.Rows.{no_link, lesser_same}

-- the server and the flow; the service in whole packets; and the delay and the backlog
pub record OneQueue : Type 0 where
  pub server : List ℕ
  pub rate : ℚ
  pub kind : ServiceKind
  pub served : SpecCurve
  pub flow : List ℕ
  pub bits : ℕ
  pub come : SpecCurve
  pub packets : SpecCurve
  pub delay : Ext
  pub backlog : Ext

abbrev pub net_of : OneQueue → Net
net_of one = record {
  version = 1;
  servers = record {
    name = one.server;
    rate = one.rate;
    kind = one.kind;
    service = one.served;
    link = whole 0;
    discipline = Fifo;
  } ∷ [];
  flows = Some record {
    name = one.flow;
    path = 0 ∷ [];
    queues = 0 ∷ [];
    packet = one.bits;
    arrival = one.come;
  } ∷ [];
}

-- what the operators make of its curves
pub record IsServed (one : OneQueue) : Type 0 where
  pub longest_is : longest (net_of one) 0 0 ≡ one.bits
  pub no_wait : IsHorizontalDeviation (value_at zero_curve) (value_at one.served) (Fin zero_q)
  pub left : IsMadeBy (FifoLeft (Fin zero_q)) one.served zero_curve one.served
  pub delay : IsHorizontalDeviation (value_at one.come) (value_at one.served) one.delay
  pub in_packets : IsMadeBy (PosMinus (whole one.bits)) one.served one.served one.packets
  pub backlog : IsVerticalDeviation (value_at one.come) (value_at one.packets) one.backlog

abbrev values : OneQueue → Kind → Option Meaning
values one In = Some (curve one.come)
values one Cross = Some (curve zero_curve)
values one Total = Some (curve one.come)
values one Higher = None
values one QueueService = Some (curve one.served)
values one Theta = Some (number (Fin zero_q))
values one Residual = Some (curve one.served)
values one QueueDelay = Some (number one.delay)
values one QueueBacklog = Some (number one.backlog)
values one HopDelay = Some (number one.delay)
values one ShiftOut = None
values one DeconvOut = None
values one Out = None
values one PathService = Some (curve one.served)
values one Tfa = Some (number one.delay)
values one Sfa = Some (number one.delay)
values one Bound = Some (number one.delay)

abbrev pub table_of : OneQueue → CellTable
table_of one c = values one c.kind

-- ---- the equations
module _ (one : OneQueue) (is : IsServed one) where
  abbrev net : Net
  net = net_of one

  abbrev table : CellTable
  table = table_of one

  at_hop : (P : ℕ → ℕ → Type 0) → P 0 0 → (a b : ℕ) → IsTrue (nat_lt b (hops net a)) → P a b
  at_hop P p zero b h = below_one (P 0) p b h
  at_hop P p (suc a) b h = none_below (P (suc a)) b h

  before_hop : (P : ℕ → ℕ → Type 0) → (a b : ℕ) → IsTrue (nat_lt (b + 1) (hops net a)) → P a b
  before_hop P zero b h = none_before_one (P 0) b h
  before_hop P (suc a) b h = none_before (P (suc a)) b h

  at_queue : (P : ℕ → ℕ → Type 0) → P 0 0 → (a b : ℕ) → IsTrue (nat_lt b (queues net a)) → P a b
  at_queue P p zero b h = below_one (P 0) p b h
  at_queue P p (suc a) b h = none_below (P (suc a)) b h

  at_level : (P : ℕ → ℕ → Type 0) → (a b : ℕ) → IsTrue (nat_lt b (levels net a)) → P a b
  at_level P zero b h = none_below (P 0) b h
  at_level P (suc a) b h = none_below (P (suc a)) b h

  at_path : (P : ℕ → ℕ → Type 0) → P 0 0 → (a b : ℕ) → IsTrue (is_live net a && (b == 0)) → P a b
  at_path P p zero b h = only_zero (P 0) true p b h
  at_path P p (suc a) b h = absurd (let parts = and_parts false (b == 0) h in cc)

  abbrev Meets : Kind → ℕ → ℕ → Type 0
  Meets kind a b = MeetsEquation net table (cell_of kind a b)

  delay_is : Means table (horizontal (value In 0 0) (value Residual 0 0)) (number one.delay)
  delay_is = of_horizontal table (value In 0 0) (value Residual 0 0) one.come one.served one.delay refl refl is.delay

  meets_at : (kind : Kind) (a b : ℕ) → IsTrue (has_cell net (cell_of kind a b)) → Meets kind a b
  meets_at In a b h = at_hop (Meets In) record { value = curve one.come; is = refl; means = refl } a b h
  meets_at Cross a b h = at_hop (Meets Cross) record { value = curve zero_curve; is = refl; means = refl } a b h
  meets_at Total a b h = at_queue (Meets Total) record { value = curve one.come; is = refl; means = refl } a b h
  meets_at Higher a b h = at_level (Meets Higher) a b h
  meets_at QueueService a b h = at_queue (Meets QueueService) record { value = curve one.served; is = refl; means = refl } a b h
  meets_at Theta a b h = at_hop (Meets Theta) record {
    value = number (Fin zero_q);
    is = refl;
    means = of_horizontal table (value Cross 0 0) (value QueueService 0 0) zero_curve one.served (Fin zero_q) refl refl is.no_wait;
  } a b h
  meets_at Residual a b h = at_hop (Meets Residual) record {
    value = curve one.served;
    is = refl;
    means = of_left table (value QueueService 0 0) (value Cross 0 0) (value Theta 0 0) one.served zero_curve one.served (Fin zero_q)
        refl refl refl is.left;
  } a b h
  meets_at QueueDelay a b h = at_queue (Meets QueueDelay) record {
    value = number one.delay;
    is = refl;
    means = of_horizontal table (value Total 0 0) (value QueueService 0 0) one.come one.served one.delay refl refl is.delay;
  } a b h
  meets_at QueueBacklog a b h = at_queue (Meets QueueBacklog) record {
    value = number one.backlog;
    is = refl;
    means = subst (λ (n : ℕ). Means table (vertical (value Total 0 0) (less (value QueueService 0 0) n)) (number one.backlog)) (sym is.longest_is)
        (of_vertical table (value Total 0 0) (less (value QueueService 0 0) one.bits) one.come one.packets one.backlog refl
        (of_one table (PosMinus (whole one.bits)) (value QueueService 0 0) one.served one.packets refl is.in_packets) is.backlog);
  } a b h
  meets_at HopDelay a b h = at_hop (Meets HopDelay) record {
    value = number one.delay;
    is = refl;
    means = of_smaller table (value QueueDelay 0 0) (horizontal (value In 0 0) (value Residual 0 0)) one.delay one.delay one.delay refl
        delay_is (lesser_same one.delay);
  } a b h
  meets_at ShiftOut a b h = before_hop (Meets ShiftOut) a b h
  meets_at DeconvOut a b h = before_hop (Meets DeconvOut) a b h
  meets_at Out a b h = before_hop (Meets Out) a b h
  meets_at PathService a b h = at_path (Meets PathService) record { value = curve one.served; is = refl; means = refl } a b h
  meets_at Tfa a b h = at_path (Meets Tfa) record {
    value = number one.delay;
    is = refl;
    means = of_along table (cell_of HopDelay 0 0 ∷ []) (whole 0 ∷ []) (one.delay ∷ []) one.delay (refl, tt) (no_link one.delay);
  } a b h
  meets_at Sfa a b h = at_path (Meets Sfa) record {
    value = number one.delay;
    is = refl;
    means = of_delayed table (horizontal (value In 0 0) (value PathService 0 0)) (whole 0 ∷ []) one.delay one.delay
        (of_horizontal table (value In 0 0) (value PathService 0 0) one.come one.served one.delay refl refl is.delay) (no_link one.delay);
  } a b h
  meets_at Bound a b h = at_path (Meets Bound) record {
    value = number one.delay;
    is = refl;
    means = of_smaller table (value Tfa 0 0) (value Sfa 0 0) one.delay one.delay one.delay refl refl (lesser_same one.delay);
  } a b h

  pub meets_all : MeetsEquations net table
  meets_all c h = meets_at c.kind c.a c.b h
