-- A run that ends in the middle of work, and packets of flows on which none may enter.
use Rattle.std.specs.Prelude.{◌≡◌, ℕ, zero, suc, Bool, true, false, [], ◌∷◌, All}
use Rattle.std.proofs.Common.{arith, ap, refl, inl}
use Rattle.rational.specs.Rational.{ℚ}
use Rattle.rational.proofs.Linear.{with1}
use Rattle.run_laws.specs.Cards.{whole}
use Rattle.run_laws.specs.Servers.{ServerState}
use Rattle.run_laws.specs.Allows.{IsComplete}
use Rattle.run_laws.specs.Lawful.{IsLawful, run_start, after_run}
use Rattle.run_laws.specs.Examples.{one_server, cut_in_work, CutInWork, UnknownFlow, DeadFlow}
use Rattle.run_laws.proofs.Small.{enters, works}
use Rattle.run_laws.proofs.SmallRuns.{none_due}

half_worked : All (λ (s : ServerState). ¬ IsComplete s.under) (after_run one_server (run_start one_server) cut_in_work.steps).servers
half_worked zero d h = λ k. with1 (whole 0) (λ c. omega (arith, c.le, c.lt, c.same))
half_worked (suc n) d h = absurd (omega arith)

cut_is_lawful : IsLawful one_server cut_in_work
cut_is_lawful = record {
  allowed = (
    enters 0 0 12000 0 0 70 record { in_turn = refl; is_live = refl; has_path = refl } (omega arith) refl refl record { known_queue = omega arith; some_bits = omega arith },
    (
      works 0 0 0 0 10 70 6000 70 record { has_entered = omega arith; passes = inl refl } (omega arith) refl refl refl tt refl refl refl,
      tt,
    ),
  );
  none_complete = half_worked;
  none_overdue = none_due (whole 70);
}

pub cut_run : CutInWork
cut_run = record {
  is_lawful = cut_is_lawful;
  its_delay = ap (λ (x : ℚ). x ∷ []) (with1 (whole 0) (λ c. omega (arith, c.le, c.lt, c.same)));
}

abbrev number_of : Bool → ℕ
number_of false = 0
number_of true = 1

not_live : ¬ (false ≡ true)
not_live h =
    let zero_is_one : number_of false ≡ number_of true = ap number_of h in
    omega arith

pub unknown_flow : UnknownFlow
unknown_flow h = not_live h.allowed.0.known.is_live

pub dead_flow_is_refused : DeadFlow
dead_flow_is_refused h = not_live h.allowed.0.known.is_live
