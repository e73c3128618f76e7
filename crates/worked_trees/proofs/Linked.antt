-- A packet reaches a server behind a link, at a time that is a sum.
use Rattle.std.specs.Prelude.{◌≡◌, ◌<◌, ℕ, ◌+◌, leb, true, ◌&&◌, length}
use Rattle.std.proofs.Common.{sym, subst}
use Rattle.rational.specs.Rational.{◌+ℚ◌}
use Rattle.run_laws.specs.declared.steps.Step.TheVariants.{Reach}
use Rattle.run_laws.specs.Cards.{whole}
use Rattle.run_laws.specs.Allows.{IsInTime, MayArrive}
use Rattle.run_laws.specs.Routes.{Routes, server_at}
use Rattle.run_laws.specs.Views.{card_of}
use Rattle.run_laws.specs.Lawful.{RunState, state_at, IsKnown, AllowsInRun}
use Rattle.run_laws.proofs.Small.{sum_t, in_time}

pub reaches : {net : Routes} {r : RunState} (s p left link now end : ℕ) → IsKnown net r (Reach s p (whole left +ℚ whole link)) → s < length net.servers
    → (state_at r s).now ≡ whole now → (leb now (left + link) && leb (left + link) end) ≡ true
    → MayArrive (server_at net s).discipline (card_of net r.entered p s) → AllowsInRun net (whole end) r (Reach s p (whole left +ℚ whole link))
reaches {net} {r} s p left link now end due known e h may = record {
  known = due;
  known_server = known;
  at_server = (subst (IsInTime (whole end) (state_at r s)) (sym (sum_t left link)) (in_time now (left + link) end e h), may);
}
