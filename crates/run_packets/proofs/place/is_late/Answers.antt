use Rattle.std.proofs.Common.{sym, subst}
use Rattle.std.specs.Prelude.{IsTrue, not}
use Rattle.run_packets.specs.Places.{IsLate}
use Rattle.run_packets.proofs.Late.{late_test}
use Rattle.run_packets.proofs.place.is_late.Goals as goal

pub returns-in-OnLink : goal.returns-in-OnLink
returns-in-OnLink c =
    subst (λ z. (IsTrue (not c.is_less.result) → IsLate c.args.end z) × (IsLate c.args.end z → IsTrue (not c.is_less.result))) (sym c.in-OnLink.is)
    (late_test c.is_less.result c.args.end _ c.is_less.ensures.less)
