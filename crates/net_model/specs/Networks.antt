-- What contracts see of a network. (Own choice of the fields; the notions are those of Le Boudec and Thiran.)
use Rattle.std.specs.Prelude.{ℕ, List, Option}
use Rattle.rational.specs.Rational.{ℚ}
use Rattle.upp_curve.specs.Curve.{SpecCurve}
use Rattle.run_laws.specs.Servers.{Discipline}
use Rattle.net_model.specs.declared.server.ServiceKind.{ServiceKind}

-- a server: its name as bytes, its rate in bits a unit of time, how its service curve is given, that curve, how long a
-- packet that leaves it is on the way, and how it chooses among packets
pub record NetServer : Type 0 where
  pub name : List ℕ
  pub rate : ℚ
  pub kind : ServiceKind
  pub service : SpecCurve
  pub link : ℚ
  pub discipline : Discipline

-- a flow: its name as bytes, the servers on its way and its queue at each, its longest packet in bits, and its
-- arrival curve
pub record NetFlow : Type 0 where
  pub name : List ℕ
  pub path : List ℕ
  pub queues : List ℕ
  pub packet : ℕ
  pub arrival : SpecCurve

-- a server's and a flow's number is its place; a flow that was dropped leaves its place empty, and a live one does not
pub record Net : Type 0 where
  pub version : ℕ
  pub servers : List NetServer
  pub flows : List (Option NetFlow)
