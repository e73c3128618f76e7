use Rattle.existence.proofs.curves.Forms.{own_curve, curve_with_room}
use Rattle.existence.proofs.curves.laws.curves_exist.Goals as goal

pub returns-clause-own : goal.returns-clause-own
returns-clause-own c = own_curve

pub returns-clause-room : goal.returns-clause-room
returns-clause-room c = curve_with_room
