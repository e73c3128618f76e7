-- A curve by itself that is over no limit has what its normal form takes.
use Rattle.std.specs.Prelude.{◌≡◌, ◌<◌, ◌^◌, List}
use Rattle.std.proofs.Common.{subst, sym}
use Rattle.upp_curve.specs.declared.affine_segment.line.Piece.{Piece}
use Rattle.upp_curve.specs.declared.curve.Tail.{Tail}
use Rattle.upp_limits.specs.declared.own_window.OwnNumbers.{OwnNumbers}
use Rattle.upp_limits.specs.Limits.{own_end, own_sizes}
use Rattle.upp_curve.specs.Normal.{IsRaw}
use Rattle.upp_limits.specs.OwnLimits.{IsWithinOwn}
use Rattle.upp_limits.specs.OwnWindow.{AreNumbers}
use Rattle.upp_normal.proofs.NormaliseOwn.{Found, own_found}

pub within_found : (ps seen : List Piece) (tail : Tail) (o : OwnNumbers) → IsRaw record { pieces = ps; tail = tail } → seen ≡ ps
    → AreNumbers (own_end record { pieces = seen; tail = tail }) (own_sizes record { pieces = seen; tail = tail }) o → IsWithinOwn record { pieces = seen; tail = tail }
    → Found record { pieces = ps; tail = tail } o.times o.values
within_found ps seen tail o raw e a w = own_found ps seen tail o raw e a (subst (λ k. k < 2 ^ 120) (sym a.gauge) w.narrow)
