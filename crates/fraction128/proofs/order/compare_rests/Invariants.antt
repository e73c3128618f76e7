use Rattle.std.proofs.Common.{◌≡◌, ◌<◌, ◌*◌, ◌+◌, nat_cmp}
use Rattle.fraction128.proofs.order.compare_rests.Given as goal

abbrev pub invariant-steps : goal.invariant-steps
invariant-steps l = record {
  left : 0 < l.q;
  right : 0 < l.s;
  same : nat_cmp (l.p * l.s) (l.r * l.q) ≡ nat_cmp (l.fn.a * l.fn.e) (l.fn.b * l.fn.d);
}

abbrev pub decreases-steps : goal.decreases-steps
decreases-steps l = l.q + l.s
