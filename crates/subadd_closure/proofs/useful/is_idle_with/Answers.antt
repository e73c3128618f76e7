use Rattle.std.proofs.Common.{refl, inl, inr}
use Rattle.subadd_closure.proofs.useful.is_idle_with.Goals as goal

pub returns-then-is_origin : goal.returns-then-is_origin
returns-then-is_origin c h = inl (c.if-is_origin.ensures refl)

pub returns : goal.returns
returns c h = inr (c.makes_over.ensures h)
