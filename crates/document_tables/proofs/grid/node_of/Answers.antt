use Rattle.std.proofs.Common.{◌<◌, ◌^◌, ℕ, Option, sym, subst, arith}
use Rattle.std.specs.Prelude.{IfSome}
use Rattle.document_tables.proofs.grid.node_of.Goals as goal

pub overflow_cast-result : goal.overflow_cast-result
overflow_cast-result c = let short = c.requires.port in omega (arith, short)

pub overflow_cast-result-2 : goal.overflow_cast-result-2
overflow_cast-result-2 c = let short = c.requires.queue in omega (arith, short, c.queue_of-queue.ensures)

pub short-requires : goal.short-requires
short-requires c = subst (λ (o : Option ℕ). IfSome o (λ p. p < 2 ^ 16)) (sym c.place_after-from.ensures) c.requires.from
