-- Lemmas of `curve_call` on what calls on curves answer, handed on to what is said of the cells of a network.
pub use Rattle.plain_operators.proofs.CurveCalls.{applies_determined, made_unique}
