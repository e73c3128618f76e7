-- Lemmas of `curve_call` on what calls on curves answer, handed on to what is made of several calls of this crate.
pub use Rattle.curve_call.proofs.Applied.{applied_seen}
pub use Rattle.curve_call.proofs.Excesses.{excess_nonneg, excess_nothing, excess_most, finite_excess}
pub use Rattle.curve_call.proofs.FiniteAnswers.{late_left}
pub use Rattle.curve_call.proofs.GrowingAnswers.{growing_answers, supremum_grows}
pub use Rattle.curve_call.proofs.InTurn.{applies_determined}
pub use Rattle.curve_call.proofs.SameAnswers.{made_unique}
