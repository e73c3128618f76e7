-- What a call on curves answers, and when its answer is determined, as `curve_call` has it: handed on to what is made of several calls of this crate.
pub use Rattle.curve_call.specs.Again.{IsAgain, again_determined}
pub use Rattle.curve_call.specs.Answers.{IsMadeBy}
pub use Rattle.curve_call.specs.Calls.{Applies, AppliesTo}
pub use Rattle.curve_call.specs.Determined.{IsDetermined}
pub use Rattle.curve_call.specs.Growth.{GrowsFromZero, IsBoundedFromZero, IsGrowingCurve}
