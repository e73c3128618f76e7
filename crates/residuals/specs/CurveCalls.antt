-- What a call on curves answers, and when its answer is determined, as `curve_call` has it: handed on to what is said of the cells of a network.
pub use Rattle.plain_operators.specs.CurveCalls.{IsAgain, again_determined, IsMadeBy, Applies, AppliesTo, IsDetermined}
