-- What an operator finds after its part: where the part found nothing, that. (Own choice.)
use Rattle.std.specs.Prelude.{◌≡◌, ℕ, Result, Ok, Err}
use Rattle.rational.specs.Rational.{ℚ}
use Rattle.upp_curve.specs.Curve.{SpecCurve}
use Rattle.input_texts.specs.declared.curve_script.keyword.CurveOperator.{CurveOperator}
use Rattle.input_texts.specs.declared.curve_script.keyword.NumberOperator.{NumberOperator}
use Rattle.input_texts.specs.declared.curve_script.keyword.PairOperator.{PairOperator}
use Rattle.input_texts.specs.declared.curve_script.keyword.TwoAsked.{TwoAsked}
use Rattle.input_texts.specs.declared.curve_script.fault.LangKind.{LangKind}
use Rattle.curve_lang.specs.Answers.{Answered}
use Rattle.curve_lang.specs.Finding.{Found, Still}
use Rattle.curve_lang.specs.Found.{OneMade, NumberMade, TwoMade, TwoFinds}

abbrev pub OneAfter : CurveOperator → Found → Found → (old new : ℕ) → Type 0
OneAfter k (Ok f) r old new = OneMade k f r old new
OneAfter k (Err j) r old new = Still (λ s. s ≡ Err j) r old new

abbrev pub NumberAfter : NumberOperator → ℚ → Found → Found → (old new : ℕ) → Type 0
NumberAfter k x (Ok f) r old new = NumberMade k f x r old new
NumberAfter k x (Err j) r old new = Still (λ s. s ≡ Err j) r old new

abbrev pub TwoAfter : PairOperator → SpecCurve → Found → Found → (old new : ℕ) → Type 0
TwoAfter k f (Ok g) r old new = TwoMade k f g r old new
TwoAfter k f (Err j) r old new = Still (λ s. s ≡ Err j) r old new

-- a question after its second expression
abbrev pub AskedAfter : TwoAsked → SpecCurve → Found → Result Answered LangKind → (old new : ℕ) → Type 0
AskedAfter q f (Ok g) r old new = TwoFinds q f g r old new
AskedAfter q f (Err j) r old new = Still (λ s. s ≡ Err j) r old new
