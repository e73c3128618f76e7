-- What the answers of a script mean. (Own choice.)
use Rattle.std.specs.Prelude.{◌≡◌, ◌↔◌, IsTrue, Bool, List, [], ◌∷◌, ◌++◌}
use Rattle.rational.specs.Rational.{ℚ, ◌≤ℚ◌}
use Rattle.rational.specs.Extended.{Ext, ◌≤ₑ◌}
use Rattle.min_plus.specs.Functions.{zero_q}
use Rattle.min_plus.specs.Deviations.{IsHorizontalDeviation, IsVerticalDeviation}
use Rattle.upp_curve.specs.Curve.{SpecCurve, value_at}
use Rattle.upp_curve.specs.Normal.{IsNormal}
use Rattle.upp_curve.specs.Steady.{rate}
use Rattle.input_texts.specs.declared.curve_script.keyword.OneAsked.{OneAsked}
use Rattle.input_texts.specs.declared.curve_script.keyword.OneAsked.TheVariants.{Rate, Show}
use Rattle.input_texts.specs.declared.curve_script.keyword.TwoAsked.{TwoAsked}
use Rattle.input_texts.specs.declared.curve_script.keyword.TwoAsked.TheVariants.{Delay, Backlog, Equal, Below}
use Rattle.input_texts.specs.curve_script.Grammar.{Statement, Lets, ValueAt, AsksOne, AsksTwo}
use Rattle.input_texts.specs.curve_script.Scripts.{Numbered}
use Rattle.curve_lang.specs.declared.answer.Word.{Word}
use Rattle.curve_lang.specs.declared.answer.Word.TheVariants as words
use Rattle.curve_lang.specs.Meaning.{Values, FromZero, Given, Means}

-- what an answer says, apart from where its curve lies
pub data Answered : Type 0 where
  NumberIs : Word → Ext → Answered
  TruthIs : Word → Bool → Answered
  CurveIs : SpecCurve → Answered

-- c is the curve with these values in normal form; there is one at most
pub record IsCurveOf (h : Values) (c : SpecCurve) : Type 0 where
  pub normal : IsNormal c
  pub values : FromZero (λ t. value_at c t ≡ h t)

-- ---- one question
abbrev pub one_answer : OneAsked → SpecCurve → Answered
one_answer Rate c = NumberIs words.Rate (rate c)
one_answer Show c = CurveIs c

abbrev pub MeansOfTwo : TwoAsked → Values → Values → Answered → Type 0
MeansOfTwo Delay f g a = (v : Ext) × IsHorizontalDeviation f g v × (a ≡ NumberIs words.Delay v)
MeansOfTwo Backlog f g a = (v : Ext) × IsVerticalDeviation f g v × (a ≡ NumberIs words.Backlog v)
MeansOfTwo Equal f g a = (b : Bool) × (IsTrue b ↔ FromZero (λ t. f t ≡ g t)) × (a ≡ TruthIs words.Equal b)
MeansOfTwo Below f g a = (b : Bool) × (IsTrue b ↔ FromZero (λ t. f t ≤ₑ g t)) × (a ≡ TruthIs words.Below b)

-- ---- one statement after another
-- the first answer is one that P says, and `next` says of the others
abbrev pub MeansFirst : (Answered → Type 0) → (List Answered → Type 0) → List Answered → Type 0
MeansFirst P next [] = ⊥
MeansFirst P next (a ∷ later) = P a × next later

-- a `let` gives a name and has no answer; a question has the answer first, and then those of the statements after it
abbrev pub MeansThen : List Given → Statement ℚ → (List Given → List Answered → Type 0) → List Answered → Type 0
MeansThen gs (Lets w e) next out = (h : Values) × Means gs e h × next (gs ++ record { name = w; values = h } ∷ []) out
MeansThen gs (ValueAt e t) next out = (zero_q ≤ℚ t)
    × ((h : Values) × Means gs e h × MeansFirst (λ a. a ≡ NumberIs words.Value (h t)) (next gs) out)
MeansThen gs (AsksOne q e) next out = (h : Values) × Means gs e h
    × MeansFirst (λ a. (c : SpecCurve) × IsCurveOf h c × (a ≡ one_answer q c)) (next gs) out
MeansThen gs (AsksTwo q d e) next out = (f : Values) × (g : Values) × Means gs d f × Means gs e g
    × MeansFirst (MeansOfTwo q f g) (next gs) out

-- out are the answers of these statements, where the names of gs were given before
abbrev pub ScriptMeans : List Given → List Numbered → List Answered → Type 0
ScriptMeans gs [] out = out ≡ []
ScriptMeans gs (l ∷ ls) out = MeansThen gs l.1 (λ hs later. ScriptMeans hs ls later) out
