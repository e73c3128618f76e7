-- What an expression and a statement find, in the order in which they are looked at: the arguments from left to
-- right, the conditions, the limits; and how many operators are counted. Names are given with their curves. (Own
-- choice.)
use Rattle.std.specs.Prelude.{◌≡◌, ◌↔◌, IsTrue, ℕ, List, [], ◌∷◌, ◌++◌, find, Option, Some, None, option_map, map, Bool, Result, Ok, Err}
use Rattle.std.specs.Str.{bytes_eq}
use Rattle.rational.specs.Rational.{ℚ, ◌≤ℚ◌}
use Rattle.rational.specs.Extended.{Ext, ◌≤ₑ◌}
use Rattle.min_plus.specs.Functions.{zero_q, IsFinite, IsNonnegative}
use Rattle.min_plus.specs.Deviations.{IsHorizontalDeviation, IsVerticalDeviation}
use Rattle.upp_curve.specs.Curve.{SpecCurve, value_at, HasSameValues}
use Rattle.upp_limits.specs.declared.op_kind.OpKind.TheVariants as calls
use Rattle.input_texts.specs.declared.curve_script.keyword.CurveOperator.{CurveOperator}
use Rattle.input_texts.specs.declared.curve_script.keyword.NumberOperator.{NumberOperator}
use Rattle.input_texts.specs.declared.curve_script.keyword.PairOperator.{PairOperator}
use Rattle.input_texts.specs.declared.curve_script.keyword.OneAsked.{OneAsked}
use Rattle.input_texts.specs.declared.curve_script.keyword.TwoAsked.{TwoAsked}
use Rattle.input_texts.specs.declared.curve_script.keyword.TwoAsked.TheVariants.{Delay, Backlog, Equal, Below}
use Rattle.input_texts.specs.declared.curve_script.fault.LangKind.{LangKind}
use Rattle.input_texts.specs.declared.curve_script.fault.LangKind.TheVariants.{C5, C6, NoMemory}
use Rattle.input_texts.specs.declared.curve_script.fault.LangFault.{LangFault}
use Rattle.input_texts.specs.curve_script.Grammar.{Expression, Named, Nought, OfPair, OfTriple, OnCurve, OnNumber, OnTwo, Statement, Lets, ValueAt, AsksOne, AsksTwo}
use Rattle.input_texts.specs.curve_script.Scripts.{Numbered, out_of_memory}
use Rattle.curve_lang.specs.declared.answer.Word.TheVariants as words
use Rattle.curve_lang.specs.Meaning.{FromZero, Given, call_of_two, call_with}
use Rattle.curve_lang.specs.Answers.{Answered, NumberIs, TruthIs, one_answer}
use Rattle.curve_lang.specs.Finding.{Found, Still, Once, Then, Gives, Guarded, CallFinds, CurveFinds, TestFinds, PairFinds, TripleFinds, OneFinds, MayCall, MayCallWith, MayWait, ValueFinds, zero_curve}

-- a name that was given, with its curve
pub record Let : Type 0 where
  pub name : List ℕ
  pub curve : SpecCurve

abbrev pub curve_named : List Let → List ℕ → Option SpecCurve
curve_named ls w = option_map (λ l. l.curve) (find (λ l. bytes_eq l.name w) ls)

-- the names with the values of their curves
abbrev pub with_values : List Let → List Given
with_values ls = map (λ l. record { name = l.name; values = value_at l.curve }) ls

-- ---- expressions
abbrev pub NameFinds : Option SpecCurve → Found → Type 0
NameFinds None r = r ≡ Err C6
NameFinds (Some c) r = Gives c r

-- the call tests f by the zero curve z; v is how far it is above f
abbrev pub TestedBy : SpecCurve → SpecCurve → (Found → (old new : ℕ) → Type 0) → Found → (old new : ℕ) → Type 0
TestedBy z f next r old new =
    Then (Once (TestFinds z f)) (λ v. Guarded (IsNonnegative (value_at f)) next) r old new

-- the zero curve is made, and f is tested by it
abbrev pub Tested : SpecCurve → (Found → (old new : ℕ) → Type 0) → Found → (old new : ℕ) → Type 0
Tested f next r old new = Then (Still (Gives zero_curve)) (λ z. TestedBy z f next) r old new

-- an operator on one curve, which is finite, and nowhere below 0; the test of that is a call of its own, with its
-- limits
abbrev pub OneMade : CurveOperator → SpecCurve → Found → (old new : ℕ) → Type 0
OneMade k f r old new = Guarded (IsFinite (value_at f)) (Tested f (OneFinds k f)) r old new

-- an operator on a curve and a number
abbrev pub NumberMade : NumberOperator → SpecCurve → ℚ → Found → (old new : ℕ) → Type 0
NumberMade k f x r old new = Guarded (MayCallWith k f x) (Once (CurveFinds (call_with k x) f f)) r old new

-- an operator on two curves
abbrev pub TwoMade : PairOperator → SpecCurve → SpecCurve → Found → (old new : ℕ) → Type 0
TwoMade k f g r old new = Guarded (MayCall k f g) (Once (CurveFinds (call_of_two k) f g)) r old new

abbrev pub Finds : List Let → Expression ℚ → Found → (old new : ℕ) → Type 0
Finds ls (Named w) r old new = Still (NameFinds (curve_named ls w)) r old new
Finds ls Nought r old new = Still (Gives zero_curve) r old new
Finds ls (OfPair k x y) r old new = Still (PairFinds k x y) r old new
Finds ls (OfTriple k x y z) r old new = Still (TripleFinds k x y z) r old new
Finds ls (OnCurve k e) r old new = Then (Finds ls e) (OneMade k) r old new
Finds ls (OnNumber k e x) r old new = Then (Finds ls e) (λ f. NumberMade k f x) r old new
Finds ls (OnTwo k d e) r old new = Then (Finds ls d) (λ f. Then (Finds ls e) (TwoMade k f)) r old new

-- ---- statements
-- what a statement adds: a name, or an answer
pub data Added : Type 0 where
  AddsName : Let → Added
  AddsAnswer : Answered → Added

abbrev pub IsDelay : SpecCurve → SpecCurve → Answered → Type 0
IsDelay f g a = (v : Ext) × IsHorizontalDeviation (value_at f) (value_at g) v × (a ≡ NumberIs words.Delay v)

abbrev pub IsBacklog : SpecCurve → SpecCurve → Answered → Type 0
IsBacklog f g a = (v : Ext) × IsVerticalDeviation (value_at f) (value_at g) v × (a ≡ NumberIs words.Backlog v)

abbrev pub IsBelow : SpecCurve → SpecCurve → Answered → Type 0
IsBelow f g a = (b : Bool) × (IsTrue b ↔ FromZero (λ t. value_at f t ≤ₑ value_at g t)) × (a ≡ TruthIs words.Below b)

abbrev pub TellsEqual : SpecCurve → SpecCurve → Result Answered LangKind → Type 0
TellsEqual f g r = (b : Bool) × (IsTrue b ↔ HasSameValues f g) × (r ≡ Ok (TruthIs words.Equal b))

-- whether curves are equal is found without an operator, and whether one is below another by their minimum
abbrev pub TwoFinds : TwoAsked → SpecCurve → SpecCurve → Result Answered LangKind → (old new : ℕ) → Type 0
TwoFinds Delay f g r old new = Guarded (MayWait f g) (Once (CallFinds calls.Horizontal f g (IsDelay f g))) r old new
TwoFinds Backlog f g r old new =
    Guarded (IsFinite (value_at g)) (Once (CallFinds calls.Vertical f g (IsBacklog f g))) r old new
TwoFinds Equal f g r old new = Still (TellsEqual f g) r old new
TwoFinds Below f g r old new = Once (CallFinds calls.Min f g (IsBelow f g)) r old new

-- the value at a time
abbrev pub TellsValue : SpecCurve → ℚ → Result Answered LangKind → (old new : ℕ) → Type 0
TellsValue f t r old new =
    Then (Still (ValueFinds f t)) (λ v. Still (λ s. s ≡ Ok (NumberIs words.Value v))) r old new

-- the value at a time, which is not below 0
abbrev pub TimeFinds : SpecCurve → ℚ → Result Answered LangKind → (old new : ℕ) → Type 0
TimeFinds f t r old new = Guarded (zero_q ≤ℚ t) (TellsValue f t) r old new

-- questions about expressions
abbrev pub AsksTime : List Let → Expression ℚ → ℚ → Result Answered LangKind → (old new : ℕ) → Type 0
AsksTime ls e t r old new = Then (Finds ls e) (λ f. TimeFinds f t) r old new

abbrev pub AsksOf : List Let → OneAsked → Expression ℚ → Result Answered LangKind → (old new : ℕ) → Type 0
AsksOf ls q e r old new = Then (Finds ls e) (λ f. Still (λ s. s ≡ Ok (one_answer q f))) r old new

abbrev pub AsksBoth : List Let → TwoAsked → Expression ℚ → Expression ℚ → Result Answered LangKind → (old new : ℕ)
    → Type 0
AsksBoth ls q d e r old new = Then (Finds ls d) (λ f. Then (Finds ls e) (TwoFinds q f)) r old new

-- an answer that is kept, unless memory runs out
abbrev pub Kept : (Result Answered LangKind → (old new : ℕ) → Type 0) → Result Added LangKind → (old new : ℕ) → Type 0
Kept P r old new = Then P (λ a. Still (Gives (AddsAnswer a))) r old new

-- a name that is given a second time is C5, before its expression is looked at
abbrev pub NewName : Option SpecCurve → (Result Added LangKind → (old new : ℕ) → Type 0) → Result Added LangKind
    → (old new : ℕ) → Type 0
NewName None next r old new = next r old new
NewName (Some c) next r old new = Still (λ s. s ≡ Err C5) r old new

abbrev pub StatementFinds : List Let → Statement ℚ → Result Added LangKind → (old new : ℕ) → Type 0
StatementFinds ls (Lets w e) r old new = NewName (curve_named ls w)
    (Then (Finds ls e) (λ c. Still (Gives (AddsName record { name = w; curve = c })))) r old new
StatementFinds ls (ValueAt e t) r old new = Kept (AsksTime ls e t) r old new
StatementFinds ls (AsksOne q e) r old new = Kept (AsksOf ls q e) r old new
StatementFinds ls (AsksTwo q d e) r old new = Kept (AsksBoth ls q d e) r old new

-- ---- scripts
abbrev pub fault_at : LangKind → ℕ → LangFault
fault_at NoMemory line = out_of_memory
fault_at kind line = record { kind = kind; line = line }

-- what is told of a script: its answers, or its first fault
abbrev pub Told : Type 0
Told = Result (List Answered) LangFault

-- the first statement finds something and the others go on, or the script ends with its fault
pub data LineThen (line : ℕ) (P : Result Added LangKind → (old new : ℕ) → Type 0)
    (next : Added → Told → (old new : ℕ) → Type 0) (r : Told) (old new : ℕ) : Type 0 where
  goes_on : (x : Added) (between : ℕ) → P (Ok x) old between → next x r between new → LineThen line P next r old new
  stops : (k : LangKind) → P (Err k) old new → r ≡ Err (fault_at k line) → LineThen line P next r old new

abbrev pub after_added : (List Let → List Answered → Type 0) → List Let → List Answered → Added → Type 0
after_added next ls out (AddsName l) = next (ls ++ l ∷ []) out
after_added next ls out (AddsAnswer a) = next ls (out ++ a ∷ [])

-- r is what these statements find behind others that gave the names ls and the answers out
abbrev pub ScriptFinds : List Let → List Answered → List Numbered → Told → (old new : ℕ) → Type 0
ScriptFinds ls out [] r old new = (r ≡ Ok out) × (new ≡ old)
ScriptFinds ls out (l ∷ rest) r old new = LineThen l.0 (StatementFinds ls l.1)
    (λ x s m n. after_added (λ ms more. ScriptFinds ms more rest s m n) ls out x) r old new

-- r is what these statements find, however many operators are counted
pub record ScriptTells (lines : List Numbered) (r : Told) : Type 0 where
  pub old : ℕ
  pub new : ℕ
  pub finds : ScriptFinds [] [] lines r old new
