-- How the evaluator goes through a script: what a statement adds to the names and to the answers that there are. (Own
-- choice.)
use Rattle.std.specs.Prelude.{◌≡◌, ℕ, List, [], ◌∷◌, ◌++◌, Result, Ok, Err}
use Rattle.rational.specs.Rational.{ℚ}
use Rattle.input_texts.specs.declared.curve_script.fault.LangKind.{LangKind}
use Rattle.input_texts.specs.declared.curve_script.fault.LangKind.TheVariants.{NoMemory}
use Rattle.input_texts.specs.curve_script.Grammar.{Expression, Statement, Lets}
use Rattle.curve_lang.specs.Answers.{Answered}
use Rattle.curve_lang.specs.Found.{Let, Added, AddsName, AddsAnswer, StatementFinds}

-- what there is after a statement that added something
abbrev pub HasAdded : List Let → List Answered → Added → List Let → List Answered → Type 0
HasAdded ls out (AddsName l) ms more = (ms ≡ ls ++ l ∷ []) × (more ≡ out)
HasAdded ls out (AddsAnswer a) ms more = (ms ≡ ls) × (more ≡ out ++ a ∷ [])

-- a statement is looked at: it finds something, which is added, or nothing
abbrev pub IsAdded : {U : Type 0} → List Let → List Answered → Statement ℚ → List Let → List Answered
    → Result U LangKind → (old new : ℕ) → Type 0
IsAdded ls out s ms more (Ok u) old new = (x : Added) × StatementFinds ls s (Ok x) old new × HasAdded ls out x ms more
IsAdded ls out s ms more (Err k) old new = StatementFinds ls s (Err k) old new

-- a name is given
abbrev pub IsGiven : {U : Type 0} → List Let → List ℕ → Expression ℚ → List Let → Result U LangKind → (old new : ℕ)
    → Type 0
IsGiven ls w e ms (Ok u) old new =
    (l : Let) × StatementFinds ls (Lets w e) (Ok (AddsName l)) old new × (ms ≡ ls ++ l ∷ [])
IsGiven ls w e ms (Err k) old new = StatementFinds ls (Lets w e) (Err k) old new

-- an answer is added, unless memory runs out; a refusal stays
abbrev pub IsKept : {U : Type 0} → Result Answered LangKind → List Answered → List Answered → Result U LangKind → Type 0
IsKept (Ok a) out more (Ok u) = more ≡ out ++ a ∷ []
IsKept (Ok a) out more (Err k) = k ≡ NoMemory
IsKept (Err k) out more (Ok u) = ⊥
IsKept (Err k) out more (Err j) = j ≡ k
