-- Steps of a chain, each of which may have no answer.
use Rattle.std.proofs.Common.{◌≡◌, ℕ, zero, suc, ◌-◌, ◌<◌, List, Option, Some, None, true, false, refl, sym, ap, ◌∙◌, arith}
use Rattle.std.specs.Prelude.{option_map}
use Rattle.input_texts.specs.declared.curve_script.keyword.Keyword.{Keyword}
use Rattle.input_texts.specs.curve_script.Tokens.{Token}
use Rattle.input_texts.specs.curve_script.Keywords.{keyword_of}
use Rattle.rational.specs.Rational.{ℚ}
use Rattle.input_texts.specs.curve_script.Grammar.{Expression, Named, Nought}
use Rattle.input_texts.specs.curve_script.Shapes.{is_name_text}
use Rattle.input_texts.specs.curve_script.Building.{Made, ◌>>=◌, next_word, begin_with, zero_or, is_zero, name_if, build, call_from, calls}

pub chain_none : {A B : Type 0} (o : Option A) (f : A → Option B) → None ≡ o → None ≡ (o >>= f)
chain_none o f e = ap (λ o. o >>= f) e

pub chain_some : {A B : Type 0} (o : Option A) (a : A) (f : A → Option B) → Some a ≡ o → f a ≡ (o >>= f)
chain_some o a f e = ap (λ o. o >>= f) e

pub opened_none : {A B : Type 0} (f : A → B) (m : Option A) (o : Option B) → m ≡ None → option_map f m ≡ o → None ≡ o
opened_none f m o e h = ap (option_map f) (sym e) ∙ h

pub opened_some : {A B : Type 0} (f : A → B) (m : Option A) (a : A) (o : Option B) → m ≡ Some a → option_map f m ≡ o → Some (f a) ≡ o
opened_some f m a o e h = ap (option_map f) (sym e) ∙ h

-- an expression by its first word
pub build-step : (n : ℕ) (ts : List Token) → build n ts ≡ (next_word ts >>= (λ w. begin_with (calls n) (keyword_of w.0) w.0 w.1))
unfolding build
build-step zero ts = refl
build-step (suc n) ts = refl

-- where the first word is this
pub build-word : (n : ℕ) (w : List ℕ) (ts rest : List Token) → Some (w, rest) ≡ next_word ts → begin_with (calls n) (keyword_of w) w rest ≡ build n ts
build-word n w ts rest e = ap (λ o. o >>= (λ w. begin_with (calls n) (keyword_of w.0) w.0 w.1)) e ∙ sym (build-step n ts)

pub build-nothing : (n : ℕ) (ts : List Token) → None ≡ next_word ts → None ≡ build n ts
build-nothing n ts e = ap (λ o. o >>= (λ w. begin_with (calls n) (keyword_of w.0) w.0 w.1)) e ∙ sym (build-step n ts)

pub calls-less : (n : ℕ) (k : Keyword) (ts : List Token) → 0 < n → call_from (build (n - 1)) k ts ≡ calls n k ts
calls-less zero k ts h = absurd (omega arith)
calls-less (suc n) k ts h = let e : suc n - 1 ≡ n = omega arith in ap (λ m. call_from (build m) k ts) e

-- a call, by its keyword
pub word_call : (n : ℕ) (w : List ℕ) (k : Keyword) (ts rest : List Token) → Some (w, rest) ≡ next_word ts → Some k ≡ keyword_of w → false ≡ is_zero k → calls n k rest ≡ build n ts
word_call n w k ts rest e f g = ap (λ b. zero_or b rest (calls n k rest)) g ∙ ap (λ o. begin_with (calls n) o w rest) f ∙ build-word n w ts rest e

pub word_zero : (n : ℕ) (w : List ℕ) (k : Keyword) (ts rest : List Token) → Some (w, rest) ≡ next_word ts → Some k ≡ keyword_of w → true ≡ is_zero k → Some (Nought, rest) ≡ build n ts
word_zero n w k ts rest e f g = ap (λ b. zero_or b rest (calls n k rest)) g ∙ ap (λ o. begin_with (calls n) o w rest) f ∙ build-word n w ts rest e

pub word_name : (n : ℕ) (w : List ℕ) (ts rest : List Token) → Some (w, rest) ≡ next_word ts → None ≡ keyword_of w → option_map {U = Made} (λ m. (Named m, rest)) (name_if (is_name_text w) w) ≡ build n ts
word_name n w ts rest e f = ap (λ o. begin_with (calls n) o w rest) f ∙ build-word n w ts rest e

-- with what comes behind it
pub name_and_rest : {X : Type 0} (f : X → Expression ℚ) (m : Option X) (o : Option (List ℕ)) (rest : List Token) → option_map f m ≡ option_map (λ w. Named w) o
    → option_map {U = Made} (λ e. (f e, rest)) m ≡ option_map {U = Made} (λ w. (Named w, rest)) o
name_and_rest f None None rest e = refl
name_and_rest f None (Some w) rest e = absurd cc
name_and_rest f (Some x) None rest e = absurd cc
name_and_rest f (Some x) (Some w) rest e = let same : f x ≡ Named w = cc in ap (λ y. Some (y, rest)) same

pub no_calls : (n : ℕ) (k : Keyword) (ts : List Token) → n ≡ 0 → None ≡ calls n k ts
no_calls n k ts e = ap (λ m. calls m k ts) (sym e)
