-- What is spelt as an expression is made of its tokens, up to the depth that is allowed.
use Rattle.std.proofs.Common.{◌≡◌, ℕ, zero, suc, ◌<◌, ◌≤◌, List, [], ◌∷◌, ◌++◌, Option, Some, None, refl, ap, ◌∙◌, arith, ⊎_elim}
use Rattle.std.specs.Prelude.{option_map}
use Rattle.std.proofs.lemmas.List.{append_assoc}
use Rattle.std.proofs.lemmas.Bool.{cases_lt}
use Rattle.rational.specs.Rational.{ℚ}
use Rattle.input_texts.specs.declared.curve_script.token.Sign.TheVariants.{Close, Comma, Equals}
use Rattle.input_texts.specs.declared.curve_script.keyword.Keyword.{Keyword}
use Rattle.input_texts.specs.declared.curve_script.keyword.Keyword.TheVariants as words
use Rattle.input_texts.specs.declared.curve_script.keyword.OneAsked.{OneAsked}
use Rattle.input_texts.specs.declared.curve_script.keyword.TwoAsked.{TwoAsked}
use Rattle.input_texts.specs.declared.curve_script.keyword.NumberPair.{NumberPair}
use Rattle.input_texts.specs.declared.curve_script.keyword.NumberTriple.{NumberTriple}
use Rattle.input_texts.specs.declared.curve_script.keyword.CurveOperator.{CurveOperator}
use Rattle.input_texts.specs.declared.curve_script.keyword.NumberOperator.{NumberOperator}
use Rattle.input_texts.specs.declared.curve_script.keyword.PairOperator.{PairOperator}
use Rattle.input_texts.specs.curve_script.Tokens.{Token, Word, Mark}
use Rattle.input_texts.specs.curve_script.Keywords.{spelling}
use Rattle.input_texts.specs.curve_script.Grammar.{Expression, Named, Nought, OfPair, OfTriple, OnCurve, OnNumber, OnTwo, Statement, Lets, ValueAt, AsksOne, AsksTwo, key, expression_tokens, statement_tokens, IsName, HasNames, HasNamesIn, number_in, both, depth, depth_in, numbers_read, numbers_read_in}
use Rattle.input_texts.specs.curve_script.Shapes.{is_at}
use Rattle.input_texts.specs.curve_script.Building.{Made, Told, ◌>>=◌, next_sign, behind_if, with_rest, next_number, number_behind, pair_from, triple_from, one_from, number_from, curve_behind, two_from, call_from, name_if, is_zero, zero_or, begin_with, build, calls, next_at, let_from, value_from, one_asked_from, two_asked_from, statement_behind, statement_from}
use Rattle.input_texts.proofs.curve_script.Words.{keyword_spelt, name_is_text, name_is_free}
use Rattle.input_texts.proofs.curve_script.Chains.{build-step}

-- ---- one token
pub number_there : (w : List ℕ) (x : ℚ) (ts : List Token) → number_in w ≡ Some x → next_number (Word w ∷ ts) ≡ Some (x, ts)
unfolding next_number
number_there w x ts e = ap (λ o. with_rest o ts) e

pub number_after : (w : List ℕ) (x : ℚ) (ts : List Token) → number_in w ≡ Some x → number_behind Comma (Mark Comma ∷ Word w ∷ ts) ≡ Some (x, ts)
unfolding number_behind
number_after w x ts e = number_there w x ts e

build-key : (n : ℕ) (k : Keyword) (ts : List Token) → build n (key k ∷ ts) ≡ zero_or (is_zero k) ts (calls n k ts)
build-key n k ts = build-step n (key k ∷ ts) ∙ ap (λ o. begin_with (calls n) o (spelling k) ts) (keyword_spelt k)

build-name : (n : ℕ) (w : List ℕ) (ts : List Token) → IsName w → build n (Word w ∷ ts) ≡ Some (Named w, ts)
build-name n w ts h =
    build-step n (Word w ∷ ts) ∙ ap (λ o. begin_with (calls n) o w ts) (name_is_free w h)
    ∙ ap (λ b. option_map {U = Made} (λ m. (Named m, ts)) (name_if b w)) (name_is_text w h)

-- ---- what options hold
pub mapped_some : {A B : Type 0} (f : A → B) (o : Option A) (b : B) → option_map f o ≡ Some b → (a : A) × (o ≡ Some a) × (f a ≡ b)
mapped_some f None b e = absurd cc
mapped_some f (Some a) b e = (a, refl, cc)

pub both_some : {A B C : Type 0} (f : A → B → C) (o : Option A) (p : Option B) (c : C) → both f o p ≡ Some c → (a : A) × (b : B) × (o ≡ Some a) × (p ≡ Some b) × (f a b ≡ c)
both_some f None p c e = absurd cc
both_some f (Some a) None c e = absurd cc
both_some f (Some a) (Some b) c e = (a, b, refl, refl, cc)

-- ---- what each step goes on with
abbrev close_step : Made → Option Made
close_step x = next_sign Close x.1 >>= (λ c. Some (x.0, c))

abbrev one_step : CurveOperator → Made → Option Made
one_step k x = Some (OnCurve k x.0, x.1)

abbrev number_last : NumberOperator → Expression ℚ → ℚ × List Token → Option Made
number_last k f y = Some (OnNumber k f y.0, y.1)

abbrev number_step : NumberOperator → Made → Option Made
number_step k x = number_behind Comma x.1 >>= number_last k x.0

abbrev two_last : PairOperator → Expression ℚ → Made → Option Made
two_last k f y = Some (OnTwo k f y.0, y.1)

abbrev two_step : ℕ → PairOperator → Made → Option Made
two_step m k x = curve_behind (build m) x.1 >>= two_last k x.0

abbrev pair_last : NumberPair → ℚ → ℚ × List Token → Option Made
pair_last k p y = Some (OfPair k p y.0, y.1)

abbrev pair_step : NumberPair → ℚ × List Token → Option Made
pair_step k x = number_behind Comma x.1 >>= pair_last k x.0

abbrev triple_last : NumberTriple → ℚ → ℚ → ℚ × List Token → Option Made
triple_last k p q z = Some (OfTriple k p q z.0, z.1)

abbrev triple_next : NumberTriple → ℚ → ℚ × List Token → Option Made
triple_next k p y = number_behind Comma y.1 >>= triple_last k p y.0

abbrev triple_step : NumberTriple → ℚ × List Token → Option Made
triple_step k x = number_behind Comma x.1 >>= triple_next k x.0

-- ---- one call
one_call : (m : ℕ) (k : CurveOperator) (e : Expression (List ℕ)) (rest : List Token)
    → build (suc m) (expression_tokens (OnCurve k e) ++ rest) ≡ ((build m (expression_tokens e ++ Mark Close ∷ rest) >>= one_step k) >>= close_step)
unfolding call_from one_from
one_call m k e rest =
    build-key (suc m) (words.OneCurve k) _
    ∙ ap (λ l. (build m l >>= one_step k) >>= close_step) (append_assoc (expression_tokens e) (Mark Close ∷ []) rest)

number_call : (m : ℕ) (k : NumberOperator) (e : Expression (List ℕ)) (w : List ℕ) (rest : List Token)
    → build (suc m) (expression_tokens (OnNumber k e w) ++ rest)
    ≡ ((build m (expression_tokens e ++ Mark Comma ∷ Word w ∷ Mark Close ∷ rest) >>= number_step k) >>= close_step)
unfolding call_from number_from
number_call m k e w rest =
    build-key (suc m) (words.CurveAndNumber k) _
    ∙ ap (λ l. (build m l >>= number_step k) >>= close_step) (append_assoc (expression_tokens e) (Mark Comma ∷ Word w ∷ Mark Close ∷ []) rest)

two_call : (m : ℕ) (k : PairOperator) (a b : Expression (List ℕ)) (rest : List Token)
    → build (suc m) (expression_tokens (OnTwo k a b) ++ rest)
    ≡ ((build m (expression_tokens a ++ Mark Comma ∷ (expression_tokens b ++ Mark Close ∷ rest)) >>= two_step m k) >>= close_step)
unfolding call_from two_from
two_call m k a b rest =
    build-key (suc m) (words.TwoCurves k) _
    ∙ ap (λ l. (build m l >>= two_step m k) >>= close_step)
    (append_assoc (expression_tokens a) (Mark Comma ∷ (expression_tokens b ++ Mark Close ∷ [])) rest
    ∙ ap (λ l. expression_tokens a ++ (Mark Comma ∷ l)) (append_assoc (expression_tokens b) (Mark Close ∷ []) rest))

pair_made : (m : ℕ) (k : NumberPair) (x y : List ℕ) (p q : ℚ) (rest : List Token) → number_in x ≡ Some p → number_in y ≡ Some q
    → build (suc m) (expression_tokens (OfPair k x y) ++ rest) ≡ Some (OfPair k p q, rest)
unfolding call_from pair_from
pair_made m k x y p q rest f g =
    build-key (suc m) (words.TwoNumbers k) _
    ∙ ap (λ o. (o >>= pair_step k) >>= close_step) (number_there x p (Mark Comma ∷ Word y ∷ Mark Close ∷ rest) f)
    ∙ ap (λ o. (o >>= pair_last k p) >>= close_step) (number_after y q (Mark Close ∷ rest) g)

triple_made : (m : ℕ) (k : NumberTriple) (x y z : List ℕ) (p q r : ℚ) (rest : List Token) → number_in x ≡ Some p → number_in y ≡ Some q → number_in z ≡ Some r
    → build (suc m) (expression_tokens (OfTriple k x y z) ++ rest) ≡ Some (OfTriple k p q r, rest)
unfolding call_from triple_from
triple_made m k x y z p q r rest f g h =
    build-key (suc m) (words.ThreeNumbers k) _
    ∙ ap (λ o. (o >>= triple_step k) >>= close_step) (number_there x p (Mark Comma ∷ Word y ∷ Mark Comma ∷ Word z ∷ Mark Close ∷ rest) f)
    ∙ ap (λ o. (o >>= triple_next k p) >>= close_step) (number_after y q (Mark Comma ∷ Word z ∷ Mark Close ∷ rest) g)
    ∙ ap (λ o. (o >>= triple_last k p q) >>= close_step) (number_after z r (Mark Close ∷ rest) h)

-- ---- what is shallow is made
pub build_ok : (d : Expression (List ℕ)) (n : ℕ) (rest : List Token) (e : Expression ℚ) → HasNames d → depth d ≤ n → numbers_read d ≡ Some e → build n (expression_tokens d ++ rest) ≡ Some (e, rest)
build_ok (Named w) n rest e h le r = let same : Named w ≡ e = cc in build-name n w rest h ∙ ap (λ x. Some (x, rest)) same
build_ok Nought n rest e h le r = let same : Nought ≡ e = cc in build-key n words.Zero rest ∙ ap (λ x. Some (x, rest)) same
build_ok (OfPair k x y) zero rest e h le r = absurd (omega arith)
build_ok (OfPair k x y) (suc m) rest e h le r =
    let s = both_some (λ p q. OfPair k p q) (number_in x) (number_in y) e r in
    pair_made m k x y s.0 s.1 rest s.2 s.3 ∙ ap (λ x. Some (x, rest)) s.4
build_ok (OfTriple k x y z) zero rest e h le r = absurd (omega arith)
build_ok (OfTriple k x y z) (suc m) rest e h le r =
    let s = both_some (λ (p : ℚ × ℚ) r. OfTriple k p.0 p.1 r) (both (λ p q. (p, q)) (number_in x) (number_in y)) (number_in z) e r in
    let f = both_some (λ p q. (p, q)) (number_in x) (number_in y) s.0 s.2 in
    let same : OfTriple k f.0 f.1 s.1 ≡ e = ap (λ (p : ℚ × ℚ). OfTriple k p.0 p.1 s.1) f.4 ∙ s.4 in
    triple_made m k x y z f.0 f.1 s.1 rest f.2 f.3 s.3 ∙ ap (λ x. Some (x, rest)) same
build_ok (OnCurve k d) zero rest e h le r = absurd (omega arith)
build_ok (OnCurve k d) (suc m) rest e h le r =
    let s = mapped_some (λ f. OnCurve k f) (numbers_read d) e r in
    let inner = build_ok d m (Mark Close ∷ rest) s.0 h (omega arith) s.1 in
    one_call m k d rest
    ∙ ap (λ o. (o >>= one_step k) >>= close_step) inner
    ∙ ap (λ x. Some (x, rest)) s.2
build_ok (OnNumber k d w) zero rest e h le r = absurd (omega arith)
build_ok (OnNumber k d w) (suc m) rest e h le r =
    let s = both_some (λ f p. OnNumber k f p) (numbers_read d) (number_in w) e r in
    let inner = build_ok d m (Mark Comma ∷ Word w ∷ Mark Close ∷ rest) s.0 h (omega arith) s.2 in
    number_call m k d w rest
    ∙ ap (λ o. (o >>= number_step k) >>= close_step) inner
    ∙ ap (λ o. (o >>= number_last k s.0) >>= close_step) (number_after w s.1 (Mark Close ∷ rest) s.3)
    ∙ ap (λ x. Some (x, rest)) s.4
build_ok (OnTwo k a b) zero rest e h le r = absurd (omega arith)
build_ok (OnTwo k a b) (suc m) rest e h le r =
    let s = both_some (λ f g. OnTwo k f g) (numbers_read a) (numbers_read b) e r in
    let first = build_ok a m (Mark Comma ∷ (expression_tokens b ++ Mark Close ∷ rest)) s.0 h.0 (omega arith) s.2 in
    let second = build_ok b m (Mark Close ∷ rest) s.1 h.1 (omega arith) s.3 in
    two_call m k a b rest
    ∙ ap (λ o. (o >>= two_step m k) >>= close_step) first
    ∙ ap (λ o. (o >>= two_last k s.0) >>= close_step) second
    ∙ ap (λ x. Some (x, rest)) s.4

-- ---- what is deeper is not
pub build_deep : (d : Expression (List ℕ)) (n : ℕ) (rest : List Token) (e : Expression ℚ) → HasNames d → n < depth d → numbers_read d ≡ Some e → build n (expression_tokens d ++ rest) ≡ None
build_deep (Named w) n rest e h lt r = absurd (omega arith)
build_deep Nought n rest e h lt r = absurd (omega arith)
build_deep (OfPair k x y) zero rest e h lt r = build-key zero (words.TwoNumbers k) _
build_deep (OfPair k x y) (suc m) rest e h lt r = absurd (omega arith)
build_deep (OfTriple k x y z) zero rest e h lt r = build-key zero (words.ThreeNumbers k) _
build_deep (OfTriple k x y z) (suc m) rest e h lt r = absurd (omega arith)
build_deep (OnCurve k d) zero rest e h lt r = build-key zero (words.OneCurve k) _
build_deep (OnCurve k d) (suc m) rest e h lt r =
    let s = mapped_some (λ f. OnCurve k f) (numbers_read d) e r in
    let inner = build_deep d m (Mark Close ∷ rest) s.0 h (omega arith) s.1 in
    one_call m k d rest
    ∙ ap (λ o. (o >>= one_step k) >>= close_step) inner
build_deep (OnNumber k d w) zero rest e h lt r = build-key zero (words.CurveAndNumber k) _
build_deep (OnNumber k d w) (suc m) rest e h lt r =
    let s = both_some (λ f p. OnNumber k f p) (numbers_read d) (number_in w) e r in
    let inner = build_deep d m (Mark Comma ∷ Word w ∷ Mark Close ∷ rest) s.0 h (omega arith) s.2 in
    number_call m k d w rest
    ∙ ap (λ o. (o >>= number_step k) >>= close_step) inner
build_deep (OnTwo k a b) zero rest e h lt r = build-key zero (words.TwoCurves k) _
build_deep (OnTwo k a b) (suc m) rest e h lt r =
    let s = both_some (λ f g. OnTwo k f g) (numbers_read a) (numbers_read b) e r in
    two_call m k a b rest
    ∙ ⊎_elim
    (λ lt_a. ap (λ o. (o >>= two_step m k) >>= close_step)
    (build_deep a m (Mark Comma ∷ (expression_tokens b ++ Mark Close ∷ rest)) s.0 h.0 lt_a s.2))
    (λ ge_a. ap (λ o. (o >>= two_step m k) >>= close_step)
    (build_ok a m (Mark Comma ∷ (expression_tokens b ++ Mark Close ∷ rest)) s.0 h.0 ge_a s.2)
    ∙ ap (λ o. (o >>= two_last k s.0) >>= close_step)
    (build_deep b m (Mark Close ∷ rest) s.1 h.1 (omega arith) s.3))
    (cases_lt m (depth a))

-- ---- statements
statement-key : (n : ℕ) (k : Keyword) (ts : List Token) → statement_from n (key k ∷ ts) ≡ statement_behind n k ts
unfolding statement_from
statement-key n k ts = ap (λ o. o >>= (λ k. statement_behind n k ts)) (keyword_spelt k)

at_there : (ts : List Token) → next_at (key words.At ∷ ts) ≡ Some ts
unfolding next_at
at_there ts = ap (λ o. behind_if (is_at o) ts) (keyword_spelt words.At)

abbrev let_last : List ℕ → Made → Option Told
let_last v m = Some (Lets v m.0, m.1)

let-step : (n : ℕ) (w : List ℕ) (ts : List Token) → IsName w → let_from n (Word w ∷ Mark Equals ∷ ts) ≡ (build n ts >>= let_last w)
unfolding let_from
let-step n w ts h = ap (λ b. name_if b w >>= (λ v. build n ts >>= let_last v)) (name_is_text w h)

abbrev value_last : Expression ℚ → ℚ × List Token → Option Told
value_last f x = Some (ValueAt f x.0, x.1)

abbrev value_step : Made → Option Told
value_step m = next_at m.1 >>= (λ a. next_number a >>= value_last m.0)

value-step : (n : ℕ) (d : Expression (List ℕ)) (w : List ℕ) (rest : List Token)
    → value_from n ((expression_tokens d ++ key words.At ∷ Word w ∷ []) ++ rest) ≡ (build n (expression_tokens d ++ key words.At ∷ Word w ∷ rest) >>= value_step)
unfolding value_from
value-step n d w rest = ap (λ l. build n l >>= value_step) (append_assoc (expression_tokens d) (key words.At ∷ Word w ∷ []) rest)

abbrev one_asked_last : OneAsked → Made → Option Told
one_asked_last q m = Some (AsksOne q m.0, m.1)

one_asked-step : (n : ℕ) (q : OneAsked) (ts : List Token) → one_asked_from n q ts ≡ (build n ts >>= one_asked_last q)
unfolding one_asked_from
one_asked-step n q ts = refl

abbrev two_asked_last : TwoAsked → Expression ℚ → Made → Option Told
two_asked_last q f b = Some (AsksTwo q f b.0, b.1)

abbrev two_asked_step : ℕ → TwoAsked → Made → Option Told
two_asked_step n q a = curve_behind (build n) a.1 >>= two_asked_last q a.0

two_asked-step : (n : ℕ) (q : TwoAsked) (a b : Expression (List ℕ)) (rest : List Token)
    → two_asked_from n q ((expression_tokens a ++ Mark Comma ∷ expression_tokens b) ++ rest) ≡ (build n (expression_tokens a ++ Mark Comma ∷ (expression_tokens b ++ rest)) >>= two_asked_step n q)
unfolding two_asked_from
two_asked-step n q a b rest = ap (λ l. build n l >>= two_asked_step n q) (append_assoc (expression_tokens a) (Mark Comma ∷ expression_tokens b) rest)

pub statement_ok : (d : Statement (List ℕ)) (n : ℕ) (rest : List Token) (s : Statement ℚ) → HasNamesIn d → depth_in d ≤ n → numbers_read_in d ≡ Some s → statement_from n (statement_tokens d ++ rest) ≡ Some (s, rest)
statement_ok (Lets w d) n rest s h le r =
    let p = mapped_some (λ f. Lets w f) (numbers_read d) s r in
    statement-key n words.Let _ ∙ let-step n w _ h.0 ∙ ap (λ o. o >>= let_last w) (build_ok d n rest p.0 h.1 le p.1) ∙ ap (λ x. Some (x, rest)) p.2
statement_ok (ValueAt d w) n rest s h le r =
    let p = both_some (λ f x. ValueAt f x) (numbers_read d) (number_in w) s r in
    statement-key n words.Value _ ∙ value-step n d w rest ∙ ap (λ o. o >>= value_step) (build_ok d n (key words.At ∷ Word w ∷ rest) p.0 h le p.2)
    ∙ ap (λ o. o >>= (λ a. next_number a >>= value_last p.0)) (at_there (Word w ∷ rest)) ∙ ap (λ o. o >>= value_last p.0) (number_there w p.1 rest p.3) ∙ ap (λ x. Some (x, rest)) p.4
statement_ok (AsksOne q d) n rest s h le r =
    let p = mapped_some (λ f. AsksOne q f) (numbers_read d) s r in
    statement-key n (words.AskOne q) _ ∙ one_asked-step n q _ ∙ ap (λ o. o >>= one_asked_last q) (build_ok d n rest p.0 h le p.1) ∙ ap (λ x. Some (x, rest)) p.2
statement_ok (AsksTwo q a b) n rest s h le r =
    let p = both_some (λ f g. AsksTwo q f g) (numbers_read a) (numbers_read b) s r in
    statement-key n (words.AskTwo q) _ ∙ two_asked-step n q a b rest
    ∙ ap (λ o. o >>= two_asked_step n q) (build_ok a n (Mark Comma ∷ (expression_tokens b ++ rest)) p.0 h.0 (omega arith) p.2)
    ∙ ap (λ o. o >>= two_asked_last q p.0) (build_ok b n rest p.1 h.1 (omega arith) p.3) ∙ ap (λ x. Some (x, rest)) p.4

pub statement_deep : (d : Statement (List ℕ)) (n : ℕ) (rest : List Token) (s : Statement ℚ) → HasNamesIn d → n < depth_in d → numbers_read_in d ≡ Some s → statement_from n (statement_tokens d ++ rest) ≡ None
statement_deep (Lets w d) n rest s h lt r =
    let p = mapped_some (λ f. Lets w f) (numbers_read d) s r in
    statement-key n words.Let _ ∙ let-step n w _ h.0 ∙ ap (λ o. o >>= let_last w) (build_deep d n rest p.0 h.1 lt p.1)
statement_deep (ValueAt d w) n rest s h lt r =
    let p = both_some (λ f x. ValueAt f x) (numbers_read d) (number_in w) s r in
    statement-key n words.Value _ ∙ value-step n d w rest ∙ ap (λ o. o >>= value_step) (build_deep d n (key words.At ∷ Word w ∷ rest) p.0 h lt p.2)
statement_deep (AsksOne q d) n rest s h lt r =
    let p = mapped_some (λ f. AsksOne q f) (numbers_read d) s r in
    statement-key n (words.AskOne q) _ ∙ one_asked-step n q _ ∙ ap (λ o. o >>= one_asked_last q) (build_deep d n rest p.0 h lt p.1)
statement_deep (AsksTwo q a b) n rest s h lt r =
    let p = both_some (λ f g. AsksTwo q f g) (numbers_read a) (numbers_read b) s r in
    statement-key n (words.AskTwo q) _ ∙ two_asked-step n q a b rest
    ∙ ⊎_elim
    (λ lt_a. ap (λ o. o >>= two_asked_step n q) (build_deep a n (Mark Comma ∷ (expression_tokens b ++ rest)) p.0 h.0 lt_a p.2))
    (λ ge_a. ap (λ o. o >>= two_asked_step n q) (build_ok a n (Mark Comma ∷ (expression_tokens b ++ rest)) p.0 h.0 ge_a p.2)
    ∙ ap (λ o. o >>= two_asked_last q p.0) (build_deep b n rest p.1 h.1 (omega arith) p.3))
    (cases_lt n (depth a))
