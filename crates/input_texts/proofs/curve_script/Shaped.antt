-- Tokens are of the symbols exactly where they are spelt so.
use Rattle.std.proofs.Common.{◌≡◌, ℕ, List, [], ◌∷◌, ◌++◌, Option, Some, None, Bool, true, false, refl, sym, ap, ◌∙◌, subst}
use Rattle.std.specs.Prelude.{◌&&◌, is_some, option_map}
use Rattle.std.proofs.lemmas.List.{append_assoc, append-nil}
use Rattle.rational.specs.Rational.{ℚ}
use Rattle.input_texts.specs.declared.curve_script.token.Sign.{Sign}
use Rattle.input_texts.specs.declared.curve_script.token.Sign.TheVariants as signs
use Rattle.input_texts.specs.declared.curve_script.shape.Symbol.{Symbol}
use Rattle.input_texts.specs.declared.curve_script.shape.Symbol.TheVariants.{Statement as Whole, Curve, Number, Name, At, Sign as Signed}
use Rattle.input_texts.specs.declared.curve_script.keyword.Keyword.{Keyword}
use Rattle.input_texts.specs.declared.curve_script.keyword.Keyword.TheVariants as words
use Rattle.input_texts.specs.curve_script.Tokens.{Token, Word, Mark}
use Rattle.input_texts.specs.curve_script.Keywords.{spelling, keyword_of}
use Rattle.input_texts.specs.curve_script.Grammar.{Expression, Named, Nought, OfPair, OfTriple, OnCurve, OnNumber, OnTwo, Statement, Lets, ValueAt, AsksOne, AsksTwo, key, expression_tokens, statement_tokens, IsName, HasNames, HasNamesIn, number_in, both, numbers_read, numbers_read_in}
use Rattle.input_texts.specs.curve_script.Shapes.{is_name_text, when, curve_word, name_word, statement_word, behind_curve, behind_statement, is_at, same_sign, after, is_number_there, goes_on, run}
use Rattle.input_texts.proofs.curve_script.Words.{keyword_spelt, keyword_found, name_from_text, name_is_text, name_is_free}
use Rattle.std.proofs.Math.Bool.{and-true}

-- ---- what is spelt so is of the symbols
pub run_sign : (s : Sign) (ss : List Symbol) (n : Bool) (ts : List Token) → run (Signed s ∷ ss) n (Mark s ∷ ts) ≡ run ss n ts
unfolding run
run_sign s ss n ts = go s ∙ ap (λ b. run ss b ts) (and-true n)
  where
    go : (s : Sign) → goes_on (when (same_sign s s)) (λ new. run (new ++ ss) (n && true) ts) ≡ run ss (n && true) ts
    go signs.Open = refl
    go signs.Close = refl
    go signs.Comma = refl
    go signs.Equals = refl

    and-true : (n : Bool) → (n && true) ≡ n
    and-true true = refl
    and-true false = refl

pub run_number : (w : List ℕ) (ss : List Symbol) (n : Bool) (ts : List Token) → run (Number ∷ ss) n (Word w ∷ ts) ≡ run ss (n && is_some (number_in w)) ts
unfolding run
run_number w ss n ts = refl

-- a keyword where a curve is to come
run_key : (k : Keyword) (new ss : List Symbol) (n : Bool) (ts : List Token) → behind_curve k ≡ Some new → run (Curve ∷ ss) n (key k ∷ ts) ≡ run (new ++ ss) n ts
unfolding run
run_key k new ss n ts e =
    ap (λ o. goes_on (curve_word o (spelling k)) (λ new. run (new ++ ss) (n && true) ts)) (keyword_spelt k)
    ∙ ap (λ o. goes_on o (λ new. run (new ++ ss) (n && true) ts)) e
    ∙ ap (λ b. run (new ++ ss) b ts) (and-true n)

run_name : (w : List ℕ) (ss : List Symbol) (n : Bool) (ts : List Token) → IsName w → run (Curve ∷ ss) n (Word w ∷ ts) ≡ run ss n ts
unfolding run
run_name w ss n ts h =
    ap (λ o. goes_on (curve_word o w) (λ new. run (new ++ ss) (n && true) ts)) (name_is_free w h)
    ∙ ap (λ b. goes_on (when b) (λ new. run (new ++ ss) (n && true) ts)) (name_is_text w h)
    ∙ ap (λ b. run ss b ts) (and-true n)

-- whether both of two are there
and_both : {A B C : Type 0} (f : A → B → C) (a : Option A) (b : Option B) (n : Bool) → ((n && is_some a) && is_some b) ≡ (n && is_some (both f a b))
and_both f None b true = refl
and_both f (Some a) None true = refl
and_both f (Some a) (Some b) true = refl
and_both f a b false = refl

and_mapped : {A B : Type 0} (f : A → B) (a : Option A) (n : Bool) → (n && is_some a) ≡ (n && is_some (option_map f a))
and_mapped f None n = refl
and_mapped f (Some a) n = refl

pub run_expression : (e : Expression (List ℕ)) (ss : List Symbol) (n : Bool) (rest : List Token) → HasNames e
    → run (Curve ∷ ss) n (expression_tokens e ++ rest) ≡ run ss (n && is_some (numbers_read e)) rest
run_expression (Named w) ss n rest h = run_name w ss n rest h ∙ ap (λ b. run ss b rest) (sym (and-true n))
run_expression Nought ss n rest h = run_key words.Zero [] ss n rest refl ∙ ap (λ b. run ss b rest) (sym (and-true n))
run_expression (OfPair k x y) ss n rest h =
    run_key (words.TwoNumbers k) _ ss n _ refl ∙ run_sign signs.Open _ n _ ∙ run_number x _ n _ ∙ run_sign signs.Comma _ _ _ ∙ run_number y _ _ _ ∙ run_sign signs.Close ss _ rest
    ∙ ap (λ b. run ss b rest) (and_both (λ p q. OfPair k p q) (number_in x) (number_in y) n)
run_expression (OfTriple k x y z) ss n rest h =
    run_key (words.ThreeNumbers k) _ ss n _ refl ∙ run_sign signs.Open _ n _ ∙ run_number x _ n _ ∙ run_sign signs.Comma _ _ _ ∙ run_number y _ _ _ ∙ run_sign signs.Comma _ _ _
    ∙ run_number z _ _ _ ∙ run_sign signs.Close ss _ rest
    ∙ ap (λ b. run ss (b && is_some (number_in z)) rest) (and_both (λ p q. (p, q)) (number_in x) (number_in y) n)
    ∙ ap (λ b. run ss b rest) (and_both (λ (p : ℚ × ℚ) r. OfTriple k p.0 p.1 r) (both (λ p q. (p, q)) (number_in x) (number_in y)) (number_in z) n)
run_expression (OnCurve k e) ss n rest h =
    ap (λ l. run (Curve ∷ ss) n (key (words.OneCurve k) ∷ Mark signs.Open ∷ l)) (append_assoc (expression_tokens e) (Mark signs.Close ∷ []) rest)
    ∙ run_key (words.OneCurve k) _ ss n _ refl ∙ run_sign signs.Open _ n _
    ∙ run_expression e (Signed signs.Close ∷ ss) n (Mark signs.Close ∷ rest) h
    ∙ run_sign signs.Close ss _ rest
    ∙ ap (λ b. run ss b rest) (and_mapped (λ f. OnCurve k f) (numbers_read e) n)
run_expression (OnNumber k e x) ss n rest h =
    ap (λ l. run (Curve ∷ ss) n (key (words.CurveAndNumber k) ∷ Mark signs.Open ∷ l)) (append_assoc (expression_tokens e) (Mark signs.Comma ∷ Word x ∷ Mark signs.Close ∷ []) rest)
    ∙ run_key (words.CurveAndNumber k) _ ss n _ refl ∙ run_sign signs.Open _ n _
    ∙ run_expression e (Signed signs.Comma ∷ Number ∷ Signed signs.Close ∷ ss) n (Mark signs.Comma ∷ Word x ∷ Mark signs.Close ∷ rest) h
    ∙ run_sign signs.Comma _ _ _ ∙ run_number x _ _ _ ∙ run_sign signs.Close ss _ rest
    ∙ ap (λ b. run ss b rest) (and_both (λ f p. OnNumber k f p) (numbers_read e) (number_in x) n)
run_expression (OnTwo k a b) ss n rest h =
    ap (λ l. run (Curve ∷ ss) n (key (words.TwoCurves k) ∷ Mark signs.Open ∷ l))
    (append_assoc (expression_tokens a) (Mark signs.Comma ∷ (expression_tokens b ++ Mark signs.Close ∷ [])) rest
    ∙ ap (λ l. expression_tokens a ++ (Mark signs.Comma ∷ l)) (append_assoc (expression_tokens b) (Mark signs.Close ∷ []) rest))
    ∙ run_key (words.TwoCurves k) _ ss n _ refl ∙ run_sign signs.Open _ n _
    ∙ run_expression a (Signed signs.Comma ∷ Curve ∷ Signed signs.Close ∷ ss) n (Mark signs.Comma ∷ (expression_tokens b ++ Mark signs.Close ∷ rest)) h.0
    ∙ run_sign signs.Comma _ _ _
    ∙ run_expression b (Signed signs.Close ∷ ss) _ (Mark signs.Close ∷ rest) h.1
    ∙ run_sign signs.Close ss _ rest
    ∙ ap (λ c. run ss c rest) (and_both (λ f g. OnTwo k f g) (numbers_read a) (numbers_read b) n)

-- a keyword where a statement is to come
run_statement_key : (k : Keyword) (new ss : List Symbol) (n : Bool) (ts : List Token) → behind_statement k ≡ Some new → run (Whole ∷ ss) n (key k ∷ ts) ≡ run (new ++ ss) n ts
unfolding run
run_statement_key k new ss n ts e =
    ap (λ o. goes_on (statement_word o) (λ new. run (new ++ ss) (n && true) ts)) (keyword_spelt k)
    ∙ ap (λ o. goes_on o (λ new. run (new ++ ss) (n && true) ts)) e
    ∙ ap (λ b. run (new ++ ss) b ts) (and-true n)

run_new_name : (w : List ℕ) (ss : List Symbol) (n : Bool) (ts : List Token) → IsName w → run (Name ∷ ss) n (Word w ∷ ts) ≡ run ss n ts
unfolding run
run_new_name w ss n ts h =
    ap (λ o. goes_on (name_word o w) (λ new. run (new ++ ss) (n && true) ts)) (name_is_free w h)
    ∙ ap (λ b. goes_on (when b) (λ new. run (new ++ ss) (n && true) ts)) (name_is_text w h)
    ∙ ap (λ b. run ss b ts) (and-true n)

run_at : (ss : List Symbol) (n : Bool) (ts : List Token) → run (At ∷ ss) n (key words.At ∷ ts) ≡ run ss n ts
unfolding run
run_at ss n ts = ap (λ o. goes_on (when (is_at o)) (λ new. run (new ++ ss) (n && true) ts)) (keyword_spelt words.At) ∙ ap (λ b. run ss b ts) (and-true n)

pub run_statement : (d : Statement (List ℕ)) (ss : List Symbol) (n : Bool) (rest : List Token) → HasNamesIn d
    → run (Whole ∷ ss) n (statement_tokens d ++ rest) ≡ run ss (n && is_some (numbers_read_in d)) rest
run_statement (Lets w e) ss n rest h =
    run_statement_key words.Let _ ss n _ refl ∙ run_new_name w _ n _ h.0 ∙ run_sign signs.Equals _ n _ ∙ run_expression e ss n rest h.1
    ∙ ap (λ b. run ss b rest) (and_mapped (λ f. Lets w f) (numbers_read e) n)
run_statement (ValueAt e x) ss n rest h =
    ap (λ l. run (Whole ∷ ss) n (key words.Value ∷ l)) (append_assoc (expression_tokens e) (key words.At ∷ Word x ∷ []) rest)
    ∙ run_statement_key words.Value _ ss n _ refl ∙ run_expression e (At ∷ Number ∷ ss) n (key words.At ∷ Word x ∷ rest) h ∙ run_at _ _ _ ∙ run_number x ss _ rest
    ∙ ap (λ b. run ss b rest) (and_both (λ f p. ValueAt f p) (numbers_read e) (number_in x) n)
run_statement (AsksOne q e) ss n rest h =
    run_statement_key (words.AskOne q) _ ss n _ refl ∙ run_expression e ss n rest h
    ∙ ap (λ b. run ss b rest) (and_mapped (λ f. AsksOne q f) (numbers_read e) n)
run_statement (AsksTwo q a b) ss n rest h =
    ap (λ l. run (Whole ∷ ss) n (key (words.AskTwo q) ∷ l)) (append_assoc (expression_tokens a) (Mark signs.Comma ∷ expression_tokens b) rest)
    ∙ run_statement_key (words.AskTwo q) _ ss n _ refl ∙ run_expression a (Signed signs.Comma ∷ Curve ∷ ss) n (Mark signs.Comma ∷ (expression_tokens b ++ rest)) h.0
    ∙ run_sign signs.Comma _ _ _ ∙ run_expression b ss _ rest h.1
    ∙ ap (λ c. run ss c rest) (and_both (λ f g. AsksTwo q f g) (numbers_read a) (numbers_read b) n)

-- ---- what is of the symbols is spelt so
-- the tokens are spelt by these symbols in order
abbrev Spelt : List Symbol → List Token → Type 0
Spelt [] ts = ts ≡ []
Spelt (Whole ∷ ss) ts = (d : Statement (List ℕ)) × (rest : List Token) × HasNamesIn d × (ts ≡ statement_tokens d ++ rest) × Spelt ss rest
Spelt (Curve ∷ ss) ts = (e : Expression (List ℕ)) × (rest : List Token) × HasNames e × (ts ≡ expression_tokens e ++ rest) × Spelt ss rest
Spelt (Number ∷ ss) ts = (w : List ℕ) × (rest : List Token) × (ts ≡ Word w ∷ rest) × Spelt ss rest
Spelt (Name ∷ ss) ts = (w : List ℕ) × (rest : List Token) × IsName w × (ts ≡ Word w ∷ rest) × Spelt ss rest
Spelt (At ∷ ss) ts = (rest : List Token) × (ts ≡ key words.At ∷ rest) × Spelt ss rest
Spelt (Signed s ∷ ss) ts = (rest : List Token) × (ts ≡ Mark s ∷ rest) × Spelt ss rest

-- an expression that begins with a keyword
curve_spelt : (k : Keyword) (new ss : List Symbol) (w : List ℕ) (ts : List Token) → spelling k ≡ w → behind_curve k ≡ Some new → Spelt (new ++ ss) ts → Spelt (Curve ∷ ss) (Word w ∷ ts)
curve_spelt words.Let new ss w ts f e h = absurd cc
curve_spelt words.At new ss w ts f e h = absurd cc
curve_spelt words.Value new ss w ts f e h = absurd cc
curve_spelt (words.AskOne q) new ss w ts f e h = absurd cc
curve_spelt (words.AskTwo q) new ss w ts f e h = absurd cc
curve_spelt words.Zero new ss w ts f e h =
    let same : [] ≡ new = cc in
    let h' = subst (λ l. Spelt (l ++ ss) ts) (sym same) h in
    (Nought, ts, tt, ap (λ v. Word v ∷ ts) (sym f), h')
curve_spelt (words.TwoNumbers k) new ss w ts f e h =
    let same : (Signed signs.Open ∷ Number ∷ Signed signs.Comma ∷ Number ∷ Signed signs.Close ∷ []) ≡ new = cc in
    let o = subst (λ l. Spelt (l ++ ss) ts) (sym same) h in
    let x = o.2 in let c = x.3 in let y = c.2 in let z = y.3 in
    let all : Word w ∷ ts ≡ key (words.TwoNumbers k) ∷ Mark signs.Open ∷ Word x.0 ∷ Mark signs.Comma ∷ Word y.0 ∷ Mark signs.Close ∷ z.0 = cc (f, o.1, x.2, c.1, y.2, z.1) in
    (OfPair k x.0 y.0, z.0, tt, all, z.2)
curve_spelt (words.ThreeNumbers k) new ss w ts f e h =
    let same : (Signed signs.Open ∷ Number ∷ Signed signs.Comma ∷ Number ∷ Signed signs.Comma ∷ Number ∷ Signed signs.Close ∷ []) ≡ new = cc in
    let o = subst (λ l. Spelt (l ++ ss) ts) (sym same) h in
    let x = o.2 in let c = x.3 in let y = c.2 in let d = y.3 in let u = d.2 in let z = u.3 in
    let all : Word w ∷ ts ≡ key (words.ThreeNumbers k) ∷ Mark signs.Open ∷ Word x.0 ∷ Mark signs.Comma ∷ Word y.0 ∷ Mark signs.Comma ∷ Word u.0 ∷ Mark signs.Close ∷ z.0
    = cc (f, o.1, x.2, c.1, y.2, d.1, u.2, z.1) in
    (OfTriple k x.0 y.0 u.0, z.0, tt, all, z.2)
curve_spelt (words.OneCurve k) new ss w ts f e h =
    let same : (Signed signs.Open ∷ Curve ∷ Signed signs.Close ∷ []) ≡ new = cc in
    let o = subst (λ l. Spelt (l ++ ss) ts) (sym same) h in
    let x = o.2 in let z = x.4 in
    let flat = append_assoc (expression_tokens x.0) (Mark signs.Close ∷ []) z.0 in
    let all : Word w ∷ ts ≡ key (words.OneCurve k) ∷ Mark signs.Open ∷ ((expression_tokens x.0 ++ Mark signs.Close ∷ []) ++ z.0) = cc (f, o.1, x.3, z.1, flat) in
    (OnCurve k x.0, z.0, x.2, all, z.2)
curve_spelt (words.CurveAndNumber k) new ss w ts f e h =
    let same : (Signed signs.Open ∷ Curve ∷ Signed signs.Comma ∷ Number ∷ Signed signs.Close ∷ []) ≡ new = cc in
    let o = subst (λ l. Spelt (l ++ ss) ts) (sym same) h in
    let x = o.2 in let c = x.4 in let y = c.2 in let z = y.3 in
    let flat = append_assoc (expression_tokens x.0) (Mark signs.Comma ∷ Word y.0 ∷ Mark signs.Close ∷ []) z.0 in
    let all : Word w ∷ ts ≡ key (words.CurveAndNumber k) ∷ Mark signs.Open ∷ ((expression_tokens x.0 ++ Mark signs.Comma ∷ Word y.0 ∷ Mark signs.Close ∷ []) ++ z.0) = cc (f, o.1, x.3, c.1, y.2, z.1, flat) in
    (OnNumber k x.0 y.0, z.0, x.2, all, z.2)
curve_spelt (words.TwoCurves k) new ss w ts f e h =
    let same : (Signed signs.Open ∷ Curve ∷ Signed signs.Comma ∷ Curve ∷ Signed signs.Close ∷ []) ≡ new = cc in
    let o = subst (λ l. Spelt (l ++ ss) ts) (sym same) h in
    let x = o.2 in let c = x.4 in let y = c.2 in let z = y.4 in
    let flat = append_assoc (expression_tokens x.0) (Mark signs.Comma ∷ (expression_tokens y.0 ++ Mark signs.Close ∷ [])) z.0
    ∙ ap (λ l. expression_tokens x.0 ++ (Mark signs.Comma ∷ l)) (append_assoc (expression_tokens y.0) (Mark signs.Close ∷ []) z.0) in
    let all : Word w ∷ ts ≡ key (words.TwoCurves k) ∷ Mark signs.Open ∷ ((expression_tokens x.0 ++ Mark signs.Comma ∷ (expression_tokens y.0 ++ Mark signs.Close ∷ [])) ++ z.0) = cc (f, o.1, x.3, c.1, y.3, z.1, flat) in
    (OnTwo k x.0 y.0, z.0, (x.2, y.2), all, z.2)

-- a statement that begins with a keyword
statement_spelt : (k : Keyword) (new ss : List Symbol) (w : List ℕ) (ts : List Token) → spelling k ≡ w → behind_statement k ≡ Some new → Spelt (new ++ ss) ts → Spelt (Whole ∷ ss) (Word w ∷ ts)
statement_spelt words.Let new ss w ts f e h =
    let same : (Name ∷ Signed signs.Equals ∷ Curve ∷ []) ≡ new = cc in
    let o = subst (λ l. Spelt (l ++ ss) ts) (sym same) h in
    let q = o.4 in let x = q.2 in
    let all : Word w ∷ ts ≡ key words.Let ∷ Word o.0 ∷ Mark signs.Equals ∷ (expression_tokens x.0 ++ x.1) = cc (f, o.3, q.1, x.3) in
    (Lets o.0 x.0, x.1, (o.2, x.2), all, x.4)
statement_spelt words.At new ss w ts f e h = absurd cc
statement_spelt words.Value new ss w ts f e h =
    let same : (Curve ∷ At ∷ Number ∷ []) ≡ new = cc in
    let x = subst (λ l. Spelt (l ++ ss) ts) (sym same) h in
    let a = x.4 in let y = a.2 in
    let flat = append_assoc (expression_tokens x.0) (key words.At ∷ Word y.0 ∷ []) y.1 in
    let all : Word w ∷ ts ≡ key words.Value ∷ ((expression_tokens x.0 ++ key words.At ∷ Word y.0 ∷ []) ++ y.1) = cc (f, x.3, a.1, y.2, flat) in
    (ValueAt x.0 y.0, y.1, x.2, all, y.3)
statement_spelt (words.AskOne q) new ss w ts f e h =
    let same : (Curve ∷ []) ≡ new = cc in
    let x = subst (λ l. Spelt (l ++ ss) ts) (sym same) h in
    let all : Word w ∷ ts ≡ key (words.AskOne q) ∷ (expression_tokens x.0 ++ x.1) = cc (f, x.3) in
    (AsksOne q x.0, x.1, x.2, all, x.4)
statement_spelt (words.AskTwo q) new ss w ts f e h =
    let same : (Curve ∷ Signed signs.Comma ∷ Curve ∷ []) ≡ new = cc in
    let x = subst (λ l. Spelt (l ++ ss) ts) (sym same) h in
    let c = x.4 in let y = c.2 in
    let flat = append_assoc (expression_tokens x.0) (Mark signs.Comma ∷ expression_tokens y.0) y.1 in
    let all : Word w ∷ ts ≡ key (words.AskTwo q) ∷ ((expression_tokens x.0 ++ Mark signs.Comma ∷ expression_tokens y.0) ++ y.1) = cc (f, x.3, c.1, y.3, flat) in
    (AsksTwo q x.0 y.0, y.1, (x.2, y.2), all, y.4)
statement_spelt words.Zero new ss w ts f e h = absurd cc
statement_spelt (words.TwoNumbers k) new ss w ts f e h = absurd cc
statement_spelt (words.ThreeNumbers k) new ss w ts f e h = absurd cc
statement_spelt (words.OneCurve k) new ss w ts f e h = absurd cc
statement_spelt (words.CurveAndNumber k) new ss w ts f e h = absurd cc
statement_spelt (words.TwoCurves k) new ss w ts f e h = absurd cc

-- one token and what the rest is
same_signs : (s t : Sign) → same_sign s t ≡ true → s ≡ t
same_signs signs.Open signs.Open e = refl
same_signs signs.Close signs.Close e = refl
same_signs signs.Comma signs.Comma e = refl
same_signs signs.Equals signs.Equals e = refl
same_signs signs.Open signs.Close e = absurd cc
same_signs signs.Open signs.Comma e = absurd cc
same_signs signs.Open signs.Equals e = absurd cc
same_signs signs.Close signs.Open e = absurd cc
same_signs signs.Close signs.Comma e = absurd cc
same_signs signs.Close signs.Equals e = absurd cc
same_signs signs.Comma signs.Open e = absurd cc
same_signs signs.Comma signs.Close e = absurd cc
same_signs signs.Comma signs.Equals e = absurd cc
same_signs signs.Equals signs.Open e = absurd cc
same_signs signs.Equals signs.Close e = absurd cc
same_signs signs.Equals signs.Comma e = absurd cc

at_only : (o : Option Keyword) → is_at o ≡ true → o ≡ Some words.At
at_only None e = absurd cc
at_only (Some words.At) e = refl
at_only (Some words.Let) e = absurd cc
at_only (Some words.Value) e = absurd cc
at_only (Some (words.AskOne q)) e = absurd cc
at_only (Some (words.AskTwo q)) e = absurd cc
at_only (Some words.Zero) e = absurd cc
at_only (Some (words.TwoNumbers k)) e = absurd cc
at_only (Some (words.ThreeNumbers k)) e = absurd cc
at_only (Some (words.OneCurve k)) e = absurd cc
at_only (Some (words.CurveAndNumber k)) e = absurd cc
at_only (Some (words.TwoCurves k)) e = absurd cc

-- what goes on is spelt so
abbrev Later : List Symbol → List Token → (List Symbol → Option Bool) → Bool → Type 0
Later ss ts go b = (new : List Symbol) → go new ≡ Some b → Spelt (new ++ ss) ts

gone_on : (o : Option (List Symbol)) (go : List Symbol → Option Bool) (b : Bool) → goes_on o go ≡ Some b → (new : List Symbol) × (o ≡ Some new) × (go new ≡ Some b)
gone_on None go b e = absurd cc
gone_on (Some new) go b e = (new, refl, e)

statement_at : (w : List ℕ) (ss : List Symbol) (ts : List Token) (o : Option Keyword) → keyword_of w ≡ o → (new : List Symbol) → statement_word o ≡ Some new → Spelt (new ++ ss) ts → Spelt (Whole ∷ ss) (Word w ∷ ts)
statement_at w ss ts None f new e h = absurd cc
statement_at w ss ts (Some k) f new e h = statement_spelt k new ss w ts (keyword_found w k f) e h

when_only : (b : Bool) (new : List Symbol) → when b ≡ Some new → (b ≡ true) × ([] ≡ new)
when_only true new e = (refl, cc)
when_only false new e = absurd cc

curve_at : (w : List ℕ) (ss : List Symbol) (ts : List Token) (o : Option Keyword) → keyword_of w ≡ o → (new : List Symbol) → curve_word o w ≡ Some new → Spelt (new ++ ss) ts → Spelt (Curve ∷ ss) (Word w ∷ ts)
curve_at w ss ts None f new e h =
    let only = when_only (is_name_text w) new e in
    (Named w, ts, name_from_text w f only.0, refl, subst (λ l. Spelt (l ++ ss) ts) (sym only.1) h)
curve_at w ss ts (Some k) f new e h = curve_spelt k new ss w ts (keyword_found w k f) e h

name_at : (w : List ℕ) (ss : List Symbol) (ts : List Token) (o : Option Keyword) → keyword_of w ≡ o → (new : List Symbol) → name_word o w ≡ Some new → Spelt (new ++ ss) ts → Spelt (Name ∷ ss) (Word w ∷ ts)
name_at w ss ts None f new e h =
    let only = when_only (is_name_text w) new e in
    (w, ts, name_from_text w f only.0, refl, subst (λ l. Spelt (l ++ ss) ts) (sym only.1) h)
name_at w ss ts (Some k) f new e h = absurd cc

token_spelt : (s : Symbol) (t : Token) (ss : List Symbol) (ts : List Token) (new : List Symbol) → after s t ≡ Some new → Spelt (new ++ ss) ts → Spelt (s ∷ ss) (t ∷ ts)
token_spelt Whole (Word w) ss ts new e h = statement_at w ss ts (keyword_of w) refl new e h
token_spelt Whole (Mark t) ss ts new e h = absurd cc
token_spelt Curve (Word w) ss ts new e h = curve_at w ss ts (keyword_of w) refl new e h
token_spelt Curve (Mark t) ss ts new e h = absurd cc
token_spelt Number (Word w) ss ts new e h = let same : [] ≡ new = cc in (w, ts, refl, subst (λ l. Spelt (l ++ ss) ts) (sym same) h)
token_spelt Number (Mark t) ss ts new e h = absurd cc
token_spelt Name (Word w) ss ts new e h = name_at w ss ts (keyword_of w) refl new e h
token_spelt Name (Mark t) ss ts new e h = absurd cc
token_spelt At (Word w) ss ts new e h =
    let only = when_only (is_at (keyword_of w)) new e in
    let spelt = keyword_found w words.At (at_only (keyword_of w) only.0) in
    (ts, ap (λ v. Word v ∷ ts) (sym spelt), subst (λ l. Spelt (l ++ ss) ts) (sym only.1) h)
token_spelt At (Mark t) ss ts new e h = absurd cc
token_spelt (Signed s) (Word w) ss ts new e h = absurd cc
token_spelt (Signed s) (Mark t) ss ts new e h =
    let only = when_only (same_sign s t) new e in
    (ts, ap (λ v. Mark v ∷ ts) (sym (same_signs s t only.0)), subst (λ l. Spelt (l ++ ss) ts) (sym only.1) h)

pub spelt : (ts : List Token) (ss : List Symbol) (n b : Bool) → run ss n ts ≡ Some b → Spelt ss ts
unfolding run
spelt [] [] n b e = refl
spelt [] (s ∷ ss) n b e = absurd cc
spelt (t ∷ ts) [] n b e = absurd cc
spelt (t ∷ ts) (s ∷ ss) n b e =
    let on = gone_on (after s t) (λ new. run (new ++ ss) (n && is_number_there s t) ts) b e in
    token_spelt s t ss ts on.0 on.1 (spelt ts (on.0 ++ ss) (n && is_number_there s t) b on.2)

-- ---- whole lines
-- tokens are of a statement where they are spelt as one, and the test says whether each number is one
pub shape_spelt : (ts : List Token) (b : Bool) → run (Whole ∷ []) true ts ≡ Some b → (d : Statement (List ℕ)) × HasNamesIn d × (ts ≡ statement_tokens d) × (b ≡ is_some (numbers_read_in d))
unfolding run
shape_spelt ts b e =
    let h = spelt ts (Whole ∷ []) true b e in
    let all : ts ≡ statement_tokens h.0 ++ [] = h.3 ∙ ap (λ l. statement_tokens h.0 ++ l) h.4 in
    let flag = sym e ∙ ap (run (Whole ∷ []) true) all ∙ run_statement h.0 [] true [] h.2 ∙ at_end (is_some (numbers_read_in h.0)) in
    (h.0, h.2, all ∙ append-nil (statement_tokens h.0), same flag)
  where
    at_end : (b : Bool) → run [] b [] ≡ Some b
    at_end b = refl

    same : {x y : Bool} → Some x ≡ Some y → x ≡ y
    same p = cc

pub spelt_shape : (d : Statement (List ℕ)) → HasNamesIn d → run (Whole ∷ []) true (statement_tokens d) ≡ Some (is_some (numbers_read_in d))
unfolding run
spelt_shape d h = ap (run (Whole ∷ []) true) (sym (append-nil (statement_tokens d))) ∙ run_statement d [] true [] h
