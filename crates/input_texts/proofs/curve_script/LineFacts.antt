-- What is known of a line from its tokens.
use Rattle.std.proofs.Common.{◌≡◌, ℕ, suc, ◌<◌, ◌≤◌, List, [], ◌∷◌, ◌++◌, Option, Some, None, Bool, true, false, refl, sym, ap, ap₂, ◌∙◌, subst, ⊎_elim}
use Rattle.std.specs.Prelude.{is_some, max}
use Rattle.std.proofs.lemmas.List.{append-nil}
use Rattle.std.proofs.lemmas.Bool.{cases_lt}
use Rattle.rational.specs.Rational.{ℚ}
use Rattle.input_texts.specs.declared.curve_script.shape.Symbol.TheVariants.{Statement as Whole}
use Rattle.input_texts.specs.declared.curve_script.fault.LangKind.TheVariants.{C2, C3, C4}
use Rattle.input_texts.specs.curve_script.Tokens.{Token, Says}
use Rattle.input_texts.specs.curve_script.Lexing.{lex}
use Rattle.input_texts.specs.curve_script.Grammar.{Expression, Named, Nought, OfPair, OfTriple, OnCurve, OnNumber, OnTwo, Statement, Lets, ValueAt, AsksOne, AsksTwo, statement_tokens, number_in, both, depth, depth_in, numbers_read, numbers_read_in}
use Rattle.input_texts.specs.curve_script.Shapes.{run}
use Rattle.input_texts.specs.curve_script.Building.{Told, statement_from}
use Rattle.input_texts.specs.plain_text.Plain.{is_plain}
use Rattle.input_texts.specs.curve_script.Lines.{IsDraft, Spells, HasFault, IsLine}
use Rattle.input_texts.proofs.curve_script.Lexed.{lex_sound, lex_complete, lex_none}
use Rattle.input_texts.proofs.curve_script.Shaped.{shape_spelt, spelt_shape}
use Rattle.input_texts.proofs.curve_script.Built.{mapped_some, both_some, statement_ok, statement_deep}

-- reading numbers keeps the depth
same_depth : (d : Expression (List ℕ)) (e : Expression ℚ) → numbers_read d ≡ Some e → depth d ≡ depth e
same_depth (Named w) e r = let same : Named w ≡ e = cc in ap depth same
same_depth Nought e r = let same : Nought ≡ e = cc in ap depth same
same_depth (OfPair k x y) e r = let s = both_some (λ p q. OfPair k p q) (number_in x) (number_in y) e r in ap depth s.4
same_depth (OfTriple k x y z) e r =
    let s = both_some (λ (p : ℚ × ℚ) r. OfTriple k p.0 p.1 r) (both (λ p q. (p, q)) (number_in x) (number_in y)) (number_in z) e r in ap depth s.4
same_depth (OnCurve k d) e r = let s = mapped_some (λ f. OnCurve k f) (numbers_read d) e r in ap suc (same_depth d s.0 s.1) ∙ ap depth s.2
same_depth (OnNumber k d w) e r = let s = both_some (λ f p. OnNumber k f p) (numbers_read d) (number_in w) e r in ap suc (same_depth d s.0 s.2) ∙ ap depth s.4
same_depth (OnTwo k a b) e r =
    let s = both_some (λ f g. OnTwo k f g) (numbers_read a) (numbers_read b) e r in
    ap₂ (λ m n. suc (max m n)) (same_depth a s.0 s.2) (same_depth b s.1 s.3) ∙ ap depth s.4

pub same_depth_in : (d : Statement (List ℕ)) (t : Statement ℚ) → numbers_read_in d ≡ Some t → depth_in d ≡ depth_in t
same_depth_in (Lets w d) t r = let s = mapped_some (λ f. Lets w f) (numbers_read d) t r in same_depth d s.0 s.1 ∙ ap depth_in s.2
same_depth_in (ValueAt d w) t r = let s = both_some (λ f p. ValueAt f p) (numbers_read d) (number_in w) t r in same_depth d s.0 s.2 ∙ ap depth_in s.4
same_depth_in (AsksOne q d) t r = let s = mapped_some (λ f. AsksOne q f) (numbers_read d) t r in same_depth d s.0 s.1 ∙ ap depth_in s.2
same_depth_in (AsksTwo q a b) t r =
    let s = both_some (λ f g. AsksTwo q f g) (numbers_read a) (numbers_read b) t r in
    ap₂ (λ m n. max m n) (same_depth a s.0 s.2) (same_depth b s.1 s.3) ∙ ap depth_in s.4

pub none_of : {A : Type 0} (o : Option A) → false ≡ is_some o → o ≡ None
none_of None e = refl
none_of (Some a) e = absurd cc

some_of : {A : Type 0} (o : Option A) → true ≡ is_some o → (a : A) × (o ≡ Some a)
some_of None e = absurd cc
some_of (Some a) e = (a, refl)

abbrev pub first_or : Statement ℚ → Option Told → Statement ℚ
first_or t None = t
first_or t (Some p) = p.0

module _ (line : List ℕ) (plain : is_plain line ≡ true) where
  pub not_lexed : lex line ≡ None → HasFault C2 line
  not_lexed e = (plain, λ d is. lex_none line e (statement_tokens d) is.says)

  module _ (ts : List Token) (lexed : lex line ≡ Some ts) where
    -- its tokens are those of each draft
    draft_tokens : (d : Statement (List ℕ)) → IsDraft line d → ts ≡ statement_tokens d
    draft_tokens d is = let e = sym lexed ∙ lex_complete is.says in cc e

    pub not_shaped : run (Whole ∷ []) true ts ≡ None → HasFault C2 line
    not_shaped e = (
      plain,
      λ d is.
          let bad : None ≡ Some (is_some (numbers_read_in d)) = sym e ∙ ap (run (Whole ∷ []) true) (draft_tokens d is) ∙ spelt_shape d is.named in
          absurd cc,
    )

    pub the_draft : (b : Bool) → run (Whole ∷ []) true ts ≡ Some b → (d : Statement (List ℕ)) × IsDraft line d × (ts ≡ statement_tokens d) × (b ≡ is_some (numbers_read_in d))
    the_draft b e =
        let s = shape_spelt ts b e in
        let is : IsDraft line s.0 = record { says = subst (λ l. Says line l) s.2 (lex_sound line ts lexed); named = s.1 } in
        (s.0, is, s.2, s.3)

    pub bad_number : run (Whole ∷ []) true ts ≡ Some false → HasFault C3 line
    bad_number e = let s = the_draft false e in (plain, (s.0, s.1, none_of (numbers_read_in s.0) s.3))

    -- what is made of its tokens
    made_of : (d : Statement (List ℕ)) (n : ℕ) → ts ≡ statement_tokens d → statement_from n ts ≡ statement_from n (statement_tokens d ++ [])
    made_of d n e = ap (statement_from n) (e ∙ sym (append-nil (statement_tokens d)))

    pub too_deep : run (Whole ∷ []) true ts ≡ Some true → None ≡ statement_from 64 ts → HasFault C4 line
    too_deep e f =
        let s = the_draft true e in
        let v = some_of (numbers_read_in s.0) s.3 in
        let spelt : Spells line v.0 = record { plain = plain; draft = s.0; is = s.1; numbers = v.1 } in
        let deep : 64 < depth_in s.0 = ⊎_elim
        (λ lt. lt)
        (λ le. let bad : None ≡ Some (v.0, []) = f ∙ made_of s.0 64 s.2 ∙ statement_ok s.0 64 [] v.0 s.1.named le v.1 in absurd cc)
        (cases_lt 64 (depth_in s.0)) in
        (v.0, spelt, subst (λ n. 64 < n) (same_depth_in s.0 v.0 v.1) deep)

    pub right_line : (t : Statement ℚ) (rest : List Token) → run (Whole ∷ []) true ts ≡ Some true → Some (t, rest) ≡ statement_from 64 ts → IsLine line t
    right_line t rest e f =
        let s = the_draft true e in
        let v = some_of (numbers_read_in s.0) s.3 in
        let all = f ∙ made_of s.0 64 s.2 in
        let shallow : depth_in s.0 ≤ 64 = ⊎_elim
        (λ lt. let bad : Some (t, rest) ≡ None = all ∙ statement_deep s.0 64 [] v.0 s.1.named lt v.1 in absurd cc)
        (λ le. le)
        (cases_lt 64 (depth_in s.0)) in
        let same : Some (t, rest) ≡ Some (v.0, []) = all ∙ statement_ok s.0 64 [] v.0 s.1.named shallow v.1 in
        let t_is : v.0 ≡ t = sym (ap (first_or t) same) in
        record {
          spelt = record { plain = plain; draft = s.0; is = s.1; numbers = v.1 ∙ ap Some t_is };
          shallow = subst (λ n. n ≤ 64) (same_depth_in s.0 v.0 v.1 ∙ ap depth_in t_is) shallow;
        }
