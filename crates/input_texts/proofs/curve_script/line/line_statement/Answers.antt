use Rattle.std.proofs.Common.{◌≡◌, ◌⊎◌, ℕ, List, ap, sym, ◌∙◌, inl, inr, map, Some}
use Rattle.std.proofs.lemmas.Result.{IfOk-weaker, IfErr-weaker}
use Rattle.input_texts.specs.declared.curve_script.fault.LangKind.{LangKind}
use Rattle.input_texts.specs.declared.curve_script.fault.LangKind.TheVariants.{NoMemory}
use Rattle.input_texts.specs.curve_script.Tokens.{Token}
use Rattle.input_texts.specs.curve_script.Lexing.{view}
use Rattle.input_texts.specs.curve_script.Lines.{HasTokens, HasFault}
use Rattle.input_texts.proofs.curve_script.Chains.{opened_none, opened_some}
use Rattle.input_texts.proofs.curve_script.LineFacts.{not_lexed}
use Rattle.input_texts.proofs.curve_script.line.line_statement.Goals as goal

pub returns-in_default-clause-fault : goal.returns-in_default-clause-fault
returns-in_default-clause-fault c =
    inr (not_lexed c.args.line.now (sym c.is_plain.ensures ∙ c.if-not-is_plain.false) (sym (opened_none _ _ _ c.in_default.is c.in_ok-tokens.ensures)))

-- the fault of its tokens is the line's
of_tokens : (line : List ℕ) (ts : List Token) (k : LangKind) → HasTokens line ts
    → (k ≡ NoMemory) ⊎ ((l : List ℕ) → HasTokens l ts → HasFault k l) → (k ≡ NoMemory) ⊎ HasFault k line
of_tokens line ts k has (inl memory) = inl memory
of_tokens line ts k has (inr wrong) = inr (wrong line has)

pub returns-clause-ok : goal.returns-clause-ok
returns-clause-ok c =
    let has : HasTokens c.args.line.now (map view c.deref.result.now) = record {
      plain = sym c.is_plain.ensures ∙ c.if-not-is_plain.false;
      lexed = sym (opened_some _ _ _ _ c.in-Some.is c.in_ok-tokens.ensures) ∙ ap (λ l. Some (map view l)) (sym c.deref.ensures.value);
    } in
    IfOk-weaker c.statement_of.result _ _ (λ s is. is c.args.line.now has) c.statement_of.ensures.ok

pub returns-clause-fault : goal.returns-clause-fault
returns-clause-fault c =
    let has : HasTokens c.args.line.now (map view c.deref.result.now) = record {
      plain = sym c.is_plain.ensures ∙ c.if-not-is_plain.false;
      lexed = sym (opened_some _ _ _ _ c.in-Some.is c.in_ok-tokens.ensures) ∙ ap (λ l. Some (map view l)) (sym c.deref.ensures.value);
    } in
    IfErr-weaker c.statement_of.result _ _ (λ k h. of_tokens c.args.line.now (map view c.deref.result.now) k has h) c.statement_of.ensures.fault
