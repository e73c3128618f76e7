use Rattle.std.proofs.Common.{◌≡◌, ℕ, List, ◌++◌, ap, ◌∙◌, append_assoc}
use Rattle.std.specs.Prelude.{codes}
use Rattle.std.specs.Fmt.{decimal}
use Rattle.std.proofs.lemmas.Result.{on_ok_weaker}
use Rattle.run_check.specs.check_report.CheckReport.{law_words, unlawful_line}
use Rattle.run_check.proofs.check_report.verdict.push_unlawful.Goals as goal

regrouped : (old a b c d e : List ℕ) → ((old ++ a) ++ b) ++ ((c ++ d) ++ e) ≡ old ++ ((((a ++ b) ++ c) ++ d) ++ e)
regrouped old a b c d e = simp append_assoc

line_more : (old a b c d e one two new : List ℕ) → one ≡ old ++ a → two ≡ one ++ b → new ≡ two ++ ((c ++ d) ++ e)
    → new ≡ old ++ ((((a ++ b) ++ c) ++ d) ++ e)
line_more old a b c d e one two new first second third =
    third ∙ (ap (λ xs. xs ++ ((c ++ d) ++ e)) (second ∙ ap (λ xs. xs ++ b) first) ∙ regrouped old a b c d e)

pub returns : goal.returns
unfolding unlawful_line
returns c =
    on_ok_weaker c.push_last_law.result
    (λ third. line_more c.args.into.now.items (codes "verdict unlawful row ") (decimal c.args.row) (codes " ")
    (law_words c.args.law) (codes "\n") c.push_text.new.into.items c.push_decimal.new.into.items
    c.push_last_law.new.into.items c.in_ok-push_text.ensures c.in_ok-push_decimal.ensures third)
    c.push_last_law.ensures
