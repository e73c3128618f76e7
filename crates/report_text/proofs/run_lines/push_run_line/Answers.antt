use Rattle.std.specs.Fmt.{decimal}
use Rattle.std.proofs.Common.{◌≡◌, ◌++◌, List, ℕ, Result, Ok, Err, OnOk, codes, sym, ap, ◌∙◌, append_assoc}
use Rattle.fraction128.specs.Text.{text_of}
use Rattle.report_text.specs.RunReport.{run_line}
use Rattle.report_text.proofs.run_lines.push_run_line.Goals as goal

on_ok : {E : Type 0} {A B : Type 0} (r : Result (Unit {0}) E) → (A → B) → OnOk r A → OnOk r B
on_ok (Ok x) f a = f a
on_ok (Err e) f a = tt

-- words and a number, and then three texts
joined : (old a d e t n first second third : List ℕ) → first ≡ old ++ a → second ≡ first ++ d → third ≡ second ++ (e ++ t ++ n) → third ≡ old ++ (a ++ d ++ e ++ t ++ n)
joined old a d e t n first second third h k l =
    let inner : (a ++ d) ++ (e ++ t ++ n) ≡ a ++ d ++ e ++ t ++ n = sym (append_assoc (a ++ d) (e ++ t) n) ∙ ap (λ xs. xs ++ n) (sym (append_assoc (a ++ d) e t)) in
    l ∙ (ap (λ xs. xs ++ (e ++ t ++ n)) (k ∙ (ap (λ xs. xs ++ d) h ∙ append_assoc old a d)) ∙ (append_assoc old (a ++ d) (e ++ t ++ n) ∙ ap (λ xs. old ++ xs) inner))

pub returns : goal.returns
unfolding run_line
returns c =
    on_ok c.push_end.result (λ last. joined c.args.into.now.items (codes "run packets ") (decimal c.args.packets) (codes " end ") (text_of c.args.end.now) (codes "\n") c.push_text.new.into.items
    c.push_decimal.new.into.items c.push_end.new.into.items c.in_ok-push_text.ensures c.in_ok-push_decimal.ensures last) c.push_end.ensures
