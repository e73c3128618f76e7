use Rattle.std.proofs.Common.{Bor, List, ℕ, ◌≡◌, map, length, sym, arith}
use Rattle.std.proofs.lemmas.List.{length-map}
use Rattle.document_rows.proofs.Rules.{no_gate}
use Rattle.document_rows.proofs.disciplines.gate_of.Goals as goal

seen : Bor (List ℕ) → List ℕ
seen word = word.now

pub returns-in_default : goal.returns-in_default
unfolding seen
returns-in_default c =
    let n = length-map c.args.words.now seen in
    let least = c.in_default.len_at_least in
    let below = c.in_default.len_below in
    sym (no_gate (map seen c.args.words.now) (λ e. omega (arith, n, e, least)) (λ e. omega (arith, n, e, below)))
