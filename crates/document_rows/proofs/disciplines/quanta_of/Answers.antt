use Rattle.std.proofs.Common.{Bor, List, ℕ, ◌≡◌, ◌+◌, ◌<◌, ◌≤◌, map, length, drop, sym, ap, ◌∙◌, arith}
use Rattle.std.proofs.lemmas.List.{length-map}
use Rattle.document_rows.specs.Disciplines.{quanta_from}
use Rattle.document_rows.proofs.Rules.{quanta_more, quanta_none, quanta_all}
use Rattle.document_rows.proofs.disciplines.quanta_of.Goals as goal

seen : Bor (List ℕ) → List ℕ
seen word = word.now

pub loop-place-preserved : goal.loop-place-preserved
unfolding seen
loop-place-preserved c =
    let words = map seen c.args.words.now in
    let k = c.loop-place.place in
    let n = length-map c.args.words.now seen in
    let below = c.loop-place-test.true in
    c.loop-place.invariant
    ∙ quanta_more c.loop-place.quanta.items words k c.word_at.result.now c.in-Some.quantum (omega (arith, n, below)) c.word_at.ensures (sym c.in-Some.is ∙ c.quantum_in.ensures)
    ∙ ap (λ qs. quanta_from qs (drop (k + 1) words)) (sym c.in_ok-push-in-Some.ensures.items)

pub returns-in-None : goal.returns-in-None
unfolding seen
returns-in-None c =
    let n = length-map c.args.words.now seen in
    let below = c.loop-place-test.true in
    c.loop-place.invariant
    ∙ quanta_none c.loop-place.quanta.items (map seen c.args.words.now) c.loop-place.place c.word_at.result.now (omega (arith, n, below)) c.word_at.ensures (sym c.in-None.is ∙ c.quantum_in.ensures)

pub returns : goal.returns
unfolding seen
returns c =
    let n = length-map c.args.words.now seen in
    let past = c.loop-place-test.false in
    c.loop-place.invariant ∙ quanta_all c.loop-place.quanta.items (map seen c.args.words.now) c.loop-place.place (omega (arith, n, past))
