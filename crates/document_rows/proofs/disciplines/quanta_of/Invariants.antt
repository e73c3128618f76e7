use Rattle.std.proofs.Common.{◌≡◌, map, drop}
use Rattle.document_rows.specs.Disciplines.{quanta_of, quanta_from}
use Rattle.document_rows.proofs.disciplines.quanta_of.Given as goal

abbrev pub invariant-loop-place : goal.invariant-loop-place
invariant-loop-place l = quanta_of (map (λ word. word.now) l.words) ≡ quanta_from l.quanta.items (drop l.place (map (λ word. word.now) l.words))
