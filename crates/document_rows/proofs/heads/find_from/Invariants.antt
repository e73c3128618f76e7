use Rattle.std.proofs.Common.{◌≡◌}
use Rattle.csv.specs.Records.{fields_of}
use Rattle.document_rows.specs.Heads.{first_from}
use Rattle.document_rows.proofs.heads.find_from.Given as goal

abbrev pub invariant-loop-place : goal.invariant-loop-place
invariant-loop-place l = first_from l.word l.from (fields_of l.head) ≡ first_from l.word l.place (fields_of l.head)
