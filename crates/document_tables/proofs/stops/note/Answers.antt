use Rattle.std.proofs.Common.{◌<◌, cond, Some, refl, ap, ◌∙◌, arith}
use Rattle.std.specs.BTreeMap.{get}
use Rattle.std.specs.Cmp.{unsigned_tied}
use Rattle.std.specs.Ordering.{nat_cmp}
use Rattle.document_tables.proofs.stops.note.Goals as goal

pub returns-then-place-lt-FEW-clause-noted : goal.returns-then-place-lt-FEW-clause-noted
returns-then-place-lt-FEW-clause-noted c =
    let less : c.args.place < 16 = omega (arith, c.if-place-lt-FEW.true) in
    record { before = λ h q. refl; past = λ h q. absurd (omega (arith, less, h)) }

pub returns-clause-noted : goal.returns-clause-noted
returns-clause-noted c =
    record {
      before = λ h q. absurd (omega (arith, c.if-place-lt-FEW.false, h));
      past = λ h q. c.in_ok-insert.ensures.updates.0 q ∙ ap (λ b. cond b (Some c.args.place) (get nat_cmp c.args.places.now q)) (unsigned_tied c.args.port q);
    }
