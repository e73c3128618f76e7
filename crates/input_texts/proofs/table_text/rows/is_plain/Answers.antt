use Rattle.std.proofs.Common.{◌≡◌, suc, Some, None, drop, sym, ap, subst, arith, ◌∙◌}
use Rattle.csv.specs.Records.{fields_of, field_at}
use Rattle.input_texts.specs.table_text.Rows.{is_plain}
use Rattle.input_texts.proofs.table_text.PlainTexts.{not_plain_at, rest_plain, no_rest}
use Rattle.input_texts.proofs.table_text.rows.is_plain.Goals as goal

pub returns-then-not-is_plain : goal.returns-then-not-is_plain
returns-then-not-is_plain c =
    let it = c.loop-field.field-iterator in
    let s = c.in-Some.ensures.steps in
    let at = subst (λ r. field_at (fields_of r) it.at ≡ Some c.in-Some.field.now) c.loop-field.invariant.same (sym s.1) in
    sym (not_plain_at (fields_of c.args.row.now) it.at c.in-Some.field.now at (sym c.is_plain.ensures ∙ c.if-not-is_plain.true))

pub loop-field-preserved : goal.loop-field-preserved
loop-field-preserved c =
    let it = c.loop-field.field-iterator in
    let s = c.in-Some.ensures.steps in
    let row = fields_of c.args.row.now in
    let at = subst (λ r. field_at (fields_of r) it.at ≡ Some c.in-Some.field.now) c.loop-field.invariant.same (sym s.1) in
    let next : suc it.at ≡ c.next.new.self.at = omega (arith, s.2) in
    record {
      same = ap (λ r. r.now) s.0 ∙ c.loop-field.invariant.same;
      rest = c.loop-field.invariant.rest
          ∙ (rest_plain row it.at c.in-Some.field.now at (sym c.is_plain.ensures ∙ c.if-not-is_plain.false) ∙ ap (λ k. is_plain (drop k row)) next);
    }

pub returns : goal.returns
returns c =
    let it = c.loop-field.field-iterator in
    let at = subst (λ r. field_at (fields_of r) it.at ≡ None) c.loop-field.invariant.same (sym c.in-None.ensures.steps.1) in
    sym (c.loop-field.invariant.rest ∙ no_rest (fields_of c.args.row.now) it.at at)
