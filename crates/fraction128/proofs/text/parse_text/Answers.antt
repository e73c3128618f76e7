use Rattle.std.proofs.Common.{rules, arith, ◌≡◌, ◌<◌, ◌⊎◌, ◌∙◌, sym, ap, inl, inr, Ok, pos, SFits, to_z-of_z}
use mir.Syntax.{w128}
use Rattle.rational.specs.Ratio.{ratio}
use Rattle.fraction128.specs.Text.{largest, number_from, parse_of}
use Rattle.fraction128.proofs.Parsed.{parse_is, number_past, number_zero, number_ok}
use Rattle.fraction128.proofs.text.parse_text.Goals as goal
use Rattle.fraction128.proofs.text.parse_text.Goals.{After-split_number-minus, then-size-gt-LARGEST-via-then-size-gt-LARGEST, then-size-gt-LARGEST-via-else-size-gt-LARGEST+then-den-gt-LARGEST}

-- the parts are those of the text
parse_of_parts : (c : After-split_number-minus)
    → number_from c.split_number-minus.result.0 c.split_number-minus.result.1.now c.split_number-minus.result.2.now ≡ parse_of c.args.text.now
parse_of_parts c =
    let split = c.split_number-minus.ensures in
    parse_is c.args.text.now _ _ _ split.minus split.top split.bottom

pub returns-then-size-gt-LARGEST : goal.returns-then-size-gt-LARGEST
returns-then-size-gt-LARGEST c =
    let s = c.split_number-minus.result in
    let same = parse_of_parts (goal.at.returns-then-size-gt-LARGEST c).After-split_number-minus in
    let top = c.in-Some-Some.ensures in
    let bottom = c.in-Some-Some.ensures' in
    let past : (largest < c.in-Some-Some.size) ⊎ (largest < c.in-Some-Some.den) = elim c.then-size-gt-LARGEST.branch [
      | then-size-gt-LARGEST-via-then-size-gt-LARGEST w ↦ inl (omega arith)
      | then-size-gt-LARGEST-via-else-size-gt-LARGEST+then-den-gt-LARGEST w ↦ inr (omega arith)
    ] in
    sym (number_past s.0 s.1.now s.2.now _ _ top.0 bottom.0 top.1 bottom.1 past) ∙ same

pub returns-then-den-eq0 : goal.returns-then-den-eq0
returns-then-den-eq0 c =
    let s = c.split_number-minus.result in
    let same = parse_of_parts (goal.at.returns-then-den-eq0 c).After-split_number-minus in
    let top = c.in-Some-Some.ensures in
    let bottom = c.in-Some-Some.ensures' in
    sym (number_zero s.0 s.1.now s.2.now _ _ top.0 bottom.0 top.1 bottom.1 c.if-size-gt-LARGEST.false c.if-den-gt-LARGEST.false c.if-den-eq0.true) ∙ same

pub returns : goal.returns
returns c =
    let s = c.split_number-minus.result in
    let same = parse_of_parts (goal.at.returns c).After-split_number-minus in
    let top = c.in-Some-Some.ensures in
    let bottom = c.in-Some-Some.ensures' in
    let fits : SFits w128 c.signed.result = search rules in
    ap Ok (c.reduced.ensures ∙ ap (λ z. ratio z (pos c.in-Some-Some.den)) (to_z-of_z fits ∙ c.signed.ensures))
    ∙ sym (number_ok s.0 s.1.now s.2.now _ _ top.0 bottom.0 top.1 bottom.1 c.if-size-gt-LARGEST.false c.if-den-gt-LARGEST.false c.if-den-eq0.false) ∙ same
