use Rattle.std.proofs.Common.{◌≡◌, ◌∙◌, ◌+◌, ◌-◌, length, map, sym, subst, arith}
use Rattle.std.proofs.lemmas.Bool.{eqb-true, eqb-false}
use Rattle.net_cells.specs.Numbered.{zero_curve}
use Rattle.net_cells.specs.cell_table.Values.{answer_of, meaning_of}
use Rattle.outcomes.specs.Spending.{Counts}
use Rattle.cell_eval.specs.Parts.{curve_of}
use Rattle.outcomes.proofs.Spending.{counts_none}
use Rattle.cell_eval.proofs.Handing.{again_out, shared_makes}
use Rattle.cell_eval.proofs.PartSums.{no_parts, one_part, shared_sum, held_at}
use Rattle.cell_eval.proofs.SharedCounts.{shared_counts}
use Rattle.curve_call.specs.Again.{IsAgain}
use Rattle.net_cells.specs.Meanings.{curve}
use Rattle.net_cells.specs.Answers.{MakesCurve, SumsOf}
use Rattle.net_cells.specs.Refusals.{SumsRefused}
use Rattle.residuals.proofs.calls.Placed.{if_err}
use Rattle.std.proofs.lemmas.List.{length-map}
use Rattle.cell_eval.proofs.PartSums.{no_parts_refused, one_part_refused}
use Rattle.cell_eval.proofs.OperatorStopping.{shared_refused, sums_full, ok_map}
use Rattle.cell_eval.proofs.parts.added_up.Goals as goal

pub returns-then-is_empty-clause-sum : goal.returns-then-is_empty-clause-sum
returns-then-is_empty-clause-sum g c =
    let r = answer_of meaning_of c.shared.result in
    no_parts (g.T.Table.at c.args.table.now) c.args.parts.now r (eqb-true (length c.args.parts.now) 0 (sym c.is_empty.ensures ∙ c.if-is_empty.true))
    (shared_makes (IsAgain zero_curve) c.nothing.result r (again_out zero_curve) c.nothing.ensures c.shared.ensures)

pub returns-then-is_empty-clause-counts : goal.returns-then-is_empty-clause-counts
returns-then-is_empty-clause-counts g c =
    let none = eqb-true (length c.args.parts.now) 0 (sym c.is_empty.ensures ∙ c.if-is_empty.true) in
    let same : 0 ≡ length c.args.parts.now - 1 = omega (arith, none) in
    subst (λ n. Counts n c.args.steps.now c.args.steps.now (answer_of meaning_of c.shared.result)) same (counts_none c.args.steps.now _)

pub only-requires : goal.only-requires
only-requires g c =
    held_at (g.T.Table.at c.args.table.now) c.args.parts.now 0 c.index-parts-0.result c.requires (omega (arith, c.if-parts-eq1.true)) c.index-parts-0.is

pub returns-then-parts-eq1-clause-sum : goal.returns-then-parts-eq1-clause-sum
returns-then-parts-eq1-clause-sum g c =
    one_part (g.T.Table.at c.args.table.now) c.args.parts.now c.index-parts-0.result (answer_of meaning_of c.only.result) c.if-parts-eq1.true
    c.index-parts-0.is c.only.ensures

pub returns-then-parts-eq1-clause-counts : goal.returns-then-parts-eq1-clause-counts
returns-then-parts-eq1-clause-counts g c =
    let same : 0 ≡ length c.args.parts.now - 1 = omega (arith, c.if-parts-eq1.true) in
    subst (λ n. Counts n c.args.steps.now c.args.steps.now (answer_of meaning_of c.only.result)) same (counts_none c.args.steps.now _)

pub many_added-made-requires-clause-many : goal.many_added-made-requires-clause-many
many_added-made-requires-clause-many g c =
    let some = eqb-false (length c.args.parts.now) 0 (sym c.is_empty.ensures ∙ c.if-is_empty.false) in
    let more = c.if-parts-eq1.false in
    omega (arith, some, more)

pub returns-clause-sum : goal.returns-clause-sum
returns-clause-sum g c =
    let at = g.T.Table.at c.args.table.now in
    shared_sum (map (curve_of at) c.args.parts.now) c.many_added-made.result (answer_of meaning_of c.shared-2.result) c.many_added-made.ensures.sum
    c.shared-2.ensures

pub returns-clause-counts : goal.returns-clause-counts
returns-clause-counts g c =
    shared_counts (length c.args.parts.now - 1) c.args.steps.now c.many_added-made.new.steps c.many_added-made.result
    (answer_of meaning_of c.shared-2.result) c.many_added-made.ensures.counts c.shared-2.ensures

pub returns-then-is_empty-clause-refused : goal.returns-then-is_empty-clause-refused
returns-then-is_empty-clause-refused g c =
    let at = g.T.Table.at c.args.table.now in
    let none = eqb-true (length c.args.parts.now) 0 (sym c.is_empty.ensures ∙ c.if-is_empty.true) in
    let counted = c.args.steps.now - c.args.steps.now in
    let nothing = shared_makes (IsAgain zero_curve) c.nothing.result (answer_of meaning_of c.shared.result) (again_out zero_curve) c.nothing.ensures
    c.shared.ensures in
    if_err c.shared.result (λ e. SumsRefused (map (curve_of at) c.args.parts.now) e counted)
    (λ e refused. no_parts_refused at c.args.parts.now e counted none (omega arith)
    (subst (λ r. MakesCurve (IsAgain zero_curve) (answer_of meaning_of r)) refused nothing))

pub returns-then-parts-eq1-clause-refused : goal.returns-then-parts-eq1-clause-refused
returns-then-parts-eq1-clause-refused g c =
    let at = g.T.Table.at c.args.table.now in
    let counted = c.args.steps.now - c.args.steps.now in
    if_err c.only.result (λ e. SumsRefused (map (curve_of at) c.args.parts.now) e counted)
    (λ e refused. one_part_refused at c.args.parts.now e counted c.if-parts-eq1.true (omega arith)
    (subst (λ r. MakesCurve (IsAgain (curve_of at c.index-parts-0.result)) (answer_of meaning_of r)) refused c.only.ensures))

pub returns-clause-refused : goal.returns-clause-refused
returns-clause-refused g c =
    let at = g.T.Table.at c.args.table.now in
    let fs = map (curve_of at) c.args.parts.now in
    let made = c.many_added-made.result in
    let counted = c.many_added-made.new.steps - c.args.steps.now in
    let some = eqb-false (length c.args.parts.now) 0 (sym c.is_empty.ensures ∙ c.if-is_empty.false) in
    let as_many = length-map c.args.parts.now (curve_of at) in
    let k = length c.args.parts.now - 1 in
    let all = ok_map made (c.many_added-made.new.steps ≡ c.args.steps.now + k) (counted ≡ k) (λ e. omega (arith, e))
    c.many_added-made.ensures.counts.exact in
    shared_refused meaning_of (λ r. SumsOf fs (answer_of curve r)) (SumsRefused fs) made c.shared-2.result counted k
    (λ f p. sums_full fs k (curve f) (omega (arith, some, as_many)) p)
    c.many_added-made.ensures.sum c.many_added-made.ensures.refused all c.shared-2.ensures
