use Rattle.std.proofs.Common.{ℕ, suc, ◌+◌, ◌-◌, sym, ap, ◌∙◌, subst, arith, ◌≡◌}
use Rattle.std.specs.Prelude.{Ok, Err}
use Rattle.net_cells.specs.Meanings.{curve}
use Rattle.net_cells.specs.Visits.{longest_of}
use Rattle.net_cells.specs.QueueParts.{in_part}
use Rattle.net_cells.specs.CellFormulas.{sum_of_hops}
use Rattle.net_cells.specs.Answers.{Answers}
use Rattle.net_cells.specs.Formulas.{cut}
use Rattle.net_cells.specs.cell_table.Values.{answer_of}
use Rattle.cell_numbers.proofs.Choosing.{part_picked}
use Rattle.outcomes.specs.Spending.{Counts}
use Rattle.rational.specs.Rational.{◌≤ℚ◌}
use Rattle.min_plus.specs.Functions.{zero_q}
use Rattle.cell_numbers.proofs.LinkRates.{rate_low}
use Rattle.cell_eval.proofs.PartSteps.{cut_is}
use Rattle.std.specs.Prelude.{IfErr}
use Rattle.net_cells.specs.Meanings.{CellTable}
use Rattle.net_cells.specs.Formulas.{Formula, operators}
use Rattle.net_cells.specs.Refusals.{RefusedAt}
use Rattle.cell_eval.proofs.PartSteps.{cut_formula}
use Rattle.cell_eval.proofs.parts.cut_sum.Goals as goal

pub returns-in-Ok-clause-part : goal.returns-in-Ok-clause-part
returns-in-Ok-clause-part g c = λ at some h.
    let net = c.args.net.now in
    let k = c.args.part in
    let vs = in_part net c.args.place.0 c.args.place.1 k in
    let before : k ≡ suc (k - 1) = omega (arith, c.requires.link) in
    let longest = c.longest_at-bits.ensures ∙ ap (longest_of net) (sym (part_picked net c.args.place.0 c.args.place.1 k)) in
    let made = c.cut.ensures.answer at (sum_of_hops vs) (k - 1) h in
    record {
      some = some;
      held = tt;
      answers = cut_is at net k (k - 1) c.longest_at-bits.result c.rate-rate.result vs (Ok (curve c.in-Ok.made)) before longest c.rate-rate.ensures
          (subst (λ r. Answers at (cut (sum_of_hops vs) (k - 1) c.longest_at-bits.result c.rate-rate.result) (answer_of curve r)) c.in-Ok.is made);
    }

pub returns-in-Err-clause-part : goal.returns-in-Err-clause-part
returns-in-Err-clause-part g c = λ at some h.
    let net = c.args.net.now in
    let k = c.args.part in
    let vs = in_part net c.args.place.0 c.args.place.1 k in
    let before : k ≡ suc (k - 1) = omega (arith, c.requires.link) in
    let longest = c.longest_at-bits.ensures ∙ ap (longest_of net) (sym (part_picked net c.args.place.0 c.args.place.1 k)) in
    let made = c.cut.ensures.answer at (sum_of_hops vs) (k - 1) h in (
      some,
      cut_is at net k (k - 1) c.longest_at-bits.result c.rate-rate.result vs (Err c.in-Err.fault) before longest c.rate-rate.ensures
          (subst (λ r. Answers at (cut (sum_of_hops vs) (k - 1) c.longest_at-bits.result c.rate-rate.result) (answer_of curve r)) c.in-Err.is made),
    )

pub returns-in-Ok-clause-counts : goal.returns-in-Ok-clause-counts
returns-in-Ok-clause-counts g c = λ at.
    let counts = subst (λ r. Counts 1 c.args.steps.now c.cut.new.steps (answer_of curve r)) c.in-Ok.is c.cut.ensures.counts in
    record { exact = counts.exact; least = counts.least; most = counts.most }

pub returns-in-Err-clause-counts : goal.returns-in-Err-clause-counts
returns-in-Err-clause-counts g c = λ at.
    subst (λ r. Counts 1 c.args.steps.now c.cut.new.steps (answer_of curve r)) c.in-Err.is c.cut.ensures.counts

pub cut-requires : goal.cut-requires
cut-requires g c =
    subst (λ x. zero_q ≤ℚ x) (sym c.rate-rate.ensures) (rate_low c.args.net.now (c.args.part - 1) c.keeps.ensures)

pub returns-in-Err-clause-refused : goal.returns-in-Err-clause-refused
returns-in-Err-clause-refused g c = λ at h.
    let net = c.args.net.now in
    let k = c.args.part in
    let vs = in_part net c.args.place.0 c.args.place.1 k in
    let counted = c.cut.new.steps - c.args.steps.now in
    let before : k ≡ suc (k - 1) = omega (arith, c.requires.link) in
    let longest = c.longest_at-bits.ensures ∙ ap (longest_of net) (sym (part_picked net c.args.place.0 c.args.place.1 k)) in
    let refused = subst (λ r. IfErr r (λ e. (at : CellTable) (F : Formula) (server : ℕ) → Answers at F (Ok (curve c.args.flows.now))
    → RefusedAt at (cut F server c.longest_at-bits.result c.rate-rate.result) e (operators F + counted))) c.in-Err.is c.cut.ensures.refused in
    cut_formula (λ F. RefusedAt at F c.in-Err.fault (operators (sum_of_hops vs) + counted)) net k (k - 1) c.longest_at-bits.result c.rate-rate.result vs
    before longest c.rate-rate.ensures (refused at (sum_of_hops vs) (k - 1) h)
