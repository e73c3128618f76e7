use Rattle.std.proofs.Common.{◌-◌, subst, inr}
use Rattle.std.specs.Prelude.{IfErr}
use Rattle.upp_limits.specs.declared.op_kind.OpKind.TheVariants.{Deconvolve}
use Rattle.net_cells.specs.Formulas.{value_of, made}
use Rattle.net_cells.specs.cell_table.Values.{meaning_of}
use Rattle.cell_eval.proofs.Arms.{deconv_comes, deconv_served_by}
use Rattle.net_cells.specs.declared.cell.Kind.TheVariants.{In, Residual, DeconvOut}
use Rattle.net_cells.specs.Cells.{cell_of}
use Rattle.net_cells.specs.CellFormulas.{less, formula}
use Rattle.net_cells.specs.Refusals.{RefusedAt}
use Rattle.cell_eval.proofs.Stopping.{at_refusal}
use Rattle.cell_eval.proofs.inputs.Inputs.deconv_out.Goals as goal

pub spread-requires : goal.spread-requires
spread-requires g c =
    let net = c.args.self.now.net.now in
    let at = g.T.Table.at c.args.self.now.table.now in
    record {
      curve = deconv_comes net at c.args.flow c.args.hop c.requires;
      serves = deconv_served_by net at c.args.flow c.args.hop c.requires;
    }

pub returns : goal.returns
returns g c = record {
  answer = rw c.packet-bits.ensures at c.spread.ensures.answer;
  counts = c.spread.ensures.counts;
  memory = λ is. let at = g.T.Table.at c.args.self.now.table.now in
      let counted = c.spread.new.steps - c.args.steps.now in
      let from = value_of (cell_of In c.args.flow c.args.hop) in
      let service = value_of (cell_of Residual c.args.flow c.args.hop) in
      inr (at_refusal meaning_of c.spread.result
      (λ e. RefusedAt at (formula c.args.self.now.net.now (cell_of DeconvOut c.args.flow c.args.hop)) e counted)
      (subst (λ b. IfErr c.spread.result (λ e. RefusedAt at (made Deconvolve from (less service b)) e counted)) c.packet-bits.ensures
      c.spread.ensures.refused) is);
}
