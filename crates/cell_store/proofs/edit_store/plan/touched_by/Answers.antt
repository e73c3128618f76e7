use Rattle.std.proofs.Common.{sym, subst}
use Rattle.cell_rules.specs.declared.site.Site.{Site}
use Rattle.cell_rules.specs.Sites.{IsSameBut}
use Rattle.cell_store.proofs.edit_store.plan.touched_by.Goals as goal

pub touched_cells-requires-clause-same : goal.touched_cells-requires-clause-same
touched_cells-requires-clause-same c =
    subst (λ (site : Site). IsSameBut site c.args.old.now c.args.net.now) (sym c.site_of-site.ensures)
    (c.edits_have_one_site.ensures c.args.old.now c.args.net.now c.args.edit.now c.requires.gives)

pub returns-clause-touched : goal.returns-clause-touched
returns-clause-touched c = record {
  order = c.args.order.now;
  servers = c.requires.order;
  are = c.in_ok-touched.ensures.touched;
}
