use Rattle.std.specs.Prelude.{get_or}
use Rattle.std.proofs.Common.{refl}
use Rattle.std.proofs.lemmas.Option.{slice_get-get_or}
use Rattle.run_check.proofs.rows.leave_row.Goals as goal

pub returns : goal.returns
returns c = record {
  old = get_or c.args.sites.now c.args.server c.index-sites-server.result;
  new = c.leave_at.new.self;
  was = slice_get-get_or c.args.sites.now c.args.server c.index-sites-server.result c.requires.known;
  is = refl;
  changed = (c.leave_at.ensures.answer, c.leave_at.ensures.under);
}

pub leave_at-requires : goal.leave_at-requires
leave_at-requires c = c.requires.some (get_or c.args.sites.now c.args.server c.index-sites-server.result) (slice_get-get_or c.args.sites.now c.args.server c.index-sites-server.result c.requires.known)
