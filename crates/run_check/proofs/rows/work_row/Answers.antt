use Rattle.std.specs.Prelude.{get_or}
use Rattle.std.proofs.Common.{refl}
use Rattle.std.proofs.lemmas.Option.{slice_get-get_or}
use Rattle.run_check.proofs.rows.work_row.Goals as goal

pub returns : goal.returns
returns c = record {
  old = get_or c.args.sites.now c.args.server c.index-sites-server.result;
  new = c.work_at.new.self;
  was = slice_get-get_or c.args.sites.now c.args.server c.index-sites-server.result c.requires.known;
  is = refl;
  changed = record { told = c.work_at.ensures.answer; fine = c.work_at.ensures.fine };
}

pub work_at-requires-clause-some : goal.work_at-requires-clause-some
work_at-requires-clause-some c = c.requires.some (get_or c.args.sites.now c.args.server c.index-sites-server.result) (slice_get-get_or c.args.sites.now c.args.server c.index-sites-server.result c.requires.known)

pub work_at-requires-clause-room : goal.work_at-requires-clause-room
work_at-requires-clause-room c = c.requires.room (get_or c.args.sites.now c.args.server c.index-sites-server.result) (slice_get-get_or c.args.sites.now c.args.server c.index-sites-server.result c.requires.known)
