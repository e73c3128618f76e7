use Rattle.std.specs.Prelude.{get_or}
use Rattle.std.proofs.Common.{refl}
use Rattle.std.proofs.lemmas.Option.{slice_get-get_or}
use Rattle.run_check.proofs.rows.arrive_row.Goals as goal

pub returns : goal.returns
returns c = record {
  old = get_or c.args.sites.now c.args.server c.index-sites-server.result;
  new = c.arrive.new.self;
  was = slice_get-get_or c.args.sites.now c.args.server c.index-sites-server.result c.requires.known;
  is = refl;
  changed = (c.arrive.ensures.joined, c.arrive.ensures.under);
}

pub arrive-requires : goal.arrive-requires
arrive-requires c = c.requires.take (get_or c.args.sites.now c.args.server c.index-sites-server.result) (slice_get-get_or c.args.sites.now c.args.server c.index-sites-server.result c.requires.known)
