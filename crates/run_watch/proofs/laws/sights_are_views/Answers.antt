use Rattle.run_watch.proofs.SightLaws.{sight_is_view}
use Rattle.run_watch.proofs.laws.sights_are_views.Goals as goal

pub returns : goal.returns
returns c = sight_is_view
