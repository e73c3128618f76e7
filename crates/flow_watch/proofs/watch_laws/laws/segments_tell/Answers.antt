use Rattle.flow_watch.proofs.watch_laws.laws.segments_tell.Goals as goal
use Rattle.flow_watch.proofs.watch_laws.CurveSegments

pub returns : goal.returns
returns c = CurveSegments.segments_tell
