-- What is gathered of a server from the steps of a run is what the server sees of it. Own choice.
use Rattle.std.specs.Prelude.{ℕ, ◌<◌, List, length}
use Rattle.run_laws.specs.Runs.{SpecRun}
use Rattle.run_laws.specs.Routes.{Routes, server_at}
use Rattle.run_laws.specs.Lawful.{IsLawful}
use Rattle.run_laws.specs.Views.{view}
use Rattle.run_watch.specs.declared.watched.Watched.{Watched}
use Rattle.run_watch.specs.Seen.{AreFirsts}
use Rattle.run_watch.specs.Watching.{Sees}
use Rattle.run_watch.specs.Held.{IsSightOf}

abbrev pub SightsAreViews : Type 0
SightsAreViews = (net : Routes) (run : SpecRun) (firsts : List ℕ) (s : ℕ) (w : Watched) → IsLawful net run
    → s < length net.servers → AreFirsts net firsts →
    Sees w firsts s run.steps run.end → IsSightOf (server_at net s) run.end (view net run s) w
