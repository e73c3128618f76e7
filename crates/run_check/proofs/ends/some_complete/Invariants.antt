use Rattle.std.specs.Prelude.{ℕ, ◌<◌, get_or}
use Rattle.run_check.specs.declared.site.Site.{Site}
use Rattle.run_packets.specs.Works.{is_worked_off}
use Rattle.run_check.proofs.ends.some_complete.Given as goal

abbrev pub invariant-loop-site : goal.invariant-loop-site
invariant-loop-site l = (k : ℕ) (d : Site) → k < l.site-index → ¬ is_worked_off (get_or l.sites k d).under
