use Rattle.flow_watch.proofs.Slides.{IsSliding}
use Rattle.flow_watch.proofs.sliding.before_upto.Given as goal

abbrev pub invariant-loop-number : goal.invariant-loop-number
invariant-loop-number l = IsSliding l.value l.end l.entries l.number l.slide.first l.slide.bits
