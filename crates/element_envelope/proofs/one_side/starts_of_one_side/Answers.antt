use Rattle.element_envelope.proofs.one_side.starts_of_one_side.Goals as goal

pub returns : goal.returns
returns c = record {
  slope = c.in-Some.slope;
  within = c.in-Some.ensures;
  rising = c.never_fall.ensures c.if-not-never_fall.false;
  apart = c.are_apart.ensures c.if-not-are_apart.false;
  starts = c.in_ok-steep_starts.ensures;
}
