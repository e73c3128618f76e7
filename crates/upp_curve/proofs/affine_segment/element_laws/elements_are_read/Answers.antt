use Rattle.upp_curve.proofs.affine_segment.ElementReading.{element_read, joined_read}
use Rattle.upp_curve.proofs.affine_segment.element_laws.elements_are_read.Goals as goal

pub returns : goal.returns
returns c = record { elements = element_read; joined = λ j t h. joined_read j.first j.join j.second t h }
