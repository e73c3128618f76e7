-- Where the fold of a closure stopped for want of memory, where n of its calls are counted: those before have made
-- their curves, the last that is counted is within its limits, and so is the segment of the part that comes next. So no
-- limit of a counted call, and none of the segment after it, is told as want of memory. Own choice.
use Rattle.std.specs.Prelude.{◌≡◌, ◌⊎◌, ℕ, ◌+◌, ◌≤◌, List, [], ◌∷◌, ◌++◌, Ok, Err}
use Rattle.upp_limits.specs.declared.op_kind.OpKind.TheVariants.{Convolve}
use Rattle.upp_limits.specs.declared.op_kind.OpFault.TheVariants.{NoMemory}
use Rattle.upp_curve.specs.Curve.{SpecCurve}
use Rattle.curve_call.specs.Calls.{Applies}
use Rattle.subadd_closure.specs.declared.part.Part.{Part}
use Rattle.subadd_closure.specs.CurveParts.{parts_of}
use Rattle.subadd_closure.specs.Folds.{segment_number, SegmentWithin, PartAnswer, PartsAnswer}
use Rattle.subadd_closure.specs.FoldWork.{part_work, parts_work}
use Rattle.subadd_closure.specs.PartStars.{turn_of}
use Rattle.subadd_closure.specs.Stars.{ElementWants}

-- in what is made of a part by itself
pub record PartWants (f : SpecCurve) (p : Part) (n : ℕ) : Type 0 where
  pub most : n ≤ part_work p
  pub segment : SegmentWithin f (segment_number p.element)
  pub calls : ElementWants (turn_of p.copies) p.element n

-- in the convolution of that with what the parts before make
pub record NextWants (f sofar : SpecCurve) (p : Part) (n : ℕ) : Type 0 where
  pub counted : n ≡ part_work p + 1
  pub star : SpecCurve
  pub made : PartAnswer f p (Ok star)
  pub within : Applies Convolve sofar star (Err NoMemory)

abbrev pub StopsAt : SpecCurve → SpecCurve → Part → (n : ℕ) → Type 0
StopsAt f sofar p n = PartWants f p n ⊎ NextWants f sofar p n

-- past some parts, all of whose calls are counted
pub record StopsPast (f : SpecCurve) (before : List Part) (p : Part) (n : ℕ) : Type 0 where
  pub sofar : SpecCurve
  pub made : PartsAnswer f before (Ok sofar)
  pub more : ℕ
  pub counted : n ≡ parts_work before + more
  pub stops : StopsAt f sofar p more

-- after some parts, none of them or more
abbrev pub StopsAfter : SpecCurve → List Part → Part → (n : ℕ) → Type 0
StopsAfter f [] p n = PartWants f p n
StopsAfter f (q ∷ qs) p n = StopsPast f (q ∷ qs) p n

-- the segment of the first of some parts is over no limit
abbrev pub FirstWithin : SpecCurve → List Part → Type 0
FirstWithin f [] = Unit {0}
FirstWithin f (p ∷ ps) = SegmentWithin f (segment_number p.element)

-- at one of all parts; where all calls up to the end of that part are counted, the next one's segment is over no limit
pub record PartsWant (f : SpecCurve) (all : List Part) (n : ℕ) : Type 0 where
  pub before : List Part
  pub part : Part
  pub after : List Part
  pub are : all ≡ before ++ part ∷ after
  pub stops : StopsAfter f before part n
  pub next : n ≡ parts_work (before ++ part ∷ []) → FirstWithin f after

abbrev pub CloseWants : SpecCurve → (n : ℕ) → Type 0
CloseWants f n = PartsWant f (parts_of f) n
