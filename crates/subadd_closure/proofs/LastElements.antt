-- The last element of a finite curve in the fold: its part comes after those of the others, its star is convolved last, and the
-- work is done, or stops there.
use Rattle.std.specs.Prelude.{◌≡◌, ℕ, ◌+◌, ◌-◌, ◌<◌, ◌≤◌, List, [], ◌∷◌, ◌++◌, length, map, Ok}
use Rattle.std.proofs.Common.{arith, ap, get_or, take}
use Rattle.min_plus.specs.Functions.{IsFinite, IsNonnegative}
use Rattle.upp_curve.specs.Curve.{SpecCurve, value_at}
use Rattle.upp_curve.specs.Normal.{IsNormal}
use Rattle.upp_curve.specs.declared.affine_segment.element.Element.{Element}
use Rattle.element_envelope.specs.PieceElements.{elements_of}
use Rattle.subadd_closure.specs.CurveParts.{part_of, parts_of, pieces_end}
use Rattle.subadd_closure.specs.FoldMemory.{CloseWants, StopsAt}
use Rattle.subadd_closure.specs.Folds.{PartAnswer, PartsAnswer}
use Rattle.subadd_closure.specs.FoldWork.{fold_work, part_work, parts_work}
use Rattle.subadd_closure.specs.StartsAt.{AreConvolvedLast}
use Rattle.subadd_closure.proofs.FirstElements.{two_elements}
use Rattle.subadd_closure.proofs.FoldLists.{some_taken, split_last, work_more}
use Rattle.subadd_closure.proofs.FoldMemory.{after_parts}
use Rattle.subadd_closure.proofs.FoldShapes.{finite_past, last_thinnable, sofar_nonneg, star_nonneg}

-- ---- its part
pub record IsLast (f : SpecCurve) (es : List Element) (e : Element) : Type 0 where
  pub two : 2 ≤ length es
  pub are : parts_of f ≡ map (part_of f.tail) (take (length es - 1) es) ++ part_of f.tail e ∷ []
  pub some : 0 < length (map (part_of f.tail) (take (length es - 1) es))

pub is_last : (f : SpecCurve) (es : List Element) (e : Element) → es ≡ elements_of f.pieces (pieces_end f.tail) → IsNormal f
    → IsFinite (value_at f) → e ≡ get_or es (length es - 1) e → IsLast f es e
is_last f es e all normal finite is =
    let two = two_elements f es all normal.raw finite in
    record {
      two = two;
      are = split_last f es (length es - 1) e all (omega (arith, two)) is;
      some = some_taken f.tail es (length es - 1) (omega (arith, two)) (omega (arith, two));
    }

-- ---- what is convolved last
module _ (f : SpecCurve) (es : List Element) (e : Element) (L : IsLast f es e) where
  pub last_curves : (s c : SpecCurve) → IsNormal f → IsFinite (value_at f) → IsNonnegative (value_at f)
      → PartsAnswer f (map (part_of f.tail) (take (length es - 1) es)) (Ok s) → PartAnswer f (part_of f.tail e) (Ok c) → AreConvolvedLast s c
  last_curves s c normal finite nonneg first last =
      let before = map (part_of f.tail) (take (length es - 1) es) in
      let part = part_of f.tail e in
      record {
        first = sofar_nonneg f s c before part normal finite nonneg L.are first last;
        second = star_nonneg f s c before part normal finite nonneg L.are first last;
        finite = finite_past f s c before part normal finite nonneg L.are first last;
        thin = last_thinnable f s c before part normal finite nonneg L.are first last;
      }

  -- ---- the work
  pub last_work : (old sofar star new : ℕ) → sofar ≡ old + parts_work (map (part_of f.tail) (take (length es - 1) es))
      → star ≡ sofar + part_work (part_of f.tail e) → new ≡ star + 1 → new ≡ old + fold_work f
  last_work old sofar star new a b c =
      let all = ap parts_work L.are in
      let work = work_more (map (part_of f.tail) (take (length es - 1) es)) (part_of f.tail e) L.some in
      omega (arith, a, b, c, all, work)

  pub last_wants : (s : SpecCurve) (more n : ℕ) → PartsAnswer f (map (part_of f.tail) (take (length es - 1) es)) (Ok s)
      → n ≡ parts_work (map (part_of f.tail) (take (length es - 1) es)) + more → StopsAt f s (part_of f.tail e) more → CloseWants f n
  last_wants s more n made is stops = record {
    before = map (part_of f.tail) (take (length es - 1) es);
    part = part_of f.tail e;
    after = [];
    are = L.are;
    stops = after_parts f s (map (part_of f.tail) (take (length es - 1) es)) (part_of f.tail e) more n made is stops;
    next = λ counted. tt;
  }
