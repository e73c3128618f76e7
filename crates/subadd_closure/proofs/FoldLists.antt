-- The parts of some elements, one after another, and the work on them.
use Rattle.std.specs.Prelude.{◌≡◌, ℕ, ◌+◌, ◌<◌, ◌≤◌, List, [], ◌∷◌, ◌++◌, length, map}
use Rattle.std.specs.List.{All}
use Rattle.std.proofs.Common.{arith, sym, refl, ap, ◌∙◌, inl, inr, get_or, take, drop, length-append, length-take}
use Rattle.std.proofs.lemmas.List.{map-append, take_more, take-append-drop, take-take, drop_more, drop_all, length-map, append_assoc}
use Rattle.std.proofs.lemmas.List.Elements.{All-nil, All-cons, All-same}
use Rattle.std.proofs.lemmas.List.Sums.{sum_by_push, sum_by-append, sum_by-cons}
use Rattle.upp_curve.specs.declared.affine_segment.element.Element.{Element}
use Rattle.upp_curve.specs.declared.curve.Tail.{Tail}
use Rattle.upp_curve.specs.Curve.{SpecCurve}
use Rattle.element_envelope.specs.PieceElements.{elements_of, Among}
use Rattle.subadd_closure.specs.declared.part.Part.{Part}
use Rattle.subadd_closure.specs.CurveParts.{pieces_end, part_of, parts_of}
use Rattle.subadd_closure.specs.FoldWork.{part_work, parts_work}
use Rattle.subadd_closure.specs.SegmentLimits.{IsElementOf}

-- ---- elements up to the i-th, and that one
pub one_more : (tail : Tail) (es : List Element) (i : ℕ) (e : Element) → i < length es → e ≡ get_or es i e
    → map (part_of tail) (take (i + 1) es) ≡ map (part_of tail) (take i es) ++ part_of tail e ∷ []
one_more tail es i e h is =
    ap (map (part_of tail)) (take_more es i e h ∙ ap (λ x. take i es ++ x ∷ []) (sym is))
    ∙ map-append (part_of tail) (take i es) (e ∷ [])

pub split_at : (tail : Tail) (es : List Element) (i : ℕ) (e : Element) → i < length es → e ≡ get_or es i e
    → map (part_of tail) es ≡ map (part_of tail) (take i es) ++ part_of tail e ∷ map (part_of tail) (drop (i + 1) es)
split_at tail es i e h is =
    ap (map (part_of tail)) (sym (take-append-drop i es) ∙ ap (λ x. take i es ++ x) (drop_more es i e h)
    ∙ ap (λ x. take i es ++ x ∷ drop (i + 1) es) (sym is))
    ∙ map-append (part_of tail) (take i es) (e ∷ drop (i + 1) es)

-- of those before the n-th
pub split_front : (tail : Tail) (es : List Element) (i n : ℕ) (e : Element) → i < n → n ≤ length es → e ≡ get_or es i e
    → map (part_of tail) (take n es) ≡ map (part_of tail) (take i es) ++ part_of tail e ∷ map (part_of tail) (drop (i + 1) (take n es))
split_front tail es i n e low high is =
    let rest = drop (i + 1) (take n es) in
    ap (map (part_of tail)) (sym (take-append-drop (i + 1) (take n es)) ∙ ap (λ x. x ++ rest) (take-take (i + 1) n es (omega (arith, low))))
    ∙ map-append (part_of tail) (take (i + 1) es) rest
    ∙ ap (λ x. x ++ map (part_of tail) rest) (one_more tail es i e (omega (arith, low, high)) is)
    ∙ append_assoc (map (part_of tail) (take i es)) (part_of tail e ∷ []) (map (part_of tail) rest)

-- ---- the work
pub work_one : (p : Part) → parts_work (p ∷ []) ≡ part_work p
work_one p = omega arith

pub work_more : (ps : List Part) (p : Part) → 0 < length ps → parts_work (ps ++ p ∷ []) ≡ parts_work ps + (part_work
    p + 1)
work_more ps p some = omega (arith, sum_by_push part_work ps p, length-append ps (p ∷ []))

pub work_front : (ps qs : List Part) → parts_work ps ≤ parts_work (ps ++ qs)
work_front ps qs = omega (arith, sum_by-append part_work ps qs, length-append ps qs)

pub work_up_to : (ps : List Part) (p : Part) (qs : List Part) → 0 < length ps
    → parts_work ps + (part_work p + 1) ≤ parts_work (ps ++ p ∷ qs)
work_up_to ps p qs some =
    omega (arith, sum_by-append part_work ps (p ∷ qs), sum_by-cons part_work p qs, length-append ps (p ∷ qs))

pub some_taken : (tail : Tail) (es : List Element) (n : ℕ) → 1 ≤ n → n ≤ length es
    → 0 < length (map (part_of tail) (take n es))
some_taken tail es n low high = omega (arith, length-map (take n es) (part_of tail), length-take n es)

-- ---- all elements
all_among : (es ds : List Element) → ((e : Element) → Among e ds → Among e es) → All (λ e. Among e es) ds
all_among es [] h = All-nil (λ e. Among e es)
all_among es (d ∷ ds) h = All-cons (λ e. Among e es) d ds (h d (inl refl)) (all_among es ds (λ e k. h e (inr k)))

pub all_elements : (c : SpecCurve) (es : List Element) → es ≡ elements_of c.pieces (pieces_end c.tail)
    → All (IsElementOf c) es
all_elements c es is = All-same (IsElementOf c) es (elements_of c.pieces (pieces_end c.tail)) is
    (all_among (elements_of c.pieces (pieces_end c.tail)) (elements_of c.pieces (pieces_end c.tail)) (λ e k. k))

pub split_parts : (c : SpecCurve) (es : List Element) (n : ℕ) → es ≡ elements_of c.pieces (pieces_end c.tail)
    → parts_of c ≡ map (part_of c.tail) (take n es) ++ map (part_of c.tail) (drop n es)
split_parts c es n is =
    ap (map (part_of c.tail)) (sym is ∙ sym (take-append-drop n es))
    ∙ map-append (part_of c.tail) (take n es) (drop n es)

-- those before the last, and the last
pub split_last : (c : SpecCurve) (es : List Element) (n : ℕ) (e : Element)
    → es ≡ elements_of c.pieces (pieces_end c.tail)
    → n + 1 ≡ length es → e ≡ get_or es n e → parts_of c ≡ map (part_of c.tail) (take n es) ++ part_of c.tail e ∷ []
split_last c es n e all h is =
    ap (map (part_of c.tail)) (sym all) ∙ split_at c.tail es n e (omega (arith, h)) is
    ∙ ap (λ x. map (part_of c.tail) (take n es) ++ part_of c.tail e ∷ map (part_of c.tail) x)
    (drop_all (n + 1) es (omega (arith, h)))
