-- The elements of pieces: where each is, what it reads, and that a time with a finite value is a time of exactly one.
use Rattle.std.specs.Prelude.{◌≡◌, ◌⊎◌, pos, List, [], ◌∷◌, ◌++◌, Option, Some, None}
use Rattle.std.proofs.Common.{sym, ap, ◌∙◌, refl, subst, inl, inr}
use Rattle.rational.specs.Rational.{ℚ, ◌≤ℚ◌, ◌<ℚ◌, int}
use Rattle.rational.specs.Extended.{Ext, ◌<ₑ◌}
use Rattle.rational.specs.declared.Extended.TheVariants.{Fin, Inf}
use Rattle.rational.proofs.Laws.{le_or_lt, le_of_lt, le_refl, le_trans, lt_irrefl, le_lt_trans, antisym}
use Rattle.rational.proofs.ExtendedOrder.{fin_same, lt_ext_trans}
use Rattle.upp_curve.specs.declared.affine_segment.line.Line.{Line}
use Rattle.upp_curve.specs.declared.affine_segment.line.Piece.{Piece}
use Rattle.upp_curve.specs.declared.affine_segment.element.Element.{Element}
use Rattle.upp_curve.specs.declared.affine_segment.element.Element.TheVariants.{Point, Open}
use Rattle.upp_curve.specs.affine_segment.Values.{line_value}
use Rattle.upp_curve.specs.affine_segment.Elements.{IsProper, Covers, level}
use Rattle.upp_curve.specs.affine_segment.Reading.{piece_value, read}
use Rattle.upp_curve.specs.affine_segment.Pieces.{RisesFrom, StartsAtZero}
use Rattle.upp_curve.proofs.affine_segment.PieceIn.{value_past, read_go, read_one, read_stop, value_by}
use Rattle.element_envelope.specs.PieceElements.{point_of, segment_of, elements_of, StartBefore, Among, ElementAt}
use Rattle.element_envelope.specs.ConvolutionLaws.{ElementsCover}
use Rattle.element_envelope.proofs.Members.{among_left, among_right, among_cases}
use Rattle.upp_normal.proofs.NormaliseGrids.{some_same}
use Rattle.upp_curve.proofs.affine_segment.LineValues.{line_found}

-- ---- one piece
abbrev pub head : ℚ → Ext → Option Line → Ext → List Element
head x at line next = point_of x at ++ segment_of x next line

-- its elements are the point at its start and the segment after it
pub head_cases : (x : ℚ) (at : Ext) (line : Option Line) (next : Ext) (e : Element) → Among e (head x at line next)
    → ((v : ℚ) × (at ≡ Fin v) × (e ≡ Point x v)) ⊎ ((l : Line) × (line ≡ Some l) × (e ≡ Open x next l))
head_cases x Inf None next e h = absurd h
head_cases x Inf (Some l) next e (inl p) = inr (l, refl, p)
head_cases x Inf (Some l) next e (inr p) = absurd p
head_cases x (Fin v) None next e (inl p) = inl (v, refl, p)
head_cases x (Fin v) None next e (inr p) = absurd p
head_cases x (Fin v) (Some l) next e (inl p) = inl (v, refl, p)
head_cases x (Fin v) (Some l) next e (inr (inl p)) = inr (l, refl, p)
head_cases x (Fin v) (Some l) next e (inr (inr p)) = absurd p

head_point : (x v : ℚ) (at : Ext) (line : Option Line) (next : Ext) → at ≡ Fin v → Among (Point x v) (head x at line next)
head_point x v at line next e = subst (λ z. Among (Point x v) (head x z line next)) (sym e) (inl refl)

head_line : (x : ℚ) (at : Ext) (line : Option Line) (l : Line) (next : Ext) → line ≡ Some l → Among (Open x next l) (head x at line next)
head_line x at line l next e = subst (λ z. Among (Open x next l) (head x at z next)) (sym e) (go at)
  where
    go : (at : Ext) → Among (Open x next l) (head x at (Some l) next)
    go Inf = inl refl
    go (Fin v) = inr (inl refl)

-- where an element is, and what is read there
record Found (e : Element) (x t : ℚ) (next : Ext) (value : Ext) : Type 0 where
  late : x ≤ℚ t
  early : Fin t <ₑ next
  reads : value ≡ Fin (level e t)

covered_at : (e d : Element) (t : ℚ) → e ≡ d → Covers e t → Covers d t
covered_at e d t h c = subst (λ z. Covers z t) h c

head_reads : (p : Piece) (next : Ext) (t : ℚ) (e : Element) → Fin p.x <ₑ next → Among e (head p.x p.at p.line next) → Covers e t
    → Found e p.x t next (piece_value p t)
head_reads p next t e room h c = elim (head_cases p.x p.at p.line next e h) [
  | inl k ↦
      let (v, at, is) = k in
      let here : t ≡ p.x = covered_at e (Point p.x v) t is c in
      subst (λ z. Found z p.x t next (piece_value p t)) (sym is) record {
        late = subst (λ z. p.x ≤ℚ z) (sym here) (le_refl p.x);
        early = subst (λ z. Fin z <ₑ next) (sym here) room;
        reads = value_by p t (subst (λ z. z ≤ℚ p.x) (sym here) (le_refl p.x)) ∙ at;
      }
  | inr k ↦
      let (l, line, is) = k in
      let w = covered_at e (Open p.x next l) t is c in
      subst (λ z. Found z p.x t next (piece_value p t)) (sym is) record {
        late = le_of_lt w.past;
        early = w.before;
        reads = value_past p t w.past ∙ ap (λ o. line_value o t) line;
      }
]

head_found : (p : Piece) (next : Ext) (t v : ℚ) → p.x ≤ℚ t → Fin t <ₑ next → piece_value p t ≡ Fin v
    → (e : Element) × Among e (head p.x p.at p.line next) × Covers e t
head_found p next t v late early is = elim (le_or_lt t p.x) [
  | inl h ↦ (Point p.x v, head_point p.x v p.at p.line next (sym (value_by p t h) ∙ is), antisym (h, late))
  | inr h ↦
      let (l, line) = line_found p.line t v (sym (value_past p t h) ∙ is) in
      (Open p.x next l, head_line p.x p.at p.line l next line, record { past = h; before = early })
]

head_one : (p : Piece) (next : Ext) (t : ℚ) (d e : Element) → Among d (head p.x p.at p.line next) → Among e (head p.x p.at p.line next)
    → Covers d t → Covers e t → d ≡ e
head_one p next t d e h k c b = go (head_cases p.x p.at p.line next d h) (head_cases p.x p.at p.line next e k)
  where
    here : (v : ℚ) → t ≡ p.x → p.x <ℚ t → ⊥
    here v q l = lt_irrefl p.x (subst (λ z. p.x <ℚ z) q l)

    go : ((v : ℚ) × (p.at ≡ Fin v) × (d ≡ Point p.x v)) ⊎ ((l : Line) × (p.line ≡ Some l) × (d ≡ Open p.x next l))
        → ((v : ℚ) × (p.at ≡ Fin v) × (e ≡ Point p.x v)) ⊎ ((l : Line) × (p.line ≡ Some l) × (e ≡ Open p.x next l))
        → d ≡ e
    go (inl (v, at, is)) (inl (w, at', is')) = is ∙ ap (λ z. Point p.x z) (fin_same (sym at ∙ at')) ∙ sym is'
    go (inl (v, at, is)) (inr (m, line, is')) =
        absurd (here v (covered_at d (Point p.x v) t is c) ((covered_at e (Open p.x next m) t is' b).past))
    go (inr (l, line, is)) (inl (w, at, is')) =
        absurd (here w (covered_at e (Point p.x w) t is' b) ((covered_at d (Open p.x next l) t is c).past))
    go (inr (l, line, is)) (inr (m, line', is')) = is ∙ ap (λ z. Open p.x next z) (some_same l m (sym line ∙ line')) ∙ sym is'

-- its segment starts before its end
head_proper : (p : Piece) (next : Ext) (e : Element) → Fin p.x <ₑ next → Among e (head p.x p.at p.line next) → IsProper e
head_proper p next e room h = elim (head_cases p.x p.at p.line next e h) [
  | inl m ↦ subst IsProper (sym m.2) tt
  | inr m ↦ subst IsProper (sym m.2) room
]

-- ---- pieces

list_reads : (p : Piece) (ps : List Piece) (end : Ext) (t : ℚ) (e : Element) → RisesFrom p.x ps → StartBefore end (p ∷ ps)
    → Among e (elements_of (p ∷ ps) end) → Covers e t → Found e p.x t end (read (p ∷ ps) t)
list_reads p [] end t e r b h c = elim (among_cases e (head p.x p.at p.line end) [] h) [
  | inl k ↦
      let f = head_reads p end t e b.0 k c in
      record { late = f.late; early = f.early; reads = read_one p t ∙ f.reads }
  | inr k ↦ absurd k
]
list_reads p (q ∷ qs) end t e r b h c = elim (among_cases e (head p.x p.at p.line (Fin q.x)) (elements_of (q ∷ qs) end) h) [
  | inl k ↦
      let f = head_reads p (Fin q.x) t e r.0 k c in
      record { late = f.late; early = lt_ext_trans (Fin t) (Fin q.x) end f.early b.1.0; reads = read_stop p q qs t f.early ∙ f.reads }
  | inr k ↦
      let f = list_reads q qs end t e r.1 b.1 k c in
      record { late = le_trans (le_of_lt r.0) f.late; early = f.early; reads = read_go p q qs t f.late ∙ f.reads }
]

list_found : (p : Piece) (ps : List Piece) (end : Ext) (t v : ℚ) → p.x ≤ℚ t → Fin t <ₑ end → read (p ∷ ps) t ≡ Fin v
    → ElementAt (elements_of (p ∷ ps) end) t
list_found p [] end t v late early is =
    let (e, k, c) = head_found p end t v late early (sym (read_one p t) ∙ is) in
    record { element = e; among = among_left e (head p.x p.at p.line end) [] k; covers = c }
list_found p (q ∷ qs) end t v late early is = elim (le_or_lt q.x t) [
  | inl h ↦
      let f = list_found q qs end t v h early (sym (read_go p q qs t h) ∙ is) in
      record { element = f.element; among = among_right f.element (head p.x p.at p.line (Fin q.x)) (elements_of (q ∷ qs) end) f.among; covers = f.covers }
  | inr h ↦
      let (e, k, c) = head_found p (Fin q.x) t v late h (sym (read_stop p q qs t h) ∙ is) in
      record { element = e; among = among_left e (head p.x p.at p.line (Fin q.x)) (elements_of (q ∷ qs) end) k; covers = c }
]

list_one : (p : Piece) (ps : List Piece) (end : Ext) (t : ℚ) (d e : Element) → RisesFrom p.x ps → StartBefore end (p ∷ ps)
    → Among d (elements_of (p ∷ ps) end) → Among e (elements_of (p ∷ ps) end) → Covers d t → Covers e t → d ≡ e
list_one p [] end t d e r b h k c u =
    elim (among_cases d (head p.x p.at p.line end) [] h) [
      | inl m ↦ elim (among_cases e (head p.x p.at p.line end) [] k) [ inl n ↦ head_one p end t d e m n c u | inr n ↦ absurd n ]
      | inr m ↦ absurd m
    ]
list_one p (q ∷ qs) end t d e r b h k c u =
    elim (among_cases d (head p.x p.at p.line (Fin q.x)) (elements_of (q ∷ qs) end) h) [
      | inl m ↦ elim (among_cases e (head p.x p.at p.line (Fin q.x)) (elements_of (q ∷ qs) end) k) [
        | inl n ↦ head_one p (Fin q.x) t d e m n c u
        | inr n ↦ absurd (apart d e m n c u)
      ]
      | inr m ↦ elim (among_cases e (head p.x p.at p.line (Fin q.x)) (elements_of (q ∷ qs) end) k) [
        | inl n ↦ absurd (apart e d n m u c)
        | inr n ↦ list_one q qs end t d e r.1 b.1 m n c u
      ]
    ]
  where
    -- one is before the next start, and the other from there on
    apart : (d e : Element) → Among d (head p.x p.at p.line (Fin q.x)) → Among e (elements_of (q ∷ qs) end) → Covers d t → Covers e t → ⊥
    apart d e m n c u =
        let f = head_reads p (Fin q.x) t d r.0 m c in
        let g = list_reads q qs end t e r.1 b.1 n u in
        lt_irrefl q.x (le_lt_trans g.late f.early)

-- each starts before its end
list_proper : (p : Piece) (ps : List Piece) (end : Ext) (e : Element) → RisesFrom p.x ps → StartBefore end (p ∷ ps) → Among e (elements_of (p ∷ ps) end) → IsProper e
list_proper p [] end e r b h = elim (among_cases e (head p.x p.at p.line end) [] h) [
  | inl k ↦ head_proper p end e b.0 k
  | inr k ↦ absurd k
]
list_proper p (q ∷ qs) end e r b h = elim (among_cases e (head p.x p.at p.line (Fin q.x)) (elements_of (q ∷ qs) end) h) [
  | inl k ↦ head_proper p (Fin q.x) e r.0 k
  | inr k ↦ list_proper q qs end e r.1 b.1 k
]

pub cover : (ps : List Piece) (end : Ext) → StartsAtZero ps → StartBefore end ps → ElementsCover ps end
cover [] end h b = absurd h
cover (p ∷ ps) end h b = record {
  proper = λ e k. list_proper p ps end e h.1 b k;
  reads = λ t e. (list_reads p ps end t e.element h.1 b e.among e.covers).reads;
  found = λ t v late early is. list_found p ps end t v (subst (λ z. z ≤ℚ t) (sym h.0) late) early is;
  one = λ t d e. list_one p ps end t d.element e.element h.1 b d.among e.among d.covers e.covers;
}

-- each is from 0 on and before the end
pub element_times : (ps : List Piece) (end : Ext) (t : ℚ) (e : Element) → StartsAtZero ps → StartBefore end ps → Among e (elements_of ps end) → Covers e t
    → (int (pos 0) ≤ℚ t) × (Fin t <ₑ end)
element_times [] end t e h b k c = absurd h
element_times (p ∷ ps) end t e h b k c =
    let f = list_reads p ps end t e h.1 b k c in
    (subst (λ z. z ≤ℚ t) h.0 f.late, f.early)
