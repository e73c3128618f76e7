-- With a window of one line, what a convolution needs of the other's starts is the lowest of that line as it runs on.
use Rattle.std.specs.Prelude.{◌≡◌, ◌⊎◌, pos, List, [], ◌∷◌, Option, None}
use Rattle.std.proofs.Common.{arith, sym, ap, ap₂, ◌∙◌, refl, subst, inl, inr}
use Rattle.rational.specs.Rational.{ℚ, ◌+ℚ◌, ◌-ℚ◌, ◌*ℚ◌, ◌≤ℚ◌, ◌<ℚ◌, int}
use Rattle.rational.specs.Extended.{Ext, ◌≤ₑ◌, ◌<ₑ◌, ◌+ₑ◌, min_ext}
use Rattle.rational.specs.declared.Extended.TheVariants.{Fin, Inf}
use Rattle.rational.proofs.Linear.{sub_nonneg, sub_pos, with2, with5}
use Rattle.rational.proofs.Laws.{le_or_lt, le_of_lt, le_refl, le_trans, lt_irrefl, lt_le_trans, le_lt_trans, antisym, mul_sub}
use Rattle.rational.proofs.ExtendedOrder.{same_le_ext, le_ext_refl, le_ext_trans, le_lt_ext, le_inf, add_le_ext, add_ext_comm, min_left, min_right, min_one}
use Rattle.upp_curve.specs.declared.affine_segment.line.Line.{Line}
use Rattle.upp_curve.specs.declared.affine_segment.line.Piece.{Piece}
use Rattle.upp_curve.specs.affine_segment.Values.{line_at, line_value}
use Rattle.upp_curve.specs.affine_segment.Pieces.{RisesFrom, StartsAtZero}
use Rattle.upp_curve.specs.affine_segment.Reading.{read, piece_value}
use Rattle.upp_curve.proofs.affine_segment.PieceIn.{value_past, value_by, read_go, read_one, read_stop}
use Rattle.element_envelope.specs.Copies.{IsPieceOf, StartSplit, start_sum}
use Rattle.element_envelope.specs.LimitCopies.{afters, befores_from, befores}
use Rattle.element_envelope.specs.RunningLines.{moved_to, line_from, reached, passed, running_piece, running, StartsBelow, RunningSuffices}
use Rattle.element_envelope.proofs.StartSplits.{from_first, start_is, rest}
use Rattle.element_envelope.proofs.LimitSplits.{after_of, before_of, after_value, rises_afters, rises_befores, LimitStart, limit_sum, limits_convolve}

-- ---- values of lines
-- a line that is moved x later and v higher is at t what it was at t - x, and v
moved_value : (l : Line) (x t : ℚ) (v : Ext) → moved_to l x v +ₑ Fin (l.slope *ℚ t) ≡ v +ₑ Fin (line_at l (t -ℚ x))
moved_value l x t Inf = refl
moved_value l x t (Fin v) = ap Fin (sums l.icept v (l.slope *ℚ x) (l.slope *ℚ t) (l.slope *ℚ (t -ℚ x)) (mul_sub l.slope t x))
  where
    sums : (i v a b m : ℚ) → m ≡ b -ℚ a → i +ℚ v -ℚ a +ℚ b ≡ v +ℚ (i +ℚ m)
    sums i v a b m e = with5 i v a b m (λ c. omega (arith, c.le, c.lt, c.same))

pub line_from_value : (r t : ℚ) (c : Ext) → line_value (line_from r c) t ≡ c +ₑ Fin (r *ℚ t)
line_from_value r t Inf = refl
line_from_value r t (Fin c) = refl

-- ---- the places of which the lowest is taken
-- of one piece: its value, the limit before it, and after it that past it
abbrev IsOwn : Option Line → Piece → ℚ → Piece → Type 0
IsOwn before q t c = ((c ≡ q) × (c.x ≤ℚ t)) ⊎ (((c ≡ before_of before q) × (c.x ≤ℚ t)) ⊎ ((c ≡ after_of q) × (c.x <ℚ t)))

-- of pieces
abbrev IsSide : Option Line → List Piece → ℚ → Piece → Type 0
IsSide before ps t c = (IsPieceOf c ps × (c.x ≤ℚ t)) ⊎ ((IsPieceOf c (befores_from before ps) × (c.x ≤ℚ t)) ⊎ (IsPieceOf c (afters ps) × (c.x <ℚ t)))

side_cases : (before : Option Line) (q : Piece) (qs : List Piece) (t : ℚ) (c : Piece) → IsSide before (q ∷ qs) t c → IsOwn before q t c ⊎ IsSide q.line qs t c
unfolding before_of after_of
side_cases before q qs t c (inl (inl e, h)) = inl (inl (e, h))
side_cases before q qs t c (inl (inr k, h)) = inr (inl (k, h))
side_cases before q qs t c (inr (inl (inl e, h))) = inl (inr (inl (e, h)))
side_cases before q qs t c (inr (inl (inr k, h))) = inr (inr (inl (k, h)))
side_cases before q qs t c (inr (inr (inl e, h))) = inl (inr (inr (e, h)))
side_cases before q qs t c (inr (inr (inr k, h))) = inr (inr (inr (k, h)))

own_side : (before : Option Line) (q : Piece) (qs : List Piece) (t : ℚ) (c : Piece) → IsOwn before q t c → IsSide before (q ∷ qs) t c
unfolding before_of after_of
own_side before q qs t c (inl (e, h)) = inl (inl e, h)
own_side before q qs t c (inr (inl (e, h))) = inr (inl (inl e, h))
own_side before q qs t c (inr (inr (e, h))) = inr (inr (inl e, h))

rest_side : (before : Option Line) (q : Piece) (qs : List Piece) (t : ℚ) (c : Piece) → IsSide q.line qs t c → IsSide before (q ∷ qs) t c
rest_side before q qs t c (inl (k, h)) = inl (inr k, h)
rest_side before q qs t c (inr (inl (k, h))) = inr (inl (inr k, h))
rest_side before q qs t c (inr (inr (k, h))) = inr (inr (inr k, h))

-- none is later than t
side_late : (before : Option Line) (n : Piece) (ns : List Piece) (t : ℚ) (c : Piece) → RisesFrom n.x ns → t <ℚ n.x → ¬ IsSide before (n ∷ ns) t c
unfolding before_of after_of
side_late before n ns t c r h (inl (k, m)) = lt_irrefl t (lt_le_trans h (le_trans (from_first n ns c r k) m))
side_late before n ns t c r h (inr (inl (k, m))) =
    lt_irrefl t (lt_le_trans h (le_trans (from_first (before_of before n) (befores_from n.line ns) c (rises_befores n.line n.x ns r) k) m))
side_late before n ns t c r h (inr (inr (k, m))) =
    lt_irrefl t (lt_le_trans h (le_trans (from_first (after_of n) (afters ns) c (rises_afters n.x ns r) k) (le_of_lt m)))

-- ---- the lowest
-- h is the lowest of `low` and of the line moved to each of some places
record IsLowest (l : Line) (low : Ext) (S : Piece → Type 0) (h : Ext) : Type 0 where
  first : h ≤ₑ low
  each : (c : Piece) → S c → h ≤ₑ moved_to l c.x c.at
  is : (h ≡ low) ⊎ ((c : Piece) × S c × (h ≡ moved_to l c.x c.at))

reached_each : (l : Line) (low : Ext) (before : Option Line) (q : Piece) → (reached l low before q ≤ₑ moved_to l q.x (line_value before q.x)) × (reached l low before q ≤ₑ moved_to l q.x q.at)
reached_each l low before q =
    let A = moved_to l q.x (line_value before q.x) in
    let B = moved_to l q.x q.at in
    let m = min_right low (min_ext A B) in
    (le_ext_trans (reached l low before q) (min_ext A B) A m (min_left A B), le_ext_trans (reached l low before q) (min_ext A B) B m (min_right A B))

reached_is : (l : Line) (low : Ext) (before : Option Line) (q : Piece) (t : ℚ) → q.x ≤ℚ t
    → (reached l low before q ≡ low) ⊎ ((c : Piece) × IsOwn before q t c × (reached l low before q ≡ moved_to l c.x c.at))
unfolding before_of
reached_is l low before q t k =
    let A = moved_to l q.x (line_value before q.x) in
    let B = moved_to l q.x q.at in
    elim (min_one low (min_ext A B)) [
      | inl e ↦ inl e
      | inr e ↦ elim (min_one A B) [
        | inl d ↦ inr (before_of before q, inr (inl (refl, k)), e ∙ d)
        | inr d ↦ inr (q, inl (refl, k), e ∙ d)
      ]
    ]

own_at : (l : Line) (low : Ext) (before : Option Line) (q : Piece) (t : ℚ) → q.x ≤ℚ t → t ≤ℚ q.x → IsLowest l low (IsOwn before q t) (reached l low before q)
unfolding before_of after_of
own_at l low before q t k m = record {
  first = min_left low (min_ext (moved_to l q.x (line_value before q.x)) (moved_to l q.x q.at));
  each = λ c. each c;
  is = reached_is l low before q t k;
}
  where
    each : (c : Piece) → IsOwn before q t c → reached l low before q ≤ₑ moved_to l c.x c.at
    each c (inl (e, h)) = subst (λ z. reached l low before q ≤ₑ moved_to l z.x z.at) (sym e) (reached_each l low before q).1
    each c (inr (inl (e, h))) = subst (λ z. reached l low before q ≤ₑ moved_to l z.x z.at) (sym e) (reached_each l low before q).0
    each c (inr (inr (e, h))) = absurd (lt_irrefl t (le_lt_trans m (subst (λ z. z.x <ℚ t) e h)))

own_past : (l : Line) (low : Ext) (before : Option Line) (q : Piece) (t : ℚ) → q.x <ℚ t → IsLowest l low (IsOwn before q t) (passed l (reached l low before q) q)
unfolding before_of after_of
own_past l low before q t k = record {
  first = le_ext_trans past here low down (min_left low (min_ext (moved_to l q.x (line_value before q.x)) (moved_to l q.x q.at)));
  each = λ c. each c;
  is = elim (min_one here after) [
    | inl e ↦ elim (reached_is l low before q t (le_of_lt k)) [ inl d ↦ inl (e ∙ d) | inr d ↦ inr (d.0, d.1, e ∙ d.2) ]
    | inr e ↦ inr (after_of q, inr (inr (refl, k)), e)
  ];
}
  where
    here : Ext
    here = reached l low before q

    after : Ext
    after = moved_to l q.x (line_value q.line q.x)

    past : Ext
    past = passed l here q

    down : past ≤ₑ here
    down = min_left here after

    each : (c : Piece) → IsOwn before q t c → past ≤ₑ moved_to l c.x c.at
    each c (inl (e, h)) = subst (λ z. past ≤ₑ moved_to l z.x z.at) (sym e) (le_ext_trans past here (moved_to l q.x q.at) down (reached_each l low before q).1)
    each c (inr (inl (e, h))) =
        subst (λ z. past ≤ₑ moved_to l z.x z.at) (sym e) (le_ext_trans past here (moved_to l q.x (line_value before q.x)) down (reached_each l low before q).0)
    each c (inr (inr (e, h))) = subst (λ z. past ≤ₑ moved_to l z.x z.at) (sym e) (min_right here after)

-- with pieces after it that are later, and with pieces after it of which the lowest is known
alone : (l : Line) (low : Ext) (before : Option Line) (q : Piece) (qs : List Piece) (t : ℚ) (h : Ext) → ((c : Piece) → ¬ IsSide q.line qs t c) → IsLowest l low (IsOwn before q t) h → IsLowest l low (IsSide before (q ∷ qs) t) h
alone l low before q qs t h none L = record {
  first = L.first;
  each = λ c s. elim (side_cases before q qs t c s) [ inl m ↦ L.each c m | inr m ↦ absurd (none c m) ];
  is = elim L.is [ inl e ↦ inl e | inr m ↦ inr (m.0, own_side before q qs t m.0 m.1, m.2) ];
}

later_lowest : (l : Line) (low past : Ext) (before : Option Line) (q : Piece) (qs : List Piece) (t : ℚ) (h : Ext) → IsLowest l low (IsOwn before q t) past → IsLowest l past (IsSide q.line qs t) h
    → IsLowest l low (IsSide before (q ∷ qs) t) h
later_lowest l low past before q qs t h O L = record {
  first = le_ext_trans h past low L.first O.first;
  each = λ c s. elim (side_cases before q qs t c s) [ inl m ↦ le_ext_trans h past (moved_to l c.x c.at) L.first (O.each c m) | inr m ↦ L.each c m ];
  is = elim L.is [
    | inl e ↦ elim O.is [ inl d ↦ inl (e ∙ d) | inr m ↦ inr (m.0, own_side before q qs t m.0 m.1, e ∙ m.2) ]
    | inr m ↦ inr (m.0, rest_side before q qs t m.0 m.1, m.2)
  ];
}

-- what is read of the running lines is the lowest, and what the slope gains from 0 on
record RunsAt (l : Line) (low : Ext) (S : Piece → Type 0) (t : ℚ) (v : Ext) : Type 0 where
  height : Ext
  value : v ≡ height +ₑ Fin (l.slope *ℚ t)
  lowest : IsLowest l low S height

runs_in : (l : Line) (low : Ext) (before : Option Line) (q : Piece) (t : ℚ) → q.x ≤ℚ t → RunsAt l low (IsOwn before q t) t (piece_value (running_piece l low before q) t)
runs_in l low before q t k = elim (le_or_lt t q.x) [
  | inl m ↦ record {
    height = reached l low before q;
    value =
        value_by (running_piece l low before q) t m ∙ ap (line_value (line_from l.slope (reached l low before q))) (antisym (k, m))
        ∙ line_from_value l.slope t (reached l low before q);
    lowest = own_at l low before q t k m;
  }
  | inr m ↦ record {
    height = passed l (reached l low before q) q;
    value = value_past (running_piece l low before q) t m ∙ line_from_value l.slope t (passed l (reached l low before q) q);
    lowest = own_past l low before q t m;
  }
]

runs_alone : (l : Line) (low : Ext) (before : Option Line) (q : Piece) (qs : List Piece) (t : ℚ) (v : Ext) → ((c : Piece) → ¬ IsSide q.line qs t c) → v ≡ piece_value (running_piece l low before q) t
    → q.x ≤ℚ t → RunsAt l low (IsSide before (q ∷ qs) t) t v
runs_alone l low before q qs t v none e k =
    let R = runs_in l low before q t k in
    record { height = R.height; value = e ∙ R.value; lowest = alone l low before q qs t R.height none R.lowest }

runs : (l : Line) (low : Ext) (before : Option Line) (q : Piece) (qs : List Piece) (t : ℚ) → RisesFrom q.x qs → q.x ≤ℚ t → RunsAt l low (IsSide before (q ∷ qs) t) t (read (running l low before (q ∷ qs)) t)
runs l low before q [] t r k = runs_alone l low before q [] t _ none (read_one (running_piece l low before q) t) k
  where
    none : (c : Piece) → ¬ IsSide q.line [] t c
    none c (inl (m, h)) = m
    none c (inr (inl (m, h))) = m
    none c (inr (inr (m, h))) = m
runs l low before q (n ∷ ns) t r k =
    let past = passed l (reached l low before q) q in
    let P = running_piece l low before q in
    let N = running_piece l past q.line n in
    let Ns = running l (passed l (reached l past q.line n) n) n.line ns in
    elim (le_or_lt n.x t) [
      | inl m ↦
          let R = runs l past q.line n ns t r.1 m in
          record {
            height = R.height;
            value = read_go P N Ns t m ∙ R.value;
            lowest = later_lowest l low past before q (n ∷ ns) t R.height (own_past l low before q t (lt_le_trans r.0 m)) R.lowest;
          }
      | inr m ↦ runs_alone l low before q (n ∷ ns) t _ (λ c. side_late q.line n ns t c r.1 m) (read_stop P N Ns t m) k
    ]

-- ---- pieces with the limits before their starts: elsewhere they read alike
abbrev IsBeforeRead : List Piece → List Piece → ℚ → Type 0
IsBeforeRead bs ps t = (read bs t ≡ read ps t) ⊎ ((c : Piece) × IsPieceOf c bs × (c.x ≡ t) × (c.at ≡ read bs t))

before_in : (b : Option Line) (q : Piece) (t : ℚ) (bs ps : List Piece) → q.x ≤ℚ t → IsPieceOf (before_of b q) bs → read bs t ≡ piece_value (before_of b q) t → read ps t ≡ piece_value q t → IsBeforeRead bs ps t
unfolding before_of
before_in b q t bs ps k among e d = elim (le_or_lt t q.x) [
  | inl m ↦ inr (before_of b q, among, antisym (k, m), sym (e ∙ value_by (before_of b q) t m))
  | inr m ↦ inl (e ∙ value_past (before_of b q) t m ∙ sym (d ∙ value_past q t m))
]

before_read : (b : Option Line) (q : Piece) (qs : List Piece) (t : ℚ) → RisesFrom q.x qs → q.x ≤ℚ t → IsBeforeRead (befores_from b (q ∷ qs)) (q ∷ qs) t
unfolding before_of
before_read b q [] t r k = before_in b q t (befores_from b (q ∷ [])) (q ∷ []) k (inl refl) (read_one (before_of b q) t) (read_one q t)
before_read b q (n ∷ ns) t r k =
    let N = before_of q.line n in
    let Ns = befores_from n.line ns in
    elim (le_or_lt n.x t) [
      | inl m ↦ elim (before_read q.line n ns t r.1 m) [
        | inl e ↦ inl (read_go (before_of b q) N Ns t m ∙ e ∙ sym (read_go q n ns t m))
        | inr c ↦ inr (c.0, inr c.1, c.2, c.3 ∙ sym (read_go (before_of b q) N Ns t m))
      ]
      | inr m ↦ before_in b q t (befores_from b (q ∷ n ∷ ns)) (q ∷ n ∷ ns) k (inl refl) (read_stop (before_of b q) N Ns t m) (read_stop q n ns t m)
    ]

-- ---- the one line
inf_right : (v : Ext) → v +ₑ Inf ≡ Inf
inf_right v = add_ext_comm v Inf

gap_is : (x t : ℚ) → x ≡ t → t -ℚ x ≡ int (pos 0)
gap_is x t e = with2 x t (λ c. omega (arith, c.le, c.lt, c.same))

-- what is read of it, and of it with limits
record Reads (l : Line) (p : Piece) : Type 0 where
  past : (u : ℚ) → int (pos 0) <ℚ u → read (p ∷ []) u ≡ Fin (line_at l u)
  low : (u : ℚ) → int (pos 0) ≤ℚ u → read (p ∷ []) u ≤ₑ Fin (line_at l u)
  after : (u : ℚ) → int (pos 0) ≤ℚ u → read (afters (p ∷ [])) u ≡ Fin (line_at l u)
  before : (u : ℚ) → int (pos 0) <ℚ u → read (befores (p ∷ [])) u ≡ Fin (line_at l u)
  first : (u : ℚ) → u ≤ℚ int (pos 0) → read (befores (p ∷ [])) u ≡ Inf

reads : (l : Line) (p : Piece) → p.x ≡ int (pos 0) → StartsBelow l p → Reads l p
unfolding before_of after_of
reads l p zero S = record {
  past = past;
  low = λ u h. elim (le_or_lt u p.x) [
    | inl k ↦
        subst (λ v. v ≤ₑ Fin (line_at l u)) (sym (read_one p u ∙ value_by p u k))
        (subst (λ z. p.at ≤ₑ Fin (line_at l z)) (antisym (subst (λ z. z ≤ℚ u) (sym zero) h, k)) S.low)
    | inr k ↦ same_le_ext (read_one p u ∙ value_past p u k ∙ ap (λ o. line_value o u) S.line_is)
  ];
  after = λ u h. read_one (after_of p) u ∙ after_value p u (subst (λ z. z ≤ℚ u) (sym zero) h) ∙ ap (λ o. line_value o u) S.line_is;
  before = λ u h. read_one (before_of None p) u ∙ value_past (before_of None p) u (subst (λ z. z <ℚ u) (sym zero) h) ∙ ap (λ o. line_value o u) S.line_is;
  first = λ u h. read_one (before_of None p) u ∙ value_by (before_of None p) u (subst (λ z. u ≤ℚ z) (sym zero) h);
}
  where
    past : (u : ℚ) → int (pos 0) <ℚ u → read (p ∷ []) u ≡ Fin (line_at l u)
    past u h = read_one p u ∙ value_past p u (subst (λ z. z <ℚ u) (sym zero) h) ∙ ap (λ o. line_value o u) S.line_is

-- ---- the law
pub running_suffices : RunningSuffices
unfolding before_of after_of
running_suffices [] p l t w hf zero S low W = absurd hf
running_suffices (q ∷ qs) p l t w hf zero S low W = limits_convolve f g t v hf hg record { below = below; near = near }
  where
    f : List Piece
    f = q ∷ qs

    g : List Piece
    g = p ∷ []

    hg : StartsAtZero g
    hg = (zero, tt)

    G : Reads l p
    G = reads l p zero S

    begun : q.x ≤ℚ t
    begun = subst (λ z. z ≤ℚ t) (sym hf.0) low

    lines : Ext
    lines = read (running l Inf None f) t

    R : RunsAt l Inf (IsSide None f t) t lines
    R = runs l Inf None q qs t hf.1 begun

    v : Ext
    v = min_ext lines w

    at_line : Piece → Ext
    at_line c = c.at +ₑ Fin (line_at l (t -ℚ c.x))

    -- no place of the other makes less
    above : (c : Piece) → IsSide None f t c → v ≤ₑ at_line c
    above c s =
        le_ext_trans v lines (at_line c) (min_left lines w)
        (subst (λ z. z ≤ₑ at_line c) (sym R.value)
        (subst (λ z. R.height +ₑ Fin (l.slope *ℚ t) ≤ₑ z) (moved_value l c.x t c.at)
        (add_le_ext R.height (moved_to l c.x c.at) (Fin (l.slope *ℚ t)) (Fin (l.slope *ℚ t)) (R.lowest.each c s) (le_ext_refl (Fin (l.slope *ℚ t))))))

    first : StartSplit g t
    first = record { piece = p; among = inl refl; late = subst (λ z. z ≤ℚ t) (sym zero) low }

    whole : t -ℚ p.x ≡ t
    whole = ap (λ z. t -ℚ z) zero ∙ rest (int (pos 0)) t t (with2 (int (pos 0)) t (λ c. omega (arith, c.le, c.lt, c.same)))

    -- nor does the copy
    own : v ≤ₑ p.at +ₑ read f t
    own = le_ext_trans v w (p.at +ₑ read f t) (min_right lines w) (subst (λ z. w ≤ₑ p.at +ₑ read f z) whole (W.below first))

    at_end : (c : Piece) → IsPieceOf c f → c.x ≡ t → v ≤ₑ c.at +ₑ read g (t -ℚ c.x)
    at_end c k e =
        let here : read f t ≡ c.at = ap (read f) (sym e) ∙ (start_is f c hf k).1 in
        let there : read g (t -ℚ c.x) ≡ p.at = ap (read g) (gap_is c.x t e) ∙ read_one p (int (pos 0)) ∙ value_by p (int (pos 0)) (same_le zero) in
        subst (λ z. v ≤ₑ z) (add_ext_comm p.at (read f t) ∙ ap₂ (λ (a b : Ext). a +ₑ b) here (sym there)) own
      where
        same_le : {x y : ℚ} → x ≡ y → y ≤ℚ x
        same_le {x} {y} e = subst (λ z. y ≤ℚ z) (sym e) (le_refl y)

    only : (c b : Piece) → IsPieceOf c (b ∷ []) → b ≡ c
    only c b (inl e) = sym e
    only c b (inr m) = absurd m

    below : (i : LimitStart f g t) → v ≤ₑ limit_sum f g t i
    below (inl (inl i)) =
        let c = i.piece in
        elim (le_or_lt t c.x) [
          | inl k ↦ at_end c i.among (antisym (i.late, k))
          | inr k ↦ subst (λ z. v ≤ₑ c.at +ₑ z) (sym (G.past (t -ℚ c.x) (sub_pos c.x t k))) (above c (inl (i.among, i.late)))
        ]
    below (inl (inr i)) = le_ext_trans v w (start_sum g f t i) (min_right lines w) (W.below i)
    below (inr (inl (inl i))) =
        let c = i.piece in
        subst (λ z. v ≤ₑ c.at +ₑ z) (sym (G.after (t -ℚ c.x) (sub_nonneg c.x t i.late))) (above c (inr (inl (i.among, i.late))))
    below (inr (inl (inr i))) =
        let same : after_of p ≡ i.piece = only i.piece (after_of p) i.among in
        let start : line_value p.line p.x ≡ Fin (line_at l p.x) = ap (λ o. line_value o p.x) S.line_is in
        let line : p.at ≤ₑ line_value p.line p.x = subst (λ z. p.at ≤ₑ z) (sym start) S.low in
        let sum : v ≤ₑ line_value p.line p.x +ₑ read (befores f) t = elim (before_read None q qs t hf.1 begun) [
          | inl e ↦
              le_ext_trans v (p.at +ₑ read f t) (line_value p.line p.x +ₑ read (befores f) t) own
              (add_le_ext p.at (line_value p.line p.x) (read f t) (read (befores f) t) line (same_le_ext (sym e)))
          | inr c ↦
              subst (λ z. v ≤ₑ z)
              (ap₂ (λ (a b : Ext). a +ₑ b) c.3 (ap (λ z. Fin (line_at l z)) (gap_is c.0.x t c.2 ∙ sym zero) ∙ sym start)
              ∙ add_ext_comm (read (befores f) t) (line_value p.line p.x))
              (above c.0 (inr (inl (c.1, subst (λ z. c.0.x ≤ℚ z) c.2 (le_refl c.0.x)))))
        ] in
        subst (λ z. v ≤ₑ z.at +ₑ read (befores f) (t -ℚ z.x)) same (subst (λ z. v ≤ₑ line_value p.line p.x +ₑ read (befores f) z) (sym whole) sum)
    below (inr (inr (inl i))) =
        let c = i.piece in
        elim (le_or_lt t c.x) [
          | inl k ↦
              subst (λ z. v ≤ₑ z)
              (sym (ap (λ z. c.at +ₑ z) (G.first (t -ℚ c.x) (subst (λ z. z ≤ℚ int (pos 0)) (sym (gap_is c.x t (antisym (i.late, k)))) (le_refl (int (pos 0))))) ∙ inf_right c.at))
              (le_inf v)
          | inr k ↦ subst (λ z. v ≤ₑ c.at +ₑ z) (sym (G.before (t -ℚ c.x) (sub_pos c.x t k))) (above c (inr (inr (i.among, k))))
        ]
    below (inr (inr (inr i))) =
        subst (λ z. v ≤ₑ z.at +ₑ read (afters f) (t -ℚ z.x)) (only i.piece (before_of None p) i.among) (le_inf v)

    -- what runs below a number comes from a place that is below it
    place : (y : ℚ) (c : Piece) → IsSide None f t c → at_line c <ₑ Fin y → (i : LimitStart f g t) × (limit_sum f g t i <ₑ Fin y)
    place y c (inl (k, h)) m = (
      inl (inl record { piece = c; among = k; late = h }),
      le_lt_ext (c.at +ₑ read g (t -ℚ c.x)) (at_line c) (Fin y)
          (add_le_ext c.at c.at (read g (t -ℚ c.x)) (Fin (line_at l (t -ℚ c.x))) (le_ext_refl c.at) (G.low (t -ℚ c.x) (sub_nonneg c.x t h))) m,
    )
    place y c (inr (inl (k, h))) m = (
      inr (inl (inl record { piece = c; among = k; late = h })),
      subst (λ z. c.at +ₑ z <ₑ Fin y) (sym (G.after (t -ℚ c.x) (sub_nonneg c.x t h))) m,
    )
    place y c (inr (inr (k, h))) m = (
      inr (inr (inl record { piece = c; among = k; late = le_of_lt h })),
      subst (λ z. c.at +ₑ z <ₑ Fin y) (sym (G.before (t -ℚ c.x) (sub_pos c.x t h))) m,
    )

    near : (y : ℚ) → v <ₑ Fin y → (i : LimitStart f g t) × (limit_sum f g t i <ₑ Fin y)
    near y m = elim (min_one lines w) [
      | inr e ↦ let (i, k) = W.near y (subst (λ z. z <ₑ Fin y) e m) in (inl (inr i), k)
      | inl e ↦
          let low : R.height +ₑ Fin (l.slope *ℚ t) <ₑ Fin y = subst (λ z. z <ₑ Fin y) (e ∙ R.value) m in
          elim R.lowest.is [
            | inl k ↦ absurd (subst (λ z. z +ₑ Fin (l.slope *ℚ t) <ₑ Fin y) k low)
            | inr k ↦
                place y k.0 k.1
                (subst (λ z. z <ₑ Fin y) (moved_value l k.0.x t k.0.at) (subst (λ z. z +ₑ Fin (l.slope *ℚ t) <ₑ Fin y) k.2 low))
          ]
    ]
