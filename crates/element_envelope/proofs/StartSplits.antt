-- Of a convolution of pieces whose values at starts are at most the limits beside them, the sums count of which one time is a start.
use Rattle.std.specs.Prelude.{◌≡◌, ◌⊎◌, pos, List, [], ◌∷◌, Option, Some, None}
use Rattle.std.proofs.Common.{arith, sym, ap, ap₂, ◌∙◌, refl, subst, inl, inr}
use Rattle.rational.specs.Rational.{ℚ, ◌+ℚ◌, ◌-ℚ◌, ◌≤ℚ◌, ◌<ℚ◌, int}
use Rattle.rational.specs.Extended.{Ext, ◌≤ₑ◌, ◌<ₑ◌, ◌+ₑ◌, min_ext}
use Rattle.rational.specs.Families.{either}
use Rattle.rational.specs.declared.Extended.TheVariants.{Fin, Inf}
use Rattle.rational.proofs.Linear.{with2, with3}
use Rattle.rational.proofs.Laws.{le_or_lt, le_of_lt, le_refl, le_trans, antisym, add_comm}
use Rattle.rational.proofs.ExtendedOrder.{same_le_ext, le_ext_trans, le_of_lt_ext, fin_same, finite_sum, add_le_ext, add_ext_comm}
use Rattle.rational.proofs.Bounds.{infimum_union}
use Rattle.upp_curve.specs.declared.affine_segment.line.Line.{Line}
use Rattle.upp_curve.specs.declared.affine_segment.line.Piece.{Piece}
use Rattle.upp_curve.specs.affine_segment.Values.{line_at, line_value}
use Rattle.upp_curve.specs.affine_segment.Pieces.{RisesFrom, StartsAtZero}
use Rattle.upp_curve.specs.affine_segment.Reading.{read}
use Rattle.upp_curve.proofs.affine_segment.Convolved.{back}
use Rattle.upp_curve.proofs.affine_segment.PieceIn.{value_past, value_by, value_at_start, read_first, read_stop, read_go, read_one}
use Rattle.upp_curve.proofs.affine_segment.LineValues.{line_found}
use Rattle.min_plus.specs.Convolution.{Split}
use Rattle.min_plus.proofs.best_splits.LineSplits.{least_at_ends}
use Rattle.element_envelope.specs.Copies.{IsPieceOf, StartSplit, start_sum, LowAfter, LowAtStarts, StartsSuffice}
use Rattle.element_envelope.proofs.Members.{Matched, matched_out}

-- ---- what is read of pieces
-- none starts before the first
pub from_first : (p : Piece) (ps : List Piece) (q : Piece) → RisesFrom p.x ps → IsPieceOf q (p ∷ ps) → p.x ≤ℚ q.x
from_first p ps q r (inl e) = subst (λ z. p.x ≤ℚ z.x) (sym e) (le_refl p.x)
from_first p [] q r (inr k) = absurd k
from_first p (s ∷ ps) q r (inr k) = le_trans (le_of_lt r.0) (from_first s ps q r.1 k)

-- at the start of one its value
start_read : (p : Piece) (ps : List Piece) (q : Piece) → RisesFrom p.x ps → IsPieceOf q (p ∷ ps) → read (p ∷ ps) q.x ≡ q.at
start_read p ps q r (inl e) = subst (λ z. read (p ∷ ps) z.x ≡ z.at) (sym e) (read_first p ps p.x p.x r (le_refl p.x) ∙ value_at_start p)
start_read p [] q r (inr k) = absurd k
start_read p (s ∷ ps) q r (inr k) = read_go p s ps q.x (from_first s ps q r.1 k) ∙ start_read s ps q r.1 k

pub start_is : (ps : List Piece) (q : Piece) → StartsAtZero ps → IsPieceOf q ps → (int (pos 0) ≤ℚ q.x) × (read ps q.x ≡ q.at)
start_is [] q h k = absurd h
start_is (p ∷ ps) q h k = (subst (λ z. z ≤ℚ q.x) h.0 (from_first p ps q h.1 k), start_read p ps q h.1 k)

-- s is a start
abbrev pub IsStart : List Piece → ℚ → Type 0
IsStart ps s = (q : Piece) × IsPieceOf q ps × (q.x ≡ s)

-- s lies on a line from a start on, up to the next one: between them it is what is read, and at both what is read is at most the line
pub record Inside (ps : List Piece) (first s : ℚ) : Type 0 where
  pub line : Line
  pub low : Piece
  pub low_in : IsPieceOf low ps
  pub from : first ≤ℚ low.x
  pub high : Ext
  pub high_in : (x : ℚ) → high ≡ Fin x → IsStart ps x
  pub early : low.x <ℚ s
  pub late : Fin s <ₑ high
  pub value : read ps s ≡ Fin (line_at line s)
  pub below : (y : ℚ) → low.x ≤ℚ y → Fin y ≤ₑ high → read ps y ≤ₑ Fin (line_at line y)

below_line : (v : Ext) (o : Option Line) (l : Line) (x y : ℚ) → v ≤ₑ line_value o x → o ≡ Some l → y ≡ x → v ≤ₑ Fin (line_at l y)
below_line v o l x y h e k = subst (λ z. v ≤ₑ line_value (Some l) z) (sym k) (subst (λ z. v ≤ₑ line_value z x) e h)

found : (p : Piece) (ps : List Piece) (before : Option Line) (s a : ℚ) → RisesFrom p.x ps → LowAfter before (p ∷ ps) → p.x ≤ℚ s → read (p ∷ ps) s ≡ Fin a
    → IsStart (p ∷ ps) s ⊎ Inside (p ∷ ps) p.x s
found p [] before s a r L low is = elim (le_or_lt s p.x) [
  | inl h ↦ inl (p, inl refl, antisym (low, h))
  | inr h ↦
      let (l, line) = line_found p.line s a (sym (read_one p s ∙ value_past p s h) ∙ is) in
      inr record {
        line = l;
        low = p;
        low_in = inl refl;
        from = le_refl p.x;
        high = Inf;
        high_in = λ x e. absurd (same_le_ext e);
        early = h;
        late = tt;
        value = read_one p s ∙ value_past p s h ∙ ap (λ o. line_value o s) line;
        below = λ y k m. elim (le_or_lt y p.x) [
          | inl n ↦ subst (λ z. z ≤ₑ Fin (line_at l y)) (sym (read_one p y ∙ value_by p y n)) (below_line p.at p.line l p.x y L.1 line (antisym (n, k)))
          | inr n ↦ same_le_ext (read_one p y ∙ value_past p y n ∙ ap (λ o. line_value o y) line)
        ];
      }
]
found p (q ∷ qs) before s a r L low is = elim (le_or_lt q.x s) [
  | inl h ↦ elim (found q qs p.line s a r.1 L.2 h (sym (read_go p q qs s h) ∙ is)) [
    | inl k ↦ inl (k.0, inr k.1, k.2)
    | inr I ↦ inr record {
      line = I.line;
      low = I.low;
      low_in = inr I.low_in;
      from = le_trans (le_of_lt r.0) I.from;
      high = I.high;
      high_in = λ x e. let k = I.high_in x e in (k.0, inr k.1, k.2);
      early = I.early;
      late = I.late;
      value = read_go p q qs s h ∙ I.value;
      below = λ y k m. subst (λ z. z ≤ₑ Fin (line_at I.line y)) (sym (read_go p q qs y (le_trans I.from k))) (I.below y k m);
    }
  ]
  | inr h ↦ elim (le_or_lt s p.x) [
    | inl k ↦ inl (p, inl refl, antisym (low, k))
    | inr k ↦
        let (l, line) = line_found p.line s a (sym (read_stop p q qs s h ∙ value_past p s k) ∙ is) in
        inr record {
          line = l;
          low = p;
          low_in = inl refl;
          from = le_refl p.x;
          high = Fin q.x;
          high_in = λ x e. (q, inr (inl refl), fin_same e);
          early = k;
          late = h;
          value = read_stop p q qs s h ∙ value_past p s k ∙ ap (λ o. line_value o s) line;
          below = λ y m n. elim (le_or_lt q.x y) [
            | inl w ↦
                subst (λ z. z ≤ₑ Fin (line_at l y)) (sym (read_go p q qs y w ∙ read_first q qs q.x y r.1 n ∙ value_by q y n))
                (below_line q.at p.line l q.x y L.2.0 line (antisym (n, w)))
            | inr w ↦ elim (le_or_lt y p.x) [
              | inl v ↦ subst (λ z. z ≤ₑ Fin (line_at l y)) (sym (read_stop p q qs y w ∙ value_by p y v)) (below_line p.at p.line l p.x y L.1 line (antisym (v, m)))
              | inr v ↦ same_le_ext (read_stop p q qs y w ∙ value_past p y v ∙ ap (λ o. line_value o y) line)
            ]
          ];
        }
  ]
]

pub found_in : (ps : List Piece) (s a : ℚ) → StartsAtZero ps → LowAtStarts ps → int (pos 0) ≤ℚ s → read ps s ≡ Fin a → IsStart ps s ⊎ Inside ps (int (pos 0)) s
found_in [] s a h L low is = absurd h
found_in (p ∷ ps) s a h L low is =
    subst (λ z. IsStart (p ∷ ps) s ⊎ Inside (p ∷ ps) z s) h.0 (found p ps None s a h.1 L (subst (λ z. z ≤ℚ s) (sym h.0) low) is)

-- ---- sums of two lines
abbrev pub sum_at : Line → Line → ℚ → ℚ → ℚ
sum_at l m t x = line_at l x +ℚ line_at m (t -ℚ x)

pub turned : (l m : Line) (t x : ℚ) → sum_at m l t x ≡ sum_at l m t (t -ℚ x)
turned l m t x = ap (λ y. line_at m y +ℚ line_at l (t -ℚ x)) (sym (back t x)) ∙ add_comm (line_at m (t -ℚ (t -ℚ x))) (line_at l (t -ℚ x))

-- some sum of which one time is a start is at most v
abbrev pub IsStartBelow : List Piece → List Piece → ℚ → ℚ → Type 0
IsStartBelow f g t v = (i : StartSplit f t ⊎ StartSplit g t) × (either (start_sum f g t) (start_sum g f t) i ≤ₑ Fin v)

pub swapped : (f g : List Piece) (t v : ℚ) → IsStartBelow g f t v → IsStartBelow f g t v
swapped f g t v (inl i, h) = (inr i, h)
swapped f g t v (inr i, h) = (inl i, h)

below_low : (x t y : ℚ) → int (pos 0) ≤ℚ y → y ≤ℚ t -ℚ x → x ≤ℚ t
below_low x t y h k = with3 x t y (λ c. omega (arith, c.le, c.lt, c.same))

-- a start of the one, where the other is on its line
at_start : (f g : List Piece) (t s u : ℚ) (F : Inside f (int (pos 0)) s) (G : Inside g (int (pos 0)) u) (c : Piece) → StartsAtZero f → IsPieceOf c f
    → F.low.x ≤ℚ c.x → Fin c.x ≤ₑ F.high → G.low.x ≤ℚ t -ℚ c.x → Fin (t -ℚ c.x) ≤ₑ G.high → IsStartBelow f g t (sum_at F.line G.line t c.x)
at_start f g t s u F G c h k a b d e = (
  inl record { piece = c; among = k; late = below_low c.x t G.low.x G.from d },
  add_le_ext c.at (Fin (line_at F.line c.x)) (read g (t -ℚ c.x)) (Fin (line_at G.line (t -ℚ c.x)))
      (subst (λ z. z ≤ₑ Fin (line_at F.line c.x)) (start_is f c h k).1 (F.below c.x a b)) (G.below (t -ℚ c.x) d e),
)

-- a sum at s or before of which one time is a start
abbrev IsLowEnd : (f g : List Piece) (l m : Line) (t s : ℚ) → Type 0
IsLowEnd f g l m t s = (x : ℚ) × (x ≤ℚ s) × IsStartBelow f g t (sum_at l m t x)

-- s + u is t
pub second_late : (s u t x w : ℚ) → s +ℚ u ≡ t → x ≤ℚ s → w ≤ℚ u → w ≤ℚ t -ℚ x
second_late s u t x w e h k =
    let a : u ≤ℚ t -ℚ x = with_sum s u t x e h in
    le_trans k a
  where
    with_sum : (s u t x : ℚ) → s +ℚ u ≡ t → x ≤ℚ s → u ≤ℚ t -ℚ x
    with_sum s u t x e h = let y = s +ℚ u in subst (λ z. u ≤ℚ z -ℚ x) e (with3 s u x (λ c. omega (arith, c.le, c.lt, c.same)))

pub first_early : (s u t y : ℚ) → s +ℚ u ≡ t → u ≤ℚ y → t -ℚ y ≤ℚ s
first_early s u t y e h = subst (λ z. z -ℚ y ≤ℚ s) e (with3 s u y (λ c. omega (arith, c.le, c.lt, c.same)))

pub flipped : (t x y : ℚ) → t -ℚ y ≤ℚ x → t -ℚ x ≤ℚ y
flipped t x y h = with3 t x y (λ c. omega (arith, c.le, c.lt, c.same))

pub rest : (s u t : ℚ) → s +ℚ u ≡ t → t -ℚ s ≡ u
rest s u t e = subst (λ z. z -ℚ s ≡ u) e (with2 s u (λ c. omega (arith, c.le, c.lt, c.same)))

low_end : (f g : List Piece) (t s u : ℚ) (F : Inside f (int (pos 0)) s) (G : Inside g (int (pos 0)) u) → StartsAtZero f → StartsAtZero g → s +ℚ u ≡ t
    → IsLowEnd f g F.line G.line t s
low_end f g t s u F G hf hg whole = by G.high refl
  where
    here : Fin (t -ℚ F.low.x) ≤ₑ G.high → IsLowEnd f g F.line G.line t s
    here k = (
      F.low.x,
      le_of_lt F.early,
      at_start f g t s u F G F.low hf F.low_in (le_refl F.low.x) (le_ext_trans (Fin F.low.x) (Fin s) F.high (le_of_lt F.early) (le_of_lt_ext (Fin s) F.high F.late))
          (second_late s u t F.low.x G.low.x whole (le_of_lt F.early) (le_of_lt G.early)) k,
    )

    there : (y : ℚ) → G.high ≡ Fin y → F.low.x ≤ℚ t -ℚ y → (q : Piece) → IsPieceOf q g → q.x ≡ y → IsLowEnd f g F.line G.line t s
    there y e k q among at =
        let until : u ≤ℚ y = le_of_lt (subst (λ z. Fin u <ₑ z) e G.late) in
        let early : t -ℚ q.x ≤ℚ s = subst (λ z. t -ℚ z ≤ℚ s) (sym at) (first_early s u t y whole until) in (
          t -ℚ q.x,
          early,
          swapped f g t (sum_at F.line G.line t (t -ℚ q.x))
              (subst (IsStartBelow g f t) (turned F.line G.line t q.x)
              (at_start g f t u s G F q hg among
              (subst (λ z. G.low.x ≤ℚ z) (sym at) (le_trans (le_of_lt G.early) until))
              (subst (λ z. Fin q.x ≤ₑ z) (sym e) (subst (λ z. q.x ≤ℚ z) at (le_refl q.x)))
              (subst (λ z. F.low.x ≤ℚ t -ℚ z) (sym at) k)
              (le_ext_trans (Fin (t -ℚ q.x)) (Fin s) F.high early (le_of_lt_ext (Fin s) F.high F.late)))),
        )

    by : (v : Ext) → G.high ≡ v → IsLowEnd f g F.line G.line t s
    by Inf e = here (subst (λ z. Fin (t -ℚ F.low.x) ≤ₑ z) (sym e) tt)
    by (Fin y) e = elim (le_or_lt (t -ℚ y) F.low.x) [
      | inl k ↦ here (subst (λ z. Fin (t -ℚ F.low.x) ≤ₑ z) (sym e) (flipped t F.low.x y k))
      | inr k ↦ let q = G.high_in y e in there y e (le_of_lt k) q.0 q.1 q.2
    ]

pub lower : (f g : List Piece) (t v w : ℚ) → v ≤ℚ w → IsStartBelow f g t v → IsStartBelow f g t w
lower f g t v w l (i, h) = (i, le_ext_trans (either (start_sum f g t) (start_sum g f t) i) (Fin v) (Fin w) h l)

-- of two times on lines
on_lines : (f g : List Piece) (t s u : ℚ) (F : Inside f (int (pos 0)) s) (G : Inside g (int (pos 0)) u) → StartsAtZero f → StartsAtZero g → s +ℚ u ≡ t
    → IsStartBelow f g t (line_at F.line s +ℚ line_at G.line u)
on_lines f g t s u F G hf hg whole =
    let l = F.line in
    let m = G.line in
    let low = low_end f g t s u F G hf hg whole in
    let high = low_end g f t u s G F hg hf (add_comm u s ∙ whole) in
    let other : IsStartBelow f g t (sum_at l m t (t -ℚ high.0)) = subst (IsStartBelow f g t) (turned l m t high.0) (swapped f g t (sum_at m l t high.0) high.2) in
    let after : s ≤ℚ t -ℚ high.0 = second_late u s t high.0 s (add_comm u s ∙ whole) high.1 (le_refl s) in
    let here : sum_at l m t s ≡ line_at l s +ℚ line_at m u = ap (λ z. line_at l s +ℚ line_at m z) (rest s u t whole) in
    subst (IsStartBelow f g t) here (elim (least_at_ends l.icept l.slope m.icept m.slope t low.0 s (t -ℚ high.0) low.1 after) [
      | inl k ↦ lower f g t (sum_at l m t low.0) (sum_at l m t s) k low.2
      | inr k ↦ lower f g t (sum_at l m t (t -ℚ high.0)) (sum_at l m t s) k other
    ])

-- ---- any split
pub first_at : (f g : List Piece) (t a b : ℚ) (s : Split t) → StartsAtZero f → IsStart f s.first → read f s.first ≡ Fin a → read g s.second ≡ Fin b → IsStartBelow f g t (a +ℚ b)
first_at f g t a b s hf (q, among, at) x y =
    let left : t -ℚ q.x ≡ s.second = ap (λ z. t -ℚ z) at ∙ rest s.first s.second t s.whole in
    let value : q.at ≡ Fin a = sym (start_is f q hf among).1 ∙ ap (read f) at ∙ x in (
      inl record { piece = q; among = among; late = subst (λ z. z ≤ℚ t) (sym at) (part_at_most s.first s.second t s.whole s.second_nonneg) },
      same_le_ext (ap₂ (λ (v w : Ext). v +ₑ w) value (ap (read g) left ∙ y)),
    )
  where
    part_at_most : (s u t : ℚ) → s +ℚ u ≡ t → int (pos 0) ≤ℚ u → s ≤ℚ t
    part_at_most s u t e h = subst (λ z. s ≤ℚ z) e (with2 s u (λ c. omega (arith, c.le, c.lt, c.same)))

unfoldable pub turned_split : (t : ℚ) → Split t → Split t
turned_split t s = record { first = s.second; second = s.first; first_nonneg = s.second_nonneg; second_nonneg = s.first_nonneg; whole = add_comm s.second s.first ∙ s.whole }

pub any_split : (f g : List Piece) (t a b : ℚ) (s : Split t) → StartsAtZero f → StartsAtZero g → LowAtStarts f → LowAtStarts g → read f s.first ≡ Fin a → read g s.second ≡ Fin b
    → IsStartBelow f g t (a +ℚ b)
unfolding turned_split
any_split f g t a b s hf hg lf lg x y = by (found_in f s.first a hf lf s.first_nonneg x) (found_in g s.second b hg lg s.second_nonneg y)
  where
    by : IsStart f s.first ⊎ Inside f (int (pos 0)) s.first → IsStart g s.second ⊎ Inside g (int (pos 0)) s.second → IsStartBelow f g t (a +ℚ b)
    by (inl k) G = first_at f g t a b s hf k x y
    by (inr F) (inl k) =
        swapped f g t (a +ℚ b) (subst (IsStartBelow g f t) (add_comm b a) (first_at g f t b a (turned_split t s) hg k y x))
    by (inr F) (inr G) =
        subst (IsStartBelow f g t) (ap₂ (λ (v w : ℚ). v +ℚ w) (fin_same (sym F.value ∙ x)) (fin_same (sym G.value ∙ y)))
        (on_lines f g t s.first s.second F G hf hg s.whole)

-- ---- the law
pub start_split : (f g : List Piece) (t : ℚ) → StartsAtZero f → (i : StartSplit f t) → (s : Split t) × (read f s.first +ₑ read g s.second ≡ start_sum f g t i)
start_split f g t hf i =
    let q = i.piece in
    let k = start_is f q hf i.among in
    let x = q.x in (
      record { first = x; second = t -ℚ x; first_nonneg = k.0; second_nonneg = left_nonneg x t i.late; whole = with2 x t (λ c. omega (arith, c.le, c.lt, c.same)) },
      ap (λ v. v +ₑ read g (t -ℚ x)) k.1,
    )
  where
    left_nonneg : (x t : ℚ) → x ≤ℚ t → int (pos 0) ≤ℚ t -ℚ x
    left_nonneg x t h = with2 x t (λ c. omega (arith, c.le, c.lt, c.same))

pub starts_suffice : StartsSuffice
unfolding turned_split
starts_suffice f g t v w hf hg lf lg low A B =
    matched_out {I = Split t} (λ s. read f s.first +ₑ read g s.second) (either (start_sum f g t) (start_sum g f t)) (min_ext v w) matched
    (infimum_union (start_sum f g t) (start_sum g f t) v w A B)
  where
    up : (i : StartSplit f t ⊎ StartSplit g t) → (s : Split t) × (read f s.first +ₑ read g s.second ≤ₑ either (start_sum f g t) (start_sum g f t) i)
    up (inl i) = let s = start_split f g t hf i in (s.0, same_le_ext s.1)
    up (inr i) =
        let s = start_split g f t hg i in
        (turned_split t s.0, same_le_ext (add_ext_comm (read f s.0.second) (read g s.0.first) ∙ s.1))

    matched : Matched {I = Split t} (λ s. read f s.first +ₑ read g s.second) (either (start_sum f g t) (start_sum g f t))
    matched = record {
      down = λ s q is.
          let (a, b, x, y) = finite_sum (read f s.first) (read g s.second) q is in
          subst (IsStartBelow f g t) (fin_same (sym (ap₂ (λ (p r : Ext). p +ₑ r) x y) ∙ is)) (any_split f g t a b s hf hg lf lg x y);
      up = up;
    }
