-- A list of pieces cut at a time: the parts, and where the first piece past a time stands.
use Rattle.std.specs.Prelude.{◌≡◌, ℕ, pos, List, [], ◌∷◌, ◌++◌, length, None, Some}
use Rattle.std.proofs.Common.{sym, ap, ◌∙◌, refl, subst, inl, inr, take, drop, append-nil, append_assoc}
use Rattle.std.proofs.lemmas.List.{take_at, drop_at, take-append-drop}
use Rattle.rational.specs.Rational.{ℚ, ◌≤ℚ◌, ◌<ℚ◌, int}
use Rattle.rational.proofs.Laws.{le_or_lt, le_refl, lt_le_trans, le_lt_trans}
use Rattle.upp_curve.specs.declared.affine_segment.line.Piece.{Piece}
use Rattle.upp_curve.specs.Unrolled.{upto, from}
use Rattle.upp_curve.specs.affine_segment.Pieces.{RisesFrom, StartsAtZero, Each, HasStart}
use Rattle.upp_curve.specs.Normal.{NoMerge}
use Rattle.upp_curve.specs.Steady.{last_of}
use Rattle.upp_normal.specs.Normalising.{past, first_start, IsFront}
use Rattle.upp_curve.proofs.Unique.{upto_none, upto_some, upto_end}
use Rattle.upp_normal.proofs.NormaliseLoops.{past_go, past_stop, past_none}
use Rattle.upp_curve.proofs.affine_segment.PieceOrder.{each_left, heads_same, nil_not_cons}
use Rattle.upp_normal.proofs.NormaliseLists.{past_all, rises_upto, none_upto}
use Rattle.upp_limits.proofs.PieceCounts.{from_none, from_some, from_end}

pub split_is : (x : ℚ) (ps : List Piece) → upto x ps ++ from x ps ≡ ps
split_is x [] = ap (λ zs. zs ++ from x []) (upto_end x) ∙ from_end x
split_is x (p ∷ ps) = elim (le_or_lt x p.x) [
  | inl l ↦ ap (λ zs. zs ++ from x (p ∷ ps)) (upto_none x p ps l) ∙ from_none x p ps l
  | inr l ↦ ap (λ zs. zs ++ from x (p ∷ ps)) (upto_some x p ps l) ∙ ap (λ zs. p ∷ (upto x ps ++ zs)) (from_some x p ps l) ∙ ap (λ zs. p ∷ zs) (split_is x ps)
]

pub take_upto : (x : ℚ) (ps : List Piece) → take (length (upto x ps)) ps ≡ upto x ps
take_upto x ps = sym (ap (λ zs. take (length (upto x ps)) zs) (split_is x ps)) ∙ take_at (upto x ps) (from x ps) (length (upto x ps)) refl

pub drop_upto : (x : ℚ) (ps : List Piece) → drop (length (upto x ps)) ps ≡ from x ps
drop_upto x ps = sym (ap (λ zs. drop (length (upto x ps)) zs) (split_is x ps)) ∙ drop_at (upto x ps) (from x ps) (length (upto x ps)) refl

pub from_upto : (x y : ℚ) (ps : List Piece) → x ≤ℚ y → from x (upto y ps) ≡ upto y (from x ps)
from_upto x y [] h = ap (from x) (upto_end y) ∙ from_end x ∙ sym (ap (upto y) (from_end x) ∙ upto_end y)
from_upto x y (p ∷ ps) h = elim (le_or_lt x p.x) [
  | inr l ↦
      ap (from x) (upto_some y p ps (lt_le_trans l h)) ∙ from_some x p (upto y ps) l ∙ from_upto x y ps h
      ∙ sym (ap (upto y) (from_some x p ps l))
  | inl l ↦ elim (le_or_lt y p.x) [
    | inl k ↦ ap (from x) (upto_none y p ps k) ∙ from_end x ∙ sym (ap (upto y) (from_none x p ps l) ∙ upto_none y p ps k)
    | inr k ↦
        ap (from x) (upto_some y p ps k) ∙ from_none x p (upto y ps) l
        ∙ sym (ap (upto y) (from_none x p ps l) ∙ upto_some y p ps k)
  ]
]

pub upto_upto : (x y : ℚ) (ps : List Piece) → x ≤ℚ y → upto x (upto y ps) ≡ upto x ps
upto_upto x y [] h = ap (upto x) (upto_end y)
upto_upto x y (p ∷ ps) h = elim (le_or_lt x p.x) [
  | inr l ↦ ap (upto x) (upto_some y p ps (lt_le_trans l h)) ∙ upto_some x p (upto y ps) l ∙ ap (λ zs. p ∷ zs) (upto_upto x y ps h) ∙ sym (upto_some x p ps l)
  | inl l ↦ elim (le_or_lt y p.x) [
    | inl k ↦ ap (upto x) (upto_none y p ps k) ∙ upto_end x ∙ sym (upto_none x p ps l)
    | inr k ↦ ap (upto x) (upto_some y p ps k) ∙ upto_none x p (upto y ps) l ∙ sym (upto_none x p ps l)
  ]
]

-- ---- the first piece past a time
pub past_late : (t : ℚ) (ps : List Piece) → Each (λ p. t <ℚ p.x) (past t ps)
past_late t [] = subst (Each (λ p. t <ℚ p.x)) (sym (past_none t)) tt
past_late t (p ∷ ps) = elim (le_or_lt p.x t) [
  | inl l ↦ subst (Each (λ p. t <ℚ p.x)) (sym (past_go t p ps l)) (past_late t ps)
  | inr l ↦ subst (Each (λ p. t <ℚ p.x)) (sym (past_stop t p ps l)) (l, past_late t ps)
]

pub first_late : (t : ℚ) (ps : List Piece) (q : Piece) (qs : List Piece) → past t ps ≡ q ∷ qs → t <ℚ q.x
first_late t ps q qs e = (subst (Each (λ p. t <ℚ p.x)) e (past_late t ps)).0

pub none_past : (t : ℚ) (ps : List Piece) → past t ps ≡ [] → Each (λ p. p.x ≤ℚ t) ps
none_past t [] e = tt
none_past t (p ∷ ps) e = elim (le_or_lt p.x t) [
  | inl l ↦ (l, none_past t ps (sym (past_go t p ps l) ∙ e))
  | inr l ↦ absurd (nil_not_cons p (past t ps) (sym (sym (past_stop t p ps l) ∙ e)))
]

pub from_is_past : (t x : ℚ) (ps : List Piece) (q : Piece) (qs : List Piece) → RisesFrom x ps → past t ps ≡ q ∷ qs → from q.x ps ≡ q ∷ qs
from_is_past t x [] q qs r e = absurd (nil_not_cons q qs (sym (past_none t) ∙ e))
from_is_past t x (p ∷ ps) q qs r e = elim (le_or_lt p.x t) [
  | inl l ↦
      from_some q.x p ps (le_lt_trans l (first_late t (p ∷ ps) q qs e)) ∙ from_is_past t p.x ps q qs r.1 (sym (past_go t p ps l) ∙ e)
  | inr l ↦
      let whole : p ∷ ps ≡ q ∷ qs = sym (past_all t t (p ∷ ps) (le_refl t) (l, r.1)) ∙ e in
      from_none q.x p ps (subst (λ z. q.x ≤ℚ z.x) (sym (heads_same p q ps qs whole)) (le_refl q.x)) ∙ whole
]

pub upto_early : (t x : ℚ) (ps : List Piece) (q : Piece) (qs : List Piece) → RisesFrom x ps → past t ps ≡ q ∷ qs → Each (λ p. p.x ≤ℚ t) (upto q.x ps)
upto_early t x [] q qs r e = subst (Each (λ p. p.x ≤ℚ t)) (sym (upto_end q.x)) tt
upto_early t x (p ∷ ps) q qs r e = elim (le_or_lt p.x t) [
  | inl l ↦
      subst (Each (λ p. p.x ≤ℚ t)) (sym (upto_some q.x p ps (le_lt_trans l (first_late t (p ∷ ps) q qs e))))
      (l, upto_early t p.x ps q qs r.1 (sym (past_go t p ps l) ∙ e))
  | inr l ↦
      let whole : p ∷ ps ≡ q ∷ qs = sym (past_all t t (p ∷ ps) (le_refl t) (l, r.1)) ∙ e in
      subst (Each (λ p. p.x ≤ℚ t)) (sym (upto_none q.x p ps (subst (λ z. q.x ≤ℚ z.x) (sym (heads_same p q ps qs whole)) (le_refl q.x)))) tt
]

pub past_has : (t : ℚ) (ps : List Piece) (q : Piece) (qs : List Piece) → past t ps ≡ q ∷ qs → HasStart q.x ps
past_has t [] q qs e = absurd (nil_not_cons q qs (sym (past_none t) ∙ e))
past_has t (p ∷ ps) q qs e = elim (le_or_lt p.x t) [
  | inl l ↦ inr (past_has t ps q qs (sym (past_go t p ps l) ∙ e))
  | inr l ↦ inl (ap (λ z. z.x) (heads_same p q (past t ps) qs (sym (past_stop t p ps l) ∙ e)))
]

-- the first start past a time, and the piece there
pub start_none : (ps : List Piece) → first_start ps ≡ None → ps ≡ []
start_none [] e = refl
start_none (p ∷ ps) e = absurd (some_none p.x e)
  where
    some_none : (x : ℚ) → Some x ≡ None → ⊥
    some_none x e = cc

pub start_some : (ps : List Piece) (x : ℚ) → first_start ps ≡ Some x → (q : Piece) × (qs : List Piece) × (ps ≡ q ∷ qs) × (q.x ≡ x)
start_some [] x e = absurd (none_some x e)
  where
    none_some : (x : ℚ) → None ≡ Some x → ⊥
    none_some x e = cc
start_some (p ∷ ps) x e = (p, ps, refl, same p.x x e)
  where
    same : (x y : ℚ) → Some x ≡ Some y → x ≡ y
    same x y e = cc

-- ---- what a cut keeps
pub zero_upto : (x : ℚ) (ps : List Piece) → int (pos 0) <ℚ x → StartsAtZero ps → StartsAtZero (upto x ps)
zero_upto x [] h s = absurd s
zero_upto x (p ∷ ps) h s =
    subst StartsAtZero (sym (upto_some x p ps (subst (λ z. z <ℚ x) (sym s.0) h))) (s.0, rises_upto p.x x ps s.1)

pub no_merge_upto : (x : ℚ) (ps : List Piece) → NoMerge ps → NoMerge (upto x ps)
no_merge_upto x [] n = subst NoMerge (sym (upto_end x)) tt
no_merge_upto x (p ∷ ps) n = elim (le_or_lt x p.x) [
  | inl l ↦ subst NoMerge (sym (upto_none x p ps l)) tt
  | inr l ↦ subst NoMerge (sym (upto_some x p ps l)) (none_upto x p ps n)
]

pub last_append : (p : Piece) (ps : List Piece) (q : Piece) (qs : List Piece) → last_of p (ps ++ q ∷ qs) ≡ last_of q qs
last_append p [] q qs = refl
last_append p (r ∷ rs) q qs = last_append r rs q qs

-- ---- fronts of a list
pub front_self : (ps : List Piece) → IsFront ps ps
front_self ps = record { more = []; is = sym (append-nil ps) }

pub front_take : (n : ℕ) (ps : List Piece) → IsFront (take n ps) ps
front_take n ps = record { more = drop n ps; is = sym (take-append-drop n ps) }

pub front_upto : (x : ℚ) (ps : List Piece) → IsFront (upto x ps) ps
front_upto x ps = record { more = from x ps; is = sym (split_is x ps) }

pub front_trans : (es ps qs : List Piece) → IsFront es ps → IsFront ps qs → IsFront es qs
front_trans es ps qs A B = record { more = A.more ++ B.more; is = B.is ∙ ap (λ zs. zs ++ B.more) A.is ∙ append_assoc es A.more B.more }

pub each_front : (P : Piece → Type 0) (es ps : List Piece) → IsFront es ps → Each P ps → Each P es
each_front P es ps F h = each_left P es F.more (subst (Each P) F.is h)

pub each_right : (P : Piece → Type 0) (es bs : List Piece) → Each P (es ++ bs) → Each P bs
each_right P [] bs h = h
each_right P (a ∷ es) bs h = each_right P es bs h.1
