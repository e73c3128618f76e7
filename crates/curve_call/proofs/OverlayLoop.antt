-- The loop that cuts two windows at each start of either.
use Rattle.std.specs.Prelude.{◌≡◌, ℕ, zero, suc, ◌+◌, ◌-◌, ◌<◌, ◌≤◌, List, [], ◌∷◌, ◌++◌, length, slice_get, Some, None, ◌⊎◌}
use Rattle.std.proofs.Common.{arith, get_or, drop, sym, ap, ◌∙◌, refl, subst, inl, inr}
use Rattle.rational.specs.Rational.{ℚ, ◌<ℚ◌}
use Rattle.rational.proofs.Laws.{le_of_lt, le_trans}
use Rattle.upp_curve.specs.declared.affine_segment.line.Piece.{Piece}
use Rattle.upp_curve.specs.affine_segment.Pieces.{HasStart, RisesFrom, StartsAtZero}
use Rattle.upp_curve.specs.affine_segment.Fits.{LineFitsAt}
use Rattle.upp_curve.specs.affine_segment.Reading.{read}
use Rattle.curve_call.specs.declared.stretch.Both.{Both}
use Rattle.curve_call.specs.declared.stretch.Walk.{Walk}
use Rattle.curve_call.specs.Stretches.{cut_at, lefts, rights, EachBoth, IsBothOf, IsOverlay, CutsFit}
use Rattle.curve_call.specs.Walk.{IsStart, IsBeforeAt, TakesLeft, TakesRight, TakesBoth, IsStep, NextFits}
use Rattle.curve_call.proofs.Surgery.{BeforeNext, rest_rises, start_nonneg}
use Rattle.curve_call.proofs.Walks.{WalkOf, walk_start, walk_take, walk_cut, walk_piece, walk_line}
use Rattle.upp_curve.proofs.affine_segment.NextPiece.{none_left}

-- ---- the pieces that are left
pub drop_got : (ps : List Piece) (i : ℕ) (p : Piece) → slice_get ps i ≡ Some p → drop i ps ≡ p ∷ drop (i + 1) ps
drop_got [] i p e = let none : None ≡ Some p = e in cc
drop_got (q ∷ qs) zero p e = let found : Some q ≡ Some p = e in let same : q ≡ p = cc in ap (λ z. z ∷ qs) same
drop_got (q ∷ qs) (suc i) p e =
    let k : suc (i + 1) ≡ suc i + 1 = omega arith in
    drop_got qs i p e ∙ ap (λ n. p ∷ drop n (q ∷ qs)) k

got_below : (ps : List Piece) (i : ℕ) (p : Piece) → slice_get ps i ≡ Some p → i < length ps
got_below [] i p e = let none : None ≡ Some p = e in let no : ⊥ = cc in absurd no
got_below (q ∷ qs) zero p e = omega arith
got_below (q ∷ qs) (suc i) p e = let l = got_below qs i p e in omega arith

start_got : (ps : List Piece) (i : ℕ) (p : Piece) → slice_get ps i ≡ Some p → HasStart p.x ps
start_got [] i p e = let l = got_below [] i p e in absurd (omega arith)
start_got (q ∷ qs) zero p e = let found : Some q ≡ Some p = e in let same : q ≡ p = cc in inl (ap (λ z. z.x) same)
start_got (q ∷ qs) (suc i) p e = inr (start_got qs i p e)

before_next : (x : ℚ) (ps : List Piece) (i : ℕ) → IsBeforeAt x ps i → BeforeNext x (drop i ps)
before_next x [] zero h = tt
before_next x [] (suc i) h = tt
before_next x (q ∷ qs) zero h = h
before_next x (q ∷ qs) (suc i) h = before_next x qs i h

-- ---- appended stretches
lefts_more : (bs : List Both) (b : Both) → lefts (bs ++ b ∷ []) ≡ lefts bs ++ b.left ∷ []
lefts_more [] b = refl
lefts_more (c ∷ cs) b = ap (λ z. c.left ∷ z) (lefts_more cs b)

rights_more : (bs : List Both) (b : Both) → rights (bs ++ b ∷ []) ≡ rights bs ++ b.right ∷ []
rights_more [] b = refl
rights_more (c ∷ cs) b = ap (λ z. c.right ∷ z) (rights_more cs b)

each_more : (P : Both → Type 0) (bs : List Both) (b : Both) → EachBoth P bs → P b → EachBoth P (bs ++ b ∷ [])
each_more P [] b h k = (k, tt)
each_more P (c ∷ cs) b h k = (h.0, each_more P cs b h.1 k)

length_more : (bs : List Both) (b : Both) → length (bs ++ b ∷ []) ≡ length bs + 1
length_more [] b = omega arith
length_more (c ∷ cs) b = let e = length_more cs b in omega arith

-- ---- the loop
pub record OverlayLoop (f g : List Piece) (out : List Both) (w : Walk) : Type 0 where
  pub done : List Both
  pub is : out ≡ done ++ w.here ∷ []
  pub together : w.here.left.x ≡ w.here.right.x
  pub left : WalkOf f (lefts done) w.here.left (drop w.i f)
  pub right : WalkOf g (rights done) w.here.right (drop w.j g)
  pub each : EachBoth (IsBothOf f g) out
  pub i : w.i ≤ length f
  pub j : w.j ≤ length g
  pub count : length out + (length f - w.i) + (length g - w.j) ≤ length f + length g

overlay_first : (p q : Piece) (ps qs : List Piece) → StartsAtZero (p ∷ ps) → StartsAtZero (q ∷ qs)
    → OverlayLoop (p ∷ ps) (q ∷ qs) (record { left = p; right = q } ∷ []) record { i = 1; j = 1; here = record { left = p; right = q } }
overlay_first p q ps qs s t = record {
  done = [];
  is = refl;
  together = s.0 ∙ sym t.0;
  left = walk_start p ps s;
  right = walk_start q qs t;
  each = (
    record {
      together = s.0 ∙ sym t.0;
      start = inl (inl refl);
      left = walk_piece (p ∷ ps) [] p ps (walk_start p ps s);
      right = walk_piece (q ∷ qs) [] q qs (walk_start q qs t);
    },
    tt,
  );
  i = omega arith;
  j = omega arith;
  count = omega arith;
}

pub overlay_start : (f g : List Piece) (p q : Piece) → StartsAtZero f → StartsAtZero g → p ≡ get_or f 0 p → q ≡ get_or g 0 q
    → OverlayLoop f g (record { left = p; right = q } ∷ []) record { i = 1; j = 1; here = record { left = p; right = q } }
overlay_start [] g p q s t a b = absurd s
overlay_start (x ∷ xs) [] p q s t a b = absurd t
overlay_start (x ∷ xs) (y ∷ ys) p q s t a b =
    subst (λ z. OverlayLoop (x ∷ xs) (y ∷ ys) (record { left = z; right = q } ∷ []) record { i = 1; j = 1; here = record { left = z; right = q } }) (sym a)
    (subst (λ z. OverlayLoop (x ∷ xs) (y ∷ ys) (record { left = x; right = z } ∷ []) record { i = 1; j = 1; here = record { left = x; right = z } }) (sym b)
    (overlay_first x y xs ys s t))

pub started : (f g : List Piece) (w : Walk) → StartsAtZero f → StartsAtZero g → IsStart f g w → OverlayLoop f g (w.here ∷ []) w
started f g w l r S =
    subst (λ (n : ℕ). OverlayLoop f g (w.here ∷ []) record { i = n; j = w.j; here = w.here }) (sym S.i)
    (subst (λ (n : ℕ). OverlayLoop f g (w.here ∷ []) record { i = 1; j = n; here = w.here }) (sym S.j) (overlay_start f g w.here.left w.here.right l r S.left S.right))

-- the facts of a step, from the walks of both sides
step_loop : (f g : List Piece) (out : List Both) (w v : Walk) → (L : OverlayLoop f g out w) → v.here.left.x ≡ v.here.right.x
    → HasStart v.here.left.x f ⊎ HasStart v.here.left.x g
    → WalkOf f (lefts L.done ++ w.here.left ∷ []) v.here.left (drop v.i f) → WalkOf g (rights L.done ++ w.here.right ∷ []) v.here.right (drop v.j g)
    → v.i ≤ length f → v.j ≤ length g → suc (length f - v.i) + (length g - v.j) ≤ (length f - w.i) + (length g - w.j)
    → OverlayLoop f g (out ++ v.here ∷ []) v
step_loop f g out w v L same start left right bi bj fewer = record {
  done = out;
  is = refl;
  together = same;
  left = subst (λ z. WalkOf f z v.here.left (drop v.i f)) (sym (lefts_more L.done w.here) ∙ ap lefts (sym L.is)) left;
  right = subst (λ z. WalkOf g z v.here.right (drop v.j g)) (sym (rights_more L.done w.here) ∙ ap rights (sym L.is)) right;
  each = each_more (IsBothOf f g) out v.here L.each record {
    together = same;
    start = start;
    left = walk_piece f (lefts L.done ++ w.here.left ∷ []) v.here.left (drop v.i f) left;
    right = walk_piece g (rights L.done ++ w.here.right ∷ []) v.here.right (drop v.j g) right;
  };
  i = bi;
  j = bj;
  count = let e = length_more out v.here in let c = L.count in omega arith;
}

-- the next start of a walk is later
later_left : (f g : List Piece) (out : List Both) (w : Walk) (p : Piece) (ps : List Piece) → (L : OverlayLoop f g out w) → drop w.i f ≡ p ∷ ps → w.here.left.x <ℚ p.x
later_left f g out w p ps L e = (subst (RisesFrom w.here.left.x) e (rest_rises (lefts L.done) w.here.left (drop w.i f) L.left.starts)).0

later_right : (f g : List Piece) (out : List Both) (w : Walk) (p : Piece) (ps : List Piece) → (L : OverlayLoop f g out w) → drop w.j g ≡ p ∷ ps → w.here.right.x <ℚ p.x
later_right f g out w p ps L e = (subst (RisesFrom w.here.right.x) e (rest_rises (rights L.done) w.here.right (drop w.j g) L.right.starts)).0

takes_left : (f g : List Piece) (out : List Both) (w v : Walk) → OverlayLoop f g out w → TakesLeft f g w v → OverlayLoop f g (out ++ v.here ∷ []) v
takes_left f g out w v L T =
    let p = v.here.left in
    let shape = drop_got f w.i p T.next in
    let below = got_below f w.i p T.next in
    let after = later_left f g out w p (drop (w.i + 1) f) L shape in
    let x : v.here.right.x ≡ p.x = ap (λ z. z.x) T.right in
    let i = T.i in
    let j = T.j in
    let bj = L.j in
    step_loop f g out w v L (sym x) (inl (start_got f w.i p T.next))
    (subst (λ n. WalkOf f (lefts L.done ++ w.here.left ∷ []) p (drop n f)) (sym T.i)
    (walk_take f (lefts L.done) w.here.left p (drop (w.i + 1) f) (subst (WalkOf f (lefts L.done) w.here.left) shape L.left)))
    (subst (λ z. WalkOf g (rights L.done ++ w.here.right ∷ []) z (drop v.j g)) (sym T.right)
    (subst (λ n. WalkOf g (rights L.done ++ w.here.right ∷ []) (cut_at w.here.right p.x) (drop n g)) (sym T.j)
    (walk_cut g (rights L.done) w.here.right (drop w.j g) p.x L.right (subst (λ y. y <ℚ p.x) L.together after) (before_next p.x g w.j T.early))))
    (omega arith) (omega arith) (omega arith)

takes_right : (f g : List Piece) (out : List Both) (w v : Walk) → OverlayLoop f g out w → TakesRight f g w v → OverlayLoop f g (out ++ v.here ∷ []) v
takes_right f g out w v L T =
    let q = v.here.right in
    let shape = drop_got g w.j q T.next in
    let below = got_below g w.j q T.next in
    let after = later_right f g out w q (drop (w.j + 1) g) L shape in
    let x : v.here.left.x ≡ q.x = ap (λ z. z.x) T.left in
    let i = T.i in
    let j = T.j in
    let bi = L.i in
    step_loop f g out w v L x (inr (subst (λ y. HasStart y g) (sym x) (start_got g w.j q T.next)))
    (subst (λ z. WalkOf f (lefts L.done ++ w.here.left ∷ []) z (drop v.i f)) (sym T.left)
    (subst (λ n. WalkOf f (lefts L.done ++ w.here.left ∷ []) (cut_at w.here.left q.x) (drop n f)) (sym T.i)
    (walk_cut f (lefts L.done) w.here.left (drop w.i f) q.x L.left (subst (λ y. y <ℚ q.x) (sym L.together) after) (before_next q.x f w.i T.early))))
    (subst (λ n. WalkOf g (rights L.done ++ w.here.right ∷ []) q (drop n g)) (sym T.j)
    (walk_take g (rights L.done) w.here.right q (drop (w.j + 1) g) (subst (WalkOf g (rights L.done) w.here.right) shape L.right)))
    (omega arith) (omega arith) (omega arith)

takes_both : (f g : List Piece) (out : List Both) (w v : Walk) → OverlayLoop f g out w → TakesBoth f g w v → OverlayLoop f g (out ++ v.here ∷ []) v
takes_both f g out w v L T =
    let p = v.here.left in
    let q = v.here.right in
    let i = T.i in
    let j = T.j in
    let bi = got_below f w.i p T.next in
    let bj = got_below g w.j q T.other in
    step_loop f g out w v L T.together (inl (start_got f w.i p T.next))
    (subst (λ n. WalkOf f (lefts L.done ++ w.here.left ∷ []) p (drop n f)) (sym T.i)
    (walk_take f (lefts L.done) w.here.left p (drop (w.i + 1) f) (subst (WalkOf f (lefts L.done) w.here.left) (drop_got f w.i p T.next) L.left)))
    (subst (λ n. WalkOf g (rights L.done ++ w.here.right ∷ []) q (drop n g)) (sym T.j)
    (walk_take g (rights L.done) w.here.right q (drop (w.j + 1) g) (subst (WalkOf g (rights L.done) w.here.right) (drop_got g w.j q T.other) L.right)))
    (omega arith) (omega arith) (omega arith)

pub overlay_step : (f g : List Piece) (out : List Both) (w v : Walk) → OverlayLoop f g out w → IsStep f g w v → OverlayLoop f g (out ++ v.here ∷ []) v
overlay_step f g out w v L (inl h) = takes_left f g out w v L h
overlay_step f g out w v L (inr (inl h)) = takes_right f g out w v L h
overlay_step f g out w v L (inr (inr h)) = takes_both f g out w v L h

-- each step is one fewer
pub step_fewer : (f g : List Piece) (out : List Both) (w v : Walk) → OverlayLoop f g out w → IsStep f g w v
    → (length f - v.i) + (length g - v.j) < (length f - w.i) + (length g - w.j)
step_fewer f g out w v L (inl h) = let a = got_below f w.i v.here.left h.next in let i = h.i in let j = h.j in omega arith
step_fewer f g out w v L (inr (inl h)) = let a = got_below g w.j v.here.right h.next in let i = h.i in let j = h.j in omega arith
step_fewer f g out w v L (inr (inr h)) =
    let a = got_below f w.i v.here.left h.next in
    let b = got_below g w.j v.here.right h.other in
    let i = h.i in
    let j = h.j in
    omega arith

-- the cuts that may come next fit
pub next_fits : (f g : List Piece) (out : List Both) (w : Walk) → CutsFit f g → OverlayLoop f g out w → NextFits f g w
next_fits f g out w C L = record {
  left = λ p e early.
      let shape = drop_got f w.i p e in
      let after = later_left f g out w p (drop (w.i + 1) f) L shape in
      let after_right = subst (λ y. y <ℚ p.x) L.together after in
      let low = start_nonneg (rights L.done) w.here.right (drop w.j g) L.right.starts in
      subst (LineFitsAt p.x)
      (walk_line g (rights L.done) w.here.right (drop w.j g) p.x L.right (le_trans low (le_of_lt after_right)) (le_of_lt after_right) (before_next p.x g w.j early))
      (C.right p.x (start_got f w.i p e));
  right = λ q e early.
      let shape = drop_got g w.j q e in
      let after = later_right f g out w q (drop (w.j + 1) g) L shape in
      let after_left = subst (λ y. y <ℚ q.x) (sym L.together) after in
      let low = start_nonneg (lefts L.done) w.here.left (drop w.i f) L.left.starts in
      subst (LineFitsAt q.x)
      (walk_line f (lefts L.done) w.here.left (drop w.i f) q.x L.left (le_trans low (le_of_lt after_left)) (le_of_lt after_left) (before_next q.x f w.i early))
      (C.left q.x (start_got g w.j q e));
}

pub overlay_end : (f g : List Piece) (out : List Both) (w : Walk) → OverlayLoop f g out w → length f ≤ w.i → length g ≤ w.j → IsOverlay f g out
overlay_end f g out w L hi hj =
    let left = subst (WalkOf f (lefts L.done) w.here.left) (none_left f w.i hi) L.left in
    let right = subst (WalkOf g (rights L.done) w.here.right) (none_left g w.j hj) L.right in
    let a : lefts L.done ++ w.here.left ∷ [] ≡ lefts out = sym (lefts_more L.done w.here) ∙ ap lefts (sym L.is) in
    let b : rights L.done ++ w.here.right ∷ [] ≡ rights out = sym (rights_more L.done w.here) ∙ ap rights (sym L.is) in
    let c = L.count in
    record {
      starts = subst StartsAtZero a left.starts;
      left = λ t l. subst (λ z. read z t ≡ read f t) a (left.reads t l);
      right = λ t l. subst (λ z. read z t ≡ read g t) b (right.reads t l);
      each = L.each;
      count = omega arith;
    }
