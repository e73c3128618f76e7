-- Lists of pieces joined and cut: what stays of the order of their starts, and of what holds of each.
use Rattle.std.specs.Prelude.{◌≡◌, ◌<◌, List, [], ◌∷◌, ◌++◌, length}
use Rattle.std.proofs.Common.{arith, refl, inl, inr}
use Rattle.rational.specs.Rational.{ℚ, ◌≤ℚ◌, ◌<ℚ◌}
use Rattle.rational.proofs.Laws.{le_lt_trans}
use Rattle.rational.proofs.Linear.{with3}
use Rattle.upp_curve.specs.declared.affine_segment.line.Piece.{Piece}
use Rattle.upp_curve.specs.affine_segment.Pieces.{Each, HasStart, RisesFrom, StartsAtZero}

pub heads_same : (p q : Piece) (ps qs : List Piece) → p ∷ ps ≡ q ∷ qs → p ≡ q
heads_same p q ps qs e = cc

pub tails_same : (p q : Piece) (ps qs : List Piece) → p ∷ ps ≡ q ∷ qs → ps ≡ qs
tails_same p q ps qs e = cc

pub nil_not_cons : (q : Piece) (qs : List Piece) → [] ≡ q ∷ qs → ⊥
nil_not_cons q qs e = cc

pub zero_some : (ps : List Piece) → StartsAtZero ps → 0 < length ps
zero_some [] h = absurd h
zero_some (p ∷ ps) h = omega arith

-- ---- what holds of each piece
pub each_map : (P Q : Piece → Type 0) → ((p : Piece) → P p → Q p) → (ps : List Piece) → Each P ps → Each Q ps
each_map P Q f [] h = tt
each_map P Q f (p ∷ ps) h = (f p h.0, each_map P Q f ps h.1)

pub each_append : (P : Piece → Type 0) (ps qs : List Piece) → Each P ps → Each P qs → Each P (ps ++ qs)
each_append P [] qs h k = k
each_append P (p ∷ ps) qs h k = (h.0, each_append P ps qs h.1 k)

pub each_left : (P : Piece → Type 0) (ps qs : List Piece) → Each P (ps ++ qs) → Each P ps
each_left P [] qs h = tt
each_left P (p ∷ ps) qs h = (h.0, each_left P ps qs h.1)

pub each_mid : (P : Piece → Type 0) (es : List Piece) (p : Piece) (bs : List Piece) → Each P (es ++ p ∷ bs) → P p
each_mid P [] p bs h = h.0
each_mid P (a ∷ es) p bs h = each_mid P es p bs h.1

pub has_mid : (es : List Piece) (p : Piece) (bs : List Piece) → HasStart p.x (es ++ p ∷ bs)
has_mid [] p bs = inl refl
has_mid (a ∷ es) p bs = inr (has_mid es p bs)

-- ---- the order of starts
pub rises_down : (x y : ℚ) (ps : List Piece) → x ≤ℚ y → RisesFrom y ps → RisesFrom x ps
rises_down x y [] h r = tt
rises_down x y (p ∷ ps) h r = (le_lt_trans h r.0, r.1)

pub rises_append : (x : ℚ) (ps : List Piece) (q : Piece) (qs : List Piece) → RisesFrom x ps → x <ℚ q.x → Each (λ p. p.x <ℚ q.x) ps → RisesFrom q.x qs → RisesFrom x (ps ++ q ∷ qs)
rises_append x [] q qs h l e k = (l, k)
rises_append x (p ∷ ps) q qs h l e k = (h.0, rises_append p.x ps q qs h.1 e.0 e.1 k)

pub rises_left : (x : ℚ) (ps qs : List Piece) → RisesFrom x (ps ++ qs) → RisesFrom x ps
rises_left x [] qs h = tt
rises_left x (p ∷ ps) qs h = (h.0, rises_left p.x ps qs h.1)

pub rises_split : (x : ℚ) (es : List Piece) (p : Piece) (bs : List Piece) → RisesFrom x (es ++ p ∷ bs) → Each (λ z. z.x <ℚ p.x) es × (x <ℚ p.x) × RisesFrom p.x bs
rises_split x [] p bs h = (tt, h.0, h.1)
rises_split x (a ∷ es) p bs h =
    let k = rises_split a.x es p bs h.1 in
    let y = a.x in
    let z = p.x in
    let l = h.0 in
    let m = k.1 in
    ((m, k.0), with3 x y z (λ c. omega (arith, c.le, c.lt, c.same)), k.2)
