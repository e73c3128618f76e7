-- Pieces made of stretches, one of each, read as what they are made of.
use Rattle.std.specs.Prelude.{◌≡◌, pos, Bool, true, false, cond, List, [], ◌∷◌, length}
use Rattle.std.proofs.Common.{arith, sym, ap, ap₂, ◌∙◌, refl, subst}
use Rattle.rational.specs.Rational.{ℚ, ◌≤ℚ◌, ◌<ℚ◌, int, le_q}
use Rattle.rational.specs.Extended.{Ext}
use Rattle.upp_curve.specs.declared.affine_segment.line.Piece.{Piece}
use Rattle.upp_curve.specs.affine_segment.Reading.{read, piece_in, piece_value}
use Rattle.upp_curve.specs.affine_segment.Pieces.{RisesFrom, StartsAtZero}
use Rattle.curve_call.specs.declared.stretch.Both.{Both}
use Rattle.curve_call.specs.Stretches.{lefts, rights, EachBoth, IsBothOf, IsOverlay}
use Rattle.curve_call.specs.Pointwise.{mapped}
use Rattle.upp_curve.proofs.affine_segment.PieceIn.{read_is}

-- the last stretch that starts at t or before
unfoldable pub both_in : Both → List Both → ℚ → Both
both_in b [] t = b
both_in b (c ∷ cs) t = cond (le_q c.left.x t) (both_in c cs t) b

abbrev pub StartsAt : (Both → Piece) → Both → Type 0
StartsAt m b = (m b).x ≡ b.left.x

cond_map : (m : Both → Piece) (v : Bool) (b c : Both) → cond v (m b) (m c) ≡ m (cond v b c)
cond_map m true b c = refl
cond_map m false b c = refl

pub mapped_in : (m : Both → Piece) (b : Both) (bs : List Both) (t : ℚ) → EachBoth (StartsAt m) bs → piece_in (m b) (mapped m bs) t ≡ m (both_in b bs t)
unfolding piece_in both_in
mapped_in m b [] t h = refl
mapped_in m b (c ∷ cs) t h =
    ap₂ (λ (v : Bool) (z : Piece). cond v z (m b)) (ap (λ x. le_q x t) h.0) (mapped_in m c cs t h.1) ∙ cond_map m (le_q c.left.x t) (both_in c cs t) b

cond_holds : (P : Both → Type 0) (v : Bool) (b c : Both) → P b → P c → P (cond v b c)
cond_holds P true b c h k = h
cond_holds P false b c h k = k

pub each_both_in : (P : Both → Type 0) (b : Both) (bs : List Both) (t : ℚ) → P b → EachBoth P bs → P (both_in b bs t)
unfolding both_in
each_both_in P b [] t h k = h
each_both_in P b (c ∷ cs) t h k = cond_holds P (le_q c.left.x t) (both_in c cs t) b (each_both_in P c cs t k.0 k.1) h

pub lefts_mapped : (bs : List Both) → lefts bs ≡ mapped (λ b. b.left) bs
lefts_mapped [] = refl
lefts_mapped (b ∷ bs) = ap (λ z. b.left ∷ z) (lefts_mapped bs)

pub rights_mapped : (bs : List Both) → rights bs ≡ mapped (λ b. b.right) bs
rights_mapped [] = refl
rights_mapped (b ∷ bs) = ap (λ z. b.right ∷ z) (rights_mapped bs)

pub each_map : (P Q : Both → Type 0) (bs : List Both) → ((b : Both) → P b → Q b) → EachBoth P bs → EachBoth Q bs
each_map P Q [] f h = tt
each_map P Q (b ∷ bs) f h = (f b h.0, each_map P Q bs f h.1)

pub each_of : (P : Both → Type 0) (bs : List Both) → ((b : Both) → P b) → EachBoth P bs
each_of P [] f = tt
each_of P (b ∷ bs) f = (f b, each_of P bs f)

pub read_mapped : (m : Both → Piece) (b : Both) (bs : List Both) (t : ℚ) → EachBoth (StartsAt m) bs → read (mapped m (b ∷ bs)) t ≡ piece_value (m (both_in b bs t)) t
read_mapped m b bs t h = read_is (m b) (mapped m bs) t ∙ ap (λ z. piece_value z t) (mapped_in m b bs t h)

-- a relation of values that holds on each stretch holds of the windows
pub pointwise : (Rel : Ext → Ext → Ext → Type 0) (m : Both → Piece) (f g : List Piece) (bs : List Both) → IsOverlay f g bs → ((b : Both) → StartsAt m b)
    → ((b : Both) (t : ℚ) → IsBothOf f g b → Rel (piece_value b.left t) (piece_value b.right t) (piece_value (m b) t))
    → (t : ℚ) → int (pos 0) ≤ℚ t → Rel (read f t) (read g t) (read (mapped m bs) t)
pointwise Rel m f g [] O s h t l = absurd O.starts
pointwise Rel m f g (b ∷ bs) O s h t l =
    let B = both_in b bs t in
    let left : piece_value B.left t ≡ read f t =
    sym (ap (λ z. read z t) (lefts_mapped (b ∷ bs)) ∙ read_mapped (λ z. z.left) b bs t (each_of (StartsAt (λ z. z.left)) bs (λ z. refl))) ∙ O.left t l in
    let right : piece_value B.right t ≡ read g t =
    sym (ap (λ z. read z t) (rights_mapped (b ∷ bs)) ∙ read_mapped (λ z. z.right) b bs t (each_map (IsBothOf f g) (StartsAt (λ z. z.right)) bs (λ z k. sym k.together) O.each.1)) ∙ O.right t l in
    let made : piece_value (m B) t ≡ read (mapped m (b ∷ bs)) t = sym (read_mapped m b bs t (each_of (StartsAt m) bs s)) in
    subst (λ z. Rel (read f t) (read g t) z) made
    (subst (λ z. Rel (read f t) z (piece_value (m B) t)) right
    (subst (λ z. Rel z (piece_value B.right t) (piece_value (m B) t)) left
    (h B t (each_both_in (IsBothOf f g) b bs t O.each.0 O.each.1))))

-- the starts stay
rises_mapped : (m : Both → Piece) (x y : ℚ) (bs : List Both) → ((b : Both) → StartsAt m b) → x ≡ y → RisesFrom x (lefts bs) → RisesFrom y (mapped m bs)
rises_mapped m x y [] s e h = tt
rises_mapped m x y (b ∷ bs) s e h =
    (subst (λ z. z <ℚ (m b).x) e (subst (λ z. x <ℚ z) (sym (s b)) h.0), rises_mapped m b.left.x (m b).x bs s (sym (s b)) h.1)

pub starts_mapped : (m : Both → Piece) (bs : List Both) → ((b : Both) → StartsAt m b) → StartsAtZero (lefts bs) → StartsAtZero (mapped m bs)
starts_mapped m [] s h = absurd h
starts_mapped m (b ∷ bs) s h = (s b ∙ h.0, rises_mapped m b.left.x (m b).x bs s (sym (s b)) h.1)

pub length_mapped : (m : Both → Piece) (bs : List Both) → length (mapped m bs) ≡ length bs
length_mapped m [] = refl
length_mapped m (b ∷ bs) = let e = length_mapped m bs in omega arith
