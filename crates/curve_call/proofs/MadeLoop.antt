-- The walk over two windows that makes the pieces of each stretch, and the step that fits where two lines change places.
use Rattle.std.specs.Prelude.{◌≡◌, ◌+◌, ◌-◌, ◌<◌, ◌≤◌, not, List, [], ◌∷◌, ◌++◌, length, Option, Some, None}
use Rattle.std.proofs.Common.{append_assoc, sym, ap, ap₂, ◌∙◌, refl, subst}
use Rattle.rational.specs.Rational.{ℚ, ◌≤ℚ◌}
use Rattle.rational.proofs.Laws.{lt_le_trans, le_of_lt}
use Rattle.rational.specs.Extended.{Ext}
use Rattle.upp_curve.specs.declared.affine_segment.line.Line.{Line}
use Rattle.upp_curve.specs.declared.affine_segment.line.Piece.{Piece}
use Rattle.upp_curve.specs.affine_segment.Values.{line_value}
use Rattle.upp_curve.specs.affine_segment.Fits.{LineFitsAt}
use Rattle.curve_call.specs.declared.stretch.Both.{Both}
use Rattle.curve_call.specs.declared.stretch.Walk.{Walk}
use Rattle.curve_call.specs.declared.lie.Lie.{Lie}
use Rattle.curve_call.specs.declared.made.Made.{Made}
use Rattle.curve_call.specs.Stretches.{EachBoth, IsBothOf, CutsFit}
use Rattle.curve_call.specs.Walk.{IsStep, NextFits}
use Rattle.curve_call.specs.Lies.{LiesBy, IsLie, ChangesPlaces}
use Rattle.curve_call.specs.Made.{made_value, made_line, Parts, first_piece, parts_by, parts_of, IsParts, HasParts, turn_listed, listed, next_start, AreMade}
use Rattle.curve_call.specs.Made.{IsMadeWindow, StretchMadeFits, MadeWindowFits}
use Rattle.curve_call.proofs.OverlayLoop.{OverlayLoop, overlay_step, step_fewer, next_fits, overlay_end}

-- ---- where two lines change places the value fits
pub turn_fits : (k : Made) (b : Both) (to x : ℚ) (lie : Lie) (line : Option Line) → StretchMadeFits to b → IsLie b.left.line b.right.line b.left.x to lie → lie.turn ≡ Some x
    → line ≡ made_line k (not lie.below) b.left.line b.right.line → LineFitsAt x line
turn_fits k b to x lie line F L e same =
    let T : ChangesPlaces lie.below b.left.line b.right.line b.left.x to x = subst (LiesBy lie.below b.left.line b.right.line b.left.x to) e L in
    subst (LineFitsAt x) (sym same) (F.turn k lie.below (not lie.below) x T.meets T.past T.before)

-- what fits before `end` fits before an earlier time
earlier_fits : (end to : ℚ) (b : Both) → to ≤ℚ end → StretchMadeFits end b → StretchMadeFits to b
earlier_fits end to b h F = record { value = F.value; line = F.line; cross = F.cross; turn = λ k rises below x C past before. F.turn k rises below x C past (lt_le_trans before h) }

-- ---- what the pushes leave
by_turn : (k : Made) (b : Both) (to : ℚ) (before after : List Piece) (lie : Lie) (turn : Option ℚ) → IsLie b.left.line b.right.line b.left.x to lie → lie.turn ≡ turn
    → after ≡ before ++ listed (parts_by k b lie.below turn) [] → HasParts k b to before after
by_turn k b to before after lie turn L t e =
    (parts_of k b lie, record { lie = lie; lies = L; is = refl }, e ∙ ap (λ z. before ++ listed (parts_by k b lie.below z) []) (sym t))

pub one_pushed : (k : Made) (b : Both) (to : ℚ) (before after : List Piece) (lie : Lie) (at : Ext) (line : Option Line) → IsLie b.left.line b.right.line b.left.x to lie → lie.turn ≡ None
    → at ≡ made_value k b.left.at b.right.at → line ≡ made_line k lie.below b.left.line b.right.line → after ≡ before ++ record { x = b.left.x; at = at; line = line } ∷ [] → HasParts k b to before after
one_pushed k b to before after lie at line L t v l e = by_turn k b to before after lie None L t (e ∙ ap₂ (λ v l. before ++ record { x = b.left.x; at = v; line = l } ∷ []) v l)

pub two_pushed : (k : Made) (b : Both) (to x : ℚ) (before mid after : List Piece) (lie : Lie) (at turned : Ext) (line turning : Option Line) → IsLie b.left.line b.right.line b.left.x to lie → lie.turn ≡ Some x
    → at ≡ made_value k b.left.at b.right.at → line ≡ made_line k lie.below b.left.line b.right.line → mid ≡ before ++ record { x = b.left.x; at = at; line = line } ∷ []
    → turning ≡ made_line k (not lie.below) b.left.line b.right.line → turned ≡ line_value turning x → after ≡ mid ++ record { x = x; at = turned; line = turning } ∷ [] → HasParts k b to before after
two_pushed k b to x before mid after lie at turned line turning L t v l d m w e =
    let first : Piece = record { x = b.left.x; at = at; line = line } in
    let second : Piece = record { x = x; at = turned; line = turning } in
    by_turn k b to before after lie (Some x) L t
    (e ∙ ap (λ z. z ++ second ∷ []) d ∙ append_assoc before (first ∷ []) (second ∷ [])
    ∙ ap₂ (λ u l. before ++ record { x = b.left.x; at = u; line = l } ∷ second ∷ []) v l
    ∙ ap₂ (λ u n. before ++ first_piece k lie.below b ∷ record { x = x; at = u; line = n } ∷ []) (w ∙ ap (λ n. line_value n x) m) m)

-- ---- one stretch more
next_more : (bs : List Both) (b : Both) (to : ℚ) → next_start bs b.left.x ≡ next_start (bs ++ b ∷ []) to
next_more [] b to = refl
next_more (c ∷ cs) b to = refl

listed_more : (parts : Parts) (rest more : List Piece) → listed parts rest ++ more ≡ listed parts (rest ++ more)
listed_more parts rest more = ap (λ z. parts.first ∷ z) (turn_more parts.turn rest more)
  where
    turn_more : (turn : Option Piece) (rest more : List Piece) → turn_listed turn rest ++ more ≡ turn_listed turn (rest ++ more)
    turn_more None rest more = refl
    turn_more (Some p) rest more = refl

made_more : (k : Made) (bs : List Both) (b : Both) (to : ℚ) (ps : List Piece) (parts : Parts) → AreMade k bs b.left.x ps → IsParts k b to parts
    → AreMade k (bs ++ b ∷ []) to (ps ++ listed parts [])
made_more k [] b to ps parts M P = (parts, P, ([], ap (λ z. z ++ listed parts []) M, refl))
made_more k (c ∷ cs) b to ps parts (qs, Q, (rest, e, M)) P = (
  qs,
  subst (λ y. IsParts k c y qs) (next_more cs b to) Q,
  (rest ++ listed parts [], ap (λ z. z ++ listed parts []) e ∙ listed_more qs rest (listed parts []), made_more k cs b to rest parts M P),
)

pub each_last : (P : Both → Type 0) (bs : List Both) (b : Both) → EachBoth P (bs ++ b ∷ []) → P b
each_last P [] b h = h.0
each_last P (c ∷ cs) b h = each_last P cs b h.1

-- ---- the walk
pub record MadeLoop (k : Made) (f g : List Piece) (w : Walk) (out : List Piece) : Type 0 where
  pub before : List Both
  pub walk : OverlayLoop f g (before ++ w.here ∷ []) w
  pub made : AreMade k before w.here.left.x out

pub made_start : (k : Made) (f g : List Piece) (w : Walk) (out : List Piece) → OverlayLoop f g (w.here ∷ []) w → out ≡ [] → MadeLoop k f g w out
made_start k f g w out L none = record { before = []; walk = L; made = none }

pub walk_fits : (k : Made) (f g : List Piece) (w : Walk) (out : List Piece) → CutsFit f g → MadeLoop k f g w out → NextFits f g w
walk_fits k f g w out C L = next_fits f g (L.before ++ w.here ∷ []) w C L.walk

pub last_fits : (k : Made) (f g : List Piece) (end : ℚ) (w : Walk) (out : List Piece) → MadeWindowFits end f g → MadeLoop k f g w out → StretchMadeFits end w.here
last_fits k f g end w out F L = (F w.here (each_last (IsBothOf f g) L.before w.here L.walk.each)).steps

next_early : (k : Made) (f g : List Piece) (end : ℚ) (w v : Walk) (out : List Piece) → MadeWindowFits end f g → MadeLoop k f g w out → IsStep f g w v → v.here.left.x ≤ℚ end
next_early k f g end w v out F L S =
    let so_far = L.before ++ w.here ∷ [] in
    le_of_lt (F v.here (each_last (IsBothOf f g) so_far v.here (overlay_step f g so_far w v L.walk S).each)).early

-- a stretch that ends where the next one starts
pub steps_fit : (k : Made) (f g : List Piece) (end to : ℚ) (w : Walk) (out : List Piece) → MadeWindowFits end f g → MadeLoop k f g w out → (v : Walk) × IsStep f g w v
    → ((v : Walk) → IsStep f g w v → v.here.left.x ≡ to) → StretchMadeFits to w.here
steps_fit k f g end to w out F L (v, S) ends = earlier_fits end to w.here (subst (λ x. x ≤ℚ end) (ends v S) (next_early k f g end w v out F L S)) (last_fits k f g end w out F L)

pub next_fewer : (k : Made) (f g : List Piece) (w v : Walk) (out : List Piece) → MadeLoop k f g w out → IsStep f g w v
    → (length f - v.i) + (length g - v.j) < (length f - w.i) + (length g - w.j)
next_fewer k f g w v out L S = step_fewer f g (L.before ++ w.here ∷ []) w v L.walk S

pub made_next : (k : Made) (f g : List Piece) (w v : Walk) (out more : List Piece) → MadeLoop k f g w out → HasParts k w.here v.here.left.x out more → IsStep f g w v → MadeLoop k f g v more
made_next k f g w v out more L (parts, P, e) S = record {
  before = L.before ++ w.here ∷ [];
  walk = overlay_step f g (L.before ++ w.here ∷ []) w v L.walk S;
  made = subst (AreMade k (L.before ++ w.here ∷ []) v.here.left.x) (sym e) (made_more k L.before w.here v.here.left.x out parts L.made P);
}

pub made_step : (k : Made) (f g : List Piece) (to : ℚ) (w v : Walk) (out more : List Piece) → MadeLoop k f g w out → ((u : Walk) → IsStep f g w u → u.here.left.x ≡ to) → HasParts k w.here to out more
    → IsStep f g w v → MadeLoop k f g v more
made_step k f g to w v out more L ends P S = made_next k f g w v out more L (subst (λ x. HasParts k w.here x out more) (sym (ends v S)) P) S

pub made_end : (k : Made) (f g : List Piece) (end : ℚ) (w : Walk) (out all : List Piece) → MadeLoop k f g w out → length f ≤ w.i → length g ≤ w.j → HasParts k w.here end out all
    → IsMadeWindow k f g end all
made_end k f g end w out all L hi hj (parts, P, e) = record {
  stretches = L.before ++ w.here ∷ [];
  cut = overlay_end f g (L.before ++ w.here ∷ []) w L.walk hi hj;
  made = subst (AreMade k (L.before ++ w.here ∷ []) end) (sym e) (made_more k L.before w.here end out parts L.made P);
}
