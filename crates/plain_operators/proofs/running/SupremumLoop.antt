-- The scan for the supremum: what holds after each piece.
use Rattle.std.specs.Prelude.{◌≡◌, ℕ, true, ◌+◌, ◌*◌, ◌≤◌, pos, List, [], ◌∷◌, ◌++◌, length, drop, Option, Some, None}
use Rattle.std.proofs.Common.{arith, length-append, drop_of_length-le, sym, ap, ap₂, ◌∙◌, refl, subst}
use Rattle.rational.specs.Rational.{ℚ, ◌<ℚ◌, int}
use Rattle.rational.specs.MinMax.{max_q}
use Rattle.rational.specs.Extended.{Ext}
use Rattle.rational.specs.declared.Extended.TheVariants.{Fin}
use Rattle.rational.proofs.Laws.{lt_trans}
use Rattle.upp_curve.specs.declared.affine_segment.line.Line.{Line}
use Rattle.upp_curve.specs.declared.affine_segment.line.Piece.{Piece}
use Rattle.upp_curve.specs.affine_segment.Reading.{read}
use Rattle.upp_curve.specs.affine_segment.Pieces.{Each, StartsAtZero}
use Rattle.min_plus.specs.Running.{IsRunningSupremum}
use Rattle.curve_call.proofs.Surgery.{one_more}
use Rattle.plain_operators.specs.declared.running.stretch.Stretch.{Stretch}
use Rattle.plain_operators.specs.declared.running.bend.Bend.{Bend}
use Rattle.plain_operators.specs.running.Scans.{start_or, IsWindow, IsLevel, IsStretch}
use Rattle.plain_operators.specs.running.Bends.{risen, Follows, bent}
use Rattle.plain_operators.specs.running.Made.{IsMadeOf, IsMade, TurnsAfter, IsSupremumScan}
use Rattle.plain_operators.proofs.running.Suprema.{IsEarly, IsUpTo, early_start, upto_value, upto_line, early_line}
use Rattle.plain_operators.proofs.running.Building.{Built, built_none, built_more, built_whole}
use Rattle.plain_operators.proofs.running.Makings.{greater_level, bent_made, bent_turns, turns_join}
use Rattle.upp_curve.proofs.affine_segment.PieceOrder.{each_append}

-- the pieces before the i-th are scanned: `level` is the supremum before its start
pub record SupremumLoop (ps : List Piece) (end : ℚ) (i : ℕ) (level : ℚ) (out : List Piece) : Type 0 where
  pub highest : IsEarly (read ps) (start_or end (drop i ps)) level
  pub known : IsLevel end ps level
  pub built : Built (IsRunningSupremum (read ps)) (start_or end (drop i ps)) out
  pub count : length out ≤ 2 * i
  pub made : Each (IsMade end ps) out
  pub turns : TurnsAfter true ps None out

pub first_start : (end : ℚ) (ps : List Piece) → StartsAtZero ps → start_or end ps ≡ int (pos 0)
first_start end [] h = absurd h
first_start end (p ∷ ps) h = h.0

pub supremum_start : (ps : List Piece) (end : ℚ) (s : Stretch) → IsWindow end ps → IsStretch ps end 0 s → SupremumLoop ps end 0 s.at []
supremum_start ps end s W S =
    let zero : start_or end (drop 0 ps) ≡ int (pos 0) = first_start end ps W.starts in
    record {
      highest = early_start (read ps) (start_or end (drop 0 ps)) s.at zero (ap (read ps) (sym S.from) ∙ S.at);
      known = S.at_level;
      built = built_none (IsRunningSupremum (read ps)) (start_or end (drop 0 ps)) zero;
      count = omega arith;
      made = tt;
      turns = tt;
    }

bent_short : (x v : ℚ) (l : Line) (turn : Option Piece) → length (bent x v l turn) ≤ 2
bent_short x v l None = omega arith
bent_short x v l (Some q) = omega arith

abbrev R : List Piece → ℚ → Ext → Type 0
R ps = IsRunningSupremum (read ps)

bent_built : (ps out : List Piece) (s : Stretch) (top : ℚ) (l : Line) (turn : Option Piece) → s.from <ℚ s.to → Built (R ps) s.from out → IsUpTo (read ps) s.from top
    → ((t : ℚ) → s.from <ℚ t → t <ℚ s.to → IsUpTo (read ps) t (risen top s.line s.from t)) → Follows (risen top s.line s.from) s.from s.to l turn
    → Built (R ps) s.to (out ++ bent s.from top l turn)
bent_built ps out s top l None some B at on f =
    built_more (R ps) s.from s.to out record { x = s.from; at = Fin top; line = Some l } B refl some at
    (λ t past early. subst (R ps t) (sym (f t past early)) (on t past early))
bent_built ps out s top l (Some q) some B at on f =
    let p : Piece = record { x = s.from; at = Fin top; line = Some l } in
    let first : Built (R ps) q.x (out ++ p ∷ []) =
    built_more (R ps) s.from q.x out p B refl f.past at
    (λ t past early. subst (R ps t) (sym (f.first t past early)) (on t past (lt_trans early f.early))) in
    subst (Built (R ps) s.to) (one_more out p (q ∷ []))
    (built_more (R ps) q.x s.to (out ++ p ∷ []) q first refl f.early (subst (R ps q.x) (sym f.at) (on q.x f.past f.early))
    (λ t past early. subst (R ps t) (sym (f.second t past early)) (on t (lt_trans f.past past) early)))

pub supremum_step : (ps : List Piece) (end : ℚ) (i : ℕ) (level : ℚ) (out more : List Piece) (s : Stretch) (top high next : ℚ) (b : Bend)
    → SupremumLoop ps end i level out → IsStretch ps end i s → top ≡ max_q level s.at → Follows (risen top s.line s.from) s.from s.to b.line b.turn → IsMadeOf true top s b
    → more ≡ out ++ bent s.from top b.line b.turn → high ≡ max_q s.right s.left → next ≡ max_q top high → SupremumLoop ps end (i + 1) next more
supremum_step ps end i level out more s top high next b L S t f m e h n =
    let at : IsUpTo (read ps) s.from top =
    subst (IsUpTo (read ps) s.from) (sym t) (upto_value (read ps) s.from level s.at S.nonneg S.at (subst (λ z. IsEarly (read ps) z level) (sym S.from) L.highest)) in
    let on : (u : ℚ) → s.from <ℚ u → u <ℚ s.to → IsUpTo (read ps) u (risen top s.line s.from u) =
    λ u past early. upto_line (read ps) s.from s.to u top s.line S.nonneg S.on past early at in
    let next_is : next ≡ risen top s.line s.from s.to = n ∙ ap (max_q top) (h ∙ ap₂ max_q S.right S.left) in
    let top_known : IsLevel end ps top = subst (IsLevel end ps) (sym t) (greater_level end ps level s.at L.known S.at_level) in
    let high_known : IsLevel end ps high = subst (IsLevel end ps) (sym h) (greater_level end ps s.right s.left S.right_level S.left_level) in
    let shorter = bent_short s.from top b.line b.turn in
    let c = L.count in
    record {
      highest = subst (λ z. IsEarly (read ps) z next) S.to (subst (IsEarly (read ps) s.to) (sym next_is) (early_line (read ps) s.from s.to top s.line S.nonneg S.on S.some at));
      known = subst (IsLevel end ps) (sym n) (greater_level end ps top high top_known high_known);
      built = subst (λ z. Built (R ps) z more) S.to
          (subst (Built (R ps) s.to) (sym e) (bent_built ps out s top b.line b.turn S.some (subst (λ z. Built (R ps) z out) (sym S.from) L.built) at on f));
      count = subst (λ z. length z ≤ 2 * (i + 1)) (sym e) (omega (arith, length-append out (bent s.from top b.line b.turn)));
      made = subst (Each (IsMade end ps)) (sym e) (each_append (IsMade end ps) out (bent s.from top b.line b.turn) L.made
          (bent_made true ps end i top top s b S top_known top_known m));
      turns = subst (TurnsAfter true ps None) (sym e) (turns_join true ps None out (bent s.from top b.line b.turn) L.turns (bent_turns true ps end i top top s b S m));
    }

pub window_end : (end : ℚ) (ps : List Piece) → IsWindow end ps → int (pos 0) <ℚ end
window_end end ps W = positive ps W.starts W.before
  where
    positive : (ps : List Piece) → StartsAtZero ps → Each (λ p. p.x <ℚ end) ps → int (pos 0) <ℚ end
    positive [] h k = absurd h
    positive (p ∷ ps) h k = subst (λ z. z <ℚ end) h.0 k.0

pub supremum_end : (ps : List Piece) (end : ℚ) (i : ℕ) (level : ℚ) (out : List Piece) → IsWindow end ps → SupremumLoop ps end i level out → length ps ≤ i → i ≤ length ps
    → IsSupremumScan ps end out
supremum_end ps end i level out W L done most =
    let last : start_or end (drop i ps) ≡ end = ap (start_or end) (drop_of_length-le ps done) in
    let B : Built (R ps) end out = subst (λ z. Built (R ps) z out) last L.built in
    let whole = built_whole (R ps) end out record { x = end; at = Fin end; line = None } (window_end end ps W) refl B in
    let c = L.count in
    record {
      scan = record { starts = whole.starts; before = whole.before; count = omega arith; made = L.made; turns = L.turns };
      reads = B.holds;
    }
