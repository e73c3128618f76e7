-- The scan for the infimum: what holds after each piece, from the last one on.
use Rattle.std.specs.Prelude.{◌≡◌, ℕ, false, ◌+◌, ◌-◌, ◌*◌, ◌<◌, ◌≤◌, pos, List, [], ◌∷◌, ◌++◌, length, drop, Option, Some, None, reverse}
use Rattle.std.proofs.Common.{arith, length-append, drop_of_length-le, sym, ap, ap₂, ◌∙◌, refl, subst}
use Rattle.std.proofs.lemmas.List.{reverse-append, length-reverse}
use Rattle.rational.specs.Rational.{ℚ, ◌≤ℚ◌, ◌<ℚ◌, int}
use Rattle.rational.specs.MinMax.{min_q}
use Rattle.rational.specs.Extended.{Ext}
use Rattle.rational.specs.declared.Extended.TheVariants.{Fin}
use Rattle.rational.proofs.Laws.{lt_irrefl, lt_le_trans, lt_trans, le_of_lt, le_trans}
use Rattle.upp_curve.specs.declared.affine_segment.line.Line.{Line}
use Rattle.upp_curve.specs.declared.affine_segment.line.Piece.{Piece}
use Rattle.upp_curve.specs.affine_segment.Values.{line_at}
use Rattle.upp_curve.specs.affine_segment.Reading.{read}
use Rattle.upp_curve.specs.affine_segment.Pieces.{Each}
use Rattle.plain_operators.specs.declared.running.stretch.Stretch.{Stretch}
use Rattle.plain_operators.specs.declared.running.bend.Bend.{Bend}
use Rattle.plain_operators.specs.running.Scans.{start_or, IsWindow, IsLevel, IsStretch, IsInfimumUntil}
use Rattle.plain_operators.specs.running.Bends.{sunk, Follows, bent, bent_back}
use Rattle.plain_operators.specs.running.Made.{IsMadeOf, IsMade, TurnsAfter, IsInfimumScan}
use Rattle.plain_operators.proofs.running.Suprema.{IsLineOn}
use Rattle.plain_operators.proofs.running.Infima.{IsLate, late_start, late_line, late_value, late_end}
use Rattle.plain_operators.proofs.running.Building.{BuiltBack, back_more}
use Rattle.plain_operators.proofs.running.Makings.{lesser_level, bent_made, bent_turns, turns_join}
use Rattle.upp_curve.proofs.affine_segment.PieceOrder.{each_append}
use Rattle.plain_operators.proofs.running.SupremumLoop.{first_start}

-- w is the limit at the end of the last line
pub record EndsAt (f : ℚ → Ext) (end w : ℚ) : Type 0 where
  pub from : ℚ
  pub line : Line
  pub early : from <ℚ end
  pub on : IsLineOn f from end line
  pub limit : w ≡ line_at line end

abbrev R : List Piece → ℚ → ℚ → Ext → Type 0
R ps end = IsInfimumUntil (read ps) end

-- the pieces from the i-th on are scanned: `level` is the infimum from its start on, the limit at the end included
pub record InfimumLoop (ps : List Piece) (end : ℚ) (i : ℕ) (level : ℚ) (out : List Piece) : Type 0 where
  pub limit : ℚ
  pub ends : EndsAt (read ps) end limit
  pub lowest : IsLate (read ps) limit end (start_or end (drop i ps)) level
  pub known : IsLevel end ps level
  pub built : BuiltBack (R ps end) (start_or end (drop i ps)) end (reverse out)
  pub count : length out + 2 * i ≤ 2 * length ps
  pub made : Each (IsMade end ps) (reverse out)
  pub turns : TurnsAfter false ps None (reverse out)

pub infimum_start : (ps : List Piece) (end : ℚ) (i : ℕ) (s : Stretch) → i + 1 ≡ length ps → IsStretch ps end i s → InfimumLoop ps end (length ps) s.left []
infimum_start ps end i s n S =
    let none : start_or end (drop (length ps) ps) ≡ end = ap (start_or end) (drop_of_length-le ps (omega arith)) in
    let to : s.to ≡ end = S.to ∙ ap (λ m. start_or end (drop m ps)) n ∙ none in
    record {
      limit = s.left;
      ends = record {
        from = s.from;
        line = s.line;
        early = subst (λ z. s.from <ℚ z) to S.some;
        on = subst (λ z. IsLineOn (read ps) s.from z s.line) to S.on;
        limit = S.left ∙ ap (line_at s.line) to;
      };
      lowest = subst (λ z. IsLate (read ps) s.left end z s.left) (sym none) (late_start (read ps) s.left end);
      known = S.left_level;
      built = none;
      count = omega arith;
      made = tt;
      turns = tt;
    }

-- the least of the values from t on is the infimum there
from_late : (ps : List Piece) (end w t v : ℚ) → EndsAt (read ps) end w → t <ℚ end → IsLate (read ps) w end t v → R ps end t (Fin v)
from_late ps end w t v E early k =
    late_end (read ps) end E.from t v E.line E.on E.early early (subst (λ z. IsLate (read ps) z end t v) E.limit k)

bent_built : (ps out : List Piece) (end : ℚ) (s : Stretch) (low level : ℚ) (l : Line) (turn : Option Piece) → s.from <ℚ s.to → s.to ≤ℚ end → BuiltBack (R ps end) s.to end out
    → R ps end s.from (Fin low) → ((t : ℚ) → s.from <ℚ t → t <ℚ s.to → R ps end t (Fin (sunk level s.line s.to t)))
    → Follows (sunk level s.line s.to) s.from s.to l turn → BuiltBack (R ps end) s.from end (bent s.from low l turn ++ out)
bent_built ps out end s low level l None some most B at on f =
    back_more (R ps end) s.from s.to end record { x = s.from; at = Fin low; line = Some l } out B refl some most at
    (λ t past early. subst (R ps end t) (sym (f t past early)) (on t past early))
bent_built ps out end s low level l (Some q) some most B at on f =
    let second : BuiltBack (R ps end) q.x end (q ∷ out) =
    back_more (R ps end) q.x s.to end q out B refl f.early most (subst (R ps end q.x) (sym f.at) (on q.x f.past f.early))
    (λ t past early. subst (R ps end t) (sym (f.second t past early)) (on t (lt_trans f.past past) early)) in
    back_more (R ps end) s.from q.x end record { x = s.from; at = Fin low; line = Some l } (q ∷ out) second refl f.past (le_trans (le_of_lt f.early) most) at
    (λ t past early. subst (R ps end t) (sym (f.first t past early)) (on t past (lt_trans early f.early)))

turned_back : (x v : ℚ) (l : Line) (turn : Option Piece) → reverse (bent_back x v l turn) ≡ bent x v l turn
turned_back x v l None = refl
turned_back x v l (Some q) = refl

back_short : (x v : ℚ) (l : Line) (turn : Option Piece) → length (bent_back x v l turn) ≤ 2
back_short x v l None = omega arith
back_short x v l (Some q) = omega arith

pub infimum_step : (ps : List Piece) (end : ℚ) (i : ℕ) (level : ℚ) (out more : List Piece) (s : Stretch) (both deep next : ℚ) (b : Bend)
    → InfimumLoop ps end (i + 1) level out → IsStretch ps end i s → Follows (sunk level s.line s.to) s.from s.to b.line b.turn → IsMadeOf false level s b
    → both ≡ min_q s.right s.left → deep ≡ min_q level both → next ≡ min_q s.at deep → more ≡ out ++ bent_back s.from next b.line b.turn → InfimumLoop ps end i next more
infimum_step ps end i level out more s both deep next b L S f m h d n e =
    let w = L.limit in
    let later : IsLate (read ps) w end s.to level = subst (λ z. IsLate (read ps) w end z level) (sym S.to) L.lowest in
    let deep_is : deep ≡ sunk level s.line s.to s.from = d ∙ ap (min_q level) (h ∙ ap₂ min_q S.right S.left) in
    let next_is : next ≡ min_q s.at (sunk level s.line s.to s.from) = n ∙ ap (min_q s.at) deep_is in
    let least : IsLate (read ps) w end s.from next =
    subst (IsLate (read ps) w end s.from) (sym next_is) (late_value (read ps) w end s.from s.to level s.at s.line S.on S.most S.some S.at later) in
    let at : R ps end s.from (Fin next) = from_late ps end w s.from next L.ends (lt_le_trans S.some S.most) least in
    let on : (t : ℚ) → s.from <ℚ t → t <ℚ s.to → R ps end t (Fin (sunk level s.line s.to t)) =
    λ t past early. from_late ps end w t (sunk level s.line s.to t) L.ends (lt_le_trans early S.most)
    (late_line (read ps) w end s.from s.to t level s.line S.on S.most past early later) in
    let turned : reverse more ≡ bent s.from next b.line b.turn ++ reverse out =
    ap reverse e ∙ reverse-append out (bent_back s.from next b.line b.turn) ∙ ap (λ z. z ++ reverse out) (turned_back s.from next b.line b.turn) in
    let both_known : IsLevel end ps both = subst (IsLevel end ps) (sym h) (lesser_level end ps s.right s.left S.right_level S.left_level) in
    let deep_known : IsLevel end ps deep = subst (IsLevel end ps) (sym d) (lesser_level end ps level both L.known both_known) in
    let next_known : IsLevel end ps next = subst (IsLevel end ps) (sym n) (lesser_level end ps s.at deep S.at_level deep_known) in
    let shorter = back_short s.from next b.line b.turn in
    let c = L.count in
    record {
      limit = w;
      ends = L.ends;
      lowest = subst (λ z. IsLate (read ps) w end z next) S.from least;
      known = next_known;
      built = subst (λ z. BuiltBack (R ps end) z end (reverse more)) S.from
          (subst (BuiltBack (R ps end) s.from end) (sym turned)
          (bent_built ps (reverse out) end s next level b.line b.turn S.some S.most (subst (λ z. BuiltBack (R ps end) z end (reverse out)) (sym S.to) L.built) at on f));
      count = subst (λ z. length z + 2 * i ≤ 2 * length ps) (sym e) (omega (arith, length-append out (bent_back s.from next b.line b.turn)));
      made = subst (Each (IsMade end ps)) (sym turned) (each_append (IsMade end ps) (bent s.from next b.line b.turn) (reverse out)
          (bent_made false ps end i level next s b S L.known next_known m) L.made);
      turns = subst (TurnsAfter false ps None) (sym turned) (turns_join false ps None (bent s.from next b.line b.turn) (reverse out)
          (bent_turns false ps end i level next s b S m) L.turns);
    }

pub infimum_end : (ps : List Piece) (end level : ℚ) (out qs : List Piece) → IsWindow end ps → int (pos 0) <ℚ end → InfimumLoop ps end 0 level out → qs ≡ reverse out
    → IsInfimumScan ps end qs
infimum_end ps end level out qs W some L e =
    subst (IsInfimumScan ps end) (sym e) (of (reverse out) (subst (λ z. BuiltBack (R ps end) z end (reverse out)) (first_start end ps W.starts) L.built) L.made L.turns shorter)
  where
    shorter : length (reverse out) ≤ 2 * length ps
    shorter = let c = L.count in omega (arith, length-reverse out)

    of : (rs : List Piece) → BuiltBack (R ps end) (int (pos 0)) end rs → Each (IsMade end ps) rs → TurnsAfter false ps None rs → length rs ≤ 2 * length ps
        → IsInfimumScan ps end rs
    of [] B m u c = absurd (lt_irrefl end (subst (λ z. z <ℚ end) B some))
    of (r ∷ rs) B m u c = record { scan = record { starts = (B.first, B.rises); before = B.before; count = c; made = m; turns = u }; reads = B.holds }

-- the same for the number of pieces that were left before
pub infimum_next : (ps : List Piece) (end : ℚ) (n : ℕ) (level : ℚ) (out more : List Piece) (s : Stretch) (both deep next : ℚ) (b : Bend)
    → 0 < n → InfimumLoop ps end n level out → IsStretch ps end (n - 1) s → Follows (sunk level s.line s.to) s.from s.to b.line b.turn → IsMadeOf false level s b
    → both ≡ min_q s.right s.left → deep ≡ min_q level both → next ≡ min_q s.at deep → more ≡ out ++ bent_back s.from next b.line b.turn → InfimumLoop ps end (n - 1) next more
infimum_next ps end n level out more s both deep next b some L S f m h d k e =
    let back : n ≡ n - 1 + 1 = omega arith in
    infimum_step ps end (n - 1) level out more s both deep next b (subst (λ z. InfimumLoop ps end z level out) back L) S f m h d k e
