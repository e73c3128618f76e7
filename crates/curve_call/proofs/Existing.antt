-- The stretches of two windows, and what is made of them.
use Rattle.std.specs.Prelude.{◌≡◌, ◌⊎◌, ℕ, zero, suc, ◌+◌, ◌-◌, ◌≤◌, Bool, true, false, not, List, [], ◌∷◌, ◌++◌, length, Option, Some, None}
use Rattle.std.proofs.Common.{arith, sym, refl, subst, inl, inr}
use Rattle.std.proofs.lemmas.Bool.{cases_lt}
use Rattle.rational.specs.Rational.{ℚ, ◌-ℚ◌, ◌/ℚ◌, ◌<ℚ◌}
use Rattle.rational.proofs.Laws.{le_or_lt, lt_cases, lt_irrefl, le_of_lt, le_trans}
use Rattle.upp_curve.specs.declared.affine_segment.line.Line.{Line}
use Rattle.upp_curve.specs.declared.affine_segment.line.Piece.{Piece}
use Rattle.upp_curve.specs.affine_segment.Pieces.{StartsAtZero}
use Rattle.upp_curve.specs.affine_segment.Values.{line_at}
use Rattle.upp_curve.proofs.affine_segment.Meeting.{lines_meet}
use Rattle.curve_call.specs.declared.stretch.Both.{Both}
use Rattle.curve_call.specs.declared.stretch.Walk.{Walk}
use Rattle.curve_call.specs.declared.lie.Lie.{Lie}
use Rattle.curve_call.specs.declared.made.Made.{Made}
use Rattle.curve_call.specs.declared.made.Made.TheVariants.{Lower, Upper, Excess}
use Rattle.curve_call.specs.Existing.{HaveWindows}
use Rattle.curve_call.specs.Stretches.{IsOverlay}
use Rattle.curve_call.specs.Pointwise.{IsWindowSum, mapped, sum_piece}
use Rattle.curve_call.specs.Lies.{MeetsAt, LiesBy, IsLie}
use Rattle.curve_call.specs.Lower.{LowerFits, IsLowerOf}
use Rattle.curve_call.specs.Made.{parts_of, listed, next_start, AreMade, IsMadeWindow}
use Rattle.curve_call.specs.Operands.{HaveSizes}
use Rattle.curve_call.proofs.LinesLie.{before_turn, after_turn, parallel_lines}
use Rattle.curve_call.proofs.LowerWindows.{lower_is}
use Rattle.curve_call.proofs.MadeWindows.{made_is}
use Rattle.curve_call.proofs.NextSteps.{IsLeft, step_on}
use Rattle.curve_call.proofs.OverlayLoop.{OverlayLoop, overlay_start, overlay_step, step_fewer, overlay_end}
use Rattle.curve_call.proofs.Sums.{sum_is}

-- ---- the walk
left_or : (f g : List Piece) (w : Walk) → IsLeft f g w ⊎ ((length f ≤ w.i) × (length g ≤ w.j))
left_or f g w = elim (cases_lt w.i (length f)) [
  | inl l ↦ inl (inl l)
  | inr l ↦ elim (cases_lt w.j (length g)) [
    | inl k ↦ inl (inr k)
    | inr k ↦ inr (l, k)
  ]
]

walk_on : (n : ℕ) (f g : List Piece) (out : List Both) (w : Walk) → OverlayLoop f g out w → (length f - w.i) + (length g - w.j) ≤ n → (bs : List Both) × IsOverlay f g bs
walk_on zero f g out w L h = elim (left_or f g w) [
  | inr (l, k) ↦ (out, overlay_end f g out w L l k)
  | inl more ↦ let (v, S) = step_on f g w more in let m = step_fewer f g out w v L S in absurd (omega (arith, m, h))
]
walk_on (suc n) f g out w L h = elim (left_or f g w) [
  | inr (l, k) ↦ (out, overlay_end f g out w L l k)
  | inl more ↦
      let (v, S) = step_on f g w more in
      let m = step_fewer f g out w v L S in
      walk_on n f g (out ++ v.here ∷ []) v (overlay_step f g out w v L S) (omega (arith, m, h))
]

pub overlay_of : (f g : List Piece) → StartsAtZero f → StartsAtZero g → (bs : List Both) × IsOverlay f g bs
overlay_of [] g s t = absurd s
overlay_of (p ∷ ps) [] s t = absurd t
overlay_of (p ∷ ps) (q ∷ qs) s t =
    let here : Both = record { left = p; right = q } in
    walk_on (length (p ∷ ps) + length (q ∷ qs)) (p ∷ ps) (q ∷ qs) (here ∷ []) record { i = 1; j = 1; here = here } (overlay_start (p ∷ ps) (q ∷ qs) p q s t refl refl) (omega arith)

pub sum_of : (f g : List Piece) → StartsAtZero f → StartsAtZero g → (ps : List Piece) × IsWindowSum f g ps
sum_of f g s t = let (bs, O) = overlay_of f g s t in (mapped sum_piece bs, sum_is f g bs (mapped sum_piece bs) O refl)

-- ---- how two lines lie
abbrev HasLie : Option Line → Option Line → ℚ → ℚ → Type 0
HasLie l m from to = (lie : Lie) × IsLie l m from to lie

throughout : (l m : Option Line) (from to : ℚ) (below : Bool) → LiesBy below l m from to None → HasLie l m from to
throughout l m from to below h = (record { below = below; turn = None }, h)

meeting : (rises : Bool) (l m : Line) (from to x : ℚ) → MeetsAt rises l m x → HasLie (Some l) (Some m) from to
meeting rises l m from to x M = elim (le_or_lt x from) [
  | inl low ↦ throughout (Some l) (Some m) from to (not rises) (λ t a b. after_turn rises l m x t M (le_trans low (le_of_lt a)))
  | inr past ↦ elim (le_or_lt to x) [
    | inl high ↦ throughout (Some l) (Some m) from to rises (λ t a b. before_turn rises l m x t M (le_trans (le_of_lt b) high))
    | inr before ↦ (record { below = rises; turn = Some x }, record { past = past; before = before; meets = M })
  ]
]

meet : (l m : Line) → (l.slope ≡ m.slope → ⊥) → line_at l ((m.icept -ℚ l.icept) /ℚ (l.slope -ℚ m.slope)) ≡ line_at m ((m.icept -ℚ l.icept) /ℚ (l.slope -ℚ m.slope))
meet l m apart = lines_meet l m (m.icept -ℚ l.icept) (l.slope -ℚ m.slope) ((m.icept -ℚ l.icept) /ℚ (l.slope -ℚ m.slope)) apart refl refl refl

lie_of : (l m : Option Line) (from to : ℚ) → HasLie l m from to
lie_of None None from to = throughout None None from to true (λ t a b. tt)
lie_of (Some l) None from to = throughout (Some l) None from to true (λ t a b. tt)
lie_of None (Some m) from to = throughout None (Some m) from to false (λ t a b. tt)
lie_of (Some l) (Some m) from to =
    let x = (m.icept -ℚ l.icept) /ℚ (l.slope -ℚ m.slope) in
    elim (lt_cases l.slope m.slope) [
      | inl h ↦ meeting false l m from to x (h, meet l m (λ e. lt_irrefl m.slope (subst (λ s. s <ℚ m.slope) e h)))
      | inr (inr h) ↦ meeting true l m from to x (h, meet l m (λ e. lt_irrefl m.slope (subst (λ s. m.slope <ℚ s) e h)))
      | inr (inl e) ↦ elim (le_or_lt l.icept m.icept) [
        | inl k ↦ throughout (Some l) (Some m) from to true (λ t a b. parallel_lines l m t e k)
        | inr k ↦ throughout (Some l) (Some m) from to false (λ t a b. parallel_lines m l t (sym e) (le_of_lt k))
      ]
    ]

-- ---- what is made of stretches
made_on : (k : Made) (bs : List Both) (end : ℚ) → (ps : List Piece) × AreMade k bs end ps
made_on k [] end = ([], refl)
made_on k (b ∷ bs) end =
    let to = next_start bs end in
    let (lie, lies) = lie_of b.left.line b.right.line b.left.x to in
    let (rest, M) = made_on k bs end in
    (listed (parts_of k b lie) rest, (parts_of k b lie, record { lie = lie; lies = lies; is = refl }, (rest, refl, M)))

window_of : (k : Made) (f g : List Piece) (end : ℚ) → StartsAtZero f → StartsAtZero g → (ps : List Piece) × IsMadeWindow k f g end ps
window_of k f g end s t =
    let (bs, O) = overlay_of f g s t in
    let (ps, M) = made_on k bs end in
    (ps, record { stretches = bs; cut = O; made = M })

pub made_windows : (end : ℚ) (f g : List Piece) → HaveSizes end f g → HaveWindows f g end
made_windows end f g H = record {
  lower = let (ps, W) = window_of Lower f g end H.1.left.starts H.1.right.starts in (ps, made_is Lower end f g ps H W);
  upper = let (ps, W) = window_of Upper f g end H.1.left.starts H.1.right.starts in (ps, made_is Upper end f g ps H W);
  above = let (ps, W) = window_of Excess f g end H.1.left.starts H.1.right.starts in (ps, made_is Excess end f g ps H W);
}

pub lower_window : (f g : List Piece) (end : ℚ) → StartsAtZero f → StartsAtZero g → LowerFits end f g → (ps : List Piece) × IsLowerOf f g end ps
lower_window f g end s t F = let (ps, W) = window_of Lower f g end s t in (ps, lower_is end f g ps F W)
