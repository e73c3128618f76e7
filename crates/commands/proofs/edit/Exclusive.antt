-- What an edit cannot do at once.
use Rattle.std.proofs.Common.{◌≡◌, ◌≢◌, ◌⊎◌, List, [], ◌∷◌, ◌++◌, Option, Some, None, inl, inr, refl, sym, ap, ◌∙◌, subst, arith}
use Rattle.std.specs.Prelude.{Ok, Err}
use Rattle.upp_limits.specs.declared.own_limits.OverLimit.{OverLimit}
use Rattle.upp_limits.specs.declared.own_limits.OverLimit.TheVariants.{TooMany, TooWide}
use Rattle.upp_limits.specs.OwnLimits.{IsOver, IsWithinOwn}
use Rattle.upp_curve.specs.Curve.{SpecCurve}
use Rattle.net_model.specs.declared.edit.Edit.{Edit}
use Rattle.net_model.specs.declared.edit.Edit.TheVariants as edit
use Rattle.net_model.specs.Networks.{Net}
use Rattle.net_cells.specs.declared.cell.Cell.{Cell}
use Rattle.net_edits.specs.Edited.{Edited, MadeCurve, edited}
use Rattle.net_edits.specs.Refusals.{Refusal, Or}
use Rattle.net_edits.specs.Replies.{MadeCurveFits, MadeCurveIsOver, IsEdited, IsEditOver}
use Rattle.cell_store.specs.edit_store.Applied.{Gives}

-- ---- a curve is within its limits, or over one
curve_not_both : (c : SpecCurve) (over : OverLimit) → IsWithinOwn c → IsOver c over → ⊥
curve_not_both c TooWide within is = omega (arith, within.narrow, is)
curve_not_both c TooMany within is = omega (arith, within.few, is.1)

made_not_both : (made : Option MadeCurve) (cell : Cell) (over : OverLimit) → MadeCurveFits made → MadeCurveIsOver made cell over → ⊥
made_not_both None cell over within is = absurd is
made_not_both (Some made) cell over within is = curve_not_both made.curve over within is.1

-- an edit gives a network, or its curve is over a limit
pub gives_not_over : (r : Or Edited) (net : Net) (cell : Cell) (over : OverLimit) → IsEdited r net → IsEditOver r cell over → ⊥
gives_not_over r net cell over g o =
    let both : Ok g.edited ≡ Ok o.edited = sym g.is ∙ o.is in
    let one : g.edited ≡ o.edited = cc in
    made_not_both o.edited.made cell over (subst (λ (e : Edited). MadeCurveFits e.made) one g.within) o.over

-- or it is refused
pub gives_not_refused : (r : Or Edited) (net : Net) (why : Refusal) → IsEdited r net → r ≡ Err why → ⊥
gives_not_refused r net why g h = let bad : Ok g.edited ≡ Err why = sym g.is ∙ h in cc

pub over_not_refused : (r : Or Edited) (cell : Cell) (over : OverLimit) (why : Refusal) → IsEditOver r cell over → r ≡ Err why → ⊥
over_not_refused r cell over why o h = let bad : Ok o.edited ≡ Err why = sym o.is ∙ h in cc

-- ---- an undo makes no network of one alone
pub undo_is_refused : (present : Net) (e : Edit) (made : Edited) → e ≡ edit.Undo → edited present e ≡ Ok made → ⊥
undo_is_refused present e made u h =
    let bad : edited present edit.Undo ≡ Ok made = subst (λ (d : Edit). edited present d ≡ Ok made) u h in cc

pub undo_gives_none : (present net : Net) (e : Edit) → e ≡ edit.Undo → Gives present e net → ⊥
undo_gives_none present net e u g = undo_is_refused present e g.edited u g.is

-- an edit is the undo, or another one
pub is_undo : (e : Edit) → (e ≡ edit.Undo) ⊎ (e ≢ edit.Undo)
is_undo (edit.Rate name x) = inr (λ h. cc)
is_undo (edit.Latency name x) = inr (λ h. cc)
is_undo (edit.Link name x) = inr (λ h. cc)
is_undo (edit.Quantum name queue bits) = inr (λ h. cc)
is_undo (edit.Bucket name burst rate) = inr (λ h. cc)
is_undo (edit.Stair name period jitter) = inr (λ h. cc)
is_undo (edit.Packet name bits) = inr (λ h. cc)
is_undo (edit.Route name path) = inr (λ h. cc)
is_undo (edit.Add name bits burst rate path) = inr (λ h. cc)
is_undo (edit.Drop name) = inr (λ h. cc)
is_undo edit.Undo = inl refl

-- ---- lists with one more
pub none_pushed : {X : Type 0} (xs : List X) (x : X) → [] ≡ xs ++ x ∷ [] → ⊥
none_pushed [] x e = cc
none_pushed (y ∷ ys) x e = cc

pub push_same : {X : Type 0} (xs ys : List X) (x y : X) → xs ++ x ∷ [] ≡ ys ++ y ∷ [] → (xs ≡ ys) × (x ≡ y)
push_same [] [] x y e = (refl, cc)
push_same [] (b ∷ ys) x y e = let tail : [] ≡ ys ++ y ∷ [] = cc in absurd (none_pushed ys y tail)
push_same (a ∷ xs) [] x y e = let tail : xs ++ x ∷ [] ≡ [] = cc in absurd (none_pushed xs x (sym tail))
push_same (a ∷ xs) (b ∷ ys) x y e =
    let head : a ≡ b = cc in
    let tail : xs ++ x ∷ [] ≡ ys ++ y ∷ [] = cc in
    let both = push_same xs ys x y tail in
    (ap (λ zs. a ∷ zs) both.0 ∙ ap (λ z. z ∷ ys) head, both.1)

pub nothing_pushed : {X : Type 0} (xs : List X) (x : X) → xs ≡ xs ++ x ∷ [] → ⊥
nothing_pushed [] x e = cc
nothing_pushed (y ∷ ys) x e = nothing_pushed ys x (let tail : ys ≡ ys ++ x ∷ [] = cc in tail)
