-- What tests tell of things that are made of others.
use Rattle.std.proofs.Common.{◌≡◌, ◌≢◌, ℕ, ◌<◌, ◌+◌, ◌==◌, get_or, map, Bool, true, false, refl, sym, ap, ap₂, ◌∙◌, subst, arith, ⊎_elim, [], ◌∷◌, ◌++◌}
use Rattle.std.specs.Prelude.{IsTrue, ◌↔◌}
use Rattle.std.specs.List.{range_with_len}
use Rattle.std.proofs.lemmas.Bool.Decides.{eqb_tells}
use Rattle.std.proofs.lemmas.List.FromFn.{get_or-map-range_with_len, map-range_with_len_more}
use Rattle.upp_curve.specs.Curve.{SpecCurve, HasSameValues}
use Rattle.upp_curve.specs.Normal.{IsNormal, NormalFormIsUnique}
use Rattle.cell_rules.specs.Rules.{TellsSame}

-- of two things that are one exactly where two others are
pub tells_by : {X Y : Type 0} (x y : X) (v w : Y) (b : Bool) → (x ≡ y → v ≡ w) → (v ≡ w → x ≡ y) → TellsSame x y b
    → TellsSame v w b
tells_by x y v w true to back e = to e
tells_by x y v w false to back n = λ e. n (back e)

-- of the same by other names
pub tells_of : {X : Type 0} (x y v w : X) (b : Bool) → x ≡ v → y ≡ w → TellsSame x y b → TellsSame v w b
tells_of x y v w b e f t = tells_by x y v w b (λ h. sym e ∙ h ∙ f) (λ h. e ∙ h ∙ sym f) t

-- what yes says, and what no says
pub tells_yes : {X : Type 0} (x y : X) (b : Bool) → TellsSame x y b → b ≡ true → x ≡ y
tells_yes x y true t e = t
tells_yes x y false t e = absurd (let bad : ⊥ = cc in bad)

pub tells_no : {X : Type 0} (x y : X) (b : Bool) → TellsSame x y b → b ≡ false → x ≢ y
tells_no x y true t e = absurd (let bad : ⊥ = cc in bad)
tells_no x y false t e = t

-- by a test that is true exactly where they are one
pub tells_when : {X : Type 0} (x y : X) (b : Bool) → (IsTrue b ↔ (x ≡ y)) → TellsSame x y b
tells_when x y true same = same.0 refl
tells_when x y false same = λ e. let yes : false ≡ true = same.1 e in let bad : ⊥ = cc in bad

-- of two numbers by a test of two others
pub tells_numbers : (m n x y : ℕ) → m ≡ x → n ≡ y → TellsSame x y (m == n)
tells_numbers m n x y e f = ⊎_elim
    (λ (k : (m == n ≡ true) × (m ≡ n)). subst (λ b. TellsSame x y b) (sym k.0) (sym e ∙ k.1 ∙ f))
    (λ (k : (m == n ≡ false) × (m ≢ n)). subst (λ b. TellsSame x y b) (sym k.0) (λ h. k.1 (e ∙ h ∙ sym f)))
    (eqb_tells m n)

-- of two curves in normal form by their values
pub tells_curves : (f g : SpecCurve) (b : Bool) → NormalFormIsUnique → IsNormal f → IsNormal g
    → (IsTrue b ↔ HasSameValues f g) → TellsSame f g b
tells_curves f g true unique nf ng same = unique f g nf ng (same.0 refl)
tells_curves f g false unique nf ng same = λ e.
    let yes : false ≡ true = same.1 (subst (λ (h : SpecCurve). HasSameValues f h) e (λ t p. refl)) in
    let bad : ⊥ = cc in bad

-- of two rows of numbers
pub other_row : (f g : ℕ → ℕ) (n j : ℕ) → j < n → f j ≢ g j → map f (range_with_len 0 n) ≢ map g (range_with_len 0 n)
other_row f g n j h differ e =
    differ (sym (get_or-map-range_with_len f 0 n j j 0 h (omega arith)) ∙ ap (λ xs. get_or xs j 0) e
    ∙ get_or-map-range_with_len g 0 n j j 0 h (omega arith))

pub longer_row : (f g : ℕ → ℕ) (n : ℕ) → map f (range_with_len 0 n) ≡ map g (range_with_len 0 n) → f n ≡ g n
    → map f (range_with_len 0 (n + 1)) ≡ map g (range_with_len 0 (n + 1))
longer_row f g n e here =
    map-range_with_len_more f 0 n n (omega arith) ∙ ap₂ (λ xs x. xs ++ x ∷ []) e here
    ∙ sym (map-range_with_len_more g 0 n n (omega arith))
