-- What a text is read as, by tests for three words one after the other.
use Rattle.std.proofs.Common.{◌≡◌, Bool, false, ap, ◌∙◌}
use Rattle.std.specs.Prelude.{if◌then◌else◌}

pub none_of_three : {A : Type 0} (a b c : Bool) (x y z w : A) → false ≡ a → false ≡ b → false ≡ c
    → w ≡ (if a then x else if b then y else if c then z else w)
none_of_three a b c x y z w p q r =
    ap (λ (k : Bool). if k then z else w) r ∙ ap (λ (k : Bool). if k then y else if c then z else w) q
    ∙ ap (λ (k : Bool). if k then x else if b then y else if c then z else w) p
