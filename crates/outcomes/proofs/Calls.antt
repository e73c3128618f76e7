-- The answers of a call and then another are determined where those of each are.
use Rattle.std.proofs.Common.{◌≡◌, subst}
use Rattle.std.specs.Prelude.{Result, Ok, Err}
use Rattle.outcomes.specs.Calls.{Then, goes_on, stops, IsDeterminedBut}

-- what the answers of a first call say of those that follow from them
pub then_determined : {A B E : Type 0} {fault : E} (P : Result A E → Type 0) (Q : A → Result B E → Type 0)
    → IsDeterminedBut fault P → ((x : A) → IsDeterminedBut fault (Q x)) → IsDeterminedBut fault (Then P Q)
then_determined {A} {B} {E} {fault} P Q p q r s (goes_on x a b) (goes_on y c d) m n =
    let same : Ok x ≡ Ok y = p (Ok x) (Ok y) a c (λ e. cc) (λ e. cc) in
    let one : x ≡ y = cc in
    q y r s (subst (λ z. Q z r) one b) d m n
then_determined {A} {B} {E} {fault} P Q p q r s (goes_on x a b) (stops e c d) m n =
    absurd (let same : Ok x ≡ Err e = p (Ok x) (Err e) a c (λ e. cc) (λ k. n cc) in cc)
then_determined {A} {B} {E} {fault} P Q p q r s (stops e a b) (goes_on y c d) m n =
    absurd (let same : Err e ≡ Ok y = p (Err e) (Ok y) a c (λ k. m cc) (λ e. cc) in cc)
then_determined {A} {B} {E} {fault} P Q p q r s (stops e a b) (stops f c d) m n =
    let same : Err e ≡ Err f = p (Err e) (Err f) a c (λ k. m cc) (λ k. n cc) in
    let one : e ≡ f = cc in
    cc
