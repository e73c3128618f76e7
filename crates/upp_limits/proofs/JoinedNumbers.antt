-- Lists of numbers joined one after another.
use Rattle.std.specs.Prelude.{◌≡◌, List, [], ◌∷◌, ◌++◌}
use Rattle.std.proofs.Common.{ap, ◌∙◌, append_assoc, append-nil}
use Rattle.rational.specs.Rational.{ℚ}
use Rattle.upp_limits.specs.Limits.{Numbers, no_numbers, joined, time_alone, values_alone, slopes_alone}

-- three lists as numbers; it opens only where a proof asks
unfoldable pub make_numbers : List ℚ → List ℚ → List ℚ → Numbers
make_numbers t v s = record { times = t; values = v; slopes = s }

numbers_same : (t t' v v' s s' : List ℚ) → t ≡ t' → v ≡ v' → s ≡ s' → make_numbers t v s ≡ make_numbers t' v' s'
numbers_same t t' v v' s s' p q r = ap (λ x. make_numbers x v s) p ∙ ap (λ x. make_numbers t' x s) q ∙ ap (λ x. make_numbers t' v' x) r

pub joined_assoc : (a b c : Numbers) → joined (joined a b) c ≡ joined a (joined b c)
unfolding make_numbers
joined_assoc a b c =
    numbers_same (a.times ++ b.times ++ c.times) (a.times ++ (b.times ++ c.times)) (a.values ++ b.values ++ c.values) (a.values ++ (b.values ++ c.values))
    (a.slopes ++ b.slopes ++ c.slopes) (a.slopes ++ (b.slopes ++ c.slopes))
    (append_assoc a.times b.times c.times) (append_assoc a.values b.values c.values) (append_assoc a.slopes b.slopes c.slopes)

pub joined_nothing : (a : Numbers) → joined a no_numbers ≡ a
unfolding make_numbers
joined_nothing a =
    numbers_same (a.times ++ []) a.times (a.values ++ []) a.values (a.slopes ++ []) a.slopes (append-nil a.times) (append-nil a.values) (append-nil a.slopes)

-- three more, one by one
pub joined_three : (n a b c : Numbers) → joined (joined (joined n a) b) c ≡ joined n (joined (joined a b) c)
joined_three n a b c = ap (λ m. joined m c) (joined_assoc n a b) ∙ joined_assoc n (joined a b) c

-- a time, some slopes and three lists of values
pub joined_span : (n : Numbers) (x : ℚ) (us vs ws ss : List ℚ)
    → joined (joined (joined (joined (joined n (time_alone x)) (slopes_alone ss)) (values_alone us)) (values_alone vs)) (values_alone ws)
    ≡ joined n record { times = x ∷ []; values = us ++ vs ++ ws; slopes = ss }
unfolding make_numbers
joined_span n x us vs ws ss =
    joined_three (joined (joined n (time_alone x)) (slopes_alone ss)) (values_alone us) (values_alone vs) (values_alone ws)
    ∙ joined_three n (time_alone x) (slopes_alone ss) (values_alone (us ++ vs ++ ws))
    ∙ ap (λ zs. joined n (make_numbers (x ∷ []) (us ++ vs ++ ws) zs)) (append-nil ss)
