-- A network has one order at most.
use Rattle.std.proofs.Common.{◌≡◌, ℕ, suc, zero, ◌<◌, ◌≤◌, ◌+◌, List, [], ◌∷◌, ◌++◌, length, get_or, take, refl, sym, ◌∙◌, ap, subst, arith, add-one}
use Rattle.std.proofs.lemmas.List.{take_all, take_more}
use Rattle.upp_limits.specs.Windows.{IsLeast}
use Rattle.net_model.specs.Networks.{Net}
use Rattle.net_model.specs.Orders.{IsReady, IsOrder}
use Rattle.net_model.specs.net_graph.OrderLaws.{OneOrder}
use Rattle.upp_limits.proofs.LeastNumbers.{least_unique}

same_front : (net : Net) (xs ys : List ℕ) → IsOrder net xs → IsOrder net ys → (n : ℕ) → n ≤ length net.servers → take n xs ≡ take n ys
same_front net xs ys a b zero h = refl
same_front net xs ys a b (suc n) h =
    let before : n ≤ length net.servers = omega arith in
    let of_xs : n < length xs = omega (arith, a.all) in
    let of_ys : n < length ys = omega (arith, b.all) in
    let front = same_front net xs ys a b n before in
    let P : List ℕ → Type 0 = λ zs. IsLeast (IsReady net zs) (get_or ys n 0) in
    let same : get_or xs n 0 ≡ get_or ys n 0 =
    least_unique (IsReady net (take n xs)) (get_or xs n 0) (get_or ys n 0) (a.each n of_xs) (subst P (sym front) (b.each n of_ys)) in
    let step : take (n + 1) xs ≡ take (n + 1) ys =
    take_more xs n 0 of_xs ∙ ap (λ zs. zs ++ get_or xs n 0 ∷ []) front ∙ ap (λ z. take n ys ++ z ∷ []) same ∙ sym (take_more ys n 0 of_ys) in
    rw (← add-one) step

pub one_order : OneOrder
one_order net xs ys a b =
    let whole = same_front net xs ys a b (length net.servers) (omega arith) in
    sym (take_all (length net.servers) xs (omega (arith, a.all))) ∙ whole ∙ take_all (length net.servers) ys (omega (arith, b.all))
