-- The places of a list's ports, noted by port: one port more.
use Rattle.std.proofs.Common.{◌≡◌, ℕ, ◌<◌, List, [], ◌∷◌, ◌++◌, length, get_or, set, sym, ◌∙◌, ap, subst, arith, get_or-set_same, get_or-set_other}
use Rattle.tree_network.specs.Turns.{AreNoted}
use Rattle.tree_network.proofs.Distinct.{Pushed, IsNew, pushed, earlier, newest}

pub none_noted : (places : List ℕ) → AreNoted [] places
none_noted places = record { each = λ i h. absurd (omega (arith, h)) }

pub one_noted : (ports places new : List ℕ) (port : ℕ) → AreNoted ports places → IsNew ports port → port < length places → new ≡ set places port (length ports)
    → AreNoted (ports ++ port ∷ []) new
one_noted ports places new port n fresh inside e =
    subst (λ l. AreNoted (ports ++ port ∷ []) l) (sym e) record { each = λ i h. at i (pushed ports port i h) }
  where
    at : (i : ℕ) → Pushed ports port i → get_or (set places port (length ports)) (get_or (ports ++ port ∷ []) i 0) 0 ≡ i
    at i (earlier l is) =
        ap (λ k. get_or (set places port (length ports)) k 0) is
        ∙ get_or-set_other places port (get_or ports i 0) (length ports) 0 (λ same. fresh i l same) ∙ n.each i l
    at i (newest l is) = ap (λ k. get_or (set places port (length ports)) k 0) is ∙ get_or-set_same places port (length ports) 0 inside ∙ sym l
