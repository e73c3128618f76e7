-- The arrival curve of a queue: the sum of the curves of the flows that pass it.
use Rattle.std.specs.Prelude.{ℕ, zero, suc, pos, Bool, false, ◌&&◌, ◌==◌, List, [], ◌∷◌, length, if◌then◌else◌}
use Rattle.rational.specs.Rational.{ℚ, int}
use Rattle.rational.specs.Extended.{Ext, ◌+ₑ◌}
use Rattle.rational.specs.declared.Extended.TheVariants.{Fin}
use Rattle.run_laws.specs.Routes.{Hop, Routes, route_of}

-- the path passes server s in queue q
abbrev pub is_on : ℕ → ℕ → List Hop → Bool
is_on s q [] = false
is_on s q (h ∷ hs) = if h.server == s then h.queue == q else is_on s q hs

-- flow i is live and does
abbrev pub is_in : Routes → ℕ → ℕ → ℕ → Bool
is_in net s q i = (route_of net i).live && is_on s q (route_of net i).hops

-- the sum over those of the first n flows that are in queue q of server s, in the order of their numbers; 0 over none
abbrev pub total_of : Routes → ℕ → ℕ → (ℕ → ℚ → Ext) → ℕ → ℚ → Ext
total_of net s q α zero t = Fin (int (pos 0))
total_of net s q α (suc n) t = if is_in net s q n then total_of net s q α n t +ₑ α n t else total_of net s q α n t

abbrev pub total_curve : Routes → ℕ → ℕ → (ℕ → ℚ → Ext) → ℚ → Ext
total_curve net s q α t = total_of net s q α (length net.flows) t
