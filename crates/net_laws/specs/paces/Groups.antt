-- Flows that come to a server over one link: their arrivals are cut by the pace of the server before. And a queue as
-- the sum of its parts: the flows that enter there, and those of each server before. (Grouping of flows by their input
-- link; that a part is the lesser of a sum and a bucket is our own choice.)
use Rattle.std.specs.Prelude.{Option, Some, None, ◌≡◌, ℕ, zero, suc, pos, ◌<◌, ◌≤◌, Bool, true, false, ◌&&◌, ◌||◌, ◌==◌, List, [], ◌∷◌, length, if◌then◌else◌}
use Rattle.rational.specs.Rational.{ℚ, int, ◌≤ℚ◌}
use Rattle.rational.specs.Extended.{Ext, min_ext}
use Rattle.min_plus.specs.Formulas.{bucket_value}
use Rattle.run_laws.specs.Runs.{SpecRun}
use Rattle.run_laws.specs.Cards.{Class, of_flow, of_queue, whole}
use Rattle.run_laws.specs.Premises.{KeepsArrivals, KeepsSizes}
use Rattle.run_laws.specs.RunPremises.{EnterSizes}
use Rattle.run_laws.specs.Routes.{Hop, Routes, server_at, route_of}
use Rattle.run_laws.specs.Totals.{is_in}
use Rattle.run_laws.specs.Views.{view}
use Rattle.run_laws.specs.Lawful.{IsLawful}
use Rattle.net_laws.specs.Laws.{IsLink}
use Rattle.net_laws.specs.Once.{IsOverPaths}
use Rattle.net_laws.specs.Sums.{sum_of_curves}

-- the packets of the flows that pass a test
abbrev pub of_flows : (ℕ → Bool) → Class
of_flows test c = test c.flow

-- what is asked of the server from which flows come: its work has a pace, and each of their packets at most so many
-- bits there
pub record IsPaced (net : Routes) (run : SpecRun) (test : ℕ → Bool) (from bits : ℕ) (rate : ℚ) : Type 0 where
  pub known : from < length net.servers
  pub pace : (server_at net from).pace ≡ Some rate
  pub some : int (pos 0) ≤ℚ rate
  pub sizes : KeepsSizes (of_flows test) bits (view net run from)

-- flows that come to server `to` from server `from` arrive within the bucket of one packet and the pace
abbrev pub GroupIsCut : Type 0
GroupIsCut = (net : Routes) (run : SpecRun) (test : ℕ → Bool) (from to bits : ℕ) (rate : ℚ) → IsLawful net run →
    IsPaced net run test from bits rate → ((i : ℕ) → test i ≡ true → IsLink net i from to) →
    KeepsArrivals (of_flows test) (bucket_value (whole bits) rate) (view net run to)

-- the lesser of the sum of their curves and that bucket
abbrev pub cut_sum : ℕ → (ℕ → Bool) → (ℕ → ℚ → Ext) → ℕ → ℚ → ℚ → Ext
cut_sum n test α bits rate t = min_ext (sum_of_curves test α n t) (bucket_value (whole bits) rate t)

-- where each keeps a curve there, they keep the lesser
abbrev pub GroupKeepsLesser : Type 0
GroupKeepsLesser = (net : Routes) (run : SpecRun) (test : ℕ → Bool) (from to bits : ℕ) (rate : ℚ) (α : ℕ → ℚ → Ext) →
    IsLawful net run → IsPaced net run test from bits rate → ((i : ℕ) → test i ≡ true → IsLink net i from to) →
    ((i : ℕ) → test i ≡ true → KeepsArrivals (of_flow i) (α i) (view net run to)) →
    KeepsArrivals (of_flows test) (cut_sum (length net.flows) test α bits rate) (view net run to)

-- ---- the parts of a queue
-- the server before s on a path, if s is not its first
abbrev pub server_before : ℕ → List Hop → Option ℕ
server_before s [] = None
server_before s (h ∷ []) = None
server_before s (h ∷ g ∷ hs) = if g.server == s then Some h.server else server_before s (g ∷ hs)

-- part 0 is of the flows that enter there, part p + 1 of those that come from server p
abbrev pub part_number : Option ℕ → ℕ
part_number None = 0
part_number (Some p) = suc p

-- flow i is in part k of queue q of server s
abbrev pub is_of_part : Routes → ℕ → ℕ → ℕ → ℕ → Bool
is_of_part net s q k i = is_in net s q i && (part_number (server_before s (route_of net i).hops) == k)

-- one of the numbers below n passes
abbrev pub some_below : (ℕ → Bool) → ℕ → Bool
some_below test zero = false
some_below test (suc n) = some_below test n || test n

abbrev pub has_part : Routes → ℕ → ℕ → ℕ → Bool
has_part net s q k = some_below (is_of_part net s q k) (length net.flows)

-- its arrival curve: the sum of its flows' curves; where they come from a server, the lesser of it and the bucket of
-- their longest packet and that server's rate
abbrev pub part_curve : Routes → ℕ → ℕ → (ℕ → ℚ → Ext) → (ℕ → ℕ) → (ℕ → ℚ) → ℕ → ℚ → Ext
part_curve net s q α longest rate zero t = sum_of_curves (is_of_part net s q zero) α (length net.flows) t
part_curve net s q α longest rate (suc p) t =
    cut_sum (length net.flows) (is_of_part net s q (suc p)) α (longest p) (rate p) t

-- the sum of its parts, first what enters, then by the servers' numbers
abbrev pub parts_curve : Routes → ℕ → ℕ → (ℕ → ℚ → Ext) → (ℕ → ℕ) → (ℕ → ℚ) → ℚ → Ext
parts_curve net s q α longest rate t =
    sum_of_curves (has_part net s q) (part_curve net s q α longest rate) (suc (length net.servers)) t

-- each server before has a pace, and no packet of the flows that come from it is longer than the longest of that part
pub record ArePaced (net : Routes) (s q : ℕ) (packet longest : ℕ → ℕ) (rate : ℕ → ℚ) : Type 0 where
  pub pace : (p : ℕ) → p < length net.servers → (server_at net p).pace ≡ Some (rate p)
  pub some : (p : ℕ) → p < length net.servers → int (pos 0) ≤ℚ rate p
  pub none_longer : (p i : ℕ) → is_of_part net s q (suc p) i ≡ true → packet i ≤ longest p

-- where each flow of a queue keeps a curve there, the queue keeps the sum of its parts
abbrev pub PartsAreKept : Type 0
PartsAreKept = (net : Routes) (run : SpecRun) (s q : ℕ) (packet longest : ℕ → ℕ) (rate : ℕ → ℚ) (α : ℕ → ℚ → Ext) →
    IsLawful net run → IsOverPaths net →
    ((i : ℕ) → (route_of net i).live ≡ true → EnterSizes i (packet i) run.steps) →
    ArePaced net s q packet longest rate →
    ((i : ℕ) → is_in net s q i ≡ true → KeepsArrivals (of_flow i) (α i) (view net run s)) →
    KeepsArrivals (of_queue q) (parts_curve net s q α longest rate) (view net run s)
