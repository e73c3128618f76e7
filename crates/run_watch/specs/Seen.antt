-- What one server sees of a run: the packets that arrive there and the works, as spans, and the times of its leaves. Own choice.
use Rattle.std.specs.Prelude.{◌≡◌, ℕ, ◌==◌, List, [], ◌∷◌, ◌++◌, Option, Some, None, slice_index, if◌then◌else◌}
use Rattle.std.specs.Option.{option_to_list}
use Rattle.rational.specs.Rational.{ℚ}
use Rattle.run_laws.specs.declared.steps.Step.{Step}
use Rattle.run_laws.specs.declared.steps.Step.TheVariants.{Enter, Reach, Work, Leave, Visit}
use Rattle.run_laws.specs.Cards.{whole, ServerStep, Arrives, Works, Leaves, Visits}
use Rattle.run_laws.specs.Routes.{Routes, route_of, first_server}
use Rattle.run_watch.specs.declared.span.Span.{Span}

-- bits that come all at once
abbrev pub at_once : ℚ → ℕ → Span
at_once t bits = record { start = t; end = t; bits = whole bits }

-- ---- of the steps as the server sees them
abbrev pub arrival_spans : List ServerStep → List Span
arrival_spans [] = []
arrival_spans (Arrives c t ∷ V) = at_once t c.bits ∷ arrival_spans V
arrival_spans (Works c a b w ∷ V) = arrival_spans V
arrival_spans (Leaves c t ∷ V) = arrival_spans V
arrival_spans (Visits q t ∷ V) = arrival_spans V

abbrev pub work_spans : List ServerStep → List Span
work_spans [] = []
work_spans (Arrives c t ∷ V) = work_spans V
work_spans (Works c a b w ∷ V) = record { start = a; end = b; bits = w } ∷ work_spans V
work_spans (Leaves c t ∷ V) = work_spans V
work_spans (Visits q t ∷ V) = work_spans V

-- ---- of the steps of the run
abbrev pub work_in : ℕ → Step → Option Span
work_in s (Enter f p t b) = None
work_in s (Reach r p t) = None
work_in s (Work r p a b w) = if r == s then Some record { start = a; end = b; bits = w } else None
work_in s (Leave r p t) = None
work_in s (Visit r q t) = None

abbrev pub works_at : ℕ → List Step → List Span
works_at s [] = []
works_at s (x ∷ xs) = option_to_list (work_in s x) ++ works_at s xs

abbrev pub leave_in : ℕ → Step → Option ℚ
leave_in s (Enter f p t b) = None
leave_in s (Reach r p t) = None
leave_in s (Work r p a b w) = None
leave_in s (Leave r p t) = if r == s then Some t else None
leave_in s (Visit r q t) = None

abbrev pub leaves_at : ℕ → List Step → List ℚ
leaves_at s [] = []
leaves_at s (x ∷ xs) = option_to_list (leave_in s x) ++ leaves_at s xs

-- the bits of the packets that have entered, with a step more
abbrev pub sizes_after : List ℕ → Step → List ℕ
sizes_after sizes (Enter f p t b) = sizes ++ b ∷ []
sizes_after sizes (Reach r p t) = sizes
sizes_after sizes (Work r p a b w) = sizes
sizes_after sizes (Leave r p t) = sizes
sizes_after sizes (Visit r q t) = sizes

-- `firsts`: for each flow the first server of its path
abbrev pub arrival_in : List ℕ → ℕ → List ℕ → Step → Option Span
arrival_in firsts s sizes (Enter f p t b) =
    if slice_index firsts f == s then Some (at_once t (slice_index sizes p)) else None
arrival_in firsts s sizes (Reach r p t) = if r == s then Some (at_once t (slice_index sizes p)) else None
arrival_in firsts s sizes (Work r p a b w) = None
arrival_in firsts s sizes (Leave r p t) = None
arrival_in firsts s sizes (Visit r q t) = None

abbrev pub arrivals_at : List ℕ → ℕ → List ℕ → List Step → List Span
arrivals_at firsts s sizes [] = []
arrivals_at firsts s sizes (x ∷ xs) =
    option_to_list (arrival_in firsts s (sizes_after sizes x) x) ++ arrivals_at firsts s (sizes_after sizes x) xs

abbrev pub AreFirsts : Routes → List ℕ → Type 0
AreFirsts net firsts = (flow : ℕ) → first_server (route_of net flow).hops ≡ slice_index firsts flow
