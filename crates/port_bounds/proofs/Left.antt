-- All services that steps leave, and that they fit.
use Rattle.std.proofs.Common.{◌≡◌, ◌<◌, ◌≤◌, ◌+◌, ◌-◌, ◌^◌, ◌∷◌, [], ◌&&◌, ℕ, List, length, get_or, arith, refl, ap, sym, subst, ◌∙◌, Option, Some, None, true, false, Bool, cond, nat_lt, filter_map, All, inl, inr}
use Rattle.std.specs.Prelude.{Contains}
use Rattle.std.specs.List.{sum_by}
use Rattle.std.specs.List.{cons_option}
use Rattle.std.proofs.lemmas.Bool.{ltb-true, lt-ltb}
use Rattle.std.proofs.lemmas.List.Elements.{All-contains, Contains-get_or, Contains-append_left, Contains-append_right, Contains-append_cases, Contains-push, Contains-push_cases, at_from_Contains}
use Rattle.std.proofs.lemmas.List.Sums.{sum_by-append, sum_by-cons}
use Rattle.arrival_lines.specs.Steps.{Fit, IsStep, AreSteps, most_burst, most_rate}
use Rattle.arrival_lines.specs.Services.{left_of}
use Rattle.arrival_lines.specs.declared.grid.Line.{Line}
use Rattle.arrival_lines.specs.declared.grid.Part.{Part}
use Rattle.arrival_lines.specs.declared.grid.Service.{Service}
use Rattle.port_bounds.specs.Incoming.{Incoming, both, joined_parts}
use Rattle.port_bounds.specs.Ranges.{sum_of, AreInRange}
use Rattle.port_bounds.specs.Services.{IsLeftBy, IsLeft, AreAll}
use Rattle.port_bounds.proofs.Queues.{parts_cons, parts_none}

-- ---- the parts of queues that can be added can be added
both_sum : (f : Part → ℕ) (a b : Option (List Part)) (parts : List Part) → both a b ≡ Some parts → sum_by f parts ≡ sum_of f a + sum_of f b
both_sum f None b parts h = absurd (grind (arith, h))
both_sum f (Some a) None parts h = absurd (grind (arith, h))
both_sum f (Some a) (Some b) parts h = ap (sum_of f) (sym h) ∙ sum_by-append f a b

both_first : (a b : Option (List Part)) (parts : List Part) → both a b ≡ Some parts → (more : List Part) × (b ≡ Some more)
both_first None b parts h = absurd (grind (arith, h))
both_first (Some a) None parts h = absurd (grind (arith, h))
both_first (Some a) (Some b) parts h = (b, refl)

pub joined_sum : (f : Part → ℕ) (queues : List Incoming) (parts : List Part) → joined_parts queues ≡ Some parts
    → sum_by f parts ≡ sum_by (λ (queue : Incoming). sum_of f queue.parts) queues
joined_sum f [] parts h = ap (sum_of f) (sym h ∙ parts_none)
joined_sum f (queue ∷ queues) parts h =
    let cut = sym (parts_cons queue queues) ∙ h in
    let more = both_first queue.parts (joined_parts queues) parts cut in
    let rest = joined_sum f queues more.0 more.1 in
    let head = both_sum f queue.parts (joined_parts queues) parts cut in
    let tail = ap (sum_of f) more.1 in
    omega (arith, head, tail, rest, sum_by-cons (λ (q : Incoming). sum_of f q.parts) queue queues)

pub joined_fit : (queues : List Incoming) (parts : List Part) → AreInRange queues → joined_parts queues ≡ Some parts → Fit parts
joined_fit queues parts range h = record {
  bursts = omega (arith, joined_sum most_burst queues parts h, range.bursts);
  rates = omega (arith, joined_sum most_rate queues parts h, range.rates);
}

-- ---- the services that lines leave
is_some : Option Service → Type 0
is_some None = ⊥
is_some (Some service) = Unit {0}

service_in : Option Service → Service
service_in None = record { rate = 0; debt = 0 }
service_in (Some service) = service

both_tests : (a b : Bool) (one left : Service) → cond (a && b) (Some one) None ≡ Some left → (a ≡ true) × (one ≡ left)
unfolding is_some service_in
both_tests true true one left h = (refl, ap service_in h)
both_tests true false one left h = absurd (subst is_some (sym h) tt)
both_tests false b one left h = absurd (subst is_some (sym h) tt)

passes : (a b : Bool) (one : Service) → a ≡ true → b ≡ true → cond (a && b) (Some one) None ≡ Some one
passes a b one h k = rw (h, k) refl

abbrev pub left_behind : Service → Line → ℕ → Service
left_behind own line frame = record { rate = own.rate - line.rate; debt = own.debt + line.burst + frame }

pub is_left : (own : Service) (frame : ℕ) (line : Line) (left : Service) → left_of own frame line ≡ Some left
    → (line.rate < own.rate) × (left ≡ left_behind own line frame)
is_left own frame line left h =
    let tests = both_tests (nat_lt line.rate own.rate) (nat_lt (own.debt + line.burst + frame) (2 ^ 64)) (left_behind own line frame) left h in
    (ltb-true line.rate own.rate tests.0, sym tests.1)

pub left_is : (own : Service) (frame : ℕ) (line : Line) → line.rate < own.rate → own.debt + line.burst + frame < 2 ^ 64
    → left_of own frame line ≡ Some (left_behind own line frame)
left_is own frame line slower fits =
    passes (nat_lt line.rate own.rate) (nat_lt (own.debt + line.burst + frame) (2 ^ 64)) (left_behind own line frame) (lt-ltb line.rate own.rate slower)
    (lt-ltb (own.debt + line.burst + frame) (2 ^ 64) fits)

only_one : {Y : Type 0} (z y : Y) → Contains (z ∷ []) y → z ≡ y
only_one z y h = elim (Contains-push_cases [] z y h) [
  | inl none ↦ absurd (omega (arith, none.1))
  | inr same ↦ same
]

abbrev From : {X Y : Type 0} → (X → Option Y) → List X → Y → Type 0
From {X} h xs y = (x : X) × Contains xs x × (h x ≡ Some y)

more_from : {X Y : Type 0} (h : X → Option Y) (x : X) (xs : List X) (y : Y) → From h xs y → From h (x ∷ xs) y
more_from h x xs y (z, is, gives) = (z, Contains-append_right (x ∷ []) xs z is, gives)

contained : {X Y : Type 0} (h : X → Option Y) (xs : List X) (y : Y) → Contains (filter_map h xs) y → From h xs y
contained {Y = Y} h [] y is = absurd (omega (arith, is.1))
contained {Y = Y} h (x ∷ xs) y is = by_head (h x) refl (contained h xs y) is
  where
    by_head : (o : Option Y) → h x ≡ o → (Contains (filter_map h xs) y → From h xs y) → Contains (cons_option o (filter_map h xs)) y → From h (x ∷ xs) y
    by_head None gives rest is = more_from h x xs y (rest is)
    by_head (Some z) gives rest is = elim (Contains-append_cases (z ∷ []) (filter_map h xs) y is) [
      | inl one ↦ (x, Contains-append_left (x ∷ []) xs x (Contains-push [] x), gives ∙ ap Some (only_one z y one))
      | inr later ↦ more_from h x xs y (rest later)
    ]

container : {X Y : Type 0} (h : X → Option Y) (xs : List X) (x : X) (y : Y) → Contains xs x → h x ≡ Some y → Contains (filter_map h xs) y
container {Y = Y} h [] x y is gives = absurd (omega (arith, is.1))
container {Y = Y} h (z ∷ zs) x y is gives = elim (Contains-append_cases (z ∷ []) zs x is) [
  | inl one ↦
      let same = ap h (only_one z x one) ∙ gives in
      subst (λ o. Contains (cons_option o (filter_map h zs)) y) (sym same) (Contains-append_left (y ∷ []) (filter_map h zs) y (Contains-push [] y))
  | inr rest ↦ behind (h z) (container h zs x y rest gives)
]
  where
    behind : (o : Option Y) → Contains (filter_map h zs) y → Contains (cons_option o (filter_map h zs)) y
    behind None is = is
    behind (Some w) is = Contains-append_right (w ∷ []) (filter_map h zs) y is

-- all of a list of steps
pub all_left : (own : Service) (parts : List Part) (lines : List Line) (frame : ℕ) → AreSteps parts lines → sum_by most_burst parts < 2 ^ 62
    → own.debt < 2 ^ 61 → frame < 2 ^ 61 → AreAll (IsLeftBy own parts frame) (filter_map (left_of own frame) lines)
all_left own parts lines frame steps small debt packet = record {
  each = λ k d h.
      let services = filter_map (left_of own frame) lines in
      let from = contained (left_of own frame) lines (get_or services k d) (Contains-get_or services k d h) in
      let left = is_left own frame from.0 (get_or services k d) from.2 in
      record { line = from.0; step = All-contains (IsStep parts) lines from.0 steps.each from.1; slower = left.0; is = left.1 };
  every = λ service left.
      let line = left.line in
      let is = steps.all line left.step in
      let place = at_from_Contains lines line is in
      let burst : line.burst ≤ sum_by most_burst parts = subst (λ (l : Line). l.burst ≤ sum_by most_burst parts) (place.2 line) (steps.small place.0 line place.1) in
      let gives = left_is own frame line left.slower (omega (arith, burst, small, debt, packet)) in
      container (left_of own frame) lines line service is (gives ∙ ap Some (sym left.is));
}

small_left : (own : Service) (parts : List Part) (lines : List Line) (frame : ℕ) → AreSteps parts lines → sum_by most_burst parts < 2 ^ 62
    → own.debt < 2 ^ 61 → frame < 2 ^ 61 → All (λ (s : Service). s.debt < 2 ^ 63) (filter_map (left_of own frame) lines)
small_left own parts lines frame steps small debt packet k d h =
    let services = filter_map (left_of own frame) lines in
    let from = contained (left_of own frame) lines (get_or services k d) (Contains-get_or services k d h) in
    let left = is_left own frame from.0 (get_or services k d) from.2 in
    let place = at_from_Contains lines from.0 from.1 in
    let burst : from.0.burst ≤ sum_by most_burst parts = subst (λ (l : Line). l.burst ≤ sum_by most_burst parts) (place.2 from.0) (steps.small place.0 from.0 place.1) in
    subst (λ (s : Service). s.debt < 2 ^ 63) (sym left.1) (omega (arith, burst, small, debt, packet))

-- of the parts of queues
pub left_small : (own : Service) (queues : List Incoming) (parts : List Part) (lines : List Line) (frame : ℕ) (services : List Service) → AreInRange queues
    → joined_parts queues ≡ Some parts → AreSteps parts lines → own.debt < 2 ^ 61 → frame < 2 ^ 61 → services ≡ filter_map (left_of own frame) lines
    → All (λ (s : Service). s.debt < 2 ^ 63) services
left_small own queues parts lines frame services range known steps debt packet is =
    let small = joined_sum most_burst queues parts known in
    subst (λ (xs : List Service). All (λ (s : Service). s.debt < 2 ^ 63) xs) (sym is) (small_left own parts lines frame steps (omega (arith, small, range.bursts)) debt packet)

pub left_all : (own : Service) (queues : List Incoming) (parts : List Part) (lines : List Line) (frame : ℕ) (services : List Service) → AreInRange queues
    → joined_parts queues ≡ Some parts → AreSteps parts lines → own.debt < 2 ^ 61 → frame < 2 ^ 61 → services ≡ filter_map (left_of own frame) lines
    → AreAll (IsLeft own (joined_parts queues) frame) services
left_all own queues parts lines frame services range known steps debt packet is =
    let small = joined_sum most_burst queues parts known in
    let all = all_left own parts lines frame steps (omega (arith, small, range.bursts)) debt packet in
    subst (λ (o : Option (List Part)). AreAll (IsLeft own o frame) services) (sym known)
    (subst (λ (xs : List Service). AreAll (IsLeftBy own parts frame) xs) (sym is) all)

pub left_none : (own : Service) (queues : List Incoming) (frame : ℕ) (services : List Service) → None ≡ joined_parts queues → services ≡ []
    → AreAll (IsLeft own (joined_parts queues) frame) services
left_none own queues frame services unknown is =
    subst (λ (o : Option (List Part)). AreAll (IsLeft own o frame) services) unknown record {
      each = λ k d h. absurd (omega (arith, h, ap length is));
      every = λ service left. absurd left;
    }
