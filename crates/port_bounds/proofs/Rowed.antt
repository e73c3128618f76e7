-- The services of a queue, as the calls make them.
use Rattle.std.specs.Prelude.{◌≡◌, ◌⊎◌, ◌<◌, ◌*◌, ◌^◌, ◌++◌, ◌∷◌, [], ℕ, List, All, Contains, get_or, sum}
use Rattle.std.specs.declared.vec.Vec.{Vec}
use Rattle.std.specs.declared.alloc.Global.{Global}
use Rattle.std.proofs.Common.{sym, refl, inl, inr, subst}
use Rattle.std.proofs.lemmas.List.Elements.{All-append, All-cons, All-nil, All-contains, Contains-get_or, Contains-append_left, Contains-push, Contains-push_cases}
use Rattle.arrival_lines.specs.declared.grid.Service.{Service}
use Rattle.tree_network.specs.declared.network.Discipline.{Discipline}
use Rattle.tree_network.specs.declared.network.Discipline.TheVariants.{Priority, Drr}
use Rattle.tree_network.specs.declared.network.Port.{Port}
use Rattle.port_bounds.specs.Ports.{port_service}
use Rattle.port_bounds.specs.Incoming.{Incoming, queue_in, joined_parts, longest_frame_of, longest_frames_of, before, behind}
use Rattle.port_bounds.specs.Services.{IsLeft, round_robin_share, IsServiceAt, IsServiceOf, AreAll}

-- ---- the services by the discipline
pub priority_services : (port : Port) (queues some : List Incoming) (q n frame : ℕ) (own : Service) (services : List Service) → port.discipline ≡ Priority n
    → own ≡ port_service port → some ≡ before q queues → frame ≡ 1024 * longest_frame_of (behind q queues)
    → AreAll (IsLeft own (joined_parts some) frame) services → AreAll (IsServiceOf port queues q) services
priority_services port queues some q n frame own services is its same bits all =
    subst (λ (d : Discipline). AreAll (λ s. IsServiceAt d (port_service port) queues q s) services) (sym is)
    (subst (λ (w : Service). AreAll (IsLeft w (joined_parts (before q queues)) (1024 * longest_frame_of (behind q queues))) services) its
    (subst (λ (xs : List Incoming). AreAll (IsLeft own (joined_parts xs) (1024 * longest_frame_of (behind q queues))) services) same
    (subst (λ (k : ℕ). AreAll (IsLeft own (joined_parts some) k) services) bits all)))

all_push : (P : Service → Type 0) (one : Service) (services more : List Service) → AreAll P services → more ≡ services ++ one ∷ []
    → AreAll (λ s. (s ≡ one) ⊎ P s) more
all_push P one services more all is = subst (λ (xs : List Service). AreAll (λ s. (s ≡ one) ⊎ P s) xs) (sym is) record {
  each = λ k d h. from (get_or (services ++ one ∷ []) k d) (Contains-get_or (services ++ one ∷ []) k d h);
  every = λ s which. elim which [
    | inl new ↦ subst (λ (w : Service). Contains (services ++ one ∷ []) w) (sym new) (Contains-push services one)
    | inr old ↦ Contains-append_left services (one ∷ []) s (all.every s old)
  ];
}
  where
    from : (s : Service) → Contains (services ++ one ∷ []) s → (s ≡ one) ⊎ P s
    from s h = elim (Contains-push_cases services one s h) [
      | inl old ↦ inr (All-contains P services s all.each old)
      | inr new ↦ inl (sym new)
    ]

pub round_robin_services : (port : Port) (queues some : List Incoming) (q : ℕ) (quanta : Vec ℕ Global) (own one : Service) (services more : List Service)
    → port.discipline ≡ Drr quanta → own ≡ port_service port → some ≡ before q queues ++ behind q queues
    → one ≡ round_robin_share own (get_or quanta.items q 0) (sum quanta.items) (queue_in queues q).longest (longest_frames_of queues)
    → AreAll (IsLeft own (joined_parts some) 0) services → more ≡ services ++ one ∷ [] → AreAll (IsServiceOf port queues q) more
round_robin_services port queues some q quanta own one services more is its same share all pushed =
    let others = before q queues ++ behind q queues in
    let shared = λ (w : Service). round_robin_share w (get_or quanta.items q 0) (sum quanta.items) (queue_in queues q).longest (longest_frames_of queues) in
    let with_share = all_push (IsLeft own (joined_parts some) 0) (shared own) services more all (subst (λ (w : Service). more ≡ services ++ w ∷ []) share pushed) in
    let of_others = subst (λ (xs : List Incoming). AreAll (λ s. (s ≡ shared own) ⊎ IsLeft own (joined_parts xs) 0 s) more) same with_share in
    subst (λ (d : Discipline). AreAll (λ s. IsServiceAt d (port_service port) queues q s) more) (sym is)
    (subst (λ (w : Service). AreAll (λ s. (s ≡ shared w) ⊎ IsLeft w (joined_parts others) 0 s) more) its of_others)

pub small_push : (one : Service) (services more : List Service) → All (λ (s : Service). s.debt < 2 ^ 63) services → one.debt < 2 ^ 63 → more ≡ services ++ one ∷ []
    → All (λ (s : Service). s.debt < 2 ^ 63) more
small_push one services more all small is =
    let P = λ (s : Service). s.debt < 2 ^ 63 in
    subst (λ (xs : List Service). All P xs) (sym is) (All-append P services (one ∷ []) all (All-cons P one [] small (All-nil P)))

-- ---- the share of the same numbers
pub same_share : (own : Service) (Q q F f l k Λ m : ℕ) → Q ≡ q → F ≡ f → l ≡ k → Λ ≡ m → round_robin_share own Q F l Λ ≡ round_robin_share own q f k m
same_share own Q q F f l k Λ m a b c d = rw (a, b, c, d) refl
