-- A path serves its flow by what each hop serves it.
use Rattle.std.specs.Prelude.{Some, ◌≡◌, ◌≢◌, ℕ, ◌==◌, false, List, [], ◌∷◌, ◌++◌}
use Rattle.std.proofs.Common.{sym, ap, ◌∙◌, refl, inl, inr, subst, append_assoc}
use Rattle.std.proofs.lemmas.Bool.{cases_Bool, eqb-true, eq-eqb, ne_eqb}
use Rattle.run_laws.specs.Routes.{Hop, Routes, route_of, PassesServer, first_of, first_server, server_after}
use Rattle.run_laws.proofs.Entries.{passes_first}
use Rattle.net_laws.specs.Laws.{IsLink}
use Rattle.net_laws.specs.Paths.{IsPath}

-- ---- the hops of a path that passes no server twice
pub passes_there : (done : List Hop) (h : Hop) (hs : List Hop) → PassesServer h.server (done ++ h ∷ hs)
passes_there [] h hs = inl refl
passes_there (x ∷ done) h hs = inr (passes_there done h hs)

pub after_passes : (c s : ℕ) (x : Hop) (hs : List Hop) → server_after c (x ∷ hs) ≡ Some s → PassesServer s hs
after_passes c s x [] e = elim (cases_Bool (x.server == c)) [
  | inl f ↦ absurd (none (rw f at e))
  | inr f ↦ absurd (none (rw f at e))
]
  where
    none : first_of [] ≡ Some s → ⊥
    none k = cc
after_passes c s x (g ∷ hs) e = elim (cases_Bool (x.server == c)) [
  | inl f ↦ passes_first s (g ∷ hs) (rw f at e)
  | inr f ↦ inr (after_passes c s g hs (rw f at e))
]

pub later_path : (net : Routes) (done hs : List Hop) → IsPath net (done ++ hs) → IsPath net hs
later_path net [] hs p = p
later_path net (x ∷ done) hs p = later_path net done hs p.3

-- the path does not begin at a hop that comes after another
not_first : (net : Routes) (done : List Hop) (h g : Hop) (hs : List Hop) → IsPath net (done ++ h ∷ g ∷ hs)
    → first_server (done ++ h ∷ g ∷ hs) ≢ g.server
not_first net [] h g hs p e = p.2 (inl (sym e))
not_first net (x ∷ done) h g hs p e =
    p.2 (subst (λ (s : ℕ). PassesServer s (done ++ h ∷ g ∷ hs)) (sym e) (subst (λ (xs : List Hop). PassesServer g.server xs) (append_assoc done (h ∷ []) (g ∷ hs)) (passes_there (done ++ h ∷ []) g hs)))

first_is : (x : Hop) (xs : List Hop) (s : ℕ) → first_of (x ∷ xs) ≡ Some s → first_server (x ∷ xs) ≡ s
first_is x xs s e = cc

first_other : (net : Routes) (done : List Hop) (h g : Hop) (hs : List Hop) → IsPath net (done ++ h ∷ g ∷ hs)
    → first_of (done ++ h ∷ g ∷ hs) ≡ Some g.server → ⊥
first_other net [] h g hs p e = not_first net [] h g hs p (first_is h (g ∷ hs) g.server e)
first_other net (x ∷ done) h g hs p e = not_first net (x ∷ done) h g hs p (first_is x (done ++ h ∷ g ∷ hs) g.server e)

next_is : (net : Routes) (done : List Hop) (h g : Hop) (hs : List Hop) → IsPath net (done ++ h ∷ g ∷ hs)
    → server_after h.server (done ++ h ∷ g ∷ hs) ≡ Some g.server
next_is net [] h g hs p = rw (eq-eqb h.server h.server refl) refl
next_is net (x ∷ done) h g hs p =
    let other : (x.server == h.server) ≡ false = ne_eqb x.server h.server (λ e. p.2 (subst (λ (s : ℕ). PassesServer s (done ++ h ∷ g ∷ hs)) (sym e) (passes_there done h (g ∷ hs)))) in
    rw other (next_is net done h g hs p.3)

only_is : (net : Routes) (done : List Hop) (h g : Hop) (hs : List Hop) (c : ℕ) → IsPath net (done ++ h ∷ g ∷ hs)
    → server_after c (done ++ h ∷ g ∷ hs) ≡ Some g.server → c ≡ h.server
only_is net [] h g hs c p e = elim (cases_Bool (h.server == c)) [
  | inl f ↦ sym (eqb-true h.server c f)
  | inr f ↦ absurd (p.3.2 (after_passes c g.server g hs (rw f at e)))
]
only_is net (x ∷ done) h g hs c p e = elim (cases_Bool (x.server == c)) [
  | inl f ↦ absurd (first_other net done h g hs p.3 (rw f at e))
  | inr f ↦ only_is net done h g hs c p.3 (rw f at e)
]

pub link_of_path : (net : Routes) (i : ℕ) (done : List Hop) (h g : Hop) (hs : List Hop) → IsPath net (route_of net i).hops
    → (route_of net i).hops ≡ done ++ h ∷ g ∷ hs → IsLink net i h.server g.server
link_of_path net i done h g hs path is =
    let p : IsPath net (done ++ h ∷ g ∷ hs) = subst (IsPath net) is path in
    record {
      next = ap (server_after h.server) is ∙ next_is net done h g hs p;
      not_first = λ e. not_first net done h g hs p (ap first_server (sym is) ∙ e);
      only = λ c e. only_is net done h g hs c p (ap (server_after c) (sym is) ∙ e);
    }

pub rest_of_path : (net : Routes) (i : ℕ) (done hs : List Hop) → IsPath net (route_of net i).hops
    → (route_of net i).hops ≡ done ++ hs → IsPath net hs
rest_of_path net i done hs path is = later_path net done hs (subst (IsPath net) is path)

pub one_further : (net : Routes) (i : ℕ) (done : List Hop) (h : Hop) (hs : List Hop) → (route_of net i).hops ≡ done ++ h ∷ hs
    → (route_of net i).hops ≡ (done ++ h ∷ []) ++ hs
one_further net i done h hs is = is ∙ sym (append_assoc done (h ∷ []) hs)
