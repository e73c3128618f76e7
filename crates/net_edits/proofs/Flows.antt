-- Networks with one flow changed, or one flow more, still may stand.
use Rattle.std.proofs.Common.{◌≡◌, ℕ, zero, suc, ◌<◌, List, [], ◌∷◌, ◌++◌, length, get_or, Option, Some, None, Bool, true, refl, sym, ap, ◌∙◌, subst, arith}
use Rattle.std.specs.Prelude.{Contains, slice_get, slice_set, ◌&&◌}
use Rattle.std.specs.List.{list_all}
use Rattle.std.proofs.lemmas.Bool.{and_parts}
use Rattle.std.proofs.lemmas.List.{length-set, length_push}
use Rattle.std.proofs.lemmas.List.Elements.{All-set, All-push, All-contains}
use Rattle.std.proofs.lemmas.List.Folds.{list_all-append}
use Rattle.std.proofs.lemmas.List.Quantifiers.{all_pairs_push}
use Rattle.net_model.specs.Networks.{Net, NetFlow}
use Rattle.net_model.specs.Names.{DifferInName}
use Rattle.net_model.specs.Accepted.{IsFlow, IsAccepted}
use Rattle.net_edits.specs.Changed.{put_flow, with_more}
use Rattle.net_edits.specs.Values.{place_fits, quanta_fit}
use Rattle.net_edits.proofs.Places.{pairs-set}
use Rattle.net_edits.proofs.Fitting.{accepted_fits}
use Rattle.std.proofs.Math.Bool.{and-true}
use Rattle.net_model.proofs.Placed.{MayBe}
use Rattle.net_model.proofs.Short.{all_of}

all_may_be : (net : Net) → IsAccepted net → (o : Option NetFlow) → Contains net.flows o → MayBe net.servers o
all_may_be net a o m f e = a.flows f (subst (λ (p : Option NetFlow). Contains net.flows p) e m)

-- ---- a place with the same name, or empty
after : (old : NetFlow) (place : Option NetFlow) → ((f : NetFlow) → place ≡ Some f → f.name ≡ old.name)
    → (z : Option NetFlow) → DifferInName (Some old) z → DifferInName place z
after old None same z d = tt
after old (Some f) same None d = tt
after old (Some f) same (Some g) d = λ e. d (sym (same f refl) ∙ e)

before : (old : NetFlow) (place : Option NetFlow) → ((f : NetFlow) → place ≡ Some f → f.name ≡ old.name)
    → (z : Option NetFlow) → DifferInName z (Some old) → DifferInName z place
before old place same None d = tt
before old None same (Some g) d = tt
before old (Some f) same (Some g) d = λ e. d (e ∙ same f refl)

pub flow_stands : (net : Net) (i : ℕ) (old : NetFlow) (place : Option NetFlow) → IsAccepted net
    → slice_get net.flows i ≡ Some (Some old) → ((f : NetFlow) → place ≡ Some f → f.name ≡ old.name)
    → ((f : NetFlow) → place ≡ Some f → IsFlow net.servers f) → IsAccepted (put_flow net i place)
flow_stands net i old place a at name is = record {
  version = a.version;
  few_servers = a.few_servers;
  few_flows = omega (arith, a.few_flows, length-set net.flows i place);
  names = (
    a.names.0,
    pairs-set DifferInName net.flows i (Some old) place at (after old place name) (before old place name) a.names.1,
  );
  servers = a.servers;
  flows = λ f has.
      All-contains (MayBe net.servers) (slice_set net.flows i place) (Some f)
      (All-set (MayBe net.servers) net.flows i place is (all_of (MayBe net.servers) net.flows (all_may_be net a))) has f refl;
}

-- ---- one flow more
pub more_stands : (net : Net) (f : NetFlow) → IsAccepted net → length net.flows < 256 → IsFlow net.servers f
    → ((k : ℕ) (d : Option NetFlow) → k < length net.flows → DifferInName (get_or net.flows k d) (Some f))
    → IsAccepted (with_more f net)
more_stands net f a room is differs = record {
  version = a.version;
  few_servers = a.few_servers;
  few_flows = omega (arith, room, length_push net.flows (Some f));
  names = (a.names.0, all_pairs_push DifferInName net.flows (Some f) a.names.1 differs);
  servers = a.servers;
  flows = λ g has.
      All-contains (MayBe net.servers) (net.flows ++ Some f ∷ []) (Some g)
      (All-push (MayBe net.servers) net.flows (Some f) (all_of (MayBe net.servers) net.flows (all_may_be net a))
      (λ h e. let same : f ≡ h = cc in subst (λ (x : NetFlow). IsFlow net.servers x) same is))
      has g refl;
}

-- ---- the other flows fit
set_fits : {X : Type 0} (p : X → Bool) (xs : List X) (i : ℕ) (y x : X) → slice_get xs i ≡ Some x → list_all p xs ≡ true
    → list_all p (slice_set xs i y) ≡ p y
set_fits p [] i y x e all = absurd (let bad : ⊥ = cc in bad)
set_fits p (z ∷ zs) zero y x e all = ap (λ (b : Bool). p y && b) (and_parts (p z) (list_all p zs) all).1 ∙ and-true (p y)
set_fits p (z ∷ zs) (suc i) y x e all =
    ap (λ (b : Bool). b && list_all p (slice_set zs i y)) (and_parts (p z) (list_all p zs) all).0
    ∙ set_fits p zs i y x e (and_parts (p z) (list_all p zs) all).1

pub changed_fits : (net : Net) (i : ℕ) (old : NetFlow) (place : Option NetFlow) → IsAccepted net
    → slice_get net.flows i ≡ Some (Some old) → quanta_fit (put_flow net i place) ≡ place_fits net.servers place
changed_fits net i old place a at = set_fits (place_fits net.servers) net.flows i place (Some old) at (accepted_fits net a)

pub more_fits : (net : Net) (f : NetFlow) → IsAccepted net → quanta_fit (with_more f net) ≡ place_fits net.servers (Some f)
more_fits net f a =
    list_all-append (place_fits net.servers) net.flows (Some f ∷ [])
    ∙ ap (λ (b : Bool). b && (place_fits net.servers (Some f) && true)) (accepted_fits net a)
    ∙ and-true (place_fits net.servers (Some f))
