-- What is told of a cycle is one thing, since of several cycles a definition fixes one.
use Rattle.std.proofs.Common.{◌≡◌, ◌⊎◌, ℕ, List, [], ◌∷◌, ◌++◌, map, inl, inr, refl, sym, ap₂, ◌∙◌, subst}
use Rattle.std.specs.Prelude.{codes}
use Rattle.net_model.specs.Networks.{Net}
use Rattle.net_model.specs.Walks.{IsCycle}
use Rattle.net_model.proofs.net_graph.OneCycles as walks
use Rattle.report_text.specs.CellWords.{server_name}
use Rattle.report_text.specs.Refusals.{spaced}
use Rattle.command_replies.specs.OnFiles.{HasCycle}
use Rattle.command_replies.specs.Replies.{Reply, goes_round}
use Rattle.net_text.proofs.OneThing.{each_file_says_one_thing}
use Rattle.commands.specs.edit_report.Said.{EditSaid, Refused}
use Rattle.commands.specs.edit.Laws.{TellCycles, AreSaidAlike}

-- what is made of two equal things is equal
made_of : {A B C : Type 0} (f : A → B → C) (a b : A) (c d : B) (x y : C) → x ≡ f a c → y ≡ f b d → a ≡ b → c ≡ d → x ≡ y
made_of f a b c d x y p q e g = p ∙ ap₂ f e g ∙ sym q

-- the reply on a file whose network has a cycle
pub one_round : (bytes : List ℕ) (x y : Reply) → HasCycle bytes x → HasCycle bytes y → x ≡ y
one_round bytes x y h k =
    let net : k.0 ≡ h.0 = (each_file_says_one_thing bytes).one_network k.0 h.0 k.1.reads h.1.reads in
    let moved : IsCycle h.0 k.2.walk = subst (λ (n : Net). IsCycle n k.2.walk) net k.2.cycle in
    made_of (λ (n : Net) (walk : List ℕ). goes_round (map (server_name n) walk)) h.0 k.0 h.2.walk k.2.walk x y h.2.is k.2.is
    (sym net)
    (walks.one_cycle h.0 h.2.walk k.2.walk h.2.cycle moved)

-- what is said of an edit whose network has one
one_said : (x y : EditSaid) → TellCycles x y → x ≡ y
one_said x y t =
    made_of (λ (n : Net) (walk : List ℕ). Refused (codes "cycle" ++ spaced (map (server_name n) walk))) t.net t.net t.one.walk t.other.walk x y
    t.one.is t.other.is refl (walks.one_cycle t.net t.one.walk t.other.walk t.one.cycle t.other.cycle)

either_said : (x y : EditSaid) → (x ≡ y) ⊎ TellCycles x y → x ≡ y
either_said x y (inl same) = same
either_said x y (inr cycles) = one_said x y cycles

pub all_said : (xs ys : List EditSaid) → AreSaidAlike xs ys → xs ≡ ys
all_said [] [] h = refl
all_said [] (y ∷ ys) h = absurd h
all_said (x ∷ xs) [] h = absurd h
all_said (x ∷ xs) (y ∷ ys) h =
    ap₂ (λ (s : EditSaid) (ss : List EditSaid). s ∷ ss) (either_said x y h.0) (all_said xs ys h.1)
