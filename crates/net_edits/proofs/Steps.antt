-- Steps of which the first refusal counts, and what is answered after them.
use Rattle.std.proofs.Common.{◌≡◌, Bool, true, false, ap, ◌∙◌}
use Rattle.std.specs.Prelude.{Ok, Err}
use Rattle.net_model.specs.Networks.{Net}
use Rattle.net_model.specs.Accepted.{IsAccepted}
use Rattle.net_edits.specs.declared.change.Change.{Change}
use Rattle.net_edits.specs.declared.fault.EditFault.{EditFault}
use Rattle.net_edits.specs.declared.fault.EditFault.TheVariants.{UnknownName, NameTaken, BadValue, LimitReached, Cycle, TooMany, TooWide, NothingToUndo, NoMemory}
use Rattle.net_edits.specs.Refusals.{Or, bad_value, and_then, only_if}
use Rattle.net_edits.specs.Edited.{Edited}
use Rattle.net_edits.specs.Changed.{changed}
use Rattle.net_edits.specs.Replies.{Refuses, MadeCurveFits, MakesNone, IsReplyOf, IsReply, IsChange, IsChangeReply}

module _ {X Y : Type 0} where
  pub then_ok : (r : Or X) (next : X → Or Y) (x : X) → r ≡ Ok x → and_then r next ≡ next x
  then_ok r next x e = ap (λ (s : Or X). and_then s next) e

  pub then_refused : (r : Or X) (next : X → Or Y) (fault : EditFault) → Refuses r fault → Refuses (and_then r next) fault
  then_refused r next (UnknownName name) h = ap (λ (s : Or X). and_then s next) h
  then_refused r next (NameTaken name) h = ap (λ (s : Or X). and_then s next) h
  then_refused r next BadValue h = ap (λ (s : Or X). and_then s next) h
  then_refused r next LimitReached h = ap (λ (s : Or X). and_then s next) h
  then_refused r next (Cycle walk) h = h
  then_refused r next (TooMany cell) h = h
  then_refused r next (TooWide cell) h = h
  then_refused r next NothingToUndo h = h
  then_refused r next NoMemory h = tt

module _ {X : Type 0} where
  -- a refusal of what something is equal to
  pub same_refused : (r s : Or X) (fault : EditFault) → r ≡ s → Refuses s fault → Refuses r fault
  same_refused r s (UnknownName name) e h = cc
  same_refused r s (NameTaken name) e h = cc
  same_refused r s BadValue e h = cc
  same_refused r s LimitReached e h = cc
  same_refused r s (Cycle walk) e h = h
  same_refused r s (TooMany cell) e h = h
  same_refused r s (TooWide cell) e h = h
  same_refused r s NothingToUndo e h = h
  same_refused r s NoMemory e h = tt

  pub passed : (b : Bool) (r : Or X) → b ≡ true → only_if b r ≡ r
  passed b r e = ap (λ (t : Bool). only_if t r) e

  pub stopped : (b : Bool) (r : Or X) → b ≡ false → only_if b r ≡ Err bad_value
  stopped b r e = ap (λ (t : Bool). only_if t r) e

-- ---- answers
module _ {X : Type 0} (P : X → Type 0) where
  pub refused_reply : (r : Or Edited) (fault : EditFault) → Refuses r fault → IsReplyOf P r (Err fault)
  refused_reply r (UnknownName name) h = h
  refused_reply r (NameTaken name) h = h
  refused_reply r BadValue h = h
  refused_reply r LimitReached h = h
  refused_reply r (Cycle walk) h = h
  refused_reply r (TooMany cell) h = absurd h
  refused_reply r (TooWide cell) h = absurd h
  refused_reply r NothingToUndo h = h
  refused_reply r NoMemory h = tt

  pub over_reply : (r : Or Edited) (edited : Edited) (fault : EditFault) → r ≡ Ok edited → MakesNone edited.made fault
      → IsReplyOf P r (Err fault)
  over_reply r edited (UnknownName name) e h = absurd h
  over_reply r edited (NameTaken name) e h = absurd h
  over_reply r edited BadValue e h = absurd h
  over_reply r edited LimitReached e h = absurd h
  over_reply r edited (Cycle walk) e h = h
  over_reply r edited (TooMany cell) e h = record { edited = edited; is = e; over = h }
  over_reply r edited (TooWide cell) e h = record { edited = edited; is = e; over = h }
  over_reply r edited NothingToUndo e h = absurd h
  over_reply r edited NoMemory e h = tt

pub change_reply : (r : Or Edited) (edited : Edited) (net : Net) (change : Change) → r ≡ Ok edited → changed change net ≡ edited.net
    → MadeCurveFits edited.made → IsAccepted (changed change net) → IsChangeReply net r (Ok change)
change_reply r edited net change e same within accepted = record {
  edited = record { edited = edited; is = e; net = same; within = within };
  accepted = accepted;
}

-- the network that is made with what an edit puts in; and why there is neither
pub changed_reply : (r : Or Edited) (net given : Net) (change : Change) → IsChange r net change → given ≡ changed change net
    → IsReply r (Ok given)
changed_reply r net given change h same = record {
  edited = h.edited.edited;
  is = h.edited.is;
  net = same ∙ h.edited.net;
  within = h.edited.within;
}

pub same_reply : {X Y : Type 0} (P : X → Type 0) (Q : Y → Type 0) (r : Or Edited) (fault : EditFault) → IsReplyOf P r (Err fault)
    → IsReplyOf Q r (Err fault)
same_reply P Q r (UnknownName name) h = h
same_reply P Q r (NameTaken name) h = h
same_reply P Q r BadValue h = h
same_reply P Q r LimitReached h = h
same_reply P Q r (Cycle walk) h = h
same_reply P Q r (TooMany cell) h = h
same_reply P Q r (TooWide cell) h = h
same_reply P Q r NothingToUndo h = h
same_reply P Q r NoMemory h = h
