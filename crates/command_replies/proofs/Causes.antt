-- A reply of a known status has its cause and no other: the one place where statuses are told apart.
use Rattle.std.proofs.Common.{◌≡◌, ◌≢◌, ◌≤◌, ℕ, List, inl, inr, sym, ap, ◌∙◌, arith}
use Rattle.upp_limits.specs.declared.own_limits.OverLimit.TheVariants.{TooMany, TooWide}
use Rattle.net_model.specs.Networks.{Net}
use Rattle.command_replies.specs.Causes.{HasCause}
use Rattle.command_replies.specs.OnFiles.{IsBroken, IsCurveOver, IsNoNetwork, OnCellOver, IsOver}
use Rattle.command_replies.specs.Replies.{Reply}
use Rattle.command_replies.specs.run_findings.Statuses.{IsOfReport}

module _ {Done Breach Malformed Wide Many Cycle : Reply → Type 0} (reply : Reply) where
  -- ---- of a status
  -- one that some reply has: it has the cause of that status, and none of another
  only : (n : ℕ) → reply.status ≡ n → (n ≡ 0 → Done reply) → (n ≡ 9 → Breach reply) → (n ≡ 1 → Malformed reply)
      → (n ≡ 6 → Wide reply) → (n ≡ 7 → Many reply) → (n ≡ 8 → Cycle reply)
      → (n ≢ 2) × (n ≢ 3) × (n ≢ 4) × (n ≢ 5) → n ≤ 9 → HasCause Done Breach Malformed Wide Many Cycle reply
  only n is done breach malformed wide many cycle others most = record {
    done = λ e. done (sym is ∙ e);
    breach = λ e. breach (sym is ∙ e);
    malformed = λ e. malformed (sym is ∙ e);
    wide = λ e. wide (sym is ∙ e);
    many = λ e. many (sym is ∙ e);
    cycle = λ e. cycle (sym is ∙ e);
    others =
        (λ e. others.0 (sym is ∙ e), λ e. others.1 (sym is ∙ e), λ e. others.2 (sym is ∙ e), λ e. others.3 (sym is ∙ e));
    most = omega (arith, is, most);
  }

  pub done : reply.status ≡ 0 → Done reply → HasCause Done Breach Malformed Wide Many Cycle reply
  done is h =
      only 0 is (λ e. h) (λ e. absurd (cc)) (λ e. absurd (cc)) (λ e. absurd (cc)) (λ e. absurd (cc)) (λ e. absurd (cc))
      (λ e. (cc), λ e. (cc), λ e. (cc), λ e. (cc)) (omega arith)

  pub breach : reply.status ≡ 9 → Breach reply → HasCause Done Breach Malformed Wide Many Cycle reply
  breach is h =
      only 9 is (λ e. absurd (cc)) (λ e. h) (λ e. absurd (cc)) (λ e. absurd (cc)) (λ e. absurd (cc)) (λ e. absurd (cc))
      (λ e. (cc), λ e. (cc), λ e. (cc), λ e. (cc)) (omega arith)

  pub malformed : reply.status ≡ 1 → Malformed reply → HasCause Done Breach Malformed Wide Many Cycle reply
  malformed is h =
      only 1 is (λ e. absurd (cc)) (λ e. absurd (cc)) (λ e. h) (λ e. absurd (cc)) (λ e. absurd (cc)) (λ e. absurd (cc))
      (λ e. (cc), λ e. (cc), λ e. (cc), λ e. (cc)) (omega arith)

  pub wide : reply.status ≡ 6 → Wide reply → HasCause Done Breach Malformed Wide Many Cycle reply
  wide is h =
      only 6 is (λ e. absurd (cc)) (λ e. absurd (cc)) (λ e. absurd (cc)) (λ e. h) (λ e. absurd (cc)) (λ e. absurd (cc))
      (λ e. (cc), λ e. (cc), λ e. (cc), λ e. (cc)) (omega arith)

  pub many : reply.status ≡ 7 → Many reply → HasCause Done Breach Malformed Wide Many Cycle reply
  many is h =
      only 7 is (λ e. absurd (cc)) (λ e. absurd (cc)) (λ e. absurd (cc)) (λ e. absurd (cc)) (λ e. h) (λ e. absurd (cc))
      (λ e. (cc), λ e. (cc), λ e. (cc), λ e. (cc)) (omega arith)

  pub cycle : reply.status ≡ 8 → Cycle reply → HasCause Done Breach Malformed Wide Many Cycle reply
  cycle is h =
      only 8 is (λ e. absurd (cc)) (λ e. absurd (cc)) (λ e. absurd (cc)) (λ e. absurd (cc)) (λ e. absurd (cc)) (λ e. h)
      (λ e. (cc), λ e. (cc), λ e. (cc), λ e. (cc)) (omega arith)

  -- ---- of a report
  pub report : IsOfReport reply.status → Done reply → Breach reply
      → HasCause Done Breach Malformed Wide Many Cycle reply
  report (inl zero) quiet broken = done zero quiet
  report (inr nine) quiet broken = breach nine broken

  -- ---- of a refusal
  pub on_no_network : (file bytes : List ℕ) → IsNoNetwork file bytes reply → (IsBroken file bytes reply → Malformed reply)
      → (IsCurveOver TooMany bytes reply → Many reply) → (IsCurveOver TooWide bytes reply → Wide reply)
      → HasCause Done Breach Malformed Wide Many Cycle reply
  on_no_network file bytes (inl h) broken as_many as_wide =
      malformed (ap (λ (r : Reply). r.status) h.is) (broken h)
  on_no_network file bytes (inr (TooMany, h)) broken as_many as_wide =
      many (ap (λ (r : Reply). r.status) h.is) (as_many h)
  on_no_network file bytes (inr (TooWide, h)) broken as_many as_wide =
      wide (ap (λ (r : Reply). r.status) h.is) (as_wide h)

  pub on_cell_over : (net : Net) (order : List ℕ) → IsOver net order reply
      → (OnCellOver TooMany net order reply → Many reply) → (OnCellOver TooWide net order reply → Wide reply)
      → HasCause Done Breach Malformed Wide Many Cycle reply
  on_cell_over net order (TooMany, h) as_many as_wide = many (ap (λ (r : Reply). r.status) h.is) (as_many h)
  on_cell_over net order (TooWide, h) as_many as_wide = wide (ap (λ (r : Reply). r.status) h.is) (as_wide h)

-- ---- of the same status
-- what a report comes to
pub with_reports : {Done Breach Malformed Wide Many Cycle Quiet Broken : Reply → Type 0} (reply : Reply)
    → HasCause Done Breach Malformed Wide Many Cycle reply → (reply.status ≡ 0 → Quiet reply)
    → (reply.status ≡ 9 → Broken reply) → HasCause Quiet Broken Malformed Wide Many Cycle reply
with_reports reply h quiet broken = record {
  done = quiet;
  breach = broken;
  malformed = h.malformed;
  wide = h.wide;
  many = h.many;
  cycle = h.cycle;
  others = h.others;
  most = h.most;
}
