-- A trainer is given the same behind two desks whose logs differ only in hidden bytes.
-- Assumes nothing.
use mathlib.Core.Path.{◌≡◌, refl, ap, sym, ◌∙◌}
use mathlib.Core.Bool.{true}
use mathlib.Core.List.{List}
use Prim.Native.Nat.{ℕ}
use Rattle.base.specs.Choice.{choose}
use Rattle.access.specs.Rights.{allowed}
use Rattle.access.specs.User.{guard, send_as, receive_as, timeout_as, settle_as, event_as, deadline_as, missing_as, view_as, read_as}
use Rattle.access.specs.Laws.Request.{send, receive, wake, settle, event, deadline, missing, view, read}
use Rattle.access.specs.Laws.{Desk, Request, TrainerLaw, given, viewed, listed}
use Rattle.access.proofs.Through.{through_law}
use Rattle.endian.specs.LittleEndian.{Bytes}
use Rattle.callout_log.proofs.Laws.{same_seen_law}
use Rattle.callout_log.specs.Read.{Lists}
use Rattle.callout_log.specs.View.{view_log, read_seen}
use Rattle.callout_log.specs.ViewLaws.{DifferHidden}
use Rattle.tunnel.specs.Tunnel.{refused}

module _ (a b : Desk) (bytes : Bytes a.log) (used : a.used ≡ b.used) (d : DifferHidden a.log b.log a.used) where
  views : (lent : List ℕ) → view_as 2 a.log a.used lent ≡ view_as 2 b.log b.used lent
  views lent =
      through_law.trainer_views a.log a.used lent
      ∙ same_seen_law.views a.log b.log a.used lent bytes d
      ∙ ap (λ (n : ℕ). view_log true b.log n lent) used
      ∙ sym (through_law.trainer_views b.log b.used lent)

  reads : (l : Lists) → read_as 2 a.log a.used l ≡ read_as 2 b.log b.used l
  reads l =
      through_law.trainer_reads a.log a.used l
      ∙ same_seen_law.reads a.log b.log a.used l bytes d
      ∙ ap (λ (n : ℕ). read_seen true b.log n l) used
      ∙ sym (through_law.trainer_reads b.log b.used l)

  same : (request : Request) → given 2 a request ≡ given 2 b request
  unfolding given send_as receive_as timeout_as settle_as event_as deadline_as missing_as guard allowed refused choose
  same (send count now) = refl
  same (receive index id now counters kinds verdicts skips) = refl
  same (wake jitter now) = refl
  same (settle jitter now) = refl
  same event = refl
  same deadline = refl
  same (missing index) = refl
  same (view lent) = ap viewed (views lent)
  same (read l) = ap listed (reads l)

pub trainer_law : TrainerLaw
trainer_law = record { same = λ a b request bytes used d. same a b bytes used d request }
