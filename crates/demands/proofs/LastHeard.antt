-- Demand 2, last heard: a filled slot's record has the time of the last batch that committed to its session.
-- Assumes nothing.
use mathlib.Core.Path.{◌≡◌, refl, ap, sym, ◌∙◌}
use mathlib.Core.Bool.{true}
use mathlib.Core.List.{List}
use Prim.Native.Nat.{ℕ, ◌<◌}
use Rattle.demands.proofs.After.{known_run}
use Rattle.demands.proofs.Grown.{grown}
use Rattle.demands.proofs.Held.{Past, insertion_at, SlotHeld}
use Rattle.demands.proofs.Known.{Known}
use Rattle.demands.specs.Calls.{World, after, created}
use Rattle.demands.specs.LastHeard.{LastHeardLaw, LastHeard}
use Rattle.demands.specs.Made.{Insertion}
use Rattle.demands.specs.Sending.{Grant, PolledKeepalive}
use Rattle.sessions.proofs.Laws.{lookup_law}
use Rattle.sessions.specs.Sessions.{slot_at}
use Rattle.sessions.specs.Store.{slot_words}
use Rattle.sessions.specs.declared.session.Session.{Session}
use Rattle.sessions.specs.declared.sessions.Sessions.{Sessions}
use Rattle.tunnel.proofs.Laws.{undamaged_law}
use Rattle.tunnel.specs.Damage.{undamaged}
use Rattle.tunnel.specs.Facts.{SlotWithin}

module _ (w : World) (u : undamaged w.tunnel ≡ true) (ins : List Insertion) (h : ℕ → Past) (g k : List Grant) (polls : List PolledKeepalive)
    (y : Known ins h g k polls w.tunnel.control w.store) (slot : ℕ) (low : slot < 8) where
  abbrev s : Sessions
  s = w.tunnel.control.sessions

  abbrev x : Session
  x = slot_at s slot

  says : x.filled ≡ true → LastHeardLaw w x (insertion_at ins x.id).at (h x.id).heard
  says filled =
      let its : SlotHeld ins h g slot x (slot_words w.store slot) = y.held.slots slot low filled in
      let within : SlotWithin x slot w.tunnel.greatest = (undamaged_law.facts w.tunnel u).control.sessions.slots slot low filled in
      record {
        committed = λ now e. its.heard ∙ rw e;
        uncommitted = λ e. its.heard ∙ rw e;
        counts = ap (λ (i : Insertion). i.at) (sym its.message);
        onward = within.onward;
        accepted = within.heard;
        read = (lookup_law s).heard x.receiving_index x (record { stored = ap (slot_at s) its.placed; filled = filled; named = refl });
      }

pub last_heard_lem : LastHeard
last_heard_lem c good calls few slot low filled =
    says (after (created c) calls) (grown c good calls) _ _ _ _ _ (known_run c good calls few) slot low filled
