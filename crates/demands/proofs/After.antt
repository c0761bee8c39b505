-- What is known after every list of calls from a creation that is not turned down.
-- Assumes nothing.
use mathlib.Core.Path.{◌≡◌, refl, ap, sym, ◌∙◌}
use mathlib.Core.List.{List, [], ◌∷◌, ◌++◌, append_assoc, append-nil}
use Prim.Native.Nat.{ℕ, ◌+◌, ◌^◌, ◌<◌}
use native.Mathlib.Omega.{arith}
use lib.ListN.{length, length-append, get_or-replicate, length-replicate}
use Rattle.sessions.proofs.Laws.{empty_law}
use Rattle.demands.proofs.Held.{Past, no_past, Held}
use Rattle.tunnel.specs.Control.{new_control}
use Rattle.tunnel.specs.declared.answer.Answer.TheVariants.{Done}
use Rattle.demands.proofs.Created.{created_is}
use Rattle.demands.proofs.Grown.{sound_step, sound_created}
use Rattle.demands.proofs.Known.{Known, known_as}
use Rattle.demands.proofs.Queued.{queue_new}
use Rattle.demands.proofs.Stepped.{next}
use Rattle.demands.specs.Calls.{Call, World, Reply, step, after, Creation, creating, created, Good}
use Rattle.demands.specs.Made.{Made, made, Insertion, insertion_by, inserted, insertions}
use Rattle.demands.specs.LastHeard.{heard_from, heard_of}
use Rattle.demands.specs.Receiving.{history_from, history_of}
use Rattle.demands.specs.Sending.{Grant, woken_grant, answered_grant, woken_grants, grants_from, grants, counters_of, PolledKeepalive, polled_by, polled}
use Rattle.base.specs.Lists.{up_from, zeros}
use Rattle.base.proofs.Zeros.{length_zeros}
use Rattle.sessions.specs.Session.{empty_session}
use Rattle.sessions.specs.Sessions.{empty_slots, new_sessions}
use Rattle.tunnel.specs.Sound.{Sound}
use Rattle.tunnel.specs.Tunnel as calls
use Rattle.tunnel.specs.Tunnel.{Called, answered}
use Rattle.std.specs.Prelude.{Ok}

-- what calls committed to a session
abbrev pub past_of : ℕ → World → List Call → Past
past_of id w calls = record { history = history_of id w calls; heard = heard_of id w calls }

-- what is known after a list of calls
abbrev KnownAfter : (ins : List Insertion) (h : ℕ → Past) (g k : List Grant) (polls : List PolledKeepalive) → World → List Call → Type 0
KnownAfter ins h g k polls w calls =
    Known (ins ++ inserted (made w calls)) (λ id. record { history = history_from id (h id).history (made w calls); heard = heard_from id (h id).heard (made w calls) }) (g ++ grants_from (length ins) (made w calls))
    (k ++ woken_grants (made w calls)) (polls ++ polled (made w calls)) (after w calls).tunnel.control (after w calls).store

-- what follows grants, and what follows that
assoc_three : (g a v r : List Grant) → g ++ (a ++ (v ++ r)) ≡ (g ++ (a ++ v)) ++ r
assoc_three g a v r = ap (λ (l : List Grant). g ++ l) (sym (append_assoc a v r)) ∙ sym (append_assoc g (a ++ v) r)

-- the grants of the first call, and of those that follow
grants_first : (ins m : List Insertion) (g a v : List Grant) (later : List Made)
    → g ++ (a ++ (v ++ grants_from (length ins + length m) later)) ≡ (g ++ (a ++ v)) ++ grants_from (length (ins ++ m)) later
grants_first ins m g a v later = rw (length-append ins m) (assoc_three g a v (grants_from (length ins + length m) later))

known_after : (calls : List Call) (ins : List Insertion) (h : ℕ → Past) (g k : List Grant) (polls : List PolledKeepalive) (w : World) → Sound w.tunnel
    → length ins + insertions (made w calls) < 2 ^ 64 → Known ins h g k polls w.tunnel.control w.store → KnownAfter ins h g k polls w calls
unfolding made inserted history_from heard_from grants_from woken_grants polled after
known_after [] ins h g k polls w s few y =
    known_as ins _ h g _ k _ polls _ _ _ (append-nil ins) (append-nil g) (append-nil k) (append-nil polls) y
known_after (call ∷ calls) ins h g k polls w s few y =
    let reply : Reply = step w call in
    let m : List Insertion = insertion_by call reply.answer in
    let later : List Made = made reply.world calls in
    let all : length (m ++ inserted later) ≡ length m + length (inserted later) = length-append m (inserted later) in
    let more : length (ins ++ m) ≡ length ins + length m = length-append ins m in
    known_as _ _ _ _ _ _ _ _ _ _ _ (sym (append_assoc ins m (inserted later)))
    (grants_first ins m g (answered_grant (length ins) w reply.answer) (woken_grant w call reply) later)
    (sym (append_assoc k (woken_grant w call reply) (woken_grants later)))
    (sym (append_assoc polls (polled_by reply.answer) (polled later)))
    (known_after calls (ins ++ m) _ _ _ _ reply.world (sound_step w call s) (omega (arith, few, all, more))
    (next ins h g k polls w y s call (omega (arith, few, all))))

none_granted : [] ≡ up_from 0 0
unfolding up_from
none_granted = refl

no_counters : (id : ℕ) → counters_of id [] ≡ []
unfolding counters_of
no_counters id = refl

held_new : (index : ℕ) → Held [] (λ id. no_past) [] (new_sessions index) (zeros 1024)
unfolding new_sessions empty_slots
held_new index =
    record {
      eight = length-replicate 8 empty_session;
      size = length_zeros 1024;
      count = refl;
      slots = λ k low f. absurd (empty_law.unfilled _ (get_or-replicate 8 k empty_session empty_session low) f);
      apart = λ j k a b e f q. absurd (empty_law.unfilled _ (get_or-replicate 8 j empty_session empty_session a) e);
      unborn = λ id l. refl;
      ungranted = λ id l. no_counters id;
      runs = λ id. record { count = 0; are = no_counters id ∙ none_granted; below = omega arith };
    }

known_new : (index keepalive now : ℕ) (a : Called) → a ≡ record { answered = answered (calls.new_tunnel index keepalive now) (Ok Done); store = zeros 1024 }
    → Known [] (λ id. no_past) [] [] [] a.answered.tunnel.control a.store
unfolding calls.new_tunnel new_control
known_new index keepalive now a e = rw e (record { held = held_new index; queue = queue_new })

known_created : (c : Creation) → Good c → Known [] (λ id. no_past) [] [] [] (created c).tunnel.control (created c).store
known_created c good = known_new c.index c.keepalive c.now (creating c) (created_is c good)

-- what is known after a list of calls from a creation that is not turned down
pub known_run : (c : Creation) → Good c → (calls : List Call) → insertions (made (created c) calls) < 2 ^ 64
    → Known (inserted (made (created c) calls)) (λ id. past_of id (created c) calls) (grants (made (created c) calls)) (woken_grants (made (created c) calls))
    (polled (made (created c) calls)) (after (created c) calls).tunnel.control (after (created c) calls).store
known_run c good calls few = known_after calls [] (λ id. no_past) [] [] [] (created c) (sound_created c) (omega (arith, few)) (known_created c good)
