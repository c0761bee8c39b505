-- The choice by cases over each enum, and its rules: a value equals a choice by cases if the case is known and the value equals what the case gives.
use Rattle.std.specs.Prelude.{◌≡◌, ℕ}
use Rattle.tunnel.specs.declared.event.Event.{Event}
use Rattle.tunnel.specs.declared.event.Event.TheVariants.{SendHandshakeInitiation, SendKeepalive, Established, ConnectionExpired}
use Rattle.tunnel.specs.declared.handshake.HandshakeState.{HandshakeState}
use Rattle.tunnel.specs.declared.handshake.HandshakeState.TheVariants.{None, InitSent, Expired}

module _ {A : Type 0} where
  -- one value for each initiation, each keepalive, each established event, and one for the expired event
  unfoldable pub case_event : Event → (ℕ → A) → (ℕ → ℕ → A) → (ℕ → ℕ → A) → A → A
  case_event (SendHandshakeInitiation local) i k e y = i local
  case_event (SendKeepalive peer counter) i k e y = k peer counter
  case_event (Established started confirmed) i k e y = e started confirmed
  case_event ConnectionExpired i k e y = y

  -- one value for no handshake, one for each initiation sent, one for the expired state
  unfoldable pub case_state : HandshakeState → A → (ℕ → ℕ → A) → A → A
  case_state None x f y = x
  case_state (InitSent local sent) x f y = f local sent
  case_state Expired x f y = y

module _ {A : Type 0} where
  module _ (s : HandshakeState) (v x : A) (f : ℕ → ℕ → A) (y : A) where
    pub no_handshake : s ≡ None → v ≡ x → v ≡ case_state s x f y
    unfolding case_state
    no_handshake p q = rw p q

    pub is_sent : (local sent : ℕ) → s ≡ InitSent local sent → v ≡ f local sent → v ≡ case_state s x f y
    unfolding case_state
    is_sent local sent p q = rw p q

    pub is_expired_lem : s ≡ Expired → v ≡ y → v ≡ case_state s x f y
    unfolding case_state
    is_expired_lem p q = rw p q

  module _ (event : Event) (v : A) (i : ℕ → A) (k s : ℕ → ℕ → A) (y : A) where
    pub is_initiation : (local : ℕ) → event ≡ SendHandshakeInitiation local → v ≡ i local → v ≡ case_event event i k s y
    unfolding case_event
    is_initiation local p q = rw p q

    pub is_keepalive : (peer counter : ℕ) → event ≡ SendKeepalive peer counter → v ≡ k peer counter → v ≡ case_event event i k s y
    unfolding case_event
    is_keepalive peer counter p q = rw p q

    pub is_established : (a b : ℕ) → event ≡ Established a b → v ≡ s a b → v ≡ case_event event i k s y
    unfolding case_event
    is_established a b p q = rw p q

    pub is_ended : event ≡ ConnectionExpired → v ≡ y → v ≡ case_event event i k s y
    unfolding case_event
    is_ended p q = rw p q

pub ruleset states = (no_handshake, is_sent, is_expired_lem)

pub ruleset events = (is_initiation, is_keepalive, is_established, is_ended)
