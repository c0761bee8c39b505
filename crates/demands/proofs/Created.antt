-- What a creation that is not turned down hands back.
-- Assumes nothing.
use mathlib.Core.Path.{◌≡◌, refl, ap}
use native.Mathlib.Omega.{arith}
use Rattle.base.specs.Choice.{case_result}
use Rattle.base.specs.Lists.{zeros}
use Rattle.demands.specs.Calls.{Creation, creating, created, Good}
use Rattle.tunnel.specs.Answer.{number_of}
use Rattle.tunnel.specs.Arguments.{creation_number}
use Rattle.tunnel.specs.Tunnel.{Called, answered, call_new, new_tunnel, refused}
use Rattle.tunnel.specs.declared.answer.Answer.TheVariants.{Done}
use Rattle.error.proofs.Laws.{positive_law}
use Rattle.error.specs.Error.{error_number}
use Rattle.error.specs.declared.Error.{Error}
use Rattle.std.specs.Prelude.{Result, Ok, Err}

of_good : (r : Result Unit Error) (turned : Error → Called) (made : Called) → ((e : Error) → number_of (turned e).answered.answer ≡ error_number e)
    → number_of (case_result r turned (λ good. made)).answered.answer ≡ 0 → case_result r turned (λ good. made) ≡ made
unfolding case_result
of_good (Ok good) turned made q e = refl
of_good (Err error) turned made q e = absurd (omega (arith, q error, e, positive_law error))

pub created_is : (c : Creation) → Good c → creating c ≡ record { answered = answered (new_tunnel c.index c.keepalive c.now) (Ok Done); store = zeros 1024 }
unfolding call_new refused number_of
created_is c good = of_good (creation_number c.store c.keepalive c.now) _ _ (λ e. refl) good

pub good_made : (c : Creation) → Good c → created c ≡ record { tunnel = new_tunnel c.index c.keepalive c.now; store = zeros 1024 }
good_made c g = ap (λ (x : Called). record { tunnel = x.answered.tunnel; store = x.store }) (created_is c g)
