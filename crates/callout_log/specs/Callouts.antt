-- The callouts of a log one by one, from the last to the front.
use Rattle.std.specs.Prelude.{◌≡◌, ◌-◌, ◌<◌, Option, MatchOption}
use Rattle.callout_log.specs.Trailer.{count_before, distance}
use Rattle.callout_log.specs.declared.log.Callout.{Callout}
use Rattle.callout_log.specs.declared.log.Callouts.{Callouts}

-- A callout ends at the place that was come to, and its first record is the next one.
pub record StepsBack (before : Callouts) (callout : Callout) (after : Callouts) : Type 0 where
  pub behind : 0 < before.end
  pub count : callout.count ≡ count_before before.bytes.now before.end
  pub first : callout.first ≡ before.end - distance callout.count
  pub next : after.end ≡ callout.first
  pub same : after.bytes.now ≡ before.bytes.now

-- what a step gives: nothing at the front, and else a callout
abbrev pub Steps : Callouts → Option Callout → Callouts → Type 0
Steps before callout after = MatchOption callout (before.end ≡ 0) (λ (c : Callout). StepsBack before c after)
