-- The example's call is live, and its verdicts and skips are those that the batch's law gives.
-- Assumes nothing.
use mathlib.Core.Path.{◌≡◌, refl, ◌∙◌}
use mathlib.Core.Bool.{true}
use mathlib.Core.List.{[], ◌∷◌}
use lib.ListN.{length}
use Rattle.base.specs.Choice.{choose, case_option}
use Rattle.window.specs.Window.{is_invalid}
use Rattle.window.specs.History.{member, expected, judged, skipped_after}
use Rattle.sessions.specs.Index.{slot_of}
use Rattle.sessions.specs.Store.{put_slot}
use Rattle.base.specs.Lists.{zeros}
use Rattle.sessions.specs.Session.{new_session, empty_session, expired_at}
use Rattle.sessions.specs.Sessions.{empty_slots, new_sessions, in_slot_of, get, put, inserting, insert}
use Rattle.sessions.specs.Batch.{known, fits, receiving_session}
use Rattle.demands.specs.History.{verdict_on, skip_on, recorded, each_on, verdicts_on, skips_on, Stands}
use Rattle.demands.specs.History.{BatchFor}
use Rattle.demands.specs.BatchExample.{first_session, first_held}
use Rattle.demands.specs.BatchExample.{example, BatchExampleLaw}
use Rattle.demands.proofs.Judged.{inserted_law, batch_law}
use Rattle.std.specs.Prelude.{Some}

eight_slots : length (new_sessions 256).slots ≡ 8
unfolding new_sessions empty_slots
eight_slots = refl

words_held : length (zeros 1024) ≡ 1024
unfolding zeros
words_held = refl

stands_first : Stands [] first_held.sessions first_held.store (slot_of 257)
unfolding first_held first_session new_session
stands_first = (inserted_law (new_sessions 256) (zeros 1024) first_session eight_slots words_held refl).stands

slots_first : length first_held.sessions.slots ≡ 8
unfolding first_held first_session new_session new_sessions empty_slots insert inserting put zeros choose
slots_first = refl

store_first : length first_held.store ≡ 1024
unfolding first_held first_session new_session new_sessions insert put_slot zeros choose
store_first = refl

found_first : receiving_session first_held.sessions 257 0 0 ≡ Some first_session
unfolding first_held first_session new_session new_sessions empty_slots empty_session insert inserting put zeros in_slot_of get receiving_session expired_at case_option choose
found_first = refl

fits_first : fits (0 ∷ 5 ∷ 0 ∷ []) (0 ∷ 0 ∷ 0 ∷ []) (0 ∷ 0 ∷ 0 ∷ []) (0 ∷ 0 ∷ 0 ∷ []) ≡ true
unfolding fits known choose
fits_first = refl

live_first : BatchFor example first_session []
unfolding example
live_first = record { eight = slots_first; size = store_first; batch = fits_first; found = found_first; stands = stands_first }

judged_first : verdicts_on [] (0 ∷ 5 ∷ 0 ∷ []) (0 ∷ 0 ∷ 0 ∷ []) ≡ 0 ∷ 0 ∷ 10 ∷ []
unfolding each_on verdict_on recorded judged is_invalid expected member choose
judged_first = refl

skipped_first : skips_on [] (0 ∷ 5 ∷ 0 ∷ []) (0 ∷ 0 ∷ 0 ∷ []) ≡ 0 ∷ 4 ∷ 0 ∷ []
unfolding each_on skip_on skipped_after verdict_on recorded judged is_invalid expected member choose
skipped_first = refl

pub batch_example : BatchExampleLaw
unfolding example
batch_example =
    record {
      live = live_first;
      verdicts = (batch_law example first_session [] live_first).judges ∙ judged_first;
      skips = (batch_law example first_session [] live_first).skips ∙ skipped_first;
    }
