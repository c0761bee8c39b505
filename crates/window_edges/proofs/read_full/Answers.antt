use Rattle.std.proofs.Common.{◌≡◌, ℕ, ◌+◌, ◌≤◌, List, ◌++◌, rules, length, take, drop, sym, ap, ◌∙◌, subst, le_refl, drop_at, length-take-le}
use Rattle.std.proofs.lemmas.Slice.{take-put_mid_below}
use Rattle.std.specs.Io.KnownBytes.{Consumes}
use Rattle.std.proofs.KnownBytes.{Consumes-trans}
use borrow.Rule.Slice.PartMut.{put_mid, post_of}
use lib.Seq.{take-add, take-append-le}
use Rattle.window_edges.proofs.read_full.Goals as goal

-- bytes put behind so many others stand behind them
take-put_mid_more : (at room n : ℕ) (old new : List ℕ) → at ≤ length old → n ≤ length new
    → take (at + n) (put_mid at room old new) ≡ take at old ++ take n new
take-put_mid_more at room n old new within fits =
    take-add at n (put_mid at room old new)
    ∙ ap (λ (l : List ℕ). l ++ take n (drop at (put_mid at room old new))) (take-put_mid_below _ _ _ _ _ (le_refl _) within)
    ∙ ap (λ (l : List ℕ). take at old ++ take n l) (drop_at (take at old) (new ++ post_of at room old) at (length-take-le at old within))
    ∙ ap (λ (l : List ℕ). take at old ++ l) (take-append-le n new (post_of at room old) fits)

pub loop-at-preserved : goal.loop-at-preserved
loop-at-preserved g c =
    let more = take-put_mid_more c.loop-at.at _ c.in_ok-came.came c.loop-at.buffer c.read.new.buf c.loop-at.invariant.within c.in_ok-came.ensures.bound.0 in
    record {
      within = search rules;
      taken = subst (Consumes _ _) (sym more) (Consumes-trans _ _ _ _ _ c.loop-at.invariant.taken c.in_ok-came.ensures.bytes.0);
    }
