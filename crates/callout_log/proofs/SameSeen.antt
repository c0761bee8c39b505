-- Logs that differ only in hidden bytes are seen alike.
-- Assumes nothing.
use Rattle.std.specs.Prelude.{Err}
use Rattle.error.specs.declared.Error.TheVariants.{InvalidArgument}
use mathlib.Core.Path.{◌≡◌, refl, ap, sym, ◌∙◌}
use mathlib.Core.Bool.{Bool, true, false, true≢false}
use mathlib.Core.List.{List}
use Prim.Native.Nat.{ℕ, ◌≤◌, ◌<◌}
use native.Mathlib.Omega.{arith}
use lib.ListN.{length, get_or, take}
use lib.Seq.{ext_get_or, get_or-take, length-take-le}
use Rattle.base.specs.Choice.{choose}
use Rattle.endian.specs.LittleEndian.{Bytes}
use Rattle.callout_log.specs.Trailer.{is_trailer}
use Rattle.callout_log.specs.Log.{ends, every, is_store, places}
use Rattle.callout_log.specs.Read.{Lists, read_bytes, reading}
use Rattle.callout_log.specs.View.{hide_all, pointed, read_seen, seen, view_bytes, viewing, view_log}
use Rattle.callout_log.specs.ViewLaws.{DifferHidden, HiddenByte, SameSeenLaw}
use Rattle.callout_log.proofs.Broken.{all_trailers}
use Rattle.callout_log.proofs.Exact.{true_store}
use Rattle.callout_log.proofs.Hiding.{covers}
use Rattle.callout_log.proofs.HiddenBytes.{hidden_covered}
use Rattle.callout_log.proofs.Seen.{SameLog, hidden, same_log}
use Rattle.callout_log.proofs.Stands.{take_bytes}

-- two logs of one length that differ only in hidden bytes
module _ (a b : List ℕ) (long : length b ≡ length a) (bytes : Bytes a) (small : length a ≤ 65536)
    (same : (i : ℕ) → i < length a → (HiddenByte a i → ⊥) → get_or b i 0 ≡ get_or a i 0) where
  -- where a trailer breaks its rule nothing is hidden
  equal_logs : every (is_trailer a) (ends a) ≡ false → b ≡ a
  equal_logs e =
      ext_get_or 0 b a long (λ i l. same i (omega (arith, long, l)) (λ x. true≢false (sym (all_trailers a bytes small x.sound) ∙ e)))

  module _ (good : every (is_trailer a) (ends a) ≡ true) where
    alike : SameLog a b
    alike = same_log a good b long (λ i l e. same i l (λ x. true≢false (sym (hidden_covered a bytes small i x) ∙ e)))

    -- their views are the same
    hidden_equal : hide_all (places b) b ≡ hide_all (places a) a
    unfolding choose
    hidden_equal =
        ext_get_or 0 (hide_all (places b) b) (hide_all (places a) a) ((hidden b alike.trailers).long ∙ long ∙ sym (hidden a good).long)
        (λ i l. (hidden b alike.trailers).byte i ∙ byte i (omega (arith, l, (hidden b alike.trailers).long, long)) ∙ sym ((hidden a good).byte i))
      where
        byte : (i : ℕ) → i < length a → choose (covers (places b) i) 0 (get_or b i 0) ≡ choose (covers (places a) i) 0 (get_or a i 0)
        byte i l = ap (λ (p : List ℕ). choose (covers p i) 0 (get_or b i 0)) alike.kept ∙ decide (covers (places a) i) refl
          where
            decide : (c : Bool) → covers (places a) i ≡ c → choose (covers (places a) i) 0 (get_or b i 0) ≡ choose (covers (places a) i) 0 (get_or a i 0)
            decide true e = rw e refl
            decide false e = rw e (same i l (λ x. true≢false (sym (hidden_covered a bytes small i x) ∙ e)))

    seen_good : seen true b ≡ seen true a
    unfolding seen pointed choose
    seen_good = rw (good, alike.trailers) hidden_equal

    view_good : (lent : List ℕ) → view_bytes true b lent ≡ view_bytes true a lent
    unfolding view_bytes choose
    view_good lent =
        rw (good, alike.trailers, alike.records, long, seen_good) refl

  seen_equal : seen true b ≡ seen true a
  seen_equal = decide (every (is_trailer a) (ends a)) refl
    where
      decide : (t : Bool) → every (is_trailer a) (ends a) ≡ t → seen true b ≡ seen true a
      decide true e = seen_good e
      decide false e = ap (seen true) (equal_logs e)

  view_equal : (lent : List ℕ) → view_bytes true b lent ≡ view_bytes true a lent
  view_equal lent = decide (every (is_trailer a) (ends a)) refl
    where
      decide : (t : Bool) → every (is_trailer a) (ends a) ≡ t → view_bytes true b lent ≡ view_bytes true a lent
      decide true e = view_good e lent
      decide false e = ap (λ (l : List ℕ). view_bytes true l lent) (equal_logs e)

-- two stores that differ only in hidden bytes
module _ (a b : List ℕ) (used : ℕ) (bytes : Bytes a) (d : DifferHidden a b used) where
  module _ (s : is_store (length a) used ≡ true) where
    bounds : (length a ≤ 65536) × (used ≤ length a)
    bounds = true_store (length a) used s

    front_a : length (take used a) ≡ used
    front_a = length-take-le used a bounds.1

    front_b : length (take used b) ≡ used
    front_b = length-take-le used b (omega (arith, d.size, bounds.1))

    bytes_same : (i : ℕ) → i < length (take used a) → (HiddenByte (take used a) i → ⊥) → get_or (take used b) i 0 ≡ get_or (take used a) i 0
    bytes_same i l x =
        let h : i < used = omega (arith, l, front_a) in
        get_or-take used b i 0 h ∙ sym (d.same i h x) ∙ sym (get_or-take used a i 0 h)

    seen_stores : seen true (take used b) ≡ seen true (take used a)
    seen_stores = seen_equal (take used a) (take used b) (front_b ∙ sym front_a) (take_bytes used a bytes) (omega (arith, front_a, bounds.0, bounds.1)) bytes_same

    view_stores : (lent : List ℕ) → view_bytes true (take used b) lent ≡ view_bytes true (take used a) lent
    view_stores = view_equal (take used a) (take used b) (front_b ∙ sym front_a) (take_bytes used a bytes) (omega (arith, front_a, bounds.0, bounds.1)) bytes_same

  same_views : (lent : List ℕ) → view_log true a used lent ≡ view_log true b used lent
  unfolding view_log choose
  same_views lent = ap (λ (n : ℕ). choose (is_store n used) (view_bytes true (take used a) lent) (viewing (Err InvalidArgument) lent)) d.size ∙ decide (is_store (length b) used) refl
    where
      decide : (t : Bool) → is_store (length b) used ≡ t
          → choose (is_store (length b) used) (view_bytes true (take used a) lent) (viewing (Err InvalidArgument) lent) ≡ choose (is_store (length b) used) (view_bytes true (take used b) lent) (viewing (Err InvalidArgument) lent)
      decide true e = rw e (sym (view_stores (ap (λ (n : ℕ). is_store n used) d.size ∙ e) lent))
      decide false e = rw e refl

  same_reads : (l : Lists) → read_seen true a used l ≡ read_seen true b used l
  unfolding read_seen choose
  same_reads l =
      ap (λ (n : ℕ). choose (is_store n used) (read_bytes (seen true (take used a)) l) (reading (Err InvalidArgument) l)) d.size ∙ decide (is_store (length b) used) refl
    where
      decide : (t : Bool) → is_store (length b) used ≡ t
          → choose (is_store (length b) used) (read_bytes (seen true (take used a)) l) (reading (Err InvalidArgument) l)
          ≡ choose (is_store (length b) used) (read_bytes (seen true (take used b)) l) (reading (Err InvalidArgument) l)
      decide true e = rw e (ap (λ (log : List ℕ). read_bytes log l) (sym (seen_stores (ap (λ (n : ℕ). is_store n used) d.size ∙ e))))
      decide false e = rw e refl

-- logs that differ only in hidden bytes are seen alike
pub same_seen_law : SameSeenLaw
same_seen_law = record { views = λ a b used lent x d. same_views a b used x d lent; reads = λ a b used l x d. same_reads a b used x d l }
