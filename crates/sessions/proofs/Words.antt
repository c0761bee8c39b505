-- The lent store by slots: what a part of it is, and what a part put back leaves.
-- Assumes nothing.
use Rattle.std.proofs.Common.{◌≡◌, ℕ, ◌+◌, ◌-◌, ◌*◌, ◌<◌, ◌≤◌, List, ◌++◌, length, replicate, take, drop, sym, ap, ◌∙◌, append_assoc, arith, length-append, length-drop, take-append-drop, length-take, length-take-le, take_all, take-take, drop-drop, take_at, drop_at}
use native.Mathlib.Decide.{dec_le}
use lib.Seq.{take-append-le, drop-append-le, drop-append-add}
use borrow.Rule.Slice.PartMut.{put_mid}
use Rattle.base.specs.Lists.{zeros}
use Rattle.base.proofs.Zeros.{length_zeros}
use Rattle.sessions.specs.Store.{slot_words, put_slot, Leaves}

-- a part lent on is a slot's words
pub part_is : (store : List ℕ) (k start end : ℕ) → start ≡ 128 * k → end ≡ 128 * k + 128 → take (end - start) (drop start store) ≡ slot_words store k
unfolding slot_words
part_is store k start end s e = grind arith

-- the store after a part came back
pub part_put : (store words : List ℕ) (k start end : ℕ) → length words ≡ 128 → start ≡ 128 * k → end ≡ 128 * k + 128
    → put_mid start (end - start) store words ≡ put_slot store k words
unfolding put_slot
part_put store words k start end long s e =
    let size : end - start ≡ 128 = omega arith in
    rw (take_all 128 words (omega arith), long, size, s) (ap (λ (x : List ℕ). take (128 * k) store ++ (words ++ x)) (drop-drop 128 (128 * k) store))

-- a slot's words are 128
pub slot_long : (store : List ℕ) (k : ℕ) → length store ≡ 1024 → k < 8 → length (slot_words store k) ≡ 128
unfolding slot_words
slot_long store k l h = length-take-le 128 (drop (128 * k) store) (rw length-drop (omega arith))

-- a slot's own words put back
pub put_own : (store : List ℕ) (k : ℕ) → length store ≡ 1024 → k < 8 → put_slot store k (slot_words store k) ≡ store
unfolding put_slot slot_words
put_own store k l low =
    let long : length (take 128 (drop (128 * k) store)) ≡ 128 = unfold slot_words in slot_long store k l low in
    rw (take-take 128 128 (drop (128 * k) store) (omega arith), long, ← drop-drop 128 (128 * k) store, take-append-drop 128 (drop (128 * k) store))
    (take-append-drop (128 * k) store)

-- a slot of a store zeroed as a part of it
pub slot_zeroed : (store words : List ℕ) (k start end : ℕ) → length store ≡ 1024 → k < 8 → start ≡ 128 * k → end ≡ 128 * k + 128
    → words ≡ replicate (length (take (end - start) (drop start store))) 0 → put_mid start (end - start) store words ≡ put_slot store k (zeros 128)
unfolding zeros
slot_zeroed store words k start end l h s e z =
    let zeroed : words ≡ zeros 128 = z ∙ ap (λ (n : ℕ). replicate n 0) (ap length (part_is store k start end s e) ∙ slot_long store k l h) in
    part_put store words k start end (ap length zeroed ∙ length_zeros 128) s e ∙ ap (put_slot store k) zeroed

-- the words of a slot among those of a store, where the slot lies before or after a place
front : (a r : List ℕ) (n : ℕ) → n + 128 ≤ length a → take 128 (drop n (a ++ r)) ≡ take 128 (drop n a)
front a r n h = rw (drop-append-le n a r (omega arith)) (take-append-le 128 (drop n a) r (rw length-drop (omega arith)))

module _ (store words : List ℕ) (k : ℕ) (l : length store ≡ 1024) (low : k < 8) where
  -- what is put
  abbrev these : List ℕ
  these = take 128 words

  few : length these ≤ 128
  few = omega (arith, length-take 128 words)

  before : length (take (128 * k) store) ≡ 128 * k
  before = length-take-le (128 * k) store (omega arith)

  -- the store behind what is put
  abbrev behind : List ℕ
  behind = drop (128 * k + length these) store

  pub length_put : length (put_slot store k words) ≡ 1024
  unfolding put_slot
  length_put = simp (length-append, length-drop) (omega (arith, before, few))

  -- the slot itself
  pub slot_same : length words ≡ 128 → slot_words (put_slot store k words) k ≡ words
  unfolding slot_words put_slot
  slot_same long =
      rw (take_all 128 words (omega arith), drop_at (take (128 * k) store) (words ++ drop (128 * k + length words) store) (128 * k) before)
      (take_at words (drop (128 * k + length words) store) 128 long)

  -- a slot before it
  slot_before : (j : ℕ) → j < k → slot_words (put_slot store k words) j ≡ slot_words store j
  unfolding slot_words put_slot
  slot_before j h =
      front (take (128 * k) store) (these ++ behind) (128 * j) (omega (arith, before))
      ∙ sym (front (take (128 * k) store) (drop (128 * k) store) (128 * j) (omega (arith, before)))
      ∙ ap (λ (x : List ℕ). take 128 (drop (128 * j) x)) (take-append-drop (128 * k) store)

  -- a slot after it
  slot_after_lem : (j : ℕ) → k < j → slot_words (put_slot store k words) j ≡ slot_words store j
  unfolding slot_words put_slot
  slot_after_lem j h =
      let size : length (take (128 * k) store ++ these) ≡ 128 * k + length these = rw length-append (omega (arith, before)) in
      let place : 128 * j ≡ length (take (128 * k) store ++ these) + (128 * j - (128 * k + length these)) = omega (arith, size, few) in
      let there : 128 * k + length these + (128 * j - (128 * k + length these)) ≡ 128 * j = omega (arith, few) in
      ap (take 128)
      (ap (drop (128 * j)) (sym (append_assoc (take (128 * k) store) these behind))
      ∙ ap (λ (n : ℕ). drop n ((take (128 * k) store ++ these) ++ behind)) place
      ∙ drop-append-add (take (128 * k) store ++ these) behind (128 * j - (128 * k + length these))
      ∙ drop-drop (128 * j - (128 * k + length these)) (128 * k + length these) store ∙ ap (λ (n : ℕ). drop n store) there)

  pub slot_other : (j : ℕ) → (j ≡ k → ⊥) → slot_words (put_slot store k words) j ≡ slot_words store j
  slot_other j d = elim (dec_le k j) [
    | yes h ↦ slot_after_lem j (omega arith)
    | no h ↦ slot_before j (omega arith)
  ]

-- what a call leaves, by its two parts
pub left_so : {A : Type 0} (answer shall : A) (left should : List ℕ) → answer ≡ shall → left ≡ should → Leaves answer shall left should
left_so answer shall left should e f = record { out = e; words = f }
