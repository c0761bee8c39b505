-- The low eight bits of a local index written anew.
-- Assumes nothing.
use Rattle.std.proofs.Common.{◌≡◌, ℕ, ◌+◌, ◌*◌, ◌/◌, ◌%◌, ◌^◌, ◌<◌, bit_and, bit_or, arith, lit≤}
use Rattle.std.proofs.lemmas.Nat.{or_shifted}
use Rattle.std.proofs.lemmas.Nat.Bits.{and_high_mask}
use Rattle.sessions.specs.Index.{wrapping_increment}

pub low_written : (index low : ℕ) → index < 2 ^ 32 → low ≡ (index % 256 + 1) % 256 → bit_or (bit_and index 4294967040) low ≡ wrapping_increment index
unfolding wrapping_increment
low_written index low h l =
    let upper : bit_and index 4294967040 ≡ index / 256 * 256 = and_high_mask 32 8 (lit≤ tt) index h in
    let joined : bit_or (index / 256 * 256) low ≡ index / 256 * 256 + low = or_shifted (index / 256) 8 low (omega arith) in
    rw (upper, joined) (omega arith)
