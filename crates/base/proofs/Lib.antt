pub mod Bits
pub mod Choice
pub mod Counting
pub mod First
pub mod Parts
pub mod Sums
pub mod Zeros
