pub mod Bits
pub mod Choice
pub mod First
pub mod Lists
pub mod Sums
