pub mod Counted
pub mod History
pub mod Laws
pub mod Ready
pub mod Steps
pub mod Verdict
pub mod Words
