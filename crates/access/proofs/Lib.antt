pub mod Laws
pub mod Table
pub mod Through
pub mod Trainer
