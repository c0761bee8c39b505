pub mod Laws
pub mod Message
