pub mod Laws
pub mod Rights
pub mod User
