pub mod Datagrams
pub mod Headers
pub mod Laws
pub mod Reading
pub mod Writing
