pub mod Batches
pub mod Laws
pub mod LowByte
pub mod Missing
pub mod Reservations
pub mod Slots
pub mod Words
