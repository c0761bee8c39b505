pub mod Laws
pub mod LittleEndian
