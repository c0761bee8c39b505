pub mod Digits
pub mod HexLaws
pub mod HexReading
pub mod HexWriting
pub mod Putting
