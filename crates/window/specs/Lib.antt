pub mod History
pub mod Window
