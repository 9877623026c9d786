pub mod Placing
pub mod Texts
pub mod Lines
