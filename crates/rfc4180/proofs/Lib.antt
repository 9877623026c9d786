pub mod Broken
pub mod Counting
pub mod Cuts
pub mod Ends
pub mod Fields
pub mod Once
pub mod Reading
pub mod Stops
