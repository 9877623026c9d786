pub mod Gains
pub mod Intervals
pub mod Listed
pub mod FindMap
pub mod Growth
pub mod Longest
pub mod Streams
pub mod Same
