pub mod Feasible
pub mod Searches
pub mod Admitting
