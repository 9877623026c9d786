pub mod Tested
pub mod Improving
pub mod Along
pub mod Visiting
pub mod Admitted
