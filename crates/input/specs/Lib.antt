pub mod Cells
pub mod Entries
pub mod Headers
pub mod Numbers
pub mod ProcessorFiles
pub mod Showing
pub mod TaskFiles
pub mod Walk
