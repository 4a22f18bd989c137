pub mod Accesses
pub mod Status
pub mod Tasks
pub mod Through
