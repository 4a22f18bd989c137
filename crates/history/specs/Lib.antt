pub mod Accesses
pub mod Answers
pub mod Histories
pub mod Runs
pub mod Isolation
