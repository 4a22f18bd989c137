pub mod Bounds
pub mod Registers
pub mod Entries
pub mod Checks
pub mod Tables
pub mod RegisterCalls
pub mod Contexts
