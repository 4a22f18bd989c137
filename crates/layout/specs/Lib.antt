pub mod Words
pub mod Records
pub mod Encoding
pub mod Faults
pub mod Partition
pub mod Refusals
pub mod Lines
pub mod Acceptance
