pub mod Results
pub mod Standing
pub mod Turns
pub mod Ran
