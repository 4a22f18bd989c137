pub mod Planning
pub mod Accessing
pub mod Points
pub mod Passing
pub mod Storing
pub mod Separating
pub mod Isolation
