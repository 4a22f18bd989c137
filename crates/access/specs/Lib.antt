pub mod Cases
pub mod Refusals
pub mod Formed
pub mod Kinds
pub mod Rights
