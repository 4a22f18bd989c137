pub mod Firsts
pub mod Parting
pub mod Joining
pub mod Fronts
pub mod Whole
pub mod Accepting
