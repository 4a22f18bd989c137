pub mod Playing
pub mod Parts
pub mod Steps
pub mod Listed
pub mod Long
