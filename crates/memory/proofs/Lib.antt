pub mod Values
pub mod Meanings
pub mod Parts
pub mod Delivered
pub mod Sides
pub mod Copies
pub mod Buffers
