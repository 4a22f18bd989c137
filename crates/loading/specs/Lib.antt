pub mod Grants
pub mod Played
pub mod Lines
pub mod Reports
