pub mod SumBit
pub mod Unselected
pub mod TaskAnswers
