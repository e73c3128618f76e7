pub mod GivesAnswers
pub mod Rows
pub mod Fronts
