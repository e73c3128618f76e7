pub mod Closing
pub mod Becoming
pub mod Built
pub mod Firsts
pub mod Reading
pub mod Laws
pub mod Folds
pub mod Wants
