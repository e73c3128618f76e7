pub mod Star
pub mod ClosureLaws
pub mod StarFolds
