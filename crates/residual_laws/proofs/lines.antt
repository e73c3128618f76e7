pub mod RateDebt
pub mod Lines
