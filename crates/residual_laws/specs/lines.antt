pub mod RateDebt
pub mod LineLaws
