mod OfKind
pub mod Arms
pub mod Totals
pub mod Stopping
pub mod Tallying
pub mod HaveNumbers
pub mod PathSums
pub mod Rises
pub mod Meeting
pub mod Shapes
pub mod Handing
pub mod SumSteps
pub mod PartSteps
pub mod PartSums
pub mod PathSteps
pub mod SharedCounts
pub mod LastServices
pub mod OperatorStopping
