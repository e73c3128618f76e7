pub mod NetHistories
pub mod Causes
pub mod Answered
pub mod Said
pub mod OnEdits
pub mod EditCounts
pub mod Laws
pub mod EditCauses
