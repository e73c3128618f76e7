pub mod Replies
pub mod View
pub mod Loads
pub mod Reports
pub mod Sums
pub mod Promises
pub mod OnTables
pub mod Laws
