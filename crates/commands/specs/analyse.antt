pub mod OnFiles
pub mod Laws
