pub mod Parts
pub mod Inside
pub mod Fits
pub mod Text
pub mod Multiple
pub mod Laws
pub mod wide_sums
