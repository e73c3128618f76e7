pub mod Heights
pub mod Bends
pub mod Greatest
pub mod Meetings
pub mod Peaks
pub mod Slow
