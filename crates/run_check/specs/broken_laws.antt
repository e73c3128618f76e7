pub mod Recorded
pub mod Worked
pub mod Broken
pub mod FirstBroken
pub mod Tracked
pub mod Laws
