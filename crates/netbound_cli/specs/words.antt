pub mod Apps
pub mod Requests
pub mod View
