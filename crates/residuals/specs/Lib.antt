pub mod packetiser
pub mod calls
pub mod fifo
pub mod left
pub mod CurveCalls
