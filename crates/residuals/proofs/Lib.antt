pub mod CurveCalls
