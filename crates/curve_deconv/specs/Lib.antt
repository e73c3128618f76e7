pub mod Mirrored
pub mod Marks
pub mod DeconvolutionWindows
pub mod DeconvolutionLaws
