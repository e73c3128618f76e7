pub mod Fronts
pub mod Digits
pub mod TextLemmas
pub mod Counted
pub mod Agree
pub mod RunAgree
pub mod Numbers
pub mod Told
