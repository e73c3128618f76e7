pub mod KeptValues
