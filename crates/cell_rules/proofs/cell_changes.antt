pub mod CarriedOver
pub mod OwnSlots
pub mod HasSlots
