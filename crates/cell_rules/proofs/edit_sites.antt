pub mod OneSite
pub mod PutBack
