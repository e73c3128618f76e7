pub mod Fork
pub mod WrittenFork
