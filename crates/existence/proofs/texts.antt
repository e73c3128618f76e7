pub mod EachTable
pub mod EachScript
pub mod EachRun
pub mod KeptTraces
