pub mod OnScripts
pub mod ScriptCounts
pub mod Laws
