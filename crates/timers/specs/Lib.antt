pub mod Names
pub mod Timers
pub mod Calls
pub mod Runs
