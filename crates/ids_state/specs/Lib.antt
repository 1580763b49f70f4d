pub mod Formed
pub mod Broken
pub mod Conjuncts
