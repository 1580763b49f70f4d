pub mod Formed
pub mod Laws
pub mod Conjuncts
pub mod Examples
