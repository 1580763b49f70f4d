pub mod Challenges
pub mod Laws
pub mod Examples
