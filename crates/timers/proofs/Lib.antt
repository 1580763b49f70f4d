pub mod Laws
pub mod RunsProof
