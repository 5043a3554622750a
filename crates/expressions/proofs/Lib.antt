-- The lemmas that the proofs share.
pub mod Tokens
pub mod Chains
pub mod Single
pub mod Uses
pub mod Joining
pub mod Opening
